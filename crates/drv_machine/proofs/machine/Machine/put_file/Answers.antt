use Rattle.drv_machine.proofs.Cutter.{put_failed, put_last, whole_failed, whole_last}
use Rattle.drv_machine.proofs.Files.{file_drawn, none_filed, not_drawn}
use Rattle.drv_machine.proofs.machine.Machine.put_file.Goals as goal
use Rattle.drv_machine.specs.Code.Running.{reached}
use Rattle.drv_machine.specs.Working.{Break, Put}
use Rattle.drv_system.proofs.AskedCalls.{asked_further, extends_before}
use Rattle.drv_words.specs.Bytes.{at_sign}
use Rattle.std.proofs.Common.{[], map, refl, rules, sym, ◌++◌, ◌∙◌, ◌∷◌}

-- Names: `n`: how many items were reached. `F`: what is known of the outside. `e`: that `F` extends the facts of this call. `reached n s`:
-- the machine s where n items were reached. `file_drawn`: after the name was drawn, its word is put. `put_failed`: where the first part of
-- a list is refused, the whole is. `put_last`: where the first part was put, what putting the second gives is what the whole gives.
-- `whole`: that putting the drawn name is the whole step.

-- a file without words has no name
pub returns-then-is_empty-clause-does : goal.returns-then-is_empty-clause-does
returns-then-is_empty-clause-does g c n F e = none_filed F c.args.context.now (reached n c.args.self.now) c.args.words.now
    (sym c.if-is_empty.true ∙ c.is_empty.ensures)

-- no name can be drawn for the file
pub returns-in_err-path-clause-does : goal.returns-in_err-path-clause-does
returns-in_err-path-clause-does g c n F e =
    let failed = not_drawn F c.args.context.now (reached n c.args.self.now) c.args.words.now
    (sym c.if-is_empty.false ∙ c.is_empty.ensures) c.in_ok-contents.contents c.in_ok-contents.ensures.text c.in_err-path.field-0.0
    (c.in_err-path.ensures.does n F e) in
    let handed = c.from_residual-in_err-path.ensures in search rules

-- no memory for the @ of the name
pub returns-in_err-put-clause-does : goal.returns-in_err-put-clause-does
returns-in_err-put-clause-does g c n F e =
    let whole = file_drawn F c.args.context.now (reached n c.args.self.now) c.args.words.now
    (sym c.if-is_empty.false ∙ c.is_empty.ensures) c.in_ok-contents.contents c.in_ok-contents.ensures.text c.in_ok-path.path
    c.in_ok-path.path (reached n c.draw_with.new.self) refl (c.in_ok-path.ensures.does n F e) in
    let failed = whole_failed F c.args.context.now c.in_err-put.field-0.0 whole
    (put_failed F c.args.context.now (reached n c.draw_with.new.self) (Put at_sign ∷ [])
    (map Put c.in_ok-path.path ++ Break ∷ []) c.in_err-put.field-0.0 (c.in_err-put.ensures n F c.args.context.now)) in
    let handed = c.from_residual-in_err-put.ensures in search rules

-- the file's name is put, with an @ before it
pub returns-clause-does : goal.returns-clause-does
returns-clause-does g c n F e =
    let whole = file_drawn F c.args.context.now (reached n c.args.self.now) c.args.words.now
    (sym c.if-is_empty.false ∙ c.is_empty.ensures) c.in_ok-contents.contents c.in_ok-contents.ensures.text c.in_ok-path.path
    c.as_bytes.result.now (reached n c.draw_with.new.self) c.as_bytes.ensures
    (c.in_ok-path.ensures.does n F (extends_before c.put_broken.ensures.asks e)) in
    whole_last F c.args.context.now (reached n c.put_broken.new.self) c.put_broken.result whole
    (put_last F c.args.context.now (reached n c.draw_with.new.self) (reached n c.put.new.self) (reached n c.put_broken.new.self)
    (Put at_sign ∷ []) (map Put c.as_bytes.result.now ++ Break ∷ []) c.put_broken.result (c.in_ok-put.ensures n F c.args.context.now)
    (c.put_broken.ensures.does n F e))

-- what was asked, where there is no memory for the @
pub returns-in_err-put-clause-asks : goal.returns-in_err-put-clause-asks
returns-in_err-put-clause-asks g c = c.draw_with.ensures.asks

-- what was asked for the name and for its word
pub returns-clause-asks : goal.returns-clause-asks
returns-clause-asks g c = asked_further c.draw_with.ensures.asks c.put_broken.ensures.asks
