use Rattle.drv_machine.proofs.Cutter.{put_failed, put_last, put_then, whole_failed, whole_last}
use Rattle.drv_machine.proofs.EmitSteps.{switch_is}
use Rattle.drv_machine.proofs.machine.Machine.put_switch.Goals as goal
use Rattle.drv_machine.specs.Context.{argument, names}
use Rattle.drv_machine.specs.Code.Running.{reached, run}
use Rattle.drv_machine.specs.Working.{Break, Put, puts, word_of}
use Rattle.drv_match.specs.Matching.{name_at}
use Rattle.drv_words.specs.Bytes.{hyphen}
use Rattle.std.proofs.Common.{◌++◌, ◌∙◌, [], ◌∷◌, ap, map, refl, rules, sym}

-- Names: `n`: how many items were reached. `F`: what is known of the outside. `e`: that `F` extends the facts of this call. `reached n s`:
-- the machine s where n items were reached. `argument`: the argument of the switch at a place, if it has one. `word_of`: the atoms of a
-- word, if there is one. `name_at`: the name at a place.

-- no memory for the hyphen
pub returns-in_err-put-clause-does : goal.returns-in_err-put-clause-does
returns-in_err-put-clause-does g c n F e =
    let C = c.args.context.now in
    let failed = put_failed F C (reached n c.args.self.now) (Put hyphen ∷ [])
    (map Put (name_at (names C) c.args.i) ++ Break ∷ word_of (argument C c.args.i)) c.in_err-put.field-0.0 (c.in_err-put.ensures n F C) in
    let handed = c.from_residual-in_err-put.ensures in search rules

-- no memory for the switch's name
pub returns-in_err-put-2-clause-does : goal.returns-in_err-put-2-clause-does
returns-in_err-put-2-clause-does g c n F e =
    let C = c.args.context.now in
    let is = switch_is F C c.name.result.now (argument C c.args.i) c.args.i
    (c.name.ensures ∙ ap (λ ns. name_at ns c.args.i) c.switches.ensures) refl in
    let whole = put_then F C (reached n c.args.self.now) (reached n c.put.new.self) (Put hyphen ∷ [])
    (map Put c.name.result.now ++ Break ∷ word_of (argument C c.args.i)) (c.in_ok-put.ensures n F C) in
    let failed = whole_failed F C c.in_err-put-2.field-0.0 (sym whole ∙ ap (λ list. run F C (reached n c.args.self.now) (puts list)) is)
    (put_failed F C (reached n c.put.new.self) (map Put c.name.result.now) (Break ∷ word_of (argument C c.args.i)) c.in_err-put-2.field-0.0
    (c.in_err-put-2.ensures n F C)) in
    let handed = c.from_residual-in_err-put-2.ensures in search rules

-- the switch is put byte by byte, and then its argument
pub returns-clause-does : goal.returns-clause-does
returns-clause-does g c n F e =
    let C = c.args.context.now in
    let is = switch_is F C c.name.result.now (argument C c.args.i) c.args.i
    (c.name.ensures ∙ ap (λ ns. name_at ns c.args.i) c.switches.ensures) refl in
    whole_last F C (reached n c.put_argument.new.self) c.put_argument.result (ap (λ list. run F C (reached n c.args.self.now) (puts list))
    is) (put_last F C (reached n c.args.self.now) (reached n c.put.new.self) (reached n c.put_argument.new.self) (Put hyphen ∷ [])
    (map Put c.name.result.now ++ Break ∷ word_of (argument C c.args.i)) c.put_argument.result (c.in_ok-put.ensures n F C)
    (put_last F C (reached n c.put.new.self) (reached n c.put-2.new.self) (reached n c.put_argument.new.self) (map Put c.name.result.now)
    (Break ∷ word_of (argument C c.args.i)) c.put_argument.result (c.in_ok-put-2.ensures n F C) (c.put_argument.ensures.does n F e)))
