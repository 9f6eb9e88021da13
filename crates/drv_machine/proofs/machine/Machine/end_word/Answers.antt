use Rattle.drv_machine.proofs.Ends.{file_ends, none_ends, plain_ends, script_ends}
use Rattle.drv_machine.proofs.Steps.{gives_as}
use Rattle.drv_machine.proofs.machine.Machine.end_word.Goals as goal
use Rattle.drv_machine.specs.Code.Held.{open_word}
use Rattle.drv_machine.specs.Code.Running.{Machine, reached}
use Rattle.drv_system.specs.Known.{Is}
use Rattle.std.proofs.Common.{Ok, Some, ap, sym, ◌∙◌}

-- Names: `n`: how many items were reached. `F`: what is known of the outside. `e`: that `F` extends the facts of this call. `reached n s`:
-- the machine s where n items were reached. `open_word`: the word that is open, if one is, of a flag and the bytes. `gives_as`: a result
-- that gives one answer gives another that is equal to it. `file_ends`: a word that is marked as a file ends as the path that was found.

-- no word is open: only its marks are dropped
pub returns-then-not-self-clause-does : goal.returns-then-not-self-clause-does
returns-then-not-self-clause-does g c n F e =
    none_ends F c.args.context.now (reached n c.args.self.now) (ap (λ (m : Machine). m.cut.word) (sym c.self.view_is)
    ∙ ap (λ b. open_word b c.self.inside.word.items) c.if-not-self.true)
    ∙ ap (λ (m : Machine). Is (Ok (tt, reached n m))) (sym c.close_word.ensures)

-- the open word ends as the path of a linker script
pub returns-then-self-clause-does : goal.returns-then-self-clause-does
returns-then-self-clause-does g c n F e =
    let is_open = ap (λ (m : Machine). m.cut.word) (sym c.self.view_is) ∙ ap (λ b. open_word b c.self.inside.word.items) c.if-not-self.false
    ∙ ap Some (sym (c.in_ok-word.ensures ∙ c.as_slice.ensures)) in
    gives_as (reached n c.finish_script.new.self) c.finish_script.result _ _
    (sym (script_ends F c.args.context.now (reached n c.args.self.now) c.in_ok-word.word is_open
    (ap (λ (m : Machine). m.cut.marks.script) (sym c.self.view_is) ∙ c.if-self.true))) (c.finish_script.ensures.does n F e)

-- the open word ends as the path of a library file
pub returns-then-self-2-clause-does : goal.returns-then-self-2-clause-does
returns-then-self-2-clause-does g c n F e =
    let is_open = ap (λ (m : Machine). m.cut.word) (sym c.self.view_is) ∙ ap (λ b. open_word b c.self.inside.word.items) c.if-not-self.false
    ∙ ap Some (sym (c.in_ok-word.ensures ∙ c.as_slice.ensures)) in
    gives_as (reached n c.finish_file.new.self) c.finish_file.result _ _
    (sym (file_ends F c.args.context.now (reached n c.args.self.now) c.in_ok-word.word is_open
    (ap (λ (m : Machine). m.cut.marks.script) (sym c.self.view_is) ∙ c.if-self.false)
    (ap (λ (m : Machine). m.cut.marks.file) (sym c.self.view_is) ∙ c.if-self-2.true))) (c.finish_file.ensures.does n F e)

-- the open word ends, as its marks say
pub returns-clause-does : goal.returns-clause-does
returns-clause-does g c n F e =
    let s = (reached n c.args.self.now) in
    let word = c.in_ok-word.word in
    let is_open = ap (λ (m : Machine). m.cut.word) (sym c.self.view_is) ∙ ap (λ b. open_word b c.self.inside.word.items) c.if-not-self.false
    ∙ ap Some (sym (c.in_ok-word.ensures ∙ c.as_slice.ensures)) in
    plain_ends F c.args.context.now s word is_open (ap (λ (m : Machine). m.cut.marks.script) (sym c.self.view_is) ∙ c.if-self.false)
    (ap (λ (m : Machine). m.cut.marks.file) (sym c.self.view_is) ∙ c.if-self-2.false)
    ∙ ap (λ (m : Machine). Is (Ok (tt, reached n m))) (sym c.in_ok-finish_word.ensures.ok)
