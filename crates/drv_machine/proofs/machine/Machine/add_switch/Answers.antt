use Rattle.drv_machine.proofs.Steps.{ok_as}
use Rattle.drv_machine.proofs.WholeWords.{between_again, switch_alone, switch_with, whole_added}
use Rattle.drv_machine.proofs.machine.Machine.add_switch.Goals as goal
use Rattle.drv_machine.specs.Code.Held.{word_added}
use Rattle.drv_machine.specs.Code.Running.{Machine, reached}
use Rattle.drv_match.specs.Matching.{name_at}
use Rattle.drv_system.specs.Known.{Is}
use Rattle.drv_words.specs.Bytes.{hyphen}
use Rattle.std.proofs.Common.{◌∙◌, ◌++◌, List, [], ◌∷◌, Ok, ap, sym, ℕ}

-- Names: `n`: how many items were reached. `F`: what is known of the outside. `reached n s`: the machine s where n items were reached.
-- `word_added`: the state after a word was put whole into the command, between words. `name_at`: the name at a place.

-- the switch has no argument
pub returns-in_default : goal.returns-in_default
returns-in_default c n F =
    let C = c.args.context.now in
    let named = c.name.ensures ∙ ap (λ ns. name_at ns c.args.i) c.switches.ensures in
    let is = c.in_ok-extend_from_slice.ensures.ok ∙ ap (λ word. word ++ c.name.result.now)
    (c.in_ok-push.ensures.ok ∙ ap (λ before. before ++ hyphen ∷ []) c.empty-word.ensures) in
    switch_alone F C (reached n c.args.self.now) c.args.i c.name.result.now c.extend_from_slice.new.self c.requires.between named is
    (sym c.argument.ensures ∙ c.in_default.is) ∙ ap (λ (m : Machine). Is (Ok (tt, reached n m))) (sym c.in_ok-add_word.ensures.ok)

-- the switch has an argument, which is a word too
pub returns : goal.returns
returns c n F =
    let C = c.args.context.now in
    let s = (reached n c.args.self.now) in
    let named = c.name.ensures ∙ ap (λ ns. name_at ns c.args.i) c.switches.ensures in
    let word = c.extend_from_slice.new.self in
    let is = c.in_ok-extend_from_slice.ensures.ok ∙ ap (λ before. before ++ c.name.result.now)
    (c.in_ok-push.ensures.ok ∙ ap (λ before. before ++ hyphen ∷ []) c.empty-word.ensures) in
    let both =
    switch_with F C s c.args.i c.name.result.now word c.in-Some.argument c.requires.between named is (sym c.argument.ensures ∙ c.in-Some.is)
    ∙ whole_added F C (word_added s word) c.in-Some.argument (between_again s word)
    ∙ ap (λ (m : Machine). Is (Ok (tt, word_added (reached n m) c.in-Some.argument))) (sym c.in_ok-add_word.ensures.ok)
    ∙ ap (λ (w : List ℕ). Is (Ok (tt, word_added (reached n c.add_word.new.self) w))) (sym c.in_ok-clone.ensures.cases) in
    ok_as c.add_word-2.result (λ added. both ∙ ap (λ (m : Machine). Is (Ok (tt, reached n m))) (sym added)) c.add_word-2.ensures.ok
