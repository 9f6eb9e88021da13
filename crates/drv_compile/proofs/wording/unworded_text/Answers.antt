use Rattle.drv_compile.proofs.wording.unworded_text.Goals as goal
use Rattle.drv_compile.specs.Texts.{adding, error_line, quoted}
use Rattle.std.proofs.Common.{◌≡◌, ◌∙◌, ◌++◌, List, ap, append_assoc, codes, ℕ}

lined : (name text more : List ℕ) → (((name ++ codes ": error: ") ++ text) ++ more) ++ codes "\n" ≡ error_line name (text ++ more)
lined name text more = ap (λ line. line ++ codes "\n") (append_assoc (name ++ codes ": error: ") text more)

-- The texts were added one after another; `lined` adds them together as one line.
pub returns : goal.returns
returns c =
    let text = quoted (codes "the words for '") c.args.options.now (codes "' are not known; ") in
    let more = adding c.args.specs.now c.args.options.now in
    c.in_ok-push.ensures.ok
    ∙ ap (λ line. line ++ codes "\n") c.in_ok-add_adding.ensures
    ∙ ap (λ line. (line ++ more) ++ codes "\n") c.in_ok-add.ensures
    ∙ ap (λ line. ((line ++ text) ++ more) ++ codes "\n") c.in_ok-extend_from_slice.ensures.ok
    ∙ ap (λ line. (((line ++ codes ": error: ") ++ text) ++ more) ++ codes "\n") c.in_ok-line.ensures
    ∙ lined c.args.name.now text more
