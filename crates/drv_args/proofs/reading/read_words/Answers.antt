use Rattle.drv_args.proofs.LineSteps.{first_line}
use Rattle.drv_args.proofs.reading.read_words.Goals as goal
use Rattle.drv_args.specs.Code.Building.{line_with}
use Rattle.drv_args.specs.Fronts.{items_of}
use Rattle.drv_args.specs.Lines.{line_of_items}
use Rattle.std.proofs.Common.{◌≡◌, ◌∙◌, ap, rules, sym}

-- Names: `items_of`: the items of the words. `line_with`: the line with the result of the rest of the words. `first_line`: before the first
-- item the line of all items is still to be built.

-- a refusal of the words is that of the line
pub returns-in_err-note_words : goal.returns-in_err-note_words
returns-in_err-note_words c =
    let e : line_with c.in_ok-builder.builder (items_of c.as_slice.result.now)
    ≡ line_of_items c.args.expanded.now.from_file (items_of c.args.expanded.now.words) =
    ap (λ words. line_with c.in_ok-builder.builder (items_of words)) c.as_slice.ensures
    ∙ ap (λ b. line_with b (items_of c.args.expanded.now.words)) c.in_ok-builder.ensures
    ∙ first_line c.args.expanded.now.from_file (items_of c.args.expanded.now.words) in
    rw (← e) (search rules)

pub returns : goal.returns
returns c =
    sym (first_line c.args.expanded.now.from_file (items_of c.args.expanded.now.words))
    ∙ ap (λ b. line_with b (items_of c.args.expanded.now.words)) (sym c.in_ok-builder.ensures)
    ∙ ap (λ words. line_with c.in_ok-builder.builder (items_of words)) (sym c.as_slice.ensures) ∙ c.in_ok-note_words.ensures
