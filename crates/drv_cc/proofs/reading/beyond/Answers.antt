use Rattle.drv_cc.proofs.Again.{none_named}
use Rattle.drv_cc.proofs.reading.beyond.Goals as goal
use Rattle.std.proofs.Common.{◌∙◌, sym}

-- Without names, a word that turns no warning off is unknown.
pub returns-then-not-is_off : goal.returns-then-not-is_off
returns-then-not-is_off c =
    none_named c.args.known.now c.args.word.now c.args.name.now c.is_off.result c.plain.result
    (sym c.is_empty.ensures ∙ c.if-is_empty.true)
    (sym c.is_empty-then-is_empty.ensures ∙ c.if-not-is_empty.true)
    c.is_off.ensures
    c.if-not-is_off.true
    c.plain.ensures
