use Rattle.drv_plan.proofs.LastTexts.{pair_hit, pair_missed}
use Rattle.drv_plan.proofs.languages.last_place.Goals as goal
use Rattle.drv_plan.specs.Languages.{last_text}
use Rattle.drv_plan.specs.Code.Looking.{fits}
use Rattle.std.proofs.Common.{◌-◌, ◌∙◌, ap, arith, sym}

-- Names: `fits`: whether a key is that of the language, or a suffix of the name. `last_text`: the text of the last pair whose key fits.
-- `pair_hit`: going from the end.

-- the pair at hand fits, so it is the last that does
pub returns-then-fits : goal.returns-then-fits
returns-then-fits c =
    pair_hit (fits c.args.wanted) c.args.pairs.now c.loop-left.left (c.loop-left.left - 1) c.index-pairs-left.result c.as_bytes.result.now
    c.fits.result (last_text (fits c.args.wanted) c.args.pairs.now)
    (omega (arith, c.loop-left-test.true)) (omega (arith, c.loop-left-test.true, c.loop-left.invariant.within)) c.index-pairs-left.is
    (c.as_bytes.ensures ∙ ap (λ pair. pair.0) (sym c.index-pairs-left.is)) c.fits.ensures c.if-fits.true c.loop-left.invariant.rest

-- the pair at hand doesn't fit, so the earlier ones decide
pub loop-left-preserved : goal.loop-left-preserved
loop-left-preserved c = record {
  within = omega (arith, c.loop-left.invariant.within);
  rest =
      pair_missed (fits c.args.wanted) c.args.pairs.now c.loop-left.left (c.loop-left.left - 1) c.index-pairs-left.result
      c.as_bytes.result.now c.fits.result (last_text (fits c.args.wanted) c.args.pairs.now)
      (omega (arith, c.loop-left-test.true)) (omega (arith, c.loop-left-test.true, c.loop-left.invariant.within)) c.index-pairs-left.is
      (c.as_bytes.ensures ∙ ap (λ pair. pair.0) (sym c.index-pairs-left.is)) c.fits.ensures c.if-fits.false c.loop-left.invariant.rest;
}
