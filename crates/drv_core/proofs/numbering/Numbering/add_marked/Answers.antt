use Rattle.drv_core.proofs.Notes.{noting_all, noting_next, noting_starts}
use Rattle.drv_core.proofs.numbering.Numbering.add_marked.Goals as goal
use Rattle.drv_core.specs.Windowed.{marked_files}
use Rattle.drv_words.specs.declared.steps.Place.TheVariants as place
use Rattle.std.proofs.Common.{[], ◌∷◌, refl}

-- Names: `place`, `path`: the fields of `File` (specs/Outcomes). `marked_files`: the marked files of job k, from number i on. `noting_all`:
-- after the last item all its files are noted.

-- before the first one no file is added, and all are left
pub loop-index-init : goal.loop-index-init
loop-index-init c before h = noting_starts before (marked_files c.args.number 0 c.as_slice-path-items.result.now) _ _ h

-- one more is added, and no longer left
pub loop-index-preserved : goal.loop-index-preserved
loop-index-preserved c before h = noting_next (marked_files c.args.number) (λ i p. record { place = place.Marked c.args.number i; path = p }
    ∷ []) _ c.as_slice-path-items.result.now c.loop-index.index c.path-item.result _ _ _ _ (λ rest. refl) c.path-item.is
    c.loop-index-test.true (c.loop-index.invariant before h) c.in_ok-add_file.ensures

-- after the last one all are added
pub returns : goal.returns
returns c before h = noting_all (marked_files c.args.number) before c.as_slice-path-items.result.now _ c.loop-index.index _ _ refl
    c.loop-index-test.false c.as_slice-path-items.ensures (c.loop-index.invariant before h)
