use Rattle.drv_core.proofs.Notes.{noting_all, noting_next, noting_starts}
use Rattle.drv_core.proofs.numbering.Numbering.add_temps.Goals as goal
use Rattle.drv_core.specs.Windowed.{temp_files}
use Rattle.drv_words.specs.declared.steps.Place.TheVariants as place
use Rattle.std.proofs.Common.{[], ◌∷◌, refl}

-- Names: `place`, `path`: the fields of `File` (specs/Outcomes). `temp_files`: the temporaries of job k, from number i on. `noting_all`:
-- after the last item all its files are noted.

-- before the first one no file is added, and all are left
pub loop-index-init : goal.loop-index-init
loop-index-init c before h = noting_starts before (temp_files c.args.number 0 c.as_slice-temp-items.result.now) _ _ h

-- one more is added, and no longer left
pub loop-index-preserved : goal.loop-index-preserved
loop-index-preserved c before h = noting_next (temp_files c.args.number)
    (λ i t. record { place = place.Temp c.args.number i; path = t.path } ∷ []) _ c.as_slice-temp-items.result.now c.loop-index.index
    c.temp-item.result _ _ _ _ (λ rest. refl) c.temp-item.is c.loop-index-test.true (c.loop-index.invariant before h)
    c.in_ok-add_file.ensures

-- after the last one all are added
pub returns : goal.returns
returns c before h = noting_all (temp_files c.args.number) before c.as_slice-temp-items.result.now _ c.loop-index.index _ _ refl
    c.loop-index-test.false c.as_slice-temp-items.ensures (c.loop-index.invariant before h)
