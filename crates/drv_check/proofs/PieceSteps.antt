use Rattle.drv_check.specs.Checks.{changed, faulty, opened, put_aside, spot_in, step, stepped}
use Rattle.drv_check.specs.Includes.{inclusion_in}
use Rattle.drv_check.specs.Points.{front_length}
use Rattle.drv_check.specs.declared.findings.Checking.{Checking}
use Rattle.drv_check.specs.declared.findings.Spot.{Spot}
use Rattle.drv_check.specs.declared.opening.Inclusion.{Inclusion}
use Rattle.drv_check.specs.declared.opening.OpenFile.{OpenFile}
use Rattle.drv_check.specs.declared.pieces.Piece.{Piece}
use Rattle.drv_search.specs.declared.prefixes.Prefixes.{Prefixes}
use Rattle.drv_specs.specs.Blanks.{is_blank}
use Rattle.drv_specs.specs.Loading.{loaded}
use Rattle.drv_specs.specs.Sets.{Set}
use Rattle.drv_specs.specs.declared.fault.SpecsFault.{SpecsFault}
use Rattle.drv_system.specs.Facts.{Facts}
use Rattle.drv_system.specs.Known.{Is, Known}
use Rattle.std.proofs.Common.{◌≡◌, ◌∙◌, Err, IfOk, None, Ok, Option, Result, Some, ap, sym, ℕ}

-- For check_files (src/checking.rt): a piece changes the set, adds its fault, or opens a file.
-- Names: `F` is what is known of the outside. `prefixes` is where files are searched for. `levels` is how deep files may still be within
-- one another. `c` is the check before the piece, `d` after its warnings, and `new` after it. `file` is the open file, and `piece` its
-- piece. `known` is what the driver makes of the piece. `inclusion` is the file that it includes, and `spot` where. `fault` is a refusal.
-- `result` is what the code's call gives. `changed` and `step` are a check after a piece (specs/Checks).

-- Where the driver changes the set, so does the check.
pub changes : (c : Checking) (file : OpenFile) (piece : Piece) (known : Known (Result Set SpecsFault)) (set : Set)
    → known ≡ Is (Ok set) → changed c file piece known ≡ Is (record c { set = set })
changes c file piece known set is = ap (changed c file piece) is

-- Where the driver refuses, the check adds the fault.
pub faults : {E X : Type 0} (c d new : Checking) (file : OpenFile) (piece : Piece) (known : Known (Result Set SpecsFault))
    (fault : SpecsFault)
    (result : Result X E) → known ≡ Is (Err fault) → d ≡ c → IfOk result (λ _. new ≡ faulty d file piece fault)
    → IfOk result (λ _. changed c file piece known ≡ Is new)
faults c d new file piece known fault (Err e) is same adds = adds
faults c d new file piece known fault (Ok done) is same adds =
    ap (changed c file piece) is ∙ ap (λ x. Is (faulty x file piece fault)) (sym same) ∙ ap Is (sym adds)

module _ (F : Facts) (prefixes : Prefixes) (levels : ℕ) (c : Checking) (file : OpenFile) (piece : Piece) where
  -- A piece that includes a file opens it, at the spot of its first byte that is no blank.
  pub steps_in : {E : Type 0} (inclusion : Inclusion) (spot : Spot) (new : Checking) (result : Result (Option OpenFile) E)
      → Some inclusion ≡ inclusion_in piece.text → Some spot ≡ spot_in file piece (front_length is_blank piece.text)
      → IfOk result (λ next. opened F prefixes levels c (Some spot) inclusion ≡ Is (new, next))
      → IfOk result (λ next. step F prefixes levels c file piece ≡ Is (new, next))
  steps_in inclusion spot new (Err e) is at goes = goes
  steps_in inclusion spot new (Ok next) is at goes =
      ap (stepped F prefixes levels c file piece) (sym is) ∙ ap (λ s. opened F prefixes levels c s inclusion) (sym at) ∙ goes

  -- Another piece changes the set and opens nothing.
  pub steps_on : (d new : Checking) → None ≡ inclusion_in piece.text → d ≡ c
      → changed d file piece (loaded F prefixes d.set piece.text) ≡ Is new → step F prefixes levels c file piece ≡ Is (new, None)
  steps_on d new is same goes =
      ap (stepped F prefixes levels c file piece) (sym is)
      ∙ ap (λ x. put_aside (changed x file piece (loaded F prefixes x.set piece.text))) (sym same) ∙ ap put_aside goes
