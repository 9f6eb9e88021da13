use Rattle.drv_compile.specs.Compilers.{values}
use Rattle.drv_compile.specs.declared.host.HostEvent.TheVariants.{Stamped}
use Rattle.drv_compile.specs.declared.host.HostEvent.{HostEvent}
use Rattle.drv_compile.specs.declared.preparing.Prepared.{Prepared}
use Rattle.drv_words.specs.Bytes.{space}
use Rattle.drv_words.specs.FileNames.{split_at_last}
use Rattle.std.specs.Cmp.Lexicographic.{pointwise}
use Rattle.std.specs.Prelude.{◌≡◌, Bool, List, [], ◌∷◌, ◌++◌, None, Some, codes, false, nat_eq, not, true, ℕ}

-- Whether the compiler of a spec file is as it was when that was written (this project's profile). A line `stamp PATH STAMP` of the file
-- beside it has the stamp of a file then: its size and the time of its last change, or a minus where it was missing.
-- For clauses of src/stamps.rt and src/preparing.rt.

-- whether a file has another stamp by now, as the host says; of a line without a path it is asked nothing
pub data IsOther (line : List ℕ) : List HostEvent → Bool → Type 0 where
  pathless : split_at_last space line ≡ None → IsOther line [] false
  stamped : {path stamp found : List ℕ} → split_at_last space line ≡ Some (path, stamp)
      → IsOther line (Stamped path found ∷ []) (not (pointwise nat_eq found stamp))

-- whether any file has: the host is asked up to the first
pub data AnyOther : List (List ℕ) → List HostEvent → Bool → Type 0 where
  no_other : AnyOther [] [] false
  this_other : {line : List ℕ} {lines : List (List ℕ)} {events : List HostEvent} → IsOther line events true
      → AnyOther (line ∷ lines) events true
  later_other : {line : List ℕ} {lines : List (List ℕ)} {events more : List HostEvent} {other : Bool} → IsOther line events false
      → AnyOther lines more other → AnyOther (line ∷ lines) (events ++ more) other

-- whether a file of the compiler that a text is about is another by now
abbrev pub IsStale : List ℕ → List HostEvent → Bool → Type 0
IsStale about events stale = AnyOther (values (codes "stamp ") about) events stale

-- what a call does then: it says its hint first, and not again
abbrev pub warned : Bool → Prepared → Prepared
warned false prepared = prepared
warned true prepared = record prepared { said = prepared.hint ++ prepared.said; hint = [] }
