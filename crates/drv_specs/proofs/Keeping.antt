use Rattle.drv_search.specs.declared.prefixes.Prefixes.{Prefixes}
use Rattle.drv_specs.proofs.Changes.{name_keeps, pair_keeps, text_keeps}
use Rattle.drv_specs.proofs.GoodBodies.{IsGood, directives_good}
use Rattle.drv_specs.specs.Directives.{Bad, Directive, Include, Pair, Rename, Text, directives_of, read_settled}
use Rattle.drv_specs.specs.Code.Slices.{IsSettled}
use Rattle.drv_specs.specs.Kept.{Each, Kept}
use Rattle.drv_specs.specs.Loading.{Carried, Including, all_carried, carried, changed, file_carried, file_loaded, file_text, including}
use Rattle.drv_specs.specs.Loading.{loaded, most_files, set_in, then_by, worked}
use Rattle.drv_specs.specs.Sets.{Set, with_name, with_pair_body, with_text}
use Rattle.drv_specs.specs.declared.directive.IfMissing.TheVariants.{Refuse}
use Rattle.drv_specs.specs.declared.directive.IfMissing.{IfMissing}
use Rattle.drv_specs.specs.declared.fault.SpecsFault.TheVariants.{Memory}
use Rattle.drv_specs.specs.declared.fault.SpecsFault.{SpecsFault}
use Rattle.drv_system.specs.Facts.{Facts}
use Rattle.drv_system.specs.Gives.{GivesKnown}
use Rattle.drv_system.specs.Known.{Is, Known, Unasked}
use Rattle.std.proofs.Common.{◌≡◌, Err, List, [], ◌∷◌, None, Ok, Option, Result, Some, refl, subst, suc, zero, ℕ, ap, sym, ◌∙◌}
use Rattle.std.specs.Prelude.{IfNone, OnErr}

-- For loading_keeps: loading a text or a file keeps the invariant of a set (`Kept`), whatever files it includes.
-- Names: `set` is the set before. `set'` is the set after. `files` is how many files may still be read. `name` is the name of a text. `inc`
-- says what an included file does to a set. `c` is the set, and how many files may still be read, before. `c'` is the same after.
-- `Kept set` is the invariant of every set. `including` is what an included file does. `all_carried` carries out directives in order.

-- how a file is included keeps the invariant
abbrev pub Keeps : Including → Type 0
Keeps inc = (c : Carried) (missing : IfMissing) (name : List ℕ) (c' : Carried) → inc c missing name ≡ Is (Ok c') → Kept c.set → Kept c'.set

-- a change of the set that keeps the invariant, as a directive
changed_keeps : (set : Set) (files : ℕ) (given : Result Set SpecsFault) (c' : Carried) → changed files given ≡ Is (Ok c')
    → ((set' : Set) → given ≡ Ok set' → Kept set') → Kept c'.set
changed_keeps set files (Ok set') c' is kept = let same : set' ≡ c'.set = cc in subst Kept same (kept set' refl)
changed_keeps set files (Err fault) c' is kept = absurd cc

-- one good directive keeps the invariant
carried_keeps : (inc : Including) → Keeps inc → (c : Carried) (directive : Directive) (c' : Carried) → IsGood directive
    → carried inc c directive ≡ Is (Ok c') → Kept c.set → Kept c'.set
carried_keeps inc keeps c (Text name body) c' good is kept =
    changed_keeps c.set c.files (with_text c.set name body) c' is (λ set' is'. text_keeps c.set name body set' good is' kept)
carried_keeps inc keeps c (Pair key body) c' good is kept =
    changed_keeps c.set c.files (with_pair_body c.set key body) c' is (λ set' is'. pair_keeps c.set key body set' good.0 good.1 is' kept)
carried_keeps inc keeps c (Rename old new) c' good is kept =
    changed_keeps c.set c.files (with_name c.set old new) c' is (λ set' is'. name_keeps c.set old new set' is' kept)
carried_keeps inc keeps c (Include missing name) c' good is kept = keeps c missing name c' is kept
carried_keeps inc keeps c (Bad n) c' good is kept = absurd cc

-- good directives keep the invariant
all_keep : (inc : Including) → Keeps inc → (directives : List Directive) (c c' : Carried) → Each IsGood directives
    → all_carried inc c directives ≡ Is (Ok c') → Kept c.set → Kept c'.set
all_keep inc keeps [] c c' good is kept = let same : c ≡ c' = cc in subst (λ (d : Carried). Kept d.set) same kept
all_keep inc keeps (directive ∷ directives) c c' good is kept =
    by (carried inc c directive) refl is (λ d. all_keep inc keeps directives d c' good.1)
  where
    -- Plan: `by` goes by what the first directive gives: nothing known, a refusal, or a set.
    by : (given : Known (Result Carried SpecsFault)) → carried inc c directive ≡ given
        → then_by given (λ d. all_carried inc d directives) ≡ Is (Ok c')
        → ((d : Carried) → all_carried inc d directives ≡ Is (Ok c') → Kept d.set → Kept c'.set) → Kept c'.set
    by Unasked given is' later = absurd cc
    by (Is (Err fault)) given is' later = absurd cc
    by (Is (Ok d)) given is' later = later d is' (carried_keeps inc keeps c directive d good.0 given kept)

-- for any answers, and any folders to search
module _ (F : Facts) (prefixes : Prefixes) where
  -- the directives of an included file keep the invariant
  file_keeps : (inc : Including) → Keeps inc → (set : Set) (files : ℕ) (missing : IfMissing) (name : List ℕ) (c' : Carried)
      → file_carried F prefixes inc set files missing name ≡ Is (Ok c') → Kept set → Kept c'.set
  file_keeps inc keeps set zero missing name c' is kept = absurd cc
  file_keeps inc keeps set (suc left) missing name c' is kept = by (file_text F prefixes missing name) is
    where
      -- Plan: `by` goes by what the file gives: nothing known, a refusal, or its text.
      by : (given : Known (Result (List ℕ) SpecsFault)) → then_by given
          (λ text. all_carried inc (record { set = set; files = left }) (directives_of text)) ≡ Is (Ok c') → Kept c'.set
      by Unasked is' = absurd cc
      by (Is (Err fault)) is' = absurd cc
      by (Is (Ok text)) is' = all_keep inc keeps (directives_of text) (record { set = set; files = left }) c'
          (directives_good text) is' kept

  -- each %include keeps the invariant, as deep as it may be
  including_keeps : (levels : ℕ) → Keeps (including F prefixes levels)
  unfolding including
  including_keeps zero c missing name c' is kept = absurd cc
  including_keeps (suc levels) c missing name c' is kept =
      file_keeps (including F prefixes levels) (including_keeps levels) c.set c.files missing name c' is kept

  -- the set that the directives give has the invariant
  set_by : (given : Known (Result Carried SpecsFault)) (set' : Set) → then_by given set_in ≡ Is (Ok set')
      → ((c : Carried) → given ≡ Is (Ok c) → Kept c.set) → Kept set'
  set_by Unasked set' is kept = absurd cc
  set_by (Is (Err fault)) set' is kept = absurd cc
  set_by (Is (Ok c)) set' is kept = let same : c.set ≡ set' = cc in subst Kept same (kept c refl)

  -- a text that was carried out keeps the invariant
  pub worked_keeps : (set set' : Set) (files : ℕ) (text : List ℕ) → Kept set
      → worked F prefixes set files (directives_of text) ≡ Is (Ok set') → Kept set'
  worked_keeps set set' files text kept is =
      set_by (all_carried (including F prefixes 15) (record { set = set; files = files }) (directives_of text)) set' is
      (λ c given. all_keep (including F prefixes 15) (including_keeps 15) (directives_of text) (record { set = set; files = files }) c
      (directives_good text) given kept)

  -- a settled text that was carried out keeps the invariant
  pub settled_keeps : (set set' : Set) (files : ℕ) (left : List ℕ) → IsSettled left → Kept set
      → worked F prefixes set files (read_settled left) ≡ Is (Ok set') → Kept set'
  settled_keeps set set' files left settled kept is =
      worked_keeps set set' files settled.0 kept (ap (λ l. worked F prefixes set files (read_settled l)) (sym settled.1) ∙ is)

  -- and so does one that was carried out alone, which is refused without a change
  pub alone_keeps : {X : Type 0} (set set' : Set) (files : ℕ) (left : List ℕ) → IsSettled left → Kept set → (done : Result X SpecsFault)
      → GivesKnown Memory (λ x. set') done (worked F prefixes set files (read_settled left)) → OnErr done (set' ≡ set) → Kept set'
  alone_keeps set set' files left settled kept (Ok x) gives same = settled_keeps set set' files left settled kept gives
  alone_keeps set set' files left settled kept (Err e) gives same = subst Kept (sym same) kept

  -- a text that is loaded keeps the invariant
  pub loaded_keeps : (set set' : Set) (text : List ℕ) → Kept set → loaded F prefixes set text ≡ Is (Ok set') → Kept set'
  unfolding loaded
  loaded_keeps set set' text kept is = worked_keeps set set' most_files text kept is

  -- a file that is loaded keeps the invariant
  pub file_loaded_keeps : (set set' : Set) (name : List ℕ) → Kept set → file_loaded F prefixes set name ≡ Is (Ok set') → Kept set'
  unfolding file_loaded
  file_loaded_keeps set set' name kept is =
      set_by (including F prefixes 16 (record { set = set; files = most_files }) Refuse name) set' is
      (λ c given. including_keeps 16 (record { set = set; files = most_files }) Refuse name c given kept)

-- a set of which nothing was carried out is as it was
pub same_alone : {X : Type 0} (result : Option X) (set set' : Set) → ((x : X) → result ≡ Some x → ⊥) → IfNone result (set' ≡ set)
    → Kept set → Kept set'
same_alone None set set' none same kept = subst Kept (sym same) kept
same_alone (Some x) set set' none same kept = absurd (none x refl)
