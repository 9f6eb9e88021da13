use Rattle.drv_check.specs.Checks.{Enters, Limit, all_called, called, entered, enters_at, file_checked, opened, pieces_checked, step}
use Rattle.drv_check.specs.declared.findings.Checking.{Checking}
use Rattle.drv_check.specs.declared.opening.OpenFile.{OpenFile}
use Rattle.drv_check.specs.declared.pieces.Piece.{Piece}
use Rattle.drv_search.specs.declared.prefixes.Prefixes.{Prefixes}
use Rattle.drv_specs.specs.Loading.{most_files, most_levels}
use Rattle.drv_specs.specs.declared.directive.IfMissing.TheVariants.{Refuse}
use Rattle.drv_system.specs.Facts.{Facts}
use Rattle.drv_system.specs.Known.{◌>>=◌, Is, Known}
use Rattle.std.proofs.Common.{◌≡◌, ◌∙◌, ◌∷◌, ◌<◌, ◌+◌, ◌-◌, Err, IfOk, IfSome, List, None, Ok, Option, Result, Some, [], ap, arith, drop}
use Rattle.std.proofs.Common.{false, if◌then◌else◌, length, refl, subst, suc, sym, true, zero, ℕ}
use Rattle.std.proofs.lemmas.List.{drop_more}
use Rattle.std.specs.Prelude.{get_or}

-- For check_files (src/checking.rt): pieces and files are checked one after another.
-- Names: `F` is what is known of the outside. `prefixes` is where files are searched for. `levels` is how deep files may still be within
-- one another. `enters` is how an open file is checked. `c` is the check before a step, `new` or `d` after the file or piece is opened, and
-- `after` after what it opened was checked. `file` is the open file, `piece` the one at place `n` of its `pieces`, and `next` the file that
-- it opens, if it does. `items` is these pieces as the code holds them. `inner` is that file. `name` is a file of the call. `whole` is the
-- end of the check. `result` is what the code's call gives. `limit` says whether a check ends. `step`, `entered`, `pieces_checked`,
-- `file_checked` and `called` are the steps of a check (specs/Checks).

module _ (F : Facts) (prefixes : Prefixes) (limit : Limit) where
  -- what a file of so many levels enters
  entering : (levels : ℕ) → 0 < levels → enters_at F prefixes limit levels ≡ file_checked F prefixes limit (levels - 1)
  entering zero some = absurd (omega (arith, some))
  entering (suc levels) some =
      let less : levels ≡ suc levels - 1 = omega arith in
      ap (file_checked F prefixes limit) less

  -- A file's pieces are checked as the file is, however deep it is nested.
  pub begins : (levels : ℕ) (c : Checking) (file : OpenFile)
      → pieces_checked F prefixes limit levels (enters_at F prefixes limit levels) c file file.pieces
      ≡ file_checked F prefixes limit levels c file
  unfolding file_checked
  begins zero c file = refl
  begins (suc levels) c file = refl

  -- after its end nothing more is checked
  pub pieces_kept : (levels : ℕ) (enters : Enters) (c : Checking) (file : OpenFile) (pieces : List Piece) → limit c ≡ true
      → pieces_checked F prefixes limit levels enters c file pieces ≡ Is c
  pieces_kept levels enters c file [] refused = refl
  pieces_kept levels enters c file (piece ∷ pieces) refused =
      ap (λ t. if t then Is c
      else (step F prefixes levels c file piece >>= λ next. entered enters next.0 next.1
      >>= λ c'. pieces_checked F prefixes limit levels enters c' file pieces)) refused

  -- After the end the files of the call that are left change nothing.
  pub names_kept : (c : Checking) (names : List (List ℕ)) → limit c ≡ true → all_called F prefixes limit c names ≡ Is c
  names_kept c [] refused = refl
  names_kept c (name ∷ names) refused =
      ap (λ t. if t then Is c else (called F prefixes limit c name >>= λ c'. all_called F prefixes limit c' names)) refused

  -- before it the next is checked
  pub pieces_next : (levels : ℕ) (enters : Enters) (c : Checking) (file : OpenFile) (piece : Piece) (pieces : List Piece)
      → limit c ≡ false
      → pieces_checked F prefixes limit levels enters c file (piece ∷ pieces)
      ≡ (step F prefixes levels c file piece >>= λ next. entered enters next.0 next.1
      >>= λ c'. pieces_checked F prefixes limit levels enters c' file pieces)
  pieces_next levels enters c file piece pieces goes =
      ap (λ t. if t then Is c
      else (step F prefixes levels c file piece >>= λ next. entered enters next.0 next.1
      >>= λ c'. pieces_checked F prefixes limit levels enters c' file pieces)) goes

  -- Before it, the next file of the call is checked, and then the rest.
  pub names_next : (c : Checking) (name : List ℕ) (names : List (List ℕ)) → limit c ≡ false
      → all_called F prefixes limit c (name ∷ names) ≡ (called F prefixes limit c name >>= λ c'. all_called F prefixes limit c' names)
  names_next c name names goes =
      ap (λ t. if t then Is c else (called F prefixes limit c name >>= λ c'. all_called F prefixes limit c' names)) goes

  module _ (levels : ℕ) (enters : Enters) (c : Checking) (file : OpenFile) (pieces : List Piece) (n : ℕ) (piece : Piece) where
    -- Before its end the check of the pieces from n on is the step of piece n, with the file that it opens, and then the check of those
    -- behind it.
    one : n < length pieces → piece ≡ get_or pieces n piece → limit c ≡ false
        → pieces_checked F prefixes limit levels enters c file (drop n pieces)
        ≡ (step F prefixes levels c file piece >>= λ next. entered enters next.0 next.1
        >>= λ c'. pieces_checked F prefixes limit levels enters c' file (drop (n + 1) pieces))
    one below here goes =
        ap (pieces_checked F prefixes limit levels enters c file) (drop_more pieces n piece below)
        ∙ ap (λ p. pieces_checked F prefixes limit levels enters c file (p ∷ drop (n + 1) pieces)) (sym here)
        ∙ pieces_next levels enters c file piece (drop (n + 1) pieces) goes

    -- If the pieces from n on lead to this end, then so do those behind piece n, from the check after it.
    done : (new after : Checking) (next : Option OpenFile) (whole : Known Checking) → n < length pieces
        → piece ≡ get_or pieces n piece → limit c ≡ false
        → step F prefixes levels c file piece ≡ Is (new, next) → entered enters new next ≡ Is after
        → pieces_checked F prefixes limit levels enters c file (drop n pieces) ≡ whole
        → pieces_checked F prefixes limit levels enters after file (drop (n + 1) pieces) ≡ whole
    done new after next whole below here goes steps into before =
        sym (one below here goes
        ∙ ap (λ k. k >>= λ t. entered enters t.0 t.1 >>= λ c'. pieces_checked F prefixes limit levels enters c' file (drop (n + 1) pieces))
        steps
        ∙ ap (λ k. k >>= λ c'. pieces_checked F prefixes limit levels enters c' file (drop (n + 1) pieces)) into) ∙ before

  -- a file of the call
  module _ (c d : Checking) (name : List ℕ) where
    pub called_in : {E X : Type 0} (file : OpenFile) (new : Checking) (result : Result X E)
        → opened F prefixes most_levels (record c { files = most_files }) None (record { if_missing = Refuse; file = name })
        ≡ Is (d, Some file)
        → IfOk result (λ _. file_checked F prefixes limit 15 d file ≡ Is new) → IfOk result (λ _. called F prefixes limit c name ≡ Is new)
    called_in file new (Err e) opens goes = goes
    called_in file new (Ok x) opens goes = ap (λ k. k >>= λ next. entered (file_checked F prefixes limit 15) next.0 next.1) opens ∙ goes

  -- If the files from n on lead to this end, then so do those behind file n, from the check after it.
  pub name_done : (c after : Checking) (names : List (List ℕ)) (n : ℕ) (name : List ℕ) (whole : Known Checking) → n < length names
      → name ≡ get_or names n name → limit c ≡ false → called F prefixes limit c name ≡ Is after
      → all_called F prefixes limit c (drop n names) ≡ whole
      → all_called F prefixes limit after (drop (n + 1) names) ≡ whole
  name_done c after names n name whole below here goes checks before =
      sym (ap (all_called F prefixes limit c) (drop_more names n name below)
      ∙ ap (λ m. all_called F prefixes limit c (m ∷ drop (n + 1) names)) (sym here)
      ∙ names_next c name (drop (n + 1) names) goes
      ∙ ap (λ k. k >>= λ c'. all_called F prefixes limit c' (drop (n + 1) names)) checks) ∙ before

-- The same over the list that the code holds, which is the file's.
pub piece_gone : (F : Facts) (prefixes : Prefixes) (limit : Limit) (levels : ℕ) (c : Checking) (file : OpenFile) (items : List Piece) (n :
    ℕ)
    (piece : Piece)
    (new after : Checking) (next : Option OpenFile) (whole : Known Checking) → items ≡ file.pieces → n < length items
    → piece ≡ get_or items n piece → limit c ≡ false
    → step F prefixes levels c file piece ≡ Is (new, next) → entered (enters_at F prefixes limit levels) new next ≡ Is after
    → pieces_checked F prefixes limit levels (enters_at F prefixes limit levels) c file (drop n file.pieces) ≡ whole
    → pieces_checked F prefixes limit levels (enters_at F prefixes limit levels) after file (drop (n + 1) file.pieces) ≡ whole
piece_gone F prefixes limit levels c file items n piece new after next whole same below here =
    done F prefixes limit levels (enters_at F prefixes limit levels) c file file.pieces n piece new after next whole
    (subst (λ ps. n < length ps) same below) (here ∙ ap (λ ps. get_or ps n piece) same)

-- a file that a piece opened
pub enters : (F : Facts) (prefixes : Prefixes) (limit : Limit) (levels : ℕ) (new after : Checking) (next : Option OpenFile) (inner :
    OpenFile)
    → next ≡ Some inner → IfSome next (λ _. 0 < levels) → file_checked F prefixes limit (levels - 1) new inner ≡ Is after
    → entered (enters_at F prefixes limit levels) new next ≡ Is after
enters F prefixes limit levels new after next inner is some goes =
    ap (entered (enters_at F prefixes limit levels) new) is
    ∙ ap (λ f. f new inner) (entering F prefixes limit levels (subst (λ n. IfSome n (λ _. 0 < levels)) is some)) ∙ goes
