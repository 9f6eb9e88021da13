use Rattle.drv_core.specs.Code.Course.{removes_first, reports_first}
use Rattle.drv_core.specs.Events.{none}
use Rattle.drv_words.specs.declared.steps.Note.TheVariants as note
use Rattle.drv_words.specs.declared.steps.Place.{Place}
use Rattle.drv_words.specs.declared.steps.Step.{Step}
use Rattle.drv_words.specs.declared.steps.Step.TheVariants as step
use Rattle.std.proofs.Common.{◌≡◌, ◌<◌, ◌+◌, ◌∙◌, false, true, List, [], ◌∷◌, None, Option, Some, ap, arith, drop, length, refl, suc, sym}
use Rattle.std.proofs.Common.{zero, ℕ}
use Rattle.std.proofs.lemmas.Option.{slice_get_past}
use Rattle.std.specs.Prelude.{slice_get}

-- The rest of a list, from an index on.

-- without its first item it is the rest from the next index on
drop_none : {X : Type 0} (i : ℕ) → drop {A = X} i [] ≡ []
drop_none zero = refl
drop_none (suc i) = refl

pub drop_one : {X : Type 0} (i : ℕ) (xs : List X) → drop 1 (drop i xs) ≡ drop (i + 1) xs
drop_one {X = X} i [] = ap (λ (l : List X). drop 1 l) (drop_none i) ∙ sym (drop_none (i + 1))
drop_one zero (x ∷ xs) = refl
drop_one (suc i) (x ∷ xs) = drop_one i xs ∙ ap (λ n. drop n (x ∷ xs)) (let e : suc (i + 1) ≡ suc i + 1 = omega arith in e)

-- nothing is left exactly past the last item
pub none_left : {X : Type 0} (i : ℕ) (xs : List X) → i < length xs → none (drop i xs) ≡ false
none_left i [] lt = absurd (omega (arith, lt))
none_left zero (x ∷ xs) lt = refl
none_left (suc i) (x ∷ xs) lt = none_left i xs (omega (arith, lt))

pub some_left : {X : Type 0} (i : ℕ) (xs : List X) → none (drop i xs) ≡ false → i < length xs
some_left {X = X} i [] e = absurd (let no : true ≡ false = ap (λ (l : List X). none l) (sym (drop_none i)) ∙ e in cc)
some_left zero (x ∷ xs) e = omega arith
some_left (suc i) (x ∷ xs) e = let lt = some_left i xs e in omega (arith, lt)

-- the step for the first file that is left
pub removes_some : (i : ℕ) (ps : List Place) (p : Place) → slice_get ps i ≡ Some p → removes_first (drop i ps) ≡ Some (step.Remove p)
removes_some zero (x ∷ ps) p e = ap (λ (o : Option Place). removes_if o) e
  where
    removes_if : Option Place → Option Step
    removes_if None = None
    removes_if (Some p) = Some (step.Remove p)
removes_some (suc i) (x ∷ ps) p e = removes_some i ps p e
removes_some i [] p e = absurd (let no : None ≡ Some p = sym (slice_get_past [] i (omega arith)) ∙ e in cc)

pub removes_none : (i : ℕ) (ps : List Place) → slice_get ps i ≡ None → removes_first (drop i ps) ≡ None
removes_none i [] e = ap removes_first (drop_none i)
removes_none zero (x ∷ ps) e = absurd cc
removes_none (suc i) (x ∷ ps) e = removes_none i ps e

pub reports_some : (i : ℕ) (ps : List Place) (p : Place) → slice_get ps i ≡ Some p
    → reports_first (drop i ps) ≡ Some (step.Report (note.NotRemoved p))
reports_some zero (x ∷ ps) p e = ap (λ (o : Option Place). reports_if o) e
  where
    reports_if : Option Place → Option Step
    reports_if None = None
    reports_if (Some p) = Some (step.Report (note.NotRemoved p))
reports_some (suc i) (x ∷ ps) p e = reports_some i ps p e
reports_some i [] p e = absurd (let no : None ≡ Some p = sym (slice_get_past [] i (omega arith)) ∙ e in cc)

pub reports_none : (i : ℕ) (ps : List Place) → slice_get ps i ≡ None → reports_first (drop i ps) ≡ None
reports_none i [] e = ap reports_first (drop_none i)
reports_none zero (x ∷ ps) e = absurd cc
reports_none (suc i) (x ∷ ps) e = reports_none i ps e
