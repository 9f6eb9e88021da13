use Rattle.drv_core.specs.Windowed.{File}
use Rattle.drv_words.specs.declared.steps.Place.{Place}
use Rattle.std.specs.Cmp.Lexicographic.{pointwise}
use Rattle.std.specs.Map.{lookup}
use Rattle.std.specs.Prelude.{◌≡◌, ◌+◌, List, [], ◌∷◌, ◌++◌, None, Option, Some, cond, if◌then◌else◌, length, nat_eq, unwrap_or, ℕ}

-- Files with the numbers of their paths. Only private clauses cite it.

-- first: the number of the first file with the same path
pub record Leftover : Type 0 where
  pub place : Place
  pub first : ℕ

-- the number of the first file with a path; the first file of the list has number i
abbrev pub first_with : ℕ → List ℕ → List File → Option ℕ
first_with i p [] = None
first_with i p (f ∷ fs) = if pointwise nat_eq p f.path then Some i else first_with (i + 1) p fs

-- each file with the number of the first file of its path; before: the files before them
abbrev pub numbered_files : List File → List File → List Leftover
numbered_files before [] = []
numbered_files before (f ∷ fs) =
    record { place = f.place; first = unwrap_or (first_with 0 f.path before) (length before) } ∷ numbered_files (before ++ f ∷ []) fs

-- the number of a path, looked up among keys that show a path
abbrev pub number_in : {K : Type 0} → List (K × ℕ) → (K → List ℕ) → List ℕ → Option ℕ
number_in entries path_of = λ p. lookup (λ k. pointwise nat_eq p (path_of k)) entries

-- the same after a path has got the number of its first file, if that is new
abbrev pub numbered_too : List ℕ → ℕ → ℕ → (List ℕ → Option ℕ) → List ℕ → Option ℕ
numbered_too path first new find = λ p. if nat_eq first new then cond (pointwise nat_eq path p) (Some new) (find p) else find p

-- the code's files and numbers are those of this list
pub record Noted (before : List File) (files : List Leftover) (find : List ℕ → Option ℕ) : Type 0 where
  pub files_are : files ≡ numbered_files [] before
  pub found : (p : List ℕ) → find p ≡ first_with 0 p before

-- some of these files are noted, and the rest are not yet
pub record Noting (all rest : List File) (files : List Leftover) (find : List ℕ → Option ℕ) : Type 0 where
  pub before : List File
  pub parts : before ++ rest ≡ all
  pub noted : Noted before files find
