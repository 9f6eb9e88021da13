use Rattle.drv_specs.specs.Blanks.{has_byte, is_blank}
use Rattle.drv_specs.specs.Lines.{is_kept}
use Rattle.drv_specs.specs.Sets.{Set, begins_with_at, ends_with_backslash, has_tree, is_key, is_name, is_no_text, pair_text}
use Rattle.drv_words.specs.Bytes.{asterisk, newline, number_sign, percent}
use Rattle.std.specs.Cmp.Lexicographic.{pointwise}
use Rattle.std.specs.List.{IsDistinct}
use Rattle.std.specs.Map.{keys_of}
use Rattle.std.specs.Prelude.{◌≡◌, ◌==◌, ◌&&◌, ◌||◌, Bool, List, [], ◌∷◌, false, nat_eq, not, true, ℕ}

-- What every set keeps that files were loaded into (this project's profile).

-- A text that can be a body again: it has no carriage return, and no line of it is empty, has blanks alone, or ends with a
-- backslash. `seen` says whether the line so far has a byte that is no blank, `back` whether a backslash is its last.

-- whether a byte may follow in a text: no carriage return; a newline only after a full line without a backslash at its end
abbrev pub fits : Bool → Bool → ℕ → Bool
fits seen back b = is_kept b && (not (b == newline) || (seen && not back))

-- whether the line has a byte that is no blank, with this one
abbrev pub sees : Bool → ℕ → Bool
sees seen b = not (b == newline) && (seen || not (is_blank b))

-- whether the rest of a text has the form of one
abbrev pub is_body : Bool → Bool → List ℕ → Bool
is_body seen back [] = seen && not back
is_body seen back (b ∷ text) = fits seen back b && is_body (sees seen b) (ends_with_backslash (b ∷ [])) text

-- whether a text has the form of one: full lines, none of which ends with a backslash
abbrev pub is_text : List ℕ → Bool
is_text text = is_body false false text

-- a property holds of each item of a list
abbrev pub Each : {X : Type 0} → (X → Type 0) → List X → Type 0
Each P [] = Unit {0}
Each P (x ∷ xs) = P x × Each P xs

-- a named text: its name and its text have their forms, and the text has a tree
pub record IsNamed (entry : List ℕ × List ℕ) : Type 0 where
  pub name : is_name entry.0 ≡ true
  pub text : is_text entry.1 ≡ true
  pub tree : has_tree entry.1 ≡ true

-- a key that a line can begin with: the line is no comment, no directive of one line, and no name
abbrev pub begins_line : List ℕ → Bool
begins_line [] = false
begins_line (b ∷ key) = not (b == number_sign) && (not (b == percent) && not (b == asterisk))

-- A pair: its text is empty or like a named one, has no more white space to lose, and is no alias of an alias. It has a tree, unless it is
-- an alias or says that a language isn't installed.
pub record IsPair (pair : List ℕ × List ℕ) : Type 0 where
  pub key : is_key pair.0 ≡ true
  pub begins : begins_line pair.0 ≡ true
  pub text : (not (has_byte pair.1) || is_text pair.1) ≡ true
  pub whole : pair_text pair.1 ≡ pair.1
  pub no_alias : (begins_with_at pair.0 && begins_with_at pair.1) ≡ false
  pub tree : (is_no_text pair.1 || has_tree pair.1) ≡ true

-- names, texts and pairs have their forms, and no name is there twice
pub record Kept (set : Set) : Type 0 where
  pub named : Each IsNamed set.named
  pub pairs : Each IsPair set.pairs
  pub distinct : IsDistinct (pointwise nat_eq) (keys_of set.named)
