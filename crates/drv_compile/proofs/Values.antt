use Rattle.drv_compile.specs.Compilers.{value_in}
use Rattle.drv_compile.specs.Decides.{first_of}
use Rattle.std.proofs.Common.{◌≡◌, ◌∙◌, Bool, List, [], ◌∷◌, None, Option, Some, ap, drop, false, find, length, nat_eq, refl, sym, true, ℕ}
use Rattle.std.specs.List.{flat_map, starts_with}
use Rattle.std.specs.Option.{option_map}

-- For the files beside a spec file (src/compilers.rt): the first value of a key is that of the first line that begins with the key.
-- Names: `key` is the beginning that is looked for. `all` is the lines of the text. `seen` is the first line that begins with the key, and
-- `line` that line. `word` is what follows the key in it. `value_in key` is the values in one line, and `first_of` the first of several.

-- the first value of a key is that of the first line that begins with it
first_value : (key : List ℕ) (all : List (List ℕ))
    → first_of (flat_map (value_in key) all) ≡ option_map (drop (length key)) (find (λ line. starts_with nat_eq line key) all)
first_value key [] = refl
first_value key (line ∷ all) = by (starts_with nat_eq line key) refl (first_value key all)
  where
    -- Plan: `by` goes by both answers of `starts_with nat_eq line key`.
    by : (t : Bool) → starts_with nat_eq line key ≡ t
        → first_of (flat_map (value_in key) all) ≡ option_map (drop (length key)) (find (λ other. starts_with nat_eq other key) all)
        → first_of (flat_map (value_in key) (line ∷ all)) ≡ option_map (drop (length key))
        (find (λ other. starts_with nat_eq other key) (line ∷ all))
    by true is rest = rw is refl
    by false is rest = rw is rest

-- For `first_value`: if no line begins with the key, then it has no value.
pub value_none : (key : List ℕ) (all : List (List ℕ)) (seen : Option (List ℕ)) → seen ≡ None
    → seen ≡ find (λ line. starts_with nat_eq line key) all
    → None ≡ first_of (flat_map (value_in key) all)
value_none key all seen is found = sym (first_value key all ∙ ap (option_map (drop (length key))) (sym found ∙ is))

-- For `first_value`: if a line begins with the key, then what follows the key in the first such line is its first value.
pub value_some : (key : List ℕ) (all : List (List ℕ)) (seen : Option (List ℕ)) (line word : List ℕ) → seen ≡ Some line
    → seen ≡ find (λ line. starts_with nat_eq line key) all → word ≡ drop (length key) line
    → Some word ≡ first_of (flat_map (value_in key) all)
value_some key all seen line word is found word_is =
    ap Some word_is ∙ sym (first_value key all ∙ ap (option_map (drop (length key))) (sym found ∙ is))
