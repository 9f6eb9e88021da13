use Rattle.drv_gcc.specs.Halving.{alone, halves}
use Rattle.std.proofs.Common.{◌≡◌, ◌∙◌, ◌||◌, Bool, List, [], ◌∷◌, ◌++◌, ap, drop, false, length, refl, sym, take, true, ℕ}
use Rattle.std.proofs.lemmas.List.Elements.{filter-append}
use Rattle.std.proofs.lemmas.List.{append-nil, take-append-drop}
use Rattle.std.specs.List.{filter, flat_map, list_any}
use Rattle.std.specs.Prelude.{◌/◌}

-- For words that a program refuses (src/halving.rt): halves find each of them.
-- Names: `words` is several words, and `word` one. `refuses` says whether the program refuses a word. `halves` is the two halves of words,
-- and `alone` the word if it is the only one.

-- one word of which some are refused is refused itself
all_found_of_one : (refuses : List ℕ → Bool) (word : List ℕ) → list_any refuses (word ∷ []) ≡ true → word ∷ [] ≡ filter refuses (word ∷ [])
all_found_of_one refuses word is = by (refuses word) refl
  where
    -- Plan: `by` goes by both answers of `refuses word`.
    by : (b : Bool) → refuses word ≡ b → word ∷ [] ≡ filter refuses (word ∷ [])
    by true is_refused = rw is_refused refl
    by false is_taken = absurd (let both : false ≡ true = ap (λ b. b || false) (sym is_taken) ∙ is in cc)

-- the words that are refused are that one, or those of each half
pub all_found : (refuses : List ℕ → Bool) (words : List (List ℕ)) → list_any refuses words ≡ true
    → alone words ++ flat_map (filter refuses) (halves words) ≡ filter refuses words
all_found refuses [] is = refl
all_found refuses (word ∷ []) is = all_found_of_one refuses word is
all_found refuses (one ∷ other ∷ words) is =
    let all = one ∷ other ∷ words in
    let half = length all / 2 in
    ap (λ rest. filter refuses (take half all) ++ rest) (append-nil (filter refuses (drop half all)))
    ∙ sym (filter-append refuses (take half all) (drop half all)) ∙ ap (filter refuses) (take-append-drop half all)
