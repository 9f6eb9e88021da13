use Rattle.drv_compile.specs.Passed.{is_lone, libraries, library_words}
use Rattle.std.proofs.Common.{◌≡◌, ◌⊎◌, ◌∙◌, ◌∷◌, ◌++◌, ◌-◌, ◌≤◌, ◌<◌, [], Bool, List, ap, append_assoc, arith, drop, false}
use Rattle.std.proofs.Common.{get_or, inl, inr, length, refl, sym, take, true, ℕ}
use Rattle.std.proofs.lemmas.List.{append-nil, take_all}

-- For `libraries` and `push_first` (src/passing.rt): the libraries of a link, word by word.
-- Names: `found` is the libraries so far, and `found'` those after one more. `word` is the next word of the link, `after` the words behind
-- it, and `next` the first of these. `lone` says whether the word is -l alone, by the code's copy `bytes` of it.

-- -l takes the word after it
lone_first : (word next : List ℕ) (words : List (List ℕ)) → is_lone word ≡ true
    → libraries (word ∷ next ∷ words) ≡ (word ++ next) ∷ libraries words
unfolding libraries
lone_first word next words is = rw is refl

-- any other word is a library by itself, or none
other_first : (word next : List ℕ) (words : List (List ℕ)) → is_lone word ≡ false
    → libraries (word ∷ next ∷ words) ≡ library_words word ++ libraries (next ∷ words)
unfolding libraries
other_first word next words is = rw is refl

-- For `push_first`: if the word is -l alone, then it and the word after it are one library, and the words behind both are left.
pub joined_goes : (found found' : List (List ℕ)) (word bytes next : List ℕ) (after : List (List ℕ)) (lone : Bool)
    → 1 ≤ length after → next ≡ get_or after 0 next → bytes ≡ word → lone ≡ is_lone bytes → lone ≡ true
    → found' ≡ found ++ (word ++ next) ∷ []
    → found' ++ libraries (take (length after - 1) (drop 1 after)) ≡ found ++ libraries (word ∷ after)
joined_goes found found' word bytes next [] lone some first same tests so added = absurd (omega arith)
joined_goes found found' word bytes next (n ∷ words) lone some first same tests so added =
    ap (λ f. f ++ libraries (take (length (n ∷ words) - 1) words)) added
    ∙ ap (λ l. (found ++ (word ++ next) ∷ []) ++ libraries l) (take_all (length (n ∷ words) - 1) words (omega arith))
    ∙ append_assoc found ((word ++ next) ∷ []) (libraries words)
    ∙ ap (λ w. found ++ (word ++ w) ∷ libraries words) first
    ∙ ap (λ l. found ++ l) (sym (lone_first word n words (ap is_lone (sym same) ∙ sym tests ∙ so)))

-- For `push_first`: if no word is after it, or it isn't -l alone, then the word is a library by itself, or none.
pub single_goes : (found found' : List (List ℕ)) (word : List ℕ) (after : List (List ℕ))
    → (length after < 1) ⊎ (is_lone word ≡ false) → found' ≡ found ++ library_words word
    → found' ++ libraries after ≡ found ++ libraries (word ∷ after)
unfolding libraries
single_goes found found' word [] other added = append-nil found' ∙ added
single_goes found found' word (n ∷ words) (inl none) added = absurd (omega arith)
single_goes found found' word (n ∷ words) (inr other) added =
    ap (λ f. f ++ libraries (n ∷ words)) added
    ∙ append_assoc found (library_words word) (libraries (n ∷ words))
    ∙ ap (λ l. found ++ l) (sym (other_first word n words other))

-- For `libraries`: once no word is left, the libraries so far are all.
pub last_library : (found left words : List (List ℕ)) → length left < 1 → found ++ libraries left ≡ libraries words
    → found ≡ libraries words
unfolding libraries
last_library found [] words none so_far = sym (append-nil found) ∙ so_far
last_library found (word ∷ left) words none so_far = absurd (omega arith)
