use Rattle.drv_args.specs.Options.{form_fits}
use Rattle.drv_args.specs.declared.option_table.Form.TheVariants.{Either, Exact, Joined, Separate}
use Rattle.drv_args.specs.declared.option_table.Form.{Form}
use Rattle.std.proofs.Common.{◌≡◌, ◌==◌, ◌&&◌, ◌∙◌, Bool, List, [], ◌∷◌, ◌++◌, ap, drop, false, length, refl, take, true, ℕ}
use Rattle.std.proofs.lemmas.Bool.{eqb-true}
use Rattle.std.specs.Cmp.Lexicographic.{pointwise}
use Rattle.std.specs.Prelude.{nat_eq}

-- For the look-up of options: if a row fits a word, its option and the rest of the word make up the word.
-- Names: `word` is a word of the line. `option` is the option of a row of the table.

-- two tests that hold together, hold each
both_true : (a b : Bool) → (a && b) ≡ true → (a ≡ true) × (b ≡ true)
both_true true b e = (refl, e)
both_true false b e = absurd cc

-- a word that begins with an option is the option and what follows
begins_word : (option word : List ℕ) → pointwise nat_eq option (take (length option) word) ≡ true
    → option ++ drop (length option) word ≡ word
begins_word [] word e = refl
begins_word (a ∷ option) [] e = absurd cc
begins_word (a ∷ option) (b ∷ word) e =
    let both = both_true (a == b) _ e in
    ap (λ c. c ∷ option ++ drop (length option) word) (eqb-true a b both.0) ∙ ap (λ w. b ∷ w) (begins_word option word both.1)

-- a word that is the option is the option and nothing else
same_word : (option word : List ℕ) → pointwise nat_eq option word ≡ true → option ++ drop (length option) word ≡ word
same_word [] [] e = refl
same_word [] (b ∷ word) e = absurd cc
same_word (a ∷ option) [] e = absurd cc
same_word (a ∷ option) (b ∷ word) e =
    let both = both_true (a == b) (pointwise nat_eq option word) e in
    ap (λ c. c ∷ option ++ drop (length option) word) (eqb-true a b both.0) ∙ ap (λ w. b ∷ w) (same_word option word both.1)

-- in each form the word is the option and what follows
pub fits_whole : (form : Form) (option word : List ℕ) → form_fits form option word ≡ true → option ++ drop (length option) word ≡ word
fits_whole Exact option word e = same_word option word e
fits_whole Separate option word e = same_word option word e
fits_whole Joined option word e = begins_word option word e
fits_whole Either option word e = begins_word option word e
