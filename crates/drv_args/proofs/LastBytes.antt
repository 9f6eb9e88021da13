use Rattle.drv_args.specs.Options.{form_fits}
use Rattle.drv_args.specs.declared.option_table.Form.TheVariants.{Either, Exact, Joined, Separate}
use Rattle.drv_args.specs.declared.option_table.Form.{Form}
use Rattle.std.proofs.Common.{◌≡◌, ◌<◌, ◌≤◌, ◌-◌, ◌==◌, ◌&&◌, Bool, List, [], ◌∷◌, arith, false, get_or, length, refl, suc, sym, take, true}
use Rattle.std.proofs.Common.{zero, ℕ}
use Rattle.std.proofs.lemmas.Bool.{eqb-true}
use Rattle.std.specs.Cmp.Lexicographic.{pointwise}
use Rattle.std.specs.Prelude.{nat_eq}

-- For the look-up of options: if an option fits a word, each of its bytes is in its place in the word, the last one too.
-- Names: `word` is a word of the line. `option` is the option of a row of the table.

-- the first of two tests that hold together
both_first : (a b : Bool) → (a && b) ≡ true → a ≡ true
both_first true b e = refl
both_first false b e = e

-- the second
both_second : (a b : Bool) → (a && b) ≡ true → b ≡ true
both_second true b e = e
both_second false b e = absurd cc

-- in a word that begins with an option each byte is that of the option
fits_at : (option word : List ℕ) (i d : ℕ) → i < length option → pointwise nat_eq option (take (length option) word) ≡ true
    → (i < length word) × (get_or word i d ≡ get_or option i d)
fits_at [] word i d below e = absurd (omega (arith, below))
fits_at (a ∷ option) [] i d below e = absurd cc
fits_at (a ∷ option) (b ∷ word) zero d below e = (omega arith, sym (eqb-true a b (both_first (a == b) _ e)))
fits_at (a ∷ option) (b ∷ word) (suc i) d below e =
    let there : (i < length word) × (get_or word i d ≡ get_or option i d) =
    fits_at option word i d (omega (arith, below)) (both_second (a == b) _ e) in
    (omega (arith, there.0), there.1)

-- a word that is the option begins with it
whole_begins : (option word : List ℕ) → pointwise nat_eq option word ≡ true → pointwise nat_eq option (take (length option) word) ≡ true
whole_begins [] word e = refl
whole_begins (a ∷ option) [] e = absurd cc
whole_begins (a ∷ option) (b ∷ word) e = rw (both_first (a == b) _ e) (whole_begins option word (both_second (a == b) _ e))

-- a word that fits begins with the option, in each form
begins : (form : Form) (option word : List ℕ) → form_fits form option word ≡ true
    → pointwise nat_eq option (take (length option) word) ≡ true
begins Exact option word e = whole_begins option word e
begins Separate option word e = whole_begins option word e
begins Joined option word e = e
begins Either option word e = e

-- so the last byte of the option is at its place in the word
pub fits_last : (form : Form) (option word : List ℕ) (d : ℕ) → 0 < length option → form_fits form option word ≡ true
    → (length option ≤ length word) × (get_or word (length option - 1) d ≡ get_or option (length option - 1) d)
fits_last form option word d some e =
    let there : (length option - 1 < length word) × (get_or word (length option - 1) d ≡ get_or option (length option - 1) d) =
    fits_at option word (length option - 1) d (omega (arith, some)) (begins form option word e) in
    (omega (arith, there.0, some), there.1)
