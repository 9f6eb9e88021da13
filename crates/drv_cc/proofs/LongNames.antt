use Rattle.drv_cc.specs.Items.{begins, is_longer, meant_option, renamed_by}
use Rattle.drv_cc.specs.Table.{renames}
use Rattle.std.proofs.Common.{◌≡◌, ◌==◌, ◌&&◌, ◌∙◌, Bool, List, [], ◌∷◌, None, ap, codes, false, find, refl, sym, true, ℕ}

-- For the options that long names mean (src/renaming.rt): all long names begin with two hyphens.
-- Names: `word` is the word of the line. `long` says whether it begins with two hyphens. `renames` is the table of long beginnings and what
-- they mean. `is_longer word` tests one row of it. `meant_option` is the name that a word without a row is read as.

-- For `rename_of` (src/renaming.rt), which tests the two hyphens first: a word without them is no long name.
pub no_rename : (word : List ℕ) (long : Bool) → long ≡ begins (codes "--") word → long ≡ false → None ≡ find (is_longer word) renames
no_rename [] long is short = refl
no_rename (a ∷ []) long is short = by (45 == a) refl
  where
    -- Plan: `by` goes by both answers of `45 == a`.
    by : (t : Bool) → (45 == a) ≡ t → None ≡ find (is_longer (a ∷ [])) renames
    by true e = rw e refl
    by false e = rw e refl
no_rename (a ∷ b ∷ rest) long is short = by (45 == a) (45 == b) refl refl (sym is ∙ short)
  where
    -- Plan: `by` goes by the cases of `45 == a` and `45 == b`.
    by : (t u : Bool) → (45 == a) ≡ t → (45 == b) ≡ u → (t && (u && true)) ≡ false → None ≡ find (is_longer (a ∷ b ∷ rest)) renames
    by false u e f w = rw e refl
    by true false e f w = rw (e, f) refl
    by true true e f w = absurd cc

-- For `is_renamed` (src/renaming.rt), which tests them too.
pub not_renamed : (word : List ℕ) (long : Bool) → long ≡ begins (codes "--") word → long ≡ false → meant_option word ≡ word
not_renamed word long is short = ap (renamed_by word) (sym (no_rename word long is short))
