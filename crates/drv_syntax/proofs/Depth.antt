use Rattle.drv_syntax.specs.Contexts.{ListContext, top}
use Rattle.drv_syntax.specs.Descent.{Lists, items, levels, no_lists}
use Rattle.drv_syntax.specs.Outcome.{depth, descent, outcome}
use Rattle.std.proofs.Common.{◌≡◌, ◌+◌, ◌-◌, false, List, [], ◌∷◌, ap, arith, refl, suc, zero, ℕ}
use Rattle.std.proofs.lemmas.Bool.Decides.{nat_tests}
use Rattle.std.specs.Prelude.{◌==◌}

-- Each text may have 64 levels of braces and arguments within one another: the definition computes that number from the text, and it is
-- always 64. What holds of lists by induction over their levels is below (`all_levels`). It serves the proofs over `descent`. Descent is
-- the grammar as functions (specs/Descent).
-- Names: `c`: where the list is, and what is around it. `level`: how many levels of lists may open.

-- the number of levels of a text is 64
pub depth_is : (text : List ℕ) → depth text ≡ 64
depth_is [] = refl
depth_is (b ∷ text) = depth_is text

-- what Descent makes of a text is what lists with 64 levels make of it
pub descent_is : (text : List ℕ) → descent text ≡ outcome ((levels 64).0 top (record { at = 0; bytes = text }))
descent_is text = ap (λ (level : ℕ). outcome ((levels level).0 top (record { at = 0; bytes = text }))) (depth_is text)

-- a property of lists by their context, which they have if the lists in them, which have fewer levels, have it
module _ (Q : Lists → ListContext → Type 0) (step : (lists deep : Lists) (c : ListContext)
    → ((c.levels == 0) ≡ false → (inner : ListContext) → inner.levels ≡ c.levels - 1 → Q lists inner)
    → ((c.levels - 1 == 0) ≡ false → (inner : ListContext) → inner.levels ≡ c.levels - 1 - 1 → Q deep inner)
    → Q (λ c rest. items lists deep c rest) c) where
  -- lists with any number of levels have the property, by induction over the levels
  pub all_levels : (level : ℕ) → ((c : ListContext) → c.levels ≡ level → Q (levels level).0 c)
      × ((c : ListContext) → c.levels + 1 ≡ level → Q (levels level).1 c)
  all_levels zero = (
    λ c e. step no_lists no_lists c (λ h. absurd (grind (arith, nat_tests, e, h))) (λ h. absurd (grind (arith, nat_tests, e, h))),
    λ c e. absurd (omega (arith, e)),
  )
  all_levels (suc level) =
      let m = all_levels level in (
        λ c e. step (levels level).0 (levels level).1 c (λ h inner f. m.0 inner (omega (arith, e, f)))
            (λ h inner f. m.1 inner (grind (arith, nat_tests, e, f, h))),
        λ c e. m.0 c (omega (arith, e)),
      )
