use Rattle.drv_cc.specs.Items.{begins}
use Rattle.drv_cc.specs.Levels.{debugged_by}
use Rattle.drv_cc.specs.declared.levels.Debugging.{Debugging}
use Rattle.std.proofs.Common.{◌≡◌, ◌==◌, ◌&&◌, ◌∙◌, Bool, List, [], ◌∷◌, codes, false, refl, sym, true, ℕ}
use Rattle.std.proofs.lemmas.Bool.{eq-eqb, eqb-true}

-- For the level of debugging (src/levels.rt): an option that doesn't begin with -g changes nothing of it.
-- Names: `d` is level, version and toggle of debugging before the option. `name` is the option. `a` and `b` are its first two bytes. `x`
-- and `y` are answers to whether they are those of -g. `debugged_by d name` is `d` after the option.

-- Two bytes that are those of -g make a word begin with it.
both : (x y : Bool) → x ≡ true → y ≡ true → (x && (y && true)) ≡ true
both x y ex ey = rw (ex, ey) refl

-- For `Debugging::after` (src/levels.rt), which looks at the first two bytes of an option before it compares names.
pub others_keep : (d : Debugging) (name : List ℕ) → begins (codes "-g") name ≡ false → d ≡ debugged_by d name
unfolding debugged_by
others_keep d [] e = refl
others_keep d (a ∷ []) e = by (a == 45) refl
  where
    -- Plan: `by` goes by both answers of `a == 45`.
    by : (x : Bool) → (a == 45) ≡ x → d ≡ debugged_by d (a ∷ [])
    by true ex = rw ex refl
    by false ex = rw ex refl
others_keep d (a ∷ b ∷ name) e = by (a == 45) (b == 103) refl refl
  where
    -- Plan: `by` goes by the cases of `a == 45` and `b == 103`.
    by : (x y : Bool) → (a == 45) ≡ x → (b == 103) ≡ y → d ≡ debugged_by d (a ∷ b ∷ name)
    by true true ex ey =
        absurd (let same : true ≡ false =
        sym (both (45 == a) (103 == b) (eq-eqb 45 a (sym (eqb-true a 45 ex))) (eq-eqb 103 b (sym (eqb-true b 103 ey)))) ∙ e in cc)
    by true false ex ey = rw (ex, ey) refl
    by false y ex ey = rw ex refl
