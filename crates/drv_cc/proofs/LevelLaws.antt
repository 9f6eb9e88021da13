use Rattle.drv_cc.specs.LevelRules.{NoneNames, level_after}
use Rattle.drv_cc.specs.Levels.{asks_for_records, debugged_by, debugging_of, level_named, no_debugging, raised_by, toggle_named}
use Rattle.drv_cc.specs.Levels.{version_named}
use Rattle.drv_cc.specs.declared.item.Item.{Item}
use Rattle.drv_cc.specs.declared.levels.Debugging.{Debugging}
use Rattle.std.proofs.Common.{◌≡◌, ◌∙◌, ◌||◌, ◌++◌, Bool, List, [], ◌∷◌, None, Option, Some, ap, false, nat_lt, refl, true, ℕ}
use Rattle.std.specs.List.{list_any}
use Rattle.std.specs.Option.{is_some, unwrap_or}

-- For last_level_counts (src/laws.rt): of the options of debugging the last one that names a level decides.
-- Names: `d` is level, version and toggle so far. `before` and `after` are the items on both sides of the option `i`. `name` is an option's
-- name. `o` is what it names, if anything. `debugging_of d items` is `d` after these items, `debugged_by` after one option. `no_debugging`
-- is what holds before the first. `level_named`, `version_named` and `toggle_named` are what an option names. `NoneNames f items` says that
-- no item names one by `f`. `level_after` is a level after options that name none. `raised_by` raises a level to the usual one, if records
-- are asked for.

-- The options of a line are read in turn, so those after an option start from what those before it set.
append_debugged : (d : Debugging) (before after : List Item) → debugging_of d (before ++ after) ≡ debugging_of (debugging_of d before) after
append_debugged d [] after = refl
append_debugged d (i ∷ before) after = append_debugged (debugged_by d i.name) before after

-- To be raised to the usual level by one option and then by others is to be raised once, if any of them asks for records.
raised_twice : (first rest : Bool) (level : ℕ) → raised_by rest (raised_by first level) ≡ raised_by (first || rest) level
raised_twice false rest level = refl
raised_twice true rest level = by (nat_lt level 50) rest refl
  where
    -- Plan: `by` goes by whether the level is below the usual one, and by whether the others ask for records.
    by : (low rest : Bool) → nat_lt level 50 ≡ low → raised_by rest (raised_by true level) ≡ raised_by true level
    by true true e = rw e refl
    by true false e = rw e refl
    by false true e = rw (e, e) refl
    by false false e = rw e refl

-- What one option does to the level, by the level that it names.
step_level : (d : Debugging) (name : List ℕ) (o : Option ℕ) → level_named name ≡ o
    → (debugged_by d name).level ≡ unwrap_or o (raised_by (asks_for_records name) d.level)
unfolding debugged_by
step_level d name o e = ap (λ o. unwrap_or o (raised_by (asks_for_records name) d.level)) e

-- What one option does to the version, by the version that it names.
step_version : (d : Debugging) (name : List ℕ) (o : Option ℕ) → version_named name ≡ o
    → (debugged_by d name).version ≡ unwrap_or o d.version
unfolding debugged_by
step_version d name o e = ap (λ o. unwrap_or o d.version) e

-- What one option does to the toggle, by the toggle that it names.
step_toggle : (d : Debugging) (name : List ℕ) (o : Option Bool) → toggle_named name ≡ o
    → (debugged_by d name).toggled ≡ unwrap_or o d.toggled
unfolding debugged_by
step_toggle d name o e = ap (λ o. unwrap_or o d.toggled) e

-- Options that name none.

-- Options that name no level can still raise it (`level_after`, specs/LevelRules.antt).
no_level : (d : Debugging) (items : List Item) → NoneNames level_named items → (debugging_of d items).level ≡ level_after items d.level
no_level d [] e = refl
no_level d (i ∷ items) e = by (level_named i.name) refl e (no_level (debugged_by d i.name) items)
  where
    -- Plan: `by` goes by the cases of `level_named i.name`.
    by : (o : Option ℕ) → level_named i.name ≡ o → (is_some o || list_any (λ i. is_some (level_named i.name)) items) ≡ false
        → (NoneNames level_named items → (debugging_of d (i ∷ items)).level ≡ level_after items (debugged_by d i.name).level)
        → (debugging_of d (i ∷ items)).level ≡ level_after (i ∷ items) d.level
    by (Some n) s none others = absurd cc
    by None s none others =
        others none ∙ ap (level_after items) (step_level d i.name None s)
        ∙ raised_twice (asks_for_records i.name) (list_any (λ i. asks_for_records i.name) items) d.level

-- Options that name no version leave it.
no_version : (d : Debugging) (items : List Item) → NoneNames version_named items → (debugging_of d items).version ≡ d.version
no_version d [] e = refl
no_version d (i ∷ items) e = by (version_named i.name) refl e (no_version (debugged_by d i.name) items)
  where
    -- Plan: `by` goes by the cases of `version_named i.name`.
    by : (o : Option ℕ) → version_named i.name ≡ o → (is_some o || list_any (λ i. is_some (version_named i.name)) items) ≡ false
        → (NoneNames version_named items → (debugging_of d (i ∷ items)).version ≡ (debugged_by d i.name).version)
        → (debugging_of d (i ∷ items)).version ≡ d.version
    by (Some n) s none others = absurd cc
    by None s none others = others none ∙ step_version d i.name None s

-- Options that name no toggle leave it.
no_toggle : (d : Debugging) (items : List Item) → NoneNames toggle_named items → (debugging_of d items).toggled ≡ d.toggled
no_toggle d [] e = refl
no_toggle d (i ∷ items) e = by (toggle_named i.name) refl e (no_toggle (debugged_by d i.name) items)
  where
    -- Plan: `by` goes by the cases of `toggle_named i.name`.
    by : (o : Option Bool) → toggle_named i.name ≡ o → (is_some o || list_any (λ i. is_some (toggle_named i.name)) items) ≡ false
        → (NoneNames toggle_named items → (debugging_of d (i ∷ items)).toggled ≡ (debugged_by d i.name).toggled)
        → (debugging_of d (i ∷ items)).toggled ≡ d.toggled
    by (Some n) s none others = absurd cc
    by None s none others = others none ∙ step_toggle d i.name None s

-- The last option that names one.

-- The clause `level` of the law: what precedes the last option that names a level doesn't count.
pub last_level : (before after : List Item) (i : Item) (level : ℕ) → level_named i.name ≡ Some level → NoneNames level_named after
    → (debugging_of no_debugging (before ++ i ∷ after)).level ≡ level_after after level
last_level before after i level names none =
    ap (λ d. d.level) (append_debugged no_debugging before (i ∷ after))
    ∙ no_level (debugged_by (debugging_of no_debugging before) i.name) after none
    ∙ ap (level_after after) (step_level (debugging_of no_debugging before) i.name (Some level) names)

-- The clause `version`.
pub last_version : (before after : List Item) (i : Item) (version : ℕ) → version_named i.name ≡ Some version → NoneNames version_named after
    → (debugging_of no_debugging (before ++ i ∷ after)).version ≡ version
last_version before after i version names none =
    ap (λ d. d.version) (append_debugged no_debugging before (i ∷ after))
    ∙ no_version (debugged_by (debugging_of no_debugging before) i.name) after none
    ∙ step_version (debugging_of no_debugging before) i.name (Some version) names

-- The clause `toggle`.
pub last_toggle : (before after : List Item) (i : Item) (toggle : Bool) → toggle_named i.name ≡ Some toggle → NoneNames toggle_named after
    → (debugging_of no_debugging (before ++ i ∷ after)).toggled ≡ toggle
last_toggle before after i toggle names none =
    ap (λ d. d.toggled) (append_debugged no_debugging before (i ∷ after))
    ∙ no_toggle (debugged_by (debugging_of no_debugging before) i.name) after none
    ∙ step_toggle (debugging_of no_debugging before) i.name (Some toggle) names

-- The clause `no_level`: without such an option the level is the first one, raised or not.
pub first_level : (items : List Item) → NoneNames level_named items
    → (debugging_of no_debugging items).level ≡ level_after items no_debugging.level
first_level = no_level no_debugging

-- The clause `no_version`.
pub first_version : (items : List Item) → NoneNames version_named items → (debugging_of no_debugging items).version ≡ no_debugging.version
first_version = no_version no_debugging

-- The clause `no_toggle`.
pub first_toggle : (items : List Item) → NoneNames toggle_named items → (debugging_of no_debugging items).toggled ≡ false
first_toggle = no_toggle no_debugging
