use Rattle.drv_search.specs.declared.prefixes.Prefixes.{Prefixes}
use Rattle.drv_specs.proofs.Keeping.{loaded_keeps}
use Rattle.drv_specs.proofs.SettledTexts.{is_settled, settled_same}
use Rattle.drv_specs.specs.Builtin.{builtin_named, builtin_pairs, builtin_specs, has_no_text, suffixes}
use Rattle.drv_specs.specs.Directives.{read_lines}
use Rattle.drv_specs.specs.Dumping.{dumped}
use Rattle.drv_specs.specs.Kept.{Each, IsPair, Kept}
use Rattle.drv_specs.specs.Lines.{lines_of}
use Rattle.drv_specs.specs.Loading.{all_carried, including, loaded, most_files, set_in, then_by}
use Rattle.drv_specs.specs.Sets.{Set, no_specs}
use Rattle.drv_specs.specs.declared.fault.SpecsFault.{SpecsFault}
use Rattle.drv_system.specs.Facts.{no_facts}
use Rattle.drv_system.specs.Known.{Is}
use Rattle.std.proofs.Common.{◌≡◌, ◌∙◌, ◌∷◌, [], Bool, List, Ok, Result, ap, false, refl, subst, sym, true}
use Rattle.std.specs.List.{IsDistinct, filter}
use Rattle.std.specs.Prelude.{cond}

-- For the invariant of `SpecSet` (`Kept`): the empty set and the built-in one have it. The built-in set is what loading its own dump gives,
-- which the prover computes, and loading keeps the invariant.
-- Names: `set` is a set. `P` is a claim on one item. `Kept set` is the invariant of every set. `builtin_specs` is the built-in set,
-- `no_specs` the empty one, and `suffixes` the built-in pairs that have no text to run. `dumped` is a set's dump.

-- the empty set has the invariant
empty_kept : Kept no_specs
unfolding IsDistinct
empty_kept = record { named = tt; pairs = tt; distinct = tt }

-- no prefixes: the dump includes no file
abbrev nowhere : Prefixes
nowhere = record { programs = []; libraries = [] }

-- the dump of the built-in set stays as it is when it is settled
dump_settled : is_settled false (dumped builtin_specs) ≡ true
unfolding builtin_named builtin_pairs
dump_settled = refl

-- the built-in set's dump, carried out over the empty set, gives the built-in set
dump_carried : all_carried (including no_facts nowhere 15) (record { set = no_specs; files = most_files })
    (read_lines false 1 (lines_of (dumped builtin_specs))) ≡ Is (Ok (record { set = builtin_specs; files = most_files }))
unfolding builtin_named builtin_pairs
dump_carried = refl

-- the built-in set's dump, loaded into the empty set, gives the built-in set
dump_loads : loaded no_facts nowhere no_specs (dumped builtin_specs) ≡ Is (Ok builtin_specs)
unfolding loaded
dump_loads =
    ap (λ text. then_by (all_carried (including no_facts nowhere 15) (record { set = no_specs; files = most_files })
    (read_lines false 1 (lines_of text))) set_in) (settled_same (dumped builtin_specs) dump_settled)
    ∙ ap (λ known. then_by known set_in) dump_carried

-- the built-in set has the invariant
builtin_kept : Kept builtin_specs
builtin_kept = loaded_keeps no_facts nowhere no_specs builtin_specs (dumped builtin_specs) empty_kept dump_loads

-- the pairs that have no text to run among others

-- what holds of each item holds of each that a filter leaves
each_filter : {X : Type 0} (P : X → Type 0) (test : X → Bool) (xs : List X) → Each P xs → Each P (filter test xs)
each_filter P test [] each = tt
each_filter P test (x ∷ xs) each = by (test x) (each_filter P test xs each.1)
  where
    -- Plan: `by` goes by both answers of `test x`.
    by : (passes : Bool) → Each P (filter test xs) → Each P (cond passes (x ∷ filter test xs) (filter test xs))
    by true later = (each.0, later)
    by false later = later

-- and so has the set of its pairs without texts
suffixes_kept : Kept suffixes
unfolding IsDistinct
suffixes_kept = record { named = tt; pairs = each_filter IsPair has_no_text builtin_pairs builtin_kept.pairs; distinct = tt }

-- a result as the maker of a set gives it
abbrev pub given : Set → Result Set SpecsFault
given set = Ok set

-- the built-in pairs without texts alone have the invariant
pub kept_suffixes : (set : Set) → given suffixes ≡ given set → Kept set
kept_suffixes set is = let same : suffixes ≡ set = cc in subst Kept same suffixes_kept

-- the empty set has the invariant
pub kept_empty : (set : Set) → set ≡ no_specs → Kept set
kept_empty set is = subst Kept (sym is) empty_kept

-- the built-in set has the invariant
pub kept_builtin : (set : Set) → given builtin_specs ≡ given set → Kept set
kept_builtin set is = let same : builtin_specs ≡ set = cc in subst Kept same builtin_kept
