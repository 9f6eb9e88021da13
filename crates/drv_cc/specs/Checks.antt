use Rattle.drv_cc.specs.Items.{is_among, same}
use Rattle.drv_cc.specs.Table.{texts}
use Rattle.drv_cc.specs.declared.item.Item.{Item}
use Rattle.drv_words.specs.Bytes.{comma}
use Rattle.std.specs.List.{list_any, slice_split}
use Rattle.std.specs.Prelude.{◌==◌, ◌&&◌, ◌||◌, Bool, List, ◌++◌, codes, length, not, ℕ}

-- The names of checks (GCC manual, "Instrumentation Options", -fsanitize=).
-- For clauses of src/checks.rt. A new check is a name here, and a word of Levels.antt if its link has a library of its own.

-- the checks of undefined
abbrev pub undefined_checks : List ℕ
undefined_checks =
    codes "shift-base shift-exponent integer-divide-by-zero unreachable vla-bound return null signed-integer-overflow bool enum bounds "
    ++ codes "alignment nonnull-attribute returns-nonnull-attribute object-size vptr pointer-overflow builtin"

-- the names of all checks and of groups of them that -fsanitize= takes
abbrev pub checks : List ℕ
checks =
    codes "address kernel-address hwaddress kernel-hwaddress pointer-compare pointer-subtract thread leak shadow-call-stack undefined "
    ++ codes "shift float-divide-by-zero float-cast-overflow bounds-strict " ++ undefined_checks

-- whether a name is a check's or a group's. Between commas there may be nothing, and all where checks are turned off (GCC, "opts.cc",
-- parse_sanitizer_options)
abbrev pub is_check : List ℕ → List ℕ → Bool
is_check option name =
    (length name == 0 || is_among (texts checks) name) || (same option (codes "-fno-sanitize=") && same name (codes "all"))

-- whether -fsanitize= or -fno-sanitize= has a name that is no check's: gcc's driver refuses the line
abbrev pub names_no_check : Item → Bool
names_no_check i =
    is_among (texts (codes "-fsanitize= -fno-sanitize=")) i.name
    && list_any (λ name. not (is_check i.name name)) (slice_split (λ b. b == comma) i.argument)
