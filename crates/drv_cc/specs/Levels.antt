use Rattle.drv_cc.specs.Checks.{undefined_checks}
use Rattle.drv_cc.specs.Items.{is_among, same}
use Rattle.drv_cc.specs.Kept.{has}
use Rattle.drv_cc.specs.Table.{texts}
use Rattle.drv_cc.specs.declared.item.Item.{Item}
use Rattle.drv_cc.specs.declared.levels.Debugging.{Debugging}
use Rattle.drv_words.specs.Bytes.{comma}
use Rattle.std.specs.List.{list_any, slice_split}
use Rattle.std.specs.Option.{unwrap_or}
use Rattle.std.specs.Prelude.{◌==◌, ◌&&◌, ◌||◌, Bool, List, [], ◌∷◌, ◌++◌, None, Option, Some, codes, false, if◌then◌else◌, nat_lt, not}
use Rattle.std.specs.Prelude.{true, ℕ}

-- The level of debugging information and its version (GCC manual, "Debugging Options"), as digits; and the libraries of checks
-- ("Instrumentation Options", -fsanitize=). Each is a fold over the items.
-- For clauses of src/levels.rt and src/checks.rt, and laws of src/laws.rt. The tests in drv_dump (specs/Forms.antt) read its words
-- --gdrv-..: a word that changes here changes there too.

-- before the first option: the level is 0, the version of DWARF 5, both as digits, and no toggle is on
abbrev pub no_debugging : Debugging
no_debugging = record { level = 48; version = 53; toggled = false }

-- What an option says: the level that it names, the version of DWARF, the toggle; and whether it asks for records at all.

-- the level that an option names, as a digit
abbrev pub level_named : List ℕ → Option ℕ
level_named name =
    if is_among (texts (codes "-g0 -ggdb0")) name then Some 48
    else if is_among (texts (codes "-g1 -ggdb1")) name then Some 49
    else if is_among (texts (codes "-g2 -ggdb2")) name then Some 50
    else if is_among (texts (codes "-g3 -ggdb3")) name then Some 51 else None

-- the version of DWARF that an option names, as a digit
abbrev pub version_named : List ℕ → Option ℕ
version_named name =
    if same name (codes "-gdwarf-2") then Some 50
    else if same name (codes "-gdwarf-3") then Some 51
    else if same name (codes "-gdwarf-4") then Some 52
    else if same name (codes "-gdwarf-5") then Some 53 else None

-- what an option says of the toggle: -gtoggle turns it on and -gno-toggle off
abbrev pub toggle_named : List ℕ → Option Bool
toggle_named name = if same name (codes "-gtoggle") then Some true else if same name (codes "-gno-toggle") then Some false else None

-- whether an option asks for records without naming a level
abbrev pub asks_for_records : List ℕ → Bool
asks_for_records =
    is_among
    (texts
    (codes "-g -ggdb -gdwarf -gdwarf-2 -gdwarf-3 -gdwarf-4 -gdwarf-5 -gstabs -gstabs+ -gbtf -gctf -gvms -gxcoff -gxcoff+"))

-- An option that asks for records raises the level to 2 at least.
abbrev pub raised_by : Bool → ℕ → ℕ
raised_by asks level = if asks && nat_lt level 50 then 50 else level

-- level, version and toggle after one more option, by its name
unfoldable pub debugged_by : Debugging → List ℕ → Debugging
debugged_by d name = record {
  level = unwrap_or (level_named name) (raised_by (asks_for_records name) d.level);
  version = unwrap_or (version_named name) d.version;
  toggled = unwrap_or (toggle_named name) d.toggled;
}

-- level, version and toggle after items: what an option says counts until another says otherwise
abbrev pub debugging_of : Debugging → List Item → Debugging
debugging_of d [] = d
debugging_of d (i ∷ items) = debugging_of (debugged_by d i.name) items

-- the level that counts: -gtoggle turns level 0 to 2, and any other to 0
abbrev pub toggled : Debugging → ℕ
toggled d = if d.toggled then (if d.level == 48 then 50 else 48) else d.level

-- the words by which the texts know the level and the version
abbrev pub level_words : ℕ → ℕ → List (List ℕ)
level_words level version = (codes "--gdrv-level=" ++ level ∷ []) ∷ (codes "--gdrv-dwarf=" ++ version ∷ []) ∷ []

-- the words for level and version, where the level isn't 0
abbrev pub debug_words_of : ℕ → ℕ → List (List ℕ)
debug_words_of level version = if level == 48 then [] else level_words level version

-- the words for the debugging information of a line
abbrev pub debug_words : List Item → List (List ℕ)
debug_words items = debug_words_of (toggled (debugging_of no_debugging items)) (debugging_of no_debugging items).version

-- Checks.

-- all checks that need the library of undefined behaviour
abbrev pub ubsan_checks : List ℕ
ubsan_checks = codes "float-divide-by-zero float-cast-overflow bounds-strict " ++ undefined_checks

-- whether a name between commas is one of a check
abbrev pub stands_for : List ℕ → List ℕ → Bool
stands_for check name =
    same name check || same name (codes "all") || (same name (codes "undefined") && is_among (texts undefined_checks) check)
    || (same name (codes "shift") && is_among (texts (codes "shift-base shift-exponent")) check)
    || (same name (codes "bounds-strict") && same check (codes "bounds"))

-- whether an argument of -fsanitize= names a check, by itself or by the name of a group
abbrev pub speaks_of : List ℕ → List ℕ → Bool
speaks_of check names = list_any (stands_for check) (slice_split (λ b. b == comma) names)

-- whether a check (of -fsanitize=) is on after one more item: -fno-sanitize= of it turns it off
abbrev pub checked_by : List ℕ → Item → Bool → Bool
checked_by check i before =
    if same i.name (codes "-fsanitize=") && speaks_of check i.argument then true
    else if same i.name (codes "-fno-sanitize=") && speaks_of check i.argument then false else before

-- whether a check is on after items: the last one that speaks of it decides
abbrev pub checked_from : Bool → List ℕ → List Item → Bool
checked_from before check [] = before
checked_from before check (i ∷ items) = checked_from (checked_by check i before) check items

-- whether a line turns a check on
abbrev pub is_checked : List Item → List ℕ → Bool
is_checked items check = checked_from false check items

-- whether a link needs the library of leaks: not where a check of addresses or threads is on, whose library serves for it
abbrev pub needs_leak_library : List Item → Bool
needs_leak_library items =
    is_checked items (codes "leak") && not (is_checked items (codes "address") || is_checked items (codes "kernel-address")
    || is_checked items (codes "thread"))

-- whether a link needs the library of undefined behaviour: a check of it is on and doesn't trap instead
abbrev pub needs_undefined_library : List Item → Bool
needs_undefined_library items = list_any (is_checked items) (texts ubsan_checks)
    && not (has (codes "-fsanitize-undefined-trap-on-error") items)

-- the word for a library of checks, where it is needed
abbrev pub library_word : Bool → List ℕ → List (List ℕ)
library_word true library = (codes "--gdrv-san=" ++ library) ∷ []
library_word false library = []

-- the words for the libraries of checks, by which the texts of a link add them
abbrev pub check_words : List Item → List (List ℕ)
check_words items =
    library_word (is_checked items (codes "address")) (codes "asan") ++ library_word (is_checked items (codes "hwaddress")) (codes "hwasan")
    ++ library_word (is_checked items (codes "thread")) (codes "tsan") ++ library_word (needs_leak_library items) (codes "lsan")
    ++ library_word (needs_undefined_library items) (codes "ubsan")
