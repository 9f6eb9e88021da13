use Rattle.drv_args.specs.declared.items.Item.{Item}
use Rattle.drv_args.specs.declared.option_table.Effect.TheVariants as effect
use Rattle.drv_cc.specs.LineItems.{alone}
use Rattle.drv_compile.specs.Reading.{specs_given}
use Rattle.drv_compile.specs.Runs.{line_given}
use Rattle.drv_compile.specs.SelfSpecs.{Ended, worked_of}
use Rattle.drv_compile.specs.declared.running.DriverLine.{DriverLine}
use Rattle.drv_compile.specs.declared.self_specs.Worked.TheVariants.{Gives, More, Nothing}
use Rattle.drv_compile.specs.declared.self_specs.Worked.{Worked}
use Rattle.drv_system.specs.Facts.{Facts}
use Rattle.drv_system.specs.Known.{Is, Known, Unasked}
use Rattle.std.specs.Cmp.Lexicographic.{pointwise}
use Rattle.std.specs.List.{ends_with, starts_with}
use Rattle.std.specs.Prelude.{◌&&◌, ◌||◌, Bool, Err, List, [], ◌∷◌, ◌++◌, Ok, codes, if◌then◌else◌, length, map, nat_eq, nat_lt, not, ℕ}

-- The libraries of a link, which the linker's plugin gets in other words: those of `link_gcc_c_sequence` as the line's spec files leave it,
-- with the switches of the line (GCC, "gcc.cc", LINK_PLUGIN_SPEC, pass_through_libs_spec_func).
--
-- The spec file of the call has a text `gdrv_pass` of two commands, and the words of the one are those of the link's libraries (this
-- project's profile). It has the libraries of its own texts, so a line that names no other spec file needs no such words.
-- For clauses of src/passing.rt. The texts of drv_gcc (specs/Fixed.antt) read these switches.

-- whether a word is -l alone, whose library is the next word
abbrev pub is_lone : List ℕ → Bool
is_lone word = pointwise nat_eq word (codes "-l")

-- whether a word by itself is a library, or an archive
abbrev pub is_library : List ℕ → Bool
is_library word = starts_with nat_eq word (codes "-l") && not (is_lone word) || ends_with nat_eq word (codes ".a")

-- the library that a word is by itself, if it is one
abbrev pub library_words : List ℕ → List (List ℕ)
library_words word = if is_library word then word ∷ [] else []

-- the libraries among the words of a link: -l takes the next word, and is none at the end
unfoldable pub libraries : List (List ℕ) → List (List ℕ)
libraries [] = []
libraries (word ∷ []) = library_words word
libraries (word ∷ next ∷ words) =
    if is_lone word then (word ++ next) ∷ libraries words else library_words word ++ libraries (next ∷ words)

-- the switch by which the texts know a library
unfoldable pub passed_switch : List ℕ → Item
passed_switch word = alone effect.Switch (codes "--gdrv-pass=" ++ word)

-- the items by which the texts know these libraries: one for all, and one for each
abbrev pub passed_items : List (List ℕ) → List Item
passed_items words = alone effect.Switch (codes "--gdrv-passed") ∷ map passed_switch (libraries words)

-- a line of the driver with the libraries of its link, if the text gave words; a line whose specs or texts are refused stays, and the
-- driver refuses it
abbrev pub line_by : DriverLine → Ended Worked → Known DriverLine
line_by line Unasked = Unasked
line_by line (Is (Err ending)) = Is line
line_by line (Is (Ok Nothing)) = Is line
line_by line (Is (Ok More)) = Is line
line_by line (Is (Ok (Gives given))) = Is (record line { items = line.items ++ passed_items given.words })

-- a line of the driver with the libraries of its link, if it names a spec file beside that of the call
abbrev pub line_passed : Facts → DriverLine → Known DriverLine
line_passed F line =
    if nat_lt 1 (length (specs_given line.items))
    then line_by line (worked_of F (codes "gdrv_pass") (line_given line) (line_given line))
    else Is line
