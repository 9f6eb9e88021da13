use Rattle.drv_dump.specs.Dumps.{entries_of, written_entry}
use Rattle.drv_dump.specs.Files.{files_from}
use Rattle.drv_dump.specs.Grammar.{is_white}
use Rattle.drv_dump.specs.Ours.{with_words, words_of}
use Rattle.drv_dump.specs.Texts.{pieces_of}
use Rattle.drv_dump.specs.declared.dump.Entry.{Entry}
use Rattle.drv_dump.specs.declared.fault.DumpFault.{DumpFault}
use Rattle.drv_dump.specs.declared.fault.OursFault.TheVariants as ours_fault
use Rattle.drv_dump.specs.declared.fault.OursFault.{OursFault}
use Rattle.drv_dump.specs.declared.fault.TextFault.TheVariants as text_fault
use Rattle.drv_dump.specs.declared.fault.TextFault.{TextFault}
use Rattle.drv_dump.specs.declared.files.Joint.TheVariants.{Open}
use Rattle.drv_dump.specs.declared.piece.Kind.TheVariants as kind
use Rattle.drv_dump.specs.declared.piece.Kind.{Kind}
use Rattle.drv_dump.specs.declared.piece.Piece.{Piece}
use Rattle.std.specs.Cmp.Lexicographic.{pointwise}
use Rattle.std.specs.List.{ends_with, starts_with}
use Rattle.std.specs.Prelude.{◌||◌, Bool, Err, List, [], ◌∷◌, ◌++◌, Ok, Option, Result, Some, codes, drop, if◌then◌else◌, nat_eq, zero, ℕ}

-- The libraries of a link, as the linker's plugin gets them: the option before each word that begins with -l or ends in .a, and none of the
-- other words (GCC, "gcc.cc", pass_through_libs_spec_func). Each text that names libraries gets a copy of such words, the text pass_NAME.
-- For clauses of src/passed.rt.

-- whether a word names a library or an archive
abbrev pub is_library : List ℕ → Bool
is_library word = starts_with nat_eq word (codes "-l") || ends_with nat_eq word (codes ".a")

-- a library as the plugin gets it
abbrev pub with_option : List ℕ → List ℕ
with_option word = codes "-plugin-opt=-pass-through=" ++ word

-- what a word becomes: only libraries are passed on
abbrev pub passed_word : List ℕ → List ℕ
passed_word word = if is_library word then with_option word else []

-- the words of plain bytes, of which the last one has these bytes so far
abbrev pub passed_from : List ℕ → List ℕ → List ℕ
passed_from word [] = passed_word word
passed_from word (b ∷ text) = if is_white b then passed_word word ++ (b ∷ passed_from [] text) else passed_from (word ++ b ∷ []) text

-- a file that is looked for, or the copy of another text
abbrev pub passed_name : List ℕ → List ℕ
passed_name name = if starts_with nat_eq name (codes "%(file_") then with_option name else codes "%(pass_" ++ drop 2 name

-- what a directive becomes: %G and %L are the copies of libgcc and lib, and any other is left out
abbrev pub passed_directive : List ℕ → List ℕ
passed_directive directive =
    if pointwise nat_eq directive (codes "%G") then codes "%(pass_libgcc)"
    else if pointwise nat_eq directive (codes "%L") then codes "%(pass_lib)" else []

-- what a piece becomes in the copy, if it becomes anything
abbrev pub pass_words : Kind → List ℕ → Option (List ℕ)
pass_words kind.Text bytes = Some (passed_from [] bytes)
pass_words kind.NamedText bytes = Some (passed_name bytes)
pass_words kind.Directive bytes = Some (passed_directive bytes)
pass_words kind.LinkerOption bytes = Some []
pass_words kind.Call bytes = Some []
pass_words kind.Message bytes = words_of kind.Message bytes
pass_words kind.TestCall bytes = words_of kind.TestCall bytes
pass_words kind.NegatedCall bytes = words_of kind.NegatedCall bytes
pass_words kind.Opening bytes = words_of kind.Opening bytes
pass_words kind.Blank bytes = words_of kind.Blank bytes
pass_words kind.Negation bytes = words_of kind.Negation bytes
pass_words kind.Test bytes = words_of kind.Test bytes
pass_words kind.Either bytes = words_of kind.Either bytes
pass_words kind.Both bytes = words_of kind.Both bytes
pass_words kind.Then bytes = words_of kind.Then bytes
pass_words kind.Otherwise bytes = words_of kind.Otherwise bytes
pass_words kind.Closing bytes = words_of kind.Closing bytes

-- what all pieces become, or the first that becomes nothing
abbrev pub all_passed : List Piece → Result (List ℕ) OursFault
all_passed [] = Ok []
all_passed (piece ∷ pieces) = with_words (pass_words piece.kind piece.bytes) piece.bytes (all_passed pieces)

-- what the pieces of a text become, with its files as named texts
abbrev pub passed_pieces : Result (List Piece) TextFault → Result (List ℕ) OursFault
passed_pieces (Ok pieces) = all_passed (files_from zero Open pieces)
passed_pieces (Err text_fault.Memory) = Err ours_fault.Memory
passed_pieces (Err (text_fault.Unreadable misfit at)) = Err (ours_fault.Unreadable misfit at)

-- the copy of a text
abbrev pub passed_of : List ℕ → Result (List ℕ) OursFault
passed_of text = passed_pieces (pieces_of text)

-- the texts that name libraries: what the option of the plugin asks for, the two that it is made of (`lib`, `libgcc`), and those of which a
-- machine makes the first (`lib_linux`)
unfoldable pub has_libraries : List ℕ → Bool
has_libraries name = pointwise nat_eq name (codes "link_gcc_c_sequence") || starts_with nat_eq name (codes "lib")

-- a copy that can't be made refuses the lines that use it
abbrev pub or_refusal : List ℕ → Result (List ℕ) OursFault → List ℕ
or_refusal name (Ok words) = words
or_refusal name (Err fault) = codes "%etext " ++ name ++ codes " is not in this spec file"

-- the copy of a text under its name pass_NAME; it says nothing where the text has no library
abbrev pub copy_of : Entry → List ℕ
copy_of entry = written_entry (codes "pass_" ++ entry.name) (codes "%{-gdrv-none:}" ++ or_refusal entry.name (passed_of entry.text))

-- the copy of a text that names libraries; of any other there is none
abbrev pub passed_entry : Entry → List ℕ
passed_entry entry = if has_libraries entry.name then copy_of entry else []

-- the copies of all texts of a dump that name libraries
abbrev pub passed_entries : List Entry → List ℕ
passed_entries [] = []
passed_entries (entry ∷ entries) = passed_entry entry ++ passed_entries entries

-- the copies of a dump's texts, or why the dump can't be read
abbrev pub with_passed : Result (List Entry) DumpFault → Result (List ℕ) DumpFault
with_passed (Ok entries) = Ok (passed_entries entries)
with_passed (Err fault) = Err fault

-- the texts that a spec file has for the linker's plugin, by the dump of its gcc
abbrev pub passed_dump_of : List ℕ → Result (List ℕ) DumpFault
passed_dump_of dump = with_passed (entries_of dump)
