use Rattle.drv_dump.specs.Dumps.{entries_of, written_entry}
use Rattle.drv_dump.specs.Ours.{ours_of}
use Rattle.drv_dump.specs.declared.dump.Entry.{Entry}
use Rattle.drv_dump.specs.declared.fault.DumpFault.{DumpFault}
use Rattle.drv_dump.specs.declared.fault.OursFault.{OursFault}
use Rattle.drv_dump.specs.declared.our_dump.OurDump.{OurDump}
use Rattle.std.specs.Cmp.Lexicographic.{pointwise}
use Rattle.std.specs.List.{list_any, starts_with}
use Rattle.std.specs.Prelude.{◌||◌, Bool, Err, List, [], ◌∷◌, ◌++◌, None, Ok, Option, Result, Some, codes, if◌then◌else◌, nat_eq, ℕ}

-- The texts of a dump in this driver's language.
-- For clauses of src/our_dump.rt. gdrv_specs cites it too.

-- texts that say how gcc was built, and those that this driver has in words of its own
abbrev pub left_out : List (List ℕ)
left_out =
    codes "cross_compile" ∷ codes "version" ∷ codes "linker" ∷ codes "linker_plugin_file" ∷ codes "lto_wrapper" ∷ codes "lto_gcc"
    ∷ codes "invoke_as" ∷ codes "sysroot_spec" ∷ codes "self_spec" ∷ []

-- whether a text is left out of the translation: also those on multilibs, whose answers are asked of the gcc
abbrev pub is_left_out : List ℕ → Bool
is_left_out name = starts_with nat_eq name (codes "multilib") || list_any (pointwise nat_eq name) left_out

-- a text without words is there and says nothing
abbrev pub or_nothing : List ℕ → List ℕ
or_nothing [] = codes "%{-gdrv-none:}"
or_nothing (b ∷ words) = b ∷ words

-- the words of a text, if it isn't refused
abbrev pub our_words : Result (List ℕ) OursFault → Option (List ℕ)
our_words (Ok words) = Some (or_nothing words)
our_words (Err fault) = None

-- a translation with one more text
abbrev pub with_text : OurDump → List ℕ → List ℕ → OurDump
with_text ours name words = record { texts = ours.texts ++ written_entry name words; refused = ours.refused }

-- a translation with a text that is refused where a line uses it, and named to the user
abbrev pub with_refused : OurDump → List ℕ → OurDump
with_refused ours name = record {
  texts = ours.texts ++ written_entry name (codes "%etext " ++ name ++ codes " is not in this spec file");
  refused = ours.refused ++ name ∷ [];
}

-- a translation with one more text, by its words or without any
abbrev pub with_words : OurDump → List ℕ → Option (List ℕ) → OurDump
with_words ours name (Some words) = with_text ours name words
with_words ours name None = with_refused ours name

-- a translation with one more text of the dump
abbrev pub with_entry : OurDump → Entry → OurDump
with_entry ours entry = if is_left_out entry.name then ours else with_words ours entry.name (our_words (ours_of entry.text))

-- a translation with all texts of the dump
abbrev pub with_entries : OurDump → List Entry → OurDump
with_entries ours [] = ours
with_entries ours (entry ∷ entries) = with_entries (with_entry ours entry) entries

-- the translation, or why the dump can't be read
abbrev pub by_entries : Result (List Entry) DumpFault → Result OurDump DumpFault
by_entries (Ok entries) = Ok (with_entries (record { texts = []; refused = [] }) entries)
by_entries (Err fault) = Err fault

-- the texts of a dump in this driver's language, and the names of those that it refuses
abbrev pub our_dump_of : List ℕ → Result OurDump DumpFault
our_dump_of dump = by_entries (entries_of dump)
