use Rattle.drv_args.specs.Lines.{prefix_of, spec_of}
use Rattle.drv_args.specs.declared.items.Item.{Item}
use Rattle.drv_cc.specs.Front.{front_of}
use Rattle.drv_cc.specs.Items.{items_of}
use Rattle.drv_cc.specs.UnknownWords.{has_unknown}
use Rattle.drv_cc.specs.declared.answer.Answer.TheVariants.{Ask, Refuse, Run}
use Rattle.drv_cc.specs.declared.answer.Answer.{Answer}
use Rattle.drv_cc.specs.declared.answer.Surroundings.{Surroundings}
use Rattle.drv_cc.specs.declared.refusal.Refusal.TheVariants.{EmptyOutput, GivenFile, GivenMore, NoArgument, NoInput, NotTaken}
use Rattle.drv_cc.specs.declared.refusal.Refusal.TheVariants.{UnknownOption}
use Rattle.drv_cc.specs.declared.refusal.Refusal.{Refusal}
use Rattle.drv_compile.specs.Beside.{known_names}
use Rattle.drv_compile.specs.Compilers.{names_in}
use Rattle.drv_compile.specs.declared.reading.Reading.{Reading}
use Rattle.drv_search.specs.Search.{file_found, prefixes_of}
use Rattle.drv_search.specs.declared.prefixes.Prefixes.{Prefixes}
use Rattle.drv_system.specs.Facts.{Facts, read_of}
use Rattle.drv_system.specs.Known.{◌>>=◌, Is, Known, asked}
use Rattle.drv_system.specs.declared.event.ReadAnswer.TheVariants.{Failed, Missing, Read, TooLarge}
use Rattle.drv_system.specs.declared.event.ReadAnswer.{ReadAnswer}
use Rattle.std.specs.List.{filter_map, flat_map, list_any}
use Rattle.std.specs.Option.{is_some}
use Rattle.std.specs.Prelude.{Bool, List, [], ◌∷◌, ◌++◌, None, Option, Some, false, if◌then◌else◌, true, ℕ}

-- The answer to a line, over facts: by the names of the compiler's options, and by those that the spec files of the line have (GCC,
-- "gcc.cc", validate_switches). Neither is asked for where no word of the line is unknown.
-- For clauses of src/reading.rt, src/naming.rt and src/self_specs.rt.

-- the words that are no options, as switches: without their hyphen
abbrev pub without_hyphen : List ℕ → List (List ℕ)
without_hyphen [] = []
without_hyphen (b ∷ switch) = switch ∷ []

-- the word of a refusal that is no option, as a switch
abbrev pub unknown_switch : Refusal → List (List ℕ)
unknown_switch (UnknownOption word) = without_hyphen word
unknown_switch (NoArgument option) = []
unknown_switch (NotTaken option) = []
unknown_switch (GivenFile name) = []
unknown_switch GivenMore = []
unknown_switch EmptyOutput = []
unknown_switch NoInput = []

-- the words of all refusals that are no options, as switches that a spec file may name
abbrev pub unknown_switches : List Refusal → List (List ℕ)
unknown_switches = flat_map unknown_switch

-- the files of -specs= among items of the driver's line
abbrev pub specs_given : List Item → List (List ℕ)
specs_given = filter_map (λ i. spec_of i.effect i.argument)

-- the folders of -B among items: spec files are looked for there too
abbrev pub folders_given : List Item → List (List ℕ)
folders_given = filter_map (λ i. prefix_of i.effect i.argument)

-- the names that a spec file's text has; none where the file can't be read
abbrev pub names_read : ReadAnswer → List (List ℕ)
names_read (Read text) = names_in text
names_read Missing = []
names_read Failed = []
names_read TooLarge = []

-- the names in a spec file, which is found along the prefixes of -B
abbrev pub file_names : Facts → Prefixes → List ℕ → Known (List (List ℕ))
file_names F prefixes name = file_found F prefixes name >>= λ path. asked (read_of F path) >>= λ answer. Is (names_read answer)

-- the names in several spec files, in their order
abbrev pub files_names : Facts → Prefixes → List (List ℕ) → Known (List (List ℕ))
files_names F prefixes [] = Is []
files_names F prefixes (file ∷ files) = file_names F prefixes file >>= λ names. files_names F prefixes files
    >>= λ others. Is (names ++ others)

-- the names in the spec files of these items: a word of the line that one of them names is a switch
abbrev pub items_names : Facts → List Item → Known (List (List ℕ))
items_names F items = prefixes_of F (folders_given items) >>= λ prefixes. files_names F prefixes (specs_given items)

-- the names in the spec files of a line; its items are known once its unknown words are taken for switches
abbrev pub answer_names : Facts → Answer → Known (List (List ℕ))
answer_names F Ask = Is []
answer_names F (Refuse refusals) = Is []
answer_names F (Run call) = items_names F call.items

-- the answer to a line that the names of options alone refuse: its spec files are read for more names
abbrev pub refused_answer : Facts → List ℕ → Surroundings → List (List ℕ) → List Refusal → Known Answer
refused_answer F known around words refusals =
    answer_names F (front_of known (unknown_switches refusals) around words) >>= λ named. Is (front_of known named around words)

-- the answer by names of options alone, or with those of the spec files where it is a refusal
abbrev pub or_by_files : Facts → List ℕ → Surroundings → List (List ℕ) → Answer → Known Answer
or_by_files F known around words Ask = Is Ask
or_by_files F known around words (Refuse refusals) = refused_answer F known around words refusals
or_by_files F known around words (Run call) = Is (Run call)

-- the answer to a line by the names of the compiler's options, and by those in its spec files where it is refused
abbrev pub known_answer : Facts → List ℕ → Surroundings → List (List ℕ) → Known Answer
known_answer F known around words = or_by_files F known around words (front_of known [] around words)

-- The names of options are read again where the line is refused, for its text, and where it names spec files, which may give it options.

-- whether an item is a spec file of the line
abbrev pub names_specs : Item → Bool
names_specs i = is_some (spec_of i.effect i.argument)

-- whether the names of options are needed after the answer: for a refusal's hint, or for what spec files give
abbrev pub reads_again : Answer → Bool
reads_again Ask = false
reads_again (Refuse refusals) = true
reads_again (Run call) = list_any names_specs call.items

-- the names that are needed after the answer; none where they aren't, so that they take no memory
abbrev pub kept : Answer → List ℕ → List ℕ
kept answer known = if reads_again answer then known else []

-- the answer to a line, with the names of options that it took and that are read again; none where the file that has them is not whole
abbrev pub read_by : Facts → Surroundings → List (List ℕ) → Option (List ℕ) → Known (Option Reading)
read_by F around words None = Is None
read_by F around words (Some known) = known_answer F known around words
    >>= λ answer. Is (Some (record { known = kept answer known; answer = answer }))

-- the answer to a line by the names in the file beside the spec file
abbrev pub read_beside : Facts → List ℕ → Surroundings → List (List ℕ) → Known (Option Reading)
read_beside F specs around words = known_names F specs >>= λ known. read_by F around words known

-- the names are asked for where a word of the line is no option that is known without them
abbrev pub line_read : Facts → List ℕ → Surroundings → List (List ℕ) → Known (Option Reading)
line_read F specs around words =
    if has_unknown (items_of [] None words) then read_beside F specs around words
    else Is (Some (record { known = []; answer = front_of [] [] around words }))
