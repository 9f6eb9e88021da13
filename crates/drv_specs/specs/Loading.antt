use Rattle.drv_search.specs.Search.{file_found}
use Rattle.drv_search.specs.declared.prefixes.Prefixes.{Prefixes}
use Rattle.drv_specs.specs.Directives.{Bad, Directive, Include, Pair, Rename, Text, directives_of}
use Rattle.drv_specs.specs.Sets.{Set, with_name, with_pair_body, with_text}
use Rattle.drv_specs.specs.declared.directive.IfMissing.TheVariants.{PassOver, Refuse}
use Rattle.drv_specs.specs.declared.directive.IfMissing.{IfMissing}
use Rattle.drv_specs.specs.declared.fault.SpecsFault.TheVariants.{BadLine, IncludeTooDeep, NoSuchFile, TooManyIncludes, Unreadable}
use Rattle.drv_specs.specs.declared.fault.SpecsFault.{SpecsFault}
use Rattle.drv_system.specs.Facts.{Facts, read_of}
use Rattle.drv_system.specs.Known.{◌>>=◌, Is, Known, Unasked, asked}
use Rattle.drv_system.specs.declared.event.ReadAnswer.TheVariants as read
use Rattle.drv_system.specs.declared.event.ReadAnswer.{ReadAnswer}
use Rattle.std.specs.Prelude.{Err, List, [], ◌∷◌, Ok, Result, suc, zero, ℕ}

-- A spec file loaded into a set: its directives carried out in order (GCC manual, "Spec Files"; the limits are this
-- project's profile).

-- a set, and how many files may still be read
pub record Carried : Type 0 where
  pub set : Set
  pub files : ℕ

-- what comes after a step that was not refused
abbrev pub then_by : {X Y : Type 0} → Known (Result X SpecsFault) → (X → Known (Result Y SpecsFault)) → Known (Result Y SpecsFault)
then_by Unasked next = Unasked
then_by (Is (Err fault)) next = Is (Err fault)
then_by (Is (Ok x)) next = next x

-- a change of the set alone
abbrev pub changed : ℕ → Result Set SpecsFault → Known (Result Carried SpecsFault)
changed files (Ok set) = Is (Ok (record { set = set; files = files }))
changed files (Err fault) = Is (Err fault)

-- a directive that reads no file
abbrev pub change : Set → Directive → Result Set SpecsFault
change set (Text name body) = with_text set name body
change set (Pair key body) = with_pair_body set key body
change set (Rename old new) = with_name set old new
change set (Include missing name) = Ok set
change set (Bad n) = Err (BadLine n)

-- how a file is included: a parameter, since `including` hands itself on with one level of inclusion less
abbrev pub Including : Type 0
Including = Carried → IfMissing → List ℕ → Known (Result Carried SpecsFault)

-- one directive is carried out
abbrev pub carried : Including → Carried → Directive → Known (Result Carried SpecsFault)
carried including c (Text name body) = changed c.files (with_text c.set name body)
carried including c (Pair key body) = changed c.files (with_pair_body c.set key body)
carried including c (Rename old new) = changed c.files (with_name c.set old new)
carried including c (Include missing name) = including c missing name
carried including c (Bad n) = Is (Err (BadLine n))

-- directives in order, up to the first refusal
abbrev pub all_carried : Including → Carried → List Directive → Known (Result Carried SpecsFault)
all_carried including c [] = Is (Ok c)
all_carried including c (directive ∷ directives) = then_by (carried including c directive) (λ c'. all_carried including c' directives)

-- the text that a file gives: one that is missing may be passed over, which gives no directives
abbrev pub text_read : IfMissing → List ℕ → ReadAnswer → Result (List ℕ) SpecsFault
text_read missing path (read.Read text) = Ok text
text_read PassOver path read.Missing = Ok []
text_read Refuse path read.Missing = Err (NoSuchFile path)
text_read missing path read.Failed = Err (Unreadable path)
text_read missing path read.TooLarge = Err (Unreadable path)

-- found as the search of library files finds it
abbrev pub file_text : Facts → Prefixes → IfMissing → List ℕ → Known (Result (List ℕ) SpecsFault)
file_text F prefixes missing name = file_found F prefixes name >>= λ path. asked (read_of F path)
    >>= λ answer. Is (text_read missing path answer)

-- a file that is read: one more of those that may be
abbrev pub file_carried : Facts → Prefixes → Including → Set → ℕ → IfMissing → List ℕ → Known (Result Carried SpecsFault)
file_carried F prefixes including set zero missing name = Is (Err TooManyIncludes)
file_carried F prefixes including set (suc left) missing name =
    then_by (file_text F prefixes missing name) (λ text. all_carried including (record { set = set; files = left }) (directives_of text))

-- a file that is included where so many more may be within one another
unfoldable pub including : Facts → Prefixes → ℕ → Including
including F prefixes zero c missing name = Is (Err IncludeTooDeep)
including F prefixes (suc levels) c missing name = file_carried F prefixes (including F prefixes levels) c.set c.files missing name

-- the set after directives were carried out
abbrev pub set_in : Carried → Known (Result Set SpecsFault)
set_in c = Is (Ok c.set)

-- the most files in one call, and how deep they may be within one another
abbrev pub most_files : ℕ
most_files = 2000

-- how deep files may include one another
abbrev pub most_levels : ℕ
most_levels = 16

-- directives of a text, in which so many more files may be read
abbrev pub worked : Facts → Prefixes → Set → ℕ → List Directive → Known (Result Set SpecsFault)
worked F prefixes set files directives = then_by (all_carried (including F prefixes 15) (record { set = set; files = files }) directives)
    set_in

-- a text loaded, and a file
unfoldable pub loaded : Facts → Prefixes → Set → List ℕ → Known (Result Set SpecsFault)
loaded F prefixes set text = worked F prefixes set most_files (directives_of text)

unfoldable pub file_loaded : Facts → Prefixes → Set → List ℕ → Known (Result Set SpecsFault)
file_loaded F prefixes set name = then_by (including F prefixes most_levels (record { set = set; files = most_files }) Refuse name) set_in
