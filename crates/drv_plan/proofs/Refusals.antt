use Rattle.drv_args.specs.declared.line.Input.TheVariants.{File, Library, LinkWord}
use Rattle.drv_args.specs.declared.line.Input.{Input}
use Rattle.drv_machine.specs.declared.fault.MachineFault.{MachineFault}
use Rattle.drv_plan.specs.Languages.{Alias, Chosen, Missing, PairText, Worked, by_language, by_suffix, chosen, chosen_for, in_language}
use Rattle.drv_plan.specs.Languages.{is_of_language, is_standard_input, is_suffix_of, last_pair, with_suffix}
use Rattle.drv_plan.specs.declared.fault.PlanFault.TheVariants.{Machine}
use Rattle.drv_plan.specs.declared.fault.PlanFault.{PlanFault}
use Rattle.drv_specs.specs.Sets.{Set}
use Rattle.std.proofs.Common.{◌≡◌, Bool, Err, List, None, Ok, Option, Result, Some, ap, false, true, ℕ}
use Rattle.std.specs.Prelude.{◌≢◌, codes, if◌then◌else◌}

-- For `plan`: finding the language of an input runs no text, so no refusal is that of a text.
-- Names: `set` is the specs: named texts, and pairs of suffixes and languages. `input` is one input. `chosen_for set input` is the text for
-- an input, or None if it is the linker's. `by_language` is the text of a language.

-- no refusal is that of a text
abbrev Refused : {X : Type 0} → Result X PlanFault → Type 0
Refused given = (fault : MachineFault) → given ≢ Err (Machine fault)

-- a language that a pair names is refused by no text
no_text_in : (language : List ℕ) (pair : Option PairText) → Refused (in_language language pair)
no_text_in language None fault e = absurd cc
no_text_in language (Some (Alias other)) fault e = absurd cc
no_text_in language (Some (Missing compiler)) fault e = absurd cc
no_text_in language (Some (Worked text)) fault e = absurd cc

-- a choice of a language refuses for no text
no_text_chosen : (given : Result Chosen PlanFault) → Refused given → Refused (chosen given)
no_text_chosen (Ok c) none fault e = absurd cc
no_text_chosen (Err refusal) none fault e = let same : refusal ≡ Machine fault = cc in none fault (ap (λ f. Err f) same)

-- nor does the look-up of a language
no_text_by : (set : Set) (language : List ℕ) → Refused (chosen (by_language set language))
no_text_by set language = no_text_chosen (by_language set language) (no_text_in language (last_pair set (is_of_language language)))

-- a file with this suffix's pair is refused by no text
no_text_with : (set : Set) (pair : Option PairText) → Refused (with_suffix set pair)
no_text_with set None fault e = absurd cc
no_text_with set (Some (Alias language)) fault e = no_text_by set language fault e
no_text_with set (Some (Missing compiler)) fault e = absurd cc
no_text_with set (Some (Worked text)) fault e = absurd cc

-- a file, or standard input, is refused by no text
no_text_for : (set : Set) (name : List ℕ) (standard : Bool)
    → Refused (if standard then chosen (by_language set (codes "c")) else by_suffix set name)
no_text_for set name true = no_text_by set (codes "c")
no_text_for set name false = no_text_with set (last_pair set (is_suffix_of name))

-- the language of an input is found or refused, but not by a text's refusal
pub no_text : (set : Set) (input : Input) → Refused (chosen_for set input)
no_text set (File name (Some language)) fault e = no_text_by set language fault e
no_text set (File name None) fault e = no_text_for set name (is_standard_input name) fault e
no_text set (Library word) fault e = absurd cc
no_text set (LinkWord word) fault e = absurd cc
