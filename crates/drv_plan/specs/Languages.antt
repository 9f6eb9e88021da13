use Rattle.drv_args.specs.declared.line.Input.TheVariants.{File, Library, LinkWord}
use Rattle.drv_args.specs.declared.line.Input.{Input}
use Rattle.drv_plan.specs.declared.fault.PlanFault.TheVariants.{NotInstalled, UnknownLanguage}
use Rattle.drv_plan.specs.declared.fault.PlanFault.{PlanFault}
use Rattle.drv_specs.specs.Sets.{Set, begins_with_at, is_alias, is_not_installed}
use Rattle.drv_words.specs.Bytes.{at_sign, hyphen}
use Rattle.std.specs.Cmp.Lexicographic.{pointwise}
use Rattle.std.specs.List.{ends_with}
use Rattle.std.specs.Option.{option_map}
use Rattle.std.specs.Prelude.{◌&&◌, Bool, Err, List, [], ◌∷◌, None, Ok, Option, Result, Some, codes, drop, if◌then◌else◌, length, nat_eq}
use Rattle.std.specs.Prelude.{nat_lt, not, ℕ}

-- The language of an input, and its text (GCC manual, "Overall Options", -x, and "Spec Files"). Which of several pairs counts is this
-- project's profile.

-- the text of the last pair whose key fits
abbrev pub or_before : Option (List ℕ) → Bool → List ℕ → Option (List ℕ)
or_before (Some later) fits text = Some later
or_before None fits text = if fits then Some text else None

-- the text of the last pair whose key fits
abbrev pub last_text : (List ℕ → Bool) → List (List ℕ × List ℕ) → Option (List ℕ)
last_text fits [] = None
last_text fits (pair ∷ pairs) = or_before (last_text fits pairs) (fits pair.0) pair.1

-- the key of a language is @ and its name
abbrev pub is_of_language : List ℕ → List ℕ → Bool
is_of_language language key = pointwise nat_eq key (at_sign ∷ language)

-- a suffix is the end of a longer name
abbrev pub is_suffix_of : List ℕ → List ℕ → Bool
is_suffix_of name key = not (begins_with_at key) && (nat_lt (length key) (length name) && ends_with nat_eq name key)

-- the meaning of a pair's text
pub data PairText : Type 0 where
  Missing : List ℕ → PairText  -- the compiler of this name isn't installed
  Alias : List ℕ → PairText  -- another name of this language
  Worked : List ℕ → PairText  -- a text that is worked

-- what the text of a pair means
abbrev pub pair_meaning : List ℕ → PairText
pair_meaning text = if is_not_installed text then Missing (drop 1 text) else if is_alias text then Alias (drop 1 text) else Worked text

-- the meaning of the last pair whose key fits
abbrev pub last_pair : Set → (List ℕ → Bool) → Option PairText
last_pair set fits = option_map pair_meaning (last_text fits set.pairs)

-- the text of an input, and the name of its language; a suffix with its own text has no language
pub record Chosen : Type 0 where
  pub name : Option (List ℕ)
  pub text : List ℕ

-- a language of this name; the alias of an alias is not followed (no file that is loaded makes one)
abbrev pub in_language : List ℕ → Option PairText → Result Chosen PlanFault
in_language language None = Err (UnknownLanguage language)
in_language language (Some (Alias other)) = Err (UnknownLanguage language)
in_language language (Some (Missing compiler)) = Err (NotInstalled compiler)
in_language language (Some (Worked text)) = Ok (record { name = Some language; text = text })

-- the text of a language
abbrev pub by_language : Set → List ℕ → Result Chosen PlanFault
by_language set language = in_language language (last_pair set (is_of_language language))

-- a text was chosen for the input, or the choice is refused
abbrev pub chosen : Result Chosen PlanFault → Result (Option Chosen) PlanFault
chosen (Ok c) = Ok (Some c)
chosen (Err fault) = Err fault

-- a file with this suffix; without one it belongs to the linker
abbrev pub with_suffix : Set → Option PairText → Result (Option Chosen) PlanFault
with_suffix set None = Ok None
with_suffix set (Some (Alias language)) = chosen (by_language set language)
with_suffix set (Some (Missing compiler)) = Err (NotInstalled compiler)
with_suffix set (Some (Worked text)) = Ok (Some (record { name = None; text = text }))

-- the text for a name, by its suffix
abbrev pub by_suffix : Set → List ℕ → Result (Option Chosen) PlanFault
by_suffix set name = with_suffix set (last_pair set (is_suffix_of name))

-- whether a name means standard input
abbrev pub is_standard_input : List ℕ → Bool
is_standard_input name = pointwise nat_eq name (hyphen ∷ [])

-- The text of an input, or None if the input belongs to the linker. A file has the language that -x gave it. Otherwise standard input is C,
-- and any other file is what its suffix says.
abbrev pub chosen_for : Set → Input → Result (Option Chosen) PlanFault
chosen_for set (File name (Some language)) = chosen (by_language set language)
chosen_for set (File name None) = if is_standard_input name then chosen (by_language set (codes "c")) else by_suffix set name
chosen_for set (Library word) = Ok None
chosen_for set (LinkWord word) = Ok None
