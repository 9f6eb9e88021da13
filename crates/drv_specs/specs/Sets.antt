use Rattle.drv_specs.specs.Blanks.{has_byte, is_blank, is_white}
use Rattle.drv_words.specs.Bytes.{at_sign, backslash, colon, hyphen, number_sign, period, plus, space, underscore}
use Rattle.drv_specs.specs.Lines.{without_end, without_front}
use Rattle.drv_specs.specs.declared.fault.SpecsFault.TheVariants.{AliasOfAlias, BadName, RenameMissing, RenameTaken, Syntax}
use Rattle.drv_specs.specs.declared.fault.SpecsFault.TheVariants.{TrailingBackslash}
use Rattle.drv_specs.specs.declared.fault.SpecsFault.{SpecsFault}
use Rattle.drv_syntax.specs.Outcome.{parsed}
use Rattle.drv_syntax.specs.Tree.{Items}
use Rattle.drv_syntax.specs.declared.fault.SyntaxFault.{SyntaxFault}
use Rattle.indexmap.specs.IndexMap.{insert_entry}
use Rattle.std.specs.Char.{is_ascii_alphanumeric}
use Rattle.std.specs.Cmp.Lexicographic.{pointwise}
use Rattle.std.specs.List.{ends_with, list_all}
use Rattle.std.specs.Map.{lookup, remove_entry, set_key}
use Rattle.std.specs.Prelude.{◌==◌, ◌&&◌, ◌||◌, Bool, Err, List, [], ◌∷◌, ◌++◌, None, Ok, Option, Result, Some, drop, false, if◌then◌else◌}
use Rattle.std.specs.Prelude.{is_ok, is_some, length, nat_eq, nat_le, not, ℕ}

-- Spec sets and how a directive changes one (GCC manual, "Spec Files"; this project's profile).

-- named texts and suffix pairs, both in order
pub record Set : Type 0 where
  pub named : List (List ℕ × List ℕ)
  pub pairs : List (List ℕ × List ℕ)

-- the empty set
abbrev pub no_specs : Set
no_specs = record { named = []; pairs = [] }

-- the text of a name, if there is one
abbrev pub text_of : Set → List ℕ → Option (List ℕ)
text_of set name = lookup (pointwise nat_eq name) set.named

-- a name has 1 to 255 letters, digits and _.+-
abbrev pub is_name_byte : ℕ → Bool
is_name_byte b = is_ascii_alphanumeric b || b == underscore || b == period || b == plus || b == hyphen

-- a name has 1 to 255 bytes
abbrev pub is_sized : List ℕ → Bool
is_sized name = has_byte name && nat_le (length name) 255

-- whether a name has the form of one
abbrev pub is_name : List ℕ → Bool
is_name name = is_sized name && list_all is_name_byte name

-- a key has 1 to 255 printing bytes without a colon; after an initial @ it is a name
abbrev pub is_key_byte : ℕ → Bool
is_key_byte b = nat_le 33 b && nat_le b 126 && not (b == colon)

-- whether a text begins with @: a language
abbrev pub begins_with_at : List ℕ → Bool
begins_with_at [] = false
begins_with_at (b ∷ text) = b == at_sign

-- a language is a name after @; a suffix has printing bytes without a colon
abbrev pub is_key_text : List ℕ → Bool
is_key_text key = if begins_with_at key then is_name (drop 1 key) else (has_byte key && list_all is_key_byte key)

-- whether a key has the form of one
abbrev pub is_key : List ℕ → Bool
is_key key = nat_le (length key) 255 && is_key_text key

-- whether a text ends with a backslash
abbrev pub ends_with_backslash : List ℕ → Bool
ends_with_backslash text = ends_with nat_eq text (backslash ∷ [])

-- what a text that is run gives: a set, if it has a tree
abbrev pub by_tree : {X : Type 0} → List ℕ → X → Result Items SyntaxFault → Result X SpecsFault
by_tree name x (Ok tree) = Ok x
by_tree name x (Err fault) = Err (Syntax name fault)

-- a text under a name; a new name is put last
abbrev pub with_named : Set → List ℕ → List ℕ → Set
with_named set name text = record set { named = insert_entry (pointwise nat_eq) set.named name text }

-- a text is put if it has a tree
abbrev pub put : Set → List ℕ → List ℕ → Result Set SpecsFault
put set name text = by_tree name (with_named set name text) (parsed text)

-- a name is no longer there
abbrev pub deleted : Set → List ℕ → Set
deleted set name = record set { named = remove_entry (pointwise nat_eq name) set.named }

-- what is appended to: the text of that name, or one space and what is appended without its white space in front
abbrev pub appended_text : Option (List ℕ) → List ℕ → List ℕ
appended_text None addition = space ∷ without_front is_white addition
appended_text (Some text) addition = text ++ addition

-- an addition to a text; one of white space alone changes nothing
abbrev pub append : Set → List ℕ → List ℕ → Result Set SpecsFault
append set name addition = if list_all is_white addition then Ok set else put set name (appended_text (text_of set name) addition)

-- a body that appends begins with + and a blank
abbrev pub appends : List ℕ → Bool
appends [] = false
appends (b ∷ []) = false
appends (b ∷ c ∷ text) = b == plus && is_blank c

-- what a body does to a name: an empty one deletes it, one that appends adds what follows its +, any other is put
abbrev pub with_body : Set → List ℕ → List ℕ → Result Set SpecsFault
with_body set name body =
    if length body == 0 then Ok (deleted set name)
    else if appends body then append set name (drop 1 body)
    else put set name body

-- a directive's text under its name, or the refusal
abbrev pub with_text : Set → List ℕ → List ℕ → Result Set SpecsFault
with_text set name body =
    if not (is_name name) then Err (BadName name)
    else if ends_with_backslash body then Err (TrailingBackslash name)
    else with_body set name body

-- a pair's body: that of a language which is not installed begins with #, an alias is @ and a language
abbrev pub is_not_installed : List ℕ → Bool
is_not_installed [] = false
is_not_installed (b ∷ text) = b == number_sign

-- whether a pair's text is another language's name
abbrev pub is_alias : List ℕ → Bool
is_alias [] = false
is_alias (b ∷ text) = b == at_sign && is_name text

-- whether the text of a pair is not run
abbrev pub is_no_text : List ℕ → Bool
is_no_text text = is_not_installed text || is_alias text

-- both lose their trailing white space
abbrev pub pair_text : List ℕ → List ℕ
pair_text body = if is_no_text (without_end is_white body) then without_end is_white body else body

-- one more pair
abbrev pub with_pair : Set → List ℕ → List ℕ → Set
with_pair set key text = record set { pairs = set.pairs ++ (key, text) ∷ [] }

-- one more pair, or the refusal of its text
abbrev pub with_pair_text : Set → List ℕ → List ℕ → Result Set SpecsFault
with_pair_text set key text =
    if ends_with_backslash text then Err (TrailingBackslash key)
    else if begins_with_at key && begins_with_at text then Err (AliasOfAlias key)
    else if is_no_text text then Ok (with_pair set key text)
    else by_tree key (with_pair set key text) (parsed text)

-- one more pair, or the refusal of its key or text
abbrev pub with_pair_body : Set → List ℕ → List ℕ → Result Set SpecsFault
with_pair_body set key body = if is_key key then with_pair_text set key (pair_text body) else Err (BadName key)

-- a text takes its place under the new name
abbrev pub with_name : Set → List ℕ → List ℕ → Result Set SpecsFault
with_name set old new =
    if not (is_name old) then Err (BadName old)
    else if not (is_name new) then Err (BadName new)
    else if not (is_some (text_of set old)) then Err (RenameMissing old)
    else if pointwise nat_eq old new then Ok set
    else if is_some (text_of set new) then Err (RenameTaken new)
    else Ok (record set { named = set_key (pointwise nat_eq old) set.named new })

-- a text that is run has a tree
abbrev pub has_tree : List ℕ → Bool
has_tree text = is_ok (parsed text)

-- the text of a pair, where it is run
abbrev pub worked_text : List ℕ × List ℕ → Option (List ℕ)
worked_text pair = if is_no_text pair.1 then None else Some pair.1
