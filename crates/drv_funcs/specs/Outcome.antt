use Rattle.drv_funcs.specs.Comparing.{holds, holds_of_none, operator_of, takes_two}
use Rattle.drv_funcs.specs.Versions.{version}
use Rattle.drv_funcs.specs.declared.fault.FuncsFault.{FuncsFault}
use Rattle.drv_funcs.specs.declared.fault.FuncsFault.TheVariants.{BadOperator, BadVersion, NotInLink, VariableMissing, WrongCount}
use Rattle.drv_funcs.specs.declared.function.Function.{Function}
use Rattle.drv_funcs.specs.declared.function.Function.TheVariants.{Getenv, IfExists, IfExistsElse, IfExistsThenElse, RemoveOutfile}
use Rattle.drv_funcs.specs.declared.function.Function.TheVariants.{ReplaceOutfile, VersionCompare}
use Rattle.drv_funcs.specs.declared.operator.Operator.{Operator}
use Rattle.drv_funcs.specs.declared.site.Site.TheVariants.{Link, Source}
use Rattle.drv_funcs.specs.declared.site.Site.{Site}
use Rattle.drv_match.specs.Matching.{hits, name_at}
use Rattle.drv_match.specs.Pattern.{Pattern}
use Rattle.drv_system.specs.Facts.{Facts, kind_of, variable_of}
use Rattle.drv_system.specs.Known.{◌>>=◌, Is, Known, asked}
use Rattle.drv_system.specs.declared.event.PathKind.{PathKind}
use Rattle.drv_system.specs.declared.event.PathKind.TheVariants.{Missing}
use Rattle.std.specs.Cmp.Lexicographic.{pointwise}
use Rattle.std.specs.List.{filter, starts_with}
use Rattle.std.specs.Prelude.{◌-◌, Bool, Err, List, [], ◌∷◌, ◌++◌, None, Ok, Option, Result, Some, codes, drop, false, if◌then◌else◌}
use Rattle.std.specs.Prelude.{length, map, nat_eq, not, option_map, slice_get, true, ℕ}

-- The result of each function of spec texts: a word, nothing, or a refusal (GCC manual, "Spec Files"; what it leaves open is this project's
-- profile). There is one equation for each function and number of arguments; any other number is refused.

-- the result of a function that changes nothing
abbrev pub Given : Type 0
Given = Result (Option (List ℕ)) FuncsFault

-- `getenv NAME STRING`: the value of the variable, then the string
abbrev pub with_value : List ℕ → List ℕ → Option (List ℕ) → Given
with_value name string None = Err (VariableMissing name)
with_value name string (Some value) = Ok (Some (value ++ string))

-- the value of a variable, with the string after it
abbrev pub getenv : Facts → List (List ℕ) → Known Given
getenv F (name ∷ string ∷ []) = asked (variable_of F name) >>= λ value. Is (with_value name string value)
getenv F args = Is (Err (WrongCount Getenv))

-- a path exists: it begins with a slash and leads to a file
abbrev pub is_missing : PathKind → Bool
is_missing Missing = true
is_missing kind = false

-- whether a path exists; only absolute paths are looked for
abbrev pub exists : Facts → List ℕ → Known Bool
exists F path = if starts_with nat_eq path (codes "/") then asked (kind_of F path) >>= (λ kind. Is (not (is_missing kind))) else Is false

-- `if-exists PATH` gives the path, if it exists
abbrev pub if_exists : Facts → List (List ℕ) → Known Given
if_exists F (path ∷ []) = exists F path >>= λ there. Is (Ok (if there then Some path else None))
if_exists F args = Is (Err (WrongCount IfExists))

-- `if-exists-else PATH OTHER` gives the path, if it exists, or else the other
abbrev pub if_exists_else : Facts → List (List ℕ) → Known Given
if_exists_else F (path ∷ other ∷ []) = exists F path >>= λ there. Is (Ok (Some (if there then path else other)))
if_exists_else F args = Is (Err (WrongCount IfExistsElse))

-- `if-exists-then-else PATH THEN` and `if-exists-then-else PATH THEN ELSE`
abbrev pub if_exists_then_else : Facts → List (List ℕ) → Known Given
if_exists_then_else F (path ∷ first ∷ []) = exists F path >>= λ there. Is (Ok (if there then Some first else None))
if_exists_then_else F (path ∷ first ∷ second ∷ []) = exists F path >>= λ there. Is (Ok (Some (if there then first else second)))
if_exists_then_else F args = Is (Err (WrongCount IfExistsThenElse))

-- `replace-outfile OLD NEW`: in the outputs, each old word becomes the new one
abbrev pub replaced : List (List ℕ) → List (List ℕ) → Result (List (List ℕ)) FuncsFault
replaced (old ∷ new ∷ []) outputs = Ok (map (λ output. if pointwise nat_eq output old then new else output) outputs)
replaced args outputs = Err (WrongCount ReplaceOutfile)

-- `remove-outfile OLD`: the outputs without this word
abbrev pub removed : List (List ℕ) → List (List ℕ) → Result (List (List ℕ)) FuncsFault
removed (old ∷ []) outputs = Ok (filter (λ output. not (pointwise nat_eq output old)) outputs)
removed args outputs = Err (WrongCount RemoveOutfile)

-- both are allowed only in the link, which is checked before the number of arguments
abbrev pub in_link_alone : Site → Function → Result (List (List ℕ)) FuncsFault → Result (List (List ℕ)) FuncsFault
in_link_alone Link function changed = changed
in_link_alone Source function changed = Err (NotInLink function)

-- the last number of a list, if there is one
abbrev pub last : List ℕ → Option ℕ
last places = slice_get places (length places - 1)

-- the pattern of the names that begin with these bytes
abbrev pub starred : List ℕ → Pattern
starred prefix = record { name = prefix; star = true }

-- the rest of the last switch that the starred prefix hits
abbrev pub value_of : List (List ℕ) → List Bool → List ℕ → Option (List ℕ)
value_of names hidden prefix = option_map (λ place. drop (length prefix) (name_at names place)) (last (hits names hidden (starred prefix)))

-- the result for the numbers of a version; another text is refused
abbrev pub with_version : {Y : Type 0} → List ℕ → Option (List ℕ) → (List ℕ → Result Y FuncsFault) → Result Y FuncsFault
with_version word None next = Err (BadVersion word)
with_version word (Some numbers) next = next numbers

-- a comparison with a switch's value; without a switch the operator alone decides
abbrev pub of_value : Operator → List ℕ → List ℕ → Option (List ℕ) → Result Bool FuncsFault
of_value operator one two None = Ok (holds_of_none operator)
of_value operator one two (Some value) = with_version value (version value) (λ numbers. Ok (holds operator numbers one two))

-- the versions are judged in the order of the arguments, and then the value
abbrev pub judged : Operator → List ℕ → List ℕ → Option (List ℕ) → Result Bool FuncsFault
judged operator first second value = with_version first (version first) (λ one. with_version second (version second)
    (λ two. of_value operator one two value))

-- the word, if the test holds
abbrev pub word_if : List ℕ → Result Bool FuncsFault → Given
word_if word (Ok holds) = Ok (if holds then Some word else None)
word_if word (Err fault) = Err fault

-- the arguments after the operator: one version or two, the prefix of a switch, and the resulting word
abbrev pub with_versions : List (List ℕ) → List Bool → Operator → Bool → List (List ℕ) → Given
with_versions names hidden operator false (first ∷ prefix ∷ word ∷ []) =
    word_if word (judged operator first first (value_of names hidden prefix))
with_versions names hidden operator true (first ∷ second ∷ prefix ∷ word ∷ []) =
    word_if word (judged operator first second (value_of names hidden prefix))
with_versions names hidden operator two args = Err (WrongCount VersionCompare)

-- a comparison by its operator
abbrev pub by_operator : List (List ℕ) → List Bool → List ℕ → List (List ℕ) → Option Operator → Given
by_operator names hidden word args None = Err (BadOperator word)
by_operator names hidden word args (Some operator) = with_versions names hidden operator (takes_two operator) args

-- `version-compare COMPARISON VERSION [VERSION] PREFIX WORD`
abbrev pub version_compare : List (List ℕ) → List Bool → List (List ℕ) → Given
version_compare names hidden [] = Err (WrongCount VersionCompare)
version_compare names hidden (word ∷ args) = by_operator names hidden word args (operator_of word)

-- The result of a call: that of the function, and the outputs after it.

-- what a call gives, and the outputs after it
pub record Called : Type 0 where
  pub given : Option (List ℕ)
  pub outputs : List (List ℕ)

-- a function that gives this leaves the outputs as they are
abbrev pub unchanged : List (List ℕ) → Given → Result Called FuncsFault
unchanged outputs (Ok word) = Ok (record { given = word; outputs = outputs })
unchanged outputs (Err fault) = Err fault

-- a function that changes the outputs gives nothing
abbrev pub changed : Result (List (List ℕ)) FuncsFault → Result Called FuncsFault
changed (Ok outputs) = Ok (record { given = None; outputs = outputs })
changed (Err fault) = Err fault

-- The table of the functions. Its arguments: the facts, the names of the line's switches, which of them are hidden, whether the text is the
-- link's, the function, its arguments, and the outputs.
abbrev pub called : Facts → List (List ℕ) → List Bool → Site → Function → List (List ℕ) → List (List ℕ) → Known (Result Called FuncsFault)
called F names hidden site Getenv args outputs = getenv F args >>= λ given. Is (unchanged outputs given)
called F names hidden site IfExists args outputs = if_exists F args >>= λ given. Is (unchanged outputs given)
called F names hidden site IfExistsElse args outputs = if_exists_else F args >>= λ given. Is (unchanged outputs given)
called F names hidden site IfExistsThenElse args outputs = if_exists_then_else F args >>= λ given. Is (unchanged outputs given)
called F names hidden site ReplaceOutfile args outputs = Is (changed (in_link_alone site ReplaceOutfile (replaced args outputs)))
called F names hidden site RemoveOutfile args outputs = Is (changed (in_link_alone site RemoveOutfile (removed args outputs)))
called F names hidden site VersionCompare args outputs = Is (unchanged outputs (version_compare names hidden args))
