use Rattle.drv_funcs.specs.Outcome.{Given, called, getenv, if_exists, if_exists_else, if_exists_then_else, judged, version_compare}
use Rattle.drv_funcs.specs.Versions.{compared, version}
use Rattle.drv_funcs.specs.declared.fault.FuncsFault.{FuncsFault}
use Rattle.drv_funcs.specs.declared.fault.FuncsFault.TheVariants.{BadOperator, BadVersion, NotInLink, VariableMissing, WrongCount}
use Rattle.drv_funcs.specs.declared.function.Function.TheVariants.{RemoveOutfile, ReplaceOutfile, VersionCompare}
use Rattle.drv_funcs.specs.declared.operator.Operator.{Operator}
use Rattle.drv_funcs.specs.declared.operator.Operator.TheVariants.{AtLeast, Below, Between, NotAtLeast, NotBelow, Outside}
use Rattle.drv_funcs.specs.declared.site.Site.TheVariants.{Link, Source}
use Rattle.drv_system.specs.Facts.{Facts}
use Rattle.drv_system.specs.Known.{Is, Unasked}
use Rattle.drv_system.specs.declared.event.PathKind.TheVariants.{Missing, Plain}
use Rattle.std.proofs.Common.{◌≡◌, ◌&&◌, Bool, Err, List, [], ◌∷◌, None, Ok, Result, Some, false, map, not, refl, true, ℕ}
use Rattle.std.specs.List.{list_all}
use Rattle.std.specs.Ordering.{is_eq, is_gt, is_lt, is_some_and}
use Rattle.std.specs.Prelude.{codes, is_some}

-- Examples of functions and versions, which the prover computes from the definitions.
-- Names: `version`: the numbers of a version. `compared`: the order of two texts, if both are versions. `judged`: the versions are judged
-- in the order of the arguments, and then the value.

-- pairs of versions whose first one is earlier
abbrev earlier : List (List ℕ × List ℕ)
earlier =
    (codes "1", codes "2") ∷ (codes "1", codes "10") ∷ (codes "9", codes "10") ∷ (codes "09", codes "10") ∷ (codes "1.2", codes "1.3")
    ∷ (codes "1.2", codes "1.10") ∷ (codes "1.9", codes "1.10") ∷ (codes "1.2", codes "1.2.0") ∷ (codes "1", codes "1.0")
    ∷ (codes "1.0", codes "1.0.0") ∷ (codes "1.9.9", codes "2") ∷ (codes "1.9.9", codes "2.0.0") ∷ (codes "0", codes "1")
    ∷ (codes "0", codes "0.0") ∷ (codes "0.9", codes "1") ∷ (codes "10.2", codes "10.3") ∷ (codes "10.3", codes "10.3.1")
    ∷ (codes "10.3", codes "10.30") ∷ (codes "10.4.9", codes "10.5") ∷ (codes "2", codes "11") ∷ (codes "999999998", codes "999999999")
    ∷ (codes "1.999999999", codes "2") ∷ (codes "10.15.7", codes "11.0.1") ∷ (codes "1.1.1.1.1.1.1.1", codes "1.1.1.1.1.1.1.2") ∷ []

-- each of these pairs is in ascending order
earlier_holds : list_all (λ pair. is_some_and is_lt (compared (version pair.0) (version pair.1)) && is_some_and is_gt
    (compared (version pair.1) (version pair.0))) earlier ≡ true
earlier_holds = refl

-- pairs of versions that are equal, written differently
abbrev alike : List (List ℕ × List ℕ)
alike =
    (codes "1", codes "1") ∷ (codes "1", codes "01") ∷ (codes "0", codes "00") ∷ (codes "0", codes "000000000") ∷ (codes "1.2", codes "1.2")
    ∷ (codes "1.2", codes "1.02") ∷ (codes "01.02", codes "1.2") ∷ (codes "10.3", codes "10.3") ∷ (codes "10.3", codes "010.003")
    ∷ (codes "999999999", codes "999999999") ∷ (codes "1.0.0", codes "1.0.0") ∷ (codes "1.0.0", codes "1.00.000") ∷ []

-- each of these pairs is equal
alike_hold : list_all (λ pair. is_some_and is_eq (compared (version pair.0) (version pair.1)) && is_some_and is_eq
    (compared (version pair.1) (version pair.0))) alike ≡ true
alike_hold = refl

-- pairs with a text that is not a version
abbrev no_versions : List (List ℕ × List ℕ)
no_versions =
    (codes "", codes "1") ∷ (codes "1", codes "") ∷ (codes ".", codes "1") ∷ (codes "1", codes "1.") ∷ (codes "1.", codes "1.") ∷
    (codes ".1", codes "1")
    ∷ (codes "1..2", codes "1.2") ∷ (codes "1", codes "1a") ∷ (codes "a", codes "b") ∷ (codes "1-2", codes "1.2") ∷ (codes "1 ", codes "1")
    ∷ (codes " 1", codes "1") ∷ (codes "+1", codes "1") ∷ (codes "-1", codes "1") ∷ (codes "1,2", codes "1.2") ∷ (codes "1", codes "x")
    ∷ (codes "1000000000", codes "1") ∷ (codes "0000000001", codes "1") ∷ (codes "1.1234567890", codes "1")
    ∷ (codes "1.1.1.1.1.1.1.1.1.1.1.1.1.1.1.1.1.1.1.1.1.1.1.1.1.1.1.1.1.1.1.1.1", codes "1") ∷ (codes "10.3.1rc", codes "10.3")
    ∷ (codes "v1", codes "1") ∷ (codes "1:2", codes "1.2") ∷ (codes "1/2", codes "1") ∷ []

-- none of these is a version
no_versions_hold : list_all (λ pair. not (is_some (compared (version pair.0) (version pair.1)))) no_versions ≡ true
no_versions_hold = refl

-- a version may have 32 parts
most_parts : is_some (version (codes "1.1.1.1.1.1.1.1.1.1.1.1.1.1.1.1.1.1.1.1.1.1.1.1.1.1.1.1.1.1.1.1")) ≡ true
most_parts = refl

-- the comparisons with 2 and 4, for values below the first version, at it, between the two, at the second, and above it
abbrev judgements : Operator → List (Result Bool FuncsFault)
judgements operator = map (judged operator (codes "2") (codes "4")) (Some (codes "1.9") ∷ Some (codes "2") ∷ Some (codes "3") ∷ Some
    (codes "4") ∷ Some (codes "4.0") ∷ None ∷ [])

-- >= from below the first version to above the second
at_least : judgements AtLeast ≡ Ok false ∷ Ok true ∷ Ok true ∷ Ok true ∷ Ok true ∷ Ok false ∷ []
at_least = refl

-- its negation
not_at_least : judgements NotAtLeast ≡ Ok true ∷ Ok false ∷ Ok false ∷ Ok false ∷ Ok false ∷ Ok true ∷ []
not_at_least = refl

-- < of the same
below : judgements Below ≡ Ok true ∷ Ok false ∷ Ok false ∷ Ok false ∷ Ok false ∷ Ok false ∷ []
below = refl

-- its negation
not_below : judgements NotBelow ≡ Ok false ∷ Ok true ∷ Ok true ∷ Ok true ∷ Ok true ∷ Ok true ∷ []
not_below = refl

-- from the first version up to below the second
between : judgements Between ≡ Ok false ∷ Ok true ∷ Ok true ∷ Ok false ∷ Ok false ∷ Ok false ∷ []
between = refl

-- its negation
outside : judgements Outside ≡ Ok true ∷ Ok false ∷ Ok false ∷ Ok true ∷ Ok true ∷ Ok false ∷ []
outside = refl

-- the first version is judged first, then the second, then the value
first_version : judged AtLeast (codes "1..2") (codes "x") (Some (codes "y")) ≡ Err (BadVersion (codes "1..2"))
first_version = refl

-- the second version is judged before the value
second_version : judged Between (codes "1") (codes "x") (Some (codes "y")) ≡ Err (BadVersion (codes "x"))
second_version = refl

-- the value is judged last
last_value : judged AtLeast (codes "1") (codes "1") (Some (codes "y")) ≡ Err (BadVersion (codes "y"))
last_value = refl

-- `version-compare` with the switches of a line
abbrev compare : List (List ℕ) → List (List ℕ) → Given
compare names args = version_compare names (map (λ name. false) names) args

-- a switch with a later version gives the word
newer : compare (codes "mv=10.3.1" ∷ []) (codes ">=" ∷ codes "10.3" ∷ codes "mv=" ∷ codes "-lmx" ∷ []) ≡ Ok (Some (codes "-lmx"))
newer = refl

-- one with an earlier version gives none
older : compare (codes "mv=10.2" ∷ []) (codes ">=" ∷ codes "10.3" ∷ codes "mv=" ∷ codes "-lmx" ∷ []) ≡ Ok None
older = refl

-- without the switch a comparison fails
no_switch : compare [] (codes ">=" ∷ codes "10.3" ∷ codes "mv=" ∷ codes "-lmx" ∷ []) ≡ Ok None
no_switch = refl

-- and its negation holds
no_switch_not : compare [] (codes "!>" ∷ codes "10.3" ∷ codes "mv=" ∷ codes "-lmx" ∷ []) ≡ Ok (Some (codes "-lmx"))
no_switch_not = refl

-- the last switch counts
last_switch : compare (codes "mv=1" ∷ codes "mv=11" ∷ codes "g" ∷ []) (codes ">=" ∷ codes "10" ∷ codes "mv=" ∷ codes "x" ∷ [])
    ≡ Ok (Some (codes "x"))
last_switch = refl

-- another operator is refused
bad_operator : compare [] (codes "=" ∷ codes "1" ∷ codes "mv=" ∷ codes "x" ∷ []) ≡ Err (BadOperator (codes "="))
bad_operator = refl

-- and so is another number of arguments
bad_count : compare [] (codes ">=" ∷ codes "1" ∷ codes "mv=" ∷ []) ≡ Err (WrongCount VersionCompare)
bad_count = refl

-- and a text that is no version
bad_version : compare [] (codes ">=" ∷ codes "1..2" ∷ codes "mv=" ∷ codes "x" ∷ []) ≡ Err (BadVersion (codes "1..2"))
bad_version = refl

-- what is known in these examples: some paths and variables
abbrev facts : Facts
facts = record {
  reads = [];
  kinds = (codes "/here", Plain) ∷ (codes "/no", Missing) ∷ [];
  variables = (codes "HERE", Some (codes "/opt")) ∷
      (codes "NOPE", None) ∷ [];
}

-- a variable that is set is put before the string
set_variable : getenv facts (codes "HERE" ∷ codes "/x" ∷ []) ≡ Is (Ok (Some (codes "/opt/x")))
set_variable = refl

-- one that isn't is refused
unset_variable : getenv facts (codes "NOPE" ∷ codes "/x" ∷ []) ≡ Is (Err (VariableMissing (codes "NOPE")))
unset_variable = refl

-- of one that was not asked nothing is known
unasked_variable : getenv facts (codes "THERE" ∷ codes "/x" ∷ []) ≡ Unasked
unasked_variable = refl

-- a path that exists is given
there : if_exists facts (codes "/here" ∷ []) ≡ Is (Ok (Some (codes "/here")))
there = refl

-- one that isn't absolute is not
relative : if_exists facts (codes "here" ∷ []) ≡ Is (Ok None)
relative = refl

-- where the path doesn't exist the other word is given
there_else : if_exists_else facts (codes "/no" ∷ codes "other" ∷ []) ≡ Is (Ok (Some (codes "other")))
there_else = refl

-- or the third
there_then : if_exists_then_else facts (codes "/no" ∷ codes "yes" ∷ codes "no" ∷ []) ≡ Is (Ok (Some (codes "no")))
there_then = refl

-- or nothing, if there is no third
there_nothing : if_exists_then_else facts (codes "/no" ∷ codes "yes" ∷ []) ≡ Is (Ok None)
there_nothing = refl

-- the outputs before a call
abbrev outputs : List (List ℕ)
outputs = codes "-lm" ∷ codes "a.o" ∷ codes "-lm" ∷ []

-- an output is replaced, each time it is there
replaces : called facts [] [] Link ReplaceOutfile (codes "-lm" ∷ codes "-lq" ∷ []) outputs
    ≡ Is (Ok (record { given = None; outputs = codes "-lq" ∷ codes "a.o" ∷ codes "-lq" ∷ [] }))
replaces = refl

-- an output is removed
removes : called facts [] [] Link RemoveOutfile (codes "-lm" ∷ []) outputs ≡ Is (Ok (record { given = None; outputs = codes "a.o" ∷ [] }))
removes = refl

-- elsewhere than in the link's text that is refused
outside_link : called facts [] [] Source ReplaceOutfile [] outputs ≡ Is (Err (NotInLink ReplaceOutfile))
outside_link = refl
