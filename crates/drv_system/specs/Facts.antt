use Rattle.drv_system.specs.declared.event.Event.{Event}
use Rattle.drv_system.specs.declared.event.Event.TheVariants.{Read, Kind, Variable}
use Rattle.drv_system.specs.declared.event.PathKind.{PathKind}
use Rattle.drv_system.specs.declared.event.ReadAnswer.{ReadAnswer}
use Rattle.std.specs.BTreeMap.{insert_entry, is_at}
use Rattle.std.specs.Cmp.Lexicographic.{slice_cmp}
use Rattle.std.specs.Map.{lookup}
use Rattle.std.specs.Ordering.{nat_cmp}
use Rattle.std.specs.Prelude.{List, [], ◌∷◌, None, Option, Some, if◌then◌else◌, is_some, ℕ}

-- What is known of the outside: three finite maps from a path or a name to the first answer (this project's profile). A finite map is the
-- list of its pairs, ordered by their keys, byte by byte.

-- the answer that a map has for a key
abbrev pub answer_to : {Y : Type 0} → List (List ℕ × Y) → List ℕ → Option Y
answer_to answers key = lookup (is_at (slice_cmp nat_cmp key)) answers

-- a map with one pair at its place
abbrev pub with_pair : {Y : Type 0} → List (List ℕ × Y) → List ℕ → Y → List (List ℕ × Y)
with_pair answers key answer = insert_entry (slice_cmp nat_cmp) answers key answer

-- a map with one more answer; a key that has an answer keeps it
abbrev pub with_answer : {Y : Type 0} → List (List ℕ × Y) → List ℕ → Y → List (List ℕ × Y)
with_answer answers key answer = if is_some (answer_to answers key) then answers else with_pair answers key answer

-- what is known about files, about the kinds of paths, and about variables
pub record Facts : Type 0 where
  pub reads : List (List ℕ × ReadAnswer)
  pub kinds : List (List ℕ × PathKind)
  pub variables : List (List ℕ × Option (List ℕ))

-- facts in which a variable has a value, whatever it had before
abbrev pub with_value : Facts → List ℕ → Option (List ℕ) → Facts
with_value F name value = record F { variables = with_pair F.variables name value }

-- nothing is known yet
abbrev pub no_facts : Facts
no_facts = record { reads = []; kinds = []; variables = [] }

-- the known answer to the read of a path
abbrev pub read_of : Facts → List ℕ → Option ReadAnswer
read_of F path = answer_to F.reads path

-- the known kind of a path
abbrev pub kind_of : Facts → List ℕ → Option PathKind
kind_of F path = answer_to F.kinds path

-- the value None means that the variable is known to be unset
abbrev pub variable_of : Facts → List ℕ → Option (Option (List ℕ))
variable_of F name = answer_to F.variables name

-- the facts after an event: only a question adds to them
abbrev pub learnt : Facts → Event → Facts
learnt F (Read path answer) = record F { reads = with_answer F.reads path answer }
learnt F (Kind path kind) = record F { kinds = with_answer F.kinds path kind }
learnt F (Variable name value) = record F { variables = with_answer F.variables name value }
learnt F event = F

-- the facts after events: `learn no_facts events` are the first answers of a journal
abbrev pub learn : Facts → List Event → Facts
learn F [] = F
learn F (event ∷ events) = learn (learnt F event) events

-- The first answers in a journal.

-- the first answer among events to the read of a path
abbrev pub first_read : List ℕ → List Event → Option ReadAnswer
first_read path [] = None
first_read path (Read other answer ∷ events) = if is_at (slice_cmp nat_cmp path) other then Some answer else first_read path events
first_read path (event ∷ events) = first_read path events

-- the first kind of a path among events
abbrev pub first_kind : List ℕ → List Event → Option PathKind
first_kind path [] = None
first_kind path (Kind other kind ∷ events) = if is_at (slice_cmp nat_cmp path) other then Some kind else first_kind path events
first_kind path (event ∷ events) = first_kind path events

-- the first value of a variable among events
abbrev pub first_variable : List ℕ → List Event → Option (Option (List ℕ))
first_variable name [] = None
first_variable name (Variable other value ∷ events) =
    if is_at (slice_cmp nat_cmp name) other then Some value else first_variable name events
first_variable name (event ∷ events) = first_variable name events
