use Rattle.drv_system.specs.Facts.{Facts, kind_of, learn, learnt, read_of, variable_of}
use Rattle.drv_system.specs.declared.event.Event.{Event}
use Rattle.drv_system.specs.declared.event.Event.TheVariants.{Read, Kind, Variable}
use Rattle.drv_system.specs.declared.event.PathKind.{PathKind}
use Rattle.drv_system.specs.declared.event.ReadAnswer.{ReadAnswer}
use Rattle.std.specs.Prelude.{◌≡◌, IsOk, List, [], ◌∷◌, ◌++◌, None, Option, Result, Some, Ok, Err, ℕ, ⊤}

-- What a call may ask the outside, and how its facts grow by that (this project's profile).

-- an event that is a question
abbrev pub IsQuestion : Event → Type 0
IsQuestion (Read path answer) = ⊤
IsQuestion (Kind path kind) = ⊤
IsQuestion (Variable name value) = ⊤
IsQuestion event = ⊥

-- all of these events are questions
abbrev pub AreQuestions : List Event → Type 0
AreQuestions [] = ⊤
AreQuestions (event ∷ events) = IsQuestion event × AreQuestions events

-- a question that F has no answer to
abbrev pub IsNew : Facts → Event → Type 0
IsNew F (Read path answer) = read_of F path ≡ None
IsNew F (Kind path kind) = kind_of F path ≡ None
IsNew F (Variable name value) = variable_of F name ≡ None
IsNew F event = ⊥

-- questions that neither F nor an earlier one of them answers
abbrev pub AreNew : Facts → List Event → Type 0
AreNew F [] = ⊤
AreNew F (event ∷ events) = IsNew F event × AreNew (learnt F event) events

-- a call that only asks: it adds new questions to the journal, and their answers to the facts
pub record Asks (journal journal' : List Event) (F F' : Facts) : Type 0 where
  pub asked : List Event
  pub questions : AreNew F asked
  pub journal_grows : journal' ≡ journal ++ asked
  pub facts_grow : F' ≡ learn F asked

-- G has every answer of F
pub record Extends (F G : Facts) : Type 0 where
  pub reads : (path : List ℕ) (answer : ReadAnswer) → read_of F path ≡ Some answer → read_of G path ≡ Some answer
  pub kinds : (path : List ℕ) (kind : PathKind) → kind_of F path ≡ Some kind → kind_of G path ≡ Some kind
  pub variables : (name : List ℕ) (value : Option (List ℕ)) → variable_of F name ≡ Some value → variable_of G name ≡ Some value

-- One look-up. If the answer is known, the call succeeds and changes nothing. Otherwise it asks the question once and keeps the answer. If
-- it runs out of memory, it changes nothing.
abbrev pub Consults : {X Y E : Type 0} → List Event → List Event → Facts → Facts → (X → Event) → Option X → Result Y E → Option X → Type 0
Consults journal journal' F F' event (Some known) result after = (journal' ≡ journal) × (F' ≡ F) × IsOk result
Consults journal journal' F F' event None (Ok y) (Some answer) = (journal' ≡ journal ++ event answer ∷ []) × (F' ≡ learnt F (event answer))
Consults journal journal' F F' event None (Ok y) None = ⊥
Consults journal journal' F F' event None (Err e) after = (journal' ≡ journal) × (F' ≡ F)
