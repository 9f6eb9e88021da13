use Rattle.drv_system.proofs.AnswerMaps.{keeps_answers}
use Rattle.drv_system.specs.Asking.{Asks, AreNew, AreQuestions, Extends, IsNew, IsQuestion}
use Rattle.drv_system.specs.Facts.{Facts, kind_of, learn, learnt, read_of, variable_of}
use Rattle.drv_system.specs.declared.event.Event.{Event}
use Rattle.drv_system.specs.declared.event.Event.TheVariants.{Read, Kind, Variable, Say, Put, Run}
use Rattle.drv_system.specs.declared.event.PathKind.{PathKind}
use Rattle.drv_system.specs.declared.event.ReadAnswer.{ReadAnswer}
use Rattle.std.proofs.Common.{append_assoc, refl, ap, rules, subst, sym, ◌∙◌}
use Rattle.std.specs.Prelude.{◌≡◌, List, [], ◌∷◌, ◌++◌, Option, Some, ℕ}

-- For each call that asks: several calls that only ask, one after another, only ask, and the facts grow.
-- Names: `F` is the facts before. `F'` is the facts after. `G` is later facts. `journal` is the journal before the call. `journal'` is the
-- journal after the call. `event` is one more event. `Extends F G` says that G keeps every answer of F. `Asks journal journal' F F'` says
-- that a call only asked, and learned the answers. `learnt F event` is the facts after one event. `learn F events` is the facts after the
-- questions among these events. `IsNew`: a question that F has no answer to. `keeps_answers`: one more question changes no known answer.

-- facts keep their own answers
pub extends_refl : (F : Facts) → Extends F F
extends_refl F = record { reads = λ path answer is. is; kinds = λ path kind is. is; variables = λ name value is. is }

-- what is kept twice is kept
pub extends_then : {F G H : Facts} → Extends F G → Extends G H → Extends F H
extends_then first second = record {
  reads = λ path answer is. second.reads path answer (first.reads path answer is);
  kinds = λ path kind is. second.kinds path kind (first.kinds path kind is);
  variables = λ name value is. second.variables name value (first.variables name value is);
}

-- one more event keeps every answer that was known
pub learnt_extends : (F : Facts) (event : Event) → Extends F (learnt F event)
learnt_extends F (Read path answer) = record {
  reads = λ other known is. keeps_answers F.reads path other answer known is;
  kinds = λ other known is. is;
  variables = λ other known is. is;
}
learnt_extends F (Kind path kind) = record {
  reads = λ other known is. is;
  kinds = λ other known is. keeps_answers F.kinds path other kind known is;
  variables = λ other known is. is;
}
learnt_extends F (Variable name value) = record {
  reads = λ other known is. is;
  kinds = λ other known is. is;
  variables = λ other known is. keeps_answers F.variables name other value known is;
}
learnt_extends F (Say text answer) = extends_refl F
learnt_extends F (Put text answer) = extends_refl F
learnt_extends F (Run e) = extends_refl F

-- to learn keeps every answer
pub learn_extends : (F : Facts) (events : List Event) → Extends F (learn F events)
learn_extends F [] = extends_refl F
learn_extends F (event ∷ events) = extends_then (learnt_extends F event) (learn_extends (learnt F event) events)

-- journals are learned in two parts, one after the other
pub learn-append : (F : Facts) (first second : List Event) → learn F (first ++ second) ≡ learn (learn F first) second
learn-append F [] second = refl
learn-append F (event ∷ first) second = learn-append (learnt F event) first second

-- questions that are new, one part after the other, are new together
pub new_append : (F : Facts) (first second : List Event) → AreNew F first → AreNew (learn F first) second → AreNew F (first ++ second)
new_append F [] second new new' = new'
new_append F (event ∷ first) second new new' = (new.0, new_append (learnt F event) first second new.1 new')

-- a call that asks nothing only asks
pub asks_nothing : (journal : List Event) (F : Facts) → Asks journal journal F F
asks_nothing journal F = record { asked = []; questions = tt; journal_grows = search rules; facts_grow = refl }

-- a call that asks nothing only asked
pub asks_unchanged : {journal journal' : List Event} {F F' : Facts} → journal' ≡ journal → F' ≡ F → Asks journal journal' F F'
asks_unchanged {journal} {F = F} same_journal same_facts = rw (same_journal, same_facts) (asks_nothing journal F)

-- a call that asks one new question only asks
pub asks_one : (journal : List Event) (F : Facts) (event : Event) → IsNew F event → Asks journal (journal ++ event ∷ []) F (learnt F event)
asks_one journal F event new = record { asked = event ∷ []; questions = (new, tt); journal_grows = refl; facts_grow = refl }

-- a call that asks one new question only asked
pub asks_new : {journal journal' : List Event} {F F' : Facts} (event : Event)
    → IsNew F event → journal' ≡ journal ++ event ∷ [] → F' ≡ learnt F event → Asks journal journal' F F'
asks_new {journal} {F = F} event new journal_grows facts_grow = rw (journal_grows, facts_grow) (asks_one journal F event new)

-- one call that only asks after another
pub asks_then : {journal journal' journal'' : List Event} {F F' F'' : Facts}
    → Asks journal journal' F F' → Asks journal' journal'' F' F'' → Asks journal journal'' F F''
asks_then {journal} {F = F} first second = record {
  asked = first.asked ++ second.asked;
  questions = new_append F first.asked second.asked first.questions (subst (λ G. AreNew G second.asked) first.facts_grow second.questions);
  journal_grows = second.journal_grows ∙ ap (λ events. events ++ second.asked) first.journal_grows
      ∙ append_assoc journal first.asked second.asked;
  facts_grow = second.facts_grow ∙ ap (λ G. learn G second.asked) first.facts_grow ∙ sym (learn-append F first.asked second.asked);
}

-- a call that only asked keeps every answer
pub asks_extends : {journal journal' : List Event} {F F' : Facts} → Asks journal journal' F F' → Extends F F'
asks_extends {F = F} asks = subst (λ G. Extends F G) (sym asks.facts_grow) (learn_extends F asks.asked)

-- facts that grow keep what a call has learnt
pub read_stays : {journal journal' : List Event} {F F' G : Facts} (path : List ℕ) (answer : ReadAnswer)
    → Asks journal journal' F F' → Extends F' G → read_of F path ≡ Some answer → read_of G path ≡ Some answer
read_stays path answer asks extends is = (extends_then (asks_extends asks) extends).reads path answer is

-- the kind of a path that a call asked stays known
pub kind_stays : {journal journal' : List Event} {F F' G : Facts} (path : List ℕ) (kind : PathKind)
    → Asks journal journal' F F' → Extends F' G → kind_of F path ≡ Some kind → kind_of G path ≡ Some kind
kind_stays path kind asks extends is = (extends_then (asks_extends asks) extends).kinds path kind is

-- and so does the value of a variable
pub variable_stays : {journal journal' : List Event} {F F' G : Facts} (name : List ℕ) (value : Option (List ℕ))
    → Asks journal journal' F F' → Extends F' G → variable_of F name ≡ Some value → variable_of G name ≡ Some value
variable_stays name value asks extends is = (extends_then (asks_extends asks) extends).variables name value is

-- a new event is a question
is_question : (F : Facts) (event : Event) → IsNew F event → IsQuestion event
is_question F (Read path answer) new = tt
is_question F (Kind path kind) new = tt
is_question F (Variable name value) new = tt
is_question F (Say text answer) new = absurd new
is_question F (Put text answer) new = absurd new
is_question F (Run e) new = absurd new

-- new questions are questions: no step of a run is among them
pub are_questions : (F : Facts) (events : List Event) → AreNew F events → AreQuestions events
are_questions F [] new = tt
are_questions F (event ∷ events) new = (is_question F event new.0, are_questions (learnt F event) events new.1)
