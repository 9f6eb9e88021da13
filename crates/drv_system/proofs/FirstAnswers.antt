use Rattle.drv_system.proofs.AnswerMaps.{answer_to-with_answer, or_none}
use Rattle.drv_system.specs.Facts.{Facts, first_kind, first_read, first_variable, kind_of, learn, learnt, read_of, variable_of}
use Rattle.drv_system.specs.declared.event.Event.{Event}
use Rattle.drv_system.specs.declared.event.Event.TheVariants.{Read, Kind, Variable, Say, Put, Run}
use Rattle.std.proofs.Common.{ap, refl, ◌∙◌}
use Rattle.std.specs.Option.{option_or}
use Rattle.std.specs.Prelude.{◌≡◌, Bool, List, [], ◌∷◌, None, Option, Some, false, if◌then◌else◌, true, ℕ}

-- For first_answers_law: learning a journal gives its first answers.
-- Names: `F` is the facts before. `events` is the journal before, or a part of it. `learnt F event` is the facts after one event.
-- `learn F events` is the facts after the questions among these events.

-- a known answer, then this one, then the later ones
in_turn : {Y : Type 0} (known rest : Option Y) (same : Bool) (answer : Y)
    → option_or (option_or known (if same then Some answer else None)) rest ≡ option_or known (if same then Some answer else rest)
in_turn None rest true answer = refl
in_turn None rest false answer = refl
in_turn (Some y) rest true answer = refl
in_turn (Some y) rest false answer = refl

-- after a journal the read of a path is known by the first event that reads it
pub reads_first : (F : Facts) (events : List Event) (path : List ℕ) → read_of (learn F events) path ≡ option_or (read_of F path)
    (first_read path events)
reads_first F [] path = or_none (read_of F path)
reads_first F (Read other answer ∷ events) path = reads_first (learnt F (Read other answer)) events path
    ∙ ap (λ known. option_or known (first_read path events)) (answer_to-with_answer F.reads other path answer)
    ∙ in_turn (read_of F path) (first_read path events) _ answer
reads_first F (Kind other kind ∷ events) path = reads_first (learnt F (Kind other kind)) events path
reads_first F (Variable other value ∷ events) path = reads_first (learnt F (Variable other value)) events path
reads_first F (Say text answer ∷ events) path = reads_first F events path
reads_first F (Put text answer ∷ events) path = reads_first F events path
reads_first F (Run e ∷ events) path = reads_first F events path

-- the same of the kind of a path
pub kinds_first : (F : Facts) (events : List Event) (path : List ℕ) → kind_of (learn F events) path ≡ option_or (kind_of F path)
    (first_kind path events)
kinds_first F [] path = or_none (kind_of F path)
kinds_first F (Kind other kind ∷ events) path = kinds_first (learnt F (Kind other kind)) events path
    ∙ ap (λ known. option_or known (first_kind path events)) (answer_to-with_answer F.kinds other path kind)
    ∙ in_turn (kind_of F path) (first_kind path events) _ kind
kinds_first F (Read other answer ∷ events) path = kinds_first (learnt F (Read other answer)) events path
kinds_first F (Variable other value ∷ events) path = kinds_first (learnt F (Variable other value)) events path
kinds_first F (Say text answer ∷ events) path = kinds_first F events path
kinds_first F (Put text answer ∷ events) path = kinds_first F events path
kinds_first F (Run e ∷ events) path = kinds_first F events path

-- and of the value of a variable
pub variables_first : (F : Facts) (events : List Event) (name : List ℕ) → variable_of (learn F events) name ≡ option_or (variable_of F name)
    (first_variable name events)
variables_first F [] name = or_none (variable_of F name)
variables_first F (Variable other value ∷ events) name = variables_first (learnt F (Variable other value)) events name
    ∙ ap (λ known. option_or known (first_variable name events)) (answer_to-with_answer F.variables other name value)
    ∙ in_turn (variable_of F name) (first_variable name events) _ value
variables_first F (Read other answer ∷ events) name = variables_first (learnt F (Read other answer)) events name
variables_first F (Kind other kind ∷ events) name = variables_first (learnt F (Kind other kind)) events name
variables_first F (Say text answer ∷ events) name = variables_first F events name
variables_first F (Put text answer ∷ events) name = variables_first F events name
variables_first F (Run e ∷ events) name = variables_first F events name
