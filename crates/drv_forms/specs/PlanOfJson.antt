use Rattle.drv_words.specs.declared.plan.Command.{Command}
use Rattle.drv_words.specs.declared.plan.Job.{Job}
use Rattle.drv_words.specs.declared.plan.Plan.{Plan}
use Rattle.drv_words.specs.declared.plan.Temp.{Temp}
use Rattle.json.specs.Json.{Items, Json, Members, array, boolean, item, member, no_items, no_members, null, number, object, string}
use Rattle.std.specs.Prelude.{List, [], ◌∷◌, None, Option, Some, codes, if◌then◌else◌, option_and_then, option_map, ℕ}
use Rattle.std.specs.Str.{bytes_eq}
use Rattle.std.specs.Str.Parse.{digits_value}

-- The plan that a value of JSON shows. Members may come in any order, and of one that comes twice the first counts; a member
-- that a plan doesn't have is passed over.
-- For clauses of src/json_form.rt.

-- the number that a value shows, if it is one
abbrev pub number_of : Json → Option ℕ
number_of (number digits) = Some (digits_value 10 digits)
number_of json = None

-- the values of an array's items, if f reads each of them
abbrev pub all_of : {A : Type 0} → (Json → Option A) → Items → Option (List A)
all_of f no_items = Some []
all_of f (item json items) = option_and_then (λ x. option_map (λ xs. x ∷ xs) (all_of f items)) (f json)

-- the list that an array shows
abbrev pub list_of : {A : Type 0} → (Json → Option A) → Json → Option (List A)
list_of f (array items) = all_of f items
list_of f json = None

-- what may be there: null shows that it isn't
abbrev pub option_of : {A : Type 0} → (Json → Option A) → Json → Option (Option A)
option_of f null = Some None
option_of f (boolean b) = option_map Some (f (boolean b))
option_of f (number digits) = option_map Some (f (number digits))
option_of f (string text) = option_map Some (f (string text))
option_of f (array items) = option_map Some (f (array items))
option_of f (object members) = option_map Some (f (object members))

-- the word that a value shows: a string, or the list of its bytes
abbrev pub word_of : Json → Option (List ℕ)
word_of (string text) = Some text
word_of (array items) = all_of number_of items
word_of json = None

-- the words that an array shows
abbrev pub words_of : Json → Option (List (List ℕ))
words_of = list_of word_of

-- the first member of a name
abbrev pub named : List ℕ → Members → Option Json
named name no_members = None
named name (member key json members) = if bytes_eq name key then Some json else named name members

-- the member of an object, read by f
abbrev pub field : {A : Type 0} → List ℕ → (Json → Option A) → Json → Option A
field name f (object members) = option_and_then f (named name members)
field name f json = None

-- the first word is the program
abbrev pub command_from : List (List ℕ) → Option Command
command_from [] = None
command_from (program ∷ words) = Some (record { program = program; words = words })

-- the command that an array of words shows; an empty one shows none
abbrev pub command_of : Json → Option Command
command_of json = option_and_then command_from (words_of json)

-- the group that an array shows: its commands in the order of the pipe
abbrev pub group_of : Json → Option (List Command)
group_of = list_of command_of

-- the temporary that an object shows
abbrev pub temp_of : Json → Option Temp
temp_of json =
    option_and_then (λ path.
    option_map (λ contents. record { path = path; contents = contents })
    (field (codes "contents") word_of json))
    (field (codes "path") word_of json)

-- the job that an object shows
abbrev pub job_of : Json → Option Job
job_of json =
    option_and_then (λ source.
    option_and_then (λ groups.
    option_and_then (λ temps.
    option_and_then (λ marked.
    option_and_then (λ on_failure.
    option_map (λ output. record {
      source = source;
      groups = groups;
      temps = temps;
      marked = marked;
      on_failure = on_failure;
      output =
          output;
    })
    (field (codes "output") (option_of word_of) json))
    (field (codes "on_failure") words_of json))
    (field (codes "marked") words_of json))
    (field (codes "temps") (list_of temp_of) json))
    (field (codes "groups") (list_of group_of) json))
    (field (codes "source") (option_of number_of) json)

-- the plan that an object shows, if its members are those of one
abbrev pub plan_of : Json → Option Plan
plan_of json =
    option_and_then (λ notices.
    option_and_then (λ jobs.
    option_map (λ link. record { notices = notices; jobs = jobs; link = link })
    (field (codes "link") (option_of job_of) json))
    (field (codes "jobs") (list_of job_of) json))
    (field (codes "notices") words_of json)
