use Rattle.drv_words.specs.declared.plan.Command.{Command}
use Rattle.drv_words.specs.declared.plan.Job.{Job}
use Rattle.drv_words.specs.declared.plan.Plan.{Plan}
use Rattle.drv_words.specs.declared.plan.Temp.{Temp}
use Rattle.json.specs.Json.{Items, Json, Members, array, item, member, no_items, no_members, null, number, object, string}
use Rattle.std.specs.Prelude.{List, [], ◌∷◌, None, Option, Some, codes, decimal, if◌then◌else◌, ℕ}
use Rattle.std.specs.Str.{is_utf8}

-- A plan as a value of JSON (RFC 8259; the names of members are this project's profile).
-- For clauses of src/json_form.rt, src/database.rt and src/changes_json.rt. drv_check, drv_why and gdrv_specs cite it too.
-- PlanOfJson.antt reads what it writes: a member that changes here changes there.

-- the items of an array, each by f
abbrev pub items_json : {A : Type 0} → (A → Json) → List A → Items
items_json f [] = no_items
items_json f (x ∷ xs) = item (f x) (items_json f xs)

-- a list as an array
abbrev pub list_json : {A : Type 0} → (A → Json) → List A → Json
list_json f xs = array (items_json f xs)

-- what may be there: null where it isn't
abbrev pub option_json : {A : Type 0} → (A → Json) → Option A → Json
option_json f None = null
option_json f (Some x) = f x

-- a number in decimal digits
abbrev pub number_json : ℕ → Json
number_json n = number (decimal n)

-- a word is a string where its bytes are text, and else the list of its bytes
abbrev pub word_json : List ℕ → Json
word_json word = if is_utf8 word then string word else list_json number_json word

-- words as an array
abbrev pub words_json : List (List ℕ) → Json
words_json = list_json word_json

-- a command: its program, then its words
abbrev pub command_json : Command → Json
command_json command = words_json (command.program ∷ command.words)

-- a group: its commands in the order of the pipe
abbrev pub group_json : List Command → Json
group_json = list_json command_json

-- a temporary: its path and contents
abbrev pub temp_json : Temp → Json
temp_json temp = object (member (codes "path") (word_json temp.path) (member (codes "contents") (word_json temp.contents) no_members))

-- what a job leaves behind
abbrev pub job_files : Job → Members
job_files job =
    member (codes "temps") (list_json temp_json job.temps)
    (member (codes "marked") (words_json job.marked)
    (member (codes "on_failure") (words_json job.on_failure)
    (member (codes "output") (option_json word_json job.output)
    no_members)))

-- a job as an object
abbrev pub job_json : Job → Json
job_json job =
    object
    (member (codes "source") (option_json number_json job.source)
    (member (codes "groups") (list_json group_json job.groups)
    (job_files job)))

-- a plan as an object: gdrv-specs plan --json prints it
abbrev pub plan_json : Plan → Json
plan_json plan =
    object
    (member (codes "notices") (words_json plan.notices)
    (member (codes "jobs") (list_json job_json plan.jobs)
    (member (codes "link") (option_json job_json plan.link)
    no_members)))
