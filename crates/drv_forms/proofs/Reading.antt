use Rattle.drv_forms.specs.Fits.{Each, IsCommand, IsJob, IsNumber, IsPlan, IsTemp, IsWord, Maybe}
use Rattle.drv_forms.specs.PlanJson.{command_json, group_json, items_json, job_json, list_json, number_json, option_json, plan_json}
use Rattle.drv_forms.specs.PlanJson.{temp_json, word_json, words_json}
use Rattle.drv_forms.specs.PlanOfJson.{all_of, command_from, command_of, group_of, job_of, list_of, number_of, option_of, plan_of, temp_of}
use Rattle.drv_forms.specs.PlanOfJson.{word_of, words_of}
use Rattle.drv_words.specs.declared.plan.Command.{Command}
use Rattle.drv_words.specs.declared.plan.Job.{Job}
use Rattle.drv_words.specs.declared.plan.Plan.{Plan}
use Rattle.drv_words.specs.declared.plan.Temp.{Temp}
use Rattle.json.specs.Json.{Json, string}
use Rattle.std.proofs.Common.{◌≡◌, ◌<◌, Bool, false, true, List, [], ◌∷◌, None, Option, Some, if◌then◌else◌, option_and_then, option_map}
use Rattle.std.proofs.Common.{refl, ap, ◌∙◌, arith, ℕ}
use Rattle.std.proofs.lemmas.Fmt.{decimal_is_IsNumeral}
use Rattle.std.specs.Str.{is_utf8}

-- For `plan_json` (src/json_form.rt): the plan that is read from a plan's JSON is that plan.
-- Names: `A`, `B`: any type. `xs`: a list. `n`: an index. `t`: a test's value, so that `by` can go by both cases. `number_json`: a number
-- in decimal digits. `word_of`: the word that a value shows. `number_of`: the number that a value shows, if it is one.

-- what is read first is there, and so is what is read after it: a step of the proofs of `job_back` and `plan_back`
goes_on : {A B : Type 0} (read : Option A) (value : A) (f : A → Option B) (given : Option B) → read ≡ Some value → f value ≡ given
    → option_and_then f read ≡ given
goes_on read value f given is gives = ap (option_and_then f) is ∙ gives

-- what is read last is there: the last step of these proofs
ends : {A B : Type 0} (read : Option A) (value : A) (f : A → B) → read ≡ Some value → option_map f read ≡ Some (f value)
ends read value f is = ap (option_map f) is

-- a list is read back from its array, if each item is
items_back : {A : Type 0} (write : A → Json) (read : Json → Option A) (P : A → Type 0) → ((x : A) → P x → read (write x) ≡ Some x)
    → (xs : List A) → Each P xs → all_of read (items_json write xs) ≡ Some xs
items_back write read P back [] each = refl
items_back write read P back (x ∷ xs) each =
    goes_on (read (write x)) x _ _ (back x each.0) (ends (all_of read (items_json write xs)) xs _ (items_back write read P back xs each.1))

-- a number is read back from its digits
number_back : (n : ℕ) → IsNumber n → number_of (number_json n) ≡ Some n
number_back n is = ap Some (decimal_is_IsNumeral n is).1

-- bytes are read back from a list of numbers
bytes_back : (word : List ℕ) → IsWord word → all_of number_of (items_json number_json word) ≡ Some word
bytes_back = items_back number_json number_of (λ byte. byte < 256) (λ byte is. number_back byte (omega arith))

-- a word is read back from its string, or from its list of bytes
word_back : (word : List ℕ) → IsWord word → word_of (word_json word) ≡ Some word
word_back word is = by (is_utf8 word) (bytes_back word is)
  where
    by : (t : Bool) → all_of number_of (items_json number_json word) ≡ Some word
        → word_of (if t then string word else list_json number_json word) ≡ Some word
    by true back = refl
    by false back = back

-- words are read back from their array
words_back : (words : List (List ℕ)) → Each IsWord words → words_of (words_json words) ≡ Some words
words_back = items_back word_json word_of IsWord word_back

-- the number of a source is read back, or that there is none
source_back : (source : Option ℕ) → Maybe IsNumber source → option_of number_of (option_json number_json source) ≡ Some source
source_back None is = refl
source_back (Some n) is = ap (option_map Some) (number_back n is)

-- an output is read back, or that there is none
output_back : (output : Option (List ℕ)) → Maybe IsWord output → option_of word_of (option_json word_json output) ≡ Some output
output_back None is = refl
output_back (Some word) is = by (is_utf8 word) (bytes_back word is)
  where
    by : (t : Bool) → all_of number_of (items_json number_json word) ≡ Some word
        → option_of word_of (if t then string word else list_json number_json word) ≡ Some (Some word)
    by true back = refl
    by false back = ap (option_map Some) back

-- a command is read back: its words' array is not empty, since the program is the first
command_back : (command : Command) → IsCommand command → command_of (command_json command) ≡ Some command
command_back command is = ap (option_and_then command_from) (words_back (command.program ∷ command.words) is)

-- a group is read back
group_back : (group : List Command) → Each IsCommand group → group_of (group_json group) ≡ Some group
group_back = items_back command_json command_of IsCommand command_back

-- a temporary is read back, member by member
temp_back : (temp : Temp) → IsTemp temp → temp_of (temp_json temp) ≡ Some temp
temp_back temp is =
    goes_on (word_of (word_json temp.path)) temp.path _ _ (word_back temp.path is.0)
    (ends (word_of (word_json temp.contents)) temp.contents _ (word_back temp.contents is.1))

-- a job is read back, member by member
job_back : (job : Job) → IsJob job → job_of (job_json job) ≡ Some job
job_back job is =
    goes_on (option_of number_of (option_json number_json job.source)) job.source _ _ (source_back job.source is.source)
    (goes_on (list_of group_of (list_json group_json job.groups)) job.groups _ _
    (items_back group_json group_of (Each IsCommand) group_back job.groups is.groups)
    (goes_on (list_of temp_of (list_json temp_json job.temps)) job.temps _ _
    (items_back temp_json temp_of IsTemp temp_back job.temps is.temps)
    (goes_on (words_of (words_json job.marked)) job.marked _ _ (words_back job.marked is.marked)
    (goes_on (words_of (words_json job.on_failure)) job.on_failure _ _ (words_back job.on_failure is.on_failure)
    (ends (option_of word_of (option_json word_json job.output)) job.output _ (output_back job.output is.output))))))

-- the link is read back, or that there is none
link_back : (link : Option Job) → Maybe IsJob link → option_of job_of (option_json job_json link) ≡ Some link
link_back None is = refl
link_back (Some job) is = ap (option_map Some) (job_back job is)

-- a plan whose numbers and bytes fit is read back: nothing of it is lost in JSON
pub plan_back : (plan : Plan) → IsPlan plan → plan_of (plan_json plan) ≡ Some plan
plan_back plan is =
    goes_on (words_of (words_json plan.notices)) plan.notices _ _ (words_back plan.notices is.notices)
    (goes_on (list_of job_of (list_json job_json plan.jobs)) plan.jobs _ _ (items_back job_json job_of IsJob job_back plan.jobs is.jobs)
    (ends (option_of job_of (option_json job_json plan.link)) plan.link _ (link_back plan.link is.link)))
