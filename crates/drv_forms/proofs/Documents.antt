use Rattle.drv_forms.specs.PlanJson.{command_json, group_json, items_json, job_json, list_json, number_json, option_json, plan_json}
use Rattle.drv_forms.specs.PlanJson.{temp_json, word_json, words_json}
use Rattle.drv_words.specs.declared.plan.Command.{Command}
use Rattle.drv_words.specs.declared.plan.Job.{Job}
use Rattle.drv_words.specs.declared.plan.Plan.{Plan}
use Rattle.drv_words.specs.declared.plan.Temp.{Temp}
use Rattle.json.proofs.Printed.Trees.{value-json_tokens}
use Rattle.json.specs.Json.{Json, document, if_last, max_depth, string, value}
use Rattle.json.specs.Lex.{tokens}
use Rattle.json.specs.Tree.{depth, items_depth, json_tokens}
use Rattle.std.proofs.Common.{◌≡◌, ◌≤◌, Bool, false, true, List, [], ◌∷◌, None, Option, Some, if◌then◌else◌, option_and_then, sym, ap, ◌∙◌}
use Rattle.std.proofs.Common.{append-nil, arith, ℕ}
use Rattle.std.specs.Str.{is_utf8}

-- For `plan_json` (src/json_form.rt): the text of the tokens is read as the plan's value, which doesn't nest too deep.
-- Names: `A`: any type. `xs`: a list. `number_json`: a number in decimal digits.

-- tokens of a value are its whole text, if the value doesn't nest too deep: a reader takes them for that value and nothing after it
pub document_of : (text : List ℕ) (json : Json) → tokens text ≡ json_tokens json → depth json ≤ max_depth → document text ≡ Some json
document_of text json are shallow =
    ap (option_and_then (λ p. if_last p.0 p.1))
    (ap (value max_depth) (are ∙ sym (append-nil (json_tokens json))) ∙ value-json_tokens json max_depth [] shallow)

-- an array nests at most one deeper than each of its items
items_shallow : {A : Type 0} (f : A → Json) (d : ℕ) → ((x : A) → depth (f x) ≤ d) → (xs : List A) → items_depth (items_json f xs) ≤ d
items_shallow f d each [] = omega arith
items_shallow f d each (x ∷ xs) = omega (arith, each x, items_shallow f d each xs)

-- a word is a string or one array
word_shallow : (word : List ℕ) → depth (word_json word) ≤ 1
word_shallow word = by (is_utf8 word) (items_shallow number_json 0 (λ n. omega arith) word)
  where
    by : (t : Bool) → items_depth (items_json number_json word) ≤ 0 → depth (if t then string word else list_json number_json word) ≤ 1
    by true shallow = omega arith
    by false shallow = omega arith

-- a list of words nests at most two deep
words_shallow : (words : List (List ℕ)) → depth (words_json words) ≤ 2
words_shallow words = omega (arith, items_shallow word_json 1 word_shallow words)

-- a command is a list of words, and nests as deep
command_shallow : (command : Command) → depth (command_json command) ≤ 2
command_shallow command = words_shallow (command.program ∷ command.words)

-- a group is an array of commands
group_shallow : (group : List Command) → depth (group_json group) ≤ 3
group_shallow group = omega (arith, items_shallow command_json 2 command_shallow group)

-- a temporary is an object with two words
temp_shallow : (temp : Temp) → depth (temp_json temp) ≤ 2
temp_shallow temp = omega (arith, word_shallow temp.path, word_shallow temp.contents)

-- the number of a source nests in nothing, nor does null
source_shallow : (source : Option ℕ) → depth (option_json number_json source) ≤ 0
source_shallow None = omega arith
source_shallow (Some n) = omega arith

-- an output is a word or null
output_shallow : (output : Option (List ℕ)) → depth (option_json word_json output) ≤ 1
output_shallow None = omega arith
output_shallow (Some word) = word_shallow word

-- a job nests as deep as its groups, in an object
job_shallow : (job : Job) → depth (job_json job) ≤ 5
job_shallow job =
    omega (
      arith,
      source_shallow job.source,
      items_shallow group_json 3 group_shallow job.groups,
      items_shallow temp_json 2 temp_shallow job.temps,
      words_shallow job.marked,
      words_shallow job.on_failure,
      output_shallow job.output,
    )

-- the link is a job or null
link_shallow : (link : Option Job) → depth (option_json job_json link) ≤ 5
link_shallow None = omega arith
link_shallow (Some job) = job_shallow job

-- no plan nests deeper than a reader goes, whatever it has
pub plan_shallow : (plan : Plan) → depth (plan_json plan) ≤ max_depth
plan_shallow plan = omega (arith, words_shallow plan.notices, items_shallow job_json 5 job_shallow plan.jobs, link_shallow plan.link)
