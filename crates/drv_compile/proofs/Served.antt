use Rattle.drv_args.specs.declared.line.Input.{Input}
use Rattle.drv_args.specs.declared.line.Line.{Line}
use Rattle.drv_compile.specs.Languages.{first_unserved, or_next, unserved}
use Rattle.drv_compile.specs.Runs.{work_by, work_served}
use Rattle.drv_plan.specs.declared.fault.PlanFault.TheVariants.{Memory, NotInstalled}
use Rattle.drv_plan.specs.declared.fault.PlanFault.{PlanFault}
use Rattle.drv_run.specs.Drives.{work_of}
use Rattle.drv_run.specs.declared.work.Work.{Work}
use Rattle.drv_specs.specs.Sets.{Set}
use Rattle.drv_system.specs.Facts.{Facts}
use Rattle.drv_system.specs.Gives.{GivesKnown}
use Rattle.drv_system.specs.Known.{Is}
use Rattle.std.proofs.Common.{◌≡◌, ◌<◌, ◌≤◌, ◌+◌, ◌∙◌, ◌∷◌, Err, List, None, Option, Result, Some, ap, drop, false, length, subst, sym}
use Rattle.std.proofs.Common.{true, ℕ}
use Rattle.std.proofs.lemmas.Bool.{false≢true}
use Rattle.std.proofs.lemmas.List.{drop_all, drop_more}
use Rattle.std.specs.Option.{option_map}
use Rattle.std.specs.Prelude.{get_or, is_some}

-- For sources in languages that no spec file serves (src/languages.rt, src/running.rt).
-- Names: `set` is the spec texts of a line, and `inputs` its inputs, of which `input` is the one at index `i`. `found` is the language of
-- that input as the code has it, if no spec file serves it, and `f` shows it. `language` is the first one of all inputs. `F`, `line` and
-- `seed` are what the work of a line is made of (specs/Runs). `result` is what the code's call gives.

-- For `first_unserved`: if input i has no such language, then the first one is among the inputs after it.
pub served_more : {A : Type 0} (f : A → List ℕ) (set : Set) (inputs : List Input) (i : ℕ) (input : Input) (found : Option A)
    → i < length inputs → input ≡ get_or inputs i input → option_map f found ≡ unserved set input → is_some found ≡ false
    → first_unserved set (drop i inputs) ≡ first_unserved set inputs
    → first_unserved set (drop (i + 1) inputs) ≡ first_unserved set inputs
served_more f set inputs i input (Some language) below here is none so_far = absurd (false≢true (sym none))
served_more f set inputs i input None below here is none so_far =
    sym (ap (first_unserved set) (drop_more inputs i input below ∙ ap (λ x. x ∷ drop (i + 1) inputs) (sym here))
    ∙ ap (λ o. or_next o (first_unserved set (drop (i + 1) inputs))) (sym is))
    ∙ so_far

-- For `first_unserved`: if input i has such a language, then it is the first.
pub served_not : {A : Type 0} (f : A → List ℕ) (set : Set) (inputs : List Input) (i : ℕ) (input : Input) (found : Option A)
    → i < length inputs → input ≡ get_or inputs i input → option_map f found ≡ unserved set input → is_some found ≡ true
    → first_unserved set (drop i inputs) ≡ first_unserved set inputs → option_map f found ≡ first_unserved set inputs
served_not f set inputs i input None below here is some so_far = absurd (false≢true some)
served_not f set inputs i input (Some language) below here is some so_far =
    sym (ap (first_unserved set) (drop_more inputs i input below ∙ ap (λ x. x ∷ drop (i + 1) inputs) (sym here))
    ∙ ap (λ o. or_next o (first_unserved set (drop (i + 1) inputs))) (sym is))
    ∙ so_far

-- For `first_unserved`: once all inputs were asked for, none has such a language.
pub served_all : (set : Set) (inputs : List Input) (i : ℕ) → length inputs ≤ i
    → first_unserved set (drop i inputs) ≡ first_unserved set inputs → None ≡ first_unserved set inputs
served_all set inputs i past so_far = sym (ap (first_unserved set) (drop_all i inputs past)) ∙ so_far

-- For `served_work`: if each source is served, then the line's work is that of its plan.
pub served_plan : (F : Facts) (line : Line) (set : Set) (seed : ℕ) (slice : List Input) (language : Option (List ℕ))
    (result : Result Work PlanFault) → slice ≡ line.inputs → language ≡ first_unserved set slice → language ≡ None
    → GivesKnown Memory (λ work. work) result (work_of F line set seed)
    → GivesKnown Memory (λ work. work) result (work_served F line set seed)
served_plan F line set seed slice language result same is none gives =
    subst (λ o. GivesKnown Memory (λ work. work) result (work_by F line set seed o))
    (sym none ∙ is ∙ ap (first_unserved set) same) gives

-- For `served_work`: if one isn't, then the line is refused by the name of its language.
pub unserved_plan : (F : Facts) (line : Line) (set : Set) (seed : ℕ) (slice : List Input) (language : Option (List ℕ))
    (name : List ℕ) → slice ≡ line.inputs → language ≡ first_unserved set slice → language ≡ Some name
    → work_served F line set seed ≡ Is (Err (NotInstalled name))
unserved_plan F line set seed slice language name same is some =
    ap (work_by F line set seed) (sym (sym some ∙ is ∙ ap (first_unserved set) same))
