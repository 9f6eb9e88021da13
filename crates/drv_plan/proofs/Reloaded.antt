use Rattle.drv_args.specs.declared.line.Input.TheVariants.{File, Library, LinkWord}
use Rattle.drv_args.specs.declared.line.Input.{Input}
use Rattle.drv_args.specs.declared.line.Line.{Line}
use Rattle.drv_machine.specs.Context.{Context}
use Rattle.drv_plan.specs.Denoted.{Planned, begun, context_of, denoted, finished, planned, then_by, with_file, with_input, with_inputs}
use Rattle.drv_plan.specs.Languages.{Alias, Missing, PairText, Worked, by_language, by_suffix, chosen, in_language, is_of_language}
use Rattle.drv_plan.specs.Languages.{is_standard_input, is_suffix_of, chosen_for, last_pair, last_text, or_before, pair_meaning}
use Rattle.drv_plan.specs.Languages.{with_suffix}
use Rattle.drv_plan.specs.declared.progress.Progress.{Progress}
use Rattle.drv_search.specs.Search.{prefixes_of}
use Rattle.drv_specs.specs.Dumping.{doubled}
use Rattle.drv_specs.specs.Sets.{Set}
use Rattle.drv_system.specs.Facts.{Facts}
use Rattle.drv_system.specs.Known.{◌>>=◌, Is, Known, Unasked}
use Rattle.std.proofs.Common.{◌≡◌, ◌+◌, ◌∙◌, Bool, List, [], ◌∷◌, ◌++◌, Err, None, Ok, Option, Some, ap, false, if◌then◌else◌, refl, true}
use Rattle.std.proofs.Common.{ℕ}
use Rattle.std.specs.Option.{option_map}
use Rattle.std.specs.Prelude.{codes}

-- For reload_law: a set whose list of pairs is repeated, as a dump loaded over its set gives, gives the same plans: of the pairs that fit a
-- name the last one counts.
-- Names: `F` is what is known of the outside. `set` is the specs: named texts, and pairs of suffixes and languages. `X` is the type of what
-- a step gives. `fits` says which keys fit. `later` is what later pairs give. `doubled set` is the set with its pairs repeated.
-- `last_text fits pairs` is the text of the last pair whose key fits. `with_inputs` is what all inputs give. `then_by step next` goes on
-- with what a step gives, unless it is refused. `planned F set inputs C` is the defined plan. `by_language` is the text of a language. The
-- names of temporaries contain the `seed`.

-- the later of two, if there is one
abbrev or_first : Option (List ℕ) → Option (List ℕ) → Option (List ℕ)
or_first None first = first
or_first (Some later) first = Some later

-- nothing before changes nothing
or_none : (later : Option (List ℕ)) → later ≡ or_first later None
or_none None = refl
or_none (Some later) = refl

-- a text before itself is itself
or_same : (later : Option (List ℕ)) → or_first later later ≡ later
or_same None = refl
or_same (Some later) = refl

-- the later of two, with one more before
before_first : (later first : Option (List ℕ)) (hit : Bool) (text : List ℕ) → or_before (or_first later first) hit text ≡ or_first later
    (or_before first hit text)
before_first None first hit text = refl
before_first (Some later) first hit text = refl

-- the last pair of two lists is that of the second list, if that has one
last_both : (fits : List ℕ → Bool) (front back : List (List ℕ × List ℕ)) → last_text fits (front ++ back) ≡ or_first (last_text fits back)
    (last_text fits front)
last_both fits [] back = or_none (last_text fits back)
last_both fits (pair ∷ front) back =
    ap (λ others. or_before others (fits pair.0) pair.1) (last_both fits front back) ∙ before_first (last_text fits back)
    (last_text fits front) (fits pair.0) pair.1

-- the last pair that fits is the same in the repeated list
last_doubled : (fits : List ℕ → Bool) (pairs : List (List ℕ × List ℕ)) → last_text fits (pairs ++ pairs) ≡ last_text fits pairs
last_doubled fits pairs = last_both fits pairs pairs ∙ or_same (last_text fits pairs)

-- so a look-up gives the same
pair_doubled : (set : Set) (fits : List ℕ → Bool) → last_pair (doubled set) fits ≡ last_pair set fits
pair_doubled set fits = ap (option_map pair_meaning) (last_doubled fits set.pairs)

-- of a language
by_language_doubled : (set : Set) (language : List ℕ) → by_language (doubled set) language ≡ by_language set language
by_language_doubled set language = ap (in_language language) (pair_doubled set (is_of_language language))

-- a suffix has the same meaning in the doubled set
with_suffix_doubled : (set : Set) (pair : Option PairText) → with_suffix (doubled set) pair ≡ with_suffix set pair
with_suffix_doubled set None = refl
with_suffix_doubled set (Some (Alias language)) = ap chosen (by_language_doubled set language)
with_suffix_doubled set (Some (Missing compiler)) = refl
with_suffix_doubled set (Some (Worked text)) = refl

-- and of a suffix
by_suffix_doubled : (set : Set) (name : List ℕ) → by_suffix (doubled set) name ≡ by_suffix set name
by_suffix_doubled set name =
    ap (with_suffix (doubled set)) (pair_doubled set (is_suffix_of name)) ∙ with_suffix_doubled set (last_pair set (is_suffix_of name))

-- two cases alike, by the same test
either_alike : {X : Type 0} (hit : Bool) (a a' b b' : X) → a ≡ a' → b ≡ b' → (if hit then a else b) ≡ (if hit then a' else b')
either_alike true a a' b b' first second = first
either_alike false a a' b b' first second = second

-- an input has the same language if the list of pairs is repeated
pub language_doubled : (set : Set) (input : Input) → chosen_for (doubled set) input ≡ chosen_for set input
language_doubled set (File name (Some language)) = ap chosen (by_language_doubled set language)
language_doubled set (File name None) =
    either_alike (is_standard_input name) (chosen (by_language (doubled set) (codes "c"))) (chosen (by_language set (codes "c")))
    (by_suffix (doubled set) name) (by_suffix set name)
    (ap chosen (by_language_doubled set (codes "c"))) (by_suffix_doubled set name)
language_doubled set (Library word) = refl
language_doubled set (LinkWord word) = refl

-- a plan depends on a set only by the languages of inputs and by the named texts
then_alike : {X Y : Type 0} (step : Planned X) (next next' : X → Planned Y) → ((x : X) → next x ≡ next' x)
    → then_by step next ≡ then_by step next'
then_alike Unasked next next' same = refl
then_alike (Is (Ok x)) next next' same = same x
then_alike (Is (Err fault)) next next' same = refl

-- an input gives the same in the doubled set
input_doubled : (F : Facts) (set : Set) (place : ℕ) (input : Input) (g : Progress) → with_input F (doubled set) place input g
    ≡ with_input F set place input g
input_doubled F set place (File name language) g = ap (λ r. with_file F place name r g) (language_doubled set (File name language))
input_doubled F set place (Library word) g = refl
input_doubled F set place (LinkWord word) g = refl

-- all inputs give the same in the doubled set
inputs_doubled : (F : Facts) (set : Set) (place : ℕ) (inputs : List Input) (g : Progress) → with_inputs F (doubled set) place inputs g
    ≡ with_inputs F set place inputs g
inputs_doubled F set place [] g = refl
inputs_doubled F set place (input ∷ inputs) g =
    ap (λ step. then_by step (λ g'. with_inputs F (doubled set) (place + 1) inputs g')) (input_doubled F set place input g)
    ∙ then_alike (with_input F set place input g) (λ g'. with_inputs F (doubled set) (place + 1) inputs g')
    (λ g'. with_inputs F set (place + 1) inputs g') (λ g'. inputs_doubled F set (place + 1) inputs g')

-- so the plan is the same
planned_doubled : (F : Facts) (set : Set) (inputs : List Input) (C : Context) → planned F (doubled set) inputs C ≡ planned F set inputs C
planned_doubled F set inputs C = ap (λ step. then_by step (λ g. finished F set g)) (inputs_doubled F set 0 inputs (begun C))

-- what follows an answer may be replaced by what is the same for each value
known_alike : {X Y : Type 0} (known : Known X) (next next' : X → Known Y) → ((x : X) → next x ≡ next' x)
    → (known >>= next) ≡ (known >>= next')
known_alike Unasked next next' same = refl
known_alike (Is x) next next' same = same x

-- a line has the same plan if the set's list of pairs is repeated
pub denoted_doubled : (F : Facts) (line : Line) (set : Set) (seed : ℕ) → denoted F line (doubled set) seed ≡ denoted F line set seed
denoted_doubled F line set seed =
    known_alike (prefixes_of F line.settings.prefixes) (λ prefixes. planned F (doubled set) line.inputs
    (context_of line (doubled set) prefixes seed)) (λ prefixes. planned F set line.inputs (context_of line set prefixes seed))
    (λ prefixes. planned_doubled F set line.inputs (context_of line set prefixes seed))
