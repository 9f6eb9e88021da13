use Rattle.drv_specs.specs.Directives.{Bad, Directive, Include, Pair, Rename, Text}
use Rattle.drv_specs.specs.Loading.{Carried, Including, all_carried, carried, then_by}
use Rattle.drv_specs.specs.declared.fault.SpecsFault.{SpecsFault}
use Rattle.drv_system.specs.Known.{Is, Known, Unasked}
use Rattle.std.proofs.Common.{◌≡◌, ◌∙◌, ◌∷◌, Bool, Err, List, Ok, Result, [], ap, false, if◌then◌else◌, refl, sym, true}

-- For first_fault_is_refusal (src/laws.rt): the driver ends at the first line that is no directive, so it makes
-- the same of directives as of those up to there.
-- Names: `including` is how the driver includes a file, and `c` what it carries along. `directive` is one of its `directives`, and `known`
-- what it makes of that one. `all_carried` is what it makes of several (drv_specs).

-- whether a directive is a line that is none
abbrev pub is_none : Directive → Bool
is_none (Text name body) = false
is_none (Pair key body) = false
is_none (Rename old new) = false
is_none (Include missing name) = false
is_none (Bad n) = true

-- directives up to the first that is none
abbrev pub until_bad : List Directive → List Directive
until_bad [] = []
until_bad (directive ∷ directives) = directive ∷ (if is_none directive then [] else until_bad directives)

-- One directive, and then lists of them that end alike: so do they behind it.
then_alike : (known : Known (Result Carried SpecsFault)) (first second : Carried → Known (Result Carried SpecsFault))
    → ((c : Carried) → first c ≡ second c) → then_by known first ≡ then_by known second
then_alike Unasked first second alike = refl
then_alike (Is (Err fault)) first second alike = refl
then_alike (Is (Ok c)) first second alike = alike c

-- What follows a line that is none changes nothing.
until_same : (including : Including) (directives : List Directive) (c : Carried)
    → all_carried including c (until_bad directives) ≡ all_carried including c directives
until_same including [] c = refl
until_same including (Bad n ∷ directives) c = refl
until_same including (Text name body ∷ directives) c =
    then_alike (carried including c (Text name body)) (λ d. all_carried including d (until_bad directives))
    (λ d. all_carried including d directives) (until_same including directives)
until_same including (Pair key body ∷ directives) c =
    then_alike (carried including c (Pair key body)) (λ d. all_carried including d (until_bad directives))
    (λ d. all_carried including d directives) (until_same including directives)
until_same including (Rename old new ∷ directives) c =
    then_alike (carried including c (Rename old new)) (λ d. all_carried including d (until_bad directives))
    (λ d. all_carried including d directives) (until_same including directives)
until_same including (Include missing name ∷ directives) c =
    then_alike (carried including c (Include missing name)) (λ d. all_carried including d (until_bad directives))
    (λ d. all_carried including d directives) (until_same including directives)

-- Directives that are the same up to there end alike.
pub carried_alike : (including : Including) (first second : List Directive) (c : Carried) → until_bad first ≡ until_bad second
    → all_carried including c first ≡ all_carried including c second
carried_alike including first second c same =
    sym (until_same including first c) ∙ ap (all_carried including c) same ∙ until_same including second c
