use Rattle.drv_compile.specs.Inputs.{absent_by, absent_of, objection, objection_by}
use Rattle.drv_compile.specs.Texts.{variable_text}
use Rattle.drv_system.specs.Facts.{Facts, kind_of, variable_of}
use Rattle.drv_system.specs.Known.{◌>>=◌, Is, Known, Unasked, asked}
use Rattle.drv_system.specs.declared.event.PathKind.{PathKind}
use Rattle.std.proofs.Common.{◌≡◌, ◌<◌, ◌+◌, ◌∙◌, ◌∷◌, ◌++◌, [], Err, IfOk, List, None, Ok, Option, Result, Some, ap, append_assoc, codes}
use Rattle.std.proofs.Common.{drop, false, length, refl, sym, true, ℕ}
use Rattle.std.proofs.lemmas.Bool.{false≢true}
use Rattle.std.proofs.lemmas.List.{drop_more}
use Rattle.std.specs.Prelude.{get_or, is_some}

-- For the inputs of a line (src/inputs.rt): those that are not there, one after another.
-- Names: `F` is what is known of the outside. `inputs` is the names of the line's inputs, and `input` is the one at index `i`. `name` is
-- that of the program. `kind` is what is at a path. `done` is the text before input i, and `after` the text after it. `result` is what the
-- code's call gives. `absent_of` is the text of all inputs that are not there.

-- the text so far, and then others
abbrev pub after_text : List ℕ → Known (List ℕ) → Known (List ℕ)
after_text done others = others >>= λ lines. Is (done ++ lines)

-- If no text is there yet, all of it is still to come: so `absent_inputs_text` begins.
pub text_begins : (others : Known (List ℕ)) → after_text [] others ≡ others
text_begins Unasked = refl
text_begins (Is lines) = refl

-- a line that it adds is the first of what was still to come
text_further : (done after line : List ℕ) (others : Known (List ℕ)) → after ≡ done ++ line
    → after_text after others ≡ after_text done (others >>= λ lines. Is (line ++ lines))
text_further done after line Unasked is = refl
text_further done after line (Is lines) is = rw (is, append_assoc) refl

-- For `absent_inputs_text`: if the line of input i was added, or none since that is there, then the text so far and what the inputs after
-- it add are still the whole.
pub absent_more : (F : Facts) (name : List ℕ) (inputs : List (List ℕ)) (i : ℕ) (input : List ℕ) (kind : PathKind) (done after : List ℕ)
    → i < length inputs → input ≡ get_or inputs i input → kind_of F input ≡ Some kind → after ≡ done ++ absent_by name input kind
    → after_text done (absent_of F name (drop i inputs)) ≡ absent_of F name inputs
    → after_text after (absent_of F name (drop (i + 1) inputs)) ≡ absent_of F name inputs
absent_more F name inputs i input kind done after below here known grown so_far =
    text_further done after (absent_by name input kind) (absent_of F name (drop (i + 1) inputs)) grown
    ∙ ap (after_text done) (sym (
    ap (absent_of F name) (drop_more inputs i input below ∙ ap (λ f. f ∷ drop (i + 1) inputs) (sym here))
    ∙ ap (λ k. (asked k >>= λ kind'. Is (absent_by name input kind')) >>= λ line. absent_of F name (drop (i + 1) inputs)
    >>= λ lines. Is (line ++ lines)) known))
    ∙ so_far

-- a variable that is set, and one that is not
pub set_objects : {E : Type 0} (F : Facts) (name : List ℕ) (inputs : List (List ℕ)) (value : Option (List ℕ)) (result : Result (List ℕ) E)
    → asked (variable_of F (codes "GCC_EXEC_PREFIX")) ≡ Is value → is_some value ≡ true → IfOk result (λ text. text ≡ variable_text name)
    → IfOk result (λ text. objection F name inputs ≡ Is text)
set_objects F name inputs value (Err e) known some is = tt
set_objects F name inputs None (Ok text) known some is = absurd (false≢true some)
set_objects F name inputs (Some set) (Ok text) known some is = ap (λ v. v >>= λ w. objection_by F name inputs w) known ∙ ap Is (sym is)

-- For `objection`: if the variable is not set, then what speaks against the line is what its inputs add.
pub unset_objects : {E : Type 0} (F : Facts) (name : List ℕ) (inputs : List (List ℕ)) (value : Option (List ℕ)) (result : Result (List ℕ) E)
    → asked (variable_of F (codes "GCC_EXEC_PREFIX")) ≡ Is value → is_some value ≡ false
    → IfOk result (λ text. absent_of F name inputs ≡ Is text)
    → IfOk result (λ text. objection F name inputs ≡ Is text)
unset_objects F name inputs value (Err e) known none is = tt
unset_objects F name inputs (Some set) (Ok text) known none is = absurd (false≢true (sym none))
unset_objects F name inputs None (Ok text) known none is = ap (λ v. v >>= λ w. objection_by F name inputs w) known ∙ is
