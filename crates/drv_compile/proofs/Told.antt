use Rattle.drv_cc.specs.declared.refusal.Refusal.{Refusal}
use Rattle.drv_compile.specs.Near.{AreTold, IsTold}
use Rattle.std.proofs.Common.{◌≡◌, ◌<◌, ◌≤◌, ◌+◌, ◌∙◌, ◌∷◌, ◌++◌, [], List, ap, append_assoc, drop, length, refl, subst, sym, ℕ}
use Rattle.std.proofs.lemmas.List.{append-nil, drop_all, drop_more}
use Rattle.std.specs.Prelude.{get_or}

-- For the text of refusals (src/telling.rt): each refusal adds its own, one after another.
-- Names: `name` is that of the program. `known` is the names of options. `refusals` is what is refused, and `refusal` the one at index `i`.
-- `text` is the lines of those before it, and `after` with its own. `AreTold name known refusals text`: the text has their lines.

-- For `lines_told`: if the line of refusal i was added, then the text so far and the lines after it are still the whole.
pub told_more : (name : List ℕ) (known : List (List ℕ)) (refusals : List Refusal) (i : ℕ) (refusal : Refusal) (text after : List ℕ)
    → i < length refusals → refusal ≡ get_or refusals i refusal
    → ((line : List ℕ) × IsTold name known refusal line × (after ≡ text ++ line))
    → ((rest : List ℕ) → AreTold name known (drop i refusals) rest → AreTold name known refusals (text ++ rest))
    → (rest : List ℕ) → AreTold name known (drop (i + 1) refusals) rest → AreTold name known refusals (after ++ rest)
told_more name known refusals i refusal text after below here (line, told, grown) so_far rest more =
    subst (λ t. AreTold name known refusals t) (sym (ap (λ t. t ++ rest) grown ∙ append_assoc text line rest))
    (so_far (line ++ rest)
    (subst (λ rs. AreTold name known rs (line ++ rest))
    (sym (drop_more refusals i refusal below ∙ ap (λ r. r ∷ drop (i + 1) refusals) (sym here)))
    (line, rest, told, more, refl)))

-- For `lines_told`: if the lines of all refusals were added, then the text is the whole.
pub told_all : (name : List ℕ) (known : List (List ℕ)) (refusals : List Refusal) (i : ℕ) (text : List ℕ) → length refusals ≤ i
    → ((rest : List ℕ) → AreTold name known (drop i refusals) rest → AreTold name known refusals (text ++ rest))
    → AreTold name known refusals text
told_all name known refusals i text past so_far =
    subst (λ t. AreTold name known refusals t) (append-nil text)
    (so_far [] (subst (λ rs. AreTold name known rs []) (sym (drop_all i refusals past)) refl))
