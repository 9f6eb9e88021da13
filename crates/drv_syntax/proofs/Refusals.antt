use Rattle.drv_syntax.proofs.MeantWhole.{read_is_spelled, refused_at, unrefused_is_front}
use Rattle.drv_syntax.proofs.WholeRead.{front_is_read, refusal_kinds}
use Rattle.drv_syntax.specs.Faults.{IsMisfit}
use Rattle.drv_syntax.specs.Fronts.{Front}
use Rattle.drv_syntax.specs.Outcome.{Bad, Cut, Got, Out, Unrefused, read}
use Rattle.drv_syntax.specs.Spelling.{Spells}
use Rattle.drv_syntax.specs.Tree.{Items}
use Rattle.drv_syntax.specs.declared.fault.SyntaxFault.{SyntaxFault}
use Rattle.std.proofs.Common.{◌≡◌, ◌∙◌, ◌+◌, ◌++◌, ◌-◌, ◌<◌, ◌≤◌, ◌⊎◌, List, ap, append_assoc, arith, drop, inl, inr, length, refl, subst}
use Rattle.std.proofs.Common.{sym, take, ℕ}
use Rattle.std.proofs.lemmas.Bool.{cases_lt}
use Rattle.std.proofs.lemmas.List.{length-take, length-take-le, take-append-drop, take-append-le}

-- A refusal, its place and a cut text by the fronts alone. It serves the laws `shortest_prefix`, `refused_after_front`,
-- `refused_at_misfit`, `front_prefix` and `cut_front`.
-- Names: `k`, `place`: a place in the text. `t`, `u`, `v`: what is left of the text, from step to step. `size`: the length of the whole
-- text. `rest`: what follows in the text. `A`: any type. `read`: what a text gives. `refused_at`: where Descent refuses a text, the grammar
-- does too. `Front`: the text is a front of a spec text. `misfit`: the place of the byte that doesn't fit.

-- up to the byte of the refusal, with anything after it, the text is refused at that place
refused_on : (text : List ℕ) (k : ℕ) (fault : SyntaxFault) → read text ≡ Bad k fault → (rest : List ℕ)
    → read (take (k + 1) text ++ rest) ≡ Bad k fault
refused_on text k fault h rest =
    let r = refused_at text k fault h in
    let e : length (take (k + 1) text) - 1 ≡ k = omega (arith, length-take-le (k + 1) text (omega (arith, r.0))) in
    refusal_kinds (take (k + 1) text) rest fault r.1 ∙ ap (λ (n : ℕ). Bad n fault) e

-- a text that is refused is refused there whatever follows
refused_longer : (u v : List ℕ) (k : ℕ) (fault : SyntaxFault) → read u ≡ Bad k fault → read (u ++ v) ≡ Bad k fault
refused_longer u v k fault h = subst (λ (t : List ℕ). read t ≡ Bad k fault)
    (sym (append_assoc (take (k + 1) u) (drop (k + 1) u) v) ∙ ap (λ (t : List ℕ). t ++ v) (take-append-drop (k + 1) u))
    (refused_on u k fault h (drop (k + 1) u ++ v))

-- a text that is refused at a byte is refused there where it is cut after that byte
refused_shorter : (u v : List ℕ) (k : ℕ) (fault : SyntaxFault) → k < length u → read (u ++ v) ≡ Bad k fault → read u ≡ Bad k fault
refused_shorter u v k fault l h = subst (λ (t : List ℕ). read t ≡ Bad k fault)
    (ap (λ (t : List ℕ). t ++ drop (k + 1) u) (take-append-le (k + 1) u v (omega (arith, l))) ∙ take-append-drop (k + 1) u)
    (refused_on (u ++ v) k fault h (drop (k + 1) u))

-- a text is a front, or refused at a byte
front_or : (text : List ℕ) → Front text ⊎ ((k : ℕ) × (fault : SyntaxFault) × (read text ≡ Bad k fault))
front_or text = by (read text) refl
  where
    by : (r : Out) → read text ≡ r → Front text ⊎ ((k : ℕ) × (fault : SyntaxFault) × (read text ≡ Bad k fault))
    by (Got items) e = inl (unrefused_is_front text (inl (items, e)))
    by (Cut at) e = inl (unrefused_is_front text (inr (at, e)))
    by (Bad k fault) e = inr (k, fault, e)

-- a front isn't refused, so this case can't arise
never : {A : Type 0} {text : List ℕ} {k : ℕ} {fault : SyntaxFault} → Front text → read text ≡ Bad k fault → A
never {A} {text} {k} {fault} f h = by (front_is_read text f)
  where
    by : Unrefused text → A
    by (inl (items, e)) = let z : Got items ≡ Bad k fault = sym e ∙ h in absurd cc
    by (inr (at, e)) = let z : Cut at ≡ Bad k fault = sym e ∙ h in absurd cc

-- equal refusals name the same byte
same_byte : (j k : ℕ) (f g : SyntaxFault) → Bad j f ≡ Bad k g → j ≡ k
same_byte j k f g e = cc

-- each prefix before the byte of the refusal is a front, none with that byte is, and the text is refused there whatever follows
pub refused_fronts : (text : List ℕ) (k : ℕ) (fault : SyntaxFault) → read text ≡ Bad k fault
    → (k < length text) × ((j : ℕ) → j ≤ k → Front (take j text)) × ((rest : List ℕ) → Front (take (k + 1) text ++ rest) → ⊥)
    × ((rest : List ℕ) → read (take (k + 1) text ++ rest) ≡ Bad k fault)
refused_fronts text k fault h = (
  (refused_at text k fault h).0,
  λ j l. by j l (front_or (take j text)),
  λ rest f. never f (refused_on text k fault h rest),
  refused_on text k fault h,
)
  where
    by : (j : ℕ) → j ≤ k
        → Front (take j text) ⊎ ((misfit : ℕ) × (cause : SyntaxFault) × (read (take j text) ≡ Bad misfit cause)) → Front (take j text)
    by j l (inl f) = f
    by j l (inr (i, f, e)) =
        let whole = subst (λ (t : List ℕ). read t ≡ Bad i f) (take-append-drop j text) (refused_longer (take j text) (drop j text) i f e) in
        let size = length-take-le j text (omega (arith, l, (refused_at text k fault h).0)) in
        absurd (omega (arith, l, size, (refused_at (take j text) i f e).0, same_byte i k f fault (sym whole ∙ h)))

-- a text is refused at the byte after its longest front
pub refused_after : (text : List ℕ) (k : ℕ) → k < length text → Front (take k text) → (Front (take (k + 1) text) → ⊥)
    → (fault : SyntaxFault) × (read text ≡ Bad k fault)
refused_after text k h f g = by (front_or (take (k + 1) text))
  where
    -- Plan: the text up to that byte is a front, which can't be, or is refused (`by`); then so is the whole text, not before that byte.
    by : Front (take (k + 1) text) ⊎ ((j : ℕ) × (fault : SyntaxFault) × (read (take (k + 1) text) ≡ Bad j fault))
        → (fault : SyntaxFault) × (read text ≡ Bad k fault)
    by (inl i) = absurd (g i)
    by (inr (j, fault, e)) = at (cases_lt j k)
      where
        whole : read text ≡ Bad j fault
        whole = subst (λ (t : List ℕ). read t ≡ Bad j fault) (take-append-drop (k + 1) text)
            (refused_longer (take (k + 1) text) (drop (k + 1) text) j fault e)

        -- by which place comes first: the refusal of the front can't come before that of the text
        at : (j < k) ⊎ (k ≤ j) → (fault : SyntaxFault) × (read text ≡ Bad k fault)
        at (inl l) = never f (refused_shorter (take k text) (drop k text) j fault
            (omega (arith, l, length-take-le k text (omega (arith, h))))
            (subst (λ (t : List ℕ). read t ≡ Bad j fault) (sym (take-append-drop k text)) whole))
        at (inr l) = let same : j ≡ k =
            omega (arith, l, length-take-le (k + 1) text (omega (arith, h)), (refused_at (take (k + 1) text) j fault e).0) in
            (fault, whole ∙ ap (λ (n : ℕ). Bad n fault) same)

-- where Descent refuses a text, the byte of the refusal is the one after the longest prefix that is a front
pub misfit_at : (text : List ℕ) (place : ℕ) (fault : SyntaxFault) → read text ≡ Bad place fault → IsMisfit text place
misfit_at text place fault h =
    let r = refused_fronts text place fault h in
    record { inside = r.0; front = r.1 place (omega arith); longest = λ size f. by size f r.0 (cases_lt place size) }
  where
    by : (size : ℕ) → Front (take size text) → place < length text → (place < size) ⊎ (size ≤ place) → size ≤ place
    by size f l (inr i) = i
    by size f l (inl i) = never f (refused_shorter (take size text) (drop size text) place fault (omega
        (arith, length-take size text, i, l)) (subst (λ (t : List ℕ). read t ≡ Bad place fault) (sym (take-append-drop size text)) h))

-- where a byte follows the longest prefix that is a front, Descent refuses the text at that byte
pub misfit_refused : (text : List ℕ) (place : ℕ) → IsMisfit text place → (fault : SyntaxFault) × (read text ≡ Bad place fault)
misfit_refused text place m =
    refused_after text place m.inside m.front (λ f. let h : place + 1 ≤ place = m.longest (place + 1) f in absurd (omega (arith, h)))

-- what a front begins with is a front
pub front_prefix : (text rest : List ℕ) → Front (text ++ rest) → Front text
front_prefix text rest f = by (front_or text)
  where
    by : Front text ⊎ ((k : ℕ) × (fault : SyntaxFault) × (read text ≡ Bad k fault)) → Front text
    by (inl g) = g
    by (inr (k, fault, e)) = never f (refused_longer text rest k fault e)

-- a front that has no tree is cut short
pub cut_front : (text : List ℕ) → Front text → ((items : Items) → Spells text items → ⊥) → (at : ℕ) × (read text ≡ Cut at)
cut_front text f g = by (front_is_read text f)
  where
    by : Unrefused text → (at : ℕ) × (read text ≡ Cut at)
    by (inl (items, e)) = absurd (g items (read_is_spelled text items e))
    by (inr cut) = cut
