use Rattle.drv_syntax.proofs.Leads.{same}
use Rattle.drv_syntax.specs.Descent.{Ends, Last, More, Read, Stops, Took, Turn, after_turn, repeat, then_read, turns, within}
use Rattle.drv_syntax.specs.Refusals.{Due, Refuses}
use Rattle.drv_syntax.specs.Rest.{Left}
use Rattle.drv_syntax.specs.Spelling.{At}
use Rattle.drv_syntax.specs.declared.fault.SyntaxFault.{SyntaxFault}
use Rattle.std.proofs.Common.{◌≡◌, ◌≤◌, ◌∙◌, ◌+◌, ◌++◌, Bool, false, true, if◌then◌else◌, List, [], ◌∷◌, ap, append_assoc, arith, length}
use Rattle.std.proofs.Common.{length-append, refl, suc, sym, ℕ}
use Rattle.std.specs.Prelude.{◌==◌}

-- What Descent makes of a part of a text is what the grammar says of that part. It says what the part is, with a rest after it, or that the
-- text ends in it. Where the last byte of the text is the one that doesn't fit, it says which case of the grammar refuses it. Below, a part
-- is called meant where this holds of it. It serves the laws `read_is_spelled`, `unrefused_is_front` and `refused_kinds`. Descent is the
-- grammar as functions (specs/Descent). The grammar itself has cases (specs/Spelling, Fronts, Refusals).
-- Names: `size`: the length of the whole text. `k`: a place in the text. `mid`, `last`: what is left of the text between two parts, and at
-- last. `X`, `Y`: any type. `rest`: what is left of the text, and its place. `b`: a byte. `due`: what is due where the text is open. `t`,
-- `q`: what is left of the text, from step to step. `r`: what was read. `At`: in a text of this size the rest begins at this place.
-- `after_turn`: goes on after a turn, unless it was the last.

-- these bytes are left of the text, from this place on
abbrev pub left : ℕ → List ℕ → Left
left n bytes = record { at = n; bytes = bytes }

-- in a text of this size, what Descent makes of a part is what the grammar says of it: `Took`, `Ends` or `Stops` is `Is`, `Cuts` or `Bad`
pub data Meant {X : Type 0} (size : ℕ) (Is : X → List ℕ → Type 0) (Cuts : Type 0) (Bad : ℕ → SyntaxFault → Type 0) : Read X → Type 0 where
  meant_took : {x : X} {rest : Left} → At size rest.at rest.bytes → Is x rest.bytes → Meant size Is Cuts Bad (Took x rest)
  meant_ends : {at : ℕ} → Cuts → Meant size Is Cuts Bad (Ends at)
  meant_stops : {k : ℕ} {fault : SyntaxFault} → Bad k fault → Meant size Is Cuts Bad (Stops k fault)

-- the text begins with these bytes, of which the last has the place k
pub data UpTo (size k : ℕ) (text last : List ℕ) : Type 0 where
  up_to : (others : List ℕ) → text ≡ last ++ others → At size (k + 1) others → UpTo size k text last

-- up to its first byte
pub up_byte : {size k b : ℕ} {text : List ℕ} → At size k (b ∷ text) → UpTo size k (b ∷ text) (b ∷ [])
up_byte {text = text} place = up_to text refl (omega (arith, place))

-- more bytes before change nothing
pub up_more : {size k : ℕ} {text last : List ℕ} (p : List ℕ) → UpTo size k text last → UpTo size k (p ++ text) (p ++ last)
up_more {last = last} p (up_to others e h) = up_to others (ap (λ (t : List ℕ). p ++ t) e ∙ sym (append_assoc p last others)) h

-- the place where those bytes begin
pub up_place : {size k : ℕ} {text last : List ℕ} (n : ℕ) → At size n text → UpTo size k text last → At (k + 1) n last
up_place {last = last} n place (up_to others e h) = omega (arith, place, ap length e, length-append last others, h)

-- where this is due, the text goes on up to a byte at the place k that doesn't fit, and this is the fault
pub data RefusesAt (size k : ℕ) (due : Due) (text : List ℕ) (fault : SyntaxFault) : Type 0 where
  refuses_at : {last : List ℕ} → Refuses (k + 1) due last fault → UpTo size k text last → RefusesAt size k due text fault

-- so it is at the first byte
pub refuses_byte : {size k b : ℕ} {due : Due} {text : List ℕ} {fault : SyntaxFault} → Refuses (k + 1) due (b ∷ []) fault
    → At size k (b ∷ text) → RefusesAt size k due (b ∷ text) fault
refuses_byte i place = refuses_at i (up_byte place)

-- a text leads to a byte at the place k that doesn't fit where something is due
pub data Unfit (size : ℕ) (Reach : Due → List ℕ → Type 0) (k : ℕ) (fault : SyntaxFault) : Type 0 where
  unfit : {due : Due} {last : List ℕ} → Reach due last → RefusesAt size k due last fault → Unfit size Reach k fault

-- what leads to a byte that doesn't fit does so in a larger part too
pub unfit_in : {size : ℕ} {Reach Whole : Due → List ℕ → Type 0} {k : ℕ} {fault : SyntaxFault}
    → Unfit size Reach k fault → ((due : Due) (last : List ℕ) → Reach due last → Whole due last) → Unfit size Whole k fault
unfit_in (unfit {due} {last} i h) f = unfit (f due last i) h

-- one more is the next number
pub one_more : (k : ℕ) → suc k ≡ 1 + k
one_more k = omega arith

-- what holds of each of two, if the test chooses it, holds of the one that the test chooses
pub choose : {X : Type 0} (P : X → Type 0) (test : Bool) (x y : X) → (test ≡ true → P x) → (test ≡ false → P y) → P (if test then x else y)
choose P true x y f g = f refl
choose P false x y f g = g refl

module _ {X : Type 0} {size : ℕ} {Is : X → List ℕ → Type 0} {Cuts : Type 0} {Bad : ℕ → SyntaxFault → Type 0} where
  -- what a test chooses is meant, if each of the two is where it is chosen
  pub meant_if : (test : Bool) {x y : Read X} → (test ≡ true → Meant size Is Cuts Bad x)
      → (test ≡ false → Meant size Is Cuts Bad y) → Meant size Is Cuts Bad (if test then x else y)
  meant_if test {x} {y} f g = choose (Meant size Is Cuts Bad) test x y f g

  -- what a test of a byte chooses is meant, if each of the two is where it is chosen
  pub meant_byte : (b k : ℕ) {x y : Read X} → (b ≡ k → Meant size Is Cuts Bad x) → ((b == k) ≡ false → Meant size Is Cuts Bad y)
      → Meant size Is Cuts Bad (if b == k then x else y)
  meant_byte b k {x} {y} f g = choose (Meant size Is Cuts Bad) (b == k) x y (λ e. f (same b k e)) g

  -- where a part is meant, and what goes on from it is meant too, both in a row are
  pub meant_then : {Y : Type 0} {First : Y → List ℕ → Type 0} {Ending : Type 0} {Stopping : ℕ → SyntaxFault → Type 0} {r : Read Y}
      (goes : Y → Left → Read X) → Meant size First Ending Stopping r
      → ((y : Y) (rest : Left) → At size rest.at rest.bytes → First y rest.bytes → Meant size Is Cuts Bad (goes y rest)) → (Ending → Cuts)
      → ((k : ℕ) (fault : SyntaxFault) → Stopping k fault → Bad k fault) → Meant size Is Cuts Bad (then_read r goes)
  meant_then goes (meant_took {x} {rest} place i) f g h = f x rest place i
  meant_then goes (meant_ends i) f g h = meant_ends (g i)
  meant_then goes (meant_stops {k} {fault} i) f g h = meant_stops (h k fault i)

  -- a part is meant whichever directive is named as open where the text ends in it
  pub meant_within : {r : Read X} (at : ℕ) → Meant size Is Cuts Bad r → Meant size Is Cuts Bad (within at r)
  meant_within at (meant_took place i) = meant_took place i
  meant_within at (meant_ends i) = meant_ends i
  meant_within at (meant_stops i) = meant_stops i

  -- a part that is meant by some relations is meant by others that these imply
  pub meant_as : {First : X → List ℕ → Type 0} {Ending : Type 0} {Stopping : ℕ → SyntaxFault → Type 0} {r : Read X}
      → Meant size First Ending Stopping r → ((x : X) (q : List ℕ) → First x q → Is x q) → (Ending → Cuts)
      → ((k : ℕ) (fault : SyntaxFault) → Stopping k fault → Bad k fault) → Meant size Is Cuts Bad r
  meant_as (meant_took {x} {rest} place i) f g h = meant_took place (f x rest.bytes i)
  meant_as (meant_ends i) f g h = meant_ends (g i)
  meant_as (meant_stops {k} {fault} i) f g h = meant_stops (h k fault i)

-- loops

-- one more part before those that follow it: what they are, the whole is
pub record Leads {X : Type 0} (Is : List ℕ → X → List ℕ → Type 0) (Cuts : List ℕ → Type 0) (Bad : List ℕ → ℕ → SyntaxFault → Type 0)
    (text : List ℕ) (f : X → X) (mid : List ℕ) : Type 0 where
  pub is : (x : X) (q : List ℕ) → Is mid x q → Is text (f x) q
  pub cut : Cuts mid → Cuts text
  pub bad : (k : ℕ) (fault : SyntaxFault) → Bad mid k fault → Bad text k fault
  pub shorter : suc (length mid) ≤ length text

-- what one turn of a loop gives is what the grammar says: the last part, or one more before those that follow
abbrev pub Turned : {X : Type 0} → (List ℕ → X → List ℕ → Type 0) → (List ℕ → Type 0) → (List ℕ → ℕ → SyntaxFault → Type 0) → List ℕ
    → Turn X → List ℕ → Type 0
Turned Is Cuts Bad text (Last x) q = Is text x q
Turned Is Cuts Bad text (More f) q = Leads Is Cuts Bad text f q

-- a loop is meant, if each of its turns is
module _ {X : Type 0} {size : ℕ} {Is : List ℕ → X → List ℕ → Type 0} {Cuts : List ℕ → Type 0} {Bad : List ℕ → ℕ → SyntaxFault → Type 0}
    (step : Left → Read (Turn X)) (one : (n : ℕ) (text : List ℕ) → At size n text
    → Meant size (Turned Is Cuts Bad text) (Cuts text) (Bad text) (step (left n text))) where
  -- what follows a turn is meant
  after_meant : (many : List ℕ) (n : ℕ) (text : List ℕ) → (goes : Left → Read X) → length text ≤ suc (length many)
      → ((m : ℕ) (mid : List ℕ) → At size m mid → suc (length mid) ≤ length text → Meant size (Is mid) (Cuts mid) (Bad mid) (goes
      (left m mid))) → (t : Turn X) (rest : Left) → At size rest.at rest.bytes → Turned Is Cuts Bad text t rest.bytes
      → Meant size (Is text) (Cuts text) (Bad text) (after_turn goes t rest)
  after_meant many n text goes h f (Last x) rest place i = meant_took place i
  after_meant many n text goes h f (More g) rest place i = meant_then (λ x end. Took (g x) end) (f rest.at rest.bytes place i.shorter)
      (λ x end there j. meant_took there (i.is x end.bytes j)) i.cut i.bad

  -- so many turns as there are bytes at least are meant
  turns_meant : (many : List ℕ) (n : ℕ) (text : List ℕ) → At size n text → length text ≤ length many
      → Meant size (Is text) (Cuts text) (Bad text) (turns step many (left n text))
  turns_meant [] n text place h = meant_then (after_turn (λ end. Ends end.at)) (one n text place)
      (after_meant [] n text (λ end. Ends end.at) (omega (arith, h)) (λ m mid there k. absurd (omega (arith, h, k)))) (λ o. o)
      (λ j fault o. o)
  turns_meant (b ∷ many) n text place h = meant_then (after_turn (turns step many)) (one n text place)
      (after_meant many n text (turns step many) h (λ m mid there k. turns_meant many m mid there (omega (arith, h, k)))) (λ o. o)
      (λ j fault o. o)

  -- one turn after another, up to the last, is meant
  pub repeat_meant : (n : ℕ) (text : List ℕ) → At size n text → Meant size (Is text) (Cuts text) (Bad text) (repeat step (left n text))
  repeat_meant n text place = turns_meant text n text place (omega arith)
