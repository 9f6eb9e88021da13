use Rattle.drv_cc.specs.Items.{items_of}
use Rattle.drv_cc.specs.Kept.{effective_items}
use Rattle.drv_cc.specs.SelfSpecs.{front_with, given_items, given_refusals, live, refused_or_run_with, run_with, visible_items}
use Rattle.drv_cc.specs.declared.answer.Answer.TheVariants.{Refuse}
use Rattle.drv_cc.specs.declared.answer.Answer.{Answer}
use Rattle.drv_cc.specs.declared.answer.Surroundings.{Surroundings}
use Rattle.drv_cc.specs.declared.giving.Given.{Given}
use Rattle.drv_cc.specs.declared.item.Item.{Item}
use Rattle.drv_cc.specs.declared.refusal.Refusal.{Refusal}
use Rattle.std.proofs.Common.{◌≡◌, ◌∷◌, ◌∙◌, ◌<◌, [], Err, IfOk, List, None, Ok, Result, ap, arith, length, nat_lt, refl, sym, true, ℕ}
use Rattle.std.proofs.lemmas.Bool.Decides.{nat_tests}

-- For `front_with` (src/giving.rt): what its text gives a line is refused, or the line is run with it.
-- Names: `known` is the names beyond the table. `named` is the switches that the line's spec files name. `words` is the line. `around` is
-- the compiler and its folders. `given` has the words that the text left and those that it gives. `refused` is what of these is refused.
-- `live items left` is the items that the text left. `front_with` is the answer to a line with what its text gives (specs/SelfSpecs.antt
-- and Front.antt).

-- the answer by these refusals, where there are some
refusing : (around : Surroundings) (items left given : List Item) (refused : List Refusal) → (refused ≡ [] → ⊥)
    → Refuse refused ≡ refused_or_run_with around items left given refused
refusing around items left given [] some = absurd (some refl)
refusing around items left given (one ∷ others) some =
    let less : 0 < length (one ∷ others) = omega arith in
    let test : nat_lt 0 (length (one ∷ others)) ≡ true = grind (arith, nat_tests, less) in
    rw test refl

module _ (known : List ℕ) (named words : List (List ℕ)) (around : Surroundings) (given : Given) (refused : List Refusal)
    (are : refused ≡ given_refusals named (given_items known given.words)) where
  -- the items of the line that stay
  abbrev items_kept : List Item
  items_kept = effective_items (items_of known None words)

  -- those that the text left
  abbrev items_left : List Item
  items_left = live (visible_items items_kept) given.left

  -- those that it gives
  abbrev items_given : List Item
  items_given = given_items known given.words

  -- what it gives is refused
  pub refuses_with : (refused ≡ [] → ⊥) → Refuse refused ≡ front_with known named around words given
  refuses_with some = refusing around items_kept items_left items_given refused some
      ∙ ap (refused_or_run_with around items_kept items_left items_given) are

  -- nothing of that is refused
  pub runs_with : {E : Type 0} (items : List Item) (left : List (List ℕ)) (more : List Item) (result : Result Answer E)
      → refused ≡ [] → items ≡ items_kept → left ≡ given.left → more ≡ items_given
      → IfOk result (λ answer. answer ≡ run_with around items (live (visible_items items) left) more)
      → IfOk result (λ answer. answer ≡ front_with known named around words given)
  runs_with items left more (Err e) none items_are left_are more_are ran = tt
  runs_with items left more (Ok answer) none items_are left_are more_are ran =
      ran
      ∙ ap (λ i. run_with around i (live (visible_items i) left) more) items_are
      ∙ ap (λ l. run_with around items_kept (live (visible_items items_kept) l) more) left_are
      ∙ ap (run_with around items_kept items_left) more_are
      ∙ ap (refused_or_run_with around items_kept items_left items_given) (sym none ∙ are)
