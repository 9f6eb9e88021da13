use Rattle.drv_cc.specs.Code.Hiding.{left_after, live_item}
use Rattle.drv_cc.specs.SelfSpecs.{is_left, item_words, live}
use Rattle.drv_cc.specs.declared.item.Item.{Item}
use Rattle.std.proofs.Common.{◌≡◌, Bool, List, ◌∷◌, ◌++◌, ◌∙◌, ap, append_assoc, false, refl, sym, true, ℕ}

-- For `front_with` (src/giving.rt): the switches that a self spec leaves, and those that it hides.
-- Names: `i` is an item, and `tail` those after it. `left` is the words that the text left. `stay` is the items that were found to stay.
-- `live` is the items whose words are left. `live_item` is one item, if it stays, and `left_after` the words behind it (specs/Code/Hiding).

-- The definition `live` (specs/SelfSpecs.antt) takes the words of one item and goes on with those that are left after it.
live_more : (i : Item) (tail : List Item) (left : List (List ℕ)) → live (i ∷ tail) left ≡ live_item i left ++ live tail (left_after i left)
live_more i tail left = by (is_left (item_words i) left) refl
  where
    -- Plan: `by` goes by both answers of `is_left (item_words i) left`.
    by : (t : Bool) → is_left (item_words i) left ≡ t → live (i ∷ tail) left ≡ live_item i left ++ live tail (left_after i left)
    by true e = rw e refl
    by false e = rw e refl

-- one item more
pub one_more : (i : Item) (tail stay : List Item) (left : List (List ℕ))
    → (stay ++ live_item i left) ++ live tail (left_after i left) ≡ stay ++ live (i ∷ tail) left
one_more i tail stay left = append_assoc stay (live_item i left) (live tail (left_after i left))
    ∙ ap (λ l. stay ++ l) (sym (live_more i tail left))
