use Rattle.drv_cc.specs.Items.{same}
use Rattle.drv_cc.specs.Kept.{all_stay, effective_items}
use Rattle.drv_cc.specs.declared.item.Item.{Item}
use Rattle.std.specs.List.{list_any}
use Rattle.std.specs.Prelude.{◌≡◌, ◌<◌, ◌&&◌, ◌||◌, Bool, List, [], ◌∷◌, ◌++◌, if◌then◌else◌, length, nat_lt, not, reverse, true, ℕ}

-- How the code goes over items from the last one on, with the classes of those that it has seen. Only private clauses of src/keeping.rt
-- cite it.
-- Names: `items` is all items of the line. `left` is those that the loop has still before it, and `following` the others. `stay` is what
-- stays of those, the last one first. `class` is an item's class. `p` is any class, and `seen p` says whether it was met; `old` and `new`
-- are that before an item and after it. `effective_items` and `all_stay` are in Kept.

-- whether a class is that of a key
abbrev pub is_seen : {K : Type 0} → List K → (K → List ℕ) → List ℕ → Bool
is_seen keys class_of class = list_any (λ k. same class (class_of k)) keys

-- whether an item of a class stays before items whose classes were seen; one of no class always does
abbrev pub stays_before : List ℕ → (List ℕ → Bool) → Bool
stays_before class seen = not (nat_lt 0 (length class) && seen class)

-- the items that stay with one more, by what was seen of those after it
abbrev pub kept_before : Item → (List ℕ → Bool) → List Item → List Item
kept_before i seen stay = if stays_before i.class seen then stay ++ i ∷ [] else stay

-- one more class was seen, if it is one
abbrev pub Notes : List ℕ → (List ℕ → Bool) → (List ℕ → Bool) → Type 0
Notes class old new = (p : List ℕ) → 0 < length p → new p ≡ (same p class || old p)

-- what was seen are the classes of the items after those that are left, and all of these items stay
pub record KeepingAll (items left : List Item) (seen : List ℕ → Bool) : Type 0 where
  pub following : List Item
  pub parts : left ++ following ≡ items
  pub stays : all_stay following ≡ true
  pub seen_are : (p : List ℕ) → 0 < length p → seen p ≡ list_any (λ j. same p j.class) following

-- what was seen are the classes of the items after those that are left, and these items stay, the last one first
pub record Keeping (items left stay : List Item) (seen : List ℕ → Bool) : Type 0 where
  pub following : List Item
  pub parts : left ++ following ≡ items
  pub stays : reverse stay ≡ effective_items following
  pub seen_are : (p : List ℕ) → 0 < length p → seen p ≡ list_any (λ j. same p j.class) following
