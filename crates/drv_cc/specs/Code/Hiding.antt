use Rattle.drv_cc.specs.SelfSpecs.{is_left, item_words}
use Rattle.drv_cc.specs.declared.item.Item.{Item}
use Rattle.std.specs.Prelude.{List, [], ◌∷◌, drop, if◌then◌else◌, length, ℕ}

-- How the code goes over the items of a line with the words that a text left. Only private clauses of src/hiding.rt cite it.
-- Names: `i` is an item. `left` is the words that the text left and that no item before took. `item_words` is the words by which the text
-- would write an item.

-- an item, if it stays
abbrev pub live_item : Item → List (List ℕ) → List Item
live_item i left = if is_left (item_words i) left then i ∷ [] else []

-- the words that are left after it
abbrev pub left_after : Item → List (List ℕ) → List (List ℕ)
left_after i left = if is_left (item_words i) left then drop (length (item_words i)) left else left
