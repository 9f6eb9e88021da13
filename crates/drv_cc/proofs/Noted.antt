use Rattle.drv_cc.specs.Items.{Wants, Whole, beyond, by_row, first_row, items_of, meant_option, start_of, start_renamed, with_start}
use Rattle.drv_cc.specs.Table.{OptionRow}
use Rattle.drv_cc.specs.declared.item.Item.{Item}
use Rattle.std.proofs.Common.{◌≡◌, ◌∙◌, List, [], ◌∷◌, ◌++◌, None, Some, ap, append_assoc, ℕ}

-- For `front` (src/fronting.rt): each word of a line is noted as the table says.
-- Names: `known` is the names beyond the table. `items` is the items so far. `word` is the word at hand, and `rest` the words after it. `r`
-- is a row that waits for its argument. `i` is the word's item. `items_of known wanting words` is the items of words, where `wanting` is a
-- row that still waits. `start_of` is how a word begins.

-- For `note_word` (src/reading.rt), where an option waited for this word as its argument.
pub wanted_noted : (known : List ℕ) (items : List Item) (word : List ℕ) (r : OptionRow) (rest : List (List ℕ))
    → (items ++ by_row r word ∷ []) ++ items_of known None rest ≡ items ++ items_of known (Some r) (word ∷ rest)
wanted_noted known items word r rest = append_assoc items (by_row r word ∷ []) (items_of known None rest)

-- For `note_word`, where the word is an option that waits for the next one.
pub wants_noted : (known : List ℕ) (items : List Item) (word : List ℕ) (r : OptionRow) (rest : List (List ℕ))
    → Wants r ≡ start_of known word
    → items ++ items_of known (Some r) rest ≡ items ++ items_of known None (word ∷ rest)
wants_noted known items word r rest is = ap (λ s. items ++ with_start s (λ wanting. items_of known wanting rest)) is

-- For `note_word`, where the word is an item by itself.
pub whole_noted : (known : List ℕ) (items : List Item) (word : List ℕ) (i : Item) (rest : List (List ℕ)) → Whole i ≡ start_of known word
    → (items ++ i ∷ []) ++ items_of known None rest ≡ items ++ items_of known None (word ∷ rest)
whole_noted known items word i rest is =
    append_assoc items (i ∷ []) (items_of known None rest) ∙ ap (λ s. items ++ with_start s (λ wanting. items_of known wanting rest)) is

-- a word that no row fits, and that is no long name of another one
pub unrenamed_begins : (known word : List ℕ) (i : Item) → meant_option word ≡ word → first_row word ≡ None → i ≡ beyond known word word
    → Whole i ≡ start_renamed known word (meant_option word) (first_row (meant_option word))
unrenamed_begins known word i same none is = rw (same, none) (ap Whole is)
