use Rattle.drv_cc.specs.Items.{beyond, meant_option, newer_item}
use Rattle.drv_cc.specs.UnknownWords.{is_unknown}
use Rattle.drv_cc.specs.declared.item.Item.{Item}
use Rattle.drv_words.specs.Bytes.{newline}
use Rattle.std.specs.Prelude.{◌==◌, Bool, List, [], ◌∷◌, if◌then◌else◌, length, nat_lt, true, ℕ}

-- How the code looks for a line of a text, and how it asks unknown words again. Only private clauses of src/reading.rt, src/known.rt and
-- others cite them.
-- Names: `known` is the names beyond the table, a line each. `name` is an unknown word. `newer` is the other name that newer compilers
-- alone give it. `i` is an item.

-- a line ends where this text begins
abbrev pub is_ended : List ℕ → Bool
is_ended [] = true
is_ended (b ∷ rest) = b == newline

-- an unknown word asked again by names: one with an argument is that of a row, whose other name this is
abbrev pub asked_again : List ℕ → List ℕ → List ℕ → Item
asked_again known name newer = if nat_lt 0 (length newer) then newer_item known name newer else beyond known name (meant_option name)

-- an item of a line that was read without names of options, by these names
abbrev pub again : List ℕ → Item → Item
again known i = if is_unknown i.role then asked_again known i.name i.argument else i
