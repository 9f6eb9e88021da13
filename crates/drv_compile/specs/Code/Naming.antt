use Rattle.drv_cc.specs.Items.{items_of}
use Rattle.drv_cc.specs.declared.item.Item.{Item}
use Rattle.drv_compile.specs.Beside.{known_names, written_lines}
use Rattle.drv_system.specs.Facts.{Facts}
use Rattle.drv_system.specs.Known.{◌>>=◌, Is, Known}
use Rattle.std.specs.Prelude.{List, None, Option, Some, ℕ}

-- The items of a line by names of options in a file. Only private clauses of src/naming.rt cite it.
-- Names: `F` is what is known of the outside. `words` is the words of a line. `known` is a text of options beyond the table. `specs` is the
-- path of a spec file. `items_of` is the items of words by such names (drv_cc).

-- the items of a line by names of options, if the file that has them is whole
abbrev pub items_named : List (List ℕ) → Option (List ℕ) → Option (List Item)
items_named words None = None
items_named words (Some known) = Some (items_of known None words)

-- that at a path, and that of the compiler beside a spec file
abbrev pub items_at : Facts → List ℕ → List (List ℕ) → Known (Option (List Item))
items_at F path words = written_lines F path >>= λ known. Is (items_named words known)

-- the items of a line by the names of options beside a spec file
abbrev pub items_beside : Facts → List ℕ → List (List ℕ) → Known (Option (List Item))
items_beside F specs words = known_names F specs >>= λ known. Is (items_named words known)
