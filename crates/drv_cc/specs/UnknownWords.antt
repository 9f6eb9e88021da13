use Rattle.drv_cc.specs.Asked.{is_asked}
use Rattle.drv_cc.specs.declared.item.Item.{Item}
use Rattle.drv_options.specs.declared.option.Role.TheVariants as role
use Rattle.drv_options.specs.declared.option.Role.{Role}
use Rattle.std.specs.List.{list_any}
use Rattle.std.specs.Prelude.{◌&&◌, Bool, List, false, not, true}

-- Words that are no options.
-- For clauses of src/items.rt. drv_compile cites it too.

-- whether an item is a word that is no option as far as names tell
abbrev pub is_unknown : Role → Bool
is_unknown role.Input = false
is_unknown role.Library = false
is_unknown role.Piece = false
is_unknown role.Switch = false
is_unknown role.Question = false
is_unknown role.Tells = false
is_unknown role.Refused = false
is_unknown role.Unknown = true
is_unknown role.Lacking = false

-- whether a line is refused for such a word, if its spec files name no switches
abbrev pub has_unknown : List Item → Bool
has_unknown items = list_any (λ i. is_unknown i.role) items && not (is_asked items)
