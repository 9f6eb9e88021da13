use Rattle.drv_cc.specs.Code.Leading.{link_leading_in}
use Rattle.drv_cc.specs.SideFiles.{given_base, given_folder, link_leading, link_leading_by}
use Rattle.drv_cc.specs.declared.item.Item.{Item}
use Rattle.std.proofs.Common.{◌≡◌, ◌∙◌, List, None, Option, Some, ap, refl, ℕ}

-- For `link_beginning` (src/leading.rt): what leads the names of a link's side files is what the base and the folder that options give lead
-- to.
-- Names: `items` is the items of the line. `base` is the name of -dumpbase. `folder` is the folder that options give. `link_leading` is
-- what leads the names of a link's side files, and `link_leading_in` the same by both (specs/Code/Leading).

-- The code takes the folder of the options as an argument, which the definition looks up.
leading_so : (items : List Item) (base : Option (List ℕ)) → link_leading_in items base (given_folder items) ≡ link_leading_by items base
leading_so items None = refl
leading_so items (Some name) = refl

-- For `link_beginning` (src/leading.rt), which looks -dumpbase and the folders up once.
pub link_leads : (items : List Item) (base folder leading : Option (List ℕ)) → base ≡ given_base items → folder ≡ given_folder items
    → leading ≡ link_leading_in items base folder → leading ≡ link_leading items
link_leads items base folder leading base_is folder_is is =
    is ∙ ap (link_leading_in items base) folder_is ∙ leading_so items base ∙ ap (link_leading_by items) base_is
