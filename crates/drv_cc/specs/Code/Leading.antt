use Rattle.drv_cc.specs.SideFiles.{is_given, link_base, program}
use Rattle.drv_cc.specs.declared.item.Item.{Item}
use Rattle.std.specs.Prelude.{List, None, Option, Some, if◌then◌else◌, ℕ}

-- What leads the names of a link's side files, by the name of -dumpbase and the folder that options give. Only private clauses of
-- src/leading.rt cite it.
-- Names: `items` is the items of the line. `folder` is the folder that options give, if any. `name` is that of -dumpbase. `program` is the
-- link's output without its end.

-- what leads without -dumpbase, by the folder that options give: the program's name where none gives one
abbrev pub link_program_in : List Item → Option (List ℕ) → Option (List ℕ)
link_program_in items folder = if is_given folder then None else Some (program items)

-- what leads the link's side files, by the name of -dumpbase and that folder: the code has found both already
abbrev pub link_leading_in : List Item → Option (List ℕ) → Option (List ℕ) → Option (List ℕ)
link_leading_in items (Some name) folder = Some (link_base items name)
link_leading_in items None folder = link_program_in items folder
