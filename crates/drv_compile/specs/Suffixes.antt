use Rattle.drv_args.specs.declared.items.Item.{Item}
use Rattle.drv_args.specs.declared.option_table.Effect.TheVariants as effect
use Rattle.drv_args.specs.declared.option_table.Effect.{Effect}
use Rattle.drv_cc.specs.Items.{is_among}
use Rattle.drv_cc.specs.Table.{texts}
use Rattle.drv_compile.specs.Compilers.{values}
use Rattle.drv_compile.specs.Decides.{first_of}
use Rattle.drv_words.specs.Bytes as byte
use Rattle.drv_words.specs.FileNames.{base}
use Rattle.std.specs.List.{list_any}
use Rattle.std.specs.Prelude.{◌==◌, Bool, List, [], ◌∷◌, ◌++◌, None, Option, Some, codes, if◌then◌else◌, map, ℕ}

-- The name of a program that a line links: with the machine's suffix of programs, if it has none (GCC, "gcc.cc", convert_filename). The
-- file beside the spec file may have a line `suffix .exe`.
-- For clauses of src/suffixing.rt and src/machines.rt.

-- what is no file
abbrev pub is_no_file : List ℕ → Bool
is_no_file path = is_among (texts (codes "- /dev/null")) path

-- whether a file's name has a period: then it has a suffix already
abbrev pub has_dot : List ℕ → Bool
has_dot path = list_any (λ b. b == byte.period) (base path)

-- an output with the machine's suffix of programs, if it is a file without any
abbrev pub name_with_suffix : List ℕ → List ℕ → List ℕ
name_with_suffix suffix path = if is_no_file path then path else if has_dot path then path else path ++ suffix

-- an item's argument with that suffix, if the item is the output
abbrev pub argument_by : Effect → List ℕ → List ℕ → List ℕ
argument_by effect.Output suffix path = name_with_suffix suffix path
argument_by _ suffix path = path

-- an item's argument, by what the item does
abbrev pub argument_of : List ℕ → Item → List ℕ
argument_of suffix i = argument_by i.effect suffix i.argument

-- an item whose output has the suffix
abbrev pub with_suffix : List ℕ → Item → Item
with_suffix suffix i = record i { argument = argument_of suffix i }

-- the options by which nothing is linked, as that function counts them
abbrev pub is_unlinked : Item → Bool
is_unlinked i = is_among (texts (codes "-c -S -E")) i.option

-- the items of a line that links, with the suffix at their output; other lines stay as they are
abbrev pub suffixed_items : List ℕ → List Item → List Item
suffixed_items suffix items = if list_any is_unlinked items then items else map (with_suffix suffix) items

-- the items of a line by the suffix that a file names, if it names one
abbrev pub suffixed_if : Option (List ℕ) → List Item → List Item
suffixed_if None items = items
suffixed_if (Some suffix) items = suffixed_items suffix items

-- where the file is not whole, the line stays as it is
abbrev pub suffixed_by : Option (List ℕ) → List Item → List Item
suffixed_by None items = items
suffixed_by (Some text) items = suffixed_if (first_of (values (codes "suffix ") text)) items
