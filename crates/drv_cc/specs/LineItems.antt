use Rattle.drv_args.specs.declared.items.Item.{Item as LineItem}
use Rattle.drv_args.specs.declared.option_table.Effect.TheVariants as effect
use Rattle.drv_args.specs.declared.option_table.Effect.{Effect}
use Rattle.drv_args.specs.declared.option_table.Setting.TheVariants as setting
use Rattle.drv_args.specs.declared.option_table.Tool.TheVariants as tool
use Rattle.drv_cc.specs.Items.{same}
use Rattle.drv_cc.specs.declared.item.Item.{Item}
use Rattle.drv_options.specs.declared.option.Role.TheVariants as role
use Rattle.drv_options.specs.declared.option.Role.{Role}
use Rattle.drv_options.specs.declared.option.Spelling.TheVariants.{Alone, Joined, Nowhere, Separate}
use Rattle.drv_options.specs.declared.option.Spelling.{Spelling}
use Rattle.std.specs.Prelude.{List, [], None, Option, Some, codes, if◌then◌else◌, ℕ}

-- An item of a line of gcc as one of the driver's line (GCC manual, "Overall Options", "Directory Options", "Link Options", "Preprocessor
-- Options", "Assembler Options"): what it does there, by the name of its option.
-- For clauses of src/line_items.rt, src/line_adding.rt and src/giving.rt. drv_compile cites it too.

-- what an option does that has no argument, one in its word, or one after it
abbrev pub alone_effect : List ℕ → Effect
alone_effect name =
    if same name (codes "-###") then effect.TurnsOn setting.Dry
    else if same name (codes "-v") then effect.TurnsOn setting.Verbose
    else if same name (codes "-pass-exit-codes") then effect.TurnsOn setting.PassCodes
    else if same name (codes "-pipe") then effect.TurnsOn setting.Pipe
    else effect.Switch

-- what an option does whose argument is in its word
abbrev pub joined_effect : List ℕ → Effect
joined_effect name =
    if same name (codes "-specs=") then effect.Specs
    else if same name (codes "-l") then effect.Library
    else if same name (codes "-Wl,") then effect.Pieces tool.Linker
    else if same name (codes "-Wa,") then effect.Pieces tool.Assembler
    else if same name (codes "-Wp,") then effect.Pieces tool.Preprocessor
    else effect.JoinedSwitch

-- what an option does whose argument is the next word
abbrev pub separate_effect : List ℕ → Effect
separate_effect name =
    if same name (codes "-x") then effect.Language
    else if same name (codes "-o") then effect.Output
    else if same name (codes "-B") then effect.Prefix
    else if same name (codes "-Xlinker") then effect.Piece tool.Linker
    else if same name (codes "-Xassembler") then effect.Piece tool.Assembler
    else if same name (codes "-Xpreprocessor") then effect.Piece tool.Preprocessor
    else effect.SwitchWithArgument

-- what an option does on the driver's line, by its spelling; one that is spelled nowhere does nothing there
abbrev pub option_effect : Spelling → List ℕ → Option Effect
option_effect Alone name = Some (alone_effect name)
option_effect Joined name = Some (joined_effect name)
option_effect Separate name = Some (separate_effect name)
option_effect Nowhere name = None

-- what an item does there: a file is a file, whatever its name
abbrev pub effect_of : Role → Spelling → List ℕ → Option Effect
effect_of role.Input spelling name = Some effect.File
effect_of _ spelling name = option_effect spelling name

-- an item of the driver's line
abbrev pub item_of : Effect → List ℕ → List ℕ → LineItem
item_of effect option argument = record { effect = effect; option = option; argument = argument }

-- an item as one of the driver's line, if it does anything there
abbrev pub with_effect : Option Effect → Item → Option LineItem
with_effect None i = None
with_effect (Some effect) i = Some (item_of effect i.name i.argument)

-- an item of gcc's line as one of the driver's, by its role and spelling; some do nothing there
abbrev pub line_item : Item → Option LineItem
line_item i = with_effect (effect_of i.role i.spelling i.name) i

-- a word that is an item by itself
abbrev pub alone : Effect → List ℕ → LineItem
alone effect word = item_of effect word []
