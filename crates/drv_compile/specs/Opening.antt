use Rattle.drv_args.specs.declared.items.Item.{Item}
use Rattle.drv_args.specs.declared.option_table.Effect.TheVariants as effect
use Rattle.drv_args.specs.declared.option_table.Effect.{Effect}
use Rattle.drv_args.specs.declared.option_table.Setting.TheVariants as setting
use Rattle.drv_cc.specs.declared.answer.Variable.{Variable}
use Rattle.drv_compile.specs.Compilers.{values}
use Rattle.drv_compile.specs.Texts.{said_text}
use Rattle.std.specs.List.{list_any}
use Rattle.std.specs.Prelude.{Bool, List, [], ◌∷◌, codes, false, if◌then◌else◌, true, ℕ}

-- What is said before the work of a line whose commands are shown: what the compiler says of itself, and the switches of a link (GCC
-- manual, "Overall Options", -v and -###; GCC, "gcc.cc", driver::maybe_print_and_exit).
-- For clauses of src/speaking.rt.

-- whether an item shows the commands: -v or -###
abbrev pub shows : Effect → Bool
shows (effect.TurnsOn setting.Verbose) = true
shows (effect.TurnsOn setting.Dry) = true
shows _ = false

-- what the compiler says of itself, and then the switches of a link; nothing where it says nothing
abbrev pub text_shown : List Variable → List (List ℕ) → List ℕ
text_shown children [] = []
text_shown children (line ∷ lines) = said_text (line ∷ lines) children

-- the text that is said before a line's work: a line `said` of the text about the compiler is one that it says of itself. It is empty where
-- no command is shown
abbrev pub opening : List ℕ → List Item → List Variable → List ℕ
opening about items children =
    if list_any (λ i. shows i.effect) items then text_shown children (values (codes "said ") about) else []
