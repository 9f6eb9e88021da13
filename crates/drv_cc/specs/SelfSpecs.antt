use Rattle.drv_args.specs.declared.items.Item.{Item as LineItem}
use Rattle.drv_args.specs.declared.option_table.Effect.TheVariants as effect
use Rattle.drv_args.specs.declared.option_table.Effect.{Effect}
use Rattle.drv_args.specs.declared.option_table.Setting.TheVariants as setting
use Rattle.drv_cc.specs.Children.{machine_words, told}
use Rattle.drv_cc.specs.Front.{dump_words, first_words, outputs, program_items, switch_words, thread_words, variables}
use Rattle.drv_cc.specs.Items.{is_among, item, items_of, same}
use Rattle.drv_cc.specs.Kept.{effective_items, refused_role}
use Rattle.drv_cc.specs.Levels.{check_words, debug_words_of, debugging_of, no_debugging, toggled}
use Rattle.drv_cc.specs.LineItems.{alone, effect_of, line_item}
use Rattle.drv_cc.specs.SideFiles.{inputs, side_words}
use Rattle.drv_cc.specs.Table.{texts}
use Rattle.drv_cc.specs.declared.answer.Answer.TheVariants.{Refuse, Run}
use Rattle.drv_cc.specs.declared.answer.Answer.{Answer}
use Rattle.drv_cc.specs.declared.answer.Stages.TheVariants.{All}
use Rattle.drv_cc.specs.declared.answer.Surroundings.{Surroundings}
use Rattle.drv_cc.specs.declared.answer.Variable.{Variable}
use Rattle.drv_cc.specs.declared.giving.Given.{Given}
use Rattle.drv_cc.specs.declared.item.Item.{Item}
use Rattle.drv_cc.specs.declared.levels.Debugging.{Debugging}
use Rattle.drv_cc.specs.declared.refusal.Refusal.TheVariants.{GivenFile, NotTaken}
use Rattle.drv_cc.specs.declared.refusal.Refusal.{Refusal}
use Rattle.drv_options.specs.declared.option.Role.TheVariants as role
use Rattle.drv_options.specs.declared.option.Role.{Role}
use Rattle.drv_options.specs.declared.option.Spelling.TheVariants.{Alone}
use Rattle.std.specs.List.{filter, filter_map, flat_map, starts_with}
use Rattle.std.specs.Prelude.{nat_lt, not, true, ℕ}
use Rattle.std.specs.Prelude.{◌||◌, Bool, List, [], ◌∷◌, ◌++◌, None, Option, Some, codes, drop, false, if◌then◌else◌, length, map, nat_eq}

-- A line whose spec files give it options: their text `self_spec` is run once, with the switches of the line and no input, and its words
-- are options of the line (GCC, "gcc.cc", set_up_specs, do_self_spec, read_cmdline_option; GCC manual, "Spec Files").
-- For clauses of src/giving.rt, src/hiding.rt, src/levels.rt and src/collecting.rt. drv_compile cites it too.

-- What the text sees: what stays of the line, and the threads that it needs.
abbrev pub thread_item : List ℕ → Item
thread_item word = item word [] Alone role.Switch

-- the items that `self_spec` sees: those that stay, and -pthread where the line needs threads
abbrev pub visible_items : List Item → List Item
visible_items items = items ++ map thread_item (thread_words items)

-- the items of a line's words that `self_spec` sees, as items of the driver's line
abbrev pub seen_items : List ℕ → List (List ℕ) → List LineItem
seen_items known words = filter_map line_item (visible_items (effective_items (items_of known None words)))

-- The words by which a text writes a switch of the line; none for what is no switch.
abbrev pub written_by : Effect → List ℕ → List ℕ → List (List ℕ)
written_by (effect.TurnsOn setting.Verbose) option argument = option ∷ []
written_by (effect.TurnsOn setting.Pipe) option argument = option ∷ []
written_by effect.Switch option argument = option ∷ []
written_by effect.SwitchWithArgument option argument = option ∷ argument ∷ []
written_by effect.Output option argument = option ∷ argument ∷ []
written_by effect.JoinedSwitch option argument = (option ++ argument) ∷ []
written_by effect.Specs option argument = (option ++ argument) ∷ []
written_by effect.Prefix option argument = (option ++ argument) ∷ []
written_by _ option argument = []

-- the words of an item by what it does, if it is one of the driver's line
abbrev pub written_if : Option Effect → Item → List (List ℕ)
written_if None i = []
written_if (Some effect) i = written_by effect i.name i.argument

-- the words by which the text would write an item, to find it among those that it left
abbrev pub item_words : Item → List (List ℕ)
item_words i = written_if (effect_of i.role i.spelling i.name) i

-- Hidden for good: a switch that the text hid. `left` are the words of those that it left, in their order. Switches of one name are hidden
-- alike, so the first word tells.
abbrev pub is_left : List (List ℕ) → List (List ℕ) → Bool
is_left [] left = true
is_left (word ∷ words) [] = false
is_left (word ∷ words) (first ∷ others) = same word first

-- the items that the text left: those whose words are next among the words left
abbrev pub live : List Item → List (List ℕ) → List Item
live [] left = []
live (i ∷ items) left = if is_left (item_words i) left then i ∷ live items (drop (length (item_words i)) left) else live items left

-- Given: the text's words as items, pruned among themselves. A spec file and a language come too late to count.
abbrev pub is_late : Item → Bool
is_late i = is_among (texts (codes "-specs= -x")) i.name

-- the items that the text gives to a line, by its words
abbrev pub given_items : List ℕ → List (List ℕ) → List Item
given_items known words = filter (λ i. not (is_late i)) (effective_items (items_of known None words))

-- Refused of them: a file, a question, a choice of a machine, since gcc has added its defaults before, and what is refused on a line.
abbrev pub is_machine : List ℕ → Bool
is_machine name = starts_with nat_eq name (codes "-m")

-- what is refused of an item that the text gives, by its role
abbrev pub given_refused : List (List ℕ) → Role → List ℕ → List Refusal
given_refused named role.Input name = GivenFile name ∷ []
given_refused named role.Question name = NotTaken name ∷ []
given_refused named role.Switch name = if is_machine name then NotTaken name ∷ [] else []
given_refused named other name = refused_role named other name

-- what is refused of all items that the text gives
abbrev pub given_refusals : List (List ℕ) → List Item → List Refusal
given_refusals named given = flat_map (λ i. given_refused named i.role i.name) given

-- The level of debugging goes on from that of the line, whose toggle is not turned again.
abbrev pub with_toggle : Debugging → Debugging
with_toggle d = record d { level = toggled d; toggled = false }

-- level, version and toggle after the line and what the text gives it
abbrev pub debugged_with : List Item → List Item → Debugging
debugged_with items given = debugging_of (with_toggle (debugging_of no_debugging items)) given

-- the words for the level and version after that; a toggle counts on the line alone
abbrev pub levels_with : Debugging → List (List ℕ)
levels_with d = debug_words_of d.level d.version

-- The items: the switches that were left and those that are given, and what is added to the line as it was read. `all` are the items of the
-- line and those that are given.

-- the words that are added as switches: `given` raises the level of debugging that the line set
abbrev pub switches_with : Surroundings → List Item → List Item → List Item → List (List ℕ)
switches_with around items given all = first_words around all ++ side_words items ++ levels_with (debugged_with items given)
    ++ check_words all

-- what is added to a line that the text gave items
abbrev pub added_with : Surroundings → List Item → List Item → List Item → List LineItem
added_with around items given all =
    program_items around all ++ map (alone effect.Switch) (switches_with around items given all)

-- all items of the driver's line then: `left` are those that the text left, and `given` those that it gives
abbrev pub items_with : Surroundings → List Item → List Item → List Item → List LineItem
items_with around items left given =
    filter_map line_item left ++ filter_map line_item given ++ added_with around items given (items ++ given)

-- the words that COLLECT_GCC_OPTIONS holds then: the switches, what the compiler adds for its machine, and -dumpdir for the side files
abbrev pub collected_with : List (List ℕ) → List Item → List Item → List (List ℕ)
collected_with told items switches = switch_words switches ++ machine_words told ++ dump_words items

-- the variables for the line's children then: gcc adds the options for its machine before the text is run
abbrev pub children_with : Surroundings → List Item → List Item → List Item → List Variable
children_with around items left given = variables around (told around.children items) (items ++ given)
    (collected_with (told around.children items) items (left ++ given))

-- the answer for a line that is carried out, with what its text gives. All stages are in it, since the text may have changed any
abbrev pub run_with : Surroundings → List Item → List Item → List Item → Answer
run_with around items left given =
    Run (record {
      items = items_with around items left given;
      inputs = inputs items;
      outputs = outputs items;
      children = children_with around items left given;
      stages = All;
    })

-- the faults of what the text gives, or what the line runs
abbrev pub refused_or_run_with : Surroundings → List Item → List Item → List Item → List Refusal → Answer
refused_or_run_with around items left given faults =
    if nat_lt 0 (length faults) then Refuse faults else run_with around items left given

-- the answer, by what the text left and gave: `items` are those of the line before it
abbrev pub answer_with : List (List ℕ) → Surroundings → List Item → List (List ℕ) → List Item → Answer
answer_with named around items left given =
    refused_or_run_with around items (live (visible_items items) left) given (given_refusals named given)

-- the answer for a line's words after its text was run once: `given` has the words that it left and gave
abbrev pub front_with : List ℕ → List (List ℕ) → Surroundings → List (List ℕ) → Given → Answer
front_with known named around words given =
    answer_with named around (effective_items (items_of known None words)) given.left (given_items known given.words)
