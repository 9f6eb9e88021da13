use Rattle.drv_cc.specs.Code.Parts.{last_byte}
use Rattle.drv_cc.specs.Items.{begins}
use Rattle.drv_cc.specs.declared.item.Item.{Item}
use Rattle.drv_options.specs.declared.option.Role.TheVariants as role
use Rattle.drv_options.specs.declared.option.Role.{Role}
use Rattle.drv_words.specs.Bytes.{equals}
use Rattle.std.specs.Prelude.{◌==◌, ◌||◌, Bool, List, codes, false, true, ℕ}

-- Which items may make their line a question for gcc: the code asks this of each before it goes over them for each question. Only private
-- clauses of src/asking.rt cite it.
-- Names: `i` is an item of the line. `name` is its name. `begins` and `last_byte` are in Items and Code/Parts.

-- whether an item by its role may make its line a question
abbrev pub is_speaking : Role → Bool
is_speaking role.Question = true
is_speaking role.Tells = true
is_speaking _ = false

-- gcc judges arguments in an option's word, and options of debugging
abbrev pub is_judged : List ℕ → Bool
is_judged name = begins (codes "-g") name || last_byte name == equals

-- whether an item may make its line a question: only such ones are looked at further
abbrev pub may_ask : Item → Bool
may_ask i = is_speaking i.role || is_judged i.name
