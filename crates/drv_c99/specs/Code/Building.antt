use Rattle.drv_c99.specs.Front as front
use Rattle.drv_c99.specs.Front.{Item, Start, defined_words, is_operand, other_words, undefined_words}
use Rattle.drv_c99.specs.declared.building.Front.{Front}
use Rattle.drv_c99.specs.declared.fault.C99Fault.TheVariants.{Memory, NoOperand}
use Rattle.drv_c99.specs.declared.fault.C99Fault.{C99Fault}
use Rattle.drv_c99.specs.declared.option.Start.TheVariants as code
use Rattle.drv_c99.specs.declared.option.Start.{Start as CodeStart}
use Rattle.std.specs.List.{flat_map, list_any}
use Rattle.std.specs.Prelude.{◌≡◌, ◌⊎◌, ◌||◌, Err, List, [], ◌∷◌, ◌++◌, Ok, Result, codes, false, if◌then◌else◌, ℕ}

-- A front that is built item by item. Only private clauses cite it: `front_of` defines what `front` returns.

-- the front before the first item: no word but the standard
abbrev pub begun : Front
begun = record { defined = []; undefined = []; others = []; has_operand = false }

-- the front with these items added
abbrev pub with_items : Front → List Item → Front
with_items f items = record {
  defined = f.defined ++ flat_map defined_words items;
  undefined = f.undefined ++ flat_map undefined_words items;
  others = f.others ++ flat_map other_words items;
  has_operand = f.has_operand || list_any is_operand items;
}

-- the front with one item added, or its refusal
abbrev pub noted : Front → Result Item C99Fault → Result Front C99Fault
noted f (Ok i) = Ok (with_items f (i ∷ []))
noted f (Err fault) = Err fault

-- all words of the front; a line without an operand is refused
abbrev pub finished : Front → Result (List (List ℕ)) C99Fault
finished f = if f.has_operand then Ok (codes "-std=c99" ∷ f.defined ++ f.undefined ++ f.others) else Err NoOperand

-- all words, with the result of the rest of the line
abbrev pub front_with : Front → Result (List Item) C99Fault → Result (List (List ℕ)) C99Fault
front_with f (Ok items) = finished (with_items f items)
front_with f (Err fault) = Err fault

-- the code's value without its references
abbrev pub start_shown : CodeStart → Start
start_shown code.Flag = front.Flag
start_shown (code.Operand prefix) = front.Names prefix.now
start_shown (code.Joined option argument) = front.Joined option argument.now
start_shown (code.Wants option) = front.Wants option
start_shown code.Ends = front.Ends
start_shown code.Unknown = front.Unknown

-- words are added: finishing gives the result of the rest, or the refusal is the result, unless memory ran out
abbrev pub Goes : Result (List (List ℕ)) C99Fault → Result (Unit {0}) C99Fault → Result (List (List ℕ)) C99Fault → Type 0
Goes end (Ok u) whole = whole ≡ end
Goes end (Err e) whole = (e ≡ Memory) ⊎ (whole ≡ Err e)
