use Rattle.drv_cc.specs.Items.{begins, same}
use Rattle.drv_cc.specs.declared.item.Item.{Item}
use Rattle.drv_cc.specs.declared.refusal.Refusal.TheVariants as refusal
use Rattle.drv_cc.specs.declared.refusal.Refusal.{Refusal}
use Rattle.drv_options.specs.declared.option.Role.TheVariants as role
use Rattle.drv_options.specs.declared.option.Role.{Role}
use Rattle.std.specs.Cmp.Lexicographic.{pointwise}
use Rattle.std.specs.List.{flat_map, list_any}
use Rattle.std.specs.Prelude.{◌&&◌, ◌-◌, Bool, List, [], ◌∷◌, ◌++◌, None, Option, Some, codes, drop, false, if◌then◌else◌, length, nat_eq}
use Rattle.std.specs.Prelude.{nat_lt, not, take, true, ℕ}

-- What is refused, and which items stay (GCC manual, "Overall Options", "Developer Options"; GCC Internals, "Option
-- Properties", Negative).
-- For clauses of src/judging.rt, src/keeping.rt, src/fronting.rt and others.

-- whether the line has an option of that name
abbrev pub has : List ℕ → List Item → Bool
has name items = list_any (λ i. same name i.name) items

-- the argument of the last option of a name
abbrev pub later : List ℕ → Item → Option (List ℕ) → Option (List ℕ)
later name i argument = if same name i.name then Some i.argument else argument

-- the argument of the last option of a name among items; the one before them, if none has the name
abbrev pub last_from : Option (List ℕ) → List ℕ → List Item → Option (List ℕ)
last_from argument name [] = argument
last_from argument name (i ∷ items) = last_from (later name i argument) name items

-- the argument of the last option of that name on the line, if it has one
abbrev pub last_argument : List ℕ → List Item → Option (List ℕ)
last_argument name items = last_from None name items

-- Parts of the line.

-- whether an item goes into the link or is compiled: a file or a library
abbrev pub is_input : Role → Bool
is_input role.Input = true
is_input role.Library = true
is_input _ = false

-- whether an item is a file
abbrev pub is_file_role : Role → Bool
is_file_role role.Input = true
is_file_role _ = false

-- whether the line has an input: without one there is nothing to do
abbrev pub has_input : List Item → Bool
has_input items = list_any (λ i. is_input i.role) items

-- the line names a spec file
abbrev pub is_vendors : List Item → Bool
is_vendors items = has (codes "-specs=") items

-- Named: a spec file of the line may name a switch that is no option. A name that ends with * covers all that begin so.
abbrev pub before_star : List ℕ → Option (List ℕ)
before_star name = if pointwise nat_eq (drop (length name - 1) name) (codes "*") then Some (take (length name - 1) name) else None

-- whether a name in a spec file covers a switch: it is the switch, or what the switch begins with
abbrev pub names_by : Option (List ℕ) → List ℕ → List ℕ → Bool
names_by None name switch = same name switch
names_by (Some beginning) name switch = nat_lt 0 (length beginning) && begins beginning switch

-- whether a name in a spec file covers a switch; one that ends with * covers all that begin so
abbrev pub names : List ℕ → List ℕ → Bool
names switch name = names_by (before_star name) name switch

-- whether a spec file of the line names a word as a switch; the words of this project are none of its own
abbrev pub is_named : List (List ℕ) → List ℕ → Bool
is_named named word = not (begins (codes "--gdrv-") word) && list_any (names (drop 1 word)) named

-- Refused: each word that is no option and that no spec file of the line names; each option without its argument; each that is not
-- carried out here; then a line whose output has no name, or one without input.
abbrev pub refused_role : List (List ℕ) → Role → List ℕ → List Refusal
refused_role named role.Unknown name = if is_named named name then [] else refusal.UnknownOption name ∷ []
refused_role named role.Lacking name = refusal.NoArgument name ∷ []
refused_role named role.Refused name = refusal.NotTaken name ∷ []
refused_role named role.Input name = []
refused_role named role.Library name = []
refused_role named role.Piece name = []
refused_role named role.Switch name = []
refused_role named role.Question name = []
refused_role named role.Tells name = []

-- what is refused of an item by itself
abbrev pub refused_item : List (List ℕ) → Item → List Refusal
refused_item named i = refused_role named i.role i.name

-- whether an item is an option without its argument: such a -o is no output with an empty name
abbrev pub is_lacking : Role → Bool
is_lacking role.Lacking = true
is_lacking _ = false

-- whether -o has an empty argument, after one more item
abbrev pub unnamed_after : Item → Bool → Bool
unnamed_after i before = if same i.name (codes "-o") && not (is_lacking i.role) then same i.argument [] else before

-- whether the last -o of the line has an empty argument
abbrev pub unnamed_from : Bool → List Item → Bool
unnamed_from before [] = before
unnamed_from before (i ∷ items) = unnamed_from (unnamed_after i before) items

-- what is refused of the whole line, one fault at most: the last -o has an empty argument, or there is no input
abbrev pub refused_line : List Item → List Refusal
refused_line items =
    if unnamed_from false items then refusal.EmptyOutput ∷ []
    else if has_input items then [] else refusal.NoInput ∷ []

-- all faults of a line: those of its items in their order, and then that of the whole line
abbrev pub refusals : List (List ℕ) → List Item → List Refusal
refusals named items = flat_map (refused_item named) items ++ refused_line items

-- Kept: of each class the last item stays, and what is of no class.
abbrev pub goes : Item → List Item → Bool
goes i following = nat_lt 0 (length i.class) && list_any (λ j. same i.class j.class) following

-- the items that stay: each one that none of its class follows
abbrev pub effective_items : List Item → List Item
effective_items [] = []
effective_items (i ∷ items) = if goes i items then effective_items items else i ∷ effective_items items

-- whether all items stay
abbrev pub all_stay : List Item → Bool
all_stay [] = true
all_stay (i ∷ items) = not (goes i items) && all_stay items
