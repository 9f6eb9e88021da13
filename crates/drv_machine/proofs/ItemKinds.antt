use Rattle.drv_machine.specs.Atoms.{brace_step, item_step, matching, named, tree_named}
use Rattle.drv_machine.specs.Code.ByKind.{kind_step, labelled}
use Rattle.drv_machine.specs.Context.{Context}
use Rattle.drv_machine.specs.Code.Standing.{is_test, tests_in}
use Rattle.drv_machine.specs.Working.{Levels, Step, nothing}
use Rattle.drv_syntax.specs.Labels.{both, label_of, node, nodes_of, asked_nodes, pattern_label, test_label, test_nodes}
use Rattle.drv_syntax.specs.Tokens.{kind_of}
use Rattle.drv_syntax.specs.Tree as tree
use Rattle.drv_syntax.specs.Tree.{Brace, Item, Items, Pattern, Tests}
use Rattle.drv_syntax.specs.declared.token.TokenKind.TheVariants as kinds
use Rattle.drv_syntax.specs.declared.token.TokenKind.{TokenKind}
use Rattle.drv_system.specs.Facts.{Facts}
use Rattle.std.proofs.Common.{◌≡◌, Bool, List, ap, false, refl, true, ℕ}

-- For the walk: what an item means, by the kind and the label of its token (`kind_step`), which is how the code looks at it. The lemmas
-- NAME_item give the item of a token of that kind.
-- Names: `F`: what is known of the outside. `C`: what the text is run for (switches, texts). `levels`: what items mean after each part that
-- may still be opened. `star`: the value of `%*`. `items`: the items of a part. `p`: a test's pattern. `kind_of`: what an item is, without
-- what it names. `item_step`: the row of an item. `named`: a named text is run in one more open part. `tree_named`: the tree of the text of
-- a name, if the set has one. `label_of`: the label of an item.

-- the pattern of a label is what the pattern matches
pub labelled_is : (p : Pattern) → labelled (pattern_label p) ≡ matching p
labelled_is (tree.pattern word star) = refl

-- what the part in an item means: its braces, or the text of a name
abbrev pub inner_step : Facts → Context → Item → Levels → List ℕ → Step (Unit {0})
inner_step F C (tree.NamedText name) levels star = named F C (tree_named F C name) levels
inner_step F C (tree.BuiltinText name) levels star = named F C (tree_named F C name) levels
inner_step F C (tree.FailureFile brace) levels star = item_step F C (tree.FailureFile brace) levels star
inner_step F C (tree.ArgumentsFile brace) levels star = item_step F C (tree.ArgumentsFile brace) levels star
inner_step F C (tree.Function name items) levels star = item_step F C (tree.Function name items) levels star
inner_step F C (tree.Braces brace) levels star = brace_step F C brace levels star
inner_step F C _ levels star = nothing

-- an item means what its token's kind and label say
pub item_by_kind : (F : Facts) (C : Context) (item : Item) (levels : Levels) (star : List ℕ)
    → item_step F C item levels star ≡ kind_step F C (kind_of item) (label_of item) star (inner_step F C item levels star)
item_by_kind F C (tree.Plain b) levels star = refl
item_by_kind F C (tree.Escape b) levels star = refl
item_by_kind F C tree.Blank levels star = refl
item_by_kind F C tree.Newline levels star = refl
item_by_kind F C tree.Pipe levels star = refl
item_by_kind F C (tree.Leaf leaf) levels star = refl
item_by_kind F C (tree.TempName kind suffix) levels star = refl
item_by_kind F C (tree.Accumulate option) levels star = refl
item_by_kind F C (tree.UserError text) levels star = refl
item_by_kind F C (tree.Notice text) levels star = refl
item_by_kind F C (tree.NamedText name) levels star = refl
item_by_kind F C (tree.BuiltinText name) levels star = refl
item_by_kind F C (tree.Hide (tree.pattern word starred)) levels star = refl
item_by_kind F C (tree.Function name arguments) levels star = refl
item_by_kind F C (tree.Braces (tree.Emit patterns)) levels star = refl
item_by_kind F C (tree.Braces (tree.Choose choices)) levels star = refl
item_by_kind F C tree.Star levels star = refl
item_by_kind F C (tree.FailureFile brace) levels star = refl
item_by_kind F C (tree.ArgumentsFile brace) levels star = refl

-- a named text `%(NAME)` is the text of its label's name
pub text_item : (F : Facts) (C : Context) (item : Item) (levels : Levels) (star : List ℕ) → kind_of item ≡ kinds.NamedText
    → item_step F C item levels star ≡ named F C (tree_named F C (label_of item).word) levels
text_item F C (tree.NamedText name) levels star e = refl
text_item F C (tree.Braces (tree.Emit patterns)) levels star e = absurd cc
text_item F C (tree.Braces (tree.Choose choices)) levels star e = absurd cc
text_item F C _ levels star e = absurd cc

-- an item of the kind of %a and other letters means the text of the name that the letter has
pub builtin_item : (F : Facts) (C : Context) (item : Item) (levels : Levels) (star : List ℕ) → kind_of item ≡ kinds.BuiltinText
    → item_step F C item levels star ≡ named F C (tree_named F C (label_of item).word) levels
builtin_item F C (tree.BuiltinText name) levels star e = refl
builtin_item F C (tree.Braces (tree.Emit patterns)) levels star e = absurd cc
builtin_item F C (tree.Braces (tree.Choose choices)) levels star e = absurd cc
builtin_item F C _ levels star e = absurd cc

-- an item of the kind of a %W is a %W of some braces
pub failure_item : (item : Item) → kind_of item ≡ kinds.FailureFile → (brace : Brace) × (item ≡ tree.FailureFile brace)
failure_item (tree.FailureFile brace) e = (brace, refl)
failure_item (tree.Braces (tree.Emit patterns)) e = absurd cc
failure_item (tree.Braces (tree.Choose choices)) e = absurd cc
failure_item _ e = absurd cc

-- an item of the kind of a %@ is a %@ of some braces
pub filed_item : (item : Item) → kind_of item ≡ kinds.ArgumentsFile → (brace : Brace) × (item ≡ tree.ArgumentsFile brace)
filed_item (tree.ArgumentsFile brace) e = (brace, refl)
filed_item (tree.Braces (tree.Emit patterns)) e = absurd cc
filed_item (tree.Braces (tree.Choose choices)) e = absurd cc
filed_item _ e = absurd cc

-- an item of the kind of a function is a function of some arguments
pub function_item : (item : Item) → kind_of item ≡ kinds.Function → (name : List ℕ) × (items : Items) × (item ≡ tree.Function name items)
function_item (tree.Function name items) e = (name, items, refl)
function_item (tree.Braces (tree.Emit patterns)) e = absurd cc
function_item (tree.Braces (tree.Choose choices)) e = absurd cc
function_item _ e = absurd cc

-- the token is that of a part inside braces, which is no item: an alternative, a test or a pattern
abbrev is_part : TokenKind → Bool
is_part kinds.Alternative = true
is_part kinds.Test = true
is_part kinds.Pattern = true
is_part _ = false

-- no item's token is a part of another item: a pattern, a test or an alternative
item_no_part : (item : Item) → is_part (kind_of item) ≡ false
item_no_part (tree.Plain b) = refl
item_no_part (tree.Escape b) = refl
item_no_part tree.Blank = refl
item_no_part tree.Newline = refl
item_no_part tree.Pipe = refl
item_no_part (tree.Leaf leaf) = refl
item_no_part (tree.TempName kind suffix) = refl
item_no_part (tree.Accumulate option) = refl
item_no_part (tree.UserError text) = refl
item_no_part (tree.Notice text) = refl
item_no_part (tree.NamedText name) = refl
item_no_part (tree.BuiltinText name) = refl
item_no_part (tree.Hide p) = refl
item_no_part (tree.Function name arguments) = refl
item_no_part (tree.Braces (tree.Emit patterns)) = refl
item_no_part (tree.Braces (tree.Choose choices)) = refl
item_no_part tree.Star = refl
item_no_part (tree.FailureFile brace) = refl
item_no_part (tree.ArgumentsFile brace) = refl

-- no item is a test
pub item_no_test : (item : Item) → is_test (kind_of item) ≡ false
item_no_test item = by (kind_of item) (item_no_part item)
  where
    by : (kind : TokenKind) → is_part kind ≡ false → is_test kind ≡ false
    by kinds.Test e = absurd cc
    by _ e = refl

-- no item is an alternative
pub item_no_alternative : (item : Item) → kind_of item ≡ kinds.Alternative → ⊥
item_no_alternative item e = let f = item_no_part item in let g : is_part (kind_of item) ≡ true = ap is_part e in cc

-- of an alternative's tests and items, the tests are the first parts
pub tests_first : (tests : Tests) (items : Items) → tests_in (both (test_nodes tests) (nodes_of items)) ≡ test_nodes tests
tests_first tree.no_test tree.none = refl
tests_first tree.no_test (tree.more span item items) = rw (item_no_test item) refl
tests_first (tree.test span negated asked tests) items =
    ap (λ n. node kinds.Test (test_label negated asked) span (asked_nodes asked) n) (tests_first tests items)
