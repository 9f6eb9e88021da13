use Rattle.drv_syntax.specs.Rest.{Left, after}
use Rattle.drv_syntax.specs.Code.Marks.{byte_labels}
use Rattle.drv_syntax.specs.Code.Runs.{runs}
use Rattle.drv_syntax.specs.Code.Tests.{choice_here, opened}
use Rattle.drv_syntax.specs.Code.Tokens.{plain_tokens, whole_token}
use Rattle.drv_syntax.specs.Code.Writing.{Parts, Reading, at_rest, given, item_given, item_on, item_written, kind_seen, leaf_here, open_at}
use Rattle.drv_syntax.specs.Code.Writing.{wrote}
use Rattle.drv_syntax.specs.Rest.{first_of}
use Rattle.drv_syntax.specs.Contexts.{InArguments, InX, Kind, ListContext, Mixed, Nobody, Owner, Starred, Top}
use Rattle.drv_syntax.specs.Descent as d
use Rattle.drv_syntax.specs.Descent.{Lists, Read, levels, no_lists, within}
use Rattle.drv_syntax.specs.Labels.{Label, alternative_label, both, no_label, node, no_node, nodes_of, star_label, test_nodes}
use Rattle.drv_syntax.specs.Spelling.{span}
use Rattle.drv_syntax.specs.Stars.{tests_have_star}
use Rattle.drv_syntax.specs.Tree as tree
use Rattle.drv_syntax.specs.Tree.{Brace, Choices, Item, Items, Span, choice, more, no_choice, none}
use Rattle.drv_syntax.specs.Code.Tests.{added, patterns_written}
use Rattle.drv_syntax.specs.declared.descent.lists.Inside as inside_code
use Rattle.drv_syntax.specs.declared.descent.lists.Inside.TheVariants as insides
use Rattle.drv_syntax.specs.declared.descent.parts.Choice.{Choice}
use Rattle.drv_syntax.specs.declared.descent.simple.Tail.{Tail}
use Rattle.drv_syntax.specs.declared.directives.BraceKind.TheVariants.{InPlace, IntoArgumentsFile, IntoFailureFile}
use Rattle.drv_syntax.specs.declared.directives.BraceKind.{BraceKind}
use Rattle.drv_syntax.specs.declared.directives.Directive.TheVariants as directives
use Rattle.drv_syntax.specs.declared.directives.Directive.{Directive}
use Rattle.drv_syntax.specs.declared.fault.SyntaxFault.TheVariants.{Unclosed}
use Rattle.drv_syntax.specs.declared.fault.SyntaxFault.{SyntaxFault}
use Rattle.drv_syntax.specs.declared.descent.contexts.ListContext as code
use Rattle.drv_syntax.specs.declared.descent.contexts.ListKind.{ListKind}
use Rattle.drv_syntax.specs.declared.descent.tokens.Open.{Open}
use Rattle.drv_syntax.specs.declared.descent.contexts.StarOwner.TheVariants as owners
use Rattle.drv_syntax.specs.declared.descent.contexts.StarOwner.{StarOwner}
use Rattle.drv_syntax.specs.declared.token.TokenKind.TheVariants as kinds
use Rattle.drv_syntax.specs.declared.token.TokenKind.{TokenKind}
use Rattle.std.specs.List.{prefix_len}
use Rattle.std.specs.Prelude.{◌≡◌, ◌+◌, ◌++◌, Bool, false, true, if◌then◌else◌, List, [], ◌∷◌, Err, None, Ok, Option, Result, Some}
use Rattle.std.specs.Prelude.{length}
use Rattle.std.specs.Prelude.{slice_set, suc, take, zero, ℕ}

-- What the code writes of lists of items, and of what holds them: for the clauses of src/descent/lists.rt, src/descent/simple.rt and
-- src/descent/parts.rt, and no law cites it. A change here needs the same change there.
-- Names: NAME_given is what a function gives, with its value and what was read after it, or its fault. NAME_here writes a part from the
-- place of what is left. `outer` is the place of the outermost directive that is open, if one is, and `at` that of the innermost. `n` is a
-- place of the text, `z` the parts so far, and `v` those parts and the text that is left (`Reading`). In a `Tail`, what a list ends with,
-- the end byte is 0 at the end of a whole text, and as long as the list goes on. `after`: what is left so many bytes on. `given`: what the
-- reading of a part gives. `item_written`: writes an item with all that is inside it.

-- the text has a byte left: a function that takes one asks for this
abbrev pub begins : List ℕ → Bool
begins [] = false
begins (b ∷ text) = true

-- contexts

-- what %* finds around it, as the code's type has it
abbrev pub owner_seen : StarOwner → Owner
owner_seen owners.Nobody = Nobody
owner_seen owners.Mixed = Mixed
owner_seen owners.Starred = Starred

-- the context of a list, as the code's type has it
abbrev pub context_seen : code.ListContext → ListContext
context_seen c = record { kind = kind_seen c.kind; in_arguments = c.in_arguments; owner = owner_seen c.owner; levels = c.levels }

-- the context in an X of a list, whose tests are all starred patterns or are not; the code counts the tests as it reads them
abbrev pub owner_when : Bool → ListContext → ListContext
owner_when starred c = record { kind = InX; in_arguments = c.in_arguments; owner = if starred then Starred else Mixed; levels = c.levels }

-- a list that isn't a whole text is in a directive, so that `outer` has the place of one
abbrev pub Opened : Kind → Option ℕ → Type 0
Opened Top outer = Unit {0}
Opened InX (Some at) = Unit {0}
Opened InX None = ⊥
Opened InArguments (Some at) = Unit {0}
Opened InArguments None = ⊥

-- what reads the lists in a list of so many levels; a list of no level holds none
abbrev pub around : ℕ → Lists × Lists
around zero = (no_lists, no_lists)
around (suc level) = levels level

-- items without an inside

-- writes the byte that comes next as a part of this kind
abbrev pub byte_here : TokenKind → Label → Reading → Reading
byte_here kind label v = leaf_here kind label v.rest.at (at_rest (after 1 v.rest) v)

-- the directive holds no list: `directive` of simple.rt reads it, and lists.rt the others
abbrev pub is_simple : Directive → Bool
is_simple directives.WithCall = false
is_simple directives.WithBraces = false
is_simple (directives.WithMarkedBraces kind) = false
is_simple _ = true

-- what a list ends with right after an item that is no white space: here
abbrev pub tail_at : Reading → Tail
tail_at v = record { kept = v.rest.at; tokens = length v.parts.tokens; labels = length v.parts.labels; end = 0 }

-- writes so many plain bytes, which come next
abbrev pub run_after : ℕ → Reading → Reading
run_after size v =
    record {
      rest = after size v.rest;
      parts = record {
        tokens = v.parts.tokens ++ plain_tokens v.rest.at (length v.parts.tokens + 1) (take size v.rest.bytes);
        labels = v.parts.labels ++ byte_labels (take size v.rest.bytes);
        holds = v.parts.holds;
      };
    }

-- writes so many plain bytes; without any the list's end doesn't change
abbrev pub plains_after : ℕ → Tail → Reading → Tail × Reading
plains_after zero tail v = (tail, v)
plains_after (suc k) tail v = (tail_at (run_after (suc k) v), run_after (suc k) v)

-- writes all plain bytes that come next, as a list of this kind has them
abbrev pub plains_on : ListKind → Tail → Reading → Tail × Reading
plains_on kind tail v = plains_after (prefix_len (runs kind) v.rest.bytes) tail v

-- lists

-- writes the parts of items, one after another
abbrev pub list_written : Items → Parts → Parts
list_written none z = z
list_written (more s item items) z = list_written items (item_written s.start item s.end z)

-- the item is white space, of which an X has none at its end
abbrev pub is_white_item : Item → Bool
is_white_item tree.Blank = true
is_white_item tree.Newline = true
is_white_item _ = false

-- what a list ends with after this item, which ends at this place
abbrev pub tail_after : Item → Tail → ℕ → Parts → Tail
tail_after item tail end z =
    if is_white_item item then tail else record { kept = end; tokens = length z.tokens; labels = length z.labels; end = 0 }

-- what a list ends with after these items
abbrev pub tail_on : Tail → Items → Parts → Tail
tail_on tail none z = tail
tail_on tail (more s item items) z =
    tail_on (tail_after item tail s.end (item_written s.start item s.end z)) items (item_written s.start item s.end z)

-- what a list ends with, and the byte that ends it (0 at the end of a whole text)
abbrev pub with_end : Tail → ℕ → Tail
with_end tail end = record { kept = tail.kept; tokens = tail.tokens; labels = tail.labels; end = end }

-- writes an item, and gives what the list ends with after it
abbrev pub item_ended : Tail → Reading → Item → Left → Tail × Reading
item_ended tail v one end =
    (tail_after one tail end.at (item_written v.rest.at one end.at v.parts), item_on v.rest.at v.parts one end)

-- writes the items of a list that was read up to its end byte, and gives what the list ends with
abbrev pub listed_on : Tail → Parts → Items × ℕ → Left → Tail × Reading
listed_on tail z list rest = (with_end (tail_on tail list.0 z) list.1, record { rest = rest; parts = list_written list.0 z })

-- writes the items of a list, or gives its fault
abbrev pub listed_given : Option ℕ → Tail → Reading → Read (Items × ℕ) → Result (Tail × Reading) SyntaxFault
listed_given outer tail v read = given outer (listed_on tail v.parts) read

-- at the end of a text: a whole text's list is complete, and its end byte is 0. Any other list isn't closed, and the fault names the
-- outermost open directive, or else n, the place here.
abbrev pub end_given : Option ℕ → Kind → Tail → ℕ → Result Tail SyntaxFault
end_given outer Top tail n = Ok (with_end tail 0)
end_given outer InX tail n = Err (Unclosed (open_at outer n))
end_given outer InArguments tail n = Err (Unclosed (open_at outer n))

-- the byte that ends a list comes next, unless the list is a whole text
abbrev pub EndsAt : Kind → ℕ → List ℕ → Type 0
EndsAt Top end rest = Unit {0}
EndsAt InX end rest = first_of rest ≡ Some end
EndsAt InArguments end rest = first_of rest ≡ Some end

-- parts that hold lists

-- opens a part that begins at this place: its token is the next one, and its end is filled in later
abbrev pub opened_here : TokenKind → Label → ℕ → Reading → Open × Reading
opened_here kind label start v =
    (record { token = length v.parts.tokens; start = start }, record { rest = v.rest; parts = opened kind label start v.parts })

-- opens an alternative without tests at its colon, and takes the colon
abbrev pub default_here : Reading → Choice × Reading
default_here v = (
  record { part = record { token = length v.parts.tokens; start = v.rest.at }; label = length v.parts.labels; starred = false },
  record { rest = after 1 v.rest; parts = opened kinds.Alternative no_label v.rest.at v.parts },
)

-- ends an open part at this place, with the place in the list after all that was written inside it
abbrev pub closed_at : TokenKind → Open → ℕ → Parts → Parts
closed_at kind part end z =
    record {
      tokens = slice_set z.tokens part.token (whole_token kind part.start end (length z.tokens));
      labels = z.labels;
      holds =
          z.holds;
    }

-- ends an open part at this place, with no byte more of the text
abbrev pub closed_here : TokenKind → Open → ℕ → Reading → Reading
closed_here kind part end v = record { rest = v.rest; parts = closed_at kind part end v.parts }

-- ends an alternative at the tail of its X: what was written after that is taken back, and the label says whether the X held a %*
abbrev pub owned_at : Choice → Tail → Bool → Parts → Parts
owned_at c tail holds z =
    record {
      tokens = slice_set (take tail.tokens z.tokens) c.part.token
          (whole_token kinds.Alternative c.part.start tail.kept (length (take tail.tokens z.tokens)));
      labels = slice_set (take tail.labels z.labels) c.label (star_label z.holds);
      holds = holds;
    }

-- ends an alternative at the tail of its X, with no byte more of the text
abbrev pub owned_here : Choice → Tail → Bool → Reading → Reading
owned_here c tail holds v = record { rest = v.rest; parts = owned_at c tail holds v.parts }

-- the parts as an X begins: it has no %* so far
abbrev pub unheld : Parts → Parts
unheld z = record { tokens = z.tokens; labels = z.labels; holds = false }

-- writes the X of an alternative, which begins here, and gives the byte that ends it
abbrev pub x_given : Option ℕ → ℕ → Choice → Reading → Read (Items × ℕ) → Result (ℕ × Reading) SyntaxFault
x_given outer at c v read =
    given outer
    (λ list rest. (
      list.1,
      record {
        rest = after 1 rest;
        parts = owned_at c (tail_on (tail_at v) list.0 (unheld v.parts)) v.parts.holds (list_written list.0 (unheld v.parts));
      },
    )) (within at read)

-- the inside of braces

-- writes an alternative with all that is inside it
abbrev pub choice_written : Span → tree.Tests → Items → Parts → Parts
choice_written s tests items z =
    wrote (node kinds.Alternative (alternative_label items) s (both (test_nodes tests) (nodes_of items)) no_node) (tests_have_star tests) z

-- writes alternatives, one after another
abbrev pub choices_written : Choices → Parts → Parts
choices_written no_choice z = z
choices_written (choice s tests items choices) z = choices_written choices (choice_written s tests items z)

-- writes the inside of braces, and says whether it is patterns or alternatives
abbrev pub brace_on : Parts → Brace → Left → inside_code.Inside × Reading
brace_on z (tree.Emit ps) rest = (insides.Patterns, record { rest = rest; parts = patterns_written ps z })
brace_on z (tree.Choose choices) rest = (insides.Choices, record { rest = rest; parts = choices_written choices z })

-- writes the inside of braces that was read, or gives its fault
abbrev pub brace_given : Option ℕ → Reading → Read Brace → Result (inside_code.Inside × Reading) SyntaxFault
brace_given outer v read = given outer (brace_on v.parts) read

-- writes alternatives after the first that were read, or gives their fault
abbrev pub later_given : Option ℕ → Reading → Read Choices → Result Reading SyntaxFault
later_given outer v read = given outer (λ choices rest. record { rest = rest; parts = choices_written choices v.parts }) read

-- the kind of a token of braces, by what is before them and what they hold
abbrev pub brace_kind : BraceKind → inside_code.Inside → TokenKind
brace_kind InPlace insides.Patterns = kinds.Emit
brace_kind InPlace insides.Choices = kinds.Choose
brace_kind IntoFailureFile inside = kinds.FailureFile
brace_kind IntoArgumentsFile inside = kinds.ArgumentsFile

-- writes a test of a function's result in its alternative; the reading gives no other test there, and the last line is never met
abbrev pub result_on : Option Choice → ℕ → Bool → Parts → Option tree.Asked → Left → Choice × Reading
result_on so_far start negated z (Some a) rest = choice_here (added so_far z (span start rest.at) negated a) rest
result_on so_far start negated z None rest = choice_here (added so_far z (span start rest.at) negated (tree.HasSuffix [])) rest

-- writes a test of a function's result that was read, from its percent sign on, or gives its fault
abbrev pub result_given : Option ℕ → Option Choice → ℕ → Bool → Reading → Read d.Operand → Result (Choice × Reading) SyntaxFault
result_given outer so_far start negated v read =
    given outer (λ o rest. result_on so_far start negated v.parts o.as_test rest) read

-- writes the directive whose percent sign comes next, in a list with this context, or gives its fault
abbrev pub directive_given : Option ℕ → ListContext → Lists × Lists → Reading → Result Reading SyntaxFault
directive_given outer c lists v = item_given outer v.rest.at v (d.directive lists.0 lists.1 c v.rest.at (after 1 v.rest))
