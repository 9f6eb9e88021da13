use Rattle.drv_words.specs.Bytes as ascii
use Rattle.drv_syntax.specs.Bytes.{is_option, is_word}
use Rattle.drv_syntax.specs.Contexts.{InArguments, InX, Kind, Top, is_said}
use Rattle.drv_syntax.specs.Rest.{Left}
use Rattle.drv_syntax.specs.Code.Tokens.{whole_token}
use Rattle.drv_syntax.specs.Descent.{Ends, Read, Run, Stops, Took}
use Rattle.drv_syntax.specs.Labels.{Label, Nodes, inner_nodes, label_of, labels, no_node, node}
use Rattle.drv_syntax.specs.Spelling.{span}
use Rattle.drv_syntax.specs.Stars.{item_has_star}
use Rattle.drv_syntax.specs.Tokens.{kind_of, token}
use Rattle.drv_syntax.specs.Tree.{Item}
use Rattle.drv_syntax.specs.declared.descent.reader.Reader as code
use Rattle.drv_syntax.specs.declared.descent.reader.Spelled.TheVariants as spellings
use Rattle.drv_syntax.specs.declared.descent.reader.Spelled.{Spelled}
use Rattle.drv_syntax.specs.declared.descent.words.Class.TheVariants as classes
use Rattle.drv_syntax.specs.declared.descent.words.Class.{Class}
use Rattle.drv_syntax.specs.declared.directives.SayKind.TheVariants.{AsError, AsNotice}
use Rattle.drv_syntax.specs.declared.directives.SayKind.{SayKind}
use Rattle.drv_syntax.specs.declared.fault.SyntaxFault.TheVariants.{Unclosed}
use Rattle.drv_syntax.specs.declared.fault.SyntaxFault.{SyntaxFault}
use Rattle.drv_syntax.specs.declared.descent.contexts.ListKind.TheVariants as lists
use Rattle.drv_syntax.specs.declared.descent.contexts.ListKind.{ListKind}
use Rattle.drv_syntax.specs.declared.token.Token.{Token}
use Rattle.drv_syntax.specs.declared.token.TokenKind.TheVariants as kinds
use Rattle.drv_syntax.specs.declared.token.TokenKind.{TokenKind}
use Rattle.std.specs.Option.{option_map}
use Rattle.std.specs.Prelude.{◌+◌, ◌++◌, ◌||◌, ◌==◌, Bool, false, if◌then◌else◌, List, [], ◌∷◌, Err, None, Ok, Option, Result, Some}
use Rattle.std.specs.Prelude.{length, ℕ}

-- What the code writes of what it reads: the tokens of a part and their labels, after those before. Clauses of all src/descent/ cite it, no
-- law does. Names: `z` is the parts so far, and `v` (`Reading`) those parts and the text that is left.
-- Names: `labels`: the labels of parts, in the order of their tokens.

-- the parts so far: their tokens and labels, and whether the innermost X has a %* of its own
pub record Parts : Type 0 where
  pub tokens : List Token
  pub labels : List Label
  pub holds : Bool

-- what is left of a text, and the parts of it so far
pub record Reading : Type 0 where
  pub rest : Left
  pub parts : Parts

-- what a `Reader` of the code has read
abbrev pub seen : code.Reader → Reading
seen r = record { rest = r.rest; parts = record { tokens = r.tokens; labels = r.labels; holds = r.holds_star } }

-- the tokens of parts, from the place n of the list on
abbrev pub flat : ℕ → Nodes → List Token
flat n no_node = []
flat n (node kind label s inner others) = token n kind s (flat (n + 1) inner) (λ m. flat m others)

-- writes these parts after those so far; holds says whether they have a %* of the X around them
abbrev pub wrote : Nodes → Bool → Parts → Parts
wrote nodes holds z = record {
  tokens = z.tokens ++ flat (length z.tokens) nodes;
  labels = z.labels ++ labels nodes;
  holds =
      z.holds || holds;
}

-- a part without parts inside it
abbrev pub leafed : TokenKind → Label → ℕ → ℕ → Parts → Parts
leafed kind label start end z =
    record { tokens = z.tokens ++ whole_token kind start end (length z.tokens + 1) ∷ []; labels = z.labels ++ label ∷ []; holds = z.holds }

-- writes a part without parts inside it, from this place up to what is left
abbrev pub leaf_here : TokenKind → Label → ℕ → Reading → Reading
leaf_here kind label start v = record { rest = v.rest; parts = leafed kind label start v.rest.at v.parts }

-- writes a part without parts inside it, from one place up to the other
abbrev pub leaf_until : TokenKind → Label → ℕ → ℕ → Reading → Reading
leaf_until kind label start end v = record { rest = v.rest; parts = leafed kind label start end v.parts }

-- with this as what is left, and no part more
abbrev pub at_rest : Left → Reading → Reading
at_rest rest v = record { rest = rest; parts = v.parts }

-- writes an item with all that is inside it, whose bytes begin at one place and end at another
abbrev pub item_written : ℕ → Item → ℕ → Parts → Parts
item_written start item end z = wrote (node (kind_of item) (label_of item) (span start end) (inner_nodes item) no_node) (item_has_star item)
    z

-- the place of the directive that a text ends in: the outermost that is open, or else this
abbrev pub open_at : Option ℕ → ℕ → ℕ
open_at (Some outer) at = outer
open_at None at = at

-- what the reading of a part gives, by what is written of it, where this directive is the outermost that is open
abbrev pub given : {X Y : Type 0} → Option ℕ → (X → Left → Y) → Read X → Result Y SyntaxFault
given outer f (Took x rest) = Ok (f x rest)
given outer f (Ends at) = Err (Unclosed (open_at outer at))
given outer f (Stops n fault) = Err fault

-- writes an item that begins at this place, of which what is left is read
abbrev pub item_on : ℕ → Parts → Item → Left → Reading
item_on start z item rest = record { rest = rest; parts = item_written start item rest.at z }

-- writes an item that begins at this place, or gives its fault
abbrev pub item_given : Option ℕ → ℕ → Reading → Read Item → Result Reading SyntaxFault
item_given outer start v read = given outer (item_on start v.parts) read

-- what was read, with nothing written, or its fault
abbrev pub value_given : {X : Type 0} → Option ℕ → Reading → Read X → Result (X × Reading) SyntaxFault
value_given outer v read = given outer (λ x rest. (x, at_rest rest v)) read

-- words

-- where a list is, as the code's type has it
abbrev pub kind_seen : ListKind → Kind
kind_seen lists.Top = Top
kind_seen lists.InX = InX
kind_seen lists.InArguments = InArguments

-- the byte belongs to a class that `word_run` of words.rt reads
abbrev pub in_class : Class → ℕ → Bool
in_class classes.Option = is_option
in_class classes.Word = is_word
in_class (classes.Said list) = is_said (kind_seen list)

-- the bytes of a class that are no backslash
abbrev pub runs_in : Class → ℕ → Bool
runs_in class b = if b == ascii.backslash then false else in_class class b

-- a word, where the last with escapes is this one
abbrev pub spelled : Spelled → List ℕ → List ℕ
spelled (spellings.Lent bytes) copied = bytes.now
spelled spellings.Copied copied = copied

-- a run: its word, if the text doesn't end in an escape, and what is left
abbrev pub ran : Run → Reading → Option (List ℕ) × Reading
ran run v = (run.word, at_rest run.rest v)

-- more of a run, after these bytes of it
abbrev pub more_ran : List ℕ → Run → Reading → Option (List ℕ) × Reading
more_ran front run v = (option_map (λ word. front ++ word) run.word, at_rest run.rest v)

-- what `word_run` gives: its word of the text itself, or the copy without backslashes
abbrev pub words_seen : Option Spelled → List ℕ → Reading → Option (List ℕ) × Reading
words_seen (Some word) copied v = (Some (spelled word copied), v)
words_seen None copied v = (None, v)

-- the kind of the token of a text for the user
abbrev pub said_kind : SayKind → TokenKind
said_kind AsError = kinds.UserError
said_kind AsNotice = kinds.Notice
