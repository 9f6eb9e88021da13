use Rattle.drv_words.specs.Bytes as ascii
use Rattle.drv_syntax.specs.Code.Whole.{whole_given}
use Rattle.drv_syntax.specs.Code.Writing.{runs_in}
use Rattle.drv_syntax.specs.Contexts.{Top, is_said}
use Rattle.drv_syntax.specs.Directives.{directive_of}
use Rattle.drv_syntax.specs.Labels.{Label}
use Rattle.drv_syntax.specs.Spelling.{IsQuoted, IsRun}
use Rattle.drv_syntax.specs.declared.descent.contexts.ListKind.TheVariants as lists
use Rattle.drv_syntax.specs.declared.descent.words.Class.TheVariants as classes
use Rattle.drv_syntax.specs.declared.directives.Directive.TheVariants.{WithSaying}
use Rattle.drv_syntax.specs.declared.directives.SayKind.{SayKind}
use Rattle.drv_syntax.specs.declared.fault.SyntaxFault.{SyntaxFault}
use Rattle.drv_syntax.specs.declared.token.Token.{Token}
use Rattle.std.specs.Prelude.{◌≡◌, ◌+◌, ◌++◌, Err, List, Ok, Result, [], length, ℕ, ◌∷◌}

-- A text that ends in a message, a text for the user, and goes on in it. For the clauses of src/descent/reading.rt, src/descent/tokens.rt,
-- src/labels.rt and src/tree.rt.
-- Names: `more`: more text behind. `X`: any type.

-- the last of some, with this change
abbrev pub with_last : {X : Type 0} → (X → X) → List X → List X
with_last change [] = []
with_last change (x ∷ []) = change x ∷ []
with_last change (x ∷ y ∷ xs) = x ∷ with_last change (y ∷ xs)

-- a token that ends at this place
abbrev pub ended : Token → ℕ → Token
ended t end = record { kind = t.kind; start = t.start; end = end; next = t.next }

-- a label whose word goes on with these bytes
abbrev pub lengthened : Label → List ℕ → Label
lengthened label more = record {
  word = label.word ++ more;
  starred = label.starred;
  negated = label.negated;
  asks =
      label.asks;
  holds_star = label.holds_star;
}

-- the tokens and labels of a text, of which the last goes on with these bytes up to the place `end`
abbrev pub said_to : ℕ → List ℕ → Result (List Token × List Label) SyntaxFault → Result (List Token × List Label) SyntaxFault
said_to end more (Ok parts) = Ok (with_last (λ token. ended token end) parts.0, with_last (λ label. lengthened label more) parts.1)
said_to end more (Err fault) = Err fault

-- these bytes neither end a message nor escape a byte of it
abbrev pub Says : List ℕ → Type 0
Says more = IsRun (runs_in (classes.Said lists.Top)) more more []

-- with bytes that neither end a message nor escape, this text gives what it gives alone, with a longer last part
abbrev pub IsOpen : List ℕ → Type 0
IsOpen text = (more : List ℕ) → Says more → whole_given (text ++ more) ≡ said_to (length text + length more) more (whole_given text)

-- the text is one message, up to its end and without a newline after it
pub data IsMessage : List ℕ → Type 0 where
  message : {b : ℕ} {kind : SayKind} {text words : List ℕ} → directive_of b ≡ WithSaying kind → IsQuoted (is_said Top) text words []
      → IsMessage (ascii.percent ∷ b ∷ text)
