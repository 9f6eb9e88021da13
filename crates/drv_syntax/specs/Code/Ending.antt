use Rattle.drv_syntax.specs.Bytes.{is_blank}
use Rattle.drv_syntax.specs.declared.descent.ending.Ending.TheVariants as endings
use Rattle.drv_syntax.specs.declared.descent.ending.Ending.{Ending}
use Rattle.drv_syntax.specs.declared.token.Token.{Token}
use Rattle.drv_syntax.specs.declared.token.TokenKind.TheVariants as kinds
use Rattle.drv_syntax.specs.declared.token.TokenKind.{TokenKind}
use Rattle.std.specs.Prelude.{◌-◌, ◌==◌, Bool, false, true, if◌then◌else◌, List, [], ◌∷◌, None, Option, Some, length, slice_get, ℕ}

-- How a text ends, by its size and the last of its tokens, and whether what was read of it can be kept where more follows. For the clauses
-- of src/descent/ending.rt and src/descent/reading.rt alone.

-- how a text ends whose last part is of this kind: a suffix or a pattern could go on, and so could a message
abbrev pub ending_by : TokenKind → Ending
ending_by (kinds.TempName kind) = endings.Word
ending_by kinds.Hide = endings.Word
ending_by kinds.UserError = endings.Message
ending_by kinds.Notice = endings.Message
ending_by _ = endings.Item

-- a token that ends before the text does is inside braces or arguments that end with it
abbrev pub ending_after : ℕ → Option Token → Ending
ending_after size None = endings.Item
ending_after size (Some t) = if t.end == size then ending_by t.kind else endings.Item

-- how a text of this size ends, by its last token
abbrev pub ending_in : ℕ → List Token → Ending
ending_in size tokens = ending_after size (slice_get tokens (length tokens - 1))

-- the text begins with a space or a tab
abbrev pub begins_blank : List ℕ → Bool
begins_blank [] = false
begins_blank (b ∷ text) = is_blank b

-- the text has a byte
abbrev pub begins : List ℕ → Bool
begins [] = false
begins (b ∷ text) = true

-- the text ends in a message
abbrev pub is_message : Ending → Bool
is_message endings.Message = true
is_message _ = false

-- whether what was read can be kept where this follows it
abbrev pub goes_on : Ending → List ℕ → Bool
goes_on endings.Item more = begins more
goes_on endings.Word more = begins_blank more
goes_on endings.Message more = false
