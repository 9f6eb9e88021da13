use Rattle.drv_syntax.specs.Code.Messages.{IsOpen}
use Rattle.drv_syntax.specs.Outcome.{parsed}
use Rattle.drv_syntax.specs.Parsed.{listed}
use Rattle.drv_syntax.specs.declared.descent.reading.TextParts.{TextParts}
use Rattle.drv_syntax.specs.declared.tree.Parts.TheVariants.{Read, Said}
use Rattle.drv_syntax.specs.declared.tree.Parts.{Parts}
use Rattle.std.specs.Prelude.{◌≡◌, ◌≤◌, List, Ok, length, ℕ}

-- What is kept of a tree that was read from a text. For the clauses of src/tree.rt alone.

-- what is kept has the tokens and labels of this text, which is not too long
abbrev pub IsRead : List ℕ → TextParts → Type 0
IsRead text p = (listed (parsed text) ≡ Ok (p.tokens, p.labels)) × (length text ≤ 1048576)

-- what is kept is the tree of this text; where it is said to, the text goes on in a message
abbrev pub IsKept : List ℕ → Parts → Type 0
IsKept text (Read p) = IsRead text p
IsKept text (Said p) = IsRead text p × IsOpen text
