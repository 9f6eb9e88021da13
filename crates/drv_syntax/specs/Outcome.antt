use Rattle.drv_syntax.specs.Contexts.{top}
use Rattle.drv_syntax.specs.Descent.{Ends, Read, Stops, Took, levels}
use Rattle.drv_syntax.specs.Tree.{Items}
use Rattle.drv_syntax.specs.declared.fault.SyntaxFault.TheVariants.{TextTooLong, Unclosed}
use Rattle.drv_syntax.specs.declared.fault.SyntaxFault.{SyntaxFault}
use Rattle.std.specs.Prelude.{◌≡◌, ◌⊎◌, if◌then◌else◌, List, [], ◌∷◌, length, nat_le, Result, Err, Ok, ℕ}

-- What a spec text gives (this project's profile): its tree, or its fault (`parsed`). Public contracts cite it; the laws of src/laws.rt say
-- what it is by the grammar (Spelling, Fronts, Refusals).

-- what a text gives: its tree; that it is cut short, with the place of the outermost open directive or of the last backslash; or the
-- place of the first byte that doesn't fit, and the fault
pub data Out : Type 0 where
  Got : Items → Out
  Cut : ℕ → Out
  Bad : ℕ → SyntaxFault → Out

-- what the reading of a whole text gives; how many bytes were read is of no use then
abbrev pub outcome : Read (Items × ℕ) → Out
outcome (Took list size) = Got list.0
outcome (Ends at) = Cut at
outcome (Stops n fault) = Bad n fault

-- braces and arguments may be within one another up to so many levels, whatever the text
abbrev pub depth : List ℕ → ℕ
depth [] = 64
depth (b ∷ text) = depth text

-- what a text gives by the functions of Descent: its items from the place 0 on, as a whole text
abbrev pub descent : List ℕ → Out
descent text = outcome ((levels (depth text)).0 top (record { at = 0; bytes = text }))

-- what a text gives; that the grammar of Spelling gives it too is proved by the laws (src/laws.rt)
abbrev pub read : List ℕ → Out
read text = descent text

-- a text that is not refused: it gives a tree, or it is cut short
abbrev pub Unrefused : List ℕ → Type 0
Unrefused text = ((items : Items) × (read text ≡ Got items)) ⊎ ((at : ℕ) × (read text ≡ Cut at))

-- a spec text has at most so many bytes
abbrev pub text_limit : ℕ
text_limit = 1048576

-- what a text gives, with a text that is cut short as a fault of the place where it is open
abbrev pub judged : Out → Result Items SyntaxFault
judged (Got items) = Ok items
judged (Cut at) = Err (Unclosed at)
judged (Bad n fault) = Err fault

-- the tree of a text, or its fault: that it is too long comes first
abbrev pub parsed : List ℕ → Result Items SyntaxFault
parsed text = if nat_le (length text) text_limit then judged (read text) else Err TextTooLong
