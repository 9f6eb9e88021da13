use Rattle.drv_words.specs.Bytes as ascii
use Rattle.drv_syntax.specs.Contexts.{top}
use Rattle.drv_syntax.specs.Directives.{directive_of}
use Rattle.drv_syntax.specs.Fronts.{CutsItem, Front}
use Rattle.drv_syntax.specs.Outcome.{text_limit}
use Rattle.drv_syntax.specs.Refusals.{IsRefused}
use Rattle.drv_syntax.specs.Spelling.{At, IsItem, Spells}
use Rattle.drv_syntax.specs.Tree.{Item, Items}
use Rattle.drv_syntax.specs.declared.directives.Directive.TheVariants.{WithSaying, WithSuffix}
use Rattle.drv_syntax.specs.declared.directives.Directive.{Directive}
use Rattle.drv_syntax.specs.declared.fault.SyntaxFault.TheVariants.{Memory, TextTooLong, Unclosed}
use Rattle.drv_syntax.specs.declared.fault.SyntaxFault.{SyntaxFault}
use Rattle.std.specs.Prelude.{◌≡◌, ◌⊎◌, ◌<◌, ◌≤◌, ◌+◌, Bool, false, true, List, [], ◌∷◌, length, take, ℕ}

-- Why a text has no tree, by the grammar (GCC manual, "Spec Files"; this project's profile).

-- the byte at this place is the first that doesn't fit: it follows the longest prefix that is a front
pub record IsMisfit (text : List ℕ) (place : ℕ) : Type 0 where
  pub inside : place < length text
  pub front : Front (take place text)
  pub longest : (size : ℕ) → Front (take size text) → size ≤ place

-- the end of a text closes %e and %n, and directives with a suffix
abbrev pub is_closed_by_end : Directive → Bool
is_closed_by_end (WithSaying kind) = true
is_closed_by_end (WithSuffix kind) = true
is_closed_by_end directive = false

-- The place of what a text of this size leaves open at its end, after whole items. That is a % or a backslash alone, a directive, or the
-- last byte of one that the end closes: a backslash, or the % after a suffix that isn't there.
pub data IsOpenAt (size : ℕ) : List ℕ → ℕ → Type 0 where
  open_byte : {b n : ℕ} → CutsItem size top (b ∷ []) → At size n (b ∷ [])
      → IsOpenAt size (b ∷ []) n
  open_directive : {b n : ℕ} {text : List ℕ} → is_closed_by_end (directive_of b) ≡ false
      → CutsItem size top (ascii.percent ∷ b ∷ text) → At size n (ascii.percent ∷ b ∷ text)
      → IsOpenAt size (ascii.percent ∷ b ∷ text) n
  open_last : {b n : ℕ} {text : List ℕ} → is_closed_by_end (directive_of b) ≡ true
      → CutsItem size top (ascii.percent ∷ b ∷ text) → n + 1 ≡ size
      → IsOpenAt size (ascii.percent ∷ b ∷ text) n
  after_item : {text rest : List ℕ} {item : Item} {n : ℕ} → IsItem size top text item rest
      → IsOpenAt size rest n → IsOpenAt size text n

-- a text without a tree is cut short, and at this place is what it leaves open: its outermost directive that isn't closed, or, where there
-- is none, the backslash that is its last byte
pub record IsCutAt (text : List ℕ) (place : ℕ) : Type 0 where
  pub is_open : IsOpenAt (length text) text place
  pub no_tree : (items : Items) → Spells text items → ⊥

-- a text has no tree for this fault: it is too long, or cut short, or it has a byte that doesn't
-- fit, up to which a case of the grammar refuses it
pub data Refused (text : List ℕ) : SyntaxFault → Type 0 where
  too_long : text_limit < length text → Refused text TextTooLong
  cut_short : {place : ℕ} → length text ≤ text_limit → IsCutAt text place
      → Refused text (Unclosed place)
  misfit : {place : ℕ} {fault : SyntaxFault} → length text ≤ text_limit → IsMisfit text place
      → IsRefused (take (place + 1) text) fault → Refused text fault

-- memory ran out, or the text has no tree for this fault
abbrev pub MemoryOrRefused : List ℕ → SyntaxFault → Type 0
MemoryOrRefused text fault = (fault ≡ Memory) ⊎ Refused text fault
