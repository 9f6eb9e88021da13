use Rattle.drv_machine.proofs.Cutter.{in_word_twice}
use Rattle.drv_machine.proofs.Lying.{Reached, reached}
use Rattle.drv_machine.proofs.Standing.{next_at, some_same}
use Rattle.drv_machine.proofs.TurnSteps.{plain_item, turn_plain}
use Rattle.drv_machine.specs.Code.PlainRuns.{AtByte}
use Rattle.drv_machine.specs.Code.Running.{Machine, done, run}
use Rattle.drv_machine.specs.Code.Standing.{Stands}
use Rattle.drv_machine.specs.Code.Walking.{AtItem, Lain, Left}
use Rattle.drv_machine.specs.Context.{Context}
use Rattle.drv_machine.specs.Cutting.{in_word}
use Rattle.drv_machine.specs.Working.{Answer, Goes, Refuses, counted, most_items}
use Rattle.drv_machine.specs.declared.fault.MachineFault.TheVariants.{TooManySteps}
use Rattle.drv_machine.specs.declared.walk.Walk.{Walk}
use Rattle.drv_syntax.specs.Labels.{Label, inner_nodes, label_of, labels_of}
use Rattle.drv_syntax.specs.Parsed.{tree_of}
use Rattle.drv_syntax.specs.PlainRuns.{AreBytes, IsByte}
use Rattle.drv_syntax.specs.Tokens.{kind_of, tokens_of}
use Rattle.drv_syntax.specs.Tree as tree
use Rattle.drv_syntax.specs.Tree.{Item}
use Rattle.drv_syntax.specs.declared.token.Token.{Token}
use Rattle.drv_syntax.specs.declared.token.TokenKind.TheVariants as kinds
use Rattle.drv_system.specs.Facts.{Facts}
use Rattle.drv_system.specs.Known.{Is, Unasked}
use Rattle.std.proofs.Common.{◌≡◌, ◌∙◌, ◌<◌, ◌≤◌, ◌+◌, ◌-◌, Bool, Err, List, [], ◌∷◌, Ok, Some, ap, arith, false, length, refl}
use Rattle.std.proofs.Common.{slice_get, subst, sym, true, ℕ}
use Rattle.std.proofs.lemmas.Bool.{lt-ltb, ltb-true}
use Rattle.std.specs.Prelude.{if◌then◌else◌, nat_lt}

-- For `work_run` (turns.rt) and `open_named_text` (named.rt): plain bytes that follow one another, worked as one slice, are so many
-- turns, each of which works one byte.
-- Names: `s`, `t`, `u`: the machine (what has been cut, and the world) before, between and after steps. `w`: the walk over the text: its
-- place and the open parts. `b`: a byte. `F`: what is known of the outside. `C`: what the text is run for (switches, texts). `given`: what
-- the walk gives in the end. `tree_of`: the tree of a text. `in_word`: bytes go into the word that is open, or open one. `tokens_of`: the
-- tokens of a tree. `labels_of`: the labels of a tree, in the order of its tokens.

-- one more item is counted
abbrev one_more : Machine → Machine
one_more s = record s { world = record s.world { items = s.world.items + 1 } }

-- the state after the turn of a plain byte: it was counted and put
abbrev after_byte : Machine → ℕ → Machine
after_byte s b = record { cut = in_word s.cut (b ∷ []); world = record s.world { items = s.world.items + 1 } }

-- the state after a turn for each of these plain bytes
abbrev pub after_run : Machine → List ℕ → Machine
after_run s [] = s
after_run s (b ∷ bytes) = after_run (after_byte s b) bytes

-- the state after a turn for each of these bytes is that after all were put at once and counted
pub after_run_is : (s : Machine) (b : ℕ) (bytes : List ℕ) → after_run s (b ∷ bytes)
    ≡ record { cut = in_word s.cut (b ∷ bytes); world = record s.world { items = s.world.items + length (b ∷ bytes) } }
after_run_is s b [] = refl
after_run_is s b (d ∷ ds) =
    after_run_is (after_byte s b) d ds
    ∙ ap (λ c. record { cut = c; world = record s.world { items = s.world.items + 1 + length (d ∷ ds) } })
    (in_word_twice s.cut (b ∷ []) (d ∷ ds))
    ∙ ap (λ (n : ℕ). record { cut = in_word s.cut (b ∷ d ∷ ds); world = record s.world { items = n } }) size
  where
    size : s.world.items + 1 + length (d ∷ ds) ≡ s.world.items + length (b ∷ d ∷ ds)
    size = omega arith

-- the state of an answer, or this one
abbrev state_in : Machine → Answer (Unit {0} × Machine) → Machine
state_in s (Is (Ok r)) = r.1
state_in s (Is (Err fault)) = s
state_in s Unasked = s

-- an item of the kind of a plain byte is a plain byte
plain_is : (item : Item) → kind_of item ≡ kinds.Plain → (b : ℕ) × (item ≡ tree.Plain b)
plain_is (tree.Plain b) e = (b, refl)
plain_is (tree.Braces (tree.Emit patterns)) e = absurd cc
plain_is (tree.Braces (tree.Choose choices)) e = absurd cc
plain_is _ e = absurd cc

-- a walk has reached a plain byte
module _ (text : List ℕ) (w : Walk) (lain : Lain text w) (token : Token) (before_end : w.at < w.end)
    (there : slice_get (tokens_of (tree_of text)) w.at ≡ Some token) (plain : token.kind ≡ kinds.Plain) where
  -- a plain byte is an item, no alternative
  item : AtItem text w
  item = plain_item text w token before_end there plain

  -- the item that the walk has reached
  front : Reached text w.at lain.rest w.end
  front = reached text w.at lain.rest w.end item.before_end item.no_alternative lain.lies

  -- the item that the walk has reached is a plain byte
  byte : (b : ℕ) × (front.item ≡ tree.Plain b)
  byte = plain_is front.item (sym front.part.kind_is
      ∙ ap (λ (t : Token). t.kind) (some_same front.part.token token (sym front.part.there ∙ there)) ∙ plain)

  -- the walk is at a plain byte, which its token's label names
  pub plain_byte : (b : ℕ) × IsByte (tokens_of (tree_of text)) (labels_of (tree_of text)) w.at b
  plain_byte = (
    byte.0,
    record {
      token = token;
      there = there;
      plain = plain;
      names = ap (λ (l : Label). l.word) front.part.label_is ∙ ap (λ (x : Item). (label_of x).word) byte.1;
    },
  )

  -- the part after a plain byte is at the next place
  plain_next : token.next ≡ w.at + 1
  plain_next =
      next_at text w.at token (kind_of front.item) (label_of front.item) front.next there front.part
      ∙ sym (subst (λ (x : Item). Stands text (w.at + 1) (inner_nodes x) front.next) byte.1 front.within)

-- the plain byte that is reached is in the slice that begins there
pub byte_reached : (text : List ℕ) (w : Walk) → Lain text w → (r : AtByte text w)
    → (b : ℕ) × IsByte (tokens_of (tree_of text)) (labels_of (tree_of text)) w.at b
byte_reached text w lain r = plain_byte text w lain r.token r.before_end r.there r.plain

-- for any answers F of the system, and any C that a text is run for
module _ (F : Facts) (C : Context) where
  -- where not all items were reached, one more is counted
  counts_on : (s : Machine) → s.world.items < 1000000 → run F C s counted ≡ Is (Ok (tt, one_more s))
  counts_on s few = let e : nat_lt s.world.items most_items ≡ true = lt-ltb s.world.items 1000000 few in rw e refl

  -- what the count of one more item gives, where not all were reached or where all were
  abbrev counted_if : Machine → Bool → Answer (Unit {0} × Machine)
  counted_if s more = done F C s.cut (if more then Goes [] tt (record s.world { items = s.world.items + 1 }) else Refuses [] TooManySteps)

  -- where one more was counted, not all were reached
  counted_as : (s u : Machine) → run F C s counted ≡ Is (Ok (tt, u)) → (s.world.items < 1000000) × (u ≡ one_more s)
  counted_as s u e = by (nat_lt s.world.items most_items) refl e
    where
      by : (more : Bool) → nat_lt s.world.items most_items ≡ more → counted_if s more ≡ Is (Ok (tt, u))
          → (s.world.items < 1000000) × (u ≡ one_more s)
      by true is e = (ltb-true s.world.items 1000000 is, sym (ap (state_in s) e))
      by false is e = absurd cc

  module _ (text : List ℕ) (given : Answer (Unit {0} × Machine)) where
    -- after plain bytes, one turn for each, what is left gives the same
    pub run_left : (w : Walk) (s : Machine) (bytes : List ℕ) → AreBytes (tokens_of (tree_of text)) (labels_of (tree_of text)) w.at bytes
        → w.at + length bytes ≤ w.end → s.world.items + length bytes ≤ 1000000 → Left F C text w s given
        → Left F C text (record w { at = w.at + length bytes }) (after_run s bytes) given
    run_left w s [] are fits few left = subst (λ (k : ℕ). Left F C text (record w { at = k }) s given) same left
      where
        same : w.at ≡ w.at + 0
        same = omega arith
    run_left w s (b ∷ bytes) (r, others) fits few left =
        subst (λ (k : ℕ). Left F C text (record w { at = k }) (after_run (after_byte s b) bytes) given) same
        (run_left (record w { at = w.at + 1 }) (after_byte s b) bytes others (omega (arith, fits)) (omega (arith, few)) once)
      where
        -- Plan: the walk is in the text (`lain`), so a turn puts the first byte (`turned`), and then the walk is one place on (`once`).
        before_end : w.at < w.end
        before_end = omega (arith, fits)

        lain : Lain text w
        lain = record { rest = left.rest; lies = left.lies }

        turned : Left F C text (record w { at = r.token.next }) (after_byte s b) given
        turned = turn_plain text w (plain_item text w r.token before_end r.there r.plain) r.token r.there F C s given left (one_more s)
            (counts_on s (omega (arith, few))) r.plain (b ∷ []) (sym r.names) (Ok tt) (after_byte s b) refl

        once : Left F C text (record w { at = w.at + 1 }) (after_byte s b) given
        once = subst (λ (k : ℕ). Left F C text (record w { at = k }) (after_byte s b) given)
            (plain_next text w lain r.token before_end r.there r.plain) turned

        same : w.at + 1 + length bytes ≡ w.at + length (b ∷ bytes)
        same = omega arith

    -- after plain bytes that were put at once, of which the first was counted before, what is left gives the same
    pub run_worked : (w : Walk) (s u t : Machine) (bytes : List ℕ) → 0 < length bytes
        → AreBytes (tokens_of (tree_of text)) (labels_of (tree_of text)) w.at bytes
        → w.at + length bytes ≤ w.end → u.world.items + length bytes ≤ 1000001 → run F C s counted ≡ Is (Ok (tt, u))
        → Left F C text w s given
        → t ≡ record { cut = in_word u.cut bytes; world = record u.world { items = u.world.items + (length bytes - 1) } }
        → Left F C text (record w { at = w.at + length bytes }) t given
    run_worked w s u t [] some are fits few first left put = absurd (omega (arith, some))
    run_worked w s u t (b ∷ bytes) some are fits few first left put =
        subst (λ (m : Machine). Left F C text (record w { at = w.at + length (b ∷ bytes) }) m given)
        (after_run_is s b bytes ∙ sym (put ∙ ap (λ (v : Machine). record {
          cut = in_word v.cut (b ∷ bytes);
          world = record v.world { items = v.world.items + (length (b ∷ bytes) - 1) };
        }) one.1 ∙ ap (λ (n : ℕ). record { cut = in_word s.cut (b ∷ bytes); world = record s.world { items = n } }) size))
        (run_left w s (b ∷ bytes) are fits (omega (arith, few, counted_items)) left)
      where
        -- Plan: the state u is s with one more item (`one`), so the bytes are counted from s (`counted_items`, `size`).
        one : (s.world.items < 1000000) × (u ≡ one_more s)
        one = counted_as s u first

        counted_items : u.world.items ≡ s.world.items + 1
        counted_items = ap (λ (v : Machine). v.world.items) one.1

        size : s.world.items + 1 + (length (b ∷ bytes) - 1) ≡ s.world.items + length (b ∷ bytes)
        size = omega arith
