use Rattle.drv_syntax.proofs.MeantWhole.{next_stops}
use Rattle.drv_syntax.proofs.MeantWords as words
use Rattle.drv_syntax.proofs.Progress.{Has, Takes, form_has, items_by, items_take, list_less, patterns_take, percent_dark, tests_take}
use Rattle.drv_syntax.proofs.Progress.{then_then}
use Rattle.drv_syntax.proofs.Taken.{given_mapped, given_then, ok_same, taken, then_ok, value_taken}
use Rattle.drv_syntax.proofs.Wrote.{leaf_is}
use Rattle.drv_syntax.specs.Bytes.{is_of}
use Rattle.drv_syntax.specs.Code.Lists.{around, byte_here, directive_given, end_given, is_simple, is_white_item, item_ended, listed_given}
use Rattle.drv_syntax.specs.Code.Lists.{listed_on, owner_when, plains_after, plains_on, run_after, tail_at, with_end, x_given}
use Rattle.drv_syntax.specs.Code.Marks.{byte_labels}
use Rattle.drv_syntax.specs.Code.Runs.{runs, stops}
use Rattle.drv_syntax.specs.Code.Tests.{after_given, form_given, form_on, tried_given}
use Rattle.drv_syntax.specs.Code.Tokens.{plain_tokens, whole_token}
use Rattle.drv_syntax.specs.Code.Writing.{Parts, Reading, at_rest, given, item_given, item_on, kind_seen, value_given}
use Rattle.drv_syntax.specs.Contexts.{InArguments, InX, Kind, ListContext, Mixed, Nobody, Owner, Starred, Top, in_braces}
use Rattle.drv_syntax.specs.Descent as d
use Rattle.drv_syntax.specs.Descent.{Ends, Last, Lists, More, Read, Stops, Took, Turn, after_turn, no_lists, then_read, within}
use Rattle.drv_syntax.specs.Directives.{directive_of, is_allowed}
use Rattle.drv_syntax.specs.Labels.{word_label}
use Rattle.drv_syntax.specs.Refusals.{AtBar, AtNext}
use Rattle.drv_syntax.specs.Rest.{Left, after, begins_with, by_byte, first_of, past_white}
use Rattle.drv_syntax.specs.Spelling as s
use Rattle.drv_syntax.specs.Spelling.{IsRun, span}
use Rattle.drv_syntax.specs.Tree.{Item, Items, Pattern, Plain, more, none}
use Rattle.drv_syntax.specs.declared.descent.contexts.ListKind.TheVariants as list_kinds
use Rattle.drv_syntax.specs.declared.descent.contexts.ListKind.{ListKind}
use Rattle.drv_syntax.specs.declared.descent.lists.Form as code
use Rattle.drv_syntax.specs.declared.descent.parts.Choice.{Choice}
use Rattle.drv_syntax.specs.declared.descent.simple.Tail.{Tail}
use Rattle.drv_syntax.specs.declared.descent.tests.Next.TheVariants as nexts
use Rattle.drv_syntax.specs.declared.descent.tests.Next.{Next}
use Rattle.drv_syntax.specs.declared.directives.Directive.TheVariants as directives
use Rattle.drv_syntax.specs.declared.directives.Directive.{Directive}
use Rattle.drv_syntax.specs.declared.fault.SyntaxFault.{SyntaxFault}
use Rattle.drv_syntax.specs.declared.token.Token.{Token}
use Rattle.drv_syntax.specs.declared.token.TokenKind.TheVariants as kinds
use Rattle.drv_words.specs.Bytes as ascii
use Rattle.std.proofs.Common.{Bool, List, [], ap, append-nil, append_assoc, arith, drop, drop-drop, false, if◌then◌else◌, length}
use Rattle.std.proofs.Common.{length-append, refl, subst, suc, sym, take, true, zero, ℕ, ◌++◌, ◌+◌, ◌<◌, ◌∙◌, ◌∷◌, ◌≡◌, ◌≤◌}
use Rattle.std.proofs.lemmas.List.{length-drop}
use Rattle.std.specs.List.{prefix_len}
use Rattle.std.specs.Prelude.{None, Ok, Option, Result, Some, not, ◌==◌}

-- What the code gives of a list of items, by its runs of plain bytes, its directives and its other items; and how the loops of the reader
-- end. It serves `items`, `percent` and the loops of src/descent/lists.rt and src/descent/patterns.rt. A `Tail` is where a list ends
-- without the white space at its end. `v` is the text that is left before a part and what is written so far, and `u` the same after it.
-- `outer` is the place of the outermost directive that is open, if one is.
-- Names: `b`: a byte. `c`: where the list is, and what is around it. `tail`: where a list ends. `at`: the place of the directive's `%`.
-- `k`: a place in the text. `t`: a test's value, so that `by` can go by both cases. `end`: what is left after a part. `rest`: what is left
-- of the text, and its place. `deep`, `lists`: how lists inside are read. `around`: what reads the lists in a list of so many levels.
-- `after`: what is left so many bytes on. `first_of`: the byte that comes next, if there is one. `no_lists`: lists that the last level
-- allowed would hold. `then_ok`: a result and what follows it, unless it is a fault. `Has`: what was read and what is left have the
-- property P, if a part was read. `Takes`: after a turn but the last fewer than n bytes are left. `item_ended`: writes an item, and gives
-- what the list ends with after it. `item_given`: writes an item that begins at this place, or gives its fault. `listed_given`: writes the
-- items of a list, or gives its fault. `part`: what was read.

-- rounds of loops: after what the code reads in one, fewer bytes of the text are left

-- after white space, a pattern, white space and an ampersand
pub turn_shorter : (outer : Option ℕ) (at : ℕ) (v : Reading) (rest : Left) → rest ≡ past_white v.rest → (p : Pattern) (u : Reading)
    → value_given outer (at_rest rest v) (d.pattern_at at rest) ≡ Ok (p, u) → (last : Left) → last ≡ past_white u.rest
    → first_of last.bytes ≡ Some ascii.ampersand → (end : Left) → end ≡ after 1 last → length end.bytes < length v.rest.bytes
turn_shorter outer at v rest e p u is last f b end g =
    let n = value_taken outer (at_rest rest v) (d.pattern_at at rest) is in
    let t : Has (Takes (length v.rest.bytes)) (d.pattern_from at rest) =
    subst (λ (r : Left). Has (Takes (length v.rest.bytes)) (d.pattern_from at r)) (sym e) (patterns_take at v.rest) in
    let k : Has (Takes (length v.rest.bytes)) (d.pattern_turn at (span rest.at u.rest.at, p) last) =
    subst (λ (r : Left). Has (Takes (length v.rest.bytes)) (d.pattern_turn at (span rest.at u.rest.at, p) r)) (sym f) (rw n.0 at t) in
    let m : length end.bytes ≡ length (drop 1 last.bytes) = ap (λ (r : Left). length r.bytes) g in
    let i : suc (length (drop 1 last.bytes)) ≤ length v.rest.bytes = rw b at k in omega (arith, m, i)

-- what holds of a list holds of it in its directive
within_has : {X : Type 0} (P : X → Left → Type 0) (at : ℕ) (r : Read X) → Has P r → Has P (within at r)
within_has P at (Took x end) h = h
within_has P at (Ends n) h = tt
within_has P at (Stops n fault) h = tt

-- an item without a percent sign is the same whatever lists there are
pub item_is : (lists deep : Lists) (c : ListContext) (b : ℕ) (rest : Left) → (b == ascii.percent) ≡ false
    → d.item lists deep c b rest ≡ d.item no_lists no_lists c b rest
item_is lists deep c b rest e = rw e refl

-- in a list with the context c, a directive whose % has the place `at`
module _ (c : ListContext) (at : ℕ) (outer : Option ℕ) where
  -- after a test, a bar leads to more tests
  pub test_shorter : (choice other : Choice) (v u : Reading)
      → tried_given outer at AtBar (Some choice) v (d.one_test (around c.levels).1 c at AtBar v.rest) ≡ Ok (nexts.Bars other, u)
      → suc (length u.rest.bytes) ≤ length v.rest.bytes
  test_shorter choice other v u h = by (d.one_test (around c.levels).1 c at AtBar v.rest) (tests_take c at v.rest) h
    where
      -- what follows the test is no bar
      NoBar : Next → Type 0
      NoBar nexts.Emits = Unit {0}
      NoBar nexts.Joins = Unit {0}
      NoBar (nexts.Asks next) = Unit {0}
      NoBar (nexts.Bars next) = ⊥

      -- Plan: by what follows the test; only after a bar does the code go on with tests.
      decides : (follow : d.After) (end : Left) → Has (Takes (length v.rest.bytes)) (d.test_turn at follow end)
          → after_given (Some choice) (at_rest end v) follow ≡ Ok (nexts.Bars other, u) → suc (length u.rest.bytes) ≤ length v.rest.bytes
      decides (d.Emits p) end k e = absurd (subst (λ (y : Next × Reading). NoBar y.0) (ok_same e) tt)
      decides (d.Joins p) end k e = absurd (subst (λ (y : Next × Reading). NoBar y.0) (ok_same e) tt)
      decides (d.Asks s negated a) end k e = absurd (subst (λ (y : Next × Reading). NoBar y.0) (ok_same e) tt)
      decides (d.Bars s negated a) end k e = subst (λ (y : Next × Reading). suc (length y.1.rest.bytes) ≤ length v.rest.bytes) (ok_same e) k
      decides (d.Fails fault) end k e = absurd cc

      by : (part : Read d.Tried) → Has (Takes (length v.rest.bytes)) (then_read part (λ t end. d.test_turn at (d.decided at AtBar t) end))
          → tried_given outer at AtBar (Some choice) v part ≡ Ok (nexts.Bars other, u) → suc (length u.rest.bytes) ≤ length v.rest.bytes
      by (Took t end) k e = decides (d.decided at AtBar t) end k e
      by (Ends n) k e = absurd cc
      by (Stops n fault) k e = absurd cc

  -- after what a later alternative begins with
  pub form_shorter : (v u : Reading) (form : code.Form) → begins_with ascii.colon (past_white v.rest).bytes ≡ false
      → form_given outer v (d.form (around c.levels).1 c at AtNext v.rest) ≡ Ok (form, u) → suc (length u.rest.bytes) ≤ length v.rest.bytes
  form_shorter v u form e h =
      let t = taken outer (form_on v.parts) (d.form (around c.levels).1 c at AtNext v.rest) h in
      let k = rw t.is at (form_has c at AtNext v.rest (next_stops _ e)) in by t.part t.rest k.1 t.on
    where
      by : (f : d.Form) (end : Left) → suc (length (drop 1 end.bytes)) ≤ length v.rest.bytes → form_on v.parts f end ≡ (form, u)
          → suc (length u.rest.bytes) ≤ length v.rest.bytes
      by (d.Patterns ps) end k g = subst (λ (y : code.Form × Reading). suc (length y.1.rest.bytes) ≤ length v.rest.bytes) g k
      by (d.Alternative tests) end k g = subst (λ (y : code.Form × Reading). suc (length y.1.rest.bytes) ≤ length v.rest.bytes) g k

  -- after the X of an alternative
  pub x_shorter : (c.levels == 0) ≡ false → (choice : Choice) (u w : Reading) (end : ℕ)
      → x_given outer at choice u ((around c.levels).0 (owner_when choice.starred (in_braces c)) u.rest) ≡ Ok (end, w)
      → length w.rest.bytes ≤ length u.rest.bytes
  x_shorter some choice u w end h =
      let t = taken outer _ (within at ((around c.levels).0 (owner_when choice.starred (in_braces c)) u.rest)) h in
      let k : length t.rest.bytes ≤ length u.rest.bytes = rw t.is at (within_has (λ x e. length e.bytes ≤ length u.rest.bytes) at
      ((around c.levels).0 (owner_when choice.starred (in_braces c)) u.rest)
      (list_less c some (owner_when choice.starred (in_braces c)) refl u.rest)) in
      let m : length (drop 1 t.rest.bytes) ≡ length w.rest.bytes = ap (λ (y : ℕ × Reading). length y.1.rest.bytes) t.on in
      omega (arith, k, m, length-drop 1 t.rest.bytes)

  -- after a directive
  pub directive_shorter : (v u : Reading) → first_of v.rest.bytes ≡ Some ascii.percent → directive_given outer c (around c.levels) v ≡ Ok u
      → suc (length u.rest.bytes) ≤ length v.rest.bytes
  directive_shorter v u e h =
      let t = taken outer (item_on v.rest.at v.parts) (d.directive (around c.levels).0 (around c.levels).1 c v.rest.at (after 1 v.rest)) h
      in
      let k : suc (length t.rest.bytes) ≤ length v.rest.bytes = rw (e, t.is) at (items_take c v.rest) in
      subst (λ (y : Reading). suc (length y.rest.bytes) ≤ length v.rest.bytes) t.on k

  -- after an item that is no directive
  pub item_shorter : (tail next : Tail) (v u : Reading) (b : ℕ) → first_of v.rest.bytes ≡ Some b → d.ends_list c.kind b ≡ false
      → (b == ascii.percent) ≡ false → given outer (item_ended tail v) (d.item no_lists no_lists c b v.rest) ≡ Ok (next, u)
      → suc (length u.rest.bytes) ≤ length v.rest.bytes
  item_shorter tail next v u b e f g h =
      let t = taken outer (item_ended tail v) (d.item no_lists no_lists c b v.rest) h in
      let k : suc (length t.rest.bytes) ≤ length v.rest.bytes =
      rw (e, f, item_is (around c.levels).0 (around c.levels).1 c b v.rest g, t.is) at (items_take c v.rest) in
      subst (λ (y : Tail × Reading). suc (length y.1.rest.bytes) ≤ length v.rest.bytes) t.on k

-- after a run of plain bytes
pub plains_shorter : (kind : ListKind) (tail next : Tail) (v u : Reading) → plains_on kind tail v ≡ (next, u)
    → length u.rest.bytes ≤ length v.rest.bytes
plains_shorter kind tail next v u h = by (prefix_len (runs kind) v.rest.bytes) h
  where
    by : (k : ℕ) → plains_after k tail v ≡ (next, u) → length u.rest.bytes ≤ length v.rest.bytes
    by zero g =
        let p : length v.rest.bytes ≡ length u.rest.bytes = ap (λ z. length z.1.rest.bytes) g in omega (arith, p)
    by (suc k) g =
        let p : length (drop (suc k) v.rest.bytes) ≡ length u.rest.bytes = ap (λ z. length z.1.rest.bytes) g in
        omega (arith, p, length-drop (suc k) v.rest.bytes)

-- a plain byte is written here, and the rest is after it
abbrev plain_here : ℕ → Reading → Reading
plain_here b v = byte_here kinds.Plain (word_label (b ∷ [])) v

-- the byte differs from each of these
abbrev Apart : List ℕ → ℕ → Type 0
Apart [] b = Unit {0}
Apart (x ∷ xs) b = ((b == x) ≡ false) × Apart xs b

-- a byte that is in none of a list of bytes differs from each of them
apart : (xs : List ℕ) (b : ℕ) → not (is_of xs b) ≡ true → Apart xs b
apart [] b e = tt
apart (x ∷ xs) b e = by (b == x) refl e (λ h. apart xs b h)
  where
    by : (t : Bool) → (b == x) ≡ t → not (if t then true else is_of xs b) ≡ true → (not (is_of xs b) ≡ true → Apart xs b) → Apart (x ∷ xs) b
    by true g h ih = absurd cc
    by false g h ih = (g, ih h)

-- a byte that a run of plain bytes takes ends no list, and is a plain byte
plain_byte : (kind : ListKind) (lists deep : Lists) (c : ListContext) (b : ℕ) (rest : Left) → runs kind b ≡ true
    → (d.ends_list (kind_seen kind) b ≡ false) × (d.item lists deep c b rest ≡ Took (Plain b) (after 1 rest))
plain_byte list_kinds.Top lists deep c b rest e =
    let a : Apart (stops list_kinds.Top) b = apart (stops list_kinds.Top) b e in
    (rw (a.0, a.1.0) refl, rw (a.0, a.1.0, a.1.1.0, a.1.1.1.0, a.1.1.1.1.0, a.1.1.1.1.1.0) refl)
plain_byte list_kinds.InX lists deep c b rest e =
    let a : Apart (stops list_kinds.InX) b = apart (stops list_kinds.InX) b e in (
      rw (a.0, a.1.0, a.1.1.1.1.1.1.0, a.1.1.1.1.1.1.1.0) refl,
      rw (a.0, a.1.0, a.1.1.0, a.1.1.1.0, a.1.1.1.1.0, a.1.1.1.1.1.0) refl,
    )
plain_byte list_kinds.InArguments lists deep c b rest e =
    let a : Apart (stops list_kinds.InArguments) b = apart (stops list_kinds.InArguments) b e in (
      rw (a.0, a.1.0, a.1.1.1.1.1.1.0) refl,
      rw (a.0, a.1.0, a.1.1.0, a.1.1.1.0, a.1.1.1.1.0, a.1.1.1.1.1.0) refl,
    )

-- so many bytes on and then so many more
after_after : (k size : ℕ) (r : Left) → after (k + size) r ≡ after size (after k r)
after_after k size r =
    let e : r.at + (k + size) ≡ r.at + k + size = omega arith in cc (e, drop-drop size k r.bytes)

-- a run of no bytes writes nothing
run_none : (v : Reading) → run_after 0 v ≡ v
run_none v =
    let e : v.rest.at + 0 ≡ v.rest.at = omega arith in rw (e, append-nil v.parts.tokens, append-nil v.parts.labels) refl

-- a plain byte, and then a run of k bytes, write and leave the same as a run of k + 1 bytes
run_more : (k : ℕ) (v : Reading) (b : ℕ) (text : List ℕ) → v.rest.bytes ≡ b ∷ text → run_after k (plain_here b v) ≡ run_after (suc k) v
run_more k v b text e =
    let t : Token = whole_token kinds.Plain v.rest.at (v.rest.at + 1) (length v.parts.tokens + 1) in
    let one : 1 + k ≡ suc k = omega arith in
    let next : length (v.parts.tokens ++ t ∷ []) + 1 ≡ length v.parts.tokens + 1 + 1 =
    omega (arith, length-append v.parts.tokens (t ∷ [])) in
    let rest : after k (after 1 v.rest) ≡ after (suc k) v.rest = sym (after_after 1 k v.rest) ∙ ap (λ (i : ℕ). after i v.rest) one in
    let bytes : take k (drop 1 v.rest.bytes) ≡ take k text = ap (λ bs. take k (drop 1 bs)) e in
    let whole : b ∷ take k text ≡ take (suc k) v.rest.bytes = ap (λ bs. take (suc k) bs) (sym e) in
    cc (
      rest,
      bytes,
      next,
      append_assoc v.parts.tokens (t ∷ []) (plain_tokens (v.rest.at + 1) (length v.parts.tokens + 1 + 1) (take k
          text)),
      append_assoc v.parts.labels (word_label (b ∷ []) ∷ []) (byte_labels (take k text)),
      whole,
    )

-- a plain byte and then a run of k bytes leave the same tail and reading as a run of k + 1 bytes
plains_more : (k : ℕ) (tail : Tail) (v : Reading) (b : ℕ) (text : List ℕ) → v.rest.bytes ≡ b ∷ text
    → plains_after k (tail_at (plain_here b v)) (plain_here b v) ≡ plains_after (suc k) tail v
plains_more zero tail v b text e = cc (run_none (plain_here b v), run_more 0 v b text e)
plains_more (suc k) tail v b text e = ap (λ (w : Reading). (tail_at w, w)) (run_more (suc k) v b text e)

-- a list of so many levels with the context c
module _ (c : ListContext) (outer : Option ℕ) where
  -- what the code gives of the list from here on, where it ends so
  abbrev pub list_from : Tail × Reading → Result (Tail × Reading) SyntaxFault
  list_from x = listed_given outer x.0 x.1 (d.items (around c.levels).0 (around c.levels).1 c x.1.rest)

  -- what the code gives of the end of a text in a list
  abbrev pub last_given : Reading → Result Tail SyntaxFault → Result (Tail × Reading) SyntaxFault
  last_given v r = then_ok r (λ tail. Ok (tail, v))

  -- a list gives its next item and what follows it, or its end
  pub item_by : (tail : Tail) (v : Reading) → list_from (tail, v)
      ≡ by_byte (first_of v.rest.bytes) (last_given v (end_given outer c.kind tail v.rest.at)) (λ b.
      if d.ends_list c.kind b then Ok (with_end tail b, v)
      else then_ok (given outer (item_ended tail v) (d.item (around c.levels).0 (around c.levels).1 c b v.rest)) list_from)
  item_by tail v = ap (λ r. listed_given outer tail v r) (items_by c v.rest) ∙ by v.rest.bytes
    where
      goes : Left → Read (Items × ℕ)
      goes rest = d.items (around c.levels).0 (around c.levels).1 c rest

      item : ℕ → Read Item
      item b = d.item (around c.levels).0 (around c.levels).1 c b v.rest

      step : Item → Left → Read (Turn (Items × ℕ))
      step one end = Took (More (λ list. (more (span v.rest.at end.at) one list.0, list.1))) end

      -- the list ends at the end of the text
      last : (kind : Kind) → listed_given outer tail v (then_read (d.list_end kind v.rest) (after_turn goes))
          ≡ last_given v (end_given outer kind tail v.rest.at)
      last Top = refl
      last InX = refl
      last InArguments = refl

      -- by whether the byte ends the list
      ended : (b : ℕ) (t : Bool)
          → listed_given outer tail v (then_read (if t then Took (Last (none, b)) v.rest else then_read (item b) step) (after_turn goes))
          ≡ (if t then Ok (with_end tail b, v) else then_ok (given outer (item_ended tail v) (item b)) list_from)
      ended b true = refl
      ended b false = ap (λ r. listed_given outer tail v r) (then_then (item b) step (after_turn goes))
          ∙ given_then outer (listed_on tail v.parts) _ (item_ended tail v) list_from (item b)
          (λ one end. given_mapped outer (listed_on tail v.parts) (λ list. (more (span v.rest.at end.at) one list.0, list.1)) (goes end))

      by : (bytes : List ℕ)
          → listed_given outer tail v (then_read (by_byte (first_of bytes) (d.list_end c.kind v.rest) (λ b.
          if d.ends_list c.kind b then Took (Last (none, b)) v.rest else then_read (item b) step)) (after_turn goes))
          ≡ by_byte (first_of bytes) (last_given v (end_given outer c.kind tail v.rest.at)) (λ b.
          if d.ends_list c.kind b then Ok (with_end tail b, v) else then_ok (given outer (item_ended tail v) (item b)) list_from)
      by [] = last c.kind
      by (b ∷ bytes) = ended b (d.ends_list c.kind b)

  -- after a plain byte, the list goes on with its tail right after it
  plain_step : (kind : ListKind) (tail : Tail) (v : Reading) (b : ℕ) (text : List ℕ) → kind_seen kind ≡ c.kind → runs kind b ≡ true
      → v.rest.bytes ≡ b ∷ text → list_from (tail, v) ≡ list_from (tail_at (plain_here b v), plain_here b v)
  plain_step kind tail v b text same_kind run is =
      let f = plain_byte kind (around c.levels).0 (around c.levels).1 c b v.rest run in
      let e : d.ends_list c.kind b ≡ false = subst (λ (k : Kind). d.ends_list k b ≡ false) same_kind f.0 in
      let g : first_of v.rest.bytes ≡ Some b = ap (λ bs. first_of bs) is in
      item_by tail v ∙ rw (g, e, f.1) (ap (λ (z : Parts). list_from (
        record {
          kept = v.rest.at + 1;
          tokens = length z.tokens;
          labels = length z.labels;
          end = 0;
        },
        record { rest = after 1 v.rest; parts = z },
      )) (leaf_is kinds.Plain (word_label (b ∷ [])) v.rest.at (v.rest.at + 1) v.parts))

  -- a list gives the same from its start as from the end of the run of plain bytes that it begins with
  plains_from : (kind : ListKind) → kind_seen kind ≡ c.kind → (tail : Tail) (v : Reading) {text run rest : List ℕ}
      → IsRun (runs kind) text run rest → v.rest.bytes ≡ text → list_from (tail, v) ≡ list_from (plains_after (length run) tail v)
  plains_from kind same_kind tail v (s.run_ends g) e = refl
  plains_from kind same_kind tail v (s.run_goes {b = b} {text = text} {run = run} g i) e =
      plain_step kind tail v b text same_kind g e
      ∙ plains_from kind same_kind (tail_at (plain_here b v)) (plain_here b v) i (ap (λ bs. drop 1 bs) e)
      ∙ ap (λ x. list_from x) (plains_more (length run) tail v b text e)

  -- a turn of the list, after its plain bytes: the code has taken them, and its tail and what is left are these
  module _ (kind : ListKind) (same_kind : kind_seen kind ≡ c.kind) (before tail : Tail) (w v : Reading)
      (run : ◌≡◌ {A = Result (Tail × Reading) SyntaxFault} (Ok (plains_on kind before w)) (Ok (tail, v))) where
    -- after the plain bytes the list goes on
    plains_go : list_from (before, w) ≡ list_from (tail, v)
    plains_go =
        let i = words.runs (runs kind) w.rest.bytes in
        plains_from kind same_kind before w i.0 refl ∙ ap (λ (k : ℕ). list_from (plains_after k before w)) i.1
        ∙ ap (λ (x : Tail × Reading). list_from x) (ok_same run)

    -- at the end of the text
    pub turn_last : first_of v.rest.bytes ≡ None → list_from (before, w) ≡ last_given v (end_given outer c.kind tail v.rest.at)
    turn_last e = plains_go ∙ item_by tail v ∙ rw e refl

    -- at the byte that ends it
    pub turn_ends : (b : ℕ) → first_of v.rest.bytes ≡ Some b → d.ends_list c.kind b ≡ true → list_from (before, w) ≡ Ok (with_end tail b, v)
    turn_ends b e g = plains_go ∙ item_by tail v ∙ rw (e, g) refl

    -- after a directive the list goes on, and ends here if no more follows
    pub turn_directive : first_of v.rest.bytes ≡ Some ascii.percent
        → list_from (before, w) ≡ then_ok (directive_given outer c (around c.levels) v) (λ u. list_from (tail_at u, u))
    turn_directive e = plains_go ∙ item_by tail v ∙ rw e
        (by (d.directive (around c.levels).0 (around c.levels).1 c v.rest.at (after 1 v.rest))
        (percent_dark c v.rest))
      where
        by : (r : Read Item) → Has (λ one end. is_white_item one ≡ false) r → then_ok (given outer (item_ended tail v) r) list_from
            ≡ then_ok (item_given outer v.rest.at v r) (λ u. list_from (tail_at u, u))
        by (Took one end) h = rw h refl
        by (Ends n) h = refl
        by (Stops n fault) h = refl

    -- after an item that is no directive the list goes on
    pub turn_item : (b : ℕ) → first_of v.rest.bytes ≡ Some b → d.ends_list c.kind b ≡ false → (b == ascii.percent) ≡ false
        → list_from (before, w) ≡ then_ok (given outer (item_ended tail v) (d.item no_lists no_lists c b v.rest)) list_from
    turn_item b e g h = plains_go ∙ item_by tail v ∙ rw (e, g, item_is (around c.levels).0 (around c.levels).1 c b v.rest h) refl

-- directives, by their byte

-- a list with the context c, at a directive whose % has the place `at`
module _ (c : ListContext) (outer : Option ℕ) (v : Reading) (at : ℕ) (at_is : at ≡ v.rest.at) (one : Left)
    (one_is : one ≡ after 1 v.rest) (b : ℕ) (byte : first_of one.bytes ≡ Some b) (allowed : is_allowed c.in_arguments b ≡ true)
    (two : Left) (two_is : two ≡ after 1 one) where
  -- a directive gives what its byte says
  pub percent_by : (x : Directive) → x ≡ directive_of b → directive_given outer c (around c.levels) v
      ≡ item_given outer at (at_rest two v) (d.directive_by (around c.levels).0 (around c.levels).1 c at one.at x two)
  percent_by x e =
      let byte_is : first_of (after 1 v.rest).bytes ≡ Some b = rw one_is at byte in rw (e, two_is, at_is, one_is, byte_is, allowed) refl

  -- a directive that holds no list is read
  pub percent_simple : (x : Directive) → x ≡ directive_of b → is_simple x ≡ true → directive_given outer c (around c.levels) v
      ≡ item_given outer at (at_rest two v) (d.directive_by no_lists no_lists c at at x two)
  percent_simple x e h = rw (percent_by x e) (by x h)
    where
      -- Plan: by the directive; for `%*` by which X it belongs to (`star`).
      star : (owner : Owner)
          → item_given outer at (at_rest two v) (d.star at one.at owner two) ≡ item_given outer at (at_rest two v) (d.star at at owner two)
      star Nobody = refl
      star Mixed = refl
      star Starred = refl

      by : (x : Directive) → is_simple x ≡ true
          → item_given outer at (at_rest two v) (d.directive_by (around c.levels).0 (around c.levels).1 c at one.at x two)
          ≡ item_given outer at (at_rest two v) (d.directive_by no_lists no_lists c at at x two)
      by directives.Nowhere g = refl
      by (directives.Whole leaf) g = refl
      by (directives.Named letter) g = refl
      by (directives.WithSuffix kind) g = refl
      by directives.WithOption g = refl
      by (directives.WithSaying kind) g = refl
      by directives.WithName g = refl
      by directives.WithPattern g = refl
      by directives.OfStar g = star c.owner
      by directives.WithCall g = absurd cc
      by directives.WithBraces g = absurd cc
      by (directives.WithMarkedBraces kind) g = absurd cc
