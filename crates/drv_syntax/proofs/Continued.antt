use Rattle.drv_syntax.proofs.Depth.{descent_is}
use Rattle.drv_syntax.proofs.FlatNodes.{flat_both, items_flat, items_join, join}
use Rattle.drv_syntax.proofs.Here.{here}
use Rattle.drv_syntax.proofs.ItemsRead.{Inner, item_is}
use Rattle.drv_syntax.proofs.Leads.{differs, each}
use Rattle.drv_syntax.proofs.MeantWhole.{read_is_spelled}
use Rattle.drv_syntax.proofs.Progress.{Has, Takes, items_take, repeated}
use Rattle.drv_syntax.proofs.Swaps.{brace_moved, call_moved, filled, item_longer, longer, quoted_moved, run_moved, swaps_end}
use Rattle.drv_syntax.proofs.Taken.{ok_same}
use Rattle.drv_syntax.proofs.WholeRead.{inner, levels_known, start}
use Rattle.drv_syntax.proofs.Wrote.{labels_both}
use Rattle.drv_syntax.specs.Bytes.{is_blank, is_suffix, is_word}
use Rattle.drv_syntax.specs.Code.Ending.{begins_blank, ending_by, ending_in, goes_on}
use Rattle.drv_syntax.specs.Code.Whole.{rest_given, whole_given}
use Rattle.drv_syntax.specs.Code.Writing.{flat, given}
use Rattle.drv_syntax.specs.Contexts.{ListContext, top}
use Rattle.drv_syntax.specs.Descent.{Ends, Read, Stops, Took, after_turn, item_turn, levels, mapped, then_read}
use Rattle.drv_syntax.specs.Directives.{said}
use Rattle.drv_syntax.specs.Labels.{Label, inner_nodes, label_of, labels, labels_of, no_node, node, nodes_of}
use Rattle.drv_syntax.specs.Outcome.{Bad, Cut, Got, Out, descent, judged, outcome}
use Rattle.drv_syntax.specs.Parsed.{listed}
use Rattle.drv_syntax.specs.Rest.{Left}
use Rattle.drv_syntax.specs.Spelling as s
use Rattle.drv_syntax.specs.Spelling.{AreItems, IsDirective, IsItem, IsPattern, IsQuoted, IsRun, IsSuffix, span}
use Rattle.drv_syntax.specs.Tokens.{kind_of, tokens_of}
use Rattle.drv_syntax.specs.Tree.{Accumulate, ArgumentsFile, Blank, Braces, BuiltinText, Escape, FailureFile, Function, Hide, Item, Items}
use Rattle.drv_syntax.specs.Tree.{Leaf, NamedText, Newline, Notice, Pattern, Pipe, Plain, Span, Star, TempName, UserError, more, none}
use Rattle.drv_syntax.specs.declared.descent.ending.Ending.{Ending}
use Rattle.drv_syntax.specs.declared.directives.Directive.{Directive}
use Rattle.drv_syntax.specs.declared.directives.SayKind.TheVariants.{AsError, AsNotice}
use Rattle.drv_syntax.specs.declared.directives.SayKind.{SayKind}
use Rattle.drv_syntax.specs.declared.token.Token.{Token}
use Rattle.drv_words.specs.Bytes as ascii
use Rattle.std.proofs.Common.{Bool, List, [], ap, arith, false, length, length-append, refl, subst, suc, sym, true, ℕ, ◌++◌, ◌+◌, ◌-◌, ◌∙◌}
use Rattle.std.proofs.Common.{◌∷◌, ◌≡◌, ◌≤◌}
use Rattle.std.proofs.lemmas.Bool.Decides.{nat_tests}
use Rattle.std.specs.Prelude.{None, Ok, Some, slice_get, ◌==◌}

-- A text that has a tree goes on after its end: read with more bytes after it, it gives its own items and then those of the rest, if its
-- last item can't be longer there. It serves `SpecTree::extended`, which keeps the tokens and labels of the text and reads only what
-- follows. `goes_on` (specs/Code/Ending) is the test for that last item.
-- Names: `t`, `q`: what is left of the text, from step to step. `p`: where a part is in the text. `rest`: what follows in the text. `size`:
-- the length of the whole text. `b`: a byte. `x`: an item. `rest`: what is left of the text, and its place. `r`, `part`: what was read.
-- `level`: how many levels of lists may open. `nodes_of`: the parts that items are, each with those inside it. `tokens_of`: the tokens of a
-- tree. `top`: the list that a whole text is. `flat`: the tokens of parts, from the place n of the list on. `ending_in`: how a text of this
-- size ends, by its last token. `IsItem`: one item of a list with this context, by its first byte. `span`: the bytes from the place start
-- up to the place end. `here`: what is left of the text where these bytes are left. `longer`: what is the same part in a longer text is a
-- part of that. `judged`: what a text gives.

-- the last token of a text is that of its last item, if that has no parts

-- the last of some tokens and one more is that one
seam : (ts : List Token) (t : Token) → slice_get (ts ++ t ∷ []) (length ts) ≡ Some t
seam [] t = refl
seam (x ∷ ts) t = seam ts t

-- a number equals itself in the test
at_end : (m : ℕ) → (m == m) ≡ true
at_end m = grind (arith, nat_tests)

-- a text that its last token ends with ends as that token's kind says
ending_last : (ts : List Token) (t : Token) → ending_in t.end (ts ++ t ∷ []) ≡ ending_by t.kind
ending_last ts t =
    let e : length (ts ++ t ∷ []) - 1 ≡ length ts = omega (arith, length-append ts (t ∷ [])) in cc (e, seam ts t, at_end t.end)

-- a text whose last item has no parts ends as the kind of this item says
ends_so : (done : Items) (p : Span) (item : Item) → inner_nodes item ≡ no_node
    → ending_in p.end (tokens_of (join done (more p item none))) ≡ ending_by (kind_of item)
ends_so done p item e =
    ap (λ ts. ending_in p.end ts) (items_flat 0 (join done (more p item none))
    ∙ ap (λ ns. flat 0 ns) (items_join done (more p item none))
    ∙ flat_both 0 (nodes_of done) (node (kind_of item) (label_of item) p (inner_nodes item) no_node)
    ∙ ap (λ ns. flat 0 (nodes_of done)
    ++ flat (0 + length (flat 0 (nodes_of done))) (node (kind_of item) (label_of item) p ns no_node)) e)
    ∙ ending_last (flat 0 (nodes_of done))
    (record { kind = kind_of item; start = p.start; end = p.end; next = 0 + length (flat 0 (nodes_of done)) + 1 + 0 })

-- what follows an item that a text ends in: a suffix and a word are closed by a blank, a message by nothing
abbrev Fits : Item → List ℕ → Type 0
Fits (TempName kind suffix) rest = begins_blank rest ≡ true
Fits (Hide p) rest = begins_blank rest ≡ true
Fits (UserError words) rest = ⊥
Fits (Notice words) rest = ⊥
Fits _ rest = Unit {0}

-- the rest fits the last of these items
abbrev LastFits : Items → List ℕ → Type 0
LastFits none rest = Unit {0}
LastFits (more s item none) rest = Fits item rest
LastFits (more s item (more t other items)) rest = LastFits (more t other items) rest

-- items, one more and the items after it are the same in either grouping
join_more : (before : Items) (p : Span) (item : Item) (items : Items) → join (join before (more p item none)) items
    ≡ join before (more p item items)
join_more none p item items = refl
join_more (more t other before) p item items = ap (λ (x : Items). more t other x) (join_more before p item items)

-- where the code's test lets a text go on, what follows fits its last item
item_fits : (before : Items) (p : Span) (item : Item) (rest : List ℕ)
    → goes_on (ending_in p.end (tokens_of (join before (more p item none)))) rest ≡ true → Fits item rest
item_fits before p (TempName kind suffix) rest g = cc (ends_so before p (TempName kind suffix) refl, g)
item_fits before p (Hide word) rest g = sym (ap (λ (e : Ending). goes_on e rest) (ends_so before p (Hide word) refl)) ∙ g
item_fits before p (UserError words) rest g =
    let h : false ≡ true = sym (ap (λ (e : Ending). goes_on e rest) (ends_so before p (UserError words) refl)) ∙ g in differs (sym h)
item_fits before p (Notice words) rest g =
    let h : false ≡ true = sym (ap (λ (e : Ending). goes_on e rest) (ends_so before p (Notice words) refl)) ∙ g in differs (sym h)
item_fits before p (Plain b) rest g = tt
item_fits before p (Escape b) rest g = tt
item_fits before p Blank rest g = tt
item_fits before p Newline rest g = tt
item_fits before p Pipe rest g = tt
item_fits before p (Leaf leaf) rest g = tt
item_fits before p (Accumulate option) rest g = tt
item_fits before p (NamedText name) rest g = tt
item_fits before p (BuiltinText name) rest g = tt
item_fits before p (Function name arguments) rest g = tt
item_fits before p (Braces brace) rest g = tt
item_fits before p Star rest g = tt
item_fits before p (FailureFile brace) rest g = tt
item_fits before p (ArgumentsFile brace) rest g = tt

-- where the code's test lets a text go on, what follows fits the last of its items
last_fits : {size : ℕ} {c : ListContext} {text : List ℕ} (rest : List ℕ) (items before : Items) → AreItems size c text items []
    → goes_on (ending_in size (tokens_of (join before items))) rest ≡ true → LastFits items rest
last_fits rest none before i g = tt
last_fits {size} rest (more p item none) before (s.next_item {n = n} {m = m} a j b (s.no_item e)) g =
    let end : size ≡ m = omega (arith, b) in
    item_fits before (span n m) item rest
    (subst (λ (k : ℕ). goes_on (ending_in k (tokens_of (join before (more (span n m) item none)))) rest ≡ true) end g)
last_fits {size} rest (more p item (more t other items)) before (s.next_item {n = n} {m = m} a j b l) g =
    last_fits rest (more t other items) (join before (more (span n m) item none)) l
    (subst (λ (x : Items). goes_on (ending_in size (tokens_of x)) rest ≡ true)
    (sym (join_more before (span n m) item (more t other items))) g)

-- the item that a text ends in is the same where more follows

-- a run that the text ends in is the same run before a byte that can't be in it
run_on : {f : ℕ → Bool} {t run q : List ℕ} {b : ℕ} → IsRun f t run [] → f b ≡ false → IsRun f (t ++ b ∷ q) run (b ∷ q)
run_on (s.run_ends h) e = s.run_ends (s.at_byte e)
run_on (s.run_goes h i) e = s.run_goes h (run_on i e)

-- a run with escapes that the text ends in is the same run before a byte that can't be in it
quoted_on : {f : ℕ → Bool} {t word q : List ℕ} {b : ℕ} → IsQuoted f t word [] → (b == ascii.backslash) ≡ false → f b ≡ false
    → IsQuoted f (t ++ b ∷ q) word (b ∷ q)
quoted_on s.quoted_end e g = s.quoted_stop e g
quoted_on (s.quoted_escape i) e g = s.quoted_escape (quoted_on i e g)
quoted_on (s.quoted_byte h k i) e g = s.quoted_byte h k (quoted_on i e g)

-- a blank is in no word and no suffix, and begins no escape: so it ends what a text may end in
blank_out : (b : ℕ) → is_blank b ≡ true → ((b == ascii.backslash) ≡ false) × (is_word b ≡ false) × (is_suffix b ≡ false)
    × ((b == ascii.percent) ≡ false) × ((b == ascii.asterisk) ≡ false)
blank_out b h = each (λ x. ((x == ascii.backslash) ≡ false) × (is_word x ≡ false) × (is_suffix x ≡ false) × ((x == ascii.percent) ≡ false)
    × ((x == ascii.asterisk) ≡ false)) (32 ∷ 9 ∷ []) b h ((refl, refl, refl, refl, refl), ((refl, refl, refl, refl, refl), tt))

-- a suffix that the text ends in is the same before a blank
suffix_on : {t suffix : List ℕ} (q : List ℕ) → IsSuffix t suffix [] → begins_blank q ≡ true → IsSuffix (t ++ q) suffix q
suffix_on [] i h = differs (sym h)
suffix_on (b ∷ q) (s.suffix_run i) h = s.suffix_run (run_on i (blank_out b h).2)
suffix_on (b ∷ q) s.suffix_object h = s.suffix_object
suffix_on (b ∷ q) s.suffix_none h = s.suffix_other (blank_out b h).2 (blank_out b h).3

-- a pattern that the text ends in is the same before a blank
pattern_on : {t : List ℕ} {p : Pattern} (q : List ℕ) → IsPattern t p [] → begins_blank q ≡ true → IsPattern (t ++ q) p q
pattern_on [] i h = differs (sym h)
pattern_on (b ∷ q) (s.unstarred i e) h =
    let o = blank_out b h in s.unstarred (quoted_on i o.0 o.1) (s.at_byte o.4)
pattern_on (b ∷ q) (s.starred i) h = s.starred (longer (b ∷ q) (quoted_moved [] (b ∷ q) i (filled swaps_end)))

-- nothing fits after %e and %n, so this case can't arise
said_fits : {A : Type 0} (kind : SayKind) (words q : List ℕ) → Fits (said kind words) q → A
said_fits AsError words q h = absurd h
said_fits AsNotice words q h = absurd h

-- a directive that a text ends in is the same directive before a rest that fits it
directive_on : {size : ℕ} {c : ListContext} {directive : Directive} {t : List ℕ} {item : Item} (q : List ℕ)
    → IsDirective size c directive t item [] → Fits item q → IsDirective (size + length q) c directive (t ++ q) item q
directive_on q s.whole h = s.whole
directive_on q s.named h = s.named
directive_on q (s.temp_name i) h = s.temp_name (suffix_on q i h)
directive_on q (s.accumulate i) h = s.accumulate (longer q (quoted_moved [] q i (filled swaps_end)))
directive_on q (s.saying {kind = kind} {words = words} i e) h = said_fits kind words q h
directive_on q (s.named_text i l) h = s.named_text (longer q (run_moved [] q i (filled swaps_end))) l
directive_on q (s.hide i) h = s.hide (pattern_on q i h)
directive_on q (s.star e) h = s.star e
directive_on q (s.function i) h = s.function (longer q (call_moved [] q (omega arith) i swaps_end))
directive_on q (s.braces i) h = s.braces (longer q (brace_moved [] q (omega arith) i swaps_end))
directive_on q (s.marked_braces i) h = s.marked_braces (longer q (brace_moved [] q (omega arith) i swaps_end))

-- an item that the text ends in is the same item before a rest that fits it
item_on : {size : ℕ} {c : ListContext} {t : List ℕ} {x : Item} (q : List ℕ) → IsItem size c t x [] → Fits x q
    → IsItem (size + length q) c (t ++ q) x q
item_on q (s.plain e g) h = s.plain e g
item_on q s.escape h = s.escape
item_on q (s.blank e) h = s.blank e
item_on q s.newline h = s.newline
item_on q s.pipe h = s.pipe
item_on q (s.directive e i) h = s.directive e (directive_on q i h)

-- each item is, if those after it end so
item_goes : {size : ℕ} {c : ListContext} {t mid : List ℕ} (q : List ℕ) (place : Span) (item : Item) (items : Items)
    → AreItems size c mid items []
    → LastFits (more place item items) q → IsItem size c t item mid → IsItem (size + length q) c (t ++ q) item (mid ++ q)
item_goes q place item none (s.no_item e) h i = item_on q i h
item_goes q place item (more r y items) (s.next_item a j b l) h i = item_longer q i j

-- what fits the last of some items fits the last of those after the first
rest_fits : (p : Span) (x : Item) (items : Items) (q : List ℕ) → LastFits (more p x items) q → LastFits items q
rest_fits p x none q h = tt
rest_fits p x (more r y items) q h = h

-- a text with more after it

-- what is read after these items comes after them
abbrev behind : Items → Read (Items × ℕ) → Read (Items × ℕ)
behind items r = mapped (λ list. (join items list.0, list.1)) r

-- no items before what is read change nothing
behind_none : (r : Read (Items × ℕ)) → behind none r ≡ r
behind_none (Took list end) = refl
behind_none (Ends at) = refl
behind_none (Stops n fault) = refl

-- an item before other items, and then what is read, are those items with it before
behind_more : (p : Span) (x : Item) (items : Items) (r : Read (Items × ℕ)) → mapped (λ list. (more p x list.0, list.1)) (behind items r)
    ≡ behind (more p x items) r
behind_more p x items (Took list end) = refl
behind_more p x items (Ends at) = refl
behind_more p x items (Stops n fault) = refl

-- a whole text, which may have 64 levels, with more bytes q after it
module _ (level : ℕ) (is : level ≡ 63) (q : List ℕ) where
  -- what Descent makes of a whole text from here on
  abbrev reads : Left → Read (Items × ℕ)
  reads rest = (levels (suc level)).0 top rest

  -- the lists in a whole text are read, where the text has this size
  known : (size : ℕ) → Inner size (levels level).0 (levels level).1 top
  known size = inner top (λ e x f. (levels_known size level).0 x (omega (arith, f, is)))
      (λ e x f. (levels_known size level).1 x (omega (arith, f, is)))

  -- each turn of the list takes a byte, but the last
  takes : (rest : Left) → Has (Takes (length rest.bytes)) (item_turn (levels level).0 (levels level).1 top rest)
  takes = subst (λ (n : ℕ). (rest : Left) → Has (Takes (length rest.bytes)) (item_turn (levels n).0 (levels n).1 top rest)) (sym is)
      (items_take top)

  -- a text with a tree and a rest that fits it give its items and then those of the rest
  items_on : {size : ℕ} {t : List ℕ} (items : Items) → AreItems size top t items [] → LastFits items q → length t ≤ size
      → reads (here (size + length q) (t ++ q)) ≡ behind items (reads (here (size + length q) q))
  items_on {size} none (s.no_item e) h k = sym (behind_none (reads (here (size + length q) q)))
  items_on {size} {t} (more p x items) (s.next_item {n = n} {m = m} {mid = mid} a i b l) h k =
      let begins : n ≡ size + length q - length (t ++ q) = omega (arith, a, length-append t q) in
      let ends : m ≡ size + length q - length (mid ++ q) = omega (arith, b, length-append mid q) in
      let one = item_is (size + length q) (levels level).0 (levels level).1 top (known (size + length q))
      (item_goes q (span n m) x items l h i) (omega (arith, k, length-append t q)) in
      let place : Span = span (size + length q - length (t ++ q)) (size + length q - length (mid ++ q)) in
      rw (begins, ends) (repeated (item_turn (levels level).0 (levels level).1 top) takes (here (size + length q) (t ++ q))
      ∙ ap (λ r. then_read r (after_turn reads)) one
      ∙ ap (λ r. mapped (λ list. (more place x list.0, list.1)) r)
      (items_on items l (rest_fits (span n m) x items q h) (omega (arith, b)))
      ∙ behind_more place x items (reads (here (size + length q) q)))

-- the tokens of two lists, one after the other, are those of both
tokens_joined : (items list : Items) → tokens_of (join items list) ≡ tokens_of items ++ flat (length (tokens_of items)) (nodes_of list)
tokens_joined items list =
    items_flat 0 (join items list) ∙ ap (λ ns. flat 0 ns) (items_join items list)
    ∙ flat_both 0 (nodes_of items) (nodes_of list)
    ∙ ap (λ ts. ts ++ flat (0 + length ts) (nodes_of list)) (sym (items_flat 0 items))
    ∙ ap (λ (i : ℕ). tokens_of items ++ flat i (nodes_of list)) (by (length (tokens_of items)))
  where
    by : (k : ℕ) → 0 + k ≡ k
    by k = omega arith

-- the labels of two lists, one after the other, are those of both
labels_joined : (items list : Items) → labels_of (join items list) ≡ labels_of items ++ labels (nodes_of list)
labels_joined items list = ap (λ ns. labels ns) (items_join items list) ∙ labels_both (nodes_of items) (nodes_of list)

-- where the code's test lets a text go on, the whole is read as its tokens and labels, and then those of the rest
pub rest_is : (text rest : List ℕ) (tokens : List Token) (names : List Label) → whole_given text ≡ Ok (tokens, names)
    → goes_on (ending_in (length text) tokens) rest ≡ true → whole_given (text ++ rest) ≡ rest_given (length text) rest tokens names
rest_is text rest tokens names h g = by (descent text) refl h
  where
    -- Plan: by what Descent makes of the first text (`by`): if it is read whole, the items of the rest are joined to its items (`joined`).
    joined : (items : Items) (part : Read (Items × ℕ))
        → listed (judged (outcome (behind items part)))
        ≡ given None (λ list end.
        (tokens_of items ++ flat (length (tokens_of items)) (nodes_of list.0), labels_of items ++ labels (nodes_of list.0))) part
    joined items (Took l end) = cc (tokens_joined items l.0, labels_joined items l.0)
    joined items (Ends at) = refl
    joined items (Stops n fault) = refl

    by : (made : Out) → descent text ≡ made
        → listed (judged made) ≡ Ok (tokens, names) → whole_given (text ++ rest) ≡ rest_given (length text) rest tokens names
    by (Cut at) e f = absurd cc
    by (Bad n fault) e f = absurd cc
    by (Got items) e f =
        let p : ◌≡◌ {A = List Token × List Label} (tokens_of items, labels_of items) (tokens, names) = ok_same f in
        let ends : goes_on (ending_in (length text) (tokens_of items)) rest ≡ true =
        ap (λ (pair : List Token × List Label). goes_on (ending_in (length text) pair.0) rest) p
        ∙ g in
        let tree = read_is_spelled text items e in
        let there : length text + length rest - length rest ≡ length text = omega arith in
        ap (λ made. listed (judged made)) (descent_is (text ++ rest))
        ∙ ap (λ (l : Left). listed (judged (outcome ((levels 64).0 top l))))
        (start (text ++ rest) ∙ ap (λ (n : ℕ). here n (text ++ rest)) (length-append text rest))
        ∙ ap (λ r. listed (judged (outcome r))) (items_on 63 refl rest items tree (last_fits rest items none tree ends) (omega arith))
        ∙ ap (λ (i : ℕ). listed (judged (outcome (behind items ((levels 64).0 top (record { at = i; bytes = rest })))))) there
        ∙ joined items ((levels 64).0 top (record { at = length text; bytes = rest }))
        ∙ ap (λ (pair : List Token × List Label). rest_given (length text) rest pair.0 pair.1) p
