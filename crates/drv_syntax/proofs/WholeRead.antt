use Rattle.drv_syntax.proofs.CutsRead.{EndsIn, ListEnds, items_cut}
use Rattle.drv_syntax.proofs.Depth.{all_levels, depth_is}
use Rattle.drv_syntax.proofs.Here.{here}
use Rattle.drv_syntax.proofs.ItemsRead.{Inner, items_are}
use Rattle.drv_syntax.proofs.ItemsStop.{items_stop, ListStops, stops_at, whole}
use Rattle.drv_syntax.proofs.Swaps.{Filled, Ready, any, filled_size, loose, reaches_moved, refuses_ready, swaps_back}
use Rattle.drv_syntax.proofs.TestsRead.{ListReads}
use Rattle.drv_syntax.specs.Contexts.{ListContext, Top, in_arguments, in_braces, in_x, top}
use Rattle.drv_syntax.specs.Descent as d
use Rattle.drv_syntax.specs.Descent.{Ends, Lists, Read, Stops, Took, levels}
use Rattle.drv_syntax.specs.Fronts.{Front}
use Rattle.drv_syntax.specs.Outcome.{Bad, Got, Unrefused, depth, outcome, read}
use Rattle.drv_syntax.specs.Refusals.{IsRefused, Reaches, Refuses}
use Rattle.drv_syntax.specs.Rest.{Left}
use Rattle.drv_syntax.specs.Spelling.{Spells}
use Rattle.drv_syntax.specs.Tree.{Items}
use Rattle.drv_syntax.specs.declared.fault.SyntaxFault.{SyntaxFault}
use Rattle.std.proofs.Common.{◌≡◌, ◌∙◌, ◌+◌, ◌++◌, List, [], ap, append-nil, arith, inl, inr, length, length-append, refl, subst, sym, ℕ}
use Rattle.std.specs.Prelude.{◌-◌, ◌==◌, false}

-- What the grammar says of a whole text, Descent makes of it: the laws `spelled_is_read`, `front_is_unrefused` and `refusal_kinds`. Descent
-- is the grammar as functions (specs/Descent). The grammar itself has cases (specs/Spelling, Fronts, Refusals).
-- Names: `c`: where the list is, and what is around it. `rest`: what follows in the text. `deep`, `lists`: how lists inside are read.
-- `size`: the length of the whole text. `t`, `q`: what is left of the text, from step to step. `k`: a place in the text. `level`: how many
-- levels of lists may open. `r`: what was read. `l`: what is left. `whole`: the size of the whole text. `top`: the list that a whole text
-- is. `depth`: braces and arguments may be within one another up to so many levels, whatever the text. `ListStops`: all lists with this
-- context stop at the byte that doesn't fit. `in_braces`: the context in the braces of a list, before the colon of an alternative.
-- `IsRefused text fault`: a text ends in the byte that no longer fits, and this is its fault. `Spells`: a text has this tree.

-- all lists with this context are read and end as the grammar says
abbrev pub Known : ℕ → Lists → ListContext → Type 0
Known size lists c = ListReads size lists c × ListEnds size lists c

-- what is known of the lists in a list
pub inner : {size : ℕ} {lists deep : Lists} (c : ListContext)
    → ((c.levels == 0) ≡ false → (inner : ListContext) → inner.levels ≡ c.levels - 1 → Known size lists inner)
    → ((c.levels - 1 == 0) ≡ false → (inner : ListContext) → inner.levels ≡ c.levels - 1 - 1 → Known size deep inner)
    → Inner size lists deep c
inner c near far = record {
  arguments = λ e. (near e (in_arguments c) refl).0;
  xs = λ e tests. (near e (in_x (in_braces c) tests) refl).0;
  deeper = λ e. (far e (in_arguments (in_braces c)) refl).0;
}

-- a list is read and ends as the grammar says, if the lists in it do
known : (size : ℕ) (lists deep : Lists) (c : ListContext)
    → ((c.levels == 0) ≡ false → (inner : ListContext) → inner.levels ≡ c.levels - 1 → Known size lists inner)
    → ((c.levels - 1 == 0) ≡ false → (inner : ListContext) → inner.levels ≡ c.levels - 1 - 1 → Known size deep inner)
    → Known size (λ c rest. d.items lists deep c rest) c
known size lists deep c near far = (
  λ t q list i h. (items_are size lists deep c (inner c near far) i h).gives t (omega arith),
  λ t i h. let m = items_cut size lists deep c (inner c near far) (λ e. (near e (in_arguments c) refl).1)
      (λ e tests. (near e (in_x (in_braces c) tests) refl).1) (λ e. (far e (in_arguments (in_braces c)) refl).1) i h in
      (m.0, m.1.0, m.1.1.gives t (omega arith), m.1.2),
)

-- lists with any number of levels are read and end as the grammar says
pub levels_known : (size level : ℕ) → ((c : ListContext) → c.levels ≡ level → Known size (levels level).0 c)
    × ((c : ListContext) → c.levels + 1 ≡ level → Known size (levels level).1 c)
levels_known size level = all_levels (Known size) (known size) level

-- lists with any number of levels stop at the byte that doesn't fit
levels_stop : (k : ℕ) (q : List ℕ) (level : ℕ) (c : ListContext) → c.levels ≡ level
    → Known (whole k q) (levels level).0 c × ListStops k q (levels level).0 c
levels_stop k q level = (all_levels (λ lists c. Known (whole k q) lists c × ListStops k q lists c) step level).0
  where
    -- Plan: by induction on the levels; `step` adds one.
    step : (lists deep : Lists) (c : ListContext) → ((c.levels == 0) ≡ false → (inner : ListContext) → inner.levels ≡ c.levels - 1
        → Known (whole k q) lists inner × ListStops k q lists inner)
        → ((c.levels - 1 == 0) ≡ false → (inner : ListContext) → inner.levels ≡ c.levels - 1 - 1
        → Known (whole k q) deep inner × ListStops k q deep inner)
        → Known (whole k q) (λ c rest. d.items lists deep c rest) c × ListStops k q (λ c rest. d.items lists deep c rest) c
    step lists deep c near far = (
      known (whole k q) lists deep c (λ e x f. (near e x f).0) (λ e x f. (far e x f).0),
      λ t u due fault o f h. (items_stop k q lists deep c (inner c (λ e x f. (near e x f).0) (λ e x f. (far e x f).0))
          (λ e. (near e (in_arguments c) refl).1) (λ e tests. (near e (in_x (in_braces c) tests) refl).1)
          (λ e. (far e (in_arguments (in_braces c)) refl).1) o f h).gives t (omega arith),
    )

-- a whole text is what is left of it where nothing is read
pub start : (text : List ℕ) → ◌≡◌ {A = Left} (record { at = 0; bytes = text }) (here (length text) text)
start text = let e : length text - length text ≡ 0 = omega arith in rw e refl

-- a tree by the grammar is what the text gives
pub spelled_is_read : (text : List ℕ) (items : Items) → Spells text items → read text ≡ Got items
spelled_is_read text items i = ap (λ r. outcome r) (ap (λ (l : Left). (levels (depth text)).0 top l) (start text)
    ∙ ((levels_known (length text) (depth text)).0 top (sym (depth_is text))).0 text [] items i (omega arith))

-- a text has one tree at most
pub only_tree : (text : List ℕ) (a b : Items) → Spells text a → Spells text b → a ≡ b
only_tree text a b i j = same (sym (spelled_is_read text a i) ∙ spelled_is_read text b j)
  where
    same : Got a ≡ Got b → a ≡ b
    same e = cc

-- a front by the grammar gives a tree, or is cut short
pub front_is_read : (text : List ℕ) → Front text → Unrefused text
front_is_read text f =
    let m = ((levels_known (length text) (depth text)).0 top (sym (depth_is text))).1 text f (omega arith) in
    by m.0 m.1 (ap (λ (l : Left). (levels (depth text)).0 top l) (start text) ∙ m.2) m.3
  where
    by : (place : ℕ) (r : Read (Items × ℕ)) → (levels (depth text)).0 top (record { at = 0; bytes = text }) ≡ r
        → EndsIn (length text) Top place r → Unrefused text
    by place (Took list rest) e i = inl (list.0, ap (λ r. outcome r) e)
    by place (Ends n) e i = inr (n, ap (λ r. outcome r) e)
    by place (Stops n fault) e i = absurd i

-- where more bytes follow a text that the grammar refuses, this has a byte, and still leads to what is due
refused_on : (text rest : List ℕ) {fault : SyntaxFault} (x : IsRefused text fault)
    → Filled [] rest text (text ++ rest) × Reaches (whole (length text - 1) rest) top (text ++ rest) x.due (x.last ++ rest)
refused_on text rest x =
    let ready = subst (λ (t : List ℕ). Ready [] rest x.due t (x.last ++ rest)) (append-nil x.last) (refuses_ready [] rest x.refused) in
    let m = reaches_moved [] rest {whole = length text + length rest} (omega arith) x.reached ready in let fill = loose [] rest m.swaps in
    let on = swaps_back [] rest refl (any [] rest fill) in
    let size : length text + length rest ≡ whole (length text - 1) rest = omega (arith, filled_size [] rest fill) in
    (rw on at fill, subst (λ (n : ℕ). Reaches n top (text ++ rest) x.due (x.last ++ rest)) size (rw on at m.is))

-- a text that the grammar refuses has a byte
pub refused_filled : (text : List ℕ) {fault : SyntaxFault} → IsRefused text fault → length text - 1 + 1 ≡ length text
refused_filled text x = omega (arith, filled_size [] [] (refused_on text [] x).0)

-- where a case of the grammar refuses a text, Descent refuses it at its last byte for the same fault, whatever follows
pub refusal_kinds : (text rest : List ℕ) (fault : SyntaxFault) → IsRefused text fault → read (text ++ rest) ≡ Bad (length text - 1) fault
refusal_kinds text rest fault x =
    let f = sym (refused_filled text x) in
    let size : length (text ++ rest) ≡ whole (length text - 1) rest = omega (arith, f, length-append text rest) in
    ap (λ r. outcome r) (ap (λ (l : Left). (levels (depth (text ++ rest))).0 top l)
    (start (text ++ rest) ∙ ap (λ (n : ℕ). here n (text ++ rest)) size)
    ∙ (levels_stop (length text - 1) rest (depth (text ++ rest)) top (sym (depth_is (text ++ rest)))).1 (text ++ rest)
    (x.last ++ rest) x.due fault
    (refused_on text rest x).1 (stops_at (subst (λ (n : ℕ). Refuses n x.due x.last fault) f x.refused)) (omega (arith, size)))
