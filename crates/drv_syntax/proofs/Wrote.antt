use Rattle.drv_syntax.proofs.FlatNodes.{flat_both}
use Rattle.drv_syntax.specs.Code.Lists.{closed_at, list_written, owned_here}
use Rattle.drv_syntax.specs.Code.Tests.{opened}
use Rattle.drv_syntax.specs.Code.Tokens.{open_token, whole_token}
use Rattle.drv_syntax.specs.Code.Writing.{Parts, Reading, flat, item_written, leafed, wrote}
use Rattle.drv_syntax.specs.Labels.{Label, Nodes, both, inner_nodes, label_of, labels, no_node, node, nodes_of, star_label}
use Rattle.drv_syntax.specs.Spelling.{span}
use Rattle.drv_syntax.specs.Stars.{has_star, item_has_star}
use Rattle.drv_syntax.specs.Tokens.{kind_of, token}
use Rattle.drv_syntax.specs.Tree.{Items, more, none}
use Rattle.drv_syntax.specs.declared.descent.parts.Choice.{Choice}
use Rattle.drv_syntax.specs.declared.descent.simple.Tail.{Tail}
use Rattle.drv_syntax.specs.declared.token.Token.{Token}
use Rattle.drv_syntax.specs.declared.token.TokenKind.TheVariants as kinds
use Rattle.drv_syntax.specs.declared.token.TokenKind.{TokenKind}
use Rattle.std.proofs.Common.{◌≡◌, ◌∙◌, ◌+◌, ◌++◌, ◌||◌, Bool, false, true, List, [], ◌∷◌, ap, append-nil, append_assoc, arith, length}
use Rattle.std.proofs.Common.{length-append, refl, set, sym, take, ℕ}
use Rattle.std.proofs.Math.Seq.{set-append_seam}

-- What is written of parts that follow one another, and of those that hold others. It serves the reader's `call`, `braces`, `result` and
-- `close_choice`. `wrote nodes holds z` is z with the tokens and labels of these parts after its own (specs/Code/Writing). `holds` says
-- that they have a %* of an X.
-- Names: `a`, `b`: a test's value, so that `by` can go by both cases. `z`: the parts so far. `v`: what is left of the text, with the parts
-- so far. `tail`: where a list ends. `labels`: the labels of parts, in the order of their tokens. `wrote`: writes these parts after those
-- so far. `flat`: the tokens of parts, from the place n of the list on. `whole_token`: a part that is whole, and the place in the list
-- after those inside it. `span`: the bytes from the place start up to the place end.

-- parts of these tokens and labels, with or without a %* of their X
abbrev pub parts_of : List Token → List Label → Bool → Parts
parts_of tokens labels holds = record { tokens = tokens; labels = labels; holds = holds }

-- b or false is b
or_none : (b : Bool) → (b || false) ≡ b
or_none true = refl
or_none false = refl

-- a part without parts inside it is written as one token and one label
pub leaf_is : (kind : TokenKind) (label : Label) (start end : ℕ) (z : Parts)
    → wrote (node kind label (span start end) no_node no_node) false z ≡ leafed kind label start end z
leaf_is kind label start end z =
    let m : length z.tokens + 1 + 0 ≡ length z.tokens + 1 = omega arith in cc (m, or_none z.holds)

-- parts of equal fields are equal
same_parts : {ts us : List Token} {xs ys : List Label} {a b : Bool} → ts ≡ us → xs ≡ ys → a ≡ b → parts_of ts xs a ≡ parts_of us ys b
same_parts {ts} {us} {xs} {ys} {a} {b} e f g = cc (e, f, g)

-- the labels of parts and of others after them are those of both
pub labels_both : (xs ys : Nodes) → labels (both xs ys) ≡ labels xs ++ labels ys
labels_both no_node ys = refl
labels_both (node kind label s inner xs) ys = cc (labels_both xs ys, append_assoc (label ∷ labels inner) (labels xs) (labels ys))

-- three conditions joined by or are the same in either grouping
or_assoc : (a b c : Bool) → (a || (b || c)) ≡ ((a || b) || c)
or_assoc true b c = refl
or_assoc false b c = refl

-- no parts and no %* change nothing that is written
pub wrote_none : (z : Parts) → wrote no_node false z ≡ z
wrote_none z = same_parts (append-nil z.tokens) (append-nil z.labels) (or_none z.holds)

-- parts and others after them write what both write, one after the other
pub wrote_both : (xs ys : Nodes) (a b : Bool) (z : Parts) → wrote (both xs ys) (a || b) z ≡ wrote ys b (wrote xs a z)
wrote_both xs ys a b z = same_parts
    (ap (λ ts. z.tokens ++ ts) (flat_both (length z.tokens) xs ys)
    ∙ sym (append_assoc z.tokens (flat (length z.tokens) xs) (flat (length z.tokens + length (flat (length z.tokens) xs)) ys))
    ∙ ap (λ n. (z.tokens ++ flat (length z.tokens) xs) ++ flat n ys) (sym (length-append z.tokens (flat (length z.tokens) xs))))
    (ap (λ ls. z.labels ++ ls) (labels_both xs ys) ∙ sym (append_assoc z.labels (labels xs) (labels ys)))
    (or_assoc z.holds a b)

-- lists of parts

-- the items of a list, written one after another, are the list written at once
pub list_wrote : (list : Items) (z : Parts) → list_written list z ≡ wrote (nodes_of list) (has_star list) z
list_wrote none z = sym (wrote_none z)
list_wrote (more s item items) z =
    list_wrote items (item_written s.start item s.end z)
    ∙ sym (wrote_both (node (kind_of item) (label_of item) s (inner_nodes item) no_node) (nodes_of items) (item_has_star item)
    (has_star items) z)

-- parts that are closed

-- an open token, what is inside it and its closed form put in its place are the token of the part
closing : (a : List Token) (o : Token) (kind : TokenKind) (start end : ℕ) (f : ℕ → List Token)
    → set ((a ++ o ∷ []) ++ f (length (a ++ o ∷ []))) (length a) (whole_token kind start end
    (length ((a ++ o ∷ []) ++ f (length (a ++ o ∷ [])))))
    ≡ a ++ token (length a) kind (span start end) (f (length a + 1)) (λ _. [])
closing a o kind start end f =
    let e : length (a ++ o ∷ []) ≡ length a + 1 = omega (arith, length-append a (o ∷ [])) in
    let d : length ((a ++ o ∷ []) ++ f (length a + 1)) ≡ length a + 1 + length (f (length a + 1)) = omega
    (arith, length-append (a ++ o ∷ []) (f (length a + 1)), length-append a (o ∷ [])) in
    rw (e, d, append-nil (f (length a + 1)))
    (ap (λ zs. set zs (length a) (whole_token kind start end (length a + 1 + length (f (length a + 1)))))
    (append_assoc a (o ∷ []) (f (length a + 1)))
    ∙ set-append_seam a o (f (length a + 1)) (whole_token kind start end (length a + 1 + length (f (length a + 1)))))

-- a part that opens, is filled with others and closes is that part with these inside, written at once
pub closed_is : (first kind : TokenKind) (label : Label) (start end : ℕ) (inner : Nodes) (holds : Bool) (z : Parts)
    → closed_at kind (record { token = length z.tokens; start = start }) end (wrote inner holds (opened first label start z))
    ≡ wrote (node kind label (span start end) inner no_node) holds z
closed_is first kind label start end inner holds z = same_parts
    (closing z.tokens (open_token first start) kind start end (λ n. flat n inner))
    (append_assoc z.labels (label ∷ []) (labels inner) ∙ ap (λ ls. z.labels ++ label ∷ ls) (sym (append-nil (labels inner))))
    refl

-- the fields that the code leaves when it closes an alternative are those that the definition says
pub owned_of : (c : Choice) (tail : Tail) (around : Bool) (v : Reading) (ts us : List Token) (ls ms : List Label)
    → ts ≡ take tail.tokens v.parts.tokens → ls ≡ take tail.labels v.parts.labels
    → us ≡ set ts c.part.token (whole_token kinds.Alternative c.part.start tail.kept (length ts))
    → ms ≡ set ls c.label (star_label v.parts.holds)
    → record { rest = v.rest; parts = parts_of us ms around } ≡ owned_here c tail around v
owned_of c tail around v ts us ls ms e f g h =
    cc (same_parts (g ∙ ap (λ zs. set zs c.part.token (whole_token kinds.Alternative c.part.start tail.kept (length zs))) e) (h ∙ ap (λ
    zs. set zs c.label (star_label v.parts.holds)) f) refl)
