use Rattle.drv_syntax.proofs.Depth.{descent_is}
use Rattle.drv_syntax.proofs.FlatNodes.{items_flat}
use Rattle.drv_syntax.proofs.Taken.{then_ok}
use Rattle.drv_syntax.proofs.Wrote.{list_wrote}
use Rattle.drv_syntax.specs.Code.Lists.{listed_given, tail_at}
use Rattle.drv_syntax.specs.Code.Whole.{rest_given, whole_given}
use Rattle.drv_syntax.specs.Code.Writing.{Parts, Reading, flat, given}
use Rattle.drv_syntax.specs.Contexts.{top}
use Rattle.drv_syntax.specs.Descent.{Ends, Read, Stops, Took, levels}
use Rattle.drv_syntax.specs.Labels.{Label, labels, labels_of, nodes_of}
use Rattle.drv_syntax.specs.Outcome.{judged, outcome}
use Rattle.drv_syntax.specs.Parsed.{listed}
use Rattle.drv_syntax.specs.Rest.{Left}
use Rattle.drv_syntax.specs.Tree.{Items}
use Rattle.drv_syntax.specs.declared.descent.simple.Tail.{Tail}
use Rattle.drv_syntax.specs.declared.fault.SyntaxFault.{SyntaxFault}
use Rattle.drv_syntax.specs.declared.token.Token.{Token}
use Rattle.std.proofs.Common.{◌≡◌, ◌∙◌, ◌++◌, false, List, [], ap, length, refl, sym, ℕ}
use Rattle.std.specs.Prelude.{None, Ok, Result}

-- A whole text is what follows a text without bytes. It serves `read` and `read_text` of src/descent/reading.rt.
-- Names: `tokens`: the flat list of parts. `rest`: what is left of the text, and its place. `r`: what was read. `more`: more text behind.
-- `labels`: the labels of parts, in the order of their tokens. `nodes_of`: the parts that items are, each with those inside it.
-- `rest_given`: the tokens and labels of a text of which the first n bytes were read before. `top`: the list that a whole text is. `flat`:
-- the tokens of parts, from the place n of the list on. `given`: what the reading of a part gives.

-- a text that is read from its start, with no tokens or labels before it, gives what a whole text gives
pub from_start : (text : List ℕ) (tokens : List Token) (names : List Label) → [] ≡ tokens → [] ≡ names
    → rest_given 0 text tokens names ≡ whole_given text
from_start text tokens names e f =
    ap (λ (ts : List Token). rest_given 0 text ts names) (sym e) ∙ ap (λ (ls : List Label). rest_given 0 text [] ls) (sym f)
    ∙ by ((levels 64).0 top (record { at = 0; bytes = text })) ∙ ap (λ o. listed (judged o)) (sym (descent_is text))
  where
    by : (r : Read (Items × ℕ))
        → given {Y = List Token × List Label} None (λ list rest. ([] ++ flat 0 (nodes_of list.0), [] ++ labels (nodes_of list.0))) r
        ≡ listed (judged (outcome r))
    by (Took list rest) = ap (λ ts. Ok (ts, labels_of list.0)) (sym (items_flat 0 list.0))
    by (Ends at) = refl
    by (Stops n fault) = refl

-- the tokens and labels of what was read
abbrev pub written : Tail × Reading → Result (List Token × List Label) SyntaxFault
written x = Ok (x.1.parts.tokens, x.1.parts.labels)

-- the rest of a text gives what its items give, as the list that a whole text is
pub rest_given_by : (n : ℕ) (more : List ℕ) (tokens : List Token) (names : List Label) (rest : Left)
    → rest ≡ record { at = n; bytes = more } → rest_given n more tokens names
    ≡ then_ok (listed_given None (tail_at (record { rest = rest; parts = record { tokens = tokens; labels = names; holds = false } }))
    (record { rest = rest; parts = record { tokens = tokens; labels = names; holds = false } }) ((levels 64).0 top rest)) written
rest_given_by n more tokens names rest e =
    ap (λ (l : Left). given {Y = List Token × List Label} None
    (λ list end. (tokens ++ flat (length tokens) (nodes_of list.0), names ++ labels (nodes_of list.0))) ((levels 64).0 top l)) (sym e)
    ∙ by ((levels 64).0 top rest)
  where
    -- Plan: by what Descent reads of the rest.
    by : (r : Read (Items × ℕ))
        → given {Y = List Token × List Label} None
        (λ list end. (tokens ++ flat (length tokens) (nodes_of list.0), names ++ labels (nodes_of list.0))) r
        ≡ then_ok (listed_given None (tail_at (record { rest = rest; parts = record { tokens = tokens; labels = names; holds = false } }))
        (record { rest = rest; parts = record { tokens = tokens; labels = names; holds = false } }) r) written
    by (Took list end) = ap (λ (z : Parts). Ok (z.tokens, z.labels))
        (sym (list_wrote list.0 (record { tokens = tokens; labels = names; holds = false })))
    by (Ends at) = refl
    by (Stops n fault) = refl
