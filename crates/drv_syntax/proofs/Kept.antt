use Rattle.drv_syntax.proofs.Continued.{rest_is}
use Rattle.drv_syntax.proofs.Leads.{le_true}
use Rattle.drv_syntax.proofs.Messages.{open_more}
use Rattle.drv_syntax.proofs.ParsedGrammar.{allowed, parsed_refused, parsed_spelled}
use Rattle.drv_syntax.specs.Code.Ending.{ending_in, goes_on}
use Rattle.drv_syntax.specs.Code.Messages.{IsOpen, Says, said_to}
use Rattle.drv_syntax.specs.Code.Parts.{IsKept, IsRead}
use Rattle.drv_syntax.specs.Code.Whole.{rest_given, whole_given}
use Rattle.drv_syntax.specs.Descent.{items}
use Rattle.drv_syntax.specs.Faults.{MemoryOrRefused, Refused}
use Rattle.drv_syntax.specs.Labels.{Label}
use Rattle.drv_syntax.specs.Outcome.{judged, parsed, read}
use Rattle.drv_syntax.specs.Parsed.{listed, tree_in, tree_of}
use Rattle.drv_syntax.specs.Spelling.{Spells}
use Rattle.drv_syntax.specs.Tree.{Items}
use Rattle.drv_syntax.specs.declared.descent.reading.TextParts.{TextParts}
use Rattle.drv_syntax.specs.declared.fault.SyntaxFault.TheVariants.{Memory, TextTooLong}
use Rattle.drv_syntax.specs.declared.fault.SyntaxFault.{SyntaxFault}
use Rattle.drv_syntax.specs.declared.token.Token.{Token}
use Rattle.drv_syntax.specs.declared.tree.Parts.TheVariants as kept
use Rattle.drv_syntax.specs.declared.tree.Parts.{Parts}
use Rattle.drv_words.specs.Gives.{Gives}
use Rattle.std.proofs.Common.{◌≡◌, ◌∙◌, ◌⊎◌, ◌+◌, ◌-◌, ◌<◌, ◌≤◌, ◌++◌, Bool, false, true, if◌then◌else◌, List, [], ap, arith, inl, inr}
use Rattle.std.proofs.Common.{length, length-append, refl, subst, sym, ℕ}
use Rattle.std.proofs.lemmas.Bool.Decides.{nat_tests}
use Rattle.std.specs.Prelude.{Err, IfErr, IsErrAnd, Ok, Result, nat_le}

-- What is kept of a text (`IsKept`): its tokens and labels (`IsRead`). It serves
-- `parse` and `SpecTree::extended`. `whole_given text` is what the code gives of a whole text, and `rest_given` of what follows a text that
-- is kept (specs/Code/Whole).
-- Names: `more`: more text behind. `t`: a text, or what is left of it. `b`: a byte. `parsed`: the tree of a text, or its fault.
-- `whole_given`: the tokens and labels of a whole text, or its fault. `listed`: the tokens of a tree and their labels, or the fault in
-- place of a tree. `tree_of`: the tree of a text. `ending_in`: how a text of this size ends, by its last token. `goes_on`: whether what was
-- read can be kept where this follows it. `items`: the items of a list, up to the byte that ends it, which isn't taken.

-- a number is not at most one that is less
pub beyond : (a b : ℕ) → b < a → nat_le a b ≡ false
beyond a b h = grind (arith, nat_tests)

-- a text of more than 1048576 bytes is too long
pub parsed_long : (text : List ℕ) → 1048576 < length text → parsed text ≡ Err TextTooLong
parsed_long text h = ap (λ t. if t then judged (read text) else Err TextTooLong) (beyond (length text) 1048576 h)

-- a text that is not too long
module _ (text : List ℕ) (short : length text ≤ 1048576) where
  -- the tokens and labels of what a text is parsed to are those that the code gives
  listed_is : listed (parsed text) ≡ whole_given text
  listed_is = ap (λ r. listed r) (allowed text (read text) short refl)

  -- a text whose tokens and labels the code gives has the tree of the text
  pub tree_whole : (p : TextParts) → whole_given text ≡ Ok (p.tokens, p.labels) → parsed text ≡ Ok (tree_of text)
  tree_whole p h = by (parsed text) (listed_is ∙ h)
    where
      by : (r : Result Items SyntaxFault) → listed r ≡ Ok (p.tokens, p.labels) → r ≡ Ok (tree_in r)
      by (Ok items) e = refl
      by (Err fault) e = absurd cc

  -- the fault that the code gives is that of the text
  pub fault_whole : (fault : SyntaxFault) → whole_given text ≡ Err fault → parsed text ≡ Err fault
  fault_whole fault h = by (parsed text) (listed_is ∙ h)
    where
      by : (r : Result Items SyntaxFault) → listed r ≡ Err fault → r ≡ Err fault
      by (Ok items) e = absurd cc
      by (Err other) e = cc

  -- the tokens and labels that the code gives are those of the text
  pub whole_kept : (p : TextParts) → whole_given text ≡ Ok (p.tokens, p.labels) → IsRead text p
  whole_kept p h = (listed_is ∙ h, short)

  -- a text whose tokens and labels the code gives has its tree by the grammar
  pub whole_spelled : (p : TextParts) → whole_given text ≡ Ok (p.tokens, p.labels) → Spells text (tree_of text)
  whole_spelled p h = parsed_spelled text (tree_of text) (tree_whole p h)

  -- a text for which the code gives a fault is refused by the grammar for it
  pub whole_refused : (fault : SyntaxFault) → whole_given text ≡ Err fault → Refused text fault
  whole_refused fault h = parsed_refused text fault (fault_whole fault h)

  -- where `parse` fails, memory ran out or the grammar refuses the text for this fault
  pub first_refused : (given : Result (List ℕ) SyntaxFault) (fault : SyntaxFault) → IsErrAnd given (λ e. e ≡ fault)
      → (fault ≡ Memory) ⊎ (whole_given text ≡ Err fault) → IfErr given (MemoryOrRefused text)
  first_refused (Ok x) fault d h = tt
  first_refused (Err e) fault d (inl m) = inl (d ∙ m)
  first_refused (Err e) fault d (inr h) = inr (subst (λ (f : SyntaxFault). Refused text f) (sym d) (whole_refused fault h))

-- what is kept of a text that goes on in a message, with the message longer, is kept of the longer text (`say_more`)
pub said_kept : (text more all : List ℕ) (old p : TextParts) (end : ℕ) → IsRead text old → IsOpen text → Says more
    → length text + length more ≤ 1048576 → all ≡ text ++ more → end ≡ length all
    → said_to end more (Ok (old.tokens, old.labels)) ≡ Ok (p.tokens, p.labels) → IsRead all p × IsOpen all
said_kept text more all old p end is goes says short e size h =
    let n : end ≡ length text + length more = size ∙ ap (λ (t : List ℕ). length t) e ∙ length-append text more in
    let given = goes more says ∙ ap (λ r. said_to (length text + length more) more r) (sym (listed_is text is.1) ∙ is.0)
    ∙ ap (λ (i : ℕ). said_to i more (Ok (old.tokens, old.labels))) (sym n) ∙ h in
    subst (λ (t : List ℕ). IsRead t p × IsOpen t) (sym e)
    (whole_kept (text ++ more) (omega (arith, length-append text more, short)) p given, open_more text more goes says)

-- a text without bytes has no tokens and no labels
pub nothing_kept : (text : List ℕ) (p : TextParts) → text ≡ [] → p.tokens ≡ [] → p.labels ≡ [] → IsRead text p
nothing_kept text p none tokens labels =
    subst (λ (t : List ℕ). IsRead t p) (sym none)
    (ap (λ ts. ok_parts ts []) (sym tokens) ∙ ap (λ ls. ok_parts p.tokens ls) (sym labels), omega arith)
  where
    ok_parts : List Token → List Label → Result (List Token × List Label) SyntaxFault
    ok_parts ts ls = Ok (ts, ls)

-- a text of which the tokens and labels are kept, and more after it
module _ (text more : List ℕ) (old : TextParts) (is : IsRead text old) (short : length text + length more ≤ 1048576)
    (goes : goes_on (ending_in (length text) old.tokens) more ≡ true) where
  -- both texts together are no longer than a text may be
  both_short : length (text ++ more) ≤ 1048576
  both_short = omega (arith, length-append text more, short)

  -- what the code gives of both texts together is what it gives of the second after the first
  whole_is : whole_given (text ++ more) ≡ rest_given (length text) more old.tokens old.labels
  whole_is = rest_is text more old.tokens old.labels (sym (listed_is text is.1) ∙ is.0) goes

  -- where the code reads what follows a text that is kept, both together have their tree
  pub tree_more : (p : TextParts) → rest_given (length text) more old.tokens old.labels ≡ Ok (p.tokens, p.labels)
      → parsed (text ++ more) ≡ Ok (tree_of (text ++ more))
  tree_more p h = tree_whole (text ++ more) both_short p (whole_is ∙ h)

  -- where what follows a text that is kept has a fault, it is that of both together
  pub fault_more : (fault : SyntaxFault) → rest_given (length text) more old.tokens old.labels ≡ Err fault → parsed (text ++ more)
      ≡ Err fault
  fault_more fault h = fault_whole (text ++ more) both_short fault (whole_is ∙ h)

  -- the tokens and labels of a text that is kept, and then of what the code reads after it, are those of both together
  pub more_kept : (p : TextParts) → rest_given (length text) more old.tokens old.labels ≡ Ok (p.tokens, p.labels) → IsRead (text ++ more) p
  more_kept p h = whole_kept (text ++ more) both_short p (whole_is ∙ h)

-- a text of which the tokens and labels are kept, as the code has it: it is this list, and the place after it is n
module _ (text self more all : List ℕ) (n : ℕ) (old : TextParts) (is : IsRead text old) (seen : text ≡ self) (place : n ≡ length self)
    (short : length more ≤ 1048576 - n) (goes : goes_on (ending_in n old.tokens) more ≡ true) where
  -- the place after the first text is its length
  here : n ≡ length text
  here = place ∙ ap (λ (t : List ℕ). length t) (sym seen)

  -- both texts together are no longer than a text may be
  within : length text + length more ≤ 1048576
  within = omega (arith, short, is.1, here)

  -- the code's test lets the first text go on
  goes_here : goes_on (ending_in (length text) old.tokens) more ≡ true
  goes_here = ap (λ (i : ℕ). goes_on (ending_in i old.tokens) more) (sym here) ∙ goes

  -- what the code gives of the second text from the place n on is what it gives from the first text's length on
  there : (r : Result (List Token × List Label) SyntaxFault) → rest_given n more old.tokens old.labels ≡ r
      → rest_given (length text) more old.tokens old.labels ≡ r
  there r h = ap (λ (i : ℕ). rest_given i more old.tokens old.labels) (sym here) ∙ h

  -- where `extended` fails, memory ran out, or both texts together have this fault
  pub refused_more : (given : Result (List ℕ) SyntaxFault) (fault : SyntaxFault) → IsErrAnd given (λ e. e ≡ fault)
      → (fault ≡ Memory) ⊎ (rest_given n more old.tokens old.labels ≡ Err fault) → Gives Memory tree_of given (parsed (self ++ more))
  refused_more (Ok x) fault d h = absurd d
  refused_more (Err e) fault d (inl m) = inl (d ∙ m)
  refused_more (Err e) fault d (inr h) = inr (cc (seen, fault_more text more old is within goes_here fault (there (Err fault) h), d))
    where
      failed : SyntaxFault → Result Items SyntaxFault
      failed x = Err x

  -- where `extended` succeeds, both texts together have a tree
  pub tree_there : (p : TextParts) → all ≡ text ++ more → rest_given n more old.tokens old.labels ≡ Ok (p.tokens, p.labels)
      → parsed (self ++ more) ≡ Ok (tree_of all)
  tree_there p e h = cc (seen, tree_more text more old is within goes_here p (there (Ok (p.tokens, p.labels)) h), e)
    where
      made : List ℕ → Result Items SyntaxFault
      made t = Ok (tree_of t)

  -- where `extended` succeeds, its tokens and labels are those of both texts together
  pub kept_there : (p : TextParts) → all ≡ text ++ more → rest_given n more old.tokens old.labels ≡ Ok (p.tokens, p.labels) → IsRead all p
  kept_there p e h =
      subst (λ (t : List ℕ). IsRead t p) (sym e) (more_kept text more old is within goes_here p (there (Ok (p.tokens, p.labels)) h))

-- a text of which anything is kept is no longer than a text may be
pub short_kept : (text : List ℕ) (parts : Parts) → IsKept text parts → length text ≤ 1048576
short_kept text (kept.Read p) is = is.1
short_kept text (kept.Said p) is = is.0.1

-- what is kept of a text that was read is its tokens and labels
pub read_of : (text : List ℕ) {parts : Parts} {p : TextParts} → parts ≡ kept.Read p → IsKept text parts → IsRead text p
read_of text h is = subst (λ (x : Parts). IsKept text x) h is

-- a text that was read has its tree by the grammar
pub read_spelled : (text : List ℕ) (p : TextParts) → IsRead text p → Spells text (tree_of text)
read_spelled text p is = by (parsed text) refl is.0
  where
    by : (r : Result Items SyntaxFault) → parsed text ≡ r → listed r ≡ Ok (p.tokens, p.labels) → Spells text (tree_in r)
    by (Ok items) e d = parsed_spelled text items e
    by (Err fault) e d = absurd cc
