use Rattle.drv_args.specs.Fronts.{items_of}
use Rattle.drv_args.specs.Lines.{input_fault, is_input, judged, line_fault, line_of_items, line_read}
use Rattle.drv_args.specs.declared.fault.ArgsFault.TheVariants.{Memory, OutputIsInput}
use Rattle.drv_args.specs.declared.fault.ArgsFault.{ArgsFault}
use Rattle.drv_args.specs.declared.line.Expanded.{Expanded}
use Rattle.drv_args.specs.declared.line.Line.{Line}
use Rattle.drv_words.specs.Gives.{Gives}
use Rattle.std.proofs.Common.{◌≡◌, ◌⊎◌, ◌∙◌, ◌≤◌, Err, IsErrAnd, List, None, Ok, Option, Result, Some, ap, arith, false, inl, inr, length}
use Rattle.std.proofs.Common.{refl, sym, true, ℕ}
use Rattle.std.proofs.lemmas.Bool.Decides.{nat_tests}
use Rattle.std.specs.Prelude.{nat_lt}

-- For the refusals of a line: each follows from what the code tests.
-- Names: `words` is the words from here on. `line` is the line that was read. `e` is the words after the expansion. `judged` turns a file
-- with too many words into one that is too large. `items_of words` is the items of the words, or their refusal. `line_of_items` is the line
-- of items.

-- an output that is an input is refused
pub input_is_output : (output copy : List ℕ) (line : Line) → is_input output line ≡ true → copy ≡ output
    → input_fault (Some output) line ≡ Some (OutputIsInput copy)
input_is_output output copy line input same = rw (same, input) refl

-- a refusal that was found is the result
pub refused_line : (line : Line) (found : Option ArgsFault) (fault : ArgsFault) (result : Result Line ArgsFault)
    → (fault ≡ Memory) ⊎ (found ≡ Some fault) → IsErrAnd result (λ f. f ≡ fault) → Gives Memory (λ l. l) result (judged line found)
refused_line line found fault (Ok l) refused is = absurd is
refused_line line found fault (Err f) (inl memory) is = inl (is ∙ memory)
refused_line line found fault (Err f) (inr some) is = inr (ap (judged line) some ∙ ap Err (sym is))

-- without one the line is
pub none_is_judged : (line : Line) (found : Option ArgsFault) → found ≡ None → judged line found ≡ Ok line
none_is_judged line found e = ap (judged line) e

-- A line whose words are not too many.

-- so many words are not too many
not_many : (words : List (List ℕ)) → length words ≤ 65536 → nat_lt 65536 (length words) ≡ false
not_many words few = grind (arith, nat_tests)

-- the same of the words after the expansion
not_many_of : (e : Expanded) (words : List (List ℕ)) → words ≡ e.words → length words ≤ 65536 → nat_lt 65536 (length e.words) ≡ false
not_many_of e words same few = ap (λ ws. nat_lt 65536 (length ws)) (sym same) ∙ not_many words few

-- the code reads the words of the expansion
read_of : (e : Expanded) (words : List (List ℕ)) (read : Result Line ArgsFault) → words ≡ e.words
    → line_of_items e.from_file (items_of words) ≡ read
    → line_of_items e.from_file (items_of e.words) ≡ read
read_of e words read same is = ap (λ ws. line_of_items e.from_file (items_of ws)) (sym same) ∙ is

-- the line of the words is judged
pub line_judged : (e : Expanded) (words : List (List ℕ)) (line : Line) (result : Result Line ArgsFault) → words ≡ e.words
    → length words ≤ 65536
    → line_of_items e.from_file (items_of words) ≡ Ok line → Gives Memory (λ l. l) result (judged line (line_fault line))
    → Gives Memory (λ l. l) result (line_read e)
line_judged e words line result same few is given = rw (not_many_of e words same few, read_of e words (Ok line) same is) given

-- or the words are refused
pub line_refused : (e : Expanded) (words : List (List ℕ)) (fault : ArgsFault) (result : Result Line ArgsFault) → words ≡ e.words
    → length words ≤ 65536
    → (fault ≡ Memory) ⊎ (line_of_items e.from_file (items_of words) ≡ Err fault) → IsErrAnd result (λ f. f ≡ fault)
    → Gives Memory (λ l. l) result (line_read e)
line_refused e words fault (Ok line) same few refused is = absurd is
line_refused e words fault (Err f) same few (inl memory) is = inl (is ∙ memory)
line_refused e words fault (Err f) same few (inr refused) is = inr
    (rw (not_many_of e words same few, read_of e words (Err fault) same refused) (ap Err (sym is)))
