use Rattle.bstr.specs.Bytes.{is_in, not_in}
use Rattle.bstr.specs.Find.{IsFirstByte}
use Rattle.drv_syntax.specs.Code.Runs.{said_stops}
use Rattle.drv_syntax.specs.Code.Writing.{runs_in}
use Rattle.drv_syntax.specs.declared.descent.contexts.ListKind.TheVariants as lists
use Rattle.drv_syntax.specs.declared.descent.contexts.ListKind.{ListKind}
use Rattle.drv_syntax.specs.declared.descent.words.Class.TheVariants as classes
use Rattle.drv_words.specs.Bytes as ascii
use Rattle.std.proofs.Common.{◌≡◌, ◌∙◌, ◌≤◌, Bool, false, true, List, ap, arith, if◌then◌else◌, length, refl, sym, ℕ}
use Rattle.std.proofs.lemmas.List.Sums.{prefix_len_is}
use Rattle.std.specs.List.{prefix_len}
use Rattle.std.specs.Prelude.{◌==◌, ◌||◌, None, Option, Some, not, unwrap_or}

-- Texts for the user: how long one is, by the search for the byte that ends it. It serves `said_length` of src/descent/runs.rt.
-- Names: `said_stops list`: the bytes that end such a text in a list of this kind, or escape. `runs_in`: the bytes of a class that are no
-- backslash. `IsFirstByte test text found`: what was found is the first byte that passes.

-- a byte is in the run where it is none of those that end it or escape
in_run : (list : ListKind) (b : ℕ) → runs_in (classes.Said list) b ≡ not_in (said_stops list) b
unfolding is_in
in_run list b = by list
  where
    -- the backslash and the newline, by which of them the byte is
    two : (x n : Bool) → (if x then false else if n then false else true) ≡ not (x || (n || false))
    two true n = refl
    two false true = refl
    two false false = refl

    -- these and the bytes that end an X
    four : (x n s c : Bool)
        → (if x then false else if (if n then true else if s then true else if c then true else false) then false else true)
        ≡ not (x || (n || (s || (c || false))))
    four true n s c = refl
    four false true s c = refl
    four false false true c = refl
    four false false false true = refl
    four false false false false = refl

    -- Plan: `by` goes by the kind of the list.
    by : (kind : ListKind) → runs_in (classes.Said kind) b ≡ not_in (said_stops kind) b
    by lists.Top = two (b == ascii.backslash) (b == ascii.newline)
    by lists.InX = four (b == ascii.backslash) (b == ascii.newline) (b == ascii.semicolon) (b == ascii.closing_brace)
    by lists.InArguments = two (b == ascii.backslash) (b == ascii.newline)

-- a byte that the search passed over is in the run
passed : (list : ListKind) (b : ℕ) → (is_in (said_stops list) b ≡ true → ⊥) → runs_in (classes.Said list) b ≡ true
passed list b none = by (is_in (said_stops list) b) refl
  where
    -- Plan: `by` goes by both answers of the test.
    by : (t : Bool) → is_in (said_stops list) b ≡ t → runs_in (classes.Said list) b ≡ true
    by true is = absurd (none is)
    by false is = in_run list b ∙ ap not is

-- what precedes the byte that was found is the run, and where none was found all is
pub said_length : (list : ListKind) (text : List ℕ) (found : Option ℕ) → IsFirstByte (is_in (said_stops list)) text found
    → unwrap_or found (length text) ≡ prefix_len (runs_in (classes.Said list)) text
said_length list text None first = sym (prefix_len_is (runs_in (classes.Said list)) text (length text) 0 (omega arith)
    (λ k below. passed list _ (first k (omega arith) below)) (λ below. absurd (omega (arith, below))))
said_length list text (Some at) first = sym (prefix_len_is (runs_in (classes.Said list)) text at 0 (omega (arith, first.0.high))
    (λ k below. passed list _ (first.0.before k (omega arith) below)) (λ below. in_run list _ ∙ ap not first.1))

-- what was found lies in the text
pub said_within : (list : ListKind) (text : List ℕ) (found : Option ℕ) → IsFirstByte (is_in (said_stops list)) text found
    → unwrap_or found (length text) ≤ length text
said_within list text None first = omega arith
said_within list text (Some at) first = omega (arith, first.0.high)
