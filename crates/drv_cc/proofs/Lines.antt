use Rattle.drv_cc.specs.Code.Known.{is_ended}
use Rattle.drv_cc.specs.Items.{is_known, same}
use Rattle.drv_words.specs.Bytes.{newline}
use Rattle.std.proofs.Common.{arith, ◌≡◌, ◌==◌, ◌∙◌, ◌||◌, ◌&&◌, ◌<◌, ◌≤◌, ◌-◌, Bool, List, [], ◌∷◌, ◌++◌, ap, drop, false, length, nat_eq}
use Rattle.std.proofs.Common.{get_or, not, refl, sym, take, true, ℕ}
use Rattle.std.proofs.lemmas.Bool.{eqb-true}
use Rattle.std.proofs.lemmas.Cmp.{nat_list_eq_equiv}
use Rattle.std.proofs.lemmas.List.{append-nil, take-append-drop, take_all}
use Rattle.std.proofs.lemmas.List.Folds.{list_any-append}
use Rattle.std.proofs.lemmas.List.Splits.{length-slice_split, slice_split-cons_no, slice_split-cons_yes}
use Rattle.std.specs.Cmp.Lexicographic.{same_text}
use Rattle.std.specs.List.{list_any, onto_first, slice_split, starts_with}

-- For the look-up of a word among the names of options beyond the table (src/known.rt): a line of a text begins with it, or doesn't.
-- Names: `text` is the names, a line each. `line` is the name that is looked for. `rest` is what follows it in the text. `before` and
-- `after` are the texts on both sides of the end of a line. `b` is one byte. `a` and `b` are values of tests where there are two. `ends b`
-- says that a byte ends a line. `lines` cuts a text into lines. `is_known text line` says that one of them is this name. `is_ended` says
-- that a line ends where a text begins (specs/Code/Known).

-- The test of a byte by which std's `slice_split` cuts lines.
abbrev ends : ℕ → Bool
ends b = b == newline

-- The lines of a text, of which each is a known name.
abbrev lines : List ℕ → List (List ℕ)
lines text = slice_split ends text

-- A name among the lines of the second half of a text is among all.
or_true : (a b : Bool) → b ≡ true → (a || b) ≡ true
or_true true b is = refl
or_true false b is = is

-- A text has a line at least, so a byte put before its first line changes nothing of what follows.
onto_more : (b : ℕ) (xs ys : List (List ℕ)) → 0 < length xs → onto_first b (xs ++ ys) ≡ onto_first b xs ++ ys
onto_more b [] ys some = absurd (omega arith)
onto_more b (x ∷ xs) ys some = refl

-- the lines of a text are those before the end of one and those after it
cut : (before after : List ℕ) → lines (before ++ newline ∷ after) ≡ lines before ++ lines after
cut [] after = slice_split-cons_yes ends newline after refl
cut (b ∷ before) after = by (ends b) refl (cut before after)
  where
    -- Plan: `by` goes by both answers of `ends b`.
    by : (here : Bool) → ends b ≡ here → lines (before ++ newline ∷ after) ≡ lines before ++ lines after
        → lines (b ∷ before ++ newline ∷ after) ≡ lines (b ∷ before) ++ lines after
    by true is rest =
        slice_split-cons_yes ends b (before ++ newline ∷ after) is ∙ ap (λ l. [] ∷ l) rest
        ∙ ap (λ l. l ++ lines after) (sym (slice_split-cons_yes ends b before is))
    by false is rest =
        slice_split-cons_no ends b (before ++ newline ∷ after) is ∙ ap (onto_first b) rest
        ∙ onto_more b (lines before) (lines after) (omega (arith, length-slice_split ends before))
        ∙ ap (λ l. l ++ lines after) (sym (slice_split-cons_no ends b before is))

-- what is a line after the end of one is a line
after_end : (n : ℕ) (text rest line : List ℕ) → drop n text ≡ newline ∷ rest → is_known rest line ≡ true → is_known text line ≡ true
after_end n text rest line is known =
    ap (λ t. is_known t line) (sym (take-append-drop n text) ∙ ap (λ l. take n text ++ l) is)
    ∙ ap (list_any (same line)) (cut (take n text) rest)
    ∙ list_any-append (same line) (lines (take n text)) (lines rest)
    ∙ or_true (list_any (same line) (lines (take n text))) (list_any (same line) (lines rest)) known

-- A line without the end of one has none in its first byte and none in the others.
both_false : (a b : Bool) → (a || b) ≡ false → (a ≡ false) × (b ≡ false)
both_false true b e = absurd cc
both_false false b e = (refl, e)

-- a text without the end of a line is one line
alone : (line : List ℕ) → list_any ends line ≡ false → lines line ≡ line ∷ []
alone [] e = refl
alone (b ∷ line) e = let none = both_false (ends b) (list_any ends line) e in slice_split-cons_no ends b line none.0
    ∙ ap (onto_first b) (alone line none.1)

-- A name is among lines of which it is the first.
is_first : (line : List ℕ) (others : List (List ℕ)) → list_any (same line) (line ∷ others) ≡ true
is_first line others = ap (λ b. b || list_any (same line) others) (nat_list_eq_equiv.refl line)

-- A text that is this line alone has it.
begun_alone : (line : List ℕ) → list_any ends line ≡ false → is_known (line ++ []) line ≡ true
begun_alone line whole = ap (λ l. is_known l line) (append-nil line) ∙ ap (list_any (same line)) (alone line whole) ∙ is_first line []

-- A text that begins with this line and goes on in another one has it.
begun_before : (line more : List ℕ) → list_any ends line ≡ false → is_known (line ++ newline ∷ more) line ≡ true
begun_before line more whole =
    ap (list_any (same line)) (cut line more ∙ ap (λ l. l ++ lines more) (alone line whole)) ∙ is_first line (lines more)

-- A text that begins with this line, and where the line ends there (`is_ended`, specs/Code/Known.antt), has it: both cases above.
begun_ended : (line rest : List ℕ) → is_ended rest ≡ true → list_any ends line ≡ false → is_known (line ++ rest) line ≡ true
begun_ended line [] ended whole = begun_alone line whole
begun_ended line (b ∷ rest) ended whole = ap (λ c. is_known (line ++ c ∷ rest) line) (eqb-true b newline ended)
    ∙ begun_before line rest whole

-- A text that begins with a line is that and the rest.
text_is : (text line rest : List ℕ) → starts_with nat_eq text line ≡ true → rest ≡ drop (length line) text → text ≡ line ++ rest
text_is text line rest begins is =
    sym (take-append-drop (length line) text) ∙ ap (λ l. l ++ drop (length line) text)
    (sym (same_text line (take (length line) text) (sym begins))) ∙ ap (λ l. line ++ l) (sym is)

-- Two tests that hold together hold each.
both_true : (a b : Bool) → (a && b) ≡ true → (a ≡ true) × (b ≡ true)
both_true true b e = (refl, e)
both_true false b e = absurd cc

-- The name that was looked for has no end of a line within.
not_true : (a : Bool) → not a ≡ true → a ≡ false
not_true true e = absurd cc
not_true false e = refl

-- a text that begins with a line has it
pub begun : (text line rest : List ℕ) (begins ended ends_within : Bool)
    → begins ≡ starts_with nat_eq text line → rest ≡ drop (length line) text → ended ≡ is_ended rest → ends_within ≡ list_any ends line
    → ((begins && ended) && not ends_within) ≡ true → is_known text line ≡ true
begun text line rest begins ended ends_within begins_is rest_is ended_is within all =
    let outer = both_true (begins && ended) (not ends_within) all in
    let inner = both_true begins ended outer.0 in
    ap (λ t. is_known t line) (text_is text line rest (sym begins_is ∙ inner.0) rest_is)
    ∙ begun_ended line rest (sym ended_is ∙ inner.1) (sym within ∙ not_true ends_within outer.1)

-- The pattern `[byte, rest @ ..]` leaves all bytes but the first.
all_left : (b : ℕ) (rest : List ℕ) → take (length (b ∷ rest) - 1) rest ≡ rest
all_left b rest = take_all (length (b ∷ rest) - 1) rest (omega arith)

-- For `stands_at` (src/known.rt), where the line is not the first: the end of another precedes it.
pub further : (n : ℕ) (text left line : List ℕ) (begins : Bool) → left ≡ drop n text → 1 ≤ length left
    → (begins ≡ true → is_known (take (length left - 1) (drop 1 left)) line ≡ true)
    → get_or left 0 0 ≡ newline → begins ≡ true → is_known text line ≡ true
further n text [] line begins left_is some known ends all = absurd (omega (arith, some))
further n text (b ∷ rest) line begins left_is some known ends all =
    after_end n text rest line (sym left_is ∙ ap (λ c. c ∷ rest) ends) (ap (λ l. is_known l line) (sym (all_left b rest)) ∙ known all)
