use Rattle.bstr.specs.Bytes.{is_in}
use Rattle.bstr.specs.Find.{IsFirstByte, is_byte}
use Rattle.drv_specs.proofs.Bodies.{joined_lines}
use Rattle.drv_specs.proofs.Booleans.{and_first, and_second, not_true}
use Rattle.drv_specs.proofs.Found.{clean_all, clean_front, fails_of, found_below, found_passes, line_alone, line_clean}
use Rattle.drv_specs.proofs.Found.{line_found}
use Rattle.drv_specs.proofs.Lining.{inside_next, one_piece, pieces_then}
use Rattle.drv_specs.specs.Blanks.{has_byte, is_blank}
use Rattle.drv_specs.specs.Directives.{Alone, Directive, Passed, Start, WithBody, body_lines, by_colon, by_keyword, directive_in}
use Rattle.drv_specs.specs.Directives.{first_line, is_colon, opens_body, read_lines, start_of}
use Rattle.drv_specs.specs.Lines.{ends_line, is_empty_line, lines_of, pieces_from, without_front, words_of}
use Rattle.drv_specs.specs.Code.Slices.{Ends, bytes_from, is_keyword, is_passed, lines_from}
use Rattle.drv_words.specs.Bytes.{newline, space, tab}
use Rattle.std.proofs.Common.{◌≡◌, ◌<◌, ◌≤◌, ◌+◌, ◌-◌, ◌∙◌, ◌==◌, ◌&&◌, ◌||◌, Bool, List, [], ◌∷◌, ◌++◌, ap, append_assoc, arith, cond}
use Rattle.std.proofs.Common.{drop, false, filter, flat_map, if◌then◌else◌, length, length-append, nat_lt, not, refl, suc, sym, take, true}
use Rattle.std.proofs.Common.{zero, ℕ}
use Rattle.std.proofs.Math.Seq.{drop-append_seam, take-add}
use Rattle.std.proofs.lemmas.List.{append-nil, drop-drop, drop_more, take-append-drop, take_at}
use Rattle.std.proofs.lemmas.List.Folds.{list_all-append}
use Rattle.std.proofs.lemmas.Bool.Decides.{nat_tests}
use Rattle.std.proofs.lemmas.List.Sums.{position_or_len_is}
use Rattle.std.specs.List.{join_with_byte, list_all, position, position_or_len}
use Rattle.std.specs.Prelude.{None, Option, Some, get_or, slice_index}

-- For the reading of a file (reading.rt, lines.rt): the code reads a directive from slices of the settled text as the definition reads it
-- from the list of its lines. `lines_from` and `bytes_from` are what follows a line, if its newline is there; `Ends text back` says that
-- `back` is the end of the text.
-- Names: `text` is a text. `line` is a line. `lines` is the lines that follow. `n` is the number of the line. `rest` is the text that
-- follows. `front` is the text before. `found` is what a search finds. `at` is the place that was found. `goes` says whether the line is in
-- a body. `following` is the text after the line, if its newline is there. `value` is what follows the colon. `start` is the line without
-- the blanks at its front. `bytes` is the same with its newline. `all` is all lines. `is_blank` says that a byte is a space or a tab.
-- `without_front test text` is a text from the first byte on that fails the test. `read_lines in_body n lines` is the directives of lines.
-- `body_lines` is the lines of a body, up to an empty line. `is_empty_line` says that a line has blanks alone. `pieces_from` is the pieces
-- of a text between the bytes that pass a test. `directive_in` is the directive that a line begins, if it does.

-- the lines of a line and what follows it are that line and those of what follows
pub lines_cut : (line : List ℕ) (following : Option (List ℕ)) → list_all (λ b. not (ends_line b)) line ≡ true
    → lines_of (line ++ bytes_from following) ≡ line ∷ lines_from following
lines_cut line None is = ap lines_of (append-nil line) ∙ one_piece line [] is
lines_cut line (Some text) is = pieces_then line [] text ∙ ap (λ ls. ls ++ lines_of text) (one_piece line [] is)

-- a text that begins with this line has it as its first line
lines_are : (text line : List ℕ) (following : Option (List ℕ)) → text ≡ line ++ bytes_from following
    → list_all (λ b. not (ends_line b)) line ≡ true → lines_of text ≡ line ∷ lines_from following
lines_are text line following whole is = ap lines_of whole ∙ lines_cut line following is

-- the line up to the first newline is the first line of a text
pub line_first : (text : List ℕ) (found : Option ℕ) (at : ℕ) → IsFirstByte (is_byte newline) text found → found ≡ Some at
    → lines_of text ≡ take at text ∷ lines_of (drop (at + 1) text)
line_first text found at h is =
    lines_are text (take at text) (Some (drop (at + 1) text)) (line_found text found at h is) (line_clean text found at h is)

-- a text without a newline is one line
pub line_only : (text : List ℕ) (found : Option ℕ) → IsFirstByte (is_byte newline) text found → found ≡ None → lines_of text ≡ text ∷ []
line_only text found h is = one_piece text [] (line_alone text found h is)

-- at an empty line a body ends
pub body_over : (line : List ℕ) (lines : List (List ℕ)) → is_empty_line line ≡ true → body_lines (line ∷ lines) ≡ []
body_over line lines is = rw is refl

-- an empty line is read alike within a body and outside
pub outside_now : (line : List ℕ) (lines : List (List ℕ)) → is_empty_line line ≡ true → (n : ℕ)
    → read_lines true n (line ∷ lines) ≡ read_lines false n (line ∷ lines)
outside_now line lines is n = rw is refl

-- one line more of a body: `whole` are the bytes that begin with it, with a newline before each line
pub body_size : (whole bytes line : List ℕ) (size : ℕ) (lines all : List (List ℕ)) → drop size whole ≡ newline ∷ line ++ bytes
    → is_empty_line line ≡ false
    → take size whole ++ flat_map (λ l. newline ∷ l) (body_lines (line ∷ lines)) ≡ flat_map (λ l. newline ∷ l) (body_lines all)
    → take (size + (1 + length line)) whole ++ flat_map (λ l. newline ∷ l) (body_lines lines) ≡ flat_map (λ l. newline ∷ l) (body_lines all)
body_size whole bytes line size lines all rest full so_far =
    ap (λ t. t ++ flat_map (λ l. newline ∷ l) (body_lines lines))
    (take-add size (1 + length line) whole ∙ ap (λ t. take size whole ++ take (1 + length line) t) rest
    ∙ ap (λ t. take size whole ++ t) (take_at (newline ∷ line) bytes (1 + length line) (omega arith)))
    ∙ append_assoc (take size whole) (newline ∷ line) (flat_map (λ l. newline ∷ l) (body_lines lines))
    ∙ sym (ap (λ e. take size whole ++ flat_map (λ l. newline ∷ l) (if e then [] else line ∷ body_lines lines)) full)
    ∙ so_far

-- what follows one more line of a body
pub body_rest : (whole bytes line : List ℕ) (size : ℕ) → drop size whole ≡ newline ∷ line ++ bytes
    → drop (size + (1 + length line)) whole ≡ bytes
body_rest whole bytes line size rest =
    sym (drop-drop (1 + length line) size whole) ∙ ap (drop (1 + length line)) rest
    ∙ ap (λ n. drop n (newline ∷ line ++ bytes)) (sym (size_is line)) ∙ drop-append_seam (newline ∷ line) bytes
  where
    -- Plan: `size_is` says that the newline counts one byte.
    size_is : (l : List ℕ) → length (newline ∷ l) ≡ 1 + length l
    size_is l = omega arith

-- a body whose lines were found is those lines, with newlines between them
pub body_is : (front text : List ℕ) (lines left : List (List ℕ)) → front ≡ flat_map (λ l. newline ∷ l) (body_lines lines)
    → text ≡ drop 1 front → text ≡ join_with_byte newline (body_lines lines)
body_is front text lines left is cut = cut ∙ ap (drop 1) is ∙ joined_lines (body_lines lines)

-- a line of blanks is nothing without them
blanks : (l : List ℕ) → is_empty_line l ≡ true → without_front is_blank l ≡ []
blanks [] is = refl
blanks (b ∷ l) is = rw (and_first (is_blank b) _ is) (blanks l (and_second (is_blank b) _ is))

-- the directives of lines are the one that the first begins, and those of the others
pub line_begins : (n : ℕ) (line : List ℕ) (lines : List (List ℕ))
    → read_lines false n (line ∷ lines) ≡ directive_in (start_of n (without_front is_blank line) lines)
    ++ read_lines (opens_body (start_of n (without_front is_blank line) lines)) (n + 1) lines
line_begins n line lines = by (is_empty_line line) refl
  where
    -- Plan: `by` goes by both answers of `is_empty_line line`.
    by : (e : Bool) → is_empty_line line ≡ e
        → read_lines false n (line ∷ lines) ≡ directive_in (start_of n (without_front is_blank line) lines)
        ++ read_lines (opens_body (start_of n (without_front is_blank line) lines)) (n + 1) lines
    by true is = rw is (rw (blanks line is) refl)
    by false is = rw is refl

-- a text is the bytes at its front that pass, and what is left without them
front_of : (test : ℕ → Bool) (text : List ℕ) → (front : List ℕ) × (text ≡ front ++ without_front test text)
front_of test [] = ([], refl)
front_of test (b ∷ text) = by (test b) refl (front_of test text)
  where
    -- Plan: `by` goes by both answers of `test b`.
    by : (goes : Bool) → test b ≡ goes → (front : List ℕ) × (text ≡ front ++ without_front test text)
        → (front : List ℕ) × (b ∷ text ≡ front ++ (if goes then without_front test text else b ∷ text))
    by true is h = (b ∷ h.0, ap (λ t. b ∷ t) h.1)
    by false is h = ([], refl)

-- a text without the blanks at its front is an end of it
pub blanks_before : (text rest : List ℕ) → rest ≡ without_front is_blank text → Ends text rest
blanks_before text rest is = let f = front_of is_blank text in (f.0, f.1 ∙ ap (λ t. f.0 ++ t) (sym is))

-- an end of an end of a text is an end of the text
pub ends_then : (a b c : List ℕ) → Ends a b → Ends b c → Ends a c
ends_then a b c h k = (h.0 ++ k.0, h.1 ∙ ap (λ t. h.0 ++ t) k.1 ∙ sym (append_assoc h.0 k.0 c))

-- what is left of a text after some bytes is an end of it
pub ends_drop : (text : List ℕ) (n : ℕ) → Ends text (drop n text)
ends_drop text n = (take n text, sym (take-append-drop n text))

-- an end is not longer than the text
pub ends_size : (text rest : List ℕ) → Ends text rest → length rest ≤ length text
ends_size text rest h = let all : length text ≡ length h.0 + length rest = ap length h.1 ∙ length-append h.0 rest in omega (arith, all)

-- what is left of a text from within its first line on
pub tail_is : (text line rest bytes : List ℕ) → text ≡ line ++ bytes → Ends line rest
    → drop (length line - length rest) text ≡ rest ++ bytes
tail_is text line rest bytes whole h =
    let all : length line ≡ length h.0 + length rest = ap length h.1 ∙ length-append h.0 rest in
    let size : length line - length rest ≡ length h.0 = omega (arith, all) in
    ap (λ n. drop n text) size ∙ ap (drop (length h.0)) (whole ∙ ap (λ l. l ++ bytes) h.1 ∙ append_assoc h.0 rest bytes)
    ∙ drop-append_seam h.0 (rest ++ bytes)

-- the end of a line has no newline
clean_end : (line rest : List ℕ) → list_all (λ b. not (ends_line b)) line ≡ true → Ends line rest
    → list_all (λ b. not (ends_line b)) rest ≡ true
clean_end line rest is h = and_second (list_all (λ b. not (ends_line b)) h.0) _
    (sym (list_all-append (λ b. not (ends_line b)) h.0 rest) ∙ ap (list_all (λ b. not (ends_line b))) (sym h.1) ∙ is)

-- the lines of a text from within its first line on
pub tail_lines : (tail line rest : List ℕ) (following : Option (List ℕ)) → tail ≡ rest ++ bytes_from following
    → list_all (λ b. not (ends_line b)) line ≡ true → Ends line rest
    → lines_of tail ≡ rest ∷ lines_from following
tail_lines tail line rest following is clean h = lines_are tail rest following is (clean_end line rest clean h)

-- what is left without the blanks at the front is no empty line, if it has a byte
full_front : (text : List ℕ) → has_byte (without_front is_blank text) ≡ true → is_empty_line (without_front is_blank text) ≡ false
full_front [] is = absurd cc
full_front (b ∷ text) is = by (is_blank b) refl (full_front text) is
  where
    -- Plan: `by` goes by both answers of `is_blank b`.
    by : (goes : Bool) → is_blank b ≡ goes → (has_byte (without_front is_blank text) ≡ true
        → is_empty_line (without_front is_blank text) ≡ false)
        → has_byte (if goes then without_front is_blank text else b ∷ text) ≡ true
        → is_empty_line (if goes then without_front is_blank text else b ∷ text) ≡ false
    by true goes on is' = on is'
    by false goes on is' = ap (λ t. t && is_empty_line text) goes

-- what follows the blanks of a colon's line, if it has a byte, is no empty line
pub full_rest : (value rest : List ℕ) → rest ≡ without_front is_blank value → has_byte rest ≡ true → is_empty_line rest ≡ false
full_rest value rest is some = ap is_empty_line is ∙ full_front value (ap has_byte (sym is) ∙ some)

-- where the colon's line has nothing after it, the body begins with the next line
pub first_none : (value rest : List ℕ) (lines : List (List ℕ)) → rest ≡ without_front is_blank value → has_byte rest ≡ false
    → body_lines lines ≡ first_line value ++ body_lines lines
first_none value rest lines is none = sym (ap (λ t. (if t then without_front is_blank value ∷ [] else []) ++ body_lines lines)
    (ap has_byte (sym is) ∙ none))

-- where something follows the colon on its line, that is the first line of the body
pub first_some : (value rest : List ℕ) (lines all : List (List ℕ)) → rest ≡ without_front is_blank value → has_byte rest ≡ true
    → all ≡ rest ∷ lines → body_lines all ≡ first_line value ++ body_lines lines
first_some value rest lines all is some alls =
    ap body_lines alls ∙ ap (λ e. if e then [] else rest ∷ body_lines lines) (full_rest value rest is some)
    ∙ sym (ap (λ t. (if t then without_front is_blank value ∷ [] else []) ++ body_lines lines) (ap has_byte (sym is) ∙ some)
    ∙ ap (λ r. r ∷ body_lines lines) (sym is))

-- what follows the colon is read as a line of the body
pub inside_some : (value rest : List ℕ) (lines all : List (List ℕ)) (n : ℕ) → rest ≡ without_front is_blank value → has_byte rest ≡ true
    → all ≡ rest ∷ lines → 0 < n
    → read_lines true (n - 1) all ≡ read_lines true n lines
inside_some value rest lines all n is some alls above =
    let next : n - 1 + 1 ≡ n = omega (arith, above) in
    ap (read_lines true (n - 1)) alls ∙ inside_next rest lines (n - 1) (full_rest value rest is some)
    ∙ ap (λ m. read_lines true m lines) next

-- what is left after some bytes is an end
pub ends_at : (text rest : List ℕ) (n : ℕ) → rest ≡ drop n text → Ends text rest
ends_at text rest n is = (take n text, sym (take-append-drop n text) ∙ ap (λ t. take n text ++ t) (sym is))

-- what a line begins, by its first byte: nothing, if it is empty or a comment
start_passed : (n : ℕ) (start : List ℕ) (lines : List (List ℕ)) → is_passed start ≡ true → start_of n start lines ≡ Passed
start_passed n [] lines is = refl
start_passed n (b ∷ start) lines is = rw is refl

-- a line that begins with % is a directive of one line
start_keyword : (n : ℕ) (start : List ℕ) (lines : List (List ℕ)) → is_passed start ≡ false → is_keyword start ≡ true
    → start_of n start lines ≡ Alone (by_keyword n start (words_of start))
start_keyword n [] lines is key = absurd cc
start_keyword n (b ∷ start) lines is key = rw is (rw key refl)

-- any other line begins a directive with a body
start_other : (n : ℕ) (start : List ℕ) (lines : List (List ℕ)) → is_passed start ≡ false → is_keyword start ≡ false
    → start_of n start lines ≡ WithBody (by_colon n start lines (position is_colon start))
start_other n [] lines is key = absurd cc
start_other n (b ∷ start) lines is key = rw is (rw key refl)

-- the first line of a text, and what is left of it without the blanks at its front (`start`)
module _ (n : ℕ) (text line start : List ℕ) (following : Option (List ℕ)) (whole : text ≡ line ++ bytes_from following)
    (clean : list_all (λ b. not (ends_line b)) line ≡ true)
    (is : start ≡ without_front is_blank line) where
  -- a text by what its first line begins
  by_start : (s : Start) → start_of n start (lines_from following) ≡ s
      → read_lines false n (lines_of text) ≡ directive_in s ++ read_lines (opens_body s) (n + 1) (lines_from following)
  by_start s starts =
      ap (read_lines false n) (lines_are text line following whole clean) ∙ line_begins n line (lines_from following)
      ∙ ap (λ s'. directive_in s' ++ read_lines (opens_body s') (n + 1) (lines_from following))
      (ap (λ l. start_of n l (lines_from following)) (sym is) ∙ starts)

  -- a line that is empty or a comment begins nothing: the directives are those of what follows
  pub begins_none : is_passed start ≡ true → read_lines false n (lines_of text) ≡ read_lines false (n + 1) (lines_from following)
  begins_none passed = by_start Passed (start_passed n start (lines_from following) passed)

  -- a line that begins with % is a directive of one line
  pub begins_keyword : (directive : Directive) → is_passed start ≡ false → is_keyword start ≡ true
      → directive ≡ by_keyword n start (words_of start)
      → read_lines false n (lines_of text) ≡ directive ∷ read_lines false (n + 1) (lines_from following)
  begins_keyword directive passed key same =
      by_start (Alone (by_keyword n start (words_of start))) (start_keyword n start (lines_from following) passed key)
      ∙ ap (λ d. d ∷ read_lines false (n + 1) (lines_from following)) (sym same)

  -- any other line begins a directive with a body
  pub begins_body : (directives left : List Directive) → is_passed start ≡ false → is_keyword start ≡ false
      → directives ≡ by_colon n start (lines_from following) (position is_colon start) ∷ []
      → read_lines true (n + 1) (lines_from following) ≡ left
      → read_lines false n (lines_of text) ≡ directives ++ left
  begins_body directives left passed key same rest =
      by_start (WithBody (by_colon n start (lines_from following) (position is_colon start)))
      (start_other n start (lines_from following) passed key)
      ∙ ap (λ l. by_colon n start (lines_from following) (position is_colon start) ∷ l) rest ∙ ap (λ ds. ds ++ left) (sym same)

-- no number is less than itself
same_not : (n : ℕ) → nat_lt n n ≡ false
same_not n = grind (arith, nat_tests)

-- a smaller number passes the test for less
below_is : (k n : ℕ) → k < n → nat_lt k n ≡ true
below_is k n below = grind (arith, nat_tests, below)

-- the code's search finds the place of the first byte that passes
pub place_found : (test : ℕ → Bool) (text : List ℕ) (found : Option ℕ) → IsFirstByte test text found → position test text ≡ found
place_found test text None h =
    let all : position_or_len test text ≡ length text = position_or_len_is test text (length text) 0 (omega arith)
    (λ k low. fails_of (test (get_or text k 0)) (h k (omega arith) low)) (λ l. absurd (omega (arith, l))) in
    ap (λ n. cond (nat_lt n (length text)) (Some n) None) all ∙ ap (λ t. cond t (Some (length text)) None) (same_not (length text))
place_found test text (Some at) h =
    let place : position_or_len test text ≡ at = position_or_len_is test text at 0 (omega (arith, h.0.high))
    (λ k low. fails_of (test (get_or text k 0)) (h.0.before k (omega arith) low)) (λ l. h.1) in
    ap (λ n. cond (nat_lt n (length text)) (Some n) None) place ∙ ap (λ t. cond t (Some at) None) (below_is at (length text) h.0.high)

-- the blanks that the code's search for the end of a word looks for
abbrev pub blanks_of : List ℕ
blanks_of = space ∷ tab ∷ []

-- the code's blanks are those of the definition
blank_in : (b : ℕ) → is_in blanks_of b ≡ is_blank b
unfolding is_in
blank_in b = by (b == space) (b == tab)
  where
    -- Plan: `by` goes by the cases of `b == space` and `b == tab`.
    by : (s t : Bool) → (s || (t || false)) ≡ (s || t)
    by true t = refl
    by false true = refl
    by false false = refl

-- blanks at the front make no word
words_front : (text : List ℕ) → words_of text ≡ words_of (without_front is_blank text)
words_front [] = refl
words_front (b ∷ text) = by (is_blank b) refl (words_front text)
  where
    -- Plan: `by` goes by both answers of `is_blank b`.
    by : (goes : Bool) → is_blank b ≡ goes → words_of text ≡ words_of (without_front is_blank text)
        → words_of (b ∷ text) ≡ words_of (without_front is_blank (b ∷ text))
    by true is on = rw is on
    by false is on = ap words_of (sym (ap (λ t. if t then without_front is_blank text else b ∷ text) is))

-- the words of a line: a line of blanks has none
pub words_none : (text front : List ℕ) → front ≡ without_front is_blank text → has_byte front ≡ false → words_of text ≡ []
words_none text front is none = words_front text ∙ ap words_of (sym is) ∙ by front none
  where
    -- Plan: `by` says that a text without a byte that is no blank has no words.
    by : (f : List ℕ) → has_byte f ≡ false → words_of f ≡ []
    by [] h = refl
    by (b ∷ f) h = absurd cc

-- a run without a blank is part of one word
run_pieces : (run rest front : List ℕ) → list_all (λ b. not (is_in blanks_of b)) run ≡ true
    → pieces_from is_blank front (run ++ rest) ≡ pieces_from is_blank (front ++ run) rest
run_pieces [] rest front is = ap (λ f. pieces_from is_blank f rest) (sym (append-nil front))
run_pieces (b ∷ run) rest front is =
    let stays : is_blank b ≡ false = sym (blank_in b) ∙ not_true (is_in blanks_of b) (and_first (not (is_in blanks_of b)) _ is) in
    ap (λ cuts. if cuts then front ∷ pieces_from is_blank [] (run ++ rest) else pieces_from is_blank (front ++ b ∷ []) (run ++ rest)) stays
    ∙ run_pieces run rest (front ++ b ∷ []) (and_second (not (is_in blanks_of b)) _ is)
    ∙ ap (λ f. pieces_from is_blank f rest) (append_assoc front (b ∷ []) run)

-- a blank after some bytes ends a word
blank_at : (text : List ℕ) (at : ℕ) → is_in blanks_of (slice_index text at) ≡ true → at < length text
    → filter has_byte (pieces_from is_blank (take at text) (drop at text)) ≡ filter has_byte (take at text ∷ []) ++ words_of (drop at text)
blank_at text at passes below = ap (λ d. filter has_byte (pieces_from is_blank (take at text) d)) cut
    ∙ by (is_blank (slice_index text at)) (sym (blank_in (slice_index text at)) ∙ passes)
    ∙ ap (λ d. filter has_byte (take at text ∷ []) ++ words_of d) (sym cut)
  where
    -- Plan: the text from there on begins with the blank (`cut`), so the word ends.
    cut : drop at text ≡ slice_index text at ∷ drop (at + 1) text
    cut = drop_more text at 0 below

    by : (goes : Bool) → is_blank (slice_index text at) ≡ true
        → filter has_byte (pieces_from is_blank (take at text) (slice_index text at ∷ drop (at + 1) text))
        ≡ filter has_byte (take at text ∷ []) ++ words_of (slice_index text at ∷ drop (at + 1) text)
    by goes is = rw is (first (has_byte (take at text)))
      where
        -- Plan: `first` goes by both answers of `has_byte (take at text)`.
        first : (some : Bool) → (if some then take at text ∷ words_of (drop (at + 1) text) else words_of (drop (at + 1) text))
            ≡ (if some then take at text ∷ [] else []) ++ words_of (drop (at + 1) text)
        first true = refl
        first false = refl

-- what is left without blanks begins with a byte that is none
front_head : (text : List ℕ) → has_byte (without_front is_blank text) ≡ true
    → is_blank (slice_index (without_front is_blank text) 0) ≡ false
front_head [] some = absurd cc
front_head (b ∷ text) some = by (is_blank b) refl (front_head text) some
  where
    -- Plan: `by` goes by both answers of `is_blank b`.
    by : (goes : Bool) → is_blank b ≡ goes → (has_byte (without_front is_blank text) ≡ true
        → is_blank (slice_index (without_front is_blank text) 0) ≡ false)
        → has_byte (if goes then without_front is_blank text else b ∷ text) ≡ true
        → is_blank (slice_index (if goes then without_front is_blank text else b ∷ text) 0) ≡ false
    by true is on some' = on some'
    by false is on some' = is

-- a word at the front has a byte that is no blank
word_some : (front : List ℕ) (at : ℕ) → has_byte front ≡ true → is_blank (slice_index front 0) ≡ false
    → is_in blanks_of (slice_index front at) ≡ true → has_byte (take at front) ≡ true
word_some [] at some head passes = absurd cc
word_some (b ∷ front) zero some head passes = let impossible : true ≡ false = sym passes ∙ blank_in b ∙ head in absurd cc
word_some (b ∷ front) (suc at) some head passes = refl

-- a word ends at the first blank after it, and the others follow
pub words_some : (text front : List ℕ) (found : Option ℕ) (at : ℕ) → front ≡ without_front is_blank text → has_byte front ≡ true
    → IsFirstByte (is_in blanks_of) front found → found ≡ Some at
    → words_of text ≡ take at front ∷ words_of (drop at front)
words_some text front found at is some h place =
    let passes = found_passes (is_in blanks_of) front found at h place in
    let below = found_below (is_in blanks_of) front found at h place in
    let head : is_blank (slice_index front 0) ≡ false = ap (λ f. is_blank (slice_index f 0)) is
    ∙ front_head text (ap has_byte (sym is) ∙ some) in
    words_front text ∙ ap words_of (sym is) ∙ ap words_of (sym (take-append-drop at front))
    ∙ ap (filter has_byte) (run_pieces (take at front) (drop at front) [] (clean_front (is_in blanks_of) front found at h place))
    ∙ blank_at front at passes below
    ∙ ap (λ t. (if t then take at front ∷ [] else []) ++ words_of (drop at front)) (word_some front at some head passes)

-- a line without a blank after its front has one word
pub words_alone : (text front : List ℕ) (found : Option ℕ) → front ≡ without_front is_blank text → has_byte front ≡ true
    → IsFirstByte (is_in blanks_of) front found → found ≡ None → words_of text ≡ front ∷ []
words_alone text front found is some h place =
    words_front text ∙ ap words_of (sym is) ∙ ap words_of (sym (append-nil front))
    ∙ ap (filter has_byte) (run_pieces front [] [] (clean_all (is_in blanks_of) front found h place))
    ∙ ap (λ t. if t then front ∷ [] else []) some
