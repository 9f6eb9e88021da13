use Rattle.drv_specs.proofs.Bodies.{joined_lines}
use Rattle.drv_specs.proofs.Booleans.{and_first, and_second, not_true}
use Rattle.drv_specs.specs.Blanks.{is_blank}
use Rattle.drv_specs.specs.Directives.{body_lines, directive_in, is_inside, read_lines, start_at}
use Rattle.drv_specs.specs.Kept.{fits, is_body, sees}
use Rattle.drv_specs.specs.Lines.{ends_line, is_empty_line, is_kept, pieces_from}
use Rattle.drv_specs.specs.Sets.{ends_with_backslash}
use Rattle.drv_words.specs.Bytes.{newline}
use Rattle.std.proofs.Common.{◌≡◌, ◌+◌, ◌∙◌, ◌==◌, ◌&&◌, ◌||◌, Bool, List, [], ◌∷◌, ◌++◌, ap, append_assoc, drop, eqb-true, false, flat_map}
use Rattle.std.proofs.Common.{not, refl, sym, true, ℕ}
use Rattle.std.proofs.lemmas.List.{append-nil}
use Rattle.std.proofs.lemmas.List.Folds.{list_all-append}
use Rattle.std.specs.List.{join_with_byte, list_all}

-- For the dump and the reading of a file: a text and its lines determine each other. A full line is one that isn't empty and has more than
-- blanks.
-- Names: `text` is a text. `lines` is the lines that follow. `front` is the text before. `cuts` says whether the byte ends a line.
-- `pieces_from` is the pieces of a text between the bytes that pass a test. `and_first` and `and_second` give the parts of a true `&&`.
-- `ends_with_backslash` says that a text ends with a backslash, and so is refused. `read_lines in_body n lines` is the directives of lines.
-- `is_empty_line` says that a line has blanks alone. `is_blank` says that a byte is a space or a tab. `is_body seen back text` says that
-- the rest of a text has the form of one.

-- the lines of a text, a newline and more are those of the text and those of the rest
pub pieces_then : (text front rest : List ℕ) → pieces_from ends_line front (text ++ newline ∷ rest) ≡ pieces_from ends_line front text
    ++ pieces_from ends_line [] rest
pieces_then [] front rest = refl
pieces_then (b ∷ text) front rest = by (ends_line b) refl (pieces_then text [] rest) (pieces_then text (front ++ b ∷ []) rest)
  where
    -- Plan: by whether the byte ends a line.
    by : (cuts : Bool) → ends_line b ≡ cuts → pieces_from ends_line [] (text ++ newline ∷ rest) ≡ pieces_from ends_line [] text
        ++ pieces_from ends_line [] rest
        → pieces_from ends_line (front ++ b ∷ []) (text ++ newline ∷ rest) ≡ pieces_from ends_line (front ++ b ∷ []) text
        ++ pieces_from ends_line [] rest
        → pieces_from ends_line front (b ∷ text ++ newline ∷ rest) ≡ pieces_from ends_line front (b ∷ text) ++ pieces_from ends_line [] rest
    by true is cut on = rw is (ap (λ ls. front ∷ ls) cut)
    by false is cut on = rw is on

-- a text without a newline is one line
pub one_piece : (line front : List ℕ) → list_all (λ b. not (ends_line b)) line ≡ true
    → pieces_from ends_line front line ≡ (front ++ line) ∷ []
one_piece [] front is = ap (λ l. l ∷ []) (sym (append-nil front))
one_piece (b ∷ line) front is =
    rw (not_true (ends_line b) (and_first (not (ends_line b)) _ is))
    (one_piece line (front ++ b ∷ []) (and_second (not (ends_line b)) _ is) ∙ ap (λ l. l ∷ []) (append_assoc front (b ∷ []) line))

-- the lines of a text, with a newline before each, are the text with a newline before it
pieces_joined : (text front : List ℕ) → flat_map (λ line. newline ∷ line) (pieces_from ends_line front text) ≡ newline ∷ (front ++ text)
pieces_joined [] front = append-nil (newline ∷ front) ∙ ap (λ l. newline ∷ l) (sym (append-nil front))
pieces_joined (b ∷ text) front = by (ends_line b) refl (pieces_joined text []) (pieces_joined text (front ++ b ∷ []))
  where
    -- Plan: `by` goes by both answers of `ends_line b`.
    by : (cuts : Bool) → ends_line b ≡ cuts → flat_map (λ line. newline ∷ line) (pieces_from ends_line [] text) ≡ newline ∷ text
        → flat_map (λ line. newline ∷ line) (pieces_from ends_line (front ++ b ∷ []) text) ≡ newline ∷ ((front ++ b ∷ []) ++ text)
        → flat_map (λ line. newline ∷ line) (pieces_from ends_line front (b ∷ text)) ≡ newline ∷ (front ++ b ∷ text)
    by true is cut on = rw is (ap (λ l. newline ∷ (front ++ l)) (cut ∙ ap (λ c. c ∷ text) (sym (eqb-true b newline is))))
    by false is cut on = rw is (on ∙ ap (λ l. newline ∷ l) (append_assoc front (b ∷ []) text))

-- a text is its lines with newlines between them
pub lines_join : (text : List ℕ) → join_with_byte newline (pieces_from ends_line [] text) ≡ text
lines_join text = sym (joined_lines (pieces_from ends_line [] text)) ∙ ap (drop 1) (pieces_joined text [])

-- whether a line is neither empty nor of blanks alone
abbrev pub is_full : List ℕ → Bool
is_full line = not (is_empty_line line)

-- whether a line with one more byte is full
full_more : (front : List ℕ) (b : ℕ) (seen : Bool) → seen ≡ is_full front → (b == newline) ≡ false → sees seen b ≡ is_full (front ++ b ∷ [])
full_more front b seen same line =
    rw line (ap (λ s. s || not (is_blank b)) same ∙ by (is_empty_line front) (is_blank b)
    ∙ ap not (sym (list_all-append is_blank front (b ∷ []))))
  where
    -- Plan: `by` goes by the cases of `is_empty_line front` and `is_blank b`.
    by : (e blank : Bool) → (not e || not blank) ≡ not (e && (blank && true))
    by true true = refl
    by true false = refl
    by false blank = refl

-- the lines of a body are full
pub body_full : (text front : List ℕ) (seen back : Bool) → seen ≡ is_full front → is_body seen back text ≡ true
    → list_all is_full (pieces_from ends_line front text) ≡ true
body_full [] front seen back same is = rw (sym same) (rw (and_first seen (not back) is) refl)
body_full (b ∷ text) front seen back same is = by (ends_line b) refl (body_full text [] (sees seen b) (ends_with_backslash (b ∷ [])))
    (body_full text (front ++ b ∷ []) (sees seen b) (ends_with_backslash (b ∷ [])))
  where
    -- Plan: by whether the byte ends a line; the form of the rest holds by `later`.
    later : is_body (sees seen b) (ends_with_backslash (b ∷ [])) text ≡ true
    later = and_second (fits seen back b) _ is

    by : (cuts : Bool) → ends_line b ≡ cuts
        → (sees seen b ≡ is_full [] → is_body (sees seen b) (ends_with_backslash (b ∷ [])) text ≡ true
        → list_all is_full (pieces_from ends_line [] text) ≡ true)
        → (sees seen b ≡ is_full (front ++ b ∷ []) → is_body (sees seen b) (ends_with_backslash (b ∷ [])) text ≡ true
        → list_all is_full (pieces_from ends_line (front ++ b ∷ []) text) ≡ true)
        → list_all is_full (pieces_from ends_line front (b ∷ text)) ≡ true
    by true cuts cut on =
        let line : (not (b == newline) || (seen && not back)) ≡ true = and_second (is_kept b) _ (and_first (fits seen back b) _ is) in
        let seen_is : seen ≡ true = and_first seen (not back) (ap (λ c. not c || (seen && not back)) (sym cuts) ∙ line) in
        rw cuts (rw (sym same ∙ seen_is) (cut (ap (λ c. not c && (seen || not (is_blank b))) cuts) later))
    by false cuts cut on = rw cuts (on (full_more front b seen same cuts) later)

-- full lines before an empty one are the lines of a body
pub body_lines_are : (lines rest : List (List ℕ)) → list_all is_full lines ≡ true → body_lines (lines ++ [] ∷ rest) ≡ lines
body_lines_are [] rest is = refl
body_lines_are (line ∷ lines) rest is =
    rw (not_true (is_empty_line line) (and_first (is_full line) _ is))
    (ap (λ ls. line ∷ ls) (body_lines_are lines rest (and_second (is_full line) _ is)))

-- a full line within a body is passed over
pub inside_next : (line : List ℕ) (lines : List (List ℕ)) (n : ℕ) → is_empty_line line ≡ false
    → read_lines true n (line ∷ lines) ≡ read_lines true (n + 1) lines
inside_next line lines n is = ap (λ e. directive_in (start_at e true n line lines)
    ++ read_lines (is_inside e true (start_at e true n line lines)) (n + 1) lines) is

-- all lines of a body are passed over, up to the empty line after them
pub inside_passed : (lines rest : List (List ℕ)) (n : ℕ) → list_all is_full lines ≡ true
    → (m : ℕ) × (read_lines true n (lines ++ [] ∷ rest) ≡ read_lines false m rest)
inside_passed [] rest n is = (n + 1, refl)
inside_passed (line ∷ lines) rest n is =
    let passed = inside_passed lines rest (n + 1) (and_second (is_full line) _ is) in
    (passed.0, inside_next line (lines ++ [] ∷ rest) n (not_true (is_empty_line line) (and_first (is_full line) _ is)) ∙ passed.1)
