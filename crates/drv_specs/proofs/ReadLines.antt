use Rattle.drv_specs.proofs.Booleans.{and_first, and_second, not_true}
use Rattle.drv_specs.proofs.Joining.{joined_joins, joins_gives}
use Rattle.drv_specs.proofs.Sliced.{line_begins}
use Rattle.drv_specs.specs.Blanks.{is_blank}
use Rattle.drv_specs.specs.Directives.{Directive, WithBody, body_lines, by_colon, by_key, by_keyword, directive_in, directives_of}
use Rattle.drv_specs.specs.Directives.{first_line, is_colon, opens_body, read_lines, start_of}
use Rattle.drv_specs.specs.Lines.{is_empty_line, is_kept, lines_of, settle, without_front, words_of}
use Rattle.drv_specs.specs.Reading.{EndsBody, IsRead, Reads, at_empty, at_end, comment, empty, entry, is_full_line, keyword, no_lines}
use Rattle.drv_words.specs.Bytes.{newline, number_sign, percent}
use Rattle.std.proofs.Common.{◌≡◌, ◌↔◌, ◌+◌, ◌∙◌, ◌==◌, ◌&&◌, Bool, List, [], ◌∷◌, ◌++◌, None, Option, Some, ap, arith, drop, eqb-true}
use Rattle.std.proofs.Common.{false, filter, if◌then◌else◌, length, not, refl, subst, sym, take, true, ℕ}
use Rattle.std.specs.List.{join_with_byte, list_all, position}

-- For directives_are_read: the directives of lines are the same by cases (`Reads`, specs/Reading) and line by line (`read_lines`).
-- Names: `line` is a line. `lines` is the lines that follow. `n` is the number of the line. `directives` is the directives of the lines.
-- `read_lines in_body n lines` is the directives of lines. `is_blank` says that a byte is a space or a tab. `is_empty_line` says that a
-- line has blanks alone. `without_front test text` is a text from the first byte on that fails the test. `by_colon` is the directive of a
-- line with a colon. `directive_in` is the directive that a line begins, if it does. `body_lines` is the lines of a body, up to an empty
-- line.

-- the lines of a body, and what follows it
body_is : (body lines : List (List ℕ)) → list_all is_full_line body ≡ true → EndsBody lines → body_lines (body ++ lines) ≡ body_lines body
body_is [] [] full ends = refl
body_is [] (line ∷ lines) full (at_empty is) = rw is refl
body_is (line ∷ body) lines full ends =
    ap (λ rest. if is_empty_line line then [] else line ∷ rest) (body_is body lines (and_second (is_full_line line) _ full) ends)

-- the directive of a line with a colon depends on its body alone
colon_is : (n : ℕ) (line : List ℕ) (body lines : List (List ℕ)) (at : Option ℕ) → body_lines (body ++ lines) ≡ body_lines body
    → by_colon n line (body ++ lines) at ≡ by_colon n line body at
colon_is n line body lines None same = refl
colon_is n line body lines (Some at) same = ap (λ ls. by_key (take at line)
    (join_with_byte newline (first_line (drop (at + 1) line) ++ ls))) same

-- after a body the lines are read outside of it
after_body : (body lines : List (List ℕ)) (n : ℕ) → list_all is_full_line body ≡ true → EndsBody lines
    → read_lines true n (body ++ lines) ≡ read_lines false (n + length body) lines
after_body [] [] n full ends = refl
after_body [] (line ∷ lines) n full (at_empty is) =
    rw is (ap (λ m. read_lines false (m + 1) lines) (let same : n ≡ n + 0 = omega arith in same))
after_body (line ∷ body) lines n full ends =
    let is = not_true (is_empty_line line) (and_first (is_full_line line) _ full) in
    rw is (after_body body lines (n + 1) (and_second (is_full_line line) _ full) ends
    ∙ ap (λ m. read_lines false m lines) (let same : n + 1 + length body ≡ n + length (line ∷ body) = omega arith in same))

-- From the relation to the function.

-- lines that are read by cases give the same line by line
reads_gives : {n : ℕ} {lines : List (List ℕ)} {directives : List Directive} → Reads n lines directives
    → read_lines false n lines ≡ directives
reads_gives no_lines = refl
reads_gives (empty is reads) = rw is (reads_gives reads)
reads_gives (comment {n} {line} {text} {lines} begins reads) =
    line_begins n line lines
    ∙ ap (λ l. directive_in (start_of n l lines) ++ read_lines (opens_body (start_of n l lines)) (n + 1) lines) begins
    ∙ reads_gives reads
reads_gives (keyword {n} {line} {text} {lines} begins reads) =
    line_begins n line lines
    ∙ ap (λ l. directive_in (start_of n l lines) ++ read_lines (opens_body (start_of n l lines)) (n + 1) lines) begins
    ∙ ap (λ ds. by_keyword n (percent ∷ text) (words_of (percent ∷ text)) ∷ ds) (reads_gives reads)
reads_gives (entry {n} {b} {line} {text} body {lines} begins no_comment no_keyword full ends reads) =
    let at : Option ℕ = position is_colon (b ∷ text) in
    let starts : start_of n (b ∷ text) (body ++ lines) ≡ WithBody (by_colon n (b ∷ text) (body ++ lines) at) =
    rw (no_comment, no_keyword) refl in
    line_begins n line (body ++ lines)
    ∙ ap (λ l. directive_in (start_of n l (body ++ lines))
    ++ read_lines (opens_body (start_of n l (body ++ lines))) (n + 1) (body ++ lines)) begins
    ∙ ap (λ s. directive_in s ++ read_lines (opens_body s) (n + 1) (body ++ lines)) starts
    ∙ ap (λ d. d ∷ read_lines true (n + 1) (body ++ lines)) (colon_is n (b ∷ text) body lines at (body_is body lines full ends))
    ∙ ap (λ ds. by_colon n (b ∷ text) body at ∷ ds) (after_body body lines (n + 1) full ends ∙ reads_gives reads)

-- From the function to the relation: all lines are read, and give what the function does then.

-- lines are read by cases, from any number on
abbrev AreRead : List (List ℕ) → Type 0
AreRead lines = (n : ℕ) → (directives : List Directive) × Reads n lines directives

-- Lines in two parts: those of a body, and what follows it. `body` and `rest` are the `parts`. `full` says that no line of the body is
-- empty, `ends` that a body ends there, and `read` that the rest is read.
record Cut (lines : List (List ℕ)) : Type 0 where
  body : List (List ℕ)
  rest : List (List ℕ)
  parts : body ++ rest ≡ lines
  full : list_all is_full_line body ≡ true
  ends : EndsBody rest
  read : AreRead rest

-- a line of blanks is empty
front_none : (line : List ℕ) → without_front is_blank line ≡ [] → is_empty_line line ≡ true
front_none [] none = refl
front_none (b ∷ line) none = by (is_blank b) refl (front_none line)
  where
    -- Plan: `by` goes by both answers of `is_blank b`.
    by : (blank : Bool) → is_blank b ≡ blank → (without_front is_blank line ≡ [] → is_empty_line line ≡ true)
        → is_empty_line (b ∷ line) ≡ true
    by true is later = rw is (later (sym (ap (λ t. if t then without_front is_blank line else b ∷ line) is) ∙ none))
    by false is later = absurd (let apart : b ∷ line ≡ [] = sym (ap (λ t. if t then without_front is_blank line else b ∷ line) is) ∙ none in
        cc)

-- a line that begins with a byte is read by cases, whatever it begins
begun : (n b : ℕ) (line text : List ℕ) (lines : List (List ℕ)) → without_front is_blank line ≡ b ∷ text → AreRead lines → Cut lines
    → (comments keys : Bool) → (b == number_sign) ≡ comments → (b == percent) ≡ keys
    → (directives : List Directive) × Reads n (line ∷ lines) directives
begun n b line text lines begins read cut true keys is key =
    ((read (n + 1)).0, comment (begins ∙ ap (λ c. c ∷ text) (eqb-true b number_sign is)) (read (n + 1)).1)
begun n b line text lines begins read cut false true is key = (
  by_keyword n (percent ∷ text) (words_of (percent ∷ text)) ∷ (read (n + 1)).0,
  keyword (begins ∙ ap (λ c. c ∷ text) (eqb-true b percent key)) (read (n + 1)).1,
)
begun n b line text lines begins read cut false false is key =
    let following = cut.read (n + 1 + length cut.body) in
    let directives : List Directive = by_colon n (b ∷ text) cut.body (position is_colon (b ∷ text)) ∷ following.0 in
    (directives, subst (λ ls. Reads n (line ∷ ls) directives) cut.parts (entry cut.body begins is key cut.full cut.ends following.1))

-- a line that isn't empty is read by cases
full_read : (n : ℕ) (line : List ℕ) (lines : List (List ℕ)) → is_empty_line line ≡ false → AreRead lines → Cut lines
    → (directives : List Directive) × Reads n (line ∷ lines) directives
full_read n line lines is read cut = by (without_front is_blank line) refl
  where
    -- Plan: `by` goes by what is left of the line without its blanks: it isn't empty, and its first byte decides.
    by : (front : List ℕ) → without_front is_blank line ≡ front → (directives : List Directive) × Reads n (line ∷ lines) directives
    by [] none = absurd (let apart : true ≡ false = sym (front_none line none) ∙ is in cc)
    by (b ∷ text) begins = begun n b line text lines begins read cut (b == number_sign) (b == percent) refl refl

-- any lines are read by cases, and split into those of a body and the rest
are_read : (lines : List (List ℕ)) → AreRead lines × Cut lines
are_read [] = (λ n. ([], no_lines), record { body = []; rest = []; parts = refl; full = refl; ends = at_end; read = λ n. ([], no_lines) })
are_read (line ∷ lines) = by (is_empty_line line) refl (are_read lines)
  where
    -- Plan: by whether the line is empty: then a body ends there.
    by : (e : Bool) → is_empty_line line ≡ e → AreRead lines × Cut lines → AreRead (line ∷ lines) × Cut (line ∷ lines)
    by true is following =
        let read : AreRead (line ∷ lines) = λ n. ((following.0 (n + 1)).0, empty is (following.0 (n + 1)).1) in
        (read, record { body = []; rest = line ∷ lines; parts = refl; full = refl; ends = at_empty is; read = read })
    by false is following = (
      λ n. full_read n line lines is following.0 following.1,
      record {
        body = line ∷ following.1.body;
        rest = following.1.rest;
        parts = ap (λ ls. line ∷ ls) following.1.parts;
        full = ap (λ e. not e && list_all is_full_line following.1.body) is ∙ following.1.full;
        ends = following.1.ends;
        read = following.1.read;
      },
    )

-- so the cases give what the code gives, line by line
reads_all : (n : ℕ) (lines : List (List ℕ)) → Reads n lines (read_lines false n lines)
reads_all n lines = let read = (are_read lines).0 n in subst (λ ds. Reads n lines ds) (sym (reads_gives read.1)) read.1

-- a text is read as these directives exactly if the definition gives them
pub is_read_law : (text : List ℕ) (directives : List Directive) → (IsRead text directives ↔ (directives_of text ≡ directives))
is_read_law text directives = (
  λ r. ap (λ t. read_lines false 1 (lines_of t)) (joins_gives r.joins) ∙ reads_gives r.reads,
  λ is. subst (λ ds. IsRead text ds) is (record {
    settled = settle text;
    joins = joined_joins (filter is_kept text);
    reads = reads_all 1 (lines_of (settle text));
  }),
)
