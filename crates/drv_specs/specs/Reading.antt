use Rattle.drv_specs.specs.Blanks.{is_blank}
use Rattle.drv_specs.specs.Directives.{Directive, by_colon, by_keyword, is_colon}
use Rattle.drv_specs.specs.Lines.{is_empty_line, is_kept, lines_of, without_front, words_of}
use Rattle.drv_words.specs.Bytes.{backslash, newline, number_sign, percent}
use Rattle.std.specs.List.{list_all, position}
use Rattle.std.specs.Prelude.{◌≡◌, ◌+◌, ◌==◌, Bool, List, [], ◌∷◌, ◌++◌, false, filter, length, not, true, ℕ}

-- How a spec file's text is read, by cases (GCC manual, "Spec Files"; this project's profile). It gives the directives that
-- `directives_of` works out byte by byte and line by line.

-- no newline of a text follows a backslash
abbrev pub IsJoined : List ℕ → Type 0
IsJoined text = (front back : List ℕ) → text ≡ front ++ backslash ∷ newline ∷ back → ⊥

-- what is left of a text without each backslash that a newline follows, and without that newline
pub data Joins : List ℕ → List ℕ → Type 0 where
  is_joined : {text : List ℕ} → IsJoined text → Joins text text
  pair_goes : (front back : List ℕ) {left : List ℕ} → Joins (front ++ back) left → Joins (front ++ backslash ∷ newline ∷ back) left

-- a line with a byte that is no blank
abbrev pub is_full_line : List ℕ → Bool
is_full_line line = not (is_empty_line line)

-- a body ends at the end of the lines, and before an empty line
pub data EndsBody : List (List ℕ) → Type 0 where
  at_end : EndsBody []
  at_empty : {line : List ℕ} {lines : List (List ℕ)} → is_empty_line line ≡ true → EndsBody (line ∷ lines)

-- Lines, of which the first has this number, and their directives. An empty line and a comment are none, and a line that begins with a
-- percent sign is one. Any other begins one whose body is the full lines after it.
pub data Reads : ℕ → List (List ℕ) → List Directive → Type 0 where
  no_lines : {n : ℕ} → Reads n [] []
  empty : {n : ℕ} {line : List ℕ} {lines : List (List ℕ)} {directives : List Directive}
      → is_empty_line line ≡ true → Reads (n + 1) lines directives → Reads n (line ∷ lines) directives
  comment : {n : ℕ} {line text : List ℕ} {lines : List (List ℕ)} {directives : List Directive}
      → without_front is_blank line ≡ number_sign ∷ text → Reads (n + 1) lines directives → Reads n (line ∷ lines) directives
  keyword : {n : ℕ} {line text : List ℕ} {lines : List (List ℕ)} {directives : List Directive}
      → without_front is_blank line ≡ percent ∷ text → Reads (n + 1) lines directives
      → Reads n (line ∷ lines) (by_keyword n (percent ∷ text) (words_of (percent ∷ text)) ∷ directives)
  entry : {n b : ℕ} {line text : List ℕ} (body : List (List ℕ)) {lines : List (List ℕ)} {directives : List Directive}
      → without_front is_blank line ≡ b ∷ text → (b == number_sign) ≡ false → (b == percent) ≡ false
      → list_all is_full_line body ≡ true → EndsBody lines → Reads (n + 1 + length body) lines directives
      → Reads n (line ∷ body ++ lines) (by_colon n (b ∷ text) body (position is_colon (b ∷ text)) ∷ directives)

-- a file's text and its directives: carriage returns go first, then pairs of a backslash and a newline; the first line has number 1
pub record IsRead (text : List ℕ) (directives : List Directive) : Type 0 where
  pub settled : List ℕ
  pub joins : Joins (filter is_kept text) settled
  pub reads : Reads 1 (lines_of settled) directives
