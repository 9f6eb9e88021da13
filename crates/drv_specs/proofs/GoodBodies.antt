use Rattle.drv_specs.proofs.Booleans.{and_first, and_second, not_true}
use Rattle.drv_specs.proofs.Lining.{is_full}
use Rattle.drv_specs.proofs.SettledLines.{Clean, last_back, last_is, settled_clean}
use Rattle.drv_specs.proofs.SettledTexts.{ends_more, is_line_byte}
use Rattle.drv_specs.specs.Blanks.{has_byte, is_blank}
use Rattle.drv_specs.specs.Directives.{Alone, Bad, Directive, Include, Pair, Passed, Rename, Text, WithBody, body_lines, body_of, by_colon}
use Rattle.drv_specs.specs.Directives.{by_key, by_keyword, directive_in, directives_of, first_line, include_directive, is_colon, is_inside}
use Rattle.drv_specs.specs.Directives.{read_lines, rename_directive, start_at, start_of}
use Rattle.drv_specs.specs.Kept.{Each, begins_line, is_body, is_text, sees}
use Rattle.drv_specs.specs.Lines.{is_empty_line, is_kept, lines_of, settle, trim, without_front, words_of}
use Rattle.drv_specs.specs.Sets.{ends_with_backslash}
use Rattle.drv_words.specs.Bytes.{asterisk, greater_than, less_than, newline, number_sign, percent}
use Rattle.drv_specs.specs.declared.directive.IfMissing.TheVariants.{PassOver, Refuse}
use Rattle.drv_specs.specs.declared.directive.IfMissing.{IfMissing}
use Rattle.std.proofs.Common.{◌≡◌, ◌⊎◌, ◌+◌, ◌-◌, ◌∙◌, ◌==◌, ◌&&◌, ◌||◌, Bool, List, [], ◌∷◌, ◌++◌, None, Option, Some, ap, codes, drop}
use Rattle.std.proofs.Common.{false, filter, if◌then◌else◌, inl, inr, length, nat_eq, not, position, refl, suc, sym, take, true, zero, ℕ}
use Rattle.std.specs.Cmp.Lexicographic.{pointwise}
use Rattle.std.specs.List.{ends_with, join_with_byte, list_all}

-- For loading_keeps: each body that a file's directives have is empty, ends with a backslash (and is refused), or has the form of a text
-- (`is_text`). Clean lines are those of a settled text: only the last may end with a backslash.
-- Names: `text` is a text. `b` is one byte. `seen` says whether the line has a byte that is no blank. `back` says whether the byte before
-- is a backslash. `line` is a line. `lines` is the lines that follow. `n` is the number of the line. `rest` is the text that follows. `e`
-- is whether the line ends with a backslash. `ends_with_backslash` says that a text ends with a backslash, and so is refused. `is_blank`
-- says that a byte is a space or a tab. `without_front test text` is a text from the first byte on that fails the test. `body_lines` is the
-- lines of a body, up to an empty line. `is_empty_line` says that a line has blanks alone. `Each P xs` says that P holds of each item.
-- `is_body seen back text` says that the rest of a text has the form of one.

-- a body that is empty, ends with a backslash, or has the form of a text
abbrev pub IsBody : List ℕ → Type 0
IsBody body = (body ≡ []) ⊎ ((ends_with_backslash body ≡ true) ⊎ (is_text body ≡ true))

-- a directive's body is empty, refused or a text, and its key begins a line
abbrev pub IsGood : Directive → Type 0
IsGood (Text name body) = IsBody body
IsGood (Pair key body) = ((key ≡ []) ⊎ (begins_line key ≡ true)) × IsBody body
IsGood (Rename old new) = Unit {0}
IsGood (Include missing name) = Unit {0}
IsGood (Bad n) = Unit {0}

-- what holds of each item of two lists
pub each_append : {X : Type 0} (P : X → Type 0) (xs ys : List X) → Each P xs → Each P ys → Each P (xs ++ ys)
each_append P [] ys each each' = each'
each_append P (x ∷ xs) ys each each' = (each.0, each_append P xs ys each.1 each')

-- Parts of a line.

-- a text without a backslash at its end has none without its first byte
ends_tail : (b : ℕ) (text : List ℕ) → ends_with_backslash (b ∷ text) ≡ false → ends_with_backslash text ≡ false
ends_tail b [] is = refl
ends_tail b (c ∷ text) is = sym (ends_more b c text) ∙ is

-- what is left after some bytes ends with no backslash if the text doesn't
ends_after : (n : ℕ) (text : List ℕ) → ends_with_backslash text ≡ false → ends_with_backslash (drop n text) ≡ false
ends_after zero text is = is
ends_after (suc n) [] is = refl
ends_after (suc n) (b ∷ text) is = ends_after n text (ends_tail b text is)

-- what is left after some bytes has bytes of a line if the text has
bytes_after : (n : ℕ) (text : List ℕ) → list_all is_line_byte text ≡ true → list_all is_line_byte (drop n text) ≡ true
bytes_after zero text is = is
bytes_after (suc n) [] is = refl
bytes_after (suc n) (b ∷ text) is = bytes_after n text (and_second (is_line_byte b) _ is)

-- What follows the blanks of a line. By `ends` it ends in no backslash if the line does not, and by `bytes` it has only bytes of lines if
-- the line has. By `solid` it begins with a byte that is no blank.
record Fronted (text : List ℕ) : Type 0 where
  ends : ends_with_backslash text ≡ false → ends_with_backslash (without_front is_blank text) ≡ false
  bytes : list_all is_line_byte text ≡ true → list_all is_line_byte (without_front is_blank text) ≡ true
  solid : (b : ℕ) (rest : List ℕ) → without_front is_blank text ≡ b ∷ rest → is_blank b ≡ false

-- the first byte of a text, or else this one
abbrev first_or : ℕ → List ℕ → ℕ
first_or d [] = d
first_or d (b ∷ text) = b

-- a line without the blanks at its front is like the line
fronted : (text : List ℕ) → Fronted text
fronted [] = record { ends = λ is. is; bytes = λ is. is; solid = λ b rest is. absurd cc }
fronted (b ∷ text) = by (is_blank b) refl (fronted text)
  where
    -- Plan: by whether the first byte is a blank: it goes, and the rest is like the line.
    by : (blank : Bool) → is_blank b ≡ blank → Fronted text → Fronted (b ∷ text)
    by true blank later = record {
      ends = λ is. ap (λ c. ends_with_backslash (if c then without_front is_blank text else b ∷ text)) blank
          ∙ later.ends (ends_tail b text is);
      bytes = λ is. ap (λ c. list_all is_line_byte (if c then without_front is_blank text else b ∷ text)) blank
          ∙ later.bytes (and_second (is_line_byte b) _ is);
      solid = λ c rest is. later.solid c rest (sym (ap (λ d. if d then without_front is_blank text else b ∷ text) blank) ∙ is);
    }
    by false blank later = record {
      ends = λ is. ap (λ c. ends_with_backslash (if c then without_front is_blank text else b ∷ text)) blank ∙ is;
      bytes = λ is. ap (λ c. list_all is_line_byte (if c then without_front is_blank text else b ∷ text)) blank ∙ is;
      solid = λ c rest is. ap is_blank (sym (ap (first_or b)
          (sym (ap (λ d. if d then without_front is_blank text else b ∷ text) blank) ∙ is))) ∙ blank;
    }

-- Lines put together.

-- full lines of which only the last may end with a backslash
abbrev FullClean : List (List ℕ) → Type 0
FullClean [] = Unit {0}
FullClean (line ∷ lines) = ((list_all is_line_byte line ≡ true) × (is_full line ≡ true))
    × (((lines ≡ []) ⊎ (ends_with_backslash line ≡ false)) × FullClean lines)

-- a line is full by what was seen of it, by this byte, or by a later one
fuller : (seen blank e : Bool) → (seen || not (blank && e)) ≡ true → ((seen || not blank) || not e) ≡ true
fuller true blank e is = refl
fuller false false e is = refl
fuller false true e is = is

-- a line with a byte that is no blank, and no backslash at its end, is full
ends_full : (seen back : Bool) → (seen || false) ≡ true → back ≡ false → (seen && not back) ≡ true
ends_full true back is none = ap not none
ends_full false back is none = absurd cc

-- one byte of a line
line_step : (b : ℕ) (seen back : Bool) (rest : List ℕ) → is_kept b ≡ true → (b == newline) ≡ false
    → is_body seen back (b ∷ rest) ≡ is_body (seen || not (is_blank b)) (ends_with_backslash (b ∷ [])) rest
line_step b seen back rest kept plain =
    ap (λ c. (c && (not (b == newline) || (seen && not back))) && is_body (sees seen b) (ends_with_backslash (b ∷ [])) rest) kept
    ∙ ap (λ c. (not c || (seen && not back)) && is_body (not c && (seen || not (is_blank b))) (ends_with_backslash (b ∷ [])) rest) plain

-- a line, and a line with a newline and a body after it
line_body : (line : List ℕ) (seen back : Bool) → list_all is_line_byte line ≡ true → (seen || is_full line) ≡ true
    → last_back back line ≡ false → is_body seen back line ≡ true
line_body [] seen back bytes full last = ends_full seen back full last
line_body (b ∷ line) seen back bytes full last =
    let byte = and_first (is_line_byte b) _ bytes in
    let plain = not_true _ (and_second (is_kept b) _ byte) in
    line_step b seen back line (and_first (is_kept b) _ byte) plain
    ∙ line_body line (seen || not (is_blank b)) (ends_with_backslash (b ∷ [])) (and_second (is_line_byte b) _ bytes)
    (fuller seen (is_blank b) (is_empty_line line) full) last

-- a full line, a newline and a body are a body
line_then : (line rest : List ℕ) (seen back : Bool) → list_all is_line_byte line ≡ true → (seen || is_full line) ≡ true
    → last_back back line ≡ false → is_body false false rest ≡ true
    → is_body seen back (line ++ newline ∷ rest) ≡ true
line_then [] rest seen back bytes full last later = ap (λ c. c && is_body false false rest) (ends_full seen back full last) ∙ later
line_then (b ∷ line) rest seen back bytes full last later =
    let byte = and_first (is_line_byte b) _ bytes in
    let plain = not_true _ (and_second (is_kept b) _ byte) in
    line_step b seen back (line ++ newline ∷ rest) (and_first (is_kept b) _ byte) plain
    ∙ line_then line rest (seen || not (is_blank b)) (ends_with_backslash (b ∷ [])) (and_second (is_line_byte b) _ bytes)
    (fuller seen (is_blank b) (is_empty_line line) full) last later

-- only the end of a text says whether a backslash ends it
pub ends_far : (line : List ℕ) (c : ℕ) (rest : List ℕ) → ends_with_backslash (line ++ c ∷ rest) ≡ ends_with_backslash (c ∷ rest)
ends_far [] c rest = refl
ends_far (b ∷ []) c rest = ends_more b c rest
ends_far (b ∷ d ∷ line) c rest = ends_more b d (line ++ c ∷ rest) ∙ ends_far (d ∷ line) c rest

-- a newline before a text changes nothing of its end
ends_newline : (text : List ℕ) → ends_with_backslash text ≡ true → ends_with_backslash (newline ∷ text) ≡ true
ends_newline [] is = absurd cc
ends_newline (b ∷ text) is = ends_more newline b text ∙ is

-- full lines of a settled text, with newlines between them, are a body, unless a backslash ends them
lines_good : (line : List ℕ) (lines : List (List ℕ)) → FullClean (line ∷ lines)
    → (ends_with_backslash (join_with_byte newline (line ∷ lines)) ≡ true) ⊎ (is_text (join_with_byte newline (line ∷ lines)) ≡ true)
lines_good line [] clean = by (ends_with_backslash line) refl
  where
    -- Plan: by whether the last line ends with a backslash.
    by : (e : Bool) → ends_with_backslash line ≡ e → (ends_with_backslash line ≡ true) ⊎ (is_text line ≡ true)
    by true e = inl e
    by false e = inr (line_body line false false clean.0.0 clean.0.1 (last_is line ∙ e))
lines_good line (next ∷ lines) clean = by clean.1.0 (lines_good next lines clean.1.1)
  where
    -- Plan: the rest is a body, or ends with a backslash; a line before it changes neither.
    rest : List ℕ
    rest = join_with_byte newline (next ∷ lines)

    by : (((next ∷ lines) ≡ []) ⊎ (ends_with_backslash line ≡ false)) → (ends_with_backslash rest ≡ true) ⊎ (is_text rest ≡ true)
        → (ends_with_backslash (line ++ newline ∷ rest) ≡ true) ⊎ (is_text (line ++ newline ∷ rest) ≡ true)
    by (inl none) later = absurd cc
    by (inr e) (inl last) = inl (ends_far line newline rest ∙ ends_newline rest last)
    by (inr e) (inr body) = inr (line_then line rest false false clean.0.0 clean.0.1 (last_is line ∙ e) body)

-- clean, full lines joined are a body
joined_good : (lines : List (List ℕ)) → FullClean lines → IsBody (join_with_byte newline lines)
joined_good [] clean = inl refl
joined_good (line ∷ lines) clean = inr (lines_good line lines clean)

-- the lines of a body are full
body_clean : (lines : List (List ℕ)) → Clean lines → FullClean (body_lines lines)
body_clean [] clean = tt
body_clean (line ∷ lines) clean = by (is_empty_line line) refl (body_clean lines clean.1.1)
  where
    -- Plan: by whether the line is empty, which ends the body.
    ends : (lines ≡ []) ⊎ (ends_with_backslash line ≡ false) → (body_lines lines ≡ []) ⊎ (ends_with_backslash line ≡ false)
    ends (inl none) = inl (ap body_lines none)
    ends (inr e) = inr e

    by : (e : Bool) → is_empty_line line ≡ e → FullClean (body_lines lines) → FullClean (if e then [] else line ∷ body_lines lines)
    by true e later = tt
    by false e later = ((clean.0, ap not e), (ends clean.1.0, later))

-- what follows the colon, and the lines after it, are full lines of a settled text
first_clean : (rest : List ℕ) (lines : List (List ℕ)) → list_all is_line_byte rest ≡ true
    → (lines ≡ []) ⊎ (ends_with_backslash rest ≡ false) → FullClean (body_lines lines)
    → FullClean (first_line rest ++ body_lines lines)
first_clean rest lines bytes last later = by (without_front is_blank rest) refl
  where
    -- Plan: by what follows the colon: nothing but blanks, or a first line of the body.
    ends : (lines ≡ []) ⊎ (ends_with_backslash rest ≡ false)
        → (body_lines lines ≡ []) ⊎ (ends_with_backslash (without_front is_blank rest) ≡ false)
    ends (inl none) = inl (ap body_lines none)
    ends (inr e) = inr ((fronted rest).ends e)

    by : (text : List ℕ) → without_front is_blank rest ≡ text → FullClean (filter has_byte (text ∷ []) ++ body_lines lines)
    by [] is = later
    by (b ∷ text) is = (
      (
        ap (list_all is_line_byte) (sym is) ∙ (fronted rest).bytes bytes,
        ap (λ c. not (c && list_all is_blank text)) ((fronted rest).solid b text is),
      ),
      (ends_same (ap ends_with_backslash is) (ends last), later),
    )
      where
        -- Plan: `ends_same` puts one answer about a backslash in the place of another that is the same.
        ends_same : {e e' : Bool} → e ≡ e' → (body_lines lines ≡ []) ⊎ (e ≡ false) → (body_lines lines ≡ []) ⊎ (e' ≡ false)
        ends_same same (inl none) = inl none
        ends_same same (inr e) = inr (sym same ∙ e)

-- the body of a line with a colon is good
body_good : (rest : List ℕ) (lines : List (List ℕ)) → list_all is_line_byte rest ≡ true → (lines ≡ []) ⊎ (ends_with_backslash rest ≡ false)
    → Clean lines → IsBody (body_of rest lines)
body_good rest lines bytes last clean = joined_good (first_line rest ++ body_lines lines)
    (first_clean rest lines bytes last (body_clean lines clean))

-- Directives.

-- %rename has no body
renamed_good : (n : ℕ) (words : List (List ℕ)) → IsGood (rename_directive n words)
renamed_good n [] = tt
renamed_good n (old ∷ []) = tt
renamed_good n (old ∷ new ∷ []) = tt
renamed_good n (old ∷ new ∷ word ∷ words) = tt

-- %include has no body
included_good : (n : ℕ) (missing : IfMissing) (text : List ℕ) → IsGood (include_directive n missing text)
included_good n missing [] = tt
included_good n missing (b ∷ text) = by (b == less_than && ends_with nat_eq text (greater_than ∷ []))
  where
    -- Plan: `by` goes by both answers of `b == less_than && ends_with nat_eq text (greater_than ∷ [])`.
    by : (whole : Bool) → IsGood (if whole then Include missing (take (length text - 1) text) else Bad n)
    by true = tt
    by false = tt

-- a directive of one line has no body
keyword_good : (n : ℕ) (line : List ℕ) (words : List (List ℕ)) → IsGood (by_keyword n line words)
keyword_good n line [] = tt
keyword_good n line (word ∷ words) = by (pointwise nat_eq word (codes "%rename")) (pointwise nat_eq word (codes "%include"))
    (pointwise nat_eq word (codes "%include_noerr"))
  where
    -- Plan: by the keyword: %rename, %include, %include_noerr, or none of them.
    by : (rename include noerr : Bool) → IsGood (if rename then rename_directive n words
        else if include then include_directive n Refuse (trim (drop (length word) line))
        else if noerr then include_directive n PassOver (trim (drop (length word) line))
        else Bad n)
    by true include noerr = renamed_good n words
    by false true noerr = included_good n Refuse (trim (drop (length word) line))
    by false false true = included_good n PassOver (trim (drop (length word) line))
    by false false false = tt

-- a line that begins with none of the marks of other forms
key_good : (b : ℕ) (line body : List ℕ) (at : ℕ) → (b == number_sign) ≡ false → (b == percent) ≡ false → IsBody body
    → IsGood (by_key (take at (b ∷ line)) body)
key_good b line body zero mark directive good = (inl refl, good)
key_good b line body (suc at) mark directive good = by (b == asterisk) refl
  where
    -- Plan: by whether the line begins with an asterisk.
    by : (star : Bool) → (b == asterisk) ≡ star → IsGood (if star then Text (take at line) body else Pair (b ∷ take at line) body)
    by true star = good
    by false star = (
      inr (ap (λ c. not c && (not (b == percent) && not (b == asterisk))) mark
          ∙ ap (λ c. not c && not (b == asterisk)) directive ∙ ap not star),
      good,
    )

-- the directive that a line begins is good
line_good : (n b : ℕ) (line : List ℕ) (lines : List (List ℕ)) → list_all is_line_byte (b ∷ line) ≡ true
    → (lines ≡ []) ⊎ (ends_with_backslash (b ∷ line) ≡ false) → Clean lines
    → Each IsGood (directive_in (start_of n (b ∷ line) lines))
line_good n b line lines bytes last clean = by (b == number_sign) refl (b == percent) refl
  where
    -- Plan: by the first byte: a comment, a directive with %, or a line with a colon (`colon`).
    ends : (at : ℕ) → (lines ≡ []) ⊎ (ends_with_backslash (b ∷ line) ≡ false)
        → (lines ≡ []) ⊎ (ends_with_backslash (drop (at + 1) (b ∷ line)) ≡ false)
    ends at (inl none) = inl none
    ends at (inr e) = inr (ends_after (at + 1) (b ∷ line) e)

    colon : (b == number_sign) ≡ false → (b == percent) ≡ false → (place : Option ℕ) → IsGood (by_colon n (b ∷ line) lines place)
    colon mark directive None = tt
    colon mark directive (Some at) =
        key_good b line (body_of (drop (at + 1) (b ∷ line)) lines) at mark directive
        (body_good (drop (at + 1) (b ∷ line)) lines (bytes_after (at + 1) (b ∷ line) bytes) (ends at last) clean)

    by : (mark : Bool) → (b == number_sign) ≡ mark → (directive : Bool) → (b == percent) ≡ directive
        → Each IsGood (directive_in (if mark then Passed else if directive then Alone (by_keyword n (b ∷ line) (words_of (b ∷ line)))
        else WithBody (by_colon n (b ∷ line) lines (position is_colon (b ∷ line)))))
    by true mark directive directive' = tt
    by false mark true directive' = (keyword_good n (b ∷ line) (words_of (b ∷ line)), tt)
    by false mark false directive' = (colon mark directive' (position is_colon (b ∷ line)), tt)

-- at any place, in a body or not
start_good : (n : ℕ) (line : List ℕ) (lines : List (List ℕ)) (empty inside : Bool) → list_all is_line_byte line ≡ true
    → (lines ≡ []) ⊎ (ends_with_backslash line ≡ false) → Clean lines
    → Each IsGood (directive_in (start_at empty inside n line lines))
start_good n line lines true inside bytes last clean = tt
start_good n line lines false true bytes last clean = tt
start_good n line lines false false bytes last clean = by (without_front is_blank line) refl
  where
    -- Plan: the line without the blanks at its front ends as the line does.
    ends : (lines ≡ []) ⊎ (ends_with_backslash line ≡ false) → (lines ≡ []) ⊎ (ends_with_backslash (without_front is_blank line) ≡ false)
    ends (inl none) = inl none
    ends (inr e) = inr ((fronted line).ends e)

    ends_same : {e e' : Bool} → e ≡ e' → (lines ≡ []) ⊎ (e ≡ false) → (lines ≡ []) ⊎ (e' ≡ false)
    ends_same same (inl none) = inl none
    ends_same same (inr e) = inr (sym same ∙ e)

    by : (text : List ℕ) → without_front is_blank line ≡ text → Each IsGood (directive_in (start_of n text lines))
    by [] is = tt
    by (b ∷ text) is = line_good n b text lines (ap (list_all is_line_byte) (sym is) ∙ (fronted line).bytes bytes)
        (ends_same (ap ends_with_backslash is) (ends last)) clean

-- all directives of clean lines are good
read_good : (lines : List (List ℕ)) (inside : Bool) (n : ℕ) → Clean lines → Each IsGood (read_lines inside n lines)
read_good [] inside n clean = tt
read_good (line ∷ lines) inside n clean =
    each_append IsGood (directive_in (start_at (is_empty_line line) inside n line lines))
    (read_lines (is_inside (is_empty_line line) inside (start_at (is_empty_line line) inside n line lines)) (n + 1) lines)
    (start_good n line lines (is_empty_line line) inside clean.0 clean.1.0 clean.1.1)
    (read_good lines (is_inside (is_empty_line line) inside (start_at (is_empty_line line) inside n line lines)) (n + 1) clean.1.1)

-- all directives of a text are good
pub directives_good : (text : List ℕ) → Each IsGood (directives_of text)
directives_good text = read_good (lines_of (settle text)) false 1 (settled_clean text)
