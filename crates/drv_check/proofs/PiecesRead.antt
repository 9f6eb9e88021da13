use Rattle.drv_check.specs.Numbers.{AreRead, IsRead, renumbered}
use Rattle.drv_check.proofs.UntilBad.{is_none, until_bad}
use Rattle.drv_check.specs.Pieces.{alone, alone_at, checked_pieces, first_lacks_colon, goes_on_at, is_cut, kind_of, line_kind, longer, opened}
use Rattle.drv_check.specs.Pieces.{opened_by, piece_of, pieces_from, pieces_of}
use Rattle.drv_check.specs.declared.pieces.LineKind.TheVariants as kind
use Rattle.drv_check.specs.declared.pieces.LineKind.{LineKind}
use Rattle.drv_check.specs.declared.pieces.Piece.{Piece}
use Rattle.drv_specs.proofs.Booleans.{and_first, and_second, not_true}
use Rattle.drv_specs.proofs.Lining.{inside_next, is_full, one_piece, pieces_then}
use Rattle.drv_specs.proofs.SettledLines.{Clean, last_back, last_is, settled_clean}
use Rattle.drv_specs.proofs.SettledTexts.{is_line_byte, is_settled, settled_same}
use Rattle.drv_specs.specs.Blanks.{is_blank}
use Rattle.drv_specs.specs.Directives.{Alone, Bad, Directive, Include, Pair, Passed, Start, Text, WithBody, body_lines, body_of, by_colon}
use Rattle.drv_specs.specs.Directives.{by_key, by_keyword, directive_in, directives_of, first_line, include_directive, is_colon, is_inside}
use Rattle.drv_specs.specs.Directives.{opens_body, read_lines, read_settled, rename_directive, start_at, start_of}
use Rattle.drv_specs.specs.Lines.{ends_line, is_empty_line, is_kept, lines_of, settle, trim, without_front, words_of}
use Rattle.drv_specs.specs.Sets.{ends_with_backslash}
use Rattle.drv_words.specs.Bytes.{asterisk, greater_than, less_than, newline, number_sign, percent}
use Rattle.std.proofs.Common.{◌≡◌, ◌⊎◌, ◌+◌, ◌-◌, ◌∙◌, ◌==◌, ◌&&◌, Bool, List, [], ◌∷◌, ◌++◌, None, Option, Some, ap, append_assoc, codes}
use Rattle.std.proofs.Common.{drop, false, if◌then◌else◌, inl, inr, length, nat_eq, not, refl, subst, sym, take, true, ℕ}
use Rattle.std.proofs.lemmas.List.{append-nil}
use Rattle.std.proofs.lemmas.List.Folds.{list_all-append}
use Rattle.std.specs.Cmp.Lexicographic.{pointwise}
use Rattle.std.specs.List.{ends_with, join_with_byte, list_all, position}
use Rattle.std.specs.Prelude.{is_some}

-- For pieces_are_directives (src/laws.rt): each piece of a settled text, read alone, is one of its directives.
-- Names: `n` and `m` are numbers of a line. `at` is its place in the text, or that of its colon. `line` is a line, and `lines` those after
-- it. `first` is the first line of a piece, and `body` the others. `piece` is a piece that goes on. `text` is the text of a piece, and
-- `rest` what is read after it. `back` says that a backslash precedes. `words` is the words of a line, and `word` one of them. `b` is one
-- byte, and `t`, `e`, `r` and `i` are values of tests, so that `by` can go by both. `is_line_byte` says that a line may have the byte.
-- `is_settled back text` says that no backslash hides a newline. `renumbered n directive` is a directive that is none with another number
-- (specs/Numbers). `by_colon` and `by_keyword` are the directives of a line (drv_specs), and `start_of` says which of them it begins.
-- `recovers` says whether reading recovers from a line that is no directive. `is_cut` says that a line ends the piece above it then.
-- `until_bad` is directives up to the first that is none. `IsRead piece directive`: the piece is that directive, and `AreRead` the same of
-- lists.

-- the number of a line changes a directive that is none, and no other

-- a text or pair has no number: only a line that is no directive has
key_renumbered : (n : ℕ) (key body : List ℕ) → renumbered n (by_key key body) ≡ by_key key body
key_renumbered n [] body = refl
key_renumbered n (b ∷ key) body = by (b == asterisk)
  where
    -- Plan: `by` goes by both answers of `b == asterisk`.
    by : (t : Bool) → renumbered n (if t then Text key body else Pair (b ∷ key) body) ≡ (if t then Text key body else Pair (b ∷ key) body)
    by true = refl
    by false = refl

-- a line with a body by another number is that line with the number
colon_renumbered : (m n : ℕ) (line : List ℕ) (lines : List (List ℕ)) (at : Option ℕ)
    → renumbered m (by_colon n line lines at) ≡ by_colon m line lines at
colon_renumbered m n line lines None = refl
colon_renumbered m n line lines (Some at) = key_renumbered m (take at line) (body_of (drop (at + 1) line) lines)

-- a line %rename by another number is that line with the number
rename_renumbered : (m n : ℕ) (words : List (List ℕ)) → renumbered m (rename_directive n words) ≡ rename_directive m words
rename_renumbered m n [] = refl
rename_renumbered m n (old ∷ []) = refl
rename_renumbered m n (old ∷ new ∷ []) = refl
rename_renumbered m n (old ∷ new ∷ word ∷ words) = refl

-- a line %include by another number is that line with the number
include_renumbered : (m n : ℕ) (missing : _) (text : List ℕ) → renumbered m (include_directive n missing text)
    ≡ include_directive m missing text
include_renumbered m n missing [] = refl
include_renumbered m n missing (b ∷ text) = by (b == less_than && ends_with nat_eq text (greater_than ∷ []))
  where
    -- Plan: `by` goes by both answers of `b == less_than && ends_with nat_eq text (greater_than ∷ [])`.
    by : (t : Bool) → renumbered m (if t then Include missing (take (length text - 1) text) else Bad n)
        ≡ (if t then Include missing (take (length text - 1) text) else Bad m)
    by true = refl
    by false = refl

-- a line of % by another number is that line with the number
keyword_renumbered : (m n : ℕ) (line : List ℕ) (words : List (List ℕ)) → renumbered m (by_keyword n line words) ≡ by_keyword m line words
keyword_renumbered m n line [] = refl
keyword_renumbered m n line (word ∷ words) =
    by (pointwise nat_eq word (codes "%rename")) refl (pointwise nat_eq word (codes "%include")) refl
    (pointwise nat_eq word (codes "%include_noerr")) refl
  where
    -- Plan: `by` goes by both answers of `pointwise nat_eq word (codes "%rename")`.
    by : (r : Bool) → pointwise nat_eq word (codes "%rename") ≡ r → (i : Bool) → pointwise nat_eq word (codes "%include") ≡ i
        → (e : Bool) → pointwise nat_eq word (codes "%include_noerr") ≡ e
        → renumbered m (by_keyword n line (word ∷ words)) ≡ by_keyword m line (word ∷ words)
    by true r i i' e e' = rw r (rename_renumbered m n words)
    by false r true i e e' = rw r (rw i (include_renumbered m n _ (trim (drop (length word) line))))
    by false r false i true e = rw r (rw i (rw e (include_renumbered m n _ (trim (drop (length word) line)))))
    by false r false i false e = rw r (rw i (rw e refl))

-- the lines of a body, once more

-- the lines of a body, up to an empty one, have no empty line: taking them again changes nothing
body_again : (lines : List (List ℕ)) → body_lines (body_lines lines) ≡ body_lines lines
body_again [] = refl
body_again (line ∷ lines) = by (is_empty_line line) refl (body_again lines)
  where
    -- Plan: `by` goes by both answers of `is_empty_line line`.
    by : (e : Bool) → is_empty_line line ≡ e → body_lines (body_lines lines) ≡ body_lines lines
        → body_lines (if e then [] else line ∷ body_lines lines) ≡ (if e then [] else line ∷ body_lines lines)
    by true is again = refl
    by false is again = rw is (ap (λ ls. line ∷ ls) again)

-- what a line with a body begins
abbrev entry_of : ℕ → List ℕ → List (List ℕ) → Directive
entry_of n line lines = by_colon n line lines (position is_colon line)

-- it is the same with the lines of its body alone
entry_again : (n : ℕ) (line : List ℕ) (lines : List (List ℕ)) (at : Option ℕ)
    → by_colon n line (body_lines lines) at ≡ by_colon n line lines at
entry_again n line lines None = refl
entry_again n line lines (Some at) =
    ap (λ ls. by_key (take at line) (join_with_byte newline (first_line (drop (at + 1) line) ++ ls))) (body_again lines)

-- texts and their lines

-- two settled texts, the second read after the first, are settled together; `back` says that a backslash precedes
settled_both : (text rest : List ℕ) (back : Bool) → is_settled back text ≡ true → is_settled (last_back back text) rest ≡ true
    → is_settled back (text ++ rest) ≡ true
settled_both [] rest back is later = later
settled_both (b ∷ text) rest back is later =
    let more = and_second (is_kept b) _ is in
    rw (and_first (is_kept b) _ is) (rw (and_first (not (b == newline && back)) _ more)
    (settled_both text rest (ends_with_backslash (b ∷ [])) (and_second (not (b == newline && back)) _ more) later))

-- a line of a settled text is settled by itself
line_settled : (line : List ℕ) (back : Bool) → list_all is_line_byte line ≡ true → is_settled back line ≡ true
line_settled [] back is = refl
line_settled (b ∷ line) back is =
    let fit = and_first (is_line_byte b) _ is in
    let apart : (b == newline) ≡ false = not_true _ (and_second (is_kept b) _ fit) in
    rw (and_first (is_kept b) _ fit)
    (rw apart (line_settled line (ends_with_backslash (b ∷ [])) (and_second (is_line_byte b) _ is)))

-- a line has no newline in it
line_alone : (line : List ℕ) → list_all is_line_byte line ≡ true → list_all (λ b. not (ends_line b)) line ≡ true
line_alone [] is = refl
line_alone (b ∷ line) is =
    rw (and_second (is_kept b) _ (and_first (is_line_byte b) _ is)) (line_alone line (and_second (is_line_byte b) _ is))

-- whether two texts end with a backslash is what the second says after the first
last_both : (text rest : List ℕ) (back : Bool) → last_back back (text ++ rest) ≡ last_back (last_back back text) rest
last_both [] rest back = refl
last_both (b ∷ text) rest back = last_both text rest (ends_with_backslash (b ∷ []))

-- a piece with one more line is settled, if no backslash hides the newline between
longer_settled : (text line : List ℕ) → is_settled false text ≡ true → ends_with_backslash text ≡ false → list_all is_line_byte line ≡ true
    → is_settled false (text ++ newline ∷ line) ≡ true
longer_settled text line is ends bytes =
    settled_both text (newline ∷ line) false is
    (ap (λ back. is_settled back (newline ∷ line)) (last_is text ∙ ends) ∙ line_settled line false bytes)

-- the lines of a piece with one more line
longer_lines : (text line : List ℕ) (lines : List (List ℕ)) → lines_of text ≡ lines → list_all is_line_byte line ≡ true
    → lines_of (text ++ newline ∷ line) ≡ lines ++ line ∷ []
longer_lines text line lines is bytes =
    pieces_then text [] line ∙ ap (λ ls. ls ++ lines_of line) is ∙ ap (λ ls. lines ++ ls) (one_piece line [] (line_alone line bytes))

-- a piece with one more line ends as that line does
longer_ends : (text line : List ℕ) → ends_with_backslash (text ++ newline ∷ line) ≡ ends_with_backslash line
longer_ends text line = sym (last_is (text ++ newline ∷ line)) ∙ last_both text (newline ∷ line) false ∙ last_is line

-- the lines of a body are no directives of their own
inside_all : (body : List (List ℕ)) (n : ℕ) → list_all is_full body ≡ true → read_lines true n body ≡ []
inside_all [] n is = refl
inside_all (line ∷ body) n is =
    inside_next line body n (not_true (is_empty_line line) (and_first (is_full line) _ is))
    ∙ inside_all body (n + 1) (and_second (is_full line) _ is)

-- what a line begins, without the blanks at its front

-- what a line begins, whatever its number and the lines after it are: nothing, a directive of one line, or one with a body
data Begins (line : List ℕ) : Type 0 where
  begins_nothing : ((n : ℕ) (lines : List (List ℕ)) → start_of n line lines ≡ Passed) → Begins line
  begins_alone : ((n : ℕ) (lines : List (List ℕ)) → start_of n line lines ≡ Alone (by_keyword n line (words_of line))) → Begins line
  begins_body : ((n : ℕ) (lines : List (List ℕ)) → start_of n line lines ≡ WithBody (entry_of n line lines)) → Begins line

-- each line begins nothing, a directive of one line, or one with a body
begins : (line : List ℕ) → Begins line
begins [] = begins_nothing (λ n lines. refl)
begins (b ∷ line) = by (b == number_sign) refl (b == percent) refl
  where
    -- Plan: `by` goes by both answers of `b == number_sign`.
    by : (c : Bool) → (b == number_sign) ≡ c → (k : Bool) → (b == percent) ≡ k → Begins (b ∷ line)
    by true c k k' = begins_nothing (λ n lines. rw c refl)
    by false c true k' = begins_alone (λ n lines. rw c (rw k' refl))
    by false c false k' = begins_body (λ n lines. rw c (rw k' refl))

-- an empty line has nothing but blanks
no_front : (line : List ℕ) → is_empty_line line ≡ true → without_front is_blank line ≡ []
no_front [] is = refl
no_front (b ∷ line) is = rw (and_first (is_blank b) _ is) (no_front line (and_second (is_blank b) _ is))

-- a piece of one line, and one that goes on before lines

-- a piece of one line, read alone, is the directive of that line
alone_read : (n at : ℕ) (line : List ℕ) → list_all is_line_byte line ≡ true → is_empty_line line ≡ false
    → ((n : ℕ) (lines : List (List ℕ)) → start_of n (without_front is_blank line) lines
    ≡ Alone (by_keyword n (without_front is_blank line) (words_of (without_front is_blank line))))
    → IsRead (piece_of n at line) (by_keyword n (without_front is_blank line) (words_of (without_front is_blank line)))
alone_read n at line bytes full is = record {
  settled = settled_same line (line_settled line false bytes);
  alone =
      ap (read_lines false 1) (one_piece line [] (line_alone line bytes))
      ∙ ap (λ e. directive_in (start_at e false 1 line []) ++ read_lines (is_inside e false (start_at e false 1 line [])) 2 []) full
      ∙ ap (λ s. directive_in s ++ []) (is 1 [])
      ∙ ap (λ d. d ∷ []) (sym (keyword_renumbered 1 n (without_front is_blank line) (words_of (without_front is_blank line))));
  here = sym (keyword_renumbered n n (without_front is_blank line) (words_of (without_front is_blank line)));
}

-- a piece that goes on before these lines: what is known of its text, by which it is read when it ends
record Going (piece : Piece) (first : List ℕ) (body lines : List (List ℕ)) : Type 0 where
  settles : is_settled false piece.text ≡ true
  lines_are : lines_of piece.text ≡ first ∷ body
  full : is_empty_line first ≡ false
  opens : (n : ℕ) (lines : List (List ℕ)) → start_of n (without_front is_blank first) lines
      ≡ WithBody (entry_of n (without_front is_blank first) lines)
  body_full : list_all is_full body ≡ true
  ends : (lines ≡ []) ⊎ (ends_with_backslash piece.text ≡ false)

-- a piece with a body that has ended, read alone, is the directive of its first line
entry_read : (piece : Piece) (first : List ℕ) (body lines : List (List ℕ)) → Going piece first body lines
    → IsRead piece (entry_of piece.number (without_front is_blank first) body)
entry_read piece first body lines g =
    record {
      settled = settled_same piece.text g.settles;
      alone =
          ap (read_lines false 1) g.lines_are
          ∙ ap (λ e. directive_in (start_at e false 1 first body) ++ read_lines (is_inside e false (start_at e false 1 first body)) 2 body)
          g.full
          ∙ ap (λ s. directive_in s ++ read_lines (opens_body s) 2 body) (g.opens 1 body)
          ∙ ap (λ ds. entry_of 1 (without_front is_blank first) body ∷ ds) (inside_all body 2 g.body_full)
          ∙ ap (λ d. d ∷ []) (sym (colon_renumbered 1 piece.number (without_front is_blank first) body
          (position is_colon (without_front is_blank first))));
      here = sym (colon_renumbered piece.number piece.number (without_front is_blank first) body
          (position is_colon (without_front is_blank first)));
    }

-- pieces where reading recovers from a line that is no directive

-- how far pieces are the driver's directives: as far as the first line that is none, where reading recovers from it
abbrev seen : Bool → List Directive → List Directive
seen false directives = directives
seen true directives = until_bad directives

-- each piece, read alone, is a directive, and as far as they are seen these are the driver's
abbrev Reads : Bool → List Piece → List Directive → Type 0
Reads recovers pieces directives =
    (read : List Directive) × AreRead pieces read × (seen recovers read ≡ seen recovers directives)

-- one piece more that is the driver's directive
reads_more : (recovers : Bool) (piece : Piece) (pieces : List Piece) (directive : Directive) (directives : List Directive)
    → IsRead piece directive → Reads recovers pieces directives → Reads recovers (piece ∷ pieces) (directive ∷ directives)
reads_more false piece pieces directive directives is rest = (directive ∷ rest.0, (is, rest.1), ap (λ ds. directive ∷ ds) rest.2)
reads_more true piece pieces directive directives is rest =
    (directive ∷ rest.0, (is, rest.1), ap (λ ds. directive ∷ (if is_none directive then [] else ds)) rest.2)

-- behind a piece that is no directive the others may be any, where reading recovers
reads_anew : (recovers : Bool) (piece : Piece) (pieces : List Piece) (directive : Directive) (directives others : List Directive)
    → recovers ≡ true → is_none directive ≡ true → IsRead piece directive → Reads recovers pieces others
    → Reads recovers (piece ∷ pieces) (directive ∷ directives)
reads_anew false piece pieces directive directives others recovered none is rest = absurd cc
reads_anew true piece pieces directive directives others recovered none is rest = (directive ∷ rest.0, (is, rest.1), rw none refl)

-- a line without a colon is no directive
none_of : (n : ℕ) (line : List ℕ) (lines : List (List ℕ)) (at : Option ℕ) → is_some at ≡ false → by_colon n line lines at ≡ Bad n
none_of n line lines None is = refl
none_of n line lines (Some at) is = absurd cc

-- so a piece that is cut is none, whatever the lines of its body are
cut_none : (piece : Piece) (line first : List ℕ) (body lines : List (List ℕ)) → lines_of piece.text ≡ first ∷ body
    → is_cut piece line ≡ true → entry_of piece.number (without_front is_blank first) lines ≡ Bad piece.number
cut_none piece line first body lines are cut =
    none_of piece.number (without_front is_blank first) lines (position is_colon (without_front is_blank first))
    (not_true _ (sym (ap first_lacks_colon are) ∙ and_second (goes_on_at line) _ cut))

-- all pieces of lines, by induction

-- the pieces of lines, of which none is in a body at first, are the directives of these lines
abbrev Outside : Bool → List (List ℕ) → Type 0
Outside recovers lines = (n at : ℕ) → Reads recovers (pieces_from recovers None n at lines) (read_lines false n lines)

-- the pieces of lines after a piece that goes on are its directive and those of the lines after its body
abbrev Inside : Bool → List (List ℕ) → Type 0
Inside recovers lines = (piece : Piece) (first : List ℕ) (body : List (List ℕ)) (n at : ℕ) → Going piece first body lines
    → Reads recovers (pieces_from recovers (Some piece) n at lines)
    (entry_of piece.number (without_front is_blank first) (body ++ body_lines lines) ∷ read_lines true n lines)

-- at the end of the text the piece that goes on ends
inside_end : (recovers : Bool) → Inside recovers []
inside_end recovers piece first body n at g =
    subst (λ b. Reads recovers (piece ∷ []) (entry_of piece.number (without_front is_blank first) b ∷ [])) (sym (append-nil body))
    (entry_of piece.number (without_front is_blank first) body ∷ [], (entry_read piece first body [] g, tt), refl)

-- where a line follows, no backslash hides the newline before it
apart_of : {line : List ℕ} {lines : List (List ℕ)} {t : Bool} → ((line ∷ lines) ≡ []) ⊎ (t ≡ false) → t ≡ false
apart_of (inl none) = absurd cc
apart_of (inr apart) = apart

-- one more line in a body: it is part of the piece, or ends it if it is empty or cuts it
inside_more : (recovers : Bool) (line : List ℕ) (lines : List (List ℕ)) → list_all is_line_byte line ≡ true
    → (lines ≡ []) ⊎ (ends_with_backslash line ≡ false) → Outside recovers lines → Outside recovers (line ∷ lines) → Inside recovers lines
    → Inside recovers (line ∷ lines)
inside_more recovers line lines bytes ends out here within piece first body n at g =
    by (is_empty_line line) refl (recovers && is_cut piece line) refl
  where
    -- Plan: `goal e t` is the claim where `e` says whether the line is empty and `t` whether it cuts the piece, and `by` goes by both.
    -- `longer_goes` says that the piece with this line goes on, with `solid` and `still` for its backslashes.
    f : List ℕ
    f = without_front is_blank first

    goal : Bool → Bool → Type 0
    goal e t = Reads recovers ((if e then piece ∷ [] else if t then piece ∷ alone_at n at line else [])
        ++ pieces_from recovers (if e then None else if t then opened_by n at line else Some (longer piece line)) (n + 1)
        (at + length line + 1) lines)
        (entry_of piece.number f (body ++ (if e then [] else line ∷ body_lines lines))
        ∷ directive_in (start_at e true n line lines) ++ read_lines (is_inside e true (start_at e true n line lines)) (n + 1) lines)

    solid : ends_with_backslash piece.text ≡ false
    solid = apart_of g.ends

    still : (lines ≡ []) ⊎ (ends_with_backslash line ≡ false) → (lines ≡ []) ⊎ (ends_with_backslash (piece.text ++ newline ∷ line) ≡ false)
    still (inl none) = inl none
    still (inr apart) = inr (longer_ends piece.text line ∙ apart)

    longer_goes : is_empty_line line ≡ false → Going (longer piece line) first (body ++ line ∷ []) lines
    longer_goes is = record {
      settles = longer_settled piece.text line g.settles solid bytes;
      lines_are = longer_lines piece.text line (first ∷ body) g.lines_are bytes;
      full = g.full;
      opens = g.opens;
      body_full = list_all-append is_full body (line ∷ []) ∙ ap (λ t. t && (is_full line && true)) g.body_full ∙ ap (λ e. not e && true) is;
      ends = still ends;
    }

    none : is_cut piece line ≡ true → (ls : List (List ℕ)) → entry_of piece.number f ls ≡ Bad piece.number
    none cut ls = cut_none piece line first body ls g.lines_are cut

    by : (e : Bool) → is_empty_line line ≡ e → (t : Bool) → (recovers && is_cut piece line) ≡ t
        → goal (is_empty_line line) (recovers && is_cut piece line)
    by true is t cut =
        subst (λ e. goal e (recovers && is_cut piece line)) (sym is)
        (subst (λ b. Reads recovers (piece ∷ pieces_from recovers None (n + 1) (at + length line + 1) lines)
        (entry_of piece.number f b ∷ read_lines false (n + 1) lines)) (sym (append-nil body))
        (reads_more recovers piece _ (entry_of piece.number f body) _ (entry_read piece first body (line ∷ lines) g)
        (out (n + 1) (at + length line + 1))))
    by false is true cut =
        subst (λ e. goal e (recovers && is_cut piece line)) (sym is) (subst (λ t. goal false t) (sym cut)
        (reads_anew recovers piece _ (entry_of piece.number f (body ++ line ∷ body_lines lines)) _ (read_lines false n (line ∷ lines))
        (and_first recovers _ cut) (ap is_none (none (and_second recovers _ cut) (body ++ line ∷ body_lines lines)))
        (subst (λ d. IsRead piece d)
        (none (and_second recovers _ cut) body ∙ sym (none (and_second recovers _ cut) (body ++ line ∷ body_lines lines)))
        (entry_read piece first body (line ∷ lines) g))
        (here n at)))
    by false is false cut =
        subst (λ e. goal e (recovers && is_cut piece line)) (sym is) (subst (λ t. goal false t) (sym cut)
        (subst (λ b. Reads recovers (pieces_from recovers (Some (longer piece line)) (n + 1) (at + length line + 1) lines)
        (entry_of piece.number f b ∷ read_lines true (n + 1) lines))
        (append_assoc body (line ∷ []) (body_lines lines))
        (within (longer piece line) first (body ++ line ∷ []) (n + 1) (at + length line + 1) (longer_goes is))))

-- one more line outside of a body: it begins nothing, a piece of one line, or one that goes on
outside_more : (recovers : Bool) (line : List ℕ) (lines : List (List ℕ)) → list_all is_line_byte line ≡ true
    → (lines ≡ []) ⊎ (ends_with_backslash line ≡ false) → Outside recovers lines → Inside recovers lines → Outside recovers (line ∷ lines)
outside_more recovers line lines bytes ends out within n at = by (is_empty_line line) refl
  where
    -- Plan: `whole e` is the claim where `e` says whether the line is empty, and `by` goes by that. `goal` is the claim by what a line
    -- begins that is not empty, and `by_start` goes by that. `goes` says that a piece with a body goes on.
    f : List ℕ
    f = without_front is_blank line

    p : Piece
    p = piece_of n at line

    goal : LineKind → Start → Type 0
    goal k s = Reads recovers (alone k p ++ pieces_from recovers (opened k p) (n + 1) (at + length line + 1) lines)
        (directive_in s ++ read_lines (opens_body s) (n + 1) lines)

    whole : Bool → Type 0
    whole e = Reads recovers
        (alone (line_kind line) p ++ pieces_from recovers (opened (line_kind line) p) (n + 1) (at + length line + 1) lines)
        (directive_in (start_at e false n line lines) ++ read_lines (is_inside e false (start_at e false n line lines)) (n + 1) lines)

    goes : is_empty_line line ≡ false → ((m : ℕ) (ls : List (List ℕ)) → start_of m f ls ≡ WithBody (entry_of m f ls))
        → Going p line [] lines
    goes full is = record {
      settles = line_settled line false bytes;
      lines_are = one_piece line [] (line_alone line bytes);
      full = full;
      opens = is;
      body_full = refl;
      ends = ends;
    }

    by_start : is_empty_line line ≡ false → Begins f → goal (line_kind line) (start_of n f lines)
    by_start full (begins_nothing is) =
        subst (λ k. goal k (start_of n f lines)) (sym (ap kind_of (is 1 [])))
        (subst (goal kind.Passed) (sym (is n lines)) (out (n + 1) (at + length line + 1)))
    by_start full (begins_alone is) =
        subst (λ k. goal k (start_of n f lines)) (sym (ap kind_of (is 1 [])))
        (subst (goal kind.Alone) (sym (is n lines))
        (reads_more recovers p _ _ _ (alone_read n at line bytes full is) (out (n + 1) (at + length line + 1))))
    by_start full (begins_body is) =
        subst (λ k. goal k (start_of n f lines)) (sym (ap kind_of (is 1 [])))
        (subst (goal kind.Opens) (sym (is n lines))
        (subst (λ d. Reads recovers (pieces_from recovers (Some p) (n + 1) (at + length line + 1) lines)
        (d ∷ read_lines true (n + 1) lines))
        (entry_again n f lines (position is_colon f))
        (within p line [] (n + 1) (at + length line + 1) (goes full is))))

    by : (e : Bool) → is_empty_line line ≡ e → whole (is_empty_line line)
    by true is =
        subst whole (sym is)
        (subst (λ k. Reads recovers (alone k p ++ pieces_from recovers (opened k p) (n + 1) (at + length line + 1) lines)
        (read_lines false (n + 1) lines))
        (sym (ap (λ l. kind_of (start_of 1 l [])) (no_front line is))) (out (n + 1) (at + length line + 1)))
    by false is = subst whole (sym is) (by_start is (begins f))

-- both hold for all lines of a settled text, by induction
both : (recovers : Bool) (lines : List (List ℕ)) → Clean lines → Outside recovers lines × Inside recovers lines
both false [] clean = (λ n at. ([], tt, refl), inside_end false)
both true [] clean = (λ n at. ([], tt, refl), inside_end true)
both recovers (line ∷ lines) clean =
    let rest = both recovers lines clean.1.1 in
    let here = outside_more recovers line lines clean.0 clean.1.0 rest.0 rest.1 in
    (here, inside_more recovers line lines clean.0 clean.1.0 rest.0 here rest.1)

-- the pieces of what is left of a text are its directives
pub pieces_read : (text : List ℕ) → AreRead (pieces_of (settle text)) (directives_of text)
pieces_read text =
    let read = (both false (lines_of (settle text)) (settled_clean text)).0 1 0 in
    subst (λ ds. AreRead (pieces_of (settle text)) ds) read.2 read.1

-- The pieces that are checked are directives too, and the driver's up to the first that is none.
pub checked_read : (text : List ℕ) → (read : List Directive) × AreRead (checked_pieces (settle text)) read
    × (until_bad read ≡ until_bad (directives_of text))
checked_read text = (both true (lines_of (settle text)) (settled_clean text)).0 1 0
