use Rattle.drv_specs.proofs.Booleans.{and_first, and_second, differs, not_true}
use Rattle.drv_specs.proofs.Lining.{body_full, body_lines_are, inside_passed, lines_join, one_piece, pieces_then}
use Rattle.drv_specs.proofs.SettledTexts.{body_settled, head_settled, is_line_byte, is_settled, settled_same}
use Rattle.drv_specs.specs.Blanks.{has_byte, is_blank}
use Rattle.drv_specs.specs.Directives.{Alone, Directive, Pair, Passed, Text, WithBody, body_lines, body_of, by_colon, by_key, by_keyword}
use Rattle.drv_specs.specs.Directives.{directive_in, directives_of, is_colon, is_inside, opens_body, read_lines, start_at, start_of}
use Rattle.drv_specs.specs.Dumping.{dumped, entry_text, named_text}
use Rattle.drv_specs.specs.Kept.{Each, IsNamed, IsPair, Kept, begins_line, is_text}
use Rattle.drv_specs.specs.Lines.{ends_line, is_kept, lines_of, without_front, words_of}
use Rattle.drv_specs.specs.Sets.{Set, is_key, is_key_byte, is_name, is_name_byte, is_sized}
use Rattle.drv_words.specs.Bytes.{asterisk, at_sign, colon, newline, number_sign, percent, space, tab}
use Rattle.std.proofs.Common.{◌≡◌, ◌<◌, ◌+◌, ◌∙◌, ◌==◌, ◌&&◌, ◌||◌, Bool, List, [], ◌∷◌, ◌++◌, None, Some, ap, append_assoc, arith, cond}
use Rattle.std.proofs.Common.{drop, eqb-true, false, flat_map, if◌then◌else◌, length, length-append, lt-ltb, map, nat_le, nat_lt, not}
use Rattle.std.proofs.Common.{position, refl, suc, sym, take, true, ℕ}
use Rattle.std.specs.List.{join_with_byte, list_all, position_or_len}

-- For dump_reloads: the directives of a set's dump are its named texts and then its pairs (`dump_read`). A dumped entry is a line with the
-- name or key and a colon, the lines of its text, and an empty line; `is_settled` says that no part of it is lost when the file's text is
-- settled.
-- Names: `name` is the name of a text. `key` is a suffix or a language. `text` is a text. `b` is one byte. `lines` is the lines that
-- follow. `n` is the number of the line. `rest` is the text that follows. `head` is a line up to its colon. `m` is the number of the line
-- after the entry. `read_lines in_body n lines` is the directives of lines. `is_settled back text` says that a text stays as it is when it
-- is settled. `is_blank` says that a byte is a space or a tab. `and_first` and `and_second` give the parts of a true `&&`. `is_text` says
-- that a text has the form of one in a spec file. `by_colon` is the directive of a line with a colon. `not_true` says that a test whose
-- negation holds fails.

-- a byte that the head of a line may have, which a colon ends
abbrev pub is_head_byte : ℕ → Bool
is_head_byte b = is_line_byte b && not (is_colon b)

-- bytes that pass a test pass a weaker one
all_also : (p q : ℕ → Bool) (text : List ℕ) → ((b : ℕ) → p b ≡ true → q b ≡ true) → list_all p text ≡ true → list_all q text ≡ true
all_also p q [] also is = refl
all_also p q (b ∷ text) also is = rw (also b (and_first (p b) _ is)) (all_also p q text also (and_second (p b) _ is))

-- a byte that is no newline, carriage return or colon may be before a colon
head_byte : (p : ℕ → Bool) → p 13 ≡ false → p newline ≡ false → p colon ≡ false → (b : ℕ) → p b ≡ true → is_head_byte b ≡ true
head_byte p cr nl co b is = rw (differs p b 13 cr is) (rw (differs p b newline nl is) (rw (differs p b colon co is) refl))

-- bytes of a line's head are bytes of a line
pub line_head : (text : List ℕ) → list_all is_head_byte text ≡ true → list_all is_line_byte text ≡ true
line_head text is = all_also is_head_byte is_line_byte text (λ b head. and_first (is_line_byte b) _ head) is

-- so may each byte of a name
name_head : (name : List ℕ) → is_name name ≡ true → list_all is_head_byte name ≡ true
name_head name is = all_also is_name_byte is_head_byte name (head_byte is_name_byte refl refl refl) (and_second (is_sized name) _ is)

-- the colon of an entry's line is the first one
colon_last : (head : List ℕ) → list_all is_head_byte head ≡ true → position_or_len is_colon (head ++ colon ∷ []) ≡ length head
colon_last [] is = refl
colon_last (b ∷ head) is =
    ap (λ c. cond (not c) (1 + position_or_len is_colon (head ++ colon ∷ [])) 0)
    (not_true (is_colon b) (and_second (is_line_byte b) _ (and_first (is_head_byte b) _ is)))
    ∙ ap (λ n. 1 + n) (colon_last head (and_second (is_head_byte b) _ is)) ∙ omega arith

-- the search for a colon finds the one at the end of an entry's line
colon_at : (head : List ℕ) → list_all is_head_byte head ≡ true → position is_colon (head ++ colon ∷ []) ≡ Some (length head)
colon_at head is =
    let within : length head < length (head ++ colon ∷ []) = omega (arith, length-append head (colon ∷ [])) in
    ap (λ n. cond (nat_lt n (length (head ++ colon ∷ []))) (Some n) None) (colon_last head is)
    ∙ ap (λ c. cond c (Some (length head)) None) (lt-ltb (length head) (length (head ++ colon ∷ [])) within)

-- the part before the colon is the head
front_taken : (head : List ℕ) → take (length head) (head ++ colon ∷ []) ≡ head
front_taken [] = refl
front_taken (b ∷ head) = ap (λ l. b ∷ l) (front_taken head)

-- nothing follows the colon of an entry's line
none_after : (head : List ℕ) → drop (length head + 1) (head ++ colon ∷ []) ≡ []
none_after [] = refl
none_after (b ∷ head) = ap (λ n. drop n (b ∷ head ++ colon ∷ [])) more ∙ none_after head
  where
    -- Plan: `more` says that one byte more makes the length one more.
    more : length (b ∷ head) + 1 ≡ suc (length head + 1)
    more = omega arith

-- a line of a head and a colon is an entry of that key, with the lines after it as its body
keyed : (n : ℕ) (head : List ℕ) (lines : List (List ℕ)) → list_all is_head_byte head ≡ true
    → by_colon n (head ++ colon ∷ []) lines (position is_colon (head ++ colon ∷ []))
    ≡ by_key head (join_with_byte newline (body_lines lines))
keyed n head lines is =
    ap (by_colon n (head ++ colon ∷ []) lines) (colon_at head is)
    ∙ ap (λ key. by_key key (body_of (drop (length head + 1) (head ++ colon ∷ [])) lines)) (front_taken head)
    ∙ ap (λ rest. by_key head (body_of rest lines)) (none_after head)

-- a line with a colon at its end, a body, and an empty line
module _ (n : ℕ) (b : ℕ) (head : List ℕ) (is : list_all is_head_byte (b ∷ head) ≡ true) (solid : is_blank b ≡ false)
    (mark : (b == number_sign) ≡ false) (directive : (b == percent) ≡ false) where
  abbrev tail : List ℕ
  tail = head ++ colon ∷ []

  -- a line of a head and a colon begins a directive with a body
  start_is : (lines : List (List ℕ)) → start_of n (b ∷ tail) lines ≡ WithBody (by_colon n (b ∷ tail) lines (position is_colon (b ∷ tail)))
  start_is lines =
      ap (λ c. if c then Passed else if b == percent then Alone (by_keyword n (b ∷ tail) (words_of (b ∷ tail)))
      else WithBody (by_colon n (b ∷ tail) lines (position is_colon (b ∷ tail)))) mark
      ∙ ap (λ c. if c then Alone (by_keyword n (b ∷ tail) (words_of (b ∷ tail)))
      else WithBody (by_colon n (b ∷ tail) lines (position is_colon (b ∷ tail)))) directive

  -- the line of a head and a colon, and what is read after it
  begun : (lines : List (List ℕ)) → read_lines false n ((b ∷ head ++ colon ∷ []) ∷ lines)
      ≡ by_key (b ∷ head) (join_with_byte newline (body_lines lines)) ∷ read_lines true (n + 1) lines
  begun lines =
      ap (λ e. directive_in (start_at e false n (b ∷ tail) lines)
      ++ read_lines (is_inside e false (start_at e false n (b ∷ tail) lines)) (n + 1) lines)
      (ap (λ c. c && list_all is_blank tail) solid)
      ∙ ap (λ l. directive_in (start_of n l lines) ++ read_lines (opens_body (start_of n l lines)) (n + 1) lines)
      (ap (λ c. if c then without_front is_blank tail else b ∷ tail) solid)
      ∙ ap (λ s. directive_in s ++ read_lines (opens_body s) (n + 1) lines) (start_is lines)
      ∙ ap (λ d. d ∷ read_lines true (n + 1) lines) (keyed n (b ∷ head) lines is)

  -- an entry with a text is read as the directive of its text
  pub entry_read : (text rest : List ℕ) → is_text text ≡ true
      → (m : ℕ) × (read_lines false n ((b ∷ head ++ colon ∷ []) ∷ (lines_of text ++ ([] ∷ lines_of rest))) ≡ by_key (b ∷ head) text
      ∷ read_lines false m (lines_of rest))
  entry_read text rest body =
      let full = body_full text [] false false refl body in
      let passed = inside_passed (lines_of text) (lines_of rest) (n + 1) full in (
        passed.0,
        begun (lines_of text ++ ([] ∷ lines_of rest))
            ∙ ap (λ ls. by_key (b ∷ head) (join_with_byte newline ls) ∷ read_lines true (n + 1) (lines_of text ++ ([] ∷ lines_of rest)))
            (body_lines_are (lines_of text) (lines_of rest) full)
            ∙ ap (λ t. by_key (b ∷ head) t ∷ read_lines true (n + 1) (lines_of text ++ ([] ∷ lines_of rest))) (lines_join text)
            ∙ ap (λ ds. by_key (b ∷ head) text ∷ ds) passed.1,
      )

  -- an entry without a text is read as the directive of an empty body
  pub empty_read : (rest : List ℕ) → (m : ℕ) × (read_lines false n ((b ∷ head ++ colon ∷ []) ∷ ([] ∷ [] ∷ lines_of rest))
      ≡ by_key (b ∷ head) [] ∷ read_lines false m (lines_of rest))
  empty_read rest = (n + 1 + 1 + 1, begun ([] ∷ [] ∷ lines_of rest))

-- the lines of an entry
line_bytes : (text : List ℕ) → list_all is_line_byte text ≡ true → list_all (λ b. not (ends_line b)) (text ++ colon ∷ []) ≡ true
line_bytes [] is = refl
line_bytes (b ∷ text) is = rw (not_true (b == newline) (and_second (is_kept b) _ (and_first (is_line_byte b) _ is)))
    (line_bytes text (and_second (is_line_byte b) _ is))

-- the bytes of an entry in their order
entry_is : (key text rest : List ℕ) → entry_text (key, text) ++ rest ≡ (key ++ colon ∷ []) ++ newline ∷ (text ++ newline ∷ (newline ∷ rest))
entry_is key text rest =
    append_assoc ((key ++ (colon ∷ newline ∷ [])) ++ text) (newline ∷ newline ∷ []) rest
    ∙ append_assoc (key ++ (colon ∷ newline ∷ [])) text (newline ∷ newline ∷ rest)
    ∙ append_assoc key (colon ∷ newline ∷ []) (text ++ newline ∷ (newline ∷ rest))
    ∙ sym (append_assoc key (colon ∷ []) (newline ∷ (text ++ newline ∷ (newline ∷ rest))))

-- the lines of a dumped entry: its name or key with a colon, its text's, an empty one, and what follows
pub entry_lines : (key text rest : List ℕ) → list_all is_head_byte key ≡ true
    → lines_of (entry_text (key, text) ++ rest) ≡ (key ++ colon ∷ []) ∷ (lines_of text ++ ([] ∷ lines_of rest))
entry_lines key text rest is =
    ap lines_of (entry_is key text rest)
    ∙ pieces_then (key ++ colon ∷ []) [] (text ++ newline ∷ (newline ∷ rest))
    ∙ ap (λ ls. ls ++ lines_of (text ++ newline ∷ (newline ∷ rest))) (one_piece (key ++ colon ∷ []) [] (line_bytes key (line_head key is)))
    ∙ ap (λ ls. (key ++ colon ∷ []) ∷ ls) (pieces_then text [] (newline ∷ rest))

-- no byte of an entry with a text is lost
entry_settled : (key text rest : List ℕ) → list_all is_head_byte key ≡ true → is_text text ≡ true → is_settled false rest ≡ true
    → is_settled false (entry_text (key, text) ++ rest) ≡ true
entry_settled key text rest is body later =
    ap (is_settled false) (entry_is key text rest ∙ append_assoc key (colon ∷ []) (newline ∷ (text ++ newline ∷ (newline ∷ rest))))
    ∙ head_settled key (text ++ newline ∷ (newline ∷ rest)) false (line_head key is)
    (body_settled text (newline ∷ rest) false false body later)

-- no byte of an entry without a text is lost
empty_settled : (key rest : List ℕ) → list_all is_head_byte key ≡ true → is_settled false rest ≡ true
    → is_settled false (entry_text (key, []) ++ rest) ≡ true
empty_settled key rest is later =
    ap (is_settled false) (entry_is key [] rest ∙ append_assoc key (colon ∷ []) (newline ∷ (newline ∷ (newline ∷ rest))))
    ∙ head_settled key (newline ∷ (newline ∷ rest)) false (line_head key is) later

-- Named texts.

-- the directive of a named text
abbrev pub text_directive : List ℕ × List ℕ → Directive
text_directive entry = Text entry.0 entry.1

-- with an asterisk before it too
starred : (name : List ℕ) → is_name name ≡ true → list_all is_head_byte (asterisk ∷ name) ≡ true
starred name is = name_head name is

-- a named text is dumped as an entry with an asterisk
starred_is : (name text rest : List ℕ) → named_text (name, text) ++ rest ≡ entry_text (asterisk ∷ name, text) ++ rest
starred_is name text rest = refl

-- the dump's named texts are read as their directives
pub named_read : (named : List (List ℕ × List ℕ)) (rest : List ℕ) (directives : List Directive) → Each IsNamed named
    → ((m : ℕ) → read_lines false m (lines_of rest) ≡ directives)
    → (n : ℕ) → read_lines false n (lines_of (flat_map named_text named ++ rest)) ≡ map text_directive named ++ directives
named_read [] rest directives kept later n = later n
named_read (entry ∷ named) rest directives kept later n =
    let more = flat_map named_text named ++ rest in
    let head = starred entry.0 kept.0.name in
    let lines = ap lines_of (append_assoc (named_text entry) (flat_map named_text named) rest)
    ∙ entry_lines (asterisk ∷ entry.0) entry.1 more head in
    let taken = entry_read n asterisk entry.0 head refl refl refl entry.1 more kept.0.text in
    ap (read_lines false n) lines ∙ taken.1 ∙ ap (λ ds. Text entry.0 entry.1 ∷ ds) (named_read named rest directives kept.1 later taken.0)

-- no byte of the dump's named texts is lost when it is settled
pub named_settled : (named : List (List ℕ × List ℕ)) (rest : List ℕ) → Each IsNamed named → is_settled false rest ≡ true
    → is_settled false (flat_map named_text named ++ rest) ≡ true
named_settled [] rest kept later = later
named_settled (entry ∷ named) rest kept later =
    ap (is_settled false) (append_assoc (named_text entry) (flat_map named_text named) rest)
    ∙ entry_settled (asterisk ∷ entry.0) entry.1 (flat_map named_text named ++ rest) (starred entry.0 kept.0.name) kept.0.text
    (named_settled named rest kept.1 later)

-- Pairs.

-- the directive of a pair
abbrev pub pair_directive : List ℕ × List ℕ → Directive
pair_directive pair = Pair pair.0 pair.1

-- a byte that is neither space nor tab is no blank
blank_not : (b : ℕ) → (b == space) ≡ false → (b == tab) ≡ false → is_blank b ≡ false
blank_not b space_not tab_not = ap (λ c. c || b == tab) space_not ∙ tab_not

-- the bytes of a key may be the head of a line, and its first is no blank
key_parts : (at : Bool) (b : ℕ) (key : List ℕ) → (b == at_sign) ≡ at
    → (if at then is_name key else (has_byte (b ∷ key) && list_all is_key_byte (b ∷ key))) ≡ true
    → (list_all is_head_byte (b ∷ key) ≡ true) × (is_blank b ≡ false)
key_parts true b key at is =
    let same = eqb-true b at_sign at in
    (ap (λ c. list_all is_head_byte (c ∷ key)) same ∙ name_head key is, ap is_blank same)
key_parts false b key at is =
    let first = and_first (is_key_byte b) (list_all is_key_byte key) is in (
      all_also is_key_byte is_head_byte (b ∷ key) (head_byte is_key_byte refl refl refl) is,
      blank_not b (differs is_key_byte b space refl first) (differs is_key_byte b tab refl first),
    )

-- a key's bytes may be before a colon, and its first is no blank
key_is : (b : ℕ) (key : List ℕ) → is_key (b ∷ key) ≡ true → (list_all is_head_byte (b ∷ key) ≡ true) × (is_blank b ≡ false)
key_is b key is = key_parts (b == at_sign) b key refl (and_second (nat_le (length (b ∷ key)) 255) _ is)

-- the directive of a key that begins a line
pair_is : (b : ℕ) (key body : List ℕ) → (b == asterisk) ≡ false → by_key (b ∷ key) body ≡ Pair (b ∷ key) body
pair_is b key body other = rw other refl

-- a dumped pair is read as its directive
pair_read : (key text rest : List ℕ) (n : ℕ) → is_key key ≡ true → begins_line key ≡ true → (not (has_byte text) || is_text text) ≡ true
    → (m : ℕ) × (read_lines false n (lines_of (entry_text (key, text) ++ rest)) ≡ Pair key text ∷ read_lines false m (lines_of rest))
pair_read [] text rest n is begins body = absurd cc
pair_read (b ∷ key) text rest n is begins body = by text body
  where
    -- Plan: the first byte of the key is no mark of another directive (`mark`, `directive`, `star`), so the line is that of a pair.
    parts : (list_all is_head_byte (b ∷ key) ≡ true) × (is_blank b ≡ false)
    parts = key_is b key is

    mark : (b == number_sign) ≡ false
    mark = not_true _ (and_first (not (b == number_sign)) _ begins)

    others : (not (b == percent) && not (b == asterisk)) ≡ true
    others = and_second (not (b == number_sign)) _ begins

    directive : (b == percent) ≡ false
    directive = not_true _ (and_first (not (b == percent)) _ others)

    star : (b == asterisk) ≡ false
    star = not_true _ (and_second (not (b == percent)) _ others)

    by : (t : List ℕ) → (not (has_byte t) || is_text t) ≡ true
        → (m : ℕ) × (read_lines false n (lines_of (entry_text (b ∷ key, t) ++ rest)) ≡ Pair (b ∷ key) t
        ∷ read_lines false m (lines_of rest))
    by [] body' =
        let taken = empty_read n b key parts.0 parts.1 mark directive rest in (
          taken.0,
          ap (read_lines false n) (entry_lines (b ∷ key) [] rest parts.0) ∙ taken.1
              ∙ ap (λ d. d ∷ read_lines false taken.0 (lines_of rest)) (pair_is b key [] star),
        )
    by (c ∷ t) body' =
        let taken = entry_read n b key parts.0 parts.1 mark directive (c ∷ t) rest body' in (
          taken.0,
          ap (read_lines false n) (entry_lines (b ∷ key) (c ∷ t) rest parts.0) ∙ taken.1
              ∙ ap (λ d. d ∷ read_lines false taken.0 (lines_of rest)) (pair_is b key (c ∷ t) star),
        )

-- all dumped pairs are read as their directives
pub pairs_read : (pairs : List (List ℕ × List ℕ)) → Each IsPair pairs → (n : ℕ)
    → read_lines false n (lines_of (flat_map entry_text pairs)) ≡ map pair_directive pairs
pairs_read [] kept n = refl
pairs_read (pair ∷ pairs) kept n =
    let taken = pair_read pair.0 pair.1 (flat_map entry_text pairs) n kept.0.key kept.0.begins kept.0.text in
    taken.1 ∙ ap (λ ds. Pair pair.0 pair.1 ∷ ds) (pairs_read pairs kept.1 taken.0)

-- no byte of a pair is lost
pair_settled : (key text rest : List ℕ) → is_key key ≡ true → begins_line key ≡ true → (not (has_byte text) || is_text text) ≡ true
    → is_settled false rest ≡ true → is_settled false (entry_text (key, text) ++ rest) ≡ true
pair_settled [] text rest is begins body later = absurd cc
pair_settled (b ∷ key) [] rest is begins body later = empty_settled (b ∷ key) rest (key_is b key is).0 later
pair_settled (b ∷ key) (c ∷ text) rest is begins body later = entry_settled (b ∷ key) (c ∷ text) rest (key_is b key is).0 body later

-- no byte of the dumped pairs is lost when they are settled
pub pairs_settled : (pairs : List (List ℕ × List ℕ)) → Each IsPair pairs → is_settled false (flat_map entry_text pairs) ≡ true
pairs_settled [] kept = refl
pairs_settled (pair ∷ pairs) kept = pair_settled pair.0 pair.1 (flat_map entry_text pairs) kept.0.key kept.0.begins kept.0.text
    (pairs_settled pairs kept.1)

-- a dump is read as the directives of the set's texts, and then of its pairs
pub dump_read : (set : Set) → Kept set → directives_of (dumped set) ≡ map text_directive set.named ++ map pair_directive set.pairs
dump_read set kept =
    let same = settled_same (dumped set) (named_settled set.named (flat_map entry_text set.pairs) kept.named
    (pairs_settled set.pairs kept.pairs)) in
    ap (λ text. read_lines false 1 (lines_of text)) same
    ∙ named_read set.named (flat_map entry_text set.pairs) (map pair_directive set.pairs) kept.named (pairs_read set.pairs kept.pairs) 1
