use Rattle.drv_words.proofs.ReadBack.{at}
use Rattle.drv_words.proofs.Shown.{shows_lines}
use Rattle.drv_words.specs.Printed.{Shows, end_text, escaped, is_bare, is_plain, is_special, line_text, lines_text, quoted, words_text}
use Rattle.drv_words.specs.Code.LineReader as r
use Rattle.drv_words.specs.Code.LineReader.{finished, lines_read, read, step}
use Rattle.drv_words.specs.declared.plan.PlanLine.{PlanLine}
use Rattle.drv_words.specs.declared.reading_back.Standing.{Standing}
use Rattle.drv_words.specs.declared.reading_back.Standing.TheVariants.{AtWord, Bar, Bare, Between, Escaped, Quoted, Wrong}
use Rattle.drv_words.specs.declared.reading_back.LineReader.{LineReader}
use Rattle.std.proofs.Common.{◌≡◌, ◌&&◌, ◌==◌, Bool, false, true, List, [], ◌∷◌, ◌++◌, None, Option, Some, is_some, length, nat_lt}
use Rattle.std.proofs.Common.{if◌then◌else◌, refl, sym, ap, subst, ◌∙◌, append_assoc, arith, ℕ}
use Rattle.std.proofs.lemmas.Bool.{eqb-true}
use Rattle.std.proofs.lemmas.Bool.Decides.{nat_tests}
use Rattle.std.proofs.lemmas.Grind.{flat_map-append}
use Rattle.std.proofs.lemmas.List.{append-nil}
use Rattle.std.proofs.Math.Seq.{append_snoc}
use Rattle.std.specs.Cmp.Derive.{both_true}
use Rattle.std.specs.List.{list_all}
use Rattle.std.specs.Option.{IfSome}

-- For `read_back`: the printed form of what the reader holds is the text that it has read. So a text that it accepts shows the lines.
-- Names: `text` is a text, as a list of bytes. `words` is the words so far, or those that are found. `word` is one word. `lines` is the
-- lines of a plan. `program` is the program of the line that is read, once it has one. `b` is one byte. `place` is where the reader is in a
-- line. `quoted word` is a word as it is printed. `step` takes one byte. `Shows text lines` says, by the grammar, that the text shows these
-- lines. `read reader text` is the reader after the text. `lines_text`: the text of all lines. `at`: a reader that has these lines,
-- program, words and word so far, at this place of a line. `is_plain`: a letter, a digit or one of ./-_. `words_text`: each word has a
-- blank before it. `is_bare`: a word that needs no quotes. Numbers are bytes: 10 is a newline, 32 a blank, 34 ", 92 a backslash, 124 |.

-- the text of the open line
abbrev open_text : Option (List ℕ) → List (List ℕ) → List ℕ
open_text None words = words_text words
open_text (Some program) words = words_text (program ∷ words)

-- the text of the open word
abbrev part : Standing → List ℕ → List ℕ
part Between word = []
part AtWord word = 32 ∷ []
part Bare word = 32 ∷ word
part Quoted word = 32 ∷ 34 ∷ escaped word
part Escaped word = 32 ∷ 34 ∷ escaped word ++ 92 ∷ []
part Bar word = 32 ∷ 124 ∷ []
part Wrong word = []

-- what else holds at a place of the text
abbrev Held : Standing → List ℕ → Type 0
Held Between word = word ≡ []
Held AtWord word = word ≡ []
Held Bar word = word ≡ []
Held Bare word = is_bare word ≡ true
Held _ word = Unit {0}

-- a line without a program has no words
abbrev NoWords : Option (List ℕ) → List (List ℕ) → Type 0
NoWords None words = words ≡ []
NoWords (Some program) words = Unit {0}

-- the reader has taken this text
abbrev Took : Standing → LineReader → List ℕ → Type 0
Took Wrong reader text = Unit {0}
Took place reader text = (text ≡ lines_text reader.lines ++ open_text reader.program reader.words ++ part place reader.word)
    × NoWords reader.program reader.words × Held place reader.word

-- the text that was read is the printed form of what the reader holds
abbrev Takes : LineReader → List ℕ → Type 0
Takes reader text = Took reader.standing reader text

-- texts

-- the escapes of two parts of a word are those of both
escaped-append : (word more : List ℕ) → escaped (word ++ more) ≡ escaped word ++ escaped more
escaped-append [] more = refl
escaped-append (b ∷ word) more = by (is_special b) (escaped-append word more)
  where
    by : (t : Bool) → escaped (word ++ more) ≡ escaped word ++ escaped more
        → (if t then 92 ∷ b ∷ escaped (word ++ more) else b ∷ escaped (word ++ more))
        ≡ (if t then 92 ∷ b ∷ escaped word else b ∷ escaped word) ++ escaped more
    by true e = ap (λ t. 92 ∷ b ∷ t) e
    by false e = ap (λ t. b ∷ t) e

-- the text of lines with one more ends with its text
lines_more : (lines : List PlanLine) (l : PlanLine) → lines_text (lines ++ l ∷ []) ≡ lines_text lines ++ line_text l
lines_more lines l = flat_map-append line_text lines (l ∷ []) ∙ ap (λ t. lines_text lines ++ t) (append-nil (line_text l))

-- the text of words with one more ends with its text
words_more : (words : List (List ℕ)) (word : List ℕ) → words_text (words ++ word ∷ []) ≡ words_text words ++ 32 ∷ quoted word
words_more words word = flat_map-append (λ w. 32 ∷ quoted w) words (word ∷ []) ∙ ap (λ t. words_text words ++ t)
    (append-nil (32 ∷ quoted word))

-- two tests that hold together, hold each
and_both : (a b : Bool) → (a && b) ≡ true → (a ≡ true) × (b ≡ true)
and_both true b e = (refl, e)
and_both false b e = absurd cc

-- if all bytes of a word are plain, and one more is, all are
all_more : (word : List ℕ) (b : ℕ) → list_all is_plain word ≡ true → is_plain b ≡ true → list_all is_plain (word ++ b ∷ []) ≡ true
all_more [] b all e = rw e refl
all_more (c ∷ word) b all e =
    let both : (is_plain c ≡ true) × (list_all is_plain word ≡ true) = and_both (is_plain c) (list_all is_plain word) all in
    rw both.0 (all_more word b both.1 e)

-- a word with a byte is not empty
has_byte : (b : ℕ) (word : List ℕ) → nat_lt 0 (length (b ∷ word)) ≡ true
has_byte b word = grind (arith, nat_tests)

-- a bare word stays bare with one more plain byte
bare_more : (word : List ℕ) (b : ℕ) → is_bare word ≡ true → is_plain b ≡ true → is_bare (word ++ b ∷ []) ≡ true
bare_more [] b bare e = both_true (has_byte b []) (all_more [] b refl e)
bare_more (c ∷ word) b bare e =
    let both : (nat_lt 0 (length (c ∷ word)) ≡ true) × (list_all is_plain (c ∷ word) ≡ true) =
    and_both (nat_lt 0 (length (c ∷ word))) (list_all is_plain (c ∷ word)) bare in
    both_true (has_byte c (word ++ b ∷ [])) (all_more (c ∷ word) b both.1 e)

-- the newline of a line, after the rest of the line
line_takes : (lines : List PlanLine) (program : Option (List ℕ)) (words : List (List ℕ)) (place : Standing) (piped : Bool)
    (front text : List ℕ)
    → end_text piped ≡ front ++ 10 ∷ [] → text ≡ lines_text lines ++ open_text program words ++ front
    → Takes (r.with_line (at lines program words [] place) piped) (text ++ 10 ∷ [])
line_takes lines None words place piped front text ends is = tt
line_takes lines (Some program) words place piped front text ends is = (
  ap (λ t. t ++ 10 ∷ []) is
      ∙ append_assoc (lines_text lines ++ words_text (program ∷ words)) front (10 ∷ [])
      ∙ ap (λ t. lines_text lines ++ words_text (program ∷ words) ++ t) (sym ends)
      ∙ append_assoc (lines_text lines) (words_text (program ∷ words)) (end_text piped)
      ∙ sym (lines_more lines (record { command = record { program = program; words = words }; piped = piped }))
      ∙ sym (append-nil (lines_text (lines ++ record { command = record { program = program; words = words }; piped = piped } ∷ [])))
      ∙ sym (append-nil (lines_text (lines ++ record { command = record { program = program; words = words }; piped = piped } ∷ []) ++ [])),
  refl,
  refl,
)

-- what the reader holds is the text that it has read, also after a byte between words
between_takes : (lines : List PlanLine) (program : Option (List ℕ)) (words : List (List ℕ)) (place : Standing) (b : ℕ) (text : List ℕ)
    → text ≡ lines_text lines ++ open_text program words → NoWords program words
    → Takes (r.between (at lines program words [] place) b) (text ++ b ∷ [])
between_takes lines program words place b text is none = by (b == 32) refl (b == 10) refl
  where
    -- Plan: by whether the byte is a blank or a newline; any other is no printed text.
    by : (space : Bool) → (b == 32) ≡ space → (newline : Bool) → (b == 10) ≡ newline
        → Takes (if space then at lines program words [] AtWord else if newline then r.with_line (at lines program words [] place)
        false else at lines program words [] Wrong) (text ++ b ∷ [])
    by true e newline f = (ap (λ c. text ++ c ∷ []) (eqb-true b 32 e) ∙ ap (λ t. t ++ 32 ∷ []) is, none, refl)
    by false e true f =
        let same : b ≡ 10 = eqb-true b 10 f in
        let P : ℕ → Type 0 = λ c. Takes (r.with_line (at lines program words [] place) false) (text ++ c ∷ []) in
        subst P (sym same) (line_takes lines program words place false [] text refl
        (is ∙ sym (append-nil (lines_text lines ++ open_text program words))))
    by false e false f = tt

-- a word that has ended, in its printed form
word_takes : (program : Option (List ℕ)) (lines : List PlanLine) (words : List (List ℕ)) (word text : List ℕ) (place : Standing)
    → text ≡ lines_text lines ++ open_text program words ++ 32 ∷ quoted word → NoWords program words
    → let after = r.with_word (at lines program words word place) in
    (text ≡ lines_text lines ++ open_text after.program after.words) × NoWords after.program after.words
word_takes None lines words word text place is none = (
  is ∙ ap (λ ws. lines_text lines ++ words_text ws ++ 32 ∷ quoted word) none
      ∙ ap (λ t. t ++ 32 ∷ quoted word) (append-nil (lines_text lines))
      ∙ ap (λ t. lines_text lines ++ t) (sym (append-nil (32 ∷ quoted word)) ∙ ap (λ ws. words_text (word ∷ ws)) (sym none)),
  tt,
)
word_takes (Some program) lines words word text place is none = (
  is ∙ append_assoc (lines_text lines) (words_text (program ∷ words)) (32 ∷ quoted word) ∙ ap (λ t. lines_text lines ++ t)
      (sym (words_more (program ∷ words) word)),
  tt,
)

-- a word that its closing quote has ended
closed_word : (program : Option (List ℕ)) (lines : List PlanLine) (words : List (List ℕ)) (word text : List ℕ)
    → text ≡ lines_text lines ++ open_text program words ++ 32 ∷ quoted word → NoWords program words
    → Takes (r.placed (r.with_word (at lines program words word Quoted)) Between) text
closed_word None lines words word text is none = (
  (word_takes None lines words word text Quoted is none).0
      ∙ sym (append-nil (lines_text lines ++ open_text (Some word) words)),
  tt,
  refl,
)
closed_word (Some program) lines words word text is none = (
  (word_takes (Some program) lines words word text Quoted is none).0
      ∙ sym (append-nil (lines_text lines ++ open_text (Some program) (words ++ word ∷ []))),
  tt,
  refl,
)

-- also after a closing quote
closed_takes : (lines : List PlanLine) (program : Option (List ℕ)) (words : List (List ℕ)) (word text : List ℕ)
    → text ≡ lines_text lines ++ open_text program words ++ 32 ∷ 34 ∷ escaped word → NoWords program words
    → Takes (r.closed (at lines program words word Quoted)) (text ++ 34 ∷ [])
closed_takes lines program words word text is none = by (is_bare word) refl
  where
    -- Plan: by whether the word needs quotes: one that needs none is no printed text.
    by : (t : Bool) → is_bare word ≡ t
        → Takes (if t then at lines program words word Wrong else r.placed (r.with_word (at lines program words word Quoted)) Between)
        (text ++ 34 ∷ [])
    by true e = tt
    by false e =
        let shown : text ++ 34 ∷ [] ≡ lines_text lines ++ open_text program words ++ 32 ∷ quoted word =
        rw e (ap (λ t. t ++ 34 ∷ []) is ∙ append_assoc (lines_text lines ++ open_text program words) (32 ∷ 34 ∷ escaped word) (34 ∷ [])) in
        closed_word program lines words word (text ++ 34 ∷ []) shown none

-- a byte after the space before a word
at_word_takes : (lines : List PlanLine) (program : Option (List ℕ)) (words : List (List ℕ)) (b : ℕ) (text : List ℕ)
    → text ≡ lines_text lines ++ open_text program words ++ 32 ∷ [] → NoWords program words
    → Takes (r.at_word (at lines program words [] AtWord) b) (text ++ b ∷ [])
at_word_takes lines program words b text is none = by (is_plain b) refl (b == 34) refl (b == 124) refl (is_some program)
  where
    -- Plan: by the byte: it begins a bare word, opens quotes, is the bar of a pipe, or none of these.
    more : text ++ b ∷ [] ≡ lines_text lines ++ open_text program words ++ 32 ∷ b ∷ []
    more = ap (λ t. t ++ b ∷ []) is ∙ append_assoc (lines_text lines ++ open_text program words) (32 ∷ []) (b ∷ [])

    by : (plain : Bool) → is_plain b ≡ plain → (quote : Bool) → (b == 34) ≡ quote → (bar : Bool) → (b == 124) ≡ bar → (some : Bool)
        → Takes (if plain then at lines program words (b ∷ []) Bare else if quote then at lines program words [] Quoted else if bar
        && some then at lines program words [] Bar else at lines program words [] Wrong) (text ++ b ∷ [])
    by true e quote f bar g some = (more, none, both_true (has_byte b []) (all_more [] b refl e))
    by false e true f bar g some = (more ∙ ap (λ c. lines_text lines ++ open_text program words ++ 32 ∷ c ∷ []) (eqb-true b 34 f), none, tt)
    by false e false f true g true = (
      more ∙ ap (λ c. lines_text lines ++ open_text program words ++ 32 ∷ c ∷ [])
          (eqb-true b 124 g),
      none,
      refl,
    )
    by false e false f true g false = tt
    by false e false f false g some = tt

-- a byte after a bare word
bare_takes : (lines : List PlanLine) (program : Option (List ℕ)) (words : List (List ℕ)) (word : List ℕ) (b : ℕ) (text : List ℕ)
    → text ≡ lines_text lines ++ open_text program words ++ 32 ∷ word → NoWords program words → is_bare word ≡ true
    → Takes (r.bare (at lines program words word Bare) b) (text ++ b ∷ [])
bare_takes lines program words word b text is none bare = by (is_plain b) refl
  where
    -- Plan: by the byte: it makes the word longer, or ends it, and then a blank or a newline follows.
    shown : text ≡ lines_text lines ++ open_text program words ++ 32 ∷ quoted word
    shown = rw bare is

    ended : (program : Option (List ℕ)) → text ≡ lines_text lines ++ open_text program words ++ 32 ∷ quoted word → NoWords program words
        → Takes (r.between (r.with_word (at lines program words word Bare)) b) (text ++ b ∷ [])
    ended None is none = between_takes lines (Some word) words Bare b text (word_takes None lines words word text Bare is none).0 tt
    ended (Some program) is none = between_takes lines (Some program) (words ++ word ∷ []) Bare b text
        (word_takes (Some program) lines words word text Bare is none).0 tt

    by : (plain : Bool) → is_plain b ≡ plain
        → Takes (if plain then at lines program words (word ++ b ∷ []) Bare else r.between (r.with_word (at lines program words word Bare))
        b) (text ++ b ∷ [])
    by true e = (
      ap (λ t. t ++ b ∷ []) is ∙ append_assoc (lines_text lines ++ open_text program words) (32 ∷ word) (b ∷ []),
      none,
      bare_more word b bare e,
    )
    by false e = ended program shown none

-- also after a byte between quotes
inside_takes : (lines : List PlanLine) (program : Option (List ℕ)) (words : List (List ℕ)) (word : List ℕ) (b : ℕ) (text : List ℕ)
    → text ≡ lines_text lines ++ open_text program words ++ 32 ∷ 34 ∷ escaped word → NoWords program words
    → Takes (r.inside (at lines program words word Quoted) b) (text ++ b ∷ [])
inside_takes lines program words word b text is none = by (b == 92) refl (b == 34) refl (b == 36) refl
  where
    -- Plan: by the byte: a backslash, a closing quote, a dollar that has no backslash, or a byte of the word.
    more : text ++ b ∷ [] ≡ lines_text lines ++ open_text program words ++ 32 ∷ 34 ∷ (escaped word ++ b ∷ [])
    more = ap (λ t. t ++ b ∷ []) is ∙ append_assoc (lines_text lines ++ open_text program words) (32 ∷ 34 ∷ escaped word) (b ∷ [])

    one : is_special b ≡ false → escaped (b ∷ []) ≡ b ∷ []
    one e = rw e refl

    by : (backslash : Bool) → (b == 92) ≡ backslash → (quote : Bool) → (b == 34) ≡ quote → (dollar : Bool) → (b == 36) ≡ dollar
        → Takes (if backslash then at lines program words word Escaped else if quote then r.closed
        (at lines program words word Quoted) else if dollar then at lines program words word Wrong else at lines program words
        (word ++ b ∷ []) Quoted) (text ++ b ∷ [])
    by true e quote f dollar g =
        (more ∙ ap (λ c. lines_text lines ++ open_text program words ++ 32 ∷ 34 ∷ (escaped word ++ c ∷ [])) (eqb-true b 92 e), none, tt)
    by false e true f dollar g =
        let P : ℕ → Type 0 = λ c. Takes (r.closed (at lines program words word Quoted)) (text ++ c ∷ []) in
        subst P (sym (eqb-true b 34 f)) (closed_takes lines program words word text is none)
    by false e false f true g = tt
    by false e false f false g =
        let plain : is_special b ≡ false = rw (f, e, g) refl in (
          more ∙ ap (λ t. lines_text lines ++ open_text program words ++ 32 ∷ 34 ∷ (escaped word ++ t)) (sym (one plain))
              ∙ ap (λ t. lines_text lines ++ open_text program words ++ 32 ∷ 34 ∷ t) (sym (escaped-append word (b ∷ []))),
          none,
          tt,
        )

-- also after a byte behind a backslash
escape_takes : (lines : List PlanLine) (program : Option (List ℕ)) (words : List (List ℕ)) (word : List ℕ) (b : ℕ) (text : List ℕ)
    → text ≡ lines_text lines ++ open_text program words ++ 32 ∷ 34 ∷ (escaped word ++ 92 ∷ []) → NoWords program words
    → Takes (r.escape (at lines program words word Escaped) b) (text ++ b ∷ [])
escape_takes lines program words word b text is none = by (is_special b) refl
  where
    -- Plan: only a special byte has a backslash, which the printed word has too (`one`).
    one : is_special b ≡ true → escaped (b ∷ []) ≡ 92 ∷ b ∷ []
    one e = rw e refl

    by : (special : Bool) → is_special b ≡ special
        → Takes (if special then at lines program words (word ++ b ∷ []) Quoted else at lines program words word Wrong) (text ++ b ∷ [])
    by true e = (
      ap (λ t. t ++ b ∷ []) is
          ∙ append_assoc (lines_text lines ++ open_text program words) (32 ∷ 34 ∷ escaped word ++ 92 ∷ []) (b ∷ [])
          ∙ ap (λ t. lines_text lines ++ open_text program words ++ 32 ∷ 34 ∷ t) (append_assoc (escaped word) (92 ∷ []) (b ∷ []))
          ∙ ap (λ t. lines_text lines ++ open_text program words ++ 32 ∷ 34 ∷ (escaped word ++ t)) (sym (one e))
          ∙ ap (λ t. lines_text lines ++ open_text program words ++ 32 ∷ 34 ∷ t) (sym (escaped-append word (b ∷ []))),
      none,
      tt,
    )
    by false e = tt

-- also after the byte behind the bar of a pipe
bar_takes : (lines : List PlanLine) (program : Option (List ℕ)) (words : List (List ℕ)) (b : ℕ) (text : List ℕ)
    → text ≡ lines_text lines ++ open_text program words ++ 32 ∷ 124 ∷ [] → NoWords program words
    → Takes (r.after_bar (at lines program words [] Bar) b) (text ++ b ∷ [])
bar_takes lines program words b text is none = by (b == 10) refl
  where
    by : (newline : Bool) → (b == 10) ≡ newline
        → Takes (if newline then r.with_line (at lines program words [] Bar) true else at lines program words [] Wrong) (text ++ b ∷ [])
    by true e =
        let P : ℕ → Type 0 = λ c. Takes (r.with_line (at lines program words [] Bar) true) (text ++ c ∷ []) in
        subst P (sym (eqb-true b 10 e)) (line_takes lines program words Bar true (32 ∷ 124 ∷ []) text refl is)
    by false e = tt

-- so after any byte, wherever the reader is
step_takes : (place : Standing) (lines : List PlanLine) (program : Option (List ℕ)) (words : List (List ℕ)) (word : List ℕ) (b : ℕ)
    (text : List ℕ)
    → Takes (at lines program words word place) text → Takes (step (at lines program words word place) b) (text ++ b ∷ [])
step_takes Between lines program words word b text (is, none, held) =
    let P : List ℕ → Type 0 = λ w. Takes (step (at lines program words w Between) b) (text ++ b ∷ []) in
    subst P (sym held) (between_takes lines program words Between b text
    (is ∙ append-nil (lines_text lines ++ open_text program words)) none)
step_takes AtWord lines program words word b text (is, none, held) =
    let P : List ℕ → Type 0 = λ w. Takes (step (at lines program words w AtWord) b) (text ++ b ∷ []) in
    subst P (sym held) (at_word_takes lines program words b text is none)
step_takes Bare lines program words word b text (is, none, held) = bare_takes lines program words word b text is none held
step_takes Quoted lines program words word b text (is, none, held) = inside_takes lines program words word b text is none
step_takes Escaped lines program words word b text (is, none, held) = escape_takes lines program words word b text is none
step_takes Bar lines program words word b text (is, none, held) =
    let P : List ℕ → Type 0 = λ w. Takes (step (at lines program words w Bar) b) (text ++ b ∷ []) in
    subst P (sym held) (bar_takes lines program words b text is none)
step_takes Wrong lines program words word b text took = tt

-- and after any text
read_takes : (reader : LineReader) (front text : List ℕ) → Takes reader front → Takes (read reader text) (front ++ text)
read_takes reader front [] took = let P : List ℕ → Type 0 = λ t. Takes reader t in subst P (sym (append-nil front)) took
read_takes reader front (b ∷ text) took =
    let P : List ℕ → Type 0 = λ t. Takes (read (step reader b) text) t in
    subst P (append_snoc front b text)
    (read_takes (step reader b) (front ++ b ∷ []) text (step_takes reader.standing reader.lines reader.program reader.words
    reader.word b front took))

-- a reader that has finished holds the lines whose text was read
finished_is : (place : Standing) (program : Option (List ℕ)) (lines found : List PlanLine) (words : List (List ℕ)) (word text : List ℕ)
    → Takes (at lines program words word place) text → finished (at lines program words word place) ≡ Some found → text ≡ lines_text found
finished_is Between None lines found words word text (is, none, held) e =
    let same : lines ≡ found = cc in
    is ∙ append-nil (lines_text lines ++ words_text words) ∙ ap (λ ws. lines_text lines ++ words_text ws) none
    ∙ append-nil (lines_text lines) ∙ ap lines_text same
finished_is Between (Some program) lines found words word text took e = absurd cc
finished_is AtWord program lines found words word text took e = absurd cc
finished_is Bare program lines found words word text took e = absurd cc
finished_is Quoted program lines found words word text took e = absurd cc
finished_is Escaped program lines found words word text took e = absurd cc
finished_is Bar program lines found words word text took e = absurd cc
finished_is Wrong program lines found words word text took e = absurd cc

-- a text that the reader accepts shows the lines
pub read_is_shown : (text : List ℕ) (lines : List PlanLine) → lines_read text ≡ Some lines → Shows text lines
read_is_shown text lines e =
    let last : LineReader = read r.start text in
    let is : text ≡ lines_text lines =
    finished_is last.standing last.program last.lines lines last.words last.word text (read_takes r.start [] text (refl, refl, refl)) e in
    let P : List ℕ → Type 0 = λ t. Shows t lines in
    subst P (sym is) (shows_lines lines)

-- the reader finds the lines that the text shows
pub found_is_shown : (text : List ℕ) (found : Option (List PlanLine)) → found ≡ lines_read text → IfSome found (λ lines. Shows text lines)
found_is_shown text None e = tt
found_is_shown text (Some lines) e = read_is_shown text lines (sym e)
