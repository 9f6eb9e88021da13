use Rattle.drv_words.specs.Printed.{Escapes, Shows, ShowsEnd, ShowsWord, ShowsWords, bare, in_quotes, into_next, is_bare, is_plain}
use Rattle.drv_words.specs.Printed.{is_special, line, no_byte, no_line, no_pipe, no_word, one_more, other, special}
use Rattle.drv_words.specs.Code.LineReader as r
use Rattle.drv_words.specs.Code.LineReader.{inside, lines_read, longer, read, step, with_word}
use Rattle.drv_words.specs.declared.plan.PlanLine.{PlanLine}
use Rattle.drv_words.specs.declared.reading_back.Standing.{Standing}
use Rattle.drv_words.specs.declared.reading_back.Standing.TheVariants.{AtWord, Bare, Between, Escaped, Quoted, Wrong}
use Rattle.drv_words.specs.declared.reading_back.LineReader.{LineReader}
use Rattle.std.proofs.Common.{◌≡◌, ◌||◌, ◌&&◌, ◌==◌, Bool, false, true, List, [], ◌∷◌, ◌++◌, None, Option, Some, length, nat_lt}
use Rattle.std.proofs.Common.{if◌then◌else◌, refl, sym, ap, ◌∙◌, append_assoc, ℕ}
use Rattle.std.proofs.lemmas.List.{append-nil}
use Rattle.std.proofs.Math.Seq.{append_snoc}
use Rattle.std.specs.List.{list_all}

-- For `read_back`: reading a printed text gives its lines. The reader goes over the text as a derivation of `Shows` is built.
-- Names: `text` is a text, as a list of bytes. `words` is the words so far, or those that are found. `word` is one word. `rest` is the text
-- that follows. `lines` is the lines of a plan. `program` is the program of the line that is read, once it has one. `next` is the text
-- after the word. `b` is one byte. `front` is the part of the word, or the lines, before those at hand. `read reader text` is the reader
-- after the text. `Shows text lines` says, by the grammar, that the text shows these lines. `ShowsWords` says that the text shows these
-- words, each after a blank. `longer reader b place` adds a byte to the word at hand. `is_plain`: a letter, a digit or one of ./-_.
-- `with_word`: the word at hand is complete. `inside`: a byte in quotes. Numbers are bytes: 10 is a newline, 32 a blank, 34 ", 92 a
-- backslash, 124 |.

-- a reader that has these lines, program, words and word so far, at this place of a line
abbrev pub at : List PlanLine → Option (List ℕ) → List (List ℕ) → List ℕ → Standing → LineReader
at lines program words word place = record { lines = lines; program = program; words = words; word = word; standing = place }

-- a text is read in two parts, one after the other
pub read-append : (reader : LineReader) (a b : List ℕ) → read reader (a ++ b) ≡ read (read reader a) b
read-append reader [] b = refl
read-append reader (x ∷ a) b = read-append (step reader x) a b

-- in quotes a byte that is not special joins the word
inside_other : (reader : LineReader) (b : ℕ) → is_special b ≡ false → inside reader b ≡ longer reader b reader.standing
inside_other reader b e = by (b == 34) (b == 92) (b == 36) e
  where
    -- Plan: by the three special bytes: this one is none of them.
    by : (quote backslash dollar : Bool) → (quote || backslash || dollar) ≡ false
        → (if backslash then r.placed reader Escaped else if quote then r.closed reader else if dollar then r.placed reader
        Wrong else longer reader b reader.standing) ≡ longer reader b reader.standing
    by false false false h = refl
    by false false true h = cc
    by false true d h = cc
    by true q d h = cc

-- in quotes the escaped bytes of a word are read as the word
escapes_read : {text word : List ℕ} → Escapes text word → (lines : List PlanLine) (program : Option (List ℕ)) (words : List (List ℕ))
    (front : List ℕ)
    → read (at lines program words front Quoted) text ≡ at lines program words (front ++ word) Quoted
escapes_read no_byte lines program words front = ap (λ w. at lines program words w Quoted) (sym (append-nil front))
escapes_read (other {b} {text} {word} e rest) lines program words front =
    ap (λ s. read s text) (inside_other (at lines program words front Quoted) b e)
    ∙ escapes_read rest lines program words (front ++ b ∷ [])
    ∙ ap (λ w. at lines program words w Quoted) (append_snoc front b word)
escapes_read (special {b} {text} {word} e rest) lines program words front =
    rw e (escapes_read rest lines program words (front ++ b ∷ []) ∙ ap (λ w. at lines program words w Quoted) (append_snoc front b word))

-- two tests that hold together, hold each
and_both : (a b : Bool) → (a && b) ≡ true → (a ≡ true) × (b ≡ true)
and_both true b e = (refl, e)
and_both false b e = absurd cc

-- the bytes of a bare word are read as the word
bytes_read : (word : List ℕ) → list_all is_plain word ≡ true → (lines : List PlanLine) (program : Option (List ℕ)) (words : List (List ℕ))
    (front : List ℕ)
    → read (at lines program words front Bare) word ≡ at lines program words (front ++ word) Bare
bytes_read [] e lines program words front = ap (λ w. at lines program words w Bare) (sym (append-nil front))
bytes_read (b ∷ word) e lines program words front =
    let both : (is_plain b ≡ true) × (list_all is_plain word ≡ true) = and_both _ _ e in
    rw both.0 (bytes_read word both.1 lines program words (front ++ b ∷ []) ∙ ap (λ w. at lines program words w Bare)
    (append_snoc front b word))

-- the text goes on with a byte that no bare word has
record Ends (text : List ℕ) : Type 0 where
  first : ℕ
  rest : List ℕ
  is : text ≡ first ∷ rest
  unplain : is_plain first ≡ false

-- after a word has ended, it doesn't matter which kind of word it was
between_anywhere : (lines : List PlanLine) (program : Option (List ℕ)) (words : List (List ℕ)) (word : List ℕ) (b : ℕ)
    → r.between (with_word (at lines program words word Bare)) b ≡ r.between (with_word (at lines program words word Between)) b
between_anywhere lines None words word b = by (b == 32) (b == 10)
  where
    -- Plan: by whether the byte is a blank or a newline.
    by : (space newline : Bool)
        → (if space then at lines (Some word) words [] AtWord else if newline then r.with_line (at lines (Some word) words [] Bare)
        false else at lines (Some word) words [] Wrong)
        ≡ (if space then at lines (Some word) words [] AtWord else if newline then r.with_line (at lines (Some word) words [] Between)
        false else at lines (Some word) words [] Wrong)
    by true newline = refl
    by false true = refl
    by false false = refl
between_anywhere lines (Some program) words word b = by (b == 32) (b == 10)
  where
    -- Plan: by the same; `more` is the words with the one that has ended.
    more : List (List ℕ)
    more = words ++ word ∷ []

    by : (space newline : Bool)
        → (if space then at lines (Some program) (words ++ word ∷ []) [] AtWord else if newline then r.with_line
        (at lines (Some program) (words ++ word ∷ []) [] Bare) false else at lines (Some program) (words ++ word ∷ []) [] Wrong)
        ≡ (if space then at lines (Some program) (words ++ word ∷ []) [] AtWord else if newline then r.with_line
        (at lines (Some program) (words ++ word ∷ []) [] Between) false else at lines (Some program) (words ++ word ∷ []) [] Wrong)
    by true newline = refl
    by false true = refl
    by false false = refl

-- a plain byte begins a bare word
word_begins : (b : ℕ) → is_plain b ≡ true → (lines : List PlanLine) (program : Option (List ℕ)) (words : List (List ℕ))
    → r.at_word (at lines program words [] AtWord) b ≡ at lines program words (b ∷ []) Bare
word_begins b e lines program words = rw e refl

-- a bare word with the space before it
bare_read : (word next : List ℕ) → is_bare word ≡ true → Ends next → (lines : List PlanLine) (program : Option (List ℕ))
    (words : List (List ℕ))
    → read (at lines program words [] AtWord) (word ++ next) ≡ read (with_word (at lines program words word Between)) next
bare_read [] next e ends lines program words = absurd cc
bare_read (b ∷ word) next e ends lines program words =
    let plain : list_all is_plain (b ∷ word) ≡ true = (and_both (nat_lt 0 (length (b ∷ word))) (list_all is_plain (b ∷ word)) e).1 in
    let both : (is_plain b ≡ true) × (list_all is_plain word ≡ true) = and_both (is_plain b) (list_all is_plain word) plain in
    ap (λ s. read s (word ++ next)) (word_begins b both.0 lines program words)
    ∙ read-append (at lines program words (b ∷ []) Bare) word next
    ∙ ap (λ s. read s next) (bytes_read word both.1 lines program words (b ∷ []))
    ∙ ended (b ∷ word) next ends lines program words
  where
    -- Plan: a plain byte makes the word longer (`stepped`); what may come after a word ends it (`ended`).
    stepped : (word : List ℕ) (first : ℕ) (rest : List ℕ) → is_plain first ≡ false → (lines : List PlanLine) (program : Option (List ℕ))
        (words : List (List ℕ))
        → read (at lines program words word Bare) (first ∷ rest) ≡ read (with_word (at lines program words word Between)) (first ∷ rest)
    stepped word first rest e lines None words = rw e (ap (λ s. read s rest) (between_anywhere lines None words word first))
    stepped word first rest e lines (Some program) words = rw e
        (ap (λ s. read s rest) (between_anywhere lines (Some program) words word first))

    ended : (word next : List ℕ) → Ends next → (lines : List PlanLine) (program : Option (List ℕ)) (words : List (List ℕ))
        → read (at lines program words word Bare) next ≡ read (with_word (at lines program words word Between)) next
    ended word next ends lines program words =
        ap (λ t. read (at lines program words word Bare) t) ends.is
        ∙ stepped word ends.first ends.rest ends.unplain lines program words
        ∙ sym (ap (λ t. read (with_word (at lines program words word Between)) t) ends.is)

-- a printed word in quotes, with what ends it after it, is read as the word
quoted_read : {text word : List ℕ} → is_bare word ≡ false → Escapes text word
    → (next : List ℕ) (lines : List PlanLine) (program : Option (List ℕ)) (words : List (List ℕ))
    → read (at lines program words [] AtWord) ((34 ∷ text ++ 34 ∷ []) ++ next) ≡ read (with_word (at lines program words word Between)) next
quoted_read {text} {word} e inside next lines program words =
    ap (λ t. read (at lines program words [] Quoted) t) (append_assoc text (34 ∷ []) next)
    ∙ read-append (at lines program words [] Quoted) text (34 ∷ next)
    ∙ ap (λ s. read s (34 ∷ next)) (escapes_read inside lines program words [])
    ∙ close program
  where
    -- the closing quote ends the quoted text
    close : (program : Option (List ℕ)) → read (at lines program words word Quoted) (34 ∷ next)
        ≡ read (with_word (at lines program words word Between)) next
    close None = rw e refl
    close (Some program) = rw e refl

-- a printed word, before what may end it, is read as that word
word_read : {text word : List ℕ} → ShowsWord text word → (next : List ℕ) → Ends next → (lines : List PlanLine) (program : Option (List ℕ))
    (words : List (List ℕ))
    → read (at lines program words [] AtWord) (text ++ next) ≡ read (with_word (at lines program words word Between)) next
word_read (bare {word} e) next ends lines program words = bare_read word next e ends lines program words
word_read (in_quotes e inside) next ends lines program words = quoted_read e inside next lines program words

-- after a word comes a space, or the end of the words
words_end : {text : List ℕ} {words : List (List ℕ)} → ShowsWords text words → (next : List ℕ) → Ends next → Ends (text ++ next)
words_end no_word next ends = ends
words_end (one_more {text} {word} {rest} first others) next ends =
    record { first = 32; rest = (text ++ rest) ++ next; is = refl; unplain = refl }

-- printed words are read as these words
words_read : {text : List ℕ} {words : List (List ℕ)} → ShowsWords text words → (next : List ℕ) → Ends next
    → (lines : List PlanLine) (program : List ℕ) (front : List (List ℕ))
    → read (at lines (Some program) front [] Between) (text ++ next) ≡ read (at lines (Some program) (front ++ words) [] Between) next
words_read no_word next ends lines program front = ap (λ ws. read (at lines (Some program) ws [] Between) next) (sym (append-nil front))
words_read (one_more {text} {word} {rest} {words} first others) next ends lines program front =
    ap (λ t. read (at lines (Some program) front [] AtWord) t) (append_assoc text rest next)
    ∙ word_read first (rest ++ next) (words_end others next ends) lines (Some program) front
    ∙ words_read others next ends lines program (front ++ word ∷ [])
    ∙ ap (λ ws. read (at lines (Some program) ws [] Between) next) (append_snoc front word words)

-- the end of a printed line is read: the line is complete
end_read : {end : List ℕ} {piped : Bool} → ShowsEnd end piped → (rest : List ℕ) (lines : List PlanLine) (program : List ℕ)
    (words : List (List ℕ))
    → Ends (end ++ rest) × (read (at lines (Some program) words [] Between) (end ++ rest)
    ≡ read (at (lines ++ record { command = record { program = program; words = words }; piped = piped } ∷ []) None [] [] Between) rest)
end_read into_next rest lines program words = (record { first = 32; rest = 124 ∷ 10 ∷ rest; is = refl; unplain = refl }, refl)
end_read no_pipe rest lines program words = (record { first = 10; rest = rest; is = refl; unplain = refl }, refl)

-- a printed line is read as that line
line_read : {text end : List ℕ} {program : List ℕ} {words : List (List ℕ)} {piped : Bool} → ShowsWords text (program ∷ words)
    → ShowsEnd end piped → (rest : List ℕ) (lines : List PlanLine)
    → read (at lines None [] [] Between) (text ++ end ++ rest)
    ≡ read (at (lines ++ record { command = record { program = program; words = words }; piped = piped } ∷ []) None [] [] Between) rest
line_read {end = end} (one_more {text} {word} {rest} {words} first shown) ends tail lines =
    let ending = end_read ends tail lines word words in
    ap (λ t. read (at lines None [] [] AtWord) t) (append_assoc (text ++ rest) end tail ∙ append_assoc text rest (end ++ tail))
    ∙ word_read first (rest ++ (end ++ tail)) (words_end shown (end ++ tail) ending.0) lines None []
    ∙ words_read shown (end ++ tail) ending.0 lines word []
    ∙ ending.1

-- printed lines are read as these lines
lines_are_read : {text : List ℕ} {lines : List PlanLine} → Shows text lines → (front : List PlanLine)
    → read (at front None [] [] Between) text ≡ at (front ++ lines) None [] [] Between
lines_are_read no_line front = ap (λ ls. at ls None [] [] Between) (sym (append-nil front))
lines_are_read (line {words} {end} {rest} {l} {lines} shown ends others) front =
    line_read shown ends rest front
    ∙ lines_are_read others (front ++ l ∷ [])
    ∙ ap (λ ls. at ls None [] [] Between) (append_snoc front l lines)

-- the reader returns the lines that a text shows
pub reads_shown : {text : List ℕ} {lines : List PlanLine} → Shows text lines → lines_read text ≡ Some lines
reads_shown shown = ap r.finished (lines_are_read shown [])

-- so a text shows at most one list of lines
pub one_list : (text : List ℕ) (a b : List PlanLine) → Shows text a → Shows text b → a ≡ b
one_list text a b shows_a shows_b = let same : Some a ≡ Some b = sym (reads_shown shows_a) ∙ reads_shown shows_b in cc

-- the reader finds every list of lines that a text shows
pub shown_is_found : (text : List ℕ) (found : Option (List PlanLine)) → found ≡ lines_read text → (lines : List PlanLine) → Shows text lines
    → found ≡ Some lines
shown_is_found text found e lines shown = e ∙ reads_shown shown
