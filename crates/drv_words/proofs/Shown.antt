use Rattle.drv_words.specs.Printed.{Escapes, Shows, ShowsEnd, ShowsWord, ShowsWords, bare, end_text, escaped, in_quotes, into_next, is_bare}
use Rattle.drv_words.specs.Printed.{is_special, line, line_text, lines_text, no_byte, no_line, no_pipe, no_word, one_more, other, quoted}
use Rattle.drv_words.specs.Printed.{special, words_text}
use Rattle.drv_words.specs.declared.plan.PlanLine.{PlanLine}
use Rattle.std.proofs.Common.{◌≡◌, Bool, false, true, List, [], ◌∷◌, ◌++◌, if◌then◌else◌, refl, sym, subst, ap, ◌∙◌, ℕ}

-- For `render` and `read_back`: the grammar of printed lines agrees with the functions that print them.
-- Names: `text` is a text, as a list of bytes. `word` is one word. `lines` is the lines of a plan. `ShowsWord text word` says that the text
-- shows this word. `Shows text lines` says, by the grammar, that the text shows these lines. `quoted word` is a word as it is printed.
-- `Escapes`: the text between the quotes shows the bytes of a word. `lines_text`: the text of all lines. `words_text`: each word has a
-- blank before it. Numbers are bytes: 32 is a blank, 34 ", 92 a backslash.

-- the escaped text shows the bytes
pub escapes_of : (word : List ℕ) → Escapes (escaped word) word
escapes_of [] = no_byte
escapes_of (b ∷ word) = by (is_special b) refl (escapes_of word)
  where
    by : (t : Bool) → is_special b ≡ t → Escapes (escaped word) word
        → Escapes (if t then 92 ∷ b ∷ escaped word else b ∷ escaped word) (b ∷ word)
    by true e rest = special e rest
    by false e rest = other e rest

-- the printed form of a word shows it
pub shows_word : (word : List ℕ) → ShowsWord (quoted word) word
shows_word word = by (is_bare word) refl
  where
    by : (t : Bool) → is_bare word ≡ t → ShowsWord (if t then word else 34 ∷ escaped word ++ 34 ∷ []) word
    by true e = bare e
    by false e = in_quotes e (escapes_of word)

-- words, as the functions print them, are so by the grammar
pub shows_words : (words : List (List ℕ)) → ShowsWords (words_text words) words
shows_words [] = no_word
shows_words (word ∷ words) = one_more (shows_word word) (shows_words words)

-- and the end of a line
pub shows_end : (piped : Bool) → ShowsEnd (end_text piped) piped
shows_end true = into_next
shows_end false = no_pipe

-- the text of lines shows them
pub shows_lines : (lines : List PlanLine) → Shows (lines_text lines) lines
shows_lines [] = no_line
shows_lines (l ∷ lines) = line (shows_words (l.command.program ∷ l.command.words)) (shows_end l.piped) (shows_lines lines)

-- a text that shows something is the printed text
pub text_of_escapes : {text word : List ℕ} → Escapes text word → text ≡ escaped word
text_of_escapes no_byte = refl
text_of_escapes (other {b} e rest) = rw e (ap (λ t. b ∷ t) (text_of_escapes rest))
text_of_escapes (special {b} e rest) = rw e (ap (λ t. 92 ∷ b ∷ t) (text_of_escapes rest))

-- a text that shows a word by the grammar is what the function prints
pub text_of_word : {text word : List ℕ} → ShowsWord text word → text ≡ quoted word
text_of_word (bare e) = rw e refl
text_of_word (in_quotes e inside) = rw e (ap (λ t. 34 ∷ t ++ 34 ∷ []) (text_of_escapes inside))

-- the same of words
pub text_of_words : {text : List ℕ} {words : List (List ℕ)} → ShowsWords text words → text ≡ words_text words
text_of_words no_word = refl
text_of_words (one_more {text} {word} {rest} {words} first others) =
    ap (λ t. 32 ∷ t ++ rest) (text_of_word first) ∙ ap (λ t. 32 ∷ quoted word ++ t) (text_of_words others)

-- of the end of a line
pub text_of_end : {text : List ℕ} {piped : Bool} → ShowsEnd text piped → text ≡ end_text piped
text_of_end into_next = refl
text_of_end no_pipe = refl

-- and of lines
pub text_of_lines : {text : List ℕ} {lines : List PlanLine} → Shows text lines → text ≡ lines_text lines
text_of_lines no_line = refl
text_of_lines (line {words} {end} {rest} {l} {lines} shown ends others) =
    ap (λ t. t ++ end ++ rest) (text_of_words shown)
    ∙ ap (λ t. words_text (l.command.program ∷ l.command.words) ++ t ++ rest) (text_of_end ends)
    ∙ ap (λ t. line_text l ++ t) (text_of_lines others)

-- the printed text of lines shows them, and no other text does
pub shown_text : (text : List ℕ) (lines : List PlanLine) → text ≡ lines_text lines → Shows text lines
shown_text text lines e = let P : List ℕ → Type 0 = λ t. Shows t lines in subst P (sym e) (shows_lines lines)

-- a text that is the printed word shows it
pub shown_word : (text word : List ℕ) → text ≡ quoted word → ShowsWord text word
shown_word text word e = let P : List ℕ → Type 0 = λ t. ShowsWord t word in subst P (sym e) (shows_word word)
