use Rattle.drv_words.proofs.Splitting.{split_is_onto, splits_split}
use Rattle.drv_words.specs.Code.Splitter.{ended, following, opened, step, step_in, with_byte, word_ended, words_of}
use Rattle.drv_words.specs.Counts.{words_in}
use Rattle.drv_words.specs.Response.{Splits, SplitsOnto, is_quote, is_space}
use Rattle.drv_words.specs.declared.response.Splitter.{Splitter}
use Rattle.std.proofs.Common.{arith, ◌≡◌, ◌+◌, ◌-◌, ◌<◌, ◌≤◌, ◌==◌, Bool, false, true, List, [], ◌∷◌, ◌++◌, None, Option, Some, refl, sym}
use Rattle.std.proofs.Common.{ap, ◌∙◌}
use Rattle.std.proofs.Common.{IsTrue, if◌then◌else◌, length, nat_le, nat_lt, not, ℕ}
use Rattle.std.proofs.lemmas.Bool.{eqb-true}
use Rattle.std.proofs.lemmas.Bool.Decides.{nat_tests}
use Rattle.std.proofs.lemmas.List.{length-append}

-- For `split_within`: the words that are made become no fewer, and their number is that of the text's words.
-- Names: `text` is a text, as a list of bytes. `words` is the words so far, or those that are found. `s` is the splitter between two bytes.
-- `made` is the words that were made, and `most` how many may be. `words_of s text` is the words that the splitter `s` makes of the text.
-- `following words` is the splitter that adds to these words. `SplitsOnto` says that the words of a text were put after others. `words_in`:
-- the number of words of a response file's text. `with_byte`: the splitter with one more byte of the word.

-- the end of a word takes none away
ended_grows : (word : Option (List ℕ)) (s : Splitter) → length s.words ≤ length (word_ended word s).words
ended_grows None s = omega arith
ended_grows (Some word) s = omega (arith, length-append s.words (word ∷ []))

-- nor does a byte
step_grows : (s : Splitter) (b : ℕ) → length s.words ≤ length (step s b).words
step_grows s b = by s.escaped s.quote
  where
    -- Plan: by where the splitter is: after a backslash, in quotes (`quoted`), or outside (`plain`); a word may end, and none goes.
    same : length s.words ≤ length s.words
    same = omega arith

    quoted : (slash closes : Bool)
        → length s.words ≤ length (if slash then record s { escaped = true } else if closes then record s { quote = None }
        else with_byte s b).words
    quoted true closes = same
    quoted false true = same
    quoted false false = same

    -- outside quotes: a word ends, or takes one byte more
    plain : (space slash quote : Bool)
        → length s.words ≤ length (if space then ended s else if slash then record (opened s) { escaped = true } else if quote
        then record (opened s) { quote = Some b } else with_byte s b).words
    plain true slash quote = ended_grows s.word s
    plain false true quote = same
    plain false false true = same
    plain false false false = same

    by : (escaped : Bool) (quote : Option ℕ)
        → length s.words ≤ length (if escaped then record (with_byte s b) { escaped = false } else step_in quote s b).words
    by true quote = same
    by false (Some mark) = quoted (b == 92) (b == mark)
    by false None = plain (is_space b) (b == 92) (is_quote b)

-- nor does a text
pub words_grow : (s : Splitter) (text : List ℕ) → length s.words ≤ length (words_of s text)
words_grow s [] = ended_grows s.word s
words_grow s (b ∷ text) = omega (arith, step_grows s b, words_grow (step s b) text)

-- at the end of a text the splitter has all its words
pub ends_all : (s : Splitter) (text : List ℕ) → true ≡ (length text == 0) → length (ended s).words ≡ length (words_of s text)
ends_all s [] e = refl
ends_all s (b ∷ text) e = omega (arith, eqb-true (length (b ∷ text)) 0 (sym e))

-- the words that the grammar gives are as many as those that the code counts
pub counted : (text : List ℕ) (words : List (List ℕ)) → Splits text words → length words ≡ words_in text
counted text words splits = ap length (sym (splits_split splits []))

-- the words that a text adds to others
pub added : (text : List ℕ) (words : List (List ℕ)) → length (words_of (following words) text) - length words ≡ words_in text
added text words =
    let onto : SplitsOnto text words (words_of (following words) text) = split_is_onto text words _ refl in
    let is : length (words_of (following words) text) ≡ length words + length onto.0 = ap length onto.1 ∙ length-append words onto.0 in
    omega (arith, is, counted text onto.0 onto.2)

-- words that were made of the text, no further than to one more than are permitted
pub within : (text : List ℕ) (words made : List (List ℕ)) (most : ℕ)
    → (length made - length words ≤ most → made ≡ words_of (following words) text)
    → (most < length made - length words → most < length (words_of (following words) text) - length words)
    → nat_le (length made - length words) most ≡ not (nat_lt most (words_in text))
within text words made most all more = by (nat_le (length made - length words) most) refl
  where
    -- Plan: by whether the words that were made are few enough: then they are all, else the text has more.
    by : (fits : Bool) → nat_le (length made - length words) most ≡ fits → fits ≡ not (nat_lt most (words_in text))
    by true is =
        let few : length made - length words ≤ most = grind (arith, nat_tests, is) in
        let same : length made ≡ length (words_of (following words) text) = ap length (all few) in
        grind (arith, nat_tests, few, same, added text words)
    by false is =
        let many : most < length made - length words = grind (arith, nat_tests, is) in
        grind (arith, nat_tests, more many, added text words)

-- if the words that were made fit, they are all words of the text
pub fitting : (text : List ℕ) (words made : List (List ℕ)) (most : ℕ)
    → (length made - length words ≤ most → made ≡ words_of (following words) text)
    → IsTrue (nat_le (length made - length words) most) → SplitsOnto text words made
fitting text words made most all fits =
    let few : length made - length words ≤ most = grind (arith, nat_tests, fits) in
    split_is_onto text words made (all few)
