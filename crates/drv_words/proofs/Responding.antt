use Rattle.drv_words.specs.Response.{ArePieces, Splits, at_space, escaped, is_marked, is_quote, is_space, marked, more, no_more, nothing}
use Rattle.drv_words.specs.Response.{one_word, plain, quoted, response, response_text, run_closed, space}
use Rattle.std.proofs.Common.{◌≡◌, ◌||◌, ◌==◌, Bool, false, true, List, [], ◌∷◌, ◌++◌, if◌then◌else◌, refl, sym, subst, append_assoc, ℕ}

-- For `respond_text`: splitting the response text of words gives the words back.
-- Names: `words` is the words so far, or those that are found. `Splits text words` says, by the grammar, that the text means these words.
-- `ArePieces`: pieces to the end of the word. `is_marked`: the bytes that need a backslash. `response_text`: each word has a newline after
-- it. Numbers are bytes: 10 is a newline, 92 a backslash.

-- if none of three tests holds, each fails
none_of : (a b c : Bool) → (a || b || c) ≡ false → (a ≡ false) × (b ≡ false) × (c ≡ false)
none_of false false c e = (refl, refl, e)
none_of false true c e = absurd cc
none_of true b c e = absurd cc

-- the rest of a word up to its newline
marked_pieces : (word rest : List ℕ) → ArePieces (marked word ++ 10 ∷ rest) word (10 ∷ rest)
marked_pieces [] rest = no_more (at_space refl)
marked_pieces (b ∷ word) rest = by (is_marked b) refl (marked_pieces word rest)
  where
    by : (mark : Bool) → is_marked b ≡ mark → ArePieces (marked word ++ 10 ∷ rest) word (10 ∷ rest)
        → ArePieces ((if mark then 92 ∷ b ∷ marked word else b ∷ marked word) ++ 10 ∷ rest) (b ∷ word) (10 ∷ rest)
    by true e pieces = more escaped pieces
    by false e pieces = let no = none_of (is_space b) (is_quote b) (b == 92) e in more (plain no.0 no.1 no.2) pieces

-- the response text of a word, with a newline after it, is split into that word
word_splits : (word rest : List ℕ) (words : List (List ℕ)) → Splits rest words → Splits (response word ++ 10 ∷ rest) (word ∷ words)
word_splits [] rest words others = one_word (quoted refl run_closed) (no_more (at_space refl)) (space refl others)
word_splits (b ∷ word) rest words others = by (is_marked b) refl
  where
    by : (mark : Bool) → is_marked b ≡ mark → Splits ((if mark then 92 ∷ b ∷ marked word else b ∷ marked word) ++ 10 ∷ rest)
        ((b ∷ word) ∷ words)
    by true e = one_word escaped (marked_pieces word rest) (space refl others)
    by false e =
        let no = none_of (is_space b) (is_quote b) (b == 92) e in
        one_word (plain no.0 no.1 no.2) (marked_pieces word rest) (space refl others)

-- the response text of words is split into these words
response_splits : (words : List (List ℕ)) → Splits (response_text words) words
response_splits [] = nothing
response_splits (word ∷ words) =
    let P : List ℕ → Type 0 = λ t. Splits t (word ∷ words) in
    subst P (sym (append_assoc (response word) (10 ∷ []) (response_text words))) (word_splits word (response_text words) words
    (response_splits words))

-- so a text that is their response text means these words
pub shown_response : (text : List ℕ) (words : List (List ℕ)) → text ≡ response_text words → Splits text words
shown_response text words e = let P : List ℕ → Type 0 = λ t. Splits t words in subst P (sym e) (response_splits words)
