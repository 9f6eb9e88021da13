use Rattle.drv_words.specs.Response.{ArePieces, EndsWord, IsPiece, IsRun, Splits, SplitsOnto, at_end, at_space, backslash, escaped}
use Rattle.drv_words.specs.Response.{is_quote, is_space, more, no_more, nothing, one_word, plain, quoted, run_backslash, run_closed}
use Rattle.drv_words.specs.Response.{run_escaped, run_plain, run_unclosed, space}
use Rattle.drv_words.specs.Code.Splitter.{following, open_word, words_of}
use Rattle.drv_words.specs.declared.response.Splitter.{Splitter}
use Rattle.std.proofs.Common.{◌≡◌, ◌||◌, ◌==◌, Bool, false, true, List, [], ◌∷◌, ◌++◌, None, Option, Some, refl, sym, subst, ap, ◌∙◌}
use Rattle.std.proofs.Common.{append_assoc, ℕ}
use Rattle.std.proofs.Math.Seq.{append_snoc}
use Rattle.std.proofs.lemmas.Bool.{eq-eqb, eqb-true}
use Rattle.std.proofs.lemmas.List.{append-nil}

-- For `split` and `split_onto`: the splitter agrees with the grammar of response text.
-- Names: `text` is a text, as a list of bytes. `words` is the words so far, or those that are found. `word` is one word. `rest` is the text
-- that follows. `b` is one byte. `mark` is a byte: a quotation mark, or the one that a search looks for. `words_of s text` is the words
-- that the splitter `s` makes of the text. `Splits text words` says, by the grammar, that the text means these words. `following words` is
-- the splitter that adds to these words. `open_word` is the word that is open, or an empty one. `is_space`: tab to carriage return, and
-- space. Numbers are bytes: 34 is ", 39 ', 92 a backslash.

-- a splitter with these words, perhaps an open word and a quotation mark, perhaps after a backslash
abbrev at : List (List ℕ) → Option (List ℕ) → Option ℕ → Bool → Splitter
at words word quote marked = record { words = words; word = word; quote = quote; escaped = marked }

-- Reading the text of a derivation leads to the state after it.

-- the bytes in quotes join the word, up to the closing mark
run_splits : {mark : ℕ} {text bytes rest : List ℕ} → IsRun mark text bytes rest → (mark == 92) ≡ false
    → (words : List (List ℕ)) (word : List ℕ)
    → words_of (at words (Some word) (Some mark) false) text ≡ words_of (at words (Some (word ++ bytes)) None false) rest
run_splits (run_closed {mark} {rest}) m words word =
    rw (m, same mark) (ap (λ w. words_of (at words (Some w) None false) rest) (sym (append-nil word)))
  where
    same : (n : ℕ) → (n == n) ≡ true
    same n = eq-eqb n n refl
run_splits run_unclosed m words word = ap (λ w. words ++ w ∷ []) (sym (append-nil word))
run_splits run_backslash m words word = ap (λ w. words ++ w ∷ []) (sym (append-nil word))
run_splits (run_escaped {mark} {b} {text} {bytes} {rest} run) m words word =
    run_splits run m words (word ++ b ∷ []) ∙ ap (λ w. words_of (at words (Some w) None false) rest) (append_snoc word b bytes)
run_splits (run_plain {mark} {b} {text} {bytes} {rest} e f run) m words word =
    rw (f, e) (run_splits run m words (word ++ b ∷ []) ∙ ap (λ w. words_of (at words (Some w) None false) rest) (append_snoc word b bytes))

-- a quotation mark is neither a blank nor a backslash
quote_is : (b : ℕ) → is_quote b ≡ true → (is_space b ≡ false) × ((b == 92) ≡ false)
quote_is b e = by (b == 39) refl (b == 34) refl e
  where
    by : (single : Bool) → (b == 39) ≡ single → (double : Bool) → (b == 34) ≡ double → (single || double) ≡ true
        → (is_space b ≡ false) × ((b == 92) ≡ false)
    by true f double g h = (ap is_space (eqb-true b 39 f), ap (λ c. c == 92) (eqb-true b 39 f))
    by false f true g h = (ap is_space (eqb-true b 34 g), ap (λ c. c == 92) (eqb-true b 34 g))
    by false f false g h = absurd cc

-- a piece of a word (a plain byte, an escaped one, a quoted run) joins the word
piece_splits : {text bytes rest : List ℕ} → IsPiece text bytes rest → (words : List (List ℕ)) (word : Option (List ℕ))
    → words_of (at words word None false) text ≡ words_of (at words (Some (open_word word ++ bytes)) None false) rest
piece_splits (plain {b} {rest} s q e) words word = rw (s, e, q) refl
piece_splits escaped words word = refl
piece_splits backslash words word = ap (λ w. words ++ w ∷ []) (sym (append-nil (open_word word)))
piece_splits (quoted {mark} {text} {bytes} {rest} q run) words word =
    let no : (is_space mark ≡ false) × ((mark == 92) ≡ false) = quote_is mark q in
    rw (no.0, no.1, q) (run_splits run no.1 words (open_word word))

-- what ends a word ends it for the splitter
end_splits : {rest : List ℕ} → EndsWord rest → (words : List (List ℕ)) (word : List ℕ)
    → words_of (at words (Some word) None false) rest ≡ words_of (at (words ++ word ∷ []) None None false) rest
end_splits at_end words word = refl
end_splits (at_space {b} {rest} s) words word = rw s refl

-- all pieces of a word make that word
pieces_split : {text word rest : List ℕ} → ArePieces text word rest → (words : List (List ℕ)) (front : List ℕ)
    → words_of (at words (Some front) None false) text ≡ words_of (at (words ++ (front ++ word) ∷ []) None None false) rest
pieces_split (no_more {rest} ends) words front =
    end_splits ends words front ∙ ap (λ w. words_of (at (words ++ w ∷ []) None None false) rest) (sym (append-nil front))
pieces_split (more {text} {bytes} {mid} {word} {rest} piece pieces) words front =
    piece_splits piece words (Some front) ∙ pieces_split pieces words (front ++ bytes)
    ∙ ap (λ w. words_of (at (words ++ w ∷ []) None None false) rest) (append_assoc front bytes word)

-- what the grammar says of a text is what the splitter makes of it
pub splits_split : {text : List ℕ} {words : List (List ℕ)} → Splits text words → (front : List (List ℕ))
    → words_of (at front None None false) text ≡ front ++ words
splits_split nothing front = sym (append-nil front)
splits_split (space {b} {rest} {words} s others) front = rw s (splits_split others front)
splits_split (one_word {text} {bytes} {mid} {word} {rest} {words} piece pieces others) front =
    piece_splits piece front None ∙ pieces_split pieces front bytes ∙ splits_split others (front ++ (bytes ++ word) ∷ [])
    ∙ append_snoc front (bytes ++ word) words

-- The grammar splits every text: what can follow, at each point of a text.

-- A text begins with a piece of a word, and the rest goes on. The first `piece` has these `bytes` and leaves `mid`. `pieces` read the rest
-- of the `word` from `mid`, and leave `rest`. `others` are the `words` of that.
record Begun (text : List ℕ) : Type 0 where
  bytes : List ℕ
  mid : List ℕ
  word : List ℕ
  rest : List ℕ
  words : List (List ℕ)
  piece : IsPiece text bytes mid
  pieces : ArePieces mid word rest
  others : Splits rest words

-- A text goes on with the rest of a word, and then other words follow. `pieces` read the rest of the `word`, and leave `rest`. `others` are
-- the `words` of that.
record Went (text : List ℕ) : Type 0 where
  word : List ℕ
  rest : List ℕ
  words : List (List ℕ)
  pieces : ArePieces text word rest
  others : Splits rest words

-- a text goes on with the bytes in quotes, up to the closing mark
record Ran (mark : ℕ) (text : List ℕ) : Type 0 where
  bytes : List ℕ
  mid : List ℕ
  run : IsRun mark text bytes mid
  went : Went mid

-- The words of a text by the grammar, and how it goes on within a word. `splits` gives its `words`. `went` reads it within a word, and
-- `ran` within quotes. `following` and `ran_after` do the same with a backslash in front.
record Goes (text : List ℕ) : Type 0 where
  words : List (List ℕ)
  splits : Splits text words
  went : Went text
  ran : (mark : ℕ) → Ran mark text
  following : Begun (92 ∷ text)
  ran_after : (mark : ℕ) → Ran mark (92 ∷ text)

-- a text that begins with a piece goes on within a word
begun_goes : {text : List ℕ} → Begun text → Went text
begun_goes begun = record {
  word = begun.bytes ++ begun.word;
  rest = begun.rest;
  words = begun.words;
  pieces = more begun.piece
      begun.pieces;
  others = begun.others;
}

-- at the end of the text a word ends
at_the_end : Went []
at_the_end = record { word = []; rest = []; words = []; pieces = no_more at_end; others = nothing }

-- a byte that opens or continues a word
begins : (b : ℕ) (text : List ℕ) → is_space b ≡ false → Goes text → Begun (b ∷ text)
begins b text s goes = by (b == 92) refl (is_quote b) refl
  where
    -- Plan: by the byte: a backslash escapes the next one, a quotation mark opens a run, any other is plain.
    by : (slash : Bool) → (b == 92) ≡ slash → (quote : Bool) → is_quote b ≡ quote → Begun (b ∷ text)
    by true e quote f = let P : ℕ → Type 0 = λ c. Begun (c ∷ text) in subst P (sym (eqb-true b 92 e)) goes.following
    by false e true f =
        let ran : Ran b text = goes.ran b in
        record {
          bytes = ran.bytes;
          mid = ran.mid;
          word = ran.went.word;
          rest = ran.went.rest;
          words = ran.went.words;
          piece = quoted f
              ran.run;
          pieces = ran.went.pieces;
          others = ran.went.others;
        }
    by false e false f =
        record {
          bytes = b ∷ [];
          mid = text;
          word = goes.went.word;
          rest = goes.went.rest;
          words = goes.went.words;
          piece = plain s f e;
          pieces = goes.went.pieces;
          others = goes.went.others;
        }

-- a text that begins with a piece has a word at its front
begun_splits : {text : List ℕ} (begun : Begun text) → Splits text ((begun.bytes ++ begun.word) ∷ begun.words)
begun_splits begun = one_word begun.piece begun.pieces begun.others

-- a byte in quotes closes them, escapes the next, or is one of the word
runs : (b : ℕ) (text : List ℕ) → Goes text → (mark : ℕ) → Ran mark (b ∷ text)
runs b text goes mark = by (b == mark) refl (b == 92) refl
  where
    -- Plan: by the byte: the closing mark, a backslash, or a byte of the run.
    by : (closes : Bool) → (b == mark) ≡ closes → (slash : Bool) → (b == 92) ≡ slash → Ran mark (b ∷ text)
    by true e slash f =
        let P : ℕ → Type 0 = λ c. Ran mark (c ∷ text) in
        subst P (sym (eqb-true b mark e)) (record { bytes = []; mid = text; run = run_closed; went = goes.went })
    by false e true f = let P : ℕ → Type 0 = λ c. Ran mark (c ∷ text) in subst P (sym (eqb-true b 92 f)) (goes.ran_after mark)
    by false e false f =
        let ran : Ran mark text = goes.ran mark in
        record { bytes = b ∷ ran.bytes; mid = ran.mid; run = run_plain e f ran.run; went = ran.went }

-- every text is split by the grammar, by induction on its length
goes_on : (text : List ℕ) → Goes text
goes_on [] = record {
  words = [];
  splits = nothing;
  went = at_the_end;
  ran = λ mark. record { bytes = []; mid = []; run = run_unclosed; went = at_the_end };
  following = record {
    bytes = [];
    mid = [];
    word = [];
    rest = [];
    words = [];
    piece = backslash;
    pieces = no_more at_end;
    others = nothing;
  };
  ran_after = λ mark. record { bytes = []; mid = []; run = run_backslash; went = at_the_end };
}
goes_on (b ∷ text) = by (is_space b) refl (goes_on text)
  where
    -- Plan: by the byte: white space ends a word, or is passed over; any other begins a word or a piece of one (`escape`, `run_escape`).
    escape : Goes text → Begun (92 ∷ b ∷ text)
    escape goes = record {
      bytes = b ∷ [];
      mid = text;
      word = goes.went.word;
      rest = goes.went.rest;
      words = goes.went.words;
      piece = escaped;
      pieces = goes.went.pieces;
      others = goes.went.others;
    }

    -- a backslash and its byte go on with the run
    run_escape : Goes text → (mark : ℕ) → Ran mark (92 ∷ b ∷ text)
    run_escape goes mark =
        let ran : Ran mark text = goes.ran mark in
        record { bytes = b ∷ ran.bytes; mid = ran.mid; run = run_escaped ran.run; went = ran.went }

    by : (space : Bool) → is_space b ≡ space → Goes text → Goes (b ∷ text)
    by true s goes = record {
      words = goes.words;
      splits = space s goes.splits;
      went = record { word = []; rest = b ∷ text; words = goes.words; pieces = no_more (at_space s); others = space s goes.splits };
      ran = runs b text goes;
      following = escape goes;
      ran_after = run_escape goes;
    }
    by false s goes =
        let begun : Begun (b ∷ text) = begins b text s goes in
        record {
          words = (begun.bytes ++ begun.word) ∷ begun.words;
          splits = begun_splits begun;
          went = begun_goes begun;
          ran = runs b text goes;
          following = escape goes;
          ran_after = run_escape goes;
        }

-- the splitter's words are those of the grammar
pub split_is_onto : (text : List ℕ) (words all : List (List ℕ)) → all ≡ words_of (following words) text → SplitsOnto text words all
split_is_onto text words all e =
    let goes : Goes text = goes_on text in
    (goes.words, e ∙ splits_split goes.splits words, goes.splits)

-- what the splitter makes of a text, the grammar gives
pub split_is_grammar : (text : List ℕ) (none words : List (List ℕ)) → none ≡ [] → words ≡ words_of (following none) text → Splits text words
split_is_grammar text none words empty e =
    let goes : Goes text = goes_on text in
    let P : List (List ℕ) → Type 0 = λ ws. Splits text ws in
    subst P (sym (e ∙ splits_split goes.splits none ∙ ap (λ front. front ++ goes.words) empty)) goes.splits

-- and nothing else
pub split_is_only : (text : List ℕ) (none words : List (List ℕ)) → none ≡ [] → words ≡ words_of (following none) text
    → (others : List (List ℕ)) → Splits text others → words ≡ others
split_is_only text none words empty e others splits = e ∙ splits_split splits none ∙ ap (λ front. front ++ others) empty

-- a text has one list of words
pub some_words : (text : List ℕ) → (words : List (List ℕ)) × Splits text words
some_words text = let goes : Goes text = goes_on text in (goes.words, goes.splits)

-- the grammar gives a text only one list of words
pub one_list : (text : List ℕ) (a b : List (List ℕ)) → Splits text a → Splits text b → a ≡ b
one_list text a b splits_a splits_b = sym (splits_split splits_a []) ∙ splits_split splits_b []
