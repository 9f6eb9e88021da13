use Rattle.drv_words.specs.Response.{is_marked, is_quote, is_space}
use Rattle.drv_words.specs.Code.Splitter.{is_outside, open_word, plain_length, with_bytes, words_of}
use Rattle.drv_words.specs.declared.response.Splitter.{Splitter}
use Rattle.std.proofs.Common.{arith, ◌≡◌, ◌+◌, ◌-◌, ◌<◌, ◌≤◌, cond, get_or, nat_lt, is_some, length, ◌&&◌, ◌||◌, ◌==◌, Bool, false, true}
use Rattle.std.proofs.Common.{List, [], ◌∷◌, ◌++◌, None, Option, Some, drop, is_none, not, refl, subst, sym, ap, ◌∙◌, if◌then◌else◌, suc}
use Rattle.std.proofs.Common.{take, ℕ}
use Rattle.std.proofs.Math.Seq.{append_snoc, take-length}
use Rattle.std.proofs.lemmas.Bool.Decides.{nat_tests}
use Rattle.std.proofs.lemmas.List.{append-nil}
use Rattle.std.proofs.lemmas.List.Recursion.{is_position_or_len}
use Rattle.std.specs.List.{position, position_or_len}
use Rattle.std.specs.Prelude.{unwrap_or}

-- For `split_onto`: taking a run of plain bytes at once equals taking its bytes one by one.
-- Names: `text` is a text, as a list of bytes. `words` is the words so far, or those that are found. `word` is one word. `rest` is the text
-- that follows. `b` is one byte. `s` is the splitter between two bytes. `run` is a run of plain bytes, and `count` its length. `marked` is
-- whether a byte is a blank, a quotation mark or a backslash. `words_of s text` is the words that the splitter `s` makes of the text.
-- `open_word` is the word that is open, or an empty one. `plain_length`: how many plain bytes a text has at its front. `is_marked`: the
-- bytes that need a backslash. `is_space`: tab to carriage return, and space. `is_outside`: whether the splitter is outside of quotes and
-- after no backslash.

-- a splitter outside quotes, with these words and perhaps an open one
abbrev outside : List (List ℕ) → Option (List ℕ) → Splitter
outside words word = record { words = words; word = word; quote = None; escaped = false }

-- a plain byte is neither white space, a quote nor a backslash
record Plain (b : ℕ) : Type 0 where
  space : is_space b ≡ false
  quote : is_quote b ≡ false
  slash : (b == 92) ≡ false

-- a byte that is not marked is plain in each way
plain_is : (b : ℕ) → is_marked b ≡ false → Plain b
plain_is b e = by (is_space b) refl (is_quote b) refl (b == 92) refl e
  where
    by : (space : Bool) → is_space b ≡ space → (quote : Bool) → is_quote b ≡ quote → (slash : Bool) → (b == 92) ≡ slash
        → (space || quote || slash) ≡ false → Plain b
    by true s quote q slash f e = absurd cc
    by false s true q slash f e = absurd cc
    by false s false q true f e = absurd cc
    by false s false q false f e = record { space = s; quote = q; slash = f }

-- one plain byte makes the open word longer
one_taken : (b : ℕ) (text : List ℕ) (words : List (List ℕ)) (word : List ℕ) → is_marked b ≡ false
    → words_of (outside words (Some word)) (b ∷ text) ≡ words_of (outside words (Some (word ++ b ∷ []))) text
one_taken b text words word e = let p : Plain b = plain_is b e in rw (p.space, p.slash, p.quote) refl

-- a plain byte opens a word
first_taken : (b : ℕ) (text : List ℕ) (words : List (List ℕ)) → is_marked b ≡ false
    → words_of (outside words None) (b ∷ text) ≡ words_of (outside words (Some (b ∷ []))) text
first_taken b text words e = let p : Plain b = plain_is b e in rw (p.space, p.slash, p.quote) refl

-- the length of the run at the front
pub plain_within : (text : List ℕ) → plain_length text ≤ length text
plain_within [] = omega arith
plain_within (b ∷ text) = by (is_marked b) (plain_within text)
  where
    by : (marked : Bool) → plain_length text ≤ length text → (if marked then 0 else suc (plain_length text)) ≤ length (b ∷ text)
    by true rest = omega arith
    by false rest = omega (arith, rest)

-- the code's search finds the end of the plain bytes at the front
plain_first : (text : List ℕ) → position_or_len is_marked text ≡ plain_length text
plain_first text = sym (is_position_or_len plain_length is_marked refl (λ b rest. next (is_marked b) (plain_length rest)) text)
  where
    next : (marked : Bool) (n : ℕ) → (if marked then 0 else suc n) ≡ cond marked 0 (1 + n)
    next true n = refl
    next false n = omega arith

-- the same, as the code writes it
pub plain_place : (text : List ℕ) → unwrap_or (position is_marked text) (length text) ≡ plain_length text
plain_place text = ap (λ n. unwrap_or (cond (nat_lt n (length text)) (Some n) None) (length text)) (plain_first text)
    ∙ by (nat_lt (plain_length text) (length text)) refl
  where
    by : (below : Bool) → nat_lt (plain_length text) (length text) ≡ below → unwrap_or (cond below (Some (plain_length text)) None)
        (length text) ≡ plain_length text
    by true is = refl
    by false is =
        let at_least : length text ≤ plain_length text = grind (arith, nat_tests, is) in
        omega (arith, at_least, plain_within text)

-- a run that continues an open word
run_taken : (text : List ℕ) (words : List (List ℕ)) (word : List ℕ)
    → words_of (outside words (Some (word ++ take (plain_length text) text))) (drop (plain_length text) text)
    ≡ words_of (outside words (Some word)) text
run_taken [] words word = ap (λ w. words_of (outside words (Some w)) []) (append-nil word)
run_taken (b ∷ text) words word = by (is_marked b) refl (run_taken text words (word ++ b ∷ []))
  where
    -- Plan: by whether the next byte is marked: then the run is empty, else it is one byte longer.
    n : Bool → ℕ
    n marked = if marked then 0 else suc (plain_length text)

    by : (marked : Bool) → is_marked b ≡ marked
        → words_of (outside words (Some ((word ++ b ∷ []) ++ take (plain_length text) text))) (drop (plain_length text) text)
        ≡ words_of (outside words (Some (word ++ b ∷ []))) text
        → words_of (outside words (Some (word ++ take (if marked then 0 else suc (plain_length text)) (b ∷ text))))
        (drop (if marked then 0 else suc (plain_length text)) (b ∷ text)) ≡ words_of (outside words (Some word)) (b ∷ text)
    by true e rest = ap (λ w. words_of (outside words (Some w)) (b ∷ text)) (append-nil word)
    by false e rest =
        ap (λ w. words_of (outside words (Some w)) (drop (plain_length text) text))
        (sym (append_snoc word b (take (plain_length text) text)))
        ∙ rest ∙ sym (one_taken b text words word e)

-- a run that opens a word
none_there : 0 < 0 → ⊥
none_there some = omega (arith, some)

-- a run of plain bytes at the front opens a word with all of them
run_opens : (text : List ℕ) (words : List (List ℕ)) → 0 < plain_length text
    → words_of (outside words (Some (take (plain_length text) text))) (drop (plain_length text) text) ≡ words_of (outside words None) text
run_opens [] words some = absurd (none_there some)
run_opens (b ∷ text) words some = by (is_marked b) refl some
  where
    by : (marked : Bool) → is_marked b ≡ marked → 0 < (if marked then 0 else suc (plain_length text))
        → words_of (outside words (Some (take (if marked then 0 else suc (plain_length text)) (b ∷ text))))
        (drop (if marked then 0 else suc (plain_length text)) (b ∷ text)) ≡ words_of (outside words None) (b ∷ text)
    by true e some = absurd (none_there some)
    by false e some = run_taken text words (b ∷ []) ∙ sym (first_taken b text words e)

-- a splitter that is outside is such a one
outside_is : (s : Splitter) → is_outside s ≡ true → s ≡ outside s.words s.word
outside_is s is = by s.escaped refl s.quote refl is
  where
    by : (escaped : Bool) → s.escaped ≡ escaped → (quote : Option ℕ) → s.quote ≡ quote → not escaped && is_none quote ≡ true
        → s ≡ outside s.words s.word
    by true e quote q is = absurd cc
    by false e (Some mark) q is = absurd cc
    by false e None q is = ap (λ quote. record s { quote = quote }) q ∙ ap (λ escaped. record s { quote = None; escaped = escaped }) e

-- or makes the open word longer by all of them
any_run : (text : List ℕ) (words : List (List ℕ)) (word : Option (List ℕ)) → 0 < plain_length text
    → words_of (outside words (Some (open_word word ++ take (plain_length text) text))) (drop (plain_length text) text)
    ≡ words_of (outside words word) text
any_run text words None some = run_opens text words some
any_run text words (Some word) some = run_taken text words word

-- so after a run is taken, the words of the rest are those of the text
after_run : (s : Splitter) (text run rest : List ℕ) (count : ℕ) → is_outside s ≡ true → count ≡ plain_length text → 0 < count
    → run ≡ take count text → rest ≡ drop count text → words_of (outside s.words (Some (open_word s.word ++ run))) rest ≡ words_of s text
after_run s text run rest count is counted some front following =
    let n : 0 < plain_length text = let P : ℕ → Type 0 = λ m. 0 < m in subst P counted some in
    let first : run ≡ take (plain_length text) text = front ∙ ap (λ m. take m text) counted in
    let second : rest ≡ drop (plain_length text) text = following ∙ ap (λ m. drop m text) counted in
    ap (λ r. words_of (outside s.words (Some (open_word s.word ++ r))) rest) first
    ∙ ap (words_of (outside s.words (Some (open_word s.word ++ take (plain_length text) text)))) second
    ∙ any_run text s.words s.word n ∙ ap (λ t. words_of t text) (sym (outside_is s is))

-- a run after which the word goes on
pub run_goes : (s after : Splitter) (text run rest : List ℕ) (count : ℕ) → is_outside s ≡ true → count ≡ plain_length text → 0 < count
    → run ≡ take count text → rest ≡ drop count text → after ≡ with_bytes s run → words_of after rest ≡ words_of s text
run_goes s after text run rest count is counted some front following taken =
    ap (λ a. words_of a rest) (taken ∙ ap (λ (t : Splitter). record t { word = Some (open_word s.word ++ run) }) (outside_is s is))
    ∙ after_run s text run rest count is counted some front following

-- where the code sees no word there is none
no_word : (word : Option (List ℕ)) (none : Bool) → is_some word ≡ not none → none ≡ true → word ≡ None
no_word None none e is = refl
no_word (Some word) none e is = absurd (let z : true ≡ false = e ∙ ap not is in cc)

-- a run that is a whole word, with the white space after it
pub word_goes : (s : Splitter) (text run word rest : List ℕ) (words : List (List ℕ)) (count : ℕ) (space none : Bool)
    → is_outside s ≡ true → count ≡ plain_length text → 0 < count → run ≡ take count text → rest ≡ drop count text
    → 1 ≤ length rest → space ≡ is_space (get_or rest 0 0) → space ≡ true → is_some s.word ≡ not none → none ≡ true
    → words ≡ s.words ++ word ∷ [] → word ≡ run
    → words_of (record s { words = words }) (take (length rest - 1) (drop 1 rest)) ≡ words_of s text
word_goes s text run word [] words count space none is counted some front back long tests space_is holds closed added copied = absurd
    (none_there long)
word_goes s text run word (byte ∷ following) words count space none is counted some front back long tests space_is holds closed added
    copied =
    let here : is_space byte ≡ true = sym tests ∙ space_is in
    let empty : s.word ≡ None = no_word s.word none holds closed in
    let e : length (byte ∷ following) - 1 ≡ length following = omega arith in
    let left : take (length (byte ∷ following) - 1) following ≡ following = ap (λ n. take n following) e ∙ take-length following in
    let over : words_of (outside (s.words ++ run ∷ []) None) following ≡ words_of (outside s.words (Some run)) (byte ∷ following) =
    rw here refl in
    ap (words_of (record s { words = words })) left
    ∙ ap (λ (t : Splitter). words_of (record t { words = words }) following) (outside_is s is)
    ∙ ap (λ held. words_of (outside words held) following) empty
    ∙ ap (λ ws. words_of (outside ws None) following) (added ∙ ap (λ w. s.words ++ w ∷ []) copied)
    ∙ over ∙ ap (λ held. words_of (outside s.words (Some (open_word held ++ run))) (byte ∷ following)) (sym empty)
    ∙ after_run s text run (byte ∷ following) count is counted some front back
