use Rattle.drv_forms.specs.Shell.{Outside, Quoted, Rest, Values, after_blank, after_bytes, bare_variable, begins, bytes_of, inside, moved}
use Rattle.drv_forms.specs.Shell.{moved_after, quoted, quoted_variable, read, shell_words, stem_name, stem_text}
use Rattle.drv_forms.specs.Shell.{stem_word, words_of}
use Rattle.drv_words.specs.Printed.{is_bare, is_plain}
use Rattle.std.proofs.Common.{◌≡◌, Bool, false, true, ◌&&◌, ◌==◌, ◌-◌, List, [], ◌∷◌, ◌++◌, None, Option, Some, if◌then◌else◌, option_map}
use Rattle.std.proofs.Common.{arith, drop, length, nat_eq, nat_lt, refl, suc, sym, ap, ◌∙◌, append_assoc, append-nil, zero, ℕ}
use Rattle.std.proofs.lemmas.Bool.{eqb-true}
use Rattle.std.proofs.lemmas.Bool.Decides.{Decides-eqb}
use Rattle.std.proofs.lemmas.Slice.Eq.{starts_is}
use Rattle.std.specs.List.{list_all, starts_with}
use Rattle.std.specs.Prelude.{map}

-- For `words_are_read_back` (src/laws.rt): the shell reads a word that was written for it as that word, with the variable's value
-- for each stem.
-- Names: `b`, `t`: a test's value, so that `by` can go by both cases. `read`: what the shell reads from a place on. `after_bytes`: bytes
-- before a rest belong to its word. `inside`: what is between single quotes.

-- bytes before a word's rest, and others before these, are all together before it
together : (front bytes : List ℕ) (rest : Option Rest)
    → option_map (after_bytes front) (option_map (after_bytes bytes) rest) ≡ option_map (after_bytes (front ++ bytes)) rest
together front bytes None = refl
together front bytes (Some rest) = ap (λ word. Some (record { going_on = Some word; words = rest.words }))
    (sym (append_assoc front bytes (bytes_of rest.going_on)))

-- of two tests that hold together each holds
split_true : (a b : Bool) → (a && b) ≡ true → (a ≡ true) × (b ≡ true)
split_true true b both = (refl, both)
split_true false b both = absurd cc

-- a plain byte means itself
plain_byte : (values : Values) (b : ℕ) (text : List ℕ) → is_plain b ≡ true
    → read values Outside (b ∷ text) ≡ option_map (after_bytes (b ∷ [])) (read values Outside text)
plain_byte values b text plain = rw plain refl

-- a plain byte is the same between quotes
plain_quoted : (b : ℕ) → is_plain b ≡ true → quoted b ≡ b ∷ []
plain_quoted b plain = by (b == 39) refl
  where
    by : (t : Bool) → (b == 39) ≡ t → quoted b ≡ b ∷ []
    by true is = absurd (let z : true ≡ false = sym plain ∙ ap is_plain (eqb-true b 39 is) in cc)
    by false is = rw is refl

-- a word of plain bytes with the variable for each stem is read with its value for each, behind bytes of the same word
plain_read : (values : Values) (stem front : List ℕ) (skip : ℕ) (word rest : List ℕ) → list_all is_plain word ≡ true
    → option_map (after_bytes front) (read values Outside (inside stem bare_variable skip word ++ rest))
    ≡ option_map (after_bytes (front ++ moved_after stem (values stem_name) skip word)) (read values Outside rest)
plain_read values stem front skip [] rest plain = ap (λ f. option_map (after_bytes f) (read values Outside rest)) (sym (append-nil front))
plain_read values stem front (suc skip) (b ∷ word) rest plain =
    plain_read values stem front skip word rest (split_true (is_plain b) (list_all is_plain word) plain).1
plain_read values stem front zero (b ∷ word) rest plain =
    by (begins stem (b ∷ word)) refl
    (plain_read values stem (front ++ values stem_name) (length stem - 1) word rest
    (split_true (is_plain b) (list_all is_plain word) plain).1)
    (plain_read values stem (front ++ b ∷ []) zero word rest (split_true (is_plain b) (list_all is_plain word) plain).1)
  where
    by : (t : Bool) → begins stem (b ∷ word) ≡ t
        → option_map (after_bytes (front ++ values stem_name))
        (read values Outside (inside stem bare_variable (length stem - 1) word ++ rest))
        ≡ option_map (after_bytes ((front ++ values stem_name) ++ moved_after stem (values stem_name) (length stem - 1) word))
        (read values Outside rest)
        → option_map (after_bytes (front ++ b ∷ [])) (read values Outside (inside stem bare_variable zero word ++ rest))
        ≡ option_map (after_bytes ((front ++ b ∷ []) ++ moved_after stem (values stem_name) zero word)) (read values Outside rest)
        → option_map (after_bytes front) (read values Outside (inside stem bare_variable zero (b ∷ word) ++ rest))
        ≡ option_map (after_bytes (front ++ moved_after stem (values stem_name) zero (b ∷ word))) (read values Outside rest)
    by true is later next = rw is
        (together front (values stem_name) (read values Outside (inside stem bare_variable (length stem - 1) word ++ rest))
        ∙ later
        ∙ ap (λ f. option_map (after_bytes f) (read values Outside rest))
        (append_assoc front (values stem_name) (moved_after stem (values stem_name) (length stem - 1) word)))
    by false is later next = rw is
        (ap (λ q. option_map (after_bytes front) (read values Outside ((q ++ inside stem bare_variable zero word) ++ rest)))
        (plain_quoted b (split_true (is_plain b) (list_all is_plain word) plain).0)
        ∙ ap (option_map (after_bytes front))
        (plain_byte values b (inside stem bare_variable zero word ++ rest) (split_true (is_plain b) (list_all is_plain word) plain).0)
        ∙ together front (b ∷ []) (read values Outside (inside stem bare_variable zero word ++ rest))
        ∙ next
        ∙ ap (λ f. option_map (after_bytes f) (read values Outside rest))
        (append_assoc front (b ∷ []) (moved_after stem (values stem_name) zero word)))

-- a nonempty word of plain bytes with the variable for each stem is read with its value for each
bare_read : (values : Values) (stem : List ℕ) (b : ℕ) (word rest : List ℕ) → list_all is_plain (b ∷ word) ≡ true
    → read values Outside (inside stem bare_variable 0 (b ∷ word) ++ rest)
    ≡ option_map (after_bytes (moved stem (values stem_name) (b ∷ word))) (read values Outside rest)
bare_read values stem b word rest plain =
    by (begins stem (b ∷ word)) refl (split_true (is_plain b) (list_all is_plain word) plain)
  where
    by : (t : Bool) → begins stem (b ∷ word) ≡ t → (is_plain b ≡ true) × (list_all is_plain word ≡ true)
        → read values Outside (inside stem bare_variable zero (b ∷ word) ++ rest)
        ≡ option_map (after_bytes (moved_after stem (values stem_name) zero (b ∷ word))) (read values Outside rest)
    by true is both = rw is (plain_read values stem (values stem_name) (length stem - 1) word rest both.1)
    by false is both = rw is
        (ap (λ q. read values Outside ((q ++ inside stem bare_variable zero word) ++ rest)) (plain_quoted b both.0)
        ∙ plain_byte values b (inside stem bare_variable zero word ++ rest) both.0
        ∙ plain_read values stem (b ∷ []) zero word rest both.1)

-- what is between single quotes is read as the word, with the variable's value for each stem, up to the quote that ends it
inside_read : (values : Values) (stem : List ℕ) (skip : ℕ) (word rest : List ℕ)
    → read values Quoted (inside stem quoted_variable skip word ++ 39 ∷ rest)
    ≡ option_map (after_bytes (moved_after stem (values stem_name) skip word)) (read values Outside rest)
inside_read values stem skip [] rest = refl
inside_read values stem (suc skip) (b ∷ word) rest = inside_read values stem skip word rest
inside_read values stem zero (b ∷ word) rest =
    by (begins stem (b ∷ word)) refl
    (inside_read values stem (length stem - 1) word rest) (byte_read (b == 39) refl (inside_read values stem zero word rest))
  where
    byte_read : (t : Bool) → (b == 39) ≡ t
        → read values Quoted (inside stem quoted_variable zero word ++ 39 ∷ rest)
        ≡ option_map (after_bytes (moved_after stem (values stem_name) zero word)) (read values Outside rest)
        → read values Quoted ((quoted b ++ inside stem quoted_variable zero word) ++ 39 ∷ rest)
        ≡ option_map (after_bytes (b ∷ moved_after stem (values stem_name) zero word)) (read values Outside rest)
    byte_read true is later =
        let it : quoted b ≡ 39 ∷ 92 ∷ 39 ∷ 39 ∷ [] = rw is refl in
        ap (λ q. read values Quoted ((q ++ inside stem quoted_variable zero word) ++ 39 ∷ rest)) it
        ∙ ap (λ r. option_map (after_bytes []) (option_map (after_bytes (39 ∷ [])) (option_map (after_bytes []) r))) later
        ∙ ap (λ r. option_map (after_bytes []) (option_map (after_bytes (39 ∷ [])) r))
        (together [] (moved_after stem (values stem_name) zero word) (read values Outside rest))
        ∙ ap (option_map (after_bytes []))
        (together (39 ∷ []) (moved_after stem (values stem_name) zero word) (read values Outside rest))
        ∙ together [] (39 ∷ moved_after stem (values stem_name) zero word) (read values Outside rest)
        ∙ ap (λ c. option_map (after_bytes (c ∷ moved_after stem (values stem_name) zero word)) (read values Outside rest))
        (sym (eqb-true b 39 is))
    byte_read false is later =
        let it : quoted b ≡ b ∷ [] = rw is refl in
        let one : read values Quoted (b ∷ inside stem quoted_variable zero word ++ 39 ∷ rest)
        ≡ option_map (after_bytes (b ∷ [])) (read values Quoted (inside stem quoted_variable zero word ++ 39 ∷ rest)) = rw is refl in
        ap (λ q. read values Quoted ((q ++ inside stem quoted_variable zero word) ++ 39 ∷ rest)) it
        ∙ one
        ∙ ap (option_map (after_bytes (b ∷ []))) later
        ∙ together (b ∷ []) (moved_after stem (values stem_name) zero word) (read values Outside rest)

    by : (t : Bool) → begins stem (b ∷ word) ≡ t
        → read values Quoted (inside stem quoted_variable (length stem - 1) word ++ 39 ∷ rest)
        ≡ option_map (after_bytes (moved_after stem (values stem_name) (length stem - 1) word)) (read values Outside rest)
        → read values Quoted ((quoted b ++ inside stem quoted_variable zero word) ++ 39 ∷ rest)
        ≡ option_map (after_bytes (b ∷ moved_after stem (values stem_name) zero word)) (read values Outside rest)
        → read values Quoted (inside stem quoted_variable zero (b ∷ word) ++ 39 ∷ rest)
        ≡ option_map (after_bytes (moved_after stem (values stem_name) zero (b ∷ word))) (read values Outside rest)
    by true is later next = rw is
        (ap (λ r. option_map (after_bytes []) (option_map (after_bytes (values stem_name)) (option_map (after_bytes []) r))) later
        ∙ ap (λ r. option_map (after_bytes []) (option_map (after_bytes (values stem_name)) r))
        (together [] (moved_after stem (values stem_name) (length stem - 1) word) (read values Outside rest))
        ∙ ap (option_map (after_bytes []))
        (together (values stem_name) (moved_after stem (values stem_name) (length stem - 1) word) (read values Outside rest))
        ∙ together [] (values stem_name ++ moved_after stem (values stem_name) (length stem - 1) word) (read values Outside rest))
    by false is later next = rw is next

-- a word in either form, bare or between quotes, is read so before what follows
word_read : (values : Values) (stem word rest : List ℕ)
    → read values Outside (stem_word stem word ++ rest)
    ≡ option_map (after_bytes (moved stem (values stem_name) word)) (read values Outside rest)
word_read values stem word rest = by (is_bare word) refl
  where
    bare : (w : List ℕ) → is_bare w ≡ true → read values Outside (inside stem bare_variable 0 w ++ rest)
        ≡ option_map (after_bytes (moved stem (values stem_name) w)) (read values Outside rest)
    bare [] is = absurd cc
    bare (b ∷ w) is = bare_read values stem b w rest (split_true (nat_lt 0 (length (b ∷ w))) (list_all is_plain (b ∷ w)) is).1

    by : (t : Bool) → is_bare word ≡ t
        → read values Outside ((if t then inside stem bare_variable 0 word else 39 ∷ inside stem quoted_variable 0 word ++ 39 ∷ []) ++ rest)
        ≡ option_map (after_bytes (moved stem (values stem_name) word)) (read values Outside rest)
    by true is = bare word is
    by false is =
        ap (λ t. option_map (after_bytes []) (read values Quoted t)) (append_assoc (inside stem quoted_variable 0 word) (39 ∷ []) rest)
        ∙ ap (option_map (after_bytes [])) (inside_read values stem 0 word rest)
        ∙ together [] (moved stem (values stem_name) word) (read values Outside rest)

-- a line of words with a blank before each is read as these words
line_read : (values : Values) (stem : List ℕ) (words : List (List ℕ))
    → read values Outside (stem_text stem words)
    ≡ Some (record { going_on = None; words = map (moved stem (values stem_name)) words })
line_read values stem [] = refl
line_read values stem (word ∷ words) =
    ap (option_map after_blank) (word_read values stem word (stem_text stem words))
    ∙ ap (λ r. option_map after_blank (option_map (after_bytes (moved stem (values stem_name) word)) r)) (line_read values stem words)
    ∙ ap (λ w. Some (record { going_on = None; words = w ∷ map (moved stem (values stem_name)) words }))
    (append-nil (moved stem (values stem_name) word))

-- one less than the number after one is that one
one_less : (n : ℕ) → suc n - 1 ≡ n
one_less n = omega arith

-- with the stem itself for each stem a word is as it was, from the place that is passed over to
same_after : (stem : List ℕ) (skip : ℕ) (word : List ℕ) → moved_after stem stem skip word ≡ drop skip word
same_after stem zero [] = refl
same_after stem (suc skip) [] = refl
same_after stem (suc skip) (b ∷ word) = same_after stem skip word
same_after stem zero (b ∷ word) = by stem (begins stem (b ∷ word)) refl (same_after stem (length stem - 1) word) (same_after stem zero word)
  where
    by : (s : List ℕ) (t : Bool) → begins s (b ∷ word) ≡ t
        → moved_after s s (length s - 1) word ≡ drop (length s - 1) word → moved_after s s zero word ≡ word
        → moved_after s s zero (b ∷ word) ≡ b ∷ word
    by [] true is later next = absurd cc
    by (c ∷ s) true is later next = rw is
        (ap (λ w. (c ∷ s) ++ w) later ∙ ap (λ n. (c ∷ s) ++ drop n word) (one_less (length s))
        ∙ sym ((starts_is Decides-eqb (b ∷ word) (c ∷ s) (starts_with nat_eq (b ∷ word) (c ∷ s)) refl).0
        (split_true (nat_lt 0 (length (c ∷ s))) (starts_with nat_eq (b ∷ word) (c ∷ s)) is).1))
    by s false is later next = rw is (ap (λ w. b ∷ w) next)

-- without a stem a word is as it was
without_stem : (value word : List ℕ) → moved [] value word ≡ word
without_stem value [] = refl
without_stem value (b ∷ word) = ap (λ w. b ∷ w) (without_stem value word)

-- each word is as it was, if one is
all_same : (f : List ℕ → List ℕ) (words : List (List ℕ)) → ((word : List ℕ) → f word ≡ word) → map f words ≡ words
all_same f [] same = refl
all_same f (word ∷ words) same = ap (λ w. w ∷ map f words) (same word) ∙ ap (λ w. word ∷ w) (all_same f words same)

-- for `words_are_read_back` (src/laws.rt): the shell reads the text as the words with the variable's value for each stem
pub stems_read : (values : Values) (stem : List ℕ) (words : List (List ℕ))
    → shell_words values (stem_text stem words) ≡ Some (map (moved stem (values stem_name)) words)
stems_read values stem words = ap (option_map (λ rest. words_of rest.going_on rest.words)) (line_read values stem words)

-- with the stem for the variable's value the shell reads the text as the words
pub stems_same : (values : Values) (stem : List ℕ) (words : List (List ℕ)) → values stem_name ≡ stem
    → shell_words values (stem_text stem words) ≡ Some words
stems_same values stem words has =
    stems_read values stem words
    ∙ ap (λ v. Some (map (moved stem v) words)) has
    ∙ ap Some (all_same (moved stem stem) words (same_after stem 0))

-- without a stem the shell reads the text as the words
pub words_read : (values : Values) (words : List (List ℕ)) → shell_words values (stem_text [] words) ≡ Some words
words_read values words =
    stems_read values [] words ∙ ap Some (all_same (moved [] (values stem_name)) words (without_stem (values stem_name)))

-- the turns of `push_inside` (src/shell.rt)

-- bytes that are passed over are dropped
passed_over : (stem variable : List ℕ) (skip : ℕ) (word : List ℕ) → inside stem variable skip word ≡ inside stem variable 0 (drop skip word)
passed_over stem variable zero word = refl
passed_over stem variable (suc skip) [] = refl
passed_over stem variable (suc skip) (b ∷ word) = passed_over stem variable skip word

-- at a stem the variable is put
at_stem : (stem variable left : List ℕ) → begins stem left ≡ true
    → inside stem variable 0 left ≡ variable ++ inside stem variable 0 (drop (length stem) left)
at_stem [] variable left is = absurd cc
at_stem (c ∷ stem) variable [] is = absurd
    (let z : false ≡ true = (split_true (nat_lt 0 (length (c ∷ stem))) (starts_with nat_eq [] (c ∷ stem)) is).1 in cc)
at_stem (c ∷ stem) variable (b ∷ left) is = rw is
    (ap (λ n. variable ++ inside (c ∷ stem) variable n left) (one_less (length stem))
    ∙ ap (λ t. variable ++ t) (passed_over (c ∷ stem) variable (length stem) left))

-- what is done, then the variable, and then what is left behind the stem
pub stem_turn : (done new stem variable left rest whole : List ℕ) → begins stem left ≡ true → new ≡ done ++ variable
    → rest ≡ drop (length stem) left → done ++ inside stem variable 0 left ≡ whole → new ++ inside stem variable 0 rest ≡ whole
stem_turn done new stem variable left rest whole is news rests goes =
    ap (λ n. n ++ inside stem variable 0 rest) news
    ∙ ap (λ r. (done ++ variable) ++ inside stem variable 0 r) rests
    ∙ append_assoc done variable (inside stem variable 0 (drop (length stem) left))
    ∙ ap (λ t. done ++ t) (sym (at_stem stem variable left is))
    ∙ goes

-- what is done, then a byte that begins no stem, and then what is left behind it
pub byte_turn : (done new stem variable following whole : List ℕ) (b : ℕ) → begins stem (b ∷ following) ≡ false → new ≡ done ++ quoted b
    → done ++ inside stem variable 0 (b ∷ following) ≡ whole → new ++ inside stem variable 0 following ≡ whole
byte_turn done new stem variable following whole b isnt news goes =
    ap (λ n. n ++ inside stem variable 0 following) news
    ∙ append_assoc done (quoted b) (inside stem variable 0 following)
    ∙ ap (λ t. done ++ t) (sym turned)
    ∙ goes
  where
    turned : inside stem variable 0 (b ∷ following) ≡ quoted b ++ inside stem variable 0 following
    turned = rw isnt refl
