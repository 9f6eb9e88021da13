use Rattle.drv_words.specs.Bytes as ascii
use Rattle.drv_syntax.proofs.Here.{byte_quoted, none_quoted}
use Rattle.drv_syntax.proofs.Leads.{same}
use Rattle.drv_syntax.proofs.MeantWords.{runs}
use Rattle.drv_syntax.specs.Rest.{Left, after, begins_with, first_of, second_of}
use Rattle.drv_syntax.specs.Code.Writing.{Reading, at_rest, in_class, more_ran, ran, runs_in}
use Rattle.drv_syntax.specs.Descent.{Run, longer, quoted, quoted_at, run_ends, with_byte}
use Rattle.drv_syntax.specs.Spelling as s
use Rattle.drv_syntax.specs.Spelling.{IsRun}
use Rattle.drv_syntax.specs.declared.descent.words.Class.{Class}
use Rattle.std.proofs.Common.{◌≡◌, ◌∙◌, ◌+◌, ◌++◌, Bool, false, true, if◌then◌else◌, List, [], ◌∷◌, ap, append-nil, append_assoc, arith}
use Rattle.std.proofs.Common.{drop, length, refl, sym, take, ℕ}
use Rattle.std.specs.List.{prefix_len}
use Rattle.std.specs.Prelude.{◌==◌, None, Option, Some}

-- Words: runs of bytes and escapes, as the code takes them. It serves `word_run` and `escaped_run` of src/descent/words.rt.
-- `more_ran w run v` is the run after the bytes w of its word.
-- Names: `v`: what is left of the text, with the parts so far. `b`: a byte. `t`, `u`, `w`: what is left of the text, from step to step.
-- `rest`: what is left of the text, and its place. `run`: bytes of one class that follow one another. `f`: a class of bytes. `more`: more
-- text behind. `t`: a test's value, so that `by` can go by both cases. `more_ran`: more of a run, after these bytes of it. `in_class`: the
-- byte belongs to a class that `word_run` of words.rt reads. `quoted_at`: the longest run of bytes of the class f and of escapes.
-- `runs_in`: the bytes of a class that are no backslash. `quoted`: the longest run of bytes of the class f and of escapes. `after`: what is
-- left so many bytes on. `first_of`: the byte that comes next, if there is one. `so_far`: what was read of the run.

-- a byte more of what was taken is a byte less of the run
ran_byte : (w : List ℕ) (b : ℕ) (run : Run) (v : Reading) → more_ran (w ++ b ∷ []) run v ≡ more_ran w (with_byte b run) v
ran_byte w b run v = by run.word
  where
    by : (o : Option (List ℕ)) → more_ran (w ++ b ∷ []) (record { word = o; rest = run.rest }) v
        ≡ more_ran w (record { word = longer b o; rest = run.rest }) v
    by None = refl
    by (Some word) = ap (λ x. (Some x, at_rest run.rest v)) (append_assoc w (b ∷ []) word)

-- a run before which nothing was taken is the run
ran_whole : (run : Run) (v : Reading) → more_ran [] run v ≡ ran run v
ran_whole run v = by run.word
  where
    by : (o : Option (List ℕ)) → more_ran [] (record { word = o; rest = run.rest }) v ≡ (o, at_rest run.rest v)
    by None = refl
    by (Some word) = refl

-- bytes that are not equal are found different by the test
pub differs : (b c : ℕ) → (b ≡ c → ⊥) → (b == c) ≡ false
differs b c h = by (b == c) refl
  where
    by : (t : Bool) → (b == c) ≡ t → t ≡ false
    by true e = absurd (h (same b c e))
    by false e = refl

-- the loop that reads a run keeps its result over a backslash and the byte after it
pub escape_kept : (f : ℕ → Bool) (so_far more : List ℕ) (v : Reading) (rest : Left) (b escaped : ℕ) (whole : Option (List ℕ) × Reading)
    → first_of v.rest.bytes ≡ Some b → b ≡ ascii.backslash → second_of v.rest.bytes ≡ Some escaped → more ≡ so_far ++ escaped ∷ []
    → rest ≡ after 2 v.rest → more_ran so_far (quoted f v.rest) v ≡ whole → more_ran more (quoted f rest) (at_rest rest v) ≡ whole
escape_kept f so_far more v rest b escaped whole g h i j k l = rw (j, k) (by v.rest.bytes g i l)
  where
    by : (bs : List ℕ) → first_of bs ≡ Some b → second_of bs ≡ Some escaped → more_ran so_far (quoted_at f v.rest.at bs) v ≡ whole
        → more_ran (so_far ++ escaped ∷ []) (quoted_at f (v.rest.at + 2) (drop 2 bs)) v ≡ whole
    by [] x y z = absurd cc
    by (c ∷ []) x y z = absurd cc
    by (c ∷ d ∷ text) x y z =
        let p : c ≡ b = cc in let q : d ≡ escaped = cc in ap (λ (u : ℕ). more_ran (so_far ++ u ∷ []) (quoted_at f (v.rest.at + 2) text) v)
        (sym q) ∙ ran_byte so_far d (quoted_at f (v.rest.at + 2) text) v ∙ (rw (p ∙ h) at z)

-- the loop that reads a run keeps its result over a byte of the class
pub plain_kept : (f : ℕ → Bool) (so_far more : List ℕ) (v : Reading) (rest : Left) (b : ℕ) (whole : Option (List ℕ) × Reading)
    → first_of v.rest.bytes ≡ Some b → (b ≡ ascii.backslash → ⊥) → f b ≡ true → more ≡ so_far ++ b ∷ []
    → rest ≡ after 1 v.rest → more_ran so_far (quoted f v.rest) v ≡ whole → more_ran more (quoted f rest) (at_rest rest v) ≡ whole
plain_kept f so_far more v rest b whole g h i j k l = rw (j, k) (by v.rest.bytes g l)
  where
    by : (bs : List ℕ) → first_of bs ≡ Some b → more_ran so_far (quoted_at f v.rest.at bs) v ≡ whole
        → more_ran (so_far ++ b ∷ []) (quoted_at f (v.rest.at + 1) (drop 1 bs)) v ≡ whole
    by [] x z = absurd cc
    by (c ∷ text) x z = let p : c ≡ b = cc in ran_byte so_far b (quoted_at f (v.rest.at + 1) text) v
        ∙ ap (λ r. more_ran so_far r v) (sym (byte_quoted f v.rest.at text (differs b ascii.backslash h) i)) ∙ (rw p at z)

-- runs without a backslash at their front

-- what the code counts in a run is no backslash, and of the class; and a byte that ends what it counts, but is no backslash, is not of it
pub counted : (class : Class) (b : ℕ) → runs_in class b ≡ true → ((b == ascii.backslash) ≡ false) × (in_class class b ≡ true)
counted class b e = by (b == ascii.backslash) refl e
  where
    by : (t : Bool) → (b == ascii.backslash) ≡ t → (if t then false else in_class class b) ≡ true
        → ((b == ascii.backslash) ≡ false) × (in_class class b ≡ true)
    by true g h = absurd cc
    by false g h = (g, h)

-- the run after the bytes that the code counts, with these before it, is the run from its start
run_from : (class : Class) (so_far : List ℕ) (n : ℕ) {t run u : List ℕ} (v : Reading) → IsRun (runs_in class) t run u
    → more_ran (so_far ++ run) (quoted_at (in_class class) (n + length run) u) v ≡ more_ran so_far (quoted_at (in_class class) n t) v
run_from class so_far n v (s.run_ends h) = let e : n + 0 ≡ n = omega arith in rw (append-nil so_far, e) refl
run_from class so_far n v (s.run_goes {b} {text} {run} {rest} h i) =
    let c = counted class b h in let e : n + length (b ∷ run) ≡ n + 1 + length run = omega arith in
    rw e (ap (λ x. more_ran x (quoted_at (in_class class) (n + 1 + length run) rest) v) (sym (append_assoc so_far (b ∷ []) run))
    ∙ run_from class (so_far ++ b ∷ []) (n + 1) v i ∙ ran_byte so_far b (quoted_at (in_class class) (n + 1) text) v
    ∙ ap (λ r. more_ran so_far r v) (sym (byte_quoted (in_class class) n text c.0 c.1)))

-- where no backslash follows the bytes that the code counts, the run has ended there
run_stops : (class : Class) (n : ℕ) {t run u : List ℕ} → IsRun (runs_in class) t run u → begins_with ascii.backslash u ≡ false
    → quoted_at (in_class class) n u ≡ run_ends n u
run_stops class n (s.run_ends s.at_end) e = refl
run_stops class n (s.run_ends (s.at_byte {b} {rest} g)) e =
    none_quoted (in_class class) n rest e (ap (λ (t : Bool). if t then false else in_class class b) (sym e) ∙ g)
run_stops class n (s.run_goes h i) e = run_stops class n i e

-- after the bytes that the code counts, the run goes on with these as the front of its word
pub run_goes : (class : Class) (v : Reading) (k : ℕ) (run : List ℕ) (rest : Left) → k ≡ prefix_len (runs_in class) v.rest.bytes
    → rest ≡ after k v.rest → run ≡ take k v.rest.bytes
    → ran (quoted (in_class class) v.rest) v ≡ more_ran run (quoted (in_class class) rest) (at_rest rest v)
run_goes class v k run rest e f g =
    let i = runs (runs_in class) v.rest.bytes in
    let m : v.rest.at + length (take k v.rest.bytes) ≡ v.rest.at + k = rw e (ap (λ (j : ℕ). v.rest.at + j) i.1) in
    rw (f, g, ← m, e) (sym (run_from class [] v.rest.at v i.0 ∙ ran_whole (quoted_at (in_class class) v.rest.at v.rest.bytes) v))

-- where no backslash follows the bytes that the code counts, they are the word
pub run_found : (class : Class) (v : Reading) (k : ℕ) (run : List ℕ) (rest : Left) → k ≡ prefix_len (runs_in class) v.rest.bytes
    → rest ≡ after k v.rest → run ≡ take k v.rest.bytes → begins_with ascii.backslash rest.bytes ≡ false
    → ran (quoted (in_class class) v.rest) v ≡ (Some run, at_rest rest v)
run_found class v k run rest e f g h =
    let at_run : begins_with ascii.backslash (drop (prefix_len (runs_in class) v.rest.bytes) v.rest.bytes) ≡ false = rw (f, e) at h in
    let ends : quoted_at (in_class class) (v.rest.at + k) (drop k v.rest.bytes) ≡ run_ends (v.rest.at + k) (drop k v.rest.bytes) =
    rw e (run_stops class (v.rest.at + prefix_len (runs_in class) v.rest.bytes) (runs (runs_in class) v.rest.bytes).0 at_run) in
    run_goes class v k run rest e f g ∙ rw (f, ends) (ap (λ x. (Some x, at_rest (after k v.rest) v)) (append-nil run))
