use Rattle.drv_syntax.specs.Labels.{Label, no_label, part_label, star_label, word_label}
use Rattle.drv_syntax.specs.Code.Marks.{byte_labels, byte_marks}
use Rattle.drv_syntax.specs.Code.Messages.{lengthened, with_last}
use Rattle.drv_syntax.specs.Marks.{Within, marked_label, marked_labels}
use Rattle.drv_syntax.specs.declared.labels.LabelMark.{LabelMark}
use Rattle.drv_syntax.specs.declared.token.TestKind.TheVariants as asking
use Rattle.drv_syntax.specs.declared.token.TestKind.{TestKind}
use Rattle.std.proofs.Common.{◌≡◌, ℕ, ◌+◌, ◌-◌, ◌<◌, ◌≤◌, Bool, false, List, [], ◌∷◌, ◌++◌, length, take, drop, get_or, set, refl, subst}
use Rattle.std.proofs.Common.{suc, sym, zero, ap, ◌∙◌, arith, append_assoc, length-append}
use Rattle.std.proofs.Math.Seq.{drop-append_seam, take-length}
use Rattle.std.proofs.lemmas.List.{drop-append-le, drop_more, length-drop, length-map, map-append, map-set, take-append-le, take-map}

-- Labels are kept as one list of words and a mark for each label, which says where its word is in that list. It serves `Labels`, where the
-- reader writes them: what each call adds to words and marks is the label that its clause says. `marked_labels words marks` are the labels.
-- `Within n marks` says that each mark's word lies within n bytes (specs/Marks).
-- Names: `marks`: of each label the place of its word, and what it says. `more`: more text behind. `run`: bytes of one class that follow
-- one another. `place`, `k`: a place in the text. `b`: a byte. `negated`: whether the test has a `!`. `rest`: what follows in the text.
-- `mark`: the `.` or `,` of a test. `marked_labels`: the labels of marks, whose words are in one list of bytes. `byte_marks`: the marks of
-- plain bytes. `marked_label`: the label of a mark. `part_label`: the label of any part but an alternative. `lengthened`: a label whose
-- word goes on with these bytes.

-- words that lie within n bytes lie within more
pub within_more : (n m : ℕ) (marks : List LabelMark) → n ≤ m → Within n marks → Within m marks
within_more n m [] h w = tt
within_more n m (x ∷ marks) h w = ((w.0.0, omega arith), within_more n m marks h w.1)

-- marks whose words lie within n bytes do so with one more whose word does
pub within_push : (n : ℕ) (marks : List LabelMark) (m : LabelMark) → Within n marks → m.start ≤ m.end → m.end ≤ n
    → Within n (marks ++ m ∷ [])
within_push n [] m w a b = ((a, b), tt)
within_push n (x ∷ marks) m w a b = (w.0, within_push n marks m w.1 a b)

-- if the words of marks lie within n bytes, those of the first k marks do
pub within_take : (n k : ℕ) (marks : List LabelMark) → Within n marks → Within n (take k marks)
within_take n zero marks w = tt
within_take n (suc k) [] w = tt
within_take n (suc k) (x ∷ marks) w = (w.0, within_take n k marks w.1)

-- if the words of marks lie within n bytes, they do so after one mark is put in the place of another
pub within_set : (n k : ℕ) (marks : List LabelMark) (m : LabelMark) → Within n marks → m.start ≤ m.end → m.end ≤ n
    → Within n (set marks k m)
within_set n k [] m w a b = tt
within_set n zero (x ∷ marks) m w a b = ((a, b), w.1)
within_set n (suc k) (x ∷ marks) m w a b = (w.0, within_set n k marks m w.1 a b)

-- the word of the mark at this place lies within n bytes
pub within_get : (n : ℕ) (marks : List LabelMark) (place : ℕ) (d : LabelMark) → Within n marks → place < length marks
    → ((get_or marks place d).start ≤ (get_or marks place d).end) × ((get_or marks place d).end ≤ n)
within_get n [] place d w h = absurd (omega arith)
within_get n (x ∷ marks) zero d w h = w.0
within_get n (x ∷ marks) (suc place) d w h = within_get n marks place d w.1 (omega arith)

-- the word of the label at this place of the list lies within the words
pub within_at : (words : List ℕ) (marks : List LabelMark) (now : List Label) (place : ℕ) (d : LabelMark) → marked_labels words marks ≡ now
    → Within (length words) marks → place < length now
    → ((get_or marks place d).start ≤ (get_or marks place d).end) × ((get_or marks place d).end ≤ length words)
within_at words marks now place d e w h = within_get (length words) marks place d w (subst (λ (n : ℕ). place < n)
    (sym (ap (λ ls. length ls) e) ∙ length-map marks (λ x. marked_label words x)) h)

-- a word within the words stays what it is when words are added
pub part_kept : (words more : List ℕ) (a b : ℕ) → a ≤ b → b ≤ length words
    → take (b - a) (drop a (words ++ more)) ≡ take (b - a) (drop a words)
part_kept words more a b h k =
    cc (drop-append-le a words more (omega arith), take-append-le (b - a) (drop a words) more (omega (arith, length-drop a words)))

-- labels stay what they are when words are added
pub labels_kept : (words more : List ℕ) (marks : List LabelMark) → Within (length words) marks
    → marked_labels (words ++ more) marks ≡ marked_labels words marks
labels_kept words more [] w = refl
labels_kept words more (m ∷ marks) w = cc (part_kept words more m.start m.end w.0.0 w.0.1, labels_kept words more marks w.1)

-- what was added to the words is the word between their old end and their new one
pub last_part : (words more : List ℕ) (a b : ℕ) → a ≡ length words → b ≡ length (words ++ more)
    → take (b - a) (drop a (words ++ more)) ≡ more
last_part words more a b h k = cc (h, drop-append_seam words more, size, take-length more)
  where
    size : b - length words ≡ length more
    size = omega (arith, length-append words more)

-- the mark of a word that lies between these places
abbrev mark_of : ℕ → ℕ → Bool → Bool → TestKind → LabelMark
mark_of start end starred negated asks =
    record { start = start; end = end; starred = starred; negated = negated; asks = asks; holds_star = false }

-- the mark that says no more than where a word lies
abbrev plain_mark : ℕ → ℕ → LabelMark
plain_mark start end = mark_of start end false false asking.Switch

-- where words and marks are added, the labels are those that were there, and those of the new marks
labels_more : (words second more : List ℕ) (marks all others : List LabelMark) (now added : List Label) → now ≡ marked_labels words marks
    → Within (length words) marks → second ≡ words ++ more → all ≡ marks ++ others → marked_labels second others ≡ added
    → now ++ added ≡ marked_labels second all
labels_more words second more marks all others now added e w f a h =
    rw (e, a, ← h, f) (ap (λ ls. ls ++ marked_labels (words ++ more) others) (sym (labels_kept words more marks w))
    ∙ sym (map-append (λ m. marked_label (words ++ more) m) marks others))

-- a word that is added, with a mark for it, is one label more (`push`, `push_byte`)
pub labels_added : (words second word : List ℕ) (marks all : List LabelMark) (now : List Label) (start end : ℕ) (starred negated : Bool)
    (asks : TestKind) → now ≡ marked_labels words marks → Within (length words) marks → second ≡ words ++ word → start ≡ length words
    → end ≡ length second → all ≡ marks ++ mark_of start end starred negated asks ∷ []
    → now ++ part_label word starred negated asks ∷ [] ≡ marked_labels second all
labels_added words second word marks all now start end starred negated asks e w f h k a =
    labels_more words second word marks all (mark_of start end starred negated asks ∷ []) now (part_label word starred negated asks ∷ []) e
    w f a (ap (λ x. part_label x starred negated asks ∷ [])
    (rw f (last_part words word start end h (k ∙ ap (λ (ws : List ℕ). length ws) f))))

-- a byte and then a word that are added, with a mark for both, are one label more (`push_marked`)
pub labels_marked : (words first second word : List ℕ) (mark : ℕ) (marks all : List LabelMark) (now : List Label) (start end : ℕ)
    (starred negated : Bool) (asks : TestKind) → now ≡ marked_labels words marks → Within (length words) marks → first ≡ words ++ mark ∷ []
    → second ≡ first ++ word → start ≡ length words → end ≡ length second → all ≡ marks ++ mark_of start end starred negated asks ∷ []
    → now ++ part_label (mark ∷ word) starred negated asks ∷ [] ≡ marked_labels second all
labels_marked words first second word mark marks all now start end starred negated asks e w f g h k a =
    labels_added words second (mark ∷ word) marks all now start end starred negated asks e w
    (g ∙ ap (λ (ws : List ℕ). ws ++ word) f ∙ append_assoc words (mark ∷ []) word) h k a

-- a mark for no bytes is one label more that names nothing (`push_none`)
pub labels_none : (words : List ℕ) (marks all : List LabelMark) (now : List Label) → now ≡ marked_labels words marks
    → all ≡ marks ++ plain_mark 0 0 ∷ [] → now ++ no_label ∷ [] ≡ marked_labels words all
labels_none words marks all now e a = rw (e, a) (sym (map-append (λ m. marked_label words m) marks (plain_mark 0 0 ∷ [])))

-- the first n marks are the first n labels (`truncate`)
pub labels_take : (words : List ℕ) (n : ℕ) (marks : List LabelMark) → marked_labels words (take n marks)
    ≡ take n (marked_labels words marks)
labels_take words n marks = sym (take-map (λ m. marked_label words m) n marks)

-- a mark for an alternative in the place of another is its label in that place (`hold`)
pub labels_set : (words : List ℕ) (place : ℕ) (holds : Bool) (marks : List LabelMark) → marked_labels words
    (set marks place (record { start = 0; end = 0; starred = false; negated = false; asks = asking.Switch; holds_star = holds }))
    ≡ set (marked_labels words marks) place (star_label holds)
labels_set words place holds marks = map-set (λ m. marked_label words m) marks place
    (record { start = 0; end = 0; starred = false; negated = false; asks = asking.Switch; holds_star = holds })

-- the marks of plain bytes, from a place on, lie within n bytes if the bytes do
within_on : (n start : ℕ) (run : List ℕ) → start + length run ≤ n → Within n (byte_marks start run)
within_on n start [] h = tt
within_on n start (b ∷ run) h = ((omega arith, omega (arith, h)), within_on n (start + 1) run (omega (arith, h)))

-- if the words of marks and of others lie within n bytes, those of both do
within_both : (n : ℕ) (marks others : List LabelMark) → Within n marks → Within n others → Within n (marks ++ others)
within_both n [] others w h = h
within_both n (m ∷ marks) others w h = (w.0, within_both n marks others w.1 h)

-- where bytes are added with a mark for each, all marks lie within the words
pub within_run : (words second run : List ℕ) (start : ℕ) (marks all : List LabelMark) → second ≡ words ++ run → start ≡ length words
    → all ≡ marks ++ byte_marks start run → Within (length words) marks → Within (length second) all
within_run words second run start marks all e f a w = subst (λ (ms : List LabelMark). Within (length second) ms) (sym a)
    (within_both (length second) marks (byte_marks start run) (within_more (length words) (length second) marks (omega (arith, size)) w)
    (within_on (length second) start run (omega (arith, size, f))))
  where
    size : length second ≡ length words + length run
    size = ap (λ xs. length xs) e ∙ length-append words run

-- bytes at the end of the words, with a mark for each, are their labels
run_at : (words run : List ℕ) (start : ℕ) → start ≡ length words → marked_labels (words ++ run) (byte_marks start run) ≡ byte_labels run
run_at words [] start h = refl
-- Plan: the label of the first byte, and then the rest, with that byte moved to the words before.
run_at words (b ∷ run) start h = ap (λ word. word_label word ∷ marked_labels (words ++ b ∷ run) (byte_marks (start + 1) run)) first
    ∙ ap (λ ls. word_label (b ∷ []) ∷ ls) (ap (λ ws. marked_labels ws (byte_marks (start + 1) run)) (sym (append_assoc words (b ∷ []) run))
    ∙ run_at (words ++ b ∷ []) run (start + 1) (omega (arith, h, length-append words (b ∷ []))))
  where
    -- the first word is the first byte
    first : take (start + 1 - start) (drop start (words ++ b ∷ run)) ≡ b ∷ []
    first = cc (one, h, drop-append_seam words (b ∷ run))
      where
        one : start + 1 - start ≡ 1
        one = omega arith

-- bytes that are added, with a mark for each, are one label more for each (`push_bytes`)
pub labels_run : (words second run : List ℕ) (start : ℕ) (marks all : List LabelMark) (now : List Label) → now ≡ marked_labels words marks
    → Within (length words) marks → second ≡ words ++ run → start ≡ length words
    → all ≡ marks ++ byte_marks start run → now ++ byte_labels run ≡ marked_labels second all
labels_run words second run start marks all now e w f h a =
    labels_more words second run marks all (byte_marks start run) now (byte_labels run) e w f a (rw f (run_at words run start h))

-- a step of the loop of `push_marks` keeps the list of marks that the loop leads to
pub marks_step : (old new all : List LabelMark) (place i : ℕ) (run : List ℕ) → i < length run
    → new ≡ old ++ plain_mark place (place + 1) ∷ [] → old ++ byte_marks place (drop i run) ≡ all
    → new ++ byte_marks (place + 1) (drop (i + 1) run) ≡ all
marks_step old new all place i run h e f = ap (λ ms. ms ++ byte_marks (place + 1) (drop (i + 1) run)) e
    ∙ append_assoc old (plain_mark place (place + 1) ∷ []) (byte_marks (place + 1) (drop (i + 1) run))
    ∙ ap (λ bs. old ++ byte_marks place bs) (sym (drop_more run i 0 h)) ∙ f

-- the word of the last label goes on (`lengthen_last`)

-- if the words of marks lie within some words, they lie within these with more after them
pub within_grown : (n : ℕ) (words second : List ℕ) (marks : List LabelMark) → second ≡ words ++ drop (length words) second
    → length second ≤ n → Within (length words) marks → Within n marks
within_grown n words second marks e h w =
    within_more (length words) n marks
    (omega (arith, h, ap (λ (ws : List ℕ). length ws) e, length-append words (drop (length words) second))) w

-- the word of a mark that is at this place lies within n bytes
pub within_mark : (n : ℕ) (marks : List LabelMark) (place : ℕ) (m : LabelMark) → Within n marks → place < length marks
    → m ≡ get_or marks place m → (m.start ≤ m.end) × (m.end ≤ n)
within_mark n marks place m w h e = subst (λ (x : LabelMark). (x.start ≤ x.end) × (x.end ≤ n)) (sym e) (within_get n marks place m w h)

-- if the words of marks lie within some words, they lie within more with a mark in the place of another that goes on to the end
pub within_longer : (words second third more : List ℕ) (marks : List LabelMark) (k : ℕ) (m : LabelMark) → Within (length words) marks
    → second ≡ words ++ drop (length words) second → m.start ≤ length second → third ≡ second ++ more → m.end ≡ length third
    → Within (length third) (set marks k m)
within_longer words second third more marks k m w e h f g =
    let size : length third ≡ length second + length more = ap (λ (ws : List ℕ). length ws) f ∙ length-append second more in
    within_set (length third) k marks m (within_grown (length third) words second marks e (omega (arith, size)) w)
    (omega (arith, h, g, size)) (omega (arith, g))

-- a mark with these places in the place of its own
abbrev moved_mark : LabelMark → ℕ → ℕ → LabelMark
moved_mark m start end = record {
  start = start;
  end = end;
  starred = m.starred;
  negated = m.negated;
  asks = m.asks;
  holds_star = m.holds_star;
}

-- the label of a mark, with this word
abbrev with_word : LabelMark → List ℕ → Label
with_word m word = record { word = word; starred = m.starred; negated = m.negated; asks = m.asks; holds_star = m.holds_star }

-- a mark with the last word, which is longer, in the place of the last one: its label has the longer word
longer_at : (words rest more : List ℕ) (m : LabelMark) (start end : ℕ) (marks : List LabelMark) (k : ℕ)
    → k + 1 ≡ length marks → Within (length words) marks → m ≡ get_or marks k m
    → take (end - start) (drop start (words ++ rest)) ≡ take (m.end - m.start) (drop m.start words) ++ more → marked_labels (words ++ rest)
    (set marks k (moved_mark m start end)) ≡ with_last (λ label. lengthened label more) (marked_labels words marks)
longer_at words rest more m start end [] k e w f h = absurd (omega (arith, e))
longer_at words rest more m start end (x ∷ []) zero e w f h =
    ap (λ (word : List ℕ). with_word m word ∷ []) h
    ∙ ap (λ (y : LabelMark). lengthened (marked_label words y) more ∷ []) f
longer_at words rest more m start end (x ∷ []) (suc k) e w f h = absurd (omega (arith, e))
longer_at words rest more m start end (x ∷ y ∷ marks) zero e w f h = absurd (omega (arith, e))
longer_at words rest more m start end (x ∷ y ∷ marks) (suc k) e w f h =
    cc (part_kept words rest x.start x.end w.0.0 w.0.1, longer_at words rest more m start end (y ∷ marks) k (omega (arith, e)) w.1 f h)

-- where the last word is at the end of the words, and more is added to it, its label is longer
pub labels_longer : (words second third more : List ℕ) (marks : List LabelMark) (now : List Label) (m : LabelMark) (start end k : ℕ)
    → marked_labels words marks ≡ now → Within (length words) marks → k + 1 ≡ length marks → m ≡ get_or marks k m
    → second ≡ words ++ drop (length words) second → start ≤ length second
    → drop start second ≡ take (m.end - m.start) (drop m.start words) → third ≡ second ++ more → end ≡ length third
    → with_last (λ label. lengthened label more) now ≡ marked_labels third (set marks k (moved_mark m start end))
labels_longer words second third more marks now m start end k e w f g kept place h t z =
    let rest : List ℕ = drop (length words) second ++ more in
    let whole : words ++ rest ≡ third =
    sym (t ∙ ap (λ (ws : List ℕ). ws ++ more) kept ∙ append_assoc words (drop (length words) second) more) in
    let word : List ℕ = take (m.end - m.start) (drop m.start words) in
    let size : end - start ≡ length (word ++ more) =
    omega (
      arith,
      z,
      ap (λ (ws : List ℕ). length ws) t,
      length-append second more,
      length-append word more,
      length-drop start second,
      ap (λ (ws : List ℕ). length ws) h,
      place,
    ) in
    let last : take (end - start) (drop start (words ++ rest)) ≡ word ++ more =
    ap (λ (ws : List ℕ). take (end - start) (drop start ws)) (whole ∙ t)
    ∙ ap (λ (ws : List ℕ). take (end - start) ws) (drop-append-le start second more place ∙ ap (λ (ws : List ℕ). ws ++ more) h)
    ∙ ap (λ (i : ℕ). take i (word ++ more)) size
    ∙ take-length (word ++ more) in
    ap (λ (ls : List Label). with_last (λ label. lengthened label more) ls) (sym e)
    ∙ sym (longer_at words rest more m start end marks k f w g last)
    ∙ ap (λ (ws : List ℕ). marked_labels ws (set marks k (moved_mark m start end))) whole

-- labels and words that are lent as slices are those that are kept
module _ {words lent : List ℕ} {marks others : List LabelMark} (e : lent ≡ words) (f : others ≡ marks) where
  -- the labels of the slices are the labels
  pub lent_labels : {now : List Label} → marked_labels words marks ≡ now → marked_labels lent others ≡ now
  lent_labels is = ap (λ (ws : List ℕ). marked_labels ws others) e ∙ ap (λ (ms : List LabelMark). marked_labels words ms) f ∙ is

  -- the words of the slices lie within them
  pub lent_within : Within (length words) marks → Within (length lent) others
  lent_within is =
      subst (λ (ws : List ℕ). Within (length ws) others) (sym e) (subst (λ (ms : List LabelMark). Within (length words) ms) (sym f) is)

  -- the word of the label at this place lies within them
  pub lent_at : {now : List Label} {place : ℕ} (d : LabelMark) → marked_labels words marks ≡ now → Within (length words) marks
      → place < length now → ((get_or others place d).start ≤ (get_or others place d).end) × ((get_or others place d).end ≤ length lent)
  lent_at d is within h = within_at lent others _ _ d (lent_labels is) (lent_within within) h
