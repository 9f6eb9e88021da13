use Rattle.drv_syntax.proofs.MarkedWords.{within_at}
use Rattle.drv_syntax.specs.Labels.{Label, no_label}
use Rattle.drv_syntax.specs.Marks.{Within, marked_label, marked_labels}
use Rattle.drv_syntax.specs.PlainRuns.{AreBytes, IsByte}
use Rattle.drv_syntax.specs.declared.labels.LabelMark.{LabelMark}
use Rattle.drv_syntax.specs.declared.token.Token.{Token}
use Rattle.drv_syntax.specs.declared.token.TokenKind.TheVariants as kinds
use Rattle.std.proofs.Common.{◌≡◌, ◌⊎◌, ◌∙◌, ◌+◌, ◌-◌, ◌<◌, ◌≤◌, List, [], ◌∷◌, ap, arith, drop, get_or, inl, inr, length}
use Rattle.std.proofs.Common.{refl, subst, suc, sym, take, ℕ}
use Rattle.std.proofs.Math.Nat.{eq-or-lt_of_le}
use Rattle.std.proofs.lemmas.Bool.{cases_lt}
use Rattle.std.proofs.lemmas.List.{drop_more, get_or-map, get_or_past, length-drop, length-map, length-take-le}
use Rattle.std.proofs.lemmas.Option.{get_or_from_slice_get, slice_get-get_or, slice_get_within}

-- Plain bytes that follow one another, in one slice of the words. It serves `LentLabels::plain_bytes`, whose loop goes on as long as the
-- next part is a plain byte with its word beside the last one.
-- Names: `place`: a place in the text. `marks`: of each label the place of its word, and what it says. `tokens`: the flat list of parts.
-- `b`: a byte. `marked_labels`: the labels of marks, whose words are in one list of bytes. `no_label`: the label of a part that names
-- nothing. `marked_label`: the label of a mark. `AreBytes`: the parts from this place on are plain bytes, as many as these, and these are
-- the bytes. `Within`: each mark's word lies within so many bytes. `IsByte tokens labels place b`: the part at this place is a plain byte,
-- and this is the byte.

-- the tokens of a text, and its labels as marks with all words in one list
module _ (tokens : List Token) (words : List ℕ) (marks : List LabelMark) where
  -- a part that is a plain byte, whose word is kept at `stop`, is the byte there
  pub byte_there : (at stop : ℕ) (e : Token) (d : LabelMark) → at < length tokens → at < length marks
      → (get_or tokens at e).kind ≡ kinds.Plain → (get_or marks at d).start ≡ stop → (get_or marks at d).end ≡ stop + 1
      → stop < length words → IsByte tokens (marked_labels words marks) at (get_or words stop 0)
  byte_there at stop e d in_tokens in_marks plain begins ends inside = record {
    token = get_or tokens at e;
    there = slice_get-get_or tokens at e in_tokens;
    plain = plain;
    names = ap (λ (l : Label). l.word) (get_or-map (λ m. marked_label words m) marks at d no_label in_marks)
        ∙ ap (λ n. take ((get_or marks at d).end - n) (drop n words)) begins
        ∙ ap (λ n. take (n - stop) (drop stop words)) ends
        ∙ ap (λ n. take n (drop stop words)) one
        ∙ ap (λ bs. take 1 bs) (drop_more words stop 0 inside);
  }
    where
      one : stop + 1 - stop ≡ 1
      one = omega arith

  -- the loop's next round: one plain byte more is in the slice
  pub run_step : (at place start stop : ℕ) → start ≤ stop
      → ((n : ℕ) → AreBytes tokens (marked_labels words marks) at (take n (drop stop words))
      → AreBytes tokens (marked_labels words marks) place (take (stop - start + n) (drop start words)))
      → IsByte tokens (marked_labels words marks) at (get_or words stop 0) → stop < length words
      → (n : ℕ) → AreBytes tokens (marked_labels words marks) (at + 1) (take n (drop (stop + 1) words))
      → AreBytes tokens (marked_labels words marks) place (take (stop + 1 - start + n) (drop start words))
  run_step at place start stop later rest byte inside n others =
      subst (λ k. AreBytes tokens (marked_labels words marks) place (take k (drop start words))) size
      (rest (suc n) (subst (λ bs. AreBytes tokens (marked_labels words marks) at (take (suc n) bs)) (sym (drop_more words stop 0 inside))
      (byte, others)))
    where
      size : stop - start + suc n ≡ stop + 1 - start + n
      size = omega (arith, later)

  -- where no byte more is in the slice, its bytes are those of the parts
  pub run_done : (at place start stop : ℕ)
      → ((n : ℕ) → AreBytes tokens (marked_labels words marks) at (take n (drop stop words))
      → AreBytes tokens (marked_labels words marks) place (take (stop - start + n) (drop start words)))
      → AreBytes tokens (marked_labels words marks) place (take (stop - start) (drop start words))
  run_done at place start stop rest =
      subst (λ k. AreBytes tokens (marked_labels words marks) place (take k (drop start words))) size (rest 0 tt)
    where
      size : stop - start + 0 ≡ stop - start
      size = omega arith

  -- before the first step nothing is in the slice
  pub run_begun : (place start n : ℕ) → AreBytes tokens (marked_labels words marks) place (take n (drop start words))
      → AreBytes tokens (marked_labels words marks) place (take (start - start + n) (drop start words))
  run_begun place start n bytes = subst (λ k. AreBytes tokens (marked_labels words marks) place (take k (drop start words))) size bytes
    where
      size : n ≡ start - start + n
      size = omega arith

  -- a plain byte is a part of the lists
  pub byte_in : (place b : ℕ) → IsByte tokens (marked_labels words marks) place b → (place < length tokens) × (place < length marks)
  byte_in place b byte = (slice_get_within tokens place byte.token byte.there, by (cases_lt place (length marks)))
    where
      by : (place < length marks) ⊎ (length marks ≤ place) → place < length marks
      by (inl found) = found
      by (inr past) = absurd (let none : [] ≡ b ∷ [] = sym (ap (λ (l : Label). l.word) nothing_there) ∙ byte.names in cc)
        where
          nothing_there : get_or (marked_labels words marks) place no_label ≡ no_label
          nothing_there = get_or_past (marked_labels words marks) place no_label
              (subst (λ n. n ≤ place) (sym (length-map marks (λ m. marked_label words m))) past)

  -- the word of a mark lies within the words
  mark_in : (place : ℕ) (d : LabelMark) → Within (length words) marks → place < length marks
      → ((get_or marks place d).start ≤ (get_or marks place d).end) × ((get_or marks place d).end ≤ length words)
  mark_in place d within h =
      within_at words marks (marked_labels words marks) place d refl within
      (subst (λ n. place < n) (sym (length-map marks (λ m. marked_label words m))) h)

  -- the word of a mark begins within the words
  pub start_in : (place : ℕ) (d : LabelMark) → Within (length words) marks → place < length marks
      → (get_or marks place d).start ≤ length words
  start_in place d within h = let inside = mark_in place d within h in omega (arith, inside.0, inside.1)

  -- a plain byte whose mark ends after it lies within the words, so that the code may take it
  pub stop_in : (at stop : ℕ) (d : LabelMark) → (get_or marks at d).end ≡ stop + 1 → Within (length words) marks → at < length marks
      → stop < length words
  stop_in at stop d ends within h = let inside = mark_in at d within h in omega (arith, ends, inside.1)

  -- the word of a plain byte is kept in one byte
  one_long : (place b : ℕ) (d : LabelMark) → IsByte tokens (marked_labels words marks) place b → Within (length words) marks
      → place < length marks → (get_or marks place d).end ≡ (get_or marks place d).start + 1
  one_long place b d byte within h =
      omega (
        arith,
        inside.0,
        inside.1,
        sym (length-take-le (mark.end - mark.start) (drop mark.start words)
            (omega (arith, inside.0, inside.1, length-drop mark.start words))) ∙ ap (λ bs. length bs) word,
      )
    where
      mark : LabelMark
      mark = get_or marks place d

      inside : (mark.start ≤ mark.end) × (mark.end ≤ length words)
      inside = mark_in place d within h

      word : take (mark.end - mark.start) (drop mark.start words) ≡ b ∷ []
      word = sym (ap (λ (l : Label). l.word) (get_or-map (λ m. marked_label words m) marks place d no_label h)) ∙ byte.names

  -- where a part isn't in the slice that begins with a plain byte, it is a later one
  pub later_part : (place at start stop b : ℕ) (e : Token) (d : LabelMark) → place ≤ at → stop + place ≡ start + at → place < length tokens
      → place < length marks → start ≡ (get_or marks place d).start → Within (length words) marks
      → ((get_or tokens at e).kind ≡ kinds.Plain → (get_or marks at d).start ≡ stop → (get_or marks at d).end ≡ stop + 1 → ⊥)
      → IsByte tokens (marked_labels words marks) place b → place < at
  later_part place at start stop b e d before reached in_tokens in_marks begins within other byte = by (eq-or-lt_of_le before)
    where
      -- Plan: if it were the part itself, its word would be one byte that begins at `stop` (`here`), which `other` rules out.
      plain : (get_or tokens place e).kind ≡ kinds.Plain
      plain = ap (λ (t : Token). t.kind) (get_or_from_slice_get tokens place byte.token e byte.there) ∙ byte.plain

      by : (place ≡ at) ⊎ (place < at) → place < at
      by (inr after) = after
      by (inl same) =
          absurd (other (subst (λ k. (get_or tokens k e).kind ≡ kinds.Plain) same plain)
          (subst (λ k. (get_or marks k d).start ≡ stop) same here)
          (subst (λ k. (get_or marks k d).end ≡ stop + 1) same (one_long place b d byte within in_marks ∙ ap (λ n. n + 1) here)))
        where
          here : (get_or marks place d).start ≡ stop
          here = omega (arith, begins, reached, same)

-- a slice with bytes isn't empty
pub some_bytes : (words : List ℕ) (start stop : ℕ) → start < stop → stop ≤ length words
    → 0 < length (take (stop - start) (drop start words))
some_bytes words start stop some inside =
    omega (arith, some, length-take-le (stop - start) (drop start words) (omega (arith, inside, length-drop start words)))
