use Rattle.drv_specs.proofs.Booleans.{and_first, and_second, not_true}
use Rattle.drv_specs.proofs.SettledTexts.{ends_last, ends_more, is_line_byte, is_settled}
use Rattle.drv_specs.specs.Lines.{ends_line, is_kept, joined_onto, lines_of, pieces_from, settle}
use Rattle.drv_specs.specs.Sets.{ends_with_backslash}
use Rattle.drv_words.specs.Bytes.{newline}
use Rattle.std.proofs.Common.{◌≡◌, ◌⊎◌, ◌-◌, ◌∙◌, ◌==◌, ◌&&◌, Bool, List, [], ◌∷◌, ◌++◌, ap, eqb-true, false, filter, fold, if◌then◌else◌}
use Rattle.std.proofs.Common.{inl, inr, length, not, refl, suc, sym, take, true, zero, ℕ}
use Rattle.std.specs.List.{list_all}
use Rattle.std.proofs.lemmas.List.Folds.{list_all-append}

-- For loading_keeps: the lines of a text from which the pairs of a backslash and a newline have gone.
-- Names: `text` is a text. `b` is one byte. `back` says whether the byte before is a backslash. `is_kept` says that a byte is no carriage
-- return. `ends_with_backslash` says that a text ends with a backslash, and so is refused. `is_settled back text` says that a text stays as
-- it is when it is settled. `and_first` and `and_second` give the parts of a true `&&`. `pieces_from` is the pieces of a text between the
-- bytes that pass a test. `settled text` is a text without carriage returns and pairs of a backslash and a newline. `joined_onto` adds a
-- byte; a newline after a backslash goes, with the backslash.

-- whether a backslash is last, after a text
abbrev pub last_back : Bool → List ℕ → Bool
last_back back [] = back
last_back back (b ∷ text) = last_back (ends_with_backslash (b ∷ [])) text

-- whether a text ends with a backslash depends on its last byte alone
last_of : (b : ℕ) (text : List ℕ) → last_back (ends_with_backslash (b ∷ [])) text ≡ ends_with_backslash (b ∷ text)
last_of b [] = refl
last_of b (c ∷ text) = last_of c text ∙ sym (ends_more b c text)

-- whether a backslash is last, byte by byte, is whether the text ends with one
pub last_is : (text : List ℕ) → last_back false text ≡ ends_with_backslash text
last_is [] = refl
last_is (b ∷ text) = last_of b text

-- a settled text with one more byte, which makes no pair, is settled
settled_more : (text : List ℕ) (b : ℕ) (back : Bool) → is_settled back text ≡ true → is_kept b ≡ true
    → (b == newline && last_back back text) ≡ false → is_settled back (text ++ b ∷ []) ≡ true
settled_more [] b back is kept apart = rw kept (ap (λ c. not c && true) apart)
settled_more (c ∷ text) b back is kept apart =
    let rest = and_second (is_kept c) _ is in
    rw (and_first (is_kept c) _ is) (rw (and_first (not (c == newline && back)) _ rest)
    (settled_more text b (ends_with_backslash (c ∷ [])) (and_second (not (c == newline && back)) _ rest) kept apart))

-- the beginning of a settled text is settled
settled_less : (n : ℕ) (text : List ℕ) (back : Bool) → is_settled back text ≡ true → is_settled back (take n text) ≡ true
settled_less zero text back is = refl
settled_less (suc n) [] back is = refl
settled_less (suc n) (c ∷ text) back is =
    let rest = and_second (is_kept c) _ is in
    rw (and_first (is_kept c) _ is) (rw (and_first (not (c == newline && back)) _ rest)
    (settled_less n text (ends_with_backslash (c ∷ [])) (and_second (not (c == newline && back)) _ rest)))

-- a settled text is settled after one more byte is joined to it
joined_settled : (text : List ℕ) (b : ℕ) → is_settled false text ≡ true → is_kept b ≡ true → is_settled false (joined_onto text b) ≡ true
joined_settled text b is kept = by (b == newline && ends_with_backslash text) refl
  where
    -- Plan: `by` goes by both answers of `b == newline && ends_with_backslash text`.
    by : (pair : Bool) → (b == newline && ends_with_backslash text) ≡ pair
        → is_settled false (if pair then take (length text - 1) text else text ++ b ∷ []) ≡ true
    by true pair = settled_less (length text - 1) text false is
    by false pair = settled_more text b false is kept (ap (λ e. b == newline && e) (last_is text) ∙ pair)

-- a settled text is settled after several bytes are joined to it
fold_settled : (text done : List ℕ) → list_all is_kept text ≡ true → is_settled false done ≡ true
    → is_settled false (fold joined_onto done text) ≡ true
fold_settled [] done kept is = is
fold_settled (b ∷ text) done kept is = fold_settled text (joined_onto done b) (and_second (is_kept b) _ kept)
    (joined_settled done b is (and_first (is_kept b) _ kept))

-- what is left without carriage returns has none
all_kept : (text : List ℕ) → list_all is_kept (filter is_kept text) ≡ true
all_kept [] = refl
all_kept (b ∷ text) = by (is_kept b) refl (all_kept text)
  where
    -- Plan: `by` goes by both answers of `is_kept b`.
    by : (kept : Bool) → is_kept b ≡ kept → list_all is_kept (filter is_kept text) ≡ true
        → list_all is_kept (if kept then b ∷ filter is_kept text else filter is_kept text) ≡ true
    by true kept later = ap (λ c. c && list_all is_kept (filter is_kept text)) kept ∙ later
    by false kept later = later

-- a settled text stays as it is
settles : (text : List ℕ) → is_settled false (settle text) ≡ true
settles text = fold_settled (filter is_kept text) [] (all_kept text) refl

-- lines of which only the last may end with a backslash
abbrev pub Clean : List (List ℕ) → Type 0
Clean [] = Unit {0}
Clean (line ∷ lines) = (list_all is_line_byte line ≡ true) × (((lines ≡ []) ⊎ (ends_with_backslash line ≡ false)) × Clean lines)

-- the lines of a text without a backslash before a newline are clean
clean_pieces : (text front : List ℕ) (back : Bool) → is_settled back text ≡ true → list_all is_line_byte front ≡ true
    → back ≡ ends_with_backslash front → Clean (pieces_from ends_line front text)
clean_pieces [] front back is bytes same = (bytes, (inl refl, tt))
clean_pieces (b ∷ text) front back is bytes same =
    by (b == newline) refl (clean_pieces text [] (ends_with_backslash (b ∷ [])) later refl)
    (clean_pieces text (front ++ b ∷ []) (ends_with_backslash (b ∷ [])) later)
  where
    -- Plan: by whether the byte is a newline: then a line ends, and not with a backslash.
    rest : (not (b == newline && back) && is_settled (ends_with_backslash (b ∷ [])) text) ≡ true
    rest = and_second (is_kept b) _ is

    later : is_settled (ends_with_backslash (b ∷ [])) text ≡ true
    later = and_second (not (b == newline && back)) _ rest

    by : (cuts : Bool) → (b == newline) ≡ cuts → (ends_with_backslash (b ∷ []) ≡ false → Clean (pieces_from ends_line [] text))
        → (list_all is_line_byte (front ++ b ∷ []) ≡ true → ends_with_backslash (b ∷ []) ≡ ends_with_backslash (front ++ b ∷ [])
        → Clean (pieces_from ends_line (front ++ b ∷ []) text))
        → Clean (if cuts then front ∷ pieces_from ends_line [] text else pieces_from ends_line (front ++ b ∷ []) text)
    by true cuts cut on =
        let apart : (b == newline && back) ≡ false = not_true _ (and_first (not (b == newline && back)) _ rest) in (
          bytes,
          (
            inr (sym same ∙ ap (λ c. c && back) (sym cuts) ∙ apart),
            cut (ap (λ c. ends_with_backslash (c ∷ [])) (eqb-true b newline cuts)),
          ),
        )
    by false cuts cut on =
        on (list_all-append is_line_byte front (b ∷ []) ∙ ap (λ c. c && list_all is_line_byte (b ∷ [])) bytes
        ∙ ap (λ c. (c && not (b == newline)) && true) (and_first (is_kept b) _ is) ∙ ap (λ c. not c && true) cuts)
        (sym (ends_last front b))

-- the lines of a settled text are clean
pub settled_clean : (text : List ℕ) → Clean (lines_of (settle text))
settled_clean text = clean_pieces (settle text) [] false (settles text) refl refl
