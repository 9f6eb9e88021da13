use Rattle.drv_specs.proofs.Booleans.{and_first, and_second}
use Rattle.drv_specs.proofs.GoodBodies.{IsBody, each_append, ends_far}
use Rattle.drv_specs.proofs.SettledTexts.{ends_last}
use Rattle.drv_specs.specs.Blanks.{has_byte, is_blank, is_white}
use Rattle.drv_specs.specs.Kept.{Each, IsNamed, IsPair, Kept, begins_line, fits, is_body, is_text, sees}
use Rattle.drv_specs.specs.Lines.{is_kept, without_end, without_front}
use Rattle.drv_specs.specs.Sets.{Set, append, appended_text, appends, begins_with_at, by_tree, deleted, ends_with_backslash, has_tree}
use Rattle.drv_specs.specs.Sets.{is_key, is_name, is_no_text, pair_text, put, text_of, with_body, with_name, with_named, with_pair}
use Rattle.drv_specs.specs.Sets.{with_pair_body, with_text}
use Rattle.drv_specs.specs.declared.fault.SpecsFault.TheVariants.{AliasOfAlias, BadName, RenameMissing, RenameTaken, TrailingBackslash}
use Rattle.drv_syntax.specs.Outcome.{parsed}
use Rattle.drv_syntax.specs.Tree.{Items}
use Rattle.drv_syntax.specs.declared.fault.SyntaxFault.{SyntaxFault}
use Rattle.drv_words.specs.Bytes.{backslash, newline, plus}
use Rattle.indexmap.specs.IndexMap.{insert_entry}
use Rattle.std.proofs.Common.{◌≡◌, ◌⊎◌, ◌∙◌, ◌==◌, ◌&&◌, ◌||◌, Bool, Err, List, [], ◌∷◌, ◌++◌, None, Ok, Option, Result, Some, ap}
use Rattle.std.proofs.Common.{append_assoc, cond, eqb-true, false, if◌then◌else◌, inl, inr, is_ok, is_some, length, nat_eq, not, refl}
use Rattle.std.proofs.Common.{reverse, subst, sym, true, ℕ}
use Rattle.std.proofs.Math.Dec.{eqb-suc-zero}
use Rattle.std.proofs.lemmas.List.{reverse-append, reverse-reverse}
use Rattle.std.specs.Cmp.Lexicographic.{nat_list_eq_equiv, pointwise}
use Rattle.std.specs.List.{AllByRecursion, IsDistinct, list_all}
use Rattle.std.specs.Map.{keys_of, lookup, remove_entry, set_key}

-- For loading_keeps (laws.rt): the change of each directive keeps the invariant of a set (`Kept`). Names, texts and keys have the form of
-- those of a spec file, the names are distinct, and each text that is processed has a tree. A body is what follows the colon of a
-- directive. An entry is a name and its text.
-- Names: `set` is the set before. `set'` is the set after. `name` is the name of a text. `key` is a suffix or a language. `text` is a text.
-- `body` is what follows the colon of a directive. `es` is entries: names and their texts. `eq` is a test for one name. `hit` says whether
-- the entry at hand has the name. `b` is one byte. `seen` says whether the line has a byte that is no blank. `back` says whether the byte
-- before is a backslash. `new` is the name that a text gets. `addition` is what is added to a text. `Kept set` is the invariant of every
-- set. `ends_with_backslash` says that a text ends with a backslash, and so is refused. `is_text` says that a text has the form of one in a
-- spec file. `is_body seen back text` says that the rest of a text has the form of one. `without_front test text` is a text from the first
-- byte on that fails the test. `Each P xs` says that P holds of each item. `is_blank` says that a byte is a space or a tab.

-- Entries of a list that is put into, taken from, or renamed in.

-- entries whose name passes a test
module _ (eq : List ℕ → Bool) where
  -- what holds of each entry holds of each one that is left, renamed, or put
  removed_keeps : (es : List (List ℕ × List ℕ)) → Each IsNamed es → Each IsNamed (remove_entry eq es)
  removed_keeps [] kept = tt
  removed_keeps (e ∷ es) kept = by (eq e.0) (removed_keeps es kept.1)
    where
      -- Plan: `by` goes by both answers of `eq e.0`.
      by : (hit : Bool) → Each IsNamed (remove_entry eq es) → Each IsNamed (cond hit es (e ∷ remove_entry eq es))
      by true later = kept.1
      by false later = (kept.0, later)

  -- what holds of each entry holds after a rename
  renamed_keeps : (new : List ℕ) (es : List (List ℕ × List ℕ)) → is_name new ≡ true → Each IsNamed es → Each IsNamed (set_key eq es new)
  renamed_keeps new [] name kept = tt
  renamed_keeps new (e ∷ es) name kept = by (eq e.0) (renamed_keeps new es name kept.1)
    where
      -- Plan: `by` goes by both answers of `eq e.0`.
      by : (hit : Bool) → Each IsNamed (set_key eq es new) → Each IsNamed (cond hit ((new, e.1) ∷ es) (e ∷ set_key eq es new))
      by true later = (record { name = name; text = kept.0.text; tree = kept.0.tree }, kept.1)
      by false later = (kept.0, later)

  -- a text that is found by its name has the form of a text
  found_text : (es : List (List ℕ × List ℕ)) (text : List ℕ) → Each IsNamed es → lookup eq es ≡ Some text → is_text text ≡ true
  found_text [] text kept is = absurd cc
  found_text (e ∷ es) text kept is = by (eq e.0) is (found_text es text kept.1)
    where
      -- Plan: `by` goes by both answers of `eq e.0`.
      by : (hit : Bool) → cond hit (Some e.1) (lookup eq es) ≡ Some text → (lookup eq es ≡ Some text → is_text text ≡ true)
          → is_text text ≡ true
      by true is' later = let same : e.1 ≡ text = cc in ap is_text (sym same) ∙ kept.0.text
      by false is' later = later is'

-- what holds of each entry holds after one is put
inserted_keeps : (name text : List ℕ) (es : List (List ℕ × List ℕ)) → IsNamed (name, text) → Each IsNamed es
    → Each IsNamed (insert_entry (pointwise nat_eq) es name text)
inserted_keeps name text [] new kept = (new, tt)
inserted_keeps name text (e ∷ es) new kept = by (pointwise nat_eq name e.0) (inserted_keeps name text es new kept.1)
  where
    -- Plan: `by` goes by both answers of `pointwise nat_eq name e.0`.
    by : (hit : Bool) → Each IsNamed (insert_entry (pointwise nat_eq) es name text)
        → Each IsNamed (if hit then (e.0, text) ∷ es else e ∷ insert_entry (pointwise nat_eq) es name text)
    by true later = (record { name = kept.0.name; text = new.text; tree = new.tree }, kept.1)
    by false later = (kept.0, later)

-- Names that stay apart.

-- no entry has this name
abbrev Apart : List ℕ → List (List ℕ × List ℕ) → Type 0
Apart name es = AllByRecursion (λ other. pointwise nat_eq name other ≡ false) (keys_of es)

-- a name that no entry has is still apart where one is removed
apart_less : (eq : List ℕ → Bool) (name : List ℕ) (es : List (List ℕ × List ℕ)) → Apart name es → Apart name (remove_entry eq es)
apart_less eq name [] apart = tt
apart_less eq name (e ∷ es) apart = by (eq e.0) (apart_less eq name es apart.1)
  where
    -- Plan: `by` goes by both answers of `eq e.0`.
    by : (hit : Bool) → Apart name (remove_entry eq es) → Apart name (cond hit es (e ∷ remove_entry eq es))
    by true later = apart.1
    by false later = (apart.0, later)

-- names stay distinct where an entry is removed
distinct_less : (eq : List ℕ → Bool) (es : List (List ℕ × List ℕ)) → IsDistinct (pointwise nat_eq) (keys_of es)
    → IsDistinct (pointwise nat_eq) (keys_of (remove_entry eq es))
unfolding IsDistinct
distinct_less eq [] distinct = tt
distinct_less eq (e ∷ es) distinct = by (eq e.0) (distinct_less eq es distinct.1)
  where
    -- Plan: `by` goes by both answers of `eq e.0`.
    by : (hit : Bool) → IsDistinct (pointwise nat_eq) (keys_of (remove_entry eq es))
        → IsDistinct (pointwise nat_eq) (keys_of (cond hit es (e ∷ remove_entry eq es)))
    by true later = distinct.1
    by false later = (apart_less eq e.0 es distinct.0, later)

-- a name is still apart from the others where one with another name is put
apart_more : (other name text : List ℕ) (es : List (List ℕ × List ℕ)) → pointwise nat_eq other name ≡ false → Apart other es
    → Apart other (insert_entry (pointwise nat_eq) es name text)
apart_more other name text [] differ apart = (differ, tt)
apart_more other name text (e ∷ es) differ apart = by (pointwise nat_eq name e.0) (apart_more other name text es differ apart.1)
  where
    -- Plan: `by` goes by both answers of `pointwise nat_eq name e.0`.
    by : (hit : Bool) → Apart other (insert_entry (pointwise nat_eq) es name text)
        → Apart other (if hit then (e.0, text) ∷ es else e ∷ insert_entry (pointwise nat_eq) es name text)
    by true later = apart
    by false later = (apart.0, later)

-- names stay distinct where an entry is put
distinct_more : (name text : List ℕ) (es : List (List ℕ × List ℕ)) → IsDistinct (pointwise nat_eq) (keys_of es)
    → IsDistinct (pointwise nat_eq) (keys_of (insert_entry (pointwise nat_eq) es name text))
unfolding IsDistinct
distinct_more name text [] distinct = (tt, tt)
distinct_more name text (e ∷ es) distinct = by (pointwise nat_eq name e.0) refl (distinct_more name text es distinct.1)
  where
    -- Plan: `by` goes by both answers of `pointwise nat_eq name e.0`.
    by : (hit : Bool) → pointwise nat_eq name e.0 ≡ hit
        → IsDistinct (pointwise nat_eq) (keys_of (insert_entry (pointwise nat_eq) es name text))
        → IsDistinct (pointwise nat_eq) (keys_of (if hit then (e.0, text) ∷ es else e ∷ insert_entry (pointwise nat_eq) es name text))
    by true hit later = distinct
    by false hit later = (apart_more e.0 name text es (nat_list_eq_equiv.symm e.0 name ∙ hit) distinct.0, later)

-- a name is still apart where an entry gets another name
apart_renamed : (eq : List ℕ → Bool) (other new : List ℕ) (es : List (List ℕ × List ℕ)) → pointwise nat_eq other new ≡ false
    → Apart other es → Apart other (set_key eq es new)
apart_renamed eq other new [] differ apart = tt
apart_renamed eq other new (e ∷ es) differ apart = by (eq e.0) (apart_renamed eq other new es differ apart.1)
  where
    -- Plan: `by` goes by both answers of `eq e.0`.
    by : (hit : Bool) → Apart other (set_key eq es new) → Apart other (cond hit ((new, e.1) ∷ es) (e ∷ set_key eq es new))
    by true later = (differ, apart.1)
    by false later = (apart.0, later)

-- a name that is not found is apart
absent_apart : (new : List ℕ) (es : List (List ℕ × List ℕ)) → lookup (pointwise nat_eq new) es ≡ None → Apart new es
absent_apart new [] none = tt
absent_apart new (e ∷ es) none = by (pointwise nat_eq new e.0) refl none (absent_apart new es)
  where
    -- Plan: `by` goes by both answers of `pointwise nat_eq new e.0`.
    by : (hit : Bool) → pointwise nat_eq new e.0 ≡ hit → cond hit (Some e.1) (lookup (pointwise nat_eq new) es) ≡ None
        → (lookup (pointwise nat_eq new) es ≡ None → Apart new es) → Apart new (e ∷ es)
    by true is none' later = absurd cc
    by false is none' later = (is, later none')

-- names stay distinct where an entry gets a new name
distinct_renamed : (eq : List ℕ → Bool) (new : List ℕ) (es : List (List ℕ × List ℕ)) → Apart new es
    → IsDistinct (pointwise nat_eq) (keys_of es) → IsDistinct (pointwise nat_eq) (keys_of (set_key eq es new))
unfolding IsDistinct
distinct_renamed eq new [] apart distinct = tt
distinct_renamed eq new (e ∷ es) apart distinct = by (eq e.0) (distinct_renamed eq new es apart.1 distinct.1)
  where
    -- Plan: `by` goes by both answers of `eq e.0`.
    by : (hit : Bool) → IsDistinct (pointwise nat_eq) (keys_of (set_key eq es new))
        → IsDistinct (pointwise nat_eq) (keys_of (cond hit ((new, e.1) ∷ es) (e ∷ set_key eq es new)))
    by true later = (apart.1, distinct.1)
    by false later = (apart_renamed eq e.0 new es (nat_list_eq_equiv.symm e.0 new ∙ apart.0) distinct.0, later)

-- Named texts.

-- a text that is put, by the answer of its parse, keeps the invariant
put_by : (set : Set) (name text : List ℕ) (set' : Set) (given : Result Items SyntaxFault) → is_name name ≡ true → is_text text ≡ true
    → parsed text ≡ given → by_tree name (with_named set name text) given ≡ Ok set' → Kept set → Kept set'
put_by set name text set' (Err fault) names body tree is kept = absurd cc
put_by set name text set' (Ok items) names body tree is kept =
    let same : with_named set name text ≡ set' = cc in
    subst Kept same (record {
      named = inserted_keeps name text set.named (record { name = names; text = body; tree = ap is_ok tree }) kept.named;
      pairs = kept.pairs;
      distinct = distinct_more name text set.named kept.distinct;
    })

-- a text that is put keeps the invariant, if it has the form of a body
put_keeps : (set : Set) (name text : List ℕ) (set' : Set) → is_name name ≡ true → is_text text ≡ true → put set name text ≡ Ok set'
    → Kept set → Kept set'
put_keeps set name text set' names body is kept = put_by set name text set' (parsed text) names body refl is kept

-- a body with another after it is a body
body_append : (old addition : List ℕ) (seen back : Bool) → is_body seen back old ≡ true → is_body true false addition ≡ true
    → is_body seen back (old ++ addition) ≡ true
body_append [] addition true false is later = later
body_append [] addition true true is later = absurd cc
body_append [] addition false back is later = absurd cc
body_append (b ∷ old) addition seen back is later =
    ap (λ c. c && is_body (sees seen b) (ends_with_backslash (b ∷ [])) (old ++ addition)) (and_first (fits seen back b) _ is)
    ∙ body_append old addition (sees seen b) (ends_with_backslash (b ∷ [])) (and_second (fits seen back b) _ is) later

-- a byte that is no white space fits at any place of a line
solid_fits : (b : ℕ) (seen back : Bool) → fits seen back b ≡ true → is_white b ≡ false
    → (fits false false b ≡ true) × (sees false b ≡ sees seen b)
solid_fits b seen back fit white = by (is_blank b) refl (b == newline) refl
  where
    -- Plan: by whether the byte is a blank or a newline: it is neither.
    by : (blank : Bool) → is_blank b ≡ blank → (cuts : Bool) → (b == newline) ≡ cuts
        → (fits false false b ≡ true) × (sees false b ≡ sees seen b)
    by true blank cuts cuts' = absurd (let wrong : true ≡ false = ap (λ c. c || (b == newline)) (sym blank) ∙ white in cc)
    by false blank true cuts =
        absurd (let wrong : true ≡ false = ap (λ c. c || true) (sym blank) ∙ ap (λ c. is_blank b || c) (sym cuts) ∙ white in cc)
    by false blank false cuts = (
      ap (λ c. is_kept b && (not c || (false && true))) cuts ∙ ap (λ c. c && true) (and_first (is_kept b) _ fit),
      ap (λ c. not c && (false || not (is_blank b))) cuts ∙ ap not blank
          ∙ sym (ap (λ c. not c && (seen || not (is_blank b))) cuts ∙ ap (λ c. seen || not c) blank ∙ or_true seen),
    )
      where
        or_true : (s : Bool) → (s || true) ≡ true
        or_true true = refl
        or_true false = refl

-- a body without the white space at its front is a body, if it has other bytes
body_fronted : (text : List ℕ) (seen back : Bool) → list_all is_white text ≡ false → is_body seen back text ≡ true
    → is_text (without_front is_white text) ≡ true
body_fronted [] seen back white is = absurd cc
body_fronted (b ∷ text) seen back white is = by (is_white b) refl white (body_fronted text (sees seen b) (ends_with_backslash (b ∷ [])))
  where
    -- Plan: by whether the first byte is white space: it goes, and the rest is a body by induction.
    later : is_body (sees seen b) (ends_with_backslash (b ∷ [])) text ≡ true
    later = and_second (fits seen back b) _ is

    by : (w : Bool) → is_white b ≡ w → (w && list_all is_white text) ≡ false
        → (list_all is_white text ≡ false → is_body (sees seen b) (ends_with_backslash (b ∷ [])) text ≡ true
        → is_text (without_front is_white text) ≡ true)
        → is_text (if w then without_front is_white text else b ∷ text) ≡ true
    by true w all on = on all later
    by false w all on =
        let solid = solid_fits b seen back (and_first (fits seen back b) _ is) w in
        ap (λ c. c && is_body (sees false b) (ends_with_backslash (b ∷ [])) text) solid.0
        ∙ ap (λ s. is_body s (ends_with_backslash (b ∷ [])) text) solid.1 ∙ later

-- what is appended to has the form of a text
appended_body : (found : Option (List ℕ)) (addition : List ℕ) → ((text : List ℕ) → found ≡ Some text → is_text text ≡ true)
    → is_body true false addition ≡ true → list_all is_white addition ≡ false
    → is_text (appended_text found addition) ≡ true
appended_body None addition good body white = body_fronted addition true false white body
appended_body (Some text) addition good body white = body_append text addition false false (good text refl) body

-- a text that is appended keeps the invariant
append_keeps : (set : Set) (name addition : List ℕ) (set' : Set) → is_name name ≡ true → is_body true false addition ≡ true
    → append set name addition ≡ Ok set' → Kept set → Kept set'
append_keeps set name addition set' names body is kept = by (list_all is_white addition) refl is
  where
    -- Plan: by whether the addition is white space alone, which changes nothing.
    by : (white : Bool) → list_all is_white addition ≡ white
        → (if white then Ok set else put set name (appended_text (text_of set name) addition)) ≡ Ok set' → Kept set'
    by true white is' = let same : set ≡ set' = cc in subst Kept same kept
    by false white is' =
        put_keeps set name (appended_text (text_of set name) addition) set' names
        (appended_body (text_of set name) addition (λ text found. found_text (pointwise nat_eq name) set.named text kept.named found) body
        white) is' kept

-- a body that has a byte is appended or put
pub filled_body : (set : Set) (name : List ℕ) (b : ℕ) (text : List ℕ)
    → with_body set name (b ∷ text) ≡ (if appends (b ∷ text) then append set name text else put set name (b ∷ text))
filled_body set name b text =
    ap (λ t. if t then Ok (deleted set name) else if appends (b ∷ text) then append set name text else put set name (b ∷ text))
    (eqb-suc-zero (length text))

-- what a body does to a name keeps the invariant: it deletes the text, is appended, or is put
body_keeps : (set : Set) (name body : List ℕ) (set' : Set) → is_name name ≡ true → (body ≡ []) ⊎ (is_text body ≡ true)
    → with_body set name body ≡ Ok set' → Kept set → Kept set'
body_keeps set name [] set' names good is kept =
    let same : deleted set name ≡ set' = cc in
    subst Kept same (record {
      named = removed_keeps (pointwise nat_eq name) set.named kept.named;
      pairs = kept.pairs;
      distinct = distinct_less (pointwise nat_eq name) set.named kept.distinct;
    })
body_keeps set name (b ∷ text) set' names (inl none) is kept = absurd cc
body_keeps set name (b ∷ []) set' names (inr body) is kept =
    put_keeps set name (b ∷ []) set' names body (sym (filled_body set name b []) ∙ is) kept
body_keeps set name (b ∷ c ∷ text) set' names (inr body) is kept =
    by (b == plus && is_blank c) refl (sym (filled_body set name b (c ∷ text)) ∙ is)
  where
    -- Plan: by whether the body begins with + and a blank: then it is appended, else it is put.
    by : (adds : Bool) → (b == plus && is_blank c) ≡ adds
        → (if adds then append set name (c ∷ text) else put set name (b ∷ c ∷ text)) ≡ Ok set' → Kept set'
    by true adds is' =
        let same : b ≡ plus = eqb-true b plus (and_first (b == plus) _ adds) in
        let whole : is_text (plus ∷ c ∷ text) ≡ true = ap (λ d. is_text (d ∷ c ∷ text)) (sym same) ∙ body in
        append_keeps set name (c ∷ text) set' names whole is' kept
    by false adds is' = put_keeps set name (b ∷ c ∷ text) set' names body is' kept

-- a directive's body that no backslash ends is empty, or has the form of a text
whole_body : (body : List ℕ) → IsBody body → ends_with_backslash body ≡ false → (body ≡ []) ⊎ (is_text body ≡ true)
whole_body body (inl none) ends = inl none
whole_body body (inr (inl last)) ends = absurd (let wrong : true ≡ false = sym last ∙ ends in cc)
whole_body body (inr (inr good)) ends = inr good

-- the directive of a named text keeps the invariant
pub text_keeps : (set : Set) (name body : List ℕ) (set' : Set) → IsBody body → with_text set name body ≡ Ok set' → Kept set → Kept set'
text_keeps set name body set' good is kept = by (is_name name) refl (ends_with_backslash body) refl is
  where
    -- Plan: `by` goes by both answers of `is_name name`.
    by : (names : Bool) → is_name name ≡ names → (ends : Bool) → ends_with_backslash body ≡ ends
        → (if not names then Err (BadName name) else if ends then Err (TrailingBackslash name) else with_body set name body) ≡ Ok set'
        → Kept set'
    by false names ends ends' is' = absurd cc
    by true names true ends is' = absurd cc
    by true names false ends is' = body_keeps set name body set' names (whole_body body good ends) is' kept

-- Names.

-- the directive %rename keeps the invariant
pub name_keeps : (set : Set) (old new : List ℕ) (set' : Set) → with_name set old new ≡ Ok set' → Kept set → Kept set'
name_keeps set old new set' is kept = by (is_name old) (is_name new) refl (is_some (text_of set old)) (pointwise nat_eq old new)
    (text_of set new) refl is
  where
    -- Plan: by each test of %rename: the new name's form, whether the old name is there, whether it is the same, and whether the new one is
    -- taken.
    by : (olds news : Bool) → is_name new ≡ news → (there same : Bool) (taken : Option (List ℕ)) → text_of set new ≡ taken
        → (if not olds then Err (BadName old) else if not news then Err (BadName new) else if not there then Err (RenameMissing old)
        else if same then Ok set
        else if is_some taken then Err (RenameTaken new) else Ok (record set { named = set_key (pointwise nat_eq old) set.named new }))
        ≡ Ok set' → Kept set'
    by false news names there same taken taken' is' = absurd cc
    by true false names there same taken taken' is' = absurd cc
    by true true names false same taken taken' is' = absurd cc
    by true true names true true taken taken' is' = let alike : set ≡ set' = cc in subst Kept alike kept
    by true true names true false (Some text) taken' is' = absurd cc
    by true true names true false None taken' is' =
        let alike : (record set { named = set_key (pointwise nat_eq old) set.named new }) ≡ set' = cc in
        subst Kept alike (record {
          named = renamed_keeps (pointwise nat_eq old) new set.named names kept.named;
          pairs = kept.pairs;
          distinct = distinct_renamed (pointwise nat_eq old) new set.named (absent_apart new set.named taken') kept.distinct;
        })

-- Pairs.

-- What is left of a text without the white space at its end. `front` and `last` are what is left, and `end` is the white space. `solid`
-- says that the last byte is none. `soft` says that the text has no white space there, or does not end in a backslash.
record Ended (text : List ℕ) : Type 0 where
  front : List ℕ
  last : ℕ
  end : List ℕ
  is : without_end is_white text ≡ front ++ last ∷ []
  whole : text ≡ front ++ last ∷ end
  solid : is_white last ≡ false
  soft : (end ≡ []) ⊎ (ends_with_backslash text ≡ false)

-- A text with white space at its front, and the byte after that. `white` is the white space. `first` is the byte after it, which is none
-- (`solid`), and `rest` is what follows. `soft` says that `white` is empty or begins with white space.
record Fronts (text : List ℕ) : Type 0 where
  first : ℕ
  rest : List ℕ
  white : List ℕ
  left : without_front is_white text ≡ first ∷ rest
  all : text ≡ white ++ first ∷ rest
  solid : is_white first ≡ false
  soft : (white ≡ []) ⊎ ((b : ℕ) × ((more : List ℕ) × ((white ≡ b ∷ more) × (is_white b ≡ true))))

-- a text without the white space at its front is empty, or begins with a byte that is none
front_split : (text : List ℕ) → (without_front is_white text ≡ []) ⊎ Fronts text
front_split [] = inl refl
front_split (b ∷ text) = by (is_white b) refl (front_split text)
  where
    -- Plan: by whether the first byte is white space: it is left out, or it is the first of what is left.
    by : (w : Bool) → is_white b ≡ w → (without_front is_white text ≡ []) ⊎ Fronts text
        → (without_front is_white (b ∷ text) ≡ []) ⊎ Fronts (b ∷ text)
    by true w (inl none) = inl (ap (λ c. if c then without_front is_white text else b ∷ text) w ∙ none)
    by true w (inr found) = inr (record {
      first = found.first;
      rest = found.rest;
      white = b ∷ found.white;
      left = ap (λ c. if c then without_front is_white text else b ∷ text) w ∙ found.left;
      all = ap (λ t. b ∷ t) found.all;
      solid = found.solid;
      soft = inr (b, (found.white, (refl, w)));
    })
    by false w later = inr (record {
      first = b;
      rest = text;
      white = [];
      left = ap (λ c. if c then without_front is_white text else b ∷ text) w;
      all = refl;
      solid = w;
      soft = inl refl;
    })

-- white space is no backslash
white_ends : (b : ℕ) → is_white b ≡ true → ends_with_backslash (b ∷ []) ≡ false
white_ends b white = by (ends_with_backslash (b ∷ [])) refl
  where
    -- Plan: `by` goes by both answers of `ends_with_backslash (b ∷ [])`.
    by : (e : Bool) → ends_with_backslash (b ∷ []) ≡ e → ends_with_backslash (b ∷ []) ≡ false
    by false e = e
    by true e = absurd (let wrong : true ≡ false = sym white
        ∙ ap is_white (sym (eqb-true backslash b (and_first (nat_eq backslash b) true e))) in cc)

-- a text without the white space at its end is empty, or ends with a byte that is none
ended : (text : List ℕ) → (without_end is_white text ≡ []) ⊎ Ended text
ended text = by (front_split (reverse text))
  where
    -- Plan: what is left is the reverse of a reversed text without its front.
    by : (without_front is_white (reverse text) ≡ []) ⊎ Fronts (reverse text) → (without_end is_white text ≡ []) ⊎ Ended text
    by (inl none) = inl (ap reverse none)
    by (inr found) = inr (record {
      front = reverse found.rest;
      last = found.first;
      end = reverse found.white;
      is = ap reverse found.left ∙ reverse-append (found.first ∷ []) found.rest;
      whole = whole;
      solid = found.solid;
      soft = softly found.soft;
    })
      where
        whole : text ≡ reverse found.rest ++ found.first ∷ reverse found.white
        whole = sym (reverse-reverse text) ∙ ap reverse found.all ∙ reverse-append found.white (found.first ∷ found.rest)
            ∙ ap (λ t. t ++ reverse found.white) (reverse-append (found.first ∷ []) found.rest)
            ∙ append_assoc (reverse found.rest) (found.first ∷ []) (reverse found.white)

        softly : (found.white ≡ []) ⊎ ((b : ℕ) × ((more : List ℕ) × ((found.white ≡ b ∷ more) × (is_white b ≡ true))))
            → (reverse found.white ≡ []) ⊎ (ends_with_backslash text ≡ false)
        softly (inl none) = inl (ap reverse none)
        softly (inr some) = inr (
            ap ends_with_backslash (whole ∙ ap (λ w. reverse found.rest ++ found.first ∷ w)
            (ap reverse some.1.1.0 ∙ reverse-append (some.0 ∷ []) some.1.0))
            ∙ ends_far (reverse found.rest) found.first (reverse some.1.0 ++ some.0 ∷ [])
            ∙ ends_last (found.first ∷ reverse some.1.0) some.0 ∙ white_ends some.0 some.1.1.1)

-- a byte that is no white space is seen in its line
last_sees : (b : ℕ) (seen back : Bool) → fits seen back b ≡ true → is_white b ≡ false → sees seen b ≡ true
last_sees b seen back fit white = by (is_blank b) refl (b == newline) refl
  where
    -- Plan: by whether the byte is a blank or a newline, which it is not.
    by : (blank : Bool) → is_blank b ≡ blank → (cuts : Bool) → (b == newline) ≡ cuts → sees seen b ≡ true
    by true blank cuts cuts' = absurd (let wrong : true ≡ false = ap (λ c. c || (b == newline)) (sym blank) ∙ white in cc)
    by false blank true cuts =
        absurd (let wrong : true ≡ false = ap (λ c. c || true) (sym blank) ∙ ap (λ c. is_blank b || c) (sym cuts) ∙ white in cc)
    by false blank false cuts = ap (λ c. not c && (seen || not (is_blank b))) cuts ∙ ap (λ c. seen || not c) blank ∙ or_true seen
      where
        or_true : (s : Bool) → (s || true) ≡ true
        or_true true = refl
        or_true false = refl

-- a body that is cut after a byte, which is no white space and no backslash, is a body
body_cut : (front : List ℕ) (last : ℕ) (end : List ℕ) (seen back : Bool) → is_body seen back (front ++ last ∷ end) ≡ true
    → is_white last ≡ false → ends_with_backslash (last ∷ []) ≡ false
    → is_body seen back (front ++ last ∷ []) ≡ true
body_cut [] last end seen back is solid ends =
    let fit = and_first (fits seen back last) _ is in
    ap (λ c. c && (sees seen last && not (ends_with_backslash (last ∷ [])))) fit
    ∙ ap (λ c. c && not (ends_with_backslash (last ∷ []))) (last_sees last seen back fit solid) ∙ ap not ends
body_cut (b ∷ front) last end seen back is solid ends =
    ap (λ c. c && is_body (sees seen b) (ends_with_backslash (b ∷ [])) (front ++ last ∷ [])) (and_first (fits seen back b) _ is)
    ∙ body_cut front last end (sees seen b) (ends_with_backslash (b ∷ [])) (and_second (fits seen back b) _ is) solid ends

-- a text with a byte in its middle is not empty
some_byte : (front : List ℕ) (last : ℕ) (end : List ℕ) → has_byte (front ++ last ∷ end) ≡ true
some_byte [] last end = refl
some_byte (b ∷ front) last end = refl

-- a body without the white space at its end has still the form of a text, or is empty
ended_body : (body : List ℕ) → IsBody body → (without_end is_white body ≡ []) ⊎ Ended body
    → ends_with_backslash (without_end is_white body) ≡ false
    → (without_end is_white body ≡ []) ⊎ (is_text (without_end is_white body) ≡ true)
ended_body body good (inl none) ends = inl none
ended_body body (inl none) (inr e) ends =
    absurd (let wrong : true ≡ false = sym (some_byte e.front e.last e.end) ∙ ap has_byte (sym e.whole ∙ none) in cc)
ended_body body (inr (inl last)) (inr e) ends = absurd (by e.soft)
  where
    -- Plan: `by` says that a body with a backslash at its end can't be: nothing was taken from its end, or white space was.
    by : (e.end ≡ []) ⊎ (ends_with_backslash body ≡ false) → ⊥
    by (inl none) = let wrong : true ≡ false = sym last
        ∙ ap ends_with_backslash (e.whole ∙ ap (λ t. e.front ++ e.last ∷ t) none ∙ sym e.is) ∙ ends in cc
    by (inr soft) = let wrong : true ≡ false = sym last ∙ soft in cc
ended_body body (inr (inr good)) (inr e) ends =
    inr (ap is_text e.is ∙ body_cut e.front e.last e.end false false (ap is_text (sym e.whole) ∙ good) e.solid
    (sym (ends_last e.front e.last) ∙ ap ends_with_backslash (sym e.is) ∙ ends))

-- the body of a pair without the white space that it loses is empty or a text
pair_good : (body : List ℕ) → IsBody body → ends_with_backslash (pair_text body) ≡ false
    → (pair_text body ≡ []) ⊎ (is_text (pair_text body) ≡ true)
pair_good body good = by (is_no_text (without_end is_white body))
  where
    -- Plan: `by` goes by both answers of `is_no_text (without_end is_white body)`.
    by : (none : Bool) → ends_with_backslash (if none then without_end is_white body else body) ≡ false
        → ((if none then without_end is_white body else body) ≡ []) ⊎ (is_text (if none then without_end is_white body else body) ≡ true)
    by true ends = ended_body body good (ended body) ends
    by false ends = whole_body body good ends

-- a text loses its white space at the end once
end_same : (text : List ℕ) → (without_end is_white text ≡ []) ⊎ Ended text
    → without_end is_white (without_end is_white text) ≡ without_end is_white text
end_same text (inl none) = ap (without_end is_white) none ∙ sym none
end_same text (inr e) =
    ap (without_end is_white) e.is
    ∙ ap (λ t. reverse (without_front is_white t)) (reverse-append e.front (e.last ∷ []))
    ∙ ap (λ c. reverse (if c then without_front is_white (reverse e.front) else e.last ∷ reverse e.front)) e.solid
    ∙ reverse-append (e.last ∷ []) (reverse e.front) ∙ ap (λ t. t ++ e.last ∷ []) (reverse-reverse e.front) ∙ sym e.is

-- two equal cases are one
either_same : {X : Type 0} (c : Bool) (x : X) → (if c then x else x) ≡ x
either_same true x = refl
either_same false x = refl

-- the body of a pair loses its white space at the end once
pair_same : (body : List ℕ) → pair_text (pair_text body) ≡ pair_text body
pair_same body = by (is_no_text (without_end is_white body)) refl
  where
    -- Plan: by whether the text without its white space is no text to run: then its white space goes only once.
    left : List ℕ
    left = without_end is_white body

    by : (none : Bool) → is_no_text (without_end is_white body) ≡ none → pair_text (pair_text body) ≡ pair_text body
    by true none =
        let is : pair_text body ≡ without_end is_white body = ap (λ c. if c then without_end is_white body else body) none in
        ap pair_text is ∙ ap (λ t. if is_no_text t then t else without_end is_white body) (end_same body (ended body))
        ∙ either_same (is_no_text (without_end is_white body)) (without_end is_white body) ∙ sym is
    by false none = ap pair_text (ap (λ c. if c then without_end is_white body else body) none)

-- a body that is empty or a text, as one test
text_or_none : (text : List ℕ) → (text ≡ []) ⊎ (is_text text ≡ true) → (not (has_byte text) || is_text text) ≡ true
text_or_none [] good = refl
text_or_none (b ∷ text) (inl none) = absurd cc
text_or_none (b ∷ text) (inr good) = good

-- a key begins a line with a byte that is no blank
some_key : (key : List ℕ) → is_key key ≡ true → (key ≡ []) ⊎ (begins_line key ≡ true) → begins_line key ≡ true
some_key key is (inl none) = absurd (let wrong : false ≡ true = ap is_key (sym none) ∙ is in cc)
some_key key is (inr begins) = begins

-- a pair that is added keeps the invariant
pair_added : (set : Set) (key text : List ℕ) → IsPair (key, text) → Kept set → Kept (with_pair set key text)
pair_added set key text new kept = record {
  named = kept.named;
  pairs =
      each_append IsPair set.pairs ((key, text) ∷ []) kept.pairs (new, tt);
  distinct = kept.distinct;
}

-- a pair that is added, by the answer of its text's parse, keeps the invariant
pair_by : (set : Set) (key text : List ℕ) (set' : Set) (given : Result Items SyntaxFault) → parsed text ≡ given
    → ((is_no_text text || has_tree text) ≡ true → IsPair (key, text)) → is_no_text text ≡ false
    → by_tree key (with_pair set key text) given ≡ Ok set' → Kept set → Kept set'
pair_by set key text set' (Err fault) tree new none is kept = absurd cc
pair_by set key text set' (Ok items) tree new none is kept =
    let same : with_pair set key text ≡ set' = cc in
    subst Kept same (pair_added set key text (new (ap (λ c. c || has_tree text) none ∙ ap is_ok tree)) kept)

-- the directive of a suffix or a language keeps the invariant
pub pair_keeps : (set : Set) (key body : List ℕ) (set' : Set) → (key ≡ []) ⊎ (begins_line key ≡ true) → IsBody body
    → with_pair_body set key body ≡ Ok set' → Kept set → Kept set'
pair_keeps set key body set' begins good is kept =
    by (is_key key) refl (ends_with_backslash (pair_text body)) refl (begins_with_at key && begins_with_at (pair_text body)) refl
    (is_no_text (pair_text body)) refl is
  where
    -- Plan: by each test of the directive: the key's form, a backslash at the end, an alias of an alias.
    by : (keys : Bool) → is_key key ≡ keys → (ends : Bool) → ends_with_backslash (pair_text body) ≡ ends → (alias : Bool)
        → (begins_with_at key && begins_with_at (pair_text body)) ≡ alias
        → (none : Bool) → is_no_text (pair_text body) ≡ none
        → (if keys then (if ends then Err (TrailingBackslash key) else if alias then Err (AliasOfAlias key)
        else if none then Ok (with_pair set key (pair_text body))
        else by_tree key (with_pair set key (pair_text body)) (parsed (pair_text body))) else Err (BadName key)) ≡ Ok set' → Kept set'
    by false keys ends ends' alias alias' none none' is' = absurd cc
    by true keys true ends alias alias' none none' is' = absurd cc
    by true keys false ends true alias none none' is' = absurd cc
    by true keys false ends false alias true none is' =
        let same : with_pair set key (pair_text body) ≡ set' = cc in
        subst Kept same (pair_added set key (pair_text body) (record {
          key = keys;
          begins = some_key key keys begins;
          text = text_or_none (pair_text body) (pair_good body good ends);
          whole = pair_same body;
          no_alias = alias;
          tree = ap (λ c. c || has_tree (pair_text body)) none;
        }) kept)
    by true keys false ends false alias false none is' =
        pair_by set key (pair_text body) set' (parsed (pair_text body)) refl
        (λ tree. record {
          key = keys;
          begins = some_key key keys begins;
          text =
              text_or_none (pair_text body) (pair_good body good ends);
          whole = pair_same body;
          no_alias = alias;
          tree = tree;
        })
        none is' kept
