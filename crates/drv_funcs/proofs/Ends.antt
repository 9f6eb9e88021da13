use Rattle.drv_funcs.specs.Code.Changes.{EndsAfter, EndsBy, after_changes, changed, end_by, end_in, end_of_some}
use Rattle.drv_funcs.specs.declared.changes.Change.{Change}
use Rattle.std.proofs.Common.{◌≡◌, ◌∙◌, ◌++◌, Bool, Err, IfOk, List, [], ◌∷◌, None, Ok, Option, Result, Some, ap, append-nil, append_assoc}
use Rattle.std.proofs.Common.{false, if◌then◌else◌, refl, subst, sym, true, ℕ}
use Rattle.std.proofs.lemmas.Cmp.{nat_list_eq_equiv}
use Rattle.std.specs.BTreeMap.{BTreeMap, get, is_at}
use Rattle.std.specs.Cmp.Lexicographic.{pointwise, slice_cmp, texts_ties}
use Rattle.std.specs.List.{cons_option, filter_map}
use Rattle.std.specs.Option.{unwrap_or}
use Rattle.std.specs.Ordering.{nat_cmp}
use Rattle.std.specs.Prelude.{cond, nat_eq}

-- For the outputs: changes that are kept, and then made together.
-- Names: `changes` is the changes that are still to be made. `change` is one change: an old word, and a new one or nothing. `words` is the
-- outputs of a call, as words. `word` is one word. `end` gives what becomes of a word. `new` is the word that an old one becomes, or
-- nothing. `EndsBy ends changes` says that the map gives what the changes do. `changed old new words` makes one change.
-- `end_by changes word` is what becomes of a word by all changes. `end_in ends word` is what becomes of a word by the code's map.
-- `end_of_some` is what becomes of a new word. `after_changes` makes changes one after another. `EndsAfter` says that the map gives what
-- the changes do that follow those left.

-- to keep one more change is to make it after the others
pub one_more : (changes : List Change) (change : Change) (words : List (List ℕ))
    → after_changes (changes ++ change ∷ []) words ≡ changed change.old change.new (after_changes changes words)
one_more [] change words = refl
one_more (first ∷ changes) change words = one_more changes change (changed first.old first.new words)

-- a list becomes what its words become

-- a change that is made first: `old` becomes the new word, and each word then ends as `end` says
module _ (end : List ℕ → Option (List ℕ)) (old : List ℕ) where
  -- the end of a word by that change and then by `end`
  abbrev first_by : Option (List ℕ) → List ℕ → Option (List ℕ)
  first_by new word = if pointwise nat_eq word old then end_of_some end new else end word

  -- the case of a first word: by whether it is the old one
  one_by : (new : Option (List ℕ)) (word : List ℕ) (words : List (List ℕ)) (b : Bool) → pointwise nat_eq word old ≡ b
      → filter_map end (changed old new words) ≡ filter_map (first_by new) words
      → filter_map end (changed old new (word ∷ words)) ≡ filter_map (first_by new) (word ∷ words)
  one_by None word words true is rest = rw is rest
  one_by None word words false is rest = rw is (ap (cons_option (end word)) rest)
  one_by (Some new) word words true is rest = rw is (ap (cons_option (end new)) rest)
  one_by (Some new) word words false is rest = rw is (ap (cons_option (end word)) rest)

  -- so for all words
  all_by : (new : Option (List ℕ)) (words : List (List ℕ)) → filter_map end (changed old new words) ≡ filter_map (first_by new) words
  all_by None [] = refl
  all_by (Some new) [] = refl
  all_by new (word ∷ words) = one_by new word words (pointwise nat_eq word old) refl (all_by new words)

-- without changes each word stays
all_stay : (words : List (List ℕ)) → words ≡ filter_map Some words
all_stay [] = refl
all_stay (word ∷ words) = ap (λ ws. word ∷ ws) (all_stay words)

-- changes one after another give what becomes of each word
all_ended : (changes : List Change) (words : List (List ℕ)) → after_changes changes words ≡ filter_map (end_by changes) words
all_ended [] words = all_stay words
all_ended (change ∷ changes) words =
    all_ended changes (changed change.old change.new words) ∙ all_by (end_by changes) change.old change.new words

-- equal rules give equal words
same_ends : (end other : List ℕ → Option (List ℕ)) → ((word : List ℕ) → end word ≡ other word) → (words : List (List ℕ))
    → filter_map end words ≡ filter_map other words
same_ends end other same [] = refl
same_ends end other same (word ∷ words) =
    ap (λ e. cons_option e (filter_map end words)) (same word) ∙ ap (cons_option (other word)) (same_ends end other same words)

-- so the code's one pass over the words makes all changes
pub all_changed : {E : Type 0} (changes : List Change) (words : List (List ℕ)) (ends : BTreeMap (List ℕ) (Option (List ℕ)))
    (result : Result (List (List ℕ)) E) → EndsBy ends changes → IfOk result (λ ended. ended ≡ filter_map (end_in ends) words)
    → IfOk result (λ ended. ended ≡ after_changes changes words)
all_changed changes words ends (Ok ended) are is = is ∙ same_ends (end_in ends) (end_by changes) are words ∙ sym (all_ended changes words)
all_changed changes words ends (Err e) are is = is

-- the map of ends

-- the code's map compares words as the definition does
same_word : (word other : List ℕ) → is_at (slice_cmp nat_cmp word) other ≡ pointwise nat_eq other word
same_word word other = sym (texts_ties word other) ∙ nat_list_eq_equiv.symm word other

-- equal rules end a new word alike
some_ended : (end other : List ℕ → Option (List ℕ)) → ((word : List ℕ) → end word ≡ other word) → (new : Option (List ℕ))
    → end_of_some end new ≡ end_of_some other new
some_ended end other same None = refl
some_ended end other same (Some word) = same word

-- a change before those in the map: its old word ends as its new one does
pub ends_before : (ends after : BTreeMap (List ℕ) (Option (List ℕ))) (change : Change) (old : List ℕ) (end : Option (List ℕ))
    (changes : List Change)
    → EndsBy ends changes → old ≡ change.old → end ≡ end_of_some (end_in ends) change.new
    → ((other : List ℕ) → get (slice_cmp nat_cmp) after other
    ≡ cond (is_at (slice_cmp nat_cmp old) other) (Some end) (get (slice_cmp nat_cmp) ends other))
    → EndsBy after (change ∷ changes)
ends_before ends after change old end changes are old_is end_is grows word =
    ap (λ e. unwrap_or e (Some word)) (grows word)
    ∙ ap (λ b. unwrap_or (cond b (Some end) (get (slice_cmp nat_cmp) ends word)) (Some word))
    (same_word old word ∙ ap (pointwise nat_eq word) old_is)
    ∙ by (pointwise nat_eq word change.old)
  where
    by : (b : Bool) → unwrap_or (cond b (Some end) (get (slice_cmp nat_cmp) ends word)) (Some word)
        ≡ (if b then end_of_some (end_by changes) change.new else end_by changes word)
    by true = end_is ∙ some_ended (end_in ends) (end_by changes) are change.new
    by false = are word

-- the changes are gone over from the last one on
pub ends_begin : (changes : List Change) (ends : BTreeMap (List ℕ) (Option (List ℕ))) → ((word : List ℕ) → end_in ends word ≡ Some word)
    → EndsAfter changes changes ends
ends_begin changes ends none = record { following = []; parts = append-nil changes; ends_are = none }

-- the code adds the changes to its map from the last one to the first
pub ends_further : (changes left before : List Change) (change : Change) (ends after : BTreeMap (List ℕ) (Option (List ℕ)))
    → EndsAfter changes left ends → left ≡ before ++ change ∷ []
    → ((following : List Change) → EndsBy ends following → EndsBy after (change ∷ following)) → EndsAfter changes before after
ends_further changes left before change ends after h parts adds = record {
  following = change ∷ h.following;
  parts = sym (append_assoc before (change ∷ []) h.following) ∙ ap (λ l. l ++ h.following) (sym parts) ∙ h.parts;
  ends_are = adds h.following h.ends_are;
}

-- once none is left, the map gives what all changes do
pub ends_whole : (changes left : List Change) (ends : BTreeMap (List ℕ) (Option (List ℕ))) → EndsAfter changes left ends → left ≡ []
    → EndsBy ends changes
ends_whole changes left ends h none = subst (EndsBy ends) (ap (λ l. l ++ h.following) (sym none) ∙ h.parts) h.ends_are
