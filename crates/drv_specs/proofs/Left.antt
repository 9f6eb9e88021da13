use Rattle.drv_specs.proofs.Keys.{is_key_of, key_renamed, same_bytes, same_key, some_is}
use Rattle.drv_specs.specs.Code.Keyed.{texts_left, with_left}
use Rattle.indexmap.proofs.MapLemmas.{absent_from_lookup, insert_entry-absent}
use Rattle.indexmap.specs.IndexMap.{insert_entry, swap_remove_entry}
use Rattle.std.proofs.Common.{◌≡◌, ◌∙◌, Bool, IfSome, List, [], ◌∷◌, None, Option, Some, ap, cond, false, filter, if◌then◌else◌, is_some}
use Rattle.std.proofs.Common.{nat_eq, refl, subst, sym, true, ℕ}
use Rattle.std.proofs.lemmas.Option.{slice_get-map}
use Rattle.std.proofs.lemmas.Map.Keys.{IsDistinct-head, IsDistinct-tail}
use Rattle.std.proofs.lemmas.Cmp.{nat_list_eq_equiv}
use Rattle.std.specs.Cmp.Lexicographic.{pointwise, same_text}
use Rattle.std.specs.Global.{Vec}
use Rattle.std.specs.List.{AllByRecursion, AllZip, IsDistinct}
use Rattle.std.specs.Map.{keys_of, lookup, remove_entry, set_key, set_value, values_of}
use Rattle.std.specs.Option.{option_flatten, option_map}
use Rattle.std.specs.Prelude.{⊤, Err, Ok, OnErr, Result, slice_get, vec_len}

-- For the map of named texts (named_texts.rt): a deleted name keeps its entry, which has no text, so no other name moves. `texts_left` is
-- the list of the texts that are left. Each change of the map changes that list as the definitions change the list of a set.
-- Names: `name` is the name of a text. `text` is a text. `hit` says whether the entry at hand has the name. `old` is the old name.
-- `texts_left` is the entries that have a text. `es` is the entries of the map.

-- a name has no entry, or one with a text
abbrev pub IsHeld : Option (Option (List ℕ)) → Type 0
IsHeld None = ⊤
IsHeld (Some None) = ⊥
IsHeld (Some (Some text)) = ⊤

-- the text of one name
module _ (name : List ℕ) where
  -- no key is the name
  abbrev Lacks : List (Vec ℕ × Option (List ℕ)) → Type 0
  Lacks es = AllByRecursion (λ (key : Vec ℕ). pointwise nat_eq name key.items ≡ false) (keys_of es)

  -- a map in which no key is the name lacks it
  lacks : (key : Vec ℕ) (es : List (Vec ℕ × Option (List ℕ))) → name ≡ key.items
      → AllByRecursion (λ other. same_key key other ≡ false) (keys_of es) → Lacks es
  lacks key [] same none = tt
  lacks key (e ∷ es) same none = (ap (λ n. pointwise nat_eq n e.0.items) same ∙ none.0, lacks key es same none.1)

  -- a name that no key is has no text
  none_left : (es : List (Vec ℕ × Option (List ℕ))) → Lacks es → lookup (pointwise nat_eq name) (texts_left es) ≡ None
  none_left [] none = refl
  none_left (e ∷ es) none = by e.1 (none_left es none.1)
    where
      -- Plan: `by` goes by whether the first entry has a text.
      by : (text : Option (List ℕ)) → lookup (pointwise nat_eq name) (texts_left es) ≡ None
          → lookup (pointwise nat_eq name) (with_left e.0.items text (texts_left es)) ≡ None
      by None later = later
      by (Some text) later = ap (λ b. cond b (Some text) (lookup (pointwise nat_eq name) (texts_left es))) none.0 ∙ later

  -- the text of a name, in the list and in the map
  pub lookup_left : (es : List (Vec ℕ × Option (List ℕ))) → IsDistinct same_key (keys_of es)
      → lookup (pointwise nat_eq name) (texts_left es) ≡ option_flatten (lookup (is_key_of name) es)
  lookup_left [] distinct = refl
  lookup_left (e ∷ es) distinct = by e.1 (pointwise nat_eq name e.0.items) refl
      (lookup_left es (IsDistinct-tail same_key e.0 (keys_of es) distinct))
    where
      -- Plan: `by` goes by whether the first entry has a text, and whether it has the name.
      by : (text : Option (List ℕ)) (hit : Bool) → pointwise nat_eq name e.0.items ≡ hit
          → lookup (pointwise nat_eq name) (texts_left es) ≡ option_flatten (lookup (is_key_of name) es)
          → lookup (pointwise nat_eq name) (with_left e.0.items text (texts_left es))
          ≡ option_flatten (cond (pointwise nat_eq name e.0.items) (Some text) (lookup (is_key_of name) es))
      by None true is later =
          none_left es (lacks e.0 es (same_text name e.0.items (sym is)) (IsDistinct-head same_key e.0 (keys_of es) distinct))
          ∙ sym (ap (λ b. option_flatten (cond b (Some None) (lookup (is_key_of name) es))) is)
      by None false is later = later ∙ sym (ap (λ b. option_flatten (cond b (Some None) (lookup (is_key_of name) es))) is)
      by (Some text) true is later =
          ap (λ b. cond b (Some text) (lookup (pointwise nat_eq name) (texts_left es))) is
          ∙ sym (ap (λ b. option_flatten (cond b (Some (Some text)) (lookup (is_key_of name) es))) is)
      by (Some text) false is later =
          ap (λ b. cond b (Some text) (lookup (pointwise nat_eq name) (texts_left es))) is ∙ later
          ∙ sym (ap (λ b. option_flatten (cond b (Some (Some text)) (lookup (is_key_of name) es))) is)

  -- a name whose first entry has a text has this text, and a name without an entry has none
  pub held_left : (found : Option (Option (List ℕ))) (es : List (Vec ℕ × Option (List ℕ))) → lookup (is_key_of name) es ≡ found
      → IsHeld found → lookup (pointwise nat_eq name) (texts_left es) ≡ option_flatten found
  held_left found [] is held = ap option_flatten is
  held_left found (e ∷ es) is held = by e.1 (pointwise nat_eq name e.0.items) refl is (held_left found es)
    where
      -- Plan: `by` goes by whether the first entry has a text, and whether it has the name.
      by : (text : Option (List ℕ)) (hit : Bool) → pointwise nat_eq name e.0.items ≡ hit
          → cond hit (Some text) (lookup (is_key_of name) es) ≡ found
          → (lookup (is_key_of name) es ≡ found → IsHeld found → lookup (pointwise nat_eq name) (texts_left es) ≡ option_flatten found)
          → lookup (pointwise nat_eq name) (with_left e.0.items text (texts_left es)) ≡ option_flatten found
      by None true hit is' later = absurd (subst IsHeld (sym is') held)
      by None false hit is' later = later is' held
      by (Some text) true hit is' later =
          ap (λ b. cond b (Some text) (lookup (pointwise nat_eq name) (texts_left es))) hit ∙ ap option_flatten is'
      by (Some text) false hit is' later =
          ap (λ b. cond b (Some text) (lookup (pointwise nat_eq name) (texts_left es))) hit ∙ later is' held

  -- an entry without a text may be dropped
  pub left_vacated : (es : List (Vec ℕ × Option (List ℕ))) → lookup (pointwise nat_eq name) (texts_left es) ≡ None
      → texts_left (remove_entry (is_key_of name) es) ≡ texts_left es
  left_vacated [] none = refl
  left_vacated (e ∷ es) none = by e.1 (pointwise nat_eq name e.0.items) refl none (left_vacated es)
    where
      -- Plan: `by` goes by whether the first entry has a text, and whether it has the name.
      by : (text : Option (List ℕ)) (hit : Bool) → pointwise nat_eq name e.0.items ≡ hit
          → lookup (pointwise nat_eq name) (with_left e.0.items text (texts_left es)) ≡ None
          → (lookup (pointwise nat_eq name) (texts_left es) ≡ None → texts_left (remove_entry (is_key_of name) es) ≡ texts_left es)
          → texts_left (cond (pointwise nat_eq name e.0.items) es ((e.0, text) ∷ remove_entry (is_key_of name) es))
          ≡ with_left e.0.items text (texts_left es)
      by None true is none later = ap (λ b. texts_left (cond b es ((e.0, None) ∷ remove_entry (is_key_of name) es))) is
      by None false is none later = ap (λ b. texts_left (cond b es ((e.0, None) ∷ remove_entry (is_key_of name) es))) is ∙ later none
      by (Some text) true is none later =
          absurd (let wrong : Some text ≡ None =
          sym (ap (λ b. cond b (Some text) (lookup (pointwise nat_eq name) (texts_left es))) is) ∙ none in cc)
      by (Some text) false is none later =
          ap (λ b. texts_left (cond b es ((e.0, Some text) ∷ remove_entry (is_key_of name) es))) is
          ∙ ap (λ l. (e.0.items, text) ∷ l) (later (sym (ap (λ b. cond b (Some text) (lookup (pointwise nat_eq name) (texts_left es))) is)
          ∙ none))

  -- the removal of a name that no key is changes nothing
  none_removed : (es : List (Vec ℕ × Option (List ℕ))) → Lacks es → remove_entry (pointwise nat_eq name) (texts_left es) ≡ texts_left es
  none_removed [] none = refl
  none_removed (e ∷ es) none = by e.1 (none_removed es none.1)
    where
      -- Plan: `by` goes by whether the first entry has a text.
      by : (text : Option (List ℕ)) → remove_entry (pointwise nat_eq name) (texts_left es) ≡ texts_left es
          → remove_entry (pointwise nat_eq name) (with_left e.0.items text (texts_left es)) ≡ with_left e.0.items text (texts_left es)
      by None later = later
      by (Some text) later = ap (λ b. cond b (texts_left es) ((e.0.items, text) ∷ remove_entry (pointwise nat_eq name) (texts_left es)))
          none.0 ∙ ap (λ l. (e.0.items, text) ∷ l) later

  -- a name whose text is taken away is removed from the list of texts
  pub left_without : (es : List (Vec ℕ × Option (List ℕ))) → IsDistinct same_key (keys_of es)
      → texts_left (set_value (is_key_of name) es None) ≡ remove_entry (pointwise nat_eq name) (texts_left es)
  left_without [] distinct = refl
  left_without (e ∷ es) distinct = by e.1 (pointwise nat_eq name e.0.items) refl
      (left_without es (IsDistinct-tail same_key e.0 (keys_of es) distinct))
    where
      -- Plan: `by` goes by whether the first entry has a text, and whether it has the name.
      by : (text : Option (List ℕ)) (hit : Bool) → pointwise nat_eq name e.0.items ≡ hit
          → texts_left (set_value (is_key_of name) es None) ≡ remove_entry (pointwise nat_eq name) (texts_left es)
          → texts_left (cond (pointwise nat_eq name e.0.items) ((e.0, None) ∷ es) ((e.0, text) ∷ set_value (is_key_of name) es None))
          ≡ remove_entry (pointwise nat_eq name) (with_left e.0.items text (texts_left es))
      by None true is later =
          ap (λ b. texts_left (cond b ((e.0, None) ∷ es) ((e.0, None) ∷ set_value (is_key_of name) es None))) is
          ∙ sym (none_removed es (lacks e.0 es (same_text name e.0.items (sym is)) (IsDistinct-head same_key e.0 (keys_of es) distinct)))
      by None false is later = ap (λ b. texts_left (cond b ((e.0, None) ∷ es) ((e.0, None) ∷ set_value (is_key_of name) es None))) is
          ∙ later
      by (Some text) true is later =
          ap (λ b. texts_left (cond b ((e.0, None) ∷ es) ((e.0, Some text) ∷ set_value (is_key_of name) es None))) is
          ∙ sym (ap (λ b. cond b (texts_left es) ((e.0.items, text) ∷ remove_entry (pointwise nat_eq name) (texts_left es))) is)
      by (Some text) false is later =
          ap (λ b. texts_left (cond b ((e.0, None) ∷ es) ((e.0, Some text) ∷ set_value (is_key_of name) es None))) is
          ∙ ap (λ l. (e.0.items, text) ∷ l) later
          ∙ sym (ap (λ b. cond b (texts_left es) ((e.0.items, text) ∷ remove_entry (pointwise nat_eq name) (texts_left es))) is)

  -- the removal of a name without an entry changes nothing
  pub left_unlisted : (es : List (Vec ℕ × Option (List ℕ))) → lookup (is_key_of name) es ≡ None
      → texts_left es ≡ remove_entry (pointwise nat_eq name) (texts_left es)
  left_unlisted es none = absent (texts_left es) (held_left None es none tt)
    where
      -- Plan: `absent` says that taking away a name without a text changes no list of texts.
      absent : (texts : List (List ℕ × List ℕ)) → lookup (pointwise nat_eq name) texts ≡ None
          → texts ≡ remove_entry (pointwise nat_eq name) texts
      absent [] none = refl
      absent (t ∷ texts) none = by (pointwise nat_eq name t.0) refl none (absent texts)
        where
          -- Plan: `by` goes by both answers of `pointwise nat_eq name t.0`.
          by : (hit : Bool) → pointwise nat_eq name t.0 ≡ hit → cond hit (Some t.1) (lookup (pointwise nat_eq name) texts) ≡ None
              → (lookup (pointwise nat_eq name) texts ≡ None → texts ≡ remove_entry (pointwise nat_eq name) texts)
              → t ∷ texts ≡ remove_entry (pointwise nat_eq name) (t ∷ texts)
          by true is none later = absurd cc
          by false is none later = ap (λ l. t ∷ l) (later none)
              ∙ sym (ap (λ b. cond b texts (t ∷ remove_entry (pointwise nat_eq name) texts)) is)

-- for text_at: an optional value of which is_some is false is None
pub none_of : {X : Type 0} (o : Option X) → is_some o ≡ false → o ≡ None
none_of None is = refl
none_of (Some x) is = absurd cc

-- the text that the code finds at the place of a name is that of the name
pub text_found : (name : List ℕ) (es : List (Vec ℕ × Option (List ℕ))) (place : ℕ) (found : Option (Vec ℕ × Option (List ℕ)))
    → IsDistinct same_key (keys_of es)
    → slice_get (values_of es) place ≡ lookup (is_key_of name) es → found ≡ slice_get es place
    → lookup (pointwise nat_eq name) (texts_left es) ≡ option_flatten (option_map (λ e. e.1) found)
text_found name es place found distinct there is =
    lookup_left name es distinct ∙ ap option_flatten (sym there ∙ slice_get-map (λ (e : Vec ℕ × Option (List ℕ)). e.1) es place
    ∙ ap (option_map (λ e. e.1)) (sym is))

-- for text_there: the text that the code finds at a place is that of the name, if the name there is this one
pub text_noted : {B : Type 0} (result : Option B) (now : B → List ℕ) (name bytes : List ℕ) (key : Vec ℕ) (had : Option (List ℕ))
    (es : List (Vec ℕ × Option (List ℕ))) → lookup (same_key key) es ≡ Some had → bytes ≡ key.items → pointwise nat_eq bytes name ≡ true
    → option_map now result ≡ had → IfSome result (λ text. lookup (pointwise nat_eq name) (texts_left es) ≡ Some (now text))
text_noted None now name bytes key had es there is same lent = tt
text_noted (Some text) now name bytes key had es there is same lent =
    let named : key.items ≡ name = sym is ∙ same_text bytes name (sym same) in
    held_left name (Some (Some (now text))) es (ap (λ n. lookup (is_key_of n) es) (sym named) ∙ there ∙ ap Some (sym lent)) tt

-- a text is put under such a name in the map as in the list
pub left_with : (key : Vec ℕ) (text : List ℕ) (es : List (Vec ℕ × Option (List ℕ))) → IsHeld (lookup (is_key_of key.items) es)
    → texts_left (insert_entry same_key es key (Some text)) ≡ insert_entry (pointwise nat_eq) (texts_left es) key.items text
left_with key text [] held = refl
left_with key text (e ∷ es) held = by e.1 (pointwise nat_eq key.items e.0.items) refl held (left_with key text es)
  where
    -- Plan: by whether the first entry has the name, and whether it has a text.
    by : (had : Option (List ℕ)) (hit : Bool) → pointwise nat_eq key.items e.0.items ≡ hit
        → IsHeld (cond (pointwise nat_eq key.items e.0.items) (Some had) (lookup (is_key_of key.items) es))
        → (IsHeld (lookup (is_key_of key.items) es) → texts_left (insert_entry same_key es key (Some text))
        ≡ insert_entry (pointwise nat_eq) (texts_left es) key.items text)
        → texts_left (if pointwise nat_eq key.items e.0.items then (e.0, Some text) ∷ es
        else (e.0, had) ∷ insert_entry same_key es key (Some text))
        ≡ insert_entry (pointwise nat_eq) (with_left e.0.items had (texts_left es)) key.items text
    by None true is held later = absurd (subst (λ b. IsHeld (cond b (Some None) (lookup (is_key_of key.items) es))) is held)
    by None false is held later =
        ap (λ b. texts_left (if b then (e.0, Some text) ∷ es else (e.0, None) ∷ insert_entry same_key es key (Some text))) is
        ∙ later (subst (λ b. IsHeld (cond b (Some None) (lookup (is_key_of key.items) es))) is held)
    by (Some had) true is held later =
        ap (λ b. texts_left (if b then (e.0, Some text) ∷ es else (e.0, Some had) ∷ insert_entry same_key es key (Some text))) is
        ∙ sym (ap (λ b. if b then (e.0.items, text) ∷ texts_left es
        else (e.0.items, had) ∷ insert_entry (pointwise nat_eq) (texts_left es) key.items text) is)
    by (Some had) false is held later =
        ap (λ b. texts_left (if b then (e.0, Some text) ∷ es else (e.0, Some had) ∷ insert_entry same_key es key (Some text))) is
        ∙ ap (λ l. (e.0.items, had) ∷ l) (later (subst (λ b. IsHeld (cond b (Some (Some had)) (lookup (is_key_of key.items) es))) is held))
        ∙ sym (ap (λ b. if b then (e.0.items, text) ∷ texts_left es
        else (e.0.items, had) ∷ insert_entry (pointwise nat_eq) (texts_left es) key.items text) is)

-- a name that was put and then removed is removed
replaced : (name : List ℕ) (key : Vec ℕ) (text : Option (List ℕ)) (es : List (Vec ℕ × Option (List ℕ))) → key.items ≡ name
    → remove_entry (is_key_of name) (insert_entry same_key es key text) ≡ remove_entry (is_key_of name) es
replaced name key text [] same = ap (λ n. cond (pointwise nat_eq name n) [] ((key, text) ∷ [])) same
    ∙ ap (λ b. cond b [] ((key, text) ∷ [])) (nat_list_eq_equiv.refl name)
replaced name key text (e ∷ es) same = by (pointwise nat_eq name e.0.items) refl (replaced name key text es same)
  where
    -- Plan: by whether the first entry has the name.
    by : (hit : Bool) → pointwise nat_eq name e.0.items ≡ hit
        → remove_entry (is_key_of name) (insert_entry same_key es key text) ≡ remove_entry (is_key_of name) es
        → remove_entry (is_key_of name) (insert_entry same_key (e ∷ es) key text) ≡ remove_entry (is_key_of name) (e ∷ es)
    by true is later =
        ap (λ b. remove_entry (is_key_of name) (if b then (e.0, text) ∷ es else e ∷ insert_entry same_key es key text))
        (ap (λ n. pointwise nat_eq n e.0.items) same ∙ is)
        ∙ ap (λ b. cond b es ((e.0, text) ∷ remove_entry (is_key_of name) es)) is
        ∙ sym (ap (λ b. cond b es (e ∷ remove_entry (is_key_of name) es)) is)
    by false is later =
        ap (λ b. remove_entry (is_key_of name) (if b then (e.0, text) ∷ es else e ∷ insert_entry same_key es key text))
        (ap (λ n. pointwise nat_eq n e.0.items) same ∙ is)
        ∙ ap (λ b. cond b (insert_entry same_key es key text) (e ∷ remove_entry (is_key_of name) (insert_entry same_key es key text))) is
        ∙ ap (λ l. e ∷ l) later
        ∙ sym (ap (λ b. cond b es (e ∷ remove_entry (is_key_of name) es)) is)

-- a key that is there keeps its place
keys_kept : (key : Vec ℕ) (text : Option (List ℕ)) (es : List (Vec ℕ × Option (List ℕ))) → is_some (lookup (same_key key) es) ≡ true
    → keys_of (insert_entry same_key es key text) ≡ keys_of es
keys_kept key text [] there = absurd cc
keys_kept key text (e ∷ es) there = by (same_key key e.0) refl there (keys_kept key text es)
  where
    -- Plan: `by` goes by both answers of `same_key key e.0`.
    by : (hit : Bool) → same_key key e.0 ≡ hit → is_some (cond hit (Some e.1) (lookup (same_key key) es)) ≡ true
        → (is_some (lookup (same_key key) es) ≡ true → keys_of (insert_entry same_key es key text) ≡ keys_of es)
        → keys_of (insert_entry same_key (e ∷ es) key text) ≡ keys_of (e ∷ es)
    by true is there later = ap (λ b. keys_of (if b then (e.0, text) ∷ es else e ∷ insert_entry same_key es key text)) is
    by false is there later = ap (λ b. keys_of (if b then (e.0, text) ∷ es else e ∷ insert_entry same_key es key text)) is
        ∙ ap (λ l. e.0 ∷ l) (later there)

-- keys that are distinct after a text was put were so before
distinct_before : (key : Vec ℕ) (text : Option (List ℕ)) (es after : List (Vec ℕ × Option (List ℕ)))
    → is_some (lookup (same_key key) es) ≡ true → after ≡ insert_entry same_key es key text
    → IsDistinct same_key (keys_of after) → IsDistinct same_key (keys_of es)
distinct_before key text es after there is distinct = subst (IsDistinct same_key) (ap keys_of is ∙ keys_kept key text es there) distinct

-- the text that a name had, after another was put
pub text_before : (key : Vec ℕ) (name : List ℕ) (text : List ℕ) (es after : List (Vec ℕ × Option (List ℕ))) → key.items ≡ name
    → after ≡ insert_entry same_key es key (Some text)
    → IsDistinct same_key (keys_of after) → lookup (pointwise nat_eq name) (texts_left es) ≡ option_flatten (lookup (same_key key) es)
text_before key name text es after same is distinct = by (lookup (same_key key) es) refl
  where
    -- Plan: `by` goes by what the map has for the key: no entry, one without a text, or a text.
    by : (old : Option (Option (List ℕ))) → lookup (same_key key) es ≡ old
        → lookup (pointwise nat_eq name) (texts_left es) ≡ option_flatten (lookup (same_key key) es)
    by None none = held_left name None es (ap (λ n. lookup (is_key_of n) es) (sym same) ∙ none) tt ∙ sym (ap option_flatten none)
    by (Some old) there =
        lookup_left name es (distinct_before key (Some text) es after (ap is_some there) is distinct)
        ∙ ap (λ n. option_flatten (lookup (is_key_of n) es)) (sym same)

-- a text under a name that had lost its own goes behind all others: the code puts it, finds the entry without a text, and moves it
pub moved : (key again : Vec ℕ) (name text : List ℕ) (put : Option (List ℕ)) (es first second third : List (Vec ℕ × Option (List ℕ)))
    → key.items ≡ name → again.items ≡ name
    → lookup (same_key key) es ≡ Some None → first ≡ insert_entry same_key es key (Some text) → IsDistinct same_key (keys_of first)
    → lookup (same_key key) first ≡ Some (Some text)
    → Some put ≡ lookup (is_key_of name) first → second ≡ remove_entry (is_key_of name) first → lookup (is_key_of name) second ≡ None
    → third ≡ insert_entry same_key second again put
    → texts_left third ≡ insert_entry (pointwise nat_eq) (texts_left es) name text
moved key again name text put es first second third same same' had is distinct now taken without none last =
    let lost : lookup (pointwise nat_eq name) (texts_left es) ≡ None = text_before key name text es first same is distinct
    ∙ ap option_flatten had in
    let it : put ≡ Some text = some_is (taken ∙ ap (λ n. lookup (is_key_of n) first) (sym same) ∙ now) in
    let rest : texts_left second ≡ texts_left es = ap texts_left
    (without ∙ ap (remove_entry (is_key_of name)) is ∙ replaced name key (Some text) es same) ∙ left_vacated name es lost in
    ap texts_left (last ∙ ap (insert_entry same_key second again) it)
    ∙ left_with again text second (subst IsHeld (sym (ap (λ n. lookup (is_key_of n) second) same' ∙ none)) tt)
    ∙ ap (λ l. insert_entry (pointwise nat_eq) l again.items text) rest
    ∙ ap (λ n. insert_entry (pointwise nat_eq) (texts_left es) n text) same'

-- a text is put under a name that had a text, or no entry
pub put_there : (key : Vec ℕ) (name text : List ℕ) (old : Option (Option (List ℕ))) (es after : List (Vec ℕ × Option (List ℕ)))
    → key.items ≡ name → old ≡ lookup (same_key key) es → IsHeld old
    → after ≡ insert_entry same_key es key (Some text) → texts_left after ≡ insert_entry (pointwise nat_eq) (texts_left es) name text
put_there key name text old es after same had held is =
    ap texts_left is ∙ left_with key text es (subst IsHeld had held) ∙ ap (λ n. insert_entry (pointwise nat_eq) (texts_left es) n text) same

-- entries without a text may be dropped: the texts are the same
pub left_kept : (es kept : List (Vec ℕ × Option (List ℕ))) → kept ≡ filter (λ e. is_some e.1) es → texts_left kept ≡ texts_left es
left_kept es kept is = ap texts_left is ∙ all es
  where
    -- Plan: entry by entry (`all`).
    all : (xs : List (Vec ℕ × Option (List ℕ))) → texts_left (filter (λ e. is_some e.1) xs) ≡ texts_left xs
    all [] = refl
    all (x ∷ xs) = by x.1 (all xs)
      where
        by : (text : Option (List ℕ)) → texts_left (filter (λ e. is_some e.1) xs) ≡ texts_left xs
            → texts_left (cond (is_some text) ((x.0, text) ∷ filter (λ e. is_some e.1) xs) (filter (λ e. is_some e.1) xs))
            ≡ with_left x.0.items text (texts_left xs)
        by None later = later
        by (Some text) later = ap (λ l. (x.0.items, text) ∷ l) later

-- a text under a new name keeps its place
left_renamed_at : (old : List ℕ) (new : Vec ℕ) (text : List ℕ) (es : List (Vec ℕ × Option (List ℕ)))
    → lookup (is_key_of old) es ≡ Some (Some text)
    → texts_left (set_key (is_key_of old) es new) ≡ set_key (pointwise nat_eq old) (texts_left es) new.items
left_renamed_at old new text [] there = absurd cc
left_renamed_at old new text (e ∷ es) there = by e.1 (pointwise nat_eq old e.0.items) refl there (left_renamed_at old new text es)
  where
    -- Plan: by whether the first entry has the old name, and whether it has a text.
    by : (had : Option (List ℕ)) (hit : Bool) → pointwise nat_eq old e.0.items ≡ hit
        → cond (pointwise nat_eq old e.0.items) (Some had) (lookup (is_key_of old) es) ≡ Some (Some text)
        → (lookup (is_key_of old) es ≡ Some (Some text) → texts_left (set_key (is_key_of old) es new)
        ≡ set_key (pointwise nat_eq old) (texts_left es) new.items)
        → texts_left (cond (pointwise nat_eq old e.0.items) ((new, had) ∷ es) ((e.0, had) ∷ set_key (is_key_of old) es new))
        ≡ set_key (pointwise nat_eq old) (with_left e.0.items had (texts_left es)) new.items
    by None true is there later =
        absurd (let wrong : Some None ≡ Some (Some text) = sym (ap (λ b. cond b (Some None) (lookup (is_key_of old) es)) is) ∙ there in cc)
    by None false is there later =
        ap (λ b. texts_left (cond b ((new, None) ∷ es) ((e.0, None) ∷ set_key (is_key_of old) es new))) is
        ∙ later (sym (ap (λ b. cond b (Some None) (lookup (is_key_of old) es)) is) ∙ there)
    by (Some had) true is there later =
        ap (λ b. texts_left (cond b ((new, Some had) ∷ es) ((e.0, Some had) ∷ set_key (is_key_of old) es new))) is
        ∙ sym (ap (λ b. cond b ((new.items, had) ∷ texts_left es)
        ((e.0.items, had) ∷ set_key (pointwise nat_eq old) (texts_left es) new.items)) is)
    by (Some had) false is there later =
        ap (λ b. texts_left (cond b ((new, Some had) ∷ es) ((e.0, Some had) ∷ set_key (is_key_of old) es new))) is
        ∙ ap (λ l. (e.0.items, had) ∷ l) (later (sym (ap (λ b. cond b (Some (Some had)) (lookup (is_key_of old) es)) is) ∙ there))
        ∙ sym (ap (λ b. cond b ((new.items, had) ∷ texts_left es)
        ((e.0.items, had) ∷ set_key (pointwise nat_eq old) (texts_left es) new.items)) is)

-- an entry whose text is found has that text
both_some : (o : Option (Option (List ℕ))) (text : List ℕ) → option_flatten o ≡ Some text → o ≡ Some (Some text)
both_some None text is = absurd cc
both_some (Some None) text is = absurd cc
both_some (Some (Some other)) text is = ap Some is

-- the code renames by a new entry, which it swaps into the place of the old one
pub left_renamed : (old name text : List ℕ) (new : Vec ℕ) (es without with_new after : List (Vec ℕ × Option (List ℕ))) → new.items ≡ name
    → lookup (pointwise nat_eq old) (texts_left es) ≡ Some text
    → lookup (pointwise nat_eq name) (texts_left es) ≡ None → without ≡ remove_entry (is_key_of name) es
    → IsDistinct same_key (keys_of without) → lookup (is_key_of name) without ≡ None
    → with_new ≡ insert_entry same_key without new (Some text) → after ≡ swap_remove_entry (is_key_of old) with_new
    → texts_left after ≡ set_key (pointwise nat_eq old) (texts_left es) name
left_renamed old name text new es without with_new after same there free is distinct gone put taken =
    let rest : texts_left without ≡ texts_left es = ap texts_left is ∙ left_vacated name es free in
    let found : lookup (is_key_of old) without ≡ Some (Some text) =
    both_some (lookup (is_key_of old) without) text (sym (lookup_left old without distinct) ∙ ap (lookup (pointwise nat_eq old)) rest
    ∙ there) in
    ap texts_left (taken ∙ ap (swap_remove_entry (is_key_of old)) (put ∙ insert_entry-absent same_key new (Some text) without
    (absent_from_lookup (same_key new) without (ap (λ n. lookup (is_key_of n) without) same ∙ gone)))
    ∙ key_renamed (is_key_of old) new (Some text) without found)
    ∙ left_renamed_at old new text without found ∙ ap (λ l. set_key (pointwise nat_eq old) l new.items) rest
    ∙ ap (set_key (pointwise nat_eq old) (texts_left es)) same

-- a rename of a name without a text changes nothing
pub unnamed : (old new : List ℕ) (texts : List (List ℕ × List ℕ)) → lookup (pointwise nat_eq old) texts ≡ None
    → texts ≡ set_key (pointwise nat_eq old) texts new
unnamed old new [] none = refl
unnamed old new (t ∷ texts) none = by (pointwise nat_eq old t.0) refl none (unnamed old new texts)
  where
    -- Plan: `by` goes by both answers of `pointwise nat_eq old t.0`.
    by : (hit : Bool) → pointwise nat_eq old t.0 ≡ hit → cond hit (Some t.1) (lookup (pointwise nat_eq old) texts) ≡ None
        → (lookup (pointwise nat_eq old) texts ≡ None → texts ≡ set_key (pointwise nat_eq old) texts new)
        → t ∷ texts ≡ set_key (pointwise nat_eq old) (t ∷ texts) new
    by true is none later = absurd cc
    by false is none later = ap (λ l. t ∷ l) (later none)
        ∙ sym (ap (λ b. cond b ((new, t.1) ∷ texts) (t ∷ set_key (pointwise nat_eq old) texts new)) is)

-- a copy of the map has the same texts
pub left_copied : (R : Option (List ℕ) → Option (List ℕ) → Type 0) → ((x y : Option (List ℕ)) → R x y → y ≡ x)
    → (es copies : List (Vec ℕ × Option (List ℕ)))
    → AllZip (λ e copy. (AllZip (λ b c. c ≡ b) e.0.items copy.0.items × (vec_len copy.0 ≡ vec_len e.0)) × R e.1 copy.1) es copies
    → texts_left copies ≡ texts_left es
left_copied R same [] [] alike = refl
left_copied R same [] (e ∷ copies) alike = absurd alike
left_copied R same (e ∷ es) [] alike = absurd alike
left_copied R same (e ∷ es) (copy ∷ copies) alike =
    λ j. with_left (same_bytes e.0.items copy.0.items alike.0.0.0 j) (same e.1 copy.1 alike.0.1 j) (left_copied R same es copies alike.1 j)

-- a name that has no text loses none where a call fails
pub no_text_lost : {X E : Type 0} (result : Result X E) (found : Option (List ℕ)) (P : Type 0) → None ≡ found
    → OnErr result (is_some found ≡ true → P)
no_text_lost (Ok x) found P none = tt
no_text_lost (Err e) found P none = λ has. absurd (let wrong : false ≡ true = ap is_some none ∙ has in cc)
