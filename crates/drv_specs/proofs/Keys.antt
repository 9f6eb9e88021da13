use Rattle.indexmap.proofs.MapLemmas.{swap_remove_entry-found}
use Rattle.indexmap.specs.IndexMap.{swap_remove_entry}
use Rattle.std.proofs.Common.{◌≡◌, ◌<◌, ◌+◌, ◌-◌, ◌∙◌, Bool, List, [], ◌∷◌, ◌++◌, None, Some, ap, arith, cond, false, length, length-append}
use Rattle.std.proofs.Common.{lt-ltb, not, refl, set, slice_index_or, suc, swap_remove, sym, take, true, zero, ℕ}
use Rattle.std.specs.Cmp.Lexicographic.{pointwise}
use Rattle.std.specs.Global.{Vec}
use Rattle.std.specs.List.{AllZip}
use Rattle.std.specs.Map.{keys_of, lookup, set_key}
use Rattle.std.specs.List.{position_or_len}
use Rattle.std.specs.Prelude.{nat_eq, nat_lt, position, unwrap_or}

-- For the map of named texts: it finds a name where the list of the set has it.
-- Names: `i` is an index. `X` is the type of what a list has. `K` is the type of keys, and `t` a test of them. `es` is entries: keys and
-- values. `x` and `y` are values.

-- whether a key is this name
abbrev pub is_key_of : List ℕ → Vec ℕ → Bool
is_key_of name key = pointwise nat_eq name key.items

-- whether two keys are one name
abbrev pub same_key : Vec ℕ → Vec ℕ → Bool
same_key key other = pointwise nat_eq key.items other.items

-- bytes that were copied one by one are the same bytes
pub same_bytes : (bytes copies : List ℕ) → AllZip (λ b copy. copy ≡ b) bytes copies → copies ≡ bytes
same_bytes [] [] alike = refl
same_bytes [] (b ∷ copies) alike = absurd alike
same_bytes (b ∷ bytes) [] alike = absurd alike
same_bytes (b ∷ bytes) (copy ∷ copies) alike = λ j. alike.0 j ∷ same_bytes bytes copies alike.1 j

-- An entry that goes last, and from there to the place of another.

-- the last item of a list is at the place of the length before
last_of : {X : Type 0} (xs : List X) (x d : X) → slice_index_or (xs ++ x ∷ []) (length xs) d ≡ x
last_of [] x d = refl
last_of (y ∷ xs) x d = last_of xs x d

-- the items before it are the list before
front_of : {X : Type 0} (xs : List X) (x : X) → take (length xs) (xs ++ x ∷ []) ≡ xs
front_of [] x = refl
front_of (y ∷ xs) x = ap (λ rest. y ∷ rest) (front_of xs x)

-- two values are the same if `Some` of them are
pub some_is : {X : Type 0} {x y : X} → Some x ≡ Some y → x ≡ y
some_is {X} {x} e = ap (λ o. unwrap_or o x) e

-- the entry whose key passes a test
module _ {K X : Type 0} (t : K → Bool) where
  -- the first place whose key passes
  abbrev IsFirst : List (K × X) → ℕ → Type 0
  IsFirst [] i = ⊥
  IsFirst (e ∷ es) zero = t e.0 ≡ true
  IsFirst (e ∷ es) (suc i) = (t e.0 ≡ false) × IsFirst es i

  -- a key that is found is the first that passes at some place
  first_of : (x : X) (es : List (K × X)) → lookup t es ≡ Some x → (i : ℕ) × IsFirst es i
  first_of x [] is = absurd cc
  first_of x (e ∷ es) is = by (t e.0) refl is (first_of x es)
    where
      -- Plan: `by` goes by both answers of `t e.0`.
      by : (hit : Bool) → t e.0 ≡ hit → cond hit (Some e.1) (lookup t es) ≡ Some x → (lookup t es ≡ Some x → (i : ℕ) × IsFirst es i)
          → (i : ℕ) × IsFirst (e ∷ es) i
      by true hit is' later = (0, hit)
      by false hit is' later = let found = later is' in (suc found.0, (hit, found.1))

  -- the place of the first key that passes is one of the list
  first_within : (es : List (K × X)) (i : ℕ) → IsFirst es i → i < length (keys_of es)
  first_within [] i h = absurd h
  first_within (e ∷ es) zero h = omega arith
  first_within (e ∷ es) (suc i) h = omega (arith, first_within es i h.1)

  -- the search for the first key that passes gives its place
  first_or_len : (es : List (K × X)) (i : ℕ) → IsFirst es i → position_or_len t (keys_of es) ≡ i
  first_or_len [] i h = absurd h
  first_or_len (e ∷ es) zero h = ap (λ b. cond (not b) (1 + position_or_len t (keys_of es)) 0) h
  first_or_len (e ∷ es) (suc i) h = ap (λ b. cond (not b) (1 + position_or_len t (keys_of es)) 0) h.0
      ∙ ap (λ n. 1 + n) (first_or_len es i h.1) ∙ omega arith

  -- the search that may find none gives the place of the first key that passes
  first_is : (es : List (K × X)) (i : ℕ) → IsFirst es i → position t (keys_of es) ≡ Some i
  first_is es i h =
      ap (λ n. cond (nat_lt n (length (keys_of es))) (Some n) None) (first_or_len es i h)
      ∙ ap (λ b. cond b (Some i) None) (lt-ltb i (length (keys_of es)) (first_within es i h))

-- that entry gets the key k
module _ {K X : Type 0} (t : K → Bool) (k : K) (x : X) where
  -- the first place is the same where more follow
  first_front : (es rest : List (K × X)) (i : ℕ) → IsFirst t es i → IsFirst t (es ++ rest) i
  first_front [] rest i h = absurd h
  first_front (e ∷ es) rest zero h = h
  first_front (e ∷ es) rest (suc i) h = (h.0, first_front es rest i h.1)

  -- an entry put in the place of another, without the last one, is that one renamed
  put_there : (es : List (K × X)) (i : ℕ) → IsFirst t es i → lookup t es ≡ Some x
      → take (length es) (set (es ++ (k, x) ∷ []) i (k, x)) ≡ set_key t es k
  put_there [] i h is = absurd h
  put_there (e ∷ es) zero h is =
      let same : x ≡ e.1 = some_is (sym is ∙ ap (λ b. cond b (Some e.1) (lookup t es)) h) in
      ap (λ rest. (k, x) ∷ rest) (front_of es (k, x)) ∙ ap (λ v. (k, v) ∷ es) same
      ∙ sym (ap (λ b. cond b ((k, e.1) ∷ es) (e ∷ set_key t es k)) h)
  put_there (e ∷ es) (suc i) h is =
      ap (λ rest. e ∷ rest) (put_there es i h.1 (sym (ap (λ b. cond b (Some e.1) (lookup t es)) h.0) ∙ is))
      ∙ sym (ap (λ b. cond b ((k, e.1) ∷ es) (e ∷ set_key t es k)) h.0)

  -- the place of an entry that is put last is the length before
  length_more : (es : List (K × X)) → length (es ++ (k, x) ∷ []) - 1 ≡ length es
  length_more es = omega (arith, length-append es ((k, x) ∷ []))

  -- an entry that goes last, and from there to the place of another, is that one renamed
  swapped : (es : List (K × X)) (i : ℕ) → IsFirst t es i → lookup t es ≡ Some x → swap_remove (es ++ (k, x) ∷ []) i (k, x) ≡ set_key t es k
  swapped es i h is =
      ap (λ n. take n (set (es ++ (k, x) ∷ []) i (slice_index_or (es ++ (k, x) ∷ []) n (k, x)))) (length_more es)
      ∙ ap (λ e. take (length es) (set (es ++ (k, x) ∷ []) i e)) (last_of es (k, x) (k, x))
      ∙ put_there es i h is

  -- an entry that goes last, and then to the place of the one whose key passes, is that one renamed
  pub key_renamed : (es : List (K × X)) → lookup t es ≡ Some x → swap_remove_entry t (es ++ (k, x) ∷ []) ≡ set_key t es k
  key_renamed es is =
      let first = first_of t x es is in
      swap_remove_entry-found t (es ++ (k, x) ∷ []) first.0 (k, x)
      (first_is t (es ++ (k, x) ∷ []) first.0 (first_front es ((k, x) ∷ []) first.0 first.1))
      ∙ swapped es first.0 first.1 is
