use Rattle.drv_place.specs.Settling.{Marked, marked_from, marked_onto, nothing, shorter}
use Rattle.drv_specs.specs.Lines.{is_kept, joined_onto, settle}
use Rattle.std.proofs.Common.{◌≡◌, ◌∙◌, ◌&&◌, ◌+◌, ◌-◌, ◌==◌, ◌++◌, ◌∷◌, Bool, List, [], Some, ap, append_assoc, false}
use Rattle.std.proofs.Common.{filter, fold, if◌then◌else◌, length, map, nat_eq, refl, slice_get, subst, sym, take, true, ℕ}
use Rattle.std.proofs.lemmas.List.{length-append, length-map, map-append, take-map}
use Rattle.std.specs.List.{ends_with}

-- For `settle`: the bytes that are left of a text, and their places in it.
-- Names: `m` is the bytes that are left so far, and the place of each. `text` is the whole text, or the rest of it. `n` is the place of the
-- next byte. `b` is the next byte. `t` is the value of a test, so that `by` can go by both cases. `marked_onto m n b` adds byte b of place
-- n. `joined_onto` adds a byte; a newline after a backslash goes, with the backslash. `marked_from m n text` adds all bytes of a text.
-- `is_kept` says that a byte is no carriage return. `shorter m` takes the last byte away again.

-- the bytes are those of the text without carriage returns and pairs

-- one byte leaves what the definition leaves
step_bytes : (m : Marked) (n b : ℕ) (rest : List ℕ)
    → fold joined_onto (marked_onto m n b).bytes (filter is_kept rest) ≡ fold joined_onto m.bytes (filter is_kept (b ∷ rest))
step_bytes m n b rest = by (b == 13) refl
  where
    -- Plan: by whether the byte is a carriage return, and then (`inside`) by whether it ends a pair.
    inside : (t : Bool) → (b == 10 && ends_with nat_eq m.bytes (92 ∷ [])) ≡ t
        → (if t then shorter m else record { bytes = m.bytes ++ b ∷ []; places = m.places ++ n ∷ [] }).bytes ≡ joined_onto m.bytes b
    inside true is = rw is refl
    inside false is = rw is refl

    by : (t : Bool) → (b == 13) ≡ t
        → fold joined_onto (marked_onto m n b).bytes (filter is_kept rest) ≡ fold joined_onto m.bytes (filter is_kept (b ∷ rest))
    by true is = rw is refl
    by false is =
        rw is (ap (λ bytes. fold joined_onto bytes (filter is_kept rest)) (inside (b == 10 && ends_with nat_eq m.bytes (92 ∷ [])) refl))

-- so a text leaves what the definition leaves
bytes_from : (m : Marked) (n : ℕ) (text : List ℕ) → (marked_from m n text).bytes ≡ fold joined_onto m.bytes (filter is_kept text)
bytes_from m n [] = refl
bytes_from m n (b ∷ text) = bytes_from (marked_onto m n b) (n + 1) text ∙ step_bytes m n b text

-- each is at its place

-- at each place the text has the byte that is left
abbrev Stand : List ℕ → Marked → Type 0
Stand text m = map (slice_get text) m.places ≡ map Some m.bytes

-- a byte after a front is at the place of the front's length
byte_there : (front : List ℕ) (b : ℕ) (back : List ℕ) → slice_get (front ++ b ∷ back) (length front) ≡ Some b
byte_there [] b back = refl
byte_there (x ∷ front) b back = byte_there front b back

-- there are as many places as bytes
same_length : (text : List ℕ) (m : Marked) → Stand text m → length m.places ≡ length m.bytes
same_length text m all = sym (length-map m.places (slice_get text)) ∙ ap length all ∙ length-map m.bytes Some

-- without the last byte the others are at their places
stand_shorter : (text : List ℕ) (m : Marked) → Stand text m → Stand text (shorter m)
stand_shorter text m all =
    sym (take-map (slice_get text) (length m.places - 1) m.places)
    ∙ ap (take (length m.places - 1)) all
    ∙ take-map Some (length m.places - 1) m.bytes
    ∙ ap (λ k. map Some (take (k - 1) m.bytes)) (same_length text m all)

-- with one more byte all are
stand_more : (text : List ℕ) (m : Marked) (n b : ℕ) → slice_get text n ≡ Some b → Stand text m
    → Stand text (record { bytes = m.bytes ++ b ∷ []; places = m.places ++ n ∷ [] })
stand_more text m n b there all =
    map-append (slice_get text) m.places (n ∷ [])
    ∙ ap (λ front. front ++ slice_get text n ∷ []) all
    ∙ ap (λ byte. map Some m.bytes ++ byte ∷ []) there
    ∙ sym (map-append Some m.bytes (b ∷ []))

-- and after a step, whatever the byte is
stand_onto : (text : List ℕ) (m : Marked) (n b : ℕ) → slice_get text n ≡ Some b → Stand text m → Stand text (marked_onto m n b)
stand_onto text m n b there all =
    by (b == 13) refl (b == 10 && ends_with nat_eq m.bytes (92 ∷ [])) refl (stand_shorter text m all) (stand_more text m n b there all)
  where
    by : (t : Bool) → (b == 13) ≡ t → (u : Bool) → (b == 10 && ends_with nat_eq m.bytes (92 ∷ [])) ≡ u → Stand text (shorter m)
        → Stand text (record { bytes = m.bytes ++ b ∷ []; places = m.places ++ n ∷ [] }) → Stand text (marked_onto m n b)
    by true is u so short long = rw is all
    by false is true so short long = rw is (rw so short)
    by false is false so short long = rw is (rw so long)

-- and after a whole text
stand_from : (m : Marked) (front rest : List ℕ) → Stand (front ++ rest) m → Stand (front ++ rest) (marked_from m (length front) rest)
stand_from m front [] all = all
stand_from m front (b ∷ rest) all =
    let regrouped : (front ++ b ∷ []) ++ rest ≡ front ++ b ∷ rest = append_assoc front (b ∷ []) rest in
    let longer : length (front ++ b ∷ []) ≡ length front + 1 = length-append front (b ∷ []) in
    let here : Stand (front ++ b ∷ rest) (marked_onto m (length front) b) =
    stand_onto (front ++ b ∷ rest) m (length front) b (byte_there front b rest) all in
    subst (λ n. Stand (front ++ b ∷ rest) (marked_from (marked_onto m (length front) b) n rest)) longer
    (subst (λ text. Stand text (marked_from (marked_onto m (length front) b) (length (front ++ b ∷ [])) rest)) regrouped
    (stand_from (marked_onto m (length front) b) (front ++ b ∷ []) rest
    (subst (λ text. Stand text (marked_onto m (length front) b)) (sym regrouped) here)))

-- of a whole text

-- so the bytes are those of the settled text
pub text_left : (bytes text : List ℕ) → bytes ≡ (marked_from nothing 0 text).bytes → bytes ≡ settle text
text_left bytes text is = is ∙ bytes_from nothing 0 text

-- and the text has them at their places
pub bytes_there : (bytes places text : List ℕ) → bytes ≡ (marked_from nothing 0 text).bytes → places ≡ (marked_from nothing 0 text).places
    → map (slice_get text) places ≡ map Some bytes
bytes_there bytes places text bytes_are places_are =
    ap (map (slice_get text)) places_are ∙ stand_from nothing [] text refl ∙ ap (map Some) (sym bytes_are)
