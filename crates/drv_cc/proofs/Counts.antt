use Rattle.drv_cc.specs.Code.Building.{Many, Single, Zero, all_counted, all_noted, count_of, counted_only, is_counted, is_many}
use Rattle.drv_cc.specs.Code.Building.{suffixes_words}
use Rattle.drv_cc.specs.Items.{same}
use Rattle.drv_cc.specs.SideFiles.{are_several, is_some, only, suffix_words}
use Rattle.std.proofs.Common.{◌≡◌, Bool, List, [], ◌∷◌, ap, false, if◌then◌else◌, refl, true, ℕ}
use Rattle.std.specs.List.{list_all}

-- For the sources and suffixes of a line (src/sources.rt and src/sides.rt): what the code counts of a list is what the definitions say of
-- it.
-- Names: `names` is a list of names. `ends` is the suffixes of sources, of which `end` is the first. `others` is those after it. `count_of`
-- is the count of a list: none, one alone, or many. `all_noted` counts different names only. `suffix_words` is the words for suffixes, and
-- `suffixes_words` those for their count (specs/Code/Building).

-- Once there are more than one, a further name changes nothing of the count.
many_stays : (names : List (List ℕ)) → all_counted Many names ≡ Many
many_stays [] = refl
many_stays (name ∷ names) = many_stays names

-- For `only_file` and `only_source` (src/sources.rt): the count knows the only name.
pub only_of : (names : List (List ℕ)) → counted_only (count_of names) ≡ only names
only_of [] = refl
only_of (name ∷ []) = refl
only_of (name ∷ other ∷ names) = ap counted_only (many_stays names)

-- For `has_source` and `has_compiled`: the count knows whether there is a name.
pub some_of : (names : List (List ℕ)) → is_counted (count_of names) ≡ is_some names
some_of [] = refl
some_of (name ∷ []) = refl
some_of (name ∷ other ∷ names) = ap is_counted (many_stays names)

-- For `has_several_files`: the count knows whether there are several.
pub many_of : (names : List (List ℕ)) → is_many (count_of names) ≡ are_several names
many_of [] = refl
many_of (name ∷ []) = refl
many_of (name ∷ other ∷ names) = ap is_many (many_stays names)

-- Once two different suffixes are noted, a further one changes nothing.
many_noted : (names : List (List ℕ)) → all_noted Many names ≡ Many
many_noted [] = refl
many_noted (name ∷ names) = many_noted names

-- with one noted, it stays the only one where all are the same
one_noted : (end : List ℕ) (others : List (List ℕ))
    → all_noted (Single end) others ≡ (if list_all (same end) others then Single end else Many)
one_noted end [] = refl
one_noted end (other ∷ others) = by (same end other) refl (one_noted end others)
  where
    -- Plan: `by` goes by both answers of `same end other`.
    by : (is : Bool) → same end other ≡ is → all_noted (Single end) others ≡ (if list_all (same end) others then Single end else Many)
        → all_noted (Single end) (other ∷ others) ≡ (if list_all (same end) (other ∷ others) then Single end else Many)
    by true is rest = rw is rest
    by false is rest = rw is (many_noted others)

-- For `add_suffix` (src/sides.rt): the words that the code adds by what it noted are those of the list of suffixes.
pub suffixes_of : (ends : List (List ℕ)) → suffixes_words (all_noted Zero ends) ≡ suffix_words ends
suffixes_of [] = refl
suffixes_of (end ∷ others) = by (list_all (same end) others) refl
  where
    -- Plan: `by` goes by both answers of `list_all (same end) others`.
    by : (is : Bool) → list_all (same end) others ≡ is → suffixes_words (all_noted (Single end) others) ≡ suffix_words (end ∷ others)
    by true is = rw (one_noted end others) (rw is refl)
    by false is = rw (one_noted end others) (rw is refl)
