use Rattle.drv_args.specs.Fronts.{Alone, Bad, Fits, Offends, Reads, Start, Wants, alone, and_items, at_last, at_word, bad_jobs, front, item}
use Rattle.drv_args.specs.Fronts.{items_of, lacks_argument, later, no_front, start_of, with_next}
use Rattle.drv_args.specs.declared.fault.ArgsFault.TheVariants.{BadJobs}
use Rattle.drv_args.specs.declared.fault.ArgsFault.{ArgsFault}
use Rattle.drv_args.specs.declared.items.Item.{Item}
use Rattle.drv_args.specs.declared.option_table.Effect.{Effect}
use Rattle.std.proofs.Common.{◌≡◌, ◌↔◌, Err, List, [], ◌∷◌, ◌++◌, Ok, Result, refl, subst, ap, ◌∙◌, ℕ}

-- For items_are_fronts: the items of words are those of their fronts.
-- Names: `word` is a word of the line. `words` is the words from here on. `i` is an item: the effect of an option, the option and its
-- argument. `result` is what the rest gives. `items_of words` is the items of the words, or their refusal. `start_of` says how a word
-- begins a front. `and_items` puts an item before those of the rest. `Comes words result` says that the definitions give these items
-- (`Reads`) or this refusal (`Offends`).

-- the result for a list of words, by the relations
abbrev Comes : List (List ℕ) → Result (List Item) ArgsFault → Type 0
Comes words (Ok items) = Reads words items
Comes words (Err fault) = Offends words fault

-- a front, and then what the rest gives
with_front : (words rest : List (List ℕ)) (i : Item) → Fits words i → (result : Result (List Item) ArgsFault) → Comes rest result
    → Comes (words ++ rest) (and_items i result)
with_front words rest i fits (Ok items) reads = front fits reads
with_front words rest i fits (Err fault) offends = later fits offends

-- what `items_of` gives is what the definitions give
comes : (words : List (List ℕ)) → Comes words (items_of words)
comes [] = no_front
comes (word ∷ []) = by (start_of word) refl
  where
    by : (s : Start) → start_of word ≡ s → Comes (word ∷ []) (at_last s word)
    by (Alone i) e = front (alone e) no_front
    by Bad e = bad_jobs e
    by (Wants effect option) e = lacks_argument e
comes (word ∷ next ∷ words) = by (start_of word) refl (comes (next ∷ words)) (comes words)
  where
    by : (s : Start) → start_of word ≡ s → Comes (next ∷ words) (items_of (next ∷ words)) → Comes words (items_of words)
        → Comes (word ∷ next ∷ words) (at_word s word next (items_of (next ∷ words)) (items_of words))
    by (Alone i) e others following = with_front (word ∷ []) (next ∷ words) i (alone e) (items_of (next ∷ words)) others
    by Bad e others following = bad_jobs e
    by (Wants effect option) e others following = with_front (word ∷ next ∷ []) words (item effect option next) (with_next e)
        (items_of words) following

-- a word that is a front, and the words after it
pub alone_first : (word : List ℕ) (i : Item) (words : List (List ℕ)) → start_of word ≡ Alone i
    → items_of (word ∷ words) ≡ and_items i (items_of words)
alone_first word i [] e = ap (λ s. at_last s word) e
alone_first word i (next ∷ words) e = ap (λ s. at_word s word next (items_of (next ∷ words)) (items_of words)) e

-- a word that needs the next one, and the words after both
pub with_next_first : (word next option : List ℕ) (effect : Effect) (words : List (List ℕ)) → start_of word ≡ Wants effect option
    → items_of (word ∷ next ∷ words) ≡ and_items (item effect option next) (items_of words)
with_next_first word next option effect words e = ap (λ s. at_word s word next (items_of (next ∷ words)) (items_of words)) e

-- a word with a bad number of jobs refuses the line
pub bad_first : (word : List ℕ) (words : List (List ℕ)) → start_of word ≡ Bad → items_of (word ∷ words) ≡ Err (BadJobs word)
bad_first word [] e = ap (λ s. at_last s word) e
bad_first word (next ∷ words) e = ap (λ s. at_word s word next (items_of (next ∷ words)) (items_of words)) e

-- a front is one for `items_of`
fits_items : {words : List (List ℕ)} {i : Item} → Fits words i → (rest : List (List ℕ))
    → items_of (words ++ rest) ≡ and_items i (items_of rest)
fits_items (alone {word} {i} e) rest = alone_first word i rest e
fits_items (with_next {word} {argument} {option} {effect} e) rest = with_next_first word argument option effect rest e

-- items by the definitions are those of `items_of`
reads_items : {words : List (List ℕ)} {items : List Item} → Reads words items → items_of words ≡ Ok items
reads_items no_front = refl
reads_items (front {words} {rest} {i} {items} fits reads) = fits_items fits rest ∙ ap (and_items i) (reads_items reads)

-- a refusal by the definitions is that of `items_of`
offends_items : {words : List (List ℕ)} {fault : ArgsFault} → Offends words fault → items_of words ≡ Err fault
offends_items (lacks_argument {word} e) = ap (λ s. at_last s word) e
offends_items (bad_jobs {word} {words} e) = bad_first word words e
offends_items (later {words} {rest} {i} {fault} fits offends) = fits_items fits rest ∙ ap (and_items i) (offends_items offends)

-- so both give the same items
pub reads_law : (words : List (List ℕ)) (items : List Item) → (Reads words items ↔ (items_of words ≡ Ok items))
reads_law words items = (reads_items, λ e. subst (Comes words) e (comes words))

-- and the same refusals
pub offends_law : (words : List (List ℕ)) (fault : ArgsFault) → (Offends words fault ↔ (items_of words ≡ Err fault))
offends_law words fault = (offends_items, λ e. subst (Comes words) e (comes words))
