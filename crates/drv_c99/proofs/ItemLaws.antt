use Rattle.drv_c99.proofs.Steps.{ends_first, flag_first, joined_first, names_first, wants_first}
use Rattle.drv_c99.specs.Front.{Ends, Flag, Item, Joined, Names, Operand, Passed, Start, Unknown, Wants, and_items, at_last, at_word, given}
use Rattle.drv_c99.specs.Front.{items_of, start_of}
use Rattle.drv_c99.specs.Reading.{Fits, Offends, Reads, after_end, bad_next, bad_rest, first, flag, joined, lacks_argument, later, no_word}
use Rattle.drv_c99.specs.Reading.{operand, options_end, separate, unknown}
use Rattle.drv_c99.specs.declared.fault.C99Fault.TheVariants.{UnknownOption}
use Rattle.drv_c99.specs.declared.fault.C99Fault.{C99Fault}
use Rattle.drv_c99.specs.declared.option.Side.TheVariants.{AfterEnd}
use Rattle.drv_c99.specs.declared.option.Side.{Side}
use Rattle.drv_c99.specs.declared.option.Taking.{Taking}
use Rattle.std.proofs.Common.{◌≡◌, ◌↔◌, Err, List, [], ◌∷◌, ◌++◌, Ok, Result, refl, subst, ap, ◌∙◌, ℕ}

-- For items_are_read: the items of a line are those of the rules.
-- Names: `side` says whether `--` has ended the options. `words` is the words of the line from here on. `rest` is the words after the item.
-- `word` is the first word. `result` is what the words after the item give. `items_of side words` is the items of the words, or their
-- refusal. `and_items` puts an item before those of the rest. `start_of` says how a word begins an item. `given option argument` is the
-- item of an option with its argument. `at_last` is a last word, and `at_word` one with others after it. `Comes side words result` says
-- that the rules give these items (`Reads`) or this refusal (`Offends`).

-- the result for words, by the rules
abbrev Comes : Side → List (List ℕ) → Result (List Item) C99Fault → Type 0
Comes side words (Ok items) = Reads side words items
Comes side words (Err fault) = Offends side words fault

-- an item at the front, and then what the rest gives
with_first : (side : Side) (words rest : List (List ℕ)) (i : Item) → Fits side words i → (result : Result (List Item) C99Fault)
    → Comes side rest result → Comes side (words ++ rest) (and_items (Ok i) result)
with_first side words rest i fits (Ok items) reads = first fits reads
with_first side words rest i fits (Err fault) offends = later fits offends

-- the word that ends the options, and then what the rest gives
after_options : (side : Side) (word : List ℕ) (words : List (List ℕ)) → start_of side word ≡ Ends → (result : Result (List Item) C99Fault)
    → Comes AfterEnd words result → Comes side (word ∷ words) result
after_options side word words e (Ok items) reads = options_end e reads
after_options side word words e (Err fault) offends = after_end e offends

-- an option with its argument in the same word, and then what the rest gives
with_joined : (side : Side) (word argument : List ℕ) (option : Taking) (rest : List (List ℕ)) → start_of side word ≡ Joined option argument
    → (r : Result Item C99Fault) → given option argument ≡ r → (result : Result (List Item) C99Fault) → Comes side rest result
    → Comes side (word ∷ rest) (and_items r result)
with_joined side word argument option rest e (Ok i) g result comes = with_first side (word ∷ []) rest i (joined e g) result comes
with_joined side word argument option rest e (Err fault) g result comes = bad_rest e g

-- an option with its argument in the next word, and then what the rest gives
with_separate : (side : Side) (word argument : List ℕ) (option : Taking) (rest : List (List ℕ)) → start_of side word ≡ Wants option
    → (r : Result Item C99Fault) → given option argument ≡ r → (result : Result (List Item) C99Fault) → Comes side rest result
    → Comes side (word ∷ argument ∷ rest) (and_items r result)
with_separate side word argument option rest e (Ok i) g result comes = with_first side (word ∷ argument ∷ []) rest i
    (separate e g) result comes
with_separate side word argument option rest e (Err fault) g result comes = bad_next e g

-- what `items_of` gives is what the rules give
comes : (side : Side) (words : List (List ℕ)) → Comes side words (items_of side words)
comes side [] = no_word
comes side (word ∷ []) = by (start_of side word) refl
  where
    by : (s : Start) → start_of side word ≡ s → Comes side (word ∷ []) (at_last s word)
    by Flag e = first (flag e) no_word
    by (Names prefix) e = first (operand e) no_word
    by (Joined option argument) e = with_joined side word argument option [] e (given option argument) refl (Ok []) no_word
    by (Wants option) e = lacks_argument e
    by Ends e = options_end e no_word
    by Unknown e = unknown e
comes side (word ∷ next ∷ words) = by (start_of side word) refl (comes side (next ∷ words)) (comes side words)
    (comes AfterEnd (next ∷ words))
  where
    -- Plan: by how the first word begins an item.
    by : (s : Start) → start_of side word ≡ s → Comes side (next ∷ words) (items_of side (next ∷ words))
        → Comes side words (items_of side words)
        → Comes AfterEnd (next ∷ words) (items_of AfterEnd (next ∷ words))
        → Comes side (word ∷ next ∷ words) (at_word s word next (items_of side (next ∷ words)) (items_of side words)
        (items_of AfterEnd (next ∷ words)))
    by Flag e others following ended = with_first side (word ∷ []) (next ∷ words) (Passed (word ∷ [])) (flag e)
        (items_of side (next ∷ words)) others
    by (Names prefix) e others following ended = with_first side (word ∷ []) (next ∷ words) (Operand (prefix ++ word)) (operand e)
        (items_of side (next ∷ words)) others
    by (Joined option argument) e others following ended = with_joined side word argument option (next ∷ words) e (given option argument)
        refl (items_of side (next ∷ words)) others
    by (Wants option) e others following ended = with_separate side word next option words e (given option next) refl
        (items_of side words) following
    by Ends e others following ended = after_options side word (next ∷ words) e (items_of AfterEnd (next ∷ words)) ended
    by Unknown e others following ended = unknown e

-- a word that is not an option, and the words after it
refused_first : (side : Side) (word : List ℕ) (words : List (List ℕ)) → start_of side word ≡ Unknown
    → items_of side (word ∷ words) ≡ Err (UnknownOption word)
refused_first side word [] e = ap (λ s. at_last s word) e
refused_first side word (next ∷ words) e = ap (λ s. at_word s word next (items_of side (next ∷ words)) (items_of side words)
    (items_of AfterEnd (next ∷ words))) e

-- what is an item by the rules, is one for `items_of`
fits_items : {side : Side} {words : List (List ℕ)} {i : Item} → Fits side words i → (rest : List (List ℕ))
    → items_of side (words ++ rest) ≡ and_items (Ok i) (items_of side rest)
fits_items (flag {side} {word} e) rest = flag_first side word rest e
fits_items (operand {side} {word} {prefix} e) rest = names_first side prefix word rest e
fits_items (joined {side} {word} {argument} {option} e g) rest = joined_first side option argument word rest e
    ∙ ap (λ r. and_items r (items_of side rest)) g
fits_items (separate {side} {word} {argument} {option} e g) rest = wants_first side option word argument rest e
    ∙ ap (λ r. and_items r (items_of side rest)) g

-- items by the rules are those of `items_of`
reads_items : {side : Side} {words : List (List ℕ)} {items : List Item} → Reads side words items → items_of side words ≡ Ok items
reads_items no_word = refl
reads_items (first {side} {words} {rest} {i} {items} fits reads) = fits_items fits rest ∙ ap (and_items (Ok i)) (reads_items reads)
reads_items (options_end {side} {word} {words} e reads) = ends_first side word words e ∙ reads_items reads

-- a refusal by the rules is that of `items_of`
offends_items : {side : Side} {words : List (List ℕ)} {fault : C99Fault} → Offends side words fault → items_of side words ≡ Err fault
offends_items (unknown {side} {word} {words} e) = refused_first side word words e
offends_items (lacks_argument {side} {word} e) = ap (λ s. at_last s word) e
offends_items (bad_rest {side} {word} {argument} {words} {option} e g) = joined_first side option argument word words e
    ∙ ap (λ r. and_items r (items_of side words)) g
offends_items (bad_next {side} {word} {argument} {words} {option} e g) = wants_first side option word argument words e
    ∙ ap (λ r. and_items r (items_of side words)) g
offends_items (later {side} {words} {rest} {i} fits offends) = fits_items fits rest ∙ ap (and_items (Ok i)) (offends_items offends)
offends_items (after_end {side} {word} {words} e offends) = ends_first side word words e ∙ offends_items offends

-- so both give the same items
pub reads_law : (side : Side) (words : List (List ℕ)) (items : List Item) → (Reads side words items ↔ (items_of side words ≡ Ok items))
reads_law side words items = (reads_items, λ e. subst (Comes side words) e (comes side words))

-- and the same refusals
pub offends_law : (side : Side) (words : List (List ℕ)) (fault : C99Fault) → (Offends side words fault ↔ (items_of side words ≡ Err fault))
offends_law side words fault = (offends_items, λ e. subst (Comes side words) e (comes side words))
