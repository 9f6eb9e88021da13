use Rattle.drv_c99.specs.Code.Building.{Goes, begun, finished, front_with, noted, with_items}
use Rattle.drv_c99.specs.Front.{Ends, Flag, Item, Joined, Names, Operand, Passed, Wants, and_items, at_last, at_word, front_of_items, given}
use Rattle.drv_c99.specs.Front.{items_of, start_of}
use Rattle.drv_c99.specs.declared.building.Front.{Front}
use Rattle.drv_c99.specs.declared.fault.C99Fault.TheVariants.{Memory}
use Rattle.drv_c99.specs.declared.fault.C99Fault.{C99Fault}
use Rattle.drv_c99.specs.declared.option.Taking.{Taking}
use Rattle.drv_c99.specs.declared.option.Side.TheVariants.{AfterEnd}
use Rattle.drv_c99.specs.declared.option.Side.{Side}
use Rattle.drv_words.specs.Gives.{Gives}
use Rattle.std.specs.Prelude.{IsErrAnd}
use Rattle.std.proofs.Common.{◌≡◌, ◌⊎◌, ◌≤◌, ◌-◌, inl, inr, List, arith, drop, get_or, length, take, [], ◌∷◌, ◌++◌, Err, Ok, Result, ap}
use Rattle.std.proofs.Common.{append_assoc, refl, sym, ◌∙◌, ℕ}
use Rattle.std.proofs.Math.Bool.{or_assoc, or-false}
use Rattle.std.proofs.lemmas.List.{append-nil, take_all}

-- For `front`: a line of c99, word by word.
-- Names: `side` says whether `--` has ended the options. `words` is the words of the line from here on. `word` is the first word. `w` is
-- the first word. `f` is the front so far. `f'` is the front after the word. `left` is the words that are left. `bytes` is the bytes of the
-- first word. `option` is an option that takes an argument. `argument` is an option's argument. `fault` is a refusal. `r` is the item of
-- the word, or its refusal. `whole` is the result of the whole line. `next` is the second word, and `next_bytes` its bytes.
-- `items_of side words` is the items of the words, or their refusal. `front_with f items` is the front with the items of the rest.
-- `start_of` says how a word begins an item. `given option argument` is the item of an option with its argument. `noted f r` is the front
-- with one more item. `and_items` puts an item before those of the rest. `at_last` is a last word, and `at_word` one with others after it.

-- The result for the first word, by how it begins.

-- a flag is an item by itself
pub flag_first : (side : Side) (w : List ℕ) (words : List (List ℕ)) → start_of side w ≡ Flag
    → items_of side (w ∷ words) ≡ and_items (Ok (Passed (w ∷ []))) (items_of side words)
flag_first side w [] starts = ap (λ s. at_last s w) starts
flag_first side w (n ∷ words) starts = ap (λ s. at_word s w n (items_of side (n ∷ words)) (items_of side words)
    (items_of AfterEnd (n ∷ words))) starts

-- so is an operand, with ./ before it where needed
pub names_first : (side : Side) (prefix w : List ℕ) (words : List (List ℕ)) → start_of side w ≡ Names prefix
    → items_of side (w ∷ words) ≡ and_items (Ok (Operand (prefix ++ w))) (items_of side words)
names_first side prefix w [] starts = ap (λ s. at_last s w) starts
names_first side prefix w (n ∷ words) starts = ap (λ s. at_word s w n (items_of side (n ∷ words)) (items_of side words)
    (items_of AfterEnd (n ∷ words))) starts

-- so is an option with its argument in the same word
pub joined_first : (side : Side) (option : Taking) (argument w : List ℕ) (words : List (List ℕ)) → start_of side w ≡ Joined option argument
    → items_of side (w ∷ words) ≡ and_items (given option argument) (items_of side words)
joined_first side option argument w [] starts = ap (λ s. at_last s w) starts
joined_first side option argument w (n ∷ words) starts = ap (λ s. at_word s w n (items_of side (n ∷ words)) (items_of side words)
    (items_of AfterEnd (n ∷ words))) starts

-- an option with its argument in the next word
pub wants_first : (side : Side) (option : Taking) (w n : List ℕ) (words : List (List ℕ)) → start_of side w ≡ Wants option
    → items_of side (w ∷ n ∷ words) ≡ and_items (given option n) (items_of side words)
wants_first side option w n words starts = ap (λ s. at_word s w n (items_of side (n ∷ words)) (items_of side words)
    (items_of AfterEnd (n ∷ words))) starts

-- the word that ends the options is no item
pub ends_first : (side : Side) (w : List ℕ) (words : List (List ℕ)) → start_of side w ≡ Ends
    → items_of side (w ∷ words) ≡ items_of AfterEnd words
ends_first side w [] starts = ap (λ s. at_last s w) starts
ends_first side w (n ∷ words) starts = ap (λ s. at_word s w n (items_of side (n ∷ words)) (items_of side words)
    (items_of AfterEnd (n ∷ words))) starts

-- An item that is noted first comes first among all items.

-- one item after another, or all at once
note_items : (f : Front) (i : Item) (items : List Item) → with_items (with_items f (i ∷ [])) items ≡ with_items f (i ∷ items)
note_items f i items = simp (append_assoc, or_assoc, append-nil, or-false) (cc)

-- an item is noted, and then come those of the rest
note_rest : (f f' : Front) (r : Result Item C99Fault) (rest : Result (List Item) C99Fault) → noted f r ≡ Ok f'
    → front_with f' rest ≡ front_with f (and_items r rest)
note_rest f f' (Ok i) (Ok items) is =
    let same : f' ≡ with_items f (i ∷ []) = cc in
    ap (λ g. front_with g (Ok items)) same ∙ ap finished (note_items f i items)
note_rest f f' (Ok i) (Err fault) is = refl
note_rest f f' (Err fault) rest is = absurd cc

-- the code's slice of the words after the first
pub after_first : (word : List ℕ) (words : List (List ℕ)) → take (length (word ∷ words) - 1) words ≡ words
after_first word words = take_all (length (word ∷ words) - 1) words (omega arith)

-- The next word, by how it begins.

-- once an item is noted, the words after it give the result of the whole
next_is : (w : List ℕ) (words : List (List ℕ)) (side : Side) (f f' : Front) (r : Result Item C99Fault)
    (whole : Result (List (List ℕ)) C99Fault)
    → items_of side (w ∷ words) ≡ and_items r (items_of side words) → noted f r ≡ Ok f' → front_with f (items_of side (w ∷ words)) ≡ whole
    → front_with f' (items_of side (take (length (w ∷ words) - 1) words)) ≡ whole
next_is w words side f f' r whole first added so_far =
    ap (λ l. front_with f' (items_of side l)) (after_first w words) ∙ note_rest f f' r (items_of side words) added
    ∙ ap (front_with f) (sym first) ∙ so_far

-- that, for a flag
pub flag_next : (left : List (List ℕ)) (word bytes : List ℕ) (side : Side) (f f' : Front) (whole : Result (List (List ℕ)) C99Fault)
    → 1 ≤ length left → word ≡ get_or left 0 word → bytes ≡ word → Flag ≡ start_of side bytes → noted f (Ok (Passed (bytes ∷ []))) ≡ Ok f'
    → front_with f (items_of side left) ≡ whole → front_with f' (items_of side (take (length left - 1) (drop 1 left))) ≡ whole
flag_next [] word bytes side f f' whole some first same starts added so_far = absurd (omega arith)
flag_next (w ∷ words) word bytes side f f' whole some first same starts added so_far =
    let is = same ∙ first in
    next_is w words side f f' (Ok (Passed (w ∷ []))) whole (flag_first side w words (ap (start_of side) (sym is) ∙ sym starts))
    (ap (λ b. noted f (Ok (Passed (b ∷ [])))) (sym is) ∙ added) so_far

-- for an operand
pub operand_next : (left : List (List ℕ)) (word bytes prefix : List ℕ) (side : Side) (f f' : Front)
    (whole : Result (List (List ℕ)) C99Fault)
    → 1 ≤ length left → word ≡ get_or left 0 word → bytes ≡ word → Names prefix ≡ start_of side bytes
    → noted f (Ok (Operand (prefix ++ bytes))) ≡ Ok f'
    → front_with f (items_of side left) ≡ whole → front_with f' (items_of side (take (length left - 1) (drop 1 left))) ≡ whole
operand_next [] word bytes prefix side f f' whole some first same starts added so_far = absurd (omega arith)
operand_next (w ∷ words) word bytes prefix side f f' whole some first same starts added so_far =
    let is = same ∙ first in
    next_is w words side f f' (Ok (Operand (prefix ++ w))) whole (names_first side prefix w words (ap (start_of side) (sym is)
    ∙ sym starts)) (ap (λ b. noted f (Ok (Operand (prefix ++ b)))) (sym is) ∙ added) so_far

-- for an option with its argument in the same word
pub joined_next : (left : List (List ℕ)) (word bytes argument : List ℕ) (option : Taking) (side : Side) (f f' : Front)
    (whole : Result (List (List ℕ)) C99Fault)
    → 1 ≤ length left → word ≡ get_or left 0 word → bytes ≡ word → Joined option argument ≡ start_of side bytes
    → noted f (given option argument) ≡ Ok f'
    → front_with f (items_of side left) ≡ whole → front_with f' (items_of side (take (length left - 1) (drop 1 left))) ≡ whole
joined_next [] word bytes argument option side f f' whole some first same starts added so_far = absurd (omega arith)
joined_next (w ∷ words) word bytes argument option side f f' whole some first same starts added so_far =
    next_is w words side f f' (given option argument) whole (joined_first side option argument w words
    (ap (start_of side) (sym (same ∙ first)) ∙ sym starts)) added so_far

-- a refused item refuses the whole
refused_rest : (f : Front) (r : Result Item C99Fault) (fault : C99Fault) (rest : Result (List Item) C99Fault) → noted f r ≡ Err fault
    → front_with f (and_items r rest) ≡ Err fault
refused_rest f (Err e) fault rest is =
    let same : e ≡ fault = cc in
    ap Err same
refused_rest f (Ok i) fault rest is = absurd cc

-- that, for an option with its argument in the same word
joined_refused : (left : List (List ℕ)) (word bytes argument : List ℕ) (option : Taking) (side : Side) (f : Front) (fault : C99Fault)
    (whole : Result (List (List ℕ)) C99Fault)
    → 1 ≤ length left → word ≡ get_or left 0 word → bytes ≡ word → Joined option argument ≡ start_of side bytes
    → noted f (given option argument) ≡ Err fault
    → front_with f (items_of side left) ≡ whole → whole ≡ Err fault
joined_refused [] word bytes argument option side f fault whole some first same starts refused so_far = absurd (omega arith)
joined_refused (w ∷ words) word bytes argument option side f fault whole some first same starts refused so_far =
    sym so_far ∙ ap (front_with f) (joined_first side option argument w words (ap (start_of side) (sym (same ∙ first)) ∙ sym starts))
    ∙ refused_rest f (given option argument) fault (items_of side words) refused

-- after the end of the options the words after it give the result of the whole
pub ends_next : (left : List (List ℕ)) (word bytes : List ℕ) (side : Side) (f : Front) (whole : Result (List (List ℕ)) C99Fault)
    → 1 ≤ length left → word ≡ get_or left 0 word → bytes ≡ word → Ends ≡ start_of side bytes
    → front_with f (items_of side left) ≡ whole → front_with f (items_of AfterEnd (take (length left - 1) (drop 1 left))) ≡ whole
ends_next [] word bytes side f whole some first same starts so_far = absurd (omega arith)
ends_next (w ∷ words) word bytes side f whole some first same starts so_far =
    ap (λ l. front_with f (items_of AfterEnd l)) (after_first w words)
    ∙ ap (front_with f) (sym (ends_first side w words (ap (start_of side) (sym (same ∙ first)) ∙ sym starts))) ∙ so_far

-- An option that needs the next word.

-- the same for an option with its argument in the next word
pub wants_next : (left : List (List ℕ)) (word bytes next next_bytes : List ℕ) (option : Taking) (side : Side) (f f' : Front)
    (whole : Result (List (List ℕ)) C99Fault)
    → 1 ≤ length left → word ≡ get_or left 0 word → bytes ≡ word → Wants option ≡ start_of side bytes
    → 1 ≤ length (take (length left - 1) (drop 1 left)) → next ≡ get_or (take (length left - 1) (drop 1 left)) 0 next → next_bytes ≡ next
    → noted f (given option next_bytes) ≡ Ok f'
    → front_with f (items_of side left) ≡ whole
    → front_with f' (items_of side (take (length (take (length left - 1) (drop 1 left)) - 1)
    (drop 1 (take (length left - 1) (drop 1 left))))) ≡ whole
wants_next [] word bytes next next_bytes option side f f' whole some first same starts more second alike added so_far = absurd (omega arith)
wants_next (w ∷ []) word bytes next next_bytes option side f f' whole some first same starts more second alike added so_far = absurd
    (omega arith)
wants_next (w ∷ n ∷ words) word bytes next next_bytes option side f f' whole some first same starts more second alike added so_far =
    let following = after_first w (n ∷ words) in
    let is_next : next_bytes ≡ n = alike ∙ second ∙ ap (λ l. get_or l 0 next) following in
    ap (λ l. front_with f' (items_of side l)) (ap (λ l. take (length l - 1) (drop 1 l)) following ∙ after_first n words)
    ∙ note_rest f f' (given option n) (items_of side words) (ap (λ b. noted f (given option b)) (sym is_next) ∙ added)
    ∙ ap (front_with f) (sym (wants_first side option w n words (ap (start_of side) (sym (same ∙ first)) ∙ sym starts)))
    ∙ so_far

-- a refusal of the whole line is given, or lack of memory
refusal_given : (fault : C99Fault) (end : Result (List (List ℕ)) C99Fault) (result : Result (Unit {0}) C99Fault)
    (whole : Result (List (List ℕ)) C99Fault)
    → IsErrAnd result (λ e. e ≡ fault) → (fault ≡ Memory) ⊎ (whole ≡ Err fault) → Goes end result whole
refusal_given fault end (Ok u) whole is refused = absurd is
refusal_given fault end (Err e) whole is (inl memory) = inl (is ∙ memory)
refusal_given fault end (Err e) whole is (inr refused) = inr (refused ∙ ap Err (sym is))

-- a refused option with its argument in the same word gives the refusal
pub joined_gives : (left : List (List ℕ)) (word bytes argument : List ℕ) (option : Taking) (side : Side) (f : Front) (fault : C99Fault)
    (end : Result (List (List ℕ)) C99Fault) (result : Result (Unit {0}) C99Fault) (whole : Result (List (List ℕ)) C99Fault)
    → 1 ≤ length left → word ≡ get_or left 0 word → bytes ≡ word → Joined option argument ≡ start_of side bytes
    → (fault ≡ Memory) ⊎ (noted f (given option argument) ≡ Err fault)
    → IsErrAnd result (λ e. e ≡ fault) → front_with f (items_of side left) ≡ whole → Goes end result whole
joined_gives left word bytes argument option side f fault end result whole some first same starts (inl memory) is so_far = refusal_given
    fault end result whole is (inl memory)
joined_gives left word bytes argument option side f fault end result whole some first same starts (inr refused) is so_far =
    refusal_given fault end result whole is (inr (joined_refused left word bytes argument option side f fault whole some first same starts
    refused so_far))

-- lack of memory may be given at any word
pub memory_goes : (end : Result (List (List ℕ)) C99Fault) (result : Result (Unit {0}) C99Fault) (whole : Result (List (List ℕ)) C99Fault)
    → IsErrAnd result (λ e. e ≡ Memory) → Goes end result whole
memory_goes end result whole is = refusal_given Memory end result whole is (inl refl)

-- an option refused with the next word as its argument refuses the whole
wants_refused : (left : List (List ℕ)) (word bytes next next_bytes : List ℕ) (option : Taking) (side : Side) (f : Front) (fault : C99Fault)
    (whole : Result (List (List ℕ)) C99Fault)
    → 1 ≤ length left → word ≡ get_or left 0 word → bytes ≡ word → Wants option ≡ start_of side bytes
    → 1 ≤ length (take (length left - 1) (drop 1 left)) → next ≡ get_or (take (length left - 1) (drop 1 left)) 0 next → next_bytes ≡ next
    → noted f (given option next_bytes) ≡ Err fault
    → front_with f (items_of side left) ≡ whole → whole ≡ Err fault
wants_refused [] word bytes next next_bytes option side f fault whole some first same starts more second alike refused so_far = absurd
    (omega arith)
wants_refused (w ∷ []) word bytes next next_bytes option side f fault whole some first same starts more second alike refused so_far = absurd
    (omega arith)
wants_refused (w ∷ n ∷ words) word bytes next next_bytes option side f fault whole some first same starts more second alike refused so_far =
    let is_next : next_bytes ≡ n = alike ∙ second ∙ ap (λ l. get_or l 0 next) (after_first w (n ∷ words)) in
    sym so_far
    ∙ ap (front_with f) (wants_first side option w n words (ap (start_of side) (sym (same ∙ first)) ∙ sym starts))
    ∙ refused_rest f (given option n) fault (items_of side words) (ap (λ b. noted f (given option b)) (sym is_next) ∙ refused)

-- and gives the refusal
pub wants_gives : (left : List (List ℕ)) (word bytes next next_bytes : List ℕ) (option : Taking) (side : Side) (f : Front)
    (fault : C99Fault) (end : Result (List (List ℕ)) C99Fault) (result : Result (Unit {0}) C99Fault)
    (whole : Result (List (List ℕ)) C99Fault)
    → 1 ≤ length left → word ≡ get_or left 0 word → bytes ≡ word → Wants option ≡ start_of side bytes
    → 1 ≤ length (take (length left - 1) (drop 1 left)) → next ≡ get_or (take (length left - 1) (drop 1 left)) 0 next → next_bytes ≡ next
    → (fault ≡ Memory) ⊎ (noted f (given option next_bytes) ≡ Err fault) → IsErrAnd result (λ e. e ≡ fault)
    → front_with f (items_of side left) ≡ whole → Goes end result whole
wants_gives left word bytes next next_bytes option side f fault end result whole some first same starts more second alike
    (inl memory) is so_far = refusal_given fault end result whole is (inl memory)
wants_gives left word bytes next next_bytes option side f fault end result whole some first same starts more second alike
    (inr refused) is so_far =
    refusal_given fault end result whole is (inr (wants_refused left word bytes next next_bytes option side f fault whole some first same
    starts more second alike refused so_far))

-- A front without items, followed by the items of a line.

-- the front before the first word gives what the whole line gives
front_begun : (items : Result (List Item) C99Fault) → front_with begun items ≡ front_of_items items
front_begun (Ok items) = refl
front_begun (Err fault) = refl

-- once no word is left, the words of the front are those of the line
pub front_given : (f : Front) (items : Result (List Item) C99Fault) (end result : Result (List (List ℕ)) C99Fault)
    → f ≡ begun → front_with f items ≡ end → Gives Memory (λ words. words) result end
    → Gives Memory (λ words. words) result (front_of_items items)
front_given f items end result start goes given =
    let e : end ≡ front_of_items items = sym goes ∙ ap (λ g. front_with g items) start ∙ front_begun items in
    rw (← e) given

-- and a refusal is that of the line
pub front_refused : (f : Front) (items : Result (List Item) C99Fault) (fault : C99Fault) (result : Result (List (List ℕ)) C99Fault)
    → f ≡ begun → (fault ≡ Memory) ⊎ (front_with f items ≡ Err fault) → IsErrAnd result (λ e. e ≡ fault)
    → Gives Memory (λ words. words) result (front_of_items items)
front_refused f items fault (Ok words) start refused is = absurd is
front_refused f items fault (Err e) start (inl memory) is = inl (is ∙ memory)
front_refused f items fault (Err e) start (inr refused) is = inr (sym (front_begun items) ∙ ap (λ g. front_with g items) (sym start)
    ∙ refused ∙ ap Err (sym is))
