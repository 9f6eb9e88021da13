use Rattle.drv_funcs.specs.Code.Reading.{read_on}
use Rattle.drv_funcs.specs.Versions.{is_part, number, parts, version}
use Rattle.std.proofs.Common.{◌≡◌, ◌<◌, ◌≤◌, ◌+◌, ◌-◌, ◌*◌, ◌∙◌, ◌==◌, ◌&&◌, Bool, false, true, List, [], ◌∷◌, ◌++◌, None, Option, Some, ap}
use Rattle.std.proofs.Common.{append-nil, append_assoc, arith, drop, get_or, if◌then◌else◌, length, length-append, map, nat_le, nat_lt}
use Rattle.std.proofs.Common.{refl, suc, sym, zero, ℕ}
use Rattle.std.proofs.Math.Bool.{and-false}
use Rattle.std.proofs.lemmas.Bool.{eqb-true, lt-ltb}
use Rattle.std.proofs.lemmas.Bool.Decides.{nat_tests}
use Rattle.std.proofs.lemmas.List.{drop_more}
use Rattle.std.specs.Char.{is_ascii_digit}
use Rattle.std.specs.List.{fold, list_all, onto_first, slice_split}
use Rattle.std.specs.Str.{byte}

-- For version_of: reading a version byte by byte gives the list of the numbers between its dots.
-- Names: `text` is the text of a version, from here on. `part` is the digits of the open part. `numbers` is the numbers of the parts before
-- it. `ps` is the parts that follow. `b` is one byte. `digits` is how many digits the open part has. `number` is the number that the digits
-- of the open part spell. `tail` is what follows the digits. `t` is the value of a test, so that `by` can go by both cases. `u` is the
-- value of a second test. `s` is the value of a third test. `parts` is the parts of a text between its dots. `read_on` is the code's
-- reading from here on. `is_part` says that digits are a part of a version: 1 to 9 of them.

-- bytes in front of the first part
abbrev prefixed : List ℕ → List (List ℕ) → List (List ℕ)
prefixed part [] = part ∷ []
prefixed part (first ∷ rest) = (part ++ first) ∷ rest

-- these numbers, and those of the parts, if they are well formed and few enough
abbrev taken : List ℕ → List (List ℕ) → Option (List ℕ)
taken numbers all = if nat_le (length numbers + length all) 32 && list_all is_part all then Some (numbers ++ map number all) else None

-- a byte moves to the bytes in front
prefixed_onto : (part : List ℕ) (b : ℕ) (ps : List (List ℕ)) → prefixed part (onto_first b ps) ≡ prefixed (part ++ b ∷ []) ps
prefixed_onto part b [] = refl
prefixed_onto part b (first ∷ rest) = ap (λ p. p ∷ rest) (sym (append_assoc part (b ∷ []) first))

-- an empty open part changes nothing: a text has a first part anyway
prefixed_empty : (text : List ℕ) → prefixed [] (parts text) ≡ parts text
prefixed_empty [] = refl
prefixed_empty (b ∷ text) = by (b == byte ".") (slice_split (λ c. c == byte ".") text) refl
  where
    by : (t : Bool) (ps : List (List ℕ)) → (b == byte ".") ≡ t → prefixed [] (if b == byte "." then [] ∷ ps else onto_first b ps)
        ≡ (if b == byte "." then [] ∷ ps else onto_first b ps)
    by true ps e = rw e refl
    by false [] e = rw e refl
    by false (p ∷ ps) e = rw e refl

-- two tests that hold, hold together
both : (s t : Bool) → s ≡ true → t ≡ true → (s && t) ≡ true
both true t e e' = e'
both false t e e' = absurd cc

-- what holds of all of two lists, holds of all of both
all_append : (test : ℕ → Bool) (xs ys : List ℕ) → list_all test (xs ++ ys) ≡ (list_all test xs && list_all test ys)
all_append test [] ys = refl
all_append test (x ∷ xs) ys = by (test x) (all_append test xs ys)
  where
    by : (t : Bool) → list_all test (xs ++ ys) ≡ (list_all test xs && list_all test ys)
        → (t && list_all test (xs ++ ys)) ≡ ((t && list_all test xs) && list_all test ys)
    by true e = e
    by false e = refl

-- one more digit makes a number ten times as great, and adds its own value
fold_append : (n : ℕ) (xs : List ℕ) (b : ℕ) → fold (λ m d. m * 10 + (d - byte "0")) n (xs ++ b ∷ []) ≡ fold (λ m d. m * 10 + (d - byte "0"))
    n xs * 10 + (b - byte "0")
fold_append n [] b = refl
fold_append n (x ∷ xs) b = fold_append (n * 10 + (x - byte "0")) xs b

-- the code's test for more room is the definition's, one less on both sides
le_lt : (m n : ℕ) → nat_le (m + 1) n ≡ nat_lt m n
le_lt m n = by (nat_le (m + 1) n) (nat_lt m n) refl refl
  where
    -- Plan: by what both tests say: if they differed, the numbers would contradict.
    by : (t u : Bool) → nat_le (m + 1) n ≡ t → nat_lt m n ≡ u → t ≡ u
    by true true e e' = refl
    by false false e e' = refl
    by true false e e' =
        let low : m + 1 ≤ n = grind (arith, nat_tests) in
        let high : n ≤ m = grind (arith, nat_tests) in
        absurd (omega (arith, low, high))
    by false true e e' =
        let low : n < m + 1 = grind (arith, nat_tests) in
        let high : m < n = grind (arith, nat_tests) in
        absurd (omega (arith, low, high))

-- a run of at most nine digits is a part unless it is empty
part_is : (part : List ℕ) → list_all is_ascii_digit part ≡ true → length part ≤ 9 → is_part part ≡ nat_lt 0 (length part)
part_is part digits short =
    let few : nat_le (length part) 9 ≡ true = grind (arith, nat_tests) in
    rw (digits, few, le_lt 0 (length part)) (by (nat_lt 0 (length part)))
  where
    by : (t : Bool) → ((t && true) && true) ≡ t
    by true = refl
    by false = refl

-- a part doesn't begin with ten digits, nor does it have any other byte
too_long : (part tail : List ℕ) → 9 < length part → is_part (part ++ tail) ≡ false
too_long part tail long =
    let over : nat_le (length (part ++ tail)) 9
    ≡ false = let more : 9 < length (part ++ tail) = omega (arith, length-append part tail, long) in grind (arith, nat_tests) in
    rw over (by (nat_le 1 (length (part ++ tail))) (list_all is_ascii_digit (part ++ tail)))
  where
    by : (t u : Bool) → ((t && false) && u) ≡ false
    by true u = refl
    by false u = refl

-- a part with a byte that is no digit is none
no_digits : (part tail : List ℕ) → list_all is_ascii_digit part ≡ false → is_part (part ++ tail) ≡ false
no_digits part tail other = rw (all_append is_ascii_digit part tail, other)
    (by (nat_le 1 (length (part ++ tail)) && nat_le (length (part ++ tail)) 9))
  where
    by : (t : Bool) → (t && false) ≡ false
    by true = refl
    by false = refl

-- where the second test fails there is no value
none_of : (s t : Bool) (x : Option (List ℕ)) → t ≡ false → (if s && t then x else None) ≡ None
none_of true true x e = absurd cc
none_of true false x e = refl
none_of false t x e = refl

-- if the first of two tests fails, they don't hold together
first_bad : (s t : Bool) → s ≡ false → (s && t) ≡ false
first_bad true t e = absurd cc
first_bad false t e = refl

-- a first part that is none makes the text no version
bad_first : (numbers part : List ℕ) (ps : List (List ℕ)) → ((tail : List ℕ) → is_part (part ++ tail) ≡ false)
    → taken numbers (prefixed part ps) ≡ None
bad_first numbers part [] bad = none_of (nat_le (length numbers + length (part ∷ [])) 32) (list_all is_part (part ∷ [])) _
    (first_bad (is_part part) true (ap is_part (sym (append-nil part)) ∙ bad []))
bad_first numbers part (first ∷ rest) bad = none_of (nat_le (length numbers + length ((part ++ first) ∷ rest)) 32)
    (list_all is_part ((part ++ first) ∷ rest)) _ (first_bad (is_part (part ++ first)) (list_all is_part rest) (bad first))

-- at the end of the text the open part is the last one
at_end : (numbers part : List ℕ) → list_all is_ascii_digit part ≡ true → length part ≤ 9
    → (if nat_lt 0 (length part) && nat_lt (length numbers) 32 then Some (numbers ++ number part ∷ []) else None)
    ≡ taken numbers (part ∷ [])
at_end numbers part digits short =
    rw (le_lt (length numbers) 32, part_is part digits short) (by (nat_lt 0 (length part)) (nat_lt (length numbers) 32))
  where
    by : (t u : Bool) → (if t && u then Some (numbers ++ number part ∷ []) else None)
        ≡ (if u && (t && true) then Some (numbers ++ number part ∷ []) else None)
    by true true = refl
    by true false = refl
    by false true = refl
    by false false = refl

-- at a dot the open part is complete, and others follow
at_dot : (numbers part : List ℕ) (ps : List (List ℕ)) → list_all is_ascii_digit part ≡ true → length part ≤ 9
    → (if nat_lt 0 (length part) && nat_lt (length numbers) 32 then taken (numbers ++ number part ∷ []) ps else None)
    ≡ taken numbers (part ∷ ps)
at_dot numbers part ps digits short = rw (part_is part digits short) (by (nat_lt 0 (length part)) (nat_lt (length numbers) 32) refl)
  where
    -- Plan: by whether one more part is permitted, and whether this one is a part.
    by : (t u : Bool) → nat_lt (length numbers) 32 ≡ u → (if t && u then taken (numbers ++ number part ∷ []) ps else None)
        ≡ (if nat_le (length numbers + suc (length ps)) 32 && (t && list_all is_part ps) then Some
        (numbers ++ (number part ∷ map number ps)) else None)
    by true true e =
        let longer : length (numbers ++ number part ∷ []) + length ps ≡ length numbers + suc (length ps) =
        omega (arith, length-append numbers (number part ∷ [])) in
        rw (longer, append_assoc numbers (number part ∷ []) (map number ps)) refl
    by true false e =
        let many : 32 ≤ length numbers = grind (arith, nat_tests) in
        let over : 32 < length numbers + suc (length ps) = omega (arith, many) in
        let full : nat_le (length numbers + suc (length ps)) 32 ≡ false = grind (arith, nat_tests) in
        rw full refl
    by false u e = sym (none_of (nat_le (length numbers + suc (length ps)) 32) false _ refl)

-- a digit is no dot
digit_no_dot : (b : ℕ) → is_ascii_digit b ≡ true → (b == byte ".") ≡ false
digit_no_dot b digit = by (b == byte ".") refl
  where
    by : (t : Bool) → (b == byte ".") ≡ t → t ≡ false
    by false e = refl
    by true e = absurd (let is : b ≡ byte "." = eqb-true b (byte ".") e in let clash : true ≡ false = sym digit ∙ ap is_ascii_digit is in
        cc)

-- the code's reading of a text is the definition's, by induction on the text
read_whole : (numbers part text : List ℕ) → list_all is_ascii_digit part ≡ true → length part ≤ 9
    → read_on numbers (number part) (length part) text ≡ taken numbers (prefixed part (parts text))
read_whole numbers part [] digits short = at_end numbers part digits short ∙ ap (λ p. taken numbers (p ∷ [])) (sym (append-nil part))
read_whole numbers part (b ∷ text) digits short = by (is_ascii_digit b) (nat_lt (length part) 9) (b == byte ".") refl refl refl
    (λ few. read_whole numbers (part ++ b ∷ []) text few) (read_whole (numbers ++ number part ∷ []) [] text refl (omega arith))
  where
    -- Plan: by the next byte: a digit joins the part (`onto`) if that is not full, a dot ends it, and another byte makes the text no
    -- version.
    onto : (b == byte ".") ≡ false → prefixed part (parts (b ∷ text)) ≡ prefixed (part ++ b ∷ []) (parts text)
    onto e = (rw e refl) ∙ prefixed_onto part b (parts text)

    by : (d n p : Bool) → is_ascii_digit b ≡ d → nat_lt (length part) 9 ≡ n → (b == byte ".") ≡ p
        → (list_all is_ascii_digit (part ++ b ∷ []) ≡ true → length (part ++ b ∷ []) ≤ 9
        → read_on numbers (number (part ++ b ∷ [])) (length (part ++ b ∷ [])) text ≡ taken numbers
        (prefixed (part ++ b ∷ []) (parts text)))
        → read_on (numbers ++ number part ∷ []) 0 0 text ≡ taken (numbers ++ number part ∷ []) (prefixed [] (parts text))
        → read_on numbers (number part) (length part) (b ∷ text) ≡ taken numbers (prefixed part (parts (b ∷ text)))
    by true true p e e' e'' ih ih' =
        let grown : number (part ++ b ∷ []) ≡ number part * 10 + (b - byte "0") = fold_append 0 part b in
        let longer : length (part ++ b ∷ []) ≡ length part + 1 = length-append part (b ∷ []) in
        let few : length part < 9 = grind (arith, nat_tests) in
        let still : list_all is_ascii_digit (part ++ b ∷ []) ≡ true = all_append is_ascii_digit part (b ∷ [])
        ∙ both _ _ digits (both _ _ e refl) in
        (rw (e, e', ← grown, ← longer) refl) ∙ ih still (omega (arith, longer, few)) ∙ ap (taken numbers) (sym (onto (digit_no_dot b e)))
    by true false p e e' e'' ih ih' =
        let dot : (b == byte ".") ≡ false = digit_no_dot b e in
        let many : 9 < length (part ++ b ∷ []) = let enough : 9 ≤ length part = grind (arith, nat_tests) in
        omega (arith, length-append part (b ∷ []), enough) in
        (rw (e, e', dot) refl) ∙ sym (ap (taken numbers) (onto dot) ∙ bad_first numbers (part ++ b ∷ []) (parts text)
        (λ tail. too_long (part ++ b ∷ []) tail many))
    by false n true e e' e'' ih ih' =
        (rw (e, e'') refl) ∙ ap (λ rest. if nat_lt 0 (length part) && nat_lt (length numbers) 32 then rest else None)
        (ih' ∙ ap (taken (numbers ++ number part ∷ [])) (prefixed_empty text)) ∙ at_dot numbers part (parts text) digits short
        ∙ (rw (e'', append-nil part) refl)
    by false n false e e' e'' ih ih' =
        let broken : list_all is_ascii_digit (part ++ b ∷ []) ≡ false = all_append is_ascii_digit part (b ∷ [])
        ∙ (rw e (and-false (list_all is_ascii_digit part))) in
        (rw (e, e'') refl) ∙ sym (ap (taken numbers) (onto e'') ∙ bad_first numbers (part ++ b ∷ []) (parts text)
        (λ tail. no_digits (part ++ b ∷ []) tail broken))

-- so from the first byte on the code reads the version of the text
pub read_version : (text : List ℕ) → read_on [] 0 0 text ≡ version text
read_version text = read_whole [] [] text refl (omega arith) ∙ ap (taken []) (prefixed_empty text)
    ∙ (let same : 0 + length (parts text) ≡ length (parts text) = omega arith in rw same refl)

-- The number that so many digits can express.

-- ten to the power of so many digits
abbrev pub ten_to : ℕ → ℕ
ten_to zero = 1
ten_to (suc digits) = ten_to digits * 10

-- so a number of one more digit stays below the next power
pub one_more : (digits number digit : ℕ) → number < ten_to digits → digit ≤ 9 → number * 10 + digit < ten_to (digits + 1)
one_more digits number digit below small = let next : digits + 1 ≡ suc digits = omega arith in rw next (omega (arith, below, small))

-- before the ninth digit a number is small enough for one more
pub has_room : (digits : ℕ) → digits < 9 → ten_to digits ≤ 100000000
has_room zero few = omega arith
has_room (suc zero) few = omega arith
has_room (suc (suc zero)) few = omega arith
has_room (suc (suc (suc zero))) few = omega arith
has_room (suc (suc (suc (suc zero)))) few = omega arith
has_room (suc (suc (suc (suc (suc zero))))) few = omega arith
has_room (suc (suc (suc (suc (suc (suc zero)))))) few = omega arith
has_room (suc (suc (suc (suc (suc (suc (suc zero))))))) few = omega arith
has_room (suc (suc (suc (suc (suc (suc (suc (suc zero)))))))) few = omega arith
has_room (suc (suc (suc (suc (suc (suc (suc (suc (suc digits))))))))) few = absurd (omega (arith, few))

-- One step of the loop over the bytes.

-- the value of a digit is at most 9
pub digit_small : (b : ℕ) → is_ascii_digit b ≡ true → b - byte "0" ≤ 9
digit_small b digit = by (nat_le (byte "0") b) (nat_le b (byte "9")) refl refl digit
  where
    by : (t u : Bool) → nat_le (byte "0") b ≡ t → nat_le b (byte "9") ≡ u → (t && u) ≡ true → b - byte "0" ≤ 9
    by true true e e' both = let high : b ≤ 57 = grind (arith, nat_tests) in omega (arith, high)
    by true false e e' both = absurd cc
    by false u e e' both = absurd cc

-- one turn of the code's loop at a digit
pub digit_step : (numbers : List ℕ) (number digits : ℕ) (text : List ℕ) (i : ℕ) (whole : Option (List ℕ)) → i < length text
    → is_ascii_digit (get_or text i 0) ≡ true → digits < 9 → read_on numbers number digits (drop i text) ≡ whole
    → read_on numbers (number * 10 + (get_or text i 0 - byte "0")) (digits + 1) (drop (i + 1) text) ≡ whole
digit_step numbers number digits text i whole below digit few done = step ∙ done
  where
    step : read_on numbers (number * 10 + (get_or text i 0 - byte "0")) (digits + 1) (drop (i + 1) text) ≡ read_on numbers number
        digits (drop i text)
    step = rw (drop_more text i 0 below, digit, lt-ltb digits 9 few) refl

-- one turn of the code's loop at a dot after a part
pub dot_step : (numbers after : List ℕ) (number digits : ℕ) (text : List ℕ) (i : ℕ) (whole : Option (List ℕ)) → i < length text
    → get_or text i 0 ≡ byte "." → 0 < digits → length numbers < 32 → after ≡ numbers ++ number ∷ []
    → read_on numbers number digits (drop i text) ≡ whole → read_on after 0 0 (drop (i + 1) text) ≡ whole
dot_step numbers after number digits text i whole below dot some room is done = rw is (step ∙ done)
  where
    step : read_on (numbers ++ number ∷ []) 0 0 (drop (i + 1) text) ≡ read_on numbers number digits (drop i text)
    step = rw (drop_more text i 0 below, dot, lt-ltb 0 digits some, lt-ltb (length numbers) 32 room) refl
