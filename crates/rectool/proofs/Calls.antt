use Rattle.rectool.specs.Call.{code_after, code_of, file_named, number_after, with_digit}
use Rattle.std.proofs.Common.{◌≡◌, ◌<◌, ◌≤◌, ◌*◌, ◌+◌, ◌-◌, ◌&&◌, ◌==◌, Bool, List, [], ◌∷◌, None, Option, Some, ap, arith, drop, false}
use Rattle.std.proofs.Common.{get_or, refl, sym, true, ◌∙◌, ℕ}
use Rattle.std.proofs.lemmas.Bool.Decides.{nat_tests}
use Rattle.std.proofs.lemmas.List.{drop_all, drop_more}
use Rattle.std.specs.Char.{is_ascii_digit}
use Rattle.std.specs.List.{last_or, list_all}
use Rattle.std.specs.Option.{option_or, unwrap_or}
use Rattle.std.specs.Prelude.{if◌then◌else◌, length, nat_le}

-- For `exit_status`: the last value that words have, whatever came before the first one.
-- Names: `n` is the number that the digits so far spell. `digits` is the digits of a status, from here on. `X` is the type of a value that
-- words may have. `is_small` says whether the number is at most 255. `code_after n digits` is that number, if it is a status.
-- `number_after n digits` is the number with these digits more.

-- the last value of words, after a value before them
pub last_after : {X : Type 0} (d : X) (xs : List X) → unwrap_or (last_or (Some d) xs) d ≡ unwrap_or (last_or None xs) d
last_after d [] = refl
last_after d (x ∷ xs) = refl

-- For `output_file`: the word after the last `-o`, as far as a loop has come.

-- no file is named by nothing
pub none_named : (following : Option (Option (List ℕ))) → file_named (option_or following (Some None)) ≡ file_named following
none_named None = refl
none_named (Some path) = refl

-- of three values the last one counts
pub later_counts : {X : Type 0} (later : Option X) (here before : X) → option_or (option_or later (Some here)) (Some before)
    ≡ option_or later (Some here)
later_counts None here before = refl
later_counts (Some path) here before = refl

-- a word without a value changes nothing
pub nothing_here : {X : Type 0} (later : Option X) (before : Option X) → option_or (option_or later None) before ≡ option_or later before
nothing_here None before = refl
nothing_here (Some path) before = refl

-- For `code_of`: a number grows with each digit.

-- more digits make no number less
grows : (n : ℕ) (digits : List ℕ) → n ≤ number_after n digits
grows n [] = omega arith
grows n (digit ∷ digits) =
    let more : n * 10 + (digit - 48) ≤ number_after (n * 10 + (digit - 48)) digits = grows (n * 10 + (digit - 48)) digits in
    omega (arith, more)

-- a number that is too great is no status
no_code : (are_digits is_small : Bool) (n : ℕ) → is_small ≡ false → (if are_digits && is_small then Some n else None) ≡ None
no_code true small n is = rw is refl
no_code false small n is = refl

-- a number above 255 stays above
above : (n m : ℕ) → n ≤ m → nat_le n 255 ≡ false → nat_le m 255 ≡ false
above n m more large = grind (arith, nat_tests)

-- After one more digit, and after a byte that is not a digit or makes the number too great.

-- the value of an option is the only one in it
some_is : {a b : ℕ} → Some a ≡ Some b → a ≡ b
some_is {a} {b} e = ap (λ o. unwrap_or o 0) e

-- one more digit that fits, and then the others
pub one_more : (n digit m : ℕ) (digits : List ℕ) → with_digit n digit ≡ Some m → code_after n (digit ∷ digits) ≡ code_after m digits
one_more n digit m digits is = by (is_ascii_digit digit) (nat_le (n * 10 + (digit - 48)) 255) refl is
  where
    by : (is_digit is_small : Bool) → is_ascii_digit digit ≡ is_digit
        → (if is_digit && is_small then Some (n * 10 + (digit - 48)) else None) ≡ Some m
        → code_after n (digit ∷ digits) ≡ code_after m digits
    by true true is_digit some = let same : n * 10 + (digit - 48) ≡ m = some_is some in rw is_digit (ap (λ k. code_after k digits) same)
    by true false is_digit some = absurd cc
    by false is_small is_digit some = absurd cc

-- one that doesn't fit makes the whole no status
pub no_more : (n digit : ℕ) (digits : List ℕ) → with_digit n digit ≡ None → code_after n (digit ∷ digits) ≡ None
no_more n digit digits is = by (is_ascii_digit digit) (nat_le (n * 10 + (digit - 48)) 255) refl refl is
  where
    -- Plan: by whether the byte is a digit, and whether the number with it is small enough; a greater one stays too great (`large`).
    large : nat_le (n * 10 + (digit - 48)) 255 ≡ false → nat_le (number_after n (digit ∷ digits)) 255 ≡ false
    large = above (n * 10 + (digit - 48)) _ (grows (n * 10 + (digit - 48)) digits)

    by : (is_digit is_small : Bool) → is_ascii_digit digit ≡ is_digit → nat_le (n * 10 + (digit - 48)) 255 ≡ is_small
        → (if is_digit && is_small then Some (n * 10 + (digit - 48)) else None) ≡ None → code_after n (digit ∷ digits) ≡ None
    by true true is_digit is_small none = absurd cc
    by true false is_digit is_small none = no_code (list_all is_ascii_digit (digit ∷ digits)) _ _ (large is_small)
    by false is_small is_digit same none = rw is_digit refl

-- a number of at most 255 is a status
pub at_end : (n : ℕ) → n < 256 → code_after n [] ≡ Some n
at_end n small = let fits : nat_le n 255 ≡ true = within n small in rw fits refl
  where
    within : (n : ℕ) → n < 256 → nat_le n 255 ≡ true
    within n small = grind (arith, nat_tests)

-- the status of digits is read from 0 on
pub some_digits : (digits : List ℕ) → (length digits == 0) ≡ false → code_of digits ≡ code_after 0 digits
some_digits [] some = absurd cc
some_digits (digit ∷ digits) some = refl

-- the digits that are left decide that there is no code
pub refused : (digits : List ℕ) (n i : ℕ) → (length digits == 0) ≡ false → i < length digits
    → code_after n (drop i digits) ≡ code_after 0 digits
    → with_digit n (get_or digits i 0) ≡ None → code_of digits ≡ None
refused digits n i some below rest is =
    some_digits digits some ∙ sym rest ∙ ap (λ xs. code_after n xs) (drop_more digits i 0 below) ∙ no_more n (get_or digits i 0)
    (drop (i + 1) digits) is

-- so the code's loop ends with the status of all digits
pub accepted : (digits : List ℕ) (n i : ℕ) → (length digits == 0) ≡ false → length digits ≤ i → n < 256
    → code_after n (drop i digits) ≡ code_after 0 digits
    → Some n ≡ code_of digits
accepted digits n i some past small rest =
    sym (some_digits digits some ∙ sym rest ∙ ap (λ xs. code_after n xs) (drop_all i digits past) ∙ at_end n small)
