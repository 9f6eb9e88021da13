use Rattle.drv_system.specs.Limit.{is_too_large}
use Rattle.drv_system.specs.Reading.{ReadsAs}
use Rattle.drv_system.specs.declared.event.ReadAnswer.TheVariants.{Read, TooLarge}
use Rattle.std.proofs.Common.{ap, sym, ◌∙◌, arith}
use Rattle.std.proofs.lemmas.Bool.Decides.{nat_tests}
use Rattle.std.proofs.lemmas.List.{append-nil, length-append}
use Rattle.std.specs.Io.KnownBytes.{Consumes, IsAtEnd}
use Rattle.std.specs.Prelude.{◌≡◌, ◌<◌, ◌≤◌, ◌+◌, List, [], ◌++◌, None, Option, Some, false, length, nat_lt, true, ℕ}

-- For `read_to_end`: all bytes that were read of a file.
-- Names: `bytes` is what was read so far.

-- at its end they are all bytes that it had left
pub whole : (old mid new : Option (List ℕ)) (bytes word taken : List ℕ) → Consumes old mid bytes → Consumes mid new taken → taken ≡ []
    → IsAtEnd new → word ≡ bytes → ReadsAs old (Read word)
whole None mid new bytes word taken before now none end is = tt
whole (Some xs) None new bytes word taken before now none end is = absurd before
whole (Some xs) (Some ys) None bytes word taken before now none end is = absurd now
whole (Some xs) (Some ys) (Some zs) bytes word taken before now none end is =
    is ∙ sym (before ∙ ap (λ rest. bytes ++ rest) (now ∙ ap (λ t. t ++ zs) none ∙ end) ∙ append-nil bytes)

-- a file that has passed the limit stays past it, whatever follows
larger : (n m most : ℕ) → most < n + m → (k : ℕ) → nat_lt most (n + (m + k)) ≡ true
larger n m most over k = grind (arith, nat_tests)

-- more than a file may have
pub too_large : (old mid new : Option (List ℕ)) (bytes taken : List ℕ) → Consumes old mid bytes → Consumes mid new taken
    → 16777216 < length bytes + length taken → ReadsAs old TooLarge
too_large None mid new bytes taken before now over = tt
too_large (Some xs) None new bytes taken before now over = absurd before
too_large (Some xs) (Some ys) None bytes taken before now over = absurd now
too_large (Some xs) (Some ys) (Some zs) bytes taken before now over =
    let size : length xs ≡ length bytes + (length taken + length zs) =
    ap length (before ∙ ap (λ rest. bytes ++ rest) now) ∙ length-append bytes (taken ++ zs)
    ∙ ap (λ k. length bytes + k) (length-append taken zs) in
    ap (λ k. nat_lt 16777216 k) size ∙ larger (length bytes) (length taken) 16777216 over (length zs)

-- at most as many as a file may have
few : (n : ℕ) → n ≤ 16777216 → nat_lt 16777216 n ≡ false
few n le = grind (arith, nat_tests)

-- a file of at most 16 MiB is not too large
pub within_limit : (bytes word : List ℕ) → length bytes ≤ 16777216 → word ≡ bytes → is_too_large word ≡ false
within_limit bytes word le is = ap is_too_large is ∙ few (length bytes) le
