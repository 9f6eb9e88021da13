use Rattle.drv_check.specs.Origins.{agree, byte_at, is_byte, spot_at}
use Rattle.drv_check.specs.declared.findings.Source.{Source}
use Rattle.drv_check.specs.declared.findings.Spot.{Spot}
use Rattle.std.proofs.Common.{◌≡◌, ◌∙◌, ◌&&◌, ◌+◌, ◌-◌, ◌∷◌, Bool, List, None, Option, Some, [], ap, arith, drop, false, if◌then◌else◌}
use Rattle.std.proofs.Common.{length, refl, subst, suc, true, zero, ℕ}
use Rattle.std.proofs.lemmas.Bool.Decides.{nat_tests}
use Rattle.std.specs.Prelude.{nat_lt, slice_get}

-- Where a byte of a text has a spot, a file has the byte there. For `spots_have_bytes` (src/laws.rt).
-- Names: A spot is a place in a file. `sources` is the files that were read. `spots` is the spots of a text's last bytes, and `spot` one of
-- them. `text` is the text. `n`, `i` and `k` are places. `a`, `b` and `t` are values of tests, and `b`
-- is a byte in `is_there`. `byte_at sources spot` is the byte at a spot. `agree sources spots text`: the files have these bytes there.
-- `spot_at` is the spot of the byte at a place (specs/Origins).

-- A byte that is found and compares as equal is that byte.
is_there : (found : Option ℕ) (b : ℕ) → is_byte found b ≡ true → found ≡ Some b
is_there None b is = absurd cc
is_there (Some other) b is =
    let same : other ≡ b = grind (arith, nat_tests, is) in
    ap Some same

-- Of two tests that hold together each holds: the first compares one byte, the second the rest.
first_of_two : (a b : Bool) → (a && b) ≡ true → a ≡ true
first_of_two true b is = refl
first_of_two false b is = absurd cc

-- of two tests that hold together the second holds: it compares the rest of the text
second_of_two : (a b : Bool) → (a && b) ≡ true → b ≡ true
second_of_two true b is = is
second_of_two false b is = absurd cc

-- Where all spots agree with a text, each does: the law looks at one of them.
byte_there : (sources : List Source) (spots : List Spot) (text : List ℕ) (i : ℕ) (spot : Spot) → agree sources spots text ≡ true
    → slice_get spots i ≡ Some spot → byte_at sources spot ≡ slice_get text i
byte_there sources [] text i spot is has = absurd cc
byte_there sources (first ∷ spots) [] i spot is has = absurd cc
byte_there sources (first ∷ spots) (b ∷ text) zero spot is has =
    let same : first ≡ spot = cc in
    subst (λ s. byte_at sources s ≡ Some b) same
    (is_there (byte_at sources first) b (first_of_two (is_byte (byte_at sources first) b) (agree sources spots text) is))
byte_there sources (first ∷ spots) (b ∷ text) (suc i) spot is has =
    byte_there sources spots text i spot (second_of_two (is_byte (byte_at sources first) b) (agree sources spots text) is) has

-- A place behind bytes that are left out is further on by their number.
dropped : (k : ℕ) (text : List ℕ) (i : ℕ) → slice_get (drop k text) i ≡ slice_get text (k + i)
dropped zero text i =
    let same : i ≡ 0 + i = omega arith in
    ap (slice_get text) same
dropped (suc k) [] i = refl
dropped (suc k) (b ∷ text) i =
    let more : suc (k + i) ≡ suc k + i = omega arith in
    dropped k text i ∙ ap (slice_get (b ∷ text)) more

-- The spots are those of the last bytes, so the place counts from where these begin.
pub placed : (sources : List Source) (spots : List Spot) (text : List ℕ) (n : ℕ) (spot : Spot)
    → agree sources spots (drop (length text - length spots) text) ≡ true → spot_at spots (length text) n ≡ Some spot
    → byte_at sources spot ≡ slice_get text n
placed sources spots text n spot is = by (nat_lt n before) refl
  where
    -- Plan: `before` is how many bytes precede those with spots; `by` goes by whether the byte is among them.
    before : ℕ
    before = length text - length spots

    by : (t : Bool) → nat_lt n before ≡ t → (if t then None else slice_get spots (n - before)) ≡ Some spot
        → byte_at sources spot ≡ slice_get text n
    by true less has = absurd cc
    by false more has =
        let whole : before + (n - before) ≡ n = grind (arith, nat_tests, more) in
        byte_there sources spots (drop before text) (n - before) spot is has
        ∙ dropped before text (n - before) ∙ ap (slice_get text) whole

-- If a file has the byte at the first spot, then the spots agree with the bytes exactly if the others do.
pub agree_next : (sources : List Source) (spot : Spot) (spots spots' : List Spot) (byte : ℕ) (bytes bytes' : List ℕ)
    → spots ≡ spot ∷ spots' → bytes ≡ byte ∷ bytes' → is_byte (byte_at sources spot) byte ≡ true
    → agree sources spots bytes ≡ agree sources spots' bytes'
agree_next sources spot spots spots' byte bytes bytes' cut cut' is =
    ap (λ ss. agree sources ss bytes) cut ∙ ap (λ bs. agree sources (spot ∷ spots') bs) cut' ∙ rw is refl
