use Rattle.drv_funcs.proofs.Reading.{digit_small, digit_step, dot_step, one_more}
use Rattle.drv_funcs.proofs.version.version_of.Goals as goal
use Rattle.drv_funcs.proofs.version.version_of.Goals.{else-is_ascii_digit+then-byte-eq46+then-digits-gt0+then-len-lt-MOST_PARTS}
use Rattle.drv_funcs.proofs.version.version_of.Goals.{then-is_ascii_digit+then-digits-lt-MOST_DIGITS}
use Rattle.std.proofs.Common.{◌≡◌, ◌<◌, ◌-◌, ◌∷◌, ◌++◌, [], arith, get_or, length, rules, true}
use Rattle.std.specs.Char.{is_ascii_digit}
use Rattle.std.specs.Str.{byte}

-- Names: `digit_small`: the value of a digit is at most 9. `digit_step`: one turn of the code's loop at a digit. `dot_step`: one turn of
-- the code's loop at a dot after a part. `one_more`: so a number of one more digit stays below the next power.

-- one more byte is a digit of the open part, or the dot after it
pub loop-byte-preserved : goal.loop-byte-preserved
loop-byte-preserved c =
    let below : c.loop-byte.byte-index < length c.args.text.now = omega arith in
    elim c.if-is_ascii_digit.branch [
      | then-is_ascii_digit+then-digits-lt-MOST_DIGITS w ↦
          let digit : is_ascii_digit (get_or c.args.text.now c.loop-byte.byte-index 0) ≡ true = search rules in
          let few : c.loop-byte.digits < 9 = omega arith in
          record {
            few = rw w.digits-is (omega (arith, few));
            bound = rw (w.number-is, w.digits-is) (one_more c.loop-byte.digits c.loop-byte.number
                (get_or c.args.text.now c.loop-byte.byte-index 0 - byte "0") c.loop-byte.invariant.bound
                (digit_small (get_or c.args.text.now c.loop-byte.byte-index 0) digit));
            reads = rw (w.numbers-is, w.number-is, w.digits-is) (digit_step c.loop-byte.numbers.items c.loop-byte.number c.loop-byte.digits
                c.args.text.now c.loop-byte.byte-index _ below digit few c.loop-byte.invariant.reads);
          }
      | else-is_ascii_digit+then-byte-eq46+then-digits-gt0+then-len-lt-MOST_PARTS w ↦
          let dot : get_or c.args.text.now c.loop-byte.byte-index 0 ≡ byte "." = w.if-byte-eq46.true in
          let some : 0 < c.loop-byte.digits = omega arith in
          let room : length c.loop-byte.numbers.items < 32 = omega arith in
          let after : c.if-is_ascii_digit.numbers.items ≡ c.loop-byte.numbers.items ++ c.loop-byte.number ∷ [] =
          rw w.numbers-is w.push.ensures.items in
          record {
            few = rw w.digits-is (omega arith);
            bound = rw (w.number-is, w.digits-is) (omega arith);
            reads = rw (w.number-is, w.digits-is) (dot_step c.loop-byte.numbers.items c.if-is_ascii_digit.numbers.items c.loop-byte.number
                c.loop-byte.digits c.args.text.now c.loop-byte.byte-index _ below dot some room after c.loop-byte.invariant.reads);
          }
    ]
