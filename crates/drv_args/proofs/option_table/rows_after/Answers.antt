use Rattle.drv_args.proofs.Lookups.{rows_of}
use Rattle.drv_args.specs.Code.Lookup.{part_of}
use Rattle.drv_args.specs.Options.{option_table}
use Rattle.drv_args.proofs.option_table.rows_after.Goals as goal
use Rattle.std.proofs.Common.{◌≡◌, ◌==◌, ap, arith, false, refl, true}
use Rattle.std.proofs.lemmas.Bool.Decides.{nat_tests}
use Rattle.std.specs.Prelude.{nat_lt}

-- Names: `part_of`: the number of the part of a second byte. `rows_of`: the rows of one part are those of the table that can be in it.

pub returns-in-87 : goal.returns-in-87
unfolding option_table
returns-in-87 c = rows_of 0 c.args.letter _ (ap part_of c.in-87.is) refl

pub returns-in-0-to-90 : goal.returns-in-0-to-90
unfolding option_table
returns-in-0-to-90 c =
    let other : (c.args.letter == 87) ≡ false = grind (arith, nat_tests) in
    let low : nat_lt c.args.letter 91 ≡ true = grind (arith, nat_tests) in
    rows_of 1 c.args.letter _ (rw (other, low) refl) refl

pub returns-in_default : goal.returns-in_default
unfolding option_table
returns-in_default c =
    let other : (c.args.letter == 87) ≡ false = grind (arith, nat_tests) in
    let low : nat_lt c.args.letter 91 ≡ false = grind (arith, nat_tests) in
    rows_of 2 c.args.letter _ (rw (other, low) refl) refl
