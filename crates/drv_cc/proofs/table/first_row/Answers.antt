use Rattle.drv_cc.proofs.Parts.{among, later_part, machine_part}
use Rattle.drv_cc.proofs.table.first_row.Goals as goal
use Rattle.drv_cc.specs.Code.Parts.{part_of}
use Rattle.drv_cc.specs.Table.{capitals, features, later_letters, later_long_names, letters, long_names, machines, warnings}
use Rattle.std.proofs.Common.{◌≡◌, ◌∙◌, ◌==◌, ◌++◌, ap, arith, false, sym, true}
use Rattle.std.proofs.lemmas.Bool.Decides.{nat_tests}
use Rattle.std.proofs.lemmas.List.{append-nil}
use Rattle.std.specs.Prelude.{nat_lt}

-- Names: `part_of`: the part of the table that has the rows of a second byte.

pub returns-in-45 : goal.returns-in-45
returns-in-45 c = c.long_name.ensures ∙ among c.args.word.now 0 (long_names ++ later_long_names)
    (ap part_of (sym c.second.ensures ∙ c.in-45.is)) (ap (λ l. long_names ++ l) (append-nil later_long_names))

pub returns-in-87 : goal.returns-in-87
returns-in-87 c =
    c.warning.ensures ∙ among c.args.word.now 1 warnings (ap part_of (sym c.second.ensures ∙ c.in-87.is)) (append-nil warnings)

pub returns-in-102 : goal.returns-in-102
returns-in-102 c =
    c.feature.ensures ∙ among c.args.word.now 2 features (ap part_of (sym c.second.ensures ∙ c.in-102.is)) (append-nil features)

pub returns-in-103 : goal.returns-in-103
returns-in-103 c =
    c.machine.ensures ∙ among c.args.word.now 3 machines (ap part_of (sym c.second.ensures) ∙ machine_part c.second.result c.in-103.is)
    (append-nil machines)

pub returns-in-0-to-90 : goal.returns-in-0-to-90
returns-in-0-to-90 c =
    let b = c.second.result in
    let long : (b == 45) ≡ false = grind (arith, nat_tests) in
    let warns : (b == 87) ≡ false = grind (arith, nat_tests) in
    let feature : (b == 102) ≡ false = grind (arith, nat_tests) in
    let debug : (b == 103) ≡ false = grind (arith, nat_tests) in
    let machine : (b == 109) ≡ false = grind (arith, nat_tests) in
    let here : nat_lt b 91 ≡ true = grind (arith, nat_tests) in
    let there : nat_lt b 112 ≡ true = grind (arith, nat_tests) in
    c.capital.ensures ∙ among c.args.word.now 4 capitals
    (ap part_of (sym c.second.ensures) ∙ later_part b true true long warns feature debug machine here there) (append-nil capitals)

pub returns-in-0-to-111 : goal.returns-in-0-to-111
returns-in-0-to-111 c =
    let b = c.second.result in
    let long : (b == 45) ≡ false = grind (arith, nat_tests) in
    let warns : (b == 87) ≡ false = grind (arith, nat_tests) in
    let feature : (b == 102) ≡ false = grind (arith, nat_tests) in
    let debug : (b == 103) ≡ false = grind (arith, nat_tests) in
    let machine : (b == 109) ≡ false = grind (arith, nat_tests) in
    let here : nat_lt b 91 ≡ false = grind (arith, nat_tests) in
    let there : nat_lt b 112 ≡ true = grind (arith, nat_tests) in
    c.letter.ensures ∙ among c.args.word.now 5 letters
    (ap part_of (sym c.second.ensures) ∙ later_part b false true long warns feature debug machine here there) (append-nil letters)

pub returns-in_default : goal.returns-in_default
returns-in_default c =
    let b = c.second.result in
    let long : (b == 45) ≡ false = grind (arith, nat_tests) in
    let warns : (b == 87) ≡ false = grind (arith, nat_tests) in
    let feature : (b == 102) ≡ false = grind (arith, nat_tests) in
    let debug : (b == 103) ≡ false = grind (arith, nat_tests) in
    let machine : (b == 109) ≡ false = grind (arith, nat_tests) in
    let here : nat_lt b 91 ≡ false = grind (arith, nat_tests) in
    let there : nat_lt b 112 ≡ false = grind (arith, nat_tests) in
    c.later_letter.ensures ∙ among c.args.word.now 6 later_letters
    (ap part_of (sym c.second.ensures) ∙ later_part b false false long warns feature debug machine here there) (append-nil later_letters)
