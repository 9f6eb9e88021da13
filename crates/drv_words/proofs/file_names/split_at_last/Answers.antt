use Rattle.drv_words.proofs.LastOfAKind.{nowhere_after, parted_at, parted_nowhere}
use Rattle.drv_words.proofs.file_names.split_at_last.Goals as goal
use Rattle.std.proofs.Common.{rules, sym}

-- Names: `nowhere_after`: past the last index no byte of the kind follows. `parted_at`: a name that has the byte at this index, and none
-- after it, is parted there.

-- the name is parted at the last byte of the kind: none follows it
pub returns-in-Some : goal.returns-in-Some
returns-in-Some c =
    let name = c.args.name.now in
    parted_at c.args.mark c.in-Some.at name (search rules) (search rules) (nowhere_after c.args.mark c.in-Some.at name (search rules))

-- without one there are no parts
pub returns-in-None : goal.returns-in-None
returns-in-None c = sym (parted_nowhere c.args.mark c.args.name.now (search rules))
