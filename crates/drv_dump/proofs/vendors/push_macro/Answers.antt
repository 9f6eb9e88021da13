use Rattle.drv_dump.proofs.VendorTexts.{macro_put}
use Rattle.drv_dump.proofs.vendors.push_macro.Goals as goal
use Rattle.std.proofs.lemmas.Result.{on_ok_weaker}

-- Names: `macro_put`: a switch for a macro after a word.

pub returns : goal.returns
returns c =
    on_ok_weaker c.extend_from_slice-2.result
    (λ put. macro_put c.args.word.now c.extend_from_slice.new.self c.extend_from_slice-2.new.self c.args.test.now
    c.macro_name-name.result.now c.in_ok-extend_from_slice.ensures.ok c.macro_name-name.ensures put)
    c.extend_from_slice-2.ensures.ok
