use Rattle.drv_compile.proofs.LinkLibraries.{joined_goes, single_goes}
use Rattle.drv_compile.proofs.passing.push_first.Goals as goal
use Rattle.drv_compile.specs.Passed.{is_lone}
use Rattle.std.proofs.Common.{◌∙◌, ap, inl, inr, sym}

-- Names: `joined_goes`: -l and the word after it are a library. `single_goes`: any other word is one by itself, or none.

pub returns-in_default-clause-goes : goal.returns-in_default-clause-goes
returns-in_default-clause-goes c =
    single_goes c.args.found.now c.push_library.new.found c.args.word.now c.args.after.now (inl c.in_default.len_below)
    c.in_ok-push_library.ensures

-- the word is -l alone: with the word after it, it is a library
pub returns-then-is_lone-clause-goes : goal.returns-then-is_lone-clause-goes
returns-then-is_lone-clause-goes c =
    joined_goes c.args.found.now c.push_joined.new.found c.args.word.now c.as_bytes.result.now c.next-item.result c.args.after.now
    c.is_lone.result c.in-len1-up.len_at_least c.next-item.is c.as_bytes.ensures c.is_lone.ensures c.if-is_lone.true
    c.in_ok-push_joined.ensures

pub returns-clause-goes : goal.returns-clause-goes
returns-clause-goes c =
    single_goes c.args.found.now c.push_library-2.new.found c.args.word.now c.args.after.now
    (inr (ap is_lone (sym c.as_bytes.ensures) ∙ sym c.is_lone.ensures ∙ c.if-is_lone.false)) c.in_ok-push_library-2.ensures
