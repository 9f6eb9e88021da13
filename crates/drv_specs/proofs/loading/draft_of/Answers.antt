use Rattle.drv_specs.proofs.Carrying.{given_alike}
use Rattle.drv_specs.proofs.loading.draft_of.Goals as goal
use Rattle.drv_specs.specs.Directives.{read_settled}
use Rattle.drv_specs.specs.Loading.{worked}
use Rattle.std.proofs.Common.{ap}

-- Names: `F`: what is known of the outside. `e`: that `F` extends the facts of this call. `read_settled`: the directives of a settled text,
-- and of any. `worked`: directives of a text, in which so many more files may be read.

-- the copy is equal to the entries, so what is made of it is what is defined for them
pub returns-clause-works : goal.returns-clause-works
returns-clause-works g c F e =
    given_alike _ c.worked_entries.result (worked F c.args.prefixes.now c.in_ok-draft.draft c.args.files (read_settled c.args.text.now))
    (worked F c.args.prefixes.now c.args.entries.now c.args.files (read_settled c.args.text.now))
    (ap (λ set. worked F c.args.prefixes.now set c.args.files (read_settled c.args.text.now)) c.in_ok-draft.ensures)
    (c.worked_entries.ensures.works F e)
