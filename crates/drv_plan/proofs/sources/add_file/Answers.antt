use Rattle.drv_plan.proofs.Steps.{given_alike, source_chosen}
use Rattle.drv_plan.proofs.sources.add_file.Goals as goal
use Rattle.drv_plan.specs.Denoted.{with_file, with_source}
use Rattle.drv_plan.specs.Languages.{Chosen}
use Rattle.std.proofs.Common.{Ok, ap, ◌∙◌}

-- Names: `F`: what is known of the outside. `e`: that `F` extends the facts of this call. `with_file`: the progress after a file, by its
-- language. `given_alike`: an answer to one definition is an answer to an equal one.

-- a file with a text is a source, which is processed
pub returns-clause-works : goal.returns-clause-works
returns-clause-works g c F e =
    given_alike _ c.add_source.result (with_source F c.args.name.place c.source_of-source.result c.chosen.inside.tree.now
    c.args.progress.now)
    (with_file F c.args.name.place c.args.name.of.now (Ok c.args.chosen) c.args.progress.now)
    (ap (λ chosen. with_file F c.args.name.place c.args.name.of.now (Ok chosen) c.args.progress.now) c.in-Some.is
    ∙ source_chosen F c.args.name.place c.args.name.of.now c.in-Some.chosen c.source_of-source.result c.chosen.inside.tree.now
    c.args.progress.now
    c.source_of-source.ensures (ap (λ (v : Chosen). v.text) c.chosen.view_is))
    (c.add_source.ensures.works F e)
