use Rattle.drv_core.proofs.Fleets.{all_filled, all_fresh, made_more}
use Rattle.drv_core.proofs.fleet.sources_of.Goals as goal
use Rattle.drv_words.specs.Places.{no_job}
use Rattle.std.proofs.Common.{◌∙◌, arith}
use Rattle.std.proofs.lemmas.List.{get_or_default}

-- one more source is made of one more job
pub loop-job-preserved : goal.loop-job-preserved
loop-job-preserved c = made_more c.args.jobs.now c.loop-job.sources.items c.push.new.self.items c.loop-job.job-index c.in_ok-source.source
    c.job-item.result c.in_ok-push.ensures.items
    (c.job-item.is ∙ get_or_default c.args.jobs.now c.loop-job.job-index c.job-item.result no_job c.loop-job-test.true)
    c.loop-job-test.true c.in_ok-source.ensures.fresh c.in_ok-source.ensures.room c.in_ok-source.ensures.filled c.loop-job.invariant

-- no job is left: all sources are made
pub returns-clause-fresh : goal.returns-clause-fresh
returns-clause-fresh c = all_fresh c.args.jobs.now c.loop-job.sources.items c.loop-job.job-index c.loop-job-test.false c.loop-job.invariant

pub returns-clause-many : goal.returns-clause-many
returns-clause-many c =
    let many = c.loop-job.invariant.many in
    let most = c.loop-job.invariant.most in
    let past = c.loop-job-test.false in
    omega (arith, many, most, past)

-- none of them has an empty group
pub returns-clause-filled : goal.returns-clause-filled
returns-clause-filled c = all_filled c.args.jobs.now c.loop-job.sources.items c.loop-job.job-index c.loop-job-test.false
    c.loop-job.invariant
