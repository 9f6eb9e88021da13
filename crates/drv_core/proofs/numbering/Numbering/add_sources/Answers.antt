use Rattle.drv_core.proofs.Notes.{noting_all, noting_next, noting_starts}
use Rattle.drv_core.proofs.numbering.Numbering.add_sources.Goals as goal
use Rattle.drv_core.specs.Windowed.{files_from, job_files}
use Rattle.std.proofs.Common.{refl}

-- Names: `files_from`: the files of the jobs from number k on. `noting_all`: after the last item all its files are noted.

-- before the first one no file is added, and all are left
pub loop-number-init : goal.loop-number-init
loop-number-init c before h = noting_starts before (files_from 0 c.args.jobs.now) _ _ h

-- one more is added, and no longer left
pub loop-number-preserved : goal.loop-number-preserved
loop-number-preserved c before h = noting_next files_from job_files _ c.args.jobs.now c.loop-number.number c.index-jobs-number.result _ _ _
    _ (λ rest. refl) c.index-jobs-number.is c.loop-number-test.true (c.loop-number.invariant before h) c.in_ok-add_job.ensures

-- after the last one all are added
pub returns : goal.returns
returns c before h = noting_all files_from before c.args.jobs.now _ c.loop-number.number _ _ refl c.loop-number-test.false refl
    (c.loop-number.invariant before h)
