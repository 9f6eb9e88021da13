use Rattle.drv_core.proofs.Notes.{all_none, all_some}
use Rattle.drv_core.proofs.numbering.Numbering.add_all.Goals as goal
use Rattle.drv_core.specs.Windowed.{all_files, files_from, job_files}
use Rattle.drv_core.specs.Code.NumberingView.{IsNoted}
use Rattle.std.proofs.Common.{◌≡◌, ◌++◌, ◌∙◌, OnOk, ap, append_assoc, subst}

-- Names: `files_from`: the files of the jobs from number k on. `job_files`: the files of a job that makes calls. `all_none`: without a link
-- all leftover files are those of the sources.

-- the files of the sources, then those of the link, are all files of the plan
pub returns-in-Some : goal.returns-in-Some
returns-in-Some c before h =
    let all : (before ++ files_from 0 c.as_slice.result.now) ++ job_files c.len.result c.in-Some.link ≡ before
    ++ all_files c.args.plan.now =
    append_assoc before (files_from 0 c.as_slice.result.now) (job_files c.len.result c.in-Some.link)
    ∙ ap (λ jobs. before ++ (files_from 0 jobs ++ job_files c.len.result c.in-Some.link)) c.as_slice.ensures
    ∙ ap (λ n. before ++ (files_from 0 c.args.plan.now.jobs ++ job_files n c.in-Some.link)) c.len.ensures
    ∙ ap (λ files. before ++ files) (all_some c.args.plan.now c.in-Some.link c.in-Some.is) in
    subst (λ files. OnOk c.add_job.result (IsNoted files c.add_job.new.self)) all
    (c.add_job.ensures (before ++ files_from 0 c.as_slice.result.now) (c.in_ok-add_sources.ensures before h))

-- without a link the files of the sources are all
pub returns-in-None : goal.returns-in-None
returns-in-None c before h =
    subst (λ files. IsNoted (before ++ files) c.add_sources.new.self)
    (ap (λ jobs. files_from 0 jobs) c.as_slice.ensures ∙ all_none c.args.plan.now c.in-None.is) (c.in_ok-add_sources.ensures before h)
