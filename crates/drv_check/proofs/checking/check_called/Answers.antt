use Rattle.drv_check.proofs.PiecesChecked.{called_in}
use Rattle.drv_check.proofs.checking.check_called.Goals as goal
use Rattle.drv_check.specs.Checks.{is_full, most_faults, opened}
use Rattle.drv_specs.specs.Loading.{most_files, most_levels}
use Rattle.drv_specs.specs.declared.directive.IfMissing.TheVariants.{Refuse}
use Rattle.drv_system.proofs.AskedCalls.{extends_before}
use Rattle.drv_system.specs.Known.{Is}
use Rattle.std.proofs.Common.{◌∙◌, None, ap, sym}

-- The file was opened, so its check is that of its pieces (`called_in`).
pub returns-in-Some-clause-checks : goal.returns-in-Some-clause-checks
returns-in-Some-clause-checks g c F e =
    called_in F c.args.search.now.prefixes.now (is_full most_faults) c.args.checking.now c.open.new.checking
    c.args.name.now c.in-Some.file
    c.check_file.new.checking c.check_file.result
    (ap (λ n. opened F c.args.search.now.prefixes.now most_levels (record c.args.checking.now { files = most_files }) None
    (record { if_missing = Refuse; file = n }))
    (sym c.in_ok-clone.ensures.cases)
    ∙ c.in_ok-file.ensures.opens F (extends_before c.check_file.ensures.asks e)
    ∙ ap (λ f. Is (c.open.new.checking, f)) c.in-Some.is)
    (c.check_file.ensures.checks F e)
