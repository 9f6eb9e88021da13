use Rattle.drv_run.proofs.Files.{file_refused, file_taken, refusal_given}
use Rattle.drv_run.proofs.deciding.load_files.Goals as goal
use Rattle.drv_run.specs.Drives.{files_loaded}
use Rattle.drv_specs.specs.declared.fault.SpecsFault.TheVariants as specs_fault
use Rattle.drv_system.proofs.AskedCalls.{asked_further}
use Rattle.drv_system.proofs.Asking.{asks_extends, extends_then}
use Rattle.std.proofs.Common.{refl}

-- Names: `F`: what is known of the outside. `e`: that `F` extends the facts of this call. `files_loaded`: a set after files of specs, in
-- their order. `asked_further`: calls that only asked, one after another. `asks_extends`: a call that only asked keeps every answer.

-- the refusal of a file is that of all
pub returns-in_err-loaded-clause-loads : goal.returns-in_err-loaded-clause-loads
returns-in_err-loaded-clause-loads g c F e =
    refusal_given specs_fault.Memory c.in_err-loaded.field-0.0 c.from_residual.result _
    (files_loaded F c.args.prefixes.now c.args.set c.args.names.now) c.from_residual.ensures.1
    (file_refused F c.args.prefixes.now c.loop-name.loaded c.args.names.now c.loop-name.name-index c.name-item.result
    c.in_err-loaded.field-0.0 (files_loaded F c.args.prefixes.now c.args.set c.args.names.now)
    c.loop-name-test.true c.name-item.is (c.in_err-loaded.ensures.loads F e)
    (c.loop-name.invariant.rest F (extends_then (asks_extends c.with_file.ensures.asks) e)))

-- one more file was loaded
pub loop-name-preserved : goal.loop-name-preserved
loop-name-preserved g c = record {
  asks = asked_further c.loop-name.invariant.asks (record { asks = c.with_file.ensures.asks; same_sys = refl; same_facts = refl });
  rest = λ F e.
      file_taken F c.args.prefixes.now c.loop-name.loaded c.in_ok-loaded.loaded c.args.names.now c.loop-name.name-index c.name-item.result
      (files_loaded F c.args.prefixes.now c.args.set c.args.names.now)
      c.loop-name-test.true c.name-item.is (c.in_ok-loaded.ensures.loads F e)
      (c.loop-name.invariant.rest F (extends_then (asks_extends c.with_file.ensures.asks) e));
}

pub returns-in_err-loaded-clause-asks : goal.returns-in_err-loaded-clause-asks
returns-in_err-loaded-clause-asks g c = asked_further c.loop-name.invariant.asks
    (record { asks = c.with_file.ensures.asks; same_sys = refl; same_facts = refl })
