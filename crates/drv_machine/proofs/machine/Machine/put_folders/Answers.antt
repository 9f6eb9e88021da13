use Rattle.drv_machine.proofs.Lists.{folders_known}
use Rattle.drv_machine.proofs.Steps.{gives_as, then_ok}
use Rattle.drv_machine.proofs.machine.Machine.put_folders.Goals as goal
use Rattle.drv_machine.specs.Atoms.{broken_word}
use Rattle.drv_machine.specs.Code.Running.{reached, run}
use Rattle.drv_machine.specs.Working.{known, needs, puts}
use Rattle.drv_search.specs.Search.{folder_options}
use Rattle.drv_system.proofs.AskedCalls.{extends_before}
use Rattle.std.proofs.Common.{ap, sym, ◌∙◌}
use Rattle.std.specs.List.{flat_map}

-- Names: `n`: how many items were reached. `F`: what is known of the outside. `e`: that `F` extends the facts of this call. `reached n s`:
-- the machine s where n items were reached. `puts`: puts these atoms.

-- the options for the folders are put, each with a break
pub returns-clause-does : goal.returns-clause-does
returns-clause-does g c n F e =
    let C = c.args.context.now in
    let s = (reached n c.args.self.now) in
    let options = c.in_ok-options.options in
    gives_as (reached n c.put_all_broken.new.self) c.put_all_broken.result _ _
    (ap (λ list. run F C s (puts (flat_map broken_word list))) c.as_slice.ensures
    ∙ sym (then_ok F C s (needs (known (folder_options F C.prefixes))) (λ list. puts (flat_map broken_word list)) options s
    (folders_known F C s options (c.in_ok-options.ensures.options F (extends_before c.put_all_broken.ensures.asks e)))))
    (c.put_all_broken.ensures.does n F e)
