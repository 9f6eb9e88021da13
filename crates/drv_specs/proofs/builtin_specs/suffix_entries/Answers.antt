use Rattle.drv_specs.proofs.Tabled.{memory_alone, suffixes_given}
use Rattle.drv_specs.proofs.builtin_specs.suffix_entries.Goals as goal
use Rattle.drv_specs.specs.Builtin.{suffixes}
use Rattle.std.proofs.Common.{◌∙◌, sym}
use Rattle.std.specs.Prelude.{Ok}

-- no pair is refused
pub returns-in_err-add_rows : goal.returns-in_err-add_rows
returns-in_err-add_rows c =
    memory_alone _ _ _ (Ok suffixes) c.in_err-add_rows.field-0.0
    (suffixes_given c.in_ok-entries.entries _ c.in_ok-entries.ensures c.suffix_rows.ensures)
    c.from_residual-in_err-add_rows.ensures.1 c.in_err-add_rows.ensures

-- all together are `suffixes`
pub returns : goal.returns
returns c =
    sym (suffixes_given c.in_ok-entries.entries _ c.in_ok-entries.ensures c.suffix_rows.ensures) ∙ c.in_ok-add_rows.ensures
