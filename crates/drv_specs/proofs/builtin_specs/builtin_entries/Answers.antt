use Rattle.drv_specs.proofs.Tabled.{languages_given, memory_alone, named_given, pairs_given}
use Rattle.drv_specs.proofs.builtin_specs.builtin_entries.Goals as goal
use Rattle.drv_specs.specs.Builtin.{builtin_specs}
use Rattle.std.proofs.Common.{◌∙◌, sym}
use Rattle.std.specs.Prelude.{Ok}

-- no named text is refused
pub returns-in_err-put_rows : goal.returns-in_err-put_rows
returns-in_err-put_rows c =
    memory_alone _ _ _ (Ok builtin_specs) c.in_err-put_rows.field-0.0
    (named_given c.in_ok-entries.entries _ c.in_ok-entries.ensures c.named_rows.ensures)
    c.from_residual-in_err-put_rows.ensures.1 c.in_err-put_rows.ensures

-- no pair without a text is refused
pub returns-in_err-add_rows : goal.returns-in_err-add_rows
returns-in_err-add_rows c =
    memory_alone _ _ _ (Ok builtin_specs) c.in_err-add_rows.field-0.0
    (pairs_given c.put_rows.new.entries _ _ c.suffix_rows.ensures
    (named_given c.in_ok-entries.entries _ c.in_ok-entries.ensures c.named_rows.ensures)
    c.in_ok-put_rows.ensures)
    c.from_residual-in_err-add_rows.ensures.1 c.in_err-add_rows.ensures

-- no language is refused
pub returns-in_err-add_rows-2 : goal.returns-in_err-add_rows-2
returns-in_err-add_rows-2 c =
    memory_alone _ _ _ (Ok builtin_specs) c.in_err-add_rows-2.field-0.0
    (languages_given c.add_rows.new.entries _ _ c.language_rows.ensures
    (pairs_given c.put_rows.new.entries _ _ c.suffix_rows.ensures
    (named_given c.in_ok-entries.entries _ c.in_ok-entries.ensures c.named_rows.ensures)
    c.in_ok-put_rows.ensures)
    c.in_ok-add_rows.ensures)
    c.from_residual-in_err-add_rows-2.ensures.1 c.in_err-add_rows-2.ensures

-- all together are the built-in specs
pub returns : goal.returns
returns c =
    sym (languages_given c.add_rows.new.entries _ _ c.language_rows.ensures
    (pairs_given c.put_rows.new.entries _ _ c.suffix_rows.ensures
    (named_given c.in_ok-entries.entries _ c.in_ok-entries.ensures c.named_rows.ensures)
    c.in_ok-put_rows.ensures)
    c.in_ok-add_rows.ensures)
    ∙ c.in_ok-add_rows-2.ensures
