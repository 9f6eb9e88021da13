use Rattle.drv_search.proofs.Options.{one_folder, two_folders}
use Rattle.drv_search.specs.Search.{Adds, options_for, without_slash}
use Rattle.drv_system.proofs.AskedCalls.{extends_before}
use Rattle.drv_search.proofs.folders.push_options.Goals as goal
use Rattle.std.proofs.Common.{◌∙◌, ◌∷◌, [], subst, sym}

-- the prefix does not end with a slash: the folder of the machine alone may give an option
pub returns-then-not-ends_with_slash-clause-options : goal.returns-then-not-ends_with_slash-clause-options
returns-then-not-ends_with_slash-clause-options g c F e =
    one_folder F c.args.prefix.now c.args.options.now c.push_option.new.options
    (sym c.ends_with_slash.ensures ∙ c.if-not-ends_with_slash.true)
    (subst (λ path. Adds (options_for F (without_slash path ∷ [])) c.args.options.now c.push_option.new.options)
    (c.as_bytes.ensures ∙ c.in_ok-machine.ensures) (c.in_ok-push_option.ensures.option F e))

-- the folder of the machine comes first, and then the prefix itself
pub returns-clause-options : goal.returns-clause-options
returns-clause-options g c F e =
    two_folders F c.args.prefix.now c.args.options.now c.push_option.new.options c.push_option-2.new.options c.push_option-2.result
    (sym c.ends_with_slash.ensures ∙ c.if-not-ends_with_slash.false)
    (subst (λ path. Adds (options_for F (without_slash path ∷ [])) c.args.options.now c.push_option.new.options)
    (c.as_bytes.ensures ∙ c.in_ok-machine.ensures)
    (c.in_ok-push_option.ensures.option F (extends_before c.push_option-2.ensures.asks e))) (c.push_option-2.ensures.option F e)
