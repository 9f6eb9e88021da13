use Rattle.drv_search.proofs.Options.{no_option, one_option}
use Rattle.drv_search.proofs.folders.push_option.Goals as goal
use Rattle.drv_search.specs.Search.{without_slash}
use Rattle.std.proofs.Common.{◌≡◌, ◌∙◌, sym}

-- the path is no folder: it gives no option
pub returns-then-not-is_dir-clause-option : goal.returns-then-not-is_dir-clause-option
returns-then-not-is_dir-clause-option g c F e =
    let same : c.in_ok-folder.folder ≡ without_slash c.args.path.now = c.in_ok-folder.ensures ∙ c.without_slash.ensures in
    rw (← same) (no_option F c.in_ok-folder.folder c.in_ok-kind.kind c.args.options.now
    (e.kinds c.in_ok-folder.folder c.in_ok-kind.kind c.in_ok-kind.ensures.known) (sym c.is_dir.ensures ∙ c.if-not-is_dir.true))

-- the path is a folder: its option comes last
pub returns-clause-option : goal.returns-clause-option
returns-clause-option g c F e =
    let same : c.in_ok-folder.folder ≡ without_slash c.args.path.now = c.in_ok-folder.ensures ∙ c.without_slash.ensures in
    rw (← same) (one_option F c.in_ok-folder.folder c.in_ok-folder_option.field-0 c.in_ok-kind.kind c.args.options.now c.push.new.self
    (e.kinds c.in_ok-folder.folder c.in_ok-kind.kind c.in_ok-kind.ensures.known) (sym c.is_dir.ensures ∙ c.if-not-is_dir.false)
    c.in_ok-folder_option.ensures c.in_ok-push.ensures.ok)
