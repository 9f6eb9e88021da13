use Rattle.drv_gcc.proofs.Joining.{joined}
use Rattle.drv_gcc.proofs.programs.push_all_plugins.Goals as goal
use Rattle.drv_gcc.specs.SpecFile.{entry, folder_of_plugins, or_nothing, plugin_texts}
use Rattle.std.proofs.Common.{◌++◌, codes}

-- `joined` adds the three parts of the text, from the last one to the first.
pub returns : goal.returns
unfolding plugin_texts
returns c =
    joined c.args.text.now c.push_one-2.new.text c.push_plugins.new.text
    (entry (codes "linker_plugin_file") (or_nothing c.args.plugin.now) ++ entry (codes "lto_wrapper") (or_nothing c.args.wrapper.now))
    (folder_of_plugins c.args.folder.now)
    (joined c.args.text.now c.push_one.new.text c.push_one-2.new.text (entry (codes "linker_plugin_file") (or_nothing c.args.plugin.now))
    (entry (codes "lto_wrapper") (or_nothing c.args.wrapper.now))
    c.in_ok-push_one.ensures c.in_ok-push_one-2.ensures) c.in_ok-push_plugins.ensures
