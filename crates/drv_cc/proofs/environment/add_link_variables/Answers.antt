use Rattle.drv_cc.proofs.Joined.{three_added}
use Rattle.drv_cc.proofs.environment.add_link_variables.Goals as goal
use Rattle.drv_cc.specs.Front.{own_variable, path_before}
use Rattle.std.proofs.Common.{◌∙◌, ◌++◌, [], ap, codes}
use Rattle.std.proofs.lemmas.Result.{on_ok_weaker}

-- The three variables are those of the definition, in its order.
pub returns : goal.returns
returns c =
    on_ok_weaker c.add_own-3.result
    (λ third_is.
    three_added c.args.children.now c.add_own.new.children c.add_own-2.new.children c.add_own-3.new.children
    (own_variable c.args.told.now (codes "COLLECT_LTO_WRAPPER") [])
    (own_variable c.args.told.now (codes "COMPILER_PATH") (path_before c.args.items.now c.args.around.now.compiler_path))
    (own_variable c.args.told.now (codes "LIBRARY_PATH") (path_before c.args.items.now c.args.around.now.library_path))
    c.in_ok-add_own.ensures
    (c.in_ok-add_own-2.ensures
    ∙ ap (λ path. c.add_own.new.children ++ own_variable c.args.told.now (codes "COMPILER_PATH") path)
    (c.as_bytes.ensures ∙ c.in_ok-programs.ensures))
    (third_is ∙ ap (λ path. c.add_own-2.new.children ++ own_variable c.args.told.now (codes "LIBRARY_PATH") path)
    (c.as_bytes-2.ensures ∙ c.in_ok-libraries.ensures)))
    c.add_own-3.ensures
