use Rattle.drv_machine.proofs.items.work_leaf.Goals as goal
use Rattle.drv_machine.proofs.Steps.{gives_as, then_ok}
use Rattle.drv_machine.proofs.WorkSteps.{by_leaf, leaf_unnamed}
use Rattle.drv_machine.specs.Atoms.{input_name}
use Rattle.drv_machine.specs.Code.Running.{reached, run}
use Rattle.drv_machine.specs.Working.{bytes}
use Rattle.drv_syntax.specs.declared.token.Leaf.TheVariants as leaves
use Rattle.drv_words.specs.FileNames.{base, stem}
use Rattle.std.proofs.Common.{ap, refl, rules, sym, ◌∙◌}

-- Names: `reached n m` is the machine m where n items were reached. `then_ok` says what follows an answer that is known, and `by_leaf`
-- that the definition does for this directive what its variant says.

-- %i of a link, which has no input
pub returns-in_err-input_name-in-InputName-clause-does : goal.returns-in_err-input_name-in-InputName-clause-does
returns-in_err-input_name-in-InputName-clause-does g c n F e =
    let failed = leaf_unnamed F c.args.context.now (reached n c.args.machine.now) c.args.leaf leaves.InputName c.in-InputName.is
    (λ name. bytes name) refl c.in_err-input_name-in-InputName.field-0.0
    (c.in_err-input_name-in-InputName.ensures F (reached n c.args.machine.now)) in
    let f = c.from_residual.ensures in
    search rules

-- %b of a link, which has no input
pub returns-in_err-input_name-in-BaseStem-clause-does : goal.returns-in_err-input_name-in-BaseStem-clause-does
returns-in_err-input_name-in-BaseStem-clause-does g c n F e =
    let failed = leaf_unnamed F c.args.context.now (reached n c.args.machine.now) c.args.leaf leaves.BaseStem c.in-BaseStem.is
    (λ name. bytes (stem name)) refl c.in_err-input_name-in-BaseStem.field-0.0
    (c.in_err-input_name-in-BaseStem.ensures F (reached n c.args.machine.now)) in
    let f = c.from_residual-in_err-input_name-in-BaseStem.ensures in
    search rules

-- %B of a link, which has no input
pub returns-in_err-input_name-in-BaseName-clause-does : goal.returns-in_err-input_name-in-BaseName-clause-does
returns-in_err-input_name-in-BaseName-clause-does g c n F e =
    let failed = leaf_unnamed F c.args.context.now (reached n c.args.machine.now) c.args.leaf leaves.BaseName c.in-BaseName.is
    (λ name. bytes (base name)) refl c.in_err-input_name-in-BaseName.field-0.0
    (c.in_err-input_name-in-BaseName.ensures F (reached n c.args.machine.now)) in
    let f = c.from_residual-in_err-input_name-in-BaseName.ensures in
    search rules

-- %%: a percent sign is put
pub returns-in-Percent-clause-does : goal.returns-in-Percent-clause-does
returns-in-Percent-clause-does g c n F e =
    gives_as (reached n c.put.new.self) c.put.result _ _
    (by_leaf F c.args.context.now (reached n c.args.machine.now) c.args.leaf leaves.Percent c.in-Percent.is)
    (c.put.ensures n F c.args.context.now)

-- %i: the input's name is put
pub returns-in_ok-input_name-in-InputName-clause-does : goal.returns-in_ok-input_name-in-InputName-clause-does
returns-in_ok-input_name-in-InputName-clause-does g c n F e =
    gives_as (reached n c.put-in-InputName.new.self) c.put-in-InputName.result _ _
    (sym (then_ok F c.args.context.now (reached n c.args.machine.now) (input_name F c.args.context.now)
    (λ name. bytes name) c.in_ok-input_name-in-InputName.field-0.now (reached n c.args.machine.now)
    (c.in_ok-input_name-in-InputName.ensures F (reached n c.args.machine.now)))
    ∙ by_leaf F c.args.context.now (reached n c.args.machine.now) c.args.leaf leaves.InputName c.in-InputName.is)
    (c.put-in-InputName.ensures n F c.args.context.now)

-- %b: the input's name is put without folders and suffix
pub returns-in_ok-input_name-in-BaseStem-clause-does : goal.returns-in_ok-input_name-in-BaseStem-clause-does
returns-in_ok-input_name-in-BaseStem-clause-does g c n F e =
    gives_as (reached n c.put-in-BaseStem.new.self) c.put-in-BaseStem.result _ _
    (ap (λ name. run F c.args.context.now (reached n c.args.machine.now) (bytes name)) c.stem.ensures
    ∙ sym (then_ok F c.args.context.now (reached n c.args.machine.now) (input_name F c.args.context.now)
    (λ name. bytes (stem name)) c.in_ok-input_name-in-BaseStem.field-0.now (reached n c.args.machine.now)
    (c.in_ok-input_name-in-BaseStem.ensures F (reached n c.args.machine.now)))
    ∙ by_leaf F c.args.context.now (reached n c.args.machine.now) c.args.leaf leaves.BaseStem c.in-BaseStem.is)
    (c.put-in-BaseStem.ensures n F c.args.context.now)

-- %B: the input's name is put without folders
pub returns-in_ok-input_name-in-BaseName-clause-does : goal.returns-in_ok-input_name-in-BaseName-clause-does
returns-in_ok-input_name-in-BaseName-clause-does g c n F e =
    gives_as (reached n c.put-in-BaseName.new.self) c.put-in-BaseName.result _ _
    (ap (λ name. run F c.args.context.now (reached n c.args.machine.now) (bytes name)) c.base.ensures
    ∙ sym (then_ok F c.args.context.now (reached n c.args.machine.now) (input_name F c.args.context.now)
    (λ name. bytes (base name)) c.in_ok-input_name-in-BaseName.field-0.now (reached n c.args.machine.now)
    (c.in_ok-input_name-in-BaseName.ensures F (reached n c.args.machine.now)))
    ∙ by_leaf F c.args.context.now (reached n c.args.machine.now) c.args.leaf leaves.BaseName c.in-BaseName.is)
    (c.put-in-BaseName.ensures n F c.args.context.now)

-- %O: .o is put
pub returns-in-ObjectSuffix-clause-does : goal.returns-in-ObjectSuffix-clause-does
returns-in-ObjectSuffix-clause-does g c n F e =
    gives_as (reached n c.put-in-ObjectSuffix.new.self) c.put-in-ObjectSuffix.result _ _
    (by_leaf F c.args.context.now (reached n c.args.machine.now) c.args.leaf leaves.ObjectSuffix c.in-ObjectSuffix.is)
    (c.put-in-ObjectSuffix.ensures n F c.args.context.now)

-- %d: the word is marked
pub returns-in-Removed-clause-does : goal.returns-in-Removed-clause-does
returns-in-Removed-clause-does g c n F e =
    sym (by_leaf F c.args.context.now (reached n c.args.machine.now) c.args.leaf leaves.Removed c.in-Removed.is)
    ∙ c.mark.ensures.does n F c.args.context.now

-- %w: the word is marked
pub returns-in-Output-clause-does : goal.returns-in-Output-clause-does
returns-in-Output-clause-does g c n F e =
    sym (by_leaf F c.args.context.now (reached n c.args.machine.now) c.args.leaf leaves.Output c.in-Output.is)
    ∙ c.mark-in-Output.ensures.does n F c.args.context.now

-- %V: outputs before are barred
pub returns-in-NoOutput-clause-does : goal.returns-in-NoOutput-clause-does
returns-in-NoOutput-clause-does g c n F e =
    sym (by_leaf F c.args.context.now (reached n c.args.machine.now) c.args.leaf leaves.NoOutput c.in-NoOutput.is)
    ∙ c.bar_output.ensures.does n F c.args.context.now

-- %s: the word is marked
pub returns-in-FoundFile-clause-does : goal.returns-in-FoundFile-clause-does
returns-in-FoundFile-clause-does g c n F e =
    sym (by_leaf F c.args.context.now (reached n c.args.machine.now) c.args.leaf leaves.FoundFile c.in-FoundFile.is)
    ∙ c.mark-in-FoundFile.ensures.does n F c.args.context.now

-- %T: the word is marked
pub returns-in-FoundScript-clause-does : goal.returns-in-FoundScript-clause-does
returns-in-FoundScript-clause-does g c n F e =
    sym (by_leaf F c.args.context.now (reached n c.args.machine.now) c.args.leaf leaves.FoundScript c.in-FoundScript.is)
    ∙ c.mark-in-FoundScript.ensures.does n F c.args.context.now
