use Rattle.drv_machine.proofs.Finished.{one_ended, one_joined}
use Rattle.drv_machine.proofs.machine.finishing.add_line.Goals as goal
use Rattle.drv_machine.specs.Code.Held.{made}
use Rattle.drv_words.specs.declared.plan.Command.{Command}
use Rattle.std.proofs.Common.{◌++◌, ◌∙◌, ap, sym}
use Rattle.std.specs.Global.{Vec}

-- Names: `F`: what is known of the outside. `e`: that `F` extends the facts of this call. `one_ended`: a command that no pipe follows, or
-- any without -pipe, ends its group. `one_joined`: a command that a pipe follows, with -pipe, joins the group that is begun. `made`: the
-- group of some commands.

-- a pipe joins the command to the next: its group goes on
pub returns-then-is_joined-clause-added : goal.returns-then-is_joined-clause-added
returns-then-is_joined-clause-added g c F e lines =
    one_joined F c.args.context.now c.args.grouping.now.ended c.args.grouping.now.begun.items c.push.new.self.items c.args.line
    c.in_ok-command_of.field-0
    lines (sym c.is_joined-is_joined.ensures ∙ c.if-is_joined.true)
    (c.in_ok-command_of.ensures.made F e) c.in_ok-push.ensures.items

-- the command ends its group
pub returns-clause-added : goal.returns-clause-added
returns-clause-added g c F e lines =
    one_ended F c.args.context.now c.args.grouping.now.ended c.push_group.new.groups c.args.grouping.now.begun.items c.push.new.self.items
    c.replace.new.dest.items c.args.line c.in_ok-command_of.field-0 lines (sym c.is_joined-is_joined.ensures ∙ c.if-is_joined.false)
    (c.in_ok-command_of.ensures.made F e) c.in_ok-push.ensures.items
    (c.in_ok-push_group.ensures ∙ ap (λ (begun : Vec Command). c.args.grouping.now.ended ++ made begun.items) c.replace.ensures.value)
    (ap (λ (begun : Vec Command). begun.items) c.replace.ensures.after ∙ c.new.ensures.items)
