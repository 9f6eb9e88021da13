use Rattle.drv_forms.proofs.Shells.{stem_turn}
use Rattle.drv_forms.specs.Shell.{begins}
use Rattle.std.proofs.Common.{◌≡◌, ◌++◌, arith, drop, length, true}
use Rattle.std.proofs.lemmas.Grind.{common_steps}
use Rattle.drv_forms.proofs.shell.push_inside.Goals as goal

pub loop-left-preserved-then-begins_with : goal.loop-left-preserved-then-begins_with
loop-left-preserved-then-begins_with c =
    let is : begins c.args.stem.now c.loop-left.left.now ≡ true = grind (arith, common_steps) in
    let news : c.extend_from_slice.new.self.items ≡ c.loop-left.text.items ++ c.args.variable.now = grind (arith, common_steps) in
    let rests : c.split_at.result.1.now ≡ drop (length c.args.stem.now) c.loop-left.left.now = grind (arith, common_steps) in
    stem_turn c.loop-left.text.items c.extend_from_slice.new.self.items c.args.stem.now c.args.variable.now c.loop-left.left.now
    c.split_at.result.1.now _ is news rests c.loop-left.invariant
