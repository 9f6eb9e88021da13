use Rattle.drv_args.specs.declared.option_table.Effect.TheVariants as effect
use Rattle.drv_cc.specs.LineItems.{alone}
use Rattle.std.proofs.Common.{◌≡◌, ◌++◌, drop, map}
use Rattle.drv_cc.proofs.line_adding.add_switches.Given as goal

abbrev pub invariant-loop-word : goal.invariant-loop-word
invariant-loop-word l = l.given ++ map (alone effect.Switch) (drop l.word-index l.words) ≡ l.fn.given
    ++ map (alone effect.Switch) l.words
