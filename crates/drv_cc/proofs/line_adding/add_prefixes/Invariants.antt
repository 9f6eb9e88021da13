use Rattle.drv_args.specs.declared.option_table.Effect.TheVariants as effect
use Rattle.drv_cc.specs.LineItems.{item_of}
use Rattle.std.proofs.Common.{◌≡◌, ◌++◌, drop, map}
use Rattle.drv_cc.proofs.line_adding.add_prefixes.Given as goal

abbrev pub invariant-loop-folder : goal.invariant-loop-folder
invariant-loop-folder l = l.given ++ map (item_of effect.Prefix l.option) (drop l.folder-index l.folders) ≡ l.fn.given
    ++ map (item_of effect.Prefix l.option) l.folders
