use Rattle.drv_cc.proofs.MacroWords.{macro_put, no_macro_put}
use Rattle.drv_cc.proofs.macros.add_macro.Goals as goal

pub returns-in_ok-add_joined : goal.returns-in_ok-add_joined
returns-in_ok-add_joined c =
    macro_put c.args.item.now c.args.words.now c.add_joined.new.words c.as_bytes.result.now c.as_bytes-then-is.result.now c.is.result
    c.as_bytes.ensures c.as_bytes-then-is.ensures c.is.ensures c.if-is.true c.in_ok-add_joined.ensures

pub returns-else-is : goal.returns-else-is
returns-else-is c =
    no_macro_put c.args.item.now c.args.words.now c.as_bytes.result.now c.is.result c.as_bytes.ensures c.is.ensures c.if-is.false
