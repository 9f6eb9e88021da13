use Rattle.drv_machine.proofs.NamedTexts.{none_named, some_named}
use Rattle.drv_machine.proofs.Onward.{leaf, same_step}
use Rattle.drv_machine.proofs.PlainTexts.{none_counted, text_counted, text_put}
use Rattle.drv_machine.proofs.named.open_named_text.Goals as goal
use Rattle.drv_machine.specs.Atoms.{named, tree_named}
use Rattle.drv_machine.specs.Code.Counting.{state}
use Rattle.drv_machine.specs.Code.Running.{run}
use Rattle.drv_machine.specs.Code.Walking.{levels_in}
use Rattle.drv_syntax.specs.Parsed.{tree_of}
use Rattle.std.proofs.Common.{Ok, ap, arith, length, refl}
use Rattle.std.specs.Prelude.{Some, option_map}

-- Names: `F`: what is known of the outside. `given`: what the walk gives in the end. `b`: the clause's condition `Following`. `state`: the
-- state of a machine and its count. `named`: a named text is run in one more open part. `tree_of`: the tree of a text. `tree_named`: the
-- tree of the text of a name, if the set has one.

-- the name has no text, and gives nothing
pub returns-in_default-clause-does : goal.returns-in_default-clause-does
returns-in_default-clause-does c F given b =
    leaf F c.args.context.now c.args.walk.now.text.now c.args.walk.now (state c.args.tally.now) given c.args.walk.now.at
    (λ levels star. named F c.args.context.now (tree_named F c.args.context.now c.args.name.now) levels) b (Ok tt) (state c.args.tally.now)
    (ap (λ found. run F c.args.context.now (state c.args.tally.now) (named F c.args.context.now (option_map tree_of found)
    (levels_in F c.args.context.now b.arounds))) (none_named _ c.text_named.result _ c.text_named.ensures c.in_default.is))

-- the text has no byte, and gives nothing
pub returns-then-is_empty-clause-does : goal.returns-then-is_empty-clause-does
returns-then-is_empty-clause-does c F given b =
    let size = ap (λ ts. length ts) c.tokens-tokens.ensures in
    text_put F c.args.context.now c.args.walk.now c.args.walk.now.at c.in-Some.text.now (state c.args.tally.now) given
    (same_step F c.args.context.now c.args.walk.now.text.now c.args.walk.now (state c.args.tally.now) given c.args.walk.now.at
    (λ levels star. named F c.args.context.now (tree_named F c.args.context.now c.args.name.now) levels) b
    (λ levels star. named F c.args.context.now (Some (tree_of c.in-Some.text.now)) levels) (state c.args.tally.now)
    (ap (λ found. run F c.args.context.now (state c.args.tally.now) (named F c.args.context.now (option_map tree_of found)
    (levels_in F c.args.context.now b.arounds))) (some_named _ c.text_named.result _ c.in-Some.text c.text_named.ensures c.in-Some.is)))
    (c.if-is_full.ensures.room refl) c.plain_bytes-bytes.result.now c.plain_bytes-bytes.ensures.bytes
    (omega (arith, c.if-bytes-tokens.false, size)) (omega (arith, c.requires.few, c.plain_bytes-bytes.ensures.within, c.left.ensures))
    (state c.args.tally.now) (none_counted (state c.args.tally.now) c.plain_bytes-bytes.result.now c.if-is_empty.ensures)

-- the text is plain bytes, and they are put
pub returns-clause-does : goal.returns-clause-does
returns-clause-does c F given b =
    let size = ap (λ ts. length ts) c.tokens-tokens.ensures in
    text_put F c.args.context.now c.args.walk.now c.args.walk.now.at c.in-Some.text.now (state c.args.tally.now) given
    (same_step F c.args.context.now c.args.walk.now.text.now c.args.walk.now (state c.args.tally.now) given c.args.walk.now.at
    (λ levels star. named F c.args.context.now (tree_named F c.args.context.now c.args.name.now) levels) b
    (λ levels star. named F c.args.context.now (Some (tree_of c.in-Some.text.now)) levels) (state c.args.tally.now)
    (ap (λ found. run F c.args.context.now (state c.args.tally.now) (named F c.args.context.now (option_map tree_of found)
    (levels_in F c.args.context.now b.arounds))) (some_named _ c.text_named.result _ c.in-Some.text c.text_named.ensures c.in-Some.is)))
    (c.if-is_full.ensures.room refl) c.plain_bytes-bytes.result.now c.plain_bytes-bytes.ensures.bytes
    (omega (arith, c.if-bytes-tokens.false, size)) (omega (arith, c.requires.few, c.plain_bytes-bytes.ensures.within, c.left.ensures))
    (state c.put_counted.new.self) (text_counted (state c.args.tally.now) (state c.put_counted.new.self) c.plain_bytes-bytes.result.now
    c.if-is_empty.ensures (ap state c.in_ok-put_counted.ensures))
