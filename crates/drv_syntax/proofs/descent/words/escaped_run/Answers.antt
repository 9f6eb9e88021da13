use Rattle.drv_syntax.proofs.WordRuns.{escape_kept, plain_kept}
use Rattle.drv_syntax.proofs.descent.words.escaped_run.Goals as goal
use Rattle.drv_syntax.specs.Code.Writing.{in_class, seen}
use Rattle.drv_syntax.specs.Rest.{first_of, second_of}
use Rattle.std.proofs.Common.{◌∙◌, ap, sym}

-- Names: `in_class`: the byte belongs to a class that `word_run` of words.rt reads. `seen`: what a `Reader` of the code has read.
-- `first_of`: the byte that comes next, if there is one.

-- after a backslash (92) and the byte that it makes plain, which is copied
pub loop-b-preserved-then-b-eq92 : goal.loop-b-preserved-then-b-eq92
loop-b-preserved-then-b-eq92 c =
    escape_kept (in_class c.args.class) c.loop-b.r.word.items c.push.new.self.items (seen c.loop-b.r) c.take.new.self c.in-Some.b
    c.in-Some-second.escaped
    _ (ap (λ bs. first_of bs) (sym c.bytes.ensures) ∙ sym c.in-Some.ensures) c.if-b-eq92.true
    (ap (λ bs. second_of bs) (sym c.bytes-then-b-eq92.ensures) ∙ sym c.in-Some-second.ensures) c.in_ok-push.ensures.items
    c.take.ensures.left
    c.loop-b.invariant

-- after a byte of the class, which is copied
pub loop-b-preserved : goal.loop-b-preserved
loop-b-preserved c =
    plain_kept (in_class c.args.class) c.loop-b.r.word.items c.push-then-belongs.new.self.items (seen c.loop-b.r)
    c.take-then-belongs.new.self
    c.in-Some.b
    _ (ap (λ bs. first_of bs) (sym c.bytes.ensures) ∙ sym c.in-Some.ensures) c.if-b-eq92.false (sym c.belongs.ensures ∙ c.if-belongs.true)
    c.in_ok-push-2.ensures.items c.take-then-belongs.ensures.left c.loop-b.invariant
