use Rattle.drv_machine.proofs.FileParts.{file_reached, inside_reached}
use Rattle.drv_machine.proofs.Onward.{too_deep}
use Rattle.drv_machine.proofs.filing.open_filed.Goals as goal
use Rattle.drv_machine.specs.Atoms.{brace_step}
use Rattle.drv_machine.specs.Code.Running.{reached}
use Rattle.drv_machine.specs.Code.Walking.{Reaches}
use Rattle.drv_machine.specs.declared.walk.Walk.{Walk}
use Rattle.std.proofs.Common.{List, ap, refl, rules, subst, sym, ℕ}

-- Names: `n`: how many items were reached. `F`: what is known of the outside. `given`: what the walk gives in the end. `e`: that `F`
-- extends the facts of this call. `b`: the clause's condition `Following`. `reached n s`: the machine s where n items were reached.
-- `brace_step`: what braces mean. `file_reached`: braces that make a file are opened, or the beginning is refused.

-- the %@ makes no file: its braces are run as they are
pub returns-then-not-starts_file-clause-does : goal.returns-then-not-starts_file-clause-does
returns-then-not-starts_file-clause-does g c n F e brace given b =
    subst (λ (text : List ℕ). Reaches F c.args.context.now text c.open_part.new.walk c.args.end
    (λ levels star. brace_step F c.args.context.now brace levels star) (reached n c.args.machine.now) given c.open_part.result)
    (sym c.open_part.ensures.same_text) (inside_reached F c.args.context.now c.args.walk.now.text.now c.args.walk.now
    (reached n c.args.machine.now) c.args.end brace given b c.starts_file.result (c.starts_file.ensures F) c.if-not-starts_file.true
    c.open_part.result c.open_part.new.walk c.open_part.ensures.ok c.open_part.ensures.room c.open_part.ensures.err)

-- too many parts are open
pub returns-in_err-open_part-clause-does : goal.returns-in_err-open_part-clause-does
returns-in_err-open_part-clause-does g c n F e brace given b =
    let failed = too_deep F c.args.context.now c.args.walk.now.text.now c.args.walk.now (reached n c.args.machine.now) given c.args.end _ b
    refl c.in_err-open_part.field-0.0 c.in_err-open_part.ensures.err in
    let f = c.from_residual.ensures in
    search rules

-- the %@ makes a file, which begins
pub returns-clause-does : goal.returns-clause-does
returns-clause-does g c n F e brace given b =
    subst (λ (text : List ℕ). Reaches F c.args.context.now text c.open_part-2.new.walk c.args.end
    (λ levels star. brace_step F c.args.context.now brace levels star) (reached n c.begin_file.new.self) given c.begin_file.result)
    (sym c.open_part-2.ensures.same_text) (file_reached F c.args.context.now c.args.walk.now.text.now c.args.walk.now
    (reached n c.args.machine.now) c.args.end brace given b c.starts_file.result (c.starts_file.ensures F) c.if-not-starts_file.false
    c.in_ok-open_part.ensures.room c.begin_file.result (reached n c.begin_file.new.self) (c.begin_file.ensures.does n F e)
    c.open_part-2.new.walk (ap (λ (x : Walk). x.end) c.in_ok-open_part.ensures.ok) (ap (λ (x : Walk). x.star) c.in_ok-open_part.ensures.ok)
    (ap (λ (x : Walk). x.frames) c.in_ok-open_part.ensures.ok))
