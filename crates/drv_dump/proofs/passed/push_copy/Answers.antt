use Rattle.drv_dump.proofs.Copies.{ok_same}
use Rattle.drv_dump.proofs.passed.push_copy.Goals as goal
use Rattle.drv_dump.specs.Dumps.{written_entry}
use Rattle.drv_dump.specs.Passed.{or_refusal, passed_of}
use Rattle.std.proofs.Common.{◌∙◌, ◌++◌, Ok, ap, codes, sym}

-- Names: `written_entry`: how texts are written. `ok_same`: two values that a call gives are one.

pub returns : goal.returns
returns c =
    let name = ap (λ l. codes "pass_" ++ l) (sym c.as_bytes.ensures) ∙ sym c.in_ok-name.ensures ∙ sym c.as_bytes-3.ensures in
    let body =
    ap (λ l. codes "%{-gdrv-none:}" ++ l) (ok_same c.in_ok-words.ensures ∙ sym c.as_bytes-2.ensures) ∙ sym c.in_ok-body.ensures
    ∙ sym c.as_bytes-4.ensures in
    ap Ok
    (ap (λ l. c.args.texts.now ++ l)
    (ap (λ l. written_entry l (codes "%{-gdrv-none:}" ++ or_refusal c.args.entry.now.name (passed_of c.args.entry.now.text))) name
    ∙ ap (written_entry c.as_bytes-3.result.now) body) ∙ sym c.in_ok-push_text.ensures)
