use Rattle.drv_compile.proofs.Begun.{is_after, is_not_after}
use Rattle.drv_compile.proofs.written.are_numbers.Goals as goal
use Rattle.drv_words.specs.Bytes.{space}
use Rattle.drv_words.specs.Checksums.{checksum}
use Rattle.std.proofs.Common.{◌∙◌, ◌∷◌, ◌++◌, ap, nat_eq, sym}
use Rattle.std.specs.Cmp.Lexicographic.{pointwise}
use Rattle.std.specs.Fmt.{decimal}

-- the text begins with the size: its rest decides
pub returns-in-Some : goal.returns-in-Some
returns-in-Some c =
    c.is_sum.ensures ∙ ap (λ t. pointwise nat_eq t (space ∷ decimal (checksum c.args.bytes.now))) c.in-Some.ensures.cases.1
    ∙ sym (is_after c.args.text.now c.as_bytes.result.now (space ∷ decimal (checksum c.args.bytes.now)) c.in-Some.ensures.cases.0)
    ∙ ap (λ s. pointwise nat_eq c.args.text.now (s ++ space ∷ decimal (checksum c.args.bytes.now)))
    (c.as_bytes.ensures.value ∙ c.format.ensures.text)

pub returns-in-None : goal.returns-in-None
returns-in-None c =
    sym (is_not_after c.args.text.now c.as_bytes.result.now (space ∷ decimal (checksum c.args.bytes.now)) c.in-None.ensures.cases)
    ∙ ap (λ s. pointwise nat_eq c.args.text.now (s ++ space ∷ decimal (checksum c.args.bytes.now)))
    (c.as_bytes.ensures.value ∙ c.format.ensures.text)
