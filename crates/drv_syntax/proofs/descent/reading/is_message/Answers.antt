use Rattle.drv_syntax.proofs.Messages.{message_by}
use Rattle.drv_syntax.proofs.Taken.{ok_same}
use Rattle.drv_syntax.proofs.descent.reading.is_message.Goals as goal
use Rattle.drv_syntax.specs.Code.Writing.{seen, spelled, words_seen}
use Rattle.std.proofs.Common.{◌∙◌, ap, drop, false, sym}

-- Names: `h`: the clause's equation. `tokens`, `labels`, `holds`: the fields of `Parts` (specs/Code/Writing). `rest`, `parts`: the fields
-- of `Reading` (specs/Code/Writing). `seen`: what a `Reader` of the code has read. `message_by`: the code's test finds a message
-- (`is_message`).

-- the text begins with % and its letter, and the run after them is all that follows
pub returns-in_default-first : goal.returns-in_default-first
returns-in_default-first c h =
    message_by c.args.text.now c.in-Some.percent c.in-Some-second.letter c.take.new.self
    (record { rest = c.take.new.self; parts = record { tokens = c.new-2.result; labels = c.new-3.result; holds = false } })
    (seen c.word_run.new.r) (spelled c.in-Ok-Some._word c.word_run.new.r.word.items) (sym c.first.ensures ∙ c.in-Some.is)
    c.if-percent-ne37.false (sym c.second.ensures ∙ c.in-Some-second.is) (sym c.directive_of.ensures ∙ c.in-WithSaying.is)
    (ap (λ r. r.bytes) c.take.ensures.left ∙ ap (λ r. drop 2 r.bytes) c.new.ensures) (ok_same c.in-Ok-Some.ensures
    ∙ ap (λ w. words_seen w c.word_run.new.r.word.items (seen c.word_run.new.r)) c.in-Ok-Some.field-0-is)
    (sym c.first-2.ensures ∙ c.in_default-first.is)
