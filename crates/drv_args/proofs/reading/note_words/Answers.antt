use Rattle.drv_args.proofs.LineSteps.{alone_next, last_line, wants_next}
use Rattle.drv_args.proofs.reading.note_words.Goals as goal
use Rattle.drv_args.specs.declared.option_table.Effect.TheVariants as given
use Rattle.std.proofs.Common.{[]}

-- Names: `alone_next`: the next word is a front. `last_line`: once no word is left, the line is what was built. `wants_next`: the next word
-- needs the word after it.

pub loop-left-preserved-in-Alone : goal.loop-left-preserved-in-Alone
loop-left-preserved-in-Alone c =
    alone_next c.loop-left.left.now c.word-item.result c.as_bytes-bytes.result.now c.loop-left.builder c.note_whole.new.self
    c.in-Alone.effect c.in-Alone.option.now c.in-Alone.argument.now _
    c.in-len1-up.len_at_least c.word-item.is c.as_bytes-bytes.ensures c.in-Alone.ensures.start c.in_ok-note_whole-in-Alone.ensures
    c.loop-left.invariant

pub loop-left-preserved-in-Switch : goal.loop-left-preserved-in-Switch
loop-left-preserved-in-Switch c =
    alone_next c.loop-left.left.now c.word-item.result c.as_bytes-bytes.result.now c.loop-left.builder c.note_switch.new.self
    given.Switch c.in-Switch.option.now [] _
    c.in-len1-up.len_at_least c.word-item.is c.as_bytes-bytes.ensures c.in-Switch.ensures.start c.in_ok-note_switch-in-Switch.ensures
    c.loop-left.invariant

pub loop-left-preserved : goal.loop-left-preserved
loop-left-preserved c =
    wants_next c.loop-left.left.now c.word-item.result c.as_bytes-bytes.result.now c.argument-item.result c.as_bytes.result.now
    c.loop-left.builder c.note.new.self c.in-Wants.effect c.in-Wants.option.now _
    c.in-len1-up.len_at_least c.word-item.is c.as_bytes-bytes.ensures c.in-Wants.ensures.start c.in-len1-up-following.len_at_least
    c.argument-item.is c.as_bytes.ensures c.in_ok-note-in-Wants.ensures c.loop-left.invariant

pub returns : goal.returns
returns c = last_line c.loop-left.left.now c.loop-left.builder _ c.in_default.len_below c.loop-left.invariant
