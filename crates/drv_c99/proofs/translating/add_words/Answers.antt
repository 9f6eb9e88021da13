use Rattle.drv_c99.proofs.Steps.{ends_next, flag_next, joined_gives, joined_next, memory_goes, operand_next, wants_gives, wants_next}
use Rattle.drv_c99.proofs.translating.add_words.Goals as goal
use Rattle.std.proofs.Common.{Ok, ap, sym}

-- Names: `memory_goes`: lack of memory may be given at any word. `ends_next`: after the end of the options the words after it give the
-- result of the whole. `flag_next`: that, for a flag. `joined_gives`: a refused option with its argument in the same word gives the
-- refusal.

pub loop-left-preserved-in_ok-add_flag-in-Flag : goal.loop-left-preserved-in_ok-add_flag-in-Flag
loop-left-preserved-in_ok-add_flag-in-Flag c =
    flag_next c.loop-left.left.now c.word-item.result c.as_bytes-bytes.result.now c.loop-left.side c.loop-left.front c.add_flag.new.self _
    c.in-len1-up.len_at_least c.word-item.is c.as_bytes-bytes.ensures c.in-Flag.ensures
    (ap Ok (sym c.in_ok-add_flag-in-Flag.ensures)) c.loop-left.invariant

pub loop-left-preserved-in_ok-add_operand-in-Operand : goal.loop-left-preserved-in_ok-add_operand-in-Operand
loop-left-preserved-in_ok-add_operand-in-Operand c =
    operand_next c.loop-left.left.now c.word-item.result c.as_bytes-bytes.result.now c.in-Operand.prefix.now c.loop-left.side
    c.loop-left.front c.add_operand.new.self _
    c.in-len1-up.len_at_least c.word-item.is c.as_bytes-bytes.ensures c.in-Operand.ensures
    (ap Ok (sym c.in_ok-add_operand-in-Operand.ensures)) c.loop-left.invariant

pub loop-left-preserved-in_ok-add_option-in-Joined : goal.loop-left-preserved-in_ok-add_option-in-Joined
loop-left-preserved-in_ok-add_option-in-Joined c =
    joined_next c.loop-left.left.now c.word-item.result c.as_bytes-bytes.result.now c.in-Joined.argument.now c.in-Joined.option
    c.loop-left.side c.loop-left.front c.add_option.new.self _
    c.in-len1-up.len_at_least c.word-item.is c.as_bytes-bytes.ensures c.in-Joined.ensures c.in_ok-add_option-in-Joined.ensures
    c.loop-left.invariant

pub loop-left-preserved-in-Wants : goal.loop-left-preserved-in-Wants
loop-left-preserved-in-Wants c =
    wants_next c.loop-left.left.now c.word-item.result c.as_bytes-bytes.result.now c.argument-item.result c.as_bytes.result.now
    c.in-Wants.option c.loop-left.side c.loop-left.front c.add_option-in-Wants.new.self _
    c.in-len1-up.len_at_least c.word-item.is c.as_bytes-bytes.ensures c.in-Wants.ensures c.in-len1-up-following.len_at_least
    c.argument-item.is c.as_bytes.ensures c.in_ok-add_option-in-Wants.ensures c.loop-left.invariant

pub loop-left-preserved : goal.loop-left-preserved
loop-left-preserved c =
    ends_next c.loop-left.left.now c.word-item.result c.as_bytes-bytes.result.now c.loop-left.side c.loop-left.front _
    c.in-len1-up.len_at_least c.word-item.is c.as_bytes-bytes.ensures c.in-Ends.ensures c.loop-left.invariant

pub returns-in_err-add_option-in-Joined : goal.returns-in_err-add_option-in-Joined
returns-in_err-add_option-in-Joined c =
    joined_gives c.loop-left.left.now c.word-item.result c.as_bytes-bytes.result.now c.in-Joined.argument.now c.in-Joined.option
    c.loop-left.side c.loop-left.front c.in_err-add_option-in-Joined.field-0.0 _ c.from_residual-in_err-add_option-in-Joined.result _
    c.in-len1-up.len_at_least c.word-item.is c.as_bytes-bytes.ensures c.in-Joined.ensures c.in_err-add_option-in-Joined.ensures
    c.from_residual-in_err-add_option-in-Joined.ensures.1 c.loop-left.invariant

-- an option whose next word is a bad argument is refused
pub returns-in_err-add_option-in-Wants : goal.returns-in_err-add_option-in-Wants
returns-in_err-add_option-in-Wants c =
    wants_gives c.loop-left.left.now c.word-item.result c.as_bytes-bytes.result.now c.argument-item.result c.as_bytes.result.now
    c.in-Wants.option c.loop-left.side c.loop-left.front c.in_err-add_option-in-Wants.field-0.0 _
    c.from_residual-in_err-add_option-in-Wants.result _
    c.in-len1-up.len_at_least c.word-item.is c.as_bytes-bytes.ensures c.in-Wants.ensures c.in-len1-up-following.len_at_least
    c.argument-item.is c.as_bytes.ensures c.in_err-add_option-in-Wants.ensures c.from_residual-in_err-add_option-in-Wants.ensures.1
    c.loop-left.invariant

pub returns-in_err-add_flag-in-Flag : goal.returns-in_err-add_flag-in-Flag
returns-in_err-add_flag-in-Flag c = memory_goes _ c.from_residual.result _ c.from_residual.ensures.1

pub returns-in_err-add_operand-in-Operand : goal.returns-in_err-add_operand-in-Operand
returns-in_err-add_operand-in-Operand c = memory_goes _ c.from_residual-in_err-add_operand-in-Operand.result _
    c.from_residual-in_err-add_operand-in-Operand.ensures.1
