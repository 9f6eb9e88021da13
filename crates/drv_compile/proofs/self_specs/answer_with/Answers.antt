use Rattle.drv_compile.proofs.Given.{options_given}
use Rattle.drv_compile.proofs.self_specs.answer_with.Goals as goal
use Rattle.drv_system.proofs.AskedCalls.{extends_before}

-- Names: `F`: what is known of the outside. `e`: that `F` extends the facts of this call. `options_given`: `answer_with` takes the names in
-- the line's own spec files with those of the compiler's options. `extends_before`: what extends the facts after a call extends those
-- before it.

-- the answer is by the names of the compiler's options and of those that the spec files name
pub returns-clause-answer : goal.returns-clause-answer
returns-clause-answer g c F e =
    options_given F c.args.line.now c.args.first.now c.args.given.now _ _ c.names_or_known-names.result.now _ c.as_slice-2.result.now
    c.in_ok-options.options _ c.in_ok-named.named c.front_with.result c.as_bytes.ensures c.as_bytes-2.ensures c.as_slice-args.ensures
    (c.in_ok-options.ensures.names F (extends_before c.items_names.ensures.asks e)) c.as_slice.ensures
    (c.in_ok-named.ensures.names F e) c.names_or_known-names.ensures c.as_slice-2.ensures c.front_with.ensures
