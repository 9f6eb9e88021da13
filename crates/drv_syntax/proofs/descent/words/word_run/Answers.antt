use Rattle.drv_syntax.proofs.Taken.{gives_same}
use Rattle.drv_syntax.proofs.WordRuns.{run_found, run_goes}
use Rattle.drv_syntax.proofs.descent.words.word_run.Goals as goal
use Rattle.drv_syntax.specs.Code.Writing.{runs_in, seen}
use Rattle.drv_syntax.specs.Rest.{begins_with}
use Rattle.drv_words.specs.Bytes as ascii
use Rattle.std.proofs.Common.{ap, sym, ◌∙◌}
use Rattle.std.specs.List.{prefix_len}
use Rattle.std.specs.Prelude.{Ok}

-- Names: `runs_in`: the bytes of a class that are no backslash. `seen`: what a `Reader` of the code has read.

-- no backslash follows the run: its bytes are those of the text
pub returns-then-not-begins : goal.returns-then-not-begins
returns-then-not-begins c =
    ap (λ x. Ok x) (run_found c.args.class (seen c.args.r.now) c.run_length-size.result c.take-run.result.now c.take-run.new.self
    (c.run_length-size.ensures.run ∙ ap (λ bs. prefix_len (runs_in c.args.class) bs) c.bytes.ensures) c.take-run.ensures.left
    c.take-run.ensures.taken (ap (λ bs. begins_with ascii.backslash bs) (sym c.bytes-2.ensures) ∙ sym c.begins.ensures
    ∙ c.if-not-begins.true))

-- after a backslash the run is copied
pub returns : goal.returns
returns c =
    gives_same _ _ (ap (λ x. Ok x) (run_goes c.args.class (seen c.args.r.now) c.run_length-size.result
    c.take-run.result.now c.take-run.new.self
    (c.run_length-size.ensures.run ∙ ap (λ bs. prefix_len (runs_in c.args.class) bs) c.bytes.ensures) c.take-run.ensures.left
    c.take-run.ensures.taken)) c.escaped_run.ensures
