use Rattle.drv_words.proofs.Runs.{run_goes, word_goes}
use Rattle.drv_words.proofs.response.Splitter.take_run.Goals as goal

-- Names: `run_goes`: a run after which the word goes on. `word_goes`: a run that is a whole word, with the white space after it.

-- a run that is a whole word, with the white space after it
pub returns-in_ok-push-in-len1-up-clause-goes : goal.returns-in_ok-push-in-len1-up-clause-goes
returns-in_ok-push-in-len1-up-clause-goes c =
    word_goes c.args.self.now c.args.text.now c.split_at.result.0.now c.in_ok-from_bytes-in-len1-up.field-0 c.split_at.result.1.now
    c.push.new.self c.args.count c.is_space_byte.result c.is_none.result
    c.requires.outside c.requires.run c.requires.some c.split_at.ensures.front c.split_at.ensures.back c.in-len1-up.len_at_least
    c.is_space_byte.ensures c.if-is_space_byte.true c.is_none.ensures c.if-is_none.true c.in_ok-push-in-len1-up.ensures.ok
    c.in_ok-from_bytes-in-len1-up.ensures

-- no white space follows the run: the splitter goes on behind it
pub returns-in_ok-push_run-in_default-clause-goes : goal.returns-in_ok-push_run-in_default-clause-goes
returns-in_ok-push_run-in_default-clause-goes c =
    run_goes c.args.self.now c.push_run.new.self c.args.text.now c.split_at.result.0.now c.split_at.result.1.now c.args.count
    c.requires.outside c.requires.run c.requires.some c.split_at.ensures.front c.split_at.ensures.back c.in_ok-push_run-in_default.ensures
