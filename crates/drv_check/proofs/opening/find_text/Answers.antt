use Rattle.drv_check.proofs.FilesOpened.{found_is}
use Rattle.drv_check.proofs.opening.find_text.Goals as goal
use Rattle.drv_system.proofs.Asking.{asks_extends, asks_then, extends_then}
use Rattle.std.proofs.Common.{refl}

-- Names: `F`: what is known of the outside. `e`: that `F` extends the facts of this call. `asks_then`: one call that only asks after
-- another. `found_is`: an included file is opened by its path and its text, once both are known. `asks_extends`: a call that only asked
-- keeps every answer.

pub returns-in_err-text-clause-asks : goal.returns-in_err-text-clause-asks
returns-in_err-text-clause-asks g c = record {
  asks = asks_then c.find_file.ensures.asks c.read.ensures.asks;
  same_sys = refl;
  same_facts =
      refl;
}

pub returns-clause-asks : goal.returns-clause-asks
returns-clause-asks g c = record { asks = asks_then c.find_file.ensures.asks c.read.ensures.asks; same_sys = refl; same_facts = refl }

pub returns-clause-finds : goal.returns-clause-finds
returns-clause-finds g c F e =
    found_is F c.read.new.self c.args.search.now.prefixes.now c.args.inclusion.now c.in_ok-path.path c.read_answer-answer.result.now
    c.in_ok-text.text
    (c.in_ok-path.ensures.path F (extends_then (asks_extends c.read.ensures.asks) e)) e c.read_answer-answer.ensures c.in_ok-text.ensures
