use Rattle.drv_specs.proofs.Carrying.{text_given}
use Rattle.drv_specs.proofs.loading.file_text.Goals as goal
use Rattle.drv_search.specs.Search.{file_found}
use Rattle.drv_system.proofs.Asking.{asks_extends, asks_then, extends_then}
use Rattle.std.proofs.Common.{◌∙◌, ap, refl, sym}

-- Names: `F`: what is known of the outside. `e`: that `F` extends the facts of this call. `asks_then`: one call that only asks after
-- another. `text_given`: the text of a file that was found and asked for, settled, or the refusal to read it. `file_found`: a file is
-- searched for under those of libraries.

-- the file is searched for, and that asks alone
pub returns-in_err-path-clause-asks : goal.returns-in_err-path-clause-asks
returns-in_err-path-clause-asks g c = record { asks = c.find_file.ensures.asks; same_sys = refl; same_facts = refl }

-- the search and the read ask alone
pub returns-in_err-read-clause-asks : goal.returns-in_err-read-clause-asks
returns-in_err-read-clause-asks g c = record {
  asks = asks_then c.find_file.ensures.asks c.read.ensures.asks;
  same_sys = refl;
  same_facts = refl;
}

-- and so does the whole call
pub returns-clause-asks : goal.returns-clause-asks
returns-clause-asks g c = record { asks = asks_then c.find_file.ensures.asks c.read.ensures.asks; same_sys = refl; same_facts = refl }

-- the file was found and read, so its text is the settled one
pub returns-clause-text : goal.returns-clause-text
returns-clause-text g c F e =
    text_given _ (λ left. left.items) F c.read.new.self c.args.prefixes.now c.args.if_missing c.args.name.now c.in_ok-path.path
    c.read_answer-answer.result.now c.text_read.result
    (ap (λ n. file_found F c.args.prefixes.now n) (sym c.in_ok-name.ensures)
    ∙ c.in_ok-path.ensures.path F (extends_then (asks_extends c.read.ensures.asks) e)) e c.read_answer-answer.ensures
    c.text_read.ensures
