use Rattle.drv_run.proofs.LineWords.{expansion_stops, front_stops, words_given}
use Rattle.drv_run.proofs.fronting.words_of.Goals as goal
use Rattle.drv_run.specs.Code.Fronting.{is_of_c99}

-- Names: `F`: what is known of the outside. `e`: that `F` extends the facts of this call. `is_of_c99`: whether a call is of c99.
-- `expansion_stops`: where a response file can't be expanded, there are no words. `front_stops`: where the front of c99 refuses, there are
-- none.

-- a response file can't be expanded: there are no words
pub returns-in_err-expanded-clause-gives : goal.returns-in_err-expanded-clause-gives
returns-in_err-expanded-clause-gives g c F e =
    expansion_stops F c.args.args c.cut_front-selected.result.1 c.in_err-expanded.field-0.0 c.from_residual.result
    c.cut_front-selected.ensures.following c.from_residual.ensures.1 (c.in_err-expanded.ensures.expands F e)

-- the front of c99 refuses: there are no words
pub returns-in_err-words-clause-gives : goal.returns-in_err-words-clause-gives
returns-in_err-words-clause-gives g c F e =
    front_stops F c.args.args c.cut_front-selected.result.1 c.in_ok-expanded.expanded
    (is_of_c99 c.cut_front-selected.result.0) c.in_err-words.field-0.0 c.from_residual-in_err-words.result
    c.cut_front-selected.ensures.following c.cut_front-selected.ensures.front c.from_residual-in_err-words.ensures.1
    (c.in_ok-expanded.ensures.expands F e) c.in_err-words.ensures

-- else the words are those of the front, or the expanded arguments
pub returns-clause-gives : goal.returns-clause-gives
returns-clause-gives g c F e =
    words_given F c.args.args c.cut_front-selected.result.1 c.in_ok-expanded.expanded c.in_ok-words.words
    (is_of_c99 c.cut_front-selected.result.0)
    c.cut_front-selected.ensures.following c.cut_front-selected.ensures.front (c.in_ok-expanded.ensures.expands F e) c.in_ok-words.ensures
