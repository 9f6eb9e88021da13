use Rattle.drv_run.proofs.deciding.work_of.Goals as goal
use Rattle.drv_search.specs.Search.{prefixes_of}
use Rattle.drv_system.proofs.Asking.{asks_extends, extends_then}
use Rattle.std.proofs.Common.{◌∙◌, ap, sym}

-- Names: `F`: what is known of the outside. `e`: that `F` extends the facts of this call. `prefixes_of`: the prefixes of a line with these
-- -B. `asks_extends`: a call that only asked keeps every answer.

pub returns-clause-works : goal.returns-clause-works
returns-clause-works g c F e =
    c.work_along.ensures.works F e (ap (prefixes_of F) (sym c.as_slice.ensures)
    ∙ c.in_ok-prefixes.ensures.prefixes F (extends_then (asks_extends c.work_along.ensures.asks) e))
