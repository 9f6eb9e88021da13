use Rattle.drv_system.proofs.AnswerMaps.{absent, place_answers, place_cleared, place_filled, place_known, place_made}
use Rattle.drv_system.proofs.Consulting.{consulted, consults_asks, not_consulted}
use Rattle.drv_system.proofs.facts.FactTable.read.Goals as goal

-- Names: `absent`: where the code finds no answer the map has none. `consults_asks`: a look-up that asks, or finds the answer, only asked.
-- `place_made`: after a pair was put the map has an answer to its key.

-- the place that was made is there to be filled
pub fill_place-requires : goal.fill_place-requires
fill_place-requires g c = place_made _ _ _ _ c.in_ok-make_place.ensures.ok

-- once the place is filled, the table knows the bytes
pub returns-in-Ok-clause-known : goal.returns-in-Ok-clause-known
returns-in-Ok-clause-known g c = place_known _ _ _ _
    (absent _ _ c.has.ensures c.if-has.false) c.in_ok-make_place.ensures.ok _ _ c.fill_place.ensures

-- the table lacked the bytes, asked once, and keeps the answer
pub returns-in-Ok-clause-consults : goal.returns-in-Ok-clause-consults
returns-in-Ok-clause-consults g c = rw (← c.self.view_is) (consulted _ _ _ _ _ _ _ (absent _ _ c.has.ensures c.if-has.false) _ _ _
    (place_answers _ _ _ _ (absent _ _ c.has.ensures c.if-has.false) c.in_ok-make_place.ensures.ok _ _ c.fill_place.ensures)
    c.in-Ok.ensures.event
    (let kept = place_filled c.self.inside.reads _ c.args.path.now _ (absent _ _ c.has.ensures c.if-has.false)
    c.in_ok-make_place.ensures.ok _ _ c.fill_place.ensures in cc))

-- so it asked at most what it lacked
pub returns-in-Ok-clause-asks : goal.returns-in-Ok-clause-asks
returns-in-Ok-clause-asks g c = consults_asks _ _ _ _ _ _ _ _ (λ answer new. new) (returns-in-Ok-clause-consults g c)

-- the system has no answer: the table stays as it was
pub returns-in-Err-clause-consults : goal.returns-in-Err-clause-consults
returns-in-Err-clause-consults g c = rw (← c.self.view_is)
    (not_consulted _ _ _ _ _ _ _ (absent _ _ c.has.ensures c.if-has.false) _ _ c.in-Err.ensures.memory
    (let left = place_cleared c.self.inside.reads _ c.args.path.now _ (absent _ _ c.has.ensures c.if-has.false)
    c.in_ok-make_place.ensures.ok _ c.clear_place.ensures in cc))

-- here too it asked at most what it lacked
pub returns-in-Err-clause-asks : goal.returns-in-Err-clause-asks
returns-in-Err-clause-asks g c = consults_asks _ _ _ _ _ _ _ _ (λ answer new. new) (returns-in-Err-clause-consults g c)
