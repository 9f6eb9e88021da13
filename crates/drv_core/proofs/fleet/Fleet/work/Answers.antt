use Rattle.drv_core.proofs.Fleets.{rooms_kept, worked_turns}
use Rattle.drv_core.proofs.fleet.Fleet.work.Goals as goal
use Rattle.drv_core.specs.Code.FleetView.{fleet_of}
use Rattle.drv_core.specs.Code.Machine.{took}
use Rattle.drv_core.specs.Code.SourceView.{InRoom, turn_of}
use Rattle.drv_words.specs.Places.{no_job}
use Rattle.drv_words.specs.declared.plan.Job.{Job}
use Rattle.std.proofs.Common.{◌≡◌, ◌∙◌, Some, ap, subst, sym}
use Rattle.std.proofs.lemmas.List.{get_or_read}
use Rattle.std.proofs.lemmas.Option.{slice_get-get_or}

-- it has room for its children
pub take-requires : goal.take-requires
take-requires c = record {
  room = subst (λ j. InRoom j c.index_mut.result.now)
      (sym (get_or_read c.args.jobs.now c.args.self.now.current c.index-jobs-self.result c.requires.jobs c.index-jobs-self.is no_job))
      (c.requires.children c.args.self.now.current c.index_mut.result.now
      (slice_get-get_or c.args.self.now.sources.items c.args.self.now.current c.index_mut.result.now c.requires.sources
      ∙ ap Some (sym c.index_mut.ensures.value)));
}

-- it alone takes the answer
pub returns-clause-fleet : goal.returns-clause-fleet
returns-clause-fleet c = ap (λ turns. record (fleet_of c.args.jobs.now c.args.self.now) { turns = turns })
    (worked_turns c.args.jobs.now c.args.self.now.sources.items c.args.self.now.current c.index_mut.result.now c.take.new.self c.args.answer
    c.requires.sources
    (slice_get-get_or c.args.self.now.sources.items c.args.self.now.current c.index_mut.result.now c.requires.sources
    ∙ ap Some (sym c.index_mut.ensures.value))
    (subst (λ (j : Job). turn_of j c.take.new.self ≡ took j (turn_of j c.index_mut.result.now) c.args.answer)
    (get_or_read c.args.jobs.now c.args.self.now.current c.index-jobs-self.result c.requires.jobs c.index-jobs-self.is no_job)
    c.take.ensures.turn))

-- each source still has room
pub returns-clause-children : goal.returns-clause-children
returns-clause-children c = rooms_kept c.args.jobs.now c.args.self.now.sources.items c.args.self.now.current c.take.new.self
    c.requires.sources c.requires.children
    (subst (λ j. InRoom j c.take.new.self)
    (get_or_read c.args.jobs.now c.args.self.now.current c.index-jobs-self.result c.requires.jobs c.index-jobs-self.is no_job)
    c.take.ensures.room)
