use Rattle.drv_core.specs.Code.Fleet.{Fleet}
use Rattle.drv_core.specs.Code.Machine.{Out, Turn}
use Rattle.drv_core.specs.Code.SourceView.{InRoom, turn_of}
use Rattle.drv_core.specs.Story.{Over}
use Rattle.drv_core.specs.declared.fleet.Allowed.{Allowed}
use Rattle.drv_core.specs.declared.fleet.Allowed.TheVariants.{All, NotWaiting}
use Rattle.drv_core.specs.declared.fleet.Fleet.{Fleet as CodeFleet}
use Rattle.drv_core.specs.declared.source.SourceState.{SourceState}
use Rattle.drv_words.specs.Places.{no_job}
use Rattle.drv_words.specs.declared.plan.Job.{Job}
use Rattle.std.specs.Prelude.{◌≡◌, Bool, List, None, Option, Some, false, get_or, slice_get, true, ℕ}
use Rattle.std.specs.Vec.{vec_capacity}

-- How the sources in the code are seen. Only private clauses cite it.

-- the turn of a source of the code, if there is one
abbrev pub turn_in : Job → Option SourceState → Turn
turn_in job None = Out Over
turn_in job (Some s) = turn_of job s

-- the code's sources, of these jobs
abbrev pub fleet_of : List Job → CodeFleet → Fleet
fleet_of jobs f = record {
  turns = λ k. turn_in (get_or jobs k no_job) (slice_get f.sources.items k);
  begun = f.begun.items;
  room = vec_capacity f.begun;
  next = f.next;
  unended = f.unended;
  current = f.current;
  window = f.window;
}

-- each source has room for its children
abbrev pub AllInRoom : List Job → List SourceState → Type 0
AllInRoom jobs sources = (k : ℕ) (s : SourceState) → slice_get sources k ≡ Some s → InRoom (get_or jobs k no_job) s

-- whether every source that is under way may go on, also with a wait
abbrev pub all_may : Allowed → Bool
all_may All = true
all_may NotWaiting = false
