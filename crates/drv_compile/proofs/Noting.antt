use Rattle.drv_compile.proofs.Worded.{memory_stops, stop_stays}
use Rattle.drv_compile.specs.Inputs.{Noted}
use Rattle.drv_compile.specs.Tasks.{IfTold}
use Rattle.drv_compile.specs.declared.host.HostEvent.{HostEvent}
use Rattle.drv_compile.specs.declared.stop.Stop.TheVariants.{Memory}
use Rattle.drv_compile.specs.declared.stop.Stop.{Stop}
use Rattle.drv_system.specs.Facts.{Facts}
use Rattle.std.proofs.Common.{◌≡◌, ◌∙◌, ◌++◌, [], IsErrAnd, List, Result, ap, append_assoc, sym, ℕ}
use Rattle.std.proofs.lemmas.List.{append-nil}
use Rattle.std.specs.Prelude.{MatchResult, ⊤}

-- For the functions that ask the host (src/row_asking.rt, src/driving.rt, src/preparing.rt): what was noted, from step to step.
-- Names: `before`, `mid` and `after` are the host's events before a step, after it, and after the next. `events` is what was added. `what`,
-- `one` and `two` are claims on events. `done` is a claim on the value of a step, and `told` one on its text. `knows` says which facts the
-- call has. `Noted before after P`: events were added, of which P holds.

-- nothing was noted
pub none_noted : (notes : List HostEvent) (what : List HostEvent → Type 0) → what [] → Noted notes notes what
none_noted notes what is = ([], sym (append-nil notes), is)

-- what was noted, said in other words
pub noted_as : (before after : List HostEvent) (what what' : List HostEvent → Type 0)
    → ((events : List HostEvent) → what events → what' events) → Noted before after what → Noted before after what'
noted_as before after what what' turns (events, grown, is) = (events, grown, turns events is)

-- what two steps noted, one after the other
pub noted_then : (before mid after : List HostEvent) (one two what : List HostEvent → Type 0)
    → ((events more : List HostEvent) → one events → two more → what (events ++ more))
    → Noted before mid one → Noted mid after two → Noted before after what
noted_then before mid after one two what turns (events, grown, is) (more, grown', is') =
    (events ++ more, grown' ∙ ap (λ n. n ++ more) grown ∙ append_assoc before events more, turns events more is is')

-- If a step noted what it asked, and memory lacked, then any claim on its work or its text holds: it has neither.
pub memory_noted : {X : Type 0} (before after : List HostEvent) (what : List HostEvent → Type 0) (result : Result X Stop)
    (done : List HostEvent → X → Type 0)
    (told : List HostEvent → List ℕ → Type 0) → Noted before after what → IsErrAnd result (λ s. s ≡ Memory)
    → Noted before after (λ events. MatchResult result (done events) (λ s. IfTold s (told events)))
memory_noted before after what result done told (events, grown, is) memory =
    (events, grown, memory_stops result (done events) (told events) memory)

-- the same, over facts
pub memory_noted_over : {X : Type 0} (before after : List HostEvent) (what : List HostEvent → Type 0) (result : Result X Stop)
    (knows : Facts → Type 0) (done : Facts → List HostEvent → X → Type 0)
    (told : Facts → List HostEvent → List ℕ → Type 0) → Noted before after what → IsErrAnd result (λ s. s ≡ Memory)
    → Noted before after (λ events. (F : Facts) → knows F → MatchResult result (done F events) (λ s. IfTold s (told F events)))
memory_noted_over before after what result knows done told (events, grown, is) memory =
    (events, grown, λ F k. memory_stops result (done F events) (told F events) memory)

-- If a step stopped, and its stop is handed on, then what it noted and told stays.
pub stop_noted : {X : Type 0} (before after : List HostEvent) (stop : Stop) (result : Result X Stop)
    (knows : Facts → Type 0) (done : Facts → List HostEvent → X → Type 0)
    (told : Facts → List HostEvent → List ℕ → Type 0) → IsErrAnd result (λ s. s ≡ stop)
    → Noted before after (λ events. (F : Facts) → knows F → IfTold stop (told F events))
    → Noted before after (λ events. (F : Facts) → knows F → MatchResult result (done F events) (λ s. IfTold s (told F events)))
stop_noted before after stop result knows done told is (events, grown, tells) =
    (events, grown, λ F k. stop_stays result stop (done F events) (told F events) is (tells F k))

-- two steps noted something
pub both_noted : (before mid after : List HostEvent) (one two : List HostEvent → Type 0) → Noted before mid one → Noted mid after two
    → Noted before after (λ events. ⊤)
both_noted before mid after one two = noted_then before mid after one two (λ events. ⊤) (λ events more is is'. tt)
