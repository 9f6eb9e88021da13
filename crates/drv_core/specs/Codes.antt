use Rattle.drv_core.specs.Events.{answer_code}
use Rattle.drv_words.specs.declared.steps.RunEvent.{RunEvent}
use Rattle.std.specs.Prelude.{Bool, List, [], ◌∷◌, false, if◌then◌else◌, max, nat_eq, true, ℕ}

-- The status of a run (POSIX c99, "Exit Status"; GCC manual, "Overall Options", -pass-exit-codes).

-- the greatest of what `f` gives, or 0 of an empty list
abbrev pub greatest : {X : Type 0} → (X → ℕ) → List X → ℕ
greatest f [] = 0
greatest f (x ∷ xs) = max (f x) (greatest f xs)

-- the greatest code of the answers; 0 if none has another
abbrev pub greatest_code : List RunEvent → ℕ
greatest_code events = greatest (λ e. answer_code e.answer) events

-- the status for this greatest code: the code itself if codes are passed on, otherwise 1 unless it is 0
abbrev pub status_from : Bool → ℕ → ℕ
status_from true code = code
status_from false code = if nat_eq code 0 then 0 else 1

-- the status of a run with these events
abbrev pub status_of : Bool → List RunEvent → ℕ
status_of pass_codes events = status_from pass_codes (greatest_code events)
