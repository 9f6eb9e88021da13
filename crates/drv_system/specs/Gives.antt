use Rattle.drv_system.specs.Known.{Is, Known}
use Rattle.std.specs.Prelude.{◌≡◌, ◌⊎◌, Err, Ok, Result}

-- How a call's result answers a definition over facts (this project's profile). Its value or refusal is exactly the defined one, including
-- what a refusal carries. The call may run out of memory instead, which no definition mentions.
abbrev pub GivesKnown : {X Y E : Type 0} → E → (X → Y) → Result X E → Known (Result Y E) → Type 0
GivesKnown memory view (Ok x) defined = defined ≡ Is (Ok (view x))
GivesKnown memory view (Err e) defined = (e ≡ memory) ⊎ (defined ≡ Is (Err e))
