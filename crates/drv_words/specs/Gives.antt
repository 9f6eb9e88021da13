use Rattle.std.specs.Prelude.{◌≡◌, ◌⊎◌, Err, Ok, Result}

-- How a call's result answers a definition (this project's profile). Its value or refusal is exactly the defined one, including what a
-- refusal carries. The call may run out of memory instead, which no definition mentions.
abbrev pub Gives : {X Y E : Type 0} → E → (X → Y) → Result X E → Result Y E → Type 0
Gives memory view (Ok x) defined = defined ≡ Ok (view x)
Gives memory view (Err e) defined = (e ≡ memory) ⊎ (defined ≡ Err e)
