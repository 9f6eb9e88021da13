use Rattle.std.proofs.Common.{◌≡◌, Ok, Result}

-- For the copies of texts (src/passed.rt): what is given where a call gives something.

-- two values that a call gives are one
pub ok_same : {X E : Type 0} {x y : X} → ◌≡◌ {A = Result X E} (Ok x) (Ok y) → x ≡ y
ok_same e = cc
