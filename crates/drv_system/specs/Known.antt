use Rattle.std.specs.Prelude.{Option, None, Some}

-- The result of a definition over facts (this project's profile): a value, or a question that the facts don't answer.
pub data Known (Y : Type 0) : Type 0 where
  Unasked : Known Y
  Is : Y → Known Y

-- an answer of the facts, if they have it
abbrev pub asked : {X : Type 0} → Option X → Known X
asked None = Unasked
asked (Some answer) = Is answer

-- the next definition, if this value is known
abbrev pub ◌>>=◌ : {X Y : Type 0} → Known X → (X → Known Y) → Known Y
Unasked >>= next = Unasked
Is x >>= next = next x

infixl 30 ◌>>=◌
