use Rattle.drv_funcs.specs.Outcome.{Called}
use Rattle.std.proofs.Common.{List, Option, ℕ}

-- For `call`: the result of each function is the one in the table.

-- the result of a call that gives this word and leaves these outputs
abbrev pub giving : List (List ℕ) → Option (List ℕ) → Called
giving outputs word = record { given = word; outputs = outputs }
