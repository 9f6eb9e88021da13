use Rattle.drv_machine.specs.declared.machine.naming.Drawing.TheVariants.{Anew, Once}
use Rattle.drv_machine.specs.declared.machine.naming.Drawing.{Drawing}
use Rattle.drv_machine.specs.declared.machine.naming.Drawn.{Drawn}
use Rattle.drv_search.specs.Search.{ends_with_slash}
use Rattle.drv_system.specs.Facts.{Facts, variable_of}
use Rattle.drv_system.specs.Known.{◌>>=◌, Is, Known, asked}
use Rattle.drv_words.specs.Bytes.{slash}
use Rattle.std.specs.Cmp.Lexicographic.{pointwise}
use Rattle.std.specs.Fmt.{decimal}
use Rattle.std.specs.Str.{byte}
use Rattle.std.specs.Prelude.{◌&&◌, ◌+◌, ◌-◌, ◌++◌, ◌/◌, ◌%◌, Bool, List, [], ◌∷◌, None, Option, Some, codes, if◌then◌else◌, nat_eq, nat_lt}
use Rattle.std.specs.Prelude.{suc, true, false, zero, ℕ}

-- The names of temporaries (GCC manual, "Environment Variables", TMPDIR; how a name goes on from there is this project's
-- profile).

-- the folder that they are in, with a slash at its end
abbrev pub folder : Option (List ℕ) → List ℕ
folder None = codes "/tmp/"
folder (Some []) = codes "/tmp/"
folder (Some (b ∷ path)) = if ends_with_slash (b ∷ path) then b ∷ path else (b ∷ path) ++ slash ∷ []

-- a digit of a number in base 16, in lower case
abbrev pub hex_digit : ℕ → ℕ
hex_digit digit = if nat_lt digit 10 then byte "0" + digit else byte "a" + (digit - 10)

-- the last digits of a number in base 16, so many
abbrev pub hex : ℕ → ℕ → List ℕ
hex zero number = []
hex (suc count) number = hex count (number / 16) ++ hex_digit (number % 16) ∷ []

-- the name that is drawn with this seed, number and suffix
abbrev pub temp_name : Facts → ℕ → ℕ → List ℕ → Known (List ℕ)
temp_name F seed number suffix =
    asked (variable_of F (codes "TMPDIR")) >>= λ path. Is (folder path ++ codes "cc" ++ hex 8 seed ++ codes "_" ++ decimal number ++ suffix)

-- two ways to draw a name are one: both once for each suffix, or both anew
abbrev pub is_same : Drawing → Drawing → Bool
is_same Once Once = true
is_same Anew Anew = true
is_same drawing other = false

-- a name was drawn so with this suffix
abbrev pub is_drawn : Drawing → List ℕ → Drawn → Bool
is_drawn drawing suffix name = is_same name.drawing drawing && pointwise nat_eq name.suffix suffix

-- the last of these names that was drawn so
abbrev pub last_drawn : Drawing → List ℕ → List Drawn → Option (List ℕ)
last_drawn drawing suffix [] = None
last_drawn drawing suffix (name ∷ later) = by (last_drawn drawing suffix later)
  where
    by : Option (List ℕ) → Option (List ℕ)
    by (Some path) = Some path
    by None = if is_drawn drawing suffix name then Some name.path else None
