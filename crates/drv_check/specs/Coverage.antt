use Rattle.drv_match.specs.Matching.{hits}
use Rattle.drv_match.specs.Pattern.{Pattern}
use Rattle.drv_syntax.specs.Labels.{Label}
use Rattle.std.specs.Prelude.{Bool, List, if◌then◌else◌, length, nat_lt, not, ℕ}

-- What a test of a switch asks of a line (GCC manual, "Spec Files", %{S:X}): whether it hits one of its switches, some of which may be
-- hidden.
-- For clauses of src/token_warning.rt, and laws of src/laws.rt.

-- the pattern of switches that a test has
abbrev pub pattern_of : Label → Pattern
pattern_of label = record { name = label.word; star = label.starred }

-- whether a line has a switch of the pattern that isn't hidden
abbrev pub has_switch : List (List ℕ) → List Bool → Label → Bool
has_switch names hidden label = nat_lt 0 (length (hits names hidden (pattern_of label)))

-- whether a test of a switch is true on a line; a ! turns it
abbrev pub is_true : List (List ℕ) → List Bool → Label → Bool
is_true names hidden label = if label.negated then not (has_switch names hidden label) else has_switch names hidden label
