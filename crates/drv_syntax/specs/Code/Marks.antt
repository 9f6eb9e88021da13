use Rattle.drv_syntax.specs.Labels.{Label, word_label}
use Rattle.drv_syntax.specs.declared.labels.LabelMark.{LabelMark}
use Rattle.drv_syntax.specs.declared.token.TestKind.TheVariants as asking
use Rattle.std.specs.Prelude.{◌+◌, List, [], ◌∷◌, false, ℕ}

-- The labels of bytes that name themselves, and their marks, for bytes from one place on. For the clauses of src/labels.rt.

-- the labels of plain bytes, each of which names itself
abbrev pub byte_labels : List ℕ → List Label
byte_labels [] = []
byte_labels (b ∷ run) = word_label (b ∷ []) ∷ byte_labels run

-- the marks of plain bytes, whose words are the bytes from this place on in the list of all words
abbrev pub byte_marks : ℕ → List ℕ → List LabelMark
byte_marks start [] = []
byte_marks start (b ∷ run) = record {
  start = start;
  end = start + 1;
  starred = false;
  negated = false;
  asks = asking.Switch;
  holds_star =
      false;
} ∷ byte_marks (start + 1) run
