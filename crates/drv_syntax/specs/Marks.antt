use Rattle.drv_syntax.specs.Labels.{Label}
use Rattle.drv_syntax.specs.declared.labels.LabelMark.{LabelMark}
use Rattle.std.specs.Prelude.{◌-◌, ◌≤◌, List, [], ◌∷◌, drop, map, take, ℕ}

-- Labels whose words are in one list of bytes, where each is a stretch (this project's profile). For src/labels.rt, src/lent.rt, and trees
-- that are written in the code (Written).

-- the label of a mark: its word is a stretch of all words in one list of bytes
abbrev pub marked_label : List ℕ → LabelMark → Label
marked_label words m = record {
  word = take (m.end - m.start) (drop m.start words);
  starred = m.starred;
  negated = m.negated;
  asks =
      m.asks;
  holds_star = m.holds_star;
}

-- the labels of marks, whose words are in one list of bytes
abbrev pub marked_labels : List ℕ → List LabelMark → List Label
marked_labels words marks = map (λ m. marked_label words m) marks

-- each mark's word lies within so many bytes
abbrev pub Within : ℕ → List LabelMark → Type 0
Within n [] = Unit {0}
Within n (m ∷ marks) = ((m.start ≤ m.end) × (m.end ≤ n)) × Within n marks
