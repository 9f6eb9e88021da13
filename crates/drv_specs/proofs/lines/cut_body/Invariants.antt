use Rattle.drv_specs.proofs.lines.cut_body.Given as goal
use Rattle.drv_specs.specs.Directives.{body_lines, read_lines}
use Rattle.drv_specs.specs.Code.Slices.{bytes_from, lines_left, size_left, text_left}
use Rattle.drv_words.specs.Bytes.{newline}
use Rattle.std.proofs.Common.{◌≡◌, ◌≤◌, ◌+◌, ◌∷◌, ◌++◌, drop, flat_map, length, take, true}

-- the lines that were passed are first, and those that are left follow them
abbrev pub invariant-loop-line : goal.invariant-loop-line
invariant-loop-line l = record {
  body : take l.size (bytes_from (text_left l.lines)) ++ flat_map (λ line. newline ∷ line) (body_lines (lines_left l.left))
      ≡ flat_map (λ line. newline ∷ line) (body_lines (lines_left l.lines));
  rest : drop l.size (bytes_from (text_left l.lines)) ≡ bytes_from (text_left l.left);
  within : l.size + size_left l.left ≡ length (bytes_from (text_left l.lines));
  lines : read_lines true l.lines.number (lines_left l.lines) ≡ read_lines true l.left.number (lines_left l.left);
  room : l.left.number + size_left l.left ≤ l.lines.number + size_left l.lines;
}

-- each turn leaves fewer bytes, so the loop ends
abbrev pub decreases-loop-line : goal.decreases-loop-line
decreases-loop-line l = size_left l.left
