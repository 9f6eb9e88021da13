use Rattle.drv_specs.proofs.Bodies.{joined_lines}
use Rattle.drv_specs.proofs.Lining.{inside_next}
use Rattle.drv_specs.proofs.Sliced.{body_rest, body_size}
use Rattle.drv_specs.proofs.lines.cut_body.Goals as goal
use Rattle.drv_specs.specs.Directives.{body_lines, read_lines}
use Rattle.drv_specs.specs.Code.Slices.{bytes_from, lines_left, size_left, text_left}
use Rattle.drv_words.specs.Bytes.{newline}
use Rattle.std.proofs.Common.{◌≡◌, ◌+◌, ◌∷◌, ◌++◌, ◌∙◌, ap, arith, drop, flat_map, length, length-append, sym, take, true}
use Rattle.std.proofs.lemmas.List.{append-nil}

-- Names: `bytes_from`: what is left, with the newline before it. `text_left`: the text that is left, if a line is left. `lines_left`: the
-- lines that are left. `body_lines`: the lines of a body go up to an empty line.

-- one more full line belongs to the body
pub loop-line-preserved : goal.loop-line-preserved
loop-line-preserved c =
    let rest = c.loop-line.invariant.rest ∙ c.in-Some.ensures.bytes in
    let size : size_left c.loop-line.left ≡ length (newline ∷ c.in-Some.line.now) + size_left c.in-Some.following =
    ap length c.in-Some.ensures.bytes ∙ length-append (newline ∷ c.in-Some.line.now) (bytes_from (text_left c.in-Some.following)) in
    record {
      body = body_size (bytes_from (text_left c.args.lines))
          (bytes_from (text_left c.in-Some.following)) c.in-Some.line.now c.loop-line.size (lines_left c.in-Some.following)
          (lines_left c.args.lines) rest c.in-Some.ensures.full
          (ap (λ ls. take c.loop-line.size (bytes_from (text_left c.args.lines)) ++ flat_map (λ l. newline ∷ l) (body_lines ls))
          (sym c.in-Some.ensures.lines) ∙ c.loop-line.invariant.body);
      rest = body_rest (bytes_from (text_left c.args.lines))
          (bytes_from (text_left c.in-Some.following)) c.in-Some.line.now c.loop-line.size rest;
      within = omega (arith, size, c.loop-line.invariant.within);
      lines =
          c.loop-line.invariant.lines ∙ ap (read_lines true c.loop-line.left.number) c.in-Some.ensures.lines
          ∙ inside_next c.in-Some.line.now (lines_left c.in-Some.following) c.loop-line.left.number c.in-Some.ensures.full
          ∙ ap (λ n. read_lines true n (lines_left c.in-Some.following)) (sym c.in-Some.ensures.number);
      room = omega (arith, size, c.in-Some.ensures.number, c.loop-line.invariant.room);
    }

-- no full line is left, so the lines so far are the body
pub returns-clause-body : goal.returns-clause-body
returns-clause-body c =
    c.first_lines.ensures
    ∙ ap (drop 1) (sym (append-nil (take c.loop-line.size (bytes_from (text_left c.args.lines))))
    ∙ ap (λ ls. take c.loop-line.size (bytes_from (text_left c.args.lines)) ++ flat_map (λ l. newline ∷ l) ls)
    (sym c.in_default.ensures.none) ∙ c.loop-line.invariant.body)
    ∙ joined_lines (body_lines (lines_left c.args.lines))
