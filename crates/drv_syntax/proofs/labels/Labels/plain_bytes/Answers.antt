use Rattle.drv_syntax.proofs.MarkedWords.{lent_labels, lent_within}
use Rattle.drv_syntax.proofs.ByteRuns.{byte_in, byte_there, later_part, run_begun, run_done, run_step, some_bytes, start_in, stop_in}
use Rattle.drv_syntax.proofs.labels.Labels.plain_bytes.Goals as goal
use Rattle.drv_syntax.proofs.labels.Labels.plain_bytes.Goals.{else-loop-at-test, then-loop-at-test+else-is_byte_at}
use Rattle.drv_syntax.specs.PlainRuns.{IsByte}
use Rattle.std.proofs.Common.{◌<◌, arith, length, refl, subst, sym}

-- Names: `b`: a byte. `byte`: the clause's condition `IsByte`. `byte_in`: a plain byte is a part of the lists. `byte_there`: a part that is
-- a plain byte, whose word is kept at `stop`, is the byte there. `later_part`: where a part isn't in the slice that begins with a plain
-- byte, it is a later one. `run_begun`: before the first step nothing is in the slice.

-- no part is there, so no plain byte is
pub returns-then-place-last-clause-begins : goal.returns-then-place-last-clause-begins
returns-then-place-last-clause-begins c b below byte =
    let within = byte_in c.args.tokens.now c.as_slice-words.result.now c.as_slice-marks.result.now c.args.place b
    (subst (λ labels. IsByte c.args.tokens.now labels c.args.place b)
    (sym (lent_labels c.as_slice-words.ensures.value c.as_slice-marks.ensures.value c.self.view_is)) byte) in
    omega (arith, below, within.0, within.1, c.if-place-last.true, c.min.ensures, c.min-last.ensures)

-- before the first part the slice is empty
pub loop-at-init : goal.loop-at-init
loop-at-init c =
    record {
      later = omega arith;
      within = omega (arith, c.if-place-last.false);
      stop = refl;
      words = start_in c.args.tokens.now c.as_slice-words.result.now c.as_slice-marks.result.now c.args.place _
          (lent_within c.as_slice-words.ensures.value c.as_slice-marks.ensures.value c.self.invariant)
          (omega (arith, c.if-place-last.false, c.min.ensures, c.min-last.ensures));
      rest = λ n bytes. run_begun c.args.tokens.now c.as_slice-words.result.now c.as_slice-marks.result.now c.args.place _ n bytes;
    }

-- one plain byte more is in the slice
pub loop-at-preserved : goal.loop-at-preserved
loop-at-preserved c =
    let kind = c.if-is_byte_at.ensures.kind refl in
    let start = c.if-is_byte_at.ensures.start refl in
    let end = c.if-is_byte_at.ensures.end refl in
    let in_tokens : c.loop-at.at < length c.args.tokens.now =
    omega (arith, c.loop-at-test.true, c.min.ensures, c.min-last.ensures) in
    let in_marks : c.loop-at.at < length c.as_slice-marks.result.now =
    omega (arith, c.loop-at-test.true, c.min.ensures, c.min-last.ensures) in
    let inside = stop_in c.args.tokens.now c.as_slice-words.result.now c.as_slice-marks.result.now c.loop-at.at c.loop-at.stop _ end
    (lent_within c.as_slice-words.ensures.value c.as_slice-marks.ensures.value c.self.invariant) in_marks in
    record {
      later = omega (arith, c.loop-at.invariant.later);
      within = omega (arith, c.loop-at-test.true);
      stop = omega (arith, c.loop-at.invariant.stop);
      words = omega (arith, inside);
      rest = run_step c.args.tokens.now c.as_slice-words.result.now c.as_slice-marks.result.now c.loop-at.at c.args.place _ c.loop-at.stop
          (omega (arith, c.loop-at.invariant.stop, c.loop-at.invariant.later)) c.loop-at.invariant.rest
          (byte_there c.args.tokens.now c.as_slice-words.result.now c.as_slice-marks.result.now c.loop-at.at c.loop-at.stop _ _ in_tokens
          in_marks kind start end inside) inside;
    }

-- the parts that the loop passed are the bytes of the slice
pub returns-clause-bytes : goal.returns-clause-bytes
returns-clause-bytes c =
    rw (← lent_labels c.as_slice-words.ensures.value c.as_slice-marks.ensures.value c.self.view_is)
    (run_done c.args.tokens.now c.as_slice-words.result.now c.as_slice-marks.result.now c.loop-at.at c.args.place _ c.loop-at.stop
    c.loop-at.invariant.rest)

-- a plain byte that is first is in the slice
pub returns-clause-begins : goal.returns-clause-begins
returns-clause-begins c b below byte =
    some_bytes c.as_slice-words.result.now _ c.loop-at.stop (omega (arith, c.loop-at.invariant.stop, later)) c.loop-at.invariant.words
  where
    within : (c.args.place < length c.args.tokens.now) × (c.args.place < length c.as_slice-marks.result.now)
    within = byte_in c.args.tokens.now c.as_slice-words.result.now c.as_slice-marks.result.now c.args.place b
        (subst (λ labels. IsByte c.args.tokens.now labels c.args.place b)
        (sym (lent_labels c.as_slice-words.ensures.value c.as_slice-marks.ensures.value c.self.view_is)) byte)

    later : c.args.place < c.loop-at.at
    later = elim c.loop-at-test.branch [
      | then-loop-at-test+else-is_byte_at w ↦ later_part c.args.tokens.now c.as_slice-words.result.now c.as_slice-marks.result.now
          c.args.place c.loop-at.at _ c.loop-at.stop b _ _ c.loop-at.invariant.later c.loop-at.invariant.stop within.0 within.1 refl
          (lent_within c.as_slice-words.ensures.value c.as_slice-marks.ensures.value c.self.invariant) (w.if-is_byte_at.ensures.other refl)
          (subst (λ labels. IsByte c.args.tokens.now labels c.args.place b)
          (sym (lent_labels c.as_slice-words.ensures.value c.as_slice-marks.ensures.value c.self.view_is)) byte)
      | else-loop-at-test w ↦ omega (arith, w.loop-at-test.false, c.if-place-last.false)
    ]
