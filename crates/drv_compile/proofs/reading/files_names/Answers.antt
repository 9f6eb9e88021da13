use Rattle.drv_compile.proofs.Names.{file_more}
use Rattle.drv_compile.proofs.reading.files_names.Goals as goal
use Rattle.drv_system.proofs.AskedCalls.{asked_further, extends_before}

-- The names of one file more were added (`file_more`).
pub loop-file-preserved : goal.loop-file-preserved
loop-file-preserved g c = record {
  asks = asked_further c.loop-file.invariant.asks c.add_file_names.ensures.asks;
  rest = λ F e.
      file_more F c.args.prefixes.now c.args.files.now c.loop-file.file-index c.file-item.result c.loop-file.named
      c.add_file_names.new.named
      c.loop-file-test.true c.file-item.is (c.in_ok-add_file_names.ensures.names F e)
      (c.loop-file.invariant.rest F (extends_before c.add_file_names.ensures.asks e));
}
