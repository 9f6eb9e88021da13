use Rattle.drv_specs.proofs.Carrying.{changed_more, changed_refused, deep_refused, many_refused, reads_no_file, refusal_given, taken}
use Rattle.drv_specs.proofs.Carrying.{unread_refused, worked_more, worked_refused}
use Rattle.drv_specs.proofs.loading.+carry_out.Goals as goal
use Rattle.drv_specs.specs.Directives.{Include, read_settled, shown}
use Rattle.drv_specs.specs.Loading.{all_carried, including}
use Rattle.drv_system.proofs.AskedCalls.{asked_further, extends_before}
use Rattle.std.proofs.Common.{◌-◌, ap, arith, inr, refl}

-- Names: `set`, `files`: the fields of `Carried` (specs/Loading). `read_settled`: the directives of a settled text, and of any.
-- `all_carried`: directives in order, up to the first refusal. `including`: a file that is included where so many more may be within one
-- another. `shown`: a directive of the code as one of the definitions. `taken`: the next directive was taken.

pub returns-then-levels-eq0-clause-asks : goal.returns-then-levels-eq0-clause-asks
returns-then-levels-eq0-clause-asks g n c = c.loop-directive.invariant.asks

pub returns-then-loading-eq0-clause-asks : goal.returns-then-loading-eq0-clause-asks
returns-then-loading-eq0-clause-asks g n c = c.loop-directive.invariant.asks

pub returns-in_err-text-in-Include-clause-asks : goal.returns-in_err-text-in-Include-clause-asks
returns-in_err-text-in-Include-clause-asks g n c = asked_further c.loop-directive.invariant.asks c.file_text.ensures.asks

pub returns-in_err-carry_out-in-Include-clause-asks : goal.returns-in_err-carry_out-in-Include-clause-asks
returns-in_err-carry_out-in-Include-clause-asks g n c =
    asked_further c.loop-directive.invariant.asks (asked_further c.file_text.ensures.asks c.carry_out.ensures.asks)

-- an included file that is too deep is refused
pub returns-then-levels-eq0-clause-carried : goal.returns-then-levels-eq0-clause-carried
returns-then-levels-eq0-clause-carried g n c F e =
    inr (deep_refused F c.args.prefixes.now c.loop-directive.loading.set c.loop-directive.loading.files c.args.levels
    c.loop-directive.reader
    c.next.new.self c.in-Include.if_missing c.in-Include.file.now
    (all_carried (including F c.args.prefixes.now c.args.levels) (record { set = c.args.loading.now.set; files = c.args.loading.now.files })
    (read_settled c.args.text.now))
    (taken c.loop-directive.reader c.next.new.self c.next.result c.in-Some.directive
    (Include c.in-Include.if_missing c.in-Include.file.now) c.next.ensures.directives c.in-Some.is (ap shown c.in-Include.is))
    (c.loop-directive.invariant.rest F e) c.if-levels-eq0.true)

-- one file too many is refused
pub returns-then-loading-eq0-clause-carried : goal.returns-then-loading-eq0-clause-carried
returns-then-loading-eq0-clause-carried g n c F e =
    inr (many_refused F c.args.prefixes.now c.loop-directive.loading.set c.loop-directive.loading.files c.args.levels
    c.loop-directive.reader
    c.next.new.self c.in-Include.if_missing c.in-Include.file.now
    (all_carried (including F c.args.prefixes.now c.args.levels) (record { set = c.args.loading.now.set; files = c.args.loading.now.files })
    (read_settled c.args.text.now))
    (taken c.loop-directive.reader c.next.new.self c.next.result c.in-Some.directive
    (Include c.in-Include.if_missing c.in-Include.file.now) c.next.ensures.directives c.in-Some.is (ap shown c.in-Include.is))
    (c.loop-directive.invariant.rest F e) (c.args.levels - 1) (omega arith) c.if-loading-eq0.true)

-- an included file that can't be read is refused
pub returns-in_err-text-in-Include-clause-carried : goal.returns-in_err-text-in-Include-clause-carried
returns-in_err-text-in-Include-clause-carried g n c F e =
    refusal_given c.in_err-text-in-Include.field-0.0 c.from_residual.result _
    (all_carried (including F c.args.prefixes.now c.args.levels) (record { set = c.args.loading.now.set; files = c.args.loading.now.files })
    (read_settled c.args.text.now))
    c.from_residual.ensures.1
    (unread_refused F c.args.prefixes.now c.loop-directive.loading.set c.loop-directive.loading.files c.args.levels c.loop-directive.reader
    c.next.new.self c.in-Include.if_missing c.in-Include.file.now
    (all_carried (including F c.args.prefixes.now c.args.levels) (record { set = c.args.loading.now.set; files = c.args.loading.now.files })
    (read_settled c.args.text.now))
    (taken c.loop-directive.reader c.next.new.self c.next.result c.in-Some.directive
    (Include c.in-Include.if_missing c.in-Include.file.now) c.next.ensures.directives c.in-Some.is (ap shown c.in-Include.is))
    (c.loop-directive.invariant.rest F (extends_before c.file_text.ensures.asks e))
    (c.args.levels - 1) (c.loop-directive.loading.files - 1) (omega arith) (omega arith) c.in_err-text-in-Include.field-0.0
    (c.in_err-text-in-Include.ensures.text F e))

-- an included file one of whose directives is refused
pub returns-in_err-carry_out-in-Include-clause-carried : goal.returns-in_err-carry_out-in-Include-clause-carried
returns-in_err-carry_out-in-Include-clause-carried g n c F e =
    refusal_given c.in_err-carry_out-in-Include.field-0.0 c.from_residual-in_err-carry_out-in-Include.result _
    (all_carried (including F c.args.prefixes.now c.args.levels) (record { set = c.args.loading.now.set; files = c.args.loading.now.files })
    (read_settled c.args.text.now))
    c.from_residual-in_err-carry_out-in-Include.ensures.1
    (worked_refused F c.args.prefixes.now c.loop-directive.loading.set c.loop-directive.loading.files c.args.levels c.loop-directive.reader
    c.next.new.self c.in-Include.if_missing c.in-Include.file.now
    (all_carried (including F c.args.prefixes.now c.args.levels) (record { set = c.args.loading.now.set; files = c.args.loading.now.files })
    (read_settled c.args.text.now))
    (taken c.loop-directive.reader c.next.new.self c.next.result c.in-Some.directive
    (Include c.in-Include.if_missing c.in-Include.file.now) c.next.ensures.directives c.in-Some.is (ap shown c.in-Include.is))
    (c.loop-directive.invariant.rest F (extends_before (asked_further c.file_text.ensures.asks c.carry_out.ensures.asks) e))
    (c.args.levels - 1) (c.loop-directive.loading.files - 1) (omega arith)
    (omega arith) c.in_ok-text-in-Include.text.items c.as_slice.result.now c.in_err-carry_out-in-Include.field-0.0
    (c.in_ok-text-in-Include.ensures.text F (extends_before c.carry_out.ensures.asks e)) c.as_slice.ensures.value
    (c.in_err-carry_out-in-Include.ensures.carried F e))

-- the directives of an included file were carried out in its place
pub loop-directive-preserved-in-Include : goal.loop-directive-preserved-in-Include
loop-directive-preserved-in-Include g n c = record {
  asks = asked_further c.loop-directive.invariant.asks (asked_further c.file_text.ensures.asks c.carry_out.ensures.asks);
  rest = λ F e.
      worked_more F c.args.prefixes.now c.loop-directive.loading.set c.loop-directive.loading.files c.args.levels c.loop-directive.reader
      c.next.new.self c.in-Include.if_missing c.in-Include.file.now
      (all_carried (including F c.args.prefixes.now c.args.levels) (record {
        set = c.args.loading.now.set;
        files =
            c.args.loading.now.files;
      })
      (read_settled c.args.text.now))
      (taken c.loop-directive.reader c.next.new.self c.next.result c.in-Some.directive
      (Include c.in-Include.if_missing c.in-Include.file.now) c.next.ensures.directives c.in-Some.is (ap shown c.in-Include.is))
      (c.loop-directive.invariant.rest F (extends_before (asked_further c.file_text.ensures.asks c.carry_out.ensures.asks) e))
      (c.args.levels - 1) (c.loop-directive.loading.files - 1) (omega arith) (omega arith) c.in_ok-text-in-Include.text.items
      c.as_slice.result.now
      (record { set = c.carry_out.new.loading.set; files = c.carry_out.new.loading.files })
      (c.in_ok-text-in-Include.ensures.text F (extends_before c.carry_out.ensures.asks e)) c.as_slice.ensures.value
      (c.in_ok-carry_out-in-Include.ensures.carried F e);
}

-- one more directive was carried out
pub loop-directive-preserved : goal.loop-directive-preserved
loop-directive-preserved g n c = record {
  asks = c.loop-directive.invariant.asks;
  rest = λ F e.
      changed_more F c.args.prefixes.now c.loop-directive.loading.set c.loop-directive.loading.files c.args.levels c.loop-directive.reader
      c.next.new.self (shown c.in-Some.directive)
      (all_carried (including F c.args.prefixes.now c.args.levels) (record {
        set = c.args.loading.now.set;
        files =
            c.args.loading.now.files;
      })
      (read_settled c.args.text.now))
      (taken c.loop-directive.reader c.next.new.self c.next.result c.in-Some.directive
      (shown c.in-Some.directive) c.next.ensures.directives c.in-Some.is refl) (c.loop-directive.invariant.rest F e) c.change.new.self
      (reads_no_file c.in-Some.directive c.in_default-directive.not-Include) c.in_ok-change-in_default-directive.ensures;
}

-- a directive that is refused
pub returns-in_err-change-in_default-directive : goal.returns-in_err-change-in_default-directive
returns-in_err-change-in_default-directive g n c = record {
  asks = c.loop-directive.invariant.asks;
  carried = λ F e.
      refusal_given c.in_err-change-in_default-directive.field-0.0 c.from_residual-in_err-change-in_default-directive.result _
      (all_carried (including F c.args.prefixes.now c.args.levels) (record {
        set = c.args.loading.now.set;
        files =
            c.args.loading.now.files;
      })
      (read_settled c.args.text.now))
      c.from_residual-in_err-change-in_default-directive.ensures.1
      (changed_refused F c.args.prefixes.now c.loop-directive.loading.set c.loop-directive.loading.files c.args.levels
      c.loop-directive.reader
      c.next.new.self (shown c.in-Some.directive)
      (all_carried (including F c.args.prefixes.now c.args.levels) (record {
        set = c.args.loading.now.set;
        files =
            c.args.loading.now.files;
      })
      (read_settled c.args.text.now))
      (taken c.loop-directive.reader c.next.new.self c.next.result c.in-Some.directive
      (shown c.in-Some.directive) c.next.ensures.directives c.in-Some.is refl)
      (c.loop-directive.invariant.rest F e) c.in_err-change-in_default-directive.field-0.0
      (reads_no_file c.in-Some.directive c.in_default-directive.not-Include) c.in_err-change-in_default-directive.ensures);
}
