use Rattle.std.proofs.Common.{◌+◌, ap, sym, ◌∙◌, arith}
use Rattle.std.specs.List.{find}
use Rattle.raw_serial.specs.Needs.{fails}
use Rattle.raw_serial.proofs.ByEnds.{left_to, left_none, found_pass, found_here}
use Rattle.raw_serial.proofs.wires.Wires.first_failing.Goals as goal

pub ends-init : goal.ends-init
ends-init c = record {
  same = ap (find (fails c.args.need c.args.self.now)) (left_to c.args.word c.args.wires.now 0 c.next_end-end.result c.next_end-end.ensures.later c.next_end-end.ensures.least);
  there = c.next_end-end.ensures.there;
}

pub ends-preserved : goal.ends-preserved
ends-preserved c = record {
  same =
      ap (find (fails c.args.need c.args.self.now)) (left_to c.args.word c.args.wires.now (c.ends.end + 1) c.next_end-end-in-ends.result c.next_end-end-in-ends.ensures.later c.next_end-end-in-ends.ensures.least)
      ∙ found_pass c.args.word c.args.wires.now (fails c.args.need c.args.self.now) c.ends.end (omega arith) (c.ends.invariant.there (omega arith)) (sym c.fails.ensures ∙ c.if-fails.false)
      ∙ c.ends.invariant.same;
  there = c.next_end-end-in-ends.ensures.there;
}

pub returns-then-fails : goal.returns-then-fails
returns-then-fails c =
    found_here c.args.word c.args.wires.now (fails c.args.need c.args.self.now) c.ends.end (omega arith) (c.ends.invariant.there (omega arith)) (sym c.fails.ensures ∙ c.if-fails.true)
    ∙ c.ends.invariant.same

pub returns : goal.returns
returns c =
    sym (ap (find (fails c.args.need c.args.self.now)) (left_none c.args.word c.args.wires.now c.ends.end (omega arith)))
    ∙ c.ends.invariant.same
