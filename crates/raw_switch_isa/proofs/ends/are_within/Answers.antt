use Rattle.std.proofs.Common.{◌∙◌, sym, arith}
use Rattle.raw_switch_isa.specs.Ends.{has_end}
use Rattle.raw_switch_isa.proofs.Passing.{end_fails, ends_pass}
use Rattle.raw_switch_isa.proofs.ends.are_within.Goals as goal

pub returns-then-not-has_end : goal.returns-then-not-has_end
returns-then-not-has_end c =
    sym (end_fails (has_end c.args.wired) (has_end c.args.used) c.loop-end.end c.loop-end-test.true (sym c.has_end.ensures.bit ∙ c.if-has_end.true) (sym c.has_end-then-has_end.ensures.bit ∙ c.if-not-has_end.true))

pub returns : goal.returns
returns c = sym (ends_pass (has_end c.args.wired) (has_end c.args.used) (λ k lt. c.loop-end.invariant k (omega arith)))
