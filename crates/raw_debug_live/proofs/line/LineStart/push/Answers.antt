use Rattle.std.proofs.Common.{◌≤◌, length, ap, subst, arith}
use Rattle.raw_debug_live.specs.declared.line.TheConstants.{HELD}
use Rattle.raw_debug_live.proofs.Holding.{one_more_held, no_more_held}
use Rattle.raw_debug_live.proofs.line.LineStart.push.Goals as goal

pub returns-then-as_slice-ge-HELD : goal.returns-then-as_slice-ge-HELD
returns-then-as_slice-ge-HELD c = λ line is.
    no_more_held c.args.self.now.bytes.items line c.args.next (subst (λ xs. HELD ≤ length xs) c.as_slice.ensures.value c.if-as_slice-ge-HELD.true) is

pub returns : goal.returns
returns c = λ line is.
    let size = ap length c.as_slice.ensures.value in
    one_more_held c.args.self.now.bytes.items c.push.new.self.items line c.args.next (omega (arith, c.if-as_slice-ge-HELD.false, size)) is c.push.ensures.items
