use Rattle.std.proofs.Common.{◌≡◌, drop}
use Rattle.raw_term.specs.Seen.{miscount_from}
use Rattle.raw_refute.proofs.seeing.first_miscount.Given as goal

abbrev pub invariant-loop-p : goal.invariant-loop-p
invariant-loop-p l = miscount_from l.places l.p (drop l.p l.machine.state.locals) ≡ miscount_from l.places 0 l.machine.state.locals
