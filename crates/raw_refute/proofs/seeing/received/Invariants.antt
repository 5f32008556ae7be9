use Rattle.std.proofs.Common.{◌≡◌, ◌++◌, drop}
use Rattle.std.specs.List.{flat_map}
use Rattle.raw_model.specs.Parts.{got_by}
use Rattle.raw_refute.proofs.seeing.received.Given as goal

abbrev pub invariant-loop-p : goal.invariant-loop-p
invariant-loop-p l = l.got.items ++ flat_map got_by (drop l.p l.machine.state.locals) ≡ flat_map got_by l.machine.state.locals
