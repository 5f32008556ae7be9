use Rattle.std.proofs.Common.{◌&&◌, eqb}
use Rattle.std.specs.Prelude.{is_some}
use Rattle.std.specs.List.{position}
use Rattle.raw_grid.specs.Wires.{Wire}
use Rattle.raw_grid.proofs.Bits.{AreBits}
use Rattle.raw_grid.proofs.wire.input_ends.Given as goal

abbrev pub invariant-loop-end : goal.invariant-loop-end
invariant-loop-end l = AreBits (λ i. is_some (position (λ (w : Wire). eqb w.to l.p && eqb w.input i) l.wires)) l.end l.ends
