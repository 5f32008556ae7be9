use Rattle.std.proofs.Common.{◌≡◌, map, take}
use Rattle.raw_cut.proofs.standing.wires_at.Given as goal

abbrev pub invariant-loop-w : goal.invariant-loop-w
invariant-loop-w l = map (λ wire. wire.items) l.values.items ≡ take l.w l.wires
