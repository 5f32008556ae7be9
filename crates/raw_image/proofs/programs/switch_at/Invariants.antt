use Rattle.std.proofs.Common.{◌≡◌, ℕ, ◌-◌, length}
use Rattle.std.specs.Int.{w64}
use Rattle.raw_grid.specs.Topology.{Topology}
use Rattle.raw_image.specs.Fields.{said_at, repeated}
use Rattle.raw_model.specs.Wired.{AreWired}
use Rattle.raw_image.specs.Reading.{wired_of, switch_at}
use Rattle.raw_image.proofs.Loop.{listed}
use Rattle.raw_image.proofs.programs.switch_at.Given as goal

abbrev pub invariant-loop : goal.invariant-loop
invariant-loop l = record {
  read : (topo : Topology) (p : ℕ) → AreWired topo p l.wired → repeated (listed (λ before. said_at w64 (wired_of topo p))) (l.count - l.counter) l.code.items l.rest ≡ switch_at topo p l.count l.bytes;
  size : length l.code.items ≡ l.counter;
}
