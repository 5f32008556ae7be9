use Rattle.std.proofs.Common.{◌≡◌, ℕ, ◌<◌, Some, take}
use Rattle.std.specs.Prelude.{slice_get}
use Rattle.std.specs.List.{All}
use Rattle.raw_grid.specs.declared.parts.PortPlace.{PortPlace}
use Rattle.raw_model.specs.Program.{PortProgram, IsPortProgram, IsOfKind}
use Rattle.raw_cut.proofs.fitting.are_of_kinds.Given as goal

abbrev pub invariant-loop-i : goal.invariant-loop-i
invariant-loop-i l = record {
  programs : All IsPortProgram (take l.i l.ports);
  kinds : (q : ℕ) (place : PortPlace) (port : PortProgram) → q < l.i → slice_get l.topo.places q ≡ Some place → slice_get l.ports q ≡ Some port → IsOfKind place.kind port;
}
