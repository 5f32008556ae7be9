-- What a port is given.
use Rattle.std.proofs.Common.{◌≡◌, ℕ, ◌-◌, ◌*◌, ◌≤◌, Some, refl}
use Rattle.std.specs.Prelude.{slice_get}
use Rattle.std.proofs.lemmas.Bool.{le-ltb}
use Rattle.raw_grid.specs.declared.parts.PortPlace.{PortPlace}
use Rattle.raw_grid.specs.Topology.{tile_count}
use Rattle.raw_model.specs.Program.{ProgramSet, PortProgram}
use Rattle.raw_names.specs.Names.{given_to, given_text}

pub given_is : (set : ProgramSet) (p : ℕ) (place : PortPlace) (port : PortProgram) → 2 * tile_count set.topo ≤ p
    → slice_get set.topo.places (p - 2 * tile_count set.topo) ≡ Some place → slice_get set.ports (p - 2 * tile_count set.topo) ≡ Some port
    → given_text set p ≡ given_to place.kind port
unfolding given_text
given_is set p place port behind is_place is_port = rw (le-ltb p (2 * tile_count set.topo) behind, is_place, is_port) refl
