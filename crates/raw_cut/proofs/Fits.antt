-- A set with other ports, and another limit, is a set.
use Rattle.std.proofs.Common.{◌≡◌, ℕ, ◌+◌, List, [], ◌∷◌, ◌++◌, length, take, Some, sym, ap, ◌∙◌}
use Rattle.std.specs.Prelude.{slice_get}
use Rattle.std.proofs.lemmas.List.{append_assoc, take_more}
use Rattle.std.proofs.lemmas.Option.{slice_get_within, get_or_from_slice_get}
use Rattle.std.proofs.lemmas.List.FromFn.{length-map-range_with_len}
use Rattle.raw_grid.specs.declared.parts.PortPlace.{PortPlace}
use Rattle.raw_grid.specs.Topology.{Topology, with_port}
use Rattle.raw_model.specs.Program.{ProgramSet, PortProgram, IsSet}
use Rattle.raw_stream.specs.Streams.{Stream}
use Rattle.raw_cut.specs.Parts.{port_with, ports_with, AreFit, with_ports}

pub fit_is_set : (set : ProgramSet) → IsSet set → (limit : ℕ) (ports : List PortProgram) → AreFit set limit ports → IsSet (with_ports set limit ports)
fit_is_set set is limit ports fit = record {
  topology = is.topology;
  some_steps = fit.some_steps;
  few_steps = fit.few_steps;
  some_depth = is.some_depth;
  small_depth = is.small_depth;
  each_port = fit.each ∙ is.each_port;
  each_tile = is.each_tile;
  port_programs = fit.programs;
  port_kinds = fit.kinds;
  tile_programs = is.tile_programs;
  wires = is.wires;
  shows = is.shows;
  totals = record {
    instructions = is.totals.instructions;
    switch_instructions = is.totals.switch_instructions;
    cells = is.totals.cells;
    misses = is.totals.misses;
    words = fit.words;
    capacities = fit.capacities;
    shows = is.totals.shows;
    shown = is.totals.shown;
  };
}

-- ports that are fit are as many as those of the set
pub ports_fit : (set : ProgramSet) (s : Stream) (limit spare many : ℕ) (rows : List (List ℕ)) (ports : List PortProgram) → ports ≡ ports_with set.topo s many rows spare → AreFit set limit ports
    → ports ≡ ports_with set.topo s (length set.ports) rows spare
ports_fit set s limit spare many rows ports is fit =
    let count : length ports ≡ many = ap length is ∙ length-map-range_with_len (port_with set.topo s rows spare) 0 many in
    is ∙ ap (λ (n : ℕ). ports_with set.topo s n rows spare) (sym count ∙ fit.each)

-- a grid that gets the next of the ports of another one
pub port_next : (first topo next : Topology) (ps : List PortPlace) (i : ℕ) (place : PortPlace) → slice_get ps i ≡ Some place → topo ≡ record first { places = first.places ++ take i ps } → next ≡ with_port topo place
    → next ≡ record first { places = first.places ++ take (i + 1) ps }
port_next first topo next ps i place at is added =
    let one : take i ps ++ place ∷ [] ≡ take (i + 1) ps =
    ap (λ (x : PortPlace). take i ps ++ x ∷ []) (sym (get_or_from_slice_get ps i place place at)) ∙ sym (take_more ps i place (slice_get_within ps i place at)) in
    added
    ∙ ap (λ (t : Topology). with_port t place) is
    ∙ ap (λ (qs : List PortPlace). record first { places = qs }) (append_assoc first.places (take i ps) (place ∷ []) ∙ ap (λ (qs : List PortPlace). first.places ++ qs) one)
