-- A machine with terms at the start, of its parts.
use Rattle.std.proofs.Common.{◌≡◌, ℕ, ◌≤◌, List, [], ◌++◌, length, map, sym, ap, subst, ◌∙◌, arith, append_assoc}
use Rattle.std.specs.Prelude.{replicate}
use Rattle.std.proofs.lemmas.Bool.{le-leb}
use Rattle.std.proofs.lemmas.List.{length-replicate}
use Rattle.raw_grid.specs.declared.parts.PortPlace.{PortPlace}
use Rattle.raw_grid.specs.Topology.{proc_count}
use Rattle.raw_grid.specs.Wires.{wires_of}
use Rattle.raw_model.specs.Program.{ProgramSet, TileProgram}
use Rattle.raw_model.specs.Local.{Local, Switch}
use Rattle.raw_model.specs.Start.{first_switch, first_port}
use Rattle.raw_model.specs.Bounds.{all_words}
use Rattle.raw_serial.specs.Fresh.{AreAllEnds}
use Rattle.raw_flow.specs.declared.node.Node.{Node}
use Rattle.raw_term.specs.declared.limits.TheConstants.{MAX_TERMS}
use Rattle.raw_term.specs.Terms.{Overflows}
use Rattle.raw_term.specs.TermMachine.{TermState, first_nodes, first_term_tiles, started, term_start}
use Rattle.raw_prove.specs.declared.machine.Machine.{Machine}
use Rattle.raw_prove.specs.declared.unit.Unit.{Unit}
use Rattle.raw_prove.specs.Units.{local_of, AreUnits, state_of}
use Rattle.raw_prove.specs.Opened.{IsOpened}
use Rattle.raw_prove.proofs.Starting.{tiles_longer}

module _ (set : ProgramSet) (m : Machine) (first : List Node) (tiles switches : List Unit)
    (is_first : first ≡ first_nodes (all_words set))
    (is_tiles : first_term_tiles first set.tiles ≡ record { nodes = m.table; tiles = map local_of tiles })
    (is_switches : map local_of switches ≡ map local_of tiles ++ map (λ (tile : TileProgram). Switch (first_switch tile.switch)) set.tiles)
    (is_ports : map local_of m.units.items ≡ map local_of switches ++ map (λ (place : PortPlace). first_port place.kind) set.topo.places)
    (many : length m.units.items ≡ proc_count set.topo) (kept : AreUnits set m.units.items) (ends : AreAllEnds set.topo m.ends.items)
    (wires : m.wires ≡ replicate (length (wires_of set.topo)) []) (few : length m.table ≤ MAX_TERMS) where
  abbrev sw : List Local
  sw = map (λ (tile : TileProgram). Switch (first_switch tile.switch)) set.tiles

  abbrev pt : List Local
  pt = map (λ (place : PortPlace). first_port place.kind) set.topo.places

  locals : map local_of m.units.items ≡ map local_of tiles ++ (sw ++ pt)
  locals = is_ports ∙ ap (λ ls. ls ++ pt) is_switches ∙ append_assoc (map local_of tiles) sw pt

  made : first_term_tiles (first_nodes (all_words set)) set.tiles ≡ record { nodes = m.table; tiles = map local_of tiles }
  made = ap (λ ns. first_term_tiles ns set.tiles) (sym is_first) ∙ is_tiles

  begins : state_of m ≡ term_start set
  unfolding term_start
  begins =
      let here : ◌≡◌ {A = TermState} (state_of m) (started set (record { nodes = m.table; tiles = map local_of tiles })) =
      (λ i. record { nodes = m.table; state = record { locals = locals i; wires = wires i } }) in
      here ∙ ap (started set) (sym made)

  pub opened_is : IsOpened set m
  opened_is = record {
    stands = record {
      each = many;
      units = kept;
      each_end = ends.each_end;
      ends = ends.ends_are;
      wires = ap length wires ∙ length-replicate (length (wires_of set.topo)) [];
    };
    start = begins;
    within = le-leb (length m.table) MAX_TERMS few;
  }

-- a table that has too many terms on the way has too many at the start
pub first_over : (set : ProgramSet) (words : ℕ) → words ≡ all_words set → Overflows (first_nodes words) → Overflows (term_start set).nodes
unfolding term_start
first_over set words is over =
    let h : Overflows (first_nodes (all_words set)) = subst (λ n. Overflows (first_nodes n)) is over in
    omega (arith, h, tiles_longer (first_nodes (all_words set)) set.tiles)

pub tiles_over_all : (set : ProgramSet) (words : ℕ) (first : List Node) → words ≡ all_words set → first ≡ first_nodes words → Overflows (first_term_tiles first set.tiles).nodes → Overflows (term_start set).nodes
unfolding term_start
tiles_over_all set words first is same over = subst (λ (ns : List Node). Overflows (first_term_tiles ns set.tiles).nodes) (same ∙ ap first_nodes is) over
