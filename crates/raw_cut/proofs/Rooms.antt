-- Ports with places more than they need.
use Rattle.std.proofs.Common.{◌≡◌, ℕ, zero, suc, ◌+◌, ◌-◌, ◌*◌, ◌≤◌, false, not, ◌&&◌, List, [], ◌∷◌, length, map, Option, Some, None, refl, sym, ap, ap₂, ◌∙◌, arith, length-append}
use Rattle.std.specs.Prelude.{slice_get, nat_le}
use Rattle.std.specs.List.{flat_map, range_with_len}
use Rattle.std.proofs.Math.Nat.{suc-mul}
use Rattle.raw_network.specs.Network.{has_values, has_room, is_ready}
use Rattle.raw_grid.specs.declared.parts.PortKind.{PortKind}
use Rattle.raw_grid.specs.declared.parts.PortKind.TheVariants as kind
use Rattle.raw_grid.specs.declared.parts.PortPlace.{PortPlace}
use Rattle.raw_grid.specs.declared.parts.ProcKind.TheVariants as proc
use Rattle.raw_grid.specs.Topology.{Topology, tile_count, kind_at}
use Rattle.raw_model.specs.Program.{ProgramSet, PortProgram, IsSet}
use Rattle.raw_model.specs.Local.{Local, Source, Sink}
use Rattle.raw_model.specs.Machine.{machine_of, takes, sends, words_of, capacity_of}
use Rattle.raw_model.specs.Rest.{enabled, IsQuiet}
use Rattle.raw_serial.proofs.Placed.{placed}
use Rattle.raw_stream.specs.Streams.{Stream, due_at}
use Rattle.raw_rows.specs.Given.{given_by}
use Rattle.raw_rows.specs.Kernels.{room_for, run_port, run_ports, roomy_port, roomy_set}
use Rattle.raw_prove.specs.declared.machine.Machine.{Machine}
use Rattle.raw_prove.specs.declared.unit.Unit.{Unit}
use Rattle.raw_prove.specs.declared.unit.Unit.TheVariants as a
use Rattle.raw_prove.specs.Units.{local_of, state_of}
use Rattle.raw_cut.specs.Kept.{IsUnitWith, IsKept, IsKeptWith}
use Rattle.raw_cut.specs.Parts.{spare_for, spare_of, spare_at, port_with, ports_with, with_ports}

-- how much room a port needs
pub room_is : (s : Stream) (q : ℕ) (rows : List (List ℕ)) → room_for s q rows ≡ length rows * length (due_at s q)
room_is s q [] = omega arith
room_is s q (words ∷ rows) =
    length-append (due_at s q) (flat_map (λ (ws : List ℕ). due_at s q) rows)
    ∙ ap (λ n. length (due_at s q) + n) (room_is s q rows)
    ∙ omega (arith, suc-mul (length rows) (length (due_at s q)))

-- how many places more a port has
few_for : (spare : ℕ) (k : PortKind) → spare_for spare k ≤ spare
few_for spare kind.Source = omega arith
few_for spare kind.Sink = omega arith

few_of : (spare : ℕ) (o : Option PortPlace) → spare_of spare o ≤ spare
few_of spare None = omega arith
few_of spare (Some place) = few_for spare place.kind

pub spare_few : (topo : Topology) (spare q : ℕ) → spare_at topo spare q ≤ spare
spare_few topo spare q = few_of spare (slice_get topo.places q)

module _ (topo : Topology) (s : Stream) (rows : List (List ℕ)) where
  -- no places more
  none_for : (k : PortKind) → spare_for 0 k ≡ 0
  none_for kind.Source = refl
  none_for kind.Sink = refl

  none_of : (o : Option PortPlace) → spare_of 0 o ≡ 0
  none_of None = refl
  none_of (Some place) = none_for place.kind

  port_is : (q : ℕ) → port_with topo s rows 0 q ≡ run_port s rows q
  port_is q =
      let same : room_for s q rows + spare_at topo 0 q ≡ room_for s q rows = omega (arith, none_of (slice_get topo.places q)) in
      λ i. record { words = given_by s q rows; capacity = same i }

  ports_are : (qs : List ℕ) → map (port_with topo s rows 0) qs ≡ map (run_port s rows) qs
  ports_are [] = refl
  ports_are (q ∷ qs) = ap₂ (λ (x : PortProgram) (xs : List PortProgram). x ∷ xs) (port_is q) (ports_are qs)

  pub run_is : (many : ℕ) → ports_with topo s many rows 0 ≡ run_ports s many rows
  run_is many = ports_are (range_with_len 0 many)

  -- the words are the same, whatever places there are
  pub words_same : (spare : ℕ) (qs : List ℕ) (i : ℕ) → words_of (slice_get (map (port_with topo s rows spare) qs) i) ≡ words_of (slice_get (map (roomy_port s rows) qs) i)
  words_same spare [] i = refl
  words_same spare (q ∷ qs) zero = refl
  words_same spare (q ∷ qs) (suc i) = words_same spare qs i

  pub room_less : (qs : List ℕ) (i : ℕ) → capacity_of (slice_get (map (port_with topo s rows 1) qs) i) ≤ capacity_of (slice_get (map (port_with topo s rows 0) qs) i) + 1
  room_less [] i = omega arith
  room_less (q ∷ qs) zero = omega (arith, spare_few topo 1 q)
  room_less (q ∷ qs) (suc i) = room_less qs i

  -- a sink has one more
  rooms_from : (k n i : ℕ) → spare_at topo 1 (k + i) ≡ 1 → capacity_of (slice_get (map (port_with topo s rows 1) (range_with_len k n)) i) ≡ capacity_of (slice_get (map (roomy_port s rows) (range_with_len k n)) i)
  rooms_from k zero i e = refl
  rooms_from k (suc n) zero e = let same : k + 0 ≡ k = omega arith in omega (arith, ap (spare_at topo 1) (sym same) ∙ e)
  rooms_from k (suc n) (suc i) e = let same : k + 1 + i ≡ k + suc i = omega arith in rooms_from (k + 1) n i (ap (spare_at topo 1) same ∙ e)

  pub rooms_same : (many p : ℕ) → kind_at topo p ≡ Some proc.Sink
      → capacity_of (slice_get (map (port_with topo s rows 1) (range_with_len 0 many)) (p - 2 * tile_count topo)) ≡ capacity_of (slice_get (map (roomy_port s rows) (range_with_len 0 many)) (p - 2 * tile_count topo))
  rooms_same many p is =
      let at = placed topo p proc.Sink is in
      let back : 0 + (p - 2 * tile_count topo) ≡ p - 2 * tile_count topo = omega arith in
      rooms_from 0 many (p - 2 * tile_count topo) (ap (spare_at topo 1) back ∙ ap (spare_of 1) at.here ∙ ap (spare_for 1) at.is_kind)

-- a machine that has a place more than a part of a run needs is one of the set that has it
module _ (set_ : ProgramSet) (s : Stream) (limit : ℕ) (rows : List (List ℕ)) where
  abbrev narrow : ProgramSet
  narrow = with_ports set_ limit (ports_with set_.topo s (length set_.ports) rows 0)

  abbrev wide : ProgramSet
  wide = with_ports set_ (limit + 1) (ports_with set_.topo s (length set_.ports) rows 1)

  unit_kept : (p : ℕ) (x : Unit) → IsUnitWith narrow 1 p x → IsUnitWith wide 0 p x
  unit_kept p (a.Tile unit) is = record { place = is.place; code = is.code; inside = is.inside; memory = is.memory }
  unit_kept p (a.Switch unit) is = record { kind = is.kind; code = is.code; inside = is.inside }
  unit_kept p (a.Source unit) is = is
  unit_kept p (a.Sink port) is = record {
    kind = is.kind;
    got = is.got;
    room = omega (arith, is.room, room_less set_.topo s rows (range_with_len 0 (length set_.ports)) (p - 2 * tile_count set_.topo));
  }

  pub wide_kept : (m : Machine) → IsSet wide → IsKeptWith narrow 1 m → IsKept wide m
  wide_kept m valid is = record {
    valid = valid;
    each = is.each;
    units = λ p x e. unit_kept p x (is.units p x e);
    each_end = is.each_end;
    ends = is.ends;
    wires = is.wires;
  }

  -- where it is quiet, so is the set in which each port has a place more
  module _ (m : Machine) (kept : IsKept wide m) where
    unit_quiet : (p : ℕ) (x : Unit) → IsUnitWith wide 0 p x → is_ready (machine_of wide) p (Some (local_of x)) m.wires ≡ false
        → is_ready (machine_of (roomy_set set_ s limit rows)) p (Some (local_of x)) m.wires ≡ false
    unfolding machine_of
    unit_quiet p (a.Tile unit) is e = e
    unit_quiet p (a.Switch unit) is e = e
    unit_quiet p (a.Source unit) is e =
        ap (λ (ws : List ℕ). not (nat_le (length ws) unit.port.local.done) && (has_values (takes wide p (Source unit.port.local)) m.wires && has_room wide.depth (sends wide p (Source unit.port.local)) m.wires))
        (sym (words_same set_.topo s rows 1 (range_with_len 0 (length set_.ports)) (p - 2 * tile_count set_.topo)))
        ∙ e
    unit_quiet p (a.Sink port) is e =
        ap (λ (room : ℕ). not (nat_le room port.local.done) && (has_values (takes wide p (Sink port.local)) m.wires && has_room wide.depth (sends wide p (Sink port.local)) m.wires))
        (sym (rooms_same set_.topo s rows (length set_.ports) p is.kind))
        ∙ e

    local_none : (xs : List Unit) (p : ℕ) → slice_get xs p ≡ None → slice_get (map local_of xs) p ≡ None
    local_none [] p e = refl
    local_none (x ∷ xs) zero e = cc e
    local_none (x ∷ xs) (suc p) e = local_none xs p e

    local_some : (xs : List Unit) (p : ℕ) (x : Unit) → slice_get xs p ≡ Some x → slice_get (map local_of xs) p ≡ Some (local_of x)
    local_some [] p x e = cc e
    local_some (y ∷ xs) zero x e = ap (λ (o : Option Unit). elim o as (λ _. Option Local) [ None ↦ None | Some z ↦ Some (local_of z) ]) e
    local_some (y ∷ xs) (suc p) x e = local_some xs p x e

    pub roomy_quiet : IsQuiet wide (state_of m).state → IsQuiet (roomy_set set_ s limit rows) (state_of m).state
    roomy_quiet quiet p = by (slice_get m.units.items p) refl where
      by : (o : Option Unit) → slice_get m.units.items p ≡ o → enabled (roomy_set set_ s limit rows) (state_of m).state p ≡ false
      by None e = ap (λ o. is_ready (machine_of (roomy_set set_ s limit rows)) p o m.wires) (local_none m.units.items p e)
      by (Some x) e =
          let at : slice_get (map local_of m.units.items) p ≡ Some (local_of x) = local_some m.units.items p x e in
          ap (λ o. is_ready (machine_of (roomy_set set_ s limit rows)) p o m.wires) at
          ∙ unit_quiet p x (kept.units p x e) (ap (λ o. is_ready (machine_of wide) p o m.wires) (sym at) ∙ quiet p)
