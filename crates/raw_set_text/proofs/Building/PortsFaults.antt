-- The faults of an entry that has to do with ports, by what the built grid has.
use Rattle.std.proofs.Common.{◌≡◌, ℕ, ◌+◌, ◌-◌, ◌<◌, ◌≤◌, Bool, true, false, not, cond, ◌||◌, List, length, Option, Some, None, Result, Ok, Err, refl, sym, ◌∙◌, subst, arith, lt-ltb, le-ltb}
use Rattle.std.specs.Prelude.{nat_lt}
use Rattle.std.specs.Option.{is_some}
use Rattle.std.specs.Result.{IsErrAnd}
use Rattle.std.specs.List.{list_any}
use Rattle.std.proofs.lemmas.Bool.{or_left, or_right, or_from}
use Rattle.std.proofs.lemmas.Result.{err_from_is_err_and}
use Rattle.raw_grid.specs.declared.parts.PortKind.{PortKind}
use Rattle.raw_grid.specs.declared.parts.PortKind.TheVariants as kind
use Rattle.raw_grid.specs.declared.parts.PortPlace.{PortPlace}
use Rattle.raw_grid.specs.Topology.{Topology, neighbour}
use Rattle.raw_model.specs.declared.limits.TheConstants.{MAX_ALL_WORDS, MAX_CAPACITY, MAX_ALL_CAPACITIES}
use Rattle.raw_set_text.specs.declared.declaration.Edge.{Edge}
use Rattle.raw_set_text.specs.declared.kind.SetKind.{SetKind}
use Rattle.raw_set_text.specs.declared.kind.SetKind.TheVariants.{OffGrid, PortOffEdge, DoublePort, UndeclaredEdge, OverLimit}
use Rattle.raw_set_text.specs.declared.refused.LineRefusal.{LineRefusal}
use Rattle.raw_set_text.specs.declared.refused.LineRefusal.TheVariants.{Fault, Memory}
use Rattle.raw_set_text.specs.declared.ports.Ports.{Ports}
use Rattle.raw_set_text.specs.Entry.{Entry, place_of, same_place}
use Rattle.raw_set_text.specs.Entry.Entry.{Port, Feed}
use Rattle.raw_set_text.specs.Entries.{topology_of}
use Rattle.raw_set_text.specs.Faults.{entry_fault, fault_if, is_outside}
use Rattle.raw_set_text.specs.Answers.{Answers}
use Rattle.raw_set_text.specs.Building.{PortsStand}

-- what is wrong with a place for a port
abbrev pub place_fault : Topology → PortPlace → Option SetKind → Option SetKind
place_fault topo place next =
    fault_if (is_some (neighbour topo place.x place.y place.side)) PortOffEdge
    (fault_if (list_any (same_place place) topo.places) DoublePort next)

-- a capacity is too large, by itself or with this total
abbrev pub is_too_large : ℕ → ℕ → Bool
is_too_large total capacity = nat_lt MAX_CAPACITY capacity || nat_lt MAX_ALL_CAPACITIES (total + capacity)

pub add_fault : (ports : Ports) (entries : List Entry) (place : PortPlace) (capacity : ℕ) → PortsStand ports entries →
    entry_fault entries (Port place capacity) ≡ fault_if (is_outside ports.topo.cols ports.topo.rows (Some (record { x = place.x; y = place.y }))) OffGrid
    (place_fault ports.topo place (fault_if (is_too_large ports.capacity capacity) OverLimit None))
unfolding entry_fault topology_of
add_fault ports entries place capacity stands = rw (stands.topo, stands.capacity)

pub feed_fault : (ports : Ports) (entries : List Entry) (source : PortPlace) (words : List ℕ) → PortsStand ports entries →
    entry_fault entries (Feed source words) ≡ fault_if (is_outside ports.topo.cols ports.topo.rows (Some (record { x = source.x; y = source.y }))) OffGrid
    (fault_if (not (list_any (same_place source) ports.topo.places)) UndeclaredEdge (fault_if (nat_lt MAX_ALL_WORDS (ports.words + length words)) OverLimit None))
unfolding entry_fault topology_of
feed_fault ports entries source words stands = rw (stands.topo, stands.words)

-- what the exit of a `?` returns
pub passed_on : {T : Type 0} (r : Result T LineRefusal) (refusal : LineRefusal) (fault : Option SetKind) → IsErrAnd r (λ given. given ≡ refusal) → Answers {T = Unit {0}} (Err refusal) fault → Answers r fault
passed_on r refusal fault gives answers = let p = err_from_is_err_and r gives in rw (p.1, p.2) answers

-- the grid lacks the tile
pub off_grid : {T : Type 0} (outside : Bool) (refusal : LineRefusal) (place : T) (next : Option SetKind) → Err refusal ≡ cond outside (Err (Fault OffGrid)) (Ok place) → Answers {T = Unit {0}} (Err refusal) (fault_if outside OffGrid next)
off_grid true refusal place next h =
    let e : refusal ≡ Fault OffGrid = cc in subst (λ (f : LineRefusal). Answers {T = Unit {0}} (Err f) (Some OffGrid)) (sym e) refl
off_grid false refusal place next h = cc

-- the grid has it
pub on_grid : {T : Type 0} (outside : Bool) (given place : T) → Ok given ≡ cond outside (Err (Fault OffGrid)) (Ok place) → (outside ≡ false) × (given ≡ place)
on_grid true given place h = cc
on_grid false given place h = (refl, cc)

-- neither of two faults
pub neither : (a b : Bool) (x y : SetKind) → fault_if a x (fault_if b y None) ≡ None → (a ≡ false) × (b ≡ false)
neither true b x y h = cc
neither false true x y h = cc
neither false false x y h = (refl, refl)

-- one of two faults
pub either : (a b : Bool) (x y : SetKind) (next : Option SetKind) (refusal : LineRefusal) → Answers {T = Unit {0}} (Err refusal) (fault_if a x (fault_if b y None)) → Answers {T = Unit {0}} (Err refusal) (fault_if a x (fault_if b y next))
either true b x y next refusal h = h
either false true x y next refusal h = h
either false false x y next (Fault kind) h = cc
either false false x y next Memory h = tt

pub too_large_alone : (total capacity : ℕ) → MAX_CAPACITY < capacity → is_too_large total capacity ≡ true
too_large_alone total capacity h = or_left _ _ (lt-ltb MAX_CAPACITY capacity h)

pub too_large_together : (total capacity : ℕ) → MAX_ALL_CAPACITIES - total < capacity → is_too_large total capacity ≡ true
too_large_together total capacity h = or_right _ _ (lt-ltb MAX_ALL_CAPACITIES (total + capacity) (omega arith))

pub small_enough : (total capacity : ℕ) → total ≤ MAX_ALL_CAPACITIES → capacity ≤ MAX_CAPACITY → capacity ≤ MAX_ALL_CAPACITIES - total → is_too_large total capacity ≡ false
small_enough total capacity few alone together =
    or_from _ _ (le-ltb MAX_CAPACITY capacity alone) (le-ltb MAX_ALL_CAPACITIES (total + capacity) (omega arith))

-- the faults of a port at an edge of a tile that the grid has
pub add_fault_there : (ports : Ports) (entries : List Entry) (port : PortKind) (edge : Edge) (capacity : ℕ) (place : PortPlace) → PortsStand ports entries → Ok place ≡ cond (is_outside ports.topo.cols ports.topo.rows (Some edge.tile)) (Err (Fault OffGrid)) (Ok (place_of port edge)) →
    entry_fault entries (Port (place_of port edge) capacity) ≡ place_fault ports.topo place (fault_if (is_too_large ports.capacity capacity) OverLimit None)
add_fault_there ports entries port edge capacity place stands there =
    let on = on_grid (is_outside ports.topo.cols ports.topo.rows (Some edge.tile)) place (place_of port edge) there in
    add_fault ports entries (place_of port edge) capacity stands ∙ rw (on.0, on.1)

-- the faults of words for a source at an edge of a tile that the grid has
pub feed_fault_there : (ports : Ports) (entries : List Entry) (edge : Edge) (words : List ℕ) (place : PortPlace) → PortsStand ports entries → Ok place ≡ cond (is_outside ports.topo.cols ports.topo.rows (Some edge.tile)) (Err (Fault OffGrid)) (Ok (place_of kind.Source edge)) →
    entry_fault entries (Feed (place_of kind.Source edge) words) ≡ fault_if (not (list_any (same_place place) ports.topo.places)) UndeclaredEdge (fault_if (nat_lt MAX_ALL_WORDS (ports.words + length words)) OverLimit None)
feed_fault_there ports entries edge words place stands there =
    let on = on_grid (is_outside ports.topo.cols ports.topo.rows (Some edge.tile)) place (place_of kind.Source edge) there in
    feed_fault ports entries (place_of kind.Source edge) words stands ∙ rw (on.0, on.1)
