-- Two networks that differ in values alone, as far as a run goes: their cycles are the same. `src/laws.rt` claims it of all.
use Rattle.std.specs.Prelude.{◌≡◌, ℕ, Bool, Option, List, ◌++◌, length, map, slice_get, option_map}
use Rattle.raw_network.specs.Network.{Network, State, Sent, Event, values_on, is_enabled}
use Rattle.raw_network.specs.Runs.{IsLawful, end_of, events_of, IsQuiet}
use Rattle.raw_network.specs.Waits.{first_wait}
use Rattle.raw_lockstep.specs.Lockstep.{cycles, after_cycles}
use Rattle.raw_lockstep.specs.Stalls.{Paying, with_stalls, unpaid, without_stalls, owes_at}

-- a step without its values: the wires that it takes from and sends to, in order, and the address that it touches
pub record Motion : Type 0 where
  pub from : List ℕ
  pub to : List ℕ
  pub touched : Option ℕ

abbrev pub motion_of : {L : Type 0} → Event L → Motion
motion_of e = record { from = e.from; to = map (λ (m : Sent). m.wire) e.sent; touched = e.touched }

-- what a local state asks: whether its processor is stopped, and the wires that its next step takes from and may send to
pub record Asks : Type 0 where
  pub stopped : Bool
  pub takes : List ℕ
  pub sends : List ℕ

abbrev pub asks : {L : Type 0} → Network L → ℕ → L → Asks
asks net p l = record { stopped = net.is_stopped p l; takes = net.takes p l; sends = net.sends p l }

abbrev pub asks_at : {L : Type 0} → Network L → ℕ → Option L → Option Asks
asks_at net p o = option_map (asks net p) o

-- The list h is lawful in both networks and comes to rest; in both its steps are the same but for their values, and after
-- each step all processors ask the same.
pub record MovesAlike {L M : Type 0} (a : Network L) (b : Network M) (s : State L) (t : State M) (h : List ℕ) : Type 0 where
  pub depth : a.depth ≡ b.depth
  pub many : length s.locals ≡ length t.locals
  pub width : length s.wires ≡ length t.wires
  pub wires : (w : ℕ) → length (values_on s.wires w) ≡ length (values_on t.wires w)
  pub lawful : IsLawful a s h
  pub lawful_there : IsLawful b t h
  pub quiet : IsQuiet a (end_of a s h)
  pub quiet_there : IsQuiet b (end_of b t h)
  pub moves : (p : ℕ) → map (λ e. motion_of e) (events_of a s h p) ≡ map (λ e. motion_of e) (events_of b t h p)
  pub asks : (front rest : List ℕ) (p : ℕ) → front ++ rest ≡ h →
      asks_at a p (slice_get (end_of a s front).locals p) ≡ asks_at b p (slice_get (end_of b t front).locals p)

-- then both have the same turns in each cycle, whatever touches cost
abbrev pub SameCycles : {L M : Type 0} → Network L → Network M → Type 0
SameCycles {L = L} {M = M} a b =
    (cost : ℕ → List ℕ → ℕ) (s : State L) (t : State M) (h : List ℕ) (k : ℕ) → MovesAlike a b s t h →
    cycles (with_stalls a cost) (unpaid s) k ≡ cycles (with_stalls b cost) (unpaid t) k

-- and the same processors may take a turn in the next one
abbrev pub SameTurns : {L M : Type 0} → Network L → Network M → Type 0
SameTurns {L = L} {M = M} a b =
    (cost : ℕ → List ℕ → ℕ) (s : State L) (t : State M) (h : List ℕ) (k p : ℕ) → MovesAlike a b s t h →
    is_enabled (with_stalls a cost) (after_cycles (with_stalls a cost) (unpaid s) k) p
    ≡ is_enabled (with_stalls b cost) (after_cycles (with_stalls b cost) (unpaid t) k) p

-- and they wait for the same wires
abbrev pub SameWaits : {L M : Type 0} → Network L → Network M → (ℕ → List ℕ) → (ℕ → List ℕ) → Type 0
SameWaits {L = L} {M = M} a b inputs outputs =
    (cost : ℕ → List ℕ → ℕ) (s : State L) (t : State M) (h : List ℕ) (k p : ℕ) → MovesAlike a b s t h →
    first_wait a inputs outputs (without_stalls (after_cycles (with_stalls a cost) (unpaid s) k)) p
    ≡ first_wait b inputs outputs (without_stalls (after_cycles (with_stalls b cost) (unpaid t) k)) p

-- they are stopped and owe stall turns at once
pub record AreAtOnce {L M : Type 0} (a : Network L) (b : Network M) (cost : ℕ → List ℕ → ℕ) (s : State (Paying L)) (t : State (Paying M)) (p : ℕ) : Type 0 where
  pub asks : asks_at a p (slice_get (without_stalls s).locals p) ≡ asks_at b p (slice_get (without_stalls t).locals p)
  pub owes : owes_at cost s p ≡ owes_at cost t p

abbrev pub SameStops : {L M : Type 0} → Network L → Network M → Type 0
SameStops {L = L} {M = M} a b =
    (cost : ℕ → List ℕ → ℕ) (s : State L) (t : State M) (h : List ℕ) (k p : ℕ) → MovesAlike a b s t h →
    AreAtOnce a b cost (after_cycles (with_stalls a cost) (unpaid s) k) (after_cycles (with_stalls b cost) (unpaid t) k) p
