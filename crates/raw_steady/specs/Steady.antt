-- What is claimed of the cycles of a set with any words, with deeper wires, and of the longest way.
use Rattle.std.specs.Prelude.{◌≡◌, ℕ, zero, suc, ◌+◌, ◌&&◌, ◌<◌, ◌≤◌, Option, Some, None, Bool, true, false, List, length, slice_index_or, option_map}
use Rattle.std.specs.List.{count_by, range_with_len}
use Rattle.raw_pace.specs.Path.{TurnOf, Needs, IsChain, IsNever, next_turn, way, far_end}
use Rattle.raw_cycle.specs.Chains.{walk}
use Rattle.raw_grid.specs.declared.parts.WireId.{WireId}
use Rattle.raw_grid.specs.Topology.{proc_count}
use Rattle.raw_grid.specs.Wires.{producer_of, consumer_of}
use Rattle.raw_model.specs.Machine.{machine_of}
use Rattle.raw_model.specs.Start.{start}
use Rattle.raw_model.specs.Cache.{stream_of}
use Rattle.raw_model.specs.Waits.{inputs_at, outputs_at}
use Rattle.raw_model.specs.Program.{ProgramSet, IsSet}
use Rattle.raw_serial.specs.declared.turn.Turn.{Turn}
use Rattle.raw_serial.specs.declared.turn.Turn.TheVariants.{Fired, Stalled, Stopped, Waits}
use Rattle.raw_clock.specs.Clock.{ClockState, clocked, first_clock, clock_turns, clock, turn_in, goes, is_starved, is_blocked, spent, HasCycles}
use Rattle.raw_model.specs.Fed.{fed}
use Rattle.raw_term.specs.declared.place.Place.{Place}
use Rattle.raw_term.specs.Claims.{AreWords}
use Rattle.raw_flow.specs.Flows.{Dataflow}
use Rattle.raw_term.specs.declared.verdict.Verdict.TheVariants.{Proved}
use Rattle.raw_term.specs.Verdicts.{IsVerdict}
use Rattle.raw_term.specs.Control.{TermsRest}

-- the clocks of two sets have the same turns in each cycle, and are over after as many cycles
pub record SameClock (one other : ProgramSet) : Type 0 where
  pub turns : (k : ℕ) → clock_turns one k ≡ clock_turns other k
  pub kinds : (k p : ℕ) → turn_in one (clock one k) p ≡ turn_in other (clock other k) p
  pub spent : (n p : ℕ) (kind : Turn → Bool) → spent one n p kind ≡ spent other n p kind
  pub cycles : (n : ℕ) → HasCycles one n → HasCycles other n

-- a set whose run with terms comes to rest has one clock for all words
abbrev pub EachSameClock : Type 0
EachSameClock =
    (set : ProgramSet) (sweeps : ℕ) (one other : List ℕ) → IsSet set → TermsRest set sweeps → AreWords set one → AreWords set other →
    SameClock (fed set one) (fed set other)

-- the way back from the turn that p takes in the cycle after the first k: by its own turn of the cycle before, or by that of
-- the other end of the wire for which it waited there
abbrev pub way_back : ProgramSet → ℕ → ℕ → List TurnOf
way_back set k p = way (clocked set) (producer_of set.topo) (consumer_of set.topo) (inputs_at set.topo) (outputs_at set.topo) (first_clock set) k p

-- for each turn that goes on: the way back from it is a chain, with a turn of each cycle before
abbrev pub EachHasLongest : ProgramSet → Type 0
EachHasLongest set =
    (k p : ℕ) → p < proc_count set.topo → goes (turn_in set (clock set k) p) ≡ true →
    IsChain (clocked set) (first_clock set) (next_turn (clocked set) (first_clock set) k p) (way_back set k p)
    × (length (way_back set k p) ≡ k)

-- and it is over after as many cycles as with its own words
abbrev pub EachKeepsTime : Type 0
EachKeepsTime =
    (set : ProgramSet) (sweeps n : ℕ) (words : List ℕ) → IsSet set → TermsRest set sweeps → AreWords set words → HasCycles set n →
    HasCycles (fed set words) n

-- the set has n cycles with any words in its sources, as many as they have
abbrev pub KeepsCycles : ProgramSet → ℕ → Type 0
KeepsCycles set n = (words : List ℕ) → AreWords set words → HasCycles (fed set words) n

-- so is each set of which a claim is proved
abbrev pub EachProvedKeepsTime : Type 0
EachProvedKeepsTime =
    (set : ProgramSet) (flow : Dataflow) (places : List Place) (outs n : ℕ) (words : List ℕ) → IsSet set → IsVerdict set flow places (Proved outs) →
    AreWords set words → HasCycles set n → HasCycles (fed set words) n

-- in this state none waits for room
abbrev pub NoneBlocked : ProgramSet → ClockState → Type 0
NoneBlocked set c = (p : ℕ) → p < proc_count set.topo → is_blocked set p (turn_in set c p) ≡ false

-- the other set is this one, but for its miss streams, of which no number is greater
pub record DiffersInMisses (set other : ProgramSet) : Type 0 where
  pub machine : machine_of other ≡ machine_of set
  pub begin : start other ≡ start set
  pub fewer : (p i : ℕ) → slice_index_or (stream_of other p) i 0 ≤ slice_index_or (stream_of set p) i 0

-- where the waits of a cycle lead from a processor, in so many of them: to one that does not wait, or nowhere in these
abbrev pub root_at : Turn → ℕ → (ℕ → Option ℕ) → Option ℕ
root_at (Waits w) p next = next w.0
root_at _ p next = Some p

abbrev pub root : ProgramSet → ClockState → ℕ → ℕ → Option ℕ
root set c zero p = None
root set c (suc n) p = root_at (turn_in set c p) p (λ w. root set c n (far_end (producer_of set.topo) (consumer_of set.topo) p w))

-- one that waits can take no turn, in any order, before its root has taken one
abbrev pub EachRootIsNeeded : ProgramSet → Type 0
EachRootIsNeeded set =
    (k n p : ℕ) (w : WireId) (r : ℕ) → turn_in set (clock set k) p ≡ Waits w → root set (clock set k) (suc n) p ≡ Some r →
    Needs (clocked set) (first_clock set) (next_turn (clocked set) (first_clock set) k p) (next_turn (clocked set) (first_clock set) k r)

-- the turn of the root of p, and none where the waits come round
abbrev pub root_turn : ProgramSet → ClockState → ℕ → Option Turn
root_turn set c p = option_map (λ r. turn_in set c r) (root set c (suc (proc_count set.topo)) p)

abbrev pub is_wait : Turn → Bool
is_wait (Waits w) = true
is_wait _ = false

-- the processor for which p waits
abbrev pub wait_on : ProgramSet → ℕ → Turn → Option ℕ
wait_on set p (Waits w) = Some (far_end (producer_of set.topo) (consumer_of set.topo) p w.0)
wait_on set p _ = None

abbrev pub waits_in_cycle : ProgramSet → ClockState → ℕ → Option ℕ
waits_in_cycle set c p = wait_on set p (turn_in set c p)

-- the waits of a cycle lead from p to q, and from there back to q: they come round
pub record ComesRound (set : ProgramSet) (c : ClockState) (p : ℕ) : Type 0 where
  pub first : ℕ
  pub q : ℕ
  pub there : walk (waits_in_cycle set c) first (Some p) ≡ Some q
  pub more : ℕ
  pub back : walk (waits_in_cycle set c) (suc more) (Some q) ≡ Some q

-- who waits and has no root waits for ever: its waits come round, and no order of turns has its next one
pub record EachRingIsNever (set : ProgramSet) : Type 0 where
  pub round : (k p : ℕ) → p < proc_count set.topo → root set (clock set k) (suc (proc_count set.topo)) p ≡ None → ComesRound set (clock set k) p
  pub never : (k p : ℕ) → ComesRound set (clock set k) p → IsNever (clocked set) (first_clock set) (next_turn (clocked set) (first_clock set) k p)

-- in how many of the first n cycles p waits, and the turn of its root passes the test
abbrev pub lost : ProgramSet → ℕ → ℕ → (Option Turn → Bool) → ℕ
lost set n p test =
    count_by (λ k. is_wait (turn_in set (clock set k) p) && test (root_turn set (clock set k) p)) (range_with_len 0 n)

-- kinds of roots: one that fires, is stalled, is stopped, and none
abbrev pub at_fired : Option Turn → Bool
at_fired (Some Fired) = true
at_fired _ = false

abbrev pub at_stalled : Option Turn → Bool
at_stalled (Some Stalled) = true
at_stalled _ = false

abbrev pub at_stopped : Option Turn → Bool
at_stopped (Some Stopped) = true
at_stopped _ = false

abbrev pub at_none : Option Turn → Bool
at_none None = true
at_none _ = false

-- each lost cycle of p has one root: they add up to those in which it was starved or blocked
abbrev pub SharesAddUp : ProgramSet → ℕ → ℕ → Type 0
SharesAddUp set n p =
    lost set n p at_fired + lost set n p at_stalled + lost set n p at_stopped + lost set n p at_none
    ≡ spent set n p (is_starved set p) + spent set n p (is_blocked set p)
