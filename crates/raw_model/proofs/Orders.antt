-- The laws of the order of steps, of the machine of a set.
use Rattle.std.proofs.Common.{◌≡◌, ℕ, ◌<◌, ◌≤◌, true, List}
use Rattle.std.specs.Prelude.{slice_get}
use Rattle.raw_network.specs.Network.{count_of}
use Rattle.raw_network.specs.Wired.{IsWired}
use Rattle.raw_network.specs.Laws.{IsPrefix, IsFirstBeyond}
use Rattle.raw_network.specs.Laws.{AreEnabled as AreBothEnabled, ComesToRest as RestsInNetwork}
use Rattle.raw_network.proofs.Networks.{law_still_enabled, law_same_state, law_same_events, law_at_most_as_often, law_same_steps, law_prefix, law_same_rest, law_same_end, law_next_is_enabled}
use Rattle.raw_grid.specs.Wires.{producer_of, consumer_of}
use Rattle.raw_model.specs.Program.{ProgramSet, IsSet}
use Rattle.raw_model.specs.Machine.{machine_of}
use Rattle.raw_model.specs.Start.{MachineState}
use Rattle.raw_model.specs.Rest.{enabled, step, IsLawfulFrom, end_from, passed_on, kth_local}
use Rattle.raw_model.specs.Cache.{touches_of}
use Rattle.raw_model.specs.Laws.{AreEnabled, ComesToRest, next_event, events_at}
use Rattle.raw_model.proofs.Wired.{wired}

both : (set : ProgramSet) (s : MachineState) (p q : ℕ) → AreEnabled set s p q → AreBothEnabled (machine_of set) s p q
both set s p q are = record { differ = are.differ; first = are.first; second = are.second }

-- a list comes to rest in the machine as in its network
pub rests : (set : ProgramSet) (s : MachineState) (h : List ℕ) → ComesToRest set s h → RestsInNetwork (machine_of set) s h
rests set s h comes = record { lawful = comes.lawful; quiet = comes.quiet }

module _ (set : ProgramSet) (valid : IsSet set) where
  is_wired : IsWired (machine_of set) (producer_of set.topo) (consumer_of set.topo)
  is_wired = wired set valid.topology

  -- each is still enabled after the step of the other
  pub still_enabled : (s : MachineState) (p q : ℕ) → AreEnabled set s p q
      → (enabled set (step set s q) p ≡ true) × (enabled set (step set s p) q ≡ true)
  still_enabled s p q are =
      law_still_enabled (machine_of set) (producer_of set.topo) (consumer_of set.topo) is_wired s p q (both set s p q are)

  -- both orders lead to the same state
  pub same_state : (s : MachineState) (p q : ℕ) → AreEnabled set s p q
      → step set (step set s p) q ≡ step set (step set s q) p
  same_state s p q are =
      law_same_state (machine_of set) (producer_of set.topo) (consumer_of set.topo) is_wired s p q (both set s p q are)

  -- each step does the same in both orders
  pub same_events : (s : MachineState) (p q : ℕ) → AreEnabled set s p q
      → (next_event set (step set s q) p ≡ next_event set s p) × (next_event set (step set s p) q ≡ next_event set s q)
  same_events s p q are =
      law_same_events (machine_of set) (producer_of set.topo) (consumer_of set.topo) is_wired s p q (both set s p q are)

  module _ (s : MachineState) (h g : List ℕ) where
    -- no processor has more steps than in a list that comes to rest
    pub at_most_as_often : ComesToRest set s h → IsLawfulFrom set s g → (p : ℕ) → count_of p g ≤ count_of p h
    at_most_as_often rest lawful =
        law_at_most_as_often (machine_of set) (producer_of set.topo) (consumer_of set.topo) is_wired s h g (rests set s h rest) lawful

    -- the local states right after k-th steps are the same
    pub same_locals : IsLawfulFrom set s h → IsLawfulFrom set s g → (p k : ℕ) → k ≤ count_of p h → k ≤ count_of p g
        → kth_local set s g p k ≡ kth_local set s h p k
    same_locals lh lg p =
        (law_same_steps (machine_of set) (producer_of set.topo) (consumer_of set.topo) is_wired s h g lh lg p).locals

    -- k-th steps do the same
    pub same_steps : IsLawfulFrom set s h → IsLawfulFrom set s g → (p i : ℕ) → i < count_of p h → i < count_of p g
        → slice_get (events_at set s g p) i ≡ slice_get (events_at set s h p) i
    same_steps lh lg p =
        (law_same_steps (machine_of set) (producer_of set.topo) (consumer_of set.topo) is_wired s h g lh lg p).events

    -- what passed begins what passed in a list that comes to rest
    pub prefix : ComesToRest set s h → IsLawfulFrom set s g → (w : ℕ)
        → IsPrefix (passed_on set s g w) (passed_on set s h w)
    prefix rest lawful =
        law_prefix (machine_of set) (producer_of set.topo) (consumer_of set.topo) is_wired s h g (rests set s h rest) lawful

    -- lists that come to rest end in the same state
    pub same_rest : ComesToRest set s h → ComesToRest set s g → end_from set s g ≡ end_from set s h
    same_rest rh rg =
        (law_same_rest (machine_of set) (producer_of set.topo) (consumer_of set.topo) is_wired s h g (rests set s h rh) (rests set s g rg)).ends

    -- pass the same on each wire
    pub same_passed : ComesToRest set s h → ComesToRest set s g → (w : ℕ)
        → passed_on set s g w ≡ passed_on set s h w
    same_passed rh rg =
        (law_same_rest (machine_of set) (producer_of set.topo) (consumer_of set.topo) is_wired s h g (rests set s h rh) (rests set s g rg)).passed_on

    -- and touch the same at each tile
    pub same_touches : ComesToRest set s h → ComesToRest set s g → (tile : ℕ)
        → touches_of set s g tile ≡ touches_of set s h tile
    same_touches rh rg =
        (law_same_rest (machine_of set) (producer_of set.topo) (consumer_of set.topo) is_wired s h g (rests set s h rh) (rests set s g rg)).touched_by

    -- lists in which each processor has as many steps end in the same state
    pub same_end : IsLawfulFrom set s h → IsLawfulFrom set s g → ((p : ℕ) → count_of p g ≡ count_of p h)
        → end_from set s g ≡ end_from set s h
    same_end lh lg counts =
        law_same_end (machine_of set) (producer_of set.topo) (consumer_of set.topo) is_wired s h g lh lg counts

    -- the first that goes beyond the other list is enabled at the other's end
    pub next_is_enabled : (front : List ℕ) (p : ℕ) (rest : List ℕ) → IsLawfulFrom set s h → IsLawfulFrom set s g
        → IsFirstBeyond h g front p rest → enabled set (end_from set s g) p ≡ true
    next_is_enabled front p rest lh lg first =
        law_next_is_enabled (machine_of set) (producer_of set.topo) (consumer_of set.topo) is_wired s h g front p rest lh lg first
