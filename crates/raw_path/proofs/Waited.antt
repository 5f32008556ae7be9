-- What a processor waits for in the network of turns, and whose turn of the cycle before a turn needs.
use Rattle.std.proofs.Common.{◌≡◌, ℕ, suc, ◌<◌, Bool, true, false, cond, List, [], ◌∷◌, length, Option, Some, None, refl, sym, ap, ap₂, ◌∙◌, subst, arith}
use Rattle.std.specs.Prelude.{slice_get}
use Rattle.std.specs.List.{find}
use Rattle.std.proofs.lemmas.Bool.{le-ltb}
use Rattle.raw_network.specs.Network.{values_on, count_of, is_enabled}
use Rattle.raw_network.specs.Waits.{lacks_values, lacks_room, either_first, first_unmet, wait_of, IsCovered}
use Rattle.raw_network.specs.Waits.{first_wait as first_wait_in}
use Rattle.raw_lockstep.specs.Stalls.{Paying, owes, owes_from, row_wires}
use Rattle.raw_lockstep.proofs.Cycling.{enabled_there}
use Rattle.raw_lockstep.proofs.Stalling.{local_there}
use Rattle.raw_pace.specs.Path.{far_or, before_of}
use Rattle.raw_pace.proofs.Waiting.{is_before}
use Rattle.raw_grid.specs.Topology.{proc_count}
use Rattle.raw_grid.specs.Wires.{producer_of, consumer_of}
use Rattle.raw_model.specs.Program.{ProgramSet, IsSet}
use Rattle.raw_model.specs.Local.{Local}
use Rattle.raw_model.specs.Machine.{machine_of, is_stopped}
use Rattle.raw_model.specs.Rest.{is_stopped_at}
use Rattle.raw_model.specs.Waits.{inputs_at, outputs_at}
use Rattle.raw_model.proofs.Waiting.{covered}
use Rattle.raw_serial.specs.Turns.{turn_by}
use Rattle.raw_clock.specs.Clock.{cost_of, clocked, ClockState, machine_at, first_clock, clock_turns, clock, turn_in}
use Rattle.raw_clock.proofs.Clocking.{clock_wired, clock_length}
use Rattle.raw_clock.proofs.Turning.{goes_is}
use Rattle.raw_path.specs.Path.{wire_of, goes_in, before}

-- a turn waits where its step does, and it owes no stall turn
alike : (stops owing : Bool) (wait paid : Option ℕ) → paid ≡ cond owing None wait → cond stops None paid ≡ wire_of (turn_by stops owing (cond stops None wait))
alike true owing wait paid is = refl
alike false true wait paid is = is
alike false false None paid is = is
alike false false (Some w) paid is = is

-- a stall turn takes nothing and sends nothing, so no wire lacks anything
none_lacks : (wires : List (List ℕ)) (ws : List ℕ) → find (lacks_values [] wires) ws ≡ None
none_lacks wires [] = refl
none_lacks wires (w ∷ ws) =
    ap (λ b. cond b (Some w) (find (lacks_values [] wires) ws)) (le-ltb (length (values_on wires w)) 0 (omega arith)) ∙ none_lacks wires ws

none_full : (depth : ℕ) (wires : List (List ℕ)) (ws : List ℕ) → find (lacks_room depth [] wires) ws ≡ None
none_full depth wires [] = refl
none_full depth wires (w ∷ ws) = none_full depth wires ws

module _ (set : ProgramSet) where
  unmet_paid : (owing : Bool) (p : ℕ) (takes sends : List ℕ) (wires : List (List ℕ))
      → first_unmet set.depth (inputs_at set.topo p) (outputs_at set.topo p) (row_wires owing takes) (row_wires owing sends) wires
      ≡ cond owing None (first_unmet set.depth (inputs_at set.topo p) (outputs_at set.topo p) takes sends wires)
  unmet_paid false p takes sends wires = refl
  unmet_paid true p takes sends wires =
      ap₂ (λ a b. either_first a b) (none_lacks wires (inputs_at set.topo p)) (none_full set.depth wires (outputs_at set.topo p))

  -- the first wait of a processor in the network of turns is that of its turn
  pub wire_is : (c : ClockState) (p : ℕ) → first_wait_in (clocked set) (inputs_at set.topo) (outputs_at set.topo) c p ≡ wire_of (turn_in set c p)
  unfolding machine_of
  wire_is c p = from (slice_get c.locals p) refl
    where
      says : (o : Option (Paying Local)) (l : Option Local) → slice_get c.locals p ≡ o → slice_get (machine_at c).locals p ≡ l
          → wire_of (turn_in set c p)
          ≡ wire_of (turn_by (is_stopped_at set p l) (owes_from (cost_of set) p o) (wait_of (machine_of set) (inputs_at set.topo) (outputs_at set.topo) c.wires p l))
      says o l is local =
          ap₂ (λ s d. wire_of (turn_by (is_stopped_at set p s) d (wait_of (machine_of set) (inputs_at set.topo) (outputs_at set.topo) c.wires p s))) local
          (ap (λ o. owes_from (cost_of set) p o) is)

      at : (x : Paying Local) → slice_get c.locals p ≡ Some x
          → first_wait_in (clocked set) (inputs_at set.topo) (outputs_at set.topo) c p ≡ wire_of (turn_in set c p)
      at x is =
          let takes = (machine_of set).takes p x.local in
          let sends = (machine_of set).sends p x.local in
          let owing = owes (cost_of set) p x in
          let own = first_unmet set.depth (inputs_at set.topo p) (outputs_at set.topo p) takes sends c.wires in
          let paid = first_unmet set.depth (inputs_at set.topo p) (outputs_at set.topo p) (row_wires owing takes) (row_wires owing sends) c.wires in
          ap (λ o. wait_of (clocked set) (inputs_at set.topo) (outputs_at set.topo) c.wires p o) is
          ∙ alike (is_stopped set p x.local) owing own paid (unmet_paid owing p takes sends c.wires)
          ∙ sym (says (Some x) (Some x.local) is (local_there (machine_of set) (cost_of set) c p (Some x) is))

      from : (o : Option (Paying Local)) → slice_get c.locals p ≡ o
          → first_wait_in (clocked set) (inputs_at set.topo) (outputs_at set.topo) c p ≡ wire_of (turn_in set c p)
      from None is =
          ap (λ o. wait_of (clocked set) (inputs_at set.topo) (outputs_at set.topo) c.wires p o) is
          ∙ sym (says None None is (local_there (machine_of set) (cost_of set) c p None is))
      from (Some x) is = at x is

  -- the wires of turns are among those of their processors
  pub clock_covered : IsCovered (clocked set) (inputs_at set.topo) (outputs_at set.topo)
  clock_covered =
      record {
        takes = λ p x w some. (covered set).takes p x.local w (fewer (owes (cost_of set) p x) ((machine_of set).takes p x.local) w some);
        sends = λ p x w some. (covered set).sends p x.local w (fewer (owes (cost_of set) p x) ((machine_of set).sends p x.local) w some);
      }
    where
      fewer : (b : Bool) (ws : List ℕ) (w : ℕ) → 0 < count_of w (row_wires b ws) → 0 < count_of w ws
      fewer true ws w some = absurd (omega (arith, some))
      fewer false ws w some = some

  -- the turn before, as the way back has it
  pub before_is : (k p : ℕ)
      → before_of (clocked set) (producer_of set.topo) (consumer_of set.topo) (inputs_at set.topo) (outputs_at set.topo) (clock set k) p ≡ before set k p
  before_is k p = ap (λ o. far_or (producer_of set.topo) (consumer_of set.topo) p o) (wire_is (clock set k) p)

  pub record GoesBefore (k p : ℕ) : Type 0 where
    pub goes : goes_in set k (before set k p) ≡ true
    pub there : before set k p < proc_count set.topo

  -- it goes on in the cycle before
  pub goes_before : IsSet set → (k p : ℕ) → p < proc_count set.topo → goes_in set (suc k) p ≡ true → GoesBefore k p
  goes_before valid k p below on =
      let many = clock_length set valid (clock_turns set (suc k)) in
      let less = clock_length set valid (clock_turns set k) in
      let may : is_enabled (clocked set) (clock set (suc k)) p ≡ true = sym (goes_is set (clock set (suc k)) p (omega (arith, below, many))) ∙ on in
      let found =
      is_before (clocked set) (producer_of set.topo) (consumer_of set.topo) (inputs_at set.topo) (outputs_at set.topo) (clock_wired set valid) clock_covered (first_clock set) k p may in
      let went : is_enabled (clocked set) (clock set k) (before set k p) ≡ true = subst (λ q. is_enabled (clocked set) (clock set k) q ≡ true) (before_is k p) found.goes in
      let there = enabled_there (clocked set) (clock set k) (before set k p) went in
      record { goes = goes_is set (clock set k) (before set k p) there ∙ went; there = omega (arith, there, less) }
