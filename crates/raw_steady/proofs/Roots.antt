-- Who waits can take no turn before the root of its wait has.
use Rattle.std.proofs.Common.{◌≡◌, ℕ, zero, suc, Bool, true, false, cond, Option, Some, None, refl, sym, ap, ap₂, ◌∙◌, subst}
use Rattle.std.specs.Prelude.{slice_get}
use Rattle.raw_network.specs.Waits.{first_unmet, wait_of}
use Rattle.raw_network.specs.Waits.{first_wait as first_wait_in}
use Rattle.raw_grid.specs.Wires.{producer_of, consumer_of}
use Rattle.raw_model.specs.Program.{ProgramSet, IsSet}
use Rattle.raw_model.specs.Local.{Local}
use Rattle.raw_model.specs.Machine.{machine_of, is_stopped}
use Rattle.raw_model.specs.Rest.{is_stopped_at}
use Rattle.raw_model.specs.Waits.{inputs_at, outputs_at}
use Rattle.raw_serial.specs.declared.turn.Turn.{Turn}
use Rattle.raw_serial.specs.declared.turn.Turn.TheVariants.{Fired, Stalled, Stopped, Waits}
use Rattle.raw_serial.specs.Turns.{turn_by}
use Rattle.raw_lockstep.specs.Stalls.{Paying, owes, owes_from, row_wires}
use Rattle.raw_lockstep.proofs.Stalling.{local_there}
use Rattle.raw_pace.specs.Path.{Needs, next_turn, far_end}
use Rattle.raw_pace.proofs.Waiting.{law_needs_go_on, law_wait_is_need}
use Rattle.raw_clock.specs.Clock.{cost_of, clocked, first_clock, ClockState, clock_turns, clock, turn_in}
use Rattle.raw_clock.proofs.Clocking.{clock_wired, turns_lawful}
use Rattle.raw_steady.specs.Steady.{root_at, root, EachRootIsNeeded}

-- the wire of a wait
abbrev pub wire_in : Turn → Option ℕ
wire_in (Waits w) = Some w.0
wire_in _ = None

none_some : (w : ℕ) → None ≡ Some w → ⊥
none_some w e = cc

same_some : (v w : ℕ) → Some v ≡ Some w → v ≡ w
same_some v w e = cc

-- what a turn that waits says
wait_says : (b o : Bool) (wait : Option ℕ) (w : ℕ) → wire_in (turn_by b o wait) ≡ Some w → (b ≡ false) × (o ≡ false) × (wait ≡ Some w)
wait_says true o wait w e = absurd (none_some w e)
wait_says false true wait w e = absurd (none_some w e)
wait_says false false None w e = absurd (none_some w e)
wait_says false false (Some v) w e = (refl, refl, e)

module _ (set : ProgramSet) (valid : IsSet set) where
  -- it waits for the same wire in the network of turns
  waits_there : (c : ClockState) (p w : ℕ) → wire_in (turn_in set c p) ≡ Some w → first_wait_in (clocked set) (inputs_at set.topo) (outputs_at set.topo) c p ≡ Some w
  unfolding machine_of
  waits_there c p w e = from (slice_get c.locals p) refl e
    where
      at : (x : Paying Local) → slice_get c.locals p ≡ Some x → wire_in (turn_in set c p) ≡ Some w → first_wait_in (clocked set) (inputs_at set.topo) (outputs_at set.topo) c p ≡ Some w
      at x here e =
          let local = local_there (machine_of set) (cost_of set) c p (Some x) here in
          let says =
          wait_says (is_stopped set p x.local) (owes (cost_of set) p x) (wait_of (machine_of set) (inputs_at set.topo) (outputs_at set.topo) c.wires p (Some x.local)) w
          (sym (ap₂ (λ s d. wire_in (turn_by (is_stopped_at set p s) d (wait_of (machine_of set) (inputs_at set.topo) (outputs_at set.topo) c.wires p s))) local (ap (λ o. owes_from (cost_of set) p o) here)) ∙ e) in
          ap (λ o. wait_of (clocked set) (inputs_at set.topo) (outputs_at set.topo) c.wires p o) here
          ∙ ap (λ b. cond (is_stopped set p x.local) None (first_unmet set.depth (inputs_at set.topo p) (outputs_at set.topo p) (row_wires b ((machine_of set).takes p x.local)) (row_wires b ((machine_of set).sends p x.local)) c.wires)) says.1
          ∙ says.2

      from : (o : Option (Paying Local)) → slice_get c.locals p ≡ o → wire_in (turn_in set c p) ≡ Some w → first_wait_in (clocked set) (inputs_at set.topo) (outputs_at set.topo) c p ≡ Some w
      from None is e =
          let local = local_there (machine_of set) (cost_of set) c p None is in
          absurd (none_some w
          (sym (ap₂ (λ s d. wire_in (turn_by (is_stopped_at set p s) d (wait_of (machine_of set) (inputs_at set.topo) (outputs_at set.topo) c.wires p s))) local (ap (λ o. owes_from (cost_of set) p o) is)) ∙ e))
      from (Some x) is e = at x is e

  abbrev pub need : ℕ → ℕ → ℕ → Type 0
  need k p q = Needs (clocked set) (first_clock set) (next_turn (clocked set) (first_clock set) k p) (next_turn (clocked set) (first_clock set) k q)

  pub next : (k p w : ℕ) → wire_in (turn_in set (clock set k) p) ≡ Some w → need k p (far_end (producer_of set.topo) (consumer_of set.topo) p w)
  next k p w e =
      law_wait_is_need (clocked set) (producer_of set.topo) (consumer_of set.topo) (inputs_at set.topo) (outputs_at set.topo) (clock_wired set valid) (first_clock set) (clock_turns set k) p w
      (turns_lawful set valid k) (waits_there (clock set k) p w e)

  pub go_on : (k p q r : ℕ) → need k p q → need k q r → need k p r
  go_on k p q r a b =
      law_needs_go_on (clocked set) (first_clock set) (next_turn (clocked set) (first_clock set) k p) (next_turn (clocked set) (first_clock set) k q) (next_turn (clocked set) (first_clock set) k r) a b

  from_wait : (k n p w r : ℕ) → wire_in (turn_in set (clock set k) p) ≡ Some w
      → root set (clock set k) n (far_end (producer_of set.topo) (consumer_of set.topo) p w) ≡ Some r → need k p r
  from_wait k zero p w r e is = absurd (none_some r is)
  from_wait k (suc n) p w r e is =
      let q = far_end (producer_of set.topo) (consumer_of set.topo) p w in
      by_turn (turn_in set (clock set k) q) refl is (λ v f more. go_on k p q r (next k p w e) (from_wait k n q v r f more))
    where
      by_turn : (t : Turn) → turn_in set (clock set k) (far_end (producer_of set.topo) (consumer_of set.topo) p w) ≡ t
          → root_at t (far_end (producer_of set.topo) (consumer_of set.topo) p w) (λ v. root set (clock set k) n (far_end (producer_of set.topo) (consumer_of set.topo) (far_end (producer_of set.topo) (consumer_of set.topo) p w) v)) ≡ Some r
          → ((v : ℕ) → wire_in (turn_in set (clock set k) (far_end (producer_of set.topo) (consumer_of set.topo) p w)) ≡ Some v
          → root set (clock set k) n (far_end (producer_of set.topo) (consumer_of set.topo) (far_end (producer_of set.topo) (consumer_of set.topo) p w) v) ≡ Some r → need k p r)
          → need k p r
      by_turn (Waits v) f is more = more v.0 (ap wire_in f) is
      by_turn Fired f is more = subst (λ x. need k p x) (same_some (far_end (producer_of set.topo) (consumer_of set.topo) p w) r is) (next k p w e)
      by_turn Stalled f is more = subst (λ x. need k p x) (same_some (far_end (producer_of set.topo) (consumer_of set.topo) p w) r is) (next k p w e)
      by_turn Stopped f is more = subst (λ x. need k p x) (same_some (far_end (producer_of set.topo) (consumer_of set.topo) p w) r is) (next k p w e)

  pub each_root_is_needed : EachRootIsNeeded set
  each_root_is_needed k n p w r e is =
      from_wait k n p w.0 r (ap wire_in e)
      (sym (ap (λ t. root_at t p (λ v. root set (clock set k) n (far_end (producer_of set.topo) (consumer_of set.topo) p v))) e) ∙ is)
