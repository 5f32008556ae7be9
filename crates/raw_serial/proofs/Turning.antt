-- A turn of one processor as a turn of the machine.
use Rattle.std.proofs.Common.{◌≡◌, ℕ, Bool, true, List, set, Some, refl, sym, ap, ◌∙◌}
use Rattle.std.specs.Prelude.{slice_get}
use Rattle.raw_network.specs.Network.{fronts, taken, appended, row_at}
use Rattle.raw_network.specs.Waits.{wait_of}
use Rattle.raw_network.proofs.Parts.{step_parts}
use Rattle.raw_network.proofs.Waits.{law_none_where_enabled}
use Rattle.raw_model.specs.Program.{ProgramSet, IsSet}
use Rattle.raw_model.specs.Local.{Local}
use Rattle.raw_model.specs.Machine.{takes, is_stopped, machine_of}
use Rattle.raw_model.specs.Start.{MachineState, Fits}
use Rattle.raw_model.specs.Rest.{step, enabled, stopped, is_stopped_at}
use Rattle.raw_model.specs.Waits.{inputs_at, outputs_at, first_wait}
use Rattle.raw_model.proofs.Fitting.{step_fits}
use Rattle.raw_model.proofs.Waiting.{covered}
use Rattle.raw_serial.specs.declared.turn.Turn.{Turn}
use Rattle.raw_serial.specs.declared.turn.Turn.TheVariants.{Fired}
use Rattle.raw_serial.specs.Turns.{turn_by, turn_at, IsTurn}
use Rattle.raw_serial.proofs.Fields.{set_same}
use Rattle.raw_serial.proofs.Stepping.{fired_parts}

-- the state of a machine after a turn of processor p
abbrev pub state_after : Turn → ProgramSet → MachineState → ℕ → MachineState
state_after Fired set s p = step set s p
state_after _ set s p = s

module _ (g : ProgramSet) (s : MachineState) (p : ℕ) (l : Local) (here : slice_get s.locals p ≡ Some l) where
  -- the turn of a processor is that of its local state
  pub turn_is : (owes : Bool) (turn : Turn) → turn ≡ turn_at g p owes l s.wires
      → turn ≡ turn_by (stopped g s p) owes (first_wait g s p)
  turn_is owes turn e =
      e
      ∙ ap (λ o. turn_by (is_stopped_at g p o) owes (wait_of (machine_of g) (inputs_at g.topo) (outputs_at g.topo) s.wires p o)) (sym here)

  -- a processor that fires is enabled
  pub enabled_is : (owes : Bool) → Fired ≡ turn_at g p owes l s.wires → enabled g s p ≡ true
  unfolding machine_of
  enabled_is owes e =
      let parts = fired_parts (is_stopped g p l) owes (wait_of (machine_of g) (inputs_at g.topo) (outputs_at g.topo) s.wires p (Some l)) e in
      (law_none_where_enabled (machine_of g) (inputs_at g.topo) (outputs_at g.topo) (covered g) s p l here parts.0).0
      (ap (λ o. wait_of (machine_of g) (inputs_at g.topo) (outputs_at g.topo) s.wires p o) here ∙ parts.1)

  -- the state after a step, and after a turn without one
  step_state : (next : Local) (later : List (List ℕ)) → next ≡ (row_at (machine_of g) p l s.wires).next
      → later ≡ appended (row_at (machine_of g) p l s.wires).sent (taken (takes g p l) s.wires)
      → ◌≡◌ {A = MachineState} record { locals = set s.locals p next; wires = later } (step g s p)
  unfolding machine_of
  step_state next later en el =
      step_parts (machine_of g) s p l here (takes g p l) (fronts (takes g p l) s.wires) (taken (takes g p l) s.wires)
      next (row_at (machine_of g) p l s.wires).sent (set s.locals p next) later refl refl refl en refl refl el

  kept_state : (next : Local) (later : List (List ℕ)) → next ≡ l → later ≡ s.wires
      → ◌≡◌ {A = MachineState} record { locals = set s.locals p next; wires = later } s
  kept_state next later en el =
      let same : set s.locals p next ≡ s.locals = ap (set s.locals p) en ∙ set_same s.locals p l here in
      λ i. record { locals = same i; wires = el i }

  -- the state after a turn
  pub state_is : (owes : Bool) (turn : Turn) (next : Local) (later : List (List ℕ)) → IsTurn g p owes turn l next s.wires later
      → ◌≡◌ {A = MachineState} record { locals = set s.locals p next; wires = later } (state_after turn g s p)
  state_is owes Fired next later is = step_state next later is.local is.wires
  state_is owes turn next later is = kept_state next later is.local is.wires

  -- a turn keeps a state that fits
  pub fits_after : IsSet g → (owes : Bool) (turn : Turn) → turn ≡ turn_at g p owes l s.wires → Fits g s → Fits g (state_after turn g s p)
  fits_after valid owes Fired e fits = step_fits g valid s p fits (enabled_is owes e)
  fits_after valid owes turn e fits = fits
