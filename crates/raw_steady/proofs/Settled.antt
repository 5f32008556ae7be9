-- Where at rest none waits for room, it is the rest with deeper wires too.
use Rattle.std.proofs.Common.{◌≡◌, ℕ, ◌<◌, ◌≤◌, true, false, not, ◌||◌, cond, length, [], Option, Some, None, refl, sym, ap, ap₂, ◌∙◌, subst, ⊎_elim, arith}
use Rattle.std.specs.Prelude.{slice_get}
use Rattle.std.proofs.lemmas.Bool.{false≢true, false_from_ne_true, and_from, lt-ltb}
use Rattle.raw_network.specs.Network.{values_on, count_of, is_enabled}
use Rattle.raw_network.proofs.Diamond.{Ready, ready}
use Rattle.raw_network.proofs.Waits.{law_unmet, law_none_where_enabled}
use Rattle.raw_grid.specs.Topology.{proc_count}
use Rattle.raw_model.specs.Program.{ProgramSet, IsSet}
use Rattle.raw_model.specs.Local.{Local}
use Rattle.raw_model.specs.Machine.{machine_of}
use Rattle.raw_model.specs.Rest.{stopped, is_stopped_at}
use Rattle.raw_model.specs.Waits.{inputs_at, outputs_at, first_wait}
use Rattle.raw_model.proofs.Waiting.{covered}
use Rattle.raw_serial.specs.Turns.{turn_by}
use Rattle.raw_serial.specs.declared.turn.Turn.TheVariants.{Waits}
use Rattle.raw_lockstep.specs.Stalls.{Paying, owes, owes_from, without_stalls}
use Rattle.raw_lockstep.proofs.Stalling.{local_there, law_may_turn, enabled_turn}
use Rattle.raw_deeper.specs.Deeper.{with_depth}
use Rattle.raw_depth.specs.Depth.{at_depth}
use Rattle.raw_clock.specs.Clock.{cost_of, clocked, ClockState, machine_at, turn_in, is_blocked, goes, IsOver}
use Rattle.raw_clock.proofs.Turning.{goes_is}
use Rattle.raw_steady.specs.Steady.{NoneBlocked}
use Rattle.raw_steady.proofs.Depths.{net}

module _ (set : ProgramSet) (d : ℕ) (valid : IsSet set) (le : set.depth ≤ d) (c : ClockState)
    (many : length c.locals ≡ proc_count set.topo) (over : IsOver set c) (free : NoneBlocked set c) (p : ℕ) (below : p < proc_count set.topo) where
  there : p < length c.locals
  there = omega (arith, many, below)

  off : is_enabled (clocked set) c p ≡ false
  off = sym (goes_is set c p there) ∙ over p below

  is_stop : (l : Local) → slice_get (machine_at c).locals p ≡ Some l → stopped set (machine_at c) p ≡ (machine_of set).is_stopped p l
  unfolding machine_of
  is_stop l here = ap (λ o. is_stopped_at set p o) here

  module _ (may : is_enabled (with_depth (clocked set) d) c p ≡ true) where
    found : (x : Paying Local) × Ready (with_depth (clocked set) d) c p x
    found = ready (with_depth (clocked set) d) c p may

    abbrev x : Paying Local
    x = found.0

    here : slice_get c.locals p ≡ Some x
    here = found.1.here

    going : not ((machine_of set).is_stopped p x.local) ≡ true
    going = found.1.going

    running : (machine_of set).is_stopped p x.local ≡ false
    running = false_from_ne_true ((machine_of set).is_stopped p x.local) (λ e. false≢true (sym (ap not e) ∙ going))

    not_owing : owes (cost_of set) p x ≡ false
    not_owing =
        false_from_ne_true (owes (cost_of set) p x)
        (λ due. false≢true
        (sym off ∙ law_may_turn (machine_of set) (cost_of set) c p x here
        ∙ and_from (not ((machine_of set).is_stopped p x.local)) (owes (cost_of set) p x || is_enabled (machine_of set) (without_stalls c) p) going
        (ap (λ b. b || is_enabled (machine_of set) (without_stalls c) p) due)))

    local : slice_get (machine_at c).locals p ≡ Some x.local
    local = local_there (machine_of set) (cost_of set) c p (Some x) here

    has : (w : ℕ) → count_of w ((machine_of set).takes p x.local) ≤ length (values_on c.wires w)
    has w =
        subst (λ b. count_of w (cond b [] ((machine_of set).takes p x.local)) ≤ length (values_on c.wires w)) not_owing (found.1.has w)

    waits : (o : Option ℕ) → first_wait set (machine_at c) p ≡ o → ⊥
    waits None e =
        let on = (law_none_where_enabled (machine_of set) (inputs_at set.topo) (outputs_at set.topo) (covered set) (machine_at c) p x.local local running).0 e in
        false≢true (sym off ∙ enabled_turn (machine_of set) (cost_of set) c p on)
    waits (Some w) e =
        let turn : turn_in set c p ≡ Waits (record { 0 = w }) =
        ap₂ (λ s o. turn_by s o (first_wait set (machine_at c) p)) (is_stop x.local local ∙ running) (ap (λ o. owes_from (cost_of set) p o) here ∙ not_owing)
        ∙ ap (λ o. turn_by false false o) e in
        ⊎_elim
        (λ (lack : (0 < count_of w (inputs_at set.topo p)) × (length (values_on c.wires w) < count_of w ((machine_of set).takes p x.local))).
        let few = lack.1 in absurd (omega (arith, few, has w)))
        (λ (lack : (0 < count_of w (outputs_at set.topo p)) × (0 < count_of w ((machine_of set).sends p x.local)) × ((machine_of set).depth ≤ length (values_on c.wires w))).
        false≢true (sym (free p below) ∙ ap (is_blocked set p) turn ∙ lt-ltb 0 (count_of w (outputs_at set.topo p)) lack.0))
        (law_unmet (machine_of set) (inputs_at set.topo) (outputs_at set.topo) (machine_at c) p x.local w local e)

  pub still : goes (turn_in (at_depth set d) c p) ≡ false
  still =
      goes_is (at_depth set d) c p there
      ∙ false_from_ne_true (is_enabled (clocked (at_depth set d)) c p)
      (λ on. waits (subst (λ n. is_enabled n c p ≡ true) (net set d valid le) on) (first_wait set (machine_at c) p) refl)
