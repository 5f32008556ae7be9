-- What is stopped stays so over a cycle.
use Rattle.std.proofs.Common.{◌≡◌, ℕ, suc, ◌<◌, Bool, true, false, cond, ltb, List, [], ◌∷◌, length, Option, Some, None, refl, sym, ap, ◌∙◌, subst, ⊎_elim, arith}
use Rattle.std.specs.Prelude.{slice_get, slice_index, option_map}
use Rattle.std.proofs.lemmas.Bool.{cases_eq}
use Rattle.raw_network.specs.Network.{Network, State, count_of, is_enabled, step}
use Rattle.raw_network.specs.Runs.{end_of}
use Rattle.raw_network.proofs.Wires.{count_here, count_there}
use Rattle.raw_network.proofs.Kth.{local_other}
use Rattle.raw_grid.specs.Topology.{proc_count}
use Rattle.raw_model.specs.Program.{ProgramSet, IsSet}
use Rattle.raw_model.specs.Local.{Local}
use Rattle.raw_model.specs.Machine.{machine_of}
use Rattle.raw_model.specs.Rest.{stopped, is_stopped_at}
use Rattle.raw_model.specs.Waits.{first_wait}
use Rattle.raw_serial.specs.declared.turn.Turn.TheVariants.{Stopped}
use Rattle.raw_serial.specs.Turns.{turn_by}
use Rattle.raw_serial.specs.Running.{Running, turn_of}
use Rattle.raw_lockstep.specs.Lockstep.{all_enabled}
use Rattle.raw_lockstep.specs.Stalls.{Paying}
use Rattle.raw_lockstep.proofs.Cycling.{count_filtered}
use Rattle.raw_lockstep.proofs.Stalling.{local_there}
use Rattle.raw_clock.specs.Clock.{cost_of, clocked, machine_at, clock_turns, clock, owes, goes}
use Rattle.raw_clock.specs.Engine.{HasTaken}
use Rattle.raw_clock.proofs.Turning.{goes_is}
use Rattle.raw_clock.proofs.Clocking.{clock_length, clock_more}
use Rattle.raw_clock.proofs.Telling.{state_told}

-- steps of others change no local state
pub apart : {L : Type 0} (net : Network L) (s : State L) (h : List ℕ) (p : ℕ) → count_of p h ≡ 0
    → slice_get (end_of net s h).locals p ≡ slice_get s.locals p
apart net s [] p none = refl
apart net s (q ∷ h) p none =
    ⊎_elim
    (λ (here : q ≡ p). absurd (omega (arith, none, subst (λ r. count_of r (q ∷ h) ≡ suc (count_of r h)) here (count_here q h))))
    (λ (ne : q ≡ p → ⊥).
    apart net (step net s q) h p (sym (count_there p q h ne) ∙ none) ∙ local_other net s q p (λ e. ne (sym e)))
    (cases_eq q p)

stops_by : (stops owing : Bool) (wait : Option ℕ) → turn_by stops owing wait ≡ Stopped → stops ≡ true
stops_by true owing wait e = refl
stops_by false true wait e = absurd (cc e)
stops_by false false None e = absurd (cc e)
stops_by false false (Some w) e = absurd (cc e)

module _ (g : ProgramSet) (valid : IsSet g) (m n : Running) (k p : ℕ) (below : p < proc_count g.topo) where
  pub stays_stopped : HasTaken g m (clock_turns g k) → HasTaken g n (clock_turns g (suc k)) → turn_of m p ≡ Stopped → turn_of n p ≡ Stopped
  stays_stopped has next is =
      let c = clock g k in
      let d = clock g (suc k) in
      let there : p < length c.locals = omega (arith, below, clock_length g valid (clock_turns g k)) in
      let stops : stopped g (machine_at c) p ≡ true =
      ap (λ s. stopped g s p) (sym (state_told g valid m (clock_turns g k) has))
      ∙ ap (λ h. stopped h m.state p) (sym has.same)
      ∙ stops_by (stopped m.set m.state p) (ltb 0 (slice_index m.owed p)) (first_wait m.set m.state p) is in
      let off : is_enabled (clocked g) c p ≡ false =
      sym (goes_is g c p there) ∙ ap (λ b. goes (turn_by b (owes g c p) (first_wait g (machine_at c) p))) stops in
      let none : count_of p (all_enabled (clocked g) c) ≡ 0 =
      count_filtered (λ q. is_enabled (clocked g) c q) (length c.locals) p there ∙ ap (λ b. cond b 1 0) off in
      let local : slice_get d.locals p ≡ slice_get c.locals p =
      ap (λ s. slice_get s.locals p) (clock_more g valid k) ∙ apart (clocked g) c (all_enabled (clocked g) c) p none in
      let same : slice_get (machine_at d).locals p ≡ slice_get (machine_at c).locals p =
      local_there (machine_of g) (cost_of g) d p _ refl
      ∙ ap (λ o. option_map (λ (x : Paying Local). x.local) o) local
      ∙ sym (local_there (machine_of g) (cost_of g) c p _ refl) in
      let then : stopped n.set n.state p ≡ true =
      ap (λ h. stopped h n.state p) next.same
      ∙ ap (λ s. stopped g s p) (state_told g valid n (clock_turns g (suc k)) next)
      ∙ ap (is_stopped_at g p) same
      ∙ stops in
      ap (λ b. turn_by b (ltb 0 (slice_index n.owed p)) (first_wait n.set n.state p)) then
