-- A state whose tiles and switches are all halted is done.
use Rattle.std.proofs.Common.{◌≡◌, ℕ, ◌<◌, Bool, true, false, cond, length, get_or, List, [], Option, Some, None, refl, sym, ap, ◌∙◌, subst, ⊎_elim}
use Rattle.std.specs.Prelude.{slice_get, slice_index_or, option_map}
use Rattle.std.proofs.lemmas.Bool.{eq-eqb, ne_eqb, false≢true}
use Rattle.std.proofs.lemmas.Option.{same_Some, slice_get_cases, slice_get-get_or}
use Rattle.raw_network.specs.Waits.{wait_of}
use Rattle.raw_grid.specs.Wires.{producer_of, consumer_of}
use Rattle.raw_grid.proofs.WireLaws.{ends_apart}
use Rattle.raw_cycle.specs.Cycles.{WaitsRound}
use Rattle.raw_model.specs.Program.{ProgramSet, IsSet}
use Rattle.raw_model.specs.Local.{Local, Tile, Switch, Source, Sink}
use Rattle.raw_model.specs.Machine.{is_stopped, machine_of}
use Rattle.raw_model.specs.Start.{MachineState, Fits}
use Rattle.raw_model.specs.Rest.{is_stopped_at, is_trapped, is_at_limit}
use Rattle.raw_model.specs.Waits.{inputs_at, outputs_at, first_wait, other_end, waits_for}
use Rattle.raw_model.specs.Outcomes.Outcome.{Done, Deadlock, Trapped, Limit, Stuck}
use Rattle.raw_model.specs.Outcomes.{Outcome, outcome, IsOutcome, is_unhalted}
use Rattle.raw_model.proofs.Awaited.{none_where_stopped}
use Rattle.raw_model.proofs.Resting.{outcome_says}
use Rattle.raw_depth.proofs.Ports.{IsSwitchPlace}
use Rattle.raw_depth.proofs.Locals.{halted_ended, unhalted_untrapped, unhalted_unlimited, at_switch, sink_waits, source_waits}
use Rattle.raw_depth.proofs.Rounds.{next_on, among_here}

module _ (set : ProgramSet) (valid : IsSet set) (t : MachineState) (fits : Fits set t) (halted : (p : ℕ) (l : Local) → slice_get t.locals p ≡ Some l → is_unhalted l ≡ false) where
  -- a tile or a switch waits for none, and a port for a switch at most
  ended_waits : (q : ℕ) (l : Local) → slice_get t.locals q ≡ Some l → is_stopped set q l ≡ true → first_wait set t q ≡ None
  ended_waits q l now stop = none_where_stopped set t q (ap (is_stopped_at set q) now ∙ stop)

  switch_waits : (q : ℕ) → IsSwitchPlace set.topo q → waits_for set t q ≡ None
  switch_waits q is =
      let there = at_switch set valid t fits q is in
      ap (option_map (other_end set.topo q))
      (ended_waits q (Switch there.0) there.1 (rw (halted_ended there.0.mark (halted q (Switch there.0) there.1)) refl))

  waits_switch : (q r : ℕ) → waits_for set t q ≡ Some r → IsSwitchPlace set.topo r
  waits_switch q r waits = by_wait (first_wait set t q) refl waits
    where
      by_wait : (o : Option ℕ) → first_wait set t q ≡ o → option_map (other_end set.topo q) o ≡ Some r → IsSwitchPlace set.topo r
      by_wait None e f = absurd (cc f)
      by_wait (Some w) e f = ⊎_elim (λ found. by_local found.0 found.2) (λ past. absurd (not_there past.1)) (slice_get_cases t.locals q).1
        where
          not_there : slice_get t.locals q ≡ None → ⊥
          not_there none =
              let no' : None ≡ Some w =
              sym (ap (λ o. wait_of (machine_of set) (inputs_at set.topo) (outputs_at set.topo) t.wires q o) none) ∙ e in
              cc no'

          ended : (l : Local) → slice_get t.locals q ≡ Some l → is_stopped set q l ≡ true → ⊥
          ended l now stop = let none = ended_waits q l now stop in cc (none, e)

          is_other : other_end set.topo q w ≡ r
          is_other = same_Some (other_end set.topo q w) r f

          by_local : (l : Local) → slice_get t.locals q ≡ Some l → IsSwitchPlace set.topo r
          by_local (Tile l) now = absurd (ended (Tile l) now (rw (halted_ended l.mark (halted q (Tile l) now)) refl))
          by_local (Switch l) now = absurd (ended (Switch l) now (rw (halted_ended l.mark (halted q (Switch l) now)) refl))
          by_local (Source l) now =
              let reads = source_waits set valid t fits q w l now e in
              let apart : consumer_of set.topo w ≡ q → ⊥ = λ same. ends_apart set.topo w valid.topology (reads.0 ∙ sym same) in
              let other : other_end set.topo q w ≡ consumer_of set.topo w =
              ap (λ b. cond b (producer_of set.topo w) (consumer_of set.topo w)) (ne_eqb (consumer_of set.topo w) q apart) in
              subst (IsSwitchPlace set.topo) (sym other ∙ is_other) reads.1
          by_local (Sink l) now =
              let fed = sink_waits set valid t fits q w l now e in
              let other : other_end set.topo q w ≡ producer_of set.topo w =
              ap (λ b. cond b (producer_of set.topo w) (consumer_of set.topo w)) (eq-eqb (consumer_of set.topo w) q fed.0) in
              subst (IsSwitchPlace set.topo) (sym other ∙ is_other) fed.1

  none_round : (p : ℕ) (ps : List ℕ) → WaitsRound (waits_for set t) p p ps → ⊥
  none_round p ps round =
      let first = next_on (waits_for set t) p ps round p (among_here p ps) in
      let second = next_on (waits_for set t) p ps round first.0 first.2 in
      let none = switch_waits first.0 (waits_switch p first.0 first.1) in
      let some = second.1 in
      cc (none, some)

  none_first : (test : Local → Bool) → ((p : ℕ) (l : Local) → slice_get t.locals p ≡ Some l → test l ≡ false) → (p : ℕ) → p < length t.locals
      → ((d : Local) → test (slice_index_or t.locals p d) ≡ true) → ⊥
  none_first test none p within passes =
      let d : Local = Source (record { done = 0; got = [] }) in
      false≢true (sym (none p (get_or t.locals p d) (slice_get-get_or t.locals p d within)) ∙ passes d)

  pub halted_done : outcome set t ≡ Done
  halted_done = by (outcome set t) (outcome_says set t valid)
    where
      by : (o : Outcome) → IsOutcome set t o → o ≡ Done
      by Done is = refl
      by (Deadlock p ps) is = absurd (none_round p ps is.cycle.waits)
      by (Trapped p) is = absurd (none_first is_trapped (λ q l now. unhalted_untrapped l (halted q l now)) p is.1.there is.1.passes)
      by (Limit p) is = absurd (none_first (is_at_limit set) (λ q l now. unhalted_unlimited set l (halted q l now)) p is.2.there is.2.passes)
      by (Stuck p) is = absurd (none_first is_unhalted (λ q l now. halted q l now) p is.3.there is.3.passes)
