-- A cycle of waits for values is there at each greater depth.
use Rattle.std.proofs.Common.{◌≡◌, ◌≢◌, ℕ, ◌<◌, ◌≤◌, Bool, true, false, cond, List, ◌∷◌, Option, Some, None, refl, sym, ap, ◌∙◌, inr, ⊎_elim, arith}
use Rattle.std.specs.Prelude.{slice_get, option_map}
use Rattle.std.specs.List.{position}
use Rattle.std.proofs.lemmas.Bool.{eqb-true, cases_lt, false≢true}
use Rattle.raw_network.specs.Waits.{wait_of}
use Rattle.raw_grid.specs.Wires.{producer_of, consumer_of}
use Rattle.raw_grid.proofs.WireLaws.{ends_apart}
use Rattle.raw_model.specs.Program.{ProgramSet, IsSet}
use Rattle.raw_model.specs.Machine.{machine_of}
use Rattle.raw_model.specs.Local.{Local, Tile, Switch, Source, Sink}
use Rattle.raw_model.specs.Start.{MachineState, Fits}
use Rattle.raw_model.specs.Rest.{IsRun, end, is_trapped, is_at_limit}
use Rattle.raw_model.specs.Waits.{inputs_at, outputs_at, first_wait, other_end, waits_for}
use Rattle.raw_model.specs.Outcomes.Outcome.{Done}
use Rattle.raw_model.specs.Outcomes.{the_cycle, first_of, outcome, is_unhalted}
use Rattle.raw_depth.specs.Depth.{at_depth, is_for_value, waits_for_value, IsValueCycle, is_among, StaysValueCycle}
use Rattle.raw_depth.proofs.Done.{no_cycle, still_done}
use Rattle.raw_depth.proofs.Locals.{none_passes, fits_at, at_switch, sink_waits, source_waits, tile_unhalted, switch_unhalted}
use Rattle.raw_depth.proofs.Rounds.{among_here, all_at, all_from, next_on, round_same}
use Rattle.raw_depth.proofs.Resting.{AreHeldIn, IsAsIn, stays_as}

first_of_done : (cycle : Option (ℕ × List ℕ)) (trapped limited unhalted : Option ℕ) → first_of cycle trapped limited unhalted ≡ Done → unhalted ≡ None
first_of_done (Some cycle) trapped limited unhalted e = absurd (cc e)
first_of_done None (Some p) limited unhalted e = absurd (cc e)
first_of_done None None (Some p) unhalted e = absurd (cc e)
first_of_done None None None (Some p) e = absurd (cc e)
first_of_done None None None None e = refl

-- where a state is done each tile and each switch has halted
done_halted : (set : ProgramSet) (s : MachineState) → outcome set s ≡ Done → (p : ℕ) (l : Local) → slice_get s.locals p ≡ Some l → is_unhalted l ≡ false
unfolding outcome
done_halted set s done p l here =
    none_passes is_unhalted s.locals (first_of_done (the_cycle set s) (position is_trapped s.locals) (position (is_at_limit set) s.locals) (position is_unhalted s.locals) done) p l here

module _ (set : ProgramSet) (s : MachineState) (p : ℕ) (ps : List ℕ) (cycle : IsValueCycle set s p ps) where
  abbrev on_it : ℕ → Bool
  on_it q = is_among q (p ∷ ps)

  record Waits (q : ℕ) : Type 0 where
    pub wire : ℕ
    pub first : first_wait set s q ≡ Some wire
    pub to : consumer_of set.topo wire ≡ q
    pub other : on_it (producer_of set.topo wire) ≡ true

  -- each waits for a value of one that stands on the cycle
  waits : (q : ℕ) → on_it q ≡ true → Waits q
  waits q on = from (first_wait set s q) refl (all_at (waits_for_value set s) (p ∷ ps) cycle.values q on)
    where
      from : (o : Option ℕ) → first_wait set s q ≡ o → is_for_value set.topo q o ≡ true → Waits q
      from None e is = absurd (cc is)
      from (Some w) e is =
          let to : consumer_of set.topo w ≡ q = eqb-true (consumer_of set.topo w) q is in
          let found = next_on (waits_for set s) p ps cycle.cycle.waits q on in
          let who : Some (producer_of set.topo w) ≡ Some found.0 =
          sym (ap (λ b. Some (cond b (producer_of set.topo w) (consumer_of set.topo w))) is) ∙ sym (ap (option_map (other_end set.topo q)) e) ∙ found.1 in
          let same : producer_of set.topo w ≡ found.0 = cc who in
          record { wire = w; first = e; to = to; other = ap on_it same ∙ found.2 }

  pub held : AreHeldIn set on_it s
  held q on = let w = waits q on in inr (w.wire, record { waits = w.first; takes = w.to; on = w.other })

module _ (set : ProgramSet) (d : ℕ) (valid : IsSet set) (le : set.depth ≤ d) (h g : List ℕ) (short : IsRun set h) (long : IsRun (at_depth set d) g)
    (p : ℕ) (ps : List ℕ) (cycle : IsValueCycle set (end set h) p ps) where
  as' : (q : ℕ) → is_among q (p ∷ ps) ≡ true → IsAsIn set d (end set h) (end (at_depth set d) g) q
  as' q on = stays_as set d valid le h g short long (on_it set (end set h) p ps cycle) (held set (end set h) p ps cycle) q on

  pub cycle_stays : StaysValueCycle set d (end set h) (end (at_depth set d) g) p ps
  cycle_stays =
      record {
        there = record {
          cycle = record {
            distinct = cycle.cycle.distinct;
            waits = round_same (waits_for set (end set h)) (waits_for (at_depth set d) (end (at_depth set d) g)) p p ps
                (λ q on. ap (option_map (other_end set.topo q)) (as' q on).waits) cycle.cycle.waits;
          };
          values = all_from (waits_for_value (at_depth set d) (end (at_depth set d) g)) (p ∷ ps)
              (λ q on. ap (is_for_value set.topo q) (as' q on).waits ∙ all_at (waits_for_value set (end set h)) (p ∷ ps) cycle.values q on);
        };
        waits = λ q on. (as' q on).waits;
      }

  -- some tile or switch of the cycle has not halted
  record IsUnhalted (s : MachineState) : Type 0 where
    pub which : ℕ
    pub on : is_among which (p ∷ ps) ≡ true
    pub l : Local
    pub here : slice_get s.locals which ≡ Some l
    pub unhalted : is_unhalted l ≡ true

  first_unhalted : IsUnhalted (end set h)
  first_unhalted = by_local (slice_get (end set h).locals p) refl
    where
      fits : Fits set (end set h)
      fits = fits_at set h valid short.lawful

      first : Waits set (end set h) p ps cycle p
      first = waits set (end set h) p ps cycle p (among_here p ps)

      by_local : (o : Option Local) → slice_get (end set h).locals p ≡ o → IsUnhalted (end set h)
      by_local None here =
          let no' : None ≡ Some first.wire =
          sym (ap (λ o. wait_of (machine_of set) (inputs_at set.topo) (outputs_at set.topo) (end set h).wires p o) here) ∙ first.first in
          absurd (cc no')
      by_local (Some (Tile l)) here =
          record { which = p; on = among_here p ps; l = Tile l; here = here; unhalted = tile_unhalted set valid (end set h) fits p first.wire l here first.first }
      by_local (Some (Switch l)) here =
          record { which = p; on = among_here p ps; l = Switch l; here = here; unhalted = switch_unhalted set valid (end set h) fits p first.wire l here first.first }
      by_local (Some (Source l)) here =
          let sends = source_waits set valid (end set h) fits p first.wire l here first.first in
          absurd (ends_apart set.topo first.wire valid.topology (sends.0 ∙ sym first.to))
      by_local (Some (Sink l)) here =
          let fed = sink_waits set valid (end set h) fits p first.wire l here first.first in
          let q : ℕ = producer_of set.topo first.wire in
          let there = at_switch set valid (end set h) fits q fed.1 in
          let second = waits set (end set h) p ps cycle q first.other in
          record { which = q; on = first.other; l = Switch there.0; here = there.1; unhalted = switch_unhalted set valid (end set h) fits q second.wire there.0 there.1 second.first }

  -- so it is not done at the greater depth
  pub not_done_deeper : outcome (at_depth set d) (end (at_depth set d) g) ≢ Done
  not_done_deeper done =
      let some = first_unhalted in
      let none = done_halted (at_depth set d) (end (at_depth set d) g) done some.which some.l ((as' some.which some.on).local ∙ some.here) in
      false≢true (sym none ∙ some.unhalted)

-- the same set at a depth within the limit
pub set_at : (set : ProgramSet) (d : ℕ) → IsSet set → 1 ≤ d → d ≤ 7 → IsSet (at_depth set d)
set_at set d valid some few =
    record {
      topology = valid.topology;
      some_steps = valid.some_steps;
      few_steps = valid.few_steps;
      some_depth = some;
      small_depth = few;
      each_port = valid.each_port;
      each_tile = valid.each_tile;
      port_programs = valid.port_programs;
      port_kinds = valid.port_kinds;
      tile_programs = valid.tile_programs;
      wires = valid.wires;
      shows = valid.shows;
      totals = record {
        instructions = valid.totals.instructions;
        switch_instructions = valid.totals.switch_instructions;
        cells = valid.totals.cells;
        misses = valid.totals.misses;
        words = valid.totals.words;
        capacities = valid.totals.capacities;
        shows = valid.totals.shows;
        shown = valid.totals.shown;
      };
    }

-- and at no lesser depth, since what is done stays done
pub never_done : (set : ProgramSet) (d : ℕ) (h g : List ℕ) (p : ℕ) (ps : List ℕ) → IsSet set → 1 ≤ d → IsRun set h → IsRun (at_depth set d) g
    → IsValueCycle set (end set h) p ps → outcome (at_depth set d) (end (at_depth set d) g) ≢ Done
never_done set d h g p ps valid some short long cycle done =
    ⊎_elim
    (λ (less : d < set.depth).
    let few : d ≤ set.depth = omega arith in
    let most = valid.small_depth in
    let valid' = set_at set d valid some (omega arith) in
    let same = still_done (at_depth set d) valid' g long done set.depth few h short valid in
    no_cycle set valid h short same p ps cycle.cycle)
    (λ (le : set.depth ≤ d). not_done_deeper set d valid le h g short long p ps cycle done)
    (cases_lt d set.depth)
