-- A set that moves alike with two lists of words has the same clock with both.
use Rattle.std.proofs.Common.{◌≡◌, ℕ, ◌^◌, ◌<◌, true, List, Option, Some, None, refl, sym, ap, ap₂, ◌∙◌, subst, arith}
use Rattle.std.proofs.lemmas.List.Concat.{length-flat_map}
use Rattle.std.specs.Prelude.{slice_get}
use Rattle.std.specs.List.{count_by, range_with_len}
use Rattle.std.proofs.Math.Path.{fun_ext}
use Rattle.raw_network.specs.Network.{is_enabled}
use Rattle.raw_network.specs.Runs.{IsQuiet}
use Rattle.raw_grid.specs.Wires.{producer_of, consumer_of}
use Rattle.raw_model.specs.Program.{ProgramSet, PortProgram, IsSet, IsPortProgram}
use Rattle.raw_model.specs.Machine.{machine_of}
use Rattle.raw_model.specs.Start.{start}
use Rattle.raw_model.proofs.Wired.{wired}
use Rattle.raw_pace.proofs.Control.{law_same_cycles, law_same_turns, law_same_waits, law_same_stops}
use Rattle.raw_pace.specs.Control.{Asks, asks, asks_at, AreAtOnce}
use Rattle.raw_serial.specs.Turns.{turn_by}
use Rattle.raw_model.specs.Local.{Local}
use Rattle.raw_model.specs.Rest.{is_stopped_at, stopped}
use Rattle.raw_model.specs.Waits.{inputs_at, outputs_at, first_wait}
use Rattle.raw_term.proofs.Terms.{some_is, none_some}
use Rattle.raw_clock.specs.Clock.{cost_of, clocked, machine_at, owes, clock_turns, clock, turn_in, GoesOn, HasCycles}
use Rattle.raw_clock.proofs.Clocking.{clock_length, over_if_quiet, quiet_if_over, goes_on_if}
use Rattle.raw_clock.proofs.Turning.{goes_is}
use Rattle.raw_model.specs.Fed.{fed}
use Rattle.raw_term.specs.TermMachine.{numbered}
use Rattle.raw_term.specs.Claims.{AreWords}
use Rattle.raw_term.specs.Control.{MovesAlikeWith, EachMovesAlike}
use Rattle.raw_term.specs.Verdicts.{ran, first_run}
use Rattle.raw_model.proofs.Fed.{all_at, fed_set}
use Rattle.raw_term.proofs.Claims.{proof_of, same_inputs}
use Rattle.raw_term.proofs.Own.{words_in, own_words, own_ports, own_all}
use Rattle.raw_steady.specs.Steady.{SameClock, EachSameClock, EachKeepsTime, EachProvedKeepsTime}

module _ (set : ProgramSet) (valid : IsSet set) (one other : List ℕ) (a : AreWords set one) (b : AreWords set other) (moves : MovesAlikeWith set one other) where
  abbrev A : ProgramSet
  A = fed set one

  abbrev B : ProgramSet
  B = fed set other

  valid_a : IsSet A
  valid_a = fed_set set one (all_at (λ w. w < 2 ^ 32) one a.words) valid

  valid_b : IsSet B
  valid_b = fed_set set other (all_at (λ w. w < 2 ^ 32) other b.words) valid

  turns : (k : ℕ) → clock_turns A k ≡ clock_turns B k
  turns k =
      law_same_cycles (machine_of A) (machine_of B) (producer_of set.topo) (consumer_of set.topo) (wired A valid_a.topology) (wired B valid_b.topology) (cost_of set)
      (start A) (start B) moves.steps k moves.alike

  same : (k p : ℕ) → is_enabled (clocked A) (clock A k) p ≡ is_enabled (clocked B) (clock B k) p
  same k p =
      law_same_turns (machine_of A) (machine_of B) (producer_of set.topo) (consumer_of set.topo) (wired A valid_a.topology) (wired B valid_b.topology) (cost_of set)
      (start A) (start B) moves.steps k p moves.alike

  pub has_cycles : (n : ℕ) → HasCycles A n → HasCycles B n
  has_cycles n has =
      record {
        over =
            let quiet : IsQuiet (clocked A) (clock A n) = quiet_if_over A valid_a (clock A n) (clock_length A valid_a (clock_turns A n)) has.over in
            over_if_quiet B valid_b (clock B n) (clock_length B valid_b (clock_turns B n)) (λ p. sym (same n p) ∙ quiet p);
        before =
            λ k below.
            let on : GoesOn A (clock A k) = has.before k below in
            let there = on.there in
            let many = clock_length A valid_a (clock_turns A k) in
            let may : is_enabled (clocked A) (clock A k) on.p ≡ true = sym (goes_is A (clock A k) on.p (omega (arith, there, many))) ∙ on.does in
            goes_on_if B valid_b (clock B k) (clock_length B valid_b (clock_turns B k)) on.p (sym (same k on.p) ∙ may);
      }

  stopped_by : (p : ℕ) (o q : Option Local) → asks_at (machine_of A) p o ≡ asks_at (machine_of B) p q → is_stopped_at A p o ≡ is_stopped_at B p q
  unfolding machine_of
  stopped_by p None None e = refl
  stopped_by p None (Some m) e = none_some (asks (machine_of B) p m) e
  stopped_by p (Some l) None e = none_some (asks (machine_of A) p l) (sym e)
  stopped_by p (Some l) (Some m) e = ap (λ (x : Asks). x.stopped) (some_is (asks (machine_of A) p l) (asks (machine_of B) p m) e)

  kinds : (k p : ℕ) → turn_in A (clock A k) p ≡ turn_in B (clock B k) p
  kinds k p =
      let at : AreAtOnce (machine_of A) (machine_of B) (cost_of set) (clock A k) (clock B k) p =
      law_same_stops (machine_of A) (machine_of B) (producer_of set.topo) (consumer_of set.topo) (wired A valid_a.topology) (wired B valid_b.topology) (cost_of set)
      (start A) (start B) moves.steps k p moves.alike in
      let wait : first_wait A (machine_at (clock A k)) p ≡ first_wait B (machine_at (clock B k)) p =
      law_same_waits (machine_of A) (machine_of B) (producer_of set.topo) (consumer_of set.topo) (wired A valid_a.topology) (wired B valid_b.topology)
      (inputs_at set.topo) (outputs_at set.topo) (cost_of set) (start A) (start B) moves.steps k p moves.alike in
      let stop : stopped A (machine_at (clock A k)) p ≡ stopped B (machine_at (clock B k)) p =
      stopped_by p (slice_get (machine_at (clock A k)).locals p) (slice_get (machine_at (clock B k)).locals p) at.asks in
      ap₂ (λ s o. turn_by s o (first_wait A (machine_at (clock A k)) p)) stop at.owes
      ∙ ap (λ w. turn_by (stopped B (machine_at (clock B k)) p) (owes B (clock B k) p) w) wait

  pub same_clock : SameClock A B
  same_clock =
      record {
        turns = turns;
        kinds = kinds;
        spent = λ n p kind. ap (λ f. count_by f (range_with_len 0 n)) (fun_ext (λ k. ap kind (kinds k p)));
        cycles = has_cycles;
      }

pub each_same_clock : EachMovesAlike → EachSameClock
each_same_clock moves set sweeps one other valid terms a b = same_clock set valid one other a b (moves set sweeps one other valid terms a b)

pub each_keeps_time : EachMovesAlike → EachKeepsTime
each_keeps_time moves set sweeps n words valid terms are has =
    let own : List ℕ = own_words set.ports in
    let own_are : AreWords set own = record { each = length-flat_map words_in set.ports; words = own_all set.ports (all_at IsPortProgram set.ports valid.port_programs) } in
    let whole : fed set own ≡ set = ap (λ (ports : List PortProgram). record set { ports = ports }) (own_ports set.ports) in
    (each_same_clock moves set sweeps own words valid terms own_are are).cycles n (subst (λ s. HasCycles s n) (sym whole) has)

pub each_proved_keeps_time : EachMovesAlike → EachProvedKeepsTime
each_proved_keeps_time moves set flow places outs n words valid verdict are has =
    let known = same_inputs set flow places outs verdict in
    let proof = proof_of set flow places outs (ran (numbered set) known.1.sweeps (first_run set)) known.1.ended known.1.is in
    each_keeps_time moves set known.1.sweeps n words valid (record { free = proof.free; rests = proof.rests }) are has
