-- Each cycle of a processor is spent once.
use Rattle.std.proofs.Common.{◌≡◌, ℕ, zero, suc, ◌+◌, ◌<◌, ◌≤◌, Bool, true, false, ltb, List, length, Option, Some, None, refl, ap, ◌∙◌, ⊎_elim, ◌⊎◌, inl, inr, arith}
use Rattle.std.specs.Prelude.{sum_by}
use Rattle.std.specs.List.{count_by, range_with_len}
use Rattle.std.proofs.lemmas.Bool.{cases_eq, lt-ltb, le-ltb}
use Rattle.std.proofs.lemmas.Option.{slice_get_cases}
use Rattle.raw_network.specs.Network.{values_on, count_of}
use Rattle.raw_grid.specs.Topology.{proc_count}
use Rattle.raw_model.specs.Program.{ProgramSet, IsSet}
use Rattle.raw_model.specs.Local.{Local}
use Rattle.raw_model.specs.Machine.{machine_of, takes, sends}
use Rattle.raw_model.specs.Rest.{stopped}
use Rattle.raw_model.specs.Waits.{inputs_at, outputs_at, first_wait, IsUnmet}
use Rattle.raw_model.proofs.Awaited.{wait_is_unmet}
use Rattle.raw_serial.specs.declared.turn.Turn.{Turn}
use Rattle.raw_serial.specs.declared.turn.Turn.TheVariants.{Fired, Stalled, Stopped, Waits}
use Rattle.raw_serial.specs.Turns.{turn_by}
use Rattle.raw_lockstep.proofs.Cycling.{count-append, count_filtered}
use Rattle.raw_lockstep.proofs.Stalling.{local_there}
use Rattle.raw_clock.specs.Clock.{cost_of, ClockState, machine_at, clock_turns, clock_steps, clock, owes, turn_in, is_fired, is_stalled, is_stop, waits_in, is_starved, is_blocked, waits_for_wire, fired, spent}
use Rattle.raw_clock.specs.Laws.{IsSpent}
use Rattle.raw_clock.proofs.Counting.{one_if, count_more, sum_same, sum_zero, sums_more}
use Rattle.raw_clock.proofs.Ends.{not_both, inputs_once, outputs_once}
use Rattle.raw_clock.proofs.Clocking.{clock_length, steps_more}
use Rattle.raw_clock.proofs.Lines.{never_stalled, line_adds_up}

-- five tests of which each number passes one
module _ (f g h i j : ℕ → Bool) (one : (k : ℕ) → one_if (f k) + one_if (g k) + one_if (h k) + one_if (i k) + one_if (j k) ≡ 1) where
  five_counts : (n : ℕ) → count_by f (range_with_len 0 n) + count_by g (range_with_len 0 n) + count_by h (range_with_len 0 n)
      + count_by i (range_with_len 0 n) + count_by j (range_with_len 0 n) ≡ n
  five_counts zero = refl
  five_counts (suc n) =
      let now = one (0 + n) in
      omega (arith, five_counts n, now, count_more f 0 n, count_more g 0 n, count_more h 0 n, count_more i 0 n, count_more j 0 n)

module _ (set : ProgramSet) (valid : IsSet set) (p : ℕ) where
  -- a wait is for an input or for an output, and not for both
  waits_one : (w : ℕ) → (0 < count_of w (inputs_at set.topo p)) ⊎ (0 < count_of w (outputs_at set.topo p))
      → one_if (ltb 0 (count_of w (inputs_at set.topo p))) + one_if (ltb 0 (count_of w (outputs_at set.topo p))) ≡ 1
  waits_one w either =
      ⊎_elim
      (λ (input : 0 < count_of w (inputs_at set.topo p)).
      let none : count_of w (outputs_at set.topo p) ≤ 0 =
      ⊎_elim (λ (z : count_of w (outputs_at set.topo p) ≡ 0). omega (arith, z)) (λ (nz : count_of w (outputs_at set.topo p) ≡ 0 → ⊥). absurd (not_both set.topo valid.topology p w input (omega arith)))
      (cases_eq (count_of w (outputs_at set.topo p)) 0) in
      let yes : one_if (ltb 0 (count_of w (inputs_at set.topo p))) ≡ 1 = ap (λ b. one_if b) (lt-ltb 0 (count_of w (inputs_at set.topo p)) input) in
      let no : one_if (ltb 0 (count_of w (outputs_at set.topo p))) ≡ 0 = ap (λ b. one_if b) (le-ltb 0 (count_of w (outputs_at set.topo p)) none) in
      omega (arith, yes, no))
      (λ (output : 0 < count_of w (outputs_at set.topo p)).
      let none : count_of w (inputs_at set.topo p) ≤ 0 =
      ⊎_elim (λ (z : count_of w (inputs_at set.topo p) ≡ 0). omega (arith, z)) (λ (nz : count_of w (inputs_at set.topo p) ≡ 0 → ⊥). absurd (not_both set.topo valid.topology p w (omega arith) output))
      (cases_eq (count_of w (inputs_at set.topo p)) 0) in
      let yes : one_if (ltb 0 (count_of w (outputs_at set.topo p))) ≡ 1 = ap (λ b. one_if b) (lt-ltb 0 (count_of w (outputs_at set.topo p)) output) in
      let no : one_if (ltb 0 (count_of w (inputs_at set.topo p))) ≡ 0 = ap (λ b. one_if b) (le-ltb 0 (count_of w (inputs_at set.topo p)) none) in
      omega (arith, yes, no))
      either

  abbrev IsOneOf : Turn → Type 0
  IsOneOf t = one_if (is_fired t) + one_if (is_stalled t) + one_if (is_stop t) + one_if (is_starved set p t) + one_if (is_blocked set p t) ≡ 1

  one_of : (stops owing : Bool) (wait : Option ℕ)
      → ((w : ℕ) → wait ≡ Some w → (0 < count_of w (inputs_at set.topo p)) ⊎ (0 < count_of w (outputs_at set.topo p)))
      → IsOneOf (turn_by stops owing wait)
  one_of true owing wait either = refl
  one_of false true wait either = refl
  one_of false false None either = refl
  one_of false false (Some w) either = let one = waits_one w (either w refl) in omega (arith, one)

  pub either : (l : Local) (c : ClockState) (w : ℕ) → IsUnmet set (machine_at c) p l w
      → (0 < count_of w (inputs_at set.topo p)) ⊎ (0 < count_of w (outputs_at set.topo p))
  either l c w unmet =
      ⊎_elim
      (λ (input : (0 < count_of w (inputs_at set.topo p)) × (length (values_on c.wires w) < count_of w (takes set p l))). inl input.0)
      (λ (output : (0 < count_of w (outputs_at set.topo p)) × (0 < count_of w (sends set p l)) × (set.depth ≤ length (values_on c.wires w))). inr output.0)
      unmet

  one_turn : (c : ClockState) → length c.locals ≡ proc_count set.topo → p < proc_count set.topo → IsOneOf (turn_in set c p)
  one_turn c many below =
      ⊎_elim
      (λ here.
      one_of (stopped set (machine_at c) p) (owes set c p) (first_wait set (machine_at c) p)
      (λ w waits. either here.0.local c w (wait_is_unmet set (machine_at c) p here.0.local w (local_there (machine_of set) (cost_of set) c p (Some here.0) here.2) waits)))
      (λ past. absurd (omega (arith, many, below, past.0)))
      (slice_get_cases c.locals p).1

  spent_steps : (n : ℕ) → p < proc_count set.topo → spent set n p is_fired ≡ count_of p (clock_steps set n)
  spent_steps zero below = refl
  spent_steps (suc n) below =
      let more : count_of p (clock_steps set (suc n)) ≡ count_of p (clock_steps set n) + count_of p (fired set (clock set n)) =
      ap (λ xs. count_of p xs) (steps_more set valid n) ∙ count-append p (clock_steps set n) (fired set (clock set n)) in
      let now = count_filtered (λ q. is_fired (turn_in set (clock set n) q)) (proc_count set.topo) p below in
      let same : 0 + n ≡ n = omega arith in
      let here : one_if (is_fired (turn_in set (clock set (0 + n)) p)) ≡ one_if (is_fired (turn_in set (clock set n) p)) =
      ap (λ k. one_if (is_fired (turn_in set (clock set k) p))) same in
      omega (arith, more, now, here, spent_steps n below, count_more (λ k. is_fired (turn_in set (clock set k) p)) 0 n)

module _ (ws : List ℕ) (once : (w : ℕ) → count_of w ws ≤ 1) where
  one_wait : (t : Turn) → sum_by (λ w. one_if (waits_for_wire w t)) ws ≡ one_if (waits_in ws t)
  one_wait Fired = sum_zero ws
  one_wait Stalled = sum_zero ws
  one_wait Stopped = sum_zero ws
  one_wait (Waits wire) =
      ⊎_elim
      (λ (z : count_of wire.0 ws ≡ 0).
      let none : one_if (ltb 0 (count_of wire.0 ws)) ≡ 0 = ap (λ n. one_if (ltb 0 n)) z in
      omega (arith, none, z, sum_same wire.0 ws))
      (λ (nz : count_of wire.0 ws ≡ 0 → ⊥).
      let n : count_of wire.0 ws ≡ 1 = omega (arith, once wire.0) in
      let one : one_if (ltb 0 (count_of wire.0 ws)) ≡ 1 = ap (λ n. one_if (ltb 0 n)) n in
      omega (arith, one, n, sum_same wire.0 ws))
      (cases_eq (count_of wire.0 ws) 0)

  all_waits : (turn : ℕ → Turn) (n : ℕ)
      → sum_by (λ w. count_by (λ k. waits_for_wire w (turn k)) (range_with_len 0 n)) ws ≡ count_by (λ k. waits_in ws (turn k)) (range_with_len 0 n)
  all_waits turn zero = sum_zero ws
  all_waits turn (suc n) =
      omega (
        arith,
        all_waits turn n,
        one_wait (turn (0 + n)),
        count_more (λ k. waits_in ws (turn k)) 0 n,
        sums_more (λ w. count_by (λ k. waits_for_wire w (turn k)) (range_with_len 0 (suc n))) (λ w. count_by (λ k. waits_for_wire w (turn k)) (range_with_len 0 n))
            (λ w. one_if (waits_for_wire w (turn (0 + n)))) (λ w. count_more (λ k. waits_for_wire w (turn k)) 0 n) ws,
      )

module _ (set : ProgramSet) (valid : IsSet set) where
  spent_once : (n p : ℕ) → p < proc_count set.topo → spent set n p is_fired + spent set n p is_stalled + spent set n p is_stop
      + spent set n p (is_starved set p) + spent set n p (is_blocked set p) ≡ n
  spent_once n p below =
      five_counts (λ k. is_fired (turn_in set (clock set k) p)) (λ k. is_stalled (turn_in set (clock set k) p)) (λ k. is_stop (turn_in set (clock set k) p))
      (λ k. is_starved set p (turn_in set (clock set k) p)) (λ k. is_blocked set p (turn_in set (clock set k) p))
      (λ k. one_turn set valid p (clock set k) (clock_length set valid (clock_turns set k)) below) n

  pub law_spent : (n p : ℕ) → p < proc_count set.topo → IsSpent set n p
  law_spent n p below =
      record {
        once = spent_once n p below;
        steps = spent_steps set valid p n below;
        inputs = all_waits (inputs_at set.topo p) (inputs_once set.topo p) (λ k. turn_in set (clock set k) p) n;
        outputs = all_waits (outputs_at set.topo p) (outputs_once set.topo p) (λ k. turn_in set (clock set k) p) n;
        stalled = never_stalled set valid n p;
        line = line_adds_up set valid n p (spent_once n p below);
      }
