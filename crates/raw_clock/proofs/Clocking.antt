-- The clock of a set: its steps are lawful, it comes to an end, and no schedule is shorter.
use Rattle.std.proofs.Common.{◌≡◌, ℕ, zero, suc, ◌+◌, ◌-◌, ◌<◌, ◌≤◌, true, cond, List, [], ◌∷◌, ◌++◌, length, refl, sym, ap, ◌∙◌, subst, ⊎_elim, arith}
use Rattle.std.specs.Prelude.{sum}
use Rattle.std.proofs.lemmas.List.{length-map}
use Rattle.std.proofs.lemmas.List.Sums.{sum_by-take-le}
use Rattle.std.specs.List.{range_with_len}
use Rattle.std.proofs.lemmas.Bool.{false≢true, cases_eq, cases_lt}
use Rattle.raw_network.specs.Network.{count_of, is_enabled, step}
use Rattle.raw_network.specs.Runs.{IsLawful, end_of, IsQuiet, touches}
use Rattle.raw_network.specs.Wired.{IsWired, IsBounded}
use Rattle.raw_network.proofs.Wires.{count_there}
use Rattle.raw_network.proofs.Steps.{end_of-append}
use Rattle.raw_network.proofs.Rests.{enabled_or_quiet}
use Rattle.raw_grid.specs.Topology.{proc_count}
use Rattle.raw_grid.specs.Wires.{producer_of, consumer_of}
use Rattle.raw_model.specs.Program.{ProgramSet, IsSet}
use Rattle.raw_model.specs.Local.{Local}
use Rattle.raw_model.specs.Machine.{machine_of}
use Rattle.raw_model.specs.Start.{Fits, start}
use Rattle.raw_model.specs.Rest.{IsRun}
use Rattle.raw_model.specs.Cache.{stream_of, misses}
use Rattle.raw_model.specs.Bounds.{steps_left}
use Rattle.raw_model.proofs.Wired.{wired}
use Rattle.raw_model.proofs.Finite.{bounded}
use Rattle.raw_model.proofs.Starting.{start_fits}
use Rattle.raw_model.proofs.Fitting.{end_fits}
use Rattle.raw_serial.specs.declared.turn.Turn.{Turn}
use Rattle.raw_serial.specs.declared.turn.Turn.TheVariants.{Fired}
use Rattle.raw_lockstep.specs.Lockstep.{all_enabled, cycles, after_cycles, first_rounds, IsReordered, DoesTheSame}
use Rattle.raw_lockstep.specs.Stalls.{Paying, without_stalls, paid_by, all_fired, IsStepSchedule}
use Rattle.raw_lockstep.proofs.Cycling.{past_not_enabled, enabled_there, count_filtered, law_cycles_are_lawful, law_any_order, law_cycle_is_round, round_lawful, law_at_most_once, law_none_sooner, law_none_rests_sooner, law_cycles_rest, long_or_quiet}
use Rattle.raw_lockstep.proofs.Stalling.{length_end, without_unpaid, untouched, steps_in-append, law_stays_wired, law_stays_bounded, law_steps_of_turns, law_rests_too, law_cycle_fires, law_none_steps_sooner, law_no_steps_sooner, unpaid_none}
use Rattle.raw_clock.specs.Clock.{cost_of, clocked, ClockState, machine_at, first_clock, clock_turns, steps_of, clock_steps, clock, turn_in, is_fired, is_stalled, goes, fired, IsOver, GoesOn, HasCycles, stalls_paid}
use Rattle.raw_clock.specs.Laws.{IsClockAt, CycleInAnyOrder, IsTurnSchedule, NoneIsSooner, steps_by}
use Rattle.raw_clock.proofs.Counting.{sum_counts, sums_more}
use Rattle.raw_clock.proofs.Turning.{goes_is, all_fired_is}

-- a turn that goes on is a step or a stall turn
goes_one : (t : Turn) → cond (goes t) 1 0 ≡ cond (is_fired t) 1 0 + cond (is_stalled t) 1 0
goes_one Fired = refl
goes_one _ = refl

module _ (set : ProgramSet) (valid : IsSet set) where
  pub clock_wired : IsWired (clocked set) (producer_of set.topo) (consumer_of set.topo)
  clock_wired = law_stays_wired (machine_of set) (cost_of set) (producer_of set.topo) (consumer_of set.topo) (wired set valid.topology)

  pub clock_length : (h : List ℕ) → length (end_of (clocked set) (first_clock set) h).locals ≡ proc_count set.topo
  clock_length h =
      length_end (clocked set) (first_clock set) h
      ∙ length-map (start set).locals (λ (l : Local). let x : Paying Local = record { local = l; touched = []; paid = 0 } in x)
      ∙ (start_fits set valid).processors

  pub turns_lawful : (k : ℕ) → IsLawful (clocked set) (first_clock set) (clock_turns set k)
  turns_lawful k = law_cycles_are_lawful (clocked set) (producer_of set.topo) (consumer_of set.topo) clock_wired (first_clock set) k

  pub steps_more : (k : ℕ) → clock_steps set (suc k) ≡ clock_steps set k ++ fired set (clock set k)
  steps_more k =
      steps_in-append (machine_of set) (cost_of set) (first_clock set) (clock_turns set k) (all_enabled (clocked set) (clock set k))
      ∙ ap (λ xs. clock_steps set k ++ xs)
      ((law_cycle_fires (machine_of set) (cost_of set) (clock set k)).steps ∙ sym (all_fired_is set (clock set k) (clock_length (clock_turns set k))))

  pub clock_more : (k : ℕ) → clock set (suc k) ≡ end_of (clocked set) (clock set k) (all_enabled (clocked set) (clock set k))
  clock_more k = end_of-append (clocked set) (first_clock set) (clock_turns set k) (all_enabled (clocked set) (clock set k))

  paid_more : (k p : ℕ) → p < proc_count set.topo
      → paid_by (clock set (suc k)) p ≡ paid_by (clock set k) p + cond (is_stalled (turn_in set (clock set k) p)) 1 0
  paid_more k p below =
      let many = clock_length (clock_turns set k) in
      let there : p < length (clock set k).locals = omega (arith, many, below) in
      let all = all_enabled (clocked set) (clock set k) in
      let round = (law_cycle_is_round (clocked set) (clock set k)).is_round in
      let lawful : IsLawful (clocked set) (clock set k) all =
      round_lawful (clocked set) (producer_of set.topo) (consumer_of set.topo) clock_wired (clock set k) all round.once round.enabled in
      let steps = law_steps_of_turns (machine_of set) (cost_of set) (clock set k) all lawful in
      let turned : count_of p all ≡ cond (goes (turn_in set (clock set k) p)) 1 0 =
      count_filtered (λ q. is_enabled (clocked set) (clock set k) q) (length (clock set k).locals) p there
      ∙ ap (λ b. cond b 1 0) (sym (goes_is set (clock set k) p there)) in
      let stepped : count_of p (steps_of set (clock set k) all) ≡ cond (is_fired (turn_in set (clock set k) p)) 1 0 =
      ap (λ xs. count_of p xs) ((law_cycle_fires (machine_of set) (cost_of set) (clock set k)).steps ∙ sym (all_fired_is set (clock set k) many))
      ∙ count_filtered (λ q. is_fired (turn_in set (clock set k) q)) (proc_count set.topo) p below in
      let after : paid_by (clock set (suc k)) p ≡ paid_by (end_of (clocked set) (clock set k) all) p = ap (λ c. paid_by c p) (clock_more k) in
      omega (arith, steps.paid p, turned, stepped, after, goes_one (turn_in set (clock set k) p))

  pub law_clock_at : (k : ℕ) → IsClockAt set k
  law_clock_at k =
      let steps = law_steps_of_turns (machine_of set) (cost_of set) (first_clock set) (clock_turns set k) (turns_lawful k) in
      let same : without_stalls (first_clock set) ≡ start set = without_unpaid (start set) in
      record {
        lawful = subst (λ s. IsLawful (machine_of set) s (clock_steps set k)) same steps.lawful;
        there = subst (λ s. end_of (machine_of set) s (clock_steps set k) ≡ machine_at (clock set k)) same steps.ends;
        touched =
            λ p.
            steps.touched p
            ∙ ap (λ xs. xs ++ touches (machine_of set) (without_stalls (first_clock set)) (clock_steps set k) p) (untouched (start set) p)
            ∙ ap (λ s. touches (machine_of set) s (clock_steps set k) p) same;
        cycle = steps_more k;
        paid = paid_more k;
      }

  pub law_cycle_in_any_order : (k : ℕ) → CycleInAnyOrder set k
  law_cycle_in_any_order k other =
      subst (λ xs. IsReordered xs other → DoesTheSame (machine_of set) (machine_at (clock set k)) xs other)
      (sym (all_fired_is set (clock set k) (clock_length (clock_turns set k))))
      (λ same. law_any_order (machine_of set) (producer_of set.topo) (consumer_of set.topo) (wired set valid.topology) (machine_at (clock set k))
      (all_fired (machine_of set) (cost_of set) (clock set k)) other (law_cycle_fires (machine_of set) (cost_of set) (clock set k)).is_round same)

  -- over, and quiet
  pub over_if_quiet : (c : ClockState) → length c.locals ≡ proc_count set.topo → IsQuiet (clocked set) c → IsOver set c
  over_if_quiet c many quiet p below = goes_is set c p (omega (arith, many, below)) ∙ quiet p

  pub quiet_if_over : (c : ClockState) → length c.locals ≡ proc_count set.topo → IsOver set c → IsQuiet (clocked set) c
  quiet_if_over c many over p =
      ⊎_elim
      (λ (there : p < length c.locals). sym (goes_is set c p there) ∙ over p (omega (arith, many, there)))
      (λ (past : length c.locals ≤ p). past_not_enabled (clocked set) c p past)
      (cases_lt p (length c.locals))

  pub goes_on_if : (c : ClockState) → length c.locals ≡ proc_count set.topo → (p : ℕ) → is_enabled (clocked set) c p ≡ true → GoesOn set c
  goes_on_if c many p e =
      let there = enabled_there (clocked set) c p e in
      record { p = p; there = omega (arith, many, there); does = goes_is set c p there ∙ e }

  not_quiet : (c : ClockState) → length c.locals ≡ proc_count set.topo → GoesOn set c → IsQuiet (clocked set) c → ⊥
  not_quiet c many on quiet = false≢true (sym (over_if_quiet c many quiet on.p on.there) ∙ on.does)

  -- the least number of cycles after which it is over
  least : (fuel j : ℕ) → ((i : ℕ) → i < j → GoesOn set (clock set i)) → IsQuiet (clocked set) (clock set (j + fuel)) → (n : ℕ) × HasCycles set n
  least zero j before quiet =
      let same : j + 0 ≡ j = omega arith in
      (j, record { over = over_if_quiet (clock set j) (clock_length (clock_turns set j)) (subst (λ i. IsQuiet (clocked set) (clock set i)) same quiet); before = before })
  least (suc fuel) j before quiet =
      ⊎_elim
      (λ (e : (p : ℕ) × (is_enabled (clocked set) (clock set j) p ≡ true)).
      let same : j + suc fuel ≡ suc j + fuel = omega arith in
      let now = goes_on_if (clock set j) (clock_length (clock_turns set j)) e.0 e.1 in
      least fuel (suc j)
      (λ i below.
      ⊎_elim
      (λ (earlier : i < j). before i earlier)
      (λ (late : j ≤ i). let is : j ≡ i = omega (arith, below, late) in subst (λ k. GoesOn set (clock set k)) is now)
      (cases_lt i j))
      (subst (λ i. IsQuiet (clocked set) (clock set i)) same quiet))
      (λ (rest : IsQuiet (clocked set) (clock set j)).
      (j, record { over = over_if_quiet (clock set j) (clock_length (clock_turns set j)) rest; before = before }))
      (enabled_or_quiet (clocked set) (clock set j))

  costs_few : (p : ℕ) (touched : List ℕ) → cost_of set p touched ≤ sum (stream_of set p)
  costs_few p touched = sum_by-take-le (λ x. x) (stream_of set p) (misses touched)

  pub clock_bounded : IsBounded (clocked set) (λ p x. Unit {0}) (λ p x. steps_left set p x.local + (sum (stream_of set p) - x.paid))
  clock_bounded =
      law_stays_bounded (machine_of set) (cost_of set) (λ p l. Unit {0}) (steps_left set) (λ p. sum (stream_of set p)) (bounded set) costs_few

  pub law_ends : (n : ℕ) × HasCycles set n
  law_ends =
      let found =
      law_cycles_rest (clocked set) (producer_of set.topo) (consumer_of set.topo) clock_wired (λ p x. Unit {0})
      (λ p x. steps_left set p x.local + (sum (stream_of set p) - x.paid)) clock_bounded (first_clock set) (λ p x here. tt) in
      let same : 0 + found.0 ≡ found.0 = omega arith in
      least found.0 0 (λ i below. absurd (omega arith)) (subst (λ i. IsQuiet (clocked set) (clock set i)) (sym same) found.2)

  pub law_rests : (n : ℕ) → HasCycles set n → IsRun set (clock_steps set n)
  law_rests n has =
      let at = law_clock_at n in
      record {
        lawful = at.lawful;
        quiet =
            subst (λ s. IsQuiet (machine_of set) s) (sym at.there)
            (law_rests_too (machine_of set) (cost_of set) (clock set n) (quiet_if_over (clock set n) (clock_length (clock_turns set n)) has.over));
      }

  pub law_no_step_sooner : (rounds : List (List ℕ)) (k p : ℕ) → IsTurnSchedule set rounds
      → count_of p (steps_by set k rounds) ≤ count_of p (clock_steps set k)
  law_no_step_sooner rounds k p is =
      law_none_steps_sooner (machine_of set) (cost_of set) (producer_of set.topo) (consumer_of set.topo) (wired set valid.topology) (first_clock set) rounds k p is

  pub law_no_turn_sooner : (rounds : List (List ℕ)) (k p : ℕ) → IsTurnSchedule set rounds
      → count_of p (first_rounds k rounds) ≤ count_of p (clock_turns set k)
  law_no_turn_sooner rounds k p is =
      law_none_sooner (clocked set) (producer_of set.topo) (consumer_of set.topo) clock_wired (first_clock set) rounds k p is

  pub law_none_over_sooner : (n : ℕ) → HasCycles set n → NoneIsSooner set n
  law_none_over_sooner n has rounds k is over =
      ⊎_elim
      (λ (early : k < n).
      let quiet = quiet_if_over (end_of (clocked set) (first_clock set) (first_rounds k rounds)) (clock_length (first_rounds k rounds)) over in
      let same = law_none_rests_sooner (clocked set) (producer_of set.topo) (consumer_of set.topo) clock_wired (first_clock set) rounds k is quiet in
      absurd (not_quiet (clock set k) (clock_length (clock_turns set k)) (has.before k early) (subst (λ c. IsQuiet (clocked set) c) (sym same) quiet)))
      (λ (late : n ≤ k). late)
      (cases_lt k n)

  pub law_step_schedule : (rounds : List (List ℕ)) (k p : ℕ) → IsStepSchedule (machine_of set) (cost_of set) (first_clock set) rounds
      → count_of p (first_rounds k rounds) ≤ count_of p (clock_steps set k)
  law_step_schedule rounds k p is =
      law_no_steps_sooner (machine_of set) (cost_of set) (producer_of set.topo) (consumer_of set.topo) (wired set valid.topology) (first_clock set) rounds k p is

  pub law_steps_at_least : (n p : ℕ) → count_of p (clock_steps set n) ≤ n
  law_steps_at_least n p =
      omega (
        arith,
        law_at_most_once (clocked set) (first_clock set) n p,
        (law_steps_of_turns (machine_of set) (cost_of set) (first_clock set) (clock_turns set n) (turns_lawful n)).paid p,
        unpaid_none (start set) p,
      )

  pub law_at_least : (n p : ℕ) → count_of p (clock_turns set n) ≤ n
  law_at_least n p = law_at_most_once (clocked set) (first_clock set) n p

  -- as many cycles as go on have as many turns
  pub long_by : (n : ℕ) → ((i : ℕ) → i < n → GoesOn set (clock set i)) → n ≤ length (clock_turns set n)
  long_by n before =
      ⊎_elim
      (λ (long : n ≤ length (clock_turns set n)). long)
      (λ (found : (j : ℕ) × (j < n) × (j ≤ length (cycles (clocked set) (first_clock set) j)) × IsQuiet (clocked set) (after_cycles (clocked set) (first_clock set) j)).
      absurd (not_quiet (clock set found.0) (clock_length (clock_turns set found.0)) (before found.0 found.1) found.3))
      (long_or_quiet (clocked set) (producer_of set.topo) (consumer_of set.topo) clock_wired (λ p x. Unit {0})
      (λ p x. steps_left set p x.local + (sum (stream_of set p) - x.paid)) clock_bounded (first_clock set) n)

  -- the processors of turns are there
  turns_within : (c : ClockState) (h : List ℕ) → length c.locals ≡ proc_count set.topo → IsLawful (clocked set) c h
      → (p : ℕ) → 0 < count_of p h → p < proc_count set.topo
  turns_within c [] many lawful p some = absurd (omega (arith, some))
  turns_within c (q ∷ h) many lawful p some =
      ⊎_elim
      (λ (here : q ≡ p). subst (λ r. r < proc_count set.topo) here (let there = enabled_there (clocked set) c q lawful.0 in omega (arith, there, many)))
      (λ (ne : q ≡ p → ⊥).
      turns_within (step (clocked set) c q) h (length_end (clocked set) c (q ∷ []) ∙ many) lawful.1 p (omega (arith, some, count_there p q h ne)))
      (cases_eq q p)

  -- turns are steps, or paid
  turns_are : (n : ℕ) → length (clock_turns set n) ≡ length (clock_steps set n) + stalls_paid set n
  turns_are n =
      let procs = proc_count set.topo in
      let turns = clock_turns set n in
      let steps = clock_steps set n in
      let are = law_steps_of_turns (machine_of set) (cost_of set) (first_clock set) turns (turns_lawful n) in
      let each : (p : ℕ) → count_of p turns ≡ count_of p steps + paid_by (clock set n) p = λ p. omega (arith, are.paid p, unpaid_none (start set) p) in
      let within = turns_within (first_clock set) turns (clock_length []) (turns_lawful n) in
      omega (
        arith,
        sum_counts procs turns within,
        sum_counts procs steps (λ p some. within p (omega (arith, some, each p))),
        sums_more (λ p. count_of p turns) (λ p. count_of p steps) (λ p. paid_by (clock set n) p) each (range_with_len 0 procs),
      )

  pub law_at_most : (n : ℕ) → HasCycles set n → n ≤ length (clock_steps set n) + stalls_paid set n
  law_at_most n has = omega (arith, long_by n has.before, turns_are n)

  -- the machine's state fits the set
  pub clock_fits : (h : List ℕ) → IsLawful (clocked set) (first_clock set) h → Fits set (machine_at (end_of (clocked set) (first_clock set) h))
  clock_fits h lawful =
      let steps = law_steps_of_turns (machine_of set) (cost_of set) (first_clock set) h lawful in
      let same : without_stalls (first_clock set) ≡ start set = without_unpaid (start set) in
      let list = steps_of set (first_clock set) h in
      subst (λ s. Fits set s)
      (subst (λ s. end_of (machine_of set) s list ≡ machine_at (end_of (clocked set) (first_clock set) h)) same steps.ends)
      (end_fits set valid (start set) list (start_fits set valid) (subst (λ s. IsLawful (machine_of set) s list) same steps.lawful))
