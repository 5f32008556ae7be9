-- What is counted of the cycles, with those in which a processor had one turn.
use Rattle.std.proofs.Common.{◌≡◌, ℕ, zero, suc, ◌+◌, ◌-◌, ◌*◌, ◌<◌, ◌≤◌, ◌^◌, Bool, true, false, not, ◌&&◌, cond, eqb, List, length, set, Option, Some, None, refl, sym, ap, ◌∙◌, subst, ⊎_elim, ◌⊎◌, arith}
use Rattle.std.specs.Prelude.{slice_get, slice_index, slice_index_or}
use Rattle.std.specs.List.{range_with_len}
use Rattle.std.proofs.lemmas.Bool.{cases_eq, cases_lt, eq-eqb, ne_eqb, eqb-true}
use Rattle.std.proofs.lemmas.List.{length-set, get_or_past, get_or-set_same, get_or-set_other}
use Rattle.std.proofs.lemmas.List.Sums.{count_by-le-length}
use Rattle.std.proofs.lemmas.List.FromFn.{length-range_with_len}
use Rattle.std.proofs.lemmas.Option.{slice_get_cases, slice_get_within, slice_get-get_or, same_Some}
use Rattle.raw_network.specs.Network.{count_of}
use Rattle.raw_network.proofs.Wires.{slice_get-set_other, slice_get-set_same}
use Rattle.raw_grid.proofs.WireLaws.{consumer_few, producer_few}
use Rattle.raw_grid.specs.declared.parts.WireId.{WireId}
use Rattle.raw_grid.specs.Topology.{tile_count, proc_count}
use Rattle.raw_grid.specs.Wires.{wires_of, producer_of, consumer_of}
use Rattle.raw_model.specs.Program.{ProgramSet, IsSet}
use Rattle.raw_model.specs.Machine.{machine_of}
use Rattle.raw_model.specs.Rest.{stopped}
use Rattle.raw_model.specs.Waits.{inputs_at, outputs_at, first_wait}
use Rattle.raw_model.proofs.Awaited.{wait_is_unmet}
use Rattle.raw_serial.specs.declared.turn.Turn.{Turn}
use Rattle.raw_serial.specs.declared.turn.Turn.TheVariants.{Fired, Stalled, Stopped, Waits}
use Rattle.raw_serial.specs.Turns.{turn_by}
use Rattle.raw_lockstep.proofs.Stalling.{local_there}
use Rattle.raw_clock.specs.declared.tally.Spent.{Spent}
use Rattle.raw_clock.specs.declared.tally.Tally.{Tally}
use Rattle.raw_clock.specs.Clock.{cost_of, machine_at, clock_turns, clock, owes, turn_in, is_fired, is_stalled, is_stop, is_starved, is_blocked, waits_for_wire, spent, waited}
use Rattle.raw_clock.specs.Tally.{IsSpentAs, IsTallyBy, IsTally, starves, noted, waited_more, HasRoomAt, AllHaveRoom, IsNoted, WaitsThere}
use Rattle.raw_clock.proofs.Ends.{IsTold, told_by, input_there, output_there}
use Rattle.raw_clock.proofs.Counting.{one_if, count_more}
use Rattle.raw_clock.proofs.Spending.{either}
use Rattle.raw_clock.proofs.Clocking.{clock_length}

-- n where a test passes, and else nothing
abbrev times_if : ℕ → Bool → ℕ
times_if n b = cond b n 0

times_next : (n : ℕ) (b : Bool) → times_if n b + one_if b ≡ times_if (suc n) b
times_next n true = omega arith
times_next n false = refl

times_none : (b : Bool) → times_if 0 b ≡ 0
times_none true = refl
times_none false = refl

-- numbers with another one in one place, or with n more there
abbrev pub put_at : List ℕ → ℕ → ℕ → List ℕ
put_at xs i v = set xs i v

abbrev more_at : List ℕ → ℕ → ℕ → List ℕ
more_at waits v n = set waits v (slice_index waits v + n)

module _ (set : ProgramSet) where
  pub spent_le : (n p : ℕ) (kind : Turn → Bool) → spent set n p kind ≤ n
  spent_le n p kind = omega (arith, count_by-le-length (λ k. kind (turn_in set (clock set k) p)) (range_with_len 0 n), length-range_with_len 0 n)

  -- how often a program fired, by the tally
  pub fired_at : (n : ℕ) (t : Tally) (p : ℕ) (s : Spent) → IsTally set n t → p < 2 * tile_count set.topo
      → s ≡ slice_index_or t.spent.items p s → s.fired ≡ spent set n p is_fired
  fired_at n t p s is below at =
      (is.spent p s (slice_get-get_or t.spent.items p s (omega (arith, is.each, below)) ∙ ap Some (sym at))).fired

  spent_more : (n p : ℕ) (kind : Turn → Bool) (turn : Turn) → turn ≡ turn_in set (clock set n) p
      → spent set (n + 1) p kind ≡ spent set n p kind + one_if (kind turn)
  spent_more n p kind turn is =
      let next : n + 1 ≡ suc n = omega arith in
      let same : 0 + n ≡ n = omega arith in
      ap (λ k. spent set k p kind) next
      ∙ count_more (λ k. kind (turn_in set (clock set k) p)) 0 n
      ∙ ap (λ k. spent set n p kind + one_if (kind (turn_in set (clock set k) p))) same
      ∙ ap (λ t. spent set n p kind + one_if (kind t)) (sym is)

  -- of cycles in which it has one turn
  spent_run : (n m p : ℕ) (kind : Turn → Bool) (turn : Turn) → ((k : ℕ) → n ≤ k → k < n + m → turn_in set (clock set k) p ≡ turn)
      → spent set (n + m) p kind ≡ spent set n p kind + times_if m (kind turn)
  spent_run n zero p kind turn steady =
      let same : n + 0 ≡ n = omega arith in
      let all : spent set (n + 0) p kind ≡ spent set n p kind = ap (λ k. spent set k p kind) same in
      omega (arith, all, times_none (kind turn))
  spent_run n (suc m) p kind turn steady =
      let next : n + suc m ≡ (n + m) + 1 = omega arith in
      let all : spent set (n + suc m) p kind ≡ spent set ((n + m) + 1) p kind = ap (λ k. spent set k p kind) next in
      let last = spent_more (n + m) p kind turn (sym (steady (n + m) (omega arith) (omega arith))) in
      let before = spent_run n m p kind turn (λ k low high. steady k low (omega (arith, high))) in
      omega (arith, all, last, before, times_next m (kind turn))

  module _ (valid : IsSet set) where
    -- what is so of the wire of a wait at its processor
    abbrev pub AtEnds : ℕ → Turn → Type 0
    AtEnds p (Waits wire) = (wire.0 < length (wires_of set.topo)) × IsTold set.topo valid.topology p wire.0
    AtEnds p _ = Unit {0}

    ends_by : (p w : ℕ) → (0 < count_of w (inputs_at set.topo p)) ⊎ (0 < count_of w (outputs_at set.topo p))
        → (w < length (wires_of set.topo)) × IsTold set.topo valid.topology p w
    ends_by p w here = (⊎_elim (input_there set.topo valid.topology p w) (output_there set.topo valid.topology p w) here, told_by set.topo valid.topology p w here)

    turn_ends : (p : ℕ) (stops owing : Bool) (wait : Option ℕ)
        → ((w : ℕ) → wait ≡ Some w → (0 < count_of w (inputs_at set.topo p)) ⊎ (0 < count_of w (outputs_at set.topo p)))
        → AtEnds p (turn_by stops owing wait)
    turn_ends p true owing wait here = tt
    turn_ends p false true wait here = tt
    turn_ends p false false None here = tt
    turn_ends p false false (Some w) here = ends_by p w (here w refl)

    clock_ends : (n p : ℕ) → p < proc_count set.topo → AtEnds p (turn_in set (clock set n) p)
    clock_ends n p below =
        let c = clock set n in
        ⊎_elim
        (λ here.
        turn_ends p (stopped set (machine_at c) p) (owes set c p) (first_wait set (machine_at c) p)
        (λ w waits. either set valid p here.0.local c w (wait_is_unmet set (machine_at c) p here.0.local w (local_there (machine_of set) (cost_of set) c p (Some here.0) here.2) waits)))
        (λ past. absurd (omega (arith, clock_length set valid (clock_turns set n), below, past.0)))
        (slice_get_cases c.locals p).1

    pub at_ends : (n p : ℕ) → p < proc_count set.topo → (turn : Turn) → turn ≡ turn_in set (clock set n) p → AtEnds p turn
    at_ends n p below turn is = subst (λ t. AtEnds p t) (sym is) (clock_ends n p below)

    pub waits_there : (p : ℕ) (turn : Turn) → AtEnds p turn → WaitsThere set.topo turn
    waits_there p (Waits wire) ends = ends.0
    waits_there p _ ends = tt

    -- n cycles more of a processor
    starved_more : (p : ℕ) (turn : Turn) (n : ℕ) (s : Spent) → AtEnds p turn
        → (noted turn (starves set.topo p turn) n s).starved ≡ s.starved + times_if n (is_starved set p turn)
    starved_more p Fired n s ends = omega arith
    starved_more p Stalled n s ends = omega arith
    starved_more p Stopped n s ends = omega arith
    starved_more p (Waits wire) n s ends =
        by_test (eqb (consumer_of set.topo wire.0) p) ∙ ap (λ b. s.starved + times_if n b) (sym ends.1.input)
      where
        by_test : (b : Bool) → (noted (Waits wire) b n s).starved ≡ s.starved + times_if n b
        by_test true = refl
        by_test false = omega arith

    blocked_more : (p : ℕ) (turn : Turn) (n : ℕ) (s : Spent) → AtEnds p turn
        → (noted turn (starves set.topo p turn) n s).blocked ≡ s.blocked + times_if n (is_blocked set p turn)
    blocked_more p Fired n s ends = omega arith
    blocked_more p Stalled n s ends = omega arith
    blocked_more p Stopped n s ends = omega arith
    blocked_more p (Waits wire) n s ends =
        by_test (eqb (consumer_of set.topo wire.0) p) ∙ ap (λ b. s.blocked + times_if n b) (sym ends.1.output)
      where
        by_test : (b : Bool) → (noted (Waits wire) b n s).blocked ≡ s.blocked + times_if n (not b)
        by_test true = omega arith
        by_test false = refl

    -- the other kinds
    record IsNotedAs (turn : Turn) (b : Bool) (n : ℕ) (s : Spent) : Type 0 where
      pub fired : (noted turn b n s).fired ≡ s.fired + times_if n (is_fired turn)
      pub stalled : (noted turn b n s).stalled ≡ s.stalled + times_if n (is_stalled turn)
      pub stopped : (noted turn b n s).stopped ≡ s.stopped + times_if n (is_stop turn)

    noted_as : (turn : Turn) (b : Bool) (n : ℕ) (s : Spent) → IsNotedAs turn b n s
    noted_as Fired b n s = record { fired = refl; stalled = omega arith; stopped = omega arith }
    noted_as Stalled b n s = record { fired = omega arith; stalled = refl; stopped = omega arith }
    noted_as Stopped b n s = record { fired = omega arith; stalled = omega arith; stopped = refl }
    noted_as (Waits wire) true n s = record { fired = omega arith; stalled = omega arith; stopped = omega arith }
    noted_as (Waits wire) false n s = record { fired = omega arith; stalled = omega arith; stopped = omega arith }

    -- n waits more
    put_more : (waits : List ℕ) (v w n : ℕ) → w < length waits → slice_index (more_at waits v n) w ≡ slice_index waits w + times_if n (eqb v w)
    put_more waits v w n there =
        ⊎_elim
        (λ (same : v ≡ w).
        let all : times_if n (eqb v w) ≡ n = ap (λ b. times_if n b) (eq-eqb v w same) in
        let now : slice_index (more_at waits v n) w ≡ slice_index waits w + n =
        subst (λ u. slice_index (more_at waits u n) w ≡ slice_index waits w + n) (sym same) (get_or-set_same waits w (slice_index waits w + n) 0 there) in
        omega (arith, all, now))
        (λ (ne : v ≡ w → ⊥).
        let none : times_if n (eqb v w) ≡ 0 = ap (λ b. times_if n b) (ne_eqb v w ne) in
        let now : slice_index (more_at waits v n) w ≡ slice_index waits w = get_or-set_other waits v w (slice_index waits v + n) 0 (λ e. ne (sym e)) in
        omega (arith, none, now))
        (cases_eq v w)

    own_more : (n : ℕ) (b c d : Bool) → (d ≡ true → b ≡ c) → times_if n (b && d) ≡ times_if n (c && d)
    own_more n b c true same = ap (λ x. times_if n (x && true)) (same refl)
    own_more n true true false same = refl
    own_more n true false false same = refl
    own_more n false true false same = refl
    own_more n false false false same = refl

    waits_put : (b : Bool) (wire : WireId) (n : ℕ) (waits : List ℕ) (w : ℕ) → w < length waits
        → slice_index (waited_more b (Waits wire) n waits) w ≡ slice_index waits w + times_if n (b && eqb wire.0 w)
    waits_put true wire n waits w there = put_more waits wire.0 w n there
    waits_put false wire n waits w there = omega arith

    none_put : (n : ℕ) (b : Bool) (m : ℕ) → m ≡ m + times_if n (b && false)
    none_put n true m = omega arith
    none_put n false m = omega arith

    -- at the input end, and at the output end
    input_put : (p : ℕ) (turn : Turn) (n : ℕ) (waits : List ℕ) (w : ℕ) → AtEnds p turn → w < length waits
        → slice_index (waited_more (starves set.topo p turn) turn n waits) w
        ≡ slice_index waits w + times_if n (eqb (consumer_of set.topo w) p && waits_for_wire w turn)
    input_put p Fired n waits w ends there = none_put n (eqb (consumer_of set.topo w) p) (slice_index waits w)
    input_put p Stalled n waits w ends there = none_put n (eqb (consumer_of set.topo w) p) (slice_index waits w)
    input_put p Stopped n waits w ends there = none_put n (eqb (consumer_of set.topo w) p) (slice_index waits w)
    input_put p (Waits wire) n waits w ends there =
        waits_put (eqb (consumer_of set.topo wire.0) p) wire n waits w there
        ∙ ap (λ k. slice_index waits w + k)
        (own_more n (eqb (consumer_of set.topo wire.0) p) (eqb (consumer_of set.topo w) p) (eqb wire.0 w) (λ e. ap (λ v. eqb (consumer_of set.topo v) p) (eqb-true wire.0 w e)))

    output_put : (p : ℕ) (turn : Turn) (n : ℕ) (waits : List ℕ) (w : ℕ) → AtEnds p turn → w < length waits
        → slice_index (waited_more (not (starves set.topo p turn)) turn n waits) w
        ≡ slice_index waits w + times_if n (eqb (producer_of set.topo w) p && waits_for_wire w turn)
    output_put p Fired n waits w ends there = none_put n (eqb (producer_of set.topo w) p) (slice_index waits w)
    output_put p Stalled n waits w ends there = none_put n (eqb (producer_of set.topo w) p) (slice_index waits w)
    output_put p Stopped n waits w ends there = none_put n (eqb (producer_of set.topo w) p) (slice_index waits w)
    output_put p (Waits wire) n waits w ends there =
        waits_put (not (eqb (consumer_of set.topo wire.0) p)) wire n waits w there
        ∙ ap (λ k. slice_index waits w + k)
        (own_more n (not (eqb (consumer_of set.topo wire.0) p)) (eqb (producer_of set.topo w) p) (eqb wire.0 w)
        (λ e. sym ends.1.owner ∙ ap (λ v. eqb (producer_of set.topo v) p) (eqb-true wire.0 w e)))

    -- the cycles since one of them, in which a processor has had one turn, are counted
    module _ (since : List ℕ) (n i : ℕ) (there : i < length since) (before : slice_index since i ≤ n) (turn : Turn)
        (steady : (k : ℕ) → slice_index since i ≤ k → k < n → turn_in set (clock set k) i ≡ turn) where
      abbrev many : ℕ → ℕ
      many p = slice_index since p

      abbrev then : ℕ → ℕ
      then p = slice_index (put_at since i n) p

      abbrev gone : ℕ
      gone = n - slice_index since i

      then_here : then i ≡ n
      then_here = get_or-set_same since i n 0 there

      then_other : (p : ℕ) → (i ≡ p → ⊥) → then p ≡ many p
      then_other p ne = get_or-set_other since i p n 0 (λ e. ne (sym e))

      spent_here : (kind : Turn → Bool) → spent set n i kind ≡ spent set (many i) i kind + times_if gone (kind turn)
      spent_here kind =
          let whole : slice_index since i + gone ≡ n = omega (arith, before) in
          subst (λ k. spent set k i kind ≡ spent set (many i) i kind + times_if gone (kind turn)) whole
          (spent_run (many i) gone i kind turn (λ k low high. steady k low (omega (arith, high, whole))))

      spent_noted : (s : Spent) → AtEnds i turn → IsSpentAs set (many i) i s
          → IsSpentAs set n i (noted turn (starves set.topo i turn) gone s)
      spent_noted s ends was =
          let kinds = noted_as turn (starves set.topo i turn) gone s in
          record {
            fired = omega (arith, kinds.fired, was.fired, spent_here is_fired);
            stalled = omega (arith, kinds.stalled, was.stalled, spent_here is_stalled);
            starved = omega (arith, starved_more i turn gone s ends, was.starved, spent_here (is_starved set i));
            blocked = omega (arith, blocked_more i turn gone s ends, was.blocked, spent_here (is_blocked set i));
            stopped = omega (arith, kinds.stopped, was.stopped, spent_here is_stop);
          }

      waited_next : (q w : ℕ) → waited set (then q) q w ≡ waited set (many q) q w + times_if gone (eqb q i && waits_for_wire w turn)
      waited_next q w =
          ⊎_elim
          (λ (here : i ≡ q). subst (λ r. waited set (then r) r w ≡ waited set (many r) r w + times_if gone (eqb r i && waits_for_wire w turn)) here
          (ap (λ k. waited set k i w) then_here
          ∙ spent_here (waits_for_wire w)
          ∙ ap (λ b. waited set (many i) i w + times_if gone (b && waits_for_wire w turn)) (sym (eq-eqb i i refl))))
          (λ (ne : i ≡ q → ⊥).
          ap (λ k. waited set k q w) (then_other q ne)
          ∙ plus_zero (waited set (many q) q w)
          ∙ ap (λ b. waited set (many q) q w + times_if gone (b && waits_for_wire w turn)) (sym (ne_eqb q i (λ e. ne (sym e)))))
          (cases_eq i q)
        where
          plus_zero : (m : ℕ) → m ≡ m + 0
          plus_zero m = omega arith

      pub note_more : (old new : Tally) → i < proc_count set.topo → AtEnds i turn
          → IsTallyBy set (λ p. slice_index since p) old → IsNoted set.topo i turn (n - slice_index since i) old new
          → IsTallyBy set (λ p. slice_index (put_at since i n) p) new
      note_more old new below ends was did =
          let found = found_at old.spent.items (omega (arith, below, was.each)) in
          let items = did.spent found.0 found.1 in
          let now = noted turn (starves set.topo i turn) gone found.0 in
          record {
            each = ap length items ∙ length-set old.spent.items i now ∙ was.each;
            spent =
                λ p s here.
                ⊎_elim
                (λ (same : i ≡ p).
                subst (λ q. IsSpentAs set (then q) q s) same
                (subst (λ k. IsSpentAs set k i s) (sym then_here)
                (subst (λ x. IsSpentAs set n i x)
                (same_Some now s (sym (slice_get-set_same old.spent.items i now found.0 found.1) ∙ ap (λ xs. slice_get xs i) (sym items) ∙ ap (λ q. slice_get new.spent.items q) same ∙ here))
                (spent_noted found.0 ends (was.spent i found.0 found.1)))))
                (λ (ne : i ≡ p → ⊥).
                subst (λ k. IsSpentAs set k p s) (sym (then_other p ne))
                (was.spent p s (sym (slice_get-set_other old.spent.items i p now (λ e. ne (sym e))) ∙ ap (λ xs. slice_get xs p) (sym items) ∙ here)))
                (cases_eq i p);
            each_input = ap length did.inputs ∙ more_length (starves set.topo i turn) turn gone old.inputs.items ∙ was.each_input;
            each_output = ap length did.outputs ∙ more_length (not (starves set.topo i turn)) turn gone old.outputs.items ∙ was.each_output;
            inputs =
                λ w there.
                ap (λ xs. slice_index xs w) did.inputs
                ∙ input_put i turn gone old.inputs.items w ends (omega (arith, there, was.each_input))
                ∙ ap (λ k. k + times_if gone (eqb (consumer_of set.topo w) i && waits_for_wire w turn)) (was.inputs w there)
                ∙ sym (waited_next (consumer_of set.topo w) w);
            outputs =
                λ w there.
                ap (λ xs. slice_index xs w) did.outputs
                ∙ output_put i turn gone old.outputs.items w ends (omega (arith, there, was.each_output))
                ∙ ap (λ k. k + times_if gone (eqb (producer_of set.topo w) i && waits_for_wire w turn)) (was.outputs w there)
                ∙ sym (waited_next (producer_of set.topo w) w);
          }
        where
          found_at : (xs : List Spent) → i < length xs → (s : Spent) × (slice_get xs i ≡ Some s)
          found_at xs there =
              ⊎_elim (λ here. (here.0, here.2)) (λ past. absurd (omega (arith, there, past.0))) (slice_get_cases xs i).1

          more_length : (b : Bool) (t : Turn) (m : ℕ) (xs : List ℕ) → length (waited_more b t m xs) ≡ length xs
          more_length true (Waits wire) m xs = length-set xs wire.0 (slice_index xs wire.0 + m)
          more_length true Fired m xs = refl
          more_length true Stalled m xs = refl
          more_length true Stopped m xs = refl
          more_length false t m xs = refl

    -- there is room
    module _ (many : ℕ → ℕ) (n : ℕ) (few : n < 2 ^ 62) (before : (p : ℕ) → many p ≤ n) (t : Tally) (was : IsTallyBy set many t) where
      pub room_at : (i : ℕ) → HasRoomAt t i
      room_at i s here =
          let is = was.spent i s here in (
            omega (arith, few, before i, is.fired, spent_le (many i) i is_fired),
            omega (arith, few, before i, is.stalled, spent_le (many i) i is_stalled),
            omega (arith, few, before i, is.starved, spent_le (many i) i (is_starved set i)),
            omega (arith, few, before i, is.blocked, spent_le (many i) i (is_blocked set i)),
            omega (arith, few, before i, is.stopped, spent_le (many i) i is_stop),
          )

      pub room_for_inputs : AllHaveRoom t.inputs.items
      room_for_inputs w =
          ⊎_elim
          (λ (there : w < length t.inputs.items).
          let is = was.inputs w (omega (arith, there, was.each_input)) in
          omega (arith, few, is, spent_le (many (consumer_of set.topo w)) (consumer_of set.topo w) (waits_for_wire w), before (consumer_of set.topo w)))
          (λ (past : length t.inputs.items ≤ w). let none : slice_index t.inputs.items w ≡ 0 = get_or_past t.inputs.items w 0 past in omega (arith, none))
          (cases_lt w (length t.inputs.items))

      pub room_for_outputs : AllHaveRoom t.outputs.items
      room_for_outputs w =
          ⊎_elim
          (λ (there : w < length t.outputs.items).
          let is = was.outputs w (omega (arith, there, was.each_output)) in
          omega (arith, few, is, spent_le (many (producer_of set.topo w)) (producer_of set.topo w) (waits_for_wire w), before (producer_of set.topo w)))
          (λ (past : length t.outputs.items ≤ w). let none : slice_index t.outputs.items w ≡ 0 = get_or_past t.outputs.items w 0 past in omega (arith, none))
          (cases_lt w (length t.outputs.items))

    -- the same numbers of cycles for the processors that are there
    pub tally_alike : (many others : ℕ → ℕ) (t : Tally) → ((p : ℕ) → p < proc_count set.topo → many p ≡ others p)
        → IsTallyBy set many t → IsTallyBy set others t
    tally_alike many others t same was =
        record {
          each = was.each;
          spent = λ p s here. subst (λ k. IsSpentAs set k p s) (same p (omega (arith, slice_get_within t.spent.items p s here, was.each))) (was.spent p s here);
          each_input = was.each_input;
          each_output = was.each_output;
          inputs =
              λ w there. was.inputs w there ∙ ap (λ k. waited set k (consumer_of set.topo w) w) (same (consumer_of set.topo w) (consumer_few set.topo w valid.topology there));
          outputs =
              λ w there. was.outputs w there ∙ ap (λ k. waited set k (producer_of set.topo w) w) (same (producer_of set.topo w) (producer_few set.topo w valid.topology there));
        }
