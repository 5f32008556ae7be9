-- A machine that has taken turns of the clock, and one more turn of it.
use Rattle.std.proofs.Common.{◌≡◌, ◌≢◌, ℕ, zero, suc, ◌+◌, ◌-◌, ◌*◌, ◌<◌, ◌≤◌, Bool, true, false, cond, ltb, List, [], ◌∷◌, ◌++◌, length, map, take, get_or, replicate, Option, Some, None, refl, sym, ap, ◌∙◌, subst, inl, inr, ⊎_elim, ◌⊎◌, arith, append-nil}
use Rattle.std.specs.Prelude.{slice_get, slice_index, sum}
use Rattle.std.specs.List.{filter, range_with_len}
use Rattle.std.specs.Option.{option_to_list, unwrap_or}
use Rattle.std.proofs.Math.Seq.{take-nil}
use Rattle.std.proofs.lemmas.List.{append_assoc, length-append, length-map, get_or_past, get_or-set_same, get_or-set_other, get_or-replicate, length-replicate}
use Rattle.std.proofs.lemmas.List.Sums.{sum_by-cons}
use Rattle.std.proofs.lemmas.Option.{unwrap_or-slice_get}
use Rattle.std.proofs.lemmas.Bool.{cases_eq, cases_lt, ltb-true, ltb-false, lt-ltb, le-ltb, eq-eqb, ne_eqb, false≢true}
use Rattle.raw_network.specs.Network.{is_enabled, step, event_of}
use Rattle.raw_network.specs.Runs.{IsLawful, end_of, sent_on, touches}
use Rattle.raw_network.proofs.Kth.{local_other}
use Rattle.raw_network.proofs.Steps.{end_of-append, lawful-push, end_of-push}
use Rattle.raw_grid.specs.Topology.{tile_count, proc_count}
use Rattle.raw_grid.specs.Wires.{wires_of, producer_of, consumer_of}
use Rattle.raw_model.specs.Program.{ProgramSet, TileProgram, IsSet}
use Rattle.raw_model.specs.Local.{Local}
use Rattle.raw_model.specs.Machine.{machine_of}
use Rattle.raw_model.specs.Start.{start}
use Rattle.raw_model.specs.Rest.{end, stopped, passed_on}
use Rattle.raw_model.specs.Waits.{first_wait}
use Rattle.raw_model.specs.Cache.{turns, stream_of, misses, touches_of}
use Rattle.raw_processor.specs.Touching.{owed_after}
use Rattle.raw_serial.specs.declared.turn.Turn.{Turn}
use Rattle.raw_serial.specs.declared.turn.Turn.TheVariants.{Fired, Stalled, Stopped, Waits}
use Rattle.raw_serial.specs.Turns.{turn_by}
use Rattle.raw_serial.specs.Running.{Running, IsRunBy, IsStep, IsTurnOf, Follows, turn_of, stalled_once}
use Rattle.raw_serial.specs.Fresh.{IsFresh}
use Rattle.raw_serial.proofs.Owing.{owing_less, one_less}
use Rattle.raw_serial.proofs.Freshly.{fresh_run}
use Rattle.raw_lockstep.specs.Lockstep.{all_enabled}
use Rattle.raw_lockstep.specs.Stalls.{Paying, owes_from, without_stalls, touched_by, touched_in, paid_by, paid_in}
use Rattle.raw_lockstep.proofs.Cycling.{next_enabled, filtered_more, law_empty_is_quiet}
use Rattle.raw_lockstep.proofs.Stalling.{without_unpaid, untouched, unpaid_none, steps_in-append, law_steps_of_turns, paid_here, touched_here}
use Rattle.raw_clock.specs.Clock.{cost_of, clocked, ClockState, machine_at, first_clock, steps_of, clock_turns, clock, owes, turn_in, goes, IsOver, GoesOn}
use Rattle.raw_clock.specs.Values.{HaveSent, AreCounted}
use Rattle.raw_clock.specs.Engine.{clock_by, HasTaken, OnlyTilesOwe, AreSent, Took, IsCycle, AreTurns, SomeGoes, NoneGoes}
use Rattle.raw_clock.proofs.Missing.{misses_more}
use Rattle.raw_clock.proofs.Turning.{goes_is}
use Rattle.raw_clock.proofs.Sending.{passed_push}
use Rattle.raw_clock.proofs.Clocking.{clock_wired, clock_length, quiet_if_over}

-- the turns of the cycle after n
abbrev pub AreClockTurns : ProgramSet → ℕ → List Turn → Type 0
AreClockTurns set n turns = (p : ℕ) → p < proc_count set.topo → slice_get turns p ≡ Some (turn_in set (clock set n) p)

-- one number more of a stream
sum_more : (xs : List ℕ) (n : ℕ) → sum (take (suc n) xs) ≡ sum (take n xs) + get_or xs n 0
sum_more [] n =
    let none : sum (take (suc n) []) ≡ 0 = ap sum (take-nil (suc n)) in
    let nothing : sum (take n []) ≡ 0 = ap sum (take-nil n) in
    omega (arith, none, nothing)
sum_more (x ∷ xs) zero = omega (arith, sum_by-cons (λ y. y) x [])
sum_more (x ∷ xs) (suc n) = omega (arith, sum_more xs n, sum_by-cons (λ y. y) x (take (suc n) xs), sum_by-cons (λ y. y) x (take n xs))

-- what a touch costs is owed
owes_more : (stream : List ℕ) (before after : ℕ) → (after ≡ before) ⊎ (after ≡ before + 1)
    → turns stream before + owed_after stream before after ≡ turns stream after
owes_more stream before after how =
    ⊎_elim
    (λ (same : after ≡ before).
    let none : owed_after stream before after ≡ 0 = ap (λ b. cond b 0 (slice_index stream before)) (eq-eqb before after (sym same)) in
    let alike : turns stream after ≡ turns stream before = ap (turns stream) same in
    omega (arith, none, alike))
    (λ (more : after ≡ before + 1).
    let differ : before ≡ after → ⊥ = λ e. absurd (omega (arith, e, more)) in
    let one : owed_after stream before after ≡ slice_index stream before = ap (λ b. cond b 0 (slice_index stream before)) (ne_eqb before after differ) in
    let next : after ≡ suc before = omega (arith, more) in
    let now : turns stream after ≡ turns stream before + slice_index stream before = ap (turns stream) next ∙ sum_more stream before in
    omega (arith, one, now))
    how

pub same_index : (xs ys : List ℕ) (i : ℕ) → slice_get xs i ≡ slice_get ys i → slice_index xs i ≡ slice_index ys i
same_index xs ys i e = sym (unwrap_or-slice_get xs i 0) ∙ ap (λ o. unwrap_or o 0) e ∙ unwrap_or-slice_get ys i 0

-- what is owed is more than nothing where what is paid is less than the cost
owes_by : (paid owed cost : ℕ) → paid + owed ≡ cost → ltb paid cost ≡ ltb 0 owed
owes_by paid owed cost e =
    ⊎_elim
    (λ (some : 0 < owed). lt-ltb paid cost (omega (arith, e, some)) ∙ sym (lt-ltb 0 owed some))
    (λ (none : owed ≤ 0). le-ltb paid cost (omega (arith, e, none)) ∙ sym (le-ltb 0 owed none))
    (cases_lt 0 owed)

module _ (g : ProgramSet) (valid : IsSet g) where
  -- no processor but tiles has costs
  no_stream : (p : ℕ) → tile_count g.topo ≤ p → stream_of g p ≡ []
  no_stream p past =
      get_or_past (map (λ (given : TileProgram). given.misses) g.tiles) p []
      (omega (arith, past, length-map g.tiles (λ (given : TileProgram). given.misses), valid.each_tile))

  pub no_cost : (p : ℕ) (touched : List ℕ) → tile_count g.topo ≤ p → cost_of g p touched ≡ 0
  no_cost p touched past =
      ap (λ stream. turns stream (misses touched)) (no_stream p past) ∙ ap sum (take-nil (misses touched))

  pub owes_is : (c : ClockState) (p : ℕ) → owes g c p ≡ ltb (paid_by c p) (cost_of g p (touched_by c p))
  unfolding misses
  owes_is c p = from (slice_get c.locals p)
    where
      from : (o : Option (Paying Local)) → owes_from (cost_of g) p o ≡ ltb (paid_in o) (cost_of g p (touched_in o))
      from None = refl
      from (Some x) = refl

  module _ (m : Running) (ts : List ℕ) (has : HasTaken g m ts) where
    steps_told : end g (steps_of g (first_clock g) ts) ≡ machine_at (clock_by g ts)
    steps_told =
        subst (λ s. end_of (machine_of g) s (steps_of g (first_clock g) ts) ≡ machine_at (clock_by g ts)) (without_unpaid (start g))
        (law_steps_of_turns (machine_of g) (cost_of g) (first_clock g) ts has.lawful).ends

    pub state_told : m.state ≡ machine_at (clock_by g ts)
    state_told = sym has.run.there ∙ ap (λ h. end h (steps_of g (first_clock g) ts)) has.same ∙ steps_told

    touched_told : (p : ℕ) → touched_by (clock_by g ts) p ≡ touches_of g (start g) (steps_of g (first_clock g) ts) p
    touched_told p =
        (law_steps_of_turns (machine_of g) (cost_of g) (first_clock g) ts has.lawful).touched p
        ∙ ap (λ xs. xs ++ touches (machine_of g) (without_stalls (first_clock g)) (steps_of g (first_clock g) ts) p) (untouched (start g) p)
        ∙ ap (λ s. touches (machine_of g) s (steps_of g (first_clock g) ts) p) (without_unpaid (start g))

    missed_told : (t : ℕ) → t < tile_count g.topo → slice_index m.missed t ≡ misses (touched_by (clock_by g ts) t)
    missed_told t within =
        has.run.missed t (subst (λ (h : ProgramSet). t < tile_count h.topo) (sym has.same) within)
        ∙ ap (λ h. misses (touches_of h (start h) (steps_of g (first_clock g) ts) t)) has.same
        ∙ ap misses (sym (touched_told t))

    owes_told : (p : ℕ) → (tile_count g.topo ≤ p → slice_index m.owed p ≡ 0) → owes g (clock_by g ts) p ≡ ltb 0 (slice_index m.owed p)
    owes_told p none =
        ⊎_elim
        (λ (tile : p < tile_count g.topo).
        owes_is (clock_by g ts) p ∙ owes_by (paid_by (clock_by g ts) p) (slice_index m.owed p) (cost_of g p (touched_by (clock_by g ts) p)) (has.owed p tile))
        (λ (past : tile_count g.topo ≤ p).
        owes_is (clock_by g ts) p
        ∙ ap (λ n. ltb (paid_by (clock_by g ts) p) n) (no_cost p (touched_by (clock_by g ts) p) past)
        ∙ le-ltb (paid_by (clock_by g ts) p) 0 (omega arith)
        ∙ sym (ap (λ n. ltb 0 n) (none past)))
        (cases_lt p (tile_count g.topo))

    -- the turn of a processor is the clock's
    pub turn_told : (p : ℕ) → (tile_count g.topo ≤ p → slice_index m.owed p ≡ 0) → turn_of m p ≡ turn_in g (clock_by g ts) p
    turn_told p none =
        ap (λ h. turn_by (stopped h m.state p) (ltb 0 (slice_index m.owed p)) (first_wait h m.state p)) has.same
        ∙ ap (λ s. turn_by (stopped g s p) (ltb 0 (slice_index m.owed p)) (first_wait g s p)) state_told
        ∙ ap (λ b. turn_by (stopped g (machine_at (clock_by g ts)) p) b (first_wait g (machine_at (clock_by g ts)) p)) (sym (owes_told p none))

    -- one more turn
    module _ (p : ℕ) (on : is_enabled (clocked g) (clock_by g ts) p ≡ true) where
      lawful_more : IsLawful (clocked g) (first_clock g) (ts ++ p ∷ [])
      lawful_more = lawful-push (clocked g) (first_clock g) ts p has.lawful on

      clock_more : clock_by g (ts ++ p ∷ []) ≡ step (clocked g) (clock_by g ts) p
      clock_more = end_of-push (clocked g) (first_clock g) ts p

      steps_more : steps_of g (first_clock g) (ts ++ p ∷ []) ≡ steps_of g (first_clock g) ts ++ cond (owes g (clock_by g ts) p) [] (p ∷ [])
      steps_more = steps_in-append (machine_of g) (cost_of g) (first_clock g) ts (p ∷ [])

      paid_there : paid_by (clock_by g (ts ++ p ∷ [])) p ≡ cond (owes g (clock_by g ts) p) (suc (paid_by (clock_by g ts) p)) (paid_by (clock_by g ts) p)
      paid_there = ap (λ c. paid_by c p) clock_more ∙ paid_here (machine_of g) (cost_of g) (clock_by g ts) p

      other_there : (t : ℕ) → t ≢ p → slice_get (clock_by g (ts ++ p ∷ [])).locals t ≡ slice_get (clock_by g ts).locals t
      other_there t ne = ap (λ c. slice_get c.locals t) clock_more ∙ local_other (clocked g) (clock_by g ts) p t ne

      -- a step
      module _ (n : Running) (is : IsStep m n p) (free : owes g (clock_by g ts) p ≡ false) where
        steps_then : steps_of g (first_clock g) (ts ++ p ∷ []) ≡ steps_of g (first_clock g) ts ++ p ∷ []
        steps_then = steps_more ∙ ap (λ b. steps_of g (first_clock g) ts ++ cond b [] (p ∷ [])) free

        run_then : IsRunBy n (steps_of g (first_clock g) (ts ++ p ∷ []))
        run_then = subst (λ h. IsRunBy n h) (sym steps_then) (is.run (steps_of g (first_clock g) ts) has.run)

        same_then : n.set ≡ g
        same_then = is.set ∙ has.same

        touched_then : touched_by (clock_by g (ts ++ p ∷ [])) p ≡ touched_by (clock_by g ts) p ++ option_to_list (event_of (machine_of g) (machine_at (clock_by g ts)) p).touched
        touched_then =
            ap (λ c. touched_by c p) clock_more
            ∙ touched_here (machine_of g) (cost_of g) (clock_by g ts) p
            ∙ ap (λ b. touched_by (clock_by g ts) p ++ cond b [] (option_to_list (event_of (machine_of g) (machine_at (clock_by g ts)) p).touched)) free

        touched_all : (t : ℕ) → touched_by (clock_by g (ts ++ p ∷ [])) t ≡ touches_of g (start g) (steps_of g (first_clock g) (ts ++ p ∷ [])) t
        touched_all t =
            (law_steps_of_turns (machine_of g) (cost_of g) (first_clock g) (ts ++ p ∷ []) lawful_more).touched t
            ∙ ap (λ xs. xs ++ touches (machine_of g) (without_stalls (first_clock g)) (steps_of g (first_clock g) (ts ++ p ∷ [])) t) (untouched (start g) t)
            ∙ ap (λ s. touches (machine_of g) s (steps_of g (first_clock g) (ts ++ p ∷ [])) t) (without_unpaid (start g))

        missed_then : (t : ℕ) → t < tile_count g.topo → slice_index n.missed t ≡ misses (touched_by (clock_by g (ts ++ p ∷ [])) t)
        missed_then t within =
            run_then.missed t (subst (λ (h : ProgramSet). t < tile_count h.topo) (sym same_then) within)
            ∙ ap (λ h. misses (touches_of h (start h) (steps_of g (first_clock g) (ts ++ p ∷ [])) t)) same_then
            ∙ ap misses (sym (touched_all t))

        one_miss : p < tile_count g.topo → (slice_index n.missed p ≡ slice_index m.missed p) ⊎ (slice_index n.missed p ≡ slice_index m.missed p + 1)
        one_miss within =
            let before = missed_told p within in
            let after : slice_index n.missed p ≡ misses (touched_by (clock_by g ts) p ++ option_to_list (event_of (machine_of g) (machine_at (clock_by g ts)) p).touched) =
            missed_then p within ∙ ap misses touched_then in
            ⊎_elim
            (λ same. inl (after ∙ same ∙ sym before))
            (λ more. inr (after ∙ more ∙ ap (λ k. k + 1) (sym before)))
            (misses_more (touched_by (clock_by g ts) p) (event_of (machine_of g) (machine_at (clock_by g ts)) p).touched)

        owed_then : (t : ℕ) → t < tile_count g.topo
            → paid_by (clock_by g (ts ++ p ∷ [])) t + slice_index n.owed t ≡ cost_of g t (touched_by (clock_by g (ts ++ p ∷ [])) t)
        owed_then t within =
            ⊎_elim
            (λ (here : p ≡ t). subst (λ q. IsOwed q) here (at_p (subst (λ q. q < tile_count g.topo) (sym here) within)))
            (λ (ne : p ≡ t → ⊥).
            let other = other_there t (λ e. ne (sym e)) in
            let paid : paid_by (clock_by g (ts ++ p ∷ [])) t ≡ paid_by (clock_by g ts) t = ap paid_in other in
            let cost : cost_of g t (touched_by (clock_by g (ts ++ p ∷ [])) t) ≡ cost_of g t (touched_by (clock_by g ts) t) = ap (λ o. cost_of g t (touched_in o)) other in
            omega (arith, paid, cost, same_index n.owed m.owed t (is.other_owed t (λ e. ne (sym e))), has.owed t within))
            (cases_eq p t)
          where
            IsOwed : ℕ → Type 0
            IsOwed q = paid_by (clock_by g (ts ++ p ∷ [])) q + slice_index n.owed q ≡ cost_of g q (touched_by (clock_by g (ts ++ p ∷ [])) q)

            at_p : p < tile_count g.topo
                → paid_by (clock_by g (ts ++ p ∷ [])) p + slice_index n.owed p ≡ cost_of g p (touched_by (clock_by g (ts ++ p ∷ [])) p)
            at_p within =
                let paid : paid_by (clock_by g (ts ++ p ∷ [])) p ≡ paid_by (clock_by g ts) p =
                paid_there ∙ ap (λ b. cond b (suc (paid_by (clock_by g ts) p)) (paid_by (clock_by g ts) p)) free in
                let even : cost_of g p (touched_by (clock_by g ts) p) ≤ paid_by (clock_by g ts) p =
                ltb-false (paid_by (clock_by g ts) p) (cost_of g p (touched_by (clock_by g ts) p)) (sym (owes_is (clock_by g ts) p) ∙ free) in
                let cost : cost_of g p (touched_by (clock_by g ts) p) ≡ turns (stream_of g p) (slice_index m.missed p) =
                ap (turns (stream_of g p)) (sym (missed_told p within)) in
                let cost_now : cost_of g p (touched_by (clock_by g (ts ++ p ∷ [])) p) ≡ turns (stream_of g p) (slice_index n.missed p) =
                ap (turns (stream_of g p)) (sym (missed_then p within)) in
                let owed : slice_index n.owed p ≡ owed_after (stream_of g p) (slice_index m.missed p) (slice_index n.missed p) =
                is.owed p refl (subst (λ (h : ProgramSet). p < tile_count h.topo) (sym has.same) within)
                ∙ ap (λ h. owed_after (stream_of h p) (slice_index m.missed p) (slice_index n.missed p)) has.same in
                omega (arith, paid, even, cost, cost_now, owed, has.owed p within, owes_more (stream_of g p) (slice_index m.missed p) (slice_index n.missed p) (one_miss within))

        pub fired_told : HasTaken g n (ts ++ p ∷ [])
        fired_told = record { same = same_then; lawful = lawful_more; run = run_then; owed = owed_then }

      -- a stall turn
      module _ (stall : owes g (clock_by g ts) p ≡ true) (tile : p < tile_count g.topo) where
        steps_stay : steps_of g (first_clock g) (ts ++ p ∷ []) ≡ steps_of g (first_clock g) ts
        steps_stay =
            steps_more ∙ ap (λ b. steps_of g (first_clock g) ts ++ cond b [] (p ∷ [])) stall ∙ append-nil (steps_of g (first_clock g) ts)

        some_owed : 0 < slice_index m.owed p
        some_owed =
            let less = ltb-true (paid_by (clock_by g ts) p) (cost_of g p (touched_by (clock_by g ts) p)) (sym (owes_is (clock_by g ts) p) ∙ stall) in
            omega (arith, less, has.owed p tile)

        owed_place : p < length m.owed
        owed_place =
            ⊎_elim (λ there. there)
            (λ (past : length m.owed ≤ p). let none : slice_index m.owed p ≡ 0 = get_or_past m.owed p 0 past in absurd (omega (arith, none, some_owed)))
            (cases_lt p (length m.owed))

        touched_stays : touched_by (clock_by g (ts ++ p ∷ [])) p ≡ touched_by (clock_by g ts) p
        touched_stays =
            ap (λ c. touched_by c p) clock_more
            ∙ touched_here (machine_of g) (cost_of g) (clock_by g ts) p
            ∙ ap (λ b. touched_by (clock_by g ts) p ++ cond b [] (option_to_list (event_of (machine_of g) (machine_at (clock_by g ts)) p).touched)) stall
            ∙ append-nil (touched_by (clock_by g ts) p)

        owed_less : (t : ℕ) → t < tile_count g.topo
            → paid_by (clock_by g (ts ++ p ∷ [])) t + slice_index (stalled_once m p).owed t ≡ cost_of g t (touched_by (clock_by g (ts ++ p ∷ [])) t)
        owed_less t within =
            ⊎_elim
            (λ (here : p ≡ t). subst (λ q. IsOwed q) here at_p)
            (λ (ne : p ≡ t → ⊥).
            let other = other_there t (λ e. ne (sym e)) in
            let paid : paid_by (clock_by g (ts ++ p ∷ [])) t ≡ paid_by (clock_by g ts) t = ap paid_in other in
            let cost : cost_of g t (touched_by (clock_by g (ts ++ p ∷ [])) t) ≡ cost_of g t (touched_by (clock_by g ts) t) = ap (λ o. cost_of g t (touched_in o)) other in
            let stays : slice_index (stalled_once m p).owed t ≡ slice_index m.owed t =
            get_or-set_other m.owed p t (slice_index m.owed p - 1) 0 (λ e. ne (sym e)) in
            omega (arith, paid, cost, stays, has.owed t within))
            (cases_eq p t)
          where
            IsOwed : ℕ → Type 0
            IsOwed q = paid_by (clock_by g (ts ++ p ∷ [])) q + slice_index (stalled_once m p).owed q ≡ cost_of g q (touched_by (clock_by g (ts ++ p ∷ [])) q)

            at_p : paid_by (clock_by g (ts ++ p ∷ [])) p + slice_index (stalled_once m p).owed p ≡ cost_of g p (touched_by (clock_by g (ts ++ p ∷ [])) p)
            at_p =
                let paid : paid_by (clock_by g (ts ++ p ∷ [])) p ≡ suc (paid_by (clock_by g ts) p) =
                paid_there ∙ ap (λ b. cond b (suc (paid_by (clock_by g ts) p)) (paid_by (clock_by g ts) p)) stall in
                let now : slice_index (stalled_once m p).owed p ≡ slice_index m.owed p - 1 = get_or-set_same m.owed p (slice_index m.owed p - 1) 0 owed_place in
                let cost : cost_of g p (touched_by (clock_by g (ts ++ p ∷ [])) p) ≡ cost_of g p (touched_by (clock_by g ts) p) = ap (cost_of g p) touched_stays in
                omega (arith, paid, now, cost, some_owed, has.owed p tile)

        pub stalled_told : HasTaken g (stalled_once m p) (ts ++ p ∷ [])
        stalled_told =
            record {
              same = has.same;
              lawful = lawful_more;
              run =
                  subst (λ h. IsRunBy (stalled_once m p) h) (sym steps_stay)
                  (owing_less m (stalled_once m p).owed (steps_of g (first_clock g) ts) (one_less m.owed p) has.run);
              owed = owed_less;
            }

-- numbers that are all zero
pub zeros_at : (xs : List ℕ) (n : ℕ) → xs ≡ replicate n 0 → (i : ℕ) → slice_index xs i ≡ 0
zeros_at xs n e i =
    ap (λ ys. slice_index ys i) e
    ∙ ⊎_elim
    (λ (there : i < n). get_or-replicate n i 0 0 there)
    (λ (past : n ≤ i). get_or_past (replicate n 0) i 0 (omega (arith, past, length-replicate {A = ℕ} n 0)))
    (cases_lt i n)

pub zeros : (xs : List ℕ) (n : ℕ) → xs ≡ replicate n 0 → (i : ℕ) → slice_index xs i ≤ 2560 * 0
zeros xs n e i = omega (arith, zeros_at xs n e i)

-- what a turn says of its parts
pub fired_owes : (stops owing : Bool) (wait : Option ℕ) → Fired ≡ turn_by stops owing wait → owing ≡ false
fired_owes false false None e = refl
fired_owes stops owing wait e = absurd (cc e)

pub stalled_owes : (stops owing : Bool) (wait : Option ℕ) → Stalled ≡ turn_by stops owing wait → owing ≡ true
stalled_owes true owing wait e = cc e
stalled_owes false true wait e = refl
stalled_owes false false None e = cc e
stalled_owes false false (Some w) e = cc e

-- what a turn leaves
pub took_set : (b : Bool) (m n : Running) (p : ℕ) (before after : List ℕ) → Took b m n p before after → n.set ≡ m.set
took_set true m n p before after took = took.1.set
took_set false m n p before after took = ap (λ (r : Running). r.set) took.0

sent_each : (turn : Turn) (m : Running) (p : ℕ) (before after : List ℕ) → AreSent turn m p before after → length after ≡ length before
sent_each Fired m p before after sent = sent.each
sent_each _ m p before after sent = ap length sent

pub took_each : (b : Bool) (m n : Running) (p : ℕ) (before after : List ℕ) → Took b m n p before after → length after ≡ length before
took_each true m n p before after took = sent_each took.0 m p before after took.2
took_each false m n p before after took = ap length took.1

pub followed_owed : (turn : Turn) (m n : Running) (p q : ℕ) → q ≢ p → Follows turn m n p → slice_index n.owed q ≡ slice_index m.owed q
followed_owed Fired m n p q ne is = same_index n.owed m.owed q (is.other_owed q ne)
followed_owed Stalled m n p q ne is = ap (λ (r : Running). slice_index r.owed q) is ∙ get_or-set_other m.owed p q (slice_index m.owed p - 1) 0 ne
followed_owed _ m n p q ne is = ap (λ (r : Running). slice_index r.owed q) is

pub took_owed : (b : Bool) (m n : Running) (p q : ℕ) (before after : List ℕ) → q ≢ p → Took b m n p before after
    → slice_index n.owed q ≡ slice_index m.owed q
took_owed true m n p q before after ne took = followed_owed took.0 m n p q ne took.1.after
took_owed false m n p q before after ne took = ap (λ (r : Running). slice_index r.owed q) took.0

module _ (g : ProgramSet) (valid : IsSet g) where
  -- the counts of what was sent, with one step more, and with a stall turn
  module _ (m : Running) (ts : List ℕ) (p : ℕ) (has : HasTaken g m ts) (before after : List ℕ) (was : HaveSent g ts before) where
    abbrev sent_in : ℕ → List ℕ → ℕ
    sent_in w h = length (passed_on g (start g) h w)

    -- the list before the turn led to the state
    led : end g (steps_of g (first_clock g) ts) ≡ m.state
    led = sym (ap (λ h. end h (steps_of g (first_clock g) ts)) has.same) ∙ has.run.there

    pub step_sent : AreCounted (event_of (machine_of g) m.state p).sent before after → owes g (clock_by g ts) p ≡ false → HaveSent g (ts ++ p ∷ []) after
    step_sent counted free =
        record {
          each = counted.each ∙ was.each;
          sent =
              λ w there.
              let all : sent_in w (steps_of g (first_clock g) (ts ++ p ∷ [])) ≡ sent_in w (steps_of g (first_clock g) ts ++ p ∷ []) =
              ap (sent_in w)
              (steps_in-append (machine_of g) (cost_of g) (first_clock g) ts (p ∷ []) ∙ ap (λ b. steps_of g (first_clock g) ts ++ cond b [] (p ∷ [])) free) in
              let more : sent_in w (steps_of g (first_clock g) ts ++ p ∷ [])
              ≡ sent_in w (steps_of g (first_clock g) ts) + length (sent_on w (event_of (machine_of g) m.state p).sent) =
              ap length (passed_push (machine_of g) (start g) (steps_of g (first_clock g) ts) p w)
              ∙ length-append (passed_on g (start g) (steps_of g (first_clock g) ts) w) (sent_on w (event_of (machine_of g) (end g (steps_of g (first_clock g) ts)) p).sent)
              ∙ ap (λ s. sent_in w (steps_of g (first_clock g) ts) + length (sent_on w (event_of (machine_of g) s p).sent)) led in
              let within : w < length before = omega (arith, there, was.each) in
              omega (arith, all, more, was.sent w there, counted.more w within);
        }

    pub stall_sent : after ≡ before → owes g (clock_by g ts) p ≡ true → HaveSent g (ts ++ p ∷ []) after
    stall_sent same stall =
        record {
          each = ap length same ∙ was.each;
          sent =
              λ w there.
              ap (λ xs. slice_index xs w) same
              ∙ was.sent w there
              ∙ sym
              (ap (sent_in w)
              (steps_in-append (machine_of g) (cost_of g) (first_clock g) ts (p ∷ [])
              ∙ ap (λ b. steps_of g (first_clock g) ts ++ cond b [] (p ∷ [])) stall
              ∙ append-nil (steps_of g (first_clock g) ts)));
        }

  -- a turn that goes on, of a processor that may take it
  turn_taken : (m n : Running) (ts : List ℕ) (p : ℕ) (before after : List ℕ) → HasTaken g m ts → HaveSent g ts before
      → (tile_count g.topo ≤ p → slice_index m.owed p ≡ 0) → is_enabled (clocked g) (clock_by g ts) p ≡ true → p < proc_count g.topo
      → (turn : Turn) → IsTurnOf m n p turn → AreSent turn m p before after
      → HasTaken g n (ts ++ p ∷ []) × HaveSent g (ts ++ p ∷ []) after
  turn_taken m n ts p before after has was none on below turn is sent = by_turn turn (is.answer ∙ turn_told g valid m ts has p none) is.after sent
    where
      goes_turn : goes (turn_in g (clock_by g ts) p) ≡ true
      goes_turn = goes_is g (clock_by g ts) p (omega (arith, below, clock_length g valid ts)) ∙ on

      by_turn : (turn : Turn) → turn ≡ turn_in g (clock_by g ts) p → Follows turn m n p → AreSent turn m p before after
          → HasTaken g n (ts ++ p ∷ []) × HaveSent g (ts ++ p ∷ []) after
      by_turn Fired e after_it sent =
          let free = fired_owes (stopped g (machine_at (clock_by g ts)) p) (owes g (clock_by g ts) p) (first_wait g (machine_at (clock_by g ts)) p) e in
          let counted : AreCounted (event_of (machine_of g) m.state p).sent before after =
          subst (λ h. AreCounted (event_of (machine_of h) m.state p).sent before after) has.same sent in (
            fired_told g valid m ts has p on n after_it free,
            step_sent m ts p has before after was counted free,
          )
      by_turn Stalled e after_it sent =
          let stall = stalled_owes (stopped g (machine_at (clock_by g ts)) p) (owes g (clock_by g ts) p) (first_wait g (machine_at (clock_by g ts)) p) e in
          let tile : p < tile_count g.topo =
          ⊎_elim (λ there. there)
          (λ (past : tile_count g.topo ≤ p).
          let off : owes g (clock_by g ts) p ≡ false = owes_told g valid m ts has p none ∙ ap (λ k. ltb 0 k) (none past) in
          absurd (false≢true (sym off ∙ stall)))
          (cases_lt p (tile_count g.topo)) in (
            subst (λ r. HasTaken g r (ts ++ p ∷ [])) (sym after_it) (stalled_told g valid m ts has p on stall tile),
            stall_sent m ts p has before after was sent stall,
          )
      by_turn Stopped e after_it sent = absurd (false≢true (ap goes e ∙ goes_turn))
      by_turn (Waits wire) e after_it sent = absurd (false≢true (ap goes e ∙ goes_turn))

  -- those of the first i processors that go on in a cycle
  abbrev pub begun : List ℕ → ℕ → List ℕ
  begun ts i = filter (λ p. is_enabled (clocked g) (clock_by g ts) p) (range_with_len 0 i)

  -- and processor i after them
  begun_next : (ts : List ℕ) (i : ℕ) (b : Bool) → b ≡ is_enabled (clocked g) (clock_by g ts) i
      → (ts ++ begun ts i) ++ cond b (i ∷ []) [] ≡ ts ++ begun ts (suc i)
  begun_next ts i b e =
      let two : 0 + i ≡ i = omega arith in
      append_assoc ts (begun ts i) (cond b (i ∷ []) [])
      ∙ ap (λ xs. ts ++ xs)
      (ap (λ b. begun ts i ++ cond b (i ∷ []) []) e
      ∙ sym
      (filtered_more (λ p. is_enabled (clocked g) (clock_by g ts) p) 0 i
      ∙ ap (λ k. begun ts i ++ cond (is_enabled (clocked g) (clock_by g ts) k) (k ∷ []) []) two))

  pub took_one : (m0 m n : Running) (ts : List ℕ) (i : ℕ) (before after : List ℕ) → HasTaken g m0 ts
      → (tile_count g.topo ≤ i → slice_index m0.owed i ≡ 0) → i < proc_count g.topo
      → HasTaken g m (ts ++ begun ts i) → HaveSent g (ts ++ begun ts i) before → slice_index m.owed i ≡ slice_index m0.owed i
      → (b : Bool) → b ≡ goes (turn_of m0 i) → Took b m n i before after
      → HasTaken g n (ts ++ begun ts (suc i)) × HaveSent g (ts ++ begun ts (suc i)) after
  took_one m0 m n ts i before after has0 none below has was later b asked took =
      subst (λ xs. HasTaken g n xs × HaveSent g xs after) (begun_next ts i b on) (by_test b on took)
    where
      on : b ≡ is_enabled (clocked g) (clock_by g ts) i
      on = asked ∙ ap goes (turn_told g valid m0 ts has0 i none) ∙ goes_is g (clock_by g ts) i (omega (arith, below, clock_length g valid ts))

      by_test : (b : Bool) → b ≡ is_enabled (clocked g) (clock_by g ts) i → Took b m n i before after
          → HasTaken g n ((ts ++ begun ts i) ++ cond b (i ∷ []) []) × HaveSent g ((ts ++ begun ts i) ++ cond b (i ∷ []) []) after
      by_test true e took =
          let still : is_enabled (clocked g) (clock_by g (ts ++ begun ts i)) i ≡ true =
          ap (λ c. is_enabled (clocked g) c i) (end_of-append (clocked g) (first_clock g) ts (begun ts i))
          ∙ next_enabled (clocked g) (producer_of g.topo) (consumer_of g.topo) (clock_wired g valid) (clock_by g ts) i (sym e) in
          turn_taken m n (ts ++ begun ts i) i before after has was (λ past. later ∙ none past) still below took.0 took.1 took.2
      by_test false e took =
          let all = sym (append-nil (ts ++ begun ts i)) in
          subst (λ xs. HasTaken g n xs × HaveSent g xs after) all
          (subst (λ r. HasTaken g r (ts ++ begun ts i)) (sym took.0) has, subst (λ xs. HaveSent g (ts ++ begun ts i) xs) (sym took.1) was)

  pub all_begun : (ts : List ℕ) (n : ℕ) → n ≡ proc_count g.topo → begun ts n ≡ all_enabled (clocked g) (clock_by g ts)
  all_begun ts n many = ap (λ k. begun ts k) (many ∙ sym (clock_length g valid ts))

  -- a machine at its start has taken no turns
  pub fresh_told : (m : Running) → IsFresh g m → HasTaken g m []
  unfolding misses
  fresh_told m fresh =
      record {
        same = fresh.set;
        lawful = tt;
        run = fresh_run g m fresh;
        owed = λ t within.
            let paid : paid_by (first_clock g) t ≡ 0 = unpaid_none (start g) t in
            let none : slice_index m.owed t ≡ 0 = zeros_at m.owed _ fresh.owed t in
            let cost : cost_of g t (touched_by (first_clock g) t) ≡ 0 = ap (cost_of g t) (untouched (start g) t) in
            omega (arith, paid, none, cost);
      }

  -- and has sent nothing
  pub none_sent : (passed : List ℕ) → passed ≡ replicate (length (wires_of g.topo)) 0 → HaveSent g [] passed
  none_sent passed is =
      record {
        each = ap length is ∙ length-replicate {A = ℕ} (length (wires_of g.topo)) 0;
        sent = λ w there. zeros_at passed _ is w;
      }

  module _ (m : Running) (k : ℕ) (has : HasTaken g m (clock_turns g k)) (alone : OnlyTilesOwe m) where
    turn_at : (p : ℕ) → p < proc_count g.topo → turn_of m p ≡ turn_in g (clock g k) p
    turn_at p below =
        turn_told g valid m (clock_turns g k) has p
        (λ past. alone p (subst (λ (h : ProgramSet). tile_count h.topo ≤ p) (sym has.same) past) (subst (λ (h : ProgramSet). p < proc_count h.topo) (sym has.same) below))

    pub turns_told : (turns : List Turn) → AreTurns m turns → AreClockTurns g k turns
    turns_told turns are p below =
        are p (subst (λ (h : ProgramSet). p < proc_count h.topo) (sym has.same) below) ∙ ap Some (turn_at p below)

    -- the clock goes on where the machine does
    pub goes_told : SomeGoes m (proc_count m.set.topo) → GoesOn g (clock g k)
    goes_told some =
        let below : some.0 < proc_count g.topo = subst (λ (h : ProgramSet). some.0 < proc_count h.topo) has.same some.1 in
        record { p = some.0; there = below; does = sym (ap goes (turn_at some.0 below)) ∙ some.2 }

    pub over_told : NoneGoes m (proc_count m.set.topo) → IsOver g (clock g k)
    over_told none p below =
        sym (ap goes (turn_at p below)) ∙ none p (subst (λ (h : ProgramSet). p < proc_count h.topo) (sym has.same) below)

-- a cycle without turns
pub still_turns : (g : ProgramSet) → IsSet g → (k : ℕ) → IsOver g (clock g k) → clock_turns g (suc k) ≡ clock_turns g k
still_turns g valid k over =
    let quiet = quiet_if_over g valid (clock g k) (clock_length g valid (clock_turns g k)) over in
    ap (λ xs. clock_turns g k ++ xs) ((law_empty_is_quiet (clocked g) (clock g k)).1 quiet) ∙ append-nil (clock_turns g k)

-- one cycle more
pub cycle_told : (g : ProgramSet) (m n : Running) (k : ℕ) (before after : List ℕ) → m.set ≡ g → HasTaken g m (clock_turns g k)
    → HaveSent g (clock_turns g k) before → IsCycle m n before after → HasTaken g n (clock_turns g (suc k)) × HaveSent g (clock_turns g (suc k)) after
cycle_told g m n k before after same has was cycle =
    subst
    (λ h. (ts : List ℕ) → HasTaken h m ts → HaveSent h ts before →
    HasTaken h n (ts ++ all_enabled (clocked h) (clock_by h ts)) × HaveSent h (ts ++ all_enabled (clocked h) (clock_by h ts)) after)
    same cycle (clock_turns g k) has was

-- all go on up to k, and so does k
pub more_on : (g : ProgramSet) (k : ℕ) → ((i : ℕ) → i < k → GoesOn g (clock g i)) → GoesOn g (clock g k) → (i : ℕ) → i < k + 1 → GoesOn g (clock g i)
more_on g k before now i below =
    ⊎_elim
    (λ (here : k ≡ i). subst (λ j. GoesOn g (clock g j)) here now)
    (λ (ne : k ≡ i → ⊥). before i (omega (arith, below, ne)))
    (cases_eq k i)
