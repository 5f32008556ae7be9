-- A processor in the middle of a cycle, after those before it: its turn, its local state and its next step are still those of
-- the state before the cycle.
use Rattle.std.proofs.Common.{◌≡◌, ◌≢◌, ℕ, zero, suc, ◌+◌, ◌<◌, ◌≤◌, Bool, true, false, cond, ltb, List, [], ◌∷◌, ◌++◌, length, take, Option, Some, None, ◌⊎◌, inl, inr, refl, sym, ap, ◌∙◌, subst, ⊎_elim, arith, append-nil}
use Rattle.std.specs.Prelude.{slice_get, slice_index, option_map}
use Rattle.std.specs.List.{filter, range_with_len}
use Rattle.std.proofs.lemmas.Bool.{cases_lt, ltb-true, false≢true, cases_Bool}
use Rattle.std.proofs.lemmas.List.{append_assoc}
use Rattle.raw_network.specs.Network.{Network, State, Row, Event, fronts, count_of, is_enabled, event_of, event_from}
use Rattle.raw_network.specs.Runs.{IsLawful, end_of, events_of}
use Rattle.raw_network.specs.Wired.{IsWired}
use Rattle.raw_network.proofs.Wires.{count_here, count_there}
use Rattle.raw_network.proofs.Kth.{lawful_back}
use Rattle.raw_network.proofs.Steps.{end_of-append, lawful-push, events_of-append}
use Rattle.raw_network.proofs.Erased.{events_here, length-events_of}
use Rattle.raw_network.proofs.SameRest.{same_first}
use Rattle.raw_grid.specs.Topology.{tile_count, proc_count}
use Rattle.raw_grid.specs.Wires.{producer_of, consumer_of}
use Rattle.raw_model.specs.Program.{ProgramSet, IsSet}
use Rattle.raw_model.specs.Local.{Local}
use Rattle.raw_model.specs.Machine.{machine_of}
use Rattle.raw_model.specs.Rest.{stopped, is_stopped_at}
use Rattle.raw_model.specs.Waits.{first_wait}
use Rattle.raw_serial.specs.declared.turn.Turn.{Turn}
use Rattle.raw_serial.specs.declared.turn.Turn.TheVariants.{Fired, Stalled, Stopped, Waits}
use Rattle.raw_serial.specs.Turns.{turn_by}
use Rattle.raw_serial.specs.Running.{Running, IsTurnOf, Follows, turn_of}
use Rattle.raw_lockstep.specs.Stalls.{Paying, with_stalls, without_stalls, owes, owes_from, owes_at, row_wires, turn_row, touched_by, touched_in}
use Rattle.raw_lockstep.proofs.Cycling.{count-append, filtered_more, next_enabled}
use Rattle.raw_lockstep.proofs.Stalling.{local_there}
use Rattle.raw_clock.specs.Clock.{cost_of, clocked, machine_at, first_clock, clock_turns, turn_in, goes}
use Rattle.raw_clock.specs.Clock.{owes as owes_turn}
use Rattle.raw_clock.specs.Engine.{clock_by, HasTaken}
use Rattle.raw_clock.proofs.Turning.{goes_is}
use Rattle.raw_clock.proofs.Telling.{turn_told, fired_told, stalled_told, begun, all_begun, stalled_owes, followed_owed, fired_owes}
use Rattle.raw_clock.proofs.Clocking.{clock_wired, clock_length}
use Rattle.raw_clock.proofs.Stopping.{apart}
use Rattle.raw_explore.specs.Engine.{Took, IsTurnStill, IsAt}

-- a number past those that are filtered
pub none_above : (f : ℕ → Bool) (n p : ℕ) → n ≤ p → count_of p (filter f (range_with_len 0 n)) ≡ 0
none_above f zero p le = refl
none_above f (suc n) p le =
    ap (count_of p) (filtered_more f 0 n)
    ∙ count-append p (filter f (range_with_len 0 n)) (cond (f (0 + n)) ((0 + n) ∷ []) [])
    ∙ ap (λ k. k + count_of p (cond (f (0 + n)) ((0 + n) ∷ []) [])) (none_above f n p (omega (arith, le)))
    ∙ by_test (f (0 + n))
  where
    by_test : (b : Bool) → 0 + count_of p (cond b ((0 + n) ∷ []) []) ≡ 0
    by_test true = let none = count_there p (0 + n) [] (λ e. absurd (omega (arith, e, le))) in omega (arith, none)
    by_test false = refl

one_of : {A : Type 0} (x y : A) → take 1 (x ∷ []) ≡ take 1 (y ∷ []) → x ≡ y
one_of x y e = cc e

none_of : {A : Type 0} (xs ys : List A) → length xs ≡ 0 → xs ++ ys ≡ ys
none_of [] ys e = refl
none_of (x ∷ xs) ys e = absurd (omega (arith, e))

-- a step does the same after steps of others
pub same_after : {L : Type 0} (net : Network L) (producer consumer : ℕ → ℕ) → IsWired net producer consumer → (s : State L) (h : List ℕ) (p : ℕ)
    → IsLawful net s (h ++ p ∷ []) → is_enabled net s p ≡ true → count_of p h ≡ 0 → event_of net (end_of net s h) p ≡ event_of net s p
same_after net producer consumer wired s h p lawful on none =
    let one = count_here p [] in
    let more = count-append p h (p ∷ []) in
    let first = same_first net producer consumer wired s (p ∷ []) (h ++ p ∷ []) (on, tt) lawful p 1 (omega (arith, one)) (omega (arith, one, more)) in
    sym
    (one_of (event_of net s p) (event_of net (end_of net s h) p)
    (ap (take 1) (sym (events_here net s p []))
    ∙ first
    ∙ ap (take 1)
    (events_of-append net s h (p ∷ []) p
    ∙ none_of (events_of net s h p) (events_of net (end_of net s h) (p ∷ []) p) (length-events_of net s h p ∙ none)
    ∙ events_here net (end_of net s h) p [])))

-- what a step of the network with stall turns did, without what is paid
abbrev plain : {L : Type 0} → Event (Paying L) → Event L
plain e = record { from = e.from; took = e.took; sent = e.sent; touched = e.touched; after = option_map (λ x. x.local) e.after }

-- the row of the network with stall turns, of a processor that owes or not
abbrev turned : {L : Type 0} → Network L → List (List ℕ) → ℕ → Paying L → Bool → Row (Paying L)
turned net wires p x b = turn_row b x (net.row p x.local (fronts (row_wires b (net.takes p x.local)) wires))

plain_with : {L : Type 0} (net : Network L) (wires : List (List ℕ)) (p : ℕ) (x : Paying L) (b : Bool) → b ≡ false
    → event_from net wires p (Some x.local)
    ≡ plain (record {
      from = row_wires b (net.takes p x.local);
      took = fronts (row_wires b (net.takes p x.local)) wires;
      sent = (turned net wires p x b).sent;
      touched = (turned net wires p x b).touched;
      after = Some (turned net wires p x b).next;
    })
plain_with net wires p x false is = refl
plain_with net wires p x true is = absurd (false≢true (sym is))

plain_from : {L : Type 0} (net : Network L) (cost : ℕ → List ℕ → ℕ) (wires : List (List ℕ)) (p : ℕ) (o : Option (Paying L)) → owes_from cost p o ≡ false
    → event_from net wires p (option_map (λ x. x.local) o) ≡ plain (event_from (with_stalls net cost) wires p o)
plain_from net cost wires p None free = refl
plain_from net cost wires p (Some x) free = plain_with net wires p x (owes cost p x) free

-- of a processor that owes nothing it is what its step did
pub plain_is : {L : Type 0} (net : Network L) (cost : ℕ → List ℕ → ℕ) (s : State (Paying L)) (p : ℕ) → owes_at cost s p ≡ false
    → event_of net (without_stalls s) p ≡ plain (event_of (with_stalls net cost) s p)
plain_is net cost s p free =
    ap (λ o. event_from net s.wires p o) (local_there net cost s p (slice_get s.locals p) refl)
    ∙ plain_from net cost s.wires p (slice_get s.locals p) free

-- of a processor that is stopped as before and owes as before, and still goes on where it did, a turn is as before
still_turn : (stops owing : Bool) (wait later : Option ℕ) (turn : Turn) → turn ≡ turn_by stops owing wait
    → (goes turn ≡ goes (turn_by stops owing later)) ⊎ (goes turn ≡ false) → IsTurnStill turn (turn_by stops owing later)
still_turn true owing wait later turn is on = subst (λ t. IsTurnStill t Stopped) (sym is) refl
still_turn false true wait later turn is on = subst (λ t. IsTurnStill t Stalled) (sym is) refl
still_turn false false None None turn is on = subst (λ t. IsTurnStill t Fired) (sym is) refl
still_turn false false None (Some w) turn is on =
    absurd
    (⊎_elim
    (λ same. false≢true (sym same ∙ ap goes is))
    (λ off. false≢true (sym off ∙ ap goes is))
    on)
still_turn false false (Some v) later turn is on = subst (λ t. IsTurnStill t (turn_by false false later)) (sym is) tt

module _ (g : ProgramSet) (valid : IsSet g) where
  -- a turn that goes on was taken
  pub turn_taken : (m n : Running) (ts : List ℕ) (p : ℕ) → HasTaken g m ts → (tile_count g.topo ≤ p → slice_index m.owed p ≡ 0)
      → is_enabled (clocked g) (clock_by g ts) p ≡ true → p < proc_count g.topo → (turn : Turn) → IsTurnOf m n p turn → HasTaken g n (ts ++ p ∷ [])
  turn_taken m n ts p has none on below turn is = by_turn turn is.answer (is.answer ∙ turn_told g valid m ts has p none) is.after
    where
      goes_turn : goes (turn_in g (clock_by g ts) p) ≡ true
      goes_turn = goes_is g (clock_by g ts) p (omega (arith, below, clock_length g valid ts)) ∙ on

      by_turn : (turn : Turn) → turn ≡ turn_of m p → turn ≡ turn_in g (clock_by g ts) p → Follows turn m n p → HasTaken g n (ts ++ p ∷ [])
      by_turn Fired a e after =
          fired_told g valid m ts has p on n after
          (fired_owes (stopped g (machine_at (clock_by g ts)) p) (owes_turn g (clock_by g ts) p) (first_wait g (machine_at (clock_by g ts)) p) e)
      by_turn Stalled a e after =
          let stall = stalled_owes (stopped g (machine_at (clock_by g ts)) p) (owes_turn g (clock_by g ts) p) (first_wait g (machine_at (clock_by g ts)) p) e in
          let some : 0 < slice_index m.owed p =
          ltb-true 0 (slice_index m.owed p) (stalled_owes (stopped m.set m.state p) (ltb 0 (slice_index m.owed p)) (first_wait m.set m.state p) a) in
          let tile : p < tile_count g.topo =
          ⊎_elim (λ there. there) (λ (past : tile_count g.topo ≤ p). absurd (omega (arith, none past, some))) (cases_lt p (tile_count g.topo)) in
          subst (λ r. HasTaken g r (ts ++ p ∷ [])) (sym after) (stalled_told g valid m ts has p on stall tile)
      by_turn Stopped a e after = absurd (false≢true (ap goes e ∙ goes_turn))
      by_turn (Waits wire) a e after = absurd (false≢true (ap goes e ∙ goes_turn))

  module _ (ts : List ℕ) (i : ℕ) where
    -- the turns before that of processor i, and those of the cycle before it
    abbrev earlier : List ℕ
    earlier = begun g valid ts i

    pub local_mid : slice_get (clock_by g (ts ++ earlier)).locals i ≡ slice_get (clock_by g ts).locals i
    local_mid =
        ap (λ c. slice_get c.locals i) (end_of-append (clocked g) (first_clock g) ts earlier)
        ∙ apart (clocked g) (clock_by g ts) earlier i (none_above (λ p. is_enabled (clocked g) (clock_by g ts) p) i i (omega arith))

    pub owes_mid : owes_turn g (clock_by g (ts ++ earlier)) i ≡ owes_turn g (clock_by g ts) i
    owes_mid = ap (owes_from (cost_of g) i) local_mid

    pub touched_mid : touched_by (clock_by g (ts ++ earlier)) i ≡ touched_by (clock_by g ts) i
    touched_mid = ap touched_in local_mid

    pub machine_mid : slice_get (machine_at (clock_by g (ts ++ earlier))).locals i ≡ slice_get (machine_at (clock_by g ts)).locals i
    machine_mid =
        local_there (machine_of g) (cost_of g) (clock_by g (ts ++ earlier)) i _ refl
        ∙ ap (λ o. option_map (λ (x : Paying Local). x.local) o) local_mid
        ∙ sym (local_there (machine_of g) (cost_of g) (clock_by g ts) i _ refl)

    pub stopped_mid : stopped g (machine_at (clock_by g (ts ++ earlier))) i ≡ stopped g (machine_at (clock_by g ts)) i
    stopped_mid = ap (is_stopped_at g i) machine_mid

    pub enabled_mid : is_enabled (clocked g) (clock_by g ts) i ≡ true → is_enabled (clocked g) (clock_by g (ts ++ earlier)) i ≡ true
    enabled_mid on =
        ap (λ c. is_enabled (clocked g) c i) (end_of-append (clocked g) (first_clock g) ts earlier)
        ∙ next_enabled (clocked g) (producer_of g.topo) (consumer_of g.topo) (clock_wired g valid) (clock_by g ts) i on

    -- its turn, where it does not wait
    pub turn_mid : i < proc_count g.topo → (turn : Turn) → turn ≡ turn_in g (clock_by g ts) i
        → IsTurnStill turn (turn_in g (clock_by g (ts ++ earlier)) i)
    turn_mid below turn is =
        let c = clock_by g ts in
        let d = clock_by g (ts ++ earlier) in
        let there : i < length c.locals = omega (arith, below, clock_length g valid ts) in
        let still : i < length d.locals = omega (arith, below, clock_length g valid (ts ++ earlier)) in
        let wait = first_wait g (machine_at d) i in
        let same : turn_in g d i ≡ turn_by (stopped g (machine_at c) i) (owes_turn g c i) wait =
        ap (λ b. turn_by b (owes_turn g d i) wait) stopped_mid ∙ ap (λ b. turn_by (stopped g (machine_at c) i) b wait) owes_mid in
        let now : (goes turn ≡ goes (turn_in g d i)) ⊎ (goes turn ≡ false) =
        ⊎_elim
        (λ (on : is_enabled (clocked g) c i ≡ true).
        inl (ap goes is ∙ goes_is g c i there ∙ on ∙ sym (enabled_mid on) ∙ sym (goes_is g d i still)))
        (λ (off : is_enabled (clocked g) c i ≡ false). inr (ap goes is ∙ goes_is g c i there ∙ off))
        (cases_Bool (is_enabled (clocked g) c i)) in
        subst (IsTurnStill turn) (sym same)
        (still_turn (stopped g (machine_at c) i) (owes_turn g c i) (first_wait g (machine_at c) i) wait turn is
        (subst (λ t. (goes turn ≡ goes t) ⊎ (goes turn ≡ false)) same now))

    -- what its step does
    pub event_mid : is_enabled (clocked g) (clock_by g ts) i ≡ true → owes_turn g (clock_by g ts) i ≡ false
        → IsLawful (clocked g) (first_clock g) (ts ++ earlier)
        → event_of (machine_of g) (machine_at (clock_by g (ts ++ earlier))) i ≡ event_of (machine_of g) (machine_at (clock_by g ts)) i
    event_mid on free lawful =
        let c = clock_by g ts in
        let behind = end_of-append (clocked g) (first_clock g) ts earlier in
        let rest = lawful_back (clocked g) (first_clock g) ts earlier lawful in
        let more = lawful-push (clocked g) c earlier i rest
        (next_enabled (clocked g) (producer_of g.topo) (consumer_of g.topo) (clock_wired g valid) c i on) in
        plain_is (machine_of g) (cost_of g) (clock_by g (ts ++ earlier)) i (owes_mid ∙ free)
        ∙ ap (λ d. plain (event_of (clocked g) d i)) behind
        ∙ ap plain
        (same_after (clocked g) (producer_of g.topo) (consumer_of g.topo) (clock_wired g valid) c earlier i more on
        (none_above (λ p. is_enabled (clocked g) c p) i i (omega arith)))
        ∙ sym (plain_is (machine_of g) (cost_of g) c i free)

  -- those of the first processors that go on in a cycle, and one more
  begun_next : (ts : List ℕ) (i : ℕ) (b : Bool) → b ≡ is_enabled (clocked g) (clock_by g ts) i
      → (ts ++ begun g valid ts i) ++ cond b (i ∷ []) [] ≡ ts ++ begun g valid ts (suc i)
  begun_next ts i b e =
      let two : 0 + i ≡ i = omega arith in
      append_assoc ts (begun g valid ts i) (cond b (i ∷ []) [])
      ∙ ap (λ xs. ts ++ xs)
      (ap (λ b. begun g valid ts i ++ cond b (i ∷ []) []) e
      ∙ sym
      (filtered_more (λ p. is_enabled (clocked g) (clock_by g ts) p) 0 i
      ∙ ap (λ k. begun g valid ts i ++ cond (is_enabled (clocked g) (clock_by g ts) k) (k ∷ []) []) two))

  -- the turns of a cycle up to processor i, and that of processor i
  pub took_one : (m n : Running) (ts : List ℕ) (i : ℕ) → (tile_count g.topo ≤ i → slice_index m.owed i ≡ 0) → i < proc_count g.topo
      → HasTaken g m (ts ++ begun g valid ts i) → (turn : Turn) → turn ≡ turn_in g (clock_by g ts) i → Took (goes turn) m n i
      → HasTaken g n (ts ++ begun g valid ts (suc i))
  took_one m n ts i none below has turn is took =
      subst (λ xs. HasTaken g n xs) (begun_next ts i (goes turn) on) (by_test (goes turn) on took)
    where
      on : goes turn ≡ is_enabled (clocked g) (clock_by g ts) i
      on = ap goes is ∙ goes_is g (clock_by g ts) i (omega (arith, below, clock_length g valid ts))

      by_test : (b : Bool) → b ≡ is_enabled (clocked g) (clock_by g ts) i → Took b m n i
          → HasTaken g n ((ts ++ begun g valid ts i) ++ cond b (i ∷ []) [])
      by_test true e took = turn_taken m n (ts ++ begun g valid ts i) i has none (enabled_mid ts i (sym e)) below took.0 took.1
      by_test false e took =
          subst (λ xs. HasTaken g n xs) (sym (append-nil (ts ++ begun g valid ts i)))
          (subst (λ r. HasTaken g r (ts ++ begun g valid ts i)) (sym took) has)

-- what a turn leaves
pub took_set : (b : Bool) (m n : Running) (p : ℕ) → Took b m n p → n.set ≡ m.set
took_set true m n p took = took.1.set
took_set false m n p took = ap (λ (r : Running). r.set) took

pub took_owed : (b : Bool) (m n : Running) (p q : ℕ) → q ≢ p → Took b m n p → slice_index n.owed q ≡ slice_index m.owed q
took_owed true m n p q ne took = followed_owed took.0 m n p q ne took.1.after
took_owed false m n p q ne took = ap (λ (r : Running). slice_index r.owed q) took

-- all turns of a cycle were taken
pub at_next : (g : ProgramSet) (valid : IsSet g) (n : Running) (k i : ℕ) → n.set ≡ g → i ≡ proc_count g.topo
    → HasTaken g n (clock_turns g k ++ begun g valid (clock_turns g k) i) → IsAt n (k + 1)
at_next g valid n k i same all has =
    let next : suc k ≡ k + 1 = omega arith in
    subst (λ h. HasTaken h n (clock_turns h (k + 1))) (sym same)
    (subst (λ j. HasTaken g n (clock_turns g j)) next
    (subst (λ xs. HasTaken g n (clock_turns g k ++ xs)) (all_begun g valid (clock_turns g k) i all) has))

-- no turn of a cycle was taken
pub at_first : (g : ProgramSet) (valid : IsSet g) (m : Running) (k : ℕ) → HasTaken g m (clock_turns g k)
    → HasTaken g m (clock_turns g k ++ begun g valid (clock_turns g k) 0)
at_first g valid m k at = subst (λ xs. HasTaken g m xs) (sym (append-nil (clock_turns g k))) at
