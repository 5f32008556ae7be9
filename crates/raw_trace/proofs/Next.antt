-- One cycle of the clock: what it leaves of each local state, each wire, and what each processor has touched.
use Rattle.std.proofs.Common.{◌≡◌, ℕ, suc, ◌<◌, Bool, true, false, cond, eqb, List, [], ◌∷◌, ◌++◌, length, drop, set, Option, Some, None, refl, sym, ap, ◌∙◌, subst, ⊎_elim, arith, append-nil}
use Rattle.std.specs.Prelude.{slice_get, slice_index}
use Rattle.std.specs.List.{flat_map, filter_map}
use Rattle.std.specs.Option.{option_to_list, option_and_then}
use Rattle.std.proofs.lemmas.Bool.{cases_eq, ne_eqb}
use Rattle.std.proofs.lemmas.Grind.{flat_map-append}
use Rattle.std.proofs.lemmas.List.Elements.{filter_map-append}
use Rattle.raw_network.specs.Network.{Network, State, Event, fronts, values_on, count_of, is_enabled, step, event_of, event_from}
use Rattle.raw_network.specs.Runs.{IsLawful, end_of, events_of, sent_on, kth, touches}
use Rattle.raw_network.specs.Laws.{got_on, received}
use Rattle.raw_network.specs.Wired.{IsWired}
use Rattle.raw_network.proofs.Wires.{count_here, count_there, count_none}
use Rattle.raw_network.proofs.Steps.{end_of-append, events_of-append}
use Rattle.raw_network.proofs.Kth.{kth_at}
use Rattle.raw_network.proofs.Erased.{events_here, events_at, events_there, length-events_of}
use Rattle.raw_network.proofs.SameRest.{same_events, passed_by}
use Rattle.raw_network.proofs.Flow.{law_queue}
use Rattle.raw_grid.specs.Topology.{proc_count}
use Rattle.raw_grid.specs.Wires.{wires_of, producer_of, consumer_of}
use Rattle.raw_model.specs.Program.{ProgramSet, IsSet}
use Rattle.raw_model.specs.Local.{Local}
use Rattle.raw_model.specs.Machine.{machine_of}
use Rattle.raw_model.specs.Start.{MachineState, Fits, start}
use Rattle.raw_model.specs.Rest.{passed_on}
use Rattle.raw_model.proofs.Wired.{wired}
use Rattle.raw_lockstep.specs.Lockstep.{IsRound}
use Rattle.raw_lockstep.specs.Stalls.{touched_by}
use Rattle.raw_lockstep.proofs.Cycling.{count_filtered, round_lawful}
use Rattle.raw_lockstep.proofs.Stalling.{law_cycle_fires}
use Rattle.raw_clock.specs.Clock.{cost_of, ClockState, machine_at, clock_turns, clock_steps, clock, turn_in, is_fired, fired}
use Rattle.raw_clock.proofs.Turning.{all_fired_is}
use Rattle.raw_clock.proofs.Clocking.{law_clock_at, clock_length, clock_fits, turns_lawful}
use Rattle.raw_trace.specs.Laws.{local_at}
use Rattle.raw_trace.proofs.Lists.{nil_of}

-- what is taken from a wire is what its consumer's steps took
got_none : (w : ℕ) (from took : List ℕ) → count_of w from ≡ 0 → got_on w from took ≡ []
got_none w [] took none = refl
got_none w (u ∷ us) [] none = refl
got_none w (u ∷ us) (x ∷ xs) none =
    ⊎_elim
    (λ (here : u ≡ w). let one = subst (λ v. count_of v (u ∷ us) ≡ suc (count_of v us)) here (count_here u us) in absurd (omega (arith, one, none)))
    (λ (ne : u ≡ w → ⊥). ap (λ b. cond b (x ∷ got_on w us xs) (got_on w us xs)) (ne_eqb u w ne) ∙ got_none w us xs (sym (count_there w u us ne) ∙ none))
    (cases_eq u w)

pub length-got : (w : ℕ) (us : List ℕ) (wires : List (List ℕ)) → length (got_on w us (fronts us wires)) ≡ count_of w us
length-got w [] wires = refl
length-got w (u ∷ us) wires =
    let left = set wires u (drop 1 (values_on wires u)) in
    by_test (eqb u w) (slice_index (values_on wires u) 0) (got_on w us (fronts us left)) (length-got w us left)
  where
    by_test : (b : Bool) (x : ℕ) (xs : List ℕ) → length xs ≡ count_of w us → length (cond b (x ∷ xs) xs) ≡ cond b (suc (count_of w us)) (count_of w us)
    by_test true x xs e = ap suc e
    by_test false x xs e = e

module _ {L : Type 0} (net : Network L) (producer consumer : ℕ → ℕ) (is_wired : IsWired net producer consumer) where
  taken_own : (s : State L) (p w : ℕ) → (p ≡ consumer w → ⊥) → got_on w (event_of net s p).from (event_of net s p).took ≡ []
  taken_own s p w ne = from (slice_get s.locals p)
    where
      from : (o : Option L) → got_on w (event_from net s.wires p o).from (event_from net s.wires p o).took ≡ []
      from None = refl
      from (Some l) = got_none w (net.takes p l) (fronts (net.takes p l) s.wires) (count_none consumer p w (net.takes p l) (is_wired.takes_own p l) (λ e. ne (sym e)))

  received_by : (s : State L) (ps : List ℕ) (w : ℕ)
      → received net s ps w ≡ flat_map (λ (e : Event L). got_on w e.from e.took) (events_of net s ps (consumer w))
  received_by s [] w = refl
  received_by s (p ∷ ps) w =
      let got = λ (e : Event L). got_on w e.from e.took in
      ap (λ xs. got (event_of net s p) ++ xs) (received_by (step net s p) ps w)
      ∙ ⊎_elim
      (λ e. ap (flat_map got) (sym (events_at net s p (consumer w) ps e)))
      (λ ne. ap (λ xs. xs ++ flat_map got (events_of net (step net s p) ps (consumer w))) (taken_own s p w ne) ∙ ap (flat_map got) (sym (events_there net s p (consumer w) ps ne)))
      (cases_eq p (consumer w))

  -- in a round each processor that is enabled does what it does in the state before it
  pub did_once : (s : State L) (round : List ℕ) (p : ℕ) (b : Bool) → IsRound net s round → count_of p round ≡ cond b 1 0
      → events_of net s round p ≡ cond b (event_of net s p ∷ []) []
  did_once s round p true is many =
      let on : is_enabled net s p ≡ true = is.enabled p (omega (arith, many)) in
      let one : count_of p (p ∷ []) ≡ 1 = count_here p [] in
      sym (same_events net producer consumer is_wired s (p ∷ []) round (on, tt) (round_lawful net producer consumer is_wired s round is.once is.enabled) p (one ∙ sym many))
      ∙ events_here net s p []
  did_once s round p false is many = nil_of (events_of net s round p) (length-events_of net s round p ∙ many)

  -- so its local state behind the round is that behind its step
  pub local_behind : (s : State L) (round : List ℕ) (p : ℕ) (b : Bool) → IsRound net s round → count_of p round ≡ cond b 1 0
      → slice_get (end_of net s round).locals p ≡ cond b (event_of net s p).after (slice_get s.locals p)
  local_behind s round p b is many =
      let lawful = round_lawful net producer consumer is_wired s round is.once is.enabled in
      sym (kth_at net s round [] p (subst (IsLawful net s) (sym (append-nil round)) lawful))
      ∙ ap (λ h. kth net s h p (count_of p round)) (append-nil round)
      ∙ by_test b many (did_once s round p b is many)
    where
      by_test : (b : Bool) → count_of p round ≡ cond b 1 0 → events_of net s round p ≡ cond b (event_of net s p ∷ []) []
          → kth net s round p (count_of p round) ≡ cond b (event_of net s p).after (slice_get s.locals p)
      by_test true many did = ap (kth net s round p) many ∙ ap (λ es. option_and_then (λ (e : Event L). e.after) (slice_get es 0)) did
      by_test false many did = ap (kth net s round p) many

  -- and a wire is what it was, with what its producer sent, without what its consumer took
  pub wire_behind : (s : State L) (round : List ℕ) (w : ℕ) (sends takes : Bool) → IsRound net s round → w < length s.wires
      → count_of (producer w) round ≡ cond sends 1 0 → count_of (consumer w) round ≡ cond takes 1 0
      → values_on s.wires w ++ cond sends (sent_on w (event_of net s (producer w)).sent) []
      ≡ cond takes (got_on w (event_of net s (consumer w)).from (event_of net s (consumer w)).took) [] ++ values_on (end_of net s round).wires w
  wire_behind s round w sends takes is within many_sends many_takes =
      let lawful = round_lawful net producer consumer is_wired s round is.once is.enabled in
      let sent = λ (e : Event L). sent_on w e.sent in
      let got = λ (e : Event L). got_on w e.from e.took in
      ap (λ xs. values_on s.wires w ++ xs)
      (sym (one sends (λ (e : Event L). sent_on w e.sent) (event_of net s (producer w))) ∙ ap (flat_map sent) (sym (did_once s round (producer w) sends is many_sends)) ∙ sym (passed_by net producer consumer is_wired s round w))
      ∙ law_queue net s round w lawful within
      ∙ ap (λ xs. xs ++ values_on (end_of net s round).wires w)
      (received_by s round w ∙ ap (flat_map got) (did_once s round (consumer w) takes is many_takes) ∙ one takes (λ (e : Event L). got_on w e.from e.took) (event_of net s (consumer w)))
    where
      one : (b : Bool) (f : Event L → List ℕ) (e : Event L) → flat_map f (cond b (e ∷ []) []) ≡ cond b (f e) []
      one true f e = append-nil (f e)
      one false f e = refl

module _ (set : ProgramSet) (valid : IsSet set) (k : ℕ) where
  abbrev c : ClockState
  c = clock set k

  abbrev s : MachineState
  s = machine_at (clock set k)

  abbrev round : List ℕ
  round = fired set (clock set k)

  is_round : IsRound (machine_of set) s round
  is_round =
      subst (IsRound (machine_of set) s)
      (sym (all_fired_is set c (clock_length set valid (clock_turns set k))))
      (law_cycle_fires (machine_of set) (cost_of set) c).is_round

  many : (p : ℕ) → p < proc_count set.topo → count_of p round ≡ cond (is_fired (turn_in set c p)) 1 0
  many p below = count_filtered (λ q. is_fired (turn_in set c q)) (proc_count set.topo) p below

  next_state : machine_at (clock set (suc k)) ≡ end_of (machine_of set) s round
  next_state =
      let at = law_clock_at set valid k in
      sym (law_clock_at set valid (suc k)).there
      ∙ ap (end_of (machine_of set) (start set)) at.cycle
      ∙ end_of-append (machine_of set) (start set) (clock_steps set k) round
      ∙ ap (λ t. end_of (machine_of set) t round) at.there

  -- the state before cycle k fits its set
  pub fits_at : Fits set s
  fits_at = clock_fits set valid (clock_turns set k) (turns_lawful set valid k)

  -- the local state of a processor that fired is that behind its step
  pub next_local : (p : ℕ) → p < proc_count set.topo
      → local_at set (suc k) p ≡ cond (is_fired (turn_in set c p)) (event_of (machine_of set) s p).after (local_at set k p)
  next_local p below =
      ap (λ (t : MachineState). slice_get t.locals p) next_state
      ∙ local_behind (machine_of set) (producer_of set.topo) (consumer_of set.topo) (wired set valid.topology) s round p (is_fired (turn_in set c p)) is_round (many p below)

  -- and it has touched what its step touched
  pub next_touched : (p : ℕ) → p < proc_count set.topo
      → touched_by (clock set (suc k)) p ≡ touched_by c p ++ cond (is_fired (turn_in set c p)) (option_to_list (event_of (machine_of set) s p).touched) []
  next_touched p below =
      let at = law_clock_at set valid k in
      let touch = λ (e : Event Local). e.touched in
      (law_clock_at set valid (suc k)).touched p
      ∙ ap (λ h. touches (machine_of set) (start set) h p) at.cycle
      ∙ ap (filter_map touch) (events_of-append (machine_of set) (start set) (clock_steps set k) round p)
      ∙ filter_map-append touch (events_of (machine_of set) (start set) (clock_steps set k) p) (events_of (machine_of set) (end_of (machine_of set) (start set) (clock_steps set k)) round p)
      ∙ ap (λ xs. xs ++ filter_map touch (events_of (machine_of set) (end_of (machine_of set) (start set) (clock_steps set k)) round p)) (sym (at.touched p))
      ∙ ap (λ xs. touched_by c p ++ xs)
      (ap (λ t. filter_map touch (events_of (machine_of set) t round p)) at.there
      ∙ ap (filter_map touch) (did_once (machine_of set) (producer_of set.topo) (consumer_of set.topo) (wired set valid.topology) s round p (is_fired (turn_in set c p)) is_round (many p below))
      ∙ one (is_fired (turn_in set c p)) (event_of (machine_of set) s p))
    where
      one_touch : (e : Event Local) (o : Option ℕ) → e.touched ≡ o → filter_map (λ (e : Event Local). e.touched) (e ∷ []) ≡ option_to_list o
      one_touch e None is = rw is
      one_touch e (Some a) is = rw is

      one : (b : Bool) (e : Event Local) → filter_map (λ (e : Event Local). e.touched) (cond b (e ∷ []) []) ≡ cond b (option_to_list e.touched) []
      one true e = one_touch e e.touched refl
      one false e = refl

  -- a wire has what its producer sent more, and what its consumer took less
  pub next_wire : (w p q : ℕ) → w < length (wires_of set.topo) → producer_of set.topo w ≡ p → consumer_of set.topo w ≡ q
      → p < proc_count set.topo → q < proc_count set.topo
      → values_on s.wires w ++ cond (is_fired (turn_in set c p)) (sent_on w (event_of (machine_of set) s p).sent) []
      ≡ cond (is_fired (turn_in set c q)) (got_on w (event_of (machine_of set) s q).from (event_of (machine_of set) s q).took) []
      ++ values_on (machine_at (clock set (suc k))).wires w
  next_wire w p q within from to p_below q_below =
      let fits = fits_at.wires in
      let behind = wire_behind (machine_of set) (producer_of set.topo) (consumer_of set.topo) (wired set valid.topology) s round w
      (is_fired (turn_in set c p)) (is_fired (turn_in set c q)) is_round (omega (arith, within, fits))
      (ap (λ r. count_of r round) from ∙ many p p_below) (ap (λ r. count_of r round) to ∙ many q q_below) in
      ap (λ r. values_on s.wires w ++ cond (is_fired (turn_in set c p)) (sent_on w (event_of (machine_of set) s r).sent) []) (sym from)
      ∙ behind
      ∙ ap (λ r. cond (is_fired (turn_in set c q)) (got_on w (event_of (machine_of set) s r).from (event_of (machine_of set) s r).took) [] ++ values_on (end_of (machine_of set) s round).wires w) to
      ∙ ap (λ (t : MachineState). cond (is_fired (turn_in set c q)) (got_on w (event_of (machine_of set) s q).from (event_of (machine_of set) s q).took) [] ++ values_on t.wires w) (sym next_state)

  -- on a wire passed what its producer sent more
  pub next_passed : (w : ℕ) → producer_of set.topo w < proc_count set.topo
      → passed_on set (start set) (clock_steps set (suc k)) w
      ≡ passed_on set (start set) (clock_steps set k) w
      ++ cond (is_fired (turn_in set c (producer_of set.topo w))) (sent_on w (event_of (machine_of set) s (producer_of set.topo w)).sent) []
  next_passed w below =
      let net = machine_of set in
      let p = producer_of set.topo w in
      let at = law_clock_at set valid k in
      let sent = λ (e : Event Local). sent_on w e.sent in
      let is_wired = wired set valid.topology in
      ap (λ h. passed_on set (start set) h w) at.cycle
      ∙ passed_by net (producer_of set.topo) (consumer_of set.topo) is_wired (start set) (clock_steps set k ++ round) w
      ∙ ap (flat_map sent) (events_of-append net (start set) (clock_steps set k) round p)
      ∙ flat_map-append sent (events_of net (start set) (clock_steps set k) p) (events_of net (end_of net (start set) (clock_steps set k)) round p)
      ∙ ap (λ xs. xs ++ flat_map sent (events_of net (end_of net (start set) (clock_steps set k)) round p))
      (sym (passed_by net (producer_of set.topo) (consumer_of set.topo) is_wired (start set) (clock_steps set k) w))
      ∙ ap (λ xs. passed_on set (start set) (clock_steps set k) w ++ xs)
      (ap (λ t. flat_map sent (events_of net t round p)) at.there
      ∙ ap (flat_map sent) (did_once net (producer_of set.topo) (consumer_of set.topo) is_wired s round p (is_fired (turn_in set c p)) is_round (many p below))
      ∙ one (is_fired (turn_in set c p)) (event_of net s p))
    where
      one : (b : Bool) (e : Event Local) → flat_map (λ (e : Event Local). sent_on w e.sent) (cond b (e ∷ []) []) ≡ cond b (sent_on w e.sent) []
      one true e = append-nil (sent_on w e.sent)
      one false e = refl
