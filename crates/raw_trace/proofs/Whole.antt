-- The lines of a whole run tell its turns and its sends.
use Rattle.std.proofs.Common.{◌≡◌, ℕ, zero, suc, ◌+◌, ◌-◌, ◌<◌, ◌≤◌, ◌==◌, Bool, true, false, cond, ltb, eqb, List, [], ◌∷◌, ◌++◌, length, map, take, Option, Some, None, refl, sym, ap, ◌∙◌, subst, arith, append-nil, ⊎_elim}
use Rattle.std.specs.Prelude.{slice_get}
use Rattle.std.specs.List.{filter, flat_map, fold, range_with_len, count_by, last_or}
use Rattle.std.proofs.lemmas.Bool.{eqb-true, false≢true, cases_eq}
use Rattle.std.proofs.lemmas.List.{map-append, length-append}
use Rattle.std.proofs.lemmas.Option.{same_Some}
use Rattle.std.proofs.lemmas.List.FromFn.{take-map-range_with_len}
use Rattle.raw_network.specs.Network.{Event, fronts, event_of, event_from}
use Rattle.raw_network.specs.Runs.{sent_on}
use Rattle.raw_grid.specs.Topology.{proc_count}
use Rattle.raw_grid.specs.Wires.{wires_of, producer_of}
use Rattle.raw_grid.proofs.WireLaws.{producer_few}
use Rattle.raw_model.specs.Program.{ProgramSet, IsSet}
use Rattle.raw_model.specs.Local.{Local}
use Rattle.raw_model.specs.Machine.{machine_of}
use Rattle.raw_model.specs.Rest.{stopped, is_stopped_at}
use Rattle.raw_model.specs.Waits.{first_wait}
use Rattle.raw_model.specs.StateTexts.{mark_of}
use Rattle.raw_model.proofs.Once.{sends_once}
use Rattle.raw_serial.specs.declared.turn.Turn.{Turn}
use Rattle.raw_serial.specs.declared.turn.Turn.TheVariants.{Fired, Stalled, Stopped, Waits}
use Rattle.raw_serial.specs.Turns.{turn_by}
use Rattle.raw_lockstep.proofs.Cycling.{filtered_more}
use Rattle.raw_processor.proofs.Counting.{range_more}
use Rattle.raw_clock.specs.Clock.{machine_at, clock, turn_in, is_fired, is_stop, owes, spent, passed_in, IsOver, goes}
use Rattle.raw_set_text.proofs.Lawful.Lists.{sum_map}
use Rattle.raw_trace.specs.Reading.{told, sent_told}
use Rattle.raw_trace.specs.Lines.{turn_line, firing_entries}
use Rattle.raw_trace.specs.Laws.{local_at}
use Rattle.raw_trace.specs.Whole.{one_more, pieces, spread, sums, distances, AreLongest, StopsLast, same_turn, turns_of, turn_pieces, sent_in, sending, distance_pieces}
use Rattle.raw_trace.proofs.Firings.{fired_sent}
use Rattle.raw_trace.proofs.Next.{next_local, next_passed}
use Rattle.raw_trace.proofs.Told.{entries_are}
use Rattle.raw_trace.proofs.Turns.{stopped_stops, same_stop}
use Rattle.raw_trace.proofs.Pieces.{spread_pieces, longest_pieces, pieces_push, sums_of, length-distances}

-- ---- turns

pub same_is : (a b : Turn) → same_turn a b ≡ true → a ≡ b
same_is Fired Fired e = refl
same_is Stalled Stalled e = refl
same_is Stopped Stopped e = refl
same_is (Waits wire) (Waits other) e = ap (λ w. Waits (record { 0 = w })) (eqb-true wire.0 other.0 e)
same_is Fired Stalled e = absurd (false≢true e)
same_is Fired Stopped e = absurd (false≢true e)
same_is Fired (Waits w) e = absurd (false≢true e)
same_is Stalled Fired e = absurd (false≢true e)
same_is Stalled Stopped e = absurd (false≢true e)
same_is Stalled (Waits w) e = absurd (false≢true e)
same_is Stopped Fired e = absurd (false≢true e)
same_is Stopped Stalled e = absurd (false≢true e)
same_is Stopped (Waits w) e = absurd (false≢true e)
same_is (Waits v) Fired e = absurd (false≢true e)
same_is (Waits v) Stalled e = absurd (false≢true e)
same_is (Waits v) Stopped e = absurd (false≢true e)

pub turns_spread : (set : ProgramSet) (n p : ℕ) → spread (turn_pieces set n p) ≡ turns_of set p (suc n)
turns_spread set n p = spread_pieces same_turn same_is (turns_of set p (suc n))

pub turns_longest : (set : ProgramSet) (n p : ℕ) → AreLongest same_turn (turn_pieces set n p)
turns_longest set n p = longest_pieces same_turn (turns_of set p (suc n))

-- one turn more
pub turns_more : (set : ProgramSet) (p k : ℕ) → turns_of set p (suc k) ≡ turns_of set p k ++ turn_in set (clock set k) p ∷ []
turns_more set p k =
    let turn : ℕ → Turn = λ k. turn_in set (clock set k) p in
    let more : suc k ≡ k + 1 = omega arith in
    ap (λ j. map turn (range_with_len 0 j)) more
    ∙ ap (map turn) (range_more 0 k)
    ∙ map-append turn (range_with_len 0 k) ((0 + k) ∷ [])
    ∙ (let same : 0 + k ≡ k = omega arith in ap (λ j. map turn (range_with_len 0 k) ++ turn j ∷ []) same)

pub pieces_more : (set : ProgramSet) (p k : ℕ)
    → pieces same_turn (turns_of set p (suc k)) ≡ one_more same_turn (pieces same_turn (turns_of set p k)) (turn_in set (clock set k) p)
pieces_more set p k = ap (pieces same_turn) (turns_more set p k) ∙ pieces_push same_turn (turns_of set p k) (turn_in set (clock set k) p)

-- the kinds of turns are counted
pub turns_spent : (set : ProgramSet) (n p : ℕ) (kind : Turn → Bool) → count_by kind (take n (spread (turn_pieces set n p))) ≡ spent set n p kind
turns_spent set n p kind =
    let turn : ℕ → Turn = λ k. turn_in set (clock set k) p in
    ap (λ ts. count_by kind (take n ts)) (turns_spread set n p)
    ∙ ap (count_by kind) (take-map-range_with_len turn 0 (suc n) n (omega arith))
    ∙ sum_map (λ t. cond (kind t) 1 0) turn (range_with_len 0 n)

-- ---- stops

stop_is : (t : Turn) → is_stop t ≡ true → t ≡ Stopped
stop_is Stopped e = refl
stop_is Fired e = absurd (false≢true e)
stop_is Stalled e = absurd (false≢true e)
stop_is (Waits w) e = absurd (false≢true e)

-- the turn of the last piece
abbrev last_turn : List (Turn × ℕ) → Option Turn
last_turn [] = None
last_turn (piece ∷ []) = Some piece.0
last_turn (piece ∷ next ∷ ps) = last_turn (next ∷ ps)

last_onto : (piece : Turn × ℕ) (ps : List (Turn × ℕ)) (x : Turn) → last_turn (piece ∷ one_more same_turn ps x) ≡ last_turn (one_more same_turn ps x)
last_onto piece [] x = refl
last_onto piece (next ∷ []) x = by_test (same_turn next.0 x)
  where
    by_test : (b : Bool) → last_turn (piece ∷ cond b ((next.0, next.1 + 1) ∷ []) (next ∷ (x, 1) ∷ []))
        ≡ last_turn (cond b ((next.0, next.1 + 1) ∷ []) (next ∷ (x, 1) ∷ []))
    by_test true = refl
    by_test false = refl
last_onto piece (next ∷ one ∷ ps) x = refl

last_more : (ps : List (Turn × ℕ)) (x : Turn) → last_turn (one_more same_turn ps x) ≡ Some x
last_more [] x = refl
last_more (piece ∷ []) x = by_test (same_turn piece.0 x) refl
  where
    by_test : (b : Bool) → same_turn piece.0 x ≡ b → last_turn (cond b ((piece.0, piece.1 + 1) ∷ []) (piece ∷ (x, 1) ∷ [])) ≡ Some x
    by_test true is = ap Some (same_is piece.0 x is)
    by_test false is = refl
last_more (piece ∷ next ∷ ps) x = last_onto piece (next ∷ ps) x ∙ last_more (next ∷ ps) x

-- a turn more, which is a stop where the last one is
abbrev Stays : List (Turn × ℕ) → Turn → Type 0
Stays ps x = (t : Turn) → last_turn ps ≡ Some t → is_stop t ≡ true → is_stop x ≡ true

stops_onto : (piece next : Turn × ℕ) (ps : List (Turn × ℕ)) (x : Turn) → is_stop piece.0 ≡ false → StopsLast (one_more same_turn (next ∷ ps) x)
    → StopsLast (piece ∷ one_more same_turn (next ∷ ps) x)
stops_onto piece next [] x goes rest = by_test (same_turn next.0 x) rest
  where
    by_test : (b : Bool) → StopsLast (cond b ((next.0, next.1 + 1) ∷ []) (next ∷ (x, 1) ∷ []))
        → StopsLast (piece ∷ cond b ((next.0, next.1 + 1) ∷ []) (next ∷ (x, 1) ∷ []))
    by_test true rest = (goes, rest)
    by_test false rest = (goes, rest)
stops_onto piece next (one ∷ ps) x goes rest = (goes, rest)

stops_more : (ps : List (Turn × ℕ)) (x : Turn) → StopsLast ps → Stays ps x → StopsLast (one_more same_turn ps x)
stops_more [] x last stays = tt
stops_more (piece ∷ []) x last stays = by_test (same_turn piece.0 x) (is_stop piece.0) refl refl
  where
    by_test : (b s : Bool) → same_turn piece.0 x ≡ b → is_stop piece.0 ≡ s → StopsLast (cond b ((piece.0, piece.1 + 1) ∷ []) (piece ∷ (x, 1) ∷ []))
    by_test true s is stop = tt
    by_test false false is stop = (stop, tt)
    by_test false true is stop =
        let here = stop_is piece.0 stop in
        let there = stop_is x (stays piece.0 refl stop) in
        absurd (false≢true (sym is ∙ ap (λ t. same_turn t x) here ∙ ap (same_turn Stopped) there))
stops_more (piece ∷ next ∷ ps) x last stays = stops_onto piece next ps x last.0 (stops_more (next ∷ ps) x last.1 stays)

module _ (set : ProgramSet) (valid : IsSet set) (p : ℕ) (below : p < proc_count set.topo) where
  abbrev turn : ℕ → Turn
  turn k = turn_in set (clock set k) p

  -- a processor that is stopped stays so
  stays_stopped : (k : ℕ) → turn k ≡ Stopped → turn (suc k) ≡ Stopped
  stays_stopped k now =
      let s = machine_at (clock set k) in
      let t = machine_at (clock set (suc k)) in
      let stop : stopped set s p ≡ true = stopped_stops (stopped set s p) (owes set (clock set k) p) (first_wait set s p) (sym now) in
      let same : local_at set (suc k) p ≡ local_at set k p =
      next_local set valid k p below ∙ ap (λ turn. cond (is_fired turn) (event_of (machine_of set) s p).after (local_at set k p)) now in
      ap (λ b. turn_by b (owes set (clock set (suc k)) p) (first_wait set t p)) (ap (is_stopped_at set p) same ∙ stop)

  last_piece : (k : ℕ) → last_turn (pieces same_turn (turns_of set p (suc k))) ≡ Some (turn k)
  last_piece k = ap last_turn (pieces_more set p k) ∙ last_more (pieces same_turn (turns_of set p k)) (turn k)

  -- no piece stands behind a stop
  pieces_stop : (k : ℕ) → StopsLast (pieces same_turn (turns_of set p (suc k)))
  pieces_stop zero = tt
  pieces_stop (suc k) =
      subst StopsLast (sym (pieces_more set p (suc k)))
      (stops_more (pieces same_turn (turns_of set p (suc k))) (turn (suc k)) (pieces_stop k)
      (λ t last stop.
      let here : t ≡ turn k = same_Some t (turn k) (sym last ∙ last_piece k) in
      ap is_stop (stays_stopped k (sym here ∙ stop_is t stop))))

  pub turns_stop : (n : ℕ) → StopsLast (turn_pieces set n p)
  turns_stop n = pieces_stop n

  -- and its mark stays
  later_stop : (m k : ℕ) → turn k ≡ Stopped → turn (k + m) ≡ Stopped
  later_stop zero k now = let same : k + 0 ≡ k = omega arith in ap turn same ∙ now
  later_stop (suc m) k now = let more : k + suc m ≡ suc (k + m) = omega arith in ap turn more ∙ stays_stopped (k + m) (later_stop m k now)

  later_mark : (m k : ℕ) → turn k ≡ Stopped → mark_of set (machine_at (clock set (k + m))) p ≡ mark_of set (machine_at (clock set k)) p
  later_mark zero k now = let same : k + 0 ≡ k = omega arith in ap (λ j. mark_of set (machine_at (clock set j)) p) same
  later_mark (suc m) k now =
      let more : k + suc m ≡ suc (k + m) = omega arith in
      let here = later_stop m k now in
      ap (λ j. mark_of set (machine_at (clock set j)) p) more
      ∙ sym (same_stop set valid p below (k + m) (sym here) (sym (stays_stopped (k + m) here)))
      ∙ later_mark m k now

  pub mark_stays : (n k : ℕ) → k ≤ n → turn k ≡ Stopped → mark_of set (machine_at (clock set n)) p ≡ mark_of set (machine_at (clock set k)) p
  mark_stays n k le now =
      let same : k + (n - k) ≡ n = omega (arith, le) in
      sym (ap (λ j. mark_of set (machine_at (clock set j)) p) same) ∙ later_mark (n - k) k now

-- ---- sends

-- what the turn line of a processor tells as sent on a wire
sent_told_is : (set : ProgramSet) (k p w : ℕ) (turn : Turn)
    → told (sent_told w) (turn_line set (clock set k) p turn ∷ [])
    ≡ cond (is_fired turn) (sent_on w (event_of (machine_of set) (machine_at (clock set k)) p).sent) []
sent_told_is set k p w Fired =
    ap (flat_map (sent_told w)) (append-nil (firing_entries set (clock set k) p) ∙ entries_are set (clock set k) p)
    ∙ fired_sent set (machine_at (clock set k)).wires p (local_at set k p) _ w
sent_told_is set k p w Stalled = refl
sent_told_is set k p w Stopped = refl
sent_told_is set k p w (Waits wire) = refl

few_sent : (set : ProgramSet) (k p w : ℕ) (o : Option Local) → length (sent_on w (event_from (machine_of set) (machine_at (clock set k)).wires p o).sent) ≤ 1
few_sent set k p w None = omega arith
few_sent set k p w (Some l) =
    let net = machine_of set in
    let values = fronts (net.takes p l) (machine_at (clock set k)).wires in
    let once = sends_once set in
    omega (arith, once.sent_named p l values w, once.named_once p l w)

pub sent_once : (set : ProgramSet) (w k : ℕ) → length (sent_in set w k) ≤ 1
sent_once set w k =
    let p = producer_of set.topo w in
    let is = ap length (sent_told_is set k p w (turn_in set (clock set k) p)) in
    by_test (is_fired (turn_in set (clock set k) p)) is
  where
    by_test : (b : Bool)
        → length (sent_in set w k) ≡ length (cond b (sent_on w (event_of (machine_of set) (machine_at (clock set k)) (producer_of set.topo w)).sent) [])
        → length (sent_in set w k) ≤ 1
    by_test true is = let few = few_sent set k (producer_of set.topo w) w (local_at set k (producer_of set.topo w)) in omega (arith, is, few)
    by_test false is = omega (arith, is)

-- one cycle more
pub sending_more : (set : ProgramSet) (w k : ℕ)
    → sending set w (suc k) ≡ sending set w k ++ cond (ltb 0 (length (sent_in set w k))) (k ∷ []) []
sending_more set w k =
    let same : 0 + k ≡ k = omega arith in
    filtered_more (λ k. ltb 0 (length (sent_in set w k))) 0 k
    ∙ ap (λ j. sending set w k ++ cond (ltb 0 (length (sent_in set w j))) (j ∷ []) []) same

pub passed_more : (set : ProgramSet) → IsSet set → (w k : ℕ) → w < length (wires_of set.topo)
    → passed_in set (suc k) w ≡ passed_in set k w + length (sent_in set w k)
passed_more set valid w k within =
    let below = producer_few set.topo w valid.topology within in
    let p = producer_of set.topo w in
    let more = ap length (next_passed set valid k w below) in
    let all = ap length (sent_told_is set k p w (turn_in set (clock set k) p)) in
    more ∙ length-append _ _ ∙ ap (λ n. passed_in set k w + n) (sym all)

one_more_cycle : (m k : ℕ) → m ≤ 1 → length (cond (ltb 0 m) (k ∷ []) []) ≡ m
one_more_cycle zero k le = refl
one_more_cycle (suc zero) k le = refl
one_more_cycle (suc (suc m)) k le = absurd (omega (arith, le))

sending_many : (set : ProgramSet) → IsSet set → (w : ℕ) → w < length (wires_of set.topo) → (n : ℕ) → length (sending set w n) ≡ passed_in set n w
sending_many set valid w within zero = refl
sending_many set valid w within (suc n) =
    let more = ap length (sending_more set w n) ∙ length-append (sending set w n) (cond (ltb 0 (length (sent_in set w n))) (n ∷ []) []) in
    let one = one_more_cycle (length (sent_in set w n)) n (sent_once set w n) in
    let before = sending_many set valid w within n in
    let passed = passed_more set valid w n within in
    omega (arith, more, one, before, passed)

eqb_is : (a b : ℕ) → (a == b) ≡ true → a ≡ b
eqb_is a b e = eqb-true a b e

pub distances_spread : (set : ProgramSet) (n w : ℕ) → spread (distance_pieces set n w) ≡ distances (sending set w n)
distances_spread set n w = spread_pieces (λ a b. a == b) eqb_is (distances (sending set w n))

pub sends_summed : (set : ProgramSet) (n w : ℕ) → sums (spread (distance_pieces set n w)) ≡ sending set w n
sends_summed set n w = ap sums (distances_spread set n w) ∙ sums_of (λ k. ltb 0 (length (sent_in set w k))) n

pub sends_passed : (set : ProgramSet) → IsSet set → (n w : ℕ) → w < length (wires_of set.topo)
    → length (spread (distance_pieces set n w)) ≡ passed_in set n w
sends_passed set valid n w within =
    ap length (distances_spread set n w) ∙ length-distances 0 (sending set w n) ∙ sending_many set valid w within n

pub distances_longest : (set : ProgramSet) (n w : ℕ) → AreLongest (λ a b. a == b) (distance_pieces set n w)
distances_longest set n w = longest_pieces (λ a b. a == b) (distances (sending set w n))

-- where the clock is over, nothing is sent
over_fires : (t : Turn) → goes t ≡ false → is_fired t ≡ false
over_fires Fired e = absurd (false≢true (sym e))
over_fires _ e = refl

pub sending_over : (set : ProgramSet) → IsSet set → (n w : ℕ) → w < length (wires_of set.topo) → IsOver set (clock set n)
    → sending set w (suc n) ≡ sending set w n
sending_over set valid n w within over =
    let p = producer_of set.topo w in
    let off = over_fires (turn_in set (clock set n) p) (over p (producer_few set.topo w valid.topology within)) in
    let none : sent_in set w n ≡ [] =
    sent_told_is set n p w (turn_in set (clock set n) p)
    ∙ ap (λ b. cond b (sent_on w (event_of (machine_of set) (machine_at (clock set n)) p).sent) []) off in
    sending_more set w n ∙ ap (λ xs. sending set w n ++ cond (ltb 0 (length xs)) (n ∷ []) []) none ∙ append-nil (sending set w n)
