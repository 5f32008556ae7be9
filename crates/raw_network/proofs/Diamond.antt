-- Two different processors that are enabled commute.
use Rattle.std.proofs.Common.{◌≡◌, ℕ, ◌+◌, ◌<◌, ◌≤◌, Bool, true, ltb, leb, not, ◌&&◌, List, [], ◌∷◌, ◌++◌, length, set, take, drop, Option, Some, None, refl, sym, ap, ◌∙◌, subst, ⊎_elim, arith}
use Rattle.std.specs.Prelude.{slice_get}
use Rattle.std.specs.List.{list_all, All}
use Rattle.std.proofs.lemmas.List.{length-append, length-drop, set_comm, take-append-le}
use Rattle.std.proofs.lemmas.List.Elements.{All-head, All-tail}
use Rattle.std.proofs.lemmas.Bool.{cases_eq, lt-ltb, ltb-true, leb-true, le-leb, and_parts, and_from}
use Rattle.raw_network.specs.Network.{Network, State, Row, Sent, values_on, count_of, fronts, taken, appended, has_values, has_room, is_ready, is_enabled, row_at, step_from, step, event_with, event_from, event_of}
use Rattle.raw_network.specs.Wired.{IsWired}
use Rattle.raw_network.proofs.Wires.{slice_get-set_other, all_at_count, count_none, fronts_same, arrivals, arrivals_none, wire_moved}
use Rattle.raw_network.proofs.Commute.{rows_commute}

-- what it is to be enabled
pub record Ready {L : Type 0} (net : Network L) (s : State L) (p : ℕ) (l : L) : Type 0 where
  pub here : slice_get s.locals p ≡ Some l
  pub going : not (net.is_stopped p l) ≡ true
  pub has : (w : ℕ) → count_of w (net.takes p l) ≤ length (values_on s.wires w)
  pub room : has_room net.depth (net.sends p l) s.wires ≡ true

-- each wire has as many values as are taken from it
pub counts_fit : (ws : List ℕ) (wires : List (List ℕ)) → has_values ws wires ≡ true → (w : ℕ)
    → count_of w ws ≤ length (values_on wires w)
counts_fit ws wires h w = ⊎_elim none some (cases_eq (count_of w ws) 0)
  where
    none : count_of w ws ≡ 0 → count_of w ws ≤ length (values_on wires w)
    none e = omega arith

    some : (count_of w ws ≡ 0 → ⊥) → count_of w ws ≤ length (values_on wires w)
    some ne =
        leb-true (count_of w ws) (length (values_on wires w))
        (all_at_count (λ v. leb (count_of v ws) (length (values_on wires v))) ws w h (omega arith))

list_all_each : (f : ℕ → Bool) (ws : List ℕ) → ((w : ℕ) → f w ≡ true) → list_all f ws ≡ true
list_all_each f [] h = refl
list_all_each f (w ∷ ws) h = and_from (f w) (list_all f ws) (h w) (list_all_each f ws h)

-- an enabled processor is there and ready
pub ready : {L : Type 0} (net : Network L) (s : State L) (p : ℕ) → is_enabled net s p ≡ true
    → (l : L) × Ready net s p l
ready {L = L} net s p h = from (slice_get s.locals p) refl h
  where
    from : (o : Option L) → slice_get s.locals p ≡ o → is_ready net p o s.wires ≡ true → (l : L) × Ready net s p l
    from None e h = cc
    from (Some l) e h =
        let parts = and_parts (not (net.is_stopped p l)) (has_values (net.takes p l) s.wires && has_room net.depth (net.sends p l) s.wires) h in
        let fits = and_parts (has_values (net.takes p l) s.wires) (has_room net.depth (net.sends p l) s.wires) parts.1 in
        (l, record { here = e; going = parts.0; has = counts_fit (net.takes p l) s.wires fits.0; room = fits.1 })

-- and one that is ready is enabled
pub enabled : {L : Type 0} (net : Network L) (s : State L) (p : ℕ) (l : L) → Ready net s p l
    → is_enabled net s p ≡ true
enabled net s p l r =
    rw r.here
    (and_from (not (net.is_stopped p l)) (has_values (net.takes p l) s.wires && has_room net.depth (net.sends p l) s.wires) r.going
    (and_from (has_values (net.takes p l) s.wires) (has_room net.depth (net.sends p l) s.wires)
    (list_all_each (λ w. leb (count_of w (net.takes p l)) (length (values_on s.wires w))) (net.takes p l) (λ w. le-leb (count_of w (net.takes p l)) (length (values_on s.wires w)) (r.has w)))
    r.room))

-- the room stays where no wire of the processor grows
room_kept : (own : ℕ → ℕ) (q n : ℕ) (ws : List ℕ) (wires others : List (List ℕ)) → All (λ w. own w ≡ q) ws
    → ((w : ℕ) → own w ≡ q → length (values_on others w) ≤ length (values_on wires w)) → has_room n ws wires ≡ true
    → has_room n ws others ≡ true
room_kept own q n [] wires others a h r = refl
room_kept own q n (w ∷ ws) wires others a h r =
    let parts = and_parts (ltb (length (values_on wires w)) n) (has_room n ws wires) r in
    let below : length (values_on wires w) < n = ltb-true (length (values_on wires w)) n parts.0 in
    let least : length (values_on others w) ≤ length (values_on wires w) = h w (All-head (λ w. own w ≡ q) w ws a) in
    and_from (ltb (length (values_on others w)) n) (has_room n ws others)
    (lt-ltb (length (values_on others w)) n (omega arith))
    (room_kept own q n ws wires others (All-tail (λ w. own w ≡ q) w ws a) h parts.1)

-- the state after a row of p with the local state l
abbrev pub moved : {L : Type 0} → Network L → State L → ℕ → L → State L
moved net s p l = step_from net s p (Some l)

module _ {L : Type 0} (net : Network L) (producer consumer : ℕ → ℕ) (wired : IsWired net producer consumer) where
  -- what a row of p with l sends at s
  abbrev pub sent_by : State L → ℕ → L → List Sent
  sent_by s p l = (row_at net p l s.wires).sent

  sent_by_own : (s : State L) (p : ℕ) (l : L) → All (λ (m : Sent). producer m.wire ≡ p) (sent_by s p l)
  sent_by_own s p l = wired.sent_own p l (fronts (net.takes p l) s.wires)

  moved_wire : (s : State L) (p : ℕ) (l : L) (v : ℕ)
      → values_on (moved net s p l).wires v
      ≡ drop (count_of v (net.takes p l)) (values_on s.wires v) ++ arrivals (length s.wires) v (sent_by s p l)
  moved_wire s p l v = wire_moved (net.takes p l) (sent_by s p l) s.wires v

  module _ (s : State L) (p q : ℕ) (differ : p ≡ q → ⊥) (l m : L) (rp : Ready net s p l) (rq : Ready net s q m) where
    -- q's operands are where they were
    still_there : (w : ℕ) → consumer w ≡ q
        → values_on (moved net s p l).wires w ≡ values_on s.wires w ++ arrivals (length s.wires) w (sent_by s p l)
    still_there w e =
        moved_wire s p l w
        ∙ ap (λ n. drop n (values_on s.wires w) ++ arrivals (length s.wires) w (sent_by s p l))
        (count_none consumer p w (net.takes p l) (wired.takes_own p l) (λ f. differ (sym f ∙ e)))

    has_after : (w : ℕ) → count_of w (net.takes q m) ≤ length (values_on (moved net s p l).wires w)
    has_after w = ⊎_elim own other (cases_eq (consumer w) q)
      where
        own : consumer w ≡ q → count_of w (net.takes q m) ≤ length (values_on (moved net s p l).wires w)
        own e =
            let now : count_of w (net.takes q m) ≤ length (values_on s.wires w) = rq.has w in
            let longer : length (values_on (moved net s p l).wires w) ≡ length (values_on s.wires w) + length (arrivals (length s.wires) w (sent_by s p l)) =
            ap length (still_there w e) ∙ length-append (values_on s.wires w) (arrivals (length s.wires) w (sent_by s p l)) in
            omega arith

        other : (consumer w ≡ q → ⊥) → count_of w (net.takes q m) ≤ length (values_on (moved net s p l).wires w)
        other ne =
            let none : count_of w (net.takes q m) ≡ 0 = count_none consumer q w (net.takes q m) (wired.takes_own q m) ne in omega arith

    no_longer : (w : ℕ) → producer w ≡ q → length (values_on (moved net s p l).wires w) ≤ length (values_on s.wires w)
    no_longer w e =
        let nothing : arrivals (length s.wires) w (sent_by s p l) ≡ [] =
        arrivals_none producer p (length s.wires) w (sent_by s p l) (sent_by_own s p l) (λ f. differ (sym f ∙ e)) in
        let now : length (values_on (moved net s p l).wires w) ≡ length (drop (count_of w (net.takes p l)) (values_on s.wires w)) + 0 =
        ap length (moved_wire s p l w)
        ∙ length-append (drop (count_of w (net.takes p l)) (values_on s.wires w)) (arrivals (length s.wires) w (sent_by s p l))
        ∙ ap (λ xs. length (drop (count_of w (net.takes p l)) (values_on s.wires w)) + length xs) nothing in
        omega (arith, length-drop (count_of w (net.takes p l)) (values_on s.wires w))

    -- q is ready after p's row
    pub ready_after : Ready net (moved net s p l) q m
    ready_after =
        record {
          here = slice_get-set_other s.locals p q (row_at net p l s.wires).next (λ e. differ (sym e)) ∙ rq.here;
          going = rq.going;
          has = has_after;
          room =
              room_kept producer q net.depth (net.sends q m) s.wires (moved net s p l).wires (wired.sends_own q m) no_longer rq.room;
        }

    -- it takes the same values
    pub fronts_after : fronts (net.takes q m) (moved net s p l).wires ≡ fronts (net.takes q m) s.wires
    fronts_after =
        fronts_same (net.takes q m) (moved net s p l).wires s.wires (λ w. ⊎_elim (own w) (other w) (cases_eq (consumer w) q))
      where
        own : (w : ℕ) → consumer w ≡ q
            → take (count_of w (net.takes q m)) (values_on (moved net s p l).wires w)
            ≡ take (count_of w (net.takes q m)) (values_on s.wires w)
        own w e =
            ap (λ xs. take (count_of w (net.takes q m)) xs) (still_there w e)
            ∙ take-append-le (count_of w (net.takes q m)) (values_on s.wires w) (arrivals (length s.wires) w (sent_by s p l)) (rq.has w)

        other : (w : ℕ) → (consumer w ≡ q → ⊥)
            → take (count_of w (net.takes q m)) (values_on (moved net s p l).wires w)
            ≡ take (count_of w (net.takes q m)) (values_on s.wires w)
        other w ne =
            let none : count_of w (net.takes q m) ≡ 0 = count_none consumer q w (net.takes q m) (wired.takes_own q m) ne in
            ap (λ n. take n (values_on (moved net s p l).wires w)) none ∙ ap (λ n. take n (values_on s.wires w)) (sym none)

    -- does the same row
    pub row_after : row_at net q m (moved net s p l).wires ≡ row_at net q m s.wires
    row_after = ap (λ vs. net.row q m vs) fronts_after

    -- and its event is the same
    pub event_after : event_from net (moved net s p l).wires q (Some m) ≡ event_from net s.wires q (Some m)
    event_after = ap (λ vs. event_with net q m vs) fronts_after

  -- the state after p and then q, by the two rows
  both_moved : (s : State L) (p q : ℕ) (differ : p ≡ q → ⊥) (l m : L) (rp : Ready net s p l) (rq : Ready net s q m) →
      moved net (moved net s p l) q m ≡
      record {
        locals = set (set s.locals p (row_at net p l s.wires).next) q (row_at net q m s.wires).next;
        wires = appended (sent_by s q m) (taken (net.takes q m) (appended (sent_by s p l) (taken (net.takes p l) s.wires)));
      }
  both_moved s p q differ l m rp rq =
      ap
      (λ (r : Row L). record {
        locals = set (set s.locals p (row_at net p l s.wires).next) q r.next;
        wires = appended r.sent (taken (net.takes q m) (appended (sent_by s p l) (taken (net.takes p l) s.wires)));
      })
      (row_after s p q differ l m rp rq)

  -- two rows lead to the same state in either order
  pub moved_commute : (s : State L) (p q : ℕ) (differ : p ≡ q → ⊥) (l m : L) (rp : Ready net s p l) (rq : Ready net s q m) →
      moved net (moved net s p l) q m ≡ moved net (moved net s q m) p l
  moved_commute s p q differ l m rp rq =
      both_moved s p q differ l m rp rq
      ∙ same
      ∙ sym (both_moved s q p (λ e. differ (sym e)) m l rq rp)
    where
      same_locals : set (set s.locals p (row_at net p l s.wires).next) q (row_at net q m s.wires).next
          ≡ set (set s.locals q (row_at net q m s.wires).next) p (row_at net p l s.wires).next
      same_locals = set_comm s.locals p q (row_at net p l s.wires).next (row_at net q m s.wires).next differ

      same_wires : appended (sent_by s q m) (taken (net.takes q m) (appended (sent_by s p l) (taken (net.takes p l) s.wires)))
          ≡ appended (sent_by s p l) (taken (net.takes p l) (appended (sent_by s q m) (taken (net.takes q m) s.wires)))
      same_wires =
          rows_commute producer consumer wired.apart p q differ (net.takes p l) (sent_by s p l) (net.takes q m)
          (sent_by s q m) s.wires (wired.takes_own p l) (sent_by_own s p l) (wired.takes_own q m)
          (sent_by_own s q m) rp.has rq.has

      same : ◌≡◌ {A = State L}
          record { locals = set (set s.locals p (row_at net p l s.wires).next) q (row_at net q m s.wires).next; wires = appended (sent_by s q m) (taken (net.takes q m) (appended (sent_by s p l) (taken (net.takes p l) s.wires))) }
          record { locals = set (set s.locals q (row_at net q m s.wires).next) p (row_at net p l s.wires).next; wires = appended (sent_by s p l) (taken (net.takes p l) (appended (sent_by s q m) (taken (net.takes q m) s.wires))) }
      same = λ i. record { locals = same_locals i; wires = same_wires i }

  -- the same, said of `step`
  pub step_ready : (s : State L) (p : ℕ) (l : L) → Ready net s p l → step net s p ≡ moved net s p l
  step_ready s p l r = ap (λ o. step_from net s p o) r.here

  -- the event of a processor that is ready
  pub event_ready : (s : State L) (p : ℕ) (l : L) → Ready net s p l
      → event_of net s p ≡ event_from net s.wires p (Some l)
  event_ready s p l r = ap (λ o. event_from net s.wires p o) r.here

  module _ (s : State L) (p q : ℕ) (differ : p ≡ q → ⊥) (ep : is_enabled net s p ≡ true) (eq : is_enabled net s q ≡ true) where
    -- q is enabled after p's step
    pub still_enabled : is_enabled net (step net s p) q ≡ true
    still_enabled =
        let (l, rp) = ready net s p ep in
        let (m, rq) = ready net s q eq in
        subst (λ t. is_enabled net t q ≡ true) (sym (step_ready s p l rp)) (enabled net (moved net s p l) q m (ready_after s p q differ l m rp rq))

    -- its step does the same
    pub same_event : event_of net (step net s p) q ≡ event_of net s q
    same_event =
        let (l, rp) = ready net s p ep in
        let (m, rq) = ready net s q eq in
        ap (λ t. event_of net t q) (step_ready s p l rp)
        ∙ event_ready (moved net s p l) q m (ready_after s p q differ l m rp rq)
        ∙ event_after s p q differ l m rp rq
        ∙ sym (event_ready s q m rq)

    -- both orders lead to the same state
    pub steps_commute : step net (step net s p) q ≡ step net (step net s q) p
    steps_commute =
        let (l, rp) = ready net s p ep in
        let (m, rq) = ready net s q eq in
        ap (λ t. step net t q) (step_ready s p l rp)
        ∙ step_ready (moved net s p l) q m (ready_after s p q differ l m rp rq)
        ∙ moved_commute s p q differ l m rp rq
        ∙ sym (step_ready (moved net s q m) p l (ready_after s q p (λ e. differ (sym e)) m l rq rp))
        ∙ sym (ap (λ t. step net t p) (step_ready s q m rq))
