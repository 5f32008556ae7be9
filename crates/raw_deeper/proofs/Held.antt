-- Processors that are stopped or wait for values from one another stay as they are.
use Rattle.std.proofs.Common.{◌≡◌, ℕ, ◌+◌, ◌-◌, ◌<◌, ◌≤◌, Bool, true, false, cond, not, ◌&&◌, ltb, leb, List, [], ◌∷◌, length, drop, Option, Some, None, refl, sym, ap, ◌∙◌, subst, ⊎_elim, arith}
use Rattle.std.specs.Prelude.{slice_get}
use Rattle.std.specs.List.{find}
use Rattle.std.proofs.lemmas.List.{length-append, length-drop}
use Rattle.std.proofs.lemmas.Bool.{cases_eq, cases_lt, ltb-true, ltb-false, lt-ltb, le-ltb, false≢true}
use Rattle.raw_network.specs.Network.{Network, State, values_on, count_of, is_enabled, row_at, step_from, step}
use Rattle.raw_network.specs.Runs.{IsLawful, end_of}
use Rattle.raw_network.specs.Wired.{IsWired}
use Rattle.raw_network.specs.Waits.{lacks_values, lacks_room, either_first, first_unmet, wait_of, first_wait}
use Rattle.raw_network.proofs.Wires.{count_there, count_none, arrivals, arrivals_none, wire_moved, slice_get-set_other}
use Rattle.raw_network.proofs.Diamond.{Ready, ready, moved}
use Rattle.raw_deeper.specs.Deeper.{with_depth, IsStopped, WaitsForValue, AreHeld, IsAsBefore, StaysHeld}

-- what is found first by one test is found first by another, which passes it and nothing more
found_again : (f g : ℕ → Bool) (xs : List ℕ) (w : ℕ) → ((v : ℕ) → f v ≡ false → g v ≡ false) → g w ≡ true
    → find f xs ≡ Some w → find g xs ≡ Some w
found_again f g [] w less on e = absurd (cc e)
found_again f g (x ∷ xs) w less on e = by_test (f x) refl e (λ later. found_again f g xs w less on later)
  where
    by_test : (b : Bool) → f x ≡ b → cond b (Some x) (find f xs) ≡ Some w → (find f xs ≡ Some w → find g xs ≡ Some w)
        → cond (g x) (Some x) (find g xs) ≡ Some w
    by_test true is e rest =
        let same : x ≡ w = cc e in
        ap (λ b. cond b (Some x) (find g xs)) (ap g same ∙ on) ∙ ap Some same
    by_test false is e rest = ap (λ b. cond b (Some x) (find g xs)) (less x is) ∙ rest e

found_passes : (f : ℕ → Bool) (xs : List ℕ) (w : ℕ) → find f xs ≡ Some w → f w ≡ true
found_passes f [] w e = absurd (cc e)
found_passes f (x ∷ xs) w e = by_test (f x) refl e (λ later. found_passes f xs w later)
  where
    by_test : (b : Bool) → f x ≡ b → cond b (Some x) (find f xs) ≡ Some w → (find f xs ≡ Some w → f w ≡ true) → f w ≡ true
    by_test true is e rest = let same : x ≡ w = cc e in ap f (sym same) ∙ is
    by_test false is e rest = rest e

both_ways : (b : Bool) → b ≡ true → b ≡ false → ⊥
both_ways b yes' no' = false≢true (sym no' ∙ yes')

module _ {L : Type 0} (net : Network L) (producer consumer : ℕ → ℕ) (inputs outputs : ℕ → List ℕ) (wired : IsWired net producer consumer) where
  -- where p, which is there, has not stopped and waits for a value on w
  record IsWaiting (s : State L) (p w : ℕ) : Type 0 where
    pub l : L
    pub here : slice_get s.locals p ≡ Some l
    pub going : net.is_stopped p l ≡ false
    pub first : find (lacks_values (net.takes p l) s.wires) (inputs p) ≡ Some w
    pub lacks : length (values_on s.wires w) < count_of w (net.takes p l)

  waiting : (s : State L) (p w : ℕ) → consumer w ≡ p → first_wait net inputs outputs s p ≡ Some w → IsWaiting s p w
  waiting s p w own waits = at (slice_get s.locals p) refl waits
    where
      by_first : (l : L) (o : Option ℕ) → find (lacks_values (net.takes p l) s.wires) (inputs p) ≡ o
          → either_first o (find (lacks_room net.depth (net.sends p l) s.wires) (outputs p)) ≡ Some w
          → find (lacks_values (net.takes p l) s.wires) (inputs p) ≡ Some w
      by_first l (Some v) is e = is ∙ e
      by_first l None is e =
          let room = found_passes (lacks_room net.depth (net.sends p l) s.wires) (outputs p) w e in
          ⊎_elim
          (λ (some : 0 < count_of w (net.sends p l)).
          ⊎_elim
          (λ (same : producer w ≡ p). absurd (wired.apart w (same ∙ sym own)))
          (λ (ne : producer w ≡ p → ⊥). let none = count_none producer p w (net.sends p l) (wired.sends_own p l) ne in absurd (omega arith))
          (cases_eq (producer w) p))
          (λ (none : count_of w (net.sends p l) ≤ 0). absurd (no_room (ltb 0 (count_of w (net.sends p l))) (leb net.depth (length (values_on s.wires w))) (le-ltb 0 (count_of w (net.sends p l)) none) room))
          (cases_lt 0 (count_of w (net.sends p l)))
        where
          no_room : (b c : Bool) → b ≡ false → (b && c) ≡ true → ⊥
          no_room true c e on = cc e
          no_room false c e on = cc on

      by_stop : (l : L) → slice_get s.locals p ≡ Some l → (b : Bool) → net.is_stopped p l ≡ b
          → cond b None (first_unmet net.depth (inputs p) (outputs p) (net.takes p l) (net.sends p l) s.wires) ≡ Some w
          → IsWaiting s p w
      by_stop l here true is e = absurd (cc e)
      by_stop l here false is e =
          let first = by_first l (find (lacks_values (net.takes p l) s.wires) (inputs p)) refl e in
          record {
            l = l;
            here = here;
            going = is;
            first = first;
            lacks = ltb-true (length (values_on s.wires w)) (count_of w (net.takes p l)) (found_passes (lacks_values (net.takes p l) s.wires) (inputs p) w first);
          }

      at : (o : Option L) → slice_get s.locals p ≡ o → wait_of net inputs outputs s.wires p o ≡ Some w → IsWaiting s p w
      at None here e = absurd (cc e)
      at (Some l) here e = by_stop l here (net.is_stopped p l) refl e

  module _ (test : ℕ → Bool) (d : ℕ) (s : State L) (held : AreHeld net producer consumer inputs outputs test s) where
    -- a later state, in which those that pass the test have done nothing
    record IsLater (t : State L) : Type 0 where
      pub local : (p : ℕ) → test p ≡ true → slice_get t.locals p ≡ slice_get s.locals p
      pub kept : (w : ℕ) → test (consumer w) ≡ true → length (values_on s.wires w) ≤ length (values_on t.wires w)
      pub unsent : (w : ℕ) → test (producer w) ≡ true → length (values_on t.wires w) ≤ length (values_on s.wires w)

    module _ (t : State L) (later : IsLater t) (p : ℕ) (on : test p ≡ true) where
      still_there : (v : ℕ) (l : L) → lacks_values (net.takes p l) s.wires v ≡ false → lacks_values (net.takes p l) t.wires v ≡ false
      still_there v l there =
          let enough : count_of v (net.takes p l) ≤ length (values_on s.wires v) = ltb-false (length (values_on s.wires v)) (count_of v (net.takes p l)) there in
          le-ltb (length (values_on t.wires v)) (count_of v (net.takes p l))
          (⊎_elim
          (λ (own : consumer v ≡ p). let more = later.kept v (ap test own ∙ on) in omega arith)
          (λ (ne : consumer v ≡ p → ⊥). let none = count_none consumer p v (net.takes p l) (wired.takes_own p l) ne in omega arith)
          (cases_eq (consumer v) p))

      module _ (w : ℕ) (waits : WaitsForValue net producer consumer inputs outputs test s p w) where
        then' : IsWaiting s p w
        then' = waiting s p w waits.takes waits.waits

        few : length (values_on t.wires w) < count_of w (net.takes p then'.l)
        few = let less = later.unsent w waits.on in let lacks = then'.lacks in omega arith

        waits_still : first_wait (with_depth net d) inputs outputs t p ≡ Some w
        waits_still =
            let l = then'.l in
            let first : find (lacks_values (net.takes p l) t.wires) (inputs p) ≡ Some w =
            found_again (lacks_values (net.takes p l) s.wires) (lacks_values (net.takes p l) t.wires) (inputs p) w
            (λ v. still_there v l) (lt-ltb (length (values_on t.wires w)) (count_of w (net.takes p l)) few) then'.first in
            ap (λ o. wait_of (with_depth net d) inputs outputs t.wires p o) (later.local p on ∙ then'.here)
            ∙ ap (λ b. cond b None (first_unmet d (inputs p) (outputs p) (net.takes p l) (net.sends p l) t.wires)) then'.going
            ∙ ap (λ o. either_first o (find (lacks_room d (net.sends p l) t.wires) (outputs p))) first

        waits_idle : is_enabled (with_depth net d) t p ≡ true → ⊥
        waits_idle may =
            let (l, r) = ready (with_depth net d) t p may in
            let same : l ≡ then'.l = let a = later.local p on in let b = r.here in let c = then'.here in cc in
            let has : count_of w (net.takes p then'.l) ≤ length (values_on t.wires w) =
            subst (λ x. count_of w (net.takes p x) ≤ length (values_on t.wires w)) same (r.has w) in
            let no' = few in
            omega arith

      module _ (stop : IsStopped net s p) where
        stop_still : first_wait (with_depth net d) inputs outputs t p ≡ first_wait net inputs outputs s p
        stop_still =
            ap (λ o. wait_of (with_depth net d) inputs outputs t.wires p o) (later.local p on ∙ stop.here)
            ∙ ap (λ b. cond b None (first_unmet d (inputs p) (outputs p) (net.takes p stop.l) (net.sends p stop.l) t.wires)) stop.stopped
            ∙ sym (ap (λ b. cond b None (first_unmet net.depth (inputs p) (outputs p) (net.takes p stop.l) (net.sends p stop.l) s.wires)) stop.stopped)
            ∙ sym (ap (λ o. wait_of net inputs outputs s.wires p o) stop.here)

        stop_idle : is_enabled (with_depth net d) t p ≡ true → ⊥
        stop_idle may =
            let (l, r) = ready (with_depth net d) t p may in
            let same : l ≡ stop.l = let a = later.local p on in let b = r.here in let c = stop.here in cc in
            let stopped : net.is_stopped p l ≡ true = ap (net.is_stopped p) same ∙ stop.stopped in
            let off : not (net.is_stopped p l) ≡ false = ap not stopped in
            both_ways (not (net.is_stopped p l)) r.going off

      idle : is_enabled (with_depth net d) t p ≡ true → ⊥
      idle = ⊎_elim stop_idle (λ wait. waits_idle wait.0 wait.1) (held p on)

      as_was : first_wait (with_depth net d) inputs outputs t p ≡ first_wait net inputs outputs s p
      as_was = ⊎_elim stop_still (λ wait. waits_still wait.0 wait.1 ∙ sym wait.1.waits) (held p on)

    -- a step leaves those that pass the test as they are
    module _ (t : State L) (later : IsLater t) (q : ℕ) (l : L) (r : Ready (with_depth net d) t q l) (other : (p : ℕ) → test p ≡ true → p ≡ q → ⊥) where
      after_row : IsLater (moved (with_depth net d) t q l)
      after_row =
          let sent = (row_at net q l t.wires).sent in
          let now : (w : ℕ) → length (values_on (moved (with_depth net d) t q l).wires w) ≡ length (drop (count_of w (net.takes q l)) (values_on t.wires w)) + length (arrivals (length t.wires) w sent) =
          λ w. ap length (wire_moved (net.takes q l) sent t.wires w) ∙ length-append (drop (count_of w (net.takes q l)) (values_on t.wires w)) (arrivals (length t.wires) w sent) in
          let dropped : (w : ℕ) → length (drop (count_of w (net.takes q l)) (values_on t.wires w)) ≡ length (values_on t.wires w) - count_of w (net.takes q l) =
          λ w. length-drop (count_of w (net.takes q l)) (values_on t.wires w) in
          record {
            local = λ p on. slice_get-set_other t.locals q p (row_at net q l t.wires).next (other p on) ∙ later.local p on;
            kept = λ w on.
                let none = count_none consumer q w (net.takes q l) (wired.takes_own q l) (other (consumer w) on) in
                let was = later.kept w on in
                omega (arith, now w, dropped w);
            unsent = λ w on.
                let none = ap length (arrivals_none producer q (length t.wires) w sent (wired.sent_own q l _) (other (producer w) on)) in
                let was = later.unsent w on in
                omega (arith, now w, dropped w);
          }

    record IsEnd (t : State L) (g : List ℕ) : Type 0 where
      pub later : IsLater (end_of (with_depth net d) t g)
      pub none : (p : ℕ) → test p ≡ true → count_of p g ≡ 0

    stays : (t : State L) (g : List ℕ) → IsLater t → IsLawful (with_depth net d) t g → IsEnd t g
    stays t [] later lawful = record { later = later; none = λ p on. refl }
    stays t (q ∷ qs) later lawful =
        let (l, r) = ready (with_depth net d) t q lawful.0 in
        let other : (p : ℕ) → test p ≡ true → p ≡ q → ⊥ = λ p on same. idle t later p on (subst (λ x. is_enabled (with_depth net d) t x ≡ true) (sym same) lawful.0) in
        let next : IsLater (step (with_depth net d) t q) =
        subst IsLater (sym (ap (λ o. step_from (with_depth net d) t q o) r.here)) (after_row t later q l r other) in
        let rest = stays (step (with_depth net d) t q) qs next lawful.1 in
        record {
          later = rest.later;
          none = λ p on. count_there p q qs (λ same. other p on (sym same)) ∙ rest.none p on;
        }

    pub stays_held : (g : List ℕ) (p : ℕ) → IsLawful (with_depth net d) s g → test p ≡ true → IsAsBefore net (with_depth net d) inputs outputs s g p
    stays_held g p lawful on =
        let now : IsLater s = record { local = λ p on. refl; kept = λ w on. omega arith; unsent = λ w on. omega arith } in
        let end' = stays s g now lawful in
        record {
          idle = end'.none p on;
          local = end'.later.local p on;
          waits = as_was (end_of (with_depth net d) s g) end'.later p on;
        }

pub law_stays_held : {L : Type 0} (net : Network L) (producer consumer : ℕ → ℕ) (inputs outputs : ℕ → List ℕ) → IsWired net producer consumer
    → StaysHeld net producer consumer inputs outputs
law_stays_held net producer consumer inputs outputs wired test d s g p held lawful on =
    stays_held net producer consumer inputs outputs wired test d s held g p lawful on
