-- A network with stall turns is one of the same wires, and its turns without the stall turns are steps.
use Rattle.std.proofs.Common.{◌≡◌, ℕ, zero, suc, ◌+◌, ◌-◌, ◌<◌, ◌≤◌, Bool, true, false, cond, not, ◌&&◌, ◌||◌, List, [], ◌∷◌, ◌++◌, length, map, set, Option, Some, None, refl, sym, ap, ◌∙◌, subst, ⊎_elim, arith}
use Rattle.std.specs.Prelude.{slice_get, option_map}
use Rattle.std.specs.List.{All, filter, filter_map, range_with_len, cons_option}
use Rattle.std.specs.Option.{option_to_list}
use Rattle.std.proofs.lemmas.List.{append-nil, append_assoc, length-set, map-set}
use Rattle.std.proofs.lemmas.List.Elements.{All-nil}
use Rattle.std.proofs.lemmas.Option.{slice_get-map}
use Rattle.std.proofs.lemmas.Bool.{cases_eq, and_parts, and_from, false≢true, false_from_ne_true, or_right, ltb-true}
use Rattle.raw_network.specs.Network.{Network, State, Row, Sent, Event, count_of, fronts, taken, appended, has_values, has_room, is_ready, is_enabled, step_from, step, event_from, event_of}
use Rattle.raw_network.specs.Runs.{IsLawful, end_of, kth, touches}
use Rattle.raw_network.specs.Wired.{IsWired}
use Rattle.raw_lockstep.specs.Lockstep.{IsRound, IsSchedule, all_enabled, cycles, first_rounds}
use Rattle.raw_lockstep.specs.Stalls.{Paying, owes, row_wires, turn_row, with_stalls, unpaid, without_stalls, owes_from, touched_in, paid_in, owes_at, touched_by, paid_by, steps_in, StaysWired, StaysBounded, MayTurn, StepsOfTurns, RestsToo, CycleFires, MoreTurnsMoreSteps, NoneStepsSooner, all_stalled, IsStepRound, IsStepSchedule, NoStepsSooner}
use Rattle.raw_network.proofs.Wires.{count_here, count_there, slice_get-set_same}
use Rattle.raw_network.proofs.Diamond.{ready}
use Rattle.raw_network.proofs.Erased.{events_here, events_there}
use Rattle.raw_network.proofs.Kth.{kth_at, local_other, lawful_front}
use Rattle.raw_network.proofs.Networks.{law_same_steps}
use Rattle.raw_lockstep.proofs.Cycling.{count-append, once_at_most, filtered_passes, law_cycle_is_round, law_cycles_are_lawful, law_none_sooner, schedule_lawful}

-- what is set where it stands changes nothing
set_same : {X : Type 0} (xs : List X) (i : ℕ) (x : X) → slice_get xs i ≡ Some x → set xs i x ≡ xs
set_same [] i x e = refl
set_same (y ∷ ys) zero x e = cc
set_same (y ∷ ys) (suc i) x e = ap (λ zs. y ∷ zs) (set_same ys i x e)

-- the steps of a network make and remove no processor
pub length_end : {L : Type 0} (net : Network L) (s : State L) (h : List ℕ) → length (end_of net s h).locals ≡ length s.locals
length_end net s [] = refl
length_end {L = L} net s (p ∷ ps) = length_end net (step net s p) ps ∙ one (slice_get s.locals p)
  where
    one : (o : Option L) → length (step_from net s p o).locals ≡ length s.locals
    one None = refl
    one (Some l) = length-set s.locals p (net.row p l (fronts (net.takes p l) s.wires)).next

-- a state with nothing touched and nothing paid
pub without_unpaid : {L : Type 0} (s : State L) → without_stalls (unpaid s) ≡ s
without_unpaid {L = L} s = let f : List L → State L = λ ls. record { locals = ls; wires = s.wires } in ap f (each s.locals)
  where
    each : (ls : List L) → map (λ (x : Paying L). x.local) (map (λ (l : L). let y : Paying L = record { local = l; touched = []; paid = 0 } in y) ls) ≡ ls
    each [] = refl
    each (l ∷ ls) = ap (λ ms. l ∷ ms) (each ls)

pub untouched : {L : Type 0} (s : State L) (p : ℕ) → touched_by (unpaid s) p ≡ []
untouched {L = L} s p = ap touched_in (slice_get-map (λ (l : L). let y : Paying L = record { local = l; touched = []; paid = 0 } in y) s.locals p) ∙ none (slice_get s.locals p)
  where
    none : (o : Option L) → touched_in (option_map (λ (l : L). let y : Paying L = record { local = l; touched = []; paid = 0 } in y) o) ≡ []
    none None = refl
    none (Some l) = refl

pub unpaid_none : {L : Type 0} (s : State L) (p : ℕ) → paid_by (unpaid s) p ≡ 0
unpaid_none {L = L} s p = ap paid_in (slice_get-map (λ (l : L). let y : Paying L = record { local = l; touched = []; paid = 0 } in y) s.locals p) ∙ none (slice_get s.locals p)
  where
    none : (o : Option L) → paid_in (option_map (λ (l : L). let y : Paying L = record { local = l; touched = []; paid = 0 } in y) o) ≡ 0
    none None = refl
    none (Some l) = refl

wires_all : (P : ℕ → Type 0) (b : Bool) (ws : List ℕ) → All P ws → All P (row_wires b ws)
wires_all P true ws a = All-nil P
wires_all P false ws a = a

sent_all : {L : Type 0} (P : Sent → Type 0) (b : Bool) (x : Paying L) (r : Row L) → All P r.sent → All P (turn_row b x r).sent
sent_all P true x r a = All-nil P
sent_all P false x r a = a

module _ {L : Type 0} (net : Network L) (cost : ℕ → List ℕ → ℕ) where
  -- the same wires
  pub law_stays_wired : StaysWired net cost
  law_stays_wired producer consumer wired =
      record {
        apart = wired.apart;
        takes_own = λ p x. wires_all (λ w. consumer w ≡ p) (owes cost p x) (net.takes p x.local) (wired.takes_own p x.local);
        sends_own = λ p x. wires_all (λ w. producer w ≡ p) (owes cost p x) (net.sends p x.local) (wired.sends_own p x.local);
        sent_own =
            λ p x values. sent_all (λ (m : Sent). producer m.wire ≡ p) (owes cost p x) x (net.row p x.local values) (wired.sent_own p x.local values);
      }

  module _ (fit : ℕ → L → Type 0) (left : ℕ → L → ℕ) (most : ℕ → ℕ) where
    pub law_stays_bounded : StaysBounded net cost fit left most
    law_stays_bounded bounded costs =
        record {
          kept = λ p x values fits going. kept (owes cost p x) p x values fits going;
          less = λ p x values fits going. less (owes cost p x) p x refl values fits going;
        }
      where
        kept : (b : Bool) (p : ℕ) (x : Paying L) (values : List ℕ) → fit p x.local → net.is_stopped p x.local ≡ false
            → fit p (turn_row b x (net.row p x.local values)).next.local
        kept true p x values fits going = fits
        kept false p x values fits going = bounded.kept p x.local values fits going

        less : (b : Bool) (p : ℕ) (x : Paying L) → owes cost p x ≡ b → (values : List ℕ) → fit p x.local → net.is_stopped p x.local ≡ false
            → left p (turn_row b x (net.row p x.local values)).next.local + (most p - (turn_row b x (net.row p x.local values)).next.paid)
            < left p x.local + (most p - x.paid)
        less true p x e values fits going = omega (arith, ltb-true x.paid (cost p x.touched) e, costs p x.touched)
        less false p x e values fits going = omega (arith, bounded.less p x.local values fits going)

  pub local_there : (s : State (Paying L)) (p : ℕ) (o : Option (Paying L)) → slice_get s.locals p ≡ o
      → slice_get (without_stalls s).locals p ≡ option_map (λ x. x.local) o
  local_there s p o e = slice_get-map (λ (x : Paying L). x.local) s.locals p ∙ ap (λ u. option_map (λ (x : Paying L). x.local) u) e

  may_test : (stops b : Bool) (depth : ℕ) (ts ss : List ℕ) (wires : List (List ℕ))
      → (not stops && (has_values (row_wires b ts) wires && has_room depth (row_wires b ss) wires))
      ≡ (not stops && (b || (not stops && (has_values ts wires && has_room depth ss wires))))
  may_test true b depth ts ss wires = refl
  may_test false true depth ts ss wires = refl
  may_test false false depth ts ss wires = refl

  pub law_may_turn : MayTurn net cost
  law_may_turn s p x here =
      ap (λ o. is_ready (with_stalls net cost) p o s.wires) here
      ∙ may_test (net.is_stopped p x.local) (owes cost p x) net.depth (net.takes p x.local) (net.sends p x.local) s.wires
      ∙ ap (λ e. not (net.is_stopped p x.local) && (owes cost p x || e)) (sym (ap (λ o. is_ready net p o s.wires) (local_there s p (Some x) here)))

  -- a turn without its stall
  turn_test : (s : State (Paying L)) (q : ℕ) (x : Paying L) → slice_get s.locals q ≡ Some x → (b : Bool)
      → without_stalls (record {
        locals = set s.locals q (turn_row b x (net.row q x.local (fronts (row_wires b (net.takes q x.local)) s.wires))).next;
        wires = appended (turn_row b x (net.row q x.local (fronts (row_wires b (net.takes q x.local)) s.wires))).sent (taken (row_wires b (net.takes q x.local)) s.wires);
      })
      ≡ cond b (without_stalls s) (step net (without_stalls s) q)
  turn_test s q x here true =
      let f : List L → State L = λ ls. record { locals = ls; wires = s.wires } in
      ap f (map-set (λ (y : Paying L). y.local) s.locals q (record x { paid = suc x.paid }) ∙ set_same (map (λ (y : Paying L). y.local) s.locals) q x.local (local_there s q (Some x) here))
  turn_test s q x here false =
      let r : Row L = net.row q x.local (fronts (net.takes q x.local) s.wires) in
      let f : List L → State L = λ ls. record { locals = ls; wires = appended r.sent (taken (net.takes q x.local) s.wires) } in
      let next : Paying L = record { local = r.next; touched = x.touched ++ option_to_list r.touched; paid = x.paid } in
      ap f (map-set (λ (y : Paying L). y.local) s.locals q next)
      ∙ sym (ap (λ o. step_from net (without_stalls s) q o) (local_there s q (Some x) here))

  without_step : (s : State (Paying L)) (q : ℕ)
      → without_stalls (step (with_stalls net cost) s q) ≡ cond (owes_at cost s q) (without_stalls s) (step net (without_stalls s) q)
  without_step s q = from (slice_get s.locals q) refl
    where
      from : (o : Option (Paying L)) → slice_get s.locals q ≡ o
          → without_stalls (step_from (with_stalls net cost) s q o) ≡ cond (owes_from cost q o) (without_stalls s) (step net (without_stalls s) q)
      from None e = sym (ap (λ o. step_from net (without_stalls s) q o) (local_there s q None e))
      from (Some x) e = turn_test s q x e (owes cost q x)

  without_stall : (s : State (Paying L)) (q : ℕ) → owes_at cost s q ≡ true
      → without_stalls (step (with_stalls net cost) s q) ≡ without_stalls s
  without_stall s q e = without_step s q ∙ ap (λ b. cond b (without_stalls s) (step net (without_stalls s) q)) e

  with_step : (s : State (Paying L)) (q : ℕ) → owes_at cost s q ≡ false
      → without_stalls (step (with_stalls net cost) s q) ≡ step net (without_stalls s) q
  with_step s q e = without_step s q ∙ ap (λ b. cond b (without_stalls s) (step net (without_stalls s) q)) e

  -- a turn that owes nothing is an enabled step,
  pub enabled_step : (s : State (Paying L)) (q : ℕ) → is_enabled (with_stalls net cost) s q ≡ true → owes_at cost s q ≡ false
      → is_enabled net (without_stalls s) q ≡ true
  enabled_step s q e free =
      let (x, r) = ready (with_stalls net cost) s q e in
      let owing : owes cost q x ≡ false = sym (ap (λ o. owes_from cost q o) r.here) ∙ free in
      let parts =
      and_parts (not (net.is_stopped q x.local)) (owes cost q x || is_enabled net (without_stalls s) q) (sym (law_may_turn s q x r.here) ∙ e) in
      sym (ap (λ b. b || is_enabled net (without_stalls s) q) owing) ∙ parts.1

  -- and an enabled step is a turn
  pub enabled_turn : (s : State (Paying L)) (q : ℕ) → is_enabled net (without_stalls s) q ≡ true
      → is_enabled (with_stalls net cost) s q ≡ true
  enabled_turn s q h = from (slice_get s.locals q) refl
    where
      from : (o : Option (Paying L)) → slice_get s.locals q ≡ o → is_enabled (with_stalls net cost) s q ≡ true
      from None e = absurd (false≢true (sym (ap (λ o. is_ready net q o s.wires) (local_there s q None e)) ∙ h))
      from (Some x) e =
          let there : is_ready net q (Some x.local) s.wires ≡ true = sym (ap (λ o. is_ready net q o s.wires) (local_there s q (Some x) e)) ∙ h in
          let parts = and_parts (not (net.is_stopped q x.local)) (has_values (net.takes q x.local) s.wires && has_room net.depth (net.sends q x.local) s.wires) there in
          law_may_turn s q x e
          ∙ and_from (not (net.is_stopped q x.local)) (owes cost q x || is_enabled net (without_stalls s) q) parts.0 (or_right (owes cost q x) (is_enabled net (without_stalls s) q) h)

  pub law_rests_too : RestsToo net cost
  law_rests_too s quiet p =
      false_from_ne_true (is_enabled net (without_stalls s) p) (λ e. false≢true (sym (quiet p) ∙ enabled_turn s p e))

  turns_lawful : (s : State (Paying L)) (turns : List ℕ) → IsLawful (with_stalls net cost) s turns
      → IsLawful net (without_stalls s) (steps_in net cost s turns)
  turns_lawful s [] h = tt
  turns_lawful s (q ∷ ps) h =
      by_test (owes_at cost s q) refl (turns_lawful (step (with_stalls net cost) s q) ps h.1)
    where
      by_test : (b : Bool) → owes_at cost s q ≡ b
          → IsLawful net (without_stalls (step (with_stalls net cost) s q)) (steps_in net cost (step (with_stalls net cost) s q) ps)
          → IsLawful net (without_stalls s) (cond b (steps_in net cost (step (with_stalls net cost) s q) ps) (q ∷ steps_in net cost (step (with_stalls net cost) s q) ps))
      by_test true e l = subst (λ t. IsLawful net t (steps_in net cost (step (with_stalls net cost) s q) ps)) (without_stall s q e) l
      by_test false e l = (
        enabled_step s q h.0 e,
        subst (λ t. IsLawful net t (steps_in net cost (step (with_stalls net cost) s q) ps)) (with_step s q e) l,
      )

  turns_end : (s : State (Paying L)) (turns : List ℕ)
      → end_of net (without_stalls s) (steps_in net cost s turns) ≡ without_stalls (end_of (with_stalls net cost) s turns)
  turns_end s [] = refl
  turns_end s (q ∷ ps) = by_test (owes_at cost s q) refl (turns_end (step (with_stalls net cost) s q) ps)
    where
      by_test : (b : Bool) → owes_at cost s q ≡ b
          → end_of net (without_stalls (step (with_stalls net cost) s q)) (steps_in net cost (step (with_stalls net cost) s q) ps)
          ≡ without_stalls (end_of (with_stalls net cost) (step (with_stalls net cost) s q) ps)
          → end_of net (without_stalls s) (cond b (steps_in net cost (step (with_stalls net cost) s q) ps) (q ∷ steps_in net cost (step (with_stalls net cost) s q) ps))
          ≡ without_stalls (end_of (with_stalls net cost) (step (with_stalls net cost) s q) ps)
      by_test true e rest = sym (ap (λ t. end_of net t (steps_in net cost (step (with_stalls net cost) s q) ps)) (without_stall s q e)) ∙ rest
      by_test false e rest = sym (ap (λ t. end_of net t (steps_in net cost (step (with_stalls net cost) s q) ps)) (with_step s q e)) ∙ rest

  -- what a turn touches and pays
  pub touched_here : (s : State (Paying L)) (p : ℕ)
      → touched_by (step (with_stalls net cost) s p) p
      ≡ touched_by s p ++ cond (owes_at cost s p) [] (option_to_list (event_of net (without_stalls s) p).touched)
  touched_here s p = from (slice_get s.locals p) refl
    where
      at : (x : Paying L) → slice_get s.locals p ≡ Some x → (b : Bool)
          → (turn_row b x (net.row p x.local (fronts (row_wires b (net.takes p x.local)) s.wires))).next.touched
          ≡ x.touched ++ cond b [] (option_to_list (event_of net (without_stalls s) p).touched)
      at x e true = sym (append-nil x.touched)
      at x e false =
          sym (ap (λ o. x.touched ++ option_to_list (event_from net s.wires p o).touched) (local_there s p (Some x) e))

      from : (o : Option (Paying L)) → slice_get s.locals p ≡ o
          → touched_by (step_from (with_stalls net cost) s p o) p
          ≡ touched_in o ++ cond (owes_from cost p o) [] (option_to_list (event_of net (without_stalls s) p).touched)
      from None e =
          ap touched_in e
          ∙ sym (ap (λ o. option_to_list (event_from net s.wires p o).touched) (local_there s p None e))
      from (Some x) e =
          ap touched_in (slice_get-set_same s.locals p (turn_row (owes cost p x) x (net.row p x.local (fronts (row_wires (owes cost p x) (net.takes p x.local)) s.wires))).next x e)
          ∙ at x e (owes cost p x)

  pub paid_here : (s : State (Paying L)) (p : ℕ)
      → paid_by (step (with_stalls net cost) s p) p ≡ cond (owes_at cost s p) (suc (paid_by s p)) (paid_by s p)
  paid_here s p = from (slice_get s.locals p) refl
    where
      at : (x : Paying L) (b : Bool) (r : Row L) → (turn_row b x r).next.paid ≡ cond b (suc x.paid) x.paid
      at x true r = refl
      at x false r = refl

      from : (o : Option (Paying L)) → slice_get s.locals p ≡ o
          → paid_by (step_from (with_stalls net cost) s p o) p ≡ cond (owes_from cost p o) (suc (paid_in o)) (paid_in o)
      from None e = ap paid_in e
      from (Some x) e =
          ap paid_in (slice_get-set_same s.locals p (turn_row (owes cost p x) x (net.row p x.local (fronts (row_wires (owes cost p x) (net.takes p x.local)) s.wires))).next x e)
          ∙ at x (owes cost p x) (net.row p x.local (fronts (row_wires (owes cost p x) (net.takes p x.local)) s.wires))

  one_touch : (o : Option ℕ) (xs : List ℕ) → cons_option o xs ≡ option_to_list o ++ xs
  one_touch None xs = refl
  one_touch (Some x) xs = refl

  touches_here : (t : State L) (p : ℕ) (ps : List ℕ)
      → touches net t (p ∷ ps) p ≡ option_to_list (event_of net t p).touched ++ touches net (step net t p) ps p
  touches_here t p ps =
      ap (λ es. filter_map (λ (e : Event L). e.touched) es) (events_here net t p ps)
      ∙ one_touch (event_of net t p).touched (touches net (step net t p) ps p)

  touches_there : (t : State L) (q p : ℕ) (ps : List ℕ) → (q ≡ p → ⊥)
      → touches net t (q ∷ ps) p ≡ touches net (step net t q) ps p
  touches_there t q p ps ne = ap (λ es. filter_map (λ (e : Event L). e.touched) es) (events_there net t q p ps ne)

  abbrev IsTouchedMore : State (Paying L) → ℕ → List ℕ → ℕ → Type 0
  IsTouchedMore s q ps x =
      touched_by (step (with_stalls net cost) s q) x ++ touches net (without_stalls (step (with_stalls net cost) s q)) (steps_in net cost (step (with_stalls net cost) s q) ps) x
      ≡ touched_by s x ++ touches net (without_stalls s) (steps_in net cost s (q ∷ ps)) x

  turns_touched : (s : State (Paying L)) (turns : List ℕ) (p : ℕ)
      → touched_by (end_of (with_stalls net cost) s turns) p ≡ touched_by s p ++ touches net (without_stalls s) (steps_in net cost s turns) p
  turns_touched s [] p = sym (append-nil (touched_by s p))
  turns_touched s (q ∷ ps) p =
      turns_touched (step (with_stalls net cost) s q) ps p
      ∙ ⊎_elim
      (λ (same : q ≡ p). subst (λ x. IsTouchedMore s q ps x) same (here (owes_at cost s q) refl))
      (λ (ne : q ≡ p → ⊥). there ne (owes_at cost s q) refl)
      (cases_eq q p)
    where
      here : (b : Bool) → owes_at cost s q ≡ b
          → touched_by (step (with_stalls net cost) s q) q ++ touches net (without_stalls (step (with_stalls net cost) s q)) (steps_in net cost (step (with_stalls net cost) s q) ps) q
          ≡ touched_by s q ++ touches net (without_stalls s) (cond b (steps_in net cost (step (with_stalls net cost) s q) ps) (q ∷ steps_in net cost (step (with_stalls net cost) s q) ps)) q
      here true e =
          ap (λ xs. xs ++ touches net (without_stalls (step (with_stalls net cost) s q)) (steps_in net cost (step (with_stalls net cost) s q) ps) q)
          (touched_here s q ∙ ap (λ b. touched_by s q ++ cond b [] (option_to_list (event_of net (without_stalls s) q).touched)) e ∙ append-nil (touched_by s q))
          ∙ ap (λ t. touched_by s q ++ touches net t (steps_in net cost (step (with_stalls net cost) s q) ps) q) (without_stall s q e)
      here false e =
          ap (λ xs. xs ++ touches net (without_stalls (step (with_stalls net cost) s q)) (steps_in net cost (step (with_stalls net cost) s q) ps) q)
          (touched_here s q ∙ ap (λ b. touched_by s q ++ cond b [] (option_to_list (event_of net (without_stalls s) q).touched)) e)
          ∙ append_assoc (touched_by s q) (option_to_list (event_of net (without_stalls s) q).touched) (touches net (without_stalls (step (with_stalls net cost) s q)) (steps_in net cost (step (with_stalls net cost) s q) ps) q)
          ∙ ap (λ t. touched_by s q ++ (option_to_list (event_of net (without_stalls s) q).touched ++ touches net t (steps_in net cost (step (with_stalls net cost) s q) ps) q)) (with_step s q e)
          ∙ ap (λ xs. touched_by s q ++ xs) (sym (touches_here (without_stalls s) q (steps_in net cost (step (with_stalls net cost) s q) ps)))

      there : (q ≡ p → ⊥) → (b : Bool) → owes_at cost s q ≡ b
          → touched_by (step (with_stalls net cost) s q) p ++ touches net (without_stalls (step (with_stalls net cost) s q)) (steps_in net cost (step (with_stalls net cost) s q) ps) p
          ≡ touched_by s p ++ touches net (without_stalls s) (cond b (steps_in net cost (step (with_stalls net cost) s q) ps) (q ∷ steps_in net cost (step (with_stalls net cost) s q) ps)) p
      there ne true e =
          ap (λ o. touched_in o ++ touches net (without_stalls (step (with_stalls net cost) s q)) (steps_in net cost (step (with_stalls net cost) s q) ps) p)
          (local_other (with_stalls net cost) s q p (λ f. ne (sym f)))
          ∙ ap (λ t. touched_by s p ++ touches net t (steps_in net cost (step (with_stalls net cost) s q) ps) p) (without_stall s q e)
      there ne false e =
          ap (λ o. touched_in o ++ touches net (without_stalls (step (with_stalls net cost) s q)) (steps_in net cost (step (with_stalls net cost) s q) ps) p)
          (local_other (with_stalls net cost) s q p (λ f. ne (sym f)))
          ∙ ap (λ t. touched_by s p ++ touches net t (steps_in net cost (step (with_stalls net cost) s q) ps) p) (with_step s q e)
          ∙ ap (λ xs. touched_by s p ++ xs) (sym (touches_there (without_stalls s) q p (steps_in net cost (step (with_stalls net cost) s q) ps) ne))

  abbrev IsPaid : State (Paying L) → List ℕ → ℕ → Type 0
  IsPaid t ps x =
      count_of x ps + paid_by t x ≡ count_of x (steps_in net cost t ps) + paid_by (end_of (with_stalls net cost) t ps) x

  abbrev IsPaidMore : State (Paying L) → ℕ → List ℕ → ℕ → Type 0
  IsPaidMore s q ps x =
      count_of x (q ∷ ps) + paid_by s x
      ≡ count_of x (steps_in net cost s (q ∷ ps)) + paid_by (end_of (with_stalls net cost) (step (with_stalls net cost) s q) ps) x

  turns_paid : (s : State (Paying L)) (turns : List ℕ) (p : ℕ)
      → count_of p turns + paid_by s p ≡ count_of p (steps_in net cost s turns) + paid_by (end_of (with_stalls net cost) s turns) p
  turns_paid s [] p = refl
  turns_paid s (q ∷ ps) p =
      ⊎_elim
      (λ (same : q ≡ p). subst (λ x. IsPaidMore s q ps x) same (here (owes_at cost s q) refl (subst (λ x. IsPaid (step (with_stalls net cost) s q) ps x) (sym same) (turns_paid (step (with_stalls net cost) s q) ps p))))
      (λ (ne : q ≡ p → ⊥). there ne (owes_at cost s q) (turns_paid (step (with_stalls net cost) s q) ps p))
      (cases_eq q p)
    where
      here : (b : Bool) → owes_at cost s q ≡ b
          → count_of q ps + paid_by (step (with_stalls net cost) s q) q
          ≡ count_of q (steps_in net cost (step (with_stalls net cost) s q) ps) + paid_by (end_of (with_stalls net cost) (step (with_stalls net cost) s q) ps) q
          → count_of q (q ∷ ps) + paid_by s q
          ≡ count_of q (cond b (steps_in net cost (step (with_stalls net cost) s q) ps) (q ∷ steps_in net cost (step (with_stalls net cost) s q) ps)) + paid_by (end_of (with_stalls net cost) (step (with_stalls net cost) s q) ps) q
      here true e rest =
          let now : paid_by (step (with_stalls net cost) s q) q ≡ suc (paid_by s q) =
          paid_here s q ∙ ap (λ b. cond b (suc (paid_by s q)) (paid_by s q)) e in
          omega (arith, now, rest, count_here q ps)
      here false e rest =
          let now : paid_by (step (with_stalls net cost) s q) q ≡ paid_by s q =
          paid_here s q ∙ ap (λ b. cond b (suc (paid_by s q)) (paid_by s q)) e in
          omega (arith, now, rest, count_here q ps, count_here q (steps_in net cost (step (with_stalls net cost) s q) ps))

      there : (q ≡ p → ⊥) → (b : Bool)
          → count_of p ps + paid_by (step (with_stalls net cost) s q) p
          ≡ count_of p (steps_in net cost (step (with_stalls net cost) s q) ps) + paid_by (end_of (with_stalls net cost) (step (with_stalls net cost) s q) ps) p
          → count_of p (q ∷ ps) + paid_by s p
          ≡ count_of p (cond b (steps_in net cost (step (with_stalls net cost) s q) ps) (q ∷ steps_in net cost (step (with_stalls net cost) s q) ps)) + paid_by (end_of (with_stalls net cost) (step (with_stalls net cost) s q) ps) p
      there ne true rest =
          let now : paid_by (step (with_stalls net cost) s q) p ≡ paid_by s p = ap paid_in (local_other (with_stalls net cost) s q p (λ f. ne (sym f))) in
          omega (arith, now, rest, count_there p q ps ne)
      there ne false rest =
          let now : paid_by (step (with_stalls net cost) s q) p ≡ paid_by s p = ap paid_in (local_other (with_stalls net cost) s q p (λ f. ne (sym f))) in
          omega (arith, now, rest, count_there p q ps ne, count_there p q (steps_in net cost (step (with_stalls net cost) s q) ps) ne)

  pub law_steps_of_turns : StepsOfTurns net cost
  law_steps_of_turns s turns h =
      record { lawful = turns_lawful s turns h; ends = turns_end s turns; touched = turns_touched s turns; paid = turns_paid s turns }

  -- the steps among turns of which none is of a processor that had one before
  steps_same : (s t : State (Paying L)) (xs : List ℕ) → ((p : ℕ) → count_of p xs ≤ 1)
      → ((p : ℕ) → 0 < count_of p xs → slice_get t.locals p ≡ slice_get s.locals p)
      → steps_in net cost t xs ≡ filter (λ p. not (owes_at cost s p)) xs
  steps_same s t [] once same = refl
  steps_same s t (x ∷ xs) once same =
      ap (λ o. cond (owes_from cost x o) (steps_in net cost (step (with_stalls net cost) t x) xs) (x ∷ steps_in net cost (step (with_stalls net cost) t x) xs))
      (same x (omega (arith, count_here x xs)))
      ∙ ap (λ r. cond (owes_at cost s x) r (x ∷ r)) (steps_same s (step (with_stalls net cost) t x) xs once_later same_later)
      ∙ turned (owes_at cost s x) (filter (λ p. not (owes_at cost s p)) xs)
    where
      turned : (b : Bool) (r : List ℕ) → cond b r (x ∷ r) ≡ cond (not b) (x ∷ r) r
      turned true r = refl
      turned false r = refl

      once_later : (p : ℕ) → count_of p xs ≤ 1
      once_later p =
          ⊎_elim
          (λ (e : x ≡ p). subst (λ y. count_of y xs ≤ 1) e (omega (arith, count_here x xs, once x)))
          (λ (ne : x ≡ p → ⊥). omega (arith, count_there p x xs ne, once p))
          (cases_eq x p)

      same_later : (p : ℕ) → 0 < count_of p xs → slice_get (step (with_stalls net cost) t x).locals p ≡ slice_get s.locals p
      same_later p some =
          ⊎_elim
          (λ (e : x ≡ p).
          let again : 0 < count_of x xs = subst (λ y. 0 < count_of y xs) (sym e) some in
          absurd (omega (arith, count_here x xs, once x)))
          (λ (ne : x ≡ p → ⊥).
          local_other (with_stalls net cost) t x p (λ f. ne (sym f)) ∙ same p (omega (arith, count_there p x xs ne)))
          (cases_eq x p)

  filter_twice : (f g h : ℕ → Bool) → ((p : ℕ) → h p ≡ (f p && g p)) → (xs : List ℕ) → filter g (filter f xs) ≡ filter h xs
  filter_twice f g h both [] = refl
  filter_twice f g h both (x ∷ xs) =
      by_tests (f x) ∙ ap (λ b. cond b (x ∷ filter g (filter f xs)) (filter g (filter f xs))) (sym (both x))
      ∙ ap (λ r. cond (h x) (x ∷ r) r) (filter_twice f g h both xs)
    where
      by_tests : (b : Bool) → filter g (cond b (x ∷ filter f xs) (filter f xs)) ≡ cond (b && g x) (x ∷ filter g (filter f xs)) (filter g (filter f xs))
      by_tests true = refl
      by_tests false = refl

  same_tests : (s : State (Paying L)) (p : ℕ)
      → (is_enabled net (without_stalls s) p && not (owes_at cost s p)) ≡ (is_enabled (with_stalls net cost) s p && not (owes_at cost s p))
  same_tests s p = by_owes (owes_at cost s p) refl
    where
      equal : (a b : Bool) → (a ≡ true → b ≡ true) → (b ≡ true → a ≡ true) → a ≡ b
      equal true b to back = sym (to refl)
      equal false true to back = back refl
      equal false false to back = refl

      none : (a b : Bool) → (a && false) ≡ (b && false)
      none true true = refl
      none true false = refl
      none false true = refl
      none false false = refl

      by_owes : (owing : Bool) → owes_at cost s p ≡ owing
          → (is_enabled net (without_stalls s) p && not owing) ≡ (is_enabled (with_stalls net cost) s p && not owing)
      by_owes true e = none (is_enabled net (without_stalls s) p) (is_enabled (with_stalls net cost) s p)
      by_owes false e =
          ap (λ b. b && true)
          (equal (is_enabled net (without_stalls s) p) (is_enabled (with_stalls net cost) s p) (enabled_turn s p) (λ h. enabled_step s p h e))

  pub law_cycle_fires : CycleFires net cost
  law_cycle_fires s =
      record {
        steps =
            steps_same s s (all_enabled (with_stalls net cost) s) (law_cycle_is_round (with_stalls net cost) s).is_round.once (λ p some. refl)
            ∙ filter_twice (λ p. is_enabled (with_stalls net cost) s p) (λ p. not (owes_at cost s p))
            (λ p. is_enabled net (without_stalls s) p && not (owes_at cost s p)) (same_tests s) (range_with_len 0 (length s.locals));
        is_round =
            record {
              once = λ p. once_at_most (λ q. is_enabled net (without_stalls s) q && not (owes_at cost s q)) 0 (length s.locals) p;
              enabled =
                  λ p some.
                  (and_parts (is_enabled net (without_stalls s) p) (not (owes_at cost s p))
                  (filtered_passes (λ q. is_enabled net (without_stalls s) q && not (owes_at cost s q)) p (range_with_len 0 (length s.locals)) some)).0;
            };
      }

  -- the steps of one list of turns after another
  pub steps_in-append : (s : State (Paying L)) (xs ys : List ℕ)
      → steps_in net cost s (xs ++ ys) ≡ steps_in net cost s xs ++ steps_in net cost (end_of (with_stalls net cost) s xs) ys
  steps_in-append s [] ys = refl
  steps_in-append s (x ∷ xs) ys =
      ap (λ r. cond (owes_at cost s x) r (x ∷ r)) (steps_in-append (step (with_stalls net cost) s x) xs ys)
      ∙ apart (owes_at cost s x)
    where
      apart : (b : Bool)
          → cond b (steps_in net cost (step (with_stalls net cost) s x) xs ++ steps_in net cost (end_of (with_stalls net cost) (step (with_stalls net cost) s x) xs) ys)
          (x ∷ (steps_in net cost (step (with_stalls net cost) s x) xs ++ steps_in net cost (end_of (with_stalls net cost) (step (with_stalls net cost) s x) xs) ys))
          ≡ cond b (steps_in net cost (step (with_stalls net cost) s x) xs) (x ∷ steps_in net cost (step (with_stalls net cost) s x) xs)
          ++ steps_in net cost (end_of (with_stalls net cost) (step (with_stalls net cost) s x) xs) ys
      apart true = refl
      apart false = refl

-- the front of a list that has so many entries of a processor
pub front_with : (p : ℕ) (h : List ℕ) (n : ℕ) → n ≤ count_of p h
    → (front : List ℕ) × (rest : List ℕ) × (front ++ rest ≡ h) × (count_of p front ≡ n)
front_with p [] n few = ([], [], refl, omega arith)
front_with p (x ∷ h) zero few = ([], x ∷ h, refl, refl)
front_with p (x ∷ h) (suc n) few =
    ⊎_elim
    (λ (same : x ≡ p).
    let here : count_of p (x ∷ h) ≡ suc (count_of p h) = subst (λ y. count_of y (x ∷ h) ≡ suc (count_of y h)) same (count_here x h) in
    let (front, rest, e, many) = front_with p h n (omega arith) in
    let now : count_of p (x ∷ front) ≡ suc (count_of p front) = subst (λ y. count_of y (x ∷ front) ≡ suc (count_of y front)) same (count_here x front) in
    (x ∷ front, rest, ap (λ xs. x ∷ xs) e, omega arith))
    (λ (ne : x ≡ p → ⊥).
    let (front, rest, e, many) = front_with p h (suc n) (omega (arith, count_there p x h ne)) in
    (x ∷ front, rest, ap (λ xs. x ∷ xs) e, count_there p x front ne ∙ many))
    (cases_eq x p)

module _ {L : Type 0} (net : Network L) (cost : ℕ → List ℕ → ℕ) (producer consumer : ℕ → ℕ) (wired : IsWired net producer consumer) where
  kth_end : (s : State (Paying L)) (ps : List ℕ) (p : ℕ) → IsLawful (with_stalls net cost) s ps
      → kth (with_stalls net cost) s ps p (count_of p ps) ≡ slice_get (end_of (with_stalls net cost) s ps).locals p
  kth_end s ps p h =
      subst (λ xs. kth (with_stalls net cost) s xs p (count_of p ps) ≡ slice_get (end_of (with_stalls net cost) s ps).locals p) (append-nil ps)
      (kth_at (with_stalls net cost) s ps [] p (subst (λ xs. IsLawful (with_stalls net cost) s xs) (sym (append-nil ps)) h))

  pub law_more_turns : MoreTurnsMoreSteps net cost
  law_more_turns s h g p of_h of_g less =
      let (front, rest, e, many) = front_with p h (count_of p g) less in
      let whole : IsLawful (with_stalls net cost) s (front ++ rest) = subst (λ xs. IsLawful (with_stalls net cost) s xs) (sym e) of_h in
      let of_front = lawful_front (with_stalls net cost) s front rest whole in
      let locals =
      (law_same_steps (with_stalls net cost) producer consumer (law_stays_wired net cost producer consumer wired) s front g of_front of_g p).locals
      (count_of p g) (omega arith) (omega arith) in
      let front_end : kth (with_stalls net cost) s front p (count_of p g) ≡ slice_get (end_of (with_stalls net cost) s front).locals p =
      ap (λ k. kth (with_stalls net cost) s front p k) (sym many) ∙ kth_end s front p of_front in
      let alike : paid_by (end_of (with_stalls net cost) s g) p ≡ paid_by (end_of (with_stalls net cost) s front) p =
      ap paid_in (sym (kth_end s g p of_g) ∙ locals ∙ front_end) in
      let more : count_of p (steps_in net cost s h) ≡ count_of p (steps_in net cost s front) + count_of p (steps_in net cost (end_of (with_stalls net cost) s front) rest) =
      ap (λ xs. count_of p (steps_in net cost s xs)) (sym e)
      ∙ ap (λ xs. count_of p xs) (steps_in-append net cost s front rest)
      ∙ count-append p (steps_in net cost s front) (steps_in net cost (end_of (with_stalls net cost) s front) rest) in
      omega (arith, alike, more, turns_paid net cost s g p, turns_paid net cost s front p, many)

  pub law_none_steps_sooner : NoneStepsSooner net cost
  law_none_steps_sooner s rounds k p is =
      let now = law_stays_wired net cost producer consumer wired in
      law_more_turns s (cycles (with_stalls net cost) s k) (first_rounds k rounds) p
      (law_cycles_are_lawful (with_stalls net cost) producer consumer now s k)
      (schedule_lawful (with_stalls net cost) producer consumer now s rounds k is)
      (law_none_sooner (with_stalls net cost) producer consumer now s rounds k p is)

-- what each entry of a list passes, and what none does
counted_later : (p x : ℕ) (xs : List ℕ) → 0 < count_of p xs → 0 < count_of p (x ∷ xs)
counted_later p x xs some =
    ⊎_elim
    (λ (same : x ≡ p). subst (λ y. 0 < count_of p (y ∷ xs)) (sym same) (omega (arith, count_here p xs)))
    (λ (ne : x ≡ p → ⊥). omega (arith, some, count_there p x xs ne))
    (cases_eq x p)

filter_all : (f : ℕ → Bool) (xs : List ℕ) → ((p : ℕ) → 0 < count_of p xs → f p ≡ true) → filter f xs ≡ xs
filter_all f [] all = refl
filter_all f (x ∷ xs) all =
    ap (λ b. cond b (x ∷ filter f xs) (filter f xs)) (all x (omega (arith, count_here x xs)))
    ∙ ap (λ ys. x ∷ ys) (filter_all f xs (λ p some. all p (counted_later p x xs some)))

filter_none : (f : ℕ → Bool) (xs : List ℕ) → ((p : ℕ) → 0 < count_of p xs → f p ≡ false) → filter f xs ≡ []
filter_none f [] none = refl
filter_none f (x ∷ xs) none =
    ap (λ b. cond b (x ∷ filter f xs) (filter f xs)) (none x (omega (arith, count_here x xs)))
    ∙ filter_none f xs (λ p some. none p (counted_later p x xs some))

module _ {L : Type 0} (net : Network L) (cost : ℕ → List ℕ → ℕ) where
  -- the local state of a processor that has no turn
  local_kept : (s : State (Paying L)) (xs : List ℕ) (p : ℕ) → count_of p xs ≡ 0
      → slice_get (end_of (with_stalls net cost) s xs).locals p ≡ slice_get s.locals p
  local_kept s [] p none = refl
  local_kept s (x ∷ xs) p none =
      ⊎_elim
      (λ (same : x ≡ p). absurd (omega (arith, none, count_here x xs, ap (λ y. count_of y (x ∷ xs)) same)))
      (λ (ne : x ≡ p → ⊥).
      local_kept (step (with_stalls net cost) s x) xs p (sym (count_there p x xs ne) ∙ none)
      ∙ local_other (with_stalls net cost) s x p (λ e. ne (sym e)))
      (cases_eq x p)

  module _ (s : State (Paying L)) (round : List ℕ) (is : IsStepRound net cost s round) where
    pub stalled_passes : (p : ℕ) → 0 < count_of p (all_stalled net cost s) → (is_enabled (with_stalls net cost) s p ≡ true) × (owes_at cost s p ≡ true)
    stalled_passes p some =
        and_parts (is_enabled (with_stalls net cost) s p) (owes_at cost s p)
        (filtered_passes (λ q. is_enabled (with_stalls net cost) s q && owes_at cost s q) p (range_with_len 0 (length s.locals)) some)

    not_in_both : (p : ℕ) → 0 < count_of p round → count_of p (all_stalled net cost s) ≡ 0
    not_in_both p some =
        ⊎_elim
        (λ (z : count_of p (all_stalled net cost s) ≡ 0). z)
        (λ (nz : count_of p (all_stalled net cost s) ≡ 0 → ⊥).
        absurd (false≢true (sym (is.paid p some) ∙ (stalled_passes p (omega arith)).1)))
        (cases_eq (count_of p (all_stalled net cost s)) 0)

    not_in_round : (p : ℕ) → 0 < count_of p (all_stalled net cost s) → count_of p round ≡ 0
    not_in_round p some =
        ⊎_elim
        (λ (z : count_of p round ≡ 0). z)
        (λ (nz : count_of p round ≡ 0 → ⊥). let none = not_in_both p (omega arith) in absurd (omega (arith, some, none)))
        (cases_eq (count_of p round) 0)

    stalled_once : (p : ℕ) → count_of p (all_stalled net cost s) ≤ 1
    stalled_once p = once_at_most (λ q. is_enabled (with_stalls net cost) s q && owes_at cost s q) 0 (length s.locals) p

    pub turn_round : IsRound (with_stalls net cost) s (round ++ all_stalled net cost s)
    turn_round =
        record {
          once =
              λ p.
              ⊎_elim
              (λ (z : count_of p round ≡ 0). omega (arith, z, count-append p round (all_stalled net cost s), stalled_once p))
              (λ (nz : count_of p round ≡ 0 → ⊥). omega (arith, count-append p round (all_stalled net cost s), is.once p, not_in_both p (omega arith)))
              (cases_eq (count_of p round) 0);
          enabled =
              λ p some.
              ⊎_elim
              (λ (z : count_of p round ≡ 0). (stalled_passes p (omega (arith, z, some, count-append p round (all_stalled net cost s)))).0)
              (λ (nz : count_of p round ≡ 0 → ⊥). enabled_turn net cost s p (is.enabled p (omega arith)))
              (cases_eq (count_of p round) 0);
        }

    pub round_steps : steps_in net cost s (round ++ all_stalled net cost s) ≡ round
    round_steps =
        steps_in-append net cost s round (all_stalled net cost s)
        ∙ ap (λ xs. xs ++ steps_in net cost (end_of (with_stalls net cost) s round) (all_stalled net cost s))
        (steps_same net cost s s round is.once (λ p some. refl) ∙ filter_all (λ p. not (owes_at cost s p)) round (λ p some. ap not (is.paid p some)))
        ∙ ap (λ xs. round ++ xs)
        (steps_same net cost s (end_of (with_stalls net cost) s round) (all_stalled net cost s) stalled_once
        (λ p some. local_kept s round p (not_in_round p some))
        ∙ filter_none (λ p. not (owes_at cost s p)) (all_stalled net cost s) (λ p some. ap not (stalled_passes p some).1))
        ∙ append-nil round

  -- the turns of a schedule of steps
  abbrev turn_rounds : State (Paying L) → List (List ℕ) → List (List ℕ)
  turn_rounds s [] = []
  turn_rounds s (round ∷ rounds) =
      (round ++ all_stalled net cost s) ∷ turn_rounds (end_of (with_stalls net cost) s (round ++ all_stalled net cost s)) rounds

  turn_schedule : (s : State (Paying L)) (rounds : List (List ℕ)) → IsStepSchedule net cost s rounds
      → IsSchedule (with_stalls net cost) s (turn_rounds s rounds)
  turn_schedule s [] is = tt
  turn_schedule s (round ∷ rounds) is =
      (turn_round s round is.0, turn_schedule (end_of (with_stalls net cost) s (round ++ all_stalled net cost s)) rounds is.1)

  rounds_steps : (s : State (Paying L)) (rounds : List (List ℕ)) (k : ℕ) → IsStepSchedule net cost s rounds
      → steps_in net cost s (first_rounds k (turn_rounds s rounds)) ≡ first_rounds k rounds
  rounds_steps s rounds zero is = refl
  rounds_steps s [] (suc k) is = refl
  rounds_steps s (round ∷ rounds) (suc k) is =
      let then = end_of (with_stalls net cost) s (round ++ all_stalled net cost s) in
      steps_in-append net cost s (round ++ all_stalled net cost s) (first_rounds k (turn_rounds then rounds))
      ∙ ap (λ xs. xs ++ steps_in net cost then (first_rounds k (turn_rounds then rounds))) (round_steps s round is.0)
      ∙ ap (λ xs. round ++ xs) (rounds_steps then rounds k is.1)

module _ {L : Type 0} (net : Network L) (cost : ℕ → List ℕ → ℕ) (producer consumer : ℕ → ℕ) (wired : IsWired net producer consumer) where
  pub law_no_steps_sooner : NoStepsSooner net cost
  law_no_steps_sooner s rounds k p is =
      subst (λ xs. count_of p xs ≤ count_of p (steps_in net cost s (cycles (with_stalls net cost) s k))) (rounds_steps net cost s rounds k is)
      (law_none_steps_sooner net cost producer consumer wired s (turn_rounds net cost s rounds) k p (turn_schedule net cost s rounds is))
