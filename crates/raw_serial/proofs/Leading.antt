-- States that lawful lists of steps lead to, machines that run on, and stall turns that are passed over.
use Rattle.std.proofs.Common.{◌≡◌, ℕ, ◌+◌, ◌-◌, ◌<◌, ◌≤◌, Bool, true, false, cond, List, [], ◌∷◌, ◌++◌, length, set, Option, None, refl, sym, ap, ◌∙◌, subst, ⊎_elim, arith, suc, zero}
use Rattle.std.specs.Prelude.{nat_lt, slice_index, slice_set}
use Rattle.std.proofs.lemmas.Bool.{ltb-false, cases_lt, not-true, false_from_ne_true}
use Rattle.std.proofs.lemmas.List.{set-get_or}
use Rattle.std.proofs.lemmas.Option.{slice_get_past}
use Rattle.std.proofs.Math.Logic.{∥∥₁_map₂}
use Rattle.raw_network.proofs.Bounds.{total_less}
use Rattle.raw_network.proofs.Diamond.{ready}
use Rattle.raw_network.specs.Network.{is_ready}
use Rattle.raw_model.specs.Program.{ProgramSet}
use Rattle.raw_model.specs.Machine.{machine_of, is_stopped}
use Rattle.raw_model.specs.Start.{MachineState}
use Rattle.raw_model.specs.Rest.{enabled, stopped, is_stopped_at, IsQuiet}
use Rattle.raw_model.specs.Waits.{first_wait}
use Rattle.raw_model.proofs.Awaited.{none_where_enabled}
use Rattle.raw_model.specs.Bounds.{steps_left, all_left}
use Rattle.raw_model.proofs.Finite.{bounded}
use Rattle.raw_serial.specs.Running.{Running, stalled_once, turn_of}
use Rattle.raw_serial.specs.declared.turn.Turn.{Turn}
use Rattle.raw_serial.specs.declared.turn.Turn.TheVariants.{Fired, Stalled}
use Rattle.raw_serial.specs.Turns.{turn_by}
use Rattle.raw_serial.proofs.Stepping.{fired_parts}
use Rattle.raw_serial.specs.Leading.{LeadsBy, Leads, HasTaken, HasRunFor, IsRunFor, past_stalls}
use Rattle.raw_serial.proofs.Taking.{run_for_then, led_after}

-- a state that lawful steps lead to, and one that they lead on to
pub leads_far : (g : ProgramSet) (s t u : MachineState) → Leads g s t → Leads g t u → Leads g s u
leads_far g s t u first second =
    ∥∥₁_map₂ first second
    (λ (h : (steps : List ℕ) × LeadsBy g s t steps) (k : (steps : List ℕ) × LeadsBy g t u steps). (
      h.0 ++ k.0,
      led_after g s t u h.0 k.0 h.1 k.1,
    ))

pub run_past : (m n : Running) (most : ℕ) → HasTaken m n [] → IsRunFor m n most most
run_past m n most taken =
    record {
      few = omega arith;
      set = taken.set;
      ran = ∣ ([], omega arith, taken) ∣₁;
      less = λ fewer. absurd (omega (arith, fewer));
      stays = λ e. sym taken.led.there;
    }

pub run_step : (m n : Running) (p most left : ℕ) → suc left ≡ most → HasTaken m n (p ∷ []) → IsRunFor m n most left
run_step m n p most left one taken =
    record {
      few = omega (arith, one);
      set = taken.set;
      ran = ∣ (p ∷ [], omega (arith, one), taken) ∣₁;
      less = λ e. subst (λ s. all_left m.set s < all_left m.set m.state) taken.led.there (total_less (machine_of m.set) (λ p l. Unit {0}) (steps_left m.set) (bounded m.set) m.state p taken.led.lawful.0 (λ p l here. tt));
      stays = λ e. absurd (omega (arith, one, e));
    }

-- a machine that runs on twice
less_by : (most left rest new now old : ℕ) → left ≤ most → rest ≤ left → rest < most → (left < most → now < old) → (left ≡ most → now ≡ old)
    → (rest < left → new < now) → (rest ≡ left → new ≡ now) → new < old
less_by most left rest new now old few fewer less a b h k =
    ⊎_elim
    (λ (one : left < most).
    let x = a one in
    ⊎_elim
    (λ (two : rest < left). let y = h two in omega arith)
    (λ (same : left ≤ rest). let y = k (omega arith) in omega arith)
    (cases_lt rest left))
    (λ (same : most ≤ left). let x = b (omega arith) in let y = h (omega arith) in omega arith)
    (cases_lt left most)

pub run_more : (m n o : Running) (most left rest : ℕ) → IsRunFor m n most left → IsRunFor n o left rest → IsRunFor m o most rest
run_more m n o most left rest first next =
    let then : rest < left → all_left m.set o.state < all_left m.set n.state = subst (λ g. rest < left → all_left g o.state < all_left g n.state) first.set next.less in
    let sum : (most - left) + (left - rest) ≡ most - rest = omega (arith, first.few, next.few) in
    record {
      few = omega (arith, first.few, next.few);
      set = next.set ∙ first.set;
      ran = subst (HasRunFor m o) sum (run_for_then m n o (most - left) (left - rest) first.ran next.ran);
      less = λ e. less_by most left rest _ (all_left m.set n.state) _ first.few next.few e first.less (λ none. ap (all_left m.set) (first.stays none)) then (λ none. ap (all_left m.set) (next.stays none));
      stays = λ e. next.stays (omega (arith, e, first.few, next.few)) ∙ first.stays (omega (arith, e, first.few, next.few));
    }

pub set_set : {X : Type 0} (xs : List X) (i : ℕ) (x y : X) → set (set xs i x) i y ≡ set xs i y
set_set [] i x y = refl
set_set (z ∷ xs) zero x y = refl
set_set (z ∷ xs) (suc i) x y = ap (λ zs. z ∷ zs) (set_set xs i x y)

-- a stall turn less of a processor that is not stopped changes nothing once all are passed over
pub past_one : (m : Running) (p : ℕ) → stopped m.set m.state p ≡ false → past_stalls (stalled_once m p) p ≡ past_stalls m p
past_one m p going =
    let owed : cond (stopped m.set m.state p) (slice_set m.owed p (slice_index m.owed p - 1)) (slice_set (slice_set m.owed p (slice_index m.owed p - 1)) p 0)
    ≡ cond (stopped m.set m.state p) m.owed (slice_set m.owed p 0) =
    ap (λ b. cond b (slice_set m.owed p (slice_index m.owed p - 1)) (slice_set (slice_set m.owed p (slice_index m.owed p - 1)) p 0)) going
    ∙ set_set m.owed p (slice_index m.owed p - 1) 0
    ∙ sym (ap (λ b. cond b m.owed (slice_set m.owed p 0)) going) in
    λ i. record { set = m.set; state = m.state; caches = m.caches; missed = m.missed; owed = owed i }

owed_none : (b owes : Bool) (owed zeroed : List ℕ) (wait : Option ℕ) (turn : Turn) → turn ≡ turn_by b owes wait → (turn ≡ Stalled → ⊥)
    → (owes ≡ false → zeroed ≡ owed) → cond b owed zeroed ≡ owed
owed_none true owes owed zeroed wait turn e not_stalled same = refl
owed_none false true owed zeroed wait turn e not_stalled same = absurd (not_stalled e)
owed_none false false owed zeroed wait turn e not_stalled same = same refl

-- where a turn is no stall turn, none was owed that it could take
pub past_none : (m : Running) (p : ℕ) (turn : Turn) → turn ≡ turn_of m p → (turn ≡ Stalled → ⊥) → past_stalls m p ≡ m
past_none m p turn e not_stalled =
    let owed = owed_none (stopped m.set m.state p) (nat_lt 0 (slice_index m.owed p)) m.owed (slice_set m.owed p 0) (first_wait m.set m.state p) turn e not_stalled
    (λ free. let none : 0 ≡ slice_index m.owed p = (let few = ltb-false 0 (slice_index m.owed p) free in omega arith) in ap (set m.owed p) none ∙ set-get_or m.owed p 0) in
    λ i. record { set = m.set; state = m.state; caches = m.caches; missed = m.missed; owed = owed i }

-- a stall turn is of a processor that is not stopped
pub stalled_going : (b owes : Bool) (wait : Option ℕ) → Stalled ≡ turn_by b owes wait → b ≡ false
stalled_going true owes wait e = absurd (cc e)
stalled_going false owes wait e = refl

fired_or_stalled : (owes : Bool) (wait : Option ℕ) (turn : Turn) → turn ≡ turn_by false owes wait → wait ≡ None → (turn ≡ Fired → ⊥) → (turn ≡ Stalled → ⊥) → ⊥
fired_or_stalled true wait turn e none not_fired not_stalled = not_stalled e
fired_or_stalled false wait turn e none not_fired not_stalled = not_fired (e ∙ ap (turn_by false false) none)

module _ (g : ProgramSet) (s : MachineState) (p : ℕ) (within : p < length s.locals) (owes : Bool) where
  -- a processor whose turn is neither a step nor a stall turn is not enabled
  pub idle_is : (turn : Turn) → turn ≡ turn_by (stopped g s p) owes (first_wait g s p) → (turn ≡ Fired → ⊥) → (turn ≡ Stalled → ⊥) → enabled g s p ≡ false
  unfolding machine_of
  idle_is turn e not_fired not_stalled =
      false_from_ne_true (enabled g s p) (λ on.
      let (k, r) = ready (machine_of g) s p on in
      let going : stopped g s p ≡ false = ap (is_stopped_at g p) r.here ∙ not-true (is_stopped g p k) r.going in
      fired_or_stalled owes (first_wait g s p) turn (e ∙ ap (λ b. turn_by b owes (first_wait g s p)) going) ((none_where_enabled g s p within going).1 on) not_fired not_stalled)

  -- a processor that fires is enabled
  pub on_is : Fired ≡ turn_by (stopped g s p) owes (first_wait g s p) → enabled g s p ≡ true
  on_is e = let parts = fired_parts (stopped g s p) owes (first_wait g s p) e in (none_where_enabled g s p within parts.0).0 parts.1

-- a state is quiet where none of its processors is enabled
pub quiet_is : (g : ProgramSet) (s : MachineState) (n : ℕ) → length s.locals ≡ n → ((q : ℕ) → q < n → enabled g s q ≡ false) → IsQuiet g s
quiet_is g s n many none = λ p.
    ⊎_elim (λ h. none p h) (λ (h : n ≤ p). ap (λ o. is_ready (machine_of g) p o s.wires) (slice_get_past s.locals p (omega (arith, h, many)))) (cases_lt p n)
