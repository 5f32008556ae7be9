-- A call for one processor of a pass.
use Rattle.std.proofs.Common.{◌≡◌, ◌≢◌, ℕ, ◌+◌, ◌*◌, ◌/◌, ◌<◌, ◌≤◌, true, false, [], ◌∷◌, ◌++◌, Some, length, get_or, set, refl, sym, ap, ◌∙◌, subst, arith, div-add-mod'}
use Rattle.std.specs.Prelude.{slice_get, vec_len, vec_capacity}
use mathlib.Core.Logic.{dite}
use native.Mathlib.Decide.{ℕ_discrete}
use Rattle.std.proofs.lemmas.List.{length-set}
use Rattle.std.proofs.lemmas.Nat.{same_from_place}
use Rattle.std.proofs.lemmas.Option.{slice_get_within, same_Some}
use Rattle.atomic_table.specs.Seated.{TableId}
use Rattle.raw_processor.specs.declared.processor.Processor.{Processor}
use Rattle.raw_fabric_rule.specs.Views.{About, View}
use Rattle.raw_fabric_rule.specs.ByEnds.{procs}
use Rattle.raw_fabric_rule.specs.Opening.{share}
use Rattle.raw_fabric_rule.proofs.Opens.{share_all}
use Rattle.raw_fabric_step.specs.Units.{Sits, Placed, mine, first_log, IsReady, IsLooked, Steady, Logged}
use Rattle.raw_fabric_step.proofs.Steady.{no_look}
use Rattle.raw_steps.specs.Taking.{numbers}
use Rattle.raw_fabric.specs.declared.answer.FabricTurn.{FabricTurn}
use Rattle.raw_fabric.specs.declared.answer.FabricTurn.TheVariants.{Fired, Stalled, Stopped, LogFull, Waits}
use Rattle.raw_fabric.specs.declared.pass.Pass.{Pass}
use Rattle.raw_fabric.specs.Holding.{IsUnitOf}
use Rattle.raw_fabric.specs.InRow.{LeavesOthers}
use Rattle.raw_fabric.specs.Answers.{IsUnitTurn, CanStep, IsAnswer, IsTurnOf, has_fired}
use Rattle.raw_fabric.specs.Opened.{IsPass, Holds}
use Rattle.raw_fabric.proofs.Places.{read_at, set_here, set_there}
use Rattle.raw_fabric.proofs.Turned.{unit_looked, ready_looked}

-- ---- the place of a processor
module _ (about : About) (id : TableId) (pass : Pass) (p : ℕ) (is : IsPass about id pass.log.worker pass) (holds : Holds about pass p) where
  abbrev i : ℕ
  i = p / about.workers

  abbrev k : ℕ
  k = pass.log.worker

  some : 0 < about.workers
  some = let lt = is.worker_in in omega arith

  pub inside : i < share (procs about.set) about.workers k
  inside = share_all (procs about.set) about.workers k p some holds.there holds.own

  pub number : p ≡ k + i * about.workers
  number =
      let d = div-add-mod' p about.workers in
      let own = holds.own in
      let q : ℕ = i * about.workers in
      omega arith

  pub placed : Placed about pass.seat.me.0 p i
  placed = record { worker = k; many = share (procs about.set) about.workers k; sits = is.sits; within = inside; worker_in = is.worker_in; number = number }

  pub unit_here : (x : Processor) → slice_get pass.processors.items i ≡ Some x → IsUnitOf about p x (mine pass.seat.me.0 i)
  unit_here x e = subst (λ q. IsUnitOf about q x (mine pass.seat.me.0 i)) (sym number) (is.units i x e)

  -- the processor that is read at its place
  pub read_here : (index : ℕ) (x : Processor) → index ≡ i → x ≡ get_or pass.processors.items index x → slice_get pass.processors.items i ≡ Some x
  read_here index x at is_read =
      let in' = inside in
      let many = is.processors_many in
      let ok = pass.processors.ok in
      ap (slice_get pass.processors.items) (sym at) ∙ read_at pass.processors index x (omega (arith, at)) is_read

-- ---- the other processors of a pass after a turn
other_place : (about : About) (v : View) (k j many : ℕ) → Sits about k many v → j < many → k < about.workers → Placed about v (k + j * about.workers) j
other_place about v k j many sits lt in' = record { worker = k; many = many; sits = sits; within = lt; worker_in = in'; number = refl }

pub steady_leaves : (about : About) (p : ℕ) (v w : View) → Steady about p v w → LeavesOthers about p v w
steady_leaves about p v w s = record { sits = s.sits; others = s.others }

pub logged_leaves : (about : About) (p : ℕ) (v w : View) → Logged about p v w → LeavesOthers about p v w
logged_leaves about p v w l = record { sits = l.sits; others = l.others }

pub none_leaves : (about : About) (p : ℕ) (v w : View) → w ≡ v → LeavesOthers about p v w
none_leaves about p v w same = record {
  sits = λ k many s. subst (Sits about k many) (sym same) s;
  others = λ q j other pl. subst (λ x. IsLooked about q (mine v j) (mine x j)) (sym same) (no_look about q (mine v j));
}

-- and of the log
pub turn_leaves : (about : About) (p i : ℕ) (turn : FabricTurn) (v w : View) (x y : Processor) → IsUnitTurn about p i turn v w x y → LeavesOthers about p v w
turn_leaves about p i Fired v w x y t = logged_leaves about p v w t.1.stepped.has_fired.logged
turn_leaves about p i Stalled v w x y t = none_leaves about p v w t.1
turn_leaves about p i (Waits wire seen) v w x y t = steady_leaves about p v w t.1.steady
turn_leaves about p i _ v w x y t = absurd t

pub turn_log : (about : About) (p i : ℕ) (turn : FabricTurn) (v w : View) (x y : Processor) → IsUnitTurn about p i turn v w x y → has_fired turn ≡ false → first_log w.parts ≡ first_log v.parts
turn_log about p i Fired v w x y t none = absurd (cc none)
turn_log about p i Stalled v w x y t none = ap (λ (q : View). first_log q.parts) t.1
turn_log about p i (Waits wire seen) v w x y t none = t.1.steady.log_same
turn_log about p i _ v w x y t none = absurd t

pub fired_log : (about : About) (p i : ℕ) (turn : FabricTurn) (v w : View) (x y : Processor) → IsUnitTurn about p i turn v w x y → has_fired turn ≡ true → first_log w.parts ≡ first_log v.parts ++ p ∷ []
fired_log about p i Fired v w x y t is = t.1.stepped.has_fired.logged.log_more
fired_log about p i _ v w x y t is = absurd (cc is)

-- ---- the answer
pub answer_of : (about : About) (p i room : ℕ) (turn : FabricTurn) (v w : View) (x y : Processor) → CanStep about p room v x → IsUnitTurn about p i turn v w x y → IsAnswer about p i room turn v w x y
answer_of about p i room Stopped v w x y can t = absurd t
answer_of about p i room LogFull v w x y can t = absurd t
answer_of about p i room _ v w x y can t = (can, t)

-- so the turn of p is that of its unit
pub turn_of : (about : About) (p : ℕ) (turn : FabricTurn) (old new : Pass) (x y : Processor) → slice_get old.processors.items (p / about.workers) ≡ Some x
    → new.processors.items ≡ set old.processors.items (p / about.workers) y → new.room ≡ old.room
    → IsAnswer about p (p / about.workers) old.room turn old.seat.me.0 new.seat.me.0 x y → IsTurnOf about p turn old new
turn_of about p turn old new x y here processors room answer =
    let i : ℕ = p / about.workers in
    let set_to : slice_get new.processors.items i ≡ Some y =
    ap (λ l. slice_get l i) processors ∙ set_here old.processors.items i y (slice_get_within old.processors.items i x here) in
    record {
      answer = λ x' y' ex ey.
          subst (λ (q : Processor × Processor). IsAnswer about p i old.room turn old.seat.me.0 new.seat.me.0 q.0 q.1)
          (λ k. (same_Some x x' (sym here ∙ ex) k, same_Some y y' (sym set_to ∙ ey) k)) answer;
      others = λ j other. ap (λ l. slice_get l j) processors ∙ set_there old.processors.items i j y other;
      room_same = room;
    }

-- ---- the pass after a turn of p: x became y, and the log is `steps`
module _ (about : About) (id : TableId) (old new : Pass) (p : ℕ) (is : IsPass about id old.log.worker old) (holds : Holds about old p) (x y : Processor) (status : ℕ) where
  abbrev v : View
  v = old.seat.me.0

  abbrev w : View
  w = new.seat.me.0

  abbrev n : ℕ
  n = about.workers

  abbrev at : ℕ
  at = p / about.workers

  module _ (table : new.seat.table_id ≡ old.seat.table_id) (slots : new.seat.me.1 ≡ old.seat.me.1) (worker : new.log.worker ≡ old.log.worker) (workers : new.workers ≡ old.workers)
      (processors : new.processors.items ≡ set old.processors.items at y) (statuses : new.statuses.items ≡ set old.statuses.items at status)
      (leaves : LeavesOthers about p v w) (unit : IsUnitOf about p y (mine w at)) (ready : IsReady status (mine w at)) where
    unit_at : (j : ℕ) (z : Processor) → slice_get new.processors.items j ≡ Some z → IsUnitOf about (old.log.worker + j * n) z (mine w j)
    unit_at j z e =
        let many = is.processors_many in
        let in' = inside about id old p is holds in
        let num = number about id old p is holds in
        let e' = ap (λ l. slice_get l j) (sym processors) ∙ e in
        dite (ℕ_discrete j at)
        (λ (same : j ≡ at).
        let own : y ≡ z = same_Some y z (sym (set_here old.processors.items at y (omega arith)) ∙ ap (slice_get (set old.processors.items at y)) (sym same) ∙ e') in
        subst (λ (q : ℕ × Processor). IsUnitOf about (old.log.worker + q.0 * n) q.1 (mine w q.0)) (λ i. (sym same i, own i)) (subst (λ q. IsUnitOf about q y (mine w at)) num unit))
        (λ (other : j ≢ at).
        let before = sym (set_there old.processors.items at j y other) ∙ e' in
        let lt = slice_get_within old.processors.items j z before in
        let away = λ (same : old.log.worker + j * n ≡ p). other (same_from_place j old.log.worker at old.log.worker n is.worker_in is.worker_in (let q : j * n + old.log.worker ≡ at * n + old.log.worker = omega arith in q)).0 in
        unit_looked about (old.log.worker + j * n) z (mine v j) (mine w j) (leaves.others (old.log.worker + j * n) j away (other_place about v old.log.worker j (share (procs about.set) n old.log.worker) is.sits (omega arith) is.worker_in))
        (is.units j z before))

    status_at : (j word : ℕ) → slice_get new.statuses.items j ≡ Some word → IsReady word (mine w j)
    status_at j word e =
        let many = is.statuses_many in
        let in' = inside about id old p is holds in
        let num = number about id old p is holds in
        let e' = ap (λ l. slice_get l j) (sym statuses) ∙ e in
        dite (ℕ_discrete j at)
        (λ (same : j ≡ at).
        let own : status ≡ word = same_Some status word (sym (set_here old.statuses.items at status (omega arith)) ∙ ap (slice_get (set old.statuses.items at status)) (sym same) ∙ e') in
        subst (λ (q : ℕ × ℕ). IsReady q.1 (mine w q.0)) (λ i. (sym same i, own i)) ready)
        (λ (other : j ≢ at).
        let before = sym (set_there old.statuses.items at j status other) ∙ e' in
        let lt = slice_get_within old.statuses.items j word before in
        let away = λ (same : old.log.worker + j * n ≡ p). other (same_from_place j old.log.worker at old.log.worker n is.worker_in is.worker_in (let q : j * n + old.log.worker ≡ at * n + old.log.worker = omega arith in q)).0 in
        ready_looked about (old.log.worker + j * n) word (mine v j) (mine w j) (leaves.others (old.log.worker + j * n) j away (other_place about v old.log.worker j (share (procs about.set) n old.log.worker) is.sits (omega arith) is.worker_in))
        (is.statuses j word before))

    pub pass_after : first_log w.parts ≡ numbers new.log.steps.items → new.room ≤ vec_capacity new.log.steps → vec_len new.log.steps ≤ new.room → IsPass about id old.log.worker new
    pass_after log_is room short = record {
      table_is = table ∙ is.table_is;
      no_slots = slots ∙ is.no_slots;
      worker_is = worker;
      worker_in = is.worker_in;
      workers_are = workers ∙ is.workers_are;
      sits = leaves.sits old.log.worker (share (procs about.set) n old.log.worker) is.sits;
      processors_many = ap length processors ∙ length-set old.processors.items at y ∙ is.processors_many;
      statuses_many = ap length statuses ∙ length-set old.statuses.items at status ∙ is.statuses_many;
      units = unit_at;
      statuses = status_at;
      log_is = log_is;
      log_room = room;
      log_short = short;
    }
