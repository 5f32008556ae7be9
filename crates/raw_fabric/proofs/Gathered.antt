-- The passes of a fabric, taken back one after another.
use Rattle.std.proofs.Common.{◌≡◌, ◌≢◌, ℕ, suc, ◌+◌, ◌*◌, ◌/◌, ◌%◌, ◌<◌, ◌≤◌, List, [], ◌∷◌, ◌++◌, Some, length, set, sym, ap, ◌∙◌, subst, arith, mod-lt, div-add-mod', length-set}
use mathlib.Core.Option.{some}
use mathlib.Core.Logic.{dite}
use native.Mathlib.Decide.{ℕ_discrete}
use lib.ListN.{get_elem?}
use Rattle.std.specs.Prelude.{slice_get, vec_len}
use Rattle.std.proofs.lemmas.Option.{slice_get_within, same_Some}
use Rattle.atomic_table.specs.Seated.{TableId}
use Rattle.atomic_table.proofs.Lists.{at_longer}
use Rattle.raw_processor.specs.declared.processor.Processor.{Processor}
use Rattle.raw_fabric_rule.specs.Views.{About, Part, View}
use Rattle.raw_fabric_rule.specs.ByEnds.{procs}
use Rattle.raw_fabric_rule.specs.Opening.{share}
use Rattle.raw_fabric_rule.specs.Plays.{HasHold, both_of}
use Rattle.raw_fabric_rule.proofs.Opens.{share_all}
use Rattle.raw_fabric_rule.proofs.Views.{worker_of}
use Rattle.raw_fabric_step.specs.Units.{mine, first_log}
use Rattle.raw_fabric_step.proofs.Mine.{has_mine}
use Rattle.raw_steps.specs.declared.log.PassLog.{PassLog}
use Rattle.raw_steps.specs.Taking.{numbers}
use Rattle.raw_fabric.specs.declared.pass.Pass.{Pass}
use Rattle.raw_fabric.specs.Holding.{IsUnitOf}
use Rattle.raw_fabric.specs.Opened.{IsPass}
use Rattle.raw_fabric.specs.Closed.{ArePutBack, HasLog, HasUnit, AreGathered}
use Rattle.raw_fabric.proofs.Places.{set_here, set_there, there, push_left, push_last}

-- ---- what one view holds, another holds
pub record Within (v w : View) : Type 0 where
  pub each : (i : ℕ) (y : Part) → get_elem? v.parts i ≡ some y → (j : ℕ) × (get_elem? w.parts j ≡ some y)

pub within_self : (v : View) → Within v v
within_self v = record { each = λ i y e. (i, e) }

at_right : {A : Type 0} (xs ys : List A) (i : ℕ) (a : A) → get_elem? ys i ≡ some a → get_elem? (xs ++ ys) (length xs + i) ≡ some a
at_right [] ys i a e = ap (get_elem? ys) (let z : 0 + i ≡ i = omega arith in z) ∙ e
at_right (x ∷ xs) ys i a e = ap (get_elem? ((x ∷ xs) ++ ys)) (let z : suc (length xs) + i ≡ suc (length xs + i) = omega arith in z) ∙ at_right xs ys i a e

within_left : (v w : View) → Within v (both_of v w)
unfolding both_of
within_left v w = record { each = λ i y e. (i, at_longer v.parts w.parts i y e) }

within_right : (v w : View) → Within w (both_of v w)
unfolding both_of
within_right v w = record { each = λ i y e. (length v.parts + i, at_right v.parts w.parts i y e) }

pub within_both : (v w x : View) → x ≡ both_of v w → Within v x × Within w x
within_both v w x e = (subst (Within v) (sym e) (within_left v w), subst (Within w) (sym e) (within_right v w))

log_within : (v w : View) (k : ℕ) (log : List ℕ) → Within v w → HasLog v k log → HasLog w k log
log_within v w k log inside h = let e = inside.each h.at h.part h.part_at in record { at = e.0; part = h.part; part_at = e.1; worker_is = h.worker_is; log_is = h.log_is }

unit_within : (about : About) (v w : View) (p : ℕ) (x : Processor) → Within v w → HasUnit about v p x → HasUnit about w p x
unit_within about v w p x inside h =
    let y = h.has in
    let e = inside.each y.at y.part y.part_at in
    record { unit = h.unit; has = record { part = y.part; at = e.0; index = y.index; part_at = e.1; unit_at = y.unit_at; number = y.number }; is = h.is }

above : (k i : ℕ) → k ≤ i → i ≢ k → k + 1 ≤ i
above k i le ne = omega arith

pub gathered_none : (about : About) (v : View) (processors : List Processor) (logs : List PassLog) → 0 < about.workers → length processors ≡ procs about.set → length logs ≡ about.workers
    → AreGathered about about.workers v processors logs
gathered_none about v processors logs pos all many = record {
  processors_all = all;
  logs_all = many;
  logs_are = λ w log e le. let lt = slice_get_within logs w log e in absurd (omega arith);
  units_are = λ p x e le. let m : p % about.workers < about.workers = mod-lt p pos in absurd (omega arith);
}

-- ---- one pass more
module _ (about : About) (id : TableId) (k : ℕ) (pass : Pass) (is : IsPass about id k pass) (pos : 0 < about.workers) where
  abbrev n : ℕ
  n = about.workers

  own_log : HasLog pass.seat.me.0 k (numbers pass.log.steps.items)
  own_log = let s = is.sits in record {
    at = 0;
    part = s.part;
    part_at = ap (λ (l : List Part). get_elem? l 0) s.alone;
    worker_is = s.worker_is;
    log_is = sym (ap first_log s.alone) ∙ is.log_is;
  }

  own_unit : (p : ℕ) (x : Processor) → p < procs about.set → p % n ≡ k → slice_get pass.processors.items (p / n) ≡ Some x → HasUnit about pass.seat.me.0 p x
  own_unit p x lt rest at =
      let j = p / n in
      let in' = share_all (procs about.set) n k p pos lt rest in
      let d = div-add-mod' p n in
      let q : ℕ = j * n in
      let number : k + q ≡ p = omega arith in
      let v = pass.seat.me.0 in
      record {
        unit = mine v j;
        has = subst (λ z. HasHold v z (mine v j)) number (has_mine about k (share (procs about.set) n k) v is.sits j in');
        is = subst (λ z. IsUnitOf about z x (mine v j)) number (is.units j x at);
      }

  -- the processor in a place of this worker is the one of the pass
  own_place : (old new : List Processor) → ArePutBack n k pass.processors.items old new → (p : ℕ) (x : Processor) → p < procs about.set → p % n ≡ k → slice_get new p ≡ Some x
      → slice_get pass.processors.items (p / n) ≡ Some x
  own_place old new put p x lt rest at =
      let j = p / n in
      let in' = share_all (procs about.set) n k p pos lt rest in
      let long = is.processors_many in
      let x' = there pass.processors.items j (omega arith) in
      let d = div-add-mod' p n in
      let q : ℕ = j * n in
      let number : p ≡ k + q = omega arith in
      x'.1 ∙ ap Some (same_Some x'.0 x (sym (put.each j x'.0 x'.1) ∙ ap (slice_get new) (sym number) ∙ at))

  pub gathered_more : (v w : View) (old new : List Processor) (logs after : List PassLog) → Within v w → Within pass.seat.me.0 w → AreGathered about (k + 1) v old logs
      → ArePutBack n k pass.processors.items old new → after ≡ set logs k pass.log → AreGathered about k w new after
  gathered_more v w old new logs after left right g put logs_are' =
      let many : length new ≡ procs about.set = put.long ∙ g.processors_all in
      record {
        processors_all = many;
        logs_all = ap length logs_are' ∙ length-set logs k pass.log ∙ g.logs_all;
        logs_are = λ u log e le.
            let e' = ap (λ l. slice_get l u) (sym logs_are') ∙ e in
            dite (ℕ_discrete u k)
            (λ (same : u ≡ k).
            let lt = is.worker_in in
            let long = g.logs_all in
            let own : pass.log ≡ log = same_Some pass.log log (sym (set_here logs k pass.log (omega arith)) ∙ ap (slice_get (set logs k pass.log)) (sym same) ∙ e') in (
              ap (λ (l : PassLog). l.worker) (sym own) ∙ is.worker_is ∙ sym same,
              subst (λ (l : PassLog). HasLog w u (numbers l.steps.items)) own (subst (λ z. HasLog w z (numbers pass.log.steps.items)) (sym same) (log_within pass.seat.me.0 w k (numbers pass.log.steps.items) right own_log)),
            ))
            (λ (other : u ≢ k).
            let h = g.logs_are u log (sym (set_there logs k u pass.log other) ∙ e') (above k u le other) in
            (h.0, log_within v w u (numbers log.steps.items) left h.1));
        units_are = λ p x e le.
            let within = slice_get_within new p x e in
            let lt : p < procs about.set = omega arith in
            dite (ℕ_discrete (p % n) k)
            (λ same. unit_within about pass.seat.me.0 w p x right (own_unit p x lt same (own_place old new put p x lt same e)))
            (λ other. unit_within about v w p x left (g.units_are p x (sym (put.others p other) ∙ e) (above k (p % n) le other)));
      }

-- ---- what is kept: the logs and processors of the passes from worker m on are in their places
pub record KeptFrom (n m : ℕ) (passes : List Pass) (processors : List Processor) (logs : List PassLog) : Type 0 where
  pub logs_are : (k : ℕ) (pass : Pass) → m ≤ k → slice_get passes k ≡ Some pass → slice_get logs k ≡ Some pass.log
  pub processors_are : (k j : ℕ) (pass : Pass) (x : Processor) → m ≤ k → slice_get passes k ≡ Some pass → slice_get pass.processors.items j ≡ Some x
      → slice_get processors (k + j * n) ≡ Some x

pub kept_none : (n m : ℕ) (passes : List Pass) (processors : List Processor) (logs : List PassLog) → length passes ≤ m → KeptFrom n m passes processors logs
kept_none n m passes processors logs few = record {
  logs_are = λ k pass le e. let lt = slice_get_within passes k pass e in absurd (omega arith);
  processors_are = λ k j pass x le e at. let lt = slice_get_within passes k pass e in absurd (omega arith);
}

pub kept_more : (n k : ℕ) (passes : List Pass) (pass : Pass) (old new : List Processor) (logs : List PassLog) → slice_get passes k ≡ Some pass → k < length logs → length passes ≤ n
    → KeptFrom n (k + 1) passes old logs → ArePutBack n k pass.processors.items old new → KeptFrom n k passes new (set logs k pass.log)
kept_more n k passes pass old new logs own room few h put = record {
  logs_are = λ i p le e.
      dite (ℕ_discrete i k)
      (λ (same : i ≡ k).
      let is : pass ≡ p = same_Some pass p (sym own ∙ ap (slice_get passes) (sym same) ∙ e) in
      ap (slice_get (set logs k pass.log)) same ∙ set_here logs k pass.log room ∙ ap (λ (q : Pass). Some q.log) is)
      (λ (other : i ≢ k). set_there logs k i pass.log other ∙ h.logs_are i p (above k i le other) e);
  processors_are = λ i j p x le e at.
      dite (ℕ_discrete i k)
      (λ (same : i ≡ k).
      let is : pass ≡ p = same_Some pass p (sym own ∙ ap (slice_get passes) (sym same) ∙ e) in
      ap (λ z. slice_get new (z + j * n)) same ∙ put.each j x (ap (λ (q : Pass). slice_get q.processors.items j) is ∙ at))
      (λ (other : i ≢ k).
      let lt = slice_get_within passes i p e in
      put.others (i + j * n) (λ z. other (sym (worker_of i j n (omega arith)) ∙ z)) ∙ h.processors_are i j p x (above k i le other) e at);
}

-- ---- the pass that was popped: it is that of the worker whose number is the length of what is left
pub record IsPopped (about : About) (id : TableId) (all rest : List Pass) (pass : Pass) : Type 0 where
  pub is_pass : IsPass about id (length rest) pass
  pub at : slice_get all (length rest) ≡ Some pass
  pub front : (k : ℕ) (p : Pass) → slice_get rest k ≡ Some p → slice_get all k ≡ Some p

pub popped : (about : About) (id : TableId) (all now rest : List Pass) (pass : Pass) → ((k : ℕ) (p : Pass) → slice_get all k ≡ Some p → IsPass about id k p) → ((k : ℕ) (p : Pass) → slice_get now k ≡ Some p → slice_get all k ≡ Some p)
    → now ≡ rest ++ pass ∷ [] → IsPopped about id all rest pass
popped about id all now rest pass each front is =
    let at = front (length rest) pass (ap (λ l. slice_get l (length rest)) is ∙ push_last rest pass) in
    record {
      is_pass = each (length rest) pass at;
      at = at;
      front = λ k p e. front k p (ap (λ l. slice_get l k) is ∙ push_left rest pass k (slice_get_within rest k p e) ∙ e);
    }

-- the places of its processors
module _ (about : About) (id : TableId) (k : ℕ) (pass : Pass) (is : IsPass about id k pass) where
  pub own_worker : pass.log.worker < pass.workers
  own_worker = subst (λ z. pass.log.worker < z) (sym is.workers_are) (subst (λ z. z < about.workers) (sym is.worker_is) is.worker_in)

  pub own_share : (processors : List Processor) → length processors ≡ procs about.set → vec_len pass.processors ≡ share (length processors) pass.workers pass.log.worker
  own_share processors many = let ok = pass.processors.ok in
      (let z : vec_len pass.processors ≡ length pass.processors.items = omega arith in z)
      ∙ is.processors_many ∙ (λ i. share (sym many i) (sym is.workers_are i) (sym is.worker_is i))

  pub gathered_step : 0 < about.workers → (v w : View) (old new : List Processor) (logs after : List PassLog) → Within v w → Within pass.seat.me.0 w → AreGathered about (k + 1) v old logs
      → ArePutBack pass.workers pass.log.worker pass.processors.items old new → after ≡ set logs pass.log.worker pass.log → AreGathered about k w new after
  gathered_step pos v w old new logs after left right g put logs_are =
      gathered_more about id k pass is pos v w old new logs after left right g
      (subst (λ n. ArePutBack n k pass.processors.items old new) is.workers_are (subst (λ z. ArePutBack pass.workers z pass.processors.items old new) is.worker_is put))
      (logs_are ∙ ap (λ z. set logs z pass.log) is.worker_is)

  pub kept_step : (passes : List Pass) (old new : List Processor) (logs after : List PassLog) → slice_get passes k ≡ Some pass → length logs ≡ about.workers → length passes ≤ about.workers
      → KeptFrom about.workers (k + 1) passes old logs → ArePutBack pass.workers pass.log.worker pass.processors.items old new → after ≡ set logs pass.log.worker pass.log → KeptFrom about.workers k passes new after
  kept_step passes old new logs after at many few h put logs_are =
      let lt = is.worker_in in
      subst (KeptFrom about.workers k passes new) (sym (logs_are ∙ ap (λ z. set logs z pass.log) is.worker_is))
      (kept_more about.workers k passes pass old new logs at (omega arith) few h
      (subst (λ n. ArePutBack n k pass.processors.items old new) is.workers_are (subst (λ z. ArePutBack pass.workers z pass.processors.items old new) is.worker_is put)))
