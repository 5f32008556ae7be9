-- The pass of a worker on a fresh table.
use Rattle.std.proofs.Common.{◌≡◌, ℕ, zero, suc, ◌+◌, ◌-◌, ◌*◌, ◌%◌, ◌<◌, ◌≤◌, List, [], ◌∷◌, ◌++◌, Some, length, get_or, take, drop, refl, sym, ap, ◌∙◌, subst, arith, suc-mul, append-nil}
use Rattle.std.specs.Prelude.{Vec, slice_get, vec_len, vec_capacity}
use Rattle.std.specs.declared.alloc.Global.{Global}
use Rattle.std.proofs.lemmas.Option.{slice_get_within}
use Rattle.atomic_table.specs.Seated.{TableId}
use Rattle.raw_model.specs.Program.{ProgramSet}
use Rattle.raw_model.specs.Start.{MachineState}
use Rattle.raw_grid.specs.declared.parts.ProcId.{ProcId}
use Rattle.raw_model.specs.Cache.{HeldLines, StandsFor, misses}
use Rattle.raw_processor.specs.declared.processor.Processor.{Processor}
use Rattle.raw_processor.specs.Processor.{cache_of}
use Rattle.raw_fabric_rule.specs.Views.{About, Part, View}
use Rattle.raw_fabric_rule.specs.ByEnds.{procs}
use Rattle.raw_fabric_rule.specs.Opening.{sent_before, seen_before, first_hold, first_holds, share, first_part, parts_from, first_view}
use Rattle.raw_fabric_rule.specs.Plays.{rest_of, first_of}
use Rattle.raw_fabric_rule.proofs.Opens.{length-ends, length-holds}
use Rattle.raw_fabric_rule.proofs.Views.{worker_of}
use Rattle.raw_fabric_step.specs.Units.{Sits, mine, no_hold, first_units, first_log, IsReady}
use Rattle.raw_steps.specs.declared.log.PassLog.{PassLog}
use Rattle.raw_steps.specs.Taking.{numbers}
use Rattle.raw_fabric.proofs.Pushed.{at_push}
use Rattle.raw_fabric.specs.declared.pass.Pass.{Pass}
use Rattle.raw_fabric.specs.declared.rooms.Room.{Room}
use Rattle.raw_fabric.specs.Holding.{IsUnitOf}
use Rattle.raw_fabric.specs.Laying.{status_before}
use Rattle.raw_fabric.specs.Opened.{IsPass}
use Rattle.raw_fabric.specs.Rooms.{IsRoom, AreRooms}
use Rattle.raw_fabric.specs.Dealing.{IsBefore, HaveBefore, HaveFirstParts, AreTaken, AreLeft, AreDealt}
use Rattle.raw_fabric.proofs.Places.{push_left, push_last}

get_or-holds : (set : ProgramSet) (s : MachineState) (n p many i : ℕ) → i < many → get_or (first_holds set s n p many) i no_hold ≡ first_hold set s (p + i * n)
get_or-holds set s n p zero i h = absurd (omega arith)
get_or-holds set s n p (suc many) zero h = ap (first_hold set s) (let z : p ≡ p + 0 * n = omega arith in z)
get_or-holds set s n p (suc many) (suc i) h = get_or-holds set s n (p + n) many i (omega arith) ∙ ap (first_hold set s) (let z : p + n + i * n ≡ p + suc i * n = omega (arith, suc-mul i n) in z)

-- ---- the view of a seat that was split off
pub first_parts : (about : About) → (first_view about).parts ≡ parts_from about 0 about.workers
unfolding first_view
first_parts about = refl

pub next_part : (about : About) (k n : ℕ) → k < n → parts_from about k (n - k) ≡ first_part about k ∷ parts_from about (k + 1) (n - (k + 1))
next_part about k n h =
    ap (parts_from about k) (let z : n - k ≡ suc (n - (k + 1)) = omega arith in z)
    ∙ (let e : suc k ≡ k + 1 = omega arith in λ i. first_part about k ∷ parts_from about (e i) (n - (k + 1)))

pub last_part : (about : About) (k n : ℕ) → k + 1 ≡ n → parts_from about k (n - k) ≡ first_part about k ∷ []
last_part about k n h =
    next_part about k n (omega arith)
    ∙ ap (λ m. first_part about k ∷ parts_from about (k + 1) m) (let z : n - (k + 1) ≡ 0 = omega arith in z)

pub rest_next : (v : View) (y : Part) (ys : List Part) → v.parts ≡ y ∷ ys → (rest_of v).parts ≡ ys
unfolding rest_of
rest_next v y ys e = ap (drop 1) e

pub first_next : (v : View) (y : Part) (ys : List Part) → v.parts ≡ y ∷ ys → (first_of v).parts ≡ y ∷ []
unfolding first_of
first_next v y ys e = ap (take 1) e

-- ---- a unit at the opening
module _ (about : About) (p : ℕ) where
  nothing : (front : List (List ℕ)) (own : List ℕ) → [] ≡ front ++ own ∷ [] → ⊥
  nothing [] own e = cc e
  nothing (xs ∷ front) own e = cc e

  first_unit : (x : Processor) → IsBefore about p x → IsUnitOf about p x (first_hold about.set about.opened p)
  first_unit x b = record {
    local_is = sym b.local_is;
    kept = b.kept;
    fits = b.fits;
    few = b.few;
    counts_touches = record {
      stands = λ earlier s. subst (StandsFor (cache_of x)) (sym (append-nil earlier)) (subst (λ (c : List HeldLines). StandsFor c earlier) (sym b.cache_is) s);
      missed_is = λ earlier s. (λ i. misses (append-nil earlier i) + sym b.missed_is i);
    };
    owes = record {
      none = λ e. (let same = b.owed_is in omega arith);
      last = λ front own e. absurd (nothing front own e);
    };
    idle = record { fetched = refl; staged = refl };
  }

  first_ready : (word : ℕ) → word ≡ status_before about.set about.opened p → IsReady word (first_hold about.set about.opened p)
  unfolding status_before
  first_ready word is = record {
    counted = length-ends (sent_before about.set about.opened p) 0 20;
    watched = length-ends (seen_before about.set about.opened p) 0 20;
    status_is = is;
  }

-- ---- the pass
module _ (about : About) (k : ℕ) (v : View) (parts : v.parts ≡ first_part about k ∷ []) where
  abbrev many : ℕ
  many = share (procs about.set) about.workers k

  pub first_sits : Sits about k many v
  first_sits = record {
    part = first_part about k;
    alone = parts;
    about_is = refl;
    worker_is = refl;
    long = length-holds about.set about.opened about.workers k many;
  }

  pub first_mine : (j : ℕ) → j < many → mine v j ≡ first_hold about.set about.opened (k + j * about.workers)
  unfolding mine
  first_mine j lt = ap (λ (l : List Part). get_or (first_units l) j no_hold) parts ∙ get_or-holds about.set about.opened about.workers k many j lt

pub dealt : (about : About) (id : TableId) (log_steps k : ℕ) (pass : Pass) (room : Room) → k < about.workers → IsRoom about log_steps k room → pass.seat.table_id ≡ id → pass.seat.me.1 ≡ [] → pass.seat.me.0.parts ≡ first_part about k ∷ []
    → pass.workers ≡ about.workers → pass.statuses ≡ room.statuses → (pass.log ≡ record { worker = k; steps = room.steps }) × (pass.room ≡ log_steps)
    → length pass.processors.items ≡ share (procs about.set) about.workers k
    → ((j : ℕ) (x : Processor) → slice_get pass.processors.items j ≡ Some x → IsBefore about (k + j * about.workers) x) → IsPass about id k pass
dealt about id log_steps k pass room lt r table slots parts workers statuses (log, asked) many before =
    let v = pass.seat.me.0 in
    let status_items = ap (λ (s : Vec ℕ Global). s.items) statuses in
    let steps = ap (λ (l : PassLog). l.steps) log in
    record {
      table_is = table;
      no_slots = slots;
      worker_is = ap (λ (l : PassLog). l.worker) log;
      worker_in = lt;
      workers_are = workers;
      sits = first_sits about k v parts;
      processors_many = many;
      statuses_many = ap length status_items ∙ r.many;
      units = λ j x e.
          let in' = slice_get_within pass.processors.items j x e in
          subst (IsUnitOf about (k + j * about.workers) x) (sym (first_mine about k v parts j (omega arith))) (first_unit about (k + j * about.workers) x (before j x e));
      statuses = λ j word e.
          let e' = ap (λ l. slice_get l j) (sym status_items) ∙ e in
          let in' = slice_get_within room.statuses.items j word e' in
          let long = r.many in
          subst (IsReady word) (sym (first_mine about k v parts j (omega arith))) (first_ready about (k + j * about.workers) word (r.statuses j word e'));
      log_is = ap first_log parts ∙ sym (ap (λ (l : PassLog). numbers l.steps.items) log ∙ ap numbers r.no_steps);
      log_room = subst (λ (s : Vec ProcId Global). pass.room ≤ vec_capacity s) (sym steps) (subst (λ m. m ≤ vec_capacity room.steps) (sym asked) r.steps_room);
      log_short = subst (λ (s : Vec ProcId Global). vec_len s ≤ pass.room) (sym steps) (let ok = room.steps.ok in let none = ap length r.no_steps in omega arith);
    }

-- ---- what is taken of the processors of a machine
-- the processors with the numbers that a worker does not have are as before
pub taken_before : (n k : ℕ) (old now own : List Processor) → k < n → length now ≡ length old → ((p : ℕ) → k ≤ p % n → slice_get now p ≡ slice_get old p) → AreTaken n k now own → AreTaken n k old own
taken_before n k old now own lt long left t = record {
  many = t.many ∙ ap (λ m. share m n k) long;
  each = λ j x e.
      let rest = worker_of k j n lt in
      sym (left (k + j * n) (omega arith)) ∙ t.each j x e;
}

pub before_all : (about : About) (k : ℕ) (processors own : List Processor) → HaveBefore about processors → AreTaken about.workers k processors own
    → (j : ℕ) (x : Processor) → slice_get own j ≡ Some x → IsBefore about (k + j * about.workers) x
before_all about k processors own have t j x e = have.each (k + j * about.workers) x (t.each j x e)

pub left_more : (n k : ℕ) (old now new : List Processor) → ((p : ℕ) → k ≤ p % n → slice_get now p ≡ slice_get old p) → AreLeft n k now new → (p : ℕ) → k + 1 ≤ p % n → slice_get new p ≡ slice_get old p
left_more n k old now new left l p le = l.others p (λ same. absurd (omega arith)) ∙ left p (omega arith)

pub none_yet : {A : Type 0} (xs : List A) (i : ℕ) (x : A) → length xs ≡ 0 → slice_get xs i ≡ Some x → ⊥
none_yet [] i x none e = absurd (cc e)
none_yet (y ∷ ys) i x none e = absurd (omega arith)

-- the room that was popped is that of the next worker
pub room_popped : (about : About) (log_steps n k : ℕ) (old new : List Room) (room : Room) → about.workers ≡ n → AreRooms about log_steps old → old ≡ new ++ room ∷ [] → length new ≡ n - (k + 1) → k < n
    → IsRoom about log_steps k room × AreRooms about log_steps new
room_popped about log_steps n k old new room are all is long lt = (
  subst (λ z. IsRoom about log_steps z room) (let z : about.workers - 1 - length new ≡ k = omega arith in z)
      (all (length new) room (ap (λ l. slice_get l (length new)) is ∙ push_last new room)),
  λ i r e. all i r (ap (λ l. slice_get l i) is ∙ push_left new room i (slice_get_within new i r e) ∙ e),
)

-- one pass more
pub passes_more : (about : About) (id : TableId) (passes : List Pass) (pass : Pass) (k : ℕ) → length passes ≡ k → ((i : ℕ) (p : Pass) → slice_get passes i ≡ Some p → IsPass about id i p) → IsPass about id k pass
    → (i : ℕ) (p : Pass) → slice_get (passes ++ pass ∷ []) i ≡ Some p → IsPass about id i p
passes_more about id passes pass k long all is = at_push (IsPass about id) passes pass all (subst (λ z. IsPass about id z pass) (sym long) is)

pub parts_more : (about : About) (passes : List Pass) (pass : Pass) (k : ℕ) → length passes ≡ k → HaveFirstParts about passes
    → pass.seat.me.0.parts ≡ first_part about k ∷ [] → HaveFirstParts about (passes ++ pass ∷ [])
parts_more about passes pass k long all is =
    at_push (λ i (p : Pass). p.seat.me.0.parts ≡ first_part about i ∷ []) passes pass all
    (subst (λ z. pass.seat.me.0.parts ≡ first_part about z ∷ []) (sym long) is)

pub dealt_more : (n log_steps : ℕ) (processors : List Processor) (passes : List Pass) (pass : Pass) (k : ℕ) → length passes ≡ k → AreDealt n log_steps processors passes → AreTaken n k processors pass.processors.items → (pass.log.steps.items ≡ []) × (pass.room ≡ log_steps)
    → AreDealt n log_steps processors (passes ++ pass ∷ [])
dealt_more n log_steps processors passes pass k long d taken (none, asked) = record {
  taken = at_push (λ i (p : Pass). AreTaken n i processors p.processors.items) passes pass d.taken (subst (λ z. AreTaken n z processors pass.processors.items) (sym long) taken);
  no_log = at_push (λ i (p : Pass). p.log.steps.items ≡ []) passes pass d.no_log none;
  rooms_are = at_push (λ i (p : Pass). p.room ≡ log_steps) passes pass d.rooms_are asked;
}

-- the pass that was made of a room, at its place
pub pass_dealt : (about : About) (id : TableId) (log_steps k : ℕ) (pass : Pass) (room : Room) (processors now : List Processor) → 0 < about.workers → k < about.workers → HaveBefore about processors → length now ≡ length processors
    → ((p : ℕ) → k ≤ p % about.workers → slice_get now p ≡ slice_get processors p) → AreTaken about.workers k now pass.processors.items → IsRoom about log_steps k room
    → pass.seat.table_id ≡ id → pass.seat.me.1 ≡ [] → pass.seat.me.0.parts ≡ first_part about k ∷ [] → pass.workers ≡ about.workers → pass.statuses ≡ room.statuses → (pass.log ≡ record { worker = k; steps = room.steps }) × (pass.room ≡ log_steps)
    → IsPass about id k pass × AreTaken about.workers k processors pass.processors.items × ((pass.log.steps.items ≡ []) × (pass.room ≡ log_steps))
pass_dealt about id log_steps k pass room processors now pos lt have long left taken r table slots parts workers statuses log =
    let all = taken_before about.workers k processors now pass.processors.items lt long left taken in (
      dealt about id log_steps k pass room lt r table slots parts workers statuses log (all.many ∙ ap (λ m. share m about.workers k) have.many) (before_all about k processors pass.processors.items have all),
      all,
      (ap (λ (l : PassLog). l.steps.items) log.0 ∙ r.no_steps, log.1),
    )
