use Rattle.std.proofs.Common.{◌≡◌, ℕ, ◌+◌, ◌-◌, ◌%◌, ◌<◌, ◌≤◌, Some, ◌++◌, length, refl, sym, ap, ◌∙◌, subst, arith}
use Rattle.std.specs.Prelude.{slice_get, vec_capacity}
use Rattle.std.specs.Option.{option_to_list}
use Rattle.std.proofs.lemmas.List.{length_push}
use Rattle.raw_fabric_rule.specs.Opening.{share, first_part, parts_from}
use Rattle.raw_fabric.specs.declared.pass.Pass.{Pass}
use Rattle.raw_fabric.specs.Opened.{IsPass}
use Rattle.raw_fabric_rule.specs.Views.{View}
use Rattle.raw_fabric.specs.Dealing.{AreTaken, AreDealt, HaveFirstParts, IsEmptyRoom}
use Rattle.raw_fabric.proofs.Dealt.{first_parts, next_part, last_part, rest_next, first_next, room_popped, pass_dealt, passes_more, parts_more, dealt_more, left_more, none_yet}
use Rattle.raw_fabric.proofs.deal.deal.Goals as goal

pub loop-worker-init : goal.loop-worker-init
loop-worker-init c =
    let r = c.requires in
    let a = c.args.words.now.key in
    let me = r.seat.view in
    let ok = c.args.passes.ok in
    record {
      rooms_many = omega arith;
      rooms = r.rooms.1;
      passes_many = r.passes.0;
      passes_room = r.passes.1;
      passes = λ k pass e. absurd (none_yet c.args.passes.items k pass (omega arith) e);
      parts = λ k pass e. absurd (none_yet c.args.passes.items k pass (omega arith) e);
      dealt = record { taken = λ k pass e. absurd (none_yet c.args.passes.items k pass (omega arith) e); no_log = λ k pass e. absurd (none_yet c.args.passes.items k pass (omega arith) e); rooms_are = λ k pass e. absurd (none_yet c.args.passes.items k pass (omega arith) e) };
      left = λ p le. refl;
      long = refl;
      seat_table = r.seat.table;
      seat_slots = ap (λ m. m.1) me;
      seat_parts = ap (λ m. m.0.parts) me ∙ first_parts a ∙ ap (parts_from a 0) (r.seat.workers_are ∙ (let z : c.args.workers ≡ c.args.workers - 0 = omega arith in z));
    }

pub split-own-requires-clause-some : goal.split-own-requires-clause-some
split-own-requires-clause-some c =
    let a = c.args.words.now.key in
    let k = c.loop-worker.worker in
    let n = c.args.workers in
    let same_n = c.count-n.ensures.value in
    let t = c.loop-worker-test.true in
    (first_part a k, parts_from a (k + 1) (n - (k + 1)), c.loop-worker.invariant.seat_parts ∙ next_part a k n (omega arith))

pub loop-worker-preserved : goal.loop-worker-preserved
loop-worker-preserved c =
    let r = c.requires in
    let a = c.args.words.now.key in
    let k = c.loop-worker.worker in
    let n = c.args.workers in
    let same_n = c.count-n.ensures.value in
    let t = c.loop-worker-test.true in
    let lt : k < n = omega arith in
    let inv = c.loop-worker.invariant in
    let v = c.loop-worker.seat.me.0 in
    let old = c.loop-worker.rooms in
    let new = c.pop.new.self in
    let room = c.in-Some.room in
    let is = c.pop.ensures.items ∙ ap (λ o. new.items ++ option_to_list o) c.in-Some.is in
    let len = c.pop.ensures.len in
    let ok = new.ok in
    let olds = inv.rooms_many in
    let one = ap (λ o. length (option_to_list o)) c.in-Some.is in
    let rooms_long : length new.items ≡ n - (k + 1) = omega arith in
    let popped = room_popped a c.args.log_steps n k old.items new.items room r.seat.workers_are inv.rooms is rooms_long lt in
    let parts = inv.seat_parts ∙ next_part a k n lt in
    let left = c.split-own.ensures.seat.view_is in
    let same = c.split-own.ensures.seat.same in
    let right = c.split-own.ensures.right in
    let made = c.make_pass-pass.ensures in
    let pass = c.make_pass-pass.result in
    let e = c.push_reserved.ensures in
    let pok = c.loop-worker.passes.ok in
    let plen = inv.passes_many in
    let plong : length c.loop-worker.passes.items ≡ k = omega arith in
    let to_n = r.seat.workers_are in
    let whole = pass_dealt a c.args.words.now.table_id c.args.log_steps k pass room c.args.processors.now c.loop-worker.processors (omega arith) (omega arith) r.processors inv.long
    (subst (λ m. (p : ℕ) → k ≤ p % m → slice_get c.loop-worker.processors p ≡ slice_get c.args.processors.now p) (sym to_n) inv.left)
    (subst (λ m. AreTaken m k c.loop-worker.processors pass.processors.items) (sym to_n) made.taken) popped.0
    (ap (λ s. s.table_id) made.seat ∙ c.split-own.ensures.table ∙ inv.seat_table)
    (ap (λ s. s.me.1) made.seat ∙ ap (λ m. m.1) right)
    (ap (λ s. s.me.0.parts) made.seat ∙ ap (λ m. m.0.parts) right ∙ first_next v (first_part a k) (parts_from a (k + 1) (n - (k + 1))) parts)
    (made.made.workers_are ∙ sym to_n) made.made.statuses_are (made.made.log_is, made.made.room_is) in
    record {
      rooms_many = omega arith;
      rooms = popped.1;
      passes_many = omega arith;
      passes_room = (let cap = e.capacity in let old_cap = inv.passes_room in omega arith);
      passes = subst (λ l. (i : ℕ) (p : Pass) → slice_get l i ≡ Some p → IsPass a c.args.words.now.table_id i p) (sym e.items)
          (passes_more a c.args.words.now.table_id c.loop-worker.passes.items pass k plong inv.passes whole.0);
      parts = subst (HaveFirstParts a) (sym e.items)
          (parts_more a c.loop-worker.passes.items pass k plong inv.parts
          (ap (λ s. s.me.0.parts) made.seat ∙ ap (λ m. m.0.parts) right ∙ first_next v (first_part a k) (parts_from a (k + 1) (n - (k + 1))) parts));
      dealt = subst (AreDealt n c.args.log_steps c.args.processors.now) (sym e.items)
          (dealt_more n c.args.log_steps c.args.processors.now c.loop-worker.passes.items pass k plong inv.dealt (subst (λ m. AreTaken m k c.args.processors.now pass.processors.items) to_n whole.1) whole.2);
      left = left_more n k c.args.processors.now c.loop-worker.processors c.make_pass-pass.new.processors inv.left made.left;
      long = made.left.long ∙ inv.long;
      seat_table = same.table ∙ inv.seat_table;
      seat_slots = same.slots ∙ inv.seat_slots;
      seat_parts = ap (λ (w : View). w.parts) left ∙ rest_next v (first_part a k) (parts_from a (k + 1) (n - (k + 1))) parts;
    }

pub make_pass-pass-requires-clause-room : goal.make_pass-pass-requires-clause-room
make_pass-pass-requires-clause-room c =
    let r = c.requires in
    let a = c.args.words.now.key in
    let k = c.loop-worker.worker in
    let n = c.args.workers in
    let same_n = c.count-n.ensures.value in
    let t = c.loop-worker-test.true in
    let inv = c.loop-worker.invariant in
    let new = c.pop.new.self in
    let room = c.in-Some.room in
    let is = c.pop.ensures.items ∙ ap (λ o. new.items ++ option_to_list o) c.in-Some.is in
    let len = c.pop.ensures.len in
    let ok = new.ok in
    let olds = inv.rooms_many in
    let one = ap (λ o. length (option_to_list o)) c.in-Some.is in
    let rooms_long : length new.items ≡ n - (k + 1) = omega arith in
    let popped = (room_popped a c.args.log_steps n k c.loop-worker.rooms.items new.items room r.seat.workers_are inv.rooms is rooms_long (omega arith)).0 in
    record {
      worker = omega arith;
      no_processors = popped.no_processors;
      processors_room = subst (λ (q : ℕ × ℕ). share q.0 q.1 k ≤ vec_capacity room.processors) (λ i. (sym (inv.long ∙ r.processors.many) i, r.seat.workers_are i)) popped.processors_room;
    }

pub make_pass-last-requires-clause-room : goal.make_pass-last-requires-clause-room
make_pass-last-requires-clause-room c =
    let r = c.requires in
    let a = c.args.words.now.key in
    let n = c.args.workers in
    let same_n = c.count-n.ensures.value in
    let k : ℕ = n - 1 in
    let inv = c.loop-worker.invariant in
    let end = c.loop-worker.auto in
    let out = c.loop-worker-test.false in
    let some = c.count-n.ensures.some in
    let at : c.loop-worker.worker ≡ k = omega arith in
    let lt : k < n = omega arith in
    let old = c.loop-worker.rooms in
    let new = c.pop-2.new.self in
    let room = c.in-Some-pop.room in
    let is = c.pop-2.ensures.items ∙ ap (λ o. new.items ++ option_to_list o) c.in-Some-pop.is in
    let len = c.pop-2.ensures.len in
    let ok = new.ok in
    let olds = inv.rooms_many in
    let one = ap (λ o. length (option_to_list o)) c.in-Some-pop.is in
    let rooms_long : length new.items ≡ n - (k + 1) = omega arith in
    let popped = room_popped a c.args.log_steps n k old.items new.items room r.seat.workers_are inv.rooms is rooms_long lt in
    subst (λ z. IsEmptyRoom c.args.workers (z - 1) (length c.loop-worker.processors) room) (sym same_n)
    (record {
      worker = lt;
      no_processors = popped.0.no_processors;
      processors_room = subst (λ (q : ℕ × ℕ). share q.0 q.1 k ≤ vec_capacity room.processors) (λ i. (sym (inv.long ∙ r.processors.many) i, r.seat.workers_are i)) popped.0.processors_room;
    })

pub returns : goal.returns
returns c =
    let r = c.requires in
    let a = c.args.words.now.key in
    let n = c.args.workers in
    let same_n = c.count-n.ensures.value in
    let k : ℕ = n - 1 in
    let inv = c.loop-worker.invariant in
    let end = c.loop-worker.auto in
    let out = c.loop-worker-test.false in
    let some = c.count-n.ensures.some in
    let at : c.loop-worker.worker ≡ k = omega arith in
    let lt : k < n = omega arith in
    let old = c.loop-worker.rooms in
    let new = c.pop-2.new.self in
    let room = c.in-Some-pop.room in
    let is = c.pop-2.ensures.items ∙ ap (λ o. new.items ++ option_to_list o) c.in-Some-pop.is in
    let len = c.pop-2.ensures.len in
    let ok = new.ok in
    let olds = inv.rooms_many in
    let one = ap (λ o. length (option_to_list o)) c.in-Some-pop.is in
    let rooms_long : length new.items ≡ n - (k + 1) = omega arith in
    let popped = room_popped a c.args.log_steps n k old.items new.items room r.seat.workers_are inv.rooms is rooms_long lt in
    let parts = inv.seat_parts ∙ ap (λ z. parts_from a z (n - z)) at ∙ last_part a k n (omega arith) in
    let made = c.make_pass-last.ensures in
    let pass = c.make_pass-last.result in
    let to_n = r.seat.workers_are in
    let taken = subst (λ z. AreTaken c.args.workers (z - 1) c.loop-worker.processors pass.processors.items) same_n made.taken in
    let log = subst (λ z. (pass.log ≡ record { worker = z - 1; steps = room.steps }) × (pass.room ≡ c.args.log_steps)) same_n (made.made.log_is, made.made.room_is) in
    let whole = pass_dealt a c.args.words.now.table_id c.args.log_steps k pass room c.args.processors.now c.loop-worker.processors (omega arith) (omega arith) r.processors inv.long
    (subst (λ (q : ℕ × ℕ). (p : ℕ) → q.0 ≤ p % q.1 → slice_get c.loop-worker.processors p ≡ slice_get c.args.processors.now p) (λ i. (at i, sym to_n i)) inv.left)
    (subst (λ m. AreTaken m k c.loop-worker.processors pass.processors.items) (sym to_n) taken) popped.0
    (ap (λ s. s.table_id) made.seat ∙ inv.seat_table) (ap (λ s. s.me.1) made.seat ∙ inv.seat_slots) (ap (λ s. s.me.0.parts) made.seat ∙ parts)
    (made.made.workers_are ∙ sym to_n) made.made.statuses_are log in
    let e = c.push_reserved-2.ensures in
    let pok = c.loop-worker.passes.ok in
    let plen = inv.passes_many in
    let plong : length c.loop-worker.passes.items ≡ k = omega arith in
    record {
      dealt = record {
        passes_are = record {
          many = ap length e.items ∙ length_push c.loop-worker.passes.items pass ∙ (let z : length c.loop-worker.passes.items + 1 ≡ a.workers = omega arith in z);
          each = subst (λ l. (i : ℕ) (p : Pass) → slice_get l i ≡ Some p → IsPass a c.args.words.now.table_id i p) (sym e.items)
              (passes_more a c.args.words.now.table_id c.loop-worker.passes.items pass k plong inv.passes whole.0);
        };
        parts = subst (HaveFirstParts a) (sym e.items)
            (parts_more a c.loop-worker.passes.items pass k plong inv.parts (ap (λ s. s.me.0.parts) made.seat ∙ parts));
        dealt = subst (AreDealt n c.args.log_steps c.args.processors.now) (sym e.items)
            (dealt_more n c.args.log_steps c.args.processors.now c.loop-worker.passes.items pass k plong inv.dealt (subst (λ m. AreTaken m k c.args.processors.now pass.processors.items) to_n whole.1) whole.2);
        long = made.left.long ∙ inv.long;
      };
    }
