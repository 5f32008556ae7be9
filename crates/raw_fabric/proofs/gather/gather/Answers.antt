use Rattle.std.proofs.Common.{◌≡◌, ◌+◌, length, sym, ap, ◌∙◌, subst, arith}
use Rattle.raw_fabric.specs.Closed.{AreGathered}
use Rattle.std.proofs.lemmas.List.{length_push}
use Rattle.raw_fabric.proofs.Gathered.{Within, KeptFrom, popped, own_worker, own_share, within_self, within_both, gathered_none, gathered_step, kept_none, kept_step}
use Rattle.raw_fabric.proofs.gather.gather.Goals as goal

pub take_apart-keeper-requires-clause-worker : goal.take_apart-keeper-requires-clause-worker
take_apart-keeper-requires-clause-worker c =
    let r = c.requires in
    let a = c.args.words.now.key in
    let id = c.args.words.now.table_id in
    let new = c.pop.new.self in
    let p = popped a id c.args.passes.items c.args.passes.items new.items c.in-Some.last r.stands.passes_are.each (λ k q e. e) c.in-Some.ensures.items in
    let w = own_worker a id (length new.items) c.in-Some.last p.is_pass in
    let few = p.is_pass.workers_are in
    let in' = p.is_pass.worker_in in
    let is = p.is_pass.worker_is in
    let logs = r.stands.logs_many in
    (w, omega arith)

pub take_apart-keeper-requires-clause-many : goal.take_apart-keeper-requires-clause-many
take_apart-keeper-requires-clause-many c =
    let r = c.requires in
    let a = c.args.words.now.key in
    let id = c.args.words.now.table_id in
    let new = c.pop.new.self in
    let p = popped a id c.args.passes.items c.args.passes.items new.items c.in-Some.last r.stands.passes_are.each (λ k q e. e) c.in-Some.ensures.items in
    own_share a id (length new.items) c.in-Some.last p.is_pass c.args.processors.now r.stands.processors_many

pub loop-pass-init : goal.loop-pass-init
loop-pass-init c =
    let r = c.requires in
    let a = c.args.words.now.key in
    let id = c.args.words.now.table_id in
    let new = c.pop.new.self in
    let pass = c.in-Some.last in
    let k = length new.items in
    let v = pass.seat.me.0 in
    let e = c.take_apart-keeper.ensures in
    let p = popped a id c.args.passes.items c.args.passes.items new.items pass r.stands.passes_are.each (λ i q h. h) c.in-Some.ensures.items in
    let ok = new.ok in
    let all = ap length c.in-Some.ensures.items ∙ length_push new.items pass in
    let many = r.stands.passes_are.many in
    let one : k + 1 ≡ a.workers = omega arith in
    let at : new.len ≡ k = omega arith in
    let none = gathered_none a v c.args.processors.now c.args.logs.now r.stands.some r.stands.processors_many r.stands.logs_many in
    let g = gathered_step a id k pass p.is_pass r.stands.some v v c.args.processors.now c.take_apart-keeper.new.processors c.args.logs.now c.take_apart-keeper.new.logs (within_self v) (within_self v)
    (subst (λ z. AreGathered a z v c.args.processors.now c.args.logs.now) (sym one) none) e.processors e.logs in
    let kept = kept_step a id k pass p.is_pass c.args.passes.items c.args.processors.now c.take_apart-keeper.new.processors c.args.logs.now c.take_apart-keeper.new.logs p.at r.stands.logs_many (omega arith)
    (kept_none a.workers (k + 1) c.args.passes.items c.args.processors.now c.args.logs.now (omega arith)) e.processors e.logs in
    record {
      few = omega arith;
      passes = p.front;
      gathered = subst (λ z. AreGathered a z c.take_apart-keeper.result.me.0 c.take_apart-keeper.new.processors c.take_apart-keeper.new.logs) (sym at)
          (subst (λ s. AreGathered a k s.me.0 c.take_apart-keeper.new.processors c.take_apart-keeper.new.logs) (sym e.seat) g);
      kept = subst (λ z. KeptFrom a.workers z c.args.passes.items c.take_apart-keeper.new.processors c.take_apart-keeper.new.logs) (sym at) kept;
      seat_table = ap (λ s. s.table_id) e.seat ∙ p.is_pass.table_is;
    }

pub take_apart-own-requires-clause-worker : goal.take_apart-own-requires-clause-worker
take_apart-own-requires-clause-worker c =
    let r = c.requires in
    let a = c.args.words.now.key in
    let id = c.args.words.now.table_id in
    let inv = c.loop-pass.invariant in
    let new = c.pop-in-loop-pass.new.self in
    let pass = c.in-Some-pop.pass in
    let p = popped a id c.args.passes.items c.loop-pass.passes.items new.items pass r.stands.passes_are.each inv.passes c.in-Some-pop.ensures.items in
    let w = own_worker a id (length new.items) pass p.is_pass in
    let few = p.is_pass.workers_are in
    let in' = p.is_pass.worker_in in
    let is = p.is_pass.worker_is in
    let logs = inv.gathered.logs_all in
    (w, omega arith)

pub take_apart-own-requires-clause-many : goal.take_apart-own-requires-clause-many
take_apart-own-requires-clause-many c =
    let r = c.requires in
    let a = c.args.words.now.key in
    let id = c.args.words.now.table_id in
    let inv = c.loop-pass.invariant in
    let new = c.pop-in-loop-pass.new.self in
    let pass = c.in-Some-pop.pass in
    let p = popped a id c.args.passes.items c.loop-pass.passes.items new.items pass r.stands.passes_are.each inv.passes c.in-Some-pop.ensures.items in
    own_share a id (length new.items) pass p.is_pass c.loop-pass.processors inv.gathered.processors_all

pub join-requires-clause-other : goal.join-requires-clause-other
join-requires-clause-other c =
    let r = c.requires in
    let a = c.args.words.now.key in
    let id = c.args.words.now.table_id in
    let new = c.pop-in-loop-pass.new.self in
    let p = popped a id c.args.passes.items c.loop-pass.passes.items new.items c.in-Some-pop.pass r.stands.passes_are.each c.loop-pass.invariant.passes c.in-Some-pop.ensures.items in
    ap (λ s. s.table_id) c.take_apart-own.ensures.seat ∙ p.is_pass.table_is

pub join-requires-clause-no_slots : goal.join-requires-clause-no_slots
join-requires-clause-no_slots c =
    let r = c.requires in
    let a = c.args.words.now.key in
    let id = c.args.words.now.table_id in
    let new = c.pop-in-loop-pass.new.self in
    let p = popped a id c.args.passes.items c.loop-pass.passes.items new.items c.in-Some-pop.pass r.stands.passes_are.each c.loop-pass.invariant.passes c.in-Some-pop.ensures.items in
    ap (λ s. s.me.1) c.take_apart-own.ensures.seat ∙ p.is_pass.no_slots

pub loop-pass-preserved : goal.loop-pass-preserved
loop-pass-preserved c =
    let r = c.requires in
    let a = c.args.words.now.key in
    let id = c.args.words.now.table_id in
    let inv = c.loop-pass.invariant in
    let old = c.loop-pass.passes in
    let new = c.pop-in-loop-pass.new.self in
    let pass = c.in-Some-pop.pass in
    let k = length new.items in
    let e = c.take_apart-own.ensures in
    let j = c.join.ensures in
    let v = c.loop-pass.keeper.me.0 in
    let w = c.join.new.seat.me.0 in
    let p = popped a id c.args.passes.items old.items new.items pass r.stands.passes_are.each inv.passes c.in-Some-pop.ensures.items in
    let ok = new.ok in
    let old_ok = old.ok in
    let all = ap length c.in-Some-pop.ensures.items ∙ length_push new.items pass in
    let few = inv.few in
    let many = r.stands.passes_are.many in
    let one : old.len ≡ k + 1 = omega arith in
    let at : new.len ≡ k = omega arith in
    let both = within_both v c.take_apart-own.result.me.0 w j.seat.view_is in
    let g = gathered_step a id k pass p.is_pass r.stands.some v w c.loop-pass.processors c.take_apart-own.new.processors c.loop-pass.logs c.take_apart-own.new.logs both.0 (subst (λ s. Within s.me.0 w) e.seat both.1)
    (subst (λ z. AreGathered a z v c.loop-pass.processors c.loop-pass.logs) one inv.gathered) e.processors e.logs in
    let kept = kept_step a id k pass p.is_pass c.args.passes.items c.loop-pass.processors c.take_apart-own.new.processors c.loop-pass.logs c.take_apart-own.new.logs p.at inv.gathered.logs_all (omega arith)
    (subst (λ z. KeptFrom a.workers z c.args.passes.items c.loop-pass.processors c.loop-pass.logs) one inv.kept) e.processors e.logs in
    record {
      few = omega arith;
      passes = p.front;
      gathered = subst (λ z. AreGathered a z w c.take_apart-own.new.processors c.take_apart-own.new.logs) (sym at) g;
      kept = subst (λ z. KeptFrom a.workers z c.args.passes.items c.take_apart-own.new.processors c.take_apart-own.new.logs) (sym at) kept;
      seat_table = j.seat.same.table ∙ inv.seat_table;
    }
