use Rattle.std.proofs.Common.{◌≡◌, ℕ, ◌+◌, ◌*◌, ◌<◌, length, sym, ◌∙◌, subst, arith}
use Rattle.std.specs.Prelude.{slice_index}
use Rattle.raw_fabric_rule.specs.ByEnds.{procs}
use Rattle.raw_fabric_rule.specs.Opening.{share}
use Rattle.raw_fabric_rule.proofs.Opens.{share_in}
use Rattle.raw_fabric.proofs.Pushed.{at_push}
use Rattle.raw_fabric.specs.Laying.{status_before}
use Rattle.raw_fabric.specs.Opened.{about_before}
use Rattle.raw_fabric.specs.Rooms.{HaveStatuses}
use Rattle.raw_fabric.proofs.Laid.{status_in}
use Rattle.raw_fabric.proofs.rooms.statuses_of.Goals as goal

-- the place of the status word is among the words
pub bounds-words-p : goal.bounds-words-p
unfolding procs
bounds-words-p c =
    let m = c.args.machine.now in
    let long = c.requires.words.long in
    let n = c.count-n.result in
    let same = c.count-n.ensures.value in
    let worker : c.args.worker < n = (let lt = c.requires.worker in omega arith) in
    let t = subst (λ all. c.loop-j.j < share all n c.args.worker) c.procs.ensures.value c.loop-j-test.true in
    let lt = share_in (procs m.set) n c.args.worker c.loop-j.j (omega arith) worker t in
    omega arith

pub loop-j-preserved : goal.loop-j-preserved
unfolding procs
loop-j-preserved c =
    let m = c.args.machine.now in
    let a = about_before m c.args.workers in
    let inv = c.loop-j.invariant in
    let e = c.push_reserved.ensures in
    let ok = c.loop-j.statuses.ok in
    let many = inv.many in
    let n = c.count-n.result in
    let same = c.count-n.ensures.value in
    let k = c.args.worker in
    let j = c.loop-j.j in
    let worker : k < n = (let lt = c.requires.worker in omega arith) in
    let t = subst (λ all. j < share all n k) c.procs.ensures.value c.loop-j-test.true in
    let lt = share_in (procs m.set) n k j (omega arith) worker t in
    let long : length c.loop-j.statuses.items ≡ j = omega arith in
    record {
      many = omega arith;
      room = (let cap = e.capacity in let old = inv.room in omega arith);
      statuses = subst (HaveStatuses a k) (sym e.items)
          (at_push (λ j word. word ≡ status_before m.set m.state (k + j * c.args.workers)) c.loop-j.statuses.items _ inv.statuses
          (subst (λ (q : ℕ × ℕ). slice_index c.args.words.now (16 * (k + j * n)) ≡ status_before m.set m.state (k + q.0 * q.1)) (λ i. (sym long i, same i))
          (status_in m.set m.state c.args.words.now (k + j * n) c.requires.words lt)));
    }

pub returns-clause-many : goal.returns-clause-many
unfolding procs
returns-clause-many c =
    let inv = c.loop-j.invariant in
    let many = inv.many in
    let end = c.loop-j-test.false in
    let auto = c.loop-j.auto in
    let n = c.count-n.result in
    let k = c.args.worker in
    (let z : c.loop-j.statuses.len ≡ share c.procs.result n k = omega arith in z) ∙ (λ i. share (c.procs.ensures.value i) (c.count-n.ensures.value i) k)
