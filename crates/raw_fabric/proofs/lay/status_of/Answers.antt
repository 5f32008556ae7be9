use Rattle.std.proofs.Common.{◌≡◌, ◌+◌, ◌-◌, ◌*◌, ◌%◌, refl, ap, ◌∙◌, arith}
use Rattle.raw_fabric_rule.specs.Opening.{sent_before, ends_from}
use Rattle.raw_fabric_rule.specs.Word.{pack}
use Rattle.raw_fabric.specs.Laying.{status_before}
use Rattle.raw_fabric.proofs.Laid.{pack_small, pack_down}
use Rattle.raw_fabric.proofs.lay.status_of.Goals as goal

pub overflow_mul-word : goal.overflow_mul-word
overflow_mul-word c =
    let m = c.args.machine.now in
    let small = pack_small (sent_before m.set m.state c.args.p) c.ends.end c.ends.word c.ends-test.true c.ends.invariant.packed in
    omega arith

pub overflow_add-word : goal.overflow_add-word
overflow_add-word c =
    let m = c.args.machine.now in
    let small = pack_small (sent_before m.set m.state c.args.p) c.ends.end c.ends.word c.ends-test.true c.ends.invariant.packed in
    omega arith

pub ends-preserved : goal.ends-preserved
ends-preserved c =
    let m = c.args.machine.now in
    let f = sent_before m.set m.state c.args.p in
    let e = c.ends.end in
    let t = c.ends-test.true in
    let few = c.ends.invariant.few in
    record {
      few = omega arith;
      packed = ap (λ k. k % 8 + 8 * c.ends.word) c.sent_at.ensures ∙ pack_down f e (e - 1) c.ends.word few (omega arith) c.ends.invariant.packed;
    }

pub returns : goal.returns
unfolding status_before
returns c =
    let m = c.args.machine.now in
    let none : c.ends.end ≡ 0 = omega arith in
    c.ends.invariant.packed ∙ ap (λ k. pack (ends_from (sent_before m.set m.state c.args.p) k (20 - k))) none

pub ends-init : goal.ends-init
unfolding ends_from
ends-init c = record { few = omega arith; packed = refl }
