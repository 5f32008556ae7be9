use Rattle.std.proofs.Common.{◌≡◌, ℕ, ◌+◌, ◌*◌, ◌%◌, ◌<◌, Some, List, length, le_refl, sym, ap, ◌∙◌, subst, arith, length-set}
use Rattle.std.specs.Prelude.{slice_get}
use Rattle.std.proofs.lemmas.Nat.{same_from_place}
use Rattle.std.proofs.lemmas.Option.{slice_get-get_or}
use Rattle.raw_processor.specs.declared.processor.Processor.{Processor}
use Rattle.raw_fabric_rule.proofs.Opens.{share_in}
use Rattle.raw_fabric_rule.proofs.Views.{worker_of}
use Rattle.raw_fabric.specs.Dealing.{AreTaken, AreLeft}
use Rattle.raw_fabric.proofs.Pushed.{at_push}
use Rattle.raw_fabric.proofs.Places.{set_there}
use Rattle.raw_fabric.proofs.deal.take_processors.Goals as goal

pub loop-j-preserved : goal.loop-j-preserved
loop-j-preserved c =
    let r = c.requires in
    let inv = c.loop-j.invariant in
    let e = c.push_reserved.ensures in
    let ok = c.loop-j.own.ok in
    let n = c.count-n.result in
    let same = c.count-n.ensures.value in
    let worker : c.args.worker < n = (let lt = r.worker in omega arith) in
    let k = c.args.worker in
    let j = c.loop-j.j in
    let all = c.loop-j.processors in
    let x = c.replace-processor.result in
    let many = inv.many in
    let p : ℕ = k + j * n in
    let lt = share_in (length c.args.processors.now) n k j (omega arith) worker c.loop-j-test.true in
    let size = inv.long in
    let here : slice_get all p ≡ Some x = slice_get-get_or all p c.index-processors-p.result (omega arith) ∙ ap Some (sym c.replace-processor.ensures.value) in
    let own : slice_get c.args.processors.now p ≡ Some x = sym (inv.later j (le_refl j)) ∙ here in
    let long : length c.loop-j.own.items ≡ j = omega arith in
    record {
      many = omega arith;
      room = (let cap = e.capacity in let old = inv.room in omega arith);
      taken = subst (λ (l : List Processor). (i : ℕ) (y : Processor) → slice_get l i ≡ Some y → slice_get c.args.processors.now (k + i * n) ≡ Some y) (sym e.items)
          (at_push (λ i y. slice_get c.args.processors.now (k + i * n) ≡ Some y) c.loop-j.own.items x inv.taken (subst (λ i. slice_get c.args.processors.now (k + i * n) ≡ Some x) (sym long) own));
      long = length-set all p c.replace-processor.new.dest ∙ inv.long;
      others = λ q other. set_there all p q c.replace-processor.new.dest (λ same. other (ap (λ z. z % n) same ∙ worker_of k j n worker)) ∙ inv.others q other;
      later = λ i le. set_there all p (k + i * n) c.replace-processor.new.dest
          (λ same. let two = (same_from_place i k j k n worker worker (let z : i * n + k ≡ j * n + k = omega arith in z)).0 in absurd (omega arith)) ∙ inv.later i (omega arith);
    }

pub returns-clause-taken : goal.returns-clause-taken
returns-clause-taken c =
    let inv = c.loop-j.invariant in
    let test = c.loop-j-test.false in
    let auto = c.loop-j.auto in
    let ok = c.loop-j.own.ok in
    let many = inv.many in
    subst (λ n. AreTaken n c.args.worker c.args.processors.now c.loop-j.own.items) c.count-n.ensures.value (record { many = omega arith; each = inv.taken })

pub returns-clause-left : goal.returns-clause-left
returns-clause-left c =
    let inv = c.loop-j.invariant in
    subst (λ n. AreLeft n c.args.worker c.args.processors.now c.loop-j.processors) c.count-n.ensures.value (record { long = inv.long; others = inv.others })
