use Rattle.std.proofs.Common.{◌≡◌, ◌≢◌, ℕ, ◌+◌, ◌*◌, ◌%◌, ◌++◌, ◌∷◌, [], Some, length, set, sym, ap, ◌∙◌, arith, length-set}
use Rattle.std.specs.Prelude.{slice_get}
use mathlib.Core.Logic.{dite}
use native.Mathlib.Decide.{ℕ_discrete}
use Rattle.std.proofs.lemmas.List.{length_push}
use Rattle.std.proofs.lemmas.Nat.{same_from_place}
use Rattle.std.proofs.lemmas.Option.{slice_get_within, same_Some}
use Rattle.raw_fabric_rule.proofs.Opens.{share_in}
use Rattle.raw_fabric_rule.proofs.Views.{worker_of}
use Rattle.raw_fabric.proofs.Places.{set_here, set_there, push_left, push_last}
use Rattle.raw_fabric.proofs.gather.put_back.Goals as goal

pub loop-processor-preserved : goal.loop-processor-preserved
loop-processor-preserved c =
    let r = c.requires in
    let inv = c.loop-processor.invariant in
    let n = c.args.workers in
    let k = c.args.worker in
    let new = c.pop.new.self in
    let x = c.in-Some.processor in
    let all = c.loop-processor.processors in
    let dest = c.replace.new.dest in
    let is_dest : dest ≡ x = c.replace.ensures.after in
    let i = c.len.result in
    let items = c.in-Some.ensures.items in
    let ok = new.ok in
    let old_ok = c.loop-processor.own.ok in
    let longer = ap length items ∙ length_push new.items x in
    let at : i ≡ length new.items = omega arith in
    let few = inv.few in
    let many = r.many in
    let size = inv.long in
    let same_n = c.count-n.ensures.value in
    let m = c.count-n.result in
    let times : i * m ≡ i * n = ap (λ z. i * z) same_n in
    let p : ℕ = k + i * m in
    let lt = share_in (length c.args.processors.now) n k i (omega arith) r.worker (omega arith) in
    let at_p : k + i * n ≡ p = omega arith in
    let rest : p % n ≡ k = ap (λ z. z % n) (sym at_p) ∙ worker_of k i n r.worker in
    let last : slice_get c.args.own.items i ≡ Some x = inv.front i x (ap (λ l. slice_get l i) items ∙ ap (slice_get (new.items ++ x ∷ [])) at ∙ push_last new.items x) in
    record {
      few = omega arith;
      front = λ j y e. inv.front j y (ap (λ l. slice_get l j) items ∙ push_left new.items x j (slice_get_within new.items j y e) ∙ e);
      placed = λ j y le e.
          dite (ℕ_discrete j i)
          (λ (same : j ≡ i).
          let is : x ≡ y = same_Some x y (sym last ∙ ap (slice_get c.args.own.items) (sym same) ∙ e) in
          ap (λ z. slice_get (set all p dest) (k + z * n)) same ∙ ap (slice_get (set all p dest)) at_p ∙ set_here all p dest (omega arith) ∙ ap Some (is_dest ∙ is))
          (λ (other : j ≢ i).
          set_there all p (k + j * n) dest (λ same. other (same_from_place j k i k n r.worker r.worker (let z : j * n + k ≡ i * n + k = omega arith in z)).0)
          ∙ inv.placed j y (omega arith) e);
      long = length-set all p dest ∙ inv.long;
      others = λ q other. set_there all p q dest (λ same. other (ap (λ z. z % n) same ∙ rest)) ∙ inv.others q other;
    }
