use Rattle.std.proofs.Common.{◌≡◌, ℕ, ◌-◌, ◌<◌, ◌==◌, suc, length, refl, sym, ap, ◌∙◌, true, false, arith}
use Rattle.std.proofs.lemmas.Option.{same_Some}
use Rattle.raw_whole.proofs.Lists.{stands}
use Rattle.std.proofs.lemmas.Bool.{eq-eqb, ne_eqb}
use Rattle.raw_trace.proofs.Pieces.{grown, begun, none_yet}
use Rattle.raw_whole.proofs.sends.add.Goals.{else-n-gt0-via-then-n-gt0+else-index-distance, else-n-gt0-via-else-n-gt0}
use Rattle.raw_whole.proofs.sends.add.Goals as goal

pub returns-then-index-distance : goal.returns-then-index-distance
returns-then-index-distance c =
    let n = c.len-n.result - 1 in
    let items = c.args.pieces.now.items in
    let many : length items ≡ suc n = omega (arith, c.len-n.ensures, c.if-n-gt0.true) in
    let below : n < length items = omega (arith, many) in
    let here = stands items n c.index_mut.result.now below c.index_mut.ensures.value in
    let there = stands items n c.index.result.now below c.index.ensures in
    let alike : c.index.result.now ≡ c.index_mut.result.now = same_Some c.index.result.now c.index_mut.result.now (sym there ∙ here) in
    let is : (c.index_mut.result.now.0 == c.args.distance) ≡ true = ap (λ (p : ℕ × ℕ). p.0 == c.args.distance) (sym alike) ∙ eq-eqb c.index.result.now.0 c.args.distance c.if-index-distance.true in
    sym (grown (λ a b. a == b) items n c.index_mut.result.now c.args.distance many here is)

pub returns-in_ok-push : goal.returns-in_ok-push
returns-in_ok-push c =
    let items = c.args.pieces.now.items in
    elim c.else-n-gt0.branch [
      | else-n-gt0-via-then-n-gt0+else-index-distance w ↦
          let n = c.len-n.result - 1 in
          let many : length items ≡ suc n = omega (arith, c.len-n.ensures, w.if-n-gt0.true) in
          let here = stands items n w.index.result.now (omega (arith, many)) w.index.ensures in
          c.in_ok-push.ensures.items ∙ sym (begun (λ a b. a == b) items n w.index.result.now c.args.distance many here (ne_eqb w.index.result.now.0 c.args.distance w.if-index-distance.false))
      | else-n-gt0-via-else-n-gt0 w ↦
          let none : length items ≡ 0 = omega (arith, c.len-n.ensures, w.if-n-gt0.false) in
          c.in_ok-push.ensures.items ∙ sym (none_yet (λ a b. a == b) items c.args.distance none)
    ]
