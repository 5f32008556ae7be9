use Rattle.std.proofs.Common.{◌≡◌, ℕ, ◌-◌, ◌<◌, ◌==◌, suc, length, refl, sym, ap, ◌∙◌, true, false, arith}
use Rattle.std.proofs.lemmas.Option.{same_Some}
use Rattle.raw_whole.proofs.Lists.{stands}
use Rattle.raw_serial.specs.declared.turn.Turn.{Turn}
use Rattle.raw_trace.specs.Whole.{same_turn}
use Rattle.raw_trace.proofs.Pieces.{grown, begun, none_yet}
use Rattle.raw_whole.proofs.turns.add.Goals.{else-n-gt0-via-then-n-gt0+else-is_same, else-n-gt0-via-else-n-gt0}
use Rattle.raw_whole.proofs.turns.add.Goals as goal

pub returns-then-is_same : goal.returns-then-is_same
returns-then-is_same c =
    let n = c.len-n.result - 1 in
    let items = c.args.pieces.now.items in
    let many : length items ≡ suc n = omega (arith, c.len-n.ensures, c.if-n-gt0.true) in
    let below : n < length items = omega (arith, many) in
    let here = stands items n c.index_mut.result.now below c.index_mut.ensures.value in
    let there = stands items n c.index.result.now below c.index.ensures in
    let alike : c.index.result.now ≡ c.index_mut.result.now = same_Some c.index.result.now c.index_mut.result.now (sym there ∙ here) in
    let is : same_turn c.index_mut.result.now.0 c.args.turn ≡ true = ap (λ (p : Turn × ℕ). same_turn p.0 c.args.turn) (sym alike) ∙ sym c.is_same.ensures ∙ c.if-is_same.true in
    sym (grown same_turn items n c.index_mut.result.now c.args.turn many here is)

pub returns-in_ok-push : goal.returns-in_ok-push
returns-in_ok-push c =
    let items = c.args.pieces.now.items in
    elim c.else-n-gt0.branch [
      | else-n-gt0-via-then-n-gt0+else-is_same w ↦
          let n = c.len-n.result - 1 in
          let many : length items ≡ suc n = omega (arith, c.len-n.ensures, w.if-n-gt0.true) in
          let here = stands items n w.index.result.now (omega (arith, many)) w.index.ensures in
          c.in_ok-push.ensures.items ∙ sym (begun same_turn items n w.index.result.now c.args.turn many here (sym w.is_same.ensures ∙ w.if-is_same.false))
      | else-n-gt0-via-else-n-gt0 w ↦
          let none : length items ≡ 0 = omega (arith, c.len-n.ensures, w.if-n-gt0.false) in
          c.in_ok-push.ensures.items ∙ sym (none_yet same_turn items c.args.turn none)
    ]
