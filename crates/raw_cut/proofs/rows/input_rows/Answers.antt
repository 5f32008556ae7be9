use Rattle.std.proofs.Common.{◌≡◌, ℕ, zero, suc, ◌+◌, ◌-◌, List, [], ◌∷◌, ◌++◌, map, sym, ap, ◌∙◌, arith}
use Rattle.std.proofs.lemmas.List.{map-append, append-nil}
use Rattle.raw_rows.specs.Kernels.{input_rows}
use Rattle.raw_cut.proofs.Inputs.{inputs_then, row_fits, row_next}
use Rattle.raw_cut.proofs.rows.input_rows.Goals as goal

pub numbers_from-requires : goal.numbers_from-requires
numbers_from-requires c = row_fits c.args.first c.loop-r._r c.args.width c.args.many c.loop-r.next c.loop-r.invariant.next c.loop-r-test.true c.requires

pub overflow_add-next : goal.overflow_add-next
overflow_add-next c = omega (arith, row_fits c.args.first c.loop-r._r c.args.width c.args.many c.loop-r.next c.loop-r.invariant.next c.loop-r-test.true c.requires)

pub loop-r-preserved : goal.loop-r-preserved
loop-r-preserved c =
    let r : ℕ = c.loop-r._r in
    let left : ℕ = c.args.many - (r + 1) in
    let next : ℕ = c.loop-r.next in
    let width : ℕ = c.args.width in
    let xs : List (List ℕ) = map (λ row. row.items) c.loop-r.rows.items in
    let more : suc left ≡ c.args.many - r = omega (arith, c.loop-r-test.true) in
    let split : map (λ row. row.items) c.push.new.self.items ≡ xs ++ c.in_ok-numbers_from.field-0.items ∷ [] =
    ap (map (λ row. row.items)) c.in_ok-push.ensures.items ∙ map-append (λ row. row.items) c.loop-r.rows.items (c.in_ok-numbers_from.field-0 ∷ []) in
    record {
      rows = ap (λ (ys : List (List ℕ)). ys ++ input_rows (next + width) width left) split
          ∙ inputs_then xs (input_rows c.args.first width c.args.many) next width left c.in_ok-numbers_from.field-0.items
          (ap (λ (k : ℕ). xs ++ input_rows next width k) more ∙ c.loop-r.invariant.rows) c.in_ok-numbers_from.ensures;
      next = row_next c.args.first r width next c.loop-r.invariant.next;
    }

pub returns : goal.returns
returns c =
    let xs : List (List ℕ) = map (λ row. row.items) c.loop-r.rows.items in
    let none : zero ≡ c.args.many - c.loop-r._r = omega (arith, c.loop-r-test.false) in
    sym (append-nil xs) ∙ ap (λ (k : ℕ). xs ++ input_rows c.loop-r.next c.args.width k) none ∙ c.loop-r.invariant.rows
