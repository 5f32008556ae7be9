use Rattle.std.proofs.Common.{◌≡◌, ℕ, ◌+◌, ◌*◌, ◌<◌, List, length, sym, ap, ◌∙◌, subst, arith}
use Rattle.std.specs.Prelude.{slice_index}
use Rattle.raw_grid.specs.Wires.{wires_of}
use Rattle.raw_grid.proofs.Growth.{wires_few}
use Rattle.raw_model.specs.Program.{ProgramSet}
use Rattle.raw_fabric_rule.specs.ByEnds.{procs, wires}
use Rattle.raw_fabric.specs.Laying.{first_word, value_before}
use Rattle.raw_fabric.proofs.Laid.{words_more, words_kept, firsts_more}
use Rattle.raw_fabric.proofs.lay.lay_words.Goals as goal

pub statuses-preserved : goal.statuses-preserved
statuses-preserved c =
    let m = c.args.machine.now in
    let inv = c.statuses.invariant in
    let e = c.push_reserved.ensures in
    let ok = c.statuses.words.ok in
    let long = inv.long in
    record {
      long = omega arith;
      room = e.capacity ∙ inv.room;
      firsts = subst (λ (l : List ℕ). (i : ℕ) → i < c.statuses.i + 1 → slice_index l i ≡ first_word m.set m.state i) (sym e.items)
          (firsts_more (first_word m.set m.state) c.statuses.words.items c.first_word.result c.statuses.i (omega arith) inv.firsts c.first_word.ensures);
    }

pub values-preserved : goal.values-preserved
values-preserved c =
    let m = c.args.machine.now in
    let inv = c.values.invariant in
    let e = c.push_reserved-in-values.ensures in
    let ok = c.values.words.ok in
    let long = inv.long in
    record {
      long = omega arith;
      room = e.capacity ∙ inv.room;
      firsts = subst (λ (l : List ℕ). (i : ℕ) → i < 16 * c.procs-statuses.result → slice_index l i ≡ first_word m.set m.state i) (sym e.items)
          (words_kept (first_word m.set m.state) c.values.words.items c.value_of.result _ (omega arith) inv.firsts);
      stored = subst (λ (l : List ℕ). (i : ℕ) → i < c.values.i + 1 → slice_index l (16 * c.procs-statuses.result + i) ≡ value_before m.state i) (sym e.items)
          (words_more (value_before m.state) c.values.words.items c.value_of.result _ c.values.i (omega arith) inv.stored c.value_of.ensures);
    }

pub overflow_mul-values : goal.overflow_mul-values
overflow_mul-values c =
    let few = wires_few c.set.inside.topo c.wires-values.ensures.valid in
    let value = c.wires-values.ensures.value in
    omega arith

pub first_word-requires : goal.first_word-requires
unfolding procs
first_word-requires c =
    let t = c.statuses-test.true in
    let value = c.procs-statuses.ensures.value in
    omega arith

pub value_of-requires : goal.value_of-requires
unfolding wires
value_of-requires c =
    let t = c.values-test.true in
    let value = c.wires-values.ensures.value ∙ ap (λ (s : ProgramSet). length (wires_of s.topo)) (c.set.view_is ∙ c.set-set.ensures.value) in
    omega arith

pub returns : goal.returns
unfolding procs wires
returns c =
    let m = c.args.machine.now in
    let inv = c.values.invariant in
    let over = c.values-test.false in
    let end = c.values.auto.i-end in
    let ok = c.values.words.ok in
    let long = inv.long in
    let value = c.wires-values.ensures.value ∙ ap (λ (s : ProgramSet). length (wires_of s.topo)) (c.set.view_is ∙ c.set-set.ensures.value) in
    let all = c.procs-statuses.ensures.value in
    record {
      long = omega arith;
      firsts = λ i lt. inv.firsts i (omega arith);
      values = λ i lt. ap (λ n. slice_index c.values.words.items (16 * n + i)) (sym all) ∙ inv.stored i (omega arith);
    }
