use Rattle.std.proofs.Common.{◌≡◌, ℕ, ◌%◌, ◌<◌, List, Some, length, get_or, set, sym, ap, ◌∙◌, subst, arith, mod-lt, length-set}
use mathlib.Core.Logic.{dite}
use native.Mathlib.Decide.{ℕ_discrete}
use Rattle.std.proofs.lemmas.List.{get_or-set_same, get_or-set_other}
use Rattle.std.proofs.lemmas.Option.{slice_get-get_or, slice_get_within, get_or_from_slice_get}
use Rattle.atomic_table.specs.Seated.{TableId}
use Rattle.raw_fabric_rule.specs.Views.{About}
use Rattle.raw_fabric.specs.declared.pass.Pass.{Pass}
use Rattle.raw_fabric.specs.Opened.{about_of, id_of, IsPass, ArePasses}
use Rattle.raw_tests.proofs.fabric.turn.Goals as goal

-- the pass of processor p is among the passes
inside : (about : About) (id : TableId) (passes : List Pass) (p n : ℕ) → 0 < about.workers → n ≡ about.workers → ArePasses about id passes → p % n < length passes
inside about id passes p n some same are =
    let many = are.many in
    let lt : p % n < n = mod-lt p (omega arith) in
    omega arith

-- and it is the pass of its worker
pass_at : (about : About) (id : TableId) (passes : List Pass) (k : ℕ) (d : Pass) → ArePasses about id passes → k < length passes → IsPass about id k (get_or passes k d)
pass_at about id passes k d are lt = are.each k (get_or passes k d) (slice_get-get_or passes k d lt)

-- passes of which one was exchanged
passes_set : (about : About) (id : TableId) (passes : List Pass) (k : ℕ) (new : Pass) → k < length passes → ArePasses about id passes → IsPass about id k new → ArePasses about id (set passes k new)
passes_set about id passes k new lt are is = record {
  many = length-set passes k new ∙ are.many;
  each = λ j pass e.
      let got : get_or (set passes k new) j pass ≡ pass = get_or_from_slice_get (set passes k new) j pass pass e in
      let within : j < length (set passes k new) = slice_get_within (set passes k new) j pass e in
      let below : j < length passes = omega (arith, within, length-set passes k new) in
      dite (ℕ_discrete j k)
      (λ same.
      let here : get_or (set passes k new) j pass ≡ new = ap (λ i. get_or (set passes k new) i pass) same ∙ get_or-set_same passes k new pass lt in
      subst (λ x. IsPass about id j x) (sym here ∙ got) (subst (λ i. IsPass about id i new) (sym same) is))
      (λ other. are.each j pass (slice_get-get_or passes j pass below ∙ ap Some (sym (get_or-set_other passes k j new pass other) ∙ got)));
}

pub try_fire-requires : goal.try_fire-requires
try_fire-requires c =
    let a = about_of c.args.fabric.now in
    let id = id_of c.args.fabric.now in
    let passes = c.args.passes.now in
    let k = c.args.p % c.workers.result in
    let pass = get_or passes k c.index-passes-worker.result in
    let lt = inside a id passes c.args.p c.workers.result c.requires.fabric.some_worker c.workers.ensures.workers c.requires.passes in
    let is = pass_at a id passes k c.index-passes-worker.result c.requires.passes lt in
    let few = c.if-p-procs.false in
    let many = c.procs.ensures.procs in
    record {
      stands = record {
        fabric = c.requires.fabric;
        pass = subst (λ i. IsPass a id i pass) (sym is.worker_is) is;
        holds = record { there = omega arith; own = sym (ap (λ n. c.args.p % n) c.workers.ensures.workers) ∙ sym is.worker_is };
      };
    }

pub returns : goal.returns
returns c =
    let a = about_of c.args.fabric.now in
    let id = id_of c.args.fabric.now in
    let passes = c.args.passes.now in
    let k = c.args.p % c.workers.result in
    let lt = inside a id passes c.args.p c.workers.result c.requires.fabric.some_worker c.workers.ensures.workers c.requires.passes in
    let is = pass_at a id passes k c.index-passes-worker.result c.requires.passes lt in
    passes_set a id passes k c.try_fire.new.pass lt c.requires.passes (subst (λ i. IsPass a id i c.try_fire.new.pass) is.worker_is c.try_fire.ensures.pass)
