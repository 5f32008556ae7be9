use Rattle.std.proofs.Common.{◌≡◌, ℕ, Some, List, length, sym, subst, arith}
use Rattle.std.specs.Prelude.{slice_get}
use Rattle.raw_model.specs.Program.{ProgramSet}
use Rattle.raw_processor.specs.Ends.{AreEndsOf}
use Rattle.raw_fabric_rule.specs.ByEnds.{procs}
use Rattle.raw_fabric_step.specs.declared.post.Side.{Side}
use Rattle.raw_fabric.proofs.Pushed.{at_push}
use Rattle.raw_fabric.specs.Opened.{AreSides}
use Rattle.raw_fabric.proofs.sides.all_sides.Goals as goal

pub loop-p-preserved : goal.loop-p-preserved
loop-p-preserved c =
    let inv = c.loop-p.invariant in
    let e = c.push_reserved.ensures in
    let ok = c.loop-p.sides.ok in
    let many = inv.many in
    let set = c.args.machine.now.set in
    let long : length c.loop-p.sides.items ≡ c.loop-p.p = omega arith in
    record {
      many = omega arith;
      room = (let cap = e.capacity in let old = inv.room in omega arith);
      each = subst (λ (l : List (List Side)). (p : ℕ) (s : List Side) → slice_get l p ≡ Some s → AreSides set p s) (sym e.items)
          (at_push (AreSides set) c.loop-p.sides.items c.sides_of.result inv.each (subst (λ p. AreSides set p c.sides_of.result) (sym long)
          (subst (λ (x : ProgramSet). AreSides x c.loop-p.p c.sides_of.result) c.set-set.ensures.value
          (c.sides_of.ensures c.loop-p.p (subst (λ (x : ProgramSet). AreEndsOf x.topo c.loop-p.p c.ends.result.now) (sym c.set-set.ensures.value) c.ends.ensures)))));
    }

pub returns : goal.returns
unfolding procs
returns c =
    let inv = c.loop-p.invariant in
    let ok = c.loop-p.sides.ok in
    let many = inv.many in
    let value = c.procs-procs.ensures.value in
    let end = c.loop-p-test.false in
    let auto = c.loop-p.auto in
    record { each = omega arith; sides_are = inv.each }
