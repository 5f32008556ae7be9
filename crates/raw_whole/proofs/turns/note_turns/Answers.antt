use Rattle.std.proofs.Common.{◌≡◌, ℕ, suc, ◌+◌, ◌<◌, ◌≤◌, ◌^◌, List, length, Some, get_or, ap, sym, subst, ◌∙◌, arith}
use Rattle.std.specs.Prelude.{slice_get}
use Rattle.std.proofs.lemmas.Option.{slice_get-get_or, get_or_from_slice_get, slice_get_within}
use Rattle.raw_grid.specs.Topology.{proc_count}
use Rattle.raw_model.specs.Program.{ProgramSet}
use Rattle.raw_serial.specs.declared.turn.Turn.{Turn}
use Rattle.raw_serial.specs.declared.turn.Turn.TheVariants.{Fired}
use Rattle.raw_clock.specs.Clock.{clock, turn_in}
use Rattle.raw_whole.specs.Kept.{IsTurnsKept}
use Rattle.raw_whole.proofs.Kept.{few_turns, turns_noted}
use Rattle.raw_whole.proofs.turns.note_turns.Goals as goal

pub all-init : goal.all-init
all-init c = record {
  each = c.requires.kept.each;
  below = λ q kept below here. absurd (omega (arith, below));
  above = λ q kept above here. c.requires.kept.kept q kept here;
}

pub add-requires : goal.add-requires
add-requires c =
    let set = c.args.set.now in
    let p = c.all.p in
    let old = c.index-all-p.result in
    let many : c.procs-procs.result ≡ proc_count set.topo = c.procs-procs.ensures.value ∙ ap (λ (s : ProgramSet). proc_count s.topo) c.set.view_is in
    let lt : p < proc_count set.topo = omega (arith, c.all-test.true, many) in
    let there : slice_get c.all.all p ≡ Some (get_or c.all.all p old) =
    slice_get-get_or c.all.all p old (omega (arith, lt, c.all.invariant.each)) in
    let are = c.all.invariant.above p (get_or c.all.all p old) (omega arith) there in
    record {
      room = λ i.
          let few = few_turns set p c.args.cycles i in
          let same = ap (λ (ps : List (Turn × ℕ)). (get_or ps i (Fired, 0)).1) are in
          let most = c.requires.few in
          omega (arith, few, same, most);
    }

pub all-preserved : goal.all-preserved
all-preserved c =
    let set = c.args.set.now in
    let p = c.all.p in
    let old = c.index-all-p.result in
    let many : c.procs-procs.result ≡ proc_count set.topo = c.procs-procs.ensures.value ∙ ap (λ (s : ProgramSet). proc_count s.topo) c.set.view_is in
    let lt : p < proc_count set.topo = omega (arith, c.all-test.true, many) in
    let there : slice_get c.all.all p ≡ Some (get_or c.all.all p old) =
    slice_get-get_or c.all.all p old (omega (arith, lt, c.all.invariant.each)) in
    turns_noted set c.args.cycles p c.all.all (get_or c.all.all p old) (record { pieces = c.add.new.pieces }) _ c.all.invariant there
    (get_or_from_slice_get c.args.turns.now p (turn_in set (clock set c.args.cycles) p) _ (c.requires.turns p lt)) c.in_ok-add.ensures

pub returns : goal.returns
returns c =
    let many : c.procs-procs.result ≡ proc_count c.args.set.now.topo =
    c.procs-procs.ensures.value ∙ ap (λ (s : ProgramSet). proc_count s.topo) c.set.view_is in
    record {
      each = c.all.invariant.each;
      kept = λ p kept here.
          let next : suc c.args.cycles ≡ c.args.cycles + 1 = omega arith in
          let inside = slice_get_within c.all.all p kept here in
          subst (λ k. IsTurnsKept c.args.set.now k p kept) next
          (c.all.invariant.below p kept (omega (arith, inside, c.all.invariant.each, c.all-test.false, many)) here);
    }
