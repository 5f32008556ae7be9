use Rattle.std.proofs.Common.{◌≡◌, ℕ, suc, ◌+◌, ◌<◌, ◌≤◌, ◌^◌, ◌==◌, List, length, Some, get_or, ap, sym, subst, ◌∙◌, arith}
use Rattle.std.specs.Prelude.{slice_get}
use Rattle.std.proofs.lemmas.Option.{slice_get-get_or, slice_get_within}
use Rattle.raw_grid.specs.Wires.{wires_of}
use Rattle.raw_model.specs.Program.{ProgramSet}
use Rattle.raw_whole.specs.Kept.{IsSendsKept}
use Rattle.raw_whole.proofs.Kept.{few_sends, last_within, sends_noted}
use Rattle.raw_whole.proofs.sends.note_sends.Goals as goal

pub all-init : goal.all-init
all-init c = record {
  each = c.requires.kept.each;
  below = λ v kept below here. absurd (omega (arith, below));
  above = λ v kept above here. c.requires.kept.kept v kept here;
}

pub note-requires : goal.note-requires
note-requires c =
    let set = c.args.set.now in
    let w = c.all.w in
    let old = c.index-all-w.result in
    let many : c.wires-wires.result ≡ length (wires_of set.topo) =
    c.wires-wires.ensures.value ∙ ap (λ (s : ProgramSet). length (wires_of s.topo)) c.set.view_is in
    let lt : w < length (wires_of set.topo) = omega (arith, c.all-test.true, many) in
    let there : slice_get c.all.all w ≡ Some (get_or c.all.all w old) =
    slice_get-get_or c.all.all w old (omega (arith, lt, c.all.invariant.each)) in
    let are = c.all.invariant.above w (get_or c.all.all w old) (omega arith) there in
    let most = c.requires.few in
    record {
      later = let last = are.last in let within = last_within set w c.args.cycles in omega (arith, last, within, most);
      room = λ i.
          let few = few_sends set w c.args.cycles i in
          let same = ap (λ (ps : List (ℕ × ℕ)). (get_or ps i (0, 0)).1) are.pieces in
          omega (arith, few, same, most);
    }

pub all-preserved : goal.all-preserved
all-preserved c =
    let set = c.args.set.now in
    let w = c.all.w in
    let old = c.index-all-w.result in
    let many : c.wires-wires.result ≡ length (wires_of set.topo) =
    c.wires-wires.ensures.value ∙ ap (λ (s : ProgramSet). length (wires_of s.topo)) c.set.view_is in
    let lt : w < length (wires_of set.topo) = omega (arith, c.all-test.true, many) in
    let there : slice_get c.all.all w ≡ Some (get_or c.all.all w old) =
    slice_get-get_or c.all.all w old (omega (arith, lt, c.all.invariant.each)) in
    sends_noted set c.requires.valid c.args.cycles w lt c.all.all (get_or c.all.all w old) _ _ c.all.invariant there (c.requires.passed w lt) c.in_ok-note.ensures

pub returns : goal.returns
returns c =
    let many : c.wires-wires.result ≡ length (wires_of c.args.set.now.topo) =
    c.wires-wires.ensures.value ∙ ap (λ (s : ProgramSet). length (wires_of s.topo)) c.set.view_is in
    record {
      each = c.all.invariant.each;
      kept = λ w kept here.
          let next : suc c.args.cycles ≡ c.args.cycles + 1 = omega arith in
          let inside = slice_get_within c.all.all w kept here in
          subst (λ k. IsSendsKept c.args.set.now k w kept) next
          (c.all.invariant.below w kept (omega (arith, inside, c.all.invariant.each, c.all-test.false, many)) here);
    }
