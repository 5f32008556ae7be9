use Rattle.std.proofs.Common.{◌≡◌, ℕ, false, List, [], map, subst}
use Rattle.std.specs.List.{All}
use Rattle.std.proofs.lemmas.Result.{IfOk-weaker}
use Rattle.raw_grid.specs.Topology.{Topology, tile_count}
use Rattle.raw_model.specs.Program.{ProgramSet}
use Rattle.raw_model.specs.Outcomes.{is_unhalted, NoneIs}
use Rattle.raw_flow.specs.declared.node.Node.{Node}
use Rattle.raw_stream.specs.Streams.{Stream}
use Rattle.raw_term.specs.TermMachine.{TermState}
use Rattle.raw_rows.specs.Kernels.{Cut, open_rows, passed, HasDue}
use Rattle.raw_prove.specs.declared.unit.Unit.{Unit}
use Rattle.raw_prove.specs.Units.{local_of, state_of}
use Rattle.raw_cut.specs.declared.leading.Begun.{Begun}
use Rattle.raw_cut.specs.Cuts.{cut_of}
use Rattle.raw_cut.specs.Seeing.{ComesToRest}
use Rattle.raw_cut.proofs.Copies.{some_so}
use Rattle.raw_lengths.proofs.closing.ends.Goals as goal

pub has_all_due-requires-clause-kept : goal.has_all_due-requires-clause-kept
has_all_due-requires-clause-kept c = some_so _ c.in_ok-last.field-0 c.in-Some.last c.in-Some.is c.in_ok-last.ensures.kept

pub has_all_due-requires-clause-many : goal.has_all_due-requires-clause-many
has_all_due-requires-clause-many c = (some_so _ c.in_ok-last.field-0 c.in-Some.last c.in-Some.is c.in_ok-last.ensures.rests).many

pub returns : goal.returns
returns c =
    let s : Stream = c.args.stream.now in
    let set : ProgramSet = c.args.set.now in
    let carried : List Node = c.args.carried.now in
    let from : Cut = cut_of c.args.from.now in
    let last : Begun = c.in-Some.last in
    let at : TermState = state_of last.machine in
    let rests : ComesToRest set s c.args.limit carried from c.args.steps.now c.args.many last = some_so _ c.in_ok-last.field-0 last c.in-Some.is c.in_ok-last.ensures.rests in
    let halted : NoneIs is_unhalted at.state =
    subst (λ (us : List Unit). All (λ k. is_unhalted k ≡ false) (map local_of us)) c.deref.ensures.value (c.are_halted.ensures c.if-not-are_halted.false) in
    IfOk-weaker c.has_all_due.result _ _
    (λ yes due e. record {
      rests = record {
        at = at;
        goes = rests.goes;
        quiet = rests.quiet;
        due = subst (λ (topo : Topology). HasDue s (tile_count topo) (passed s carried at (open_rows s c.args.many)).values [] at.state) rests.grid
            (subst (λ (ws : List (List ℕ)). HasDue s (tile_count last.set.topo) (passed s carried at ws).values [] at.state) rests.rows
            (subst (λ vs. HasDue s (tile_count last.set.topo) (passed s carried at (map (λ row. row.items) vs)).values [] at.state) c.deref-2.ensures.value (due e)));
      };
      halted = halted;
    })
    c.has_all_due.ensures
