use Rattle.std.proofs.Common.{◌≡◌, ℕ, ◌-◌, ◌*◌, ◌≤◌, ◌++◌, List, length, map, Some, ap, ◌∙◌, subst, arith}
use Rattle.std.specs.Prelude.{slice_get, slice_index}
use Rattle.std.proofs.lemmas.Result.{IfOk-weaker}
use Rattle.raw_grid.specs.Topology.{tile_count, IsTopology}
use Rattle.raw_grid.proofs.Growth.{procs_few}
use Rattle.raw_model.specs.Program.{ProgramSet}
use Rattle.raw_model.specs.Local.{Sink, PortLocal}
use Rattle.raw_stream.specs.Streams.{Stream, due_to}
use Rattle.raw_term.specs.TermMachine.{TermState}
use Rattle.raw_rows.specs.Kernels.{HasDue}
use Rattle.raw_prove.specs.declared.unit.Unit.{Unit}
use Rattle.raw_prove.specs.Units.{local_of, state_of}
use Rattle.raw_cut.proofs.Copies.{some_so}
use Rattle.raw_cut.proofs.Facing.{due_from}
use Rattle.raw_cut.proofs.leading.has_all_due.Goals as goal

pub have_due-requires-clause-few : goal.have_due-requires-clause-few
have_due-requires-clause-few c =
    let topo : IsTopology c.args.set.now.topo = subst (λ (g : ProgramSet). IsTopology g.topo) c.set.view_is c.tiles.ensures.valid in
    omega (arith, c.requires.kept.each, procs_few c.args.set.now.topo topo)

pub returns : goal.returns
returns c =
    let s : Stream = c.args.stream.now in
    let rows : List (List ℕ) = map (λ row. row.items) c.args.rows.now in
    let at : TermState = state_of c.args.machine in
    let values : List (List ℕ) = map (λ row. row.items) c.in-Some-2.passed.values.items in
    let tiles_are : c.tiles.result ≡ tile_count c.args.set.now.topo = c.tiles.ensures.value ∙ ap (λ (g : ProgramSet). tile_count g.topo) c.set.view_is in
    IfOk-weaker c.have_due.result _ _
    (λ yes due e. due_from s c.args.carried.now at (tile_count c.args.set.now.topo) c.args.lacks.now rows c.carried_in.new.table c.pass_rows.new.table c.in-Some.first.items c.in-Some-2.passed.carried.items values
    (some_so _ c.in_ok-first.field-0 c.in-Some.first c.in-Some.is c.in_ok-first.ensures)
    (some_so _ c.in_ok-passed.field-0 c.in-Some-2.passed c.in-Some-2.is c.in_ok-passed.ensures)
    (subst (λ (n : ℕ). HasDue s n values c.args.lacks.now at.state) tiles_are
    (subst (λ vs. HasDue s c.tiles.result (map (λ row. row.items) vs) c.args.lacks.now at.state) c.deref.ensures.value
    (subst
    (λ (us : List Unit). (p : ℕ) (l : PortLocal) → slice_get (map local_of us) p ≡ Some (Sink l)
    → (last : List ℕ) × (due_to s (p - 2 * c.tiles.result) (map (λ row. row.items) c.deref.result.now) ≡ l.got ++ last) × (length last ≤ slice_index c.args.lacks.now (p - 2 * c.tiles.result)))
    c.deref-2.ensures.value (due e)))))
    c.have_due.ensures
