use Rattle.std.proofs.Common.{◌≡◌, ℕ, List, ◌++◌, map, take, drop, sym, ap, ◌∙◌, subst, arith}
use Rattle.std.proofs.lemmas.Result.{IfOk-weaker}
use Rattle.raw_grid.specs.Topology.{tile_count, IsTopology}
use Rattle.raw_grid.proofs.Growth.{procs_few}
use Rattle.raw_model.specs.Program.{ProgramSet}
use Rattle.raw_flow.specs.declared.node.Node.{Node}
use Rattle.raw_model.specs.Local.{Local}
use Rattle.raw_stream.specs.Streams.{Stream, valued}
use Rattle.raw_row_terms.specs.RowTerms.{placed, row_terms}
use Rattle.raw_term.specs.TermMachine.{TermState}
use Rattle.raw_rows.specs.Kernels.{Cut, joined, carried_in, renumbered, IsLater, AtEach}
use Rattle.raw_prove.specs.declared.unit.Unit.{Unit}
use Rattle.raw_prove.specs.Units.{local_of, state_of}
use Rattle.raw_cut.specs.declared.cut.CutLocal.{CutLocal}
use Rattle.raw_cut.specs.Cuts.{local_at, cut_of}
use Rattle.raw_cut.proofs.Copies.{map_take, map_drop, take_rest, some_so}
use Rattle.raw_cut.proofs.Facing.{arrives_from}
use Rattle.raw_cut.proofs.leading.arrives.Goals as goal

pub are_units_at-requires-clause-few : goal.are_units_at-requires-clause-few
are_units_at-requires-clause-few c =
    let topo : IsTopology c.args.set.now.topo = subst (λ (g : ProgramSet). IsTopology g.topo) c.set.view_is c.tiles-tiles.ensures.valid in
    omega (arith, c.requires.kept.each, procs_few c.args.set.now.topo topo)

pub returns : goal.returns
returns c =
    let s : Stream = c.args.stream.now in
    let carried : List Node = c.args.carried.now in
    let rows : List (List ℕ) = map (λ row. row.items) c.args.rows.now in
    let r : ℕ = c.args.later in
    let to : Cut = cut_of c.args.to.now in
    let at : TermState = state_of c.args.machine in
    let cs : List ℕ = c.in-Some-2.passed.carried.items in
    let values : List (List ℕ) = map (λ row. row.items) c.in-Some-2.passed.values.items in
    let front : map (λ row. row.items) (take r c.args.rows.now) ≡ take r rows = map_take (λ row. row.items) r c.args.rows.now in
    let carried_is : carried_in s at.nodes carried ≡ record { nodes = c.carried_in.new.table; numbers = c.in-Some.first.items } =
    some_so _ c.in_ok-first.field-0 c.in-Some.first c.in-Some.is c.in_ok-first.ensures in
    let rows_are : row_terms s c.carried_in.new.table c.in-Some.first.items (take r rows) ≡ record { nodes = c.pass_rows.new.table; carried = cs; values = values } =
    ap (row_terms s c.carried_in.new.table c.in-Some.first.items) (sym front) ∙ some_so _ c.in_ok-passed.field-0 c.in-Some-2.passed c.in-Some-2.is c.in_ok-passed.ensures in
    let ins_are : c.push_joined.new.all.items ≡ cs ++ joined (drop r rows) =
    c.in_ok-push_joined.ensures ∙ ap (λ vs. cs ++ joined (map (λ row. row.items) vs)) (take_rest r c.args.rows.now) ∙ ap (λ (ws : List (List ℕ)). cs ++ joined ws) (map_drop (λ row. row.items) r c.args.rows.now) in
    let placed_is : placed c.pass_rows.new.table c.push_joined.new.all.items to.at.nodes ≡ record { nodes = c.place_all.new.table; numbers = c.in-Some-3.numbers.items } =
    (λ i. placed c.pass_rows.new.table ((sym c.deref.ensures.value) i) ((sym c.deref-2.ensures.value) i))
    ∙ some_so _ c.in_ok-numbers.field-0 c.in-Some-3.numbers c.in-Some-3.is c.in_ok-numbers.ensures.placed in
    let tiles_are : c.tiles-tiles.result ≡ tile_count c.args.set.now.topo = c.tiles-tiles.ensures.value ∙ ap (λ (g : ProgramSet). tile_count g.topo) c.set.view_is in
    let ns : List ℕ = c.in-Some-3.numbers.items in
    let front_rows : List (List ℕ) = map (λ row. row.items) (take r c.args.rows.now) in
    let there : List Local = map (renumbered ns) to.at.state.locals in
    let units : AtEach (IsLater s c.tiles-tiles.result front_rows values) at.state.locals there =
    subst (λ (cuts : List CutLocal). AtEach (IsLater s c.tiles-tiles.result front_rows values) at.state.locals (map (renumbered ns) (map local_at cuts))) c.deref-6.ensures.value
    (subst (λ (xs : List ℕ). AtEach (IsLater s c.tiles-tiles.result front_rows values) at.state.locals (map (renumbered xs) (map local_at c.deref-6.result.now))) c.deref-5.ensures.value
    (subst (λ (us : List Unit). AtEach (IsLater s c.tiles-tiles.result front_rows values) (map local_of us) (map (renumbered c.deref-5.result.now) (map local_at c.deref-6.result.now))) c.deref-4.ensures.value
    (subst (λ vs. AtEach (IsLater s c.tiles-tiles.result front_rows (map (λ row. row.items) vs)) (map local_of c.deref-4.result.now) (map (renumbered c.deref-5.result.now) (map local_at c.deref-6.result.now))) c.deref-3.ensures.value
    (c.in_ok-are_units_at.ensures c.if-not-branch.false)))) in
    let locals : AtEach (IsLater s (tile_count c.args.set.now.topo) (take r rows) values) at.state.locals (map (renumbered c.in-Some-3.numbers.items) to.at.state.locals) =
    subst (λ (n : ℕ). AtEach (IsLater s n (take r rows) values) at.state.locals (map (renumbered c.in-Some-3.numbers.items) to.at.state.locals)) tiles_are
    (subst (λ (ws : List (List ℕ)). AtEach (IsLater s c.tiles-tiles.result ws values) at.state.locals there) front units) in
    IfOk-weaker c.are_wires_at.result _ _
    (λ yes wires e. arrives_from c.args.set.now s carried at r rows to c.carried_in.new.table c.pass_rows.new.table c.place_all.new.table c.in-Some.first.items cs c.push_joined.new.all.items c.in-Some-3.numbers.items values
    carried_is rows_are ins_are placed_is locals (wires e ∙ (λ i. map (valued (c.deref-7.ensures.value i)) (map (λ wire. wire.items) (c.deref-8.ensures.value i)))))
    c.are_wires_at.ensures
