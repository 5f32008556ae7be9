use Rattle.std.proofs.Common.{◌≡◌, ℕ, List, ◌++◌, length, map, take, sym, ap, ◌∙◌}
use Rattle.std.proofs.lemmas.Option.{IfSome_then}
use Rattle.std.proofs.lemmas.Result.{IfOk-weaker}
use Rattle.raw_flow.specs.declared.node.Node.{Node}
use Rattle.raw_stream.specs.Streams.{Stream}
use Rattle.raw_term.specs.TermMachine.{first_nodes}
use Rattle.raw_rows.specs.Kernels.{Cut, joined, cut_with, open_nodes, carried_in}
use Rattle.raw_row_terms.specs.RowTerms.{placed}
use Rattle.raw_prove.specs.Units.{state_of}
use Rattle.raw_cut.specs.Cuts.{cut_of}
use Rattle.raw_cut.proofs.Copies.{map_take, some_so}
use Rattle.raw_cut.proofs.Facing.{begun_from}
use Rattle.raw_cut.proofs.leading.begin_at.Goals as goal

pub returns-clause-state : goal.returns-clause-state
returns-clause-state c =
    let s : Stream = c.args.stream.now in
    let carried : List Node = c.args.carried.now in
    let rs : List (List ℕ) = map (λ row. row.items) c.args.rows.now in
    let m : ℕ = length c.args.rows.now in
    let cut : Cut = cut_of c.args.from.now in
    let first_is : c.in-Ok.table ≡ open_nodes s m = c.in-Ok.ensures.table ∙ ap first_nodes c.requires.count in
    let carried_is : carried_in s c.in-Ok.table carried ≡ record { nodes = c.carried_in.new.table; numbers = c.in-Some.ins.items } =
    some_so _ c.in_ok-ins.field-0 c.in-Some.ins c.in-Some.is c.in_ok-ins.ensures in
    let ins_are : c.push_joined.new.all.items ≡ c.in-Some.ins.items ++ joined (take cut.window rs) =
    c.in_ok-push_joined.ensures ∙ ap (λ (ws : List (List ℕ)). c.in-Some.ins.items ++ joined ws) (map_take (λ row. row.items) cut.window c.args.rows.now) in
    let placed_is : placed c.carried_in.new.table c.push_joined.new.all.items cut.at.nodes ≡ record { nodes = c.place_all.new.table; numbers = c.in-Some-2.numbers.items } =
    (λ i. placed c.carried_in.new.table ((sym c.deref.ensures.value) i) ((sym c.deref-2.ensures.value) i))
    ∙ some_so _ c.in_ok-numbers.field-0 c.in-Some-2.numbers c.in-Some-2.is c.in_ok-numbers.ensures.placed in
    IfOk-weaker c.begin.result _ _
    (λ found h. IfSome_then found h
    (λ machine e. begun_from s carried m cut rs c.in-Ok.table c.carried_in.new.table c.place_all.new.table c.in-Some.ins.items c.push_joined.new.all.items c.in-Some-2.numbers.items (state_of machine)
    first_is c.requires.rows carried_is ins_are placed_is
    (e ∙ ap (λ (xs : List ℕ). cut_with cut.at.state (record { nodes = c.place_all.new.table; numbers = xs })) c.deref-3.ensures.value)))
    c.begin.ensures.state
