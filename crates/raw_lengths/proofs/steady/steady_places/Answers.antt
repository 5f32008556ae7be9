use Rattle.std.proofs.Common.{rules, ◌≡◌, ℕ, ◌+◌, List, map, sym, ap, ◌∙◌, subst}
use Rattle.raw_model.specs.Program.{ProgramSet}
use Rattle.raw_flow.specs.declared.node.Node.{Node}
use Rattle.raw_stream.specs.Streams.{Stream}
use Rattle.raw_term.specs.TermMachine.{TermState}
use Rattle.raw_row_terms.specs.RowTerms.{placed}
use Rattle.raw_rows.specs.Kernels.{Cut, unknown}
use Rattle.raw_prove.specs.Units.{state_of}
use Rattle.raw_cut.specs.declared.leading.Begun.{Begun}
use Rattle.raw_cut.specs.Cuts.{cut_of}
use Rattle.raw_cut.specs.Seeing.{BeginsSeeing}
use Rattle.raw_cut.proofs.Copies.{some_so}
use Rattle.raw_cut.proofs.Facing.{ArrivesAt}
use Rattle.raw_cut.proofs.Decided.{kept_with_table, unknown_is}
use Rattle.raw_lengths.specs.Looks.{ArePlaces}
use Rattle.raw_lengths.proofs.Whole.{steady_from}
use Rattle.raw_lengths.proofs.steady.steady_places.Goals as goal

pub go_noting-requires : goal.go_noting-requires
go_noting-requires c =
    let start : Begun = c.in-Some-2.start in
    kept_with_table start.set start.machine c.place_all.new.table (some_so _ c.in_ok-start.field-0 start c.in-Some-2.is c.in_ok-start.ensures.kept)

pub arrives-requires-clause-kept : goal.arrives-requires-clause-kept
arrives-requires-clause-kept c =
    let start : Begun = c.in-Some-2.start in
    some_so _ c.in_ok-terms.field-0 c.in-Some-4.terms c.in-Some-4.is c.in_ok-terms.ensures.kept 0
    (kept_with_table start.set start.machine c.place_all.new.table (some_so _ c.in_ok-start.field-0 start c.in-Some-2.is c.in_ok-start.ensures.kept))

pub returns : goal.returns
returns c =
    let s : Stream = c.args.stream.now in
    let set : ProgramSet = c.args.set.now in
    let limit : ℕ = c.args.limit in
    let carried : List Node = c.in_ok-carried.carried.items in
    let cut : Cut = cut_of c.args.cut.now in
    let r : ℕ = c.args.later in
    let m : ℕ = c.in-Some-checked_add.many in
    let start : Begun = c.in-Some-2.start in
    let rows : List (List ℕ) = map (λ row. row.items) start.rows.items in
    let both : m ≡ r + cut.window = search (rules, c.in-Some-checked_add.ensures, c.in-Some-checked_add.is, c.checked_add.ensures) in
    let carried_is : carried ≡ unknown s = unknown_is s c.in-Some.widths.carried carried c.in_ok-carried.ensures c.in-Some.ensures.carried in
    let begins : BeginsSeeing set s limit (unknown s) cut (r + cut.window) start =
    subst (λ (n : ℕ). BeginsSeeing set s limit (unknown s) cut n start) both
    (subst (λ (nodes : List Node). BeginsSeeing set s limit nodes cut m start) (c.deref.ensures.value ∙ carried_is) (some_so _ c.in_ok-start.field-0 start c.in-Some-2.is c.in_ok-start.ensures.begins)) in
    let ins : List ℕ = c.in_ok-ins.ins.items in
    let numbers : List ℕ = c.in-Some-3.numbers.items in
    let placed_is : placed (state_of start.machine).nodes ins c.args.looks.now ≡ record { nodes = c.place_all.new.table; numbers = numbers } =
    ap (λ (xs : List ℕ). placed (state_of start.machine).nodes xs c.args.looks.now) (sym c.deref-2.ensures.value) ∙ some_so _ c.in_ok-numbers.field-0 c.in-Some-3.numbers c.in-Some-3.is c.in_ok-numbers.ensures.placed in
    let at : TermState = state_of c.go_noting.new.machine in
    let places : ArePlaces numbers c.in-Some-5.places.items c.in-Some-4.terms.items =
    subst (λ (xs : List ℕ). ArePlaces numbers c.in-Some-5.places.items xs) c.deref-4.ensures.value
    (subst (λ (xs : List ℕ). ArePlaces xs c.in-Some-5.places.items c.deref-4.result.now) c.deref-3.ensures.value
    (some_so _ c.in_ok-places.field-0 c.in-Some-5.places c.in-Some-5.is c.in_ok-places.ensures)) in
    let arrives : ArrivesAt start.set s (unknown s) at r rows cut =
    subst (λ (ns : List Node). ArrivesAt start.set s ns at r rows cut) (c.deref-5.ensures.value ∙ carried_is)
    (subst (λ vs. ArrivesAt start.set s c.deref-5.result.now at r (map (λ row. row.items) vs) cut) c.deref-6.ensures.value (c.in_ok-arrives.ensures c.if-not-branch.false)) in
    steady_from set s limit cut c.args.steps.now r c.args.own c.args.counters c.args.looks.now c.in-Some-5.places.items start ins c.place_all.new.table numbers c.in-Some-4.terms.items at
    begins c.in_ok-ins.ensures placed_is (some_so _ c.in_ok-terms.field-0 c.in-Some-4.terms c.in-Some-4.is c.in_ok-terms.ensures.goes) places arrives
