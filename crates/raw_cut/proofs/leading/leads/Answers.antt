use Rattle.std.proofs.Common.{rules, ◌≡◌, ℕ, ◌+◌, List, map, subst}
use Rattle.std.proofs.lemmas.Result.{IfOk-weaker}
use Rattle.raw_model.specs.Program.{ProgramSet}
use Rattle.raw_flow.specs.declared.node.Node.{Node}
use Rattle.raw_stream.specs.Streams.{Stream}
use Rattle.raw_term.specs.TermMachine.{TermState}
use Rattle.raw_rows.specs.Kernels.{Cut}
use Rattle.raw_prove.specs.Units.{state_of}
use Rattle.raw_cut.specs.declared.leading.Begun.{Begun}
use Rattle.raw_cut.specs.Cuts.{cut_of}
use Rattle.raw_cut.specs.Seeing.{BeginsSeeing}
use Rattle.raw_cut.proofs.Copies.{some_so}
use Rattle.raw_cut.proofs.Facing.{ArrivesAt, leads_from}
use Rattle.raw_cut.proofs.leading.leads.Goals as goal

pub arrives-requires-clause-kept : goal.arrives-requires-clause-kept
arrives-requires-clause-kept c = c.in_ok-go_along.ensures.kept c.if-not-branch.false 0 (some_so _ c.in_ok-start.field-0 c.in-Some-2.start c.in-Some-2.is c.in_ok-start.ensures.kept)

pub arrives-requires-clause-many : goal.arrives-requires-clause-many
arrives-requires-clause-many c = (some_so _ c.in_ok-start.field-0 c.in-Some-2.start c.in-Some-2.is c.in_ok-start.ensures.begins).many

pub returns : goal.returns
returns c =
    let s : Stream = c.args.stream.now in
    let set : ProgramSet = c.args.set.now in
    let carried : List Node = c.args.carried.now in
    let from : Cut = cut_of c.args.from.now in
    let to : Cut = cut_of c.args.to.now in
    let r : ℕ = c.args.later in
    let m : ℕ = c.in-Some.many in
    let start : Begun = c.in-Some-2.start in
    let begins : BeginsSeeing set s c.args.limit carried from m start = some_so _ c.in_ok-start.field-0 start c.in-Some-2.is c.in_ok-start.ensures.begins in
    let both : m ≡ r + to.window = search (rules, c.in-Some.ensures, c.in-Some.is, c.checked_add.ensures) in
    let at : TermState = state_of c.go_along.new.machine in
    IfOk-weaker c.arrives.result _ _
    (λ yes arrives e. leads_from set s c.args.limit carried from c.args.steps.now r m to start at both begins (c.in_ok-go_along.ensures.goes c.if-not-branch.false)
    (subst (λ vs. ArrivesAt start.set s carried at r (map (λ row. row.items) vs) to) c.deref.ensures.value (arrives e)))
    c.arrives.ensures
