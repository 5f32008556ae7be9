use Rattle.std.proofs.Common.{rules, ◌≡◌, ℕ, ◌+◌, List, map, refl, ap, subst}
use Rattle.raw_model.specs.Program.{ProgramSet, IsSet}
use Rattle.raw_stream.specs.Streams.{Stream}
use Rattle.raw_rows.specs.Kernels.{Cut}
use Rattle.raw_prove.specs.declared.machine.Machine.{Machine}
use Rattle.raw_cut.specs.declared.leading.Begun.{Begun}
use Rattle.raw_cut.specs.Cuts.{cut_of}
use Rattle.raw_cut.specs.Seeing.{BeginsSeeing}
use Rattle.raw_cut.proofs.Copies.{some_so}
use Rattle.raw_cut.proofs.Facing.{kept_roomy, rests_from}
use Rattle.raw_cut.proofs.leading.come_to_rest.Goals as goal

pub is_quiet-requires : goal.is_quiet-requires
is_quiet-requires c =
    let s : Stream = c.args.stream.now in
    let set : ProgramSet = c.args.set.now in
    let roomy : ProgramSet = c.in-Some-2.roomy in
    let valid : IsSet roomy = subst IsSet c.roomy.view_is c.roomy.invariant in
    let from : Cut = cut_of c.args.from.now in
    let start : Begun = c.in-Some.start in
    let rows : List (List ℕ) = map (λ row. row.items) c.deref.result.now in
    let begins : BeginsSeeing set s c.args.limit c.args.carried.now from c.args.many start = some_so _ c.in_ok-start.field-0 start c.in-Some.is c.in_ok-start.ensures.begins in
    let more : c.in-Some-checked_add.more ≡ c.args.limit + 1 = search (rules, c.in-Some-checked_add.ensures, c.in-Some-checked_add.is, c.checked_add.ensures) in
    kept_roomy set roomy s c.args.limit c.in-Some-checked_add.more c.args.carried.now from c.args.many start rows begins more (ap (map (λ row. row.items)) c.deref.ensures.value)
    (some_so _ c.in_ok-roomy.field-0 roomy c.in-Some-2.is c.in_ok-roomy.ensures) valid c.go_along.new.machine (c.in_ok-go_along.ensures.kept c.if-not-branch.false 1 begins.kept)

pub returns-clause-rests : goal.returns-clause-rests
returns-clause-rests c =
    let s : Stream = c.args.stream.now in
    let set : ProgramSet = c.args.set.now in
    let roomy : ProgramSet = c.in-Some-2.roomy in
    let valid : IsSet roomy = subst IsSet c.roomy.view_is c.roomy.invariant in
    let from : Cut = cut_of c.args.from.now in
    let start : Begun = c.in-Some.start in
    let rows : List (List ℕ) = map (λ row. row.items) c.deref.result.now in
    let begins : BeginsSeeing set s c.args.limit c.args.carried.now from c.args.many start = some_so _ c.in_ok-start.field-0 start c.in-Some.is c.in_ok-start.ensures.begins in
    let more : c.in-Some-checked_add.more ≡ c.args.limit + 1 = search (rules, c.in-Some-checked_add.ensures, c.in-Some-checked_add.is, c.checked_add.ensures) in
    let at : Machine = c.go_along.new.machine in
    rests_from set roomy s c.args.limit c.in-Some-checked_add.more c.args.carried.now from c.args.many start rows begins more (ap (map (λ row. row.items)) c.deref.ensures.value)
    (some_so _ c.in_ok-roomy.field-0 roomy c.in-Some-2.is c.in_ok-roomy.ensures) valid c.args.steps.now at _ (c.in_ok-go_along.ensures.goes c.if-not-branch.false) (c.in_ok-go_along.ensures.kept c.if-not-branch.false 1 begins.kept)
    (c.in_ok-is_quiet.ensures.quiet c.if-not-branch-2.false) (c.in_ok-is_quiet.ensures.stays c.if-not-branch-2.false) refl refl refl

pub returns-clause-kept : goal.returns-clause-kept
returns-clause-kept c = c.in_ok-is_quiet.ensures.kept c.if-not-branch-2.false
