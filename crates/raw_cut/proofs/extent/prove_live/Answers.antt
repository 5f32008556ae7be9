use Rattle.std.proofs.Common.{ℕ, sym, subst}
use Rattle.raw_model.specs.Program.{ProgramSet, IsSet}
use Rattle.raw_stream.specs.Streams.{Stream}
use Rattle.raw_rows.specs.Kernels.{LiveProof, IsLiveProof}
use Rattle.raw_cut.specs.Cuts.{proof_of}
use Rattle.raw_cut.specs.Live.{IsMetFrom, HasPlaces, HasSteps}
use Rattle.raw_cut.proofs.Copies.{some_so}
use Rattle.raw_cut.proofs.Enough.{places_less, met_from}
use Rattle.raw_cut.proofs.extent.prove_live.Goals as goal

pub returns : goal.returns
returns c =
    let set : ProgramSet = c.args.set.now in
    let s : Stream = c.args.stream.now in
    let w : LiveProof = proof_of c.in-Some-2.proof in
    let most : ℕ = c.min-most.result in
    let valid : IsSet set = subst IsSet c.set.view_is c.set.invariant in
    let places : HasPlaces set s most = places_less set s c.in-Some.room most (c.is_enough.ensures.room c.if-not-is_enough.false) (some_so _ c.in_ok-room.field-0 c.in-Some.room c.in-Some.is c.in_ok-room.ensures) in
    let steps : HasSteps set.limit w most = subst (λ (g : ProgramSet). HasSteps g.limit w most) c.set.view_is (c.is_enough.ensures.steps c.if-not-is_enough.false) in
    let live : IsLiveProof set s w = c.in_ok-is_live_proof.ensures c.if-not-branch.false in
    subst (λ (n : ℕ). IsMetFrom set s n most w.lacks) (sym c.in-Some-least_rows.ensures)
    (met_from c.law_live.ensures.numbers set s w most valid c.requires.named c.requires.sources (c.is_enough.ensures.rows c.if-not-is_enough.false) live places steps)
