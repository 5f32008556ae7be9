use Rattle.std.proofs.Common.{◌≤◌, length, sym, subst, arith}
use Rattle.raw_model.specs.Program.{IsSet}
use Rattle.raw_stream.specs.Streams.{Stream, AreNamed}
use Rattle.raw_row_terms.specs.RowClaims.{HasPortsOf}
use Rattle.raw_cut.specs.declared.extent.Extent.{Extent}
use Rattle.raw_cut.specs.Live.{IsMetFrom}
use Rattle.raw_stream_choice.specs.PortNumbers.{numbered}
use Rattle.raw_cut.proofs.Copies.{some_so}
use Rattle.raw_stream_choice.proofs.MetRows.{met_rows}
use Rattle.raw_stream_choice.proofs.Twins.{is_named, has_ports}
use Rattle.raw_stream_choice.proofs.endless.meets_twin.Goals as goal

pub prove_live-requires-clause-named : goal.prove_live-requires-clause-named
prove_live-requires-clause-named c = subst AreNamed (sym c.requires.twin) (is_named c.args.stream.now c.requires.stream.named)

pub prove_live-requires-clause-sources : goal.prove_live-requires-clause-sources
prove_live-requires-clause-sources c =
    let valid : IsSet c.args.set.now = subst IsSet c.set.view_is c.set.invariant in
    let same : HasPortsOf c.args.set.now (numbered c.args.stream.now) = has_ports c.args.set.now c.args.stream.now valid c.requires.grid in
    subst (λ (t : Stream). length t.sources ≤ length c.args.set.now.ports) (sym c.requires.twin) (let e = same.sources in omega (arith, e))

pub prove_live-requires-clause-sinks : goal.prove_live-requires-clause-sinks
prove_live-requires-clause-sinks c =
    let valid : IsSet c.args.set.now = subst IsSet c.set.view_is c.set.invariant in
    let same : HasPortsOf c.args.set.now (numbered c.args.stream.now) = has_ports c.args.set.now c.args.stream.now valid c.requires.grid in
    subst (λ (t : Stream). length t.sinks ≤ length c.args.set.now.ports) (sym c.requires.twin) (let e = same.sinks in omega (arith, e))

pub returns-in-Some : goal.returns-in-Some
returns-in-Some c = λ yes.
    let extent : Extent = c.in-Some.extent in
    met_rows c.args.stream.now c.args.set.now extent (c.is_long.ensures yes)
    (subst (λ (t : Stream). IsMetFrom c.args.set.now t extent.least extent.most extent.lacks.items) c.requires.twin (some_so _ c.in_ok-extent.field-0 extent c.in-Some.is c.in_ok-extent.ensures))
