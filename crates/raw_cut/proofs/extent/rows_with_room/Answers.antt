use Rattle.std.proofs.Common.{◌≡◌, ℕ, length, Some, ap, ◌∙◌, subst}
use Rattle.std.specs.Prelude.{slice_get, sum_by}
use Rattle.std.specs.List.{range_with_len}
use Rattle.raw_grid.specs.declared.parts.PortKind.TheVariants as kind
use Rattle.raw_grid.specs.declared.parts.PortPlace.{PortPlace}
use Rattle.raw_model.specs.Program.{ProgramSet, IsSet}
use Rattle.raw_stream.specs.Streams.{Stream}
use Rattle.raw_stream.specs.Unrolled.{width}
use Rattle.raw_cut.proofs.Enough.{places_of}
use Rattle.raw_cut.proofs.extent.rows_with_room.Goals as goal

pub returns : goal.returns
returns c =
    let set : ProgramSet = c.args.set.now in
    let s : Stream = c.args.stream.now in
    let valid : IsSet set = subst IsSet c.set.view_is c.set.invariant in
    let total : c.in-Some.total ≡ sum_by (width s) (range_with_len 0 (length set.topo.places)) =
    c.in-Some.ensures.total ∙ ap (λ (g : ProgramSet). sum_by (width s) (range_with_len 0 (length g.topo.places))) c.set.view_is in
    let sinks : (q : ℕ) (place : PortPlace) → slice_get set.topo.places q ≡ Some place → place.kind ≡ kind.Sink → width s q ≡ 0 =
    subst (λ (g : ProgramSet). (q : ℕ) (place : PortPlace) → slice_get g.topo.places q ≡ Some place → place.kind ≡ kind.Sink → width s q ≡ 0) c.set.view_is c.in-Some.ensures.sinks in
    places_of set s c.in_ok-most.most c.in-Some.total valid c.requires.named c.requires.sinks total (c.is_within.ensures c.if-not-is_within.false) sinks (c.in_ok-have_room.ensures c.if-not-branch.false)
