use Rattle.std.proofs.Common.{◌≡◌, ℕ, ◌<◌, ◌≤◌, Some}
use Rattle.std.specs.Prelude.{slice_get, sum_by}
use Rattle.std.specs.List.{range_with_len}
use Rattle.raw_grid.specs.declared.parts.PortKind.TheVariants as kind
use Rattle.raw_grid.specs.declared.parts.PortPlace.{PortPlace}
use Rattle.raw_model.specs.declared.limits.TheConstants.{MAX_ALL_WORDS}
use Rattle.raw_stream.specs.Unrolled.{width}
use Rattle.raw_cut.proofs.extent.widths_at.Given as goal

abbrev pub invariant-loop-port : goal.invariant-loop-port
invariant-loop-port l = record {
  sum : l.total ≡ sum_by (width l.stream) (range_with_len 0 l.port);
  few : l.total ≤ MAX_ALL_WORDS;
  sinks : (q : ℕ) (place : PortPlace) → q < l.port → slice_get l.topo.places q ≡ Some place → place.kind ≡ kind.Sink → width l.stream q ≡ 0;
}
