use Rattle.std.proofs.Common.{◌≡◌, ap, ◌∙◌, length, arith, Some}
use Rattle.std.specs.Prelude.{slice_get}
use Rattle.raw_grid.specs.Topology.{Topology}
use Rattle.raw_generated.specs.Generated.{sink_place}
use Rattle.raw_processor.specs.Port.{Port}
use Rattle.raw_run_commands.proofs.Summing.{words_are}
use Rattle.raw_run_commands.proofs.generated.words_out.Goals as goal

pub port-requires : goal.port-requires
port-requires c = omega (arith, ap (λ (t : Topology). length t.places) c.requires)

pub returns : goal.returns
returns c =
    let m = c.args.m.now in
    let there : slice_get m.set.topo.places 1 ≡ Some sink_place = ap (λ (t : Topology). slice_get t.places 1) c.requires in
    c.deref.ensures.value ∙ ap (λ (port : Port). port.local.got) c.behind-m.view_is
    ∙ words_are m.set m.state c.set-set.ensures.fits c.requires c.port.result.now.local (c.port.ensures sink_place there)
