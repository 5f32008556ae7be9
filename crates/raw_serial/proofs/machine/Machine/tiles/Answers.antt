use Rattle.std.proofs.Common.{ap, subst, arith}
use Rattle.raw_grid.specs.Topology.{IsTopology, tile_count}
use Rattle.raw_model.specs.Program.{ProgramSet}
use Rattle.raw_serial.specs.Running.{Running}
use Rattle.raw_serial.proofs.machine.Machine.tiles.Goals as goal

pub returns-clause-few : goal.returns-clause-few
returns-clause-few c =
    let valid = subst (λ (m : Running). IsTopology m.set.topo) c.self.view_is c.self.invariant.valid.topology in
    let own = ap (λ (s : ProgramSet). tile_count s.topo) c.set.view_is in
    let all = ap (λ (m : Running). tile_count m.set.topo) c.self.view_is in
    omega (arith, c.law_sizes.ensures.procs c.args.self.now.set.topo valid, c.tiles.ensures.value, own, all)
