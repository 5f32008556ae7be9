use Rattle.std.proofs.Common.{◌*◌, ap, arith}
use Rattle.raw_grid.specs.Topology.{without_ports}
use Rattle.raw_plan_text.proofs.Insides.{number_few}
use Rattle.raw_plan_text.proofs.tile.tile_number.Goals as goal

pub overflow_mul-result : goal.overflow_mul-result
overflow_mul-result c =
    let few = number_few (without_ports c.args.cols c.args.rows) c.args.tile c.requires (omega arith) (omega arith) in
    let same = ap (λ n. c.args.tile.y * n) c.from.ensures in
    omega (arith, few, same)

pub overflow_add-result : goal.overflow_add-result
overflow_add-result c =
    let few = number_few (without_ports c.args.cols c.args.rows) c.args.tile c.requires (omega arith) (omega arith) in
    let same = ap (λ n. c.args.tile.y * n) c.from.ensures in
    omega (arith, few, same)
