use Rattle.std.proofs.Common.{sym, subst}
use Rattle.raw_model.specs.Program.{IsSet}
use Rattle.raw_set_text.proofs.Building.Ends.{set_is}
use Rattle.raw_set_text.proofs.builder.Builder.finish.Goals as goal

pub invariant_of-result : goal.invariant_of-result
invariant_of-result c =
    let built = set_is c.args.self c.requires.0 c.unwrap_or-depth.result c.in_ok-tiles.tiles.items c.requires.1 c.unwrap_or-depth.ensures (c.in_ok-tiles.ensures c.requires.0 c.requires.1.tiles) in
    subst IsSet (sym built) c.requires.2

pub returns-clause-set : goal.returns-clause-set
returns-clause-set c entries stands =
    set_is c.args.self entries c.unwrap_or-depth.result c.in_ok-tiles.tiles.items stands c.unwrap_or-depth.ensures (c.in_ok-tiles.ensures entries stands.tiles)
