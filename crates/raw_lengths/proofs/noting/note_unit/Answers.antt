use Rattle.std.proofs.Common.{sym, subst}
use Rattle.raw_model.specs.Local.{Tile}
use Rattle.raw_prove.specs.declared.unit.Unit.{Unit}
use Rattle.raw_prove.specs.Units.{local_of}
use Rattle.raw_lengths.specs.Noting.{IsLook}
use Rattle.raw_lengths.proofs.noting.note_unit.Goals as goal

pub returns-in-Tile-clause-look : goal.returns-in-Tile-clause-look
returns-in-Tile-clause-look c =
    subst (λ (u : Unit). IsLook c.args.set.now c.args.p.0 c.args.table.now (local_of u) c.args.wires.now c.note_tile.result c.args.table.now (Tile c.note_tile.new.unit.tile) c.args.wires.now) (sym c.in-Tile.is)
    (c.note_tile.ensures.look c.args.wires.now)
