use Rattle.raw_fabric_step.specs.Units.{mine}
use Rattle.raw_fabric.specs.Holding.{IsUnitOf}
use Rattle.raw_fabric.proofs.units.turn_unit.Goals.{in-Tile-Tile, in-Switch-Switch, in-Source-Source, in-Sink-Sink}
use Rattle.raw_fabric.proofs.units.turn_unit.Goals as goal

pub returns-clause-unit : goal.returns-clause-unit
returns-clause-unit c =
    elim c.match-kind.branch [
      | in-Tile-Tile w ↦ rw (w.processor-is, w.seat-is) w.turn_tile.ensures.unit
      | in-Switch-Switch w ↦ rw (w.processor-is, w.seat-is) w.turn_switch.ensures.unit
      | in-Source-Source w ↦ rw (w.processor-is, w.seat-is) w.turn_source.ensures.unit
      | in-Sink-Sink w ↦ rw (w.processor-is, w.seat-is) w.turn_sink.ensures.unit
    ]
