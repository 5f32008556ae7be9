-- Of which kind a processor is.
use Rattle.std.specs.Prelude.{◌≡◌}
use Rattle.raw_processor.specs.declared.processor.Processor.{Processor}
use Rattle.raw_processor.specs.declared.processor.Processor.TheVariants as a
use Rattle.raw_processor.specs.Port.{Port}

-- it is a tile
abbrev pub IsTileUnit : Processor → Type 0
IsTileUnit (a.Tile tile) = Unit {0}
IsTileUnit _ = ⊥

-- it is a switch
abbrev pub IsSwitchUnit : Processor → Type 0
IsSwitchUnit (a.Switch switch) = Unit {0}
IsSwitchUnit _ = ⊥

-- it is a port
abbrev pub IsPortUnit : Processor → Type 0
IsPortUnit (a.Source port) = Unit {0}
IsPortUnit (a.Sink port) = Unit {0}
IsPortUnit _ = ⊥

-- it is this port
abbrev pub IsThePort : Processor → Port → Type 0
IsThePort (a.Source own) port = own ≡ port
IsThePort (a.Sink own) port = own ≡ port
IsThePort _ port = ⊥
