-- The lines of the text over the numbers that they show.
use Rattle.std.specs.Prelude.{ℕ, ◌==◌, List, [], ◌++◌, codes, decimal, if◌then◌else◌}
use Rattle.raw_grid.specs.declared.parts.PortKind.{PortKind}
use Rattle.raw_grid.specs.declared.parts.PortKind.TheVariants.{Source, Sink}
use Rattle.raw_grid.specs.declared.parts.PortPlace.{PortPlace}
use Rattle.raw_grid.specs.Topology.{Topology}
use Rattle.raw_model.specs.StateTexts.{port_place_text}
use Rattle.raw_state_text.specs.Parts.{place_text}
use Rattle.raw_clock.specs.declared.tally.Spent.{Spent}

-- how many cycles there are, and how many steps tiles and switches take in them
unfoldable pub cycles_line : ℕ → ℕ → List ℕ
cycles_line cycles steps = codes "cycles " ++ decimal cycles ++ codes " steps " ++ decimal steps ++ codes "\n"

-- how a tile spent the cycles
unfoldable pub tile_line : Topology → ℕ → Spent → List ℕ
tile_line topo tile spent =
    codes "tile " ++ place_text topo tile
    ++ codes " fired " ++ decimal spent.fired
    ++ codes " stalled " ++ decimal spent.stalled
    ++ codes " starved " ++ decimal spent.starved
    ++ codes " blocked " ++ decimal spent.blocked
    ++ codes " stopped " ++ decimal spent.stopped ++ codes "\n"

-- how the switch beside a tile spent them
unfoldable pub switch_line : Topology → ℕ → Spent → List ℕ
switch_line topo tile spent =
    codes "switch " ++ place_text topo tile
    ++ codes " fired " ++ decimal spent.fired
    ++ codes " starved " ++ decimal spent.starved
    ++ codes " blocked " ++ decimal spent.blocked
    ++ codes " stopped " ++ decimal spent.stopped ++ codes "\n"

-- how a source spent them, which has no inputs
unfoldable pub source_line : PortPlace → Spent → List ℕ
source_line place spent =
    codes "source " ++ port_place_text place
    ++ codes " fired " ++ decimal spent.fired
    ++ codes " blocked " ++ decimal spent.blocked
    ++ codes " stopped " ++ decimal spent.stopped ++ codes "\n"

-- how a sink spent them, which has no outputs
unfoldable pub sink_line : PortPlace → Spent → List ℕ
sink_line place spent =
    codes "sink " ++ port_place_text place
    ++ codes " fired " ++ decimal spent.fired
    ++ codes " starved " ++ decimal spent.starved
    ++ codes " stopped " ++ decimal spent.stopped ++ codes "\n"

-- how the port at this place spent them
abbrev pub port_line_of : PortKind → PortPlace → Spent → List ℕ
port_line_of Source place spent = source_line place spent
port_line_of Sink place spent = sink_line place spent

abbrev pub port_line : PortPlace → Spent → List ℕ
port_line place spent = port_line_of place.kind place spent

-- in how many cycles processor p waited for this wire, which leads to or comes from another one; nothing where in none
unfoldable pub wait_line : ℕ → ℕ → ℕ → ℕ → List ℕ
wait_line p wire other cycles =
    if cycles == 0 then []
    else codes "wait " ++ decimal p ++ codes " wire " ++ decimal wire ++ codes " for " ++ decimal other ++ codes " cycles " ++ decimal cycles ++ codes "\n"

-- how many values were sent on a wire; nothing where none was
unfoldable pub passed_line : ℕ → ℕ → List ℕ
passed_line wire values = if values == 0 then [] else codes "passed " ++ decimal wire ++ codes " " ++ decimal values ++ codes "\n"
