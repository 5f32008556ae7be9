-- The texts of a state's processors and wires, which reports and answers share: marks, waits, wires, the outcome.
use Rattle.std.specs.Prelude.{ℕ, ◌==◌, Option, Some, None, List, [], ◌∷◌, ◌++◌, codes, decimal, take, drop, slice_get, if◌then◌else◌}
use Rattle.raw_network.specs.Network.{values_on}
use Rattle.raw_grid.specs.declared.parts.PortPlace.{PortPlace}
use Rattle.raw_grid.specs.Names.{net_text, side_text}
use Rattle.raw_model.specs.declared.marks.Mark.{Mark}
use Rattle.raw_model.specs.declared.marks.Mark.TheVariants.{Going, Halted, Trapped}
use Rattle.raw_model.specs.Program.{ProgramSet}
use Rattle.raw_model.specs.Local.{Local, Tile, Switch, Source, Sink}
use Rattle.raw_model.specs.Start.{MachineState}
use Rattle.raw_model.specs.Rest.{stopped}
use Rattle.raw_model.specs.Waits.{first_wait, other_end}
use Rattle.raw_model.specs.Outcomes.{Outcome, ending_of}
use Rattle.raw_model.specs.Texts.{words_text, cause_text, ending_word}

-- the mark of a processor that is not stopped: the wire that it waits for first, or that it is ready
abbrev pub going_text : Option ℕ → List ℕ
going_text None = codes "ready"
going_text (Some wire) = codes "waits " ++ decimal wire

-- the mark of a tile or a switch, under this limit and with this first wait; one that is halted or trapped has
-- that mark whatever its count
abbrev pub program_mark : ℕ → Option ℕ → Mark → ℕ → List ℕ
program_mark limit wait Going count = if count == limit then codes "limit" else going_text wait
program_mark limit wait Halted count = codes "halted"
program_mark limit wait (Trapped cause) count = codes "trapped " ++ cause_text cause

-- the mark of a processor with this local state and this first wait
abbrev pub local_mark : ProgramSet → MachineState → ℕ → Option Local → List ℕ
local_mark set s p None = []
local_mark set s p (Some (Tile l)) = program_mark set.limit (first_wait set s p) l.mark l.count
local_mark set s p (Some (Switch l)) = program_mark set.limit (first_wait set s p) l.mark l.count
local_mark set s p (Some (Source l)) = if stopped set s p then codes "spent" else going_text (first_wait set s p)
local_mark set s p (Some (Sink l)) = if stopped set s p then codes "full" else going_text (first_wait set s p)

-- the mark of a processor in a state
unfoldable pub mark_of : ProgramSet → MachineState → ℕ → List ℕ
mark_of set s p = local_mark set s p (slice_get s.locals p)

-- the line of a wait of a processor for a wire
abbrev pub wait_line_of : ProgramSet → ℕ → Option ℕ → List ℕ
wait_line_of set p None = []
wait_line_of set p (Some wire) =
    codes "wait " ++ decimal p ++ codes " wire " ++ decimal wire ++ codes " for " ++ decimal (other_end set.topo p wire) ++ codes "\n"

-- the line of a processor's first wait, and nothing where it waits for none
unfoldable pub wait_line : ProgramSet → MachineState → ℕ → List ℕ
wait_line set s p = wait_line_of set p (first_wait set s p)

-- eight registers of a tile, from this one on
unfoldable pub registers_line : List ℕ → ℕ → List ℕ
registers_line regs first = codes "regs " ++ decimal first ++ words_text (take 8 (drop first regs)) ++ codes "\n"

-- the values on a wire, from the front
abbrev pub values_line : ℕ → List ℕ → List ℕ
values_line wire [] = []
values_line wire (value ∷ values) = codes "wire " ++ decimal wire ++ words_text (value ∷ values) ++ codes "\n"

-- the line of a wire, and nothing where it is empty
unfoldable pub wire_line : MachineState → ℕ → List ℕ
wire_line s wire = values_line wire (values_on s.wires wire)

-- the place of a port: its network, the column and the row of its tile, its side
abbrev pub port_place_text : PortPlace → List ℕ
port_place_text place = net_text place.net ++ codes " " ++ decimal place.x ++ codes " " ++ decimal place.y ++ codes " " ++ side_text place.side

-- the one word of an outcome
abbrev pub outcome_word : Outcome → List ℕ
outcome_word how = ending_word (ending_of how)
