-- Parts of lines over the values that they show.
use Rattle.std.specs.Prelude.{ℕ, ◌/◌, ◌%◌, Bool, Option, List, ◌++◌, codes, decimal, if◌then◌else◌}
use Rattle.raw_grid.specs.Topology.{Topology}
use Rattle.raw_model.specs.Program.{ProgramSet}
use Rattle.raw_model.specs.Local.{Local, Tile, Switch, Source, Sink}
use Rattle.raw_model.specs.Machine.{is_stopped}
use Rattle.raw_model.specs.StateTexts.{going_text, program_mark}

-- the mark of a port: this word where it is stopped, and else what it waits for
abbrev pub port_mark : List ℕ → Bool → Option ℕ → List ℕ
port_mark word stopped wait = if stopped then word else going_text wait

-- the mark of a processor with this local state that waits for this wire first, if it waits
abbrev pub mark_by : ProgramSet → ℕ → Option ℕ → Local → List ℕ
mark_by set p wait (Tile l) = program_mark set.limit wait l.mark l.count
mark_by set p wait (Switch l) = program_mark set.limit wait l.mark l.count
mark_by set p wait (Source l) = port_mark (codes "spent") (is_stopped set p (Source l)) wait
mark_by set p wait (Sink l) = port_mark (codes "full") (is_stopped set p (Sink l)) wait

-- the column and the row of a tile
abbrev pub place_text : Topology → ℕ → List ℕ
place_text topo tile = decimal (tile % topo.cols) ++ codes " " ++ decimal (tile / topo.cols)

-- how many instructions a tile or a switch has executed, and the number of its next one
abbrev pub progress_text : ℕ → ℕ → List ℕ
progress_text count pc = codes " count " ++ decimal count ++ codes " pc " ++ decimal pc
