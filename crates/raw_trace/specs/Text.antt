-- The text of a trace.
use Rattle.std.specs.Prelude.{ℕ, Bool, List, ◌++◌, codes, decimal}
use Rattle.std.specs.List.{flat_map}
use Rattle.raw_text.specs.Number.{hex_digits}
use Rattle.raw_model.specs.Program.{ProgramSet}
use Rattle.raw_clock_text.specs.Text.{cycles_text}
use Rattle.raw_trace.specs.declared.entry.Entry.{Entry}
use Rattle.raw_trace.specs.declared.entry.Entry.TheVariants.{Count, Taken, Sent, Register, Loaded, Stored, Misses, Missed}
use Rattle.raw_trace.specs.Lines.{Line, Begins, Stands, Cycle, Fires, Stalls, Waiting, Stopping, first_told, past_told, trace_lines}
use Rattle.raw_trace.specs.Whole.{whole_lines}

-- a word or an address in lower case hexadecimal digits without leading zeros
abbrev pub hex : ℕ → List ℕ
hex n = hex_digits 1 n

-- an entry, with a blank before it
unfoldable pub entry_text : Entry → List ℕ
entry_text (Count count) = codes " #" ++ decimal count
entry_text (Taken wire) = codes " -" ++ decimal wire
entry_text (Sent wire value) = codes " +" ++ decimal wire ++ codes "=" ++ hex value
entry_text (Register register value) = codes " $" ++ decimal register ++ codes "=" ++ hex value
entry_text (Loaded address) = codes " @" ++ hex address
entry_text (Stored address value) = codes " @" ++ hex address ++ codes "=" ++ hex value
entry_text (Misses missed) = codes " !" ++ decimal missed
entry_text (Missed turns) = codes " !" ++ decimal turns

-- the line of a processor with its pc and entries
abbrev pub entries_text : ℕ → ℕ → List Entry → List ℕ
entries_text p pc entries = (decimal p ++ codes " " ++ decimal pc) ++ (flat_map entry_text entries ++ codes "\n")

-- a line
abbrev pub line_text : Line → List ℕ
line_text (Begins first) = codes "trace " ++ decimal first ++ codes "\n"
line_text (Stands p pc entries) = entries_text p pc entries
line_text (Cycle k) = codes "cycle " ++ decimal k ++ codes "\n"
line_text (Fires p pc entries) = entries_text p pc entries
line_text (Stalls p) = decimal p ++ codes " s\n"
line_text (Waiting p wire) = decimal p ++ codes " w" ++ decimal wire ++ codes "\n"
line_text (Stopping p mark) = decimal p ++ codes " x " ++ mark ++ codes "\n"

-- the trace of a set that has n cycles, of at most so many from a cycle on: what stands in front, which is the listing of the set and
-- maybe what is told of its text, the lines of the whole run, where it has them, the lines of these cycles, and what is counted of the
-- whole run
unfoldable pub trace_text : List ℕ → ProgramSet → Bool → ℕ → ℕ → ℕ → List ℕ
trace_text front set whole n from most =
    front
    ++ (whole_lines whole set n
    ++ (flat_map line_text (trace_lines set n (first_told n from) (past_told n from most)) ++ (codes "counts\n" ++ cycles_text set n)))
