-- Lines that are answered one by one, as they come.
use Rattle.std.specs.Prelude.{ℕ, Option, Some, None, List, [], ◌∷◌, ◌++◌, codes, if◌then◌else◌}
use Rattle.raw_text.specs.Lines.{tokens_of, line_fault}
use Rattle.raw_text.specs.declared.lines.TextRefusal.{TextRefusal}
use Rattle.raw_model.specs.Program.{ProgramSet}
use Rattle.raw_debug.specs.Commands.{LabelPlaces, Meaning, meaning_of}
use Rattle.raw_debug.specs.Commands.Meaning.{Outside}
use Rattle.raw_debug.specs.Script.{Spot, moved_by, is_past, script_text_of}

-- a line with a fault of its bytes or its length is outside the grammar
abbrev pub unless_faulty : Option TextRefusal → Meaning → Meaning
unless_faulty None meaning = meaning
unless_faulty (Some fault) meaning = Outside

-- what a line of these bytes means, where p is the current processor
abbrev pub line_meaning : LabelPlaces → ProgramSet → ℕ → List ℕ → Meaning
line_meaning labels set p line = unless_faulty (line_fault 1 line) (meaning_of labels set p (tokens_of line))

-- The answer to a line that means this, from where the debugger stands: what it writes in a script, or that it is no command, or
-- goes past the end.
abbrev pub answer_to : ProgramSet → Spot → Meaning → List ℕ
answer_to set spot Outside = codes "bad-command\n"
answer_to set spot meaning = if is_past set meaning then codes "past-end\n" else script_text_of set spot meaning

-- and where the debugger stands behind it
abbrev pub spot_behind : ProgramSet → Spot → Meaning → Spot
spot_behind set spot meaning = if is_past set meaning then spot else moved_by set spot meaning

-- the same of a line of these bytes
abbrev pub line_answer : LabelPlaces → ProgramSet → Spot → List ℕ → List ℕ
line_answer labels set spot line = answer_to set spot (line_meaning labels set spot.current.0 line)

abbrev pub line_spot : LabelPlaces → ProgramSet → Spot → List ℕ → Spot
line_spot labels set spot line = spot_behind set spot (line_meaning labels set spot.current.0 line)

-- the answers to lines, one after another, and where the debugger stands behind them
abbrev pub answers : LabelPlaces → ProgramSet → Spot → List (List ℕ) → List ℕ
answers labels set spot [] = []
answers labels set spot (line ∷ lines) = line_answer labels set spot line ++ answers labels set (line_spot labels set spot line) lines

abbrev pub spot_after : LabelPlaces → ProgramSet → Spot → List (List ℕ) → Spot
spot_after labels set spot [] = spot
spot_after labels set spot (line ∷ lines) = spot_after labels set (line_spot labels set spot line) lines

-- what a contract sees of a debugger: its set, and where it stands
pub record Session : Type 0 where
  pub set : ProgramSet
  pub spot : Spot
