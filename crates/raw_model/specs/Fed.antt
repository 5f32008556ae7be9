-- A set with other words in its sources, each as many as it has.
use Rattle.std.specs.Prelude.{ℕ, List, [], ◌∷◌, length, take, drop}
use Rattle.raw_model.specs.Program.{ProgramSet, PortProgram}

-- ports whose sources have these words, those of the first source first
abbrev pub fed_ports : List PortProgram → List ℕ → List PortProgram
fed_ports [] words = []
fed_ports (port ∷ ports) words = record port { words = take (length port.words) words } ∷ fed_ports ports (drop (length port.words) words)

-- a set with these words in its sources
abbrev pub fed : ProgramSet → List ℕ → ProgramSet
fed set words = record set { ports = fed_ports set.ports words }
