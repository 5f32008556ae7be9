-- What a live grid puts out: a text that its set and the words for its sources decide.
use Rattle.std.specs.Prelude.{ℕ, zero, suc, List, [], ◌∷◌, ◌++◌, length, drop}
use Rattle.raw_grid.specs.Topology.{proc_count}
use Rattle.raw_model.specs.Program.{ProgramSet}
use Rattle.raw_model.specs.Start.{MachineState}
use Rattle.raw_model.specs.Rest.{end}
use Rattle.raw_model.specs.Serial.{serial}
use Rattle.raw_model.specs.Outcomes.{outcome, ending_of}
use Rattle.raw_queue.specs.declared.item.Item.{Item}
use Rattle.raw_queue.specs.declared.item.Item.TheVariants.{Word}
use Rattle.raw_model.specs.declared.ending.Ending.{Ending}
use Rattle.raw_live.specs.Items.{got_text}
use Rattle.raw_live.specs.Engine.{got_at, with_put, with_items, words_to}
use Rattle.raw_live.specs.Ending.{rest_text}

-- the state in which the grid of a set rests: the end of its serial order, and of each lawful list of steps that comes to rest
abbrev pub rest_of : ProgramSet → MachineState
rest_of set = end set (serial set)

-- how it ends there
abbrev pub ending_at : ProgramSet → Ending
ending_at set = ending_of (outcome set (rest_of set))

-- of each processor below n, by rising number, its words behind so many of them
abbrev pub words_behind : ℕ → (ℕ → ℕ) → (ℕ → List ℕ) → List Item
words_behind zero counts words = []
words_behind (suc n) counts words = words_behind n counts words ++ words_to n (drop (counts n) (words n))

-- what the sinks have at the rest of a set
abbrev pub first_words : ProgramSet → List Item
first_words set = words_behind (proc_count set.topo) (λ p. 0) (got_at (rest_of set))

-- what they have at the rest of a set beyond what they have at the rest of one before
abbrev pub new_words : ProgramSet → ProgramSet → List Item
new_words before set = words_behind (proc_count set.topo) (λ p. length (got_at (rest_of before) p)) (got_at (rest_of set))

-- the same for each word before the first end, in order: what they have more once it was put
abbrev pub words_after : ProgramSet → List Item → List Item
words_after set (Word port word ∷ items) = new_words set (with_put set port word) ++ words_after (with_put set port word) items
words_after set _ = []

-- all that comes out of a set that is fed these words, in order
abbrev pub live_items : ProgramSet → List Item → List Item
live_items set items = first_words set ++ words_after set items

-- the lines of it
abbrev pub live_text : ProgramSet → List Item → List ℕ
live_text set items = got_text (live_items set items)

-- the same, and the last line
abbrev pub due_text : ProgramSet → List Item → List ℕ
due_text set items = live_text set items ++ rest_text (ending_at (with_items set items))
