-- The lines of a report over the values that they show.
use Rattle.std.specs.Prelude.{ℕ, List, ◌++◌, codes, decimal}
use Rattle.raw_grid.specs.declared.parts.PortPlace.{PortPlace}
use Rattle.raw_grid.specs.Topology.{Topology}
use Rattle.raw_model.specs.Local.{TileLocal, SwitchLocal}
use Rattle.raw_model.specs.Texts.{word_text, words_text}
use Rattle.raw_model.specs.StateTexts.{port_place_text}
use Rattle.raw_state_text.specs.Parts.{place_text, progress_text}

-- the first line of a cycle of so many processors
unfoldable pub deadlock_head : ℕ → List ℕ
deadlock_head count = codes "outcome deadlock " ++ decimal count ++ codes "\n"

-- the line of a processor that is trapped for this cause
unfoldable pub trapped_line : ℕ → List ℕ → List ℕ
trapped_line p cause = codes "outcome trapped " ++ decimal p ++ codes " " ++ cause ++ codes "\n"

-- the line of a processor that has done so many steps and is at the limit
unfoldable pub limit_line : ℕ → ℕ → List ℕ
limit_line p count = codes "outcome limit " ++ decimal p ++ codes " count " ++ decimal count ++ codes "\n"

-- the line of the processor at which a chain of waits ends, with its mark
unfoldable pub ends_line : ℕ → List ℕ → List ℕ
ends_line p mark = codes "ends " ++ decimal p ++ codes " " ++ mark ++ codes "\n"

-- the line of a source with this mark that has put in so many words
unfoldable pub source_line : PortPlace → List ℕ → ℕ → List ℕ
source_line place mark done = codes "source " ++ port_place_text place ++ codes " " ++ mark ++ codes " sent " ++ decimal done ++ codes "\n"

-- the first line of a sink with this mark that has taken out so many words
unfoldable pub sink_head : PortPlace → List ℕ → ℕ → List ℕ
sink_head place mark done = codes "sink " ++ port_place_text place ++ codes " " ++ mark ++ codes " got " ++ decimal done ++ codes "\n"

-- the line of a word that a sink has taken out
unfoldable pub word_line : ℕ → List ℕ
word_line word = codes "word " ++ word_text word ++ codes "\n"

-- the first line of a tile with this mark
unfoldable pub tile_head : Topology → ℕ → List ℕ → TileLocal → List ℕ
tile_head topo tile mark l =
    codes "tile " ++ place_text topo tile ++ codes " " ++ mark ++ progress_text l.count l.pc ++ codes "\n"

-- the line of a word of a tile's memory
unfoldable pub memory_word_line : Topology → ℕ → ℕ → ℕ → List ℕ
memory_word_line topo tile address word =
    codes "mem " ++ place_text topo tile ++ codes " 0x" ++ word_text address ++ codes " " ++ word_text word ++ codes "\n"

-- the line of the switch beside a tile, with this mark
unfoldable pub switch_line : Topology → ℕ → List ℕ → SwitchLocal → List ℕ
switch_line topo tile mark l =
    codes "switch " ++ place_text topo tile ++ codes " " ++ mark ++ progress_text l.count l.pc ++ codes " regs" ++ words_text l.regs ++ codes "\n"

-- the line of a tile that missed so often, which costs so many stall turns
unfoldable pub stall_text : Topology → ℕ → ℕ → ℕ → List ℕ
stall_text topo tile missed turns =
    codes "stall " ++ place_text topo tile ++ codes " misses " ++ decimal missed ++ codes " turns " ++ decimal turns ++ codes "\n"
