-- What the engine was given and what it hands on.
use Rattle.std.specs.Prelude.{◌≡◌, ℕ, ◌-◌, ◌*◌, ◌≤◌, List, [], ◌∷◌, ◌++◌, length, take, Result, Ok, Err, slice_get, slice_index}
use Rattle.raw_grid.specs.Topology.{tile_count}
use Rattle.raw_model.specs.Program.{ProgramSet, IsSet}
use Rattle.raw_model.specs.Local.{Local}
use Rattle.raw_model.specs.Start.{MachineState}
use Rattle.raw_model.specs.MoreWords.{with_word}
use Rattle.raw_model.specs.Rest.{IsQuiet}
use Rattle.raw_model.specs.Parts.{got_of}
use Rattle.raw_serial.specs.declared.parts.Parts.{Parts}
use Rattle.raw_serial.specs.Taken.{made_of, IsWhole}
use Rattle.raw_queue.specs.declared.item.Item.{Item}
use Rattle.raw_queue.specs.declared.item.Item.TheVariants.{Word}
use Rattle.raw_live_text.specs.Feeding.{BeginsItems}

-- the words that the sink which is processor p has taken out, of these local states
abbrev pub got_from : List Local → ℕ → List ℕ
got_from locals p = got_of (slice_get locals p)

-- the same in a state
abbrev pub got_at : MachineState → ℕ → List ℕ
got_at s p = got_from s.locals p

-- a set with a word more for the source that is the port with this processor number
abbrev pub with_put : ProgramSet → ℕ → ℕ → ProgramSet
with_put set port word = with_word set (port - 2 * tile_count set.topo) word

-- a set with the words before the first end behind those of its sources
abbrev pub with_items : ProgramSet → List Item → ProgramSet
with_items set (Word port word ∷ items) = with_items (with_put set port word) items
with_items set _ = set

-- with each front of the items this is a set
abbrev pub AreSets : ProgramSet → List Item → Type 0
AreSets set items = (front rest : List Item) → items ≡ front ++ rest → IsSet (with_items set front)

-- the parts of a machine of the set in which no processor is enabled
pub record AreAtRest (set : ProgramSet) (parts : Parts) : Type 0 where
  pub whole : IsWhole set parts
  pub quiet : IsQuiet set (made_of set parts).state

-- words for one port
abbrev pub words_to : ℕ → List ℕ → List Item
words_to port [] = []
words_to port (word ∷ words) = Word port word ∷ words_to port words

-- the words for a port were put behind the items, or a front of them was
abbrev pub PutsTo : {T E : Type 0} → ℕ → List ℕ → List Item → List Item → Result T E → Type 0
PutsTo port words old new (Ok x) = new ≡ old ++ words_to port words
PutsTo port words old new (Err e) = (n : ℕ) × (new ≡ old ++ words_to port (take n words))

-- these items were put behind the old ones, or a front of them was
abbrev pub PutsItems : {T E : Type 0} → List Item → List Item → List Item → Result T E → Type 0
PutsItems items old new (Ok x) = new ≡ old ++ items
PutsItems items old new (Err e) = BeginsItems new (old ++ items)

-- no more words of each processor than it has taken out, and exactly as many
abbrev pub AreNoMore : List ℕ → List Local → Type 0
AreNoMore counts locals = (p : ℕ) → slice_index counts p ≤ length (got_from locals p)

abbrev pub AreAll : List ℕ → List Local → Type 0
AreAll counts locals = (p : ℕ) → slice_index counts p ≡ length (got_from locals p)
