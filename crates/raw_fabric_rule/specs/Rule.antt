-- The rule of the fabric: what the words of its table and the views of all seats say of a state of the machine.
use Rattle.std.specs.Prelude.{◌≡◌, ℕ, ◌+◌, ◌-◌, ◌*◌, ◌%◌, ◌^◌, ◌<◌, ◌≤◌, ◌==◌, List, map, length, slice_index}
use Rattle.std.specs.List.{filter}
use Rattle.std.specs.Option.{option_to_list}
use mathlib.Core.Option.{some}
use lib.ListN.{get_elem?}
use Rattle.atomic_table.specs.Table.{State}
use Rattle.raw_network.specs.Network.{Event}
use Rattle.raw_network.specs.Runs.{events_of}
use Rattle.raw_model.specs.Program.{ProgramSet, IsSet}
use Rattle.raw_model.specs.Local.{Local}
use Rattle.raw_model.specs.Machine.{machine_of}
use Rattle.raw_model.specs.Start.{MachineState}
use Rattle.raw_model.specs.Rest.{IsLawfulFrom, end_from}
use Rattle.raw_fabric_rule.specs.declared.layout.TheConstants.{STRIDE, PLACES, SIDES}
use Rattle.raw_fabric_rule.specs.Views.{About, Held, Hold, Part, View}
use Rattle.raw_fabric_rule.specs.ByEnds.{procs, wires, producer, producer_end, consumer, consumer_end, wire_at, local, wire}
use Rattle.raw_fabric_rule.specs.Word.{pack, word_count, status, data_word, flight}

-- the numbers of values taken from a wire and sent on it, by the exact counts of all processors
unfoldable pub took : ProgramSet → (ℕ → List ℕ) → ℕ → ℕ
took set counts w = slice_index (counts (consumer set w)) (consumer_end set w)

unfoldable pub gave : ProgramSet → (ℕ → List ℕ) → ℕ → ℕ
gave set counts w = slice_index (counts (producer set w)) (producer_end set w)

-- the steps of worker k of n, in order
abbrev pub steps_of : ℕ → ℕ → List ℕ → List ℕ
steps_of n k steps = filter (λ p. p % n == k) steps

-- what each step of processor p touches in a list of steps from a state, in order: an address, or nothing
abbrev pub touches_by_step : ProgramSet → MachineState → List ℕ → ℕ → List (List ℕ)
touches_by_step set s steps p = map (λ (e : Event Local). option_to_list e.touched) (events_of (machine_of set) s steps p)

module _ (about : About) (words : List ℕ) (counts : ℕ → List ℕ) (history : List ℕ) (s : MachineState) where
  -- a value fetched at an input stands in a place that is sent and not yet taken
  pub record IsFetched (p : ℕ) (f : Held) : Type 0 where
    pub wired : wire_at about.set p f.end < wires about.set
    pub mine : consumer about.set (wire_at about.set p f.end) ≡ p
    pub same_end : consumer_end about.set (wire_at about.set p f.end) ≡ f.end
    pub taken_yet : took about.set counts (wire_at about.set p f.end) ≤ f.place
    pub sent_yet : f.place < gave about.set counts (wire_at about.set p f.end)
    pub stands_there : f.value ≡ data_word about.set words (wire_at about.set p f.end) (f.place % PLACES)

  -- a word staged at an output stands in the place that is sent next
  pub record IsStaged (p : ℕ) (f : Held) : Type 0 where
    pub wired : wire_at about.set p f.end < wires about.set
    pub mine : producer about.set (wire_at about.set p f.end) ≡ p
    pub same_end : producer_end about.set (wire_at about.set p f.end) ≡ f.end
    pub next : f.place ≡ gave about.set counts (wire_at about.set p f.end)
    pub stands_there : f.value ≡ data_word about.set words (wire_at about.set p f.end) (f.place % PLACES)

  -- what a seat holds for processor p is so
  pub record IsHold (p : ℕ) (u : Hold) : Type 0 where
    pub within : p < procs about.set
    pub local_is : u.local ≡ local s p
    pub touches_are : u.touches ≡ touches_by_step about.set about.opened history p
    pub counts_are : u.counts ≡ counts p
    pub watched : length u.seen ≡ SIDES
    pub seen_sent : (w : ℕ) → w < wires about.set → consumer about.set w ≡ p →
        (length (wire about.opened w) ≤ slice_index u.seen (consumer_end about.set w)) × (slice_index u.seen (consumer_end about.set w) ≤ gave about.set counts w)
    pub seen_taken : (w : ℕ) → w < wires about.set → producer about.set w ≡ p → slice_index u.seen (producer_end about.set w) ≤ took about.set counts w
    pub fetched_is : (i : ℕ) (f : Held) → get_elem? u.fetched i ≡ some f → IsFetched p f
    pub staged_is : (i : ℕ) (f : Held) → get_elem? u.staged i ≡ some f → IsStaged p f

  -- a wire holds what is sent and not yet taken, and no more than the set says
  pub record Flows (w : ℕ) : Type 0 where
    pub opened_sent : length (wire about.opened w) ≤ gave about.set counts w
    pub behind : took about.set counts w ≤ gave about.set counts w
    pub bounded : gave about.set counts w ≤ took about.set counts w + about.set.depth
    pub carries : wire s w ≡ flight (data_word about.set words w) (took about.set counts w) (gave about.set counts w - took about.set counts w)

  -- seat j holds a worker's part: its log, and all its processors
  pub record IsPart (owner : ℕ → ℕ) (j : ℕ) (y : Part) : Type 0 where
    pub about_is : y.about ≡ about
    pub worker_in : y.worker < about.workers
    pub owned : owner y.worker ≡ j
    pub log_is : y.log ≡ steps_of about.workers y.worker history
    pub holds_all : (p : ℕ) → p < procs about.set → p % about.workers ≡ y.worker → (i : ℕ) × (i < length y.units) × (p ≡ y.worker + i * about.workers)
    pub units_are : (i : ℕ) (u : Hold) → get_elem? y.units i ≡ some u → IsHold (y.worker + i * about.workers) u

-- some seat holds the part of worker k
pub record Holder (views : List View) (k : ℕ) : Type 0 where
  pub seat : ℕ
  pub view : View
  pub at : get_elem? views seat ≡ some view
  pub index : ℕ
  pub part : Part
  pub part_at : get_elem? view.parts index ≡ some part
  pub worker_is : part.worker ≡ k

-- The rule. A lawful list leads from the opened state to s; each worker's part is held by exactly one seat, with its log of
-- that list; the status words pack the exact counts, and the data words between them are the values on the wires.
pub record WordsStand (about : About) (words : List ℕ) (views : List View) (s : MachineState) : Type 0 where
  pub counts : ℕ → List ℕ
  pub owner : ℕ → ℕ
  pub history : List ℕ
  pub is_set : IsSet about.set
  pub some_worker : 0 < about.workers
  pub lawful : IsLawfulFrom about.set about.opened history
  pub ends : end_from about.set about.opened history ≡ s
  pub wide : length words ≡ word_count about.set
  -- data words are words of 32 bits
  pub small : (i : ℕ) → STRIDE * procs about.set ≤ i → slice_index words i < 2 ^ 32
  pub locals_all : length s.locals ≡ procs about.set
  pub wires_all : length s.wires ≡ wires about.set
  pub counted : (p : ℕ) → p < procs about.set → length (counts p) ≡ SIDES
  pub packs : (p : ℕ) → p < procs about.set → status words p ≡ pack (counts p)
  pub flows : (w : ℕ) → w < wires about.set → Flows about words counts history s w
  pub parts_are : (j : ℕ) (v : View) → get_elem? views j ≡ some v → (i : ℕ) (y : Part) → get_elem? v.parts i ≡ some y → IsPart about words counts history s owner j y
  pub held : (k : ℕ) → k < about.workers → Holder views k
  -- no seat holds a worker twice
  pub distinct : (j : ℕ) (v : View) → get_elem? views j ≡ some v → (i k : ℕ) (y z : Part) → get_elem? v.parts i ≡ some y → get_elem? v.parts k ≡ some z → y.worker ≡ z.worker → i ≡ k

-- a state that stands with this view: with some words, and with the views of all seats, of which it is one
pub record HasStood (about : About) (v : View) : Type 0 where
  pub words : List ℕ
  pub views : List View
  pub state : MachineState
  pub stands : WordsStand about words views state
  pub seat : ℕ
  pub at : get_elem? views seat ≡ some v

-- the rule of the table: such a state is there
abbrev pub Rule : {S : Type 0} → About → State S View → Type 0
Rule about st = (s : MachineState) × WordsStand about st.words st.views s
