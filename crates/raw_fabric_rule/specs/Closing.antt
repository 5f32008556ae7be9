-- What is known when the table is closed with a view.
use Rattle.std.specs.Prelude.{◌≡◌, ℕ, ◌+◌, ◌-◌, ◌*◌, ◌%◌, ◌^◌, ◌<◌, ◌≤◌, List, length, slice_index}
use mathlib.Core.Option.{some}
use lib.ListN.{get_elem?}
use Rattle.raw_model.specs.Program.{ProgramSet}
use Rattle.raw_model.specs.Start.{MachineState}
use Rattle.raw_model.specs.Rest.{IsLawfulFrom, end_from}
use Rattle.raw_fabric_rule.specs.declared.layout.TheConstants.{STRIDE, PLACES}
use Rattle.raw_fabric_rule.specs.Views.{About, Hold, Part, View}
use Rattle.raw_fabric_rule.specs.ByEnds.{procs, wires, producer, producer_end, consumer, consumer_end, local, wire}
use Rattle.raw_fabric_rule.specs.Word.{field, status, data_word, flight}
use Rattle.raw_fabric_rule.specs.Rule.{steps_of, touches_by_step}
use Rattle.raw_fabric_rule.specs.Plays.{HasHold}

-- how many values wire w holds, by the two status words
abbrev pub on_wire : ProgramSet → List ℕ → ℕ → ℕ
on_wire set words w = (field (producer_end set w) (status words (producer set w)) + PLACES - field (consumer_end set w) (status words (consumer set w))) % PLACES

-- the values on wire w, by the words alone
unfoldable pub wire_of : ProgramSet → List ℕ → ℕ → List ℕ
wire_of set words w = flight (data_word set words w) (field (consumer_end set w) (status words (consumer set w))) (on_wire set words w)

-- s is where a lawful list leads that has the steps of each log; the view shows its local states, and what each step of its
-- processors touched, and the words show its wires
pub record IsClosed (about : About) (words : List ℕ) (v : View) (s : MachineState) : Type 0 where
  pub history : List ℕ
  pub lawful : IsLawfulFrom about.set about.opened history
  pub ends : end_from about.set about.opened history ≡ s
  pub locals_all : length s.locals ≡ procs about.set
  pub wires_all : length s.wires ≡ wires about.set
  pub logs : (i : ℕ) (y : Part) → get_elem? v.parts i ≡ some y → y.log ≡ steps_of about.workers y.worker history
  pub locals : (p : ℕ) (u : Hold) → HasHold v p u → local s p ≡ u.local
  pub touches : (p : ℕ) (u : Hold) → HasHold v p u → touches_by_step about.set about.opened history p ≡ u.touches
  -- data words are words of 32 bits
  pub small : (i : ℕ) → STRIDE * procs about.set ≤ i → slice_index words i < 2 ^ 32
  -- the words alone show the wires
  pub wires_are : (w : ℕ) → w < wires about.set → (on_wire about.set words w ≤ about.set.depth) × (wire s w ≡ wire_of about.set words w)
