-- What is laid into a fresh table.
use Rattle.std.specs.Prelude.{◌≡◌, ℕ, ◌+◌, ◌*◌, ◌/◌, ◌%◌, ◌<◌, ◌==◌, List, length, slice_index, if◌then◌else◌}
use Rattle.raw_model.specs.Program.{ProgramSet}
use Rattle.raw_model.specs.Start.{MachineState}
use Rattle.raw_fabric_rule.specs.declared.layout.TheConstants.{STRIDE, SIDES}
use Rattle.raw_fabric_rule.specs.ByEnds.{procs, wires, wire}
use Rattle.raw_fabric_rule.specs.Word.{pack, word_count}
use Rattle.raw_fabric_rule.specs.Opening.{sent_before, ends_from}

-- the status word of processor p at the opening
unfoldable pub status_before : ProgramSet → MachineState → ℕ → ℕ
status_before set s p = pack (ends_from (sent_before set s p) 0 SIDES)

-- word i of those before the data words
abbrev pub first_word : ProgramSet → MachineState → ℕ → ℕ
first_word set s i = if i % STRIDE == 0 then status_before set s (i / STRIDE) else 0

-- word i of those from the data words on, STRIDE for each wire: the values of the wire stand in the first of them
abbrev pub value_before : MachineState → ℕ → ℕ
value_before s i = slice_index (wire s (i / STRIDE)) (i % STRIDE)

-- these are all words of the table
pub record HasWords (set : ProgramSet) (s : MachineState) (words : List ℕ) : Type 0 where
  pub long : length words ≡ word_count set
  pub firsts : (i : ℕ) → i < STRIDE * procs set → slice_index words i ≡ first_word set s i
  pub values : (i : ℕ) → i < STRIDE * wires set → slice_index words (STRIDE * procs set + i) ≡ value_before s i
