-- The view of the first seat: all processors in the opened state, and what the words have to be.
use Rattle.std.specs.Prelude.{◌≡◌, ℕ, zero, suc, ◌+◌, ◌-◌, ◌*◌, ◌/◌, ◌^◌, ◌<◌, ◌≤◌, nat_lt, List, [], ◌∷◌, length, slice_index, if◌then◌else◌}
use Rattle.raw_model.specs.Program.{ProgramSet, IsSet}
use Rattle.raw_model.specs.Start.{MachineState, Fits}
use Rattle.raw_fabric_rule.specs.declared.layout.TheConstants.{STRIDE, END_COUNT, SIDES}
use Rattle.raw_fabric_rule.specs.Views.{About, Hold, Part, View}
use Rattle.raw_fabric_rule.specs.ByEnds.{procs, wires, wire_at, local, wire}
use Rattle.raw_fabric_rule.specs.Word.{pack, word_count, status, data_word}

-- the number of values on the wire at an end, and 0 where there is none
abbrev pub held_at : ProgramSet → MachineState → ℕ → ℕ → ℕ
held_at set s p end = if nat_lt (wire_at set p end) (wires set) then length (wire s (wire_at set p end)) else 0

-- the counts at the opening: at an output what the wire holds, at an input 0
abbrev pub sent_before : ProgramSet → MachineState → ℕ → ℕ → ℕ
sent_before set s p end = if nat_lt end END_COUNT then 0 else held_at set s p end

-- the counts then seen of the other sides
abbrev pub seen_before : ProgramSet → MachineState → ℕ → ℕ → ℕ
seen_before set s p end = if nat_lt end END_COUNT then held_at set s p end else 0

-- f at the numbers from e on, n of them
unfoldable pub ends_from : (ℕ → ℕ) → ℕ → ℕ → List ℕ
ends_from f e zero = []
ends_from f e (suc n) = f e ∷ ends_from f (suc e) n

abbrev pub first_hold : ProgramSet → MachineState → ℕ → Hold
first_hold set s p =
    record {
      local = local s p;
      touches = [];
      counts = ends_from (sent_before set s p) 0 SIDES;
      seen = ends_from (seen_before set s p) 0 SIDES;
      fetched = [];
      staged = [];
    }

-- the units of p, p + n and so on, as many as said
abbrev pub first_holds : ProgramSet → MachineState → ℕ → ℕ → ℕ → List Hold
first_holds set s n p zero = []
first_holds set s n p (suc many) = first_hold set s p ∷ first_holds set s n (p + n) many

-- how many processors of all have the number k modulo n, for k below n
abbrev pub share : ℕ → ℕ → ℕ → ℕ
share all n k = (all + (n - 1) - k) / n

abbrev pub first_part : About → ℕ → Part
first_part about k =
    record { about = about; worker = k; log = []; units = first_holds about.set about.opened about.workers k (share (procs about.set) about.workers k) }

abbrev pub parts_from : About → ℕ → ℕ → List Part
parts_from about k zero = []
parts_from about k (suc n) = first_part about k ∷ parts_from about (suc k) n

unfoldable pub first_view : About → View
first_view about = record { parts = parts_from about 0 about.workers; looks = 0; look_at = 0; look_word = 0 }

-- the words of a fresh table carry the opened state
pub record IsLaid (about : About) (words : List ℕ) : Type 0 where
  pub is_set : IsSet about.set
  pub some_worker : 0 < about.workers
  pub fits : Fits about.set about.opened
  pub wide : length words ≡ word_count about.set
  pub small : (i : ℕ) → STRIDE * procs about.set ≤ i → slice_index words i < 2 ^ 32
  pub packs : (p : ℕ) → p < procs about.set → status words p ≡ pack (ends_from (sent_before about.set about.opened p) 0 SIDES)
  pub values : (w k : ℕ) → w < wires about.set → k < length (wire about.opened w) → data_word about.set words w k ≡ slice_index (wire about.opened w) k
