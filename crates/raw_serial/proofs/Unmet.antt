-- What processors need, and what they wait for.
use Rattle.std.proofs.Common.{◌≡◌, ℕ, Bool, true, false, List, Option, Some, None, refl, ap, ◌∙◌}
use Rattle.raw_tile_isa.specs.Instruction.{Instruction}
use Rattle.raw_switch_isa.specs.Instruction.{SwitchInstruction}
use Rattle.raw_grid.specs.declared.parts.WireId.{WireId}
use Rattle.raw_model.specs.Program.{ProgramSet}
use Rattle.raw_model.specs.Local.{Tile, Switch, TileLocal, SwitchLocal}
use Rattle.raw_model.specs.TileTable.{next_instruction}
use Rattle.raw_model.specs.SwitchTable.{next_instruction as next_switch_instruction}
use Rattle.raw_model.specs.Machine.{tile_code, tile_takes, tile_sends, switch_code, switch_takes, switch_sends}
use Rattle.raw_processor.specs.declared.end_wires.EndWires.{EndWires}
use Rattle.raw_processor.specs.Ends.{AreEndsOf}
use Rattle.raw_serial.specs.declared.turn.Turn.{Turn}
use Rattle.raw_serial.specs.declared.turn.Turn.TheVariants.{Waits}
use Rattle.raw_serial.specs.Needs.{AreNeedsOf}
use Rattle.raw_serial.specs.Turns.{turn_by}

pub tile_needs : (set : ProgramSet) (p : ℕ) (l : TileLocal) (es : EndWires) (code : List Instruction) (taken_from sent_to : List ℕ)
    → AreEndsOf set.topo p es → code ≡ tile_code set p → taken_from ≡ tile_takes set.topo p (next_instruction code l)
    → sent_to ≡ tile_sends set.topo p (next_instruction code l) → AreNeedsOf set p (Tile l) es taken_from sent_to
tile_needs set p l es code taken_from sent_to are is_code is_taken is_sent =
    record {
      ends = are;
      takes = is_taken ∙ ap (λ code. tile_takes set.topo p (next_instruction code l)) is_code;
      sends = is_sent ∙ ap (λ code. tile_sends set.topo p (next_instruction code l)) is_code;
    }

pub switch_needs : (set : ProgramSet) (p : ℕ) (l : SwitchLocal) (es : EndWires) (code : List SwitchInstruction) (taken_from sent_to : List ℕ)
    → AreEndsOf set.topo p es → code ≡ switch_code set p → taken_from ≡ switch_takes set.topo p (next_switch_instruction code l)
    → sent_to ≡ switch_sends set.topo p (next_switch_instruction code l) → AreNeedsOf set p (Switch l) es taken_from sent_to
switch_needs set p l es code taken_from sent_to are is_code is_taken is_sent =
    record {
      ends = are;
      takes = is_taken ∙ ap (λ code. switch_takes set.topo p (next_switch_instruction code l)) is_code;
      sends = is_sent ∙ ap (λ code. switch_sends set.topo p (next_switch_instruction code l)) is_code;
    }

-- a turn that waits names the first wait
pub waits_is : (b : Bool) (o : Option ℕ) (w : ℕ) → Waits (record { 0 = w }) ≡ turn_by b false o → o ≡ Some w
waits_is false (Some v) w e = let same : ◌≡◌ {A = WireId} (record { 0 = v }) (record { 0 = w }) = cc e in ap (λ (i : WireId). Some i.0) same
waits_is b o w e = absurd (cc e)

-- one that does not wait has none
pub waits_not : (b : Bool) (o : Option ℕ) (turn : Turn) → turn ≡ turn_by b false o → ((w : ℕ) → turn ≡ Waits (record { 0 = w }) → ⊥) → (b ≡ true → o ≡ None) → o ≡ None
waits_not true o turn e not_waits none = none refl
waits_not false None turn e not_waits none = refl
waits_not false (Some w) turn e not_waits none = absurd (not_waits w e)
