-- The instructions of a switch have the wires that they name.
use Rattle.std.proofs.Common.{◌≡◌, ℕ, zero, suc, ◌+◌, ◌-◌, ◌<◌, ◌≤◌, true, List, [], ◌∷◌, length, Option, Some, None, refl, ap, subst, ◌∙◌, arith}
use Rattle.std.specs.Prelude.{slice_get, slice_index_or, is_some}
use Rattle.raw_switch_isa.specs.Instruction.{SwitchInstruction}
use Rattle.raw_grid.specs.Topology.{Topology, tile_count}
use Rattle.raw_grid.specs.Wires.{output_wire}
use Rattle.raw_model.specs.Program.{ProgramSet, TileProgram, IsSet, has_wires}
use Rattle.raw_model.specs.Local.{SwitchLocal}
use Rattle.raw_model.specs.Machine.{program_switch, switch_code, given_to, sent_to, switch_network_row}
use Rattle.raw_model.specs.SwitchTable.{SwitchEffect, next_instruction, switch_row}
use Rattle.raw_model.proofs.Words.{all_at}
use Rattle.raw_processor.specs.declared.end_wires.EndWires.{EndWires}
use Rattle.raw_processor.specs.Ends.{AreEndsOf}
use Rattle.raw_processor.specs.Given.{sent_at}
use Rattle.raw_processor.proofs.EndLists.{flat_alike}

-- an instruction stands where a program has one
pub some_inside : {X : Type 0} (xs : List X) (i : ℕ) → i < length xs → is_some (slice_get xs i) ≡ true
some_inside [] i h = absurd (omega arith)
some_inside (x ∷ xs) zero h = refl
some_inside (x ∷ xs) (suc i) h = some_inside xs i (omega arith)

-- the effect of a switch's next instruction with the values that it takes
abbrev pub effect_with : Topology → ℕ → List SwitchInstruction → SwitchLocal → List ℕ → SwitchEffect
effect_with topo p code l values = switch_row code l (given_to topo p (next_instruction code l) values)

-- what a firing of a switch sends is what its row sends
pub sent_is : (set : ProgramSet) (p : ℕ) (l : SwitchLocal) (es : EndWires) (code : List SwitchInstruction) (values : List ℕ) (given sent : List (Option ℕ))
    → AreEndsOf set.topo p es → code ≡ switch_code set p → given ≡ given_to set.topo p (next_instruction code l) values → sent ≡ (switch_row code l given).sent
    → sent_at es.outputs sent ≡ (switch_network_row set.topo p (effect_with set.topo p (switch_code set p) l values)).sent
sent_is set p l es code values given sent are is_code is_given is_sent =
    let effect = effect_with set.topo p (switch_code set p) l values in
    ap (sent_at es.outputs)
    (is_sent ∙ ap (λ (g : List (Option ℕ)). (switch_row code l g).sent) is_given ∙ ap (λ code. (effect_with set.topo p code l values).sent) is_code)
    ∙ flat_alike (λ end. sent_to (slice_index_or es.outputs end None) (slice_index_or effect.sent end None)) (λ end. sent_to (output_wire set.topo p end) (slice_index_or effect.sent end None))
    (λ end below. ap (λ w. sent_to w (slice_index_or effect.sent end None)) (are.outputs end below))

-- a switch names only ends that have a wire
module _ (set : ProgramSet) (valid : IsSet set) (p : ℕ) (behind : tile_count set.topo ≤ p) where
  wired_by : (o : Option TileProgram) (pc : ℕ) (ins : SwitchInstruction) → slice_get set.tiles (p - tile_count set.topo) ≡ o
      → slice_get (program_switch o) pc ≡ Some ins → has_wires set.topo p ins ≡ true
  wired_by None pc ins here e = cc e
  wired_by (Some program) pc ins here e =
      let is : tile_count set.topo + (p - tile_count set.topo) ≡ p = omega (arith, behind) in
      subst (λ q. has_wires set.topo q ins ≡ true) is
      (all_at (λ ins. has_wires set.topo (tile_count set.topo + (p - tile_count set.topo)) ins ≡ true) program.switch pc ins
      (valid.wires (p - tile_count set.topo) program here) e)

  pub wired_next : (l : SwitchLocal) (ins : SwitchInstruction) → next_instruction (switch_code set p) l ≡ Some ins
      → has_wires set.topo p ins ≡ true
  wired_next l ins e = wired_by (slice_get set.tiles (p - tile_count set.topo)) l.pc ins refl e
