use Rattle.std.proofs.Common.{subst}
use Rattle.raw_tile_isa.specs.Instruction.{Instruction}
use Rattle.raw_switch_isa.specs.Instruction.{SwitchInstruction}
use Rattle.std.specs.Prelude.{[], ◌∷◌}
use Rattle.raw_codegen.specs.Parts.{ToTile, ToSwitch, Gives}
use Rattle.raw_codegen.proofs.Halts.{halts_step}
use Rattle.raw_codegen.proofs.programs.push_halts.Goals as goal

pub loop-tile-preserved : goal.loop-tile-preserved
loop-tile-preserved c = λ n.
    halts_step n c.loop-tile.tile c.args.tiles.now.items c.loop-tile.tiles.items c.push_tile.new.tiles.items c.push_switch.new.tiles.items (c.loop-tile.invariant n)
    (subst (λ (ins : Instruction). Gives n (ToTile c.loop-tile.tile ins ∷ []) c.loop-tile.tiles.items c.push_tile.new.tiles.items) c.halt.ensures (c.in_ok-push_tile.ensures.gives n))
    (subst (λ (ins : SwitchInstruction). Gives n (ToSwitch c.loop-tile.tile ins ∷ []) c.push_tile.new.tiles.items c.push_switch.new.tiles.items) c.halt-in-loop-tile.ensures (c.in_ok-push_switch.ensures.gives n))
