use Rattle.std.proofs.Common.{◌≡◌, ℕ, false, sym, ap, subst, ◌∙◌}
use Rattle.raw_model.specs.Program.{ProgramSet}
use Rattle.raw_model.specs.Local.{Tile, TileLocal}
use Rattle.raw_model.specs.Machine.{is_stopped}
use Rattle.raw_model.specs.TileTable.{next_instruction}
use Rattle.raw_lengths.specs.Noting.{first_held, IsNoted}
use Rattle.raw_lengths.proofs.Tiling.{tile_noted}
use Rattle.raw_lengths.proofs.noting.note_tile.Goals as goal

pub returns-clause-look : goal.returns-clause-look
returns-clause-look c = λ wires.
    let set : ProgramSet = c.args.set.now in
    let p : ℕ = c.args.p.0 in
    let l : TileLocal = c.args.unit.now.tile in
    let going : is_stopped set p (Tile l) ≡ false = sym (ap (λ (g : ProgramSet). is_stopped g p (Tile l)) c.set.view_is) ∙ sym c.has_stopped.ensures ∙ c.if-has_stopped.false in
    subst (λ (term : ℕ). IsNoted set p c.args.table.now (Tile l) wires term c.args.table.now (Tile c.move_to.new.tile) wires) (sym c.term_at-term.ensures)
    (subst (λ (k : TileLocal). IsNoted set p c.args.table.now (Tile l) wires (first_held l.regs (next_instruction c.tile_program-program.result.now l)) c.args.table.now (Tile k) wires) (sym c.move_to.ensures)
    (tile_noted set p l c.args.table.now wires c.in-Some.pc going c.tile_program-program.result.now c.tile_program-program.ensures c.in-Some.ensures))
