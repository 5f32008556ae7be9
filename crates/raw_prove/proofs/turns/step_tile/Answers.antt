use Rattle.std.proofs.Common.{◌≡◌, List, Option, Some, None, Ok, Err, length, sym, ap, subst, ◌∙◌}
use Rattle.std.specs.Prelude.{IfOk, OnErr}
use Rattle.raw_tile.specs.declared.fire.TileOut.{TileOut}
use Rattle.raw_term.specs.declared.refusal.TermRefusal.TheVariants.{TooMany, Memory}
use Rattle.raw_term.specs.Tiles.{IsFired}
use Rattle.raw_tile_isa.specs.Instruction.{Instruction}
use Rattle.raw_network.proofs.Wires.{length-taken}
use Rattle.raw_model.specs.Local.{Tile}
use Rattle.raw_model.specs.Machine.{takes, tile_takes, tile_sends}
use Rattle.raw_model.specs.TileTable.{next_instruction}
use Rattle.raw_tile.specs.Given.{takes_first, takes_second, values_of}
use Rattle.raw_processor.specs.Given.{taken_by, sent_by}
use Rattle.raw_serial.specs.Needs.{AreNeedsOf, IsTaken}
use Rattle.raw_serial.proofs.Unmet.{tile_needs}
use Rattle.raw_serial.proofs.Tiling.{has_networks}
use Rattle.raw_prove.proofs.Turning.{effect_with, tile_not_taken, tile_fired, tile_hung, tile_over, tile_there, tile_room}
use Rattle.raw_prove.proofs.Inside.{tile_inside, tile_here, tile_then, tile_same}
use Rattle.raw_prove.proofs.turns.step_tile.Goals as goal
use Rattle.raw_prove.proofs.turns.step_tile.Goals.{After-step_wires-needs, After-fire_tile}

-- what the next step needs
needs : (c : After-step_wires-needs)
    → AreNeedsOf c.args.set.now c.args.p.0 (Tile c.args.unit.now.tile) c.args.ends.now (taken_by c.step_wires-needs.result) (sent_by c.step_wires-needs.result)
needs c =
    tile_needs c.args.set.now c.args.p.0 c.args.unit.now.tile c.args.ends.now c.deref-code.result.now _ _ c.requires.stands.ends_are (c.deref-code.ensures.value ∙ c.requires.unit.code)
    (c.step_wires-needs.ensures.takes c.args.set.now.topo c.args.p.0 c.requires.stands.ends_are ∙ ap (tile_takes c.args.set.now.topo c.args.p.0) (sym c.step_of-step.ensures))
    (c.step_wires-needs.ensures.sends c.args.set.now.topo c.args.p.0 c.requires.stands.ends_are ∙ ap (tile_sends c.args.set.now.topo c.args.p.0) (sym c.step_of-step.ensures))

pub take_operands-requires-clause-needs : goal.take_operands-requires-clause-needs
take_operands-requires-clause-needs c = record { p = c.args.p.0; l = Tile c.args.unit.now.tile; needs = needs (goal.at.take_operands-requires-clause-needs c).After-step_wires-needs }

pub returns-in_default-clause-turn : goal.returns-in_default-clause-turn
returns-in_default-clause-turn c =
    let l = c.args.unit.now.tile in
    tile_not_taken c.args.set.now c.args.p.0 l c.args.table.now c.args.wires.now c.take_operands.new.wires c.take_operands.result c.in_default.not-Ok
    (c.take_operands.ensures.unmet c.args.p.0 (Tile l) (needs (goal.at.returns-in_default-clause-turn c).After-step_wires-needs))

pub fire_tile-requires-clause-given : goal.fire_tile-requires-clause-given
fire_tile-requires-clause-given c =
    let networks = has_networks c.args.set.now.topo c.args.p.0 c.args.ends.now c.requires.stands.valid.topology c.requires.unit.place c.requires.stands.ends_are in
    let code = c.deref-code.ensures.value ∙ c.requires.unit.code ∙ sym c.tile_program.ensures in
    let next = ap (λ code. next_instruction code c.args.unit.now.tile) (sym code) ∙ c.step_of-step.ensures in
    record {
      first = c.in-Ok.ensures.first ∙ c.step_wires-needs.ensures.first networks ∙ ap takes_first (sym next);
      second = c.in-Ok.ensures.second ∙ c.step_wires-needs.ensures.second networks ∙ ap takes_second (sym next);
    }

needs_then : (c : After-fire_tile)
    → AreNeedsOf c.args.set.now c.args.p.0 (Tile c.args.unit.now.tile) c.args.ends.now (taken_by c.step_wires-needs.result) (sent_by c.step_wires-needs.result)
needs_then c =
    tile_needs c.args.set.now c.args.p.0 c.args.unit.now.tile c.args.ends.now c.deref-code.result.now _ _ c.requires.stands.ends_are (c.deref-code.ensures.value ∙ c.requires.unit.code)
    (c.step_wires-needs.ensures.takes c.args.set.now.topo c.args.p.0 c.requires.stands.ends_are ∙ ap (tile_takes c.args.set.now.topo c.args.p.0) (sym c.step_of-step.ensures))
    (c.step_wires-needs.ensures.sends c.args.set.now.topo c.args.p.0 c.requires.stands.ends_are ∙ ap (tile_sends c.args.set.now.topo c.args.p.0) (sym c.step_of-step.ensures))

took : (c : After-fire_tile) → IsTaken c.args.set.now c.args.p.0 (Tile c.args.unit.now.tile) c.args.wires.now c.take_operands.new.wires (values_of c.in-Ok.given)
took c = c.in-Ok.ensures.met c.args.p.0 (Tile c.args.unit.now.tile) (needs_then c)

fired : (c : After-fire_tile) (out : Option TileOut) → c.fire_tile.result ≡ Ok out
    → IsFired c.args.table.now c.args.unit.now.tile (effect_with c.args.table.now c.tile_program.result.now c.args.unit.now.tile (values_of c.in-Ok.given)) c.fire_tile.new.table c.fire_tile.new.tile out
fired c out e =
    subst (λ r. IfOk r (λ out. IsFired c.args.table.now c.args.unit.now.tile (effect_with c.args.table.now c.tile_program.result.now c.args.unit.now.tile (values_of c.in-Ok.given)) c.fire_tile.new.table c.fire_tile.new.tile out))
    e c.fire_tile.ensures.fired

pub put_out-requires-clause-there : goal.put_out-requires-clause-there
put_out-requires-clause-there c =
    let at = (goal.at.put_out-requires-clause-there c).After-fire_tile in
    tile_there c.args.set.now c.args.p.0 c.args.ends.now c.args.unit.now.tile c.args.table.now c.args.wires.now c.take_operands.new.wires c.tile_program.result.now (values_of c.in-Ok.given)
    c.requires.stands.ends_are c.tile_program.ensures c.requires.going (took at) (length c.take_operands.new.wires) c.in-Ok-Some.out
    (ap length (took at).rest ∙ length-taken (takes c.args.set.now c.args.p.0 (Tile c.args.unit.now.tile)) c.args.wires.now ∙ c.requires.stands.each)

pub put_out-requires-clause-room : goal.put_out-requires-clause-room
put_out-requires-clause-room c =
    let at = (goal.at.put_out-requires-clause-room c).After-fire_tile in
    let some : c.fire_tile.result ≡ Ok (Some c.in-Ok-Some.out) = cc in
    tile_room c.args.set.now c.args.p.0 c.args.ends.now c.args.unit.now.tile c.args.table.now c.args.wires.now c.take_operands.new.wires c.tile_program.result.now (values_of c.in-Ok.given)
    c.requires.stands.ends_are c.tile_program.ensures c.requires.going (took at) c.fire_tile.new.table c.fire_tile.new.tile c.in-Ok-Some.out (fired at (Some c.in-Ok-Some.out) some) c.requires.stands.valid.small_depth

pub returns-in-Ok-Some-clause-turn : goal.returns-in-Ok-Some-clause-turn
returns-in-Ok-Some-clause-turn c =
    let at = (goal.at.returns-in-Ok-Some-clause-turn c).After-fire_tile in
    let some : c.fire_tile.result ≡ Ok (Some c.in-Ok-Some.out) = cc in
    tile_fired c.args.set.now c.args.p.0 c.args.ends.now c.args.unit.now.tile c.args.table.now c.args.wires.now c.take_operands.new.wires c.tile_program.result.now (values_of c.in-Ok.given)
    c.requires.stands.ends_are c.tile_program.ensures c.requires.going (took at) c.fire_tile.new.table c.fire_tile.new.tile c.put_out.new.self c.in-Ok-Some.out c.put_out.ensures (fired at (Some c.in-Ok-Some.out) some)

pub returns-in-Ok-Some-clause-kept : goal.returns-in-Ok-Some-clause-kept
returns-in-Ok-Some-clause-kept c =
    let at = (goal.at.returns-in-Ok-Some-clause-kept c).After-fire_tile in
    let some : c.fire_tile.result ≡ Ok (Some c.in-Ok-Some.out) = cc in
    let program : List Instruction = c.tile_program.result.now in
    tile_then c.args.set.now c.args.p.0 c.args.unit.now c.fire_tile.new.tile program c.requires.unit c.tile_program.ensures
    (tile_inside c.args.table.now (length program) c.args.unit.now.tile _ _ (tile_here c.args.set.now c.args.p.0 c.args.unit.now c.requires.unit c.requires.going program c.tile_program.ensures)
    (next_instruction program c.args.unit.now.tile) c.fire_tile.new.table c.fire_tile.new.tile c.in-Ok-Some.out (fired at (Some c.in-Ok-Some.out) some))
    c.fire_tile.ensures.memory

pub returns-in-Ok-None-clause-turn : goal.returns-in-Ok-None-clause-turn
returns-in-Ok-None-clause-turn c =
    let at = (goal.at.returns-in-Ok-None-clause-turn c).After-fire_tile in
    let none : c.fire_tile.result ≡ Ok None = cc in
    tile_hung c.args.set.now c.args.p.0 c.args.ends.now c.args.unit.now.tile c.args.table.now c.args.wires.now c.take_operands.new.wires c.tile_program.result.now (values_of c.in-Ok.given)
    c.requires.stands.ends_are c.tile_program.ensures c.requires.going (took at) c.fire_tile.new.table c.fire_tile.new.tile (fired at None none)

pub returns-in-Err-TooMany-clause-turn : goal.returns-in-Err-TooMany-clause-turn
returns-in-Err-TooMany-clause-turn c =
    let at = (goal.at.returns-in-Err-TooMany-clause-turn c).After-fire_tile in
    let over : c.fire_tile.result ≡ Err TooMany = cc in
    tile_over c.args.set.now c.args.p.0 c.args.ends.now c.args.unit.now.tile c.args.table.now c.args.wires.now c.take_operands.new.wires c.tile_program.result.now (values_of c.in-Ok.given)
    c.requires.stands.ends_are c.tile_program.ensures c.requires.going (took at) (c.fire_tile.ensures.too_many over)

pub returns-in-Err-TooMany-clause-kept : goal.returns-in-Err-TooMany-clause-kept
returns-in-Err-TooMany-clause-kept c =
    let over : c.fire_tile.result ≡ Err TooMany = cc in
    tile_same c.args.set.now c.args.p.0 c.args.unit.now c.fire_tile.new.tile c.requires.unit (subst (λ r. OnErr r (c.fire_tile.new.tile ≡ c.args.unit.now.tile)) over c.fire_tile.ensures.refused)

pub returns-in-Err-Memory-clause-kept : goal.returns-in-Err-Memory-clause-kept
returns-in-Err-Memory-clause-kept c =
    let memory : c.fire_tile.result ≡ Err Memory = cc in
    tile_same c.args.set.now c.args.p.0 c.args.unit.now c.fire_tile.new.tile c.requires.unit (subst (λ r. OnErr r (c.fire_tile.new.tile ≡ c.args.unit.now.tile)) memory c.fire_tile.ensures.refused)
