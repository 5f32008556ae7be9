use Rattle.std.proofs.Common.{◌≡◌, length, Some, subst}
use Rattle.std.specs.Prelude.{Option, IfOk, IsSomeAnd}
use Rattle.raw_model.specs.TileTable.{next_instruction}
use Rattle.raw_model.specs.Machine.{first_operand, second_operand}
use Rattle.raw_tile.specs.Given.{values_of}
use Rattle.raw_term.specs.Terms.{Overflows}
use Rattle.raw_term.specs.TermRows.{TileTerms, term_effect}
use Rattle.raw_term.specs.Tiles.{IsFired}
use Rattle.raw_prove.proofs.Turning.{effects_same}
use Rattle.raw_prove.proofs.turns.fire_tile.Goals as goal
use Rattle.raw_prove.proofs.turns.fire_tile.Goals.{After-fire}

same : (c : After-fire) → term_effect c.args.table.now (Some c.instruction_of-ins.result.now) (length c.args.program.now) c.args.tile.now c.operand_at_rs-a.result c.operand_at_rt-b.result
    ≡ term_effect c.args.table.now (next_instruction c.args.program.now c.args.tile.now) (length c.args.program.now) c.args.tile.now
    (first_operand (next_instruction c.args.program.now c.args.tile.now) c.args.tile.now.regs (values_of c.args.given))
    (second_operand (next_instruction c.args.program.now c.args.tile.now) c.args.tile.now.regs (values_of c.args.given))
same c =
    effects_same c.args.table.now (length c.args.program.now) c.args.tile.now c.instruction_of-ins.result.now (next_instruction c.args.program.now c.args.tile.now) c.args.given
    c.operand_at_rs-a.result c.operand_at_rt-b.result c.instruction_of-ins.ensures c.requires.given c.operand_at_rs-a.ensures c.operand_at_rt-b.ensures

pub returns-clause-fired : goal.returns-clause-fired
returns-clause-fired c =
    subst (λ (o : Option TileTerms). IfOk c.fire.result (λ out. IsFired c.args.table.now c.args.tile.now o c.fire.new.table c.fire.new.self out))
    (same (goal.at.returns-clause-fired c).After-fire) c.fire.ensures.fired

pub returns-clause-too_many : goal.returns-clause-too_many
returns-clause-too_many c = λ e.
    subst (λ (o : Option TileTerms). IsSomeAnd o (λ t. Overflows t.nodes)) (same (goal.at.returns-clause-too_many c).After-fire) (c.fire.ensures.too_many e)
