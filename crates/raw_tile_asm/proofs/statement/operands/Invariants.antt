use Rattle.std.proofs.Common.{◌≡◌, take, drop}
use Rattle.raw_asm.specs.Tokens.{tokens_of}
use Rattle.raw_asm.specs.Labels.{place_in}
use Rattle.raw_tile_asm.specs.Operand.{with_operands, AreSmall}
use Rattle.raw_tile_asm.specs.Statement.{no_fields}
use Rattle.raw_tile_asm.proofs.OperandSteps.{AreUnused}
use Rattle.raw_tile_asm.proofs.statement.operands.Given as goal

abbrev pub invariant-loop-k : goal.invariant-loop-k
invariant-loop-k l = record {
  so_far : with_operands (place_in l.labels) l.place (drop l.k l.forms) (drop l.k (tokens_of l.tokens)) l.fields
      ≡ with_operands (place_in l.labels) l.place l.forms (tokens_of l.tokens) no_fields;
  small : AreSmall l.fields;
  unused : AreUnused (take l.k l.forms) l.fields;
}
