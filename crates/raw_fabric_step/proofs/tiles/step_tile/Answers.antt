use Rattle.std.proofs.Common.{sym, ◌∙◌}
use Rattle.raw_fabric_step.proofs.tiles.step_tile.Goals as goal

pub execute_within-touched-requires-clause-within : goal.execute_within-touched-requires-clause-within
execute_within-touched-requires-clause-within c = (
  c.next_step-step.result.now,
  c.next_step-step.ensures,
  sym c.is_within.ensures ∙ c.if-is_within.true,
)
