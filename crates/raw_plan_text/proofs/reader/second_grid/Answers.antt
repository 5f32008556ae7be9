use Rattle.std.proofs.Common.{sym, ap, ◌∙◌}
use Rattle.raw_plan_text.specs.Faults.{form_fault}
use Rattle.raw_plan_text.proofs.Steps.{bad_size, second_grid}
use Rattle.raw_plan_text.proofs.reader.second_grid.Goals as goal

pub returns-then-is_size : goal.returns-then-is_size
returns-then-is_size c entries begun =
    ap (form_fault entries) (c.in-Some.ensures {u = tt}) ∙ second_grid entries c.in-Some.columns c.in-Some.rows begun (sym c.if-is_size.ensures.value)

pub returns-else-is_size : goal.returns-else-is_size
returns-else-is_size c entries begun =
    ap (form_fault entries) (c.in-Some.ensures {u = tt}) ∙ bad_size entries c.in-Some.columns c.in-Some.rows (sym c.if-is_size.ensures.value)
