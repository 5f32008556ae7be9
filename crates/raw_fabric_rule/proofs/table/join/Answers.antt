use Rattle.std.proofs.Common.{rules}
use Rattle.raw_fabric_rule.proofs.Seats.{joins}
use Rattle.raw_fabric_rule.proofs.table.join.Goals as goal

pub join_seat-requires : goal.join_seat-requires
join_seat-requires c = (search rules, search rules, search rules, search rules, joins _ _ _ _ _)
