use Rattle.std.proofs.Common.{rules}
use Rattle.raw_fabric_rule.proofs.Seats.{splits}
use Rattle.raw_fabric_rule.proofs.table.split.Goals as goal

pub split_seat-requires : goal.split_seat-requires
split_seat-requires c = let s = c.requires.some in (search rules, search rules, splits _ _ _ s.0 s.1 s.2)
