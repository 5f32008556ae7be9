use Rattle.std.proofs.Common.{[]}
use Rattle.raw_fabric_rule.proofs.Opens.{opens}
use Rattle.raw_fabric_rule.proofs.whole.open_table.Goals as goal

pub of_words-requires : goal.of_words-requires
of_words-requires c = opens {S = Unit {0}} _ _ [] c.requires
