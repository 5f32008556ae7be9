use Rattle.std.proofs.Common.{◌+◌, ◌*◌}
use Rattle.raw_lost.proofs.finding.+finding.Given as goal

abbrev pub decreases-follow : goal.decreases-follow
decreases-follow l = 2 * l.left

abbrev pub decreases-kind_of_root : goal.decreases-kind_of_root
decreases-kind_of_root l = 2 * l.left + 1
