use Rattle.raw_debug.proofs.Copying.{put_on}
use Rattle.raw_debug.proofs.trail.Trail.keep.Goals as goal

pub invariant_of-self : goal.invariant_of-self
invariant_of-self c = record {
  under_way = c.self.invariant.under_way;
  copies = put_on c.self.inside.walk c.copy_from.new.self c.self.inside.copies.items c.self.inside.kept c.copy_from.ensures c.self.invariant;
}
