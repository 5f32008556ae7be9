use Rattle.raw_debug.proofs.trail.Trail.keep_here.Goals as goal

pub invariant_of-self : goal.invariant_of-self
invariant_of-self c = record { under_way = c.self.invariant.under_way; copies = c.free_one-free.ensures c.self.inside.walk.machine.set c.self.invariant.copies }
