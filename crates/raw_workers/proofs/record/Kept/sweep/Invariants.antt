use Rattle.std.proofs.Common.{◌≡◌, ℕ, ◌<◌, false, vec_len}
use Rattle.raw_model.specs.Rest.{enabled}
use Rattle.raw_workers.specs.Kept.{IsKeptOn}
use Rattle.raw_workers.proofs.record.Kept.sweep.Given as goal

abbrev pub invariant-loop-p : goal.invariant-loop-p
invariant-loop-p l =
    IsKeptOn l.fn.self.machine.set l.fn.self l.self
    × (vec_len l.self.steps ≡ vec_len l.fn.self.steps → (q : ℕ) → q < l.p → enabled l.fn.self.machine.set l.fn.self.machine.state q ≡ false)
