-- The stall turns that the processors of a pass owe.
use Rattle.std.specs.Prelude.{◌≡◌, ℕ, ◌+◌, sum_by}
use Rattle.raw_processor.specs.Processor.{owed_of}
use Rattle.raw_fabric.specs.declared.pass.Pass.{Pass}
use Rattle.raw_fabric.specs.declared.answer.FabricTurn.{FabricTurn}
use Rattle.raw_fabric.specs.declared.answer.FabricTurn.TheVariants.{Fired, Stalled}

-- how many they owe together
abbrev pub owing : Pass → ℕ
owing pass = sum_by owed_of pass.processors.items

-- how many they owed before a call and owe after it: a stall turn is one less, and only a step adds to them
abbrev pub IsOwingAfter : FabricTurn → ℕ → ℕ → Type 0
IsOwingAfter Fired old new = Unit {0}
IsOwingAfter Stalled old new = new + 1 ≡ old
IsOwingAfter _ old new = new ≡ old
