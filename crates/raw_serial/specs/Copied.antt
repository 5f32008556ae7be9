-- Processors that were made as others.
use Rattle.std.specs.Prelude.{◌≡◌, ℕ, List, length, slice_get, Some}
use Rattle.raw_processor.specs.declared.processor.Processor.{Processor}
use Rattle.raw_processor.specs.Processor.{IsCopy}

-- processor p, which was one of the first list, is now as the one of the second
abbrev pub IsCopyAt : List Processor → List Processor → ℕ → Processor → Type 0
IsCopyAt old others p now = (x y : Processor) → slice_get old p ≡ Some x → slice_get others p ≡ Some y → IsCopy x y now

-- each processor was made as the one of the second list
pub record AreCopies (old others new : List Processor) : Type 0 where
  pub each : length new ≡ length old
  pub copied : (p : ℕ) (now : Processor) → slice_get new p ≡ Some now → IsCopyAt old others p now
