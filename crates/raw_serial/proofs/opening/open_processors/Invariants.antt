use Rattle.std.proofs.Common.{◌≡◌, ℕ, length, Some}
use Rattle.std.specs.Prelude.{slice_get}
use Rattle.raw_processor.specs.declared.processor.Processor.{Processor}
use Rattle.raw_serial.specs.Fresh.{IsFirst}
use Rattle.raw_serial.proofs.opening.open_processors.Given as goal

abbrev pub invariant-loop-p : goal.invariant-loop-p
invariant-loop-p l =
    (length l.processors.items ≡ l.p)
    × ((q : ℕ) (x : Processor) → slice_get l.processors.items q ≡ Some x → IsFirst l.fn.set q x)
