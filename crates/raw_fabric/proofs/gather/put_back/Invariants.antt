use Rattle.std.proofs.Common.{◌≡◌, ◌≢◌, ℕ, ◌+◌, ◌*◌, ◌%◌, ◌≤◌, Some, length}
use Rattle.std.specs.Prelude.{slice_get, vec_len}
use Rattle.raw_processor.specs.declared.processor.Processor.{Processor}
use Rattle.raw_fabric.proofs.gather.put_back.Given as goal

-- what is left is a front of the list, and the processors behind it are in their places
abbrev pub invariant-loop-processor : goal.invariant-loop-processor
invariant-loop-processor l = record {
  few : vec_len l.own ≤ vec_len l.fn.own;
  front : (j : ℕ) (x : Processor) → slice_get l.own.items j ≡ Some x → slice_get l.fn.own.items j ≡ Some x;
  placed : (j : ℕ) (x : Processor) → vec_len l.own ≤ j → slice_get l.fn.own.items j ≡ Some x → slice_get l.processors (l.worker + j * l.fn.workers) ≡ Some x;
  long : length l.processors ≡ length l.fn.processors;
  others : (p : ℕ) → p % l.fn.workers ≢ l.worker → slice_get l.processors p ≡ slice_get l.fn.processors p;
}

abbrev pub decreases-loop-processor : goal.decreases-loop-processor
decreases-loop-processor l = vec_len l.own
