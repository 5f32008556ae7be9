use Rattle.std.proofs.Common.{◌≡◌, ◌≢◌, ℕ, ◌+◌, ◌*◌, ◌%◌, ◌≤◌, Some, length}
use Rattle.std.specs.Prelude.{slice_get, vec_len, vec_capacity}
use Rattle.raw_processor.specs.declared.processor.Processor.{Processor}
use Rattle.raw_fabric.proofs.deal.take_processors.Given as goal

abbrev pub invariant-loop-j : goal.invariant-loop-j
invariant-loop-j l = record {
  many : vec_len l.own ≡ l.j;
  room : l.count ≤ vec_capacity l.own;
  taken : (i : ℕ) (x : Processor) → slice_get l.own.items i ≡ Some x → slice_get l.fn.processors (l.worker + i * l.n) ≡ Some x;
  long : length l.processors ≡ length l.fn.processors;
  others : (p : ℕ) → p % l.n ≢ l.worker → slice_get l.processors p ≡ slice_get l.fn.processors p;
  later : (i : ℕ) → l.j ≤ i → slice_get l.processors (l.worker + i * l.n) ≡ slice_get l.fn.processors (l.worker + i * l.n);
}
