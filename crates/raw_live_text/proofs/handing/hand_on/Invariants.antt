use Rattle.std.proofs.Common.{◌≡◌, ℕ, ◌+◌, ◌≤◌, List, ◌++◌, length, take}
use Rattle.raw_live_text.specs.Feeding.{IsCountedAfter, IntakeStands}
use Rattle.raw_live_text.proofs.handing.hand_on.Given as goal

abbrev pub invariant-loop-next : goal.invariant-loop-next
invariant-loop-next g l = record {
  queue : l.to.queue ≡ l.fn.to.queue;
  counted : IsCountedAfter l.intake l.fn.so_far l.so_far l.to.items l.next-index;
  short : length l.so_far.line.items ≤ length l.fn.so_far.line.items + l.next-index;
  stands : (bytes : List ℕ) → IntakeStands l.intake bytes l.fn.so_far l.fn.to.items → IntakeStands l.intake (bytes ++ take l.next-index l.piece) l.so_far l.to.items;
}
