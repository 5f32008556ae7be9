use Rattle.std.proofs.Common.{◌≤◌, length, take}
use Rattle.raw_state_text.proofs.Sections.{Begun}
use Rattle.raw_path.specs.Text.{from_lines}
use Rattle.raw_path.proofs.writing.put_stretches.Given as goal

abbrev pub invariant-stretches : goal.invariant-stretches
invariant-stretches g l =
    (l.left ≤ length l.told.stretches.items)
    × Begun (g.K.Sink.sight l.fn.out) (g.K.Sink.sight l.out) (from_lines (take l.left l.told.stretches.items)) (from_lines l.told.stretches.items)

abbrev pub decreases-stretches : goal.decreases-stretches
decreases-stretches g l = l.left
