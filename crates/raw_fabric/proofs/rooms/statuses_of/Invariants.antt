use Rattle.std.proofs.Common.{◌≡◌, ◌≤◌}
use Rattle.std.specs.Prelude.{vec_len, vec_capacity}
use Rattle.raw_fabric.specs.Opened.{about_before}
use Rattle.raw_fabric.specs.Rooms.{HaveStatuses}
use Rattle.raw_fabric.proofs.rooms.statuses_of.Given as goal

abbrev pub invariant-loop-j : goal.invariant-loop-j
invariant-loop-j l = record {
  many : vec_len l.statuses ≡ l.j;
  room : l.count ≤ vec_capacity l.statuses;
  statuses : HaveStatuses (about_before l.machine l.fn.workers) l.worker l.statuses.items;
}
