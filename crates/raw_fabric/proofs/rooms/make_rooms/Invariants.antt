use Rattle.std.proofs.Common.{◌≡◌, ◌≤◌}
use Rattle.std.specs.Prelude.{vec_len, vec_capacity}
use Rattle.raw_fabric.specs.Opened.{about_before}
use Rattle.raw_fabric.specs.Rooms.{AreRooms}
use Rattle.raw_fabric.proofs.rooms.make_rooms.Given as goal

abbrev pub invariant-loop-i : goal.invariant-loop-i
invariant-loop-i l = record {
  many : vec_len l.rooms ≡ l.i;
  room : l.n ≤ vec_capacity l.rooms;
  rooms : AreRooms (about_before l.machine l.workers) l.log_steps l.rooms.items;
}
