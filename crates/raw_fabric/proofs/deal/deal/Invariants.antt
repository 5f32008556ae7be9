use Rattle.std.proofs.Common.{◌≡◌, ℕ, ◌-◌, ◌%◌, ◌≤◌, Some, [], length}
use Rattle.std.specs.Prelude.{slice_get, vec_len, vec_capacity}
use Rattle.raw_fabric_rule.specs.Opening.{parts_from}
use Rattle.raw_fabric.specs.declared.pass.Pass.{Pass}
use Rattle.raw_fabric.specs.Opened.{IsPass}
use Rattle.raw_fabric.specs.Rooms.{AreRooms}
use Rattle.raw_fabric.specs.Dealing.{AreDealt, HaveFirstParts}
use Rattle.raw_fabric.proofs.deal.deal.Given as goal

abbrev pub invariant-loop-worker : goal.invariant-loop-worker
invariant-loop-worker l = record {
  rooms_many : vec_len l.rooms ≡ l.workers - l.worker;
  rooms : AreRooms l.words.key l.log_steps l.rooms.items;
  passes_many : vec_len l.passes ≡ l.worker;
  passes_room : l.workers ≤ vec_capacity l.passes;
  passes : (k : ℕ) (pass : Pass) → slice_get l.passes.items k ≡ Some pass → IsPass l.words.key l.words.table_id k pass;
  parts : HaveFirstParts l.words.key l.passes.items;
  dealt : AreDealt l.workers l.log_steps l.fn.processors l.passes.items;
  left : (p : ℕ) → l.worker ≤ p % l.workers → slice_get l.processors p ≡ slice_get l.fn.processors p;
  long : length l.processors ≡ length l.fn.processors;
  seat_table : l.seat.table_id ≡ l.words.table_id;
  seat_slots : l.seat.me.1 ≡ [];
  seat_parts : l.seat.me.0.parts ≡ parts_from l.words.key l.worker (l.workers - l.worker);
}
