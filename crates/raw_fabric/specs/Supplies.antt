-- The memory of a fabric that is being opened, but that of its table.
use Rattle.std.specs.Prelude.{◌≡◌, ℕ, ◌<◌, ◌≤◌, vec_len, vec_capacity}
use Rattle.raw_serial.specs.Running.{Running}
use Rattle.raw_fabric.specs.declared.fabric.Supplies.{Supplies}
use Rattle.raw_fabric.specs.Laying.{HasWords}
use Rattle.raw_fabric.specs.Opened.{AreAllSides, about_before}
use Rattle.raw_fabric.specs.Rooms.{AreRooms}

-- This is that of a fabric for a machine and so many workers, whose logs have room for so many steps: the words carry the
-- machine's state.
pub record AreSupplies (m : Running) (workers log_steps : ℕ) (supplies : Supplies) : Type 0 where
  pub some_worker : 0 < workers
  pub words : HasWords m.set m.state supplies.words.items
  pub sides : AreAllSides m.set supplies.sides.items
  pub rooms_many : vec_len supplies.rooms ≡ workers
  pub rooms : AreRooms (about_before m workers) log_steps supplies.rooms.items
  pub passes_none : vec_len supplies.passes ≡ 0
  pub passes_room : workers ≤ vec_capacity supplies.passes
  pub logs_many : vec_len supplies.logs ≡ workers
