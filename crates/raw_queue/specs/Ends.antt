-- What contracts see of a queue and of its ends.
use Rattle.std.specs.Prelude.{◌≡◌, ℕ, ◌-◌, ◌^◌, List, ◌++◌, length, min}
use Rattle.std.specs.declared.alloc.Global.{Global}
use Rattle.crossbeam_queue.specs.SegTies.{SegId}
use Rattle.raw_queue.specs.declared.item.Item.{Item}

-- which queue it is
abbrev pub QueueId : Type 0
QueueId = SegId Global

-- the queue of an end, and what was put or taken there, in order
pub record QueueEnd : Type 0 where
  pub queue : QueueId
  pub items : List Item

-- what was taken is a prefix of what was put, and so many items follow it there, or 2 ^ 64 - 1 where more follow
pub record Leaves (put taken : List Item) (count : ℕ) : Type 0 where
  pub rest : List Item
  pub prefix : put ≡ taken ++ rest
  pub counted : count ≡ min (length rest) (2 ^ 64 - 1)
