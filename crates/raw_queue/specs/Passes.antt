-- What an end's pass is, in the terms of the queue.
use Rattle.std.specs.Prelude.{◌≡◌, true, false, Option, None}
use Rattle.std.specs.declared.alloc.Global.{Global}
use Rattle.atomic_blocks.specs.declared.web.Seat.{Seat}
use Rattle.crossbeam_queue.specs.declared.seg_queue.Going.{Going}
use Rattle.raw_queue.specs.declared.item.Item.{Item}
use Rattle.raw_queue.specs.declared.view.EndView.{EndView}
use Rattle.raw_queue.specs.Ends.{QueueId}

abbrev pub Pass : Type 0
Pass = Seat (Option Item) (Going Item EndView) Global

-- the queue that the pass is of
abbrev pub queue_of : Pass → QueueId
queue_of p = record { web = p.web; heap = p.heap }

-- the pass puts and carries nothing
pub record IsPutting (p : Pass) : Type 0 where
  pub hand : p.me.hand ≡ None
  pub spare : p.me.spare ≡ None
  pub puts : p.me.view.client.puts ≡ true
  pub takes : p.me.view.client.takes ≡ false

-- the pass takes and carries nothing
pub record IsTaking (p : Pass) : Type 0 where
  pub hand : p.me.hand ≡ None
  pub spare : p.me.spare ≡ None
  pub puts : p.me.view.client.puts ≡ false
  pub takes : p.me.view.client.takes ≡ true
