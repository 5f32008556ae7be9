-- Seats at a table.
use Rattle.std.specs.Prelude.{◌≡◌}
use Rattle.atomic_table.specs.declared.shared.Seat.{Seat}

-- the same seat after a step: it is at the same table, with the same number, and holds the same slots; what it knows may be other
pub record IsSameSeat {S V : Type 0} (old new : Seat S V) : Type 0 where
  pub table : new.table_id ≡ old.table_id
  pub number : new.id ≡ old.id
  pub slots : new.me.1 ≡ old.me.1

-- the same seat after a step, and this is what it knows then
pub record IsSeatWith {S V : Type 0} (view : V) (old new : Seat S V) : Type 0 where
  pub same : IsSameSeat old new
  pub view_is : new.me.0 ≡ view
