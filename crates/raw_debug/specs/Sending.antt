-- What is kept of the values that were sent on a wire.
use Rattle.std.specs.Prelude.{◌≡◌, ℕ, ◌-◌, List, drop, length}
use Rattle.raw_debug.specs.declared.sent.Sent.{Sent}

-- of these values, their number and the last eight
pub record IsSent (sent : Sent) (values : List ℕ) : Type 0 where
  pub count : sent.count ≡ length values
  pub last : sent.last.items ≡ drop (length values - 8) values
