-- A port as it is kept in memory.
use Rattle.std.specs.Prelude.{ℕ}
use Rattle.raw_model.specs.Local.{PortLocal}

-- a port's local state, and how many words its list of words has room for
pub record Port : Type 0 where
  pub local : PortLocal
  pub room : ℕ
