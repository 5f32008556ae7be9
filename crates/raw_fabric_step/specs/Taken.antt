-- What the fetches of a row leave.
use Rattle.std.specs.Prelude.{◌≡◌, ℕ, Option, is_some}
use Rattle.raw_tile.specs.declared.fire.TileGiven.{TileGiven}
use Rattle.raw_tile.specs.Given.{values_of as given_values}
use Rattle.raw_fabric_rule.specs.Views.{About, Hold}
use Rattle.raw_fabric_rule.specs.Plays.{values_of}
use Rattle.raw_fabric_step.specs.Units.{IsReady}
use Rattle.raw_fabric_step.specs.Fired.{IsHeldFor}
use Rattle.raw_fabric_step.specs.Pairs.{HasOperands}

-- the operands at these two inputs are fetched for the unit of p, and are those given; nothing else changed
pub record HasTaken (about : About) (p status : ℕ) (first second : Option ℕ) (given : TileGiven) (u z : Hold) : Type 0 where
  pub held : IsHeldFor u z
  pub operands : HasOperands about p first second z
  pub values : values_of z ≡ given_values given
  -- there is one where there is an input for it
  pub first_is : is_some given.a ≡ is_some first
  pub second_is : is_some given.b ≡ is_some second
  pub ready : IsReady status z
