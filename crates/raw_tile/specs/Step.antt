-- An instruction made for stepping.
use Rattle.std.specs.Prelude.{◌≡◌, ℕ, Bool, true, false, ◌&&◌, ◌==◌, Option, Some, None, if◌then◌else◌}
use Rattle.raw_tile_isa.specs.Instruction.{Instruction, uses, is_rs, reads_rt, destination_register}
use Rattle.raw_tile.specs.declared.step.Via.{Via}
use Rattle.raw_tile.specs.declared.step.Via.TheVariants.{Tile, Network1, Network2}

-- what a register stands for: a network, or the tile itself
abbrev pub register_via : ℕ → Via
register_via register = if register == 24 then Network1 else (if register == 25 then Network2 else Tile)

-- the same where the register is used
abbrev pub via_where : Bool → ℕ → Via
via_where used register = if used then register_via register else Tile

-- the same where there is a register
abbrev pub via_of : Option ℕ → Via
via_of None = Tile
via_of (Some register) = register_via register

abbrev pub is_tile : Via → Bool
is_tile Tile = true
is_tile _ = false

-- none of these is a network
abbrev pub are_within : Via → Via → Via → Bool
are_within first second sent = is_tile first && (is_tile second && is_tile sent)

-- an instruction takes nothing from the networks, and sends nothing to them
abbrev pub is_within : Instruction → Bool
is_within ins =
    are_within (via_where (uses is_rs ins.op) ins.rs) (via_where (reads_rt ins.op) ins.rt) (via_of (destination_register ins))

-- these are where an instruction's operands come from and where its result goes
pub record AreItsVias (ins : Instruction) (first second sent : Via) (within : Bool) : Type 0 where
  pub first_is : first ≡ via_where (uses is_rs ins.op) ins.rs
  pub second_is : second ≡ via_where (reads_rt ins.op) ins.rt
  pub sent_is : sent ≡ via_of (destination_register ins)
  pub within_is : within ≡ is_within ins
