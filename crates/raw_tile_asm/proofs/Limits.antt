-- The limits of an instruction's fields, whether it uses them or not.
use Rattle.std.proofs.Common.{ℕ, ◌<◌, ◌^◌, Bool, true, false, arith}
use Rattle.raw_tile_isa.specs.Instruction.{Instruction, IsField, IsTileIns, uses, is_rs, is_rt, is_rd, is_sh, is_imm, is_target}

-- the fields of an instruction are below their limits
pub record Limits (i : Instruction) : Type 0 where
  pub rs : i.rs < 32
  pub rt : i.rt < 32
  pub rd : i.rd < 32
  pub sh : i.sh < 32
  pub imm : i.imm < 2 ^ 16
  pub target : i.target < 2 ^ 26

below : (used : Bool) (limit v : ℕ) → 0 < limit → IsField used limit v → v < limit
below true limit v some h = h
below false limit v some h = omega arith

pub limits : (i : Instruction) → IsTileIns i → Limits i
limits i h = record {
  rs = below (uses is_rs i.op) 32 i.rs (omega arith) h.rs;
  rt = below (uses is_rt i.op) 32 i.rt (omega arith) h.rt;
  rd = below (uses is_rd i.op) 32 i.rd (omega arith) h.rd;
  sh = below (uses is_sh i.op) 32 i.sh (omega arith) h.sh;
  imm = below (uses is_imm i.op) (2 ^ 16) i.imm (omega arith) h.imm;
  target = below (uses is_target i.op) (2 ^ 26) i.target (omega arith) h.target;
}
