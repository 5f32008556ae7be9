-- The addresses that rows touch lie in the memory.
use Rattle.std.proofs.Common.{◌≡◌, ℕ, ◌+◌, ◌%◌, ◌^◌, ◌<◌, Bool, true, false, cond, nat_le, ◌==◌, Option, Some, None, IfSome, refl, arith}
use Rattle.std.proofs.lemmas.Bool.{leb-true}
use Rattle.raw_tile_isa.specs.declared.table.TileOp.{TileOp}
use Rattle.raw_tile_isa.specs.declared.table.TileOp.TheVariants.{Lb, Lh, Lw, Lbu, Lhu, Sb, Sh, Sw}
use Rattle.raw_tile_isa.specs.Instruction.{Instruction}
use Rattle.raw_model.specs.declared.marks.Cause.{Cause}
use Rattle.raw_model.specs.declared.marks.Cause.TheVariants.{Misaligned, PastMemory}
use Rattle.raw_model.specs.Local.{TileLocal}
use Rattle.raw_model.specs.TileTable.{TileEffect, row_effect, address_of, access_fault, unless_fault}

-- an access that has no fault begins inside the memory
inside : (aligned within : Bool) (address bytes : ℕ) → 0 < bytes → nat_le (address + bytes) 65536 ≡ within
    → cond aligned (cond within None (Some PastMemory)) (Some Misaligned) ≡ None → address < 65536
inside true true address bytes some ends lawful = let last = leb-true (address + bytes) 65536 ends in omega arith
inside true false address bytes some ends lawful = absurd (cc)
inside false within address bytes some ends lawful = absurd (cc)

-- an effect that touches an address touches it where there is no fault
touches : (fault : Option Cause) (l : TileLocal) (effect : TileEffect) (address : ℕ) → effect.touched ≡ Some address
    → (fault ≡ None → address < 65536) → IfSome (unless_fault fault l effect).touched (λ a. a < 65536)
touches None l effect address e lawful = rw e (lawful refl)
touches (Some cause) l effect address e lawful = tt

-- a load or a store touches its address
access : (address bytes : ℕ) (l : TileLocal) (effect : TileEffect) → 0 < bytes → effect.touched ≡ Some address
    → IfSome (unless_fault (access_fault address bytes) l effect).touched (λ a. a < 65536)
access address bytes l effect some e =
    touches (access_fault address bytes) l effect address e
    (inside (address % bytes == 0) (nat_le (address + bytes) 65536) address bytes some refl)

-- the address that a row touches lies in the memory
pub touched_inside : (op : TileOp) (size : ℕ) (l : TileLocal) (ins : Instruction) (a b : ℕ)
    → IfSome (row_effect op size l ins a b).touched (λ address. address < 2 ^ 16)
touched_inside Lb size l ins a b = access (address_of ins a) 1 l _ (omega arith) refl
touched_inside Lh size l ins a b = access (address_of ins a) 2 l _ (omega arith) refl
touched_inside Lw size l ins a b = access (address_of ins a) 4 l _ (omega arith) refl
touched_inside Lbu size l ins a b = access (address_of ins a) 1 l _ (omega arith) refl
touched_inside Lhu size l ins a b = access (address_of ins a) 2 l _ (omega arith) refl
touched_inside Sb size l ins a b = access (address_of ins a) 1 l _ (omega arith) refl
touched_inside Sh size l ins a b = access (address_of ins a) 2 l _ (omega arith) refl
touched_inside Sw size l ins a b = access (address_of ins a) 4 l _ (omega arith) refl
touched_inside _ size l ins a b = tt
