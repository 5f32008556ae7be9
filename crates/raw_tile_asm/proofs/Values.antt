-- Where a value came out, no step before it had a fault; and how large the values of tokens are.
use Rattle.std.proofs.Common.{◌≡◌, ℕ, ◌-◌, ◌<◌, Bool, true, false, ◌&&◌, cond, List, length, drop, Option, Some, None, Result, Ok, Err, refl, ap, arith}
use Rattle.std.specs.Prelude.{codes, nat_lt, slice_index, ◌==◌}
use Rattle.raw_text.specs.Number.{digits_up_to, begins_with}
use Rattle.raw_text.proofs.NumberBounds.{digits_small}
use Rattle.raw_asm.specs.declared.kind.AsmKind.{AsmKind}
use Rattle.raw_asm.specs.Faults.{◌>>=◌, or_fault, in_range}
use Rattle.raw_tile_asm.specs.Operand.{register_of}

pub step_of : {A B : Type 0} (r : Result A AsmKind) (f : A → Result B AsmKind) (y : B) → (r >>= f) ≡ Ok y → (x : A) × (r ≡ Ok x) × (f x ≡ Ok y)
step_of (Ok x) f y e = (x, refl, e)
step_of (Err kind) f y e = absurd (cc)

pub some_of : {A : Type 0} (kind : AsmKind) (o : Option A) (x : A) → or_fault kind o ≡ Ok x → o ≡ Some x
some_of kind None x e = absurd (cc)
some_of kind (Some y) x e = let same : y ≡ x = cc in ap Some same

pub range_of : {A : Type 0} (fits : Bool) (x y : A) → in_range fits x ≡ Ok y → (fits ≡ true) × (x ≡ y)
range_of true x y e = (refl, cc)
range_of false x y e = absurd (cc)

register_by : (v : ℕ) (digits : List ℕ) (begins zeros : Bool) → cond begins (cond zeros None (digits_up_to 31 10 digits)) None ≡ Some v → v < 32
register_by v digits true false e = let small = digits_small 31 10 v digits e in omega arith
register_by v digits true true e = absurd (cc)
register_by v digits false zeros e = absurd (cc)

-- a register's number is below 32
pub register_small : (token : List ℕ) (v : ℕ) → register_of token ≡ Some v → v < 32
unfolding register_of
register_small token v e = register_by v (drop 1 token) (begins_with (codes "$") token) (nat_lt 1 (length (drop 1 token)) && (slice_index (drop 1 token) 0 == 48)) e
