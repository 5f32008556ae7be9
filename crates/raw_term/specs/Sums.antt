-- Whether two terms are the same sum. Their difference is carried down the table, from the term with the greatest number on: a sum, a
-- difference, a product with a word, a shift to the left by a word, a complement and a term with its highest bit turned round give their factor to the terms that they are made of.
-- Where no factor is left, both terms are the same.
use Rattle.std.specs.Prelude.{ℕ, zero, suc, ◌+◌, ◌^◌, ◌-◌, Bool, true, false, ◌==◌, nat_le, Option, Some, None, List, slice_get, slice_index, slice_set, replicate, length, ◌&&◌, if◌then◌else◌}
use Rattle.raw_tile_isa.specs.Words.{word_add, word_sub, word_mul_low, word_shift_left}
use Rattle.raw_flow.specs.declared.node.FlowOp.TheVariants.{Add, Sub, Mul, Xor, Nor, ShiftLeft}
use Rattle.raw_flow.specs.declared.node.Node.{Node}
use Rattle.raw_flow.specs.declared.node.Node.TheVariants.{Const, Apply}
use Rattle.raw_term.specs.Terms.{word_in}

-- a sum: of each term, by number, how often it stands in it, and a word
pub record Sum : Type 0 where
  pub factors : List ℕ
  pub rest : ℕ

-- and term c, f times
abbrev pub plus_times : ℕ → ℕ → Sum → Sum
plus_times f c s = record s { factors = slice_set s.factors c (word_add (slice_index s.factors c) f) }

-- and a word
abbrev pub plus_rest : ℕ → Sum → Sum
plus_rest w s = record s { rest = word_add s.rest w }

-- the complement of term a, f times: -1 - a
abbrev pub plus_complement : ℕ → ℕ → Sum → Sum
plus_complement f a s = plus_rest (word_sub 0 f) (plus_times (word_sub 0 f) a s)

abbrev pub times_word : ℕ → ℕ → Sum → Option ℕ → Option Sum
times_word f a s None = None
times_word f a s (Some w) = Some (plus_times (word_mul_low f w) a s)

abbrev pub times_power : ℕ → ℕ → Sum → Option ℕ → Option Sum
times_power f a s None = None
times_power f a s (Some w) = Some (plus_times (word_shift_left f w) a s)

abbrev pub complement_where : Bool → ℕ → ℕ → Sum → Option Sum
complement_where true f a s = Some (plus_complement f a s)
complement_where false f a s = None

-- `xor` of a with a word, f times: a with its highest bit turned round, a + 2^31, or its complement
abbrev pub xor_by : ℕ → ℕ → Sum → Option ℕ → Option Sum
xor_by f a s None = None
xor_by f a s (Some w) = if w == 2 ^ 31 then Some (plus_rest (word_mul_low f w) (plus_times f a s)) else complement_where (w == 2 ^ 32 - 1) f a s

-- the complement of a, where the second operand is 0
abbrev pub complement_by : ℕ → ℕ → Sum → Option ℕ → Option Sum
complement_by f a s None = None
complement_by f a s (Some w) = complement_where (w == 0) f a s

-- the complement of a, where it is `nor` of a with itself or with 0
abbrev pub complement_nor : Bool → List Node → ℕ → ℕ → ℕ → Sum → Option Sum
complement_nor true nodes f a b s = Some (plus_complement f a s)
complement_nor false nodes f a b s = complement_by f a s (word_in nodes b)

-- what a term has as its parts, f times, in a sum; None where it is no sum
abbrev pub spread : List Node → ℕ → Sum → Option Node → Option Sum
spread nodes f s (Some (Const w)) = Some (plus_rest (word_mul_low f w) s)
spread nodes f s (Some (Apply Add a b)) = Some (plus_times f b (plus_times f a s))
spread nodes f s (Some (Apply Sub a b)) = Some (plus_times (word_sub 0 f) b (plus_times f a s))
spread nodes f s (Some (Apply Mul a b)) = times_word f a s (word_in nodes b)
spread nodes f s (Some (Apply ShiftLeft a b)) = times_power f a s (word_in nodes b)
spread nodes f s (Some (Apply Xor a b)) = xor_by f a s (word_in nodes b)
spread nodes f s (Some (Apply Nor a b)) = complement_nor (a == b) nodes f a b s
spread nodes f s _ = None

-- and what term i has as its parts, f times
abbrev pub parted : List Node → ℕ → Sum → ℕ → Option Sum
parted nodes f s i = if f == 0 then Some s else spread nodes f s (slice_get nodes i)

-- the sum without term i
abbrev pub without : List Node → Sum → ℕ → Option Sum
without nodes s i = parted nodes (slice_index s.factors i) s i

abbrev pub all_of : (Sum → Bool) → Option Sum → Bool
all_of test None = false
all_of test (Some s) = test s

-- whether a sum of the first terms is seen to be 0
abbrev pub is_nothing : List Node → ℕ → Sum → Bool
is_nothing nodes zero s = s.rest == 0
is_nothing nodes (suc i) s = all_of (is_nothing nodes i) (without nodes s i)

-- so many terms, none of which stands in the sum
abbrev pub no_sum : ℕ → Sum
no_sum n = record { factors = replicate n 0; rest = 0 }

-- term a less term b
abbrev pub difference : ℕ → ℕ → ℕ → Sum
difference n a b = plus_times (2 ^ 32 - 1) b (plus_times 1 a (no_sum n))

-- so many terms as there are up to both
abbrev pub many_to : ℕ → ℕ → ℕ
many_to a b = if nat_le a b then b + 1 else a + 1

-- whether two terms are seen to be the same sum
abbrev pub is_same_sum : List Node → ℕ → ℕ → Bool
is_same_sum nodes a b = nat_le (many_to a b) (length nodes) && is_nothing nodes (many_to a b) (difference (many_to a b) a b)
