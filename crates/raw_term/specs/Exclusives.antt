-- Whether two terms are the same exclusive or. Their exclusive or is carried down the table, from the term with the greatest number on. A mark
-- stands for some bits of a term that is moved: an exclusive or, an operation with a mask and a shift by a word give their marks to the terms
-- that they are made of. Where no mark is left, both terms are the same.
use Rattle.std.specs.Prelude.{ℕ, zero, suc, ◌+◌, ◌-◌, ◌*◌, ◌/◌, ◌%◌, ◌^◌, Bool, false, ◌==◌, nat_le, bit_and, bit_xor, Option, Some, None, List, slice_get, slice_index, slice_set, replicate, length, ◌&&◌, if◌then◌else◌}
use Rattle.raw_tile_isa.specs.Words.{word_shift_left, word_shift_right}
use Rattle.raw_flow.specs.declared.node.FlowOp.{FlowOp}
use Rattle.raw_flow.specs.declared.node.FlowOp.TheVariants.{Add, Sub, And, Or, Xor, Nor, ShiftLeft, ShiftRight, ShiftRightSigned}
use Rattle.raw_flow.specs.declared.node.Node.{Node}
use Rattle.raw_flow.specs.declared.node.Node.TheVariants.{Const, Apply}
use Rattle.raw_term.specs.Terms.{word_in}
use Rattle.raw_term.specs.Sums.{many_to}

-- how many moves there are: p is by p - 31 to the left, where it is 31 or more, else by 31 - p to the right
abbrev pub moves : ℕ
moves = 63

-- a word after move p; the bits that leave it are lost
abbrev pub moved : ℕ → ℕ → ℕ
moved p w = if nat_le 31 p then word_shift_left w (p - 31) else word_shift_right w (31 - p)

-- the bits of a word, each turned round
abbrev pub others : ℕ → ℕ
others w = bit_xor w (2 ^ 32 - 1)

-- Marks: the place 63 c + p has those bits at which term c stands after move p. And a word.
pub record Marks : Type 0 where
  pub bits : List ℕ
  pub rest : ℕ

-- and the bits m of what stands at a place
abbrev pub and_at : ℕ → ℕ → Marks → Marks
and_at m j s = record s { bits = slice_set s.bits j (bit_xor (slice_index s.bits j) m) }

-- and the bits m of term c after move p
abbrev pub and_mark : ℕ → ℕ → ℕ → Marks → Marks
and_mark m p c s = and_at m (c * moves + p) s

-- and the bits m of the word w after move p
abbrev pub and_word : ℕ → ℕ → ℕ → Marks → Marks
and_word m p w s = record s { rest = bit_xor s.rest (bit_and m (moved p w)) }

-- the bits m after move p of: term a under a mask, and by exclusive or a word
abbrev pub masked : ℕ → ℕ → ℕ → ℕ → ℕ → Marks → Marks
masked m p a mask w s = and_word m p w (and_mark (bit_and m (moved p mask)) p a s)

-- of term a shifted to the left by k
abbrev pub left : ℕ → ℕ → ℕ → ℕ → Marks → Marks
left m p a k s = if bit_and m (moved p (word_shift_left (2 ^ 32 - 1) k)) == 0 then s else and_mark (bit_and m (moved p (word_shift_left (2 ^ 32 - 1) k))) (p + k) a s

-- of term a shifted to the right by k, under a mask
abbrev pub right : ℕ → ℕ → ℕ → ℕ → ℕ → Marks → Marks
right m p a k mask s = if bit_and m (moved p mask) == 0 then s else and_mark (bit_and m (moved p mask)) (p - k) a s

-- of term a shifted to the right by k, with zeros in
abbrev pub right_zeros : ℕ → ℕ → ℕ → ℕ → Marks → Marks
right_zeros m p a k s = right m p a k (word_shift_right (2 ^ 32 - 1) k) s

-- of the sign of term a, in the k highest bits
abbrev pub signs : ℕ → ℕ → ℕ → ℕ → Marks → Marks
signs m p a zero s = s
signs m p a (suc k) s = right m p a k (word_shift_right (2 ^ 31) k) (signs m p a k s)

-- of an operation on term a and the word w; None where it is another operation
abbrev pub by_word : ℕ → ℕ → FlowOp → ℕ → ℕ → Marks → Option Marks
by_word m p And a w s = Some (masked m p a w 0 s)
by_word m p Or a w s = Some (masked m p a (others w) w s)
by_word m p Nor a w s = Some (masked m p a (others w) (others w) s)
by_word m p Add a w s = if w == 2 ^ 31 then Some (masked m p a (2 ^ 32 - 1) w s) else None
by_word m p ShiftLeft a w s = Some (left m p a (w % 32) s)
by_word m p ShiftRight a w s = Some (right_zeros m p a (w % 32) s)
by_word m p ShiftRightSigned a w s = Some (signs m p a (w % 32) (right_zeros m p a (w % 32) s))
by_word m p _ a w s = None

abbrev pub by_word_in : ℕ → ℕ → FlowOp → ℕ → Marks → Option ℕ → Option Marks
by_word_in m p op a s None = None
by_word_in m p op a s (Some w) = by_word m p op a w s

-- of the word w less term b, where that is the complement of b
abbrev pub less_from : ℕ → ℕ → ℕ → Marks → Option ℕ → Option Marks
less_from m p b s None = None
less_from m p b s (Some w) = if w == 2 ^ 32 - 1 then Some (masked m p b w w s) else None

-- of a node
abbrev pub marked : List Node → ℕ → ℕ → Marks → Option Node → Option Marks
marked nodes m p s (Some (Const w)) = Some (and_word m p w s)
marked nodes m p s (Some (Apply Xor a b)) = Some (and_mark m p b (and_mark m p a s))
marked nodes m p s (Some (Apply Sub a b)) = less_from m p b s (word_in nodes a)
marked nodes m p s (Some (Apply op a b)) = by_word_in m p op a s (word_in nodes b)
marked nodes m p s _ = None

-- and what the bits m at place i give way to
abbrev pub parted : List Node → ℕ → Marks → ℕ → Option Marks
parted nodes m s i = if m == 0 then Some s else marked nodes m (i % moves) s (slice_get nodes (i / moves))

-- the marks without those at a place
abbrev pub without : List Node → Marks → ℕ → Option Marks
without nodes s i = parted nodes (slice_index s.bits i) s i

abbrev pub all_of : (Marks → Bool) → Option Marks → Bool
all_of test None = false
all_of test (Some s) = test s

-- whether the marks at the first i places are seen to be nothing
abbrev pub are_nothing : List Node → ℕ → Marks → Bool
are_nothing nodes zero s = s.rest == 0
are_nothing nodes (suc i) s = all_of (are_nothing nodes i) (without nodes s i)

-- so many terms, none with a mark
abbrev pub no_marks : ℕ → Marks
no_marks n = record { bits = replicate (n * moves) 0; rest = 0 }

-- all bits of term a, and of term b
abbrev pub both : ℕ → ℕ → ℕ → Marks
both n a b = and_mark (2 ^ 32 - 1) 31 b (and_mark (2 ^ 32 - 1) 31 a (no_marks n))

-- whether two terms are seen to be the same exclusive or
abbrev pub is_same_exclusive_or : List Node → ℕ → ℕ → Bool
is_same_exclusive_or nodes a b = nat_le (many_to a b) (length nodes) && are_nothing nodes (many_to a b * moves) (both (many_to a b) a b)
