-- Worked rows of the machine's definitions, which have no code of their own in this crate.
use Rattle.std.proofs.Common.{◌≡◌, ℕ, [], ◌∷◌, Some, None, refl}
use Rattle.std.specs.Prelude.{replicate, codes}
use Rattle.raw_model.specs.declared.marks.Cause.TheVariants.{Misaligned, PastMemory}
use Rattle.raw_model.specs.declared.marks.Mark.TheVariants.{Going, Halted}
use Rattle.raw_model.specs.TileTable.{access_fault, with_register, sent_by, stored, half_at, word_at}
use Rattle.raw_model.specs.Start.{first_mark}
use Rattle.raw_model.specs.Outcomes.{first_of}
use Rattle.raw_model.specs.Outcomes.Outcome.{Trapped, Deadlock}
use Rattle.raw_model.specs.StateTexts.{program_mark}
use Rattle.raw_model.specs.Cache.{misses, is_miss, turns}

-- a word at 2, and at 65,534, is misaligned before it is past the memory; one at 65,532 is the last
word_at_2 : access_fault 2 4 ≡ Some Misaligned
word_at_2 = refl

word_across_the_end : access_fault 65534 4 ≡ Some Misaligned
word_across_the_end = refl

word_past_the_end : access_fault 65536 4 ≡ Some PastMemory
word_past_the_end = refl

last_word : access_fault 65532 4 ≡ None
last_word = refl

-- registers 0, 24 and 25 store nothing, and 24 and 25 send
register_0 : with_register (replicate 32 0) 0 7 ≡ replicate 32 0
register_0 = refl

register_24 : with_register (replicate 32 0) 24 7 ≡ replicate 32 0
register_24 = refl

sent_on_its_own_network : (sent_by 24 24 7 ≡ Some 7) × (sent_by 25 24 7 ≡ None)
sent_on_its_own_network = (refl, refl)

-- the high byte stands first
word_in_memory : word_at (stored (replicate 4 0) 0 (1 ∷ 2 ∷ 3 ∷ 4 ∷ [])) 0 ≡ 0x01020304
word_in_memory = refl

half_in_memory : half_at (1 ∷ 2 ∷ 3 ∷ 4 ∷ []) 2 ≡ 0x0304
half_in_memory = refl

-- a cycle comes before a trap, a trap before the limit, and an empty program is halted from the start
cycle_first : first_of (Some (4, 5 ∷ [])) (Some 0) None (Some 0) ≡ Deadlock 4 (5 ∷ [])
cycle_first = refl

trap_first : first_of None (Some 3) (Some 0) (Some 0) ≡ Trapped 3
trap_first = refl

empty_is_halted : first_mark {A = ℕ} [] ≡ Halted
empty_is_halted = refl

-- a processor that goes on at its limit is shown as such
limit_shown : (program_mark 5 None Going 5 ≡ codes "limit") × (program_mark 5 None Going 4 ≡ codes "ready")
limit_shown = (refl, refl)

-- two lines of one set are kept, three are not
two_lines : misses (0 ∷ 2048 ∷ 0 ∷ 4 ∷ []) ≡ 2
unfolding misses is_miss
two_lines = refl

three_lines : misses (0 ∷ 2048 ∷ 0 ∷ 4096 ∷ 0 ∷ []) ≡ 3
unfolding misses is_miss
three_lines = refl

-- two misses owe the first two numbers of the stream
two_misses_owe : turns (5 ∷ 0 ∷ 7 ∷ []) 2 ≡ 5
two_misses_owe = refl
