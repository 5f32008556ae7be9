-- The ends of a switch that have a wire, as the bits of two words.
use Rattle.std.proofs.Common.{◌≡◌, ℕ, zero, suc, ◌+◌, ◌*◌, ◌/◌, ◌%◌, ◌<◌, ◌≤◌, Bool, true, false, cond, List, [], ◌∷◌, refl, ap, ◌∙◌, arith}
use Rattle.std.specs.Prelude.{◌==◌, filter, is_some, if◌then◌else◌}
use Rattle.std.specs.List.{list_all, AllByRecursion}
use Rattle.std.specs.Int.{bit_at}
use Rattle.raw_switch_isa.specs.Instruction.{SwitchInstruction}
use Rattle.raw_switch_isa.specs.Ends.{ends, has_end, is_used_input, is_filled}
use Rattle.raw_switch_asm.specs.Statement.{are_wired}
use Rattle.raw_grid.specs.Topology.{Topology, switch_at}
use Rattle.raw_grid.specs.Wires.{input_wire, output_wire}
use Rattle.raw_model.specs.Program.{has_wires}
use Rattle.raw_set_text.specs.declared.declaration.Position.{Position}
use Rattle.raw_set_text.specs.Sections.{bits_of, wired_at}

-- a test as a bit
abbrev pub bit : Bool → ℕ
bit true = 1
bit false = 0

pub bit_le : (b : Bool) → bit b ≤ 1
bit_le true = omega arith
bit_le false = omega arith

is_bit : (b : Bool) → (bit b == 1) ≡ b
is_bit true = refl
is_bit false = refl

scaled : (b : Bool) (v : ℕ) → cond b v 0 ≡ v * bit b
scaled true v = omega arith
scaled false v = omega arith

pub word_is : (test : ℕ → Bool) → bits_of test ≡ bit (test 0) + 2 * bit (test 1) + 4 * bit (test 2) + 8 * bit (test 3) + 16 * bit (test 4) + 32 * bit (test 5) + 64 * bit (test 6) + 128 * bit (test 7) + 256 * bit (test 8) + 512 * bit (test 9)
unfolding ends
word_is test =
    omega (arith, scaled (test 0) 1, scaled (test 1) 2, scaled (test 2) 4, scaled (test 3) 8, scaled (test 4) 16, scaled (test 5) 32, scaled (test 6) 64, scaled (test 7) 128, scaled (test 8) 256, scaled (test 9) 512)

-- the bit of an end of a word is its test
module _ (test : ℕ → Bool) where
  at_0 : bits_of test / 1 % 2 ≡ bit (test 0)
  at_0 = omega (arith, word_is test, bit_le (test 0))

  at_1 : bits_of test / 2 % 2 ≡ bit (test 1)
  at_1 = omega (arith, word_is test, bit_le (test 0), bit_le (test 1))

  at_2 : bits_of test / 4 % 2 ≡ bit (test 2)
  at_2 = omega (arith, word_is test, bit_le (test 0), bit_le (test 1), bit_le (test 2))

  at_3 : bits_of test / 8 % 2 ≡ bit (test 3)
  at_3 = omega (arith, word_is test, bit_le (test 0), bit_le (test 1), bit_le (test 2), bit_le (test 3))

  at_4 : bits_of test / 16 % 2 ≡ bit (test 4)
  at_4 = omega (arith, word_is test, bit_le (test 0), bit_le (test 1), bit_le (test 2), bit_le (test 3), bit_le (test 4))

  at_5 : bits_of test / 32 % 2 ≡ bit (test 5)
  at_5 = omega (arith, word_is test, bit_le (test 0), bit_le (test 1), bit_le (test 2), bit_le (test 3), bit_le (test 4), bit_le (test 5))

  at_6 : bits_of test / 64 % 2 ≡ bit (test 6)
  at_6 = omega (arith, word_is test, bit_le (test 0), bit_le (test 1), bit_le (test 2), bit_le (test 3), bit_le (test 4), bit_le (test 5), bit_le (test 6))

  at_7 : bits_of test / 128 % 2 ≡ bit (test 7)
  at_7 = omega (arith, word_is test, bit_le (test 0), bit_le (test 1), bit_le (test 2), bit_le (test 3), bit_le (test 4), bit_le (test 5), bit_le (test 6), bit_le (test 7))

  at_8 : bits_of test / 256 % 2 ≡ bit (test 8)
  at_8 = omega (arith, word_is test, bit_le (test 0), bit_le (test 1), bit_le (test 2), bit_le (test 3), bit_le (test 4), bit_le (test 5), bit_le (test 6), bit_le (test 7), bit_le (test 8))

  at_9 : bits_of test / 512 % 2 ≡ bit (test 9)
  at_9 = omega (arith, word_is test, bit_le (test 0), bit_le (test 1), bit_le (test 2), bit_le (test 3), bit_le (test 4), bit_le (test 5), bit_le (test 6), bit_le (test 7), bit_le (test 8), bit_le (test 9))

-- the bits of the word of a test
pub bits_at : (test : ℕ → Bool) (end : ℕ) → end < 10 → bit_at (bits_of test) end ≡ bit (test end)
bits_at test zero l = at_0 test
bits_at test (suc zero) l = at_1 test
bits_at test (suc (suc zero)) l = at_2 test
bits_at test (suc (suc (suc zero))) l = at_3 test
bits_at test (suc (suc (suc (suc zero)))) l = at_4 test
bits_at test (suc (suc (suc (suc (suc zero))))) l = at_5 test
bits_at test (suc (suc (suc (suc (suc (suc zero)))))) l = at_6 test
bits_at test (suc (suc (suc (suc (suc (suc (suc zero))))))) l = at_7 test
bits_at test (suc (suc (suc (suc (suc (suc (suc (suc zero)))))))) l = at_8 test
bits_at test (suc (suc (suc (suc (suc (suc (suc (suc (suc zero))))))))) l = at_9 test
bits_at test (suc (suc (suc (suc (suc (suc (suc (suc (suc (suc n)))))))))) l = absurd (omega (arith, l))

-- a word of ends has those that pass the test
each_end : (test : ℕ → Bool) → AllByRecursion (λ end. has_end (bits_of test) end ≡ test end) ends
unfolding ends
each_end test = (at 0 (omega arith), (at 1 (omega arith), (at 2 (omega arith), (at 3 (omega arith), (at 4 (omega arith), (at 5 (omega arith), (at 6 (omega arith), (at 7 (omega arith), (at 8 (omega arith), (at 9 (omega arith), tt))))))))))
  where
    at : (end : ℕ) → end < 10 → has_end (bits_of test) end ≡ test end
    at end lt = ap (λ v. v == 1) (bits_at test end lt) ∙ is_bit (test end)

-- two tests that agree on ends agree on some of them
all_agree : (p q keep : ℕ → Bool) (xs : List ℕ) → AllByRecursion (λ x. p x ≡ q x) xs → list_all p (filter keep xs) ≡ list_all q (filter keep xs)
all_agree p q keep [] same = refl
all_agree p q keep (x ∷ xs) same = by_kept (keep x) (all_agree p q keep xs same.1)
  where
    by_kept : (kept : Bool) → list_all p (filter keep xs) ≡ list_all q (filter keep xs) → list_all p (if kept then x ∷ filter keep xs else filter keep xs) ≡ list_all q (if kept then x ∷ filter keep xs else filter keep xs)
    by_kept true e = rw (same.0, e) refl
    by_kept false e = e

-- the wires that an instruction needs
pub wired_as : (topo : Topology) (tile : Position) (ins : SwitchInstruction) → are_wired (wired_at topo tile) ins ≡ has_wires topo (switch_at topo tile.x tile.y) ins
unfolding wired_at
wired_as topo tile ins =
    let p = switch_at topo tile.x tile.y in
    let inputs : ℕ → Bool = λ end. is_some (input_wire topo p end) in
    let outputs : ℕ → Bool = λ end. is_some (output_wire topo p end) in
    rw (all_agree (has_end (bits_of inputs)) inputs (is_used_input ins) ends (each_end inputs), all_agree (has_end (bits_of outputs)) outputs (is_filled ins) ends (each_end outputs)) refl
