-- The ends of a switch that have a wire, as the built grid answers them.
use Rattle.std.proofs.Common.{◌≡◌, ◌⊎◌, ℕ, ◌*◌, ◌^◌, ◌<◌, ◌≤◌, Bool, true, false, Option, Some, None, refl, sym, ap, ◌∙◌, arith, ⊎_elim, zero-mul}
use Rattle.std.specs.Prelude.{◌↔◌, is_some, IsSome}
use Rattle.std.specs.Int.{bit_at, IsBitSet}
use Rattle.std.specs.Int.Bits.{bit_and}
use Rattle.std.proofs.lemmas.Bool.{false≢true, cases_lt, false_from_ne_true}
use Rattle.std.proofs.lemmas.Nat.{pow_pos}
use Rattle.std.proofs.lemmas.Nat.Bits.{and_pow, bit_at_above, same_from_bits}
use Rattle.raw_grid.specs.declared.parts.Ends.{Ends}
use Rattle.raw_grid.specs.Topology.{Topology, IsTopology, switch_at}
use Rattle.raw_grid.specs.Wires.{input_wire, output_wire}
use Rattle.raw_grid.proofs.WireLaws.{ten_inputs, ten_outputs}
use Rattle.raw_set_text.specs.declared.declaration.Position.{Position}
use Rattle.raw_set_text.specs.Sections.{bits_of, wired_at}
use Rattle.raw_set_text.proofs.Wired.{bit, bit_le, word_is, bits_at}
use Rattle.raw_model.proofs.EndTests.{zero_or_one}

-- a bit that is set exactly where a test passes
bit_from : (n i : ℕ) (b : Bool) → (IsBitSet n i ↔ (b ≡ true)) → bit_at n i ≡ bit b
bit_from n i true h =
    ⊎_elim (λ (none : bit_at n i ≡ 0). absurd (h.1 refl (and_pow n i ∙ ap (λ m. m * 2 ^ i) none ∙ zero-mul (2 ^ i)))) (λ (one : bit_at n i ≡ 1). one) (zero_or_one n i)
bit_from n i false h =
    ⊎_elim
    (λ (none : bit_at n i ≡ 0). none)
    (λ (one : bit_at n i ≡ 1). absurd (false≢true (h.0 (λ (e : bit_and n (2 ^ i) ≡ 0). let some = pow_pos i in absurd (omega (arith, some, sym (and_pow n i ∙ ap (λ m. m * 2 ^ i) one) ∙ e))))))
    (zero_or_one n i)

bits_below : (test : ℕ → Bool) → bits_of test < 1024
bits_below test =
    omega (arith, word_is test, bit_le (test 0), bit_le (test 1), bit_le (test 2), bit_le (test 3), bit_le (test 4), bit_le (test 5), bit_le (test 6), bit_le (test 7), bit_le (test 8), bit_le (test 9))

-- a word whose bits are 1 exactly at the ends, below ten, that pass a test
word_same : (test : ℕ → Bool) (word : ℕ) → ((i : ℕ) → IsBitSet word i ↔ (test i ≡ true)) → ((i : ℕ) → test i ≡ true → i < 10) → word ≡ bits_of test
word_same test word set few =
    same_from_bits word (bits_of test)
    (λ i.
    ⊎_elim
    (λ (l : i < 10). bit_from word i (test i) (set i) ∙ sym (bits_at test i l))
    (λ (m : 10 ≤ i). bit_from word i (test i) (set i) ∙ ap bit (false_from_ne_true (test i) (λ e. absurd (omega (arith, few i e)))) ∙ sym (bit_at_above (bits_of test) 10 i (bits_below test) m))
    (cases_lt i 10))

some_value : {A : Type 0} (o : Option A) → is_some o ≡ true → (x : A) × (o ≡ Some x)
some_value None e = cc
some_value (Some x) e = (x, refl)

-- the ends of the switch of a tile are those that have a wire
pub ends_wired : (topo : Topology) (tile : Position) (ends : Ends) → IsTopology topo → ((i : ℕ) → IsBitSet ends.inputs i ↔ IsSome (input_wire topo (switch_at topo tile.x tile.y) i)) → ((i : ℕ) → IsBitSet ends.outputs i ↔ IsSome (output_wire topo (switch_at topo tile.x tile.y) i)) → ends ≡ wired_at topo tile
unfolding wired_at
ends_wired topo tile ends valid inputs outputs =
    let p = switch_at topo tile.x tile.y in
    let ins = word_same (λ end. is_some (input_wire topo p end)) ends.inputs inputs (λ i e. let w = some_value (input_wire topo p i) e in ten_inputs topo w.0 p i valid w.1) in
    let outs = word_same (λ end. is_some (output_wire topo p end)) ends.outputs outputs (λ i e. let w = some_value (output_wire topo p i) e in ten_outputs topo w.0 p i valid w.1) in
    ap (λ n. let e : Ends = record { inputs = n; outputs = ends.outputs } in e) ins ∙ ap (λ n. let e : Ends = record { inputs = bits_of (λ end. is_some (input_wire topo p end)); outputs = n } in e) outs
