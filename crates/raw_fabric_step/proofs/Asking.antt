-- What a row asks at the ends P: a test of each kind of row at each end.
use Rattle.std.proofs.Common.{◌≡◌, ℕ, zero, suc, ◌+◌, ◌<◌, Bool, true, false, ◌&&◌, eqb, refl, sym, ◌∙◌, subst, ⊎_elim, arith}
use Rattle.std.specs.Prelude.{bit_or}
use Rattle.std.proofs.lemmas.Bool.{and_parts, cases_eq, eqb-true}
use Rattle.raw_network.specs.Network.{count_of}
use Rattle.raw_tile.specs.declared.step.Via.{Via}
use Rattle.raw_tile.specs.declared.step.Via.TheVariants.{Tile, Network1, Network2}
use Rattle.raw_model.specs.Program.{ProgramSet}
use Rattle.raw_model.specs.Local.{Local}
use Rattle.raw_fabric_rule.specs.ByEnds.{needs, gives}
use Rattle.raw_fabric_step.specs.declared.looks.Asks.{Asks}
use Rattle.raw_fabric_step.specs.Asks.{amount, AreAsked}
use Rattle.raw_fabric_step.specs.Pairs.{pair_ends, before_second, via_end, input_bit, output_bits, out_ends}

-- a test of the numbers below n
abbrev tested : (ℕ → Bool) → ℕ → Bool
tested test zero = true
tested test (suc n) = test n && tested test n

tested_at : (test : ℕ → Bool) (n : ℕ) → tested test n ≡ true → (e : ℕ) → e < n → test e ≡ true
tested_at test zero all e few = absurd (omega arith)
tested_at test (suc n) all e few =
    let parts = and_parts (test n) (tested test n) all in
    ⊎_elim (λ (same : e ≡ n). subst (λ k. test k ≡ true) (sym same) parts.0) (λ other. tested_at test n parts.1 e (omega arith)) (cases_eq e n)

abbrev asks_of : Via → Via → Bool → Bool → Asks
asks_of first second a b =
    record {
      needs = record { inputs = bit_or (input_bit first) (input_bit second); outputs = output_bits a b };
      each = 1 + before_second (via_end first) (via_end second);
    }

abbrev counted : Via → Via → Bool → Bool → ℕ → ℕ
counted first second a b end = count_of end (pair_ends (via_end first) (via_end second)) + count_of end (out_ends a b)

abbrev row_test : Via → Via → Bool → Bool → ℕ → Bool
row_test first second a b end = eqb (counted first second a b end) (amount (asks_of first second a b) end)

each_row : (first second : Via) (a b : Bool) → tested (row_test first second a b) 20 ≡ true
each_row Tile Tile true true = refl
each_row Tile Tile true false = refl
each_row Tile Tile false true = refl
each_row Tile Tile false false = refl
each_row Tile Network1 true true = refl
each_row Tile Network1 true false = refl
each_row Tile Network1 false true = refl
each_row Tile Network1 false false = refl
each_row Tile Network2 true true = refl
each_row Tile Network2 true false = refl
each_row Tile Network2 false true = refl
each_row Tile Network2 false false = refl
each_row Network1 Tile true true = refl
each_row Network1 Tile true false = refl
each_row Network1 Tile false true = refl
each_row Network1 Tile false false = refl
each_row Network1 Network1 true true = refl
each_row Network1 Network1 true false = refl
each_row Network1 Network1 false true = refl
each_row Network1 Network1 false false = refl
each_row Network1 Network2 true true = refl
each_row Network1 Network2 true false = refl
each_row Network1 Network2 false true = refl
each_row Network1 Network2 false false = refl
each_row Network2 Tile true true = refl
each_row Network2 Tile true false = refl
each_row Network2 Tile false true = refl
each_row Network2 Tile false false = refl
each_row Network2 Network1 true true = refl
each_row Network2 Network1 true false = refl
each_row Network2 Network1 false true = refl
each_row Network2 Network1 false false = refl
each_row Network2 Network2 true true = refl
each_row Network2 Network2 true false = refl
each_row Network2 Network2 false true = refl
each_row Network2 Network2 false false = refl

pub pair_asked : (set : ProgramSet) (p : ℕ) (l : Local) (first second : Via) (a b : Bool) → needs set p l ≡ pair_ends (via_end first) (via_end second)
    → gives set p l ≡ out_ends a b → AreAsked set p l (asks_of first second a b)
pair_asked set p l first second a b needs_are gives_are = record {
  some = omega arith;
  at = λ end few. (λ i. count_of end (needs_are i) + count_of end (gives_are i))
      ∙ eqb-true (counted first second a b end) (amount (asks_of first second a b) end) (tested_at (row_test first second a b) 20 (each_row first second a b) end few);
}
