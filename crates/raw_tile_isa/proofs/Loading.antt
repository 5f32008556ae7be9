-- The instructions that load a word into a register.
use Rattle.std.proofs.Common.{◌≡◌, ℕ, ◌-◌, ◌*◌, ◌/◌, ◌%◌, ◌^◌, ◌<◌, ◌≤◌, Bool, true, false, ◌||◌, cond, eqb, ltb, List, [], ◌∷◌, Some, refl, sym, ◌∙◌, ap, inl, inr, ◌⊎◌, ⊎_elim, arith}
use Rattle.std.specs.Prelude.{bit_or}
use Rattle.std.specs.Int.Bits.{and_shifted, or_zero_l}
use Rattle.std.proofs.lemmas.Bool.{false≢true, cases_lt, eqb-true}
use Rattle.std.proofs.lemmas.Bool.Decides.{nat_tests}
use Rattle.std.proofs.lemmas.List.Elements.{All-nil, All-cons}
use Rattle.std.proofs.lemmas.Nat.{or_disjoint}
use Rattle.raw_tile_isa.specs.declared.table.TileOp.TheVariants.{Addiu, Ori, Lui}
use Rattle.raw_tile_isa.specs.Instruction.{Instruction}
use Rattle.raw_tile_isa.specs.Made.{immediate}
use Rattle.raw_tile_isa.specs.Words.{word_add, sign_extended}
use Rattle.raw_tile_isa.specs.Load.{is_short, is_one, word_after, WritesAlone, IsLoad, EachLoads}

-- what is short is its low half with the sign of that
short_low : (w : ℕ) → w < 2 ^ 15 → word_add 0 (sign_extended (w % 2 ^ 16)) ≡ w
short_low w l = grind (arith, nat_tests)

short_high : (w : ℕ) → w < 2 ^ 32 → 2 ^ 32 - 2 ^ 15 ≤ w → word_add 0 (sign_extended (w % 2 ^ 16)) ≡ w
short_high w l h = grind (arith, nat_tests)

short_word : (w : ℕ) → w < 2 ^ 32 → is_short w ≡ true → word_add 0 (sign_extended (w % 2 ^ 16)) ≡ w
short_word w l e =
    ⊎_elim (short_low w) (λ (m : 2 ^ 15 ≤ w). let high : 2 ^ 32 - 2 ^ 15 ≤ w = grind (arith, nat_tests) in short_high w l high) (cases_lt w (2 ^ 15))

halves : (w : ℕ) → bit_or (w / 2 ^ 16 * 2 ^ 16) (w % 2 ^ 16) ≡ w
halves w = or_disjoint (w / 2 ^ 16 * 2 ^ 16) (w % 2 ^ 16) (and_shifted (w / 2 ^ 16) 16 (w % 2 ^ 16) (omega arith)) ∙ omega arith

module _ (register w : ℕ) (few : register < 32) (fits : w < 2 ^ 32) where
  from_zero : (imm : ℕ) → imm < 2 ^ 16 → WritesAlone register (immediate Addiu register 0 imm)
  from_zero imm small = record {
    rules = record { rs = omega arith; rt = few; rd = refl; sh = refl; imm = small; target = refl };
    writes = refl;
    reads = All-cons (λ (r : ℕ). (r ≡ register) ⊎ (r ≡ 0)) 0 [] (inr refl) (All-nil (λ (r : ℕ). (r ≡ register) ⊎ (r ≡ 0)));
  }

  low_part : (from imm : ℕ) → (from ≡ register) ⊎ (from ≡ 0) → imm < 2 ^ 16 → WritesAlone register (immediate Ori register from imm)
  low_part from imm is small = record {
    rules = record { rs = ⊎_elim (λ (e : from ≡ register). omega arith) (λ (e : from ≡ 0). omega arith) is; rt = few; rd = refl; sh = refl; imm = small; target = refl };
    writes = refl;
    reads = All-cons (λ (r : ℕ). (r ≡ register) ⊎ (r ≡ 0)) from [] is (All-nil (λ (r : ℕ). (r ≡ register) ⊎ (r ≡ 0)));
  }

  high_part : (imm : ℕ) → imm < 2 ^ 16 → WritesAlone register (immediate Lui register 0 imm)
  high_part imm small = record {
    rules = record { rs = refl; rt = few; rd = refl; sh = refl; imm = small; target = refl };
    writes = refl;
    reads = All-nil (λ (r : ℕ). (r ≡ register) ⊎ (r ≡ 0));
  }

  alone : (ins : Instruction) → WritesAlone register ins → is_one w ≡ true → ((a : ℕ) → word_after register (ins ∷ []) a ≡ Some w) → IsLoad register w (ins ∷ [])
  alone ins writes one makes = record {
    each = All-cons (WritesAlone register) ins [] writes (All-nil (WritesAlone register));
    few = sym (ap (λ (b : Bool). cond {A = ℕ} b 1 2) one);
    made = λ e. makes;
    kept = λ some plain. makes;
  }

  -- the instructions by the three tests
  abbrev load_by : Bool → Bool → Bool → List Instruction
  load_by s l z =
      cond s (immediate Addiu register 0 (w % 2 ^ 16) ∷ [])
      (cond l (immediate Ori register 0 w ∷ [])
      (cond z (immediate Lui register 0 (w / 2 ^ 16) ∷ [])
      (immediate Lui register 0 (w / 2 ^ 16) ∷ immediate Ori register register (w % 2 ^ 16) ∷ [])))

  by_tests : (s l z : Bool) → is_short w ≡ s → ltb w (2 ^ 16) ≡ l → eqb (w % 2 ^ 16) 0 ≡ z → IsLoad register w (load_by s l z)
  by_tests true l z short below low =
      alone (immediate Addiu register 0 (w % 2 ^ 16)) (from_zero (w % 2 ^ 16) (omega arith)) (ap (λ b. (b || ltb w (2 ^ 16)) || eqb (w % 2 ^ 16) 0) short) (λ a. ap Some (short_word w fits short))
  by_tests false true z short below low =
      let small : w < 2 ^ 16 = grind (arith, nat_tests) in
      alone (immediate Ori register 0 w) (low_part 0 w (inr refl) small) (ap (λ b. (b || ltb w (2 ^ 16)) || eqb (w % 2 ^ 16) 0) short ∙ ap (λ b. b || eqb (w % 2 ^ 16) 0) below) (λ a. ap Some (or_zero_l w))
  by_tests false false true short below low =
      let none = eqb-true (w % 2 ^ 16) 0 low in
      alone (immediate Lui register 0 (w / 2 ^ 16)) (high_part (w / 2 ^ 16) (omega arith)) (ap (λ b. (b || ltb w (2 ^ 16)) || eqb (w % 2 ^ 16) 0) short ∙ ap (λ b. b || eqb (w % 2 ^ 16) 0) below ∙ low) (λ a. ap Some (omega arith))
  by_tests false false false short below low =
      let high = w / 2 ^ 16 in
      let first = immediate Lui register 0 high in
      let second = immediate Ori register register (w % 2 ^ 16) in
      let two : is_one w ≡ false = ap (λ b. (b || ltb w (2 ^ 16)) || eqb (w % 2 ^ 16) 0) short ∙ ap (λ b. b || eqb (w % 2 ^ 16) 0) below ∙ low in
      record {
        each = All-cons (WritesAlone register) first (second ∷ []) (high_part high (omega arith)) (All-cons (WritesAlone register) second [] (low_part register (w % 2 ^ 16) (inl refl) (omega arith)) (All-nil (WritesAlone register)));
        few = sym (ap (λ (b : Bool). cond {A = ℕ} b 1 2) two);
        made = λ one. absurd (false≢true (sym two ∙ one));
        kept = λ some plain a.
            let other : eqb register 0 ≡ false = grind (arith, nat_tests) in
            ap (λ (b : Bool). Some (bit_or (cond b 0 (high * 2 ^ 16)) (w % 2 ^ 16))) other ∙ ap Some (halves w);
      }

pub loading : EachLoads
loading register w few fits = by_tests register w few fits (is_short w) (ltb w (2 ^ 16)) (eqb (w % 2 ^ 16) 0) refl refl refl
