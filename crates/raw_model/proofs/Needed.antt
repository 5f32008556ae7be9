-- The wires that a processor's next row takes from and sends to are those at the ends that its instruction needs.
use Rattle.std.proofs.Common.{◌≡◌, ℕ, zero, suc, ◌+◌, ◌<◌, Bool, true, false, cond, eqb, ◌||◌, List, [], ◌∷◌, ◌++◌, Option, Some, None, refl, sym, ap, ◌∙◌, subst, ⊎_elim, zero-add, add-zero, arith}
use Rattle.std.specs.List.{flat_map, count_by}
use Rattle.std.specs.Option.{option_to_list, option_map_or}
use Rattle.std.proofs.lemmas.Bool.{cases_eq, eq-eqb, eqb-true, ne_eqb}
use Rattle.std.proofs.lemmas.List.Sums.{sum_by-cons}
use Rattle.raw_network.specs.Network.{count_of}
use Rattle.raw_network.proofs.Wires.{count_here, count_there}
use Rattle.raw_tile_isa.specs.Instruction.{Instruction, source_registers, destination_register}
use Rattle.raw_switch_isa.specs.Instruction.{SwitchInstruction}
use Rattle.raw_switch_isa.specs.Ends.{ends, is_used_input, is_filled}
use Rattle.raw_grid.specs.Topology.{Topology}
use Rattle.raw_grid.specs.Wires.{input_wire, output_wire}
use Rattle.raw_model.specs.Program.{ProgramSet}
use Rattle.raw_model.specs.Local.{Local, Tile, Switch, Source, Sink}
use Rattle.raw_model.specs.TileTable.{next_instruction}
use Rattle.raw_model.specs.SwitchTable.{next_instruction as next_switch_instruction}
use Rattle.raw_model.specs.Machine.{tile_code, switch_code, destination_wire, tile_takes, tile_sends, switch_takes, switch_sends, takes, sends}
use Rattle.raw_model.specs.Needs.{once, is_near_end, tile_takes_at, tile_sends_at, switch_takes_at, switch_sends_at, takes_at, sends_at}
use Rattle.raw_model.proofs.Counts.{count-append, option_other}

-- the wires of a processor by its ends, of which no two share a wire
module _ (wire : ℕ → Option ℕ) (w : ℕ) (one : (i j : ℕ) → wire i ≡ Some w → wire j ≡ Some w → i ≡ j) where
  -- the wire at an end, once where that end is the one
  at_end : (end i : ℕ) → wire end ≡ Some w → count_of w (option_to_list (wire i)) ≡ once (eqb end i)
  at_end end i here =
      ⊎_elim
      (λ (e : end ≡ i).
      ap (λ o. count_of w (option_to_list o)) (ap wire (sym e) ∙ here) ∙ count_here w [] ∙ sym (ap once (eq-eqb end i e)))
      (λ (ne : end ≡ i → ⊥).
      option_other w (wire i) (λ there. ne (one end i here there)) ∙ sym (ap once (ne_eqb end i ne)))
      (cases_eq end i)

  -- the wire that a register names
  abbrev named : ℕ → List ℕ
  named register =
      cond (eqb register 24) (option_to_list (wire 4)) (cond (eqb register 25) (option_to_list (wire 9)) [])

  -- how often the registers name it
  abbrev read_at : ℕ → ℕ → ℕ
  read_at end register = cond (eqb end 4) (once (eqb register 24)) (cond (eqb end 9) (once (eqb register 25)) 0)

  one_named : (end register : ℕ) → wire end ≡ Some w → count_of w (named register) ≡ read_at end register
  one_named end register here =
      by_tests (eqb register 24) (eqb register 25) (eqb end 4) (eqb end 9) (at_end end 4 here) (at_end end 9 here)
      (λ e f. let a = eqb-true register 24 e in let b = eqb-true register 25 f in omega arith)
      (λ e f. let a = eqb-true end 4 e in let b = eqb-true end 9 f in omega arith)
    where
      by_tests : (b c d e : Bool) → count_of w (option_to_list (wire 4)) ≡ once d → count_of w (option_to_list (wire 9)) ≡ once e
          → (b ≡ true → c ≡ true → ⊥) → (d ≡ true → e ≡ true → ⊥)
          → count_of w (cond b (option_to_list (wire 4)) (cond c (option_to_list (wire 9)) [])) ≡ cond d (once b) (cond e (once c) 0)
      by_tests true true d e at_4 at_9 apart both = absurd (apart refl refl)
      by_tests b c true true at_4 at_9 apart both = absurd (both refl refl)
      by_tests true false true false at_4 at_9 apart both = at_4
      by_tests true false false true at_4 at_9 apart both = at_4
      by_tests true false false false at_4 at_9 apart both = at_4
      by_tests false true true false at_4 at_9 apart both = at_9
      by_tests false true false true at_4 at_9 apart both = at_9
      by_tests false true false false at_4 at_9 apart both = at_9
      by_tests false false true false at_4 at_9 apart both = refl
      by_tests false false false true at_4 at_9 apart both = refl
      by_tests false false false false at_4 at_9 apart both = refl

  abbrev all_read_at : ℕ → List ℕ → ℕ
  all_read_at end registers =
      cond (eqb end 4) (count_by (λ register. eqb register 24) registers)
      (cond (eqb end 9) (count_by (λ register. eqb register 25) registers) 0)

  read_more : (d e b c : Bool) (x y n : ℕ) → n ≡ cond d x (cond e y 0)
      → cond d (once b) (cond e (once c) 0) + n ≡ cond d (once b + x) (cond e (once c + y) 0)
  read_more true e b c x y n is = ap (λ m. once b + m) is
  read_more false true b c x y n is = ap (λ m. once c + m) is
  read_more false false b c x y n is = omega arith

  all_named : (end : ℕ) (registers : List ℕ) → wire end ≡ Some w → count_of w (flat_map named registers) ≡ all_read_at end registers
  all_named end [] here = by_tests (eqb end 4) (eqb end 9)
    where
      by_tests : (d e : Bool) → zero ≡ cond d zero (cond e zero zero)
      by_tests true e = refl
      by_tests false true = refl
      by_tests false false = refl
  all_named end (register ∷ registers) here =
      count-append w (named register) (flat_map named registers)
      ∙ ap (λ n. n + count_of w (flat_map named registers)) (one_named end register here)
      ∙ read_more (eqb end 4) (eqb end 9) (eqb register 24) (eqb register 25)
      (count_by (λ r. eqb r 24) registers) (count_by (λ r. eqb r 25) registers) _ (all_named end registers here)
      ∙ sym (λ i. cond (eqb end 4) (sum_by-cons (λ r. once (eqb r 24)) register registers i)
      (cond (eqb end 9) (sum_by-cons (λ r. once (eqb r 25)) register registers i) 0))

  -- of the ends that pass a test, the one end is there once where it passes
  kept : (test : ℕ → Bool) (end : ℕ) → wire end ≡ Some w → (is : List ℕ)
      → count_of w (flat_map (λ i. cond (test i) (option_to_list (wire i)) []) is) ≡ cond (test end) (count_of end is) 0
  kept test end here [] = by_test (test end)
    where
      by_test : (b : Bool) → zero ≡ cond b zero zero
      by_test true = refl
      by_test false = refl
  kept test end here (i ∷ is) =
      count-append w (cond (test i) (option_to_list (wire i)) []) _
      ∙ ap (λ n. count_of w (cond (test i) (option_to_list (wire i)) []) + n) (kept test end here is)
      ∙ ⊎_elim
      (λ (e : end ≡ i).
      subst (λ j. count_of w (cond (test j) (option_to_list (wire j)) []) + cond (test end) (count_of end is) 0 ≡ cond (test end) (count_of end (j ∷ is)) 0) e
      (by_test (test end) (at_end end end here ∙ ap once (eq-eqb end end refl)) (count_here end is)))
      (λ (ne : end ≡ i → ⊥).
      ap (λ n. n + cond (test end) (count_of end is) 0) (none (test i) (at_end end i here ∙ ap once (ne_eqb end i ne)))
      ∙ zero-add (cond (test end) (count_of end is) 0)
      ∙ ap (λ n. cond (test end) n 0) (sym (count_there end i is (λ f. ne (sym f)))))
      (cases_eq end i)
    where
      by_test : (b : Bool) → count_of w (option_to_list (wire end)) ≡ 1 → count_of end (end ∷ is) ≡ suc (count_of end is)
          → count_of w (cond b (option_to_list (wire end)) []) + cond b (count_of end is) 0 ≡ cond b (count_of end (end ∷ is)) 0
      by_test true one more = omega arith
      by_test false one more = refl

      none : (b : Bool) → count_of w (option_to_list (wire i)) ≡ 0 → count_of w (cond b (option_to_list (wire i)) []) ≡ 0
      none true e = e
      none false e = refl

  -- the two ends of a port
  near : (end : ℕ) → wire end ≡ Some w → count_of w (option_to_list (wire 4) ++ option_to_list (wire 9)) ≡ once (is_near_end end)
  near end here =
      count-append w (option_to_list (wire 4)) (option_to_list (wire 9))
      ∙ by_tests (eqb end 4) (eqb end 9) (at_end end 4 here) (at_end end 9 here)
      (λ e f. let a = eqb-true end 4 e in let b = eqb-true end 9 f in omega arith)
    where
      by_tests : (d e : Bool) → count_of w (option_to_list (wire 4)) ≡ once d → count_of w (option_to_list (wire 9)) ≡ once e
          → (d ≡ true → e ≡ true → ⊥)
          → count_of w (option_to_list (wire 4)) + count_of w (option_to_list (wire 9)) ≡ once (d || e)
      by_tests true true at_4 at_9 both = absurd (both refl refl)
      by_tests true false at_4 at_9 both = omega arith
      by_tests false true at_4 at_9 both = omega arith
      by_tests false false at_4 at_9 both = omega arith

-- each end stands once in the list of ends
pub end_once : (end : ℕ) → end < 10 → count_of end ends ≡ 1
unfolding ends
end_once (suc (suc (suc (suc (suc (suc (suc (suc (suc (suc end)))))))))) h = absurd (omega arith)
end_once _ h = refl

-- a register is written, if it is this one
abbrev written : ℕ → Option ℕ → Bool
written network o = option_map_or (λ register. eqb register network) o false

-- no two ends of a processor share a wire
abbrev IsOnce : (ℕ → Option ℕ) → ℕ → Type 0
IsOnce wire w = (i j : ℕ) → wire i ≡ Some w → wire j ≡ Some w → i ≡ j

module _ (t : Topology) (p end w : ℕ) (below : end < 10) where
  module _ (one : IsOnce (input_wire t p) w) (here : input_wire t p end ≡ Some w) where
    tile_takes_there : (o : Option Instruction) → count_of w (tile_takes t p o) ≡ tile_takes_at o end
    tile_takes_there None = refl
    tile_takes_there (Some ins) = all_named (input_wire t p) w one end (source_registers ins) here

    switch_takes_there : (o : Option SwitchInstruction) → count_of w (switch_takes t p o) ≡ switch_takes_at o end
    switch_takes_there None = refl
    switch_takes_there (Some ins) =
        kept (input_wire t p) w one (is_used_input ins) end here ends ∙ ap (λ n. cond (is_used_input ins end) n 0) (end_once end below)

  module _ (one : IsOnce (output_wire t p) w) (here : output_wire t p end ≡ Some w) where
    written_there : (o : Option ℕ) → count_of w (flat_map (destination_wire t p) (option_to_list o))
        ≡ cond (eqb end 4) (once (written 24 o)) (cond (eqb end 9) (once (written 25 o)) 0)
    written_there None = all_named (output_wire t p) w one end [] here
    written_there (Some register) =
        count-append w (destination_wire t p register) []
        ∙ add-zero (count_of w (destination_wire t p register))
        ∙ one_named (output_wire t p) w one end register here

    tile_sends_there : (o : Option Instruction) → count_of w (tile_sends t p o) ≡ tile_sends_at o end
    tile_sends_there None = refl
    tile_sends_there (Some ins) = written_there (destination_register ins)

    switch_sends_there : (o : Option SwitchInstruction) → count_of w (switch_sends t p o) ≡ switch_sends_at o end
    switch_sends_there None = refl
    switch_sends_there (Some ins) =
        kept (output_wire t p) w one (is_filled ins) end here ends ∙ ap (λ n. cond (is_filled ins end) n 0) (end_once end below)

module _ (set : ProgramSet) (p end w : ℕ) (below : end < 10) where
  pub takes_there : IsOnce (input_wire set.topo p) w → (l : Local) → input_wire set.topo p end ≡ Some w
      → count_of w (takes set p l) ≡ takes_at set p l end
  takes_there one (Tile l) here = tile_takes_there set.topo p end w below one here (next_instruction (tile_code set p) l)
  takes_there one (Switch l) here = switch_takes_there set.topo p end w below one here (next_switch_instruction (switch_code set p) l)
  takes_there one (Source l) here = refl
  takes_there one (Sink l) here = near (input_wire set.topo p) w one end here

  pub sends_there : IsOnce (output_wire set.topo p) w → (l : Local) → output_wire set.topo p end ≡ Some w
      → count_of w (sends set p l) ≡ sends_at set p l end
  sends_there one (Tile l) here = tile_sends_there set.topo p end w below one here (next_instruction (tile_code set p) l)
  sends_there one (Switch l) here = switch_sends_there set.topo p end w below one here (next_switch_instruction (switch_code set p) l)
  sends_there one (Source l) here = near (output_wire set.topo p) w one end here
  sends_there one (Sink l) here = refl
