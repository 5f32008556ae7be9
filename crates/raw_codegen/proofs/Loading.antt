-- The instructions of 'li', and what then stands in the register.
use Rattle.std.proofs.Common.{◌≡◌, ℕ, ◌*◌, ◌/◌, ◌%◌, ◌^◌, ◌<◌, true, false, cond, eqb, ◌||◌, [], Some, None, refl, ap, ◌∙◌, subst, ⊎_elim, arith}
use Rattle.std.specs.Prelude.{slice_index, bit_or, nat_lt, ◌==◌}
use Rattle.std.specs.Int.Bits.{or_zero_l}
use Rattle.std.proofs.lemmas.Bool.{cases_Bool, eqb-false}
use Rattle.std.proofs.lemmas.List.{get_or-set_same, set-set}
use Rattle.std.proofs.lemmas.Option.{same_Some}
use Rattle.raw_tile_isa.specs.declared.table.TileOp.TheVariants as tile
use Rattle.raw_tile_isa.specs.Instruction.{Instruction}
use Rattle.raw_tile_isa.specs.Made.{immediate}
use Rattle.raw_tile_isa.specs.Load.{is_short, load, word_after, EachLoads}
use Rattle.raw_tile_isa.specs.Words.{word_add, sign_extended}
use Rattle.raw_model.specs.TileTable.{gives}
use Rattle.raw_codegen.specs.Straight.{Core, IsCore, at_tile, row_of_ins, nothing, Does, IsPlain, Runs}
use Rattle.raw_codegen.specs.Rows.{IsKeeping, written}
use Rattle.raw_codegen.proofs.Rows.{not_zero, not_network, no_source, no_destination, gives_to, goes_same}
use Rattle.raw_codegen.proofs.Straight.{runs_one}

-- an instruction that gives a value to a register
pub gives_does : (ins : Instruction) (a : Core) (r x w : ℕ) → IsKeeping r → ((size k : ℕ) → row_of_ins ins size (at_tile k a) [] ≡ gives size (at_tile k a) r x) → x ≡ w
    → Does ins [] a (written a r w) nothing
gives_does ins a r x w keeps is e = record {
  row = λ size k l few.
      goes_same k (written a r w) nothing _ _ (is size k ∙ ap (gives size (at_tile k a) r) e) (gives_to size k a r w None keeps l few);
}

module _ (loads : EachLoads) (r w : ℕ) (a : Core) (keeps : IsKeeping r) (core : IsCore a) (small : w < 2 ^ 32) where
  kept : (v : ℕ) → word_after r (load r w) v ≡ Some w
  kept v = (loads r w keeps.below small).kept (let z = eqb-false r 0 (not_zero r keeps) in omega arith) (not_network r keeps) v

  abbrev after : Core
  after = written a r w

  plain_addiu : IsPlain (immediate tile.Addiu r 0 (w % 2 ^ 16))
  plain_addiu = record { takes = λ topo p. refl; sends = λ topo p. rw (no_destination topo p r keeps) refl }

  plain_lui : IsPlain (immediate tile.Lui r 0 (w / 2 ^ 16))
  plain_lui = record { takes = λ topo p. refl; sends = λ topo p. rw (no_destination topo p r keeps) refl }

  plain_ori : (imm : ℕ) → IsPlain (immediate tile.Ori r 0 imm)
  plain_ori imm = record { takes = λ topo p. refl; sends = λ topo p. rw (no_destination topo p r keeps) refl }

  plain_more : (imm : ℕ) → IsPlain (immediate tile.Ori r r imm)
  plain_more imm = record { takes = λ topo p. rw (no_source topo p r keeps) refl; sends = λ topo p. rw (no_destination topo p r keeps) refl }

  pub load_runs : Runs (load r w) a after
  load_runs = ⊎_elim short long (cases_Bool (is_short w))
    where
      short : is_short w ≡ true → Runs (load r w) a after
      short e =
          let is : Some (word_add 0 (sign_extended (w % 2 ^ 16))) ≡ Some w = rw e at (kept 0) in
          rw e
          (runs_one (immediate tile.Addiu r 0 (w % 2 ^ 16)) a after plain_addiu
          (gives_does (immediate tile.Addiu r 0 (w % 2 ^ 16)) a r (word_add (slice_index a.regs 0) (sign_extended (w % 2 ^ 16))) w keeps (λ size k. refl)
          (ap (λ z. word_add z (sign_extended (w % 2 ^ 16))) core.register_0 ∙ same_Some _ _ is)))

      long : is_short w ≡ false → Runs (load r w) a after
      long e = ⊎_elim half above (cases_Bool (nat_lt w (2 ^ 16)))
        where
          half : nat_lt w (2 ^ 16) ≡ true → Runs (load r w) a after
          half f =
              rw (e, f)
              (runs_one (immediate tile.Ori r 0 w) a after (plain_ori w)
              (gives_does (immediate tile.Ori r 0 w) a r (bit_or (slice_index a.regs 0) w) w keeps (λ size k. refl)
              (ap (λ z. bit_or z w) core.register_0 ∙ or_zero_l w)))

          above : nat_lt w (2 ^ 16) ≡ false → Runs (load r w) a after
          above f = ⊎_elim round full (cases_Bool (w % 2 ^ 16 == 0))
            where
              round : (w % 2 ^ 16 == 0) ≡ true → Runs (load r w) a after
              round g =
                  let is : Some (w / 2 ^ 16 * 2 ^ 16) ≡ Some w = rw (e, f, g) at (kept 0) in
                  rw (e, f, g)
                  (runs_one (immediate tile.Lui r 0 (w / 2 ^ 16)) a after plain_lui
                  (gives_does (immediate tile.Lui r 0 (w / 2 ^ 16)) a r (w / 2 ^ 16 * 2 ^ 16) w keeps (λ size k. refl) (same_Some _ _ is)))

              full : (w % 2 ^ 16 == 0) ≡ false → Runs (load r w) a after
              full g =
                  let high : ℕ = w / 2 ^ 16 * 2 ^ 16 in
                  let m : Core = written a r high in
                  let is : Some (bit_or high (w % 2 ^ 16)) ≡ Some w = rw (e, f, g, not_zero r keeps) at (kept 0) in
                  let there : slice_index m.regs r ≡ high = get_or-set_same a.regs r high 0 (omega (arith, core.registers, keeps.below)) in
                  let twice : written m r w ≡ after = ap (λ regs. record { regs = regs; memory = a.memory }) (set-set a.regs r high w) in
                  rw (e, f, g) (
                    m,
                    plain_lui,
                    gives_does (immediate tile.Lui r 0 (w / 2 ^ 16)) a r high high keeps (λ size k. refl) refl,
                    runs_one (immediate tile.Ori r r (w % 2 ^ 16)) m after (plain_more (w % 2 ^ 16))
                        (subst (λ (c : Core). Does (immediate tile.Ori r r (w % 2 ^ 16)) [] m c nothing) twice
                        (gives_does (immediate tile.Ori r r (w % 2 ^ 16)) m r (bit_or (cond (eqb r 24 || eqb r 25) 0 (slice_index m.regs r)) (w % 2 ^ 16)) w keeps (λ size k. refl)
                        (ap (λ b. bit_or (cond b 0 (slice_index m.regs r)) (w % 2 ^ 16)) (not_network r keeps) ∙ ap (λ z. bit_or z (w % 2 ^ 16)) there ∙ same_Some _ _ is))),
                  )
