-- The row of a tile at its ends P.
use Rattle.std.proofs.Common.{◌≡◌, ℕ, ◌<◌, Bool, true, false, ◌&&◌, ◌||◌, cond, eqb, Option, Some, None, is_some, List, [], ◌∷◌, ◌++◌, append-nil, refl, sym, ap, ◌∙◌}
use Rattle.std.specs.List.{flat_map}
use Rattle.std.specs.Option.{option_to_list}
use Rattle.raw_tile_isa.specs.Instruction.{Instruction, uses, is_rs, reads_rt, is_network, destination_register}
use Rattle.raw_grid.specs.Topology.{tile_count}
use Rattle.raw_model.specs.Program.{ProgramSet, IsSet}
use Rattle.raw_model.specs.Local.{Local, Tile as tile_local, TileLocal}
use Rattle.raw_model.specs.TileTable.{next_instruction}
use Rattle.raw_model.specs.Machine.{tile_code, tile_effect}
use Rattle.raw_tile.specs.declared.step.Via.{Via}
use Rattle.raw_tile.specs.declared.step.Via.TheVariants.{Tile, Network1, Network2}
use Rattle.raw_tile.specs.declared.fire.TileOut.{TileOut}
use Rattle.raw_tile.specs.Step.{register_via, via_where, via_of, are_within, is_within, AreItsVias}
use Rattle.raw_tile.specs.Given.{out_of}
use Rattle.raw_fabric_rule.specs.ByEnds.{needs, gives, fills, sent, next_local, touched_by}
use Rattle.raw_fabric_rule.specs.ByKind.{source_end, destination_end, tile_needs, tile_gives, end_if}
use Rattle.raw_fabric_rule.proofs.ByKind.{needs_tile, gives_tile, fills_tile, sent_tile, next_tile, touched_tile}
use Rattle.raw_fabric_step.specs.Pairs.{pair_ends, via_end, out_ends, is_first, is_second}

-- ---- by registers
source_by : (a b : Bool) → cond a (4 ∷ []) (cond b (9 ∷ []) []) ≡ option_to_list (via_end (cond a Network1 (cond b Network2 Tile)))
source_by true b = refl
source_by false true = refl
source_by false false = refl

source_is : (register : ℕ) → source_end register ≡ option_to_list (via_end (register_via register))
source_is register = source_by (eqb register 24) (eqb register 25)

destination_by : (a b : Bool) → cond a (14 ∷ []) (cond b (19 ∷ []) []) ≡ out_ends (is_first (cond a Network1 (cond b Network2 Tile))) (is_second (cond a Network1 (cond b Network2 Tile)))
destination_by true b = refl
destination_by false true = refl
destination_by false false = refl

append_none : (xs : List ℕ) → xs ++ [] ≡ xs
append_none xs = append-nil xs

ins_needs : (a b : Bool) (rs rt : ℕ) → flat_map source_end (cond a (rs ∷ []) [] ++ cond b (rt ∷ []) []) ≡ pair_ends (via_end (via_where a rs)) (via_end (via_where b rt))
ins_needs true true rs rt = (λ i. source_is rs i ++ (source_is rt i ++ [])) ∙ ap (λ l. option_to_list (via_end (register_via rs)) ++ l) (append_none _)
ins_needs true false rs rt = ap (λ l. l ++ []) (source_is rs)
ins_needs false true rs rt = append_none _ ∙ source_is rt
ins_needs false false rs rt = refl

ins_gives : (o : Option ℕ) → flat_map destination_end (option_to_list o) ≡ out_ends (is_first (via_of o)) (is_second (via_of o))
ins_gives None = refl
ins_gives (Some register) = append_none _ ∙ destination_by (eqb register 24) (eqb register 25)

-- an operand is given exactly where the instruction reads a network
network_by : (a b : Bool) → is_some (via_end (cond a Network1 (cond b Network2 Tile))) ≡ (a || b)
network_by true b = refl
network_by false true = refl
network_by false false = refl

pub given_where : (used : Bool) (register : ℕ) → is_some (via_end (via_where used register)) ≡ (used && is_network register)
given_where true register = network_by (eqb register 24) (eqb register 25)
given_where false register = refl

-- an instruction that takes nothing from the networks, and sends nothing to them
within_ways : (first second sent : Via) → are_within first second sent ≡ true → (first ≡ Tile) × (second ≡ Tile) × (sent ≡ Tile)
within_ways Tile Tile Tile e = (refl, refl, refl)
within_ways Tile Tile Network1 e = absurd (cc e)
within_ways Tile Tile Network2 e = absurd (cc e)
within_ways Tile Network1 sent e = absurd (cc e)
within_ways Tile Network2 sent e = absurd (cc e)
within_ways Network1 second sent e = absurd (cc e)
within_ways Network2 second sent e = absurd (cc e)

pub ways_within : (ins : Instruction) → is_within ins ≡ true → AreItsVias ins Tile Tile Tile (is_within ins)
ways_within ins is =
    let w = within_ways (via_where (uses is_rs ins.op) ins.rs) (via_where (reads_rt ins.op) ins.rt) (via_of (destination_register ins)) is in
    record { first_is = sym w.0; second_is = sym w.1; sent_is = sym w.2; within_is = refl }

-- ---- the row
module _ (set : ProgramSet) (is : IsSet set) (p : ℕ) (below : p < tile_count set.topo) (at : Local) (l : TileLocal) (local_is : at ≡ tile_local l)
    (ins : Instruction) (next : next_instruction (tile_code set p) l ≡ Some ins) where
  pub row_needs : (first second : Via) → first ≡ via_where (uses is_rs ins.op) ins.rs → second ≡ via_where (reads_rt ins.op) ins.rt → needs set p at ≡ pair_ends (via_end first) (via_end second)
  row_needs first second first_is second_is =
      ap (needs set p) local_is ∙ needs_tile set is p below l ∙ ap tile_needs next ∙ ins_needs (uses is_rs ins.op) (reads_rt ins.op) ins.rs ins.rt
      ∙ (λ i. pair_ends (via_end (sym first_is i)) (via_end (sym second_is i)))

  pub row_gives : (via : Via) → via ≡ via_of (destination_register ins) → gives set p at ≡ out_ends (is_first via) (is_second via)
  row_gives via via_is =
      ap (gives set p) local_is ∙ gives_tile set is p below l ∙ ap tile_gives next ∙ ins_gives (destination_register ins)
      ∙ (λ i. out_ends (is_first (sym via_is i)) (is_second (sym via_is i)))

  module _ (values : List ℕ) (out : TileOut) (out_is : out ≡ out_of (tile_effect (tile_code set p) l values)) where
    pub row_fills : fills set p at values ≡ end_if 14 out.sent1 ++ end_if 19 out.sent2
    row_fills =
        ap (λ (k : Local). fills set p k values) local_is ∙ fills_tile set is p below l values
        ∙ (λ i. end_if 14 (sym out_is i).sent1 ++ end_if 19 (sym out_is i).sent2)

    pub row_sent : sent set p at values ≡ option_to_list out.sent1 ++ option_to_list out.sent2
    row_sent =
        ap (λ (k : Local). sent set p k values) local_is ∙ sent_tile set is p below l values
        ∙ (λ i. option_to_list (sym out_is i).sent1 ++ option_to_list (sym out_is i).sent2)

    pub row_touches : touched_by set p at values ≡ option_to_list out.touched
    row_touches =
        ap (λ (k : Local). touched_by set p k values) local_is ∙ touched_tile set p l values
        ∙ (λ i. option_to_list (sym out_is i).touched)

  pub row_next : (values : List ℕ) → next_local set p at values ≡ tile_local (tile_effect (tile_code set p) l values).next
  row_next values = ap (λ (k : Local). next_local set p k values) local_is ∙ next_tile set p l values
