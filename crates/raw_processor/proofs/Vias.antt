-- The wires by which a tile's operands and results pass.
use Rattle.std.proofs.Common.{◌≡◌, ℕ, ◌++◌, Bool, true, false, ◌&&◌, ◌||◌, cond, Option, Some, None, is_some, List, [], ◌∷◌, sym, ap, ◌∙◌, refl, arith}
use Rattle.std.specs.Prelude.{slice_index_or, ◌==◌}
use Rattle.std.specs.List.{flat_map}
use Rattle.std.specs.Option.{option_to_list}
use Rattle.raw_grid.specs.Topology.{Topology}
use Rattle.raw_grid.specs.Wires.{input_wire, output_wire}
use Rattle.raw_tile_isa.specs.Instruction.{is_network}
use Rattle.raw_model.specs.Machine.{source_wire, destination_wire}
use Rattle.raw_tile.specs.declared.step.Via.TheVariants.{Tile, Network1, Network2}
use Rattle.raw_tile.specs.Step.{register_via, via_where, via_of}
use Rattle.raw_processor.specs.declared.end_wires.EndWires.{EndWires}
use Rattle.raw_processor.specs.Ends.{AreEndsOf, HasNetworks}
use Rattle.raw_processor.specs.Given.{wire_via}

by_tests : (wires : List (Option ℕ)) (a b : Bool) → option_to_list (wire_via wires (cond a Network1 (cond b Network2 Tile)))
    ≡ cond a (option_to_list (slice_index_or wires 4 None)) (cond b (option_to_list (slice_index_or wires 9 None)) [])
by_tests wires true b = refl
by_tests wires false true = refl
by_tests wires false false = refl

some_by_tests : (wires : List (Option ℕ)) (a b : Bool) → is_some (slice_index_or wires 4 None) ≡ true → is_some (slice_index_or wires 9 None) ≡ true
    → is_some (wire_via wires (cond a Network1 (cond b Network2 Tile))) ≡ (a || b)
some_by_tests wires true b first second = first
some_by_tests wires false true first second = second
some_by_tests wires false false first second = refl

append_none : (xs : List ℕ) → xs ++ [] ≡ xs
append_none [] = refl
append_none (x ∷ xs) = ap (λ ys. x ∷ ys) (append_none xs)

-- the wire of a register that is read
pub source_is : (topo : Topology) (p : ℕ) (e : EndWires) (r : ℕ) → AreEndsOf topo p e
    → option_to_list (wire_via e.inputs (register_via r)) ≡ source_wire topo p r
source_is topo p e r are =
    by_tests e.inputs (r == 24) (r == 25)
    ∙ ap (λ w. cond (r == 24) (option_to_list w) (cond (r == 25) (option_to_list (slice_index_or e.inputs 9 None)) [])) (are.inputs 4 (omega arith))
    ∙ ap (λ w. cond (r == 24) (option_to_list (input_wire topo p 4)) (cond (r == 25) (option_to_list w) [])) (are.inputs 9 (omega arith))

pub destination_is : (topo : Topology) (p : ℕ) (e : EndWires) (r : ℕ) → AreEndsOf topo p e
    → option_to_list (wire_via e.outputs (register_via r)) ≡ destination_wire topo p r
destination_is topo p e r are =
    by_tests e.outputs (r == 24) (r == 25)
    ∙ ap (λ w. cond (r == 24) (option_to_list w) (cond (r == 25) (option_to_list (slice_index_or e.outputs 9 None)) [])) (are.outputs 4 (omega arith))
    ∙ ap (λ w. cond (r == 24) (option_to_list (output_wire topo p 4)) (cond (r == 25) (option_to_list w) [])) (are.outputs 9 (omega arith))

-- the same where the register is used
pub source_where : (topo : Topology) (p : ℕ) (e : EndWires) (used : Bool) (r : ℕ) → AreEndsOf topo p e
    → option_to_list (wire_via e.inputs (via_where used r)) ≡ flat_map (source_wire topo p) (cond used (r ∷ []) [])
source_where topo p e true r are = source_is topo p e r are ∙ sym (append_none (source_wire topo p r))
source_where topo p e false r are = refl

pub destination_of : (topo : Topology) (p : ℕ) (e : EndWires) (o : Option ℕ) → AreEndsOf topo p e
    → option_to_list (wire_via e.outputs (via_of o)) ≡ flat_map (destination_wire topo p) (option_to_list o)
destination_of topo p e (Some r) are = destination_is topo p e r are ∙ sym (append_none (destination_wire topo p r))
destination_of topo p e None are = refl

-- there is a wire where a network is read
pub some_where : (e : EndWires) (used : Bool) (r : ℕ) → HasNetworks e
    → is_some (wire_via e.inputs (via_where used r)) ≡ (used && is_network r)
some_where e true r has = some_by_tests e.inputs (r == 24) (r == 25) has.first has.second
some_where e false r has = refl

pub joined : (a b : Option ℕ) (xs ys : List ℕ) → option_to_list a ≡ xs → option_to_list b ≡ ys → option_to_list a ++ option_to_list b ≡ xs ++ ys
joined a b xs ys first second = ap (λ zs. zs ++ option_to_list b) first ∙ ap (λ zs. xs ++ zs) second
