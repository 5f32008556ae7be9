-- The switches of a tree take their parts of a script, and bring a value to the targets.
use Rattle.std.proofs.Common.{◌≡◌, ℕ, suc, ◌+◌, ◌<◌, ◌≤◌, true, false, cond, List, [], ◌∷◌, ◌++◌, length, Some, None, refl, sym, ap, ◌∙◌, subst, ⊎_elim, arith, append_assoc, length-append}
use Rattle.std.specs.Prelude.{slice_get}
use Rattle.std.specs.Option.{option_to_list}
use Rattle.std.proofs.lemmas.Bool.{cases_eq, cases_Bool}
use Rattle.std.proofs.lemmas.List.{append-nil}
use Rattle.raw_switch_isa.specs.declared.limits.TheConstants.{MAX_SWITCH_CODE}
use Rattle.raw_tile_isa.specs.declared.limits.TheConstants.{MAX_TILE_CODE}
use Rattle.raw_network.specs.Network.{values_on}
use Rattle.raw_switch_isa.specs.Instruction.{SwitchInstruction}
use Rattle.raw_switch_isa.specs.Made as switch
use Rattle.raw_grid.specs.declared.parts.Net.{Net}
use Rattle.raw_grid.specs.declared.parts.Net.TheVariants.{One, Two}
use Rattle.raw_grid.specs.declared.parts.Side.{Side}
use Rattle.raw_grid.specs.declared.parts.Dir.TheVariants.{P}
use Rattle.raw_grid.specs.Ends.{side_dir, side_end, end_index}
use Rattle.raw_grid.specs.Topology.{tile_count, switch_number}
use Rattle.raw_grid.specs.Wires.{output_wire, producer_of}
use Rattle.raw_grid.proofs.WireLaws.{output_owner}
use Rattle.raw_model.specs.Program.{ProgramSet}
use Rattle.raw_model.specs.Local.{Tile, Switch}
use Rattle.raw_model.specs.Machine.{switch_code}
use Rattle.raw_model.specs.Start.{MachineState, Fits}
use Rattle.raw_model.specs.Rest.{end_from}
use Rattle.raw_codegen.specs.Parts.{Part, tile_part, switch_part, to_switches}
use Rattle.raw_codegen.specs.Steps.{Leads, IsAlone}
use Rattle.raw_codegen.specs.Straight.{at_tile, at_switch, core_with}
use Rattle.raw_codegen.specs.Standing.{to_tile_wire, from_tile_wire, IsScript, PartsStand, HasGone}
use Rattle.raw_codegen.proofs.Straight.{at_place}
use Rattle.raw_route.specs.Hauls.{Haulage, IsHaul}
use Rattle.raw_route.specs.Tree.{in_tree, is_left, tree_instruction, tree_ins, tree_order}
use Rattle.raw_route.specs.Carrying.{StandsReady, CanCarry, HasCarried, IsAtTargets}
use Rattle.raw_route.proofs.Carry.{from_joins, lawful, carried}
use Rattle.raw_route.proofs.Given.{TreeLaws}

to_differs : (net : Net) (a b : ℕ) → to_tile_wire net a ≡ from_tile_wire net b → ⊥
to_differs One a b e = omega arith
to_differs Two a b e = omega arith

module _ (laws : TreeLaws) (set : ProgramSet) (all : List Part) (script : IsScript set all) where
  -- the tree has carried a value
  module _ (parts : List Part) (memories : ℕ → List ℕ) (s r : MachineState) (old : PartsStand set parts memories s) (fits : Fits set r) (haul : Haulage) (x : ℕ) (did : HasCarried set haul x s r) where
    abbrev tree : List Part
    tree = to_switches (tile_count set.topo) (tree_ins set.topo.cols haul)

    no_tile : (u : ℕ) → tile_part u (parts ++ tree) ≡ tile_part u parts
    no_tile u = laws.parts.tile_append u parts tree ∙ ap (λ xs. tile_part u parts ++ xs) (laws.parts.switches_tile (tree_ins set.topo.cols haul) u (tile_count set.topo)) ∙ append-nil (tile_part u parts)

    tree_at : (u : ℕ) → u < tile_count set.topo → switch_part u (parts ++ tree) ≡ switch_part u parts ++ option_to_list (tree_ins set.topo.cols haul u)
    tree_at u h = laws.parts.switch_append u parts tree ∙ ap (λ xs. switch_part u parts ++ xs) (laws.parts.switches (tree_ins set.topo.cols haul) u (tile_count set.topo) h)

    on_tree : (u : ℕ) → u < tile_count set.topo → in_tree set.topo.cols haul u ≡ true → length (switch_part u (parts ++ tree)) ≡ length (switch_part u parts) + 1
    on_tree u h e =
        ap length (tree_at u h)
        ∙ ap (λ b. length (switch_part u parts ++ option_to_list (cond b (Some (tree_instruction set.topo.cols haul u)) None))) e
        ∙ length-append (switch_part u parts) (tree_instruction set.topo.cols haul u ∷ [])

    off_tree : (u : ℕ) → u < tile_count set.topo → in_tree set.topo.cols haul u ≡ false → length (switch_part u (parts ++ tree)) ≡ length (switch_part u parts)
    off_tree u h e =
        ap length (tree_at u h)
        ∙ ap (λ b. length (switch_part u parts ++ option_to_list (cond b (Some (tree_instruction set.topo.cols haul u)) None))) e
        ∙ ap length (append-nil (switch_part u parts))

    gone_tree : HasGone set (parts ++ tree) memories s r
    gone_tree = record { stands = stands; ports = record { at = λ p h. did.others p (λ tile k e f. omega arith) } }
      where
        on : (u : ℕ) (h : u < tile_count set.topo) → in_tree set.topo.cols haul u ≡ true
            → slice_get r.locals (switch_number set.topo u) ≡ Some (Switch (at_switch (length (switch_part u (parts ++ tree))) (old.switches u h).0))
        on u h e =
            did.switches u (at_switch (length (switch_part u parts)) (old.switches u h).0) h e (old.switches u h).1
            ∙ ap (λ k. Some (Switch (at_switch k (old.switches u h).0))) (sym (on_tree u h e))

        off : (u : ℕ) (h : u < tile_count set.topo) → in_tree set.topo.cols haul u ≡ false
            → slice_get r.locals (switch_number set.topo u) ≡ Some (Switch (at_switch (length (switch_part u (parts ++ tree))) (old.switches u h).0))
        off u h e =
            did.others (switch_number set.topo u)
            (λ tile k on f. let same : u ≡ tile = omega arith in let bad : false ≡ true = sym e ∙ ap (in_tree set.topo.cols haul) same ∙ on in cc bad)
            ∙ (old.switches u h).1 ∙ ap (λ k. Some (Switch (at_switch k (old.switches u h).0))) (sym (off_tree u h e))

        stands : PartsStand set (parts ++ tree) memories r
        stands = record {
          tiles = λ u h. (
            (old.tiles u h).0,
            did.others u (λ tile k e f. omega arith) ∙ (old.tiles u h).1 ∙ ap (λ k. Some (Tile (at_tile k (core_with (old.tiles u h).0 (memories u))))) (ap length (sym (no_tile u))),
          );
          switches = λ u h. (
            (old.switches u h).0,
            ⊎_elim (λ (e : in_tree set.topo.cols haul u ≡ true). on u h e) (λ (e : in_tree set.topo.cols haul u ≡ false). off u h e) (cases_Bool (in_tree set.topo.cols haul u)),
          );
          fits = fits;
        }

  -- the program of a switch around the tree
  around : (parts chunk rest : List Part) (u : ℕ) → u < tile_count set.topo → all ≡ parts ++ (chunk ++ rest)
      → switch_code set (switch_number set.topo u) ≡ switch_part u parts ++ (switch_part u chunk ++ (switch_part u rest ++ switch.halt ∷ []))
  around parts chunk rest u h e =
      laws.switch_is set all script u h
      ∙ ap (λ xs. switch_part u xs ++ switch.halt ∷ []) e
      ∙ ap (λ xs. xs ++ switch.halt ∷ []) (laws.parts.switch_append u parts (chunk ++ rest) ∙ ap (λ xs. switch_part u parts ++ xs) (laws.parts.switch_append u chunk rest))
      ∙ append_assoc (switch_part u parts) (switch_part u chunk ++ switch_part u rest) (switch.halt ∷ [])
      ∙ ap (λ xs. switch_part u parts ++ xs) (append_assoc (switch_part u chunk) (switch_part u rest) (switch.halt ∷ []))

  -- the tree carries the word from the wire of the origin to those of the targets
  module _ (parts rest : List Part) (memories : ℕ → List ℕ) (haul : Haulage) (x : ℕ) (s : MachineState) (is : IsHaul (tile_count set.topo) haul)
      (old : PartsStand set parts memories s) (e : all ≡ parts ++ (to_switches (tile_count set.topo) (tree_ins set.topo.cols haul) ++ rest)) (alone : IsAlone (from_tile_wire haul.net haul.from) x s.wires) where
    ready : (u : ℕ) (within : u < tile_count set.topo) → in_tree set.topo.cols haul u ≡ true → StandsReady set haul u (at_switch (length (switch_part u parts)) (old.switches u within).0)
    ready u within on =
        let ins : SwitchInstruction = tree_instruction set.topo.cols haul u in
        let last : List SwitchInstruction = switch_part u rest ++ switch.halt ∷ [] in
        let code : switch_code set (switch_number set.topo u) ≡ switch_part u parts ++ (ins ∷ last) =
        around parts (to_switches (tile_count set.topo) (tree_ins set.topo.cols haul)) rest u within e
        ∙ ap (λ xs. switch_part u parts ++ (xs ++ last)) (laws.parts.switches (tree_ins set.topo.cols haul) u (tile_count set.topo) within)
        ∙ ap (λ b. switch_part u parts ++ (option_to_list (cond b (Some ins) None) ++ last)) on in
        let size : length (switch_code set (switch_number set.topo u)) ≡ length (switch_part u parts) + suc (length last) = ap length code ∙ length-append (switch_part u parts) (ins ∷ last) in
        let few : length (switch_code set (switch_number set.topo u)) ≤ MAX_SWITCH_CODE = laws.few_switch set all script u within in
        let limit : MAX_TILE_CODE < set.limit = script.limit in
        record {
          going = refl;
          below = omega arith;
          instruction = ap (λ xs. slice_get xs (length (switch_part u parts))) code ∙ at_place (switch_part u parts) ins last;
          more = omega (arith, length-append (switch_part u rest) (switch.halt ∷ []));
        }

    links_free : (u : ℕ) (side : Side) (w : ℕ) → u < tile_count set.topo → is_left set.topo.cols haul u (side_dir side) ≡ true
        → output_wire set.topo (switch_number set.topo u) (side_end haul.net side) ≡ Some w → values_on s.wires w ≡ []
    links_free u side w within left out =
        alone.elsewhere w
        (λ same.
        let a : producer_of set.topo w ≡ switch_number set.topo u = output_owner set.topo w (switch_number set.topo u) (side_end haul.net side) out in
        let b : producer_of set.topo (from_tile_wire haul.net haul.from) ≡ haul.from =
        output_owner set.topo (from_tile_wire haul.net haul.from) haul.from (end_index haul.net P) (from_joins set.topo haul.from script.valid.topology is.origin haul.net).0 in
        let c : switch_number set.topo u ≡ haul.from = sym a ∙ ap (producer_of set.topo) same ∙ b in
        let d : haul.from < tile_count set.topo = is.origin in
        omega arith)

    can : CanCarry set haul x s
    can = record {
      haul_is = is;
      switches = λ u within on. (at_switch (length (switch_part u parts)) (old.switches u within).0, (old.switches u within).1, ready u within on);
      origin = ([], alone.here);
      links = links_free;
      room = λ u is.
          let free : values_on s.wires (to_tile_wire haul.net u) ≡ [] = alone.elsewhere (to_tile_wire haul.net u) (λ e. to_differs haul.net u haul.from e) in
          let some : 1 ≤ set.depth = script.valid.some_depth in
          rw free (omega arith);
    }

    at_targets : (r : MachineState) → HasCarried set haul x s r → IsAtTargets haul x r.wires
    at_targets r c = record {
      there = λ t m. c.targets t m ∙ ap (λ xs. xs ++ x ∷ []) (alone.elsewhere (to_tile_wire haul.net t) (λ e. to_differs haul.net t haul.from e));
      nowhere = λ w ne.
          ⊎_elim (λ (e : w ≡ from_tile_wire haul.net haul.from). subst (λ u. values_on r.wires u ≡ []) (sym e) gone)
          (λ (away : w ≡ from_tile_wire haul.net haul.from → ⊥). c.wires w away ne ∙ alone.elsewhere w away)
          (cases_eq w (from_tile_wire haul.net haul.from));
    }
      where
        gone : values_on r.wires (from_tile_wire haul.net haul.from) ≡ []
        gone = let both : x ∷ [] ≡ x ∷ values_on r.wires (from_tile_wire haul.net haul.from) = sym alone.here ∙ c.origin in cc both

    pub tree_runs : Leads set s (λ r. HasGone set (parts ++ to_switches (tile_count set.topo) (tree_ins set.topo.cols haul)) memories s r × IsAtTargets haul x r.wires)
    tree_runs =
        let steps : List ℕ = tree_order set.topo haul in
        let r : MachineState = end_from set s steps in
        let law = lawful set haul x s script.valid old.fits can in
        let did : HasCarried set haul x s r = carried set haul x s script.valid old.fits can in
        record {
          steps = steps;
          lawful = law;
          holds = (gone_tree parts memories s r old (laws.end_fits set s steps script.valid old.fits law) haul x did, at_targets r did);
        }
