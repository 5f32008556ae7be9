-- A value is moved to a tile of the compiled set, and the parts of each node run.
use Rattle.std.proofs.Common.{◌≡◌, ℕ, ◌+◌, ◌^◌, ◌<◌, Bool, true, false, cond, List, [], ◌∷◌, ◌++◌, Option, Some, refl, sym, ap, ◌∙◌, subst, ⊎_elim, arith, append_assoc}
use Rattle.std.specs.Prelude.{slice_get, slice_index}
use Rattle.std.proofs.lemmas.Bool.{cases_eq}
use Rattle.std.proofs.lemmas.List.{append-nil}
use Rattle.raw_flow.specs.declared.limits.TheConstants.{MAX_NODES}
use Rattle.raw_grid.specs.declared.parts.Net.TheVariants.{One}
use Rattle.raw_model.specs.Local.{Local}
use Rattle.raw_model.specs.Program.{ProgramSet}
use Rattle.raw_model.specs.Start.{MachineState}
use Rattle.raw_codegen.specs.Parts.{Part, to_tile, to_switches}
use Rattle.raw_codegen.specs.Steps.{Leads}
use Rattle.raw_codegen.specs.Standing.{to_tile_wire, from_tile_wire, IsScript}
use Rattle.raw_codegen.proofs.Moves.{stay, then, more}
use Rattle.raw_route.specs.Tree.{tree_ins}
use Rattle.raw_flow.specs.declared.node.FlowOp.{FlowOp}
use Rattle.raw_flow.specs.declared.node.Node.{Node}
use Rattle.raw_flow.specs.declared.node.Node.TheVariants.{Input, Const, Apply}
use Rattle.raw_flow.specs.Flows.{Dataflow, IsFlow, IsNode, AreInputs, applied, values_of}
use Rattle.raw_flow.specs.Places.{Holding, has, with_value}
use Rattle.raw_flow.specs.Ports.{FlowPorts, ArePorts}
use Rattle.raw_flow.specs.Compiled.{home, tiles_in, send_value, take_value, one_haul, carried, moved, apply_code, node_parts, held_node, flow_parts, compiled_at}
use Rattle.raw_flow.proofs.Chunks.{Rests, Sends, const_chunk, apply_chunk, send_chunk, take_chunk, tree_chunk}
use Rattle.raw_flow.proofs.Given.{Laws}
use Rattle.raw_flow.proofs.Homes.{home_within}
use Rattle.raw_flow.proofs.Knowing.{know_again}
use Rattle.raw_flow.proofs.Walks.{Walk, walk_node, walk_before, walk_value, flow_words, applied_word, has_new, has_still}

-- lists of parts, split elsewhere
pub split_in : (all parts x y rest : List Part) → all ≡ parts ++ ((x ++ y) ++ rest) → all ≡ parts ++ (x ++ (y ++ rest))
split_in all parts x y rest e = e ∙ ap (λ xs. parts ++ xs) (append_assoc x y rest)

pub split_on : (all parts x rest : List Part) → all ≡ parts ++ (x ++ rest) → all ≡ (parts ++ x) ++ rest
split_on all parts x rest e = e ∙ sym (append_assoc parts x rest)

-- the values of the nodes before v are at their homes, and those of all inputs
pub record AreHome (flow : Dataflow) (ports : FlowPorts) (held : List Holding) (v : ℕ) : Type 0 where
  pub nodes : (u : ℕ) → u < v → has held u (home flow ports u) ≡ true
  pub inputs : (u : ℕ) → slice_get flow.nodes u ≡ Some Input → has held u (home flow ports u) ≡ true

pub home_still : (flow : Dataflow) (ports : FlowPorts) (held : List Holding) (v u t : ℕ) → AreHome flow ports held v → AreHome flow ports (with_value held u t) v
home_still flow ports held v u t h = record {
  nodes = λ w k. has_still held u t w (home flow ports w) (h.nodes w k);
  inputs = λ w e. has_still held u t w (home flow ports w) (h.inputs w e);
}

home_more : (flow : Dataflow) (ports : FlowPorts) (held : List Holding) (v : ℕ) → AreHome flow ports held v → has held v (home flow ports v) ≡ true → AreHome flow ports held (v + 1)
home_more flow ports held v h there = record { nodes = node; inputs = h.inputs }
  where
    node : (u : ℕ) → u < v + 1 → has held u (home flow ports u) ≡ true
    node u k = ⊎_elim (λ (e : u ≡ v). subst (λ w. has held w (home flow ports w) ≡ true) (sym e) there) (λ (ne : u ≡ v → ⊥). h.nodes u (omega arith)) (cases_eq u v)

module _ (laws : Laws) (flow : Dataflow) (ports : FlowPorts) (inputs : List ℕ) (is : IsFlow flow) (are : ArePorts flow ports) (given : AreInputs flow inputs) (script : IsScript (compiled_at flow ports inputs) (flow_parts flow ports)) where
  abbrev set : ProgramSet
  set = compiled_at flow ports inputs

  abbrev vals : List ℕ
  vals = values_of flow inputs

  abbrev all : List Part
  all = flow_parts flow ports

  abbrev pub Behind : List Part → List Holding → (ℕ → Option Local) → MachineState → Type 0
  Behind parts held states s = Rests set vals parts held states s

  pub behind_same : (parts others : List Part) (held : List Holding) (states : ℕ → Option Local) (s : MachineState) → parts ≡ others → Behind parts held states s → Behind others held states s
  behind_same parts others held states s e b = subst (λ ps. Behind ps held states s) e b

  behind_again : (parts : List Part) (held : List Holding) (v t : ℕ) (states : ℕ → Option Local) (s : MachineState) → has held v t ≡ true → Behind parts held states s → Behind parts (with_value held v t) states s
  behind_again parts held v t states s there b = record {
    has = record {
      memories = b.has.memories;
      stands = b.has.stands;
      know = know_again vals held v t b.has.memories there b.has.know;
      ports = b.has.ports;
    };
    idle = b.idle;
  }

  pub word : (v : ℕ) → slice_index vals v < 2 ^ 32
  word v = flow_words laws.words flow inputs is given v

  module _ (held : List Holding) (states : ℕ → Option Local) where
    carry : (parts : List Part) (s : MachineState) (v t : ℕ) (rest : List Part) → v < MAX_NODES → has held v (home flow ports v) ≡ true → t < tiles_in flow
        → all ≡ parts ++ (carried flow ports v t ++ rest) → Behind parts held states s
        → Leads set s (Behind (parts ++ carried flow ports v t) (with_value held v t) states)
    unfolding compiled_at
    carry parts s v t rest few there within e old =
        let h : ℕ = home flow ports v in
        let from : h < tiles_in flow = home_within flow ports are is v in
        let lw : List Part = to_tile h (send_value One v ∷ []) in
        let tree : List Part = to_switches (tiles_in flow) (tree_ins flow.cols (one_haul h t)) in
        let sw : List Part = to_tile t (take_value One v ∷ []) in
        let e1 : all ≡ parts ++ (lw ++ ((tree ++ sw) ++ rest)) = split_in all parts lw (tree ++ sw) rest e in
        let e2 : all ≡ (parts ++ lw) ++ (tree ++ (sw ++ rest)) = split_in all (parts ++ lw) tree sw rest (split_on all parts lw ((tree ++ sw) ++ rest) e1) in
        let e3 : all ≡ ((parts ++ lw) ++ tree) ++ (sw ++ rest) = split_on all (parts ++ lw) tree (sw ++ rest) e2 in
        let x : ℕ = slice_index vals v in
        let P1 : MachineState → Type 0 = Sends set vals (parts ++ lw) held states (from_tile_wire One h) x in
        let P2 : MachineState → Type 0 = Sends set vals ((parts ++ lw) ++ tree) held states (to_tile_wire One t) x in
        let P3 : MachineState → Type 0 = Behind (((parts ++ lw) ++ tree) ++ sw) (with_value held v t) states in
        more set s P3 (Behind (parts ++ carried flow ports v t) (with_value held v t) states)
        (then set s P1 P3 (send_chunk laws set all script vals parts held states s One h v ((tree ++ sw) ++ rest) from there e1 old)
        (λ r1 b1. then set r1 P2 P3 (tree_chunk laws set all script vals (parts ++ lw) held states r1 h t x (sw ++ rest) from within e2 b1)
        (λ r2 b2. take_chunk laws set all script vals ((parts ++ lw) ++ tree) held states r2 One t v rest within few (word v) e3 b2)))
        (λ r b. behind_same (((parts ++ lw) ++ tree) ++ sw) (parts ++ (lw ++ (tree ++ sw))) (with_value held v t) states r (append_assoc (parts ++ lw) tree sw ∙ append_assoc parts lw (tree ++ sw)) b)

    pub move : (parts : List Part) (s : MachineState) (v t : ℕ) (rest : List Part) → v < MAX_NODES → has held v (home flow ports v) ≡ true → t < tiles_in flow
        → all ≡ parts ++ (moved flow ports held v t ++ rest) → Behind parts held states s
        → Leads set s (Behind (parts ++ moved flow ports held v t) (with_value held v t) states)
    move parts s v t rest few there within e old = by (has held v t) refl e
      where
        by : (b : Bool) → has held v t ≡ b → all ≡ parts ++ (cond b [] (carried flow ports v t) ++ rest) → Leads set s (Behind (parts ++ cond b [] (carried flow ports v t)) (with_value held v t) states)
        by true h f =
            stay set s (Behind (parts ++ []) (with_value held v t) states)
            (behind_same parts (parts ++ []) (with_value held v t) states s (sym (append-nil parts)) (behind_again parts held v t states s h old))
        by false h f = carry parts s v t rest few there within f old

  -- the parts of a node
  module _ (held : List Holding) (states : ℕ → Option Local) (parts : List Part) (s : MachineState) (v : ℕ) (nodes : List Node) (k : ℕ) (done : List ℕ) (rest : List Part)
      (few : v < MAX_NODES) (homes : AreHome flow ports held v) where
    apply_phase : (op : FlowOp) (a b : ℕ) → Walk flow inputs v (Apply op a b ∷ nodes) k done
        → all ≡ parts ++ (node_parts flow ports held v (Apply op a b) ++ rest) → Behind parts held states s
        → Leads set s (Behind (parts ++ node_parts flow ports held v (Apply op a b)) (held_node flow ports held v (Apply op a b)) states)
    unfolding compiled_at
    apply_phase op a b walk e old =
        let h : ℕ = home flow ports v in
        let within : h < tiles_in flow = home_within flow ports are is v in
        let below : IsNode v (Apply op a b) = is.nodes v (Apply op a b) (walk_node flow inputs v (Apply op a b) nodes k done walk) in
        let la : a < v = below.0 in
        let lb : b < v = below.1 in
        let m1 : List Part = moved flow ports held a h in
        let held1 : List Holding = with_value held a h in
        let m2 : List Part = moved flow ports held1 b h in
        let held2 : List Holding = with_value held1 b h in
        let block : List Part = to_tile h (apply_code v op a b) in
        let e1 : all ≡ parts ++ (m1 ++ ((m2 ++ block) ++ rest)) = split_in all parts m1 (m2 ++ block) rest e in
        let e2 : all ≡ (parts ++ m1) ++ (m2 ++ (block ++ rest)) = split_in all (parts ++ m1) m2 block rest (split_on all parts m1 ((m2 ++ block) ++ rest) e1) in
        let e3 : all ≡ ((parts ++ m1) ++ m2) ++ (block ++ rest) = split_on all (parts ++ m1) m2 (block ++ rest) e2 in
        let va : slice_index vals a ≡ slice_index done a = walk_before flow inputs v (Apply op a b) nodes k done walk a la in
        let vb : slice_index vals b ≡ slice_index done b = walk_before flow inputs v (Apply op a b) nodes k done walk b lb in
        let value : applied op (slice_index vals a) (slice_index vals b) ≡ slice_index vals v =
        ap (λ x. applied op x (slice_index vals b)) va ∙ ap (λ y. applied op (slice_index done a) y) vb ∙ sym (walk_value flow inputs v (Apply op a b) nodes k done walk) in
        let P1 : MachineState → Type 0 = Behind (parts ++ m1) held1 states in
        let P2 : MachineState → Type 0 = Behind ((parts ++ m1) ++ m2) held2 states in
        let P3 : MachineState → Type 0 = Behind (((parts ++ m1) ++ m2) ++ block) (with_value held2 v h) states in
        more set s P3 (Behind (parts ++ node_parts flow ports held v (Apply op a b)) (held_node flow ports held v (Apply op a b)) states)
        (then set s P1 P3 (move held states parts s a h ((m2 ++ block) ++ rest) (omega arith) (homes.nodes a la) within e1 old)
        (λ r1 b1. then set r1 P2 P3
        (move held1 states (parts ++ m1) r1 b h (block ++ rest) (omega arith) (has_still held a h b (home flow ports b) (homes.nodes b lb)) within e2 b1)
        (λ r2 b2. apply_chunk laws set all script vals ((parts ++ m1) ++ m2) held2 states r2 h v a b op rest within few
        (has_still held1 b h a h (has_new held a h)) (has_new held1 b h) value (applied_word laws.words op (slice_index vals a) (slice_index vals b) (word a) (word b)) e3 b2)))
        (λ r c. behind_same (((parts ++ m1) ++ m2) ++ block) (parts ++ (m1 ++ (m2 ++ block))) (with_value held2 v h) states r (append_assoc (parts ++ m1) m2 block ∙ append_assoc parts m1 (m2 ++ block)) c)

    const_phase : (w : ℕ) → Walk flow inputs v (Const w ∷ nodes) k done
        → all ≡ parts ++ (node_parts flow ports held v (Const w) ++ rest) → Behind parts held states s
        → Leads set s (Behind (parts ++ node_parts flow ports held v (Const w)) (held_node flow ports held v (Const w)) states)
    unfolding compiled_at
    const_phase w walk e old =
        const_chunk laws set all script vals parts held states s (home flow ports v) v w rest (home_within flow ports are is v) few
        (is.nodes v (Const w) (walk_node flow inputs v (Const w) nodes k done walk))
        (sym (walk_value flow inputs v (Const w) nodes k done walk)) e old

    pub node_phase : (node : Node) → Walk flow inputs v (node ∷ nodes) k done
        → all ≡ parts ++ (node_parts flow ports held v node ++ rest) → Behind parts held states s
        → Leads set s (Behind (parts ++ node_parts flow ports held v node) (held_node flow ports held v node) states)
    node_phase Input walk e old =
        stay set s (Behind (parts ++ []) held states) (behind_same parts (parts ++ []) held states s (sym (append-nil parts)) old)
    node_phase (Const w) walk e old = const_phase w walk e old
    node_phase (Apply op a b) walk e old = apply_phase op a b walk e old

    pub node_home : (node : Node) → Walk flow inputs v (node ∷ nodes) k done → AreHome flow ports (held_node flow ports held v node) (v + 1)
    node_home Input walk =
        home_more flow ports held v homes (homes.inputs v (walk_node flow inputs v Input nodes k done walk))
    node_home (Const w) walk = home_more flow ports (with_value held v (home flow ports v)) v (home_still flow ports held v v (home flow ports v) homes) (has_new held v (home flow ports v))
    node_home (Apply op a b) walk =
        let h : ℕ = home flow ports v in
        let held2 : List Holding = with_value (with_value held a h) b h in
        home_more flow ports (with_value held2 v h) v
        (home_still flow ports held2 v v h (home_still flow ports (with_value held a h) v b h (home_still flow ports held v a h homes))) (has_new held2 v h)
