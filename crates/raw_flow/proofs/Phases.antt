-- All inputs, all other nodes, and all outs.
use Rattle.std.proofs.Common.{◌≡◌, ℕ, ◌+◌, ◌<◌, ◌≤◌, List, [], ◌∷◌, ◌++◌, length, drop, Option, Some, None, sym, ap, ◌∙◌, subst, arith, append_assoc, length-append}
use Rattle.std.specs.Prelude.{slice_get, slice_index}
use Rattle.std.specs.List.{All}
use Rattle.std.specs.Option.{option_map}
use Rattle.std.proofs.lemmas.List.{append-nil, length-map}
use Rattle.std.proofs.lemmas.List.Elements.{All-head, All-tail}
use Rattle.std.proofs.lemmas.Option.{slice_get-get_or, slice_get-map, slice_get_within}
use Rattle.raw_flow.specs.declared.limits.TheConstants.{MAX_NODES}
use Rattle.raw_grid.specs.declared.parts.PortPlace.{PortPlace}
use Rattle.raw_grid.specs.Ends.{tile_end}
use Rattle.raw_grid.specs.Topology.{switch_number}
use Rattle.raw_model.specs.Local.{Local, Source, Sink}
use Rattle.raw_model.specs.Program.{ProgramSet}
use Rattle.raw_model.specs.Start.{MachineState}
use Rattle.raw_codegen.specs.Parts.{Part, ToSwitch, to_tile}
use Rattle.raw_codegen.specs.Rows.{from_side, to_side}
use Rattle.raw_codegen.specs.Steps.{Leads}
use Rattle.raw_codegen.specs.Standing.{to_tile_wire, from_tile_wire, IsScript}
use Rattle.raw_codegen.proofs.Moves.{stay, then, more}
use Rattle.raw_flow.specs.declared.node.Node.{Node}
use Rattle.raw_flow.specs.declared.node.Node.TheVariants.{Input, Const, Apply}
use Rattle.raw_flow.specs.Flows.{Dataflow, IsFlow, AreInputs, with_input, inputs_in, value_of, values_of, outs_of}
use Rattle.raw_flow.specs.Places.{Holding, with_value}
use Rattle.raw_flow.specs.Ports.{FlowPorts, ArePorts, source_of, sink_of, picked}
use Rattle.raw_flow.specs.Compiled.{tiles_in, source_tile, sink_tile, send_value, take_value, moved, taken_at, inputs_from, held_inputs, node_parts, held_node, nodes_from, held_nodes, given_at, outs_from, flow_parts, compiled_at}
use Rattle.raw_flow.proofs.Chunks.{Rests, Sends, send_chunk, take_chunk, pass_chunk}
use Rattle.raw_flow.proofs.Given.{Laws}
use Rattle.raw_flow.proofs.Homes.{source_port, sink_port, source_kind, sink_kind, source_at, sink_at, source_within, sink_within}
use Rattle.raw_flow.proofs.Moving.{AreHome, home_still, Behind, behind_same, word, move, node_phase, node_home, split_in, split_on}
use Rattle.raw_flow.proofs.Picked.{picked_map, is_there, none_left}
use Rattle.raw_flow.proofs.PortPrograms.{words_are, capacity_is}
use Rattle.raw_flow.proofs.PortStates.{AreAt, sent, sent_more, got, got_more}
use Rattle.raw_flow.proofs.PortSteps.{with_port, source_chunk, sink_chunk}
use Rattle.raw_flow.proofs.PortWires.{joins_to, joins_from, source_wire, sink_wire}
use Rattle.raw_flow.proofs.Walks.{Walk, walk_more, walk_within, walk_value, walk_total, has_new}

-- which tiles have which values after the outs, of which there are i before these
abbrev pub held_outs : Dataflow → FlowPorts → List Holding → ℕ → List ℕ → List Holding
held_outs flow ports held i [] = held
held_outs flow ports held i (v ∷ outs) = held_outs flow ports (with_value held v (sink_tile flow ports i)) (i + 1) outs

-- behind these parts the first i inputs have come, and the first j values of outs are gone
pub record Stage (set : ProgramSet) (vals : List ℕ) (ports : FlowPorts) (inputs values : List ℕ) (parts : List Part) (held : List Holding) (i j : ℕ) (s : MachineState) : Type 0 where
  pub states : ℕ → Option Local
  pub rests : Rests set vals parts held states s
  pub at : AreAt ports inputs values i j states

module _ (laws : Laws) (flow : Dataflow) (ports : FlowPorts) (inputs : List ℕ) (is : IsFlow flow) (are : ArePorts flow ports) (given : AreInputs flow inputs) (script : IsScript (compiled_at flow ports inputs) (flow_parts flow ports)) where
  abbrev set : ProgramSet
  set = compiled_at flow ports inputs

  abbrev vals : List ℕ
  vals = values_of flow inputs

  abbrev values : List ℕ
  values = outs_of flow inputs

  abbrev all : List Part
  all = flow_parts flow ports

  abbrev At : List Part → List Holding → (ℕ → Option Local) → MachineState → Type 0
  At parts held states s = Behind laws flow ports inputs is are given script parts held states s

  abbrev Comes : List Part → List Holding → ℕ → ℕ → MachineState → Type 0
  Comes parts held i j s = Stage set vals ports inputs values parts held i j s

  same : (parts others : List Part) (held : List Holding) (states : ℕ → Option Local) (s : MachineState) → parts ≡ others → At parts held states s → At others held states s
  same parts others held states s e b = behind_same laws flow ports inputs is are given script parts others held states s e b

  same_stage : (parts others : List Part) (held : List Holding) (i j : ℕ) (s : MachineState) → parts ≡ others → Comes parts held i j s → Comes others held i j s
  same_stage parts others held i j s e b = subst (λ ps. Comes ps held i j s) e b

  few_nodes : (v : ℕ) → v < length flow.nodes → v < MAX_NODES
  few_nodes v h = omega (arith, is.few)

  -- one input
  input_phase : (parts : List Part) (held : List Holding) (i j v : ℕ) (rest : List Part) (s : MachineState) → v < MAX_NODES → i < inputs_in flow.nodes → slice_get inputs i ≡ Some (slice_index vals v)
      → all ≡ parts ++ (taken_at flow (source_of ports i) v ++ rest) → Comes parts held i j s
      → Leads set s (Comes (parts ++ taken_at flow (source_of ports i) v) (with_value held v (source_tile flow ports i)) (i + 1) j)
  unfolding compiled_at
  input_phase parts held i j v rest s few within value e old =
      let x : ℕ = slice_index vals v in
      let q : ℕ = slice_index ports.comes i in
      let place : PortPlace = source_of ports i in
      let t : ℕ = source_tile flow ports i in
      let inside : t < tiles_in flow = source_within flow ports are i within in
      let some : q < length ports.sources = are.comes i within in
      let here : slice_get ports.sources q ≡ Some place = source_at flow ports are i within in
      let wires = source_wire laws.wires set.topo q place script.valid.topology (source_port flow ports are q place here) inside (source_kind flow ports are q place here) in
      let joins = joins_to laws.wires set.topo t script.valid.topology inside place.net in
      let w : ℕ = to_tile_wire place.net t in
      let sw : List Part = ToSwitch t (from_side place.net place.side) ∷ [] in
      let st : List Part = to_tile t (take_value place.net v ∷ []) in
      let e1 : all ≡ parts ++ (sw ++ (st ++ rest)) = e in
      let e2 : all ≡ (parts ++ sw) ++ (st ++ rest) = split_on all parts sw (st ++ rest) e1 in
      let left = sent flow ports inputs values i j old.states old.at x value some in
      let there = is_there (picked q ports.comes inputs) left.done x (picked q (drop (i + 1) ports.comes) (drop (i + 1) inputs)) left.left in
      let next : ℕ → Option Local = with_port q (Source (record { done = left.done + 1; got = [] })) old.states in
      let P1 : MachineState → Type 0 = Sends set vals parts held next wires.wire x in
      let P2 : MachineState → Type 0 = Sends set vals (parts ++ sw) held next w x in
      let P3 : MachineState → Type 0 = At ((parts ++ sw) ++ st) (with_value held v t) next in
      more set s P3 (Comes (parts ++ taken_at flow place v) (with_value held v t) (i + 1) j)
      (then set s P1 P3
      (source_chunk laws set all script vals parts held old.states s q left.done wires.wire x left.is wires.out wires.exists (picked q ports.comes inputs) (words_are flow ports inputs q some) there.0 there.1 old.rests)
      (λ r1 b1. then set r1 P2 P3
      (pass_chunk laws set all script vals parts held next r1 t (from_side place.net place.side) wires.wire w x (st ++ rest) inside
      (laws.rows.from_side set.topo (switch_number set.topo t) place.net place.side wires.wire w wires.into joins.0)
      (laws.wires.output_exists set.topo (switch_number set.topo t) (tile_end place.net) w joins.0) wires.apart e1 b1)
      (λ r2 b2. take_chunk laws set all script vals (parts ++ sw) held next r2 place.net t v rest inside few (word laws flow ports inputs is are given script v) e2 b2)))
      (λ r b. record {
        states = next;
        rests = same ((parts ++ sw) ++ st) (parts ++ taken_at flow place v) (with_value held v t) next r (append_assoc parts sw st) b;
        at = sent_more flow ports inputs values i j old.states old.at x value some;
      })

  -- all inputs
  pub inputs_phase : (nodes : List Node) (v i j : ℕ) (done : List ℕ) (held : List Holding) (parts rest : List Part) (s : MachineState)
      → Walk flow inputs v nodes i done → i + inputs_in nodes ≡ length inputs
      → all ≡ parts ++ (inputs_from flow ports i v nodes ++ rest) → Comes parts held i j s
      → Leads set s (Comes (parts ++ inputs_from flow ports i v nodes) (held_inputs flow ports held i v nodes) (length inputs) j)
  inputs_phase [] v i j done held parts rest s walk count e old =
      let all_in : i ≡ length inputs = omega arith in
      stay set s (Comes (parts ++ []) held (length inputs) j)
      (subst (λ k. Comes (parts ++ []) held k j s) all_in (same_stage parts (parts ++ []) held i j s (sym (append-nil parts)) old))
  inputs_phase (Input ∷ nodes) v i j done held parts rest s walk count e old =
      let within : i < length inputs = omega arith in
      let value : slice_get inputs i ≡ Some (slice_index vals v) =
      slice_get-get_or inputs i 0 within ∙ ap (λ (x : ℕ). Some x) (sym (walk_value flow inputs v Input nodes i done walk)) in
      let total : i + 1 + inputs_in nodes ≡ length inputs = omega arith in
      let chunk : List Part = taken_at flow (source_of ports i) v in
      let held1 : List Holding = with_value held v (source_tile flow ports i) in
      let others : List Part = inputs_from flow ports (i + 1) (v + 1) nodes in
      let P1 : MachineState → Type 0 = Comes (parts ++ chunk) held1 (i + 1) j in
      let P2 : MachineState → Type 0 = Comes ((parts ++ chunk) ++ others) (held_inputs flow ports held1 (i + 1) (v + 1) nodes) (length inputs) j in
      more set s P2 (Comes (parts ++ inputs_from flow ports i v (Input ∷ nodes)) (held_inputs flow ports held i v (Input ∷ nodes)) (length inputs) j)
      (then set s P1 P2
      (input_phase parts held i j v (others ++ rest) s (few_nodes v (walk_within flow inputs v Input nodes i done walk)) (omega (arith, given.each)) value
      (split_in all parts chunk others rest e) old)
      (λ r b. inputs_phase nodes (v + 1) (i + 1) j (done ++ value_of inputs i done Input ∷ []) held1 (parts ++ chunk) rest r
      (walk_more flow inputs v Input nodes i done walk) total
      (split_on all parts chunk (others ++ rest) (split_in all parts chunk others rest e)) b))
      (λ r b. same_stage ((parts ++ chunk) ++ others) (parts ++ (chunk ++ others)) (held_inputs flow ports held1 (i + 1) (v + 1) nodes) (length inputs) j r (append_assoc parts chunk others) b)
  inputs_phase (Const w ∷ nodes) v i j done held parts rest s walk count e old =
      inputs_phase nodes (v + 1) i j (done ++ w ∷ []) held parts rest s (walk_more flow inputs v (Const w) nodes i done walk) count e old
  inputs_phase (Apply op a b ∷ nodes) v i j done held parts rest s walk count e old =
      inputs_phase nodes (v + 1) i j (done ++ value_of inputs i done (Apply op a b) ∷ []) held parts rest s (walk_more flow inputs v (Apply op a b) nodes i done walk) count e old

  -- all other nodes
  pub nodes_phase : (nodes : List Node) (v k : ℕ) (done : List ℕ) (states : ℕ → Option Local) (held : List Holding) (parts rest : List Part) (s : MachineState)
      → Walk flow inputs v nodes k done → AreHome flow ports held v
      → all ≡ parts ++ (nodes_from flow ports held v nodes ++ rest) → At parts held states s
      → Leads set s (At (parts ++ nodes_from flow ports held v nodes) (held_nodes flow ports held v nodes) states)
  nodes_phase [] v k done states held parts rest s walk homes e old =
      stay set s (At (parts ++ []) held states) (same parts (parts ++ []) held states s (sym (append-nil parts)) old)
  nodes_phase (node ∷ nodes) v k done states held parts rest s walk homes e old =
      let few : v < MAX_NODES = few_nodes v (walk_within flow inputs v node nodes k done walk) in
      let chunk : List Part = node_parts flow ports held v node in
      let held1 : List Holding = held_node flow ports held v node in
      let others : List Part = nodes_from flow ports held1 (v + 1) nodes in
      let e1 : all ≡ parts ++ (chunk ++ (others ++ rest)) = split_in all parts chunk others rest e in
      let P1 : MachineState → Type 0 = At (parts ++ chunk) held1 states in
      let P2 : MachineState → Type 0 = At ((parts ++ chunk) ++ others) (held_nodes flow ports held1 (v + 1) nodes) states in
      more set s P2 (At (parts ++ (chunk ++ others)) (held_nodes flow ports held1 (v + 1) nodes) states)
      (then set s P1 P2
      (node_phase laws flow ports inputs is are given script held states parts s v nodes k done (others ++ rest) few homes node walk e1 old)
      (λ r b. nodes_phase nodes (v + 1) (with_input node k) (done ++ value_of inputs k done node ∷ []) states held1 (parts ++ chunk) rest r
      (walk_more flow inputs v node nodes k done walk)
      (node_home laws flow ports inputs is are given script held states parts s v nodes k done (others ++ rest) few homes node walk)
      (split_on all parts chunk (others ++ rest) e1) b))
      (λ r b. same ((parts ++ chunk) ++ others) (parts ++ (chunk ++ others)) (held_nodes flow ports held1 (v + 1) nodes) states r (append_assoc parts chunk others) b)

  pub nodes_home : (nodes : List Node) (v k : ℕ) (done : List ℕ) (held : List Holding) (s : MachineState) → Walk flow inputs v nodes k done → AreHome flow ports held v
      → AreHome flow ports (held_nodes flow ports held v nodes) (length flow.nodes)
  nodes_home [] v k done held s walk homes =
      let total : v ≡ length flow.nodes = omega (arith, walk_total flow inputs v [] k done walk) in
      subst (λ n. AreHome flow ports held n) total homes
  nodes_home (node ∷ nodes) v k done held s walk homes =
      nodes_home nodes (v + 1) (with_input node k) (done ++ value_of inputs k done node ∷ []) (held_node flow ports held v node) s
      (walk_more flow inputs v node nodes k done walk)
      (node_home laws flow ports inputs is are given script held (λ q. None) [] s v nodes k done [] (few_nodes v (walk_within flow inputs v node nodes k done walk)) homes node walk)

  -- one out
  out_phase : (parts : List Part) (held : List Holding) (i j v : ℕ) (rest : List Part) (s : MachineState) → v < length flow.nodes → slice_get flow.outs j ≡ Some v
      → AreHome flow ports held (length flow.nodes)
      → all ≡ parts ++ (given_at flow ports held (sink_of ports j) v ++ rest) → Comes parts held i j s
      → Leads set s (Comes (parts ++ given_at flow ports held (sink_of ports j) v) (with_value held v (sink_tile flow ports j)) i (j + 1))
  unfolding compiled_at
  out_phase parts held i j v rest s within out homes e old =
      let x : ℕ = slice_index vals v in
      let q : ℕ = slice_index ports.goes j in
      let place : PortPlace = sink_of ports j in
      let t : ℕ = sink_tile flow ports j in
      let room : j < length flow.outs = slice_get_within flow.outs j v out in
      let inside : t < tiles_in flow = sink_within flow ports are j room in
      let some : q < length ports.sinks = are.goes j room in
      let here : slice_get ports.sinks q ≡ Some place = sink_at flow ports are j room in
      let port : ℕ = length ports.sources + q in
      let wires = sink_wire laws.wires set.topo port place script.valid.topology (sink_port flow ports are q place here) inside (sink_kind flow ports are q place here) in
      let joins = joins_from laws.wires set.topo t script.valid.topology inside place.net in
      let value : slice_get values j ≡ Some x = slice_get-map (λ u. slice_index vals u) flow.outs j ∙ ap (option_map (λ u. slice_index vals u)) out in
      let old_got = got flow ports inputs values i j old.states old.at x value some in
      let few_got : length old_got.got < length (picked q ports.goes flow.outs) =
      omega (
        arith,
        ap length old_got.left,
        length-append old_got.got (x ∷ picked q (drop (j + 1) ports.goes) (drop (j + 1) values)),
        ap length (picked_map (λ u. slice_index vals u) q ports.goes flow.outs),
        length-map (picked q ports.goes flow.outs) (λ u. slice_index vals u),
      ) in
      let next : ℕ → Option Local = with_port port (Sink (record { done = length (old_got.got ++ x ∷ []); got = old_got.got ++ x ∷ [] })) old.states in
      let m : List Part = moved flow ports held v t in
      let held1 : List Holding = with_value held v t in
      let lw : List Part = to_tile t (send_value place.net v ∷ []) in
      let sw : List Part = ToSwitch t (to_side place.net place.side) ∷ [] in
      let e1 : all ≡ parts ++ (m ++ ((lw ++ sw) ++ rest)) = split_in all parts m (lw ++ sw) rest e in
      let e2 : all ≡ (parts ++ m) ++ (lw ++ (sw ++ rest)) = split_in all (parts ++ m) lw sw rest (split_on all parts m ((lw ++ sw) ++ rest) e1) in
      let e3 : all ≡ ((parts ++ m) ++ lw) ++ (sw ++ rest) = split_on all (parts ++ m) lw (sw ++ rest) e2 in
      let w : ℕ = from_tile_wire place.net t in
      let P1 : MachineState → Type 0 = At (parts ++ m) held1 old.states in
      let P2 : MachineState → Type 0 = Sends set vals ((parts ++ m) ++ lw) held1 old.states w x in
      let P3 : MachineState → Type 0 = Sends set vals (((parts ++ m) ++ lw) ++ sw) held1 old.states wires.wire x in
      let P4 : MachineState → Type 0 = At (((parts ++ m) ++ lw) ++ sw) held1 next in
      more set s P4 (Comes (parts ++ given_at flow ports held place v) held1 i (j + 1))
      (then set s P1 P4
      (move laws flow ports inputs is are given script held old.states parts s v t ((lw ++ sw) ++ rest) (few_nodes v within) (homes.nodes v within) inside e1 old.rests)
      (λ r1 b1. then set r1 P2 P4
      (send_chunk laws set all script vals (parts ++ m) held1 old.states r1 place.net t v (sw ++ rest) inside (has_new held v t) e2 b1)
      (λ r2 b2. then set r2 P3 P4
      (pass_chunk laws set all script vals ((parts ++ m) ++ lw) held1 old.states r2 t (to_side place.net place.side) w wires.wire x rest inside
      (laws.rows.to_side set.topo (switch_number set.topo t) place.net place.side w wires.wire joins.1 wires.out) wires.exists wires.apart e3 b2)
      (λ r3 b3. sink_chunk laws set all script vals (((parts ++ m) ++ lw) ++ sw) held1 old.states r3 port wires.wire x old_got.got old_got.is wires.into (length (picked q ports.goes flow.outs)) (capacity_is flow ports inputs q some) few_got b3))))
      (λ r b. record {
        states = next;
        rests = same (((parts ++ m) ++ lw) ++ sw) (parts ++ (m ++ (lw ++ sw))) held1 next r (append_assoc (parts ++ m) lw sw ∙ append_assoc parts m (lw ++ sw)) b;
        at = got_more flow ports inputs values i j old.states old.at x value some;
      })

  -- all outs
  pub outs_phase : (outs : List ℕ) (i j : ℕ) (held : List Holding) (parts rest : List Part) (s : MachineState) → All (λ v. v < length flow.nodes) outs
      → drop j flow.outs ≡ outs → j ≤ length flow.outs → AreHome flow ports held (length flow.nodes)
      → all ≡ parts ++ (outs_from flow ports held j outs ++ rest) → Comes parts held i j s
      → Leads set s (Comes (parts ++ outs_from flow ports held j outs) (held_outs flow ports held j outs) i (length flow.outs))
  outs_phase [] i j held parts rest s below left few homes e old =
      let all_out : j ≡ length flow.outs = omega (arith, none_left flow.outs j left) in
      stay set s (Comes (parts ++ []) held i (length flow.outs))
      (subst (λ k. Comes (parts ++ []) held i k s) all_out (same_stage parts (parts ++ []) held i j s (sym (append-nil parts)) old))
  outs_phase (v ∷ outs) i j held parts rest s below left few homes e old =
      let there = is_there flow.outs j v outs left in
      let out : slice_get flow.outs j ≡ Some v = slice_get-get_or flow.outs j 0 there.0 ∙ ap (λ (u : ℕ). Some u) there.1 in
      let t : ℕ = sink_tile flow ports j in
      let chunk : List Part = given_at flow ports held (sink_of ports j) v in
      let held1 : List Holding = with_value held v t in
      let others : List Part = outs_from flow ports held1 (j + 1) outs in
      let e1 : all ≡ parts ++ (chunk ++ (others ++ rest)) = split_in all parts chunk others rest e in
      let P1 : MachineState → Type 0 = Comes (parts ++ chunk) held1 i (j + 1) in
      let P2 : MachineState → Type 0 = Comes ((parts ++ chunk) ++ others) (held_outs flow ports held1 (j + 1) outs) i (length flow.outs) in
      more set s P2 (Comes (parts ++ (chunk ++ others)) (held_outs flow ports held1 (j + 1) outs) i (length flow.outs))
      (then set s P1 P2
      (out_phase parts held i j v (others ++ rest) s (All-head (λ v. v < length flow.nodes) v outs below) out homes e1 old)
      (λ r b. outs_phase outs i (j + 1) held1 (parts ++ chunk) rest r (All-tail (λ v. v < length flow.nodes) v outs below) there.2 (omega (arith, there.0))
      (home_still flow ports held (length flow.nodes) v t homes) (split_on all parts chunk (others ++ rest) e1) b))
      (λ r b. same_stage ((parts ++ chunk) ++ others) (parts ++ (chunk ++ others)) (held_outs flow ports held1 (j + 1) outs) i (length flow.outs) r (append_assoc parts chunk others) b)
