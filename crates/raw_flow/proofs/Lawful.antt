-- The compiled set keeps all that sets keep, where its programs are within the limits.
use Rattle.std.proofs.Common.{◌≡◌, ℕ, suc, ◌+◌, ◌-◌, ◌*◌, ◌^◌, ◌<◌, ◌≤◌, Bool, true, false, cond, List, [], ◌∷◌, ◌++◌, length, map, drop, Some, refl, sym, ap, ◌∙◌, subst, ⊎_elim, arith, length-append}
use Rattle.std.specs.Prelude.{slice_get, slice_index, slice_index_or, sum_by}
use Rattle.std.specs.List.{All, range_with_len}
use Rattle.std.proofs.lemmas.Bool.{cases_eq, cases_lt}
use Rattle.std.proofs.lemmas.List.{get_or-drop, drop-drop}
use Rattle.std.proofs.lemmas.List.Elements.{All-nil, All-head, All-tail, All-append}
use Rattle.std.proofs.lemmas.List.FromFn.{length-map-range_with_len, get_or-map-range_with_len}
use Rattle.std.proofs.lemmas.List.Sums.{sum_by-cons, sum_by-append, sum_by-le}
use Rattle.std.proofs.lemmas.Option.{same_Some, slice_get_within, slice_get-get_or}
use Rattle.raw_flow.specs.declared.limits.TheConstants.{MAX_NODES}
use Rattle.raw_tile_isa.specs.declared.limits.TheConstants.{MAX_TILE_CODE}
use Rattle.raw_tile_isa.specs.Instruction.{IsTileIns}
use Rattle.raw_tile_isa.specs.Load.{load}
use Rattle.raw_tile_isa.specs.Made as tile
use Rattle.raw_grid.specs.declared.parts.Net.{Net}
use Rattle.raw_grid.specs.declared.parts.Net.TheVariants.{One, Two}
use Rattle.raw_grid.specs.declared.parts.PortKind.TheVariants as kinds
use Rattle.raw_grid.specs.declared.parts.PortPlace.{PortPlace}
use Rattle.raw_grid.specs.Topology.{Topology, IsTopology}
use Rattle.raw_model.specs.Program.{PortProgram, IsPortProgram, IsOfKind, AreOfKinds, IsShow, IsSet}
use Rattle.raw_codegen.specs.Parts.{Part, ToSwitch, tile_part, to_tile, to_switches, script_program, script_programs}
use Rattle.raw_codegen.specs.Lawful.{AreParts}
use Rattle.raw_codegen.specs.Limits.{IsShort, AreShort}
use Rattle.raw_codegen.specs.Rows.{register_of, store_ins, to_side}
use Rattle.raw_codegen.specs.Standing.{to_tile_wire, from_tile_wire}
use Rattle.raw_route.specs.Tree.{tree_ins}
use Rattle.raw_route.proofs.PlannedSets.{rules_append}
use Rattle.raw_flow.specs.declared.node.FlowOp.{FlowOp}
use Rattle.raw_flow.specs.declared.node.FlowOp.TheVariants.{Add}
use Rattle.raw_flow.specs.declared.node.Node.{Node}
use Rattle.raw_flow.specs.declared.node.Node.TheVariants.{Input, Const, Apply}
use Rattle.raw_flow.specs.Flows.{Dataflow, IsFlow, IsNode, AreInputs, inputs_in}
use Rattle.raw_flow.specs.Places.{Holding, has, with_value}
use Rattle.raw_flow.specs.Ports.{FlowPorts, ArePorts, source_place, sink_place, source_of, sink_of, picked, placed_topo, tile_at}
use Rattle.raw_flow.specs.Compiled.{tiles_in, source_tile, sink_tile, home, op_ins, send_value, take_value, one_haul, carried, moved, taken_at, const_code, apply_code, inputs_from, first_held, node_parts, held_node, nodes_from, all_held, given_at, outs_from, flow_parts, source_program, sink_program, compiled_at}
use Rattle.raw_flow.proofs.Chunks.{one_haul_is}
use Rattle.raw_flow.proofs.Counting.{few_inputs}
use Rattle.raw_flow.proofs.Given.{PartsLaws}
use Rattle.raw_flow.proofs.Homes.{tile_within, sink_edge, source_port, sink_port, source_kind, sink_kind, source_at, sink_at, source_within, sink_within, home_within}
use Rattle.raw_flow.proofs.Picked.{picked_none, first_own, first_other, picked_all, few_shares}
use Rattle.raw_flow.proofs.PortPrograms.{long_back, long_programs, source_given, sink_given}
use Rattle.raw_flow.proofs.PortWires.{joins_to, joins_from, source_wire, sink_wire}

-- the operations
pub op_rules : (op : FlowOp) → IsTileIns (op_ins op)
op_rules Add = record { rs = omega arith; rt = omega arith; rd = omega arith; sh = refl; imm = refl; target = refl }
op_rules _ = record { rs = omega arith; rt = omega arith; rd = omega arith; sh = refl; imm = refl; target = refl }

module _ (laws : PartsLaws) (flow : Dataflow) (ports : FlowPorts) (is : IsFlow flow) (are : ArePorts flow ports) where
  abbrev topo : Topology
  topo = placed_topo flow ports

  abbrev valid : IsTopology topo
  valid = are.topology

  register_below : (net : Net) → register_of net < 32
  register_below One = omega arith
  register_below Two = omega arith

  send_rules : (net : Net) (v : ℕ) → v < MAX_NODES → IsTileIns (send_value net v)
  send_rules net v few = laws.load_rules (register_of net) v (register_below net) (omega arith)

  take_rules : (net : Net) (v : ℕ) → v < MAX_NODES → IsTileIns (take_value net v)
  take_rules net v few = laws.store_rules (register_of net) v (register_below net) (omega arith)

  carried_parts : (v t : ℕ) → v < MAX_NODES → t < tiles_in flow → AreParts topo (carried flow ports v t)
  carried_parts v t few to =
      let h : ℕ = home flow ports v in
      let tree : List Part = to_switches (tiles_in flow) (tree_ins flow.cols (one_haul h t)) in
      laws.append topo (to_tile h (send_value One v ∷ [])) (tree ++ to_tile t (take_value One v ∷ []))
      (send_rules One v few, tt)
      (laws.append topo tree (to_tile t (take_value One v ∷ []))
      (laws.trees topo (one_haul h t) valid (one_haul_is (tiles_in flow) h t (home_within flow ports are is v) to))
      (take_rules One v few, tt))

  moved_parts : (held : List Holding) (v t : ℕ) → v < MAX_NODES → t < tiles_in flow → AreParts topo (moved flow ports held v t)
  moved_parts held v t few to = by (has held v t)
    where
      by : (b : Bool) → AreParts topo (cond b [] (carried flow ports v t))
      by true = tt
      by false = carried_parts v t few to

  taken_parts : (k v : ℕ) → k < inputs_in flow.nodes → v < MAX_NODES → AreParts topo (taken_at flow (source_of ports k) v)
  taken_parts k v some few =
      let q : ℕ = slice_index ports.comes k in
      let place : PortPlace = source_of ports k in
      let t : ℕ = source_tile flow ports k in
      let inside : t < tiles_in flow = source_within flow ports are k some in
      let here : slice_get ports.sources q ≡ Some place = source_at flow ports are k some in
      let wires = source_wire laws.wires topo q place valid (source_port flow ports are q place here) inside (source_kind flow ports are q place here) in (
        laws.from_side topo t place.net place.side wires.wire (to_tile_wire place.net t) wires.into (joins_to laws.wires topo t valid inside place.net).0,
        (take_rules place.net v few, tt),
      )

  inputs_parts : (nodes : List Node) (k v : ℕ) → v + length nodes ≤ MAX_NODES → k + inputs_in nodes ≤ inputs_in flow.nodes → AreParts topo (inputs_from flow ports k v nodes)
  inputs_parts [] k v few some = tt
  inputs_parts (Input ∷ nodes) k v few some =
      laws.append topo (taken_at flow (source_of ports k) v) (inputs_from flow ports (k + 1) (v + 1) nodes) (taken_parts k v (omega arith) (omega arith)) (inputs_parts nodes (k + 1) (v + 1) (omega arith) (omega arith))
  inputs_parts (Const w ∷ nodes) k v few some = inputs_parts nodes k (v + 1) (omega arith) some
  inputs_parts (Apply op a b ∷ nodes) k v few some = inputs_parts nodes k (v + 1) (omega arith) some

  one_node : (held : List Holding) (v : ℕ) (node : Node) → v < MAX_NODES → IsNode v node → AreParts topo (node_parts flow ports held v node)
  one_node held v Input few h = tt
  one_node held v (Const w) few h =
      laws.block topo (home flow ports v) (const_code v w)
      (rules_append (load 7 w) (store_ins 7 v ∷ []) (laws.li 7 w (omega arith) h) (laws.store_rules 7 v (omega arith) (omega arith), tt))
  one_node held v (Apply op a b) few h =
      let t : ℕ = home flow ports v in
      let la : a < v = h.0 in
      let lb : b < v = h.1 in
      let m1 : List Part = moved flow ports held a t in
      let m2 : List Part = moved flow ports (with_value held a t) b t in
      let block : List Part = to_tile t (apply_code v op a b) in
      laws.append topo m1 (m2 ++ block) (moved_parts held a t (omega arith) (home_within flow ports are is v))
      (laws.append topo m2 block (moved_parts (with_value held a t) b t (omega arith) (home_within flow ports are is v))
      (laws.load_rules 5 a (omega arith) (omega arith), (laws.load_rules 6 b (omega arith) (omega arith), (op_rules op, (laws.store_rules 7 v (omega arith) (omega arith), tt)))))

  nodes_parts : (nodes : List Node) (held : List Holding) (v : ℕ) → v + length nodes ≤ MAX_NODES → ((k : ℕ) (node : Node) → slice_get nodes k ≡ Some node → IsNode (v + k) node)
      → AreParts topo (nodes_from flow ports held v nodes)
  nodes_parts [] held v few h = tt
  nodes_parts (node ∷ nodes) held v few h =
      let none : v + 0 ≡ v = omega arith in
      laws.append topo (node_parts flow ports held v node) (nodes_from flow ports (held_node flow ports held v node) (v + 1) nodes)
      (one_node held v node (omega arith) (subst (λ k. IsNode k node) none (h 0 node refl)))
      (nodes_parts nodes (held_node flow ports held v node) (v + 1) (omega arith) (λ k n e. subst (λ j. IsNode j n) (shift v k) (h (suc k) n e)))
    where
      shift : (v k : ℕ) → v + suc k ≡ v + 1 + k
      shift v k = omega arith

  given_parts : (held : List Holding) (i v : ℕ) → i < length flow.outs → v < MAX_NODES → AreParts topo (given_at flow ports held (sink_of ports i) v)
  given_parts held i v some few =
      let q : ℕ = slice_index ports.goes i in
      let place : PortPlace = sink_of ports i in
      let t : ℕ = sink_tile flow ports i in
      let inside : t < tiles_in flow = sink_within flow ports are i some in
      let here : slice_get ports.sinks q ≡ Some place = sink_at flow ports are i some in
      let wires = sink_wire laws.wires topo (length ports.sources + q) place valid (sink_port flow ports are q place here) inside (sink_kind flow ports are q place here) in
      laws.append topo (moved flow ports held v t) (to_tile t (send_value place.net v ∷ []) ++ ToSwitch t (to_side place.net place.side) ∷ [])
      (moved_parts held v t few inside) (
        send_rules place.net v few,
        (laws.to_side topo t place.net place.side (from_tile_wire place.net t) wires.wire (joins_from laws.wires topo t valid inside place.net).1 wires.out, tt),
      )

  outs_parts : (outs : List ℕ) (held : List Holding) (i : ℕ) → i + length outs ≤ length flow.outs → All (λ v. v < length flow.nodes) outs → AreParts topo (outs_from flow ports held i outs)
  outs_parts [] held i some h = tt
  outs_parts (v ∷ outs) held i some h =
      let first : v < length flow.nodes = All-head (λ v. v < length flow.nodes) v outs h in
      let few : v < MAX_NODES = omega (arith, is.few) in
      let held1 : List Holding = with_value held v (sink_tile flow ports i) in
      laws.append topo (given_at flow ports held (sink_of ports i) v) (outs_from flow ports held1 (i + 1) outs)
      (given_parts held i v (omega arith) few)
      (outs_parts outs held1 (i + 1) (omega arith) (All-tail (λ v. v < length flow.nodes) v outs h))

  abbrev ps : List Part
  ps = inputs_from flow ports 0 0 flow.nodes

  abbrev qs : List Part
  qs = nodes_from flow ports (first_held flow ports) 0 flow.nodes

  abbrev rs : List Part
  rs = outs_from flow ports (all_held flow ports) 0 flow.outs

  all_parts : AreParts topo (flow_parts flow ports)
  unfolding flow_parts
  all_parts =
      let few : length flow.nodes ≤ MAX_NODES = is.few in
      laws.append topo ps (qs ++ rs)
      (inputs_parts flow.nodes 0 0 (omega arith) (omega arith))
      (laws.append topo qs rs
      (nodes_parts flow.nodes (first_held flow ports) 0 (omega arith) (λ k node e. let same : k ≡ 0 + k = omega arith in subst (λ j. IsNode j node) same (is.nodes k node e)))
      (outs_parts flow.outs (all_held flow ports) 0 (omega arith) is.outs))

  -- each out is an instruction of the tile of its sink
  given_counted : (held : List Holding) (place : PortPlace) (v : ℕ) → 1 ≤ length (tile_part (tile_at flow place) (given_at flow ports held place v))
  given_counted held place v =
      let t : ℕ = tile_at flow place in
      let m : List Part = moved flow ports held v t in
      let lw : List Part = to_tile t (send_value place.net v ∷ []) in
      let sw : List Part = ToSwitch t (to_side place.net place.side) ∷ [] in
      omega (
        arith,
        ap length (laws.tile_append t m (lw ++ sw)),
        length-append (tile_part t m) (tile_part t (lw ++ sw)),
        ap length (laws.tile_append t lw sw),
        length-append (tile_part t lw) (tile_part t sw),
        ap length (laws.tile_block t (send_value place.net v ∷ [])),
      )

  module _ (q : ℕ) where
    abbrev t : ℕ
    t = tile_at flow (slice_index_or ports.sinks q sink_place)

    -- one out more, where what is counted of the others is so
    out_counted : (v : ℕ) (outs : List ℕ) (held : List Holding) (i : ℕ)
        → length (picked q (drop (i + 1) ports.goes) outs) ≤ length (tile_part t (outs_from flow ports (with_value held v (sink_tile flow ports i)) (i + 1) outs))
        → length (picked q (drop i ports.goes) (v ∷ outs)) ≤ length (tile_part t (outs_from flow ports held i (v ∷ outs)))
    out_counted v outs held i rest = ⊎_elim own other (cases_eq (slice_index ports.goes i) q)
      where
        place : PortPlace
        place = sink_of ports i

        others : List Part
        others = outs_from flow ports (with_value held v (sink_tile flow ports i)) (i + 1) outs

        both : length (tile_part t (outs_from flow ports held i (v ∷ outs))) ≡ length (tile_part t (given_at flow ports held place v)) + length (tile_part t others)
        both =
            ap length (laws.tile_append t (given_at flow ports held place v) others)
            ∙ length-append (tile_part t (given_at flow ports held place v)) (tile_part t others)

        at : slice_index (drop i ports.goes) 0 ≡ slice_index ports.goes i
        at = get_or-drop i ports.goes 0 0 ∙ (let same : i + 0 ≡ i = omega arith in ap (slice_index ports.goes) same)

        next : length (picked q (drop 1 (drop i ports.goes)) outs) ≡ length (picked q (drop (i + 1) ports.goes) outs)
        next = ap (λ ps. length (picked q ps outs)) (drop-drop 1 i ports.goes)

        own : slice_index ports.goes i ≡ q → length (picked q (drop i ports.goes) (v ∷ outs)) ≤ length (tile_part t (outs_from flow ports held i (v ∷ outs)))
        own e =
            let one : 1 ≤ length (tile_part t (given_at flow ports held place v)) =
            subst (λ k. 1 ≤ length (tile_part (tile_at flow (slice_index_or ports.sinks k sink_place)) (given_at flow ports held place v))) e (given_counted held place v) in
            omega (arith, ap length (first_own q (drop i ports.goes) v outs (at ∙ e)), next, rest, both, one)

        other : (slice_index ports.goes i ≡ q → ⊥) → length (picked q (drop i ports.goes) (v ∷ outs)) ≤ length (tile_part t (outs_from flow ports held i (v ∷ outs)))
        other ne = omega (arith, ap length (first_other q (drop i ports.goes) v outs (λ e. ne (sym at ∙ e))), next, rest, both)

    outs_counted : (outs : List ℕ) (held : List Holding) (i : ℕ) → length (picked q (drop i ports.goes) outs) ≤ length (tile_part t (outs_from flow ports held i outs))
    outs_counted [] held i = omega (arith, ap length (picked_none {X = ℕ} q (drop i ports.goes)))
    outs_counted (v ∷ outs) held i = out_counted v outs held i (outs_counted outs (with_value held v (sink_tile flow ports i)) (i + 1))

    few_outs : length (picked q ports.goes flow.outs) ≤ length (tile_part t (flow_parts flow ports))
    unfolding flow_parts
    few_outs =
        omega (
          arith,
          ap length (laws.tile_append t ps (qs ++ rs)),
          length-append (tile_part t ps) (tile_part t (qs ++ rs)),
          ap length (laws.tile_append t qs rs),
          length-append (tile_part t qs) (tile_part t rs),
          outs_counted flow.outs (all_held flow ports) 0,
        )

    -- so no more outs go to a sink than its tile has instructions
    short_outs : q < length ports.sinks → AreShort (script_programs (tiles_in flow) (flow_parts flow ports)) → length (picked q ports.goes flow.outs) ≤ MAX_TILE_CODE
    short_outs some short =
        let all : List Part = flow_parts flow ports in
        let inside : t < tiles_in flow = tile_within flow ports are (slice_index_or ports.sinks q sink_place) (sink_edge flow ports are q sink_place some) in
        let same : 0 + t ≡ t = omega arith in
        let here : IsShort (script_program all t) =
        subst IsShort (get_or-map-range_with_len (script_program all) 0 (tiles_in flow) t t (script_program all t) inside same)
        (short.each t (script_program all t) (subst (λ m. t < m) (sym (length-map-range_with_len (script_program all) 0 (tiles_in flow))) inside)) in
        omega (arith, few_outs, here.code, length-append (tile_part t all) (tile.halt ∷ []))

-- the sum over what numbers give
sum_map : {X : Type 0} (f : X → ℕ) (g : ℕ → X) (ns : List ℕ) → sum_by f (map g ns) ≡ sum_by (λ n. f (g n)) ns
sum_map f g [] = refl
sum_map f g (n ∷ ns) = sum_by-cons f (g n) (map g ns) ∙ ap (λ k. f (g n) + k) (sum_map f g ns) ∙ sym (sum_by-cons (λ n. f (g n)) n ns)

-- what holds of each number below n holds of what it gives
all_given : {X : Type 0} (P : X → Type 0) (g : ℕ → X) (n : ℕ) → ((q : ℕ) → q < n → P (g q)) → All P (map g (range_with_len 0 n))
all_given P g n each k d h =
    let few : k < n = omega (arith, length-map-range_with_len g 0 n) in
    let same : 0 + k ≡ k = omega arith in
    subst P (sym (get_or-map-range_with_len g 0 n k k d few same)) (each k few)

module _ (laws : PartsLaws) (flow : Dataflow) (ports : FlowPorts) (inputs : List ℕ) (is : IsFlow flow) (are : ArePorts flow ports) (given : AreInputs flow inputs)
    (short : AreShort (script_programs (tiles_in flow) (flow_parts flow ports))) where
  abbrev all : List Part
  all = flow_parts flow ports

  abbrev grid : Topology
  grid = placed_topo flow ports

  abbrev ns : ℕ
  ns = length ports.sources

  abbrev ms : ℕ
  ms = length ports.sinks

  abbrev front : List PortProgram
  front = map (source_program ports inputs) (range_with_len 0 ns)

  abbrev back : List PortProgram
  back = map (sink_program flow ports) (range_with_len 0 ms)

  few_at : (q : ℕ) → q < ms → length (picked q ports.goes flow.outs) ≤ MAX_TILE_CODE
  few_at q h = short_outs laws flow ports is are q h short

  inputs_few : length inputs ≤ MAX_NODES
  inputs_few = omega (arith, given.each, few_inputs flow.nodes, is.few)

  ports_few : ms ≤ 128
  ports_few = omega (arith, laws.few_ports grid are.topology, length-append ports.sources ports.sinks)

  ports_lawful : All IsPortProgram (front ++ back)
  ports_lawful =
      All-append IsPortProgram front back
      (all_given IsPortProgram (source_program ports inputs) ns (λ q h. record { words = picked_all q (λ word. word < 2 ^ 32) ports.comes inputs given.words; capacity = omega arith }))
      (all_given IsPortProgram (sink_program flow ports) ms (λ q h. record { words = All-nil (λ word. word < 2 ^ 32); capacity = omega (arith, few_at q h) }))

  kinds_lawful : AreOfKinds (ports.sources ++ ports.sinks) (front ++ back)
  kinds_lawful i place port e f = ⊎_elim source sink (cases_lt i ns)
    where
      source : i < ns → IsOfKind place.kind port
      source h =
          let first : PortPlace = slice_index_or ports.sources i source_place in
          let at : slice_get ports.sources i ≡ Some first = slice_get-get_or ports.sources i source_place h in
          let same : first ≡ place = same_Some first place (sym (source_port flow ports are i first at) ∙ e) in
          let kind : place.kind ≡ kinds.Source = subst (λ (x : PortPlace). x.kind ≡ kinds.Source) same (source_kind flow ports are i first at) in
          let program : source_program ports inputs i ≡ port = same_Some (source_program ports inputs i) port (sym (source_given flow ports inputs i h) ∙ f) in
          subst (λ kind. IsOfKind kind port) (sym kind) (subst (λ (y : PortProgram). IsOfKind kinds.Source y) program refl)

      sink : ns ≤ i → IsOfKind place.kind port
      sink h =
          let q : ℕ = i - ns in
          let is_at : ns + q ≡ i = omega arith in
          let room : q < ms = omega (arith, slice_get_within (ports.sources ++ ports.sinks) i place e, length-append ports.sources ports.sinks) in
          let first : PortPlace = slice_index_or ports.sinks q sink_place in
          let at : slice_get ports.sinks q ≡ Some first = slice_get-get_or ports.sinks q sink_place room in
          let same : first ≡ place = same_Some first place (sym (sink_port flow ports are q first at) ∙ ap (slice_get (ports.sources ++ ports.sinks)) is_at ∙ e) in
          let kind : place.kind ≡ kinds.Sink = subst (λ (x : PortPlace). x.kind ≡ kinds.Sink) same (sink_kind flow ports are q first at) in
          let program : sink_program flow ports q ≡ port = same_Some (sink_program flow ports q) port (sym (sink_given flow ports inputs q room) ∙ ap (slice_get (front ++ back)) is_at ∙ f) in
          subst (λ kind. IsOfKind kind port) (sym kind) (subst (λ (y : PortProgram). IsOfKind kinds.Sink y) program refl)

  -- all sources together have no more words than there are inputs
  words_few : sum_by (λ (port : PortProgram). length port.words) (front ++ back) ≤ length inputs
  words_few =
      omega (
        arith,
        sum_by-append (λ (port : PortProgram). length port.words) front back,
        sum_map (λ (port : PortProgram). length port.words) (source_program ports inputs) (range_with_len 0 ns),
        few_shares ports.comes inputs ns,
        sum_by-le (λ (port : PortProgram). length port.words) 0 back
            (all_given (λ (port : PortProgram). length port.words ≤ 0) (sink_program flow ports) ms (λ q h. omega arith)),
      )

  room_few : sum_by (λ (port : PortProgram). port.capacity) (front ++ back) ≤ ms * MAX_TILE_CODE
  room_few =
      omega (
        arith,
        sum_by-append (λ (port : PortProgram). port.capacity) front back,
        sum_by-le (λ (port : PortProgram). port.capacity) 0 front
            (all_given (λ (port : PortProgram). port.capacity ≤ 0) (source_program ports inputs) ns (λ q h. omega arith)),
        sum_by-le (λ (port : PortProgram). port.capacity) MAX_TILE_CODE back
            (all_given (λ (port : PortProgram). port.capacity ≤ MAX_TILE_CODE) (sink_program flow ports) ms few_at),
        long_back flow ports inputs,
      )

  pub compiled_is_set : IsSet (compiled_at flow ports inputs)
  unfolding compiled_at
  compiled_is_set = record {
    topology = are.topology;
    some_steps = omega arith;
    few_steps = omega arith;
    some_depth = omega arith;
    small_depth = omega arith;
    each_port = long_programs flow ports inputs ∙ sym (length-append ports.sources ports.sinks);
    each_tile = length-map-range_with_len (script_program all) 0 (tiles_in flow);
    port_programs = ports_lawful;
    port_kinds = kinds_lawful;
    tile_programs = laws.programs grid (tiles_in flow) all (all_parts laws flow ports is are) short;
    wires = laws.have_wires grid (tiles_in flow) all (all_parts laws flow ports is are);
    shows = All-nil (IsShow grid);
    totals = record {
      instructions = short.all_code;
      switch_instructions = short.all_switch;
      cells = let a = laws.cells (tiles_in flow) all in omega arith;
      misses = let a = laws.misses (tiles_in flow) all in omega arith;
      words = omega (arith, words_few, inputs_few);
      capacities = omega (arith, room_few, ports_few);
      shows = omega arith;
      shown = omega arith;
    };
  }
