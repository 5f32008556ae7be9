-- Parts are given chunk by chunk.
use Rattle.std.proofs.Common.{◌≡◌, ℕ, ◌+◌, Bool, List, [], ◌++◌, drop, take, Some, refl, sym, ap, ◌∙◌, subst, append_assoc}
use Rattle.std.specs.Prelude.{slice_get}
use Rattle.std.proofs.lemmas.List.{append-nil}
use Rattle.std.proofs.lemmas.Option.{slice_get_within, get_or_from_slice_get}
use Rattle.raw_model.specs.Program.{TileProgram}
use Rattle.raw_codegen.specs.Parts.{Part, Gives}
use Rattle.raw_codegen.specs.Limits.{Overflows}
use Rattle.raw_flow.specs.declared.node.Node.{Node}
use Rattle.raw_flow.specs.Flows.{Dataflow, with_input, inputs_in}
use Rattle.raw_flow.specs.Places.{Holding, AreMarks, with_value}
use Rattle.raw_flow.specs.Ports.{FlowPorts, sink_of}
use Rattle.raw_flow.specs.Compiled.{tiles_in, sink_tile, input_parts, held_input, inputs_from, held_inputs, node_parts, held_node, nodes_from, held_nodes, given_at, outs_from}
use Rattle.raw_flow.specs.Given.{AreGiven}
use Rattle.raw_flow.proofs.Counting.{inputs_next}
use Rattle.raw_flow.proofs.Phases.{held_outs}
use Rattle.raw_codegen.specs.Laws.{GivingLaws}
pub use Rattle.raw_flow.proofs.Picked.{drop_next}

-- from place i on, `rest` are the parts that are given where these are held, and `last` is what is held after them; the programs have come
-- from their first ones to place i
pub record IsAt (flow : Dataflow) (rest : List Holding → ℕ → List Part) (last : List Holding → ℕ → List Holding) (first : List Holding) (a b : List TileProgram) (marks : List Bool) (i : ℕ) : Type 0 where
  pub held : List Holding
  pub front : List Part
  pub gives : Gives (tiles_in flow) front a b
  pub marked : AreMarks flow marks held
  pub parts : front ++ rest held i ≡ rest first 0
  pub ends : last held i ≡ last first 0

-- the parts at one place
pub record Chunk (rest : List Holding → ℕ → List Part) (last : List Holding → ℕ → List Holding) (held : List Holding) (i : ℕ) : Type 0 where
  pub parts : List Part
  pub after : List Holding
  pub whole : rest held i ≡ parts ++ rest after (i + 1)
  pub ends : last held i ≡ last after (i + 1)

module _ (laws : GivingLaws) (flow : Dataflow) (rest : List Holding → ℕ → List Part) (last : List Holding → ℕ → List Holding) (first : List Holding) (a : List TileProgram) where
  pub at_first : (marks : List Bool) → AreMarks flow marks first → IsAt flow rest last first a a marks 0
  at_first marks are = record { held = first; front = []; gives = laws.none (tiles_in flow) a; marked = are; parts = refl; ends = refl }

  module _ (b : List TileProgram) (marks : List Bool) (i : ℕ) (at : IsAt flow rest last first a b marks i) (chunk : Chunk rest last at.held i) where
    pub at_next : (c : List TileProgram) (after : List Bool) → AreGiven flow chunk.parts chunk.after b c after → IsAt flow rest last first a c after (i + 1)
    at_next c after given = record {
      held = chunk.after;
      front = at.front ++ chunk.parts;
      gives = laws.both (tiles_in flow) at.front chunk.parts a b c at.gives given.gives;
      marked = given.marked;
      parts = append_assoc at.front chunk.parts (rest chunk.after (i + 1)) ∙ ap (λ ps. at.front ++ ps) (sym chunk.whole) ∙ at.parts;
      ends = sym chunk.ends ∙ at.ends;
    }

    pub too_long : Overflows (tiles_in flow) chunk.parts b → Overflows (tiles_in flow) (rest first 0) a
    too_long full =
        subst (λ (ps : List Part). Overflows (tiles_in flow) ps a) (ap (λ ps. at.front ++ ps) (sym chunk.whole) ∙ at.parts)
        (laws.later (tiles_in flow) at.front (chunk.parts ++ rest chunk.after (i + 1)) a b at.gives (laws.more (tiles_in flow) chunk.parts (rest chunk.after (i + 1)) b full))

  pub at_last : (b : List TileProgram) (marks : List Bool) (i : ℕ) (at : IsAt flow rest last first a b marks i) → rest at.held i ≡ [] → last at.held i ≡ at.held → AreGiven flow (rest first 0) (last first 0) a b marks
  at_last b marks i at none same = record {
    gives = subst (λ (ps : List Part). Gives (tiles_in flow) ps a b) (sym (append-nil at.front) ∙ ap (λ ps. at.front ++ ps) (sym none) ∙ at.parts) at.gives;
    marked = subst (λ (held : List Holding). AreMarks flow marks held) (sym same ∙ at.ends) at.marked;
  }

-- inputs, other nodes and outs from a place on, and what is held after them
module _ (flow : Dataflow) (ports : FlowPorts) where
  abbrev pub inputs_rest : List Holding → ℕ → List Part
  inputs_rest held v = inputs_from flow ports (inputs_in (take v flow.nodes)) v (drop v flow.nodes)

  abbrev pub inputs_last : List Holding → ℕ → List Holding
  inputs_last held v = held_inputs flow ports held (inputs_in (take v flow.nodes)) v (drop v flow.nodes)

  abbrev pub nodes_rest : List Holding → ℕ → List Part
  nodes_rest held v = nodes_from flow ports held v (drop v flow.nodes)

  abbrev pub nodes_last : List Holding → ℕ → List Holding
  nodes_last held v = held_nodes flow ports held v (drop v flow.nodes)

  abbrev pub outs_rest : List Holding → ℕ → List Part
  outs_rest held i = outs_from flow ports held i (drop i flow.outs)

  abbrev pub outs_last : List Holding → ℕ → List Holding
  outs_last held i = held_outs flow ports held i (drop i flow.outs)

  pub input_next : (v : ℕ) (node : Node) → slice_get flow.nodes v ≡ Some node → with_input node (inputs_in (take v flow.nodes)) ≡ inputs_in (take (v + 1) flow.nodes)
  input_next v node e =
      ap (λ (n : Node). with_input n (inputs_in (take v flow.nodes))) (sym (get_or_from_slice_get flow.nodes v node node e))
      ∙ sym (inputs_next flow.nodes v node (slice_get_within flow.nodes v node e))

  abbrev pub input_chunk : (held : List Holding) (v : ℕ) (node : Node) → slice_get flow.nodes v ≡ Some node → Chunk inputs_rest inputs_last held v
  input_chunk held v node e = record {
    parts = input_parts flow ports (inputs_in (take v flow.nodes)) v node;
    after = held_input flow ports held (inputs_in (take v flow.nodes)) v node;
    whole = ap (inputs_from flow ports (inputs_in (take v flow.nodes)) v) (drop_next flow.nodes v node e)
        ∙ ap (λ m. input_parts flow ports (inputs_in (take v flow.nodes)) v node ++ inputs_from flow ports m (v + 1) (drop (v + 1) flow.nodes)) (input_next v node e);
    ends = ap (held_inputs flow ports held (inputs_in (take v flow.nodes)) v) (drop_next flow.nodes v node e)
        ∙ ap (λ m. held_inputs flow ports (held_input flow ports held (inputs_in (take v flow.nodes)) v node) m (v + 1) (drop (v + 1) flow.nodes)) (input_next v node e);
  }

  abbrev pub node_chunk : (held : List Holding) (v : ℕ) (node : Node) → slice_get flow.nodes v ≡ Some node → Chunk nodes_rest nodes_last held v
  node_chunk held v node e = record {
    parts = node_parts flow ports held v node;
    after = held_node flow ports held v node;
    whole = ap (nodes_from flow ports held v) (drop_next flow.nodes v node e);
    ends = ap (held_nodes flow ports held v) (drop_next flow.nodes v node e);
  }

  abbrev pub out_chunk : (held : List Holding) (i v : ℕ) → slice_get flow.outs i ≡ Some v → Chunk outs_rest outs_last held i
  out_chunk held i v e = record {
    parts = given_at flow ports held (sink_of ports i) v;
    after = with_value held v (sink_tile flow ports i);
    whole = ap (outs_from flow ports held i) (drop_next flow.outs i v e);
    ends = ap (held_outs flow ports held i) (drop_next flow.outs i v e);
  }
