-- A worked stream: the sums of the words so far. 'addu $2, $2, $24', 'addu $24, $2, $0' and 'j' on one tile, whose switch carries a word to it and one back.
use Rattle.std.proofs.Common.{◌≡◌, ℕ, zero, suc, ◌+◌, ◌/◌, ◌<◌, List, [], ◌∷◌, ◌++◌, length, replicate, Some, None, refl, sym, ap, ◌∙◌, subst, arith}
use Rattle.std.specs.Prelude.{slice_index, slice_index_or, ◌^◌}
use Rattle.raw_tile_isa.specs.declared.table.TileOp.TheVariants as op
use Rattle.raw_tile_isa.specs.Made as tile
use Rattle.raw_switch_isa.specs.Made as switch
use Rattle.raw_switch_isa.specs.Ends.{ends}
use Rattle.raw_grid.specs.Wires.{input_wire, output_wire, wires_of}
use Rattle.raw_grid.specs.declared.parts.Net.TheVariants.{One}
use Rattle.raw_grid.specs.declared.parts.Side.TheVariants.{W}
use Rattle.raw_model.specs.Program.{ProgramSet, memory_size}
use Rattle.raw_model.specs.Machine.{machine_of}
use Rattle.raw_model.specs.Local.{Tile, Switch, Source, Sink, TileLocal, PortLocal}
use Rattle.raw_model.specs.declared.marks.Mark.TheVariants.{Going}
use Rattle.raw_codegen.specs.Rows.{from_side, to_side}
use Rattle.raw_flow.specs.Ports.{source_place, sink_place}
use Rattle.raw_flow.specs.declared.node.FlowOp.TheVariants.{Add}
use Rattle.raw_flow.specs.declared.node.Node.{Node}
use Rattle.raw_flow.specs.declared.node.Node.TheVariants.{Input, Const, Apply}
use Rattle.raw_term.specs.TermMachine.{TermState}
use Rattle.raw_stream.specs.declared.out.StreamOut.{StreamOut}
use Rattle.raw_stream.specs.declared.row_node.RowNode.TheVariants as row
use Rattle.raw_stream.specs.Streams.{Stream, valued, first_words, rows_of, due_to}
use Rattle.raw_row_terms.specs.RowTerms.{AreWordNodes}
use Rattle.raw_rows.specs.Noted.{noted_at}
use Rattle.raw_rows.specs.Kernels.{Cut, start_cut, begun, unknown, known, Leads, IsSteady, RestsSeeing, LiveProof, IsLiveProof}

to_port : ℕ → ℕ → StreamOut
to_port q v = record { port = q; node = v }

-- 'def p pre s 0', 'input x', 'def s add p x', 'out s', of a set whose port 0 is a source, and whose port 1 is a sink
pub sums : Stream
sums = record {
  cols = 1;
  rows = 1;
  count = 3;
  sources = source_place ∷ sink_place ∷ [];
  sinks = source_place ∷ sink_place ∷ [];
  nodes = row.Pre 2 0 ∷ row.Input 0 ∷ row.Apply Add 0 1 ∷ [];
  outs = to_port 1 2 ∷ [];
}

-- the values of three rows, and what the sink is due
three_sums : due_to sums 1 (rows_of sums (first_words sums) ((5 ∷ []) ∷ (6 ∷ []) ∷ (7 ∷ []) ∷ [])) ≡ 5 ∷ 11 ∷ 18 ∷ []
unfolding sums to_port
three_sums = refl

pub summing : ProgramSet
summing = record {
  topo = record { cols = 1; rows = 1; places = source_place ∷ sink_place ∷ [] };
  limit = 1000000;
  depth = 4;
  ports = record { words = []; capacity = 0 } ∷ record { words = []; capacity = 250000 } ∷ [];
  tiles = record {
    code = tile.registers op.Addu 2 2 24 ∷ tile.registers op.Addu 24 2 0 ∷ tile.jump op.J 0 ∷ [];
    switch = from_side One W ∷ to_side One W ∷ switch.jump 0 ∷ [];
    cells = [];
    misses = [];
  } ∷ [];
  shows = [];
}

-- the cut: register 2 holds what is carried
cut : Cut
cut = record {
  window = 0;
  at = record {
    nodes = Const 0 ∷ Input ∷ [];
    state = record {
      locals = Tile (record { regs = 0 ∷ 0 ∷ 1 ∷ 0 ∷ 0 ∷ 0 ∷ 0 ∷ 0 ∷ 0 ∷ 0 ∷ 0 ∷ 0 ∷ 0 ∷ 0 ∷ 0 ∷ 0 ∷ 0 ∷ 0 ∷ 0 ∷ 0 ∷ 0 ∷ 0 ∷ 0 ∷ 0 ∷ 0 ∷ 0 ∷ 0 ∷ 0 ∷ 0 ∷ 0 ∷ 0 ∷ 0 ∷ []; pc = 0; count = 0; mark = Going; memory = replicate (memory_size / 4) 0 })
          ∷ Switch (record { regs = 0 ∷ 0 ∷ 0 ∷ 0 ∷ []; pc = 0; count = 0; mark = Going }) ∷ Source (record { done = 0; got = [] }) ∷ Sink (record { done = 0; got = [] }) ∷ [];
      wires = replicate (length (wires_of summing.topo)) [];
    };
  };
}

zeros : (ns : List ℕ) → slice_index ns 0 ≡ 0 → (n : ℕ) → valued ns (replicate n 0) ≡ replicate n 0
zeros ns e zero = refl
zeros ns e (suc n) = ap (λ x. x ∷ valued ns (replicate n 0)) e ∙ ap (λ xs. 0 ∷ xs) (zeros ns e n)

-- the source, the switch, the tile three times, the switch twice, the sink
kernel : List ℕ
kernel = 2 ∷ 1 ∷ 0 ∷ 0 ∷ 0 ∷ 1 ∷ 1 ∷ 3 ∷ []

-- a tile with this in register 2 that has counted so much
tile_with : ℕ → ℕ → List ℕ → TileLocal
tile_with c count memory = record { regs = 0 ∷ 0 ∷ c ∷ 0 ∷ 0 ∷ 0 ∷ 0 ∷ 0 ∷ 0 ∷ 0 ∷ 0 ∷ 0 ∷ 0 ∷ 0 ∷ 0 ∷ 0 ∷ 0 ∷ 0 ∷ 0 ∷ 0 ∷ 0 ∷ 0 ∷ 0 ∷ 0 ∷ 0 ∷ 0 ∷ 0 ∷ 0 ∷ 0 ∷ 0 ∷ 0 ∷ 0 ∷ []; pc = 0; count = count; mark = Going; memory = memory }

-- the table and the state with which the kernel ends
kernel_end : TermState
kernel_end = record {
  nodes = Const 0 ∷ Input ∷ Input ∷ Apply Add 1 2 ∷ [];
  state = record {
    locals = Tile (tile_with 3 3 (valued (0 ∷ 1 ∷ []) (replicate (memory_size / 4) 0))) ∷ Switch (record { regs = 0 ∷ 0 ∷ 0 ∷ 0 ∷ []; pc = 0; count = 3; mark = Going })
        ∷ Source (record { done = 1; got = [] }) ∷ Sink (record { done = 1; got = 3 ∷ [] }) ∷ [];
    wires = replicate (length (wires_of summing.topo)) [];
  };
}

each_of_four : (R : ℕ → Type 0) → R 0 → R 1 → R 2 → R 3 → ((q : ℕ) → R (suc (suc (suc (suc q))))) → (p : ℕ) → R p
each_of_four R a b c d e zero = a
each_of_four R a b c d e (suc zero) = b
each_of_four R a b c d e (suc (suc zero)) = c
each_of_four R a b c d e (suc (suc (suc zero))) = d
each_of_four R a b c d e (suc (suc (suc (suc q)))) = e q

same_memory : (xs ys : List ℕ) → slice_index xs 0 ≡ 0 → slice_index ys 0 ≡ 0 → valued xs (replicate (memory_size / 4) 0) ≡ valued ys (replicate (memory_size / 4) 0)
same_memory xs ys e f = zeros xs e (memory_size / 4) ∙ sym (zeros ys f (memory_size / 4))

opens : Leads summing sums 0 (known sums) (start_cut summing) [] 0 cut
unfolding summing sums to_port cut tile_with machine_of input_wire output_wire wires_of ends
opens = record {
  at = begun sums (known sums) 0 (start_cut summing);
  goes = refl;
  arrives = record { locals = each_of_four _ (ap (λ m. tile_with 0 0 m) (same_memory (0 ∷ []) (0 ∷ 0 ∷ []) refl refl)) refl refl refl (λ q. tt); wires = refl };
}

steady : IsSteady summing sums 8 cut kernel 1
unfolding summing sums to_port cut kernel kernel_end tile_with machine_of input_wire output_wire wires_of ends
steady = record {
  at = kernel_end;
  goes = refl {a = Some (noted_at kernel_end [])};
  arrives = record {
    locals = each_of_four _ (ap (λ m. tile_with 3 3 m) (same_memory (0 ∷ 1 ∷ []) (0 ∷ 3 ∷ []) refl refl)) (refl {a = record { regs = 0 ∷ 0 ∷ 0 ∷ 0 ∷ []; pc = 0; count = 3; mark = Going }})
        (refl {a = record { done = 1; got = [] }}) (refl {a = record { done = 1; got = 3 ∷ [] }}) (λ q. tt);
    wires = refl {a = kernel_end.state.wires};
  };
}

rests : RestsSeeing summing sums 0 (unknown sums) cut [] [] 0
unfolding summing sums to_port cut machine_of input_wire output_wire wires_of ends
rests = record {
  at = begun sums (unknown sums) 0 cut;
  goes = refl;
  quiet = each_of_four _ refl refl refl refl (λ q. refl);
  due = each_of_four _ (λ l e. absurd (cc e)) (λ l e. absurd (cc e)) (λ l e. absurd (cc e)) (λ l e. ([], nothing l e, omega arith)) (λ q l e. absurd (cc e));
}
  where
    nothing : (l : PortLocal) → Some (Sink (record { done = 0; got = [] })) ≡ Some (Sink l) → [] ≡ l.got ++ []
    nothing l e = ap (λ o. elim o as (λ _. List ℕ) [ None ↦ [] | Some k ↦ elim k as (λ _. List ℕ) [ Tile t ↦ [] | Switch t ↦ [] | Source t ↦ [] | Sink t ↦ t.got ++ [] ] ]) e

word_at_cut : AreWordNodes cut.at.nodes
unfolding cut
word_at_cut zero word e = let small : 0 < 2 ^ 32 = omega arith in subst (λ w. w < 2 ^ 32) (is_const (Const 0) word e) small where
  is_const : (n : Node) (word : ℕ) → Some n ≡ Some (Const word) → (elim n as (λ _. ℕ) [ Input ↦ 0 | Const w ↦ w | Apply f a b ↦ 0 ]) ≡ word
  is_const n word e = ap (λ o. elim o as (λ _. ℕ) [ None ↦ 0 | Some k ↦ elim k as (λ _. ℕ) [ Input ↦ 0 | Const w ↦ w | Apply f a b ↦ 0 ] ]) e
word_at_cut (suc zero) word e = absurd (cc e)
word_at_cut (suc (suc v)) word e = absurd (cc e)

at_window : RestsSeeing summing sums 0 (unknown sums) cut [] [] (cut.window + 0)
unfolding cut
at_window = rests

-- a proof of the set for every number of rows
pub proof : LiveProof
proof = record { cut = cut; opening = []; first_rows = 0; first_limit = 0; kernel = kernel; rows = 1; limit = 8; endings = [] ∷ []; last_limit = 0; lacks = [] }

pub is_proof : IsLiveProof summing sums proof
unfolding proof
is_proof = record {
  constants = constants;
  opens = opens;
  steady = steady;
  rests = λ i below. subst (λ j. RestsSeeing summing sums 0 (unknown sums) cut (slice_index_or ([] ∷ []) j []) [] (cut.window + j)) (first i below) rests_first;
}
  where
    constants : AreWordNodes cut.at.nodes
    constants = word_at_cut

    first : (i : ℕ) → i < 1 → 0 ≡ i
    first i below = omega (arith, below)

    rests_first : RestsSeeing summing sums 0 (unknown sums) cut (slice_index_or ([] ∷ []) 0 []) [] (cut.window + 0)
    rests_first = at_window
