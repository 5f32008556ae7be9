-- Worked streams: what their rows compute, and what they are when they are unrolled.
use Rattle.std.proofs.Common.{◌≡◌, ℕ, [], ◌∷◌, refl}
use Rattle.raw_grid.specs.declared.parts.PortKind.TheVariants.{Source, Sink}
use Rattle.raw_grid.specs.Topology.{west_place}
use Rattle.raw_tile_isa.specs.Words.{word_mul_low}
use Rattle.raw_flow.specs.declared.node.FlowOp.TheVariants.{Add, Mul}
use Rattle.raw_flow.specs.declared.node.Node.TheVariants as node
use Rattle.raw_flow.specs.Flows.{values_of, outs_of}
use Rattle.raw_stream.specs.declared.out.StreamOut.{StreamOut}
use Rattle.raw_stream.specs.declared.row_node.RowNode.TheVariants.{Input, Const, Apply, Pre}
use Rattle.raw_stream.specs.Streams.{Stream}
use Rattle.raw_stream.specs.Unrolled.{all_rows, all_due, unrolled}

to_sink : ℕ → ℕ → StreamOut
to_sink q v = record { port = q; node = v }

-- 'grid 1 1', 'rows 3', 'input x', 'def p pre s 0', 'def s add x p', 'out s'
sums : Stream
sums = record {
  cols = 1;
  rows = 1;
  count = 3;
  sources = west_place Source 0 ∷ [];
  sinks = west_place Sink 0 ∷ [];
  nodes = Input 0 ∷ Pre 2 0 ∷ Apply Add 0 1 ∷ [];
  outs = to_sink 0 2 ∷ [];
}

-- of 1, 2, 3
sums_of_rows : all_due sums (all_rows sums (1 ∷ 2 ∷ 3 ∷ [])) ≡ 1 ∷ 3 ∷ 6 ∷ []
unfolding sums to_sink
sums_of_rows = refl

-- an input for each word; then each row has the place of its input, which nobody names, that of its first word, and its sum
sums_unrolled : (unrolled sums).nodes ≡
    node.Input ∷ node.Input ∷ node.Input
    ∷ node.Const 0 ∷ node.Const 0 ∷ node.Apply Add 0 4
    ∷ node.Const 0 ∷ node.Const 0 ∷ node.Apply Add 1 5
    ∷ node.Const 0 ∷ node.Const 0 ∷ node.Apply Add 2 8 ∷ []
unfolding sums to_sink
sums_unrolled = refl

sums_at : (unrolled sums).outs ≡ 5 ∷ 8 ∷ 11 ∷ []
unfolding sums to_sink
sums_at = refl

sums_of_flow : outs_of (unrolled sums) (1 ∷ 2 ∷ 3 ∷ []) ≡ 1 ∷ 3 ∷ 6 ∷ []
unfolding sums to_sink values_of
sums_of_flow = refl

-- 'rows 4', 'def p pre p 5', 'out p'
kept : Stream
kept = record { cols = 1; rows = 1; count = 4; sources = []; sinks = west_place Sink 0 ∷ []; nodes = Pre 0 5 ∷ []; outs = to_sink 0 0 ∷ [] }

kept_of_rows : all_due kept (all_rows kept []) ≡ 5 ∷ 5 ∷ 5 ∷ 5 ∷ []
unfolding kept to_sink
kept_of_rows = refl

kept_of_flow : outs_of (unrolled kept) [] ≡ 5 ∷ 5 ∷ 5 ∷ 5 ∷ []
unfolding kept to_sink values_of
kept_of_flow = refl

-- 'rows 4', 'def a pre b 1', 'def b pre a 2', 'out a'
turning : Stream
turning = record { cols = 1; rows = 1; count = 4; sources = []; sinks = west_place Sink 0 ∷ []; nodes = Pre 1 1 ∷ Pre 0 2 ∷ []; outs = to_sink 0 0 ∷ [] }

turning_of_rows : all_due turning (all_rows turning []) ≡ 1 ∷ 2 ∷ 1 ∷ 2 ∷ []
unfolding turning to_sink
turning_of_rows = refl

turning_of_flow : outs_of (unrolled turning) [] ≡ 1 ∷ 2 ∷ 1 ∷ 2 ∷ []
unfolding turning to_sink values_of
turning_of_flow = refl

-- Three rows of the filter of three taps, 'input x', 'input z' of two sources, with the sums that a line of filters hands on: 'def a pre x 0',
-- 'def b pre a 0', 'def m const 3', 'def t mul a m', 'def u add z x', 'def v add u t', 'def w add v b', 'out w'.
three_taps : Stream
three_taps = record {
  cols = 3;
  rows = 1;
  count = 3;
  sources = west_place Source 0 ∷ west_place Source 1 ∷ [];
  sinks = west_place Sink 0 ∷ [];
  nodes = Input 0 ∷ Input 1 ∷ Pre 0 0 ∷ Pre 2 0 ∷ Const 3 ∷ Apply Mul 2 4 ∷ Apply Add 1 0 ∷ Apply Add 6 5 ∷ Apply Add 7 3 ∷ [];
  outs = to_sink 0 8 ∷ [];
}

-- the words of a source stand together: 1, 2, 3 of the first and 10, 20, 30 of the second
three_taps_of_rows : all_due three_taps (all_rows three_taps (1 ∷ 2 ∷ 3 ∷ 10 ∷ 20 ∷ 30 ∷ [])) ≡ 11 ∷ 25 ∷ 40 ∷ []
unfolding three_taps to_sink word_mul_low
three_taps_of_rows = refl

three_taps_of_flow : outs_of (unrolled three_taps) (1 ∷ 2 ∷ 3 ∷ 10 ∷ 20 ∷ 30 ∷ []) ≡ 11 ∷ 25 ∷ 40 ∷ []
unfolding three_taps to_sink values_of word_mul_low
three_taps_of_flow = refl

-- Two words in and two out a row, of one source to one sink: 'input x', 'input y', 'def s add x y', 'out s', 'out x'.
pairs : Stream
pairs = record {
  cols = 1;
  rows = 1;
  count = 2;
  sources = west_place Source 0 ∷ [];
  sinks = west_place Sink 0 ∷ [];
  nodes = Input 0 ∷ Input 0 ∷ Apply Add 0 1 ∷ [];
  outs = to_sink 0 2 ∷ to_sink 0 0 ∷ [];
}

pairs_of_flow : outs_of (unrolled pairs) (1 ∷ 2 ∷ 3 ∷ 4 ∷ []) ≡ 3 ∷ 1 ∷ 7 ∷ 3 ∷ []
unfolding pairs to_sink values_of
pairs_of_flow = refl

-- Two sinks: what the first is due of all rows stands before what the second is. 'out x', 'out s' to another place, 'out y'.
parted : Stream
parted = record {
  cols = 1;
  rows = 2;
  count = 2;
  sources = west_place Source 0 ∷ [];
  sinks = west_place Sink 0 ∷ west_place Sink 1 ∷ [];
  nodes = Input 0 ∷ Input 0 ∷ Apply Add 0 1 ∷ [];
  outs = to_sink 0 0 ∷ to_sink 1 2 ∷ to_sink 0 1 ∷ [];
}

parted_of_rows : all_due parted (all_rows parted (1 ∷ 2 ∷ 3 ∷ 4 ∷ [])) ≡ 1 ∷ 2 ∷ 3 ∷ 4 ∷ 3 ∷ 7 ∷ []
unfolding parted to_sink
parted_of_rows = refl
