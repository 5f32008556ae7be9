-- Sets whose loops count: what a proof of all rows of a stream consists of.
--
-- A counter is a word that rows carry: the stream is looked at with nodes more, which take no words and name each other alone. So a kernel that
-- counts leads from a cut to itself, and the counters at its j-th pass are known.
use Rattle.std.specs.Prelude.{◌≡◌, ℕ, zero, suc, ◌+◌, ◌*◌, ◌<◌, ◌≤◌, None, List, [], ◌++◌, length, map, slice_get, slice_index}
use Rattle.std.specs.List.{range_with_len}
use Rattle.raw_model.specs.Program.{ProgramSet, IsSet}
use Rattle.raw_model.specs.Machine.{capacity_of}
use Rattle.raw_model.specs.Outcomes.{is_unhalted, NoneIs}
use Rattle.raw_flow.specs.declared.node.Node.{Node}
use Rattle.raw_flow.specs.declared.node.Node.TheVariants as node
use Rattle.raw_flow.specs.Flows.{values_from}
use Rattle.raw_stream.specs.declared.row_node.RowNode.{RowNode}
use Rattle.raw_stream.specs.declared.row_node.RowNode.TheVariants.{Input, Const, Apply, Pre}
use Rattle.raw_stream.specs.Streams.{Stream, AreRowNodes, first_words, carried_after}
use Rattle.raw_stream.specs.Unrolled.{unrolled}
use Rattle.raw_stream.specs.Kept.{due_count}
use Rattle.raw_term.specs.Claims.{ClaimTerms, Meets}
use Rattle.raw_term.specs.TermMachine.{TermState}
use Rattle.raw_row_terms.specs.RowTerms.{placed, AreWordNodes}
use Rattle.raw_row_terms.specs.RowClaims.{HasRows, HasPortsOf, misfed}
use Rattle.raw_row_terms.specs.Right.{MeetsRows}
use Rattle.raw_rows.specs.Kernels.{Cut, begun, Leads, LeadsNoting, RestsSeeing, start_cut, unknown, known}

-- ---- counters

-- a node behind k others
abbrev pub moved : ℕ → RowNode → RowNode
moved k (Input q) = Input q
moved k (Const word) = Const word
moved k (Apply op a b) = Apply op (k + a) (k + b)
moved k (Pre a word) = Pre (k + a) word

-- a stream that carries counters beside its own words
abbrev pub with_counters : Stream → List RowNode → Stream
with_counters s counters = record s { nodes = s.nodes ++ map (moved (length s.nodes)) counters }

-- the counters alone, as a stream
abbrev pub counting : Stream → List RowNode → Stream
counting s counters = record s { nodes = counters }

-- the counters behind so many rows
abbrev pub counted : Stream → List RowNode → ℕ → List ℕ
counted s counters zero = first_words (counting s counters)
counted s counters (suc b) = carried_after (counting s counters) (counted s counters b) []

-- their terms at the beginning of a run from a cut
abbrev pub counter_terms : Stream → List RowNode → List ℕ
counter_terms s counters = range_with_len (1 + length (first_words s)) (length (first_words (counting s counters)))

-- ---- proofs

-- Steps from the start to a cut, from that to itself, so many times as `kernels` says, and from it to the end. `looks` are the nodes, of counters
-- alone, on which it branches on the way.
pub record LengthProof : Type 0 where
  pub counters : List RowNode
  pub cut : Cut
  pub opening : List ℕ
  pub first_rows : ℕ
  pub first_limit : ℕ
  pub kernel : List ℕ
  pub rows : ℕ
  pub limit : ℕ
  pub kernels : ℕ
  pub looks : List Node
  pub ending : List ℕ
  pub last_rows : ℕ
  pub last_limit : ℕ

abbrev pub counters_at : Stream → LengthProof → ℕ → List ℕ
counters_at s w j = counted s w.counters (w.first_rows + j * w.rows)

-- the terms of these nodes, in the table with which a kernel begins, and that state with them in its table
abbrev pub looked : Stream → LengthProof → List Node → ClaimTerms
looked s w nodes = placed nodes (counter_terms s w.counters) w.looks

abbrev pub kernel_start : Stream → LengthProof → TermState
kernel_start s w = begun (with_counters s w.counters) (unknown (with_counters s w.counters)) (w.rows + w.cut.window) w.cut

abbrev pub with_looks : Stream → LengthProof → TermState → TermState
with_looks s w t = record { nodes = (looked s w t.nodes).nodes; state = t.state }

-- the value of node k of these, in the j-th kernel
abbrev pub look_at : Stream → LengthProof → ℕ → ℕ → ℕ
look_at s w j k = slice_index (values_from (counters_at s w j) 0 [] w.looks) k

-- a term that is noted is that of a node which is not 0 in any kernel
pub record IsCounted (s : Stream) (w : LengthProof) (term : ℕ) : Type 0 where
  pub place : ℕ
  pub is : slice_index (looked s w (kernel_start s w).nodes).numbers place ≡ term
  pub some : (j : ℕ) → j < w.kernels → ¬ (look_at s w j place ≡ 0)

-- from the cut to itself; each term that is noted is counted
pub record IsSteadyNoting (set : ProgramSet) (s : Stream) (w : LengthProof) : Type 0 where
  pub terms : List ℕ
  pub leads :
      LeadsNoting set (with_counters s w.counters) w.limit (unknown (with_counters s w.counters)) (with_looks s w (kernel_start s w)) w.kernel w.rows w.cut
      (w.rows + w.cut.window) terms
  pub counted : (i : ℕ) → i < length terms → IsCounted s w (slice_index terms i)

-- what is carried into the ending: unknown words, and the counters behind all kernels
abbrev pub last_carried : Stream → LengthProof → List Node
last_carried s w = unknown s ++ map (λ (word : ℕ). node.Const word) (counters_at s w w.kernels)

-- from the cut to the end: each sink has all that it is due, and each tile and switch is halted
pub record EndsDone (set : ProgramSet) (s : Stream) (w : LengthProof) : Type 0 where
  pub rests : RestsSeeing set (with_counters s w.counters) w.last_limit (last_carried s w) w.cut w.ending [] w.last_rows
  pub halted : NoneIs is_unhalted rests.at.state

pub record IsLengthProof (set : ProgramSet) (s : Stream) (w : LengthProof) : Type 0 where
  pub counters : AreRowNodes 0 w.counters
  pub constants : AreWordNodes w.cut.at.nodes
  pub looks : AreWordNodes w.looks
  pub count : w.first_rows + w.kernels * w.rows + w.last_rows ≡ s.count
  pub window : w.cut.window ≤ w.last_rows
  pub opens : Leads set (with_counters s w.counters) w.first_limit (known (with_counters s w.counters)) (start_cut set) w.opening w.first_rows w.cut
  pub steady : IsSteadyNoting set s w
  pub ends : EndsDone set s w

-- the set has room and steps enough for all rows
pub record HasRoomFor (set : ProgramSet) (s : Stream) (w : LengthProof) : Type 0 where
  pub room : (q : ℕ) → due_count s q ≤ capacity_of (slice_get set.ports q)
  pub steps : w.first_limit + w.kernels * w.limit + w.last_limit ≤ set.limit

-- a set of which there is such a proof computes the rows under all words
abbrev pub EachLengthIsMet : Type 0
EachLengthIsMet =
    (set : ProgramSet) (s : Stream) (w : LengthProof) → IsSet set → HasRows s → HasPortsOf set s → misfed set s ≡ None → IsLengthProof set s w
    → HasRoomFor set s w → MeetsRows set s

-- so it meets the flow that the stream is when it is unrolled
abbrev pub EachLengthMeets : Type 0
EachLengthMeets =
    (set : ProgramSet) (s : Stream) (w : LengthProof) → IsSet set → HasRows s → HasPortsOf set s → misfed set s ≡ None → IsLengthProof set s w
    → HasRoomFor set s w → Meets set (unrolled s)
