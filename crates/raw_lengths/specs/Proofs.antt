-- What the proofs of the code stand for, and what is found of their parts.
use Rattle.std.specs.Prelude.{ℕ, ◌+◌, ◌*◌, ◌<◌, [], List}
use Rattle.std.specs.List.{range_with_len}
use Rattle.raw_model.specs.Program.{ProgramSet}
use Rattle.raw_model.specs.Outcomes.{is_unhalted, NoneIs}
use Rattle.raw_flow.specs.declared.node.Node.{Node}
use Rattle.raw_flow.specs.Flows.{values_from}
use Rattle.raw_stream.specs.declared.row_node.RowNode.{RowNode}
use Rattle.raw_stream.specs.Streams.{Stream}
use Rattle.raw_term.specs.Claims.{ClaimTerms}
use Rattle.raw_term.specs.TermMachine.{TermState}
use Rattle.raw_row_terms.specs.RowTerms.{placed}
use Rattle.raw_rows.specs.Kernels.{Cut, begun, LeadsNoting, RestsSeeing, unknown}
use Rattle.raw_rows.specs.Lengths.{LengthProof as RowsProof, counted}
use Rattle.raw_cut.specs.Cuts.{cut_of}
use Rattle.raw_lengths.specs.declared.proof.LengthProof.{LengthProof}
use Rattle.raw_lengths.specs.Looks.{ArePlaces, AreSome}

abbrev pub proof_of : LengthProof → RowsProof
proof_of w = record {
  counters = w.counters.items;
  cut = cut_of w.cut;
  opening = w.opening.items;
  first_rows = w.first_rows;
  first_limit = w.first_limit;
  kernel = w.kernel.items;
  rows = w.rows;
  limit = w.limit;
  kernels = w.kernels;
  looks = w.looks.items;
  ending = w.ending.items;
  last_rows = w.last_rows;
  last_limit = w.last_limit;
}

-- the state with which a kernel begins, and it with the terms of nodes over the counters, which are carried behind so many words
abbrev pub start_at : Stream → Cut → ℕ → TermState
start_at s cut r = begun s (unknown s) (r + cut.window) cut

abbrev pub looks_at : ℕ → ℕ → List Node → List Node → ClaimTerms
looks_at own many looks nodes = placed nodes (range_with_len (1 + own) many) looks

abbrev pub start_with : Stream → Cut → ℕ → ℕ → ℕ → List Node → TermState
start_with s cut r own many looks = record { nodes = (looks_at own many looks (start_at s cut r).nodes).nodes; state = (start_at s cut r).state }

-- a list of steps leads from a cut to itself, and the terms that it notes are those of nodes at these places
pub record IsSteadySeen (set : ProgramSet) (s : Stream) (limit : ℕ) (cut : Cut) (steps : List ℕ) (r own many : ℕ) (looks : List Node) (places : List ℕ) : Type 0 where
  pub terms : List ℕ
  pub leads : LeadsNoting set s limit (unknown s) (start_with s cut r own many looks) steps r cut (r + cut.window) terms
  pub placed : ArePlaces (looks_at own many looks (start_at s cut r).nodes).numbers places terms

-- from a cut to the end: each sink has all that it is due, and each tile and switch is halted
pub record EndsSeeing (set : ProgramSet) (s : Stream) (limit : ℕ) (carried : List Node) (from : Cut) (steps : List ℕ) (m : ℕ) : Type 0 where
  pub rests : RestsSeeing set s limit carried from steps [] m
  pub halted : NoneIs is_unhalted rests.at.state

-- in none of so many kernels one of the values of nodes at these places is 0, from so many rows on, each so many rows later
abbrev pub AreCounted : List RowNode → List Node → List ℕ → ℕ → ℕ → ℕ → Type 0
AreCounted counters looks places first rows kernels =
    (s : Stream) (j : ℕ) → j < kernels → AreSome (values_from (counted s counters (first + j * rows)) 0 [] looks) places
