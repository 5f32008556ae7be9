-- A set against a stream for all of its rows, by the run with terms. Ports are numbered as those of the set, in the inputs and in the outs of the
-- stream.
use Rattle.std.specs.Prelude.{◌≡◌, ◌⊎◌, ℕ, ◌+◌, ◌-◌, ◌*◌, ◌^◌, ◌<◌, ◌≤◌, false, not, ◌==◌, Option, Some, None, List, [], ◌∷◌, length, map, slice_get, if◌then◌else◌}
use Rattle.std.specs.List.{All, find, flat_map, list_any, range_with_len}
use Rattle.raw_grid.specs.Topology.{tile_count}
use Rattle.raw_model.specs.Program.{ProgramSet, IsSet}
use Rattle.raw_model.specs.Machine.{words_of}
use Rattle.raw_model.specs.Start.{MachineState}
use Rattle.raw_model.specs.Waits.{waits_for}
use Rattle.raw_model.specs.Outcomes.{outcome}
use Rattle.raw_model.specs.Parts.{got_of}
use Rattle.raw_outcome.specs.declared.ends.Outcome.{Outcome}
use Rattle.raw_outcome.specs.declared.ends.Outcome.TheVariants as answer
use Rattle.raw_outcome.specs.Told.{told}
use Rattle.raw_flow.specs.declared.node.Node.{Node}
use Rattle.raw_flow.specs.declared.node.Node.TheVariants as node
use Rattle.raw_stream.specs.declared.row_node.RowNode.{RowNode}
use Rattle.raw_stream.specs.declared.row_node.RowNode.TheVariants.{Input, Const, Apply, Pre}
use Rattle.raw_stream.specs.Streams.{Stream, AreNamed, first_words, due_at, due_to}
use Rattle.raw_stream.specs.Unrolled.{width, word_place, unrolled}
use Rattle.raw_stream.specs.Kept.{due_count}
use Rattle.raw_term.specs.declared.verdict.Verdict.{Verdict}
use Rattle.raw_term.specs.declared.verdict.Verdict.TheVariants.{Proved, Hangs, TooMany, Rests, Inputs, Words, Differs}
use Rattle.raw_term.specs.Terms.{is_within}
use Rattle.raw_term.specs.TermMachine.{TermState, numbered}
use Rattle.raw_term.specs.Claims.{ClaimTerms, Meets}
use Rattle.raw_term.specs.Verdicts.{Break, OnInput, OnTable, TermRun, ran, first_run, HasEnded, compared, ByClasses}
use Rattle.raw_row_terms.specs.RowTerms.{placed, RowTerms, row_terms}

-- ---- counts

-- how many words port q of the set has
abbrev pub has_words : ProgramSet → ℕ → ℕ
has_words set q = length (words_of (slice_get set.ports q))

-- how many words all rows take of port q
abbrev pub takes_in_all : Stream → ℕ → ℕ
takes_in_all s q = s.count * width s q

-- the first port that has more or fewer words than all rows take
abbrev pub misfed : ProgramSet → Stream → Option ℕ
misfed set s = find (λ q. not (has_words set q == takes_in_all s q)) (range_with_len 0 (length set.ports))

-- what port q has received
abbrev pub got_at : ProgramSet → MachineState → ℕ → List ℕ
got_at set state q = got_of (slice_get state.locals (2 * tile_count set.topo + q))

-- the first port that has received more or fewer words than it is due of all rows
abbrev pub misgot : ProgramSet → Stream → MachineState → Option ℕ
misgot set s state = find (λ q. not (length (got_at set state q) == due_count s q)) (range_with_len 0 (length set.ports))

-- ---- terms

-- the terms of the words of row r, in the order of its inputs: the k-th word of all sources has the number 1 + k
abbrev pub numbers_from : Stream → ℕ → ℕ → List RowNode → List ℕ
numbers_from s r v [] = []
numbers_from s r v (Input q ∷ nodes) = (1 + word_place s r q v) ∷ numbers_from s r (v + 1) nodes
numbers_from s r v (Const word ∷ nodes) = numbers_from s r (v + 1) nodes
numbers_from s r v (Apply op a b ∷ nodes) = numbers_from s r (v + 1) nodes
numbers_from s r v (Pre a word ∷ nodes) = numbers_from s r (v + 1) nodes

abbrev pub row_numbers : Stream → ℕ → List ℕ
row_numbers s r = numbers_from s r 0 s.nodes

-- the terms of what is carried into the first row, those of the rows from row r on, and so those of all rows, made in a table
abbrev pub first_terms : Stream → List Node → ClaimTerms
first_terms s nodes = placed nodes [] (map (λ (word : ℕ). node.Const word) (first_words s))

abbrev pub terms_from : Stream → ℕ → List Node → List ℕ → RowTerms
terms_from s r nodes carried = row_terms s nodes carried (map (row_numbers s) (range_with_len r (s.count - r)))

abbrev pub all_terms_with : Stream → ClaimTerms → RowTerms
all_terms_with s c = terms_from s 0 c.nodes c.numbers

abbrev pub all_terms : Stream → List Node → RowTerms
all_terms s nodes = all_terms_with s (first_terms s nodes)

-- what these ports have received, one behind the other, and what they are due
abbrev pub got_in : ProgramSet → List ℕ → MachineState → List ℕ
got_in set order state = flat_map (got_at set state) order

abbrev pub due_in : Stream → List ℕ → List (List ℕ) → List ℕ
due_in s order values = flat_map (λ q. due_to s q values) order

-- ---- what is said

-- what the terms of a table say as they stand
abbrev pub compared_within : List Node → List ℕ → List ℕ → Verdict
compared_within nodes got due = if is_within nodes then compared nodes 0 got due else TooMany

-- what they say as they stand, or by their classes
abbrev pub IsOfTerms : List Node → List ℕ → List ℕ → Verdict → Type 0
IsOfTerms nodes got due verdict =
    (verdict ≡ compared_within nodes got due) ⊎ (((k : ℕ) × (compared_within nodes got due ≡ Differs k)) × ByClasses nodes got due verdict)

abbrev pub IsOfRows : ProgramSet → Stream → List ℕ → TermState → Verdict → Type 0
IsOfRows set s order at verdict =
    IsOfTerms (all_terms s at.nodes).nodes (got_in set order at.state) (due_in s order (all_terms s at.nodes).values) verdict

-- where each sink has received as many words as it is due, it is what the terms say
abbrev pub IsOfRowCounts : Option ℕ → ProgramSet → Stream → List ℕ → TermState → Verdict → Type 0
IsOfRowCounts (Some q) set s order at verdict = verdict ≡ Words (length (got_at set at.state q)) (due_count s q)
IsOfRowCounts None set s order at verdict = IsOfRows set s order at verdict

-- a state that came to rest so says this
abbrev pub IsSaidOfRows : Outcome → ProgramSet → Stream → List ℕ → TermState → Verdict → Type 0
IsSaidOfRows answer.Done set s order at verdict = IsOfRowCounts (misgot set s at.state) set s order at verdict
IsSaidOfRows how set s order at verdict = verdict ≡ Rests how

pub record IsOfRowsAtRest (set : ProgramSet) (s : Stream) (order : List ℕ) (at : TermState) (verdict : Verdict) : Type 0 where
  pub how : Outcome
  pub tells : told (waits_for (numbered set) at.state) how ≡ outcome (numbered set) at.state
  pub is : IsSaidOfRows how set s order at verdict

-- a run that has ended says this
abbrev pub IsOfRowsRun : ProgramSet → Stream → List ℕ → TermRun → Verdict → Option Break → Type 0
IsOfRowsRun set s order r verdict None = IsOfRowsAtRest set s order r.at verdict
IsOfRowsRun set s order r verdict (Some (OnInput p)) = verdict ≡ Hangs r.steps (record { 0 = p })
IsOfRowsRun set s order r verdict (Some OnTable) = verdict ≡ TooMany

-- the serial run with terms ends, and says this
pub record IsRowsVerdictOfRun (set : ProgramSet) (s : Stream) (order : List ℕ) (verdict : Verdict) : Type 0 where
  pub sweeps : ℕ
  pub ended : HasEnded (numbered set) (ran (numbered set) sweeps (first_run set)) (ran (numbered set) sweeps (first_run set)).broken
  pub is : IsOfRowsRun set s order (ran (numbered set) sweeps (first_run set)) verdict (ran (numbered set) sweeps (first_run set)).broken

-- where each port has as many words as all rows take, it is what the run says
abbrev pub IsRowsVerdictWhere : Option ℕ → ProgramSet → Stream → List ℕ → Verdict → Type 0
IsRowsVerdictWhere (Some q) set s order verdict = verdict ≡ Inputs (takes_in_all s q) (has_words set q)
IsRowsVerdictWhere None set s order verdict = IsRowsVerdictOfRun set s order verdict

-- what is said of a stream, whose outs are compared port by port in this order
abbrev pub IsRowsVerdict : ProgramSet → Stream → List ℕ → Verdict → Type 0
IsRowsVerdict set s order verdict = IsRowsVerdictWhere (misfed set s) set s order verdict

-- ---- what it shows

-- a stream with rows, whose nodes and outs are not too many to be counted
pub record HasRows (s : Stream) : Type 0 where
  pub named : AreNamed s
  pub some : 1 ≤ s.count
  pub few_nodes : length s.nodes < 2 ^ 32
  pub few_outs : length s.outs < 2 ^ 32

-- the ports of the stream are those of the set
pub record HasPortsOf (set : ProgramSet) (s : Stream) : Type 0 where
  pub sources : length s.sources ≡ length set.ports
  pub sinks : length s.sinks ≡ length set.ports

-- each port that is due words is among these
pub record AreSinksOf (s : Stream) (order : List ℕ) : Type 0 where
  pub within : All (λ q. q < length s.sinks) order
  pub others : (q : ℕ) → list_any (λ p. p == q) order ≡ false → due_at s q ≡ []

-- a stream with rows whose ports are those of a set, in its inputs and in its outs, and the order of those that are sinks of it
pub record IsClaimOf (set : ProgramSet) (s : Stream) (order : List ℕ) : Type 0 where
  pub rows : HasRows s
  pub ports : HasPortsOf set s
  pub sinks : AreSinksOf s order

-- a set of which a stream is proved meets the flow that it is when it is unrolled
abbrev pub EachRowsProvedAreMet : Type 0
EachRowsProvedAreMet =
    (set : ProgramSet) (s : Stream) (order : List ℕ) (n : ℕ) → IsSet set → HasRows s → HasPortsOf set s → AreSinksOf s order
    → IsRowsVerdict set s order (Proved n) → Meets set (unrolled s)
