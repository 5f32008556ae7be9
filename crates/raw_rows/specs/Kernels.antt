-- Cuts of runs of a set against a stream, and what it is that a list of steps leads from one cut to another.
use Rattle.std.specs.Prelude.{◌≡◌, ℕ, zero, suc, ◌+◌, ◌-◌, ◌*◌, ◌/◌, ◌<◌, ◌≤◌, Option, Some, None, List, [], ◌∷◌, ◌++◌, length, map, take, drop, replicate, slice_get, slice_index, slice_index_or, if◌then◌else◌}
use Rattle.std.specs.List.{flat_map, range_with_len}
use Rattle.std.specs.Option.{option_and_then}
use Rattle.raw_grid.specs.Topology.{tile_count}
use Rattle.raw_model.specs.Program.{ProgramSet, PortProgram, IsSet}
use Rattle.raw_model.specs.Machine.{capacity_of}
use Rattle.raw_model.specs.Local.{Local, Tile, Switch, Source, Sink, PortLocal}
use Rattle.raw_model.specs.Start.{MachineState}
use Rattle.raw_model.specs.Rest.{enabled, IsRun, IsQuiet, end}
use Rattle.raw_flow.specs.declared.node.Node.{Node}
use Rattle.raw_flow.specs.declared.node.Node.TheVariants.{Input, Const}
use Rattle.raw_stream.specs.Streams.{Stream, AreNamed, valued, first_words, due_at, due_to, rows_of}
use Rattle.raw_term.specs.Claims.{ClaimTerms}
use Rattle.raw_term.specs.TermMachine.{TermState, term_step, first_nodes, first_term_tiles, started}
use Rattle.raw_row_terms.specs.RowTerms.{placed, RowTerms, row_terms, AreWordNodes, AllWords}
use Rattle.raw_rows.specs.Given.{row_width, given_by}
use Rattle.raw_rows.specs.Noted.{noted_at, along_noting}

-- all words of rows
abbrev pub joined : List (List ℕ) → List ℕ
joined rows = flat_map (λ (words : List ℕ). words) rows

-- the numbers of inputs, from one on, as so many rows of so many words
abbrev pub input_rows : ℕ → ℕ → ℕ → List (List ℕ)
input_rows from width zero = []
input_rows from width (suc n) = range_with_len from width ∷ input_rows (from + width) width n

-- how many values port q gets of these rows
abbrev pub room_for : Stream → ℕ → List (List ℕ) → ℕ
room_for s q rows = length (flat_map (λ (words : List ℕ). due_at s q) rows)

-- a port with the words that it gives of these rows, and room for what it gets of them
abbrev pub run_port : Stream → List (List ℕ) → ℕ → PortProgram
run_port s rows q = record { words = given_by s q rows; capacity = room_for s q rows }

abbrev pub run_ports : Stream → ℕ → List (List ℕ) → List PortProgram
run_ports s many rows = map (run_port s rows) (range_with_len 0 many)

-- the set, for a part of a run that sees these rows, in which no processor executes more than `limit` instructions
abbrev pub run_set : ProgramSet → Stream → ℕ → List (List ℕ) → ProgramSet
run_set set s limit rows = record set { limit = limit; ports = run_ports s (length set.ports) rows }

-- A cut: a state in which numbers of nodes stand for words. The inputs of its nodes are what is carried into a row and the words of that row and
-- of those behind it, `window` rows in all. Sources and sinks are counted from that row on; what processors have counted is not looked at.
pub record Cut : Type 0 where
  pub window : ℕ
  pub at : TermState

-- a local state with other numbers
abbrev pub renumbered : List ℕ → Local → Local
renumbered ns (Tile l) = Tile (record { regs = valued ns l.regs; pc = l.pc; count = 0; mark = l.mark; memory = valued ns l.memory })
renumbered ns (Switch l) = Switch (record { regs = valued ns l.regs; pc = l.pc; count = 0; mark = l.mark })
renumbered ns (Source l) = Source l
renumbered ns (Sink l) = Sink (record { done = l.done; got = valued ns l.got })

abbrev pub cut_with : MachineState → ClaimTerms → TermState
cut_with state c =
    record { nodes = c.nodes; state = record { locals = map (renumbered c.numbers) state.locals; wires = map (valued c.numbers) state.wires } }

-- a cut as a state of the machine with terms, where these are the terms of what is carried and of the words of its rows
abbrev pub placed_cut : List Node → List ℕ → List (List ℕ) → Cut → TermState
placed_cut nodes carried rows cut = cut_with cut.at.state (placed nodes (carried ++ joined rows) cut.at.nodes)

-- the state of the machine with terms after these steps; None where one of them is not enabled or hangs
abbrev pub along : ProgramSet → TermState → List ℕ → Option TermState
along set s [] = Some s
along set s (p ∷ ps) = if enabled set s.state p then option_and_then (λ (t : TermState). along set t ps) (term_step set s p) else None

-- What is carried into the first row of a run: unknown words, or words. Both are nodes of which the inputs are what is carried.
abbrev pub unknown : Stream → List Node
unknown s = replicate (length (first_words s)) Input

abbrev pub known : Stream → List Node
known s = map (λ (word : ℕ). Const word) (first_words s)

-- a table with unknown words for what is carried and for m rows, and the terms of these rows
abbrev pub open_nodes : Stream → ℕ → List Node
open_nodes s m = first_nodes (length (first_words s) + m * row_width s)

abbrev pub open_rows : Stream → ℕ → List (List ℕ)
open_rows s m = input_rows (1 + length (first_words s)) (row_width s) m

-- the terms of what is carried, in a table
abbrev pub carried_in : Stream → List Node → List Node → ClaimTerms
carried_in s nodes carried = placed nodes (range_with_len 1 (length (first_words s))) carried

-- the cut with which a run that sees m rows begins
abbrev pub begun_with : Stream → ClaimTerms → ℕ → Cut → TermState
begun_with s c m cut = placed_cut c.nodes c.numbers (take cut.window (open_rows s m)) cut

abbrev pub begun : Stream → List Node → ℕ → Cut → TermState
begun s carried m cut = begun_with s (carried_in s (open_nodes s m) carried) m cut

-- the terms of the first r rows of a run, in the table with which it ends
abbrev pub passed_with : Stream → ClaimTerms → List (List ℕ) → RowTerms
passed_with s c rows = row_terms s c.nodes c.numbers rows

abbrev pub passed : Stream → List Node → TermState → List (List ℕ) → RowTerms
passed s carried at rows = passed_with s (carried_in s at.nodes carried) rows

-- what holds of two local states of a processor, where there are both
abbrev pub AtBoth : (ℕ → Local → Local → Type 0) → ℕ → Option Local → Option Local → Type 0
AtBoth R p None None = Unit {0}
AtBoth R p None (Some m) = ⊥
AtBoth R p (Some l) None = ⊥
AtBoth R p (Some l) (Some m) = R p l m

abbrev pub AtEach : (ℕ → Local → Local → Type 0) → List Local → List Local → Type 0
AtEach R ls ms = (p : ℕ) → AtBoth R p (slice_get ls p) (slice_get ms p)

-- a local state is that of a cut, but for what it has counted, and for what its port has given and got of the rows before the cut
abbrev pub IsLater : Stream → ℕ → List (List ℕ) → List (List ℕ) → ℕ → Local → Local → Type 0
IsLater s tiles rows values p (Tile l) (Tile k) = l ≡ record k { count = l.count }
IsLater s tiles rows values p (Switch l) (Switch k) = l ≡ record k { count = l.count }
IsLater s tiles rows values p (Source l) (Source k) = l ≡ record k { done = length (given_by s (p - 2 * tiles) rows) + k.done }
IsLater s tiles rows values p (Sink l) (Sink k) =
    l ≡ record { done = length (due_to s (p - 2 * tiles) values) + k.done; got = due_to s (p - 2 * tiles) values ++ k.got }
IsLater s tiles rows values p _ _ = ⊥

-- a state with terms is that of a cut behind rows with these words and values
pub record Arrives (set : ProgramSet) (s : Stream) (rows values : List (List ℕ)) (at cut : MachineState) : Type 0 where
  pub locals : AtEach (IsLater s (tile_count set.topo) rows values) at.locals cut.locals
  pub wires : at.wires ≡ cut.wires

-- The run with terms along a list of steps, from a state in which it sees m rows, arrives at a cut r rows later. On the way it notes these terms. It is
-- decided by that one run.
pub record LeadsNoting (set : ProgramSet) (s : Stream) (limit : ℕ) (carried : List Node) (begins : TermState) (steps : List ℕ) (r : ℕ) (to : Cut) (m : ℕ) (terms : List ℕ) : Type 0 where
  pub at : TermState
  pub goes : along_noting (run_set set s limit (open_rows s m)) (noted_at begins []) steps ≡ Some (noted_at at terms)
  pub arrives :
      Arrives set s (take r (open_rows s m)) (passed s carried at (take r (open_rows s m))).values at.state
      (placed_cut (passed s carried at (take r (open_rows s m))).nodes (passed s carried at (take r (open_rows s m))).carried (drop r (open_rows s m)) to).state

-- from one cut to another, and nothing is noted
abbrev pub LeadsSeeing : ProgramSet → Stream → ℕ → List Node → Cut → List ℕ → ℕ → Cut → ℕ → Type 0
LeadsSeeing set s limit carried from steps r to m = LeadsNoting set s limit carried (begun s carried m from) steps r to m []

-- a run leads from one cut to another over r rows; it sees these rows and those that the other cut sees
abbrev pub Leads : ProgramSet → Stream → ℕ → List Node → Cut → List ℕ → ℕ → Cut → Type 0
Leads set s limit carried from steps r to = LeadsSeeing set s limit carried from steps r to (r + to.window)

-- the start of a set, as a cut that sees no row
abbrev pub start_cut : ProgramSet → Cut
start_cut set = record { window = 0; at = started set (first_term_tiles (first_nodes 0) set.tiles) }

-- a list of steps leads from the cut to the same cut, r rows later, whatever is carried
abbrev pub IsSteady : ProgramSet → Stream → ℕ → Cut → List ℕ → ℕ → Type 0
IsSteady set s limit cut steps r = Leads set s limit (unknown s) cut steps r cut

-- as many words as a row has
pub record IsRow (s : Stream) (words : List ℕ) : Type 0 where
  pub many : length words ≡ row_width s
  pub small : AllWords words

abbrev pub AreRows : Stream → List (List ℕ) → Type 0
AreRows s rows = (i : ℕ) (words : List ℕ) → slice_get rows i ≡ Some words → IsRow s words

-- the set, fed with rows: each source has the words that it gives of them
abbrev pub fed_by : Stream → List (List ℕ) → ℕ → List PortProgram → List PortProgram
fed_by s rows q [] = []
fed_by s rows q (port ∷ ports) = record port { words = given_by s q rows } ∷ fed_by s rows (q + 1) ports

abbrev pub fed_rows : ProgramSet → Stream → List (List ℕ) → ProgramSet
fed_rows set s rows = record set { ports = fed_by s rows 0 set.ports }

-- the set with a step more and a place more than a part of a run that sees these rows
abbrev pub roomy_port : Stream → List (List ℕ) → ℕ → PortProgram
roomy_port s rows q = record { words = given_by s q rows; capacity = room_for s q rows + 1 }

abbrev pub roomy_set : ProgramSet → Stream → ℕ → List (List ℕ) → ProgramSet
roomy_set set s limit rows = record set { limit = limit + 1; ports = map (roomy_port s rows) (range_with_len 0 (length set.ports)) }

-- each sink has what it is due, in order, but for the last words: at most so many as `lacks` has at the number of its port
abbrev pub HasDue : Stream → ℕ → List (List ℕ) → List ℕ → MachineState → Type 0
HasDue s tiles values lacks x =
    (p : ℕ) (l : PortLocal) → slice_get x.locals p ≡ Some (Sink l)
    → (last : List ℕ) × (due_to s (p - 2 * tiles) values ≡ l.got ++ last) × (length last ≤ slice_index lacks (p - 2 * tiles))

-- the run with terms along a list of steps, from a cut that sees m rows, comes to rest, with what is due of them but for `lacks`
pub record RestsSeeing (set : ProgramSet) (s : Stream) (limit : ℕ) (carried : List Node) (from : Cut) (steps : List ℕ) (lacks : List ℕ) (m : ℕ) : Type 0 where
  pub at : TermState
  pub goes : along (run_set set s limit (open_rows s m)) (begun s carried m from) steps ≡ Some at
  pub quiet : IsQuiet (roomy_set set s limit (open_rows s m)) at.state
  pub due : HasDue s (tile_count set.topo) (passed s carried at (open_rows s m)).values lacks at.state

-- A proof that a set meets a stream for every number of rows: steps from the start to a cut, steps from that to itself, and, for each number of
-- rows below those of the kernel, steps from it to rest.
pub record LiveProof : Type 0 where
  pub cut : Cut
  pub opening : List ℕ
  pub first_rows : ℕ
  pub first_limit : ℕ
  pub kernel : List ℕ
  pub rows : ℕ
  pub limit : ℕ
  pub endings : List (List ℕ)
  pub last_limit : ℕ
  pub lacks : List ℕ

-- The steps of a proof do what they are for. Those of the opening lead from the start to the cut, and those of the
-- kernel from the cut to itself over its rows. For each number of rows below these some lead from the cut to rest.
pub record IsLiveProof (set : ProgramSet) (s : Stream) (w : LiveProof) : Type 0 where
  pub constants : AreWordNodes w.cut.at.nodes
  pub opens : Leads set s w.first_limit (known s) (start_cut set) w.opening w.first_rows w.cut
  pub steady : IsSteady set s w.limit w.cut w.kernel w.rows
  pub rests : (i : ℕ) → i < w.rows → RestsSeeing set s w.last_limit (unknown s) w.cut (slice_index_or w.endings i []) w.lacks (w.cut.window + i)

-- the set, fed with these rows, has room and steps enough, n kernels included
pub record IsEnough (set : ProgramSet) (s : Stream) (w : LiveProof) (n : ℕ) (rows : List (List ℕ)) : Type 0 where
  pub room : (q : ℕ) → room_for s q rows ≤ capacity_of (slice_get set.ports q)
  pub steps : w.first_limit + n * w.limit + w.last_limit ≤ set.limit

-- some list of steps of the set, fed with these rows, comes to rest, and each that does leaves in each sink what it is due but for `lacks`
pub record IsMetBut (set : ProgramSet) (s : Stream) (lacks : List ℕ) (rows : List (List ℕ)) : Type 0 where
  pub some : (steps : List ℕ) × IsRun (fed_rows set s rows) steps
  pub right : (steps : List ℕ) → IsRun (fed_rows set s rows) steps → HasDue s (tile_count set.topo) (rows_of s (first_words s) rows) lacks (end (fed_rows set s rows) steps)

-- a set of which there is such a proof meets the stream for every number of rows
abbrev pub EachLiveRowIsMet : Type 0
EachLiveRowIsMet =
    (set : ProgramSet) (s : Stream) (w : LiveProof) → IsSet set → AreNamed s → length s.sources ≤ length set.ports → IsLiveProof set s w
    → (n i : ℕ) → i < w.rows → (rows : List (List ℕ)) → length rows ≡ w.first_rows + n * w.rows + (w.cut.window + i) → AreRows s rows
    → IsSet (fed_rows set s rows) → IsEnough set s w n rows → IsMetBut set s w.lacks rows

-- how many kernels such a proof takes for so many rows, and how many rows are left
abbrev pub kernels_in : LiveProof → ℕ → ℕ
kernels_in w m = (m - (w.first_rows + w.cut.window)) / w.rows

-- a set of which there is such a proof meets the stream for every number of rows from that of the cut on
abbrev pub EachNumberIsMet : Type 0
EachNumberIsMet =
    (set : ProgramSet) (s : Stream) (w : LiveProof) → IsSet set → AreNamed s → length s.sources ≤ length set.ports → 1 ≤ w.rows → IsLiveProof set s w
    → (rows : List (List ℕ)) → w.first_rows + w.cut.window ≤ length rows → AreRows s rows
    → IsSet (fed_rows set s rows) → IsEnough set s w (kernels_in w (length rows)) rows → IsMetBut set s w.lacks rows
