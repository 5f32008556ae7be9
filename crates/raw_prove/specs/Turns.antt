-- One processor's turn with terms: what it comes to, and what becomes of the table, of its local state and of the wires.
use Rattle.std.specs.Prelude.{◌≡◌, ℕ, Bool, true, false, Option, None, Some, IsSomeAnd, List, unwrap_or}
use Rattle.raw_network.specs.Network.{fronts, taken, appended, is_ready}
use Rattle.raw_model.specs.Program.{ProgramSet}
use Rattle.raw_model.specs.Local.{Local, Switch, SwitchLocal}
use Rattle.raw_model.specs.SwitchTable.{next_instruction}
use Rattle.raw_model.specs.Machine.{machine_of, takes, switch_code, given_to, row}
use Rattle.raw_model.specs.Rest.{enabled}
use Rattle.raw_serial.specs.Needs.{IsTaken}
use Rattle.raw_flow.specs.declared.node.Node.{Node}
use Rattle.raw_term.specs.Terms.{is_within, Overflows}
use Rattle.raw_term.specs.TermMachine.{TermState, TermRow, term_row, term_step, numbered}
use Rattle.raw_prove.specs.declared.machine.Machine.{Machine}
use Rattle.raw_prove.specs.declared.turn.Turn.{Turn}
use Rattle.raw_prove.specs.declared.turn.Turn.TheVariants.{Idle, Fired, Hangs, TooMany}
use Rattle.raw_prove.specs.Units.{state_of, MachineStands}

-- the term of an operand: 0 where none is read, what is given, or else what the register holds
abbrev pub operand_by : Bool → Option ℕ → ℕ → ℕ
operand_by true given held = unwrap_or given held
operand_by false given held = 0

-- a processor with this local state may take its next step
abbrev pub ready : ProgramSet → ℕ → Local → List (List ℕ) → Bool
ready set p l wires = is_ready (machine_of set) p (Some l) wires

-- what the next instruction of a switch is given, which takes values from wires and sends on what its routes say
pub record AreRouted (set : ProgramSet) (p : ℕ) (l : SwitchLocal) (wires : List (List ℕ)) (given : List (Option ℕ)) (later : List (List ℕ)) : Type 0 where
  pub values : List ℕ
  pub left : List (List ℕ)
  pub took : IsTaken set p (Switch l) wires left values
  pub given_is : given ≡ given_to set.topo p (next_instruction (switch_code set p) l) values
  pub later_is : later ≡ appended (row set p (Switch l) values).sent left

-- its next row
abbrev pub next_row : ProgramSet → List Node → ℕ → Local → List (List ℕ) → Option TermRow
next_row set nodes p l wires = term_row set nodes p l (fronts (takes set p l) wires)

-- what a row leaves
pub record IsAfter (set : ProgramSet) (p : ℕ) (l : Local) (wires : List (List ℕ)) (nodes : List Node) (next : Local) (later : List (List ℕ)) (r : TermRow) : Type 0 where
  pub nodes_are : r.nodes ≡ nodes
  pub next_is : r.row.next ≡ next
  pub wires_are : appended r.row.sent (taken (takes set p l) wires) ≡ later

-- it may not step, and all stays
pub record IsIdle (set : ProgramSet) (p : ℕ) (before : List Node) (old : Local) (wires : List (List ℕ)) (nodes : List Node) (next : Local) (later : List (List ℕ)) : Type 0 where
  pub waits : ready set p old wires ≡ false
  pub nodes_stay : nodes ≡ before
  pub local_stays : next ≡ old
  pub wires_stay : later ≡ wires

-- it steps
pub record IsFired (set : ProgramSet) (p : ℕ) (before : List Node) (old : Local) (wires : List (List ℕ)) (nodes : List Node) (next : Local) (later : List (List ℕ)) : Type 0 where
  pub may : ready set p old wires ≡ true
  pub does : IsSomeAnd (next_row set before p old wires) (IsAfter set p old wires nodes next later)

-- it may step, and its row wants a word that is none
pub record IsHung (set : ProgramSet) (p : ℕ) (before : List Node) (old : Local) (wires : List (List ℕ)) : Type 0 where
  pub may : ready set p old wires ≡ true
  pub wants : next_row set before p old wires ≡ None

-- it may step, and its row needs too many terms
pub record IsOver (set : ProgramSet) (p : ℕ) (before : List Node) (old : Local) (wires : List (List ℕ)) : Type 0 where
  pub may : ready set p old wires ≡ true
  pub over : IsSomeAnd (next_row set before p old wires) (λ r. Overflows r.nodes)

-- a turn, by what it came to
abbrev pub IsTurn : ProgramSet → ℕ → List Node → Local → List (List ℕ) → Turn → List Node → Local → List (List ℕ) → Type 0
IsTurn set p before old wires Idle nodes next later = IsIdle set p before old wires nodes next later
IsTurn set p before old wires Fired nodes next later = IsFired set p before old wires nodes next later
IsTurn set p before old wires Hangs nodes next later = IsHung set p before old wires
IsTurn set p before old wires TooMany nodes next later = IsOver set p before old wires

-- a turn of processor p of a machine that runs a set with numbered words
pub record StaysIdle (set : ProgramSet) (p : ℕ) (old new : Machine) : Type 0 where
  pub waits : enabled (numbered set) (state_of old).state p ≡ false
  pub stays : state_of new ≡ state_of old
  pub stands : MachineStands set new

pub record TakesStep (set : ProgramSet) (p : ℕ) (old new : Machine) : Type 0 where
  pub may : enabled (numbered set) (state_of old).state p ≡ true
  pub does : term_step (numbered set) (state_of old) p ≡ Some (state_of new)
  pub within : is_within (state_of new).nodes ≡ true
  pub stands : MachineStands set new

pub record HangsThere (set : ProgramSet) (p : ℕ) (old : Machine) : Type 0 where
  pub may : enabled (numbered set) (state_of old).state p ≡ true
  pub wants : term_step (numbered set) (state_of old) p ≡ None

pub record NeedsMore (set : ProgramSet) (p : ℕ) (old : Machine) : Type 0 where
  pub may : enabled (numbered set) (state_of old).state p ≡ true
  pub over : IsSomeAnd (term_step (numbered set) (state_of old) p) (λ (s : TermState). Overflows s.nodes)

abbrev pub IsTurnOf : ProgramSet → ℕ → Machine → Turn → Machine → Type 0
IsTurnOf set p old Idle new = StaysIdle set p old new
IsTurnOf set p old Fired new = TakesStep set p old new
IsTurnOf set p old Hangs new = HangsThere set p old
IsTurnOf set p old TooMany new = NeedsMore set p old
