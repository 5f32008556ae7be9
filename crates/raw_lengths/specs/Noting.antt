-- Looks at the next steps of processors: whether they branch on terms, and what that leaves.
use Rattle.std.specs.Prelude.{◌≡◌, ℕ, Bool, true, false, Option, Some, None, List, [], ◌∷◌, ◌++◌, IsSomeAnd, slice_index}
use Rattle.raw_network.specs.Network.{fronts}
use Rattle.raw_tile_isa.specs.Instruction.{Instruction, is_network}
use Rattle.raw_switch_isa.specs.declared.table.SwitchOp.{SwitchOp}
use Rattle.raw_switch_isa.specs.declared.table.SwitchOp.TheVariants as switch
use Rattle.raw_switch_isa.specs.Instruction.{SwitchInstruction}
use Rattle.raw_model.specs.Program.{ProgramSet}
use Rattle.raw_model.specs.Local.{Local, TileLocal, SwitchLocal}
use Rattle.raw_model.specs.Machine.{takes}
use Rattle.raw_model.specs.TileTable.{following}
use Rattle.raw_model.specs.Rest.{enabled}
use Rattle.raw_flow.specs.declared.node.Node.{Node}
use Rattle.raw_term.specs.Terms.{word_in}
use Rattle.raw_prove.specs.declared.machine.Machine.{Machine}
use Rattle.raw_prove.specs.Units.{state_of}
use Rattle.raw_prove.specs.Turns.{ready, next_row, IsAfter}
use Rattle.raw_rows.specs.Noted.{noted_pc, noted_switch, NotedRow, noted_row, noted_at, noting_step}
use Rattle.raw_cut.specs.Kept.{IsKeptWith}
use Rattle.raw_lengths.specs.declared.noting.Look.{Look}
use Rattle.raw_lengths.specs.declared.noting.Look.TheVariants.{Other, Noted, TooMany}

-- a tile's branch to this pc that compares a term, which is no word, with 0; both stand in registers
pub record IsTileLook (nodes : List Node) (l : TileLocal) (pc : ℕ) (ins : Instruction) : Type 0 where
  pub goes : noted_pc ins.op (following l) ins ≡ Some pc
  pub first : is_network ins.rs ≡ false
  pub second : is_network ins.rt ≡ false
  pub none : word_in nodes (slice_index l.regs ins.rs) ≡ None
  pub zero : word_in nodes (slice_index l.regs ins.rt) ≡ Some 0

abbrev pub IsTileLookAt : List Node → TileLocal → ℕ → Option Instruction → Type 0
IsTileLookAt nodes l pc None = ⊥
IsTileLookAt nodes l pc (Some ins) = IsTileLook nodes l pc ins

-- what the register at rs of an instruction holds
abbrev pub first_held : List ℕ → Option Instruction → ℕ
first_held regs None = 0
first_held regs (Some ins) = slice_index regs ins.rs

-- whether an instruction of a switch branches on a register
abbrev pub is_branch : SwitchOp → Bool
is_branch switch.Beqz = true
is_branch switch.Bnez = true
is_branch switch.Bnezd = true
is_branch _ = false

-- a switch's branch on a register whose term is no word
pub record IsSwitchLook (nodes : List Node) (l : SwitchLocal) (ins : SwitchInstruction) : Type 0 where
  pub op : is_branch ins.op ≡ true
  pub none : word_in nodes (slice_index l.regs ins.rd) ≡ None

abbrev pub IsLookAt : List Node → SwitchLocal → Option SwitchInstruction → Type 0
IsLookAt nodes l None = ⊥
IsLookAt nodes l (Some ins) = IsSwitchLook nodes l ins

-- such a branch is taken
pub record IsBranchOf (before : List Node) (size : ℕ) (l : SwitchLocal) (ins : SwitchInstruction) (term : ℕ) (nodes : List Node) (next : SwitchLocal) : Type 0 where
  pub term_is : slice_index l.regs ins.rd ≡ term
  pub does : noted_switch before ins.op size l ins ≡ Some (record { nodes = nodes; next = next })

abbrev pub IsBranch : List Node → ℕ → SwitchLocal → Option SwitchInstruction → ℕ → List Node → SwitchLocal → Type 0
IsBranch before size l None term nodes next = ⊥
IsBranch before size l (Some ins) term nodes next = IsBranchOf before size l ins term nodes next

-- a row that notes a term leaves this
pub record IsNotedAfter (set : ProgramSet) (p : ℕ) (old : Local) (wires : List (List ℕ)) (term : ℕ) (nodes : List Node) (next : Local) (later : List (List ℕ)) (n : NotedRow) : Type 0 where
  pub term_is : n.term ≡ term
  pub after : IsAfter set p old wires nodes next later n.row

-- it may step, hangs, and is a branch on this term, which is taken
pub record IsNoted (set : ProgramSet) (p : ℕ) (before : List Node) (old : Local) (wires : List (List ℕ)) (term : ℕ) (nodes : List Node) (next : Local) (later : List (List ℕ)) : Type 0 where
  pub may : ready set p old wires ≡ true
  pub hangs : next_row set before p old wires ≡ None
  pub does : IsSomeAnd (noted_row set before p old (fronts (takes set p old) wires)) (IsNotedAfter set p old wires term nodes next later)

-- nothing is changed
pub record IsUntouched (before : List Node) (old : Local) (wires : List (List ℕ)) (nodes : List Node) (next : Local) (later : List (List ℕ)) : Type 0 where
  pub nodes_stay : nodes ≡ before
  pub local_stays : next ≡ old
  pub wires_stay : later ≡ wires

-- a look at a processor, by what it came to
abbrev pub IsLook : ProgramSet → ℕ → List Node → Local → List (List ℕ) → Look → List Node → Local → List (List ℕ) → Type 0
IsLook set p before old wires Other nodes next later = IsUntouched before old wires nodes next later
IsLook set p before old wires (Noted term) nodes next later = IsNoted set p before old wires term nodes next later
IsLook set p before old wires TooMany nodes next later = Unit {0}

-- the same of a machine
pub record IsUnchanged (set : ProgramSet) (old new : Machine) : Type 0 where
  pub stays : state_of new ≡ state_of old
  pub kept : (spare : ℕ) → IsKeptWith set spare old → IsKeptWith set spare new

pub record NotesTerm (set : ProgramSet) (p : ℕ) (old : Machine) (term : ℕ) (new : Machine) : Type 0 where
  pub may : enabled set (state_of old).state p ≡ true
  pub does : (terms : List ℕ) → noting_step set (noted_at (state_of old) terms) p ≡ Some (noted_at (state_of new) (terms ++ term ∷ []))
  pub kept : (spare : ℕ) → IsKeptWith set spare old → IsKeptWith set spare new

abbrev pub IsLookOf : ProgramSet → ℕ → Machine → Look → Machine → Type 0
IsLookOf set p old Other new = IsUnchanged set old new
IsLookOf set p old (Noted term) new = NotesTerm set p old term new
IsLookOf set p old TooMany new = Unit {0}
