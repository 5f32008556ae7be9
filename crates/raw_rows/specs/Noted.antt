-- Branches on a term that is no word, taken as where it is not 0: such a term is noted.
use Rattle.std.specs.Prelude.{ℕ, zero, Option, Some, None, List, [], ◌∷◌, ◌++◌, length, slice_get, slice_set, slice_index, if◌then◌else◌}
use Rattle.raw_tile_isa.specs.declared.table.TileOp.{TileOp}
use Rattle.raw_tile_isa.specs.declared.table.TileOp.TheVariants.{Beq, Bne}
use Rattle.raw_tile_isa.specs.Instruction.{Instruction}
use Rattle.raw_tile_isa.specs.Words.{word_add, sign_extended}
use Rattle.raw_switch_isa.specs.declared.table.SwitchOp.{SwitchOp}
use Rattle.raw_switch_isa.specs.declared.table.SwitchOp.TheVariants as switch
use Rattle.raw_switch_isa.specs.Instruction.{SwitchInstruction}
use Rattle.std.specs.Option.{option_map, option_and_then}
use Rattle.raw_grid.specs.Topology.{Topology}
use Rattle.raw_model.specs.Program.{ProgramSet}
use Rattle.raw_model.specs.Machine.{tile_code, switch_code, first_operand, second_operand, given_to, switch_network_row, takes}
use Rattle.raw_model.specs.TileTable.{next_instruction}
use Rattle.raw_model.specs.SwitchTable.{next_instruction as next_switch_instruction, effect_of as switch_effect_of}
use Rattle.raw_network.specs.Network.{fronts}
use Rattle.raw_model.specs.Start.{MachineState}
use Rattle.raw_model.specs.Rest.{enabled}
use Rattle.raw_term.specs.TermMachine.{TermState, TermRow, tile_term_row, switch_term_row, after_row, term_step}
use Rattle.raw_model.specs.Local.{Local, Tile, Switch, TileLocal, SwitchLocal}
use Rattle.raw_model.specs.TileTable.{goes, following}
use Rattle.raw_model.specs.SwitchTable.{goes as switch_goes, following as switch_following}
use Rattle.raw_flow.specs.declared.node.FlowOp.TheVariants as op
use Rattle.raw_flow.specs.declared.node.Node.{Node}
use Rattle.raw_flow.specs.declared.node.Node.TheVariants.{Const}
use Rattle.raw_term.specs.Terms.{word_in, Numbered, with_node, made}
use Rattle.raw_term.specs.TermRows.{TileTerms, SwitchTerms}

-- where a branch that compares a word that is not 0 with 0 goes
abbrev pub noted_pc : TileOp → ℕ → Instruction → Option ℕ
noted_pc Bne next ins = Some (word_add next (sign_extended ins.imm))
noted_pc Beq next ins = Some next
noted_pc _ next ins = None

-- the row of a tile's branch on a term that is not 0, where the word of the other operand is 0
abbrev pub noted_tile : List Node → ℕ → TileLocal → Option ℕ → Option ℕ → Option TileTerms
noted_tile nodes size l (Some zero) (Some pc) = Some (record { nodes = nodes; effect = goes size l pc })
noted_tile nodes size l _ _ = None

abbrev pub noted_count : ℕ → SwitchLocal → SwitchInstruction → Numbered → SwitchTerms
noted_count size l ins r = record { nodes = r.nodes; next = switch_goes size l (slice_set l.regs ins.rd r.number) ins.target }

-- that of a switch's branch on a register whose term is not 0
abbrev pub noted_switch : List Node → SwitchOp → ℕ → SwitchLocal → SwitchInstruction → Option SwitchTerms
noted_switch nodes switch.Beqz size l ins = Some (record { nodes = nodes; next = switch_goes size l l.regs (switch_following l) })
noted_switch nodes switch.Bnez size l ins = Some (record { nodes = nodes; next = switch_goes size l l.regs ins.target })
noted_switch nodes switch.Bnezd size l ins =
    Some (noted_count size l ins (made (with_node nodes (Const 1)).nodes op.Sub (slice_index l.regs ins.rd) (with_node nodes (Const 1)).number))
noted_switch nodes _ size l ins = None

-- a term that is noted, and the row that is done where it is not 0
pub record NotedRow : Type 0 where
  pub term : ℕ
  pub row : TermRow

abbrev pub noting : ℕ → TermRow → NotedRow
noting term row = record { term = term; row = row }

abbrev pub noted_tile_row : Topology → ℕ → List Node → ℕ → TileLocal → List ℕ → Option Instruction → Option NotedRow
noted_tile_row topo p nodes size l values None = None
noted_tile_row topo p nodes size l values (Some ins) =
    option_map (λ (t : TileTerms). noting (first_operand (Some ins) l.regs values) (tile_term_row topo p t))
    (noted_tile nodes size l (word_in nodes (second_operand (Some ins) l.regs values)) (noted_pc ins.op (following l) ins))

abbrev pub noted_switch_row : Topology → ℕ → List Node → ℕ → SwitchLocal → List ℕ → Option SwitchInstruction → Option NotedRow
noted_switch_row topo p nodes size l values None = None
noted_switch_row topo p nodes size l values (Some ins) =
    option_map
    (λ (t : SwitchTerms). noting (slice_index l.regs ins.rd) (switch_term_row (switch_network_row topo p (switch_effect_of (Some ins) size l (given_to topo p (Some ins) values))) t))
    (noted_switch nodes ins.op size l ins)

-- the row of a processor that branches on a term, and that term
abbrev pub noted_row : ProgramSet → List Node → ℕ → Local → List ℕ → Option NotedRow
noted_row set nodes p (Tile l) values = noted_tile_row set.topo p nodes (length (tile_code set p)) l values (next_instruction (tile_code set p) l)
noted_row set nodes p (Switch l) values = noted_switch_row set.topo p nodes (length (switch_code set p)) l values (next_switch_instruction (switch_code set p) l)
noted_row set nodes p _ values = None

-- a state with terms, and the terms that were noted on the way to it
pub record NotedState : Type 0 where
  pub at : TermState
  pub terms : List ℕ

abbrev pub noted_at : TermState → List ℕ → NotedState
noted_at s terms = record { at = s; terms = terms }

abbrev pub after_noted : MachineState → ℕ → List ℕ → List ℕ → NotedRow → NotedState
after_noted s p from terms n = noted_at (after_row s p from n.row) (terms ++ n.term ∷ [])

abbrev pub noted_step_from : ProgramSet → NotedState → ℕ → Option Local → Option NotedState
noted_step_from set n p None = None
noted_step_from set n p (Some l) =
    option_map (after_noted n.at.state p (takes set p l) n.terms) (noted_row set n.at.nodes p l (fronts (takes set p l) n.at.state.wires))

-- the state after a branch of processor p on a term, which is noted behind the others
abbrev pub noted_step : ProgramSet → NotedState → ℕ → Option NotedState
noted_step set n p = noted_step_from set n p (slice_get n.at.state.locals p)

abbrev pub step_or_noted : List ℕ → Option TermState → Option NotedState → Option NotedState
step_or_noted terms (Some s) noted = Some (noted_at s terms)
step_or_noted terms None noted = noted

-- the state after a step of processor p, which is enabled: where it hangs on a branch, the term of that is noted
abbrev pub noting_step : ProgramSet → NotedState → ℕ → Option NotedState
noting_step set n p = step_or_noted n.terms (term_step set n.at p) (noted_step set n p)

-- the state after these steps; None where one of them is not enabled, or hangs on anything else
abbrev pub along_noting : ProgramSet → NotedState → List ℕ → Option NotedState
along_noting set n [] = Some n
along_noting set n (p ∷ ps) = if enabled set n.at.state p then option_and_then (λ (k : NotedState). along_noting set k ps) (noting_step set n p) else None
