-- The parts of a proof by rows.
use Rattle.std.proofs.Common.{◌≡◌, ℕ, List, [], length, ap, ◌∙◌, subst, arith}
use Rattle.std.specs.Prelude.{replicate}
use Rattle.raw_model.specs.Program.{ProgramSet}
use Rattle.raw_flow.specs.declared.node.Node.{Node}
use Rattle.raw_flow.specs.declared.node.Node.TheVariants.{Input, Const}
use Rattle.raw_flow.specs.Flows.{AreNodes}
use Rattle.raw_stream.specs.Streams.{Stream, first_words}
use Rattle.raw_row_terms.specs.RowTerms.{AreWordNodes}
use Rattle.raw_term.specs.TermMachine.{term_start}
use Rattle.raw_rows.specs.Kernels.{Cut, Leads, known, unknown, start_cut}
use Rattle.raw_prove.specs.declared.machine.Machine.{Machine}
use Rattle.raw_prove.specs.declared.unit.Unit.{Unit}
use Rattle.raw_prove.specs.declared.unit.Unit.TheVariants as a
use Rattle.raw_prove.specs.Units.{state_of}
use Rattle.raw_prove.specs.Opened.{IsOpened}
use Rattle.raw_cut.specs.Kept.{IsUnitWith, IsKeptWith, IsKept}
use Rattle.raw_cut.specs.Parts.{ports_with, with_ports, standing}
use Rattle.raw_cut.proofs.Starting.{start_is}

-- the words of constants are words
pub words_of_nodes : (nodes : List Node) → AreNodes nodes → AreWordNodes nodes
words_of_nodes nodes are v word e = are v (Const word) e

-- a machine with places more has places enough
unit_less : (g : ProgramSet) (p : ℕ) (x : Unit) → IsUnitWith g 1 p x → IsUnitWith g 0 p x
unit_less g p (a.Tile unit) is = is
unit_less g p (a.Switch unit) is = is
unit_less g p (a.Source unit) is = is
unit_less g p (a.Sink port) is = record { kind = is.kind; got = is.got; room = omega (arith, is.room) }

pub kept_less : (g : ProgramSet) (m : Machine) → IsKeptWith g 1 m → IsKept g m
kept_less g m is = record { valid = is.valid; each = is.each; units = λ p x e. unit_less g p x (is.units p x e); each_end = is.each_end; ends = is.ends; wires = is.wires }

-- the terms of a table are not looked at
pub kept_with_table : (g : ProgramSet) (m : Machine) (table : List Node) → IsKept g m → IsKept g (record m { table = table })
kept_with_table g m table is = record { valid = is.valid; each = is.each; units = is.units; each_end = is.each_end; ends = is.ends; wires = is.wires }

-- the start
pub start_from : (set seen : ProgramSet) (s : Stream) (limit : ℕ) (m : Machine) → seen ≡ with_ports set limit (ports_with set.topo s (length set.ports) [] 0) → IsOpened seen m
    → standing 0 (state_of m) ≡ start_cut set
start_from set seen s limit m is opened =
    ap (standing 0) opened.start ∙ ap (λ (g : ProgramSet). standing 0 (term_start g)) is ∙ start_is set s limit

-- what leads from the start
pub opens_from : (set : ProgramSet) (s : Stream) (limit : ℕ) (carried : List Node) (from : Cut) (steps : List ℕ) (r : ℕ) (to : Cut) → carried ≡ known s → from ≡ start_cut set
    → Leads set s limit carried from steps r to → Leads set s limit (known s) (start_cut set) steps r to
opens_from set s limit carried from steps r to carried_is from_is leads =
    subst (λ (c : Cut). Leads set s limit (known s) c steps r to) from_is (subst (λ (ns : List Node). Leads set s limit ns from steps r to) carried_is leads)

-- inputs for all that is carried are unknown
pub unknown_is : (s : Stream) (n : ℕ) (nodes : List Node) → nodes ≡ replicate n Input → n ≡ length (first_words s) → nodes ≡ unknown s
unknown_is s n nodes is many = is ∙ ap (λ (k : ℕ). replicate k Input) many
