use Rattle.std.proofs.Common.{◌≡◌, List, Err, rules, sym, ap, subst, arith}
use Rattle.raw_model.specs.Program.{IsDataWord}
use Rattle.raw_term.specs.declared.refusal.TermRefusal.TheVariants.{TooMany}
use Rattle.raw_term.specs.Terms.{Overflows}
use Rattle.raw_term.specs.TermMachine.{TermMemory, with_cells}
use Rattle.raw_model.proofs.Fed.{all_at}
use Rattle.raw_term.proofs.Start.{whole}
use Rattle.raw_prove.proofs.Starting.{quarter, zeros_are, zeros_many, cells_over, cells_then}
use Rattle.raw_prove.proofs.opening.open_memory.Goals as goal

pub loop-i-init : goal.loop-i-init
loop-i-init c = (
  ap (λ (ws : List _). with_cells (record { nodes = c.args.table.now; memory = ws }) c.args.cells.now) (sym (zeros_are 16384 c.in_ok-memory.memory.items quarter c.in_ok-memory.ensures)),
  zeros_many 16384 c.in_ok-memory.memory.items c.in_ok-memory.ensures,
)

pub returns-in_err-number-clause-too_many : goal.returns-in_err-number-clause-too_many
returns-in_err-number-clause-too_many c = λ e.
    let err : c.number_of.result ≡ Err TooMany = search (rules, e, c.from_residual-in_err-number.ensures, c.in_err-number.is, c.branch-number.ensures) in
    subst (λ (m : TermMemory). Overflows m.nodes) (sym c.loop-i.invariant.0)
    (cells_over c.loop-i.table c.loop-i.memory.items c.args.cells.now c.loop-i.i c.cell_at-cell.result c.cell_at-cell.ensures (c.number_of.ensures.too_many err))

pub index_mut-requires : goal.index_mut-requires
index_mut-requires c =
    let word : IsDataWord c.cell_at-cell.result = all_at IsDataWord c.args.cells.now c.requires c.loop-i.i c.cell_at-cell.result c.cell_at-cell.ensures in
    omega (arith, word.inside, whole, c.loop-i.invariant.1)

pub loop-i-preserved : goal.loop-i-preserved
loop-i-preserved c =
    cells_then c.args.table.now c.loop-i.table c.number_of.new.self c.loop-i.memory.items c.args.cells.now c.loop-i.i c.cell_at-cell.result c.in_ok-number.number c.cell_at-cell.ensures
    c.in_ok-number.ensures.number c.loop-i.invariant.0 c.loop-i.invariant.1
