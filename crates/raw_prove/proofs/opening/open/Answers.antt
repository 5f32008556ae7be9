use Rattle.std.proofs.Common.{◌≡◌, ◌≤◌, [], length, Err, rules, ap, subst, ◌∙◌, arith}
use Rattle.std.specs.Prelude.{replicate}
use Rattle.raw_grid.specs.Wires.{wires_of}
use Rattle.raw_model.specs.Program.{ProgramSet}
use Rattle.raw_serial.specs.Fresh.{AreAllEnds}
use Rattle.raw_term.specs.declared.limits.TheConstants.{MAX_TERMS}
use Rattle.raw_term.specs.declared.refusal.TermRefusal.TheVariants.{TooMany}
use Rattle.raw_term.specs.TermMachine.{first_nodes}
use Rattle.raw_prove.proofs.Whole.{opened_is, first_over, tiles_over_all}
use Rattle.raw_prove.proofs.opening.open.Goals as goal

pub returns-in_err-table-clause-too_many : goal.returns-in_err-table-clause-too_many
returns-in_err-table-clause-too_many c = λ e.
    let err : c.open.result ≡ Err TooMany = search (rules, e, c.from_residual-in_err-table.ensures, c.in_err-table.is, c.branch-table.ensures) in
    first_over c.args.set.now c.word_count-words.result c.word_count-words.ensures.value (c.open.ensures.too_many err)

pub returns-in_err-units-clause-too_many : goal.returns-in_err-units-clause-too_many
returns-in_err-units-clause-too_many c = λ e.
    let err : c.open_tiles.result ≡ Err TooMany = search (rules, e, c.from_residual-in_err-units.ensures, c.in_err-units.is, c.branch-units.ensures) in
    tiles_over_all c.args.set.now c.word_count-words.result c.in_ok-table.table c.word_count-words.ensures.value c.in_ok-table.ensures.table (c.open_tiles.ensures.too_many err)

pub returns-clause-opened : goal.returns-clause-opened
returns-clause-opened c =
    let few : length c.open_tiles.new.table ≤ MAX_TERMS = omega (arith, c.len-terms.ensures.few, c.len-terms.ensures.value) in
    opened_is c.args.set.now _ c.in_ok-table.table c.in_ok-units.units.items c.open_switches.new.units.items
    (c.in_ok-table.ensures.table ∙ ap first_nodes c.word_count-words.ensures.value)
    c.in_ok-units.ensures.tiles c.in_ok-open_switches.ensures.switches c.in_ok-open_ports.ensures.ports c.in_ok-open_ports.ensures.many c.in_ok-open_ports.ensures.kept
    (subst (λ (g : ProgramSet). AreAllEnds g.topo c.in_ok-ends.ends.items) c.set.view_is c.in_ok-ends.ensures)
    (c.in_ok-wires.ensures ∙ ap (λ n. replicate n []) (c.wires.ensures.value ∙ ap (λ (g : ProgramSet). length (wires_of g.topo)) c.set.view_is))
    few
