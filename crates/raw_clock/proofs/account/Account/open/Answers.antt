use Rattle.std.proofs.Common.{arith, ◌≡◌, length, replicate, refl, ap, ◌∙◌, subst}
use Rattle.raw_grid.specs.Topology.{proc_count}
use Rattle.raw_model.specs.Program.{ProgramSet, IsSet}
use Rattle.raw_serial.specs.declared.turn.Turn.TheVariants.{Fired}
use Rattle.raw_clock.proofs.Accounting.{first_account}
use Rattle.raw_clock.proofs.account.Account.open.Goals as goal

pub returns-clause-account : goal.returns-clause-account
returns-clause-account c =
    let g = c.args.set.now in
    let turns = c.in_ok-vec.field-0 in
    let many : c.procs-procs.result ≡ proc_count g.topo = c.procs-procs.ensures.value ∙ ap (λ (s : ProgramSet). proc_count s.topo) c.set.view_is in
    let each : length turns.items ≡ proc_count g.topo = omega (arith, c.in_ok-vec.ensures.len, turns.ok.0, many) in
    first_account g (subst IsSet c.set.view_is c.set.invariant) 0 _ Fired refl each
    (c.in_ok-vec-2.ensures.items_if_clones_equal (λ y e. e) ∙ ap (λ n. replicate n 0) many) c.in_ok-open.ensures
