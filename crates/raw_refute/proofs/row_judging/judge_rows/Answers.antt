use Rattle.std.proofs.Common.{◌≡◌, ap, subst, ◌∙◌}
use Rattle.raw_model.specs.Program.{ProgramSet, IsSet}
use Rattle.raw_model.specs.Start.{MachineState}
use Rattle.raw_model.specs.Rest.{IsQuiet}
use Rattle.raw_serial.specs.Leading.{Leads}
use Rattle.raw_serial.specs.Running.{Running}
use Rattle.raw_refute.specs.RowJudged.{IsRowsFaultOf}
use Rattle.raw_refute.proofs.RowJudged.{rows_judged}
use Rattle.raw_refute.proofs.row_judging.judge_rows.Goals as goal

pub returns-clause-judged : goal.returns-clause-judged
returns-clause-judged c =
    let m : Running = c.run.new.self in
    let set : ProgramSet = c.args.set.now in
    let fresh : c.in_ok-machine.machine.set ≡ set = c.in_ok-machine.ensures.set in
    let same : m.set ≡ set = c.run.ensures.set ∙ fresh in
    let valid : IsSet set = subst IsSet (ap (λ (r : Running). r.set) c.machine.view_is ∙ same) c.machine.invariant.valid in
    let fault : IsRowsFaultOf set c.args.stream.now c.args.order.now c.args.words.now m.state c.in_ok-fault.fault =
    subst (λ (g : ProgramSet). IsRowsFaultOf g c.args.stream.now c.args.order.now c.args.words.now m.state c.in_ok-fault.fault) same c.in_ok-fault.ensures in
    rows_judged set c.args.stream.now c.args.order.now c.args.words.now m.state fault.how c.in_ok-fault.fault
    (record {
      valid = valid;
      quiet = subst (λ (g : ProgramSet). IsQuiet g m.state) same c.run.ensures.quiet;
      tells = fault.tells;
      leads = subst (λ (s : MachineState). Leads set s m.state) c.in_ok-machine.ensures.state
          (subst (λ (g : ProgramSet). Leads g c.in_ok-machine.machine.state m.state) fresh c.run.ensures.led);
    })
    fault.is
