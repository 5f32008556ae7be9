use Rattle.std.proofs.Common.{sym, ap, ◌∙◌}
use Rattle.std.specs.Prelude.{slice_get}
use Rattle.raw_model.specs.Waits.{waits_for}
use Rattle.raw_model.specs.Outcomes.{is_unhalted}
use Rattle.raw_model.specs.Rest.{is_trapped, is_at_limit}
use Rattle.raw_outcome.specs.declared.ends.Outcome.TheVariants as answer
use Rattle.raw_outcome.specs.Told.{told}
use Rattle.raw_report.specs.Lines.{limit_line}
use Rattle.raw_report.specs.Report.{outcome_lines}
use Rattle.raw_state_text.proofs.Sections.{same_text}
use Rattle.raw_report.proofs.Ends.{count_is, told_says, first_there, first_trapped, cycle_there, cycle_whole}
use Rattle.raw_report.proofs.outcome.put_outcome.Goals as goal

pub returns-in-Done : goal.returns-in-Done
unfolding outcome_lines
returns-in-Done g c =
    let m = c.args.m.now in
    same_text _ _ _ _ _
    (c.done_line.ensures ∙ ap (outcome_lines m.set m.state) (ap (told (waits_for m.set m.state)) (sym c.in-Done.is) ∙ c.requires))
    c.put_line.ensures

pub put_cycle-requires : goal.put_cycle-requires
put_cycle-requires g c =
    let m = c.args.m.now in
    let valid = c.set-set.ensures.valid in
    let fits = c.set-set.ensures.fits in
    let says = told_says m.set m.state valid (answer.Deadlock c.in-Deadlock.least c.in-Deadlock.length) (ap (told (waits_for m.set m.state)) (sym c.in-Deadlock.is) ∙ c.requires) in
    record {
      there = cycle_there m.set m.state valid c.in-Deadlock.least.0 _ says;
      whole = cycle_whole m.set m.state valid c.in-Deadlock.least.0 c.in-Deadlock.length says;
    }

pub put_trapped-requires : goal.put_trapped-requires
put_trapped-requires g c =
    let m = c.args.m.now in
    let valid = c.set-set.ensures.valid in
    let fits = c.set-set.ensures.fits in
    let says = told_says m.set m.state valid (answer.Trapped c.in-Trapped.p) (ap (told (waits_for m.set m.state)) (sym c.in-Trapped.is) ∙ c.requires) in
    record {
      there = first_there m.set m.state valid is_trapped c.in-Trapped.p.0 fits says.1;
      trapped = first_trapped m.set m.state valid c.in-Trapped.p.0 says.1;
    }

pub count-requires : goal.count-requires
count-requires g c =
    let m = c.args.m.now in
    let valid = c.set-set.ensures.valid in
    let fits = c.set-set.ensures.fits in
    let says = told_says m.set m.state valid (answer.Limit c.in-Limit.p) (ap (told (waits_for m.set m.state)) (sym c.in-Limit.is) ∙ c.requires) in
    first_there m.set m.state valid (is_at_limit m.set) c.in-Limit.p.0 fits says.2

pub returns-in-Limit : goal.returns-in-Limit
unfolding outcome_lines
returns-in-Limit g c =
    let m = c.args.m.now in
    let p = c.in-Limit.p.0 in
    same_text _ _ _ _ _
    (c.limit_line.ensures
    ∙ ap (limit_line p) (count_is (slice_get m.state.locals p) c.count.result c.count.ensures.value)
    ∙ ap (outcome_lines m.set m.state) (ap (told (waits_for m.set m.state)) (sym c.in-Limit.is) ∙ c.requires))
    c.put_line-in-Limit.ensures

pub put_chain-requires : goal.put_chain-requires
put_chain-requires g c =
    let m = c.args.m.now in
    let valid = c.set-set.ensures.valid in
    let fits = c.set-set.ensures.fits in
    let says = told_says m.set m.state valid (answer.Stuck c.in-Stuck.p) (ap (told (waits_for m.set m.state)) (sym c.in-Stuck.is) ∙ c.requires) in
    first_there m.set m.state valid is_unhalted c.in-Stuck.p.0 fits says.3
