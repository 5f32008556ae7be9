use Rattle.std.proofs.Common.{◌≡◌, ◌<◌, ◌≤◌, List, length, get_or, subst, ap, ◌∙◌}
use Rattle.raw_model.specs.declared.program.Show.{Show}
use Rattle.raw_model.specs.Program.{ProgramSet}
use Rattle.raw_report.specs.Report.{show_lines, show_lines_of}
use Rattle.raw_state_text.proofs.Sections.{same_text, failed_listed, more_listed, all_listed}
use Rattle.raw_report.proofs.machine.put_shows.Given.{Over}
use Rattle.raw_report.proofs.machine.put_shows.Goals as goal
use Rattle.raw_report.proofs.machine.put_shows.Goals.{After-deref-show-items}

-- the list is that of the set
are : (g : Over) (c : After-deref-show-items g) → c.deref-show-items.result.now ≡ c.args.m.now.set.shows
are g c = c.deref-show-items.ensures.value ∙ ap (λ (set : ProgramSet). set.shows) (c.set.view_is ∙ c.set-set.ensures.value)

pub returns-in_err-put_show : goal.returns-in_err-put_show
unfolding show_lines
returns-in_err-put_show g c =
    let m = c.args.m.now in
    let i = c.loop-show.show-index in
    let shows_is = are g (goal.at.returns-in_err-put_show g c).After-deref-show-items in
    failed_listed _ m.set.shows _ c.loop-show.invariant (subst (λ xs. i < length xs) shows_is c.loop-show-test.true)
    (same_text _ _ _ _ _ (ap (λ (xs : List Show). show_lines_of m.set m.state (get_or xs i _)) shows_is) c.in_err-put_show.ensures) c.from_residual.ensures.0

pub loop-show-preserved : goal.loop-show-preserved
loop-show-preserved g c =
    let m = c.args.m.now in
    let i = c.loop-show.show-index in
    let shows_is = are g (goal.at.loop-show-preserved g c).After-deref-show-items in
    more_listed _ m.set.shows _ c.loop-show.invariant (subst (λ xs. i < length xs) shows_is c.loop-show-test.true)
    (same_text _ _ _ _ _ (ap (λ (xs : List Show). show_lines_of m.set m.state (get_or xs i _)) shows_is) c.in_ok-put_show.ensures)

pub returns : goal.returns
unfolding show_lines
returns g c =
    all_listed _ c.args.m.now.set.shows c.loop-show.invariant
    (subst (λ xs. length xs ≤ c.loop-show.show-index) (are g (goal.at.returns g c).After-deref-show-items) c.loop-show-test.false)
