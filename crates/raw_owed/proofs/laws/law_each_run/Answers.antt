use Rattle.std.proofs.Common.{ℕ, ◌≤◌, List, arith}
use Rattle.raw_network.specs.Network.{count_of}
use Rattle.raw_model.specs.Program.{ProgramSet}
use Rattle.raw_model.specs.Start.{start}
use Rattle.raw_model.specs.Rest.{end, IsLawful, IsRun}
use Rattle.raw_model.specs.Laws.{ComesToRest}
use Rattle.raw_model.specs.Outcomes.{outcome, IsOutcome}
use Rattle.raw_owed.proofs.Stopped.{ends_stopped}
use Rattle.raw_owed.proofs.laws.law_each_run.Goals as goal

run_rests : (set : ProgramSet) (steps : List ℕ) → IsRun set steps → ComesToRest set (start set) steps
run_rests set steps run = record { lawful = run.lawful; quiet = run.quiet }

pub returns : goal.returns
returns c = λ set steps valid run.
    let law = c.law_same_rest.ensures in
    let rests : ComesToRest set (start set) steps = run_rests set steps run in
    let rest = end set steps in
    let fits = c.law_fits.ensures.end_fits set (start set) steps valid (c.law_fits.ensures.start_fits set valid) run.lawful in
    let says : IsOutcome set rest (outcome set rest) = c.law_outcome.ensures.says set rest valid in
    let often : (others : List ℕ) → IsLawful set others → (p : ℕ) → count_of p others ≤ count_of p steps =
    λ others lawful. law.at_most_as_often set (start set) steps others valid rests lawful in
    record {
      says = says;
      stops = ends_stopped set rest (outcome set rest) says (c.law_outcome.ensures.chains set rest valid fits run.quiet) fits.processors;
      alike = λ others other_run. record {
        ends = law.same_rest set (start set) steps others valid rests (run_rests set others other_run);
        reports = c.law_same_report.ensures set steps others valid run other_run;
        pictures = c.law_same_picture.ensures set steps others valid run other_run;
        passed = law.same_passed set (start set) steps others valid rests (run_rests set others other_run);
      };
      part = λ others lawful. record {
        at_most_as_often = often others lawful;
        same_locals = λ p k few. law.same_locals set (start set) steps others valid run.lawful lawful p k (omega (arith, few, often others lawful p)) few;
        same_events = λ p i few. law.same_events set (start set) steps others valid run.lawful lawful p i (omega (arith, few, often others lawful p)) few;
        prefix = law.prefix set (start set) steps others valid rests lawful;
      };
      delays = c.law_delays.ensures set;
    }
