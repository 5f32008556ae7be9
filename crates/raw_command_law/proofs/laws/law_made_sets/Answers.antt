use Rattle.raw_command_law.proofs.Made.{plan_runs, flow_runs, made_runs}
use Rattle.raw_command_law.proofs.laws.law_made_sets.Goals as goal

pub returns-clause-plans : goal.returns-clause-plans
returns-clause-plans c = λ input text ending.
    plan_runs c.law_one_input.ensures c.law_read_back.ensures.back c.law_read_back.ensures.short input text ending (c.law_one_plan_text.ensures input) c.law_delivers.ensures

pub returns-clause-flows : goal.returns-clause-flows
returns-clause-flows c = λ input text ending.
    flow_runs c.law_one_input.ensures c.law_read_back.ensures.back c.law_read_back.ensures.short input text ending (c.law_one_text.ensures input) c.law_flow_at.ensures

pub returns-clause-scheduled : goal.returns-clause-scheduled
returns-clause-scheduled c = λ input text ending.
    made_runs c.law_one_input.ensures c.law_read_back.ensures.back c.law_read_back.ensures.short input text ending (c.law_one_flow.ensures input) c.law_its_words.ensures
