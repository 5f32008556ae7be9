use Rattle.std.specs.Prelude.{length}
use Rattle.raw_answer.proofs.Places.{one_answer}
use Rattle.raw_plan_text.specs.Plans.{IsPlan}
use Rattle.raw_plan_text.specs.Meaning.{entries_of, place_fault, plan_of}
use Rattle.raw_plan_text.proofs.Valid.{faultless_valid}
use Rattle.raw_plan_text.proofs.laws.law_one_answer.Goals as goal

pub returns : goal.returns
returns c lines = one_answer (place_fault lines) (length lines) 0 (plan_of (entries_of lines)) IsPlan (faultless_valid lines)
