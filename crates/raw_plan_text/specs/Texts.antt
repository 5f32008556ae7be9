-- What the bytes of a text mean as a plan, and their least fault.
use Rattle.std.specs.Prelude.{ℕ, List}
use Rattle.raw_answer.specs.OneAnswer.{HasOneAnswer}
use Rattle.raw_answer.specs.Texts.{TextMeans, TextFault}
use Rattle.raw_set_text.specs.declared.kind.SetKind.{SetKind}
use Rattle.raw_set_text.specs.declared.kind.SetKind.TheVariants.{NotAscii, LineTooLong}
use Rattle.raw_plan_text.specs.Plans.{HaulPlan, IsPlan}
use Rattle.raw_plan_text.specs.Meaning.{IsMeaning, IsFault}

-- the bytes mean this plan: no line is faulty as a line of text, and the lines with their tokens mean the plan
abbrev pub PlanMeaning : List ℕ → HaulPlan → Type 0
PlanMeaning bytes plan = TextMeans IsMeaning bytes plan

-- the least fault of the bytes is this one, at this line, which is counted from 1
abbrev pub PlanFault : List ℕ → ℕ → SetKind → Type 0
PlanFault bytes line kind = TextFault NotAscii LineTooLong IsFault bytes line kind

-- the bytes mean exactly one plan, which is as a planner asks, or have exactly one least fault, and not both
abbrev pub IsOnePlanText : List ℕ → Type 0
IsOnePlanText bytes = HasOneAnswer (PlanMeaning bytes) (PlanFault bytes) IsPlan
