-- What reading a line answers, and what has been made of the lines so far.
use Rattle.std.specs.Prelude.{◌≡◌, ◌<◌, ℕ, List, [], length, Option, Some, None, Result, Ok, Err, if◌then◌else◌}
use Rattle.raw_set_text.specs.declared.kind.SetKind.{SetKind}
use Rattle.raw_set_text.specs.declared.kind.SetRefusal.{SetRefusal}
use Rattle.raw_set_text.specs.declared.kind.SetRefusal.TheVariants.{At, Memory}
use Rattle.raw_route.specs.Refusals.{has_twice}
use Rattle.raw_plan_text.specs.Plans.{HaulPlan}
use Rattle.raw_plan_text.specs.Forms.{Entry}
use Rattle.raw_plan_text.specs.Meaning.{plan_of}

-- a refusal names this fault of the line with this number; want of memory says nothing
abbrev pub Names : SetRefusal → ℕ → Option SetKind → Type 0
Names (At told kind) line fault = (told ≡ line) × (fault ≡ Some kind)
Names Memory line fault = Unit {0}

-- the answer names this fault of the line with this number, or there is none
abbrev pub Answers : {T : Type 0} → Result T SetRefusal → ℕ → Option SetKind → Type 0
Answers (Ok done) line fault = fault ≡ None
Answers (Err refusal) line fault = Names refusal line fault

-- what is made of entries: nothing of none, and else the plan that they declare
abbrev pub PlanStands : Option HaulPlan → List Entry → Type 0
PlanStands None entries = entries ≡ []
PlanStands (Some plan) entries = (0 < length entries) × (plan ≡ plan_of entries)

-- these, unless one stands twice
abbrev pub each_once : List ℕ → Option (List ℕ)
each_once tiles = if has_twice tiles then None else Some tiles
