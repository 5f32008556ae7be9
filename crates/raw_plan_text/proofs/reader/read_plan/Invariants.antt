use Rattle.std.proofs.Common.{◌≡◌, take}
use Rattle.raw_text.specs.Text.{text_lines}
use Rattle.raw_answer.specs.Places.{AreFaultless}
use Rattle.raw_asm.specs.Tokens.{section_lines}
use Rattle.raw_plan_text.specs.Meaning.{entries_of, place_fault}
use Rattle.raw_plan_text.specs.Answers.{PlanStands}
use Rattle.raw_plan_text.proofs.reader.read_plan.Given as goal

-- the lines so far have no fault, and this is the plan that they declare
abbrev pub invariant-loop-place : goal.invariant-loop-place
invariant-loop-place l = record {
  same : section_lines l.lines ≡ text_lines l.text;
  faultless : AreFaultless (place_fault (text_lines l.text)) l.place;
  stands : PlanStands l.plan (entries_of (take l.place (text_lines l.text)));
}
