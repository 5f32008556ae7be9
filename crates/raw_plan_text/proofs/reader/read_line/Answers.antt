use Rattle.std.proofs.Common.{◌++◌, [], sym, ap, subst, ◌∙◌, arith}
use Rattle.std.specs.List.{cons_option}
use Rattle.std.proofs.lemmas.List.{append-nil}
use Rattle.raw_asm.specs.Tokens.{tokens_of}
use Rattle.raw_plan_text.specs.Answers.{PlanStands}
use Rattle.raw_plan_text.proofs.Steps.{blank_line, blank_entry}
use Rattle.raw_plan_text.proofs.reader.read_line.Goals as goal

pub returns-then-len-eq0-clause-fault : goal.returns-then-len-eq0-clause-fault
returns-then-len-eq0-clause-fault c entries stands = blank_line entries (tokens_of c.args.line.now) (omega arith)

pub returns-then-len-eq0-clause-stands : goal.returns-then-len-eq0-clause-stands
returns-then-len-eq0-clause-stands c entries stands =
    let same = ap (λ o. entries ++ cons_option o []) (blank_entry (tokens_of c.args.line.now) (omega arith)) ∙ append-nil entries in subst (PlanStands c.args.plan) (sym same) stands
