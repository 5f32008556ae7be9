use Rattle.std.proofs.Common.{◌≡◌, ◌-◌, Some, take, drop, map}
use Rattle.raw_text.specs.Text.{text_lines}
use Rattle.raw_report.specs.History.{entries_of}
use Rattle.raw_report.proofs.history.read_history.Given as goal

abbrev pub invariant-loop-line : goal.invariant-loop-line
invariant-loop-line l =
    entries_of l.procs (take (l.line - l.from) (drop l.from (text_lines l.text))) ≡ Some (map (λ p. p.0) l.steps.items)
