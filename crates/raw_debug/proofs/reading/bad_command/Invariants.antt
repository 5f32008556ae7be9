use Rattle.std.proofs.Common.{◌≡◌, ℕ, ◌-◌, ◌<◌, false, get_or, drop}
use Rattle.raw_text.specs.Text.{text_lines}
use Rattle.raw_lines.specs.LabelsOf.{places_in}
use Rattle.raw_debug.specs.Commands.{readings, is_outside}
use Rattle.raw_debug.specs.Commands.Meaning.{Blank}
use Rattle.raw_debug.proofs.Readings.{AreLeft}
use Rattle.raw_debug.proofs.reading.bad_command.Given as goal

abbrev pub invariant-loop-line : goal.invariant-loop-line
invariant-loop-line l =
    let labels = places_in l.labels in
    record {
      left : AreLeft labels l.set (text_lines l.text) l.from l.line l.current;
      none : (k : ℕ) → k < l.line - l.from → is_outside (get_or (readings labels l.set (drop l.from (text_lines l.text))) k Blank) ≡ false;
    }
