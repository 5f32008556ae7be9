use Rattle.std.proofs.Common.{◌≡◌, ℕ, ◌-◌, ◌<◌, false, get_or, drop}
use Rattle.raw_text.specs.Text.{text_lines}
use Rattle.raw_state_text.proofs.Sections.{Begun}
use Rattle.raw_lines.specs.LabelsOf.{places_in}
use Rattle.raw_debug.specs.Commands.{readings, readings_from}
use Rattle.raw_debug.specs.Commands.Meaning.{Blank}
use Rattle.raw_debug.specs.Script.{is_past, text_from, script_text}
use Rattle.raw_debug.proofs.Readings.{AreLeft}
use Rattle.raw_debug.proofs.debugging.follow.Given as goal

abbrev pub invariant-loop-line : goal.invariant-loop-line
invariant-loop-line g l =
    let labels = places_in l.labels in
    let set = l.fn.debugger.set in
    let lines = drop l.from (text_lines l.text) in
    record {
      same : l.debugger.set ≡ set;
      left : AreLeft labels set (text_lines l.text) l.from l.line l.debugger.spot.current;
      none : (k : ℕ) → k < l.line - l.from → is_past set (get_or (readings labels set lines) k Blank) ≡ false;
      begun : Begun (g.K.Sink.sight l.fn.out) (g.K.Sink.sight l.out) (text_from set l.debugger.spot (readings_from labels set l.debugger.spot.current (drop (l.line - l.from) lines))) (script_text labels set lines);
    }
