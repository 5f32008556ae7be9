use Rattle.std.proofs.Common.{sym, ap, ◌∙◌}
use Rattle.raw_clock_text.specs.Lines.{port_line_of}
use Rattle.raw_clock_text.proofs.lines.port_line.Goals as goal

pub returns-in-Source : goal.returns-in-Source
returns-in-Source c = c.source_line.ensures ∙ sym (ap (λ kind. port_line_of kind c.args.place c.args.spent) c.in-Source.is)

pub returns-in-Sink : goal.returns-in-Sink
returns-in-Sink c = c.sink_line.ensures ∙ sym (ap (λ kind. port_line_of kind c.args.place c.args.spent) c.in-Sink.is)
