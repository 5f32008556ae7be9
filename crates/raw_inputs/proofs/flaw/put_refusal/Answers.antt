use Rattle.std.proofs.Common.{◌≡◌, ◌∙◌, codes, sym, ap, ap₂, subst}
use Rattle.raw_io.specs.Writing.{Writes}
use Rattle.raw_shell.specs.Answers.{refused_line}
use Rattle.raw_inputs.specs.Flaws.{refusal_line}
use Rattle.raw_inputs.proofs.flaw.put_refusal.Goals as goal

pub returns-in-Line : goal.returns-in-Line
returns-in-Line g c =
    let sight = g.E.Sink.sight in
    let line : refused_line (codes "refused line ") c.from.result c.line_word.result.now ≡ refusal_line c.args.refusal =
    ap₂ (refused_line (codes "refused line ")) c.from.ensures c.line_word.ensures ∙ ap refusal_line (sym c.in-Line.is) in
    subst (λ text. Writes (sight c.args.err.now) (sight c.put_refused.new.err) text c.put_refused.result) line c.put_refused.ensures

pub returns-in-Image : goal.returns-in-Image
returns-in-Image g c =
    let sight = g.E.Sink.sight in
    let line : refused_line (codes "refused image at ") c.in-Image.offset c.word.result.now ≡ refusal_line c.args.refusal =
    ap (refused_line (codes "refused image at ") c.in-Image.offset) c.word.ensures ∙ ap refusal_line (sym c.in-Image.is) in
    subst (λ text. Writes (sight c.args.err.now) (sight c.put_refused-in-Image.new.err) text c.put_refused-in-Image.result) line c.put_refused-in-Image.ensures
