use Rattle.std.proofs.Common.{◌≡◌, ◌∙◌, codes, sym, ap, ap₂, subst}
use Rattle.raw_io.specs.Writing.{Writes}
use Rattle.raw_shell.specs.Answers.{refused_line}
use Rattle.raw_live_head.specs.Flaws.{flaw_line}
use Rattle.raw_live_head.proofs.flaw.LineFlawFlaw.put_line.Goals as goal

pub returns-in-Set : goal.returns-in-Set
returns-in-Set g c =
    let sight = g.E.Sink.sight in
    let line : refused_line (codes "refused line ") c.from.result c.word.result.now ≡ flaw_line c.args.self =
    ap₂ (refused_line (codes "refused line ")) c.from.ensures c.word.ensures ∙ ap flaw_line (sym c.in-Set.is) in
    subst (λ text. Writes (sight c.args.err.now) (sight c.put_refused.new.err) text c.put_refused.result) line c.put_refused.ensures

pub returns-in-Put : goal.returns-in-Put
returns-in-Put g c =
    let sight = g.E.Sink.sight in
    let line : refused_line (codes "refused line ") c.from-in-Put.result c.word-in-Put.result.now ≡ flaw_line c.args.self =
    ap₂ (refused_line (codes "refused line ")) c.from-in-Put.ensures c.word-in-Put.ensures ∙ ap flaw_line (sym c.in-Put.is) in
    subst (λ text. Writes (sight c.args.err.now) (sight c.put_refused-in-Put.new.err) text c.put_refused-in-Put.result) line c.put_refused-in-Put.ensures
