use Rattle.std.proofs.Common.{◌≡◌, ◌∙◌, codes, sym, ap, subst}
use Rattle.raw_io.specs.Writing.{Writes}
use Rattle.raw_shell.specs.Answers.{refused_line}
use Rattle.raw_inputs.specs.Flaws.{flaw_line}
use Rattle.raw_inputs.proofs.flaw.InputFlawFlaw.put_line.Goals as goal

pub returns-in-PastEnd : goal.returns-in-PastEnd
returns-in-PastEnd g c =
    let sight = g.E.Sink.sight in
    let line : refused_line (codes "refused line ") c.from.result (codes "past-end") ≡ flaw_line c.args.self =
    ap (λ n. refused_line (codes "refused line ") n (codes "past-end")) c.from.ensures ∙ ap flaw_line (sym c.in-PastEnd.is) in
    subst (λ text. Writes (sight c.args.err.now) (sight c.put_refused.new.err) text c.put_refused.result) line c.put_refused.ensures
