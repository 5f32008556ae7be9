use Rattle.std.proofs.Common.{◌∙◌, [], ◌++◌, ap, sym, subst, arith, map}
use Rattle.std.proofs.lemmas.List.{take_all}
use Rattle.std.specs.Prelude.{codes}
use Rattle.std.specs.List.{flat_map}
use Rattle.std.specs.Io.KnownBytes.{Appends}
use Rattle.std.proofs.KnownBytes.{Appends-nil}
use Rattle.raw_io.specs.Writing.{AppendsProperFront}
use Rattle.raw_io.proofs.Chains.{AppendsProperFront-after}
use Rattle.raw_report.specs.History.{history_text}
use Rattle.raw_report.proofs.Pieces.{line_of_step, history_text_of, begins_so, begins}
use Rattle.raw_report.proofs.history.write_history.Goals as goal

pub returns-in_err-put_all : goal.returns-in_err-put_all
returns-in_err-put_all g c =
    let front : AppendsProperFront (g.K.Sink.sight c.args.out.now).bytes (g.K.Sink.sight c.put_all.new.sink).bytes (history_text (map (λ p. p.0) c.args.steps.now)) =
    AppendsProperFront-after _ _ _ [] (codes "history\n") _ (Appends-nil _) c.in_err-put_all.ensures.front (begins_so c.args.steps.now) in
    grind arith

pub returns-in_err-put_all-2 : goal.returns-in_err-put_all-2
returns-in_err-put_all-2 g c =
    let line = c.as_bytes.ensures ∙ c.step_line.ensures in
    let written = subst (λ text. AppendsProperFront (g.K.Sink.sight c.loop-step.out).bytes (g.K.Sink.sight c.put_all-in-loop-step.new.sink).bytes text) line c.in_err-put_all-2.ensures.front in
    let front : AppendsProperFront (g.K.Sink.sight c.args.out.now).bytes (g.K.Sink.sight c.put_all-in-loop-step.new.sink).bytes (history_text (map (λ p. p.0) c.args.steps.now)) =
    AppendsProperFront-after _ _ _ _ _ _ c.loop-step.invariant.appended written (begins c.args.steps.now c.loop-step.step-index _ c.loop-step-test.true) in
    grind arith

pub returns : goal.returns
returns g c = record {
  ok = subst (λ text. Appends (g.K.Sink.sight c.args.out.now).bytes (g.K.Sink.sight c.loop-step.out).bytes text)
      (ap (λ steps. codes "history\n" ++ flat_map line_of_step steps) (take_all c.loop-step.step-index c.args.steps.now c.loop-step-test.false) ∙ sym (history_text_of c.args.steps.now))
      c.loop-step.invariant.appended;
  front = tt;
  fault = tt;
  count = c.loop-step.invariant.later;
}
