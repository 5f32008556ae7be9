use Rattle.std.proofs.Common.{◌≡◌, ◌∙◌, ◌<◌, ◌-◌, Some, Err, [], ◌∷◌, drop, map, inl, ap, sym, arith, append-nil, length}
use Rattle.std.specs.Option.{option_map}
use Rattle.std.proofs.lemmas.List.{map-append}
use Rattle.raw_text.specs.Text.{text_lines}
use Rattle.raw_report.specs.declared.history.HistoryRefusal.TheVariants.{BadEntry}
use Rattle.raw_report.specs.History.{IsBadEntry}
use Rattle.raw_report.proofs.Bad.{no_step_bad, one_bad}
use Rattle.raw_report.proofs.Places.{bad_here, none_here, some_here, at_end}
use Rattle.raw_report.proofs.history.read_history.Goals as goal
use Rattle.raw_report.proofs.history.read_history.Goals.{then-tokens_in-gt0+in-Some+in_ok-push-in-Some, else-tokens_in-gt0}

bad : (c : goal.After-drop-steps-in-None) → IsBadEntry c.args.procs (drop c.args.from (text_lines c.args.text.now)) (c.loop-line.line - c.args.from)
bad c =
    let lines = text_lines c.args.text.now in
    bad_here c.args.procs c.args.from c.loop-line.line lines (map (λ p. p.0) c.loop-line.steps.items) c.loop-line.auto.line
    (omega (arith, c.loop-line-test.true, c.line_count-line-end.ensures.count)) c.loop-line.invariant
    (omega (arith, c.if-tokens_in-gt0.true, c.tokens_in.ensures))
    (sym c.entry_at.ensures ∙ ap (option_map (λ p. p.0)) c.in-None.is)

pub returns-in-None-clause-cause : goal.returns-in-None-clause-cause
returns-in-None-clause-cause c = (c.loop-line.line - c.args.from, bad c, omega (arith, c.loop-line.auto.line))

pub returns-in-None-clause-good : goal.returns-in-None-clause-good
returns-in-None-clause-good c = λ steps is. absurd (no_step_bad _ _ steps is _ (bad c))

pub returns-in-None-clause-bad : goal.returns-in-None-clause-bad
returns-in-None-clause-bad c = λ k other.
    let same : c.loop-line.line - c.args.from ≡ k = one_bad _ _ k _ (bad c) other in
    inl (ap (λ n. Err (BadEntry n)) (omega (arith, same, c.loop-line.auto.line)))

pub loop-line-preserved : goal.loop-line-preserved
loop-line-preserved c =
    let lines = text_lines c.args.text.now in
    let a = map (λ p. p.0) c.loop-line.steps.items in
    let lt : c.loop-line.line < length lines = omega (arith, c.loop-line-test.true, c.line_count-line-end.ensures.count) in
    elim c.if-tokens_in-gt0.branch [
      | then-tokens_in-gt0+in-Some+in_ok-push-in-Some w ↦
          some_here c.args.procs c.args.from c.loop-line.line lines a c.loop-line.auto.line lt c.loop-line.invariant w.in-Some.p.0
          (omega (arith, w.if-tokens_in-gt0.true, c.tokens_in.ensures)) (sym w.entry_at.ensures ∙ ap (option_map (λ p. p.0)) w.in-Some.is)
          ∙ ap Some (sym (ap (λ steps. map (λ p. p.0) steps.items) w.steps-is ∙ ap (map (λ p. p.0)) w.in_ok-push-in-Some.ensures.items ∙ map-append (λ p. p.0) c.loop-line.steps.items (w.in-Some.p ∷ [])))
      | else-tokens_in-gt0 w ↦
          none_here c.args.procs c.args.from c.loop-line.line lines a c.loop-line.auto.line lt c.loop-line.invariant (omega (arith, w.if-tokens_in-gt0.false, c.tokens_in.ensures))
          ∙ ap Some (append-nil a ∙ sym (ap (λ steps. map (λ p. p.0) steps.items) w.steps-is))
    ]

pub returns-clause-bad : goal.returns-clause-bad
returns-clause-bad c = λ k bad.
    absurd
    (no_step_bad _ _ (map (λ p. p.0) c.loop-line.steps.items)
    (at_end c.args.procs c.args.from c.loop-line.line (text_lines c.args.text.now) (map (λ p. p.0) c.loop-line.steps.items) c.loop-line.auto.line
    (omega (arith, c.loop-line-test.false, c.line_count-line-end.ensures.count)) c.loop-line.invariant)
    k bad)
