use Rattle.std.proofs.Common.{ℕ, ◌-◌, List, inl, subst}
use Rattle.raw_model.specs.Program.{ProgramSet}
use Rattle.raw_live.specs.Lives.{Lives}
use Rattle.raw_shell.specs.Seen.{limit}
use Rattle.raw_live_run.proofs.top.feed_on.Goals as goal

pub returns : goal.returns
returns g c =
    let source = g.S.Source.sight in
    let out = g.K.Sink.sight in
    let LivesBy : List ℕ → ProgramSet → Type 0 =
    λ rest set. Lives (source c.args.source.now) (source c.feed_live-lived.new.source) (out c.args.out.now) (out c.feed_live-lived.new.out) c.in-Ok.intake rest (limit - c.args.begun.given) set c.feed_live-lived.result in
    inl (record {
      intake = c.in-Ok.intake;
      intake_is = c.in-Ok.ensures.intake;
      line = c.in-Ok.ensures.line;
      lived = c.feed_live-lived.result;
      lives = subst (λ set. LivesBy c.args.begun.rest.items set) c.in-Ok-open.ensures.0 (subst (λ rest. LivesBy rest c.in-Ok-open.engine.set) c.deref.ensures.value c.feed_live-lived.ensures);
      answer_is = c.answer_of.ensures;
    })
