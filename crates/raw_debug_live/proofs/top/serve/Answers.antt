use Rattle.std.proofs.Common.{refl, ap, inl, inr}
use Rattle.raw_debug_live.proofs.Answered.{answers_of}
use Rattle.raw_debug.specs.Live.{Session}
use Rattle.raw_debug_live.proofs.top.serve.Goals as goal

pub returns-in-Err : goal.returns-in-Err
returns-in-Err g c = inl (record { failure = c.in-Err.failure; answer_is = refl; why = inl c.in-Err.ensures.stops; untouched = refl })

pub returns : goal.returns
returns g c =
    inr (record {
      between = g.S.Source.sight c.begin.new.source;
      begun = c.in-Ok.begun;
      begins = c.in-Ok.ensures.begun;
      answered = c.answer_lines-answered.result;
      answers = answers_of _ _ _ _ _ _ _ _ _ _ c.in-Ok-labels_of.ensures (ap (λ (d : Session). d.set) c.in-Ok-open.ensures) c.answer_lines-answered.ensures;
      answer_is = c.answer_of.ensures;
    })
