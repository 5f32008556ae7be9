use Rattle.std.proofs.Common.{◌+◌, ◌++◌, ◌∷◌, [], sym, ap, ◌∙◌}
use Rattle.raw_stream.proofs.Sums.{range_push}
use Rattle.raw_stream_choice.proofs.numbered.sinks_of.Goals as goal

pub loop-sink-preserved : goal.loop-sink-preserved
loop-sink-preserved c =
    c.in_ok-push.ensures.items ∙ ap (λ numbers. numbers ++ (c.args.ports + c.loop-sink.sink) ∷ []) c.loop-sink.invariant ∙ sym (range_push c.args.ports c.loop-sink.sink)
