use Rattle.std.proofs.Common.{◌≡◌, ℕ, suc, ◌+◌, List, [], ap, ◌∙◌, arith}
use Rattle.raw_stream.specs.Streams.{carried_after}
use Rattle.raw_rows.specs.Lengths.{counting, counted}
use Rattle.raw_lengths.proofs.counters.counted_on.Goals as goal

pub loop-r-preserved : goal.loop-r-preserved
loop-r-preserved c = λ s before e.
    let next : suc (before + c.loop-r._r) ≡ before + (c.loop-r._r + 1) = omega arith in
    c.in_ok-now.ensures s
    ∙ ap (λ (xs : List ℕ). carried_after (counting s c.args.counters.now) xs []) (c.deref.ensures.value ∙ c.loop-r.invariant s before e)
    ∙ ap (counted s c.args.counters.now) next
