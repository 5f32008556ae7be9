use Rattle.std.proofs.Common.{◌≡◌, true, false, ◌∙◌, rules}
use Rattle.std.specs.Option.{is_some}
use Rattle.raw_processor.specs.Processor.{local_of}
use Rattle.raw_refute.proofs.Miscounts.{found, passed}
use Rattle.raw_refute.proofs.seeing.first_miscount.Goals as goal

pub returns-then-is_some : goal.returns-then-is_some
returns-then-is_some c =
    let some : is_some c.miscount_of-counts.result ≡ true = search rules in
    found c.args.places.now c.args.machine.now.state.locals c.loop-p.p (local_of c.processor.result.now) c.processor.ensures.local c.miscount_of-counts.result c.miscount_of-counts.ensures some ∙ c.loop-p.invariant

pub loop-p-preserved : goal.loop-p-preserved
loop-p-preserved c =
    let none : is_some c.miscount_of-counts.result ≡ false = search rules in
    passed c.args.places.now c.args.machine.now.state.locals c.loop-p.p (local_of c.processor.result.now) c.processor.ensures.local c.miscount_of-counts.result c.miscount_of-counts.ensures none ∙ c.loop-p.invariant
