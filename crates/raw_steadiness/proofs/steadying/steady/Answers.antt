use Rattle.std.proofs.Common.{subst}
use Rattle.raw_prove.specs.declared.running.End.{End}
use Rattle.raw_prove.specs.Runs.{EndsAs}
use Rattle.raw_steadiness.proofs.SameTime.{steady_so}
use Rattle.raw_steadiness.proofs.steadying.steady.Goals as goal

pub returns-in_ok-cycles_of-in-Rests : goal.returns-in_ok-cycles_of-in-Rests
returns-in_ok-cycles_of-in-Rests c =
    let rests = subst (λ (end : End). EndsAs c.args.set.now end) c.in-Rests.is c.in_ok-run_terms.ensures in (
      rests,
      steady_so c.args.set.now _ c.law_words.ensures.alike c.law_words.ensures.keeps c.law_count.ensures.has
          c.cycles_of.ensures.valid rests c.in_ok-cycles_of-in-Rests.ensures.count,
    )
