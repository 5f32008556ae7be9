use Rattle.raw_outcome.proofs.asked.AskedWaits.count.Goals as goal

pub returns-clause-within : goal.returns-clause-within
returns-clause-within c = λ p q waits.
    let m = c.args.self.now.machine.now in
    (c.law_waits.ensures.other m.set m.state p q c.set-set.ensures.valid waits).1
