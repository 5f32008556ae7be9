use Rattle.raw_switch_isa.proofs.Words.{encoded}
use Rattle.raw_switch_isa.proofs.code.encode.Goals as goal

pub returns : goal.returns
returns c = rw (← c.ins.view_is) (encoded _ _ _ _ _ _ _ c.ins.invariant c.number.ensures c.from.ensures c.from-2.ensures c.from-3.ensures c.from-4.ensures c.routes_word.ensures.word)
