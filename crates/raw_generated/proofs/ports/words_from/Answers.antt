use Rattle.std.proofs.Common.{◌≤◌, arith}
use Rattle.raw_generated.specs.Generated.{words_from}
use Rattle.raw_generated.proofs.Numbers.{words_more, words_done}
use Rattle.raw_generated.proofs.ports.words_from.Goals as goal

pub loop-preserved : goal.loop-preserved
loop-preserved c =
    words_more c.loop.words.items c.push.new.self.items (words_from c.args.count c.args.first) c.args.count c.loop.counter c.loop.word c.next_word-word.result c.loop-test.true c.in_ok-push.ensures.items c.next_word-word.ensures c.loop.invariant

pub returns : goal.returns
returns c =
    let all : c.args.count ≤ c.loop.counter = omega (arith, c.loop-test.false) in
    words_done c.loop.words.items (words_from c.args.count c.args.first) c.args.count c.loop.counter c.loop.word all c.loop.invariant
