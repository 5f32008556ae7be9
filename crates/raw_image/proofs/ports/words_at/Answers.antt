use Rattle.std.proofs.Common.{◌++◌, ◌∷◌, [], length, ap, arith, Some}
use Rattle.std.specs.Int.{w32}
use Rattle.std.proofs.lemmas.Result.{err_from_is_err_and}
use Rattle.std.proofs.lemmas.List.{length-append}
use Rattle.raw_image.specs.Fields.{said_at}
use Rattle.raw_image.specs.Reading.{words_at}
use Rattle.raw_image.proofs.Loop.{listed, goes_on, ends, one_read, one_fails}
use Rattle.raw_image.proofs.ports.words_at.Goals as goal

pub returns-in_err-word-clause-read : goal.returns-in_err-word-clause-read
returns-in_err-word-clause-read c =
    let p = err_from_is_err_and c.from_residual.result c.from_residual.ensures.1 in
    rw (p.1, p.2)
    (ends (listed (λ before. said_at w32 Some)) c.in_err-word.field-0.0 c.args.count c.loop.counter c.loop.words.items c.loop.rest.now (words_at c.args.count c.args.bytes.now) c.loop-test.true
    (one_fails c.in_err-word.field-0.0 (said_at w32 Some c.loop.rest.now) c.loop.words.items c.in_err-word.ensures) c.loop.invariant.read)

pub loop-preserved : goal.loop-preserved
loop-preserved c = record {
  read = rw c.in_ok-push.ensures.items
      (goes_on (listed (λ before. said_at w32 Some)) c.args.count c.loop.counter c.loop.words.items c.loop.rest.now (c.loop.words.items ++ c.in_ok-word.word ∷ []) c.in_ok-word.after.now (words_at c.args.count c.args.bytes.now) c.loop-test.true
      (one_read (said_at w32 Some c.loop.rest.now) c.loop.words.items c.in_ok-word.word c.in_ok-word.after.now c.in_ok-word.ensures) c.loop.invariant.read);
  size = omega (arith, ap length c.in_ok-push.ensures.items, length-append c.loop.words.items (c.in_ok-word.word ∷ []), c.loop.invariant.size);
}
