use Rattle.std.proofs.Common.{◌+◌, ◌++◌, ◌∷◌, [], length, sym, ap, ◌∙◌}
use Rattle.std.specs.Int.{w64}
use Rattle.std.proofs.lemmas.Result.{err_from_is_err_and}
use Rattle.raw_image.specs.declared.kind.ImageKind.TheVariants.{BadField}
use Rattle.raw_image.specs.declared.refused.Refusal.TheVariants as refusal
use Rattle.raw_image.specs.Fields.{said_at, fault_at}
use Rattle.raw_image.specs.Reading.{wired_of, switch_at}
use Rattle.raw_image.proofs.Loop.{listed, goes_on, ends, one_read, one_fails, said_fails, said_some, said_none, length-push}
use Rattle.raw_image.proofs.programs.switch_at.Goals as goal

pub returns-in_err-word-clause-read : goal.returns-in_err-word-clause-read
returns-in_err-word-clause-read c = λ topo p wired.
    let q = err_from_is_err_and c.from_residual.result c.from_residual.ensures.1 in
    rw (q.1, q.2)
    (ends (listed (λ before. said_at w64 (wired_of topo p))) c.in_err-word.field-0.0 c.args.count c.loop.counter c.loop.code.items c.loop.rest.now (switch_at topo p c.args.count c.args.bytes.now) c.loop-test.true
    (one_fails c.in_err-word.field-0.0 (said_at w64 (wired_of topo p) c.loop.rest.now) c.loop.code.items (said_fails c.in_err-word.field-0.0 w64 (wired_of topo p) c.loop.rest.now c.in_err-word.ensures)) (c.loop.invariant.read topo p wired))

pub returns-in_default-clause-read : goal.returns-in_default-clause-read
returns-in_default-clause-read c = λ topo p wired.
    let fault = fault_at BadField c.loop.rest.now in
    let none = said_none w64 (wired_of topo p) c.loop.rest.now c.in_ok-word.word c.in_ok-word.after.now c.in_ok-word.ensures (sym (c.wired_instruction.ensures topo p wired) ∙ c.in_default.is) in
    rw c.bad_field.ensures
    (ends (listed (λ before. said_at w64 (wired_of topo p))) (refusal.At fault) c.args.count c.loop.counter c.loop.code.items c.loop.rest.now (switch_at topo p c.args.count c.args.bytes.now) c.loop-test.true
    (one_fails (refusal.At fault) (said_at w64 (wired_of topo p) c.loop.rest.now) c.loop.code.items none) (c.loop.invariant.read topo p wired))

pub loop-preserved : goal.loop-preserved
loop-preserved c = record {
  read = λ topo p wired.
      let some = said_some w64 (wired_of topo p) c.loop.rest.now c.in_ok-word.word c.in_ok-word.after.now c.in-Some.ins c.in_ok-word.ensures (sym (c.wired_instruction.ensures topo p wired) ∙ c.in-Some.is) in
      rw c.in_ok-push.ensures.items
      (goes_on (listed (λ before. said_at w64 (wired_of topo p))) c.args.count c.loop.counter c.loop.code.items c.loop.rest.now (c.loop.code.items ++ c.in-Some.ins ∷ []) c.in_ok-word.after.now (switch_at topo p c.args.count c.args.bytes.now) c.loop-test.true
      (one_read (said_at w64 (wired_of topo p) c.loop.rest.now) c.loop.code.items c.in-Some.ins c.in_ok-word.after.now some) (c.loop.invariant.read topo p wired));
  size = ap length c.in_ok-push.ensures.items ∙ length-push c.loop.code.items c.in-Some.ins ∙ ap (λ n. n + 1) c.loop.invariant.size;
}
