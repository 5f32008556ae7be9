use Rattle.std.proofs.Common.{◌≡◌, Some, slice_get, length, refl, sym, subst, ◌∙◌, arith}
use Rattle.std.proofs.lemmas.Option.{slice_get_read, slice_get_within, same_Some}
use Rattle.raw_processor.specs.Processor.{IsCopy}
use Rattle.raw_serial.specs.Copied.{IsCopyAt}
use Rattle.raw_serial.proofs.Resets.{reset_more}
use Rattle.raw_serial.proofs.copying.copy_processors.Goals as goal

pub loop-p-preserved : goal.loop-p-preserved
loop-p-preserved c =
    let old = c.args.processors.now in
    let others = c.args.others.now in
    let now = c.loop-p.processors in
    let p = c.loop-p.p in
    let many = c.requires.many in
    let same = c.loop-p.auto.processors in
    let here : slice_get now p ≡ Some c.index-processors-p.result =
    slice_get_read now (length now) p c.index-processors-p.result refl (omega (arith, many, same, c.loop-p-test.true)) c.index-processors-p.is in
    let there : slice_get others p ≡ Some c.index-others-p.result =
    slice_get_read others (length others) p c.index-others-p.result refl (omega (arith, c.loop-p-test.true)) c.index-others-p.is in
    let made = subst (λ z. IsCopy z c.index-others-p.result c.copy_from.new.self) (sym c.index-processors-p.is) c.copy_from.ensures in
    reset_more (IsCopyAt old others) old now p c.index-processors-p.result c.copy_from.new.self c.loop-p.invariant here
    (λ x y was other.
    subst (λ z. IsCopy z y c.copy_from.new.self) (same_Some _ x (sym here ∙ c.loop-p.invariant.rest p (omega arith) ∙ was))
    (subst (λ z. IsCopy c.index-processors-p.result z c.copy_from.new.self) (same_Some _ y (sym there ∙ other)) made))

pub returns : goal.returns
returns c =
    record {
      each = c.loop-p.auto.processors;
      copied = λ p now here.
          let within = slice_get_within c.loop-p.processors p now here in
          c.loop-p.invariant.first p now (omega (arith, within, c.requires.many, c.loop-p.auto.processors, c.loop-p-test.false)) here;
    }
