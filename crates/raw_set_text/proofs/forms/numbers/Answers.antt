use Rattle.std.proofs.Common.{◌≡◌, ◌∙◌, ◌<◌, Some, length, get_or, [], sym, arith}
use Rattle.raw_text.specs.Number.{number_of}
use Rattle.raw_asm.specs.Tokens.{tokens_of}
use Rattle.raw_set_text.proofs.Reading.Numbers.{all_numbers_next, numbers_next}
use Rattle.raw_set_text.proofs.forms.numbers.Goals as goal

pub loop-place-preserved : goal.loop-place-preserved
loop-place-preserved c =
    let tokens = tokens_of c.args.tokens.now in
    let place = c.loop-place.place in
    let within : place < length tokens = omega arith in
    let number : number_of (get_or tokens place []) ≡ Some c.in-Some.n = rw c.at.ensures at (sym c.number.ensures ∙ c.in-Some.is) in
    record {
      numbers = all_numbers_next tokens place c.in-Some.n within number c.loop-place.invariant.numbers;
      read = c.in_ok-push-in-Some.ensures.items ∙ rw c.loop-place.invariant.read (sym (numbers_next tokens place c.in-Some.n within number));
    }
