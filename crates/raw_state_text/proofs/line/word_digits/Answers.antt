use Rattle.std.proofs.Common.{◌≡◌, ◌∙◌, ◌*◌, Result, Ok, Err, IsOk, OnOk, length, sym, ap}
use Rattle.std.specs.Int.{w32, to_be_bytes}
use Rattle.hex.specs.Hex.{encode_lower}
use Rattle.raw_model.specs.Texts.{word_text}
use Rattle.raw_state_text.proofs.line.word_digits.Goals as goal

of_ok : {T E : Type 0} (P : Type 0) (r : Result T E) → IsOk r → OnOk r P → P
of_ok P (Ok x) ok on = on
of_ok P (Err e) ok on = absurd (cc ok)

pub returns : goal.returns
unfolding word_text
returns c =
    let same : c.as_slice.result.now ≡ to_be_bytes w32 c.args.word = c.as_slice.ensures ∙ c.to_be_bytes.ensures in
    of_ok _ _ (c.encode_to_slice.ensures.fits.1 (ap (λ bytes. 2 * length bytes) (sym same))) c.encode_to_slice.ensures.written ∙ ap encode_lower same
