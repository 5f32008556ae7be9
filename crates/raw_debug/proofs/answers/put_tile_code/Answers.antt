use Rattle.std.proofs.Common.{◌≡◌, ℕ, ◌+◌, ◌-◌, ◌<◌, List, length, Some, sym, ap, subst, ◌∙◌, arith}
use Rattle.std.specs.Prelude.{slice_get}
use Rattle.std.proofs.lemmas.Option.{slice_get-get_or}
use Rattle.raw_state_text.proofs.Sections.{Numbered, same_text, failed_numbered, more_numbered, all_numbered}
use Rattle.raw_debug.specs.Answers.{tile_text, code_line}
use Rattle.raw_debug.proofs.answers.put_tile_code.Given.{Over}
use Rattle.raw_debug.proofs.answers.put_tile_code.Goals as goal
use Rattle.raw_debug.proofs.answers.put_tile_code.Goals.{After-tile_code_line}

-- the line of place low + k
abbrev text : (g : Over) (c : After-tile_code_line g) → ℕ → List ℕ
text g c k = code_line c.args.pc (c.args.low + k) (tile_text (c.args.low + k) (slice_get c.args.code.now (c.args.low + k)))

line : (g : Over) (c : After-tile_code_line g) → c.tile_code_line.result ≡ text g c (c.loop-place.place - c.args.low)
line g c =
    let code = c.args.code.now in
    let place = c.loop-place.place in
    let within : place < length code = omega (arith, c.loop-place-test.true, c.loop-place.auto.place-end, c.requires.high) in
    let there : Some c.index-code-place.result ≡ slice_get code place = ap Some c.index-code-place.is ∙ sym (slice_get-get_or code place c.index-code-place.result within) in
    let e : place ≡ c.args.low + (place - c.args.low) = omega (arith, c.loop-place.auto.place) in
    c.tile_code_line.ensures ∙ ap (λ o. code_line c.args.pc place (tile_text place o)) there ∙ ap (λ n. code_line c.args.pc n (tile_text n (slice_get code n))) e

pub returns-in_err-put_line : goal.returns-in_err-put_line
returns-in_err-put_line g c =
    failed_numbered _ (c.args.high - c.args.low) _ c.loop-place.invariant (omega (arith, c.loop-place-test.true, c.loop-place.auto.place, c.loop-place.auto.place-end))
    (same_text _ _ _ _ _ (line g (goal.at.returns-in_err-put_line g c).After-tile_code_line) c.in_err-put_line.ensures) c.from_residual.ensures.0

pub loop-place-preserved : goal.loop-place-preserved
loop-place-preserved g c =
    let at = (goal.at.loop-place-preserved g c).After-tile_code_line in
    let next : c.loop-place.place - c.args.low + 1 ≡ c.loop-place.place + 1 - c.args.low = omega (arith, c.loop-place.auto.place) in
    subst (Numbered (g.K.Sink.sight c.args.out.now) (g.K.Sink.sight c.put_line.new.out) (text g at) (c.args.high - c.args.low)) next
    (more_numbered (text g at) (c.args.high - c.args.low) _ c.loop-place.invariant (omega (arith, c.loop-place-test.true, c.loop-place.auto.place, c.loop-place.auto.place-end))
    (same_text _ _ _ _ _ (line g at) c.in_ok-put_line.ensures))

pub returns : goal.returns
returns g c = all_numbered _ (c.args.high - c.args.low) _ c.loop-place.invariant (omega (arith, c.loop-place-test.false, c.loop-place.auto.place))
