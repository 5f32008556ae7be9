use Rattle.std.proofs.Common.{◌+◌, ◌<◌, ◌≤◌, ◌++◌, length, ap₂, arith}
use Rattle.std.specs.Prelude.{codes, ◌==◌, if◌then◌else◌}
use Rattle.raw_state_text.proofs.Sections.{one_more, failed, all_written, same_text}
use Rattle.raw_debug.proofs.Echoing.{next_echo, no_echo}
use Rattle.raw_debug.proofs.answers.put_tokens.Goals as goal

pub returns-in_err-put_token : goal.returns-in_err-put_token
returns-in_err-put_token g c =
    let tokens = g.L.Tokens.tokens c.args.line.now in
    let k = c.loop-place.place in
    let lt : k < length tokens = omega (arith, c.loop-place-test.true, c.count-count.ensures) in
    let is = ap₂ (λ x n. x ++ (if k + 1 == n then codes "\n" else codes " ")) c.token.ensures c.count-count.ensures in
    failed _ _ _ _ _ _ _ c.loop-place.invariant (next_echo tokens k lt) _
    c.from_residual.result c.from_residual.ensures.0 (same_text _ _ _ _ _ is c.in_err-put_token.ensures)

pub loop-place-preserved : goal.loop-place-preserved
loop-place-preserved g c =
    let tokens = g.L.Tokens.tokens c.args.line.now in
    let k = c.loop-place.place in
    let lt : k < length tokens = omega (arith, c.loop-place-test.true, c.count-count.ensures) in
    let is = ap₂ (λ x n. x ++ (if k + 1 == n then codes "\n" else codes " ")) c.token.ensures c.count-count.ensures in
    one_more _ _ _ _ _ _ _ c.loop-place.invariant (next_echo tokens k lt) _
    (same_text _ _ _ _ _ is c.in_ok-put_token.ensures)

pub returns : goal.returns
returns g c =
    let tokens = g.L.Tokens.tokens c.args.line.now in
    let le : length tokens ≤ c.loop-place.place = omega (arith, c.loop-place-test.false, c.count-count.ensures) in
    all_written _ _ _ _ _ c.loop-place.invariant (no_echo tokens c.loop-place.place le)
