use Rattle.std.proofs.Common.{◌≡◌, ◌∙◌, [], sym, ap, true, get_or, arith}
use Rattle.std.proofs.lemmas.List.Sums.{position_or_len_is}
use Rattle.raw_asm.specs.Tokens.{tokens_of}
use Rattle.raw_switch_asm.specs.Route.{is_route}
use Rattle.raw_switch_asm.proofs.statement.operand_count.Goals as goal

pub returns-then-is_route-clause-count : goal.returns-then-is_route-clause-count
returns-then-is_route-clause-count c =
    let tokens = tokens_of c.args.tokens.now in
    let here : is_route (get_or tokens c.loop-place.place []) ≡ true = ap is_route (sym c.at.ensures) ∙ sym c.is_route.ensures ∙ c.if-is_route.true in
    sym (position_or_len_is is_route tokens c.loop-place.place [] (omega arith) c.loop-place.invariant (λ lt. here))

pub returns-clause-count : goal.returns-clause-count
returns-clause-count c =
    let tokens = tokens_of c.args.tokens.now in
    sym (position_or_len_is is_route tokens c.len.result [] (omega arith) (λ k lt. c.loop-place.invariant k (omega arith)) (λ lt. absurd (omega arith)))
