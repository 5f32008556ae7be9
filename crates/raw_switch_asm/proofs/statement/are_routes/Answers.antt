use Rattle.std.proofs.Common.{◌≡◌, ◌∙◌, [], sym, ap, false, get_or, arith}
use Rattle.std.proofs.lemmas.List.Folds.{list_all_at}
use Rattle.raw_asm.specs.Tokens.{tokens_of}
use Rattle.raw_switch_asm.specs.Route.{is_route}
use Rattle.raw_switch_isa.proofs.Passing.{all_pass}
use Rattle.raw_switch_asm.proofs.statement.are_routes.Goals as goal

pub returns-then-not-is_route : goal.returns-then-not-is_route
returns-then-not-is_route c =
    let tokens = tokens_of c.args.tokens.now in
    let fails : is_route (get_or tokens c.loop-place.place []) ≡ false = ap is_route (sym c.at.ensures) ∙ sym c.is_route.ensures ∙ c.if-not-is_route.true in
    sym (list_all_at is_route tokens c.loop-place.place [] (omega arith) fails)

pub returns : goal.returns
returns c = sym (all_pass is_route (tokens_of c.args.tokens.now) [] (λ k lt. c.loop-place.invariant k (omega (arith, c.len-place-end.ensures))))
