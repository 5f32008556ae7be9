use Rattle.std.proofs.Common.{◌≡◌, ℕ, ◌<◌, true, get_or, []}
use Rattle.raw_asm.specs.Tokens.{tokens_of}
use Rattle.raw_switch_asm.specs.Route.{is_route}
use Rattle.raw_switch_asm.proofs.statement.are_routes.Given as goal

abbrev pub invariant-loop-place : goal.invariant-loop-place
invariant-loop-place l = (k : ℕ) → k < l.place → is_route (get_or (tokens_of l.tokens) k []) ≡ true
