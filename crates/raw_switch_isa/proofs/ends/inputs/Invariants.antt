use Rattle.std.proofs.Common.{◌≡◌, ℕ, ◌||◌, drop}
use Rattle.std.specs.List.{list_any}
use Rattle.raw_switch_isa.specs.Ends.{ends, has_end, is_from_input, route_source, is_used_input}
use Rattle.raw_switch_isa.proofs.ends.inputs.Given as goal

-- the word so far and the outputs to come name the inputs that are used
abbrev pub invariant-loop-output : goal.invariant-loop-output
invariant-loop-output l = (end : ℕ) → (has_end l.word end || list_any (λ output. is_from_input end (route_source l.ins output)) (drop l.output ends)) ≡ is_used_input l.ins end
