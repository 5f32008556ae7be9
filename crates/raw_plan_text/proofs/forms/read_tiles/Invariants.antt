use Rattle.std.proofs.Common.{◌≡◌, ◌≤◌, ◌-◌, length, drop}
use Rattle.raw_asm.specs.Tokens.{tokens_of}
use Rattle.raw_plan_text.specs.Forms.{tiles_of}
use Rattle.raw_plan_text.proofs.Pairs.{and_then}
use Rattle.raw_plan_text.proofs.forms.read_tiles.Given as goal

-- the tokens from here on, and what those before have given
abbrev pub invariant-loop-place : goal.invariant-loop-place
invariant-loop-place l = record {
  within : l.place ≤ length (tokens_of l.tokens);
  read : tiles_of (tokens_of l.tokens) ≡ and_then l.tiles.items (tiles_of (drop l.place (tokens_of l.tokens)));
}

abbrev pub decreases-loop-place : goal.decreases-loop-place
decreases-loop-place l = length (tokens_of l.tokens) - l.place
