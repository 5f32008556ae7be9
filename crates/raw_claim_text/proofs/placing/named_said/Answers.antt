use Rattle.std.proofs.Common.{◌≡◌, ℕ, ◌≤◌, true, List, [], ◌∷◌, length, refl, arith}
use Rattle.std.specs.Option.{is_none}
use Rattle.raw_asm.specs.Names.{is_name}
use Rattle.raw_asm.specs.Tokens.{tokens_of}
use Rattle.raw_flow_text.specs.Forms.{name_at}
use Rattle.raw_claim_text.proofs.placing.named_said.Goals as goal

-- a line without a second token has no name there
short : (tokens : List (List ℕ)) → length tokens ≤ 1 → is_none (name_at tokens 1) ≡ true
unfolding name_at is_name
short [] h = refl
short (first ∷ []) h = refl
short (first ∷ second ∷ more) h = absurd (omega (arith, h))

pub returns-then-len-lt2 : goal.returns-then-len-lt2
returns-then-len-lt2 c = rw (c.if-plain.false, short (tokens_of c.args.line.now) (omega arith)) refl
