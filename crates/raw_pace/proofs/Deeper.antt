-- Deeper wires never slow a network.
use Rattle.std.proofs.Common.{◌≡◌, ℕ, zero, suc, ◌≤◌, sym, ◌∙◌, subst, arith}
use Rattle.raw_network.specs.Network.{Network, State, count_of}
use Rattle.raw_network.specs.Runs.{IsLawful, end_of, IsQuiet}
use Rattle.raw_network.specs.Wired.{IsWired}
use Rattle.raw_network.proofs.SameRest.{same_ends, no_more_steps}
use Rattle.raw_lockstep.specs.Lockstep.{all_enabled, cycles, after_cycles, IsRound}
use Rattle.raw_lockstep.proofs.Cycling.{law_cycle_is_round, law_cycles_are_lawful, stays_ahead}
use Rattle.raw_deeper.specs.Deeper.{with_depth}
use Rattle.raw_deeper.proofs.Same.{enabled_deeper, end_same, same_deeper, wired_deeper}
use Rattle.raw_pace.specs.Pace.{DeeperIsAhead, DeeperRestsToo}

module _ {L : Type 0} (net : Network L) (producer consumer : ℕ → ℕ) (wired : IsWired net producer consumer) (d : ℕ) (le : net.depth ≤ d) where
  abbrev deep : Network L
  deep = with_depth net d

  deep_wired : IsWired deep producer consumer
  deep_wired = wired_deeper net d producer consumer wired

  -- the cycles are lawful with deeper wires, and each is a round there
  lawful : (s : State L) (k : ℕ) → IsLawful deep s (cycles net s k)
  lawful s k = (same_deeper net d s (cycles net s k) le (law_cycles_are_lawful net producer consumer wired s k)).lawful

  round : (s : State L) → IsRound deep s (all_enabled net s)
  round s =
      let is = (law_cycle_is_round net s).is_round in
      record { once = is.once; enabled = λ p some. enabled_deeper net d s p le (is.enabled p some) }

  pub ahead : (s : State L) (k p : ℕ) → count_of p (cycles net s k) ≤ count_of p (cycles deep s k)
  ahead s zero p = omega arith
  ahead s (suc k) p =
      stays_ahead deep producer consumer deep_wired s (cycles net s k) (cycles deep s k) (all_enabled net (after_cycles net s k))
      (lawful s k) (law_cycles_are_lawful deep producer consumer deep_wired s k) (ahead s k)
      (subst (λ t. IsRound deep t (all_enabled net (after_cycles net s k))) (sym (end_same net d s (cycles net s k))) (round (after_cycles net s k))) p

  pub rests : (s : State L) (k : ℕ) → IsQuiet deep (after_cycles net s k) → after_cycles deep s k ≡ after_cycles net s k
  rests s k quiet =
      let of_cycles = law_cycles_are_lawful deep producer consumer deep_wired s k in
      let quiet_there : IsQuiet deep (end_of deep s (cycles net s k)) = subst (λ t. IsQuiet deep t) (sym (end_same net d s (cycles net s k))) quiet in
      same_ends deep producer consumer deep_wired s (cycles deep s k) (cycles net s k) of_cycles (lawful s k)
      (λ p. omega (arith, no_more_steps deep producer consumer deep_wired s (cycles deep s k) (cycles net s k) of_cycles (lawful s k) quiet_there p, ahead s k p))
      ∙ end_same net d s (cycles net s k)

pub law_deeper_is_ahead : {L : Type 0} (net : Network L) (producer consumer : ℕ → ℕ) → IsWired net producer consumer → DeeperIsAhead net
law_deeper_is_ahead net producer consumer wired d s k p le = ahead net producer consumer wired d le s k p

pub law_deeper_rests_too : {L : Type 0} (net : Network L) (producer consumer : ℕ → ℕ) → IsWired net producer consumer → DeeperRestsToo net
law_deeper_rests_too net producer consumer wired d s k le quiet = rests net producer consumer wired d le s k quiet
