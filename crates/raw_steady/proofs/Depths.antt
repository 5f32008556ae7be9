-- Deeper wires never slow a set.
use Rattle.std.proofs.Common.{◌≡◌, ℕ, ◌<◌, ◌≤◌, length, sym, ap, ap₂, ◌∙◌, subst, ⊎_elim, arith}
use Rattle.std.proofs.lemmas.Bool.{cases_lt, false≢true}
use Rattle.raw_network.specs.Network.{count_of}
use Rattle.raw_network.specs.Runs.{IsQuiet}
use Rattle.raw_grid.specs.Topology.{proc_count}
use Rattle.raw_grid.specs.Wires.{producer_of, consumer_of}
use Rattle.raw_model.specs.Program.{ProgramSet, IsSet}
use Rattle.raw_lockstep.specs.Lockstep.{cycles, after_cycles}
use Rattle.raw_lockstep.proofs.Cycling.{past_not_enabled}
use Rattle.raw_lockstep.specs.Stalls.{with_stalls, unpaid}
use Rattle.raw_deeper.specs.Deeper.{with_depth}
use Rattle.raw_pace.proofs.Deeper.{law_deeper_is_ahead, law_deeper_rests_too}
use Rattle.raw_depth.specs.Depth.{at_depth}
use Rattle.raw_depth.proofs.Deeper.{net_same, start_same, depth_is}
use Rattle.raw_clock.specs.Clock.{cost_of, clocked, first_clock, clock_turns, clock, IsOver, GoesOn, HasCycles}
use Rattle.raw_clock.proofs.Clocking.{clock_wired, clock_length}
use Rattle.raw_clock.proofs.Turning.{goes_is}

module _ (set : ProgramSet) (d : ℕ) (valid : IsSet set) (le : set.depth ≤ d) where
  pub net : clocked (at_depth set d) ≡ with_depth (clocked set) d
  net = ap (λ net. with_stalls net (cost_of set)) (net_same set d)

  begin : first_clock (at_depth set d) ≡ first_clock set
  begin = ap unpaid (start_same set d)

  depth : (clocked set).depth ≤ d
  depth = subst (λ n. n ≤ d) (sym (depth_is set d)) le

  turns : (k : ℕ) → clock_turns (at_depth set d) k ≡ cycles (with_depth (clocked set) d) (first_clock set) k
  turns k = ap₂ (λ net s. cycles net s k) net begin

  ends : (k : ℕ) → clock (at_depth set d) k ≡ after_cycles (with_depth (clocked set) d) (first_clock set) k
  ends k = ap₂ (λ net s. after_cycles net s k) net begin

  pub ahead : (k p : ℕ) → count_of p (clock_turns set k) ≤ count_of p (clock_turns (at_depth set d) k)
  ahead k p =
      subst (λ xs. count_of p (clock_turns set k) ≤ count_of p xs) (sym (turns k))
      (law_deeper_is_ahead (clocked set) (producer_of set.topo) (consumer_of set.topo) (clock_wired set valid) d (first_clock set) k p depth)

  quiet_so : (n : ℕ) → IsOver (at_depth set d) (clock set n) → IsQuiet (clocked (at_depth set d)) (clock set n)
  quiet_so n over p =
      let many = clock_length set valid (clock_turns set n) in
      ⊎_elim
      (λ (there : p < length (clock set n).locals).
      let below : p < proc_count set.topo = omega (arith, many, there) in
      sym (goes_is (at_depth set d) (clock set n) p there) ∙ over p below)
      (λ (past : length (clock set n).locals ≤ p). past_not_enabled (clocked (at_depth set d)) (clock set n) p past)
      (cases_lt p (length (clock set n).locals))

  pub no_longer : (n m : ℕ) → HasCycles set n → HasCycles (at_depth set d) m → IsOver (at_depth set d) (clock set n) → m ≤ n
  no_longer n m has has' over =
      ⊎_elim
      (λ (more : n < m).
      let quiet : IsQuiet (with_depth (clocked set) d) (clock set n) = subst (λ net. IsQuiet net (clock set n)) net (quiet_so n over) in
      let same : clock (at_depth set d) n ≡ clock set n =
      ends n ∙ law_deeper_rests_too (clocked set) (producer_of set.topo) (consumer_of set.topo) (clock_wired set valid) d (first_clock set) n depth quiet in
      let on : GoesOn (at_depth set d) (clock set n) = subst (λ c. GoesOn (at_depth set d) c) same (has'.before n more) in
      absurd (false≢true (sym (over on.p on.there) ∙ on.does)))
      (λ (less : m ≤ n). less)
      (cases_lt n m)
