-- What the path of a set says of all its schedules.
use Rattle.std.proofs.Common.{◌≡◌, ℕ, suc, ◌≤◌, length, sym, ap, ◌∙◌, subst, arith}
use Rattle.raw_lockstep.specs.Lockstep.{IsSchedule}
use Rattle.raw_lockstep.specs.Stalls.{with_stalls, unpaid}
use Rattle.raw_deeper.specs.Deeper.{with_depth}
use Rattle.raw_deeper.proofs.Same.{wired_deeper}
use Rattle.raw_pace.specs.Path.{IsChain}
use Rattle.raw_pace.proofs.Path.{law_none_below_chain}
use Rattle.raw_pace.proofs.Waiting.{law_way_is_deep_chain}
use Rattle.raw_grid.specs.Wires.{producer_of, consumer_of}
use Rattle.raw_model.specs.Program.{ProgramSet, IsSet}
use Rattle.raw_model.specs.Waits.{inputs_at, outputs_at}
use Rattle.raw_depth.specs.Depth.{at_depth}
use Rattle.raw_depth.proofs.Deeper.{net_same, start_same, depth_is}
use Rattle.raw_clock.specs.Clock.{cost_of, clocked, first_clock, clock_turns, clock, HasCycles}
use Rattle.raw_clock.proofs.Clocking.{clock_wired, clock_length}
use Rattle.raw_clock.proofs.Turning.{goes_is}
use Rattle.raw_steady.specs.Steady.{way_back}
use Rattle.raw_steady.proofs.Longest.{each_has_longest, none_below}
use Rattle.raw_path.specs.Path.{last_of, path_of, room_in}
use Rattle.raw_path.specs.Laws.{last_turn, NotSooner, IsItsPath}
use Rattle.raw_path.proofs.Waited.{clock_covered}
use Rattle.raw_path.proofs.Ending.{IsLast, last_goes}
use Rattle.raw_path.proofs.Spreading.{spread_is, without_room}

module _ (set : ProgramSet) (valid : IsSet set) (k : ℕ) (has : HasCycles set (suc k)) where
  is_last : IsLast set k (last_of set k)
  is_last = last_goes set k (has.before k (omega arith))

  longest : IsChain (clocked set) (first_clock set) (last_turn set k) (way_back set k (last_of set k)) × (length (way_back set k (last_of set k)) ≡ k)
  longest = each_has_longest set valid k (last_of set k) is_last.there is_last.goes

  module _ (d : ℕ) (le : set.depth ≤ d) (none : room_in (path_of set (suc k)) ≡ 0) where
    net : clocked (at_depth set d) ≡ with_depth (clocked set) d
    net = ap (λ net. with_stalls net (cost_of set)) (net_same set d)

    begin : first_clock (at_depth set d) ≡ first_clock set
    begin = ap unpaid (start_same set d)

    deeper : (clocked set).depth ≤ d
    deeper = subst (λ n. n ≤ d) (sym (depth_is set d)) le

    chain : IsChain (with_depth (clocked set) d) (first_clock set) (last_turn set k) (way_back set k (last_of set k))
    chain =
        law_way_is_deep_chain (clocked set) (producer_of set.topo) (consumer_of set.topo) (inputs_at set.topo) (outputs_at set.topo) (clock_wired set valid) (clock_covered set) d (first_clock set) k
        (last_of set k) deeper (sym (goes_is set (clock set k) (last_of set k) (let many = clock_length set valid (clock_turns set k) in let there = is_last.there in omega (arith, many, there))) ∙ is_last.goes)
        (without_room set k k (last_of set k) none)

    not_sooner_deeper : NotSooner (at_depth set d) (last_turn set k) (suc k)
    not_sooner_deeper rounds j is early =
        let schedule : IsSchedule (with_depth (clocked set) d) (first_clock set) rounds =
        subst (λ s. IsSchedule (with_depth (clocked set) d) s rounds) begin (subst (λ net. IsSchedule net (first_clock (at_depth set d)) rounds) net is) in
        let least =
        law_none_below_chain (with_depth (clocked set) d) (producer_of set.topo) (consumer_of set.topo)
        (wired_deeper (clocked set) d (producer_of set.topo) (consumer_of set.topo) (clock_wired set valid)) (first_clock set) (last_turn set k) (way_back set k (last_of set k)) rounds j chain schedule early in
        omega (arith, least, longest.1)

  pub is_its_path : IsItsPath set k
  is_its_path =
      record {
        chain = longest.0;
        whole = ap suc longest.1;
        turns = spread_is set k (last_of set k);
        not_sooner =
            λ rounds j is early.
            let least = none_below set valid (last_turn set k) (way_back set k (last_of set k)) rounds j longest.0 is early in
            omega (arith, least, longest.1);
        deeper = λ none d le. not_sooner_deeper d le none;
      }
