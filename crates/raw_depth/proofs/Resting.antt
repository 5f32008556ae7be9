-- A run with deeper wires ends where one does that goes on from the end of a run of the set.
use Rattle.std.proofs.Common.{◌≡◌, ℕ, ◌≤◌, Bool, true, List, ◌++◌, sym, ap, ◌∙◌, subst}
use Rattle.std.specs.Prelude.{slice_get}
use Rattle.raw_network.specs.Network.{Network}
use Rattle.raw_network.specs.Runs.{IsLawful as IsLawfulList, end_of, IsQuiet as IsQuietState}
use Rattle.raw_network.specs.Laws.{ComesToRest}
use Rattle.raw_network.proofs.Networks.{law_same_rest}
use Rattle.raw_network.proofs.Steps.{end_of-append, lawful-append}
use Rattle.raw_grid.specs.Wires.{producer_of, consumer_of}
use Rattle.raw_deeper.specs.Deeper.{with_depth, AreHeld}
use Rattle.raw_deeper.proofs.Same.{same_deeper, wired_deeper}
use Rattle.raw_deeper.proofs.Held.{law_stays_held}
use Rattle.raw_model.specs.Program.{ProgramSet, IsSet}
use Rattle.raw_model.specs.Local.{Local}
use Rattle.raw_model.specs.Machine.{machine_of}
use Rattle.raw_model.specs.Start.{MachineState, start}
use Rattle.raw_model.specs.Rest.{IsRun, end}
use Rattle.raw_model.specs.Waits.{inputs_at, outputs_at, first_wait}
use Rattle.raw_model.proofs.Finite.{some_rest}
use Rattle.raw_model.proofs.Wired.{wired}
use Rattle.raw_depth.specs.Depth.{at_depth}
use Rattle.raw_depth.proofs.Deeper.{net_same, depth_is, wait_same, run_deeper, end_deeper}

-- the network and the state in which processors may be held
abbrev pub AreHeldIn : ProgramSet → (ℕ → Bool) → MachineState → Type 0
AreHeldIn set test s = AreHeld (machine_of set) (producer_of set.topo) (consumer_of set.topo) (inputs_at set.topo) (outputs_at set.topo) test s

-- processor p of state t is as it was in state s of the set
pub record IsAsIn (set : ProgramSet) (d : ℕ) (s t : MachineState) (p : ℕ) : Type 0 where
  pub local : slice_get t.locals p ≡ slice_get s.locals p
  pub waits : first_wait (at_depth set d) t p ≡ first_wait set s p

module _ (set : ProgramSet) (d : ℕ) (valid : IsSet set) (le : set.depth ≤ d) (h g : List ℕ) (short : IsRun set h) (long : IsRun (at_depth set d) g) where
  abbrev deep : Network Local
  deep = with_depth (machine_of set) d

  record GoesOn : Type 0 where
    pub steps : List ℕ
    pub lawful : IsLawfulList deep (end set h) steps
    pub there : end (at_depth set d) g ≡ end_of deep (end set h) steps

  goes_on : GoesOn
  goes_on =
      let s = end set h in
      let rest = some_rest (at_depth set d) s in
      let k : List ℕ = rest.0 in
      let lawful : IsLawfulList deep s k = subst (λ net. IsLawfulList net s k) (net_same set d) rest.1.lawful in
      let quiet : IsQuietState deep (end_of deep s k) = subst (λ net. IsQuietState net (end_of net s k)) (net_same set d) rest.1.quiet in
      let first = same_deeper (machine_of set) d (start set) h (subst (λ n. n ≤ d) (sym (depth_is set d)) le) short.lawful in
      let joined : end_of deep (start set) (h ++ k) ≡ end_of deep s k =
      end_of-append deep (start set) h k ∙ ap (λ t. end_of deep t k) first.ends in
      let whole : ComesToRest deep (start set) (h ++ k) =
      record {
        lawful = lawful-append deep (start set) h k first.lawful (subst (λ t. IsLawfulList deep t k) (sym first.ends) lawful);
        quiet = subst (λ t. IsQuietState deep t) (sym joined) quiet;
      } in
      let same = law_same_rest deep (producer_of set.topo) (consumer_of set.topo)
      (wired_deeper (machine_of set) d (producer_of set.topo) (consumer_of set.topo) (wired set valid.topology))
      (start set) (h ++ k) g whole (run_deeper set d g long) in
      record { steps = k; lawful = lawful; there = end_deeper set d g ∙ same.ends ∙ joined }

  pub stays_as : (test : ℕ → Bool) → AreHeldIn set test (end set h) → (p : ℕ) → test p ≡ true
      → IsAsIn set d (end set h) (end (at_depth set d) g) p
  stays_as test held p on =
      let as' = law_stays_held (machine_of set) (producer_of set.topo) (consumer_of set.topo) (inputs_at set.topo) (outputs_at set.topo) (wired set valid.topology)
      test d (end set h) goes_on.steps p held goes_on.lawful on in
      record {
        local = ap (λ t. slice_get t.locals p) goes_on.there ∙ as'.local;
        waits = ap (λ t. first_wait (at_depth set d) t p) goes_on.there ∙ wait_same set d (end_of deep (end set h) goes_on.steps) p ∙ as'.waits;
      }
