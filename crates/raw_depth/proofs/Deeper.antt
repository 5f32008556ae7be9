-- The machine of a set with deeper wires is the network of the set with deeper wires.
use Rattle.std.proofs.Common.{◌≡◌, ℕ, ◌≤◌, List, refl, sym, ap, ◌∙◌, subst}
use Rattle.std.specs.Prelude.{slice_get}
use Rattle.std.proofs.Math.Path.{fun_ext}
use Rattle.raw_network.specs.Network.{Network, count_of}
use Rattle.raw_network.specs.Runs.{IsLawful as IsLawfulList, end_of, events, events_of, passed, touches, IsQuiet as IsQuietState}
use Rattle.raw_network.specs.Laws.{ComesToRest}
use Rattle.raw_network.specs.Waits.{first_wait as first_wait_in}
use Rattle.raw_grid.specs.Wires.{producer_of, consumer_of}
use Rattle.raw_deeper.specs.Deeper.{with_depth}
use Rattle.raw_deeper.proofs.Same.{same_deeper, law_no_fewer}
use Rattle.raw_model.specs.Program.{ProgramSet, IsSet}
use Rattle.raw_model.specs.Local.{Local, Tile}
use Rattle.raw_model.specs.Machine.{is_stopped, takes, sends, row, machine_of}
use Rattle.raw_model.specs.Start.{MachineState, start}
use Rattle.raw_model.specs.Rest.{IsLawfulFrom, IsRun, end}
use Rattle.raw_model.specs.Waits.{inputs_at, outputs_at, first_wait}
use Rattle.raw_model.proofs.Wired.{wired}
use Rattle.raw_depth.specs.Depth.{at_depth, RunsDeeper}

module _ (set : ProgramSet) (d : ℕ) where
  stopped_same : (p : ℕ) (l : Local) → is_stopped (at_depth set d) p l ≡ is_stopped set p l
  stopped_same p (Tile l) = refl
  stopped_same p _ = refl

  takes_same : (p : ℕ) (l : Local) → takes (at_depth set d) p l ≡ takes set p l
  takes_same p (Tile l) = refl
  takes_same p _ = refl

  sends_same : (p : ℕ) (l : Local) → sends (at_depth set d) p l ≡ sends set p l
  sends_same p (Tile l) = refl
  sends_same p _ = refl

  row_same : (p : ℕ) (l : Local) (values : List ℕ) → row (at_depth set d) p l values ≡ row set p l values
  row_same p (Tile l) values = refl
  row_same p _ values = refl

  pub net_same : machine_of (at_depth set d) ≡ with_depth (machine_of set) d
  unfolding machine_of
  net_same =
      let all_stopped : is_stopped (at_depth set d) ≡ is_stopped set = fun_ext (λ p. fun_ext (stopped_same p)) in
      let all_takes : takes (at_depth set d) ≡ takes set = fun_ext (λ p. fun_ext (takes_same p)) in
      let all_sends : sends (at_depth set d) ≡ sends set = fun_ext (λ p. fun_ext (sends_same p)) in
      let all_rows : row (at_depth set d) ≡ row set = fun_ext (λ p. fun_ext (λ l. fun_ext (row_same p l))) in
      λ i. record { depth = d; is_stopped = all_stopped i; takes = all_takes i; sends = all_sends i; row = all_rows i }

  pub start_same : start (at_depth set d) ≡ start set
  unfolding start
  start_same = refl

  pub depth_is : (machine_of set).depth ≡ set.depth
  unfolding machine_of
  depth_is = refl

  pub wait_same : (s : MachineState) (p : ℕ)
      → first_wait (at_depth set d) s p ≡ first_wait_in (with_depth (machine_of set) d) (inputs_at set.topo) (outputs_at set.topo) s p
  wait_same s p = ap (λ net. first_wait_in net (inputs_at set.topo) (outputs_at set.topo) s p) net_same

  pub runs_deeper : (s : MachineState) (steps : List ℕ) → set.depth ≤ d → IsLawfulFrom set s steps → RunsDeeper set d s steps
  runs_deeper s steps le lawful =
      let did = same_deeper (machine_of set) d s steps (subst (λ n. n ≤ d) (sym depth_is) le) lawful in
      record {
        lawful = subst (λ net. IsLawfulList net s steps) (sym net_same) did.lawful;
        same_end = ap (λ net. end_of net s steps) net_same ∙ did.ends;
        same_events = λ i. ap (λ net. slice_get (events net s steps) i) net_same ∙ ap (λ es. slice_get es i) did.did;
        same_events_at = λ p. ap (λ net. events_of net s steps p) net_same ∙ did.did_by p;
        same_passed = λ wire. ap (λ net. passed net s steps wire) net_same ∙ did.passed_on wire;
        same_touches = λ tile. ap (λ net. touches net s steps tile) net_same ∙ did.touched_by tile;
      }

  -- a run at depth d is one of the network with deeper wires, from the start of the set
  abbrev Rests : Network Local → MachineState → List ℕ → Type 0
  Rests net s g = IsLawfulList net s g × IsQuietState net (end_of net s g)

  pub run_deeper : (g : List ℕ) → IsRun (at_depth set d) g → ComesToRest (with_depth (machine_of set) d) (start set) g
  run_deeper g run =
      let there : Rests (machine_of (at_depth set d)) (start set) g =
      subst (λ s. Rests (machine_of (at_depth set d)) s g) start_same (run.lawful, run.quiet) in
      let is = subst (λ net. Rests net (start set) g) net_same there in
      record { lawful = is.0; quiet = is.1 }

  pub end_deeper : (g : List ℕ) → end (at_depth set d) g ≡ end_of (with_depth (machine_of set) d) (start set) g
  end_deeper g = ap (λ s. end_of (machine_of (at_depth set d)) s g) start_same ∙ ap (λ net. end_of net (start set) g) net_same

  pub no_fewer : (h g : List ℕ) → IsSet set → set.depth ≤ d → IsRun set h → IsRun (at_depth set d) g → (p : ℕ) → count_of p h ≤ count_of p g
  no_fewer h g valid le short long p =
      law_no_fewer (machine_of set) (producer_of set.topo) (consumer_of set.topo) (wired set valid.topology) d (start set) h g
      (subst (λ n. n ≤ d) (sym depth_is) le) short.lawful (run_deeper g long) p
