-- The wires that a row takes from and sends to are there, since they are among those of its processor.
use Rattle.std.proofs.Common.{◌≡◌, ℕ, suc, ◌<◌, ◌≤◌, Bool, true, false, cond, eqb, List, [], ◌∷◌, length, Option, Some, None, refl, sym, ap, ◌∙◌, subst, ⊎_elim, arith}
use Rattle.std.specs.Prelude.{slice_get}
use Rattle.std.specs.List.{All}
use Rattle.std.specs.Option.{option_to_list}
use Rattle.std.proofs.lemmas.Bool.{cases_eq}
use Rattle.std.proofs.lemmas.List.Elements.{All-nil, All-cons, All-head, All-tail}
use Rattle.raw_network.specs.Network.{Sent, values_on, count_of}
use Rattle.raw_network.specs.Runs.{sent_on}
use Rattle.raw_network.specs.Waits.{wait_of}
use Rattle.raw_network.proofs.Wires.{count_here, count_there, sent_here}
use Rattle.raw_switch_isa.specs.Ends.{ends}
use Rattle.raw_grid.specs.Wires.{wires_of, input_wire, output_wire}
use Rattle.raw_grid.proofs.WireLaws.{input_within, output_within}
use Rattle.raw_model.specs.Program.{ProgramSet}
use Rattle.raw_model.specs.Local.{Local}
use Rattle.raw_model.specs.Machine.{takes, sends, row, machine_of}
use Rattle.raw_model.specs.Start.{MachineState}
use Rattle.raw_model.specs.Waits.{inputs_at, outputs_at, first_wait}
use Rattle.raw_model.proofs.Owned.{All-flat_map, All-option}
use Rattle.raw_model.proofs.Once.{sends_once}
use Rattle.raw_model.proofs.Waiting.{covered}
use Rattle.raw_model.proofs.Awaited.{wait_is_unmet}

-- what holds of each number that a list has holds in the list, and the other way
from_counts : (P : ℕ → Type 0) (ws : List ℕ) → ((w : ℕ) → 0 < count_of w ws → P w) → All P ws
from_counts P [] each = All-nil P
from_counts P (v ∷ ws) each =
    All-cons P v ws (each v (let e = count_here v ws in omega arith)) (from_counts P ws (λ w some. each w (more (eqb v w) (count_of w ws) some)))
  where
    more : (b : Bool) (n : ℕ) → 0 < n → 0 < cond b (suc n) n
    more true n some = omega arith
    more false n some = some

at_count : (P : ℕ → Type 0) (ws : List ℕ) (w : ℕ) → All P ws → 0 < count_of w ws → P w
at_count P [] w all some = absurd (omega arith)
at_count P (v ∷ ws) w all some =
    ⊎_elim
    (λ (same : v ≡ w). subst P same (All-head P v ws all))
    (λ (other : v ≡ w → ⊥). at_count P ws w (All-tail P v ws all) (subst (λ n. 0 < n) (count_there w v ws other) some))
    (cases_eq v w)

-- what holds of each wire that values go to holds of the wires of the values
from_sent : (P : ℕ → Type 0) (ms : List Sent) → ((w : ℕ) → 0 < length (sent_on w ms) → P w) → All (λ (m : Sent). P m.wire) ms
from_sent P [] each = All-nil (λ (m : Sent). P m.wire)
from_sent P (m ∷ ms) each =
    All-cons (λ (m : Sent). P m.wire) m ms (each m.wire (let e = ap length (sent_here m.wire m ms refl) in omega arith))
    (from_sent P ms (λ w some. each w (more (eqb m.wire w) (sent_on w ms) some)))
  where
    more : (b : Bool) (xs : List ℕ) → 0 < length xs → 0 < length (cond b (m.value ∷ xs) xs)
    more true xs some = omega arith
    more false xs some = some

module _ (set : ProgramSet) (p : ℕ) where
  abbrev IsThere : ℕ → Type 0
  IsThere w = w < length (wires_of set.topo)

  input_there : (w : ℕ) → 0 < count_of w (inputs_at set.topo p) → IsThere w
  unfolding inputs_at
  input_there w =
      at_count IsThere (inputs_at set.topo p) w (All-flat_map IsThere (λ end. option_to_list (input_wire set.topo p end))
      (λ end. All-option IsThere (input_wire set.topo p end) (λ v e. input_within set.topo v p end e)) ends)

  output_there : (w : ℕ) → 0 < count_of w (outputs_at set.topo p) → IsThere w
  unfolding outputs_at
  output_there w =
      at_count IsThere (outputs_at set.topo p) w (All-flat_map IsThere (λ end. option_to_list (output_wire set.topo p end))
      (λ end. All-option IsThere (output_wire set.topo p end) (λ v e. output_within set.topo v p end e)) ends)

  pub takes_within : (l : Local) → All (λ w. w < length (wires_of set.topo)) (takes set p l)
  unfolding machine_of
  takes_within l = from_counts IsThere (takes set p l) (λ w some. input_there w ((covered set).takes p l w some))

  pub sends_within : (l : Local) → All (λ w. w < length (wires_of set.topo)) (sends set p l)
  unfolding machine_of
  sends_within l = from_counts IsThere (sends set p l) (λ w some. output_there w ((covered set).sends p l w some))

  pub sent_within : (l : Local) (values : List ℕ) → All (λ (m : Sent). m.wire < length (wires_of set.topo)) (row set p l values).sent
  unfolding machine_of
  sent_within l values =
      from_sent IsThere (row set p l values).sent
      (λ w some. let named = (sends_once set).sent_named p l values w in output_there w ((covered set).sends p l w (omega (arith, some, named))))

  -- the wire of a first wait is there
  pub wait_there : (s : MachineState) (w : ℕ) → first_wait set s p ≡ Some w → w < length (wires_of set.topo)
  unfolding machine_of
  wait_there s w waits = from (slice_get s.locals p) refl
    where
      from : (o : Option Local) → slice_get s.locals p ≡ o → IsThere w
      from None here = absurd (cc (sym (ap (wait_of (machine_of set) (inputs_at set.topo) (outputs_at set.topo) s.wires p) here) ∙ waits))
      from (Some l) here =
          ⊎_elim
          (λ (input : (0 < count_of w (inputs_at set.topo p)) × (length (values_on s.wires w) < count_of w (takes set p l))). input_there w input.0)
          (λ (output : (0 < count_of w (outputs_at set.topo p)) × (0 < count_of w (sends set p l)) × (set.depth ≤ length (values_on s.wires w))). output_there w output.0)
          (wait_is_unmet set s p l w here waits)
