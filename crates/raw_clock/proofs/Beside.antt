-- What a tile does changes no other tile's turn, since no wire leads from tile to tile.
use Rattle.std.proofs.Common.{◌≡◌, ◌≢◌, ℕ, ◌+◌, ◌-◌, ◌*◌, ◌<◌, ◌≤◌, true, cond, ◌&&◌, ltb, leb, List, [], ◌∷◌, ◌++◌, length, drop, Bool, Option, Some, None, refl, sym, ap, ◌∙◌, subst, ⊎_elim, arith, append-nil}
use Rattle.std.specs.Prelude.{slice_get, slice_index}
use Rattle.std.specs.List.{find}
use Rattle.std.proofs.lemmas.Bool.{cases_eq}
use Rattle.std.proofs.lemmas.List.{get_or-set_other}
use Rattle.std.proofs.lemmas.Option.{same_Some}
use Rattle.raw_network.specs.Network.{Network, State, values_on, count_of, is_enabled, row_at, step}
use Rattle.raw_network.specs.Waits.{lacks_values, lacks_room, either_first, wait_of}
use Rattle.raw_network.specs.Wired.{IsWired}
use Rattle.raw_network.proofs.Wires.{count_here, count_there, count_none, arrivals, arrivals_none, wire_moved}
use Rattle.raw_network.proofs.Diamond.{ready, step_ready}
use Rattle.raw_network.proofs.Kth.{local_other}
use Rattle.raw_grid.specs.declared.parts.Net.TheVariants.{One, Two}
use Rattle.raw_grid.specs.declared.parts.Dir.TheVariants.{P}
use Rattle.raw_grid.specs.Ends.{end_index}
use Rattle.raw_grid.specs.Topology.{Topology, IsTopology, tile_count, switch_number}
use Rattle.raw_grid.specs.Wires.{input_wire, output_wire, producer_of, consumer_of, Joins}
use Rattle.raw_grid.proofs.WireLaws.{input_owner, output_owner}
use Rattle.raw_grid.proofs.EndLaws.{to_tile_one, to_tile_two, from_tile_one, from_tile_two}
use Rattle.raw_grid.proofs.NoWire.{tile_input, tile_output}
use Rattle.raw_model.specs.Program.{IsSet}
use Rattle.raw_model.specs.Machine.{machine_of}
use Rattle.raw_model.specs.Rest.{stopped, is_stopped_at}
use Rattle.raw_model.specs.Waits.{inputs_at, outputs_at, first_wait}
use Rattle.raw_model.proofs.Wired.{wired}
use Rattle.raw_serial.specs.declared.turn.Turn.{Turn}
use Rattle.raw_serial.specs.declared.turn.Turn.TheVariants.{Fired, Stalled, Stopped, Waits}
use Rattle.raw_serial.specs.Turns.{turn_by}
use Rattle.raw_serial.specs.Running.{Running, IsTurnOf, Follows, turn_of}
use Rattle.raw_clock.proofs.Ends.{input_end, output_end, input_here, output_here}
use Rattle.raw_clock.proofs.Sending.{fired_enabled}
use Rattle.raw_clock.proofs.Telling.{same_index}

module _ (t : Topology) (valid : IsTopology t) (tile : ℕ) (below : tile < tile_count t) (w : ℕ) where
  -- an input of a tile comes from its switch,
  comes_from : (v e i : ℕ) → input_wire t tile i ≡ Some w → i ≡ e → Joins t v (switch_number t tile) e tile e → tile_count t ≤ producer_of t w
  comes_from v e i wire same joins =
      let is : v ≡ w = same_Some v w (sym joins.1 ∙ ap (input_wire t tile) (sym same) ∙ wire) in
      let here : producer_of t w ≡ tile_count t + tile = ap (producer_of t) (sym is) ∙ output_owner t v (switch_number t tile) e joins.0 in
      omega (arith, here)

  input_from_switch : 0 < count_of w (inputs_at t tile) → tile_count t ≤ producer_of t w
  input_from_switch some =
      let found = input_end t valid tile w some in
      ⊎_elim
      (λ (one : found.0 ≡ end_index One P). comes_from (4 * tile) (end_index One P) found.0 found.1 one (to_tile_one t tile valid below))
      (λ (two : found.0 ≡ end_index Two P). comes_from (4 * tile + 1) (end_index Two P) found.0 found.1 two (to_tile_two t tile valid below))
      (tile_input t tile found.0 w valid below found.1)

  -- and an output leads to it
  leads_to : (v e i : ℕ) → output_wire t tile i ≡ Some w → i ≡ e → Joins t v tile e (switch_number t tile) e → tile_count t ≤ consumer_of t w
  leads_to v e i wire same joins =
      let is : v ≡ w = same_Some v w (sym joins.0 ∙ ap (output_wire t tile) (sym same) ∙ wire) in
      let here : consumer_of t w ≡ tile_count t + tile = ap (consumer_of t) (sym is) ∙ input_owner t v (switch_number t tile) e joins.1 in
      omega (arith, here)

  output_to_switch : 0 < count_of w (outputs_at t tile) → tile_count t ≤ consumer_of t w
  output_to_switch some =
      let found = output_end t valid tile w some in
      ⊎_elim
      (λ (one : found.0 ≡ end_index One P). leads_to (4 * tile + 2) (end_index One P) found.0 found.1 one (from_tile_one t tile valid below))
      (λ (two : found.0 ≡ end_index Two P). leads_to (4 * tile + 3) (end_index Two P) found.0 found.1 two (from_tile_two t tile valid below))
      (tile_output t tile found.0 w valid below found.1)

-- two tests that agree on a list find the same
find_alike : (f g : ℕ → Bool) (ws : List ℕ) → ((w : ℕ) → 0 < count_of w ws → f w ≡ g w) → find f ws ≡ find g ws
find_alike f g [] same = refl
find_alike f g (v ∷ vs) same =
    ap (λ b. cond b (Some v) (find f vs)) (same v (let here = count_here v vs in omega (arith, here)))
    ∙ ap (λ o. cond (g v) (Some v) o) (find_alike f g vs (λ w some. same w (more w some)))
  where
    more : (w : ℕ) → 0 < count_of w vs → 0 < count_of w (v ∷ vs)
    more w some =
        ⊎_elim
        (λ (is : v ≡ w). subst (λ u. 0 < count_of u (v ∷ vs)) is (let here = count_here v vs in omega (arith, here)))
        (λ (ne : v ≡ w → ⊥). let there = count_there w v vs ne in omega (arith, there, some))
        (cases_eq v w)

-- where the wires at a processor hold what others hold, it waits for what it waits for there
wait_alike : {L : Type 0} (net : Network L) (inputs outputs : ℕ → List ℕ) (ws vs : List (List ℕ)) (p : ℕ) (o : Option L)
    → ((w : ℕ) → 0 < count_of w (inputs p) → values_on ws w ≡ values_on vs w)
    → ((w : ℕ) → 0 < count_of w (outputs p) → values_on ws w ≡ values_on vs w)
    → wait_of net inputs outputs ws p o ≡ wait_of net inputs outputs vs p o
wait_alike net inputs outputs ws vs p None ins outs = refl
wait_alike net inputs outputs ws vs p (Some l) ins outs =
    let takes = net.takes p l in
    let sends = net.sends p l in
    ap (λ u. cond (net.is_stopped p l) None u)
    (ap (λ x. either_first x (find (lacks_room net.depth sends ws) (outputs p)))
    (find_alike (lacks_values takes ws) (lacks_values takes vs) (inputs p) (λ w some. ap (λ xs. ltb (length xs) (count_of w takes)) (ins w some)))
    ∙ ap (λ x. either_first (find (lacks_values takes vs) (inputs p)) x)
    (find_alike (lacks_room net.depth sends ws) (lacks_room net.depth sends vs) (outputs p)
    (λ w some. ap (λ xs. ltb 0 (count_of w sends) && leb net.depth (length xs)) (outs w some))))

-- a step leaves the wires of others as they are
wire_stays : {L : Type 0} (net : Network L) (producer consumer : ℕ → ℕ) → IsWired net producer consumer → (s : State L) (p w : ℕ)
    → is_enabled net s p ≡ true → (producer w ≡ p → ⊥) → (consumer w ≡ p → ⊥) → values_on (step net s p).wires w ≡ values_on s.wires w
wire_stays net producer consumer is_wired s p w on made used =
    let (l, r) = ready net s p on in
    let sent = (row_at net p l s.wires).sent in
    ap (λ t. values_on t.wires w) (step_ready net producer consumer is_wired s p l r)
    ∙ wire_moved (net.takes p l) sent s.wires w
    ∙ ap (λ n. drop n (values_on s.wires w) ++ arrivals (length s.wires) w sent) (count_none consumer p w (net.takes p l) (is_wired.takes_own p l) used)
    ∙ ap (λ xs. values_on s.wires w ++ xs) (arrivals_none producer p (length s.wires) w sent (is_wired.sent_own p l _) made)
    ∙ append-nil (values_on s.wires w)

-- after the turn of a tile, that of another tile is what it was
pub tile_keeps : (m n : Running) (p q : ℕ) (turn : Turn) → IsSet m.set → p < length m.state.locals → p < tile_count m.set.topo → q < tile_count m.set.topo
    → q ≢ p → IsTurnOf m n p turn → turn_of n q ≡ turn_of m q
tile_keeps m n p q turn valid there first second ne is = by_turn turn is.answer is.after
  where
    by_turn : (turn : Turn) → turn ≡ turn_of m p → Follows turn m n p → turn_of n q ≡ turn_of m q
    by_turn Fired e after =
        let t = m.set.topo in
        let net = machine_of m.set in
        let on = fired_enabled m.set m.state p (ltb 0 (slice_index m.owed p)) there e in
        let local = local_other net m.state p q ne in
        let stays = wire_stays net (producer_of t) (consumer_of t) (wired m.set valid.topology) m.state p in
        let ins : (w : ℕ) → 0 < count_of w (inputs_at t q) → values_on (step net m.state p).wires w ≡ values_on m.state.wires w =
        λ w some.
        stays w on (λ e. absurd (omega (arith, e, first, input_from_switch t valid.topology q second w some)))
        (λ e. ne (sym (input_here t valid.topology q w some) ∙ e)) in
        let outs : (w : ℕ) → 0 < count_of w (outputs_at t q) → values_on (step net m.state p).wires w ≡ values_on m.state.wires w =
        λ w some.
        stays w on (λ e. ne (sym (output_here t valid.topology q w some) ∙ e))
        (λ e. absurd (omega (arith, e, first, output_to_switch t valid.topology q second w some))) in
        let wait : first_wait n.set n.state q ≡ first_wait m.set m.state q =
        ap (λ g. first_wait g n.state q) after.set
        ∙ ap (λ s. first_wait m.set s q) after.state
        ∙ wait_alike net (inputs_at t) (outputs_at t) (step net m.state p).wires m.state.wires q (slice_get (step net m.state p).locals q) ins outs
        ∙ ap (λ o. wait_of net (inputs_at t) (outputs_at t) m.state.wires q o) local in
        let stops : stopped n.set n.state q ≡ stopped m.set m.state q =
        ap (λ g. stopped g n.state q) after.set ∙ ap (λ s. stopped m.set s q) after.state ∙ ap (is_stopped_at m.set q) local in
        ap (λ b. turn_by b (ltb 0 (slice_index n.owed q)) (first_wait n.set n.state q)) stops
        ∙ ap (λ k. turn_by (stopped m.set m.state q) (ltb 0 k) (first_wait n.set n.state q)) (same_index n.owed m.owed q (after.other_owed q ne))
        ∙ ap (λ o. turn_by (stopped m.set m.state q) (ltb 0 (slice_index m.owed q)) o) wait
    by_turn Stalled e same =
        ap (λ r. turn_of r q) same
        ∙ ap (λ k. turn_by (stopped m.set m.state q) (ltb 0 k) (first_wait m.set m.state q)) (get_or-set_other m.owed p q (slice_index m.owed p - 1) 0 ne)
    by_turn Stopped e same = ap (λ r. turn_of r q) same
    by_turn (Waits wire) e same = ap (λ r. turn_of r q) same
