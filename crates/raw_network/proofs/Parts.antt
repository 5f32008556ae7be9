-- What code that makes a step in parts has to show, whatever the kind of the processor.
use Rattle.std.proofs.Common.{◌≡◌, ℕ, List, set, Some, sym, ap, ◌∙◌}
use Rattle.std.specs.Prelude.{slice_get}
use Rattle.raw_network.specs.Network.{Network, State, Sent, fronts, taken, appended, step_from, step}

module _ {L : Type 0} (net : Network L) (s : State L) (p : ℕ) (l : L) (here : slice_get s.locals p ≡ Some l) where
  -- the step in parts: the values vs, what is left on the wires, the row's next state and what it sends, and the wires at the end
  pub step_parts :
      (ws vs : List ℕ) (left : List (List ℕ)) (next : L) (ms : List Sent) (locals : List L) (wires : List (List ℕ)) →
      ws ≡ net.takes p l →
      vs ≡ fronts ws s.wires →
      left ≡ taken ws s.wires →
      next ≡ (net.row p l vs).next →
      ms ≡ (net.row p l vs).sent →
      locals ≡ set s.locals p next →
      wires ≡ appended ms left →
      ◌≡◌ {A = State L} record { locals = locals; wires = wires } (step net s p)
  step_parts ws vs left next ms locals wires ew ev el en em eo ei =
      (λ i. record { locals = to_locals i; wires = to_wires i }) ∙ sym (ap (λ o. step_from net s p o) here)
    where
      to_vs : vs ≡ fronts (net.takes p l) s.wires
      to_vs = ev ∙ ap (λ ws. fronts ws s.wires) ew

      to_locals : locals ≡ set s.locals p (net.row p l (fronts (net.takes p l) s.wires)).next
      to_locals = eo ∙ ap (λ n. set s.locals p n) (en ∙ ap (λ vs. (net.row p l vs).next) to_vs)

      to_wires : wires ≡ appended (net.row p l (fronts (net.takes p l) s.wires)).sent (taken (net.takes p l) s.wires)
      to_wires =
          ei
          ∙ ap (λ ms. appended ms left) (em ∙ ap (λ vs. (net.row p l vs).sent) to_vs)
          ∙ ap (λ ws. appended (net.row p l (fronts (net.takes p l) s.wires)).sent ws) (el ∙ ap (λ ws. taken ws s.wires) ew)
