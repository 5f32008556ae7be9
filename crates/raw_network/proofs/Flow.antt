-- A wire is a queue: what was on it and what was sent are what was taken and what is on it now.
use Rattle.std.proofs.Common.{◌≡◌, ℕ, suc, ◌<◌, ◌≤◌, true, cond, List, [], ◌∷◌, ◌++◌, length, get_or, take, drop, refl, sym, ap, ◌∙◌, subst, ⊎_elim, arith}
use Rattle.std.proofs.lemmas.List.{append_assoc, append-nil, length-drop, take-append-drop}
use Rattle.std.proofs.lemmas.Bool.{cases_eq, eq-eqb, ne_eqb}
use Rattle.raw_network.specs.Network.{Network, State, values_on, count_of, fronts, is_enabled, row_at, step, event_of}
use Rattle.raw_network.specs.Runs.{end_of, sent_on, passed}
use Rattle.raw_network.specs.Laws.{got_on, received, IsQueue}
use Rattle.raw_network.proofs.Wires.{front_taken, count_here, count_there, wire_front_same, wire_front_other, wire_moved, arrivals_within, length-moved}
use Rattle.raw_network.proofs.Diamond.{Ready, ready, moved}

head_first : (n : ℕ) (xs : List ℕ) → suc n ≤ length xs → get_or xs 0 0 ∷ take n (drop 1 xs) ≡ take (suc n) xs
head_first n [] h = absurd (omega arith)
head_first n (x ∷ xs) h = refl

-- the operands that come from a wire are its first values
pub got_fronts : (us : List ℕ) (wires : List (List ℕ)) (w : ℕ) → count_of w us ≤ length (values_on wires w)
    → got_on w us (fronts us wires) ≡ take (count_of w us) (values_on wires w)
got_fronts [] wires w h = refl
got_fronts (u ∷ us) wires w h =
    ⊎_elim
    (λ (e : u ≡ w).
    let n = subst (λ x. count_of w (x ∷ us) ≡ suc (count_of w us)) (sym e) (count_here w us) in
    let left : values_on (front_taken wires u) w ≡ drop 1 (values_on wires w) =
    subst (λ x. values_on (front_taken wires x) w ≡ drop 1 (values_on wires w)) (sym e) (wire_front_same wires w) in
    let short = length-drop 1 (values_on wires w) in
    let same = ap length left in
    let rest = got_fronts us (front_taken wires u) w (omega arith) in
    ap
    (λ b. cond b (get_or (values_on wires u) 0 0 ∷ got_on w us (fronts us (front_taken wires u))) (got_on w us (fronts us (front_taken wires u))))
    (eq-eqb u w e)
    ∙ ap (λ xs. get_or (values_on wires u) 0 0 ∷ xs) (rest ∙ ap (λ xs. take (count_of w us) xs) left)
    ∙ ap (λ x. get_or (values_on wires x) 0 0 ∷ take (count_of w us) (drop 1 (values_on wires w))) e
    ∙ head_first (count_of w us) (values_on wires w) (omega arith)
    ∙ ap (λ k. take k (values_on wires w)) (sym n))
    (λ (ne : u ≡ w → ⊥).
    let n = count_there w u us ne in
    let left = wire_front_other wires u w (drop 1 (values_on wires u)) ne in
    let same = ap length left in
    let rest = got_fronts us (front_taken wires u) w (omega arith) in
    ap
    (λ b. cond b (get_or (values_on wires u) 0 0 ∷ got_on w us (fronts us (front_taken wires u))) (got_on w us (fronts us (front_taken wires u))))
    (ne_eqb u w ne)
    ∙ rest
    ∙ ap (λ xs. take (count_of w us) xs) left
    ∙ ap (λ k. take k (values_on wires w)) (sym n))
    (cases_eq u w)

module _ {L : Type 0} (net : Network L) where
  flow_moved : (s : State L) (p : ℕ) (l : L) (w : ℕ) → Ready net s p l → w < length s.wires →
      values_on s.wires w ++ sent_on w (row_at net p l s.wires).sent
      ≡ got_on w (net.takes p l) (fronts (net.takes p l) s.wires) ++ values_on (moved net s p l).wires w
  flow_moved s p l w r h =
      ap (λ xs. xs ++ sent_on w (row_at net p l s.wires).sent) (sym (take-append-drop (count_of w (net.takes p l)) (values_on s.wires w)))
      ∙ append_assoc (take (count_of w (net.takes p l)) (values_on s.wires w))
      (drop (count_of w (net.takes p l)) (values_on s.wires w)) (sent_on w (row_at net p l s.wires).sent)
      ∙ ap
      (λ xs. take (count_of w (net.takes p l)) (values_on s.wires w) ++ (drop (count_of w (net.takes p l)) (values_on s.wires w) ++ xs))
      (sym (arrivals_within (length s.wires) w (row_at net p l s.wires).sent h))
      ∙ ap (λ xs. take (count_of w (net.takes p l)) (values_on s.wires w) ++ xs)
      (sym (wire_moved (net.takes p l) (row_at net p l s.wires).sent s.wires w))
      ∙ ap (λ xs. xs ++ values_on (moved net s p l).wires w) (sym (got_fronts (net.takes p l) s.wires w (r.has w)))

  flow_step : (s : State L) (p w : ℕ) → is_enabled net s p ≡ true → w < length s.wires →
      (values_on s.wires w ++ sent_on w (event_of net s p).sent ≡ got_on w (event_of net s p).from (event_of net s p).took ++ values_on (step net s p).wires w) ×
      (length (step net s p).wires ≡ length s.wires)
  flow_step s p w e h =
      let (l, r) = ready net s p e in
      (rw r.here (flow_moved s p l w r h), rw r.here (length-moved (net.takes p l) (row_at net p l s.wires).sent s.wires))

  -- what was on a wire and what was sent are what was taken and what is on it
  pub law_queue : IsQueue net
  law_queue s [] w h l = append-nil (values_on s.wires w)
  law_queue s (p ∷ ps) w h l =
      let one = flow_step s p w h.0 l in
      let sent = sent_on w (event_of net s p).sent in
      let got = got_on w (event_of net s p).from (event_of net s p).took in
      let rest = law_queue (step net s p) ps w h.1 (subst (λ n. w < n) (sym one.1) l) in
      sym (append_assoc (values_on s.wires w) sent (passed net (step net s p) ps w))
      ∙ ap (λ xs. xs ++ passed net (step net s p) ps w) one.0
      ∙ append_assoc got (values_on (step net s p).wires w) (passed net (step net s p) ps w)
      ∙ ap (λ xs. got ++ xs) rest
      ∙ sym (append_assoc got (received net (step net s p) ps w) (values_on (end_of net s (p ∷ ps)).wires w))
