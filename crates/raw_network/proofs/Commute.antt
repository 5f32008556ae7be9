-- Two rows of different processors leave the same wires in either order.
use Rattle.std.proofs.Common.{◌≡◌, ◌≢◌, ℕ, ◌≤◌, List, [], ◌++◌, length, drop, sym, ap, ◌∙◌, ⊎_elim}
use Rattle.std.specs.List.{All}
use Rattle.std.proofs.lemmas.List.{append-nil, drop-append-le, ext_get_or}
use Rattle.std.proofs.lemmas.Bool.{cases_eq}
use Rattle.raw_network.specs.Network.{Sent, values_on, count_of, taken, appended}
use Rattle.raw_network.proofs.Wires.{count_none, arrivals, arrivals_none, wire_moved, length-moved}

-- what two rows leave on a wire, one after the other
pub wire_moved_twice :
    (ws : List ℕ) (ms : List Sent) (vs : List ℕ) (ns : List Sent) (wires : List (List ℕ)) (v : ℕ) →
    values_on (appended ns (taken vs (appended ms (taken ws wires)))) v
    ≡ drop (count_of v vs) (drop (count_of v ws) (values_on wires v) ++ arrivals (length wires) v ms) ++ arrivals (length wires) v ns
wire_moved_twice ws ms vs ns wires v =
    wire_moved vs ns (appended ms (taken ws wires)) v
    ∙ ap (λ xs. drop (count_of v vs) xs ++ arrivals (length (appended ms (taken ws wires))) v ns) (wire_moved ws ms wires v)
    ∙ ap
    (λ n. drop (count_of v vs) (drop (count_of v ws) (values_on wires v) ++ arrivals (length wires) v ms) ++ arrivals n v ns)
    (length-moved ws ms wires)

-- taking by one and sending by another, in either order
pub moves_commute : (n m : ℕ) (xs ys zs : List ℕ) → n ≤ length xs → m ≡ 0 → ys ≡ []
    → drop m (drop n xs ++ ys) ++ zs ≡ drop n (drop m xs ++ zs) ++ ys
moves_commute n m xs ys zs h e f =
    ap (λ k. drop k (drop n xs ++ ys) ++ zs) e
    ∙ ap (λ us. (drop n xs ++ us) ++ zs) f
    ∙ ap (λ us. us ++ zs) (append-nil (drop n xs))
    ∙ sym (drop-append-le n xs zs h)
    ∙ sym (append-nil (drop n (xs ++ zs)))
    ∙ ap (λ us. drop n (xs ++ zs) ++ us) (sym f)
    ∙ ap (λ k. drop n (drop k xs ++ zs) ++ ys) (sym e)

module _ (producer consumer : ℕ → ℕ) (apart : (w : ℕ) → producer w ≢ consumer w) (p q : ℕ) (differ : p ≡ q → ⊥)
    (ws : List ℕ) (ms : List Sent) (vs : List ℕ) (ns : List Sent) (wires : List (List ℕ))
    (ws_own : All (λ w. consumer w ≡ p) ws) (ms_own : All (λ (m : Sent). producer m.wire ≡ p) ms)
    (vs_own : All (λ w. consumer w ≡ q) vs) (ns_own : All (λ (m : Sent). producer m.wire ≡ q) ns)
    (ws_there : (w : ℕ) → count_of w ws ≤ length (values_on wires w)) (vs_there : (w : ℕ) → count_of w vs ≤ length (values_on wires w)) where
  -- both orders leave the same on wire v
  abbrev IsSame : ℕ → Type 0
  IsSame v =
      drop (count_of v vs) (drop (count_of v ws) (values_on wires v) ++ arrivals (length wires) v ms) ++ arrivals (length wires) v ns
      ≡ drop (count_of v ws) (drop (count_of v vs) (values_on wires v) ++ arrivals (length wires) v ns) ++ arrivals (length wires) v ms

  at_wire : (v : ℕ) → IsSame v
  at_wire v =
      ⊎_elim for_p
      (λ np. ⊎_elim for_q (λ nq. ⊎_elim (from_p np nq) (to_p np nq) (cases_eq (producer v) p)) (cases_eq (consumer v) q))
      (cases_eq (consumer v) p)
    where
      for_p : consumer v ≡ p
          → IsSame v
      for_p e =
          moves_commute (count_of v ws) (count_of v vs) (values_on wires v) (arrivals (length wires) v ms) (arrivals (length wires) v ns) (ws_there v)
          (count_none consumer q v vs vs_own (λ f. differ (sym e ∙ f)))
          (arrivals_none producer p (length wires) v ms ms_own (λ f. apart v (f ∙ sym e)))

      for_q : consumer v ≡ q
          → IsSame v
      for_q e =
          sym
          (moves_commute (count_of v vs) (count_of v ws) (values_on wires v) (arrivals (length wires) v ns) (arrivals (length wires) v ms) (vs_there v)
          (count_none consumer p v ws ws_own (λ f. differ (sym f ∙ e)))
          (arrivals_none producer q (length wires) v ns ns_own (λ f. apart v (f ∙ sym e))))

      to_p : (consumer v ≡ p → ⊥) → (consumer v ≡ q → ⊥) → (producer v ≡ p → ⊥)
          → IsSame v
      to_p np nq other =
          moves_commute (count_of v ws) (count_of v vs) (values_on wires v) (arrivals (length wires) v ms) (arrivals (length wires) v ns) (ws_there v)
          (count_none consumer q v vs vs_own nq)
          (arrivals_none producer p (length wires) v ms ms_own other)

      from_p : (consumer v ≡ p → ⊥) → (consumer v ≡ q → ⊥) → producer v ≡ p
          → IsSame v
      from_p np nq e =
          sym
          (moves_commute (count_of v vs) (count_of v ws) (values_on wires v) (arrivals (length wires) v ns) (arrivals (length wires) v ms) (vs_there v)
          (count_none consumer p v ws ws_own np)
          (arrivals_none producer q (length wires) v ns ns_own (λ f. differ (sym e ∙ f))))

  -- two rows leave the same wires in either order
  pub rows_commute : appended ns (taken vs (appended ms (taken ws wires))) ≡ appended ms (taken ws (appended ns (taken vs wires)))
  rows_commute =
      ext_get_or []
      (appended ns (taken vs (appended ms (taken ws wires))))
      (appended ms (taken ws (appended ns (taken vs wires))))
      (length-moved vs ns (appended ms (taken ws wires)) ∙ length-moved ws ms wires ∙ sym (length-moved vs ns wires) ∙ sym (length-moved ws ms (appended ns (taken vs wires))))
      (λ v h. wire_moved_twice ws ms vs ns wires v ∙ at_wire v ∙ sym (wire_moved_twice vs ns ws ms wires v))
