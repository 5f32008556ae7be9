-- Each wire at a processor is one of its inputs or one of its outputs, once.
use Rattle.std.proofs.Common.{length, ltb, eqb, not, false, ◌⊎◌, ◌≡◌, true, ℕ, zero, suc, ◌+◌, ◌<◌, ◌≤◌, List, [], ◌∷◌, Option, Some, None, refl, sym, ap, ◌∙◌, subst, ⊎_elim, arith}
use Rattle.std.specs.List.{filter, flat_map, range_with_len}
use Rattle.std.specs.Option.{option_to_list}
use Rattle.std.proofs.lemmas.Bool.{cases_eq, lt-ltb, le-ltb, eq-eqb, ne_eqb}
use Rattle.raw_network.specs.Network.{count_of}
use Rattle.raw_network.proofs.Wires.{count_here, count_there}
use Rattle.raw_switch_isa.specs.Ends.{ends}
use Rattle.raw_grid.specs.Topology.{Topology, IsTopology}
use Rattle.raw_grid.specs.Wires.{wires_of, input_wire, output_wire, producer_of, consumer_of}
use Rattle.raw_grid.proofs.WireLaws.{input_within, output_within, input_owner, output_owner, one_input, one_output, ends_apart}
use Rattle.raw_model.specs.Waits.{inputs_at, outputs_at}
use Rattle.raw_lockstep.proofs.Cycling.{count-append, once_at_most}

module _ (own : ℕ → Option ℕ) (w : ℕ) where
  found_at : (o : Option ℕ) → 0 < count_of w (option_to_list o) → o ≡ Some w
  found_at None some = absurd (omega arith)
  found_at (Some v) some =
      ⊎_elim
      (λ (same : v ≡ w). ap Some same)
      (λ (ne : v ≡ w → ⊥). absurd (omega (arith, some, count_there w v [] ne)))
      (cases_eq v w)

  at_most_one : (o : Option ℕ) → count_of w (option_to_list o) ≤ 1
  at_most_one None = omega arith
  at_most_one (Some v) =
      ⊎_elim
      (λ (same : v ≡ w). subst (λ u. count_of u (v ∷ []) ≤ 1) same (omega (arith, count_here v [])))
      (λ (ne : v ≡ w → ⊥). omega (arith, count_there w v [] ne))
      (cases_eq v w)

  -- a wire among those of some ends is the wire of one of them
  end_found : (xs : List ℕ) → 0 < count_of w (flat_map (λ end. option_to_list (own end)) xs) → (end : ℕ) × (own end ≡ Some w)
  end_found [] some = absurd (omega arith)
  end_found (x ∷ xs) some =
      ⊎_elim
      (λ (z : count_of w (option_to_list (own x)) ≡ 0).
      end_found xs (omega (arith, z, some, count-append w (option_to_list (own x)) (flat_map (λ end. option_to_list (own end)) xs))))
      (λ (nz : count_of w (option_to_list (own x)) ≡ 0 → ⊥). (x, found_at (own x) (omega arith)))
      (cases_eq (count_of w (option_to_list (own x))) 0)

  -- and no more often than the end
  no_more_than : (i : ℕ) → ((j : ℕ) → own j ≡ Some w → j ≡ i) → (xs : List ℕ)
      → count_of w (flat_map (λ end. option_to_list (own end)) xs) ≤ count_of i xs
  no_more_than i only [] = omega arith
  no_more_than i only (x ∷ xs) =
      ⊎_elim
      (λ (same : x ≡ i).
      let one : count_of i (x ∷ xs) ≡ suc (count_of i xs) = subst (λ y. count_of y (x ∷ xs) ≡ suc (count_of y xs)) same (count_here x xs) in
      omega (arith, one, at_most_one (own x), no_more_than i only xs, sums))
      (λ (ne : x ≡ i → ⊥).
      ⊎_elim
      (λ (z : count_of w (option_to_list (own x)) ≡ 0). omega (arith, z, no_more_than i only xs, sums, count_there i x xs ne))
      (λ (nz : count_of w (option_to_list (own x)) ≡ 0 → ⊥). absurd (ne (only x (found_at (own x) (omega arith)))))
      (cases_eq (count_of w (option_to_list (own x))) 0))
      (cases_eq x i)
    where
      sums : count_of w (flat_map (λ end. option_to_list (own end)) (x ∷ xs))
          ≡ count_of w (option_to_list (own x)) + count_of w (flat_map (λ end. option_to_list (own end)) xs)
      sums = count-append w (option_to_list (own x)) (flat_map (λ end. option_to_list (own end)) xs)

  once_at_ends : ((i : ℕ) → count_of i ends ≤ 1) → ((i j : ℕ) → own i ≡ Some w → own j ≡ Some w → i ≡ j)
      → count_of w (flat_map (λ end. option_to_list (own end)) ends) ≤ 1
  once_at_ends few one =
      ⊎_elim
      (λ (z : count_of w (flat_map (λ end. option_to_list (own end)) ends) ≡ 0). omega (arith, z))
      (λ (nz : count_of w (flat_map (λ end. option_to_list (own end)) ends) ≡ 0 → ⊥).
      let found = end_found ends (omega arith) in
      omega (arith, no_more_than found.0 (λ j e. one j found.0 e found.1) ends, few found.0))
      (cases_eq (count_of w (flat_map (λ end. option_to_list (own end)) ends)) 0)

module _ (t : Topology) (valid : IsTopology t) (p w : ℕ) where
  pub input_end : 0 < count_of w (inputs_at t p) → (end : ℕ) × (input_wire t p end ≡ Some w)
  unfolding inputs_at
  input_end some = end_found (input_wire t p) w ends some

  pub output_end : 0 < count_of w (outputs_at t p) → (end : ℕ) × (output_wire t p end ≡ Some w)
  unfolding outputs_at
  output_end some = end_found (output_wire t p) w ends some

  pub input_here : 0 < count_of w (inputs_at t p) → consumer_of t w ≡ p
  unfolding inputs_at
  input_here some = let found = end_found (input_wire t p) w ends some in input_owner t w p found.0 found.1

  pub output_here : 0 < count_of w (outputs_at t p) → producer_of t w ≡ p
  unfolding outputs_at
  output_here some = let found = end_found (output_wire t p) w ends some in output_owner t w p found.0 found.1

  pub input_there : 0 < count_of w (inputs_at t p) → w < length (wires_of t)
  unfolding inputs_at
  input_there some = let found = end_found (input_wire t p) w ends some in input_within t w p found.0 found.1

  pub output_there : 0 < count_of w (outputs_at t p) → w < length (wires_of t)
  unfolding outputs_at
  output_there some = let found = end_found (output_wire t p) w ends some in output_within t w p found.0 found.1

  pub not_both : 0 < count_of w (inputs_at t p) → 0 < count_of w (outputs_at t p) → ⊥
  not_both i o = ends_apart t w valid (output_here o ∙ sym (input_here i))

  -- of a wire at a processor, its consumer tells whether it is an input
  pub record IsTold : Type 0 where
    pub input : ltb 0 (count_of w (inputs_at t p)) ≡ eqb (consumer_of t w) p
    pub output : ltb 0 (count_of w (outputs_at t p)) ≡ not (eqb (consumer_of t w) p)
    pub owner : eqb (producer_of t w) p ≡ not (eqb (consumer_of t w) p)

  pub told_by : (0 < count_of w (inputs_at t p)) ⊎ (0 < count_of w (outputs_at t p)) → IsTold
  told_by either =
      ⊎_elim
      (λ (input : 0 < count_of w (inputs_at t p)).
      let is : eqb (consumer_of t w) p ≡ true = eq-eqb (consumer_of t w) p (input_here input) in
      let none : count_of w (outputs_at t p) ≤ 0 =
      ⊎_elim (λ (z : count_of w (outputs_at t p) ≡ 0). omega (arith, z)) (λ (nz : count_of w (outputs_at t p) ≡ 0 → ⊥). absurd (not_both input (omega arith)))
      (cases_eq (count_of w (outputs_at t p)) 0) in
      record {
        input = lt-ltb 0 (count_of w (inputs_at t p)) input ∙ sym is;
        output = le-ltb 0 (count_of w (outputs_at t p)) none ∙ sym (ap not is);
        owner = ne_eqb (producer_of t w) p (λ e. ends_apart t w valid (e ∙ sym (input_here input))) ∙ sym (ap not is);
      })
      (λ (output : 0 < count_of w (outputs_at t p)).
      let is : eqb (consumer_of t w) p ≡ false = ne_eqb (consumer_of t w) p (λ e. ends_apart t w valid (output_here output ∙ sym e)) in
      let none : count_of w (inputs_at t p) ≤ 0 =
      ⊎_elim (λ (z : count_of w (inputs_at t p) ≡ 0). omega (arith, z)) (λ (nz : count_of w (inputs_at t p) ≡ 0 → ⊥). absurd (not_both (omega arith) output))
      (cases_eq (count_of w (inputs_at t p)) 0) in
      record {
        input = le-ltb 0 (count_of w (inputs_at t p)) none ∙ sym is;
        output = lt-ltb 0 (count_of w (outputs_at t p)) output ∙ sym (ap not is);
        owner = eq-eqb (producer_of t w) p (output_here output) ∙ sym (ap not is);
      })
      either

-- all of a range, each once
pub all_pass : (a n : ℕ) → filter (λ i. true) (range_with_len a n) ≡ range_with_len a n
all_pass a zero = refl
all_pass a (suc n) = ap (λ xs. a ∷ xs) (all_pass (a + 1) n)

count_ends : (i : ℕ) → count_of i ends ≤ 1
unfolding ends
count_ends i = subst (λ xs. count_of i xs ≤ 1) (all_pass 0 10) (once_at_most (λ i. true) 0 10 i)

pub inputs_once : (t : Topology) (p w : ℕ) → count_of w (inputs_at t p) ≤ 1
unfolding inputs_at
inputs_once t p w = once_at_ends (input_wire t p) w count_ends (λ i j e f. one_input t w p p i j e f)

pub outputs_once : (t : Topology) (p w : ℕ) → count_of w (outputs_at t p) ≤ 1
unfolding outputs_at
outputs_once t p w = once_at_ends (output_wire t p) w count_ends (λ i j e f. one_output t w p p i j e f)
