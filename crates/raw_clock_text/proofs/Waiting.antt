-- The waits of a processor, end by end.
use Rattle.std.proofs.Common.{◌≡◌, ℕ, zero, suc, ◌+◌, ◌<◌, ◌≤◌, List, [], ◌∷◌, ◌++◌, length, Option, Some, None, refl, sym, ap, ap₂, ◌∙◌, append-nil, arith}
use Rattle.std.specs.Prelude.{IfSome, slice_index, slice_index_or}
use Rattle.std.specs.List.{flat_map, range_with_len}
use Rattle.std.specs.Option.{option_to_list}
use Rattle.std.proofs.lemmas.Grind.{flat_map-append}
use Rattle.raw_switch_isa.specs.Ends.{ends}
use Rattle.raw_grid.specs.Wires.{wires_of, input_wire, output_wire}
use Rattle.raw_grid.proofs.WireLaws.{input_within, output_within, input_owner, output_owner}
use Rattle.raw_model.specs.Program.{ProgramSet}
use Rattle.raw_model.specs.Waits.{inputs_at, outputs_at, other_end}
use Rattle.raw_processor.specs.declared.end_wires.EndWires.{EndWires}
use Rattle.raw_processor.specs.Ends.{AreEndsOf}
use Rattle.raw_clock.specs.declared.tally.Tally.{Tally}
use Rattle.raw_clock.specs.Clock.{waited}
use Rattle.raw_clock.specs.Tally.{IsTally}
use Rattle.raw_clock_text.specs.Lines.{wait_line}
use Rattle.raw_clock_text.specs.Text.{wire_waits}
use Rattle.raw_clock_text.specs.Waits.{waits_at}

flat_flat : {A B C : Type 0} (f : B → List C) (g : A → List B) (xs : List A) → flat_map f (flat_map g xs) ≡ flat_map (λ x. flat_map f (g x)) xs
flat_flat f g [] = refl
flat_flat f g (x ∷ xs) = flat_map-append f (g x) (flat_map g xs) ∙ ap (λ ys. flat_map f (g x) ++ ys) (flat_flat f g xs)

flat_alike : (f g : ℕ → List ℕ) (a n : ℕ) → ((k : ℕ) → a ≤ k → k < a + n → f k ≡ g k) → flat_map f (range_with_len a n) ≡ flat_map g (range_with_len a n)
flat_alike f g a zero alike = refl
flat_alike f g a (suc n) alike =
    ap₂ (λ xs ys. xs ++ ys) (alike a (omega arith) (omega arith)) (flat_alike f g (a + 1) n (λ k low high. alike k (omega (arith, low)) (omega (arith, high))))

module _ (set : ProgramSet) (n p : ℕ) (own : ℕ → Option ℕ) (wires : List (Option ℕ)) (waits : List ℕ)
    (same : (end : ℕ) → end < 10 → slice_index_or wires end None ≡ own end)
    (count : (end w : ℕ) → own end ≡ Some w → slice_index waits w ≡ waited set n p w) where
  at_end : (o : Option ℕ) → ((w : ℕ) → o ≡ Some w → slice_index waits w ≡ waited set n p w)
      → waits_at set.topo p waits o ≡ flat_map (wire_waits set n p) (option_to_list o)
  at_end None is = refl
  at_end (Some w) is = ap (wait_line p w (other_end set.topo p w)) (is w refl) ∙ sym (append-nil (wire_waits set n p w))

  by_ends : flat_map (λ end. waits_at set.topo p waits (slice_index_or wires end None)) (range_with_len 0 10)
      ≡ flat_map (wire_waits set n p) (flat_map (λ end. option_to_list (own end)) (range_with_len 0 10))
  by_ends =
      flat_alike (λ end. waits_at set.topo p waits (slice_index_or wires end None)) (λ end. flat_map (wire_waits set n p) (option_to_list (own end))) 0 10
      (λ end low high. ap (waits_at set.topo p waits) (same end high) ∙ at_end (own end) (count end))
      ∙ sym (flat_flat (wire_waits set n p) (λ end. option_to_list (own end)) (range_with_len 0 10))

some_there : (many few : ℕ) (o : Option ℕ) → ((w : ℕ) → o ≡ Some w → w < many) → few ≡ many → IfSome o (λ w. (w < many) × (w < few))
some_there many few None there same = tt
some_there many few (Some w) there same = let below = there w refl in (below, omega (arith, below, same))

module _ (set : ProgramSet) (n p : ℕ) (ends_at : EndWires) (is : AreEndsOf set.topo p ends_at) (t : Tally) (tally : IsTally set n t) where
  pub inputs_there : (end : ℕ) → end < 10
      → IfSome (slice_index_or ends_at.inputs end None) (λ w. (w < length (wires_of set.topo)) × (w < length t.inputs.items))
  inputs_there end below =
      some_there (length (wires_of set.topo)) (length t.inputs.items) (slice_index_or ends_at.inputs end None)
      (λ w e. input_within set.topo w p end (sym (is.inputs end below) ∙ e)) tally.each_input

  pub outputs_there : (end : ℕ) → end < 10
      → IfSome (slice_index_or ends_at.outputs end None) (λ w. (w < length (wires_of set.topo)) × (w < length t.outputs.items))
  outputs_there end below =
      some_there (length (wires_of set.topo)) (length t.outputs.items) (slice_index_or ends_at.outputs end None)
      (λ w e. output_within set.topo w p end (sym (is.outputs end below) ∙ e)) tally.each_output

  pub inputs_text : flat_map (λ end. waits_at set.topo p t.inputs.items (slice_index_or ends_at.inputs end None)) (range_with_len 0 10)
      ≡ flat_map (wire_waits set n p) (inputs_at set.topo p)
  unfolding inputs_at ends
  inputs_text =
      by_ends set n p (input_wire set.topo p) ends_at.inputs t.inputs.items is.inputs
      (λ end w e. tally.inputs w (input_within set.topo w p end e) ∙ ap (λ q. waited set n q w) (input_owner set.topo w p end e))

  pub outputs_text : flat_map (λ end. waits_at set.topo p t.outputs.items (slice_index_or ends_at.outputs end None)) (range_with_len 0 10)
      ≡ flat_map (wire_waits set n p) (outputs_at set.topo p)
  unfolding outputs_at ends
  outputs_text =
      by_ends set n p (output_wire set.topo p) ends_at.outputs t.outputs.items is.outputs
      (λ end w e. tally.outputs w (output_within set.topo w p end e) ∙ ap (λ q. waited set n q w) (output_owner set.topo w p end e))
