-- What stands at the other side of an end.
use Rattle.std.proofs.Common.{◌≡◌, ℕ, ◌+◌, ◌-◌, ◌<◌, ◌≤◌, cond, Option, Some, None, List, length, set, sym, ap, ◌∙◌, subst, arith}
use Rattle.std.specs.Prelude.{slice_index_or, unwrap_or}
use mathlib.Core.Logic.{dite}
use native.Mathlib.Decide.{ℕ_discrete}
use Rattle.std.proofs.lemmas.Bool.{lt-ltb, le-ltb}
use Rattle.std.proofs.lemmas.List.{get_or-set_same, get_or-set_other}
use Rattle.raw_grid.specs.Wires.{input_wire, output_wire, producer_of, consumer_of}
use Rattle.raw_grid.specs.Wires as topo
use Rattle.raw_model.specs.Program.{ProgramSet}
use Rattle.raw_processor.specs.declared.end_wires.EndWires.{EndWires}
use Rattle.raw_processor.specs.Ends.{AreEndsOf}
use Rattle.raw_fabric_rule.specs.ByEnds.{wires, wire_at, producer, producer_end, consumer, consumer_end}
use Rattle.raw_fabric_rule.proofs.Nets.{wire_input, wire_output}
use Rattle.raw_fabric_step.specs.declared.post.Side.{Side}
use Rattle.raw_fabric_step.specs.Posts.{IsSide}

module _ (g : ProgramSet) (p : ℕ) (ends : EndWires) (are : AreEndsOf g.topo p ends) where
  pub input_is : (e : ℕ) → e < 10 → (o : Option ℕ) → slice_index_or ends.inputs e None ≡ o → input_wire g.topo p e ≡ o
  input_is e few o is = sym (are.inputs e few) ∙ is

  pub output_is : (e : ℕ) → e < 20 → 10 ≤ e → (o : Option ℕ) → slice_index_or ends.outputs (e - 10) None ≡ o → output_wire g.topo p (e - 10) ≡ o
  output_is e few past o is = sym (are.outputs (e - 10) (omega arith)) ∙ is

  pub side_in : (e w : ℕ) → e < 10 → slice_index_or ends.inputs e None ≡ Some w
      → IsSide g p e (record { wire = w; other = producer_of g.topo w; end = 10 + topo.producer_end g.topo w })
  unfolding producer producer_end
  side_in e w few is =
      let at : wire_at g p e ≡ w = wire_input g p e w few (input_is e few (Some w) is) in
      let b = lt-ltb e 10 few in
      record {
        wire = sym at;
        other = ap (producer g) (sym at) ∙ ap (λ t. cond t (producer g (wire_at g p e)) (consumer g (wire_at g p e))) (sym b);
        end_is = ap (producer_end g) (sym at) ∙ ap (λ t. cond t (producer_end g (wire_at g p e)) (consumer_end g (wire_at g p e))) (sym b);
      }

  pub side_out : (e w : ℕ) → e < 20 → 10 ≤ e → slice_index_or ends.outputs (e - 10) None ≡ Some w
      → IsSide g p e (record { wire = w; other = consumer_of g.topo w; end = topo.consumer_end g.topo w })
  unfolding consumer consumer_end
  side_out e w few past is =
      let place : 10 + (e - 10) ≡ e = omega arith in
      let at : wire_at g p e ≡ w = ap (wire_at g p) (sym place) ∙ wire_output g p (e - 10) w (output_is e few past (Some w) is) in
      let b = le-ltb e 10 past in
      record {
        wire = sym at;
        other = ap (consumer g) (sym at) ∙ ap (λ t. cond t (producer g (wire_at g p e)) (consumer g (wire_at g p e))) (sym b);
        end_is = ap (consumer_end g) (sym at) ∙ ap (λ t. cond t (producer_end g (wire_at g p e)) (consumer_end g (wire_at g p e))) (sym b);
      }

  -- an end without a wire
  pub none_in : (e : ℕ) → e < 10 → slice_index_or ends.inputs e None ≡ None → wire_at g p e ≡ wires g
  unfolding wire_at
  none_in e few is =
      ap (λ b. unwrap_or (cond b (input_wire g.topo p e) (output_wire g.topo p (e - 10))) (wires g)) (lt-ltb e 10 few) ∙ ap (λ o. unwrap_or o (wires g)) (input_is e few None is)

  pub none_out : (e : ℕ) → e < 20 → 10 ≤ e → slice_index_or ends.outputs (e - 10) None ≡ None → wire_at g p e ≡ wires g
  unfolding wire_at
  none_out e few past is =
      ap (λ b. unwrap_or (cond b (input_wire g.topo p e) (output_wire g.topo p (e - 10))) (wires g)) (le-ltb e 10 past) ∙ ap (λ o. unwrap_or o (wires g)) (output_is e few past None is)

-- one side more
pub sides_more : (g : ProgramSet) (p n : ℕ) (sides : List Side) (side : Side) → length sides ≡ 20 → n < 20
    → ((e : ℕ) (none : Side) → e < n → wire_at g p e < wires g → IsSide g p e (slice_index_or sides e none))
    → (wire_at g p n < wires g → IsSide g p n side)
    → (e : ℕ) (none : Side) → e < n + 1 → wire_at g p e < wires g → IsSide g p e (slice_index_or (set sides n side) e none)
sides_more g p n sides side many few before here e none lt wired =
    dite (ℕ_discrete e n)
    (λ (same : e ≡ n).
    subst (λ k. IsSide g p k (slice_index_or (set sides n side) k none)) (sym same)
    (subst (IsSide g p n) (sym (get_or-set_same sides n side none (omega arith))) (here (subst (λ k. wire_at g p k < wires g) same wired))))
    (λ other. subst (IsSide g p e) (sym (get_or-set_other sides n e side none other)) (before e none (omega arith) wired))
