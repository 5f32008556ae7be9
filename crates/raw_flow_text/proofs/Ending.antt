-- What is wrong at the end, and the flow that is built.
use Rattle.std.proofs.Common.{◌≡◌, ℕ, Bool, true, false, ◌||◌, eqb, ltb, List, length, Option, Some, None, refl, sym, ap, ◌∙◌}
use Rattle.std.specs.Option.{is_none}
use Rattle.raw_set_text.specs.declared.kind.SetKind.{SetKind}
use Rattle.raw_set_text.specs.declared.kind.SetKind.TheVariants.{Missing, OverLimit}
use Rattle.raw_set_text.specs.Faults.{fault_if}
use Rattle.raw_flow.specs.declared.limits.TheConstants.{MAX_NODES}
use Rattle.raw_flow_text.specs.declared.builder.Builder.{Builder}
use Rattle.raw_flow_text.specs.Statement.{Statement}
use Rattle.raw_flow_text.specs.Flows.{size_in, nodes_in, outs_in, fed_by}
use Rattle.raw_flow_text.specs.Faults.{end_fault}
use Rattle.raw_flow_text.specs.Building.{BuilderStands}

module _ (builder : Builder) (said : List Statement) (stands : BuilderStands builder said) where
  pub no_grid : builder.size ≡ None → end_fault said ≡ Some Missing
  unfolding end_fault
  no_grid none = ap (λ size. fault_if (is_none size || eqb (length (outs_in said)) 0) Missing (fault_if (ltb MAX_NODES (length (nodes_in said))) OverLimit None)) (sym stands.size ∙ none)

  by_outs : (size : Option (ℕ × ℕ)) (test : Bool) (next : Option SetKind) → test ≡ true → fault_if (is_none size || test) Missing next ≡ Some Missing
  by_outs None test next e = refl
  by_outs (Some size) test next e = rw e refl

  pub no_out : eqb (length builder.outs.items) 0 ≡ true → end_fault said ≡ Some Missing
  unfolding end_fault
  no_out none = by_outs (size_in said) (eqb (length (outs_in said)) 0) (fault_if (ltb MAX_NODES (length (nodes_in said))) OverLimit None) (ap (λ outs. eqb (length outs) 0) (sym stands.outs) ∙ none)

  -- with a grid and a wanted value, the count of nodes decides
  pub by_count : (size : ℕ × ℕ) (test : Bool) → builder.size ≡ Some size → eqb (length builder.outs.items) 0 ≡ false → ltb MAX_NODES (length builder.nodes.items) ≡ test → end_fault said ≡ fault_if test OverLimit None
  unfolding end_fault
  by_count size test is some many =
      ap (λ s. fault_if (is_none s || eqb (length (outs_in said)) 0) Missing (fault_if (ltb MAX_NODES (length (nodes_in said))) OverLimit None)) (sym stands.size ∙ is)
      ∙ ap (λ b. fault_if b Missing (fault_if (ltb MAX_NODES (length (nodes_in said))) OverLimit None)) (ap (λ outs. eqb (length outs) 0) (sym stands.outs) ∙ some)
      ∙ ap (λ b. fault_if b OverLimit None) (ap (λ nodes. ltb MAX_NODES (length nodes)) (sym stands.nodes) ∙ many)

  -- the flow of what was built
  pub built : (cols rows : ℕ) → builder.size ≡ Some (cols, rows)
      → record { flow = record { cols = cols; rows = rows; nodes = builder.nodes.items; outs = builder.outs.items }; inputs = builder.inputs.items } ≡ fed_by said
  unfolding fed_by
  built cols rows is =
      let size : size_in said ≡ Some (cols, rows) = sym stands.size ∙ is in
      rw (size, stands.nodes, stands.outs, stands.inputs) refl
