-- The parts of a proof for all rows.
use Rattle.std.proofs.Common.{◌≡◌, ℕ, ◌+◌, ◌++◌, List, length, map, ap₂, ◌∙◌, subst}
use Rattle.std.specs.Prelude.{replicate, slice_index}
use Rattle.raw_model.specs.Program.{ProgramSet}
use Rattle.raw_flow.specs.declared.node.Node.{Node}
use Rattle.raw_flow.specs.declared.node.Node.TheVariants.{Input, Const}
use Rattle.raw_stream.specs.Streams.{Stream, first_words}
use Rattle.raw_rows.specs.Lengths.{LengthProof, with_counters, counting, counted, counters_at, looked, kernel_start, IsSteadyNoting, last_carried, EndsDone}
use Rattle.raw_lengths.specs.Looks.{IsPlaced}
use Rattle.raw_lengths.specs.Proofs.{IsSteadySeen, EndsSeeing, AreCounted}

module _ (set : ProgramSet) (s extended : Stream) (w : LengthProof) (places : List ℕ) (extended_is : extended ≡ with_counters s w.counters) where
  -- the kernels
  pub steady_of : (own many : ℕ) → own ≡ length (first_words s) → many ≡ length (first_words (counting s w.counters)) → AreCounted w.counters w.looks places w.first_rows w.rows w.kernels
      → IsSteadySeen set extended w.limit w.cut w.kernel w.rows own many w.looks places → IsSteadyNoting set s w
  steady_of own many own_is many_is some seen =
      let whole : Stream = with_counters s w.counters in
      let here : IsSteadySeen set whole w.limit w.cut w.kernel w.rows (length (first_words s)) (length (first_words (counting s w.counters))) w.looks places =
      subst (λ (n : ℕ). IsSteadySeen set whole w.limit w.cut w.kernel w.rows (length (first_words s)) n w.looks places) many_is
      (subst (λ (n : ℕ). IsSteadySeen set whole w.limit w.cut w.kernel w.rows n many w.looks places) own_is
      (subst (λ (x : Stream). IsSteadySeen set x w.limit w.cut w.kernel w.rows own many w.looks places) extended_is seen)) in
      record {
        terms = here.terms;
        leads = here.leads;
        counted = λ i below.
            let at : IsPlaced (looked s w (kernel_start s w).nodes).numbers places (slice_index here.terms i) = here.placed i below in
            record { place = at.place; is = at.is; some = λ j early. some s j early at.index at.place at.there };
      }

  -- the end
  pub ends_of : (own : ℕ) (last : List ℕ) (carried : List Node) → own ≡ length (first_words s) → last ≡ counters_at s w w.kernels → carried ≡ replicate own Input ++ map (λ (word : ℕ). Const word) last
      → EndsSeeing set extended w.last_limit carried w.cut w.ending w.last_rows → EndsDone set s w
  ends_of own last carried own_is last_is carried_is seen =
      let carried_so : carried ≡ last_carried s w = carried_is ∙ ap₂ (λ (n : ℕ) (words : List ℕ). replicate n Input ++ map (λ (word : ℕ). Const word) words) own_is last_is in
      let here : EndsSeeing set (with_counters s w.counters) w.last_limit (last_carried s w) w.cut w.ending w.last_rows =
      subst (λ (ns : List Node). EndsSeeing set (with_counters s w.counters) w.last_limit ns w.cut w.ending w.last_rows) carried_so
      (subst (λ (x : Stream). EndsSeeing set x w.last_limit carried w.cut w.ending w.last_rows) extended_is seen) in
      record { rests = here.rests; halted = here.halted }
