use Rattle.std.proofs.Common.{ℕ, ◌<◌, List, length, None, sym, ap₂, ◌∙◌, subst}
use Rattle.std.specs.Prelude.{IfSome, slice_index_or}
use Rattle.std.specs.List.{flat_map, range_with_len}
use Rattle.raw_grid.specs.Wires.{wires_of}
use Rattle.raw_model.specs.Program.{ProgramSet}
use Rattle.raw_state_text.proofs.Sections.{same_text}
use Rattle.raw_clock_text.specs.Waits.{waits_at}
use Rattle.raw_clock_text.proofs.Waiting.{outputs_there, outputs_text}
use Rattle.raw_clock_text.proofs.waits.put_outputs.Goals as goal

pub put_ends-requires : goal.put_ends-requires
put_ends-requires g c =
    let own = c.ends.result.now.outputs in
    subst
    (λ (set : ProgramSet). (end : ℕ) → end < 10 → IfSome (slice_index_or own end None) (λ w. (w < length (wires_of set.topo)) × (w < length c.deref.result.now)))
    (sym (c.behind-run.view_is ∙ c.set.ensures.value))
    (subst
    (λ (xs : List ℕ). (end : ℕ) → end < 10 → IfSome (slice_index_or own end None) (λ w. (w < length (wires_of c.args.run.now.machine.now.set.topo)) × (w < length xs)))
    (sym c.deref.ensures.value)
    (outputs_there c.args.run.now.machine.now.set c.args.run.now.counts.now.cycles c.args.p.0 c.ends.result.now c.ends.ensures c.args.run.now.counts.now.tally c.args.run.now.tally))

pub returns : goal.returns
returns g c =
    let own = c.ends.result.now.outputs in
    same_text _ _ _ _ _
    (ap₂ (λ (set : ProgramSet) (xs : List ℕ). flat_map (λ end. waits_at set.topo c.args.p.0 xs (slice_index_or own end None)) (range_with_len 0 10))
    (c.behind-run.view_is ∙ c.set.ensures.value) c.deref.ensures.value
    ∙ outputs_text c.args.run.now.machine.now.set c.args.run.now.counts.now.cycles c.args.p.0 c.ends.result.now c.ends.ensures c.args.run.now.counts.now.tally c.args.run.now.tally)
    c.put_ends.ensures
