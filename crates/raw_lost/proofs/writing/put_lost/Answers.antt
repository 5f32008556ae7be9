use Rattle.std.proofs.Common.{◌≡◌, ℕ, ◌<◌, List, ap, arith}
use Rattle.std.specs.Prelude.{slice_index_or}
use Rattle.std.proofs.lemmas.Option.{slice_get-get_or}
use Rattle.raw_grid.specs.Topology.{proc_count}
use Rattle.raw_model.specs.Program.{ProgramSet}
use Rattle.raw_state_text.proofs.Sections.{same_text, failed_numbered, more_numbered, all_numbered}
use Rattle.raw_lost.specs.declared.lost.Lost.{Lost}
use Rattle.raw_lost.specs.Lost.{lost_by}
use Rattle.raw_lost.specs.Known.{AreLost}
use Rattle.raw_lost.specs.Text.{lost_line, lost_lines}
use Rattle.raw_lost.proofs.writing.put_lost.Goals as goal

abbrev none : Lost
none = record { tiles = 0; switches = 0; ports = 0; stalled = 0; stopped = 0; ring = 0 }

-- the line of a processor
line : (set : ProgramSet) (n : ℕ) (lost : List Lost) → AreLost set n lost → (p : ℕ) → p < proc_count set.topo → lost_line p (slice_index_or lost p none) ≡ lost_line p (lost_by set n p)
line set n lost are p lt =
    let many = are.many in ap (lost_line p) (are.each p (slice_index_or lost p none) (slice_get-get_or lost p none (omega (arith, lt, many))))

pub returns-in_err-put_processor : goal.returns-in_err-put_processor
unfolding lost_lines
returns-in_err-put_processor g c =
    let set = c.args.m.now.set in
    let lt : c.all.p < proc_count set.topo = omega (arith, c.all-test.true, c.all.invariant.0) in
    failed_numbered _ (proc_count set.topo) _ c.all.invariant.1 lt
    (same_text _ _ _ _ _ (line set c.args.ran.now.cycles c.args.lost.now c.requires c.all.p lt) c.in_err-put_processor.ensures) c.from_residual.ensures.0

pub all-preserved : goal.all-preserved
all-preserved g c =
    let set = c.args.m.now.set in
    let lt : c.all.p < proc_count set.topo = omega (arith, c.all-test.true, c.all.invariant.0) in (
      c.all.invariant.0,
      more_numbered _ (proc_count set.topo) _ c.all.invariant.1 lt (same_text _ _ _ _ _ (line set c.args.ran.now.cycles c.args.lost.now c.requires c.all.p lt) c.in_ok-put_processor.ensures),
    )

pub returns : goal.returns
unfolding lost_lines
returns g c = all_numbered _ (proc_count c.args.m.now.set.topo) _ c.all.invariant.1 (omega (arith, c.all-test.false, c.all.invariant.0))
