use Rattle.std.proofs.Common.{◌≡◌, ◌+◌, ◌++◌, refl, ap, ◌∙◌, append_assoc}
use Rattle.std.specs.Prelude.{codes}
use Rattle.std.specs.List.{flat_map}
use Rattle.raw_grid.specs.Topology.{proc_count}
use Rattle.raw_model.specs.Waits.{waits_for}
use Rattle.raw_model.specs.StateTexts.{mark_of, wait_line}
use Rattle.raw_model.specs.Outcomes.{chain, chain_end}
use Rattle.raw_report.specs.Lines.{ends_line}
use Rattle.raw_report.specs.Report.{outcome_lines}
use Rattle.raw_state_text.proofs.Sections.{nothing_yet, one_more, failed, last_part, same_text}
use Rattle.raw_report.proofs.Ends.{chain_is}
use Rattle.raw_report.proofs.outcome.put_chain.Goals as goal

pub returns-in_err-put_line : goal.returns-in_err-put_line
unfolding outcome_lines
returns-in_err-put_line g c =
    let m = c.args.m.now in
    let p = c.args.p.0 in
    let head = codes "outcome stuck\n" in
    let waits = flat_map (wait_line m.set m.state) (chain m.set m.state p) in
    let last = ends_line (chain_end m.set m.state p) (mark_of m.set m.state (chain_end m.set m.state p)) in
    let parts = append_assoc head waits last in
    failed _ _ _ _ _ _ _ (nothing_yet _ (head ++ waits ++ last)) parts _
    c.from_residual.result c.from_residual.ensures.0 (same_text _ _ _ _ _ c.stuck_head.ensures c.in_err-put_line.ensures)

pub returns-in_err-put_waits : goal.returns-in_err-put_waits
unfolding outcome_lines
returns-in_err-put_waits g c =
    let m = c.args.m.now in
    let p = c.args.p.0 in
    let head = codes "outcome stuck\n" in
    let waits = flat_map (wait_line m.set m.state) (chain m.set m.state p) in
    let last = ends_line (chain_end m.set m.state p) (mark_of m.set m.state (chain_end m.set m.state p)) in
    let parts = append_assoc head waits last in
    let begun = one_more _ _ _ _ _ _ _ (nothing_yet _ (head ++ waits ++ last)) parts _ (same_text _ _ _ _ _ c.stuck_head.ensures c.in_ok-put_line.ensures) in
    let waits_are = ap (flat_map (wait_line m.set m.state)) (chain_is (waits_for m.set m.state) (proc_count m.set.topo) p (c.procs.result + 1) (ap (λ n. n + 1) c.procs.ensures.value)) in
    failed _ _ _ _ _ _ _ begun refl _
    c.from_residual-in_err-put_waits.result c.from_residual-in_err-put_waits.ensures.0 (same_text _ _ _ _ _ waits_are c.in_err-put_waits.ensures)

pub returns : goal.returns
unfolding outcome_lines
returns g c =
    let m = c.args.m.now in
    let p = c.args.p.0 in
    let head = codes "outcome stuck\n" in
    let waits = flat_map (wait_line m.set m.state) (chain m.set m.state p) in
    let last = ends_line (chain_end m.set m.state p) (mark_of m.set m.state (chain_end m.set m.state p)) in
    let parts = append_assoc head waits last in
    let begun = one_more _ _ _ _ _ _ _ (nothing_yet _ (head ++ waits ++ last)) parts _ (same_text _ _ _ _ _ c.stuck_head.ensures c.in_ok-put_line.ensures) in
    let waits_are = ap (flat_map (wait_line m.set m.state)) (chain_is (waits_for m.set m.state) (proc_count m.set.topo) p (c.procs.result + 1) (ap (λ n. n + 1) c.procs.ensures.value)) in
    let more = one_more _ _ _ _ _ _ _ begun refl _ (same_text _ _ _ _ _ waits_are c.in_ok-put_waits.ensures) in
    let last_is : c.ends_line.result ≡ last = c.ends_line.ensures ∙ ap (λ p. ends_line p (mark_of m.set m.state p)) c.chain_end.ensures.end in
    last_part _ _ _ _ _ _ _ more refl (same_text _ _ _ _ _ last_is c.put_line-2.ensures)
