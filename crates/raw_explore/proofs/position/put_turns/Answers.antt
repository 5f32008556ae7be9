use Rattle.std.proofs.Common.{arith, ◌≡◌, ℕ, List, suc, ◌<◌, ◌≤◌, ◌+◌, ◌++◌, None, refl, ap, ◌∙◌, subst, get_or}
use Rattle.std.specs.Prelude.{slice_index}
use Rattle.std.specs.List.{flat_map}
use Rattle.std.proofs.lemmas.Option.{get_or_from_slice_get}
use Rattle.raw_grid.specs.Topology.{tile_count, proc_count}
use Rattle.raw_serial.specs.declared.turn.Turn.TheVariants.{Fired}
use Rattle.raw_serial.specs.Running.{turn_of}
use Rattle.raw_clock.specs.Clock.{clock, clock_turns, turn_in, goes}
use Rattle.raw_clock.specs.Engine.{HasTaken}
use Rattle.raw_clock.proofs.Telling.{turn_told, begun}
use Rattle.raw_state_text.proofs.Sections.{nothing_yet, one_more, failed, all_written, next_number, no_number, same_text}
use Rattle.raw_trace.specs.Lines.{turn_lines, turn_before, told_line}
use Rattle.raw_trace.specs.Text.{line_text}
use Rattle.raw_explore.specs.Engine.{lines_by}
use Rattle.raw_explore.proofs.Mid.{took_one, took_set, took_owed, at_next, at_first}
use Rattle.raw_explore.proofs.Telling.{turn_there, lines_told}
use Rattle.raw_explore.proofs.position.put_turns.Goals as goal

pub procs-init : goal.procs-init
procs-init g c =
    let m = c.args.machine.now in
    (c.procs-p-end.ensures.value, refl, (λ q le. refl), at_first m.set c.set-set.ensures.valid m c.args.k c.requires.at, nothing_yet _ _)

pub put_turn-requires-clause-turn : goal.put_turn-requires-clause-turn
put_turn-requires-clause-turn g c =
    let m = c.args.machine.now in
    let set = m.set in
    let k = c.args.k in
    let valid = c.set-set.ensures.valid in
    let p = c.procs.p in
    let turn = get_or c.args.turns.now p Fired in
    let below : p < proc_count set.topo = omega (arith, c.procs-test.true, c.procs.invariant.0) in
    let same : turn ≡ turn_in set (clock set k) p =
    get_or_from_slice_get c.args.turns.now p (turn_of m p) Fired (c.requires.turns p below)
    ∙ turn_told set valid m (clock_turns set k) c.requires.at p (λ past. c.requires.tiles p past below) in
    let none : tile_count set.topo ≤ p → slice_index c.procs.machine.owed p ≡ 0 =
    λ past. c.procs.invariant.2 p (omega arith) ∙ c.requires.tiles p past below in
    turn_there set valid c.procs.machine c.procs.machine k p c.procs.invariant.3 below none turn same

pub returns-in_err-put_turn-clause-set : goal.returns-in_err-put_turn-clause-set
returns-in_err-put_turn-clause-set g c =
    took_set (goes (get_or c.args.turns.now c.procs.p Fired)) c.procs.machine c.put_turn.new.machine c.procs.p c.put_turn.ensures.took ∙ c.procs.invariant.1

pub returns-in_err-put_turn-clause-writes : goal.returns-in_err-put_turn-clause-writes
returns-in_err-put_turn-clause-writes g c =
    let m = c.args.machine.now in
    let set = m.set in
    let k = c.args.k in
    let valid = c.set-set.ensures.valid in
    let p = c.procs.p in
    let turn = get_or c.args.turns.now p Fired in
    let below : p < proc_count set.topo = omega (arith, c.procs-test.true, c.procs.invariant.0) in
    let same : turn ≡ turn_in set (clock set k) p =
    get_or_from_slice_get c.args.turns.now p (turn_of m p) Fired (c.requires.turns p below)
    ∙ turn_told set valid m (clock_turns set k) c.requires.at p (λ past. c.requires.tiles p past below) in
    let none : tile_count set.topo ≤ p → slice_index c.procs.machine.owed p ≡ 0 =
    λ past. c.procs.invariant.2 p (omega arith) ∙ c.requires.tiles p past below in
    let n = c.put_turn.new.machine in
    let text : ℕ → List ℕ = λ q. flat_map line_text (turn_lines set c.args.first k q) in
    let before = get_or c.args.before.now p None in
    let was : before ≡ turn_before set c.args.first k p = get_or_from_slice_get c.args.before.now p (turn_before set c.args.first k p) None (c.requires.before p below) in
    let is : flat_map line_text (lines_by c.procs.machine n p turn before) ≡ text p =
    ap (flat_map line_text)
    (lines_told set valid c.procs.machine n k p c.procs.invariant.3 below none turn before same c.put_turn.ensures.took
    ∙ ap (told_line set (clock set k) p (turn_in set (clock set k) p)) was) in
    let next = next_number text (proc_count set.topo) p below in
    failed _ _ _ _ _ _ _ c.procs.invariant.4 next _ c.from_residual.result c.from_residual.ensures.0
    (same_text _ _ _ _ _ is c.in_err-put_turn.ensures.writes)

pub procs-preserved : goal.procs-preserved
procs-preserved g c =
    let m = c.args.machine.now in
    let set = m.set in
    let k = c.args.k in
    let valid = c.set-set.ensures.valid in
    let p = c.procs.p in
    let turn = get_or c.args.turns.now p Fired in
    let below : p < proc_count set.topo = omega (arith, c.procs-test.true, c.procs.invariant.0) in
    let same : turn ≡ turn_in set (clock set k) p =
    get_or_from_slice_get c.args.turns.now p (turn_of m p) Fired (c.requires.turns p below)
    ∙ turn_told set valid m (clock_turns set k) c.requires.at p (λ past. c.requires.tiles p past below) in
    let none : tile_count set.topo ≤ p → slice_index c.procs.machine.owed p ≡ 0 =
    λ past. c.procs.invariant.2 p (omega arith) ∙ c.requires.tiles p past below in
    let n = c.put_turn.new.machine in
    let text : ℕ → List ℕ = λ q. flat_map line_text (turn_lines set c.args.first k q) in
    let before = get_or c.args.before.now p None in
    let was : before ≡ turn_before set c.args.first k p = get_or_from_slice_get c.args.before.now p (turn_before set c.args.first k p) None (c.requires.before p below) in
    let is : flat_map line_text (lines_by c.procs.machine n p turn before) ≡ text p =
    ap (flat_map line_text)
    (lines_told set valid c.procs.machine n k p c.procs.invariant.3 below none turn before same c.put_turn.ensures.took
    ∙ ap (told_line set (clock set k) p (turn_in set (clock set k) p)) was) in
    let next = next_number text (proc_count set.topo) p below in
    let after : suc p ≡ p + 1 = omega arith in (
      c.procs.invariant.0,
      took_set (goes turn) c.procs.machine n p c.put_turn.ensures.took ∙ c.procs.invariant.1,
      (λ q later.
          took_owed (goes turn) c.procs.machine n p q (λ e. absurd (omega (arith, e, later))) c.put_turn.ensures.took
          ∙ c.procs.invariant.2 q (omega (arith, later))),
      subst (λ j. HasTaken set n (clock_turns set k ++ begun set valid (clock_turns set k) j)) after
          (took_one set valid c.procs.machine n (clock_turns set k) p none below c.procs.invariant.3 turn same c.put_turn.ensures.took),
      one_more _ _ _ _ _ _ _ c.procs.invariant.4 next _ (same_text _ _ _ _ _ is c.in_ok-put_turn.ensures.writes),
    )

pub returns-clause-at : goal.returns-clause-at
returns-clause-at g c =
    let set = c.args.machine.now.set in
    at_next set c.set-set.ensures.valid c.procs.machine c.args.k c.procs.p c.procs.invariant.1
    (omega (arith, c.procs-test.false, c.procs.invariant.0, c.procs.auto.p-end)) c.procs.invariant.3

pub returns-clause-writes : goal.returns-clause-writes
returns-clause-writes g c =
    let set = c.args.machine.now.set in
    let text : ℕ → List ℕ = λ q. flat_map line_text (turn_lines set c.args.first c.args.k q) in
    let le : proc_count set.topo ≤ c.procs.p = omega (arith, c.procs-test.false, c.procs.invariant.0) in
    all_written _ _ _ _ _ c.procs.invariant.4 (no_number text (proc_count set.topo) c.procs.p le)
