use Rattle.std.proofs.Common.{◌≡◌, ◌+◌, ◌-◌, ◌<◌, ◌≤◌, length, get_or, [], drop, refl, sym, ap, subst, ◌∙◌, arith, length-drop}
use Rattle.std.proofs.lemmas.List.{at_drop_all}
use Rattle.raw_text.specs.Text.{text_lines}
use Rattle.raw_lines.specs.LabelsOf.{places_in}
use Rattle.raw_debug.specs.declared.debugging.DebugRefusal.{DebugRefusal}
use Rattle.raw_debug.specs.Commands.{meant, readings_from}
use Rattle.raw_debug.specs.Script.{is_past, past_end, text_from, script_text, moved_by, Spot}
use Rattle.raw_debug.specs.Live.{Session}
use Rattle.raw_state_text.proofs.Sections.{Begun, nothing_yet, all_written, one_more, failed}
use Rattle.raw_debug.proofs.Readings.{AreLeft, all_left, absent}
use Rattle.raw_debug.proofs.Following.{start_text, fault_told, rest_is, left_next, nothing_left, past_found, others_left, none_past, moved_current}
use Rattle.raw_debug.proofs.debugging.follow.Goals as goal

pub loop-line-init : goal.loop-line-init
loop-line-init g c =
    let labels = places_in c.args.labels.now in
    let of = c.args.debugger.now.set in
    let all = text_lines c.args.text.now in
    let from = c.args.from in
    let spot = c.args.debugger.now.spot in
    let sight = g.K.Sink.sight c.args.out.now in
    let whole = script_text labels of (drop from all) in
    let none : from - from ≡ 0 = omega arith in
    record {
      same = refl;
      left = all_left labels of all from spot.current (ap (λ (s : Spot). readings_from labels of s.current (drop from all)) c.requires.first);
      none = λ k lt. absurd (omega (arith, lt, none));
      begun = subst (λ rest. Begun sight sight rest whole) (start_text labels of (drop from all) spot (from - from) c.requires.first none) (nothing_yet sight whole);
    }

pub returns-in_err-done : goal.returns-in_err-done
returns-in_err-done g c =
    let labels = places_in c.args.labels.now in
    let all = text_lines c.args.text.now in
    let line = c.loop-line.line in
    let spot = c.loop-line.debugger.spot in
    let lt : line < length all = omega (arith, c.loop-line-test.true, c.line_count-line-end.ensures.count) in
    let read = c.read-reading.ensures.meaning in
    let parts = rest_is labels c.args.debugger.now.set _ c.loop-line.invariant.same all c.args.from line spot c.loop-line.invariant.left lt _ read in
    fault_told labels c.args.debugger.now.set c.args.from (drop c.args.from all) _ _ c.from_residual.result c.from_residual.ensures.1 c.requires.good
    (failed _ _ _ _ _ _ _ c.loop-line.invariant.begun parts _ c.from_residual.result c.from_residual.ensures.0 c.in_err-done.ensures.writes)

pub returns-then-not-done : goal.returns-then-not-done
unfolding past_end
returns-then-not-done g c =
    let labels = places_in c.args.labels.now in
    let of = c.args.debugger.now.set in
    let same = c.loop-line.invariant.same in
    let all = text_lines c.args.text.now in
    let from = c.args.from in
    let line = c.loop-line.line in
    let spot = c.loop-line.debugger.spot in
    let left = c.loop-line.invariant.left in
    let lt : line < length all = omega (arith, c.loop-line-test.true, c.line_count-line-end.ensures.count) in
    let read = c.read-reading.ensures.meaning in
    let stops = sym c.in_ok-done.ensures.answer ∙ c.if-not-done.true in
    let begun = one_more _ _ _ _ _ _ _ c.loop-line.invariant.begun (rest_is labels of _ same all from line spot left lt _ read) _ c.in_ok-done.ensures.writes in
    let written = all_written {T = Unit {0}} {E = DebugRefusal} _ _ _ _ (tt {0}) begun (nothing_left labels of _ same all from line spot left lt _ read stops) in
    record {
      ok = tt;
      cause = (
        line - from,
        c.requires.good,
        past_found labels of _ same all from line spot left lt _ read stops c.loop-line.invariant.none,
        omega (arith, c.loop-line.auto.line),
        written.ok,
      );
      after = tt;
      count = written.count;
    }

pub loop-line-preserved : goal.loop-line-preserved
loop-line-preserved g c =
    let labels = places_in c.args.labels.now in
    let of = c.args.debugger.now.set in
    let same = c.loop-line.invariant.same in
    let all = text_lines c.args.text.now in
    let from = c.args.from in
    let line = c.loop-line.line in
    let spot = c.loop-line.debugger.spot in
    let left = c.loop-line.invariant.left in
    let lt : line < length all = omega (arith, c.loop-line-test.true, c.line_count-line-end.ensures.count) in
    let read = c.read-reading.ensures.meaning in
    let goes = sym c.in_ok-done.ensures.answer ∙ c.if-not-done.false in
    let begun = one_more _ _ _ _ _ _ _ c.loop-line.invariant.begun (rest_is labels of _ same all from line spot left lt _ read) _ c.in_ok-done.ensures.writes in
    let reading = meant c.read-reading.result (get_or all line []) in
    let spot_is : moved_by of spot reading ≡ c.follow.new.self.spot = sym (ap (λ (s : Session). s.spot) c.follow.ensures.moved ∙ ap (λ g. moved_by g spot reading) same) in
    let current_is = sym (moved_current of spot reading) ∙ ap (λ (s : Spot). s.current) spot_is in
    let old = g.K.Sink.sight c.args.out.now in
    let new = g.K.Sink.sight c.follow.new.out in
    record {
      same = ap (λ (s : Session). s.set) c.follow.ensures.moved ∙ same;
      left = subst (AreLeft labels of all from (line + 1)) current_is (left_next labels of _ same all from line spot left lt _ read);
      none = none_past labels of _ same all from line spot left lt _ read goes c.loop-line.invariant.none;
      begun = subst (λ (s : Spot). Begun old new (text_from of s (readings_from labels of s.current (drop (line + 1 - from) (drop from all)))) (script_text labels of (drop from all))) spot_is
          (subst (λ rest. Begun old new rest (script_text labels of (drop from all))) (others_left labels of _ same all from line spot left lt _ read goes) begun);
    }

pub returns : goal.returns
unfolding past_end
returns g c =
    let labels = places_in c.args.labels.now in
    let of = c.args.debugger.now.set in
    let all = text_lines c.args.text.now in
    let from = c.args.from in
    let line = c.loop-line.line in
    let spot = c.loop-line.debugger.spot in
    let left = c.loop-line.invariant.left in
    let le : length all ≤ line = omega (arith, c.loop-line-test.false, c.line_count-line-end.ensures.count) in
    let none_left = at_drop_all (λ lines. text_from of spot (readings_from labels of spot.current lines)) (drop from all) (line - from) (omega (arith, le, left.past, length-drop from all)) in
    let written = all_written {T = Unit {0}} {E = DebugRefusal} _ _ _ _ (tt {0}) c.loop-line.invariant.begun none_left in
    record {
      ok = (absent labels of all from line spot.current left (is_past of) c.loop-line.invariant.none le, written.ok);
      cause = tt;
      after = tt;
      count = written.count;
    }
