use Rattle.std.proofs.Common.{◌≡◌, ◌+◌, ◌-◌, ◌<◌, ◌++◌, ◌∷◌, [], length, map, take, drop, Err, Some, sym, ap, ◌∙◌, subst, arith}
use Rattle.std.specs.Prelude.{IfErr}
use Rattle.std.proofs.lemmas.List.{take_rest, length-drop}
use Rattle.std.proofs.Math.Seq.{take-length}
use Rattle.raw_text.specs.Text.{text_lines}
use Rattle.raw_answer.specs.Places.{AreFaultless}
use Rattle.raw_asm.specs.Tokens.{section_lines}
use Rattle.raw_flow_text.specs.Faults as flow_line
use Rattle.raw_flow_text.specs.Building.{Answers}
use Rattle.raw_flow_text.proofs.Causes.{passed}
use Rattle.raw_claim_text.specs.Forms.{plain_line}
use Rattle.raw_claim_text.specs.Placing.{place_said, said_places, said_in, line_fault}
use Rattle.raw_claim_text.specs.Lines.{size_of, fault_at, IsMeaning, IsCause}
use Rattle.raw_claim_text.specs.Building.{ClaimStands, claim_of}
use Rattle.raw_claim_text.proofs.Reading.{line_passes, stands_next, line_refused, end_refused, ended_fed, meant}
use Rattle.raw_claim_text.proofs.reader.read_lines.Goals as goal

pub loop-place-init : goal.loop-place-init
loop-place-init c = record {
  stands = c.new-builder.ensures.stands c.args.topo.now;
  faultless = λ k below. absurd (omega (arith, below));
  room = omega (arith, c.new-builder.ensures.none);
}

pub returns-in_err-add_line-clause-cause : goal.returns-in_err-add_line-clause-cause
returns-in_err-add_line-clause-cause c =
    let lines = section_lines c.new-lines.result in
    let topo = c.args.topo.now in
    let k = c.loop-place.place in
    let lt : k < length lines = omega arith in
    let refusal = c.in_err-add_line.field-0.0 in
    let answers = subst (λ line. Answers {T = Unit {0}} (Err refusal) c.line_number-number.result
    (line_fault (flow_line.line_fault (Some (size_of topo)) (said_in (take k lines)) (plain_line line)) (place_said topo (said_places topo (take k lines)) line)))
    c.line.ensures ((c.in_err-add_line.ensures {u = tt}).fault (take k lines) c.loop-place.invariant.stands) in
    let number : c.line_number-number.result ≡ k + 1 + c.args.from = omega (arith, c.line_number-number.ensures, c.new-lines.ensures.from) in
    let whole : lines ≡ drop c.args.from (text_lines c.args.text.now) = c.new-lines.ensures.lines ∙ ap (λ n. take (n - c.args.from) (drop c.args.from (text_lines c.args.text.now))) c.line_count.ensures.count ∙ take_rest (text_lines c.args.text.now) c.args.from in
    subst (λ all. IfErr c.from_residual-in_err-add_line.result (IsCause topo c.args.from all)) whole
    (passed (IsCause topo c.args.from lines) c.from_residual-in_err-add_line.result refusal c.from_residual-in_err-add_line.ensures.1
    (line_refused topo c.args.from lines (Unit {0}) k c.line_number-number.result refusal number lt c.loop-place.invariant.faultless answers))

pub loop-place-preserved : goal.loop-place-preserved
loop-place-preserved c =
    let lines = section_lines c.new-lines.result in
    let topo = c.args.topo.now in
    let k = c.loop-place.place in
    let lt : k < length lines = omega arith in
    let kept = c.in_ok-add_line.ensures {u = tt} in
    let stands = c.loop-place.invariant.stands in
    record {
      stands = stands_next topo c.args.from lines c.add_line.new.self k lt (subst (λ line. ClaimStands topo c.add_line.new.self (take k lines ++ line ∷ [])) c.line.ensures (kept.stands (take k lines) stands));
      faultless = line_passes topo c.args.from lines k lt c.loop-place.invariant.faultless
          (ap (λ line. line_fault (flow_line.line_fault (Some (size_of topo)) (said_in (take k lines)) (plain_line line)) (place_said topo (said_places topo (take k lines)) line)) (sym c.line.ensures)
          ∙ kept.fault (take k lines) stands);
      room = let room = kept.room in omega (arith, room, c.loop-place.invariant.room);
    }

pub finish-requires : goal.finish-requires
finish-requires c =
    let lines = section_lines c.new-lines.result in
    let topo = c.args.topo.now in
    let last : c.loop-place.place ≡ length lines = omega arith in
    let faultless = subst (AreFaultless (fault_at topo lines)) last c.loop-place.invariant.faultless in
    let stands = subst (ClaimStands topo c.loop-place.builder) (ap (λ n. take n lines) last ∙ take-length lines) c.loop-place.invariant.stands in
    (said_in lines, stands.flow, ended_fed topo c.args.from lines (c.law_one_answer.ensures (Some (size_of topo)) c.args.from (map plain_line lines)) faultless)

pub returns-in_err-read-clause-cause : goal.returns-in_err-read-clause-cause
returns-in_err-read-clause-cause c =
    let lines = section_lines c.new-lines.result in
    let topo = c.args.topo.now in
    let last : c.loop-place.place ≡ length lines = omega arith in
    let refusal = c.in_err-read.field-0.0 in
    let faultless = subst (AreFaultless (fault_at topo lines)) last c.loop-place.invariant.faultless in
    let stands = subst (ClaimStands topo c.loop-place.builder) (ap (λ n. take n lines) last ∙ take-length lines) c.loop-place.invariant.stands in
    let whole : lines ≡ drop c.args.from (text_lines c.args.text.now) = c.new-lines.ensures.lines ∙ ap (λ n. take (n - c.args.from) (drop c.args.from (text_lines c.args.text.now))) c.line_count.ensures.count ∙ take_rest (text_lines c.args.text.now) c.args.from in
    let long : length lines ≡ length (text_lines c.args.text.now) - c.args.from = ap length whole ∙ length-drop c.args.from (text_lines c.args.text.now) in
    subst (λ all. IfErr c.from_residual-in_err-read.result (IsCause topo c.args.from all)) whole
    (passed (IsCause topo c.args.from lines) c.from_residual-in_err-read.result refusal c.from_residual-in_err-read.ensures.1
    (end_refused topo c.args.from lines (Unit {0}) _ refusal (omega (arith, long)) faultless ((c.in_err-read.ensures {u = tt}).fault (said_in lines) stands.flow)))

pub returns-clause-meaning : goal.returns-clause-meaning
returns-clause-meaning c =
    let lines = section_lines c.new-lines.result in
    let topo = c.args.topo.now in
    let last : c.loop-place.place ≡ length lines = omega arith in
    let faultless = subst (AreFaultless (fault_at topo lines)) last c.loop-place.invariant.faultless in
    let stands = subst (ClaimStands topo c.loop-place.builder) (ap (λ n. take n lines) last ∙ take-length lines) c.loop-place.invariant.stands in
    let whole : lines ≡ drop c.args.from (text_lines c.args.text.now) = c.new-lines.ensures.lines ∙ ap (λ n. take (n - c.args.from) (drop c.args.from (text_lines c.args.text.now))) c.line_count.ensures.count ∙ take_rest (text_lines c.args.text.now) c.args.from in
    subst (λ all. IsMeaning topo all (claim_of (record { read = c.in_ok-read.read; places = c.loop-place.builder.places }))) whole
    (meant topo c.args.from lines (claim_of (record { read = c.in_ok-read.read; places = c.loop-place.builder.places })) faultless (c.in_ok-read.ensures.fault (said_in lines) stands.flow)
    (c.in_ok-read.ensures.fed (said_in lines) stands.flow) stands.places)
