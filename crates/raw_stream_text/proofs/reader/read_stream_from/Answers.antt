use Rattle.std.proofs.Common.{◌≡◌, suc, ◌+◌, ◌-◌, ◌<◌, ◌≤◌, ◌++◌, length, take, drop, Err, sym, ap, ◌∙◌, subst, arith}
use Rattle.std.specs.Prelude.{IfOk, IfErr}
use Rattle.std.specs.Option.{option_map, option_to_list}
use Rattle.std.specs.List.{All, filter_map}
use Rattle.std.proofs.lemmas.List.{take_all, take_rest, length-drop}
use Rattle.raw_text.specs.Text.{text_lines}
use Rattle.raw_asm.specs.Tokens.{tokens_of, section_lines}
use Rattle.raw_answer.specs.Places.{AreFaultless}
use Rattle.raw_flow_text.specs.Building.{Answers}
use Rattle.raw_flow_text.proofs.Causes.{passed}
use Rattle.raw_stream_text.specs.Seated.{IsNear}
use Rattle.raw_stream_text.specs.Forms.{line_statement}
use Rattle.raw_stream_text.specs.Faults.{line_fault}
use Rattle.raw_stream_text.specs.Meaning.{said_before, said_in, fault_at, IsMeaning, IsCause}
use Rattle.raw_stream_text.specs.Building.{BuilderStands}
use Rattle.raw_stream_text.proofs.Next.{said_next, said_split_at, few_said}
use Rattle.raw_stream_text.proofs.Passing.{line_passes, line_refused, end_refused, end_meant, all_sound}
use Rattle.raw_stream_text.proofs.Ending.{meant_fed}
use Rattle.raw_stream_text.proofs.Built.{near_sources, near_sinks, few_nodes, few_outs}
use Rattle.raw_stream_text.proofs.reader.read_stream_from.Goals as goal

pub returns-in_err-add_line-clause-cause : goal.returns-in_err-add_line-clause-cause
returns-in_err-add_line-clause-cause c =
    let claimed = option_map (λ topo. topo.now) c.args.claimed in
    let lines = section_lines c.new-lines.result in
    let k = c.loop-place.place in
    let lt : k < length lines = omega arith in
    let rest = filter_map line_statement (drop (suc k) lines) in
    let refusal = c.in_err-add_line.field-0.0 in
    let split = said_split_at lines k (tokens_of c.line.result) lt c.line.ensures in
    let answers = subst (λ line. Answers {T = Unit {0}} (Err refusal) c.line_number-number.result (line_fault claimed (said_in lines) (said_before lines k) line)) c.line.ensures
    ((c.in_err-add_line.ensures {u = tt}).fault (said_in lines) (said_before lines k) rest c.in_ok-named.ensures split c.loop-place.invariant.stands) in
    let number : c.line_number-number.result ≡ k + 1 + c.args.from = omega (arith, c.line_number-number.ensures, c.new-lines.ensures.from) in
    let whole : lines ≡ drop c.args.from (text_lines c.args.text.now) = c.new-lines.ensures.lines ∙ ap (λ n. take (n - c.args.from) (drop c.args.from (text_lines c.args.text.now))) c.line_count.ensures.count ∙ take_rest (text_lines c.args.text.now) c.args.from in
    subst (λ all. IfErr c.from_residual-in_err-add_line.result (IsCause claimed c.args.from all)) whole
    (passed (IsCause claimed c.args.from lines) c.from_residual-in_err-add_line.result refusal c.from_residual-in_err-add_line.ensures.1
    (line_refused claimed c.args.from lines (Unit {0}) k c.line_number-number.result refusal number lt c.loop-place.invariant.faultless answers))

pub loop-place-init : goal.loop-place-init
loop-place-init c = record { stands = c.new-builder.ensures (said_in (section_lines c.new-lines.result)); faultless = λ k below. absurd (omega (arith, below)) }

pub loop-place-preserved : goal.loop-place-preserved
loop-place-preserved c =
    let claimed = option_map (λ topo. topo.now) c.args.claimed in
    let lines = section_lines c.new-lines.result in
    let k = c.loop-place.place in
    let lt : k < length lines = omega arith in
    let rest = filter_map line_statement (drop (suc k) lines) in
    let kept = c.in_ok-add_line.ensures {u = tt} in
    let split = said_split_at lines k (tokens_of c.line.result) lt c.line.ensures in
    record {
      stands = subst (BuilderStands c.add_line.new.self (said_in lines)) (sym (said_next lines k lt))
          (subst (λ line. BuilderStands c.add_line.new.self (said_in lines) (said_before lines k ++ option_to_list (line_statement line))) c.line.ensures
          (kept.stands (said_in lines) (said_before lines k) rest c.in_ok-named.ensures split c.loop-place.invariant.stands));
      faultless = line_passes claimed c.args.from lines k lt c.loop-place.invariant.faultless
          (ap (line_fault claimed (said_in lines) (said_before lines k)) (sym c.line.ensures) ∙ kept.fault (said_in lines) (said_before lines k) rest c.in_ok-named.ensures split c.loop-place.invariant.stands);
    }

pub finish-requires : goal.finish-requires
finish-requires c =
    let claimed = option_map (λ topo. topo.now) c.args.claimed in
    let lines = section_lines c.new-lines.result in
    let last : c.loop-place.place ≡ length lines = omega arith in
    let faultless = subst (AreFaultless (fault_at claimed lines)) last c.loop-place.invariant.faultless in
    let stands = subst (λ k. BuilderStands c.loop-place.builder (said_in lines) (said_before lines k)) last c.loop-place.invariant.stands in
    let said : said_before lines (length lines) ≡ said_in lines = ap (filter_map line_statement) (take_all (length lines) lines (omega arith)) in
    let all_stand = subst (BuilderStands c.loop-place.builder (said_in lines)) said stands in
    let sound = all_sound claimed c.args.from lines faultless in
    let few : length (said_in lines) ≤ length lines = few_said line_statement lines in
    let nodes = few_nodes c.loop-place.builder (said_in lines) (length lines) few all_stand in
    let outs = few_outs c.loop-place.builder (said_in lines) (length lines) few all_stand in
    record {
      nodes = omega (arith, nodes);
      outs = omega (arith, outs);
      sources = subst (All IsNear) (sym c.in_ok-named.ensures.sources) (near_sources claimed (said_in lines) sound);
      sinks = subst (All IsNear) (sym c.in_ok-named.ensures.sinks) (near_sinks claimed (said_in lines) sound);
    }

pub returns-clause-meaning : goal.returns-clause-meaning
returns-clause-meaning c =
    let claimed = option_map (λ topo. topo.now) c.args.claimed in
    let lines = section_lines c.new-lines.result in
    let last : c.loop-place.place ≡ length lines = omega arith in
    let faultless = subst (AreFaultless (fault_at claimed lines)) last c.loop-place.invariant.faultless in
    let stands = subst (λ k. BuilderStands c.loop-place.builder (said_in lines) (said_before lines k)) last c.loop-place.invariant.stands in
    let said : said_before lines (length lines) ≡ said_in lines = ap (filter_map line_statement) (take_all (length lines) lines (omega arith)) in
    let all_stand = subst (BuilderStands c.loop-place.builder (said_in lines)) said stands in
    let whole : lines ≡ drop c.args.from (text_lines c.args.text.now) = c.new-lines.ensures.lines ∙ ap (λ n. take (n - c.args.from) (drop c.args.from (text_lines c.args.text.now))) c.line_count.ensures.count ∙ take_rest (text_lines c.args.text.now) c.args.from in
    subst (λ all. IfOk c.finish.result (IsMeaning claimed all)) whole
    (end_meant claimed c.args.from lines c.finish.result _ faultless (c.finish.ensures.fault (said_in lines) c.in_ok-named.ensures all_stand) (c.finish.ensures.fed (said_in lines) c.in_ok-named.ensures all_stand))

pub returns-clause-cause : goal.returns-clause-cause
returns-clause-cause c =
    let claimed = option_map (λ topo. topo.now) c.args.claimed in
    let lines = section_lines c.new-lines.result in
    let last : c.loop-place.place ≡ length lines = omega arith in
    let faultless = subst (AreFaultless (fault_at claimed lines)) last c.loop-place.invariant.faultless in
    let stands = subst (λ k. BuilderStands c.loop-place.builder (said_in lines) (said_before lines k)) last c.loop-place.invariant.stands in
    let said : said_before lines (length lines) ≡ said_in lines = ap (filter_map line_statement) (take_all (length lines) lines (omega arith)) in
    let all_stand = subst (BuilderStands c.loop-place.builder (said_in lines)) said stands in
    let whole : lines ≡ drop c.args.from (text_lines c.args.text.now) = c.new-lines.ensures.lines ∙ ap (λ n. take (n - c.args.from) (drop c.args.from (text_lines c.args.text.now))) c.line_count.ensures.count ∙ take_rest (text_lines c.args.text.now) c.args.from in
    let long : length lines ≡ length (text_lines c.args.text.now) - c.args.from = ap length whole ∙ length-drop c.args.from (text_lines c.args.text.now) in
    subst (λ all. IfErr c.finish.result (IsCause claimed c.args.from all)) whole
    (end_refused claimed c.args.from lines c.finish.result _ (omega (arith, long)) faultless (c.finish.ensures.fault (said_in lines) c.in_ok-named.ensures all_stand))

pub returns-clause-fed : goal.returns-clause-fed
returns-clause-fed c =
    let claimed = option_map (λ topo. topo.now) c.args.claimed in
    let lines = section_lines c.new-lines.result in
    let last : c.loop-place.place ≡ length lines = omega arith in
    let faultless = subst (AreFaultless (fault_at claimed lines)) last c.loop-place.invariant.faultless in
    let stands = subst (λ k. BuilderStands c.loop-place.builder (said_in lines) (said_before lines k)) last c.loop-place.invariant.stands in
    let said : said_before lines (length lines) ≡ said_in lines = ap (filter_map line_statement) (take_all (length lines) lines (omega arith)) in
    let all_stand = subst (BuilderStands c.loop-place.builder (said_in lines)) said stands in
    meant_fed claimed lines c.finish.result
    (end_meant claimed c.args.from lines c.finish.result _ faultless (c.finish.ensures.fault (said_in lines) c.in_ok-named.ensures all_stand) (c.finish.ensures.fed (said_in lines) c.in_ok-named.ensures all_stand))
