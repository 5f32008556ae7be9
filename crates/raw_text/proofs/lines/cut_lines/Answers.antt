use Rattle.std.proofs.Common.{◌≡◌, ◌+◌, ◌∙◌, Some, None, drop, length, ap, map, subst, sym, arith}
use Rattle.std.specs.Prelude.{slice_range}
use Rattle.std.proofs.lemmas.List.{length_push}
use Rattle.raw_text.specs.Lines.{lines_of, tokens_of, line_fault, first_fault}
use Rattle.raw_text.specs.Tokens.{line_tokens}
use Rattle.raw_text.proofs.Runs.{plain_line}
use Rattle.raw_text.proofs.LinesInTurn.{line_at, drop_next, fault_is_cause, fault_here, fault_later, none_left, plain_where_faultless, take_whole, tokens_next}
use Rattle.raw_text.proofs.Orders.{kept_length, lines_cut_pushed, lines_kept, line_added}
use Rattle.raw_text.proofs.lines.cut_lines.Goals as goal

pub returns-in-Some-clause-cause : goal.returns-in-Some-clause-cause
returns-in-Some-clause-cause c =
    let bytes = c.args.bytes.now in
    let all = lines_of bytes in
    let k = length c.loop-at.lines.items in
    let line = slice_range bytes c.loop-at.at (c.loop-at.at + c.line_len.result) in
    let loop = c.loop-at.invariant in
    let here = line_at bytes all k c.loop-at.at c.line_len.result c.loop-at-test.true c.line_len.ensures.place loop.rest in
    let fault : line_fault (k + 1) line ≡ Some c.in-Some.fault = subst (λ n. line_fault n line ≡ Some c.in-Some.fault) loop.number (sym c.fault_of.ensures ∙ c.in-Some.is) in
    fault_is_cause c.in-Some.fault (first_fault 1 all) (sym loop.faultless ∙ ap (first_fault (k + 1)) here ∙ fault_here (k + 1) line (lines_of (drop (c.loop-at.at + c.line_len.result + 1) bytes)) c.in-Some.fault fault)

pub cut_line-requires-clause-line : goal.cut_line-requires-clause-line
cut_line-requires-clause-line c =
    let bytes = c.args.bytes.now in
    let line = slice_range bytes c.loop-at.at (c.loop-at.at + c.line_len.result) in
    plain_line bytes c.loop-at.at c.line_len.result c.loop-at-test.true c.line_len.ensures.place (plain_where_faultless c.loop-at.number line (sym c.fault_of.ensures ∙ c.in_default.is))

pub loop-at-preserved : goal.loop-at-preserved
loop-at-preserved c =
    let bytes = c.args.bytes.now in
    let all = lines_of bytes in
    let starts = c.loop-at.starts.items in
    let more = c.cut_line.new.starts.items in
    let old = c.loop-at.lines.items in
    let new = c.push.new.self.items in
    let k = length old in
    let line = slice_range bytes c.loop-at.at (c.loop-at.at + c.line_len.result) in
    let loop = c.loop-at.invariant in
    let cut = c.in_ok-line.ensures in
    let here = line_at bytes all k c.loop-at.at c.line_len.result c.loop-at-test.true c.line_len.ensures.place loop.rest in
    let count : length new ≡ k + 1 = ap length c.in_ok-push.ensures.items ∙ length_push old c.in_ok-line.line in
    let plain : line_fault (k + 1) line ≡ None = subst (λ n. line_fault n line ≡ None) loop.number (sym c.fault_of.ensures ∙ c.in_default.is) in
    let before : map (line_tokens bytes more) old ≡ map (line_tokens bytes starts) old =
    ap (λ xs. map (line_tokens bytes xs) old) cut.tokens.kept ∙ lines_kept bytes starts (drop (length starts) more) old loop.lines_cut.parts in
    record {
      number = omega arith;
      few = omega arith;
      bounded = omega arith;
      rest = rw count (drop_next all _ k line here);
      tokens = tokens_next (line_tokens bytes more) tokens_of old new c.in_ok-line.line all _ k line c.in_ok-push.ensures.items count (before ∙ loop.tokens) here
          (line_added bytes starts more c.in_ok-line.line (tokens_of line) cut.tokens cut.first cut.end);
      faultless = rw (count, drop_next all _ k line here) (sym (fault_later (k + 1) line (lines_of (drop (c.loop-at.at + c.line_len.result + 1) bytes)) plain) ∙ ap (first_fault (k + 1)) (sym here) ∙ loop.faultless);
      cut = cut.cut;
      lines_cut = lines_cut_pushed (length starts) (length more) old new c.in_ok-line.line (kept_length starts more cut.tokens.kept) c.in_ok-push.ensures.items cut.first cut.end loop.lines_cut;
    }

pub returns-clause-lines : goal.returns-clause-lines
returns-clause-lines c =
    let all = lines_of c.args.bytes.now in
    let k = length c.loop-at.lines.items in
    let none = none_left c.args.bytes.now all k c.loop-at.at c.loop-at-test.false c.loop-at.invariant.rest in
    c.loop-at.invariant.tokens ∙ ap (map tokens_of) (take_whole all k none)

pub returns-clause-faultless : goal.returns-clause-faultless
returns-clause-faultless c =
    let all = lines_of c.args.bytes.now in
    let k = length c.loop-at.lines.items in
    let none = none_left c.args.bytes.now all k c.loop-at.at c.loop-at-test.false c.loop-at.invariant.rest in
    sym c.loop-at.invariant.faultless ∙ ap (first_fault (k + 1)) none
