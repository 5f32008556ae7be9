use Rattle.std.proofs.Common.{◌≡◌, ◌+◌, ◌++◌, ◌∙◌, ap, drop, length, map, arith}
use Rattle.raw_text.specs.Tokens.{token_at}
use Rattle.raw_text.specs.Cutting.{AreCut}
use Rattle.raw_text.proofs.Runs.{runs_more, runs_end, run_at, run_pushed, run_absent, run_is_token}
use Rattle.raw_text.proofs.Orders.{cut_pushed, cut_kept, kept_length, kept_pushed}
use Rattle.raw_text.proofs.lines.cut_tokens.Goals as goal
use Rattle.raw_text.proofs.lines.cut_tokens.Goals.{then-at-stop+in_ok-push, else-at-stop}

pub loop-at-preserved : goal.loop-at-preserved
loop-at-preserved c =
    let bytes = c.args.bytes.now in
    let first = c.args.starts.now.items in
    let old = c.loop-at.starts.items in
    let new = c.if-at-stop.starts.items in
    let at = c.loop-at.at in
    let stop = at + c.run_len.result in
    let loop = c.loop-at.invariant in
    let token = run_is_token bytes c.args.start at c.args.end c.run_len.result c.requires.code loop.from c.loop-at-test.true c.requires.within c.run_len.ensures.place in
    let kept : new ≡ first ++ drop (length first) new =
    elim c.if-at-stop.branch [
      | then-at-stop+in_ok-push w ↦ kept_pushed first old new at loop.kept (ap (λ v. v.items) w.starts-is ∙ w.in_ok-push.ensures.items)
      | else-at-stop w ↦ rw (ap (λ v. v.items) w.starts-is) loop.kept
    ] in
    let added : map (token_at bytes) (drop (length first) new) ≡ map (token_at bytes) (drop (length first) old) ++ run_at bytes at stop =
    elim c.if-at-stop.branch [
      | then-at-stop+in_ok-push w ↦ run_pushed bytes at stop (length first) old new w.if-at-stop.true (kept_length first old loop.kept) token (ap (λ v. v.items) w.starts-is ∙ w.in_ok-push.ensures.items)
      | else-at-stop w ↦ run_absent bytes at stop (length first) old new w.if-at-stop.false (ap (λ v. v.items) w.starts-is)
    ] in
    let cut : AreCut bytes (stop + 1) new =
    elim c.if-at-stop.branch [
      | then-at-stop+in_ok-push w ↦ cut_pushed bytes at stop old new w.if-at-stop.true (omega arith) token (ap (λ v. v.items) w.starts-is ∙ w.in_ok-push.ensures.items) loop.cut
      | else-at-stop w ↦ cut_kept bytes at (stop + 1) old new (omega arith) (ap (λ v. v.items) w.starts-is) loop.cut
    ] in
    record {
      from = omega arith;
      stop = omega arith;
      kept = kept;
      runs = rw added (runs_more bytes at c.args.end c.run_len.result (map (token_at bytes) (drop (length first) old)) _ c.loop-at-test.true c.requires.within c.run_len.ensures.place loop.runs);
      cut = cut;
    }

pub returns-clause-tokens : goal.returns-clause-tokens
returns-clause-tokens c = record {
  kept = c.loop-at.invariant.kept;
  added = runs_end c.args.bytes.now c.loop-at.at c.args.end _ _ c.loop-at-test.false c.loop-at.invariant.runs;
}
