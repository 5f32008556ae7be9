use Rattle.std.proofs.Common.{◌≡◌, ◌+◌, ◌≤◌, length, drop, length-drop, sym, ap, subst, ◌∙◌, arith}
use Rattle.std.specs.Prelude.{nat_lt}
use Rattle.std.specs.List.{position_or_len}
use Rattle.std.proofs.lemmas.List.{take_rest}
use Rattle.raw_text.specs.Lines.{runs_of, is_blank}
use Rattle.raw_debug.proofs.Runs.{one_most, no_runs, count_more}
use Rattle.raw_debug.proofs.tokens.count_runs.Goals as goal

pub runs-preserved : goal.runs-preserved
runs-preserved c =
    let bytes = c.args.bytes.now in
    let at = c.runs.at in
    let long = c.run_len-long.result in
    let place_is = c.run_len-long.ensures.place ∙ ap (position_or_len is_blank) (take_rest bytes at) in
    let within = subst (λ xs. long ≤ length xs) (take_rest bytes at) c.run_len-long.ensures.within in
    let whole = length (runs_of bytes) in
    let few = subst (λ n. n ≤ 1) (sym c.one_where-count.ensures) (one_most (nat_lt 0 long)) in
    record {
      so_far = subst (λ n. c.runs.count + n + length (runs_of (drop (at + long + 1) bytes)) ≡ whole) (sym c.one_where-count.ensures)
          (count_more bytes at long place_is within c.runs.count whole c.runs.invariant.so_far);
      within = let rest = length-drop at bytes in omega (arith, within, rest, c.runs-test.true);
      few = omega (arith, few, c.runs.invariant.few);
    }

pub returns : goal.returns
returns c =
    let none = ap length (no_runs c.args.bytes.now c.runs.at (omega (arith, c.runs-test.false))) in
    omega (arith, none, c.runs.invariant.so_far)
