use Rattle.std.proofs.Common.{◌≡◌, ◌+◌, ◌-◌, ◌≤◌, true, length, take, drop, length-drop, sym, ap, subst, ◌∙◌, arith}
use Rattle.std.specs.Prelude.{nat_lt, slice_get}
use Rattle.std.proofs.lemmas.Bool.{lt-ltb, ltb-true}
use Rattle.std.specs.List.{position_or_len}
use Rattle.std.proofs.lemmas.List.{take_rest}
use Rattle.raw_text.specs.Lines.{runs_of, is_blank}
use Rattle.raw_debug.proofs.Runs.{get_more, run_here, none_there}
use Rattle.raw_debug.proofs.tokens.run_at.Goals as goal
use Rattle.raw_debug.proofs.tokens.run_at.Goals.{else-long-gt0-via-then-long-gt0+else-left-eq0, else-long-gt0-via-else-long-gt0}

pub returns-then-left-eq0 : goal.returns-then-left-eq0
returns-then-left-eq0 c =
    let bytes = c.args.bytes.now in
    let at = c.runs.at in
    let long = c.run_len-long.result in
    let place_is = c.run_len-long.ensures.place ∙ ap (position_or_len is_blank) (take_rest bytes at) in
    let within = subst (λ xs. long ≤ length xs) (take_rest bytes at) c.run_len-long.ensures.within in
    let size : at + long - at ≡ long = omega arith in
    ap (λ n. take n (drop at bytes)) size
    ∙ run_here bytes at long place_is within c.args.place (runs_of bytes) (lt-ltb 0 long c.if-long-gt0.true)
    (subst (λ l. slice_get (runs_of (drop at bytes)) l ≡ slice_get (runs_of bytes) c.args.place) c.if-left-eq0.true c.runs.invariant.so_far)

pub runs-preserved : goal.runs-preserved
runs-preserved c =
    let bytes = c.args.bytes.now in
    let at = c.runs.at in
    let left = c.runs.left in
    let long = c.run_len-long.result in
    let place_is = c.run_len-long.ensures.place ∙ ap (position_or_len is_blank) (take_rest bytes at) in
    let within = subst (λ xs. long ≤ length xs) (take_rest bytes at) c.run_len-long.ensures.within in
    let other : nat_lt 0 long ≡ true → left ≡ 0 → ⊥ =
    λ some zero. elim c.else-long-gt0.branch [
      | else-long-gt0-via-then-long-gt0+else-left-eq0 w ↦ w.if-left-eq0.false zero
      | else-long-gt0-via-else-long-gt0 w ↦ (let least = ltb-true 0 long some in omega (arith, w.if-long-gt0.false, least))
    ] in
    record {
      so_far = subst (λ l. slice_get (runs_of (drop (at + long + 1) bytes)) l ≡ slice_get (runs_of bytes) c.args.place) (sym c.less_where-left.ensures)
          (get_more bytes at long place_is within left c.args.place (runs_of bytes) other c.runs.invariant.so_far);
      within = let rest = length-drop at bytes in omega (arith, within, rest, c.runs-test.true);
    }

pub returns : goal.returns
returns c =
    absurd (none_there c.args.bytes.now c.runs.at c.runs.left c.args.place (runs_of c.args.bytes.now) (omega (arith, c.runs-test.false)) c.runs.invariant.so_far c.requires)
