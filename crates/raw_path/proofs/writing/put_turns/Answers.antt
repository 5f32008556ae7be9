use Rattle.std.proofs.Common.{◌≡◌, ◌<◌, length, ap, ◌∙◌, arith}
use Rattle.raw_state_text.proofs.Sections.{same_text, failed_numbered, more_numbered, all_numbered}
use Rattle.raw_path.specs.Path.{turns_on}
use Rattle.raw_path.specs.Text.{on_line, on_lines}
use Rattle.raw_path.proofs.Telling.{read_at}
use Rattle.raw_path.proofs.writing.put_turns.Given.{Over}
use Rattle.raw_path.proofs.writing.put_turns.Goals as goal
use Rattle.raw_path.proofs.writing.put_turns.Goals.{After-on_line}

-- the line is that of the next processor
line : (g : Over) (c : After-on_line g) → c.on_line.result ≡ on_line c.loop-p.p (turns_on c.loop-p.p c.args.told.now.stretches.items)
line g c =
    let turns = c.args.told.now.turns.items in
    let lt : c.loop-p.p < length turns = omega (arith, c.loop-p-test.true, c.loop-p.invariant.0) in
    c.on_line.ensures ∙ ap (on_line c.loop-p.p) (read_at turns c.loop-p.p c.index.result.now lt c.index.ensures ∙ c.requires.turns c.loop-p.p)

pub returns-in_err-put_line : goal.returns-in_err-put_line
unfolding on_lines
returns-in_err-put_line g c =
    failed_numbered _ (length c.args.told.now.turns.items) _ c.loop-p.invariant.1 (omega (arith, c.loop-p-test.true, c.loop-p.invariant.0))
    (same_text _ _ _ _ _ (line g (goal.at.returns-in_err-put_line g c).After-on_line) c.in_err-put_line.ensures) c.from_residual.ensures.0

pub loop-p-preserved : goal.loop-p-preserved
loop-p-preserved g c = (
  c.loop-p.invariant.0,
  more_numbered _ (length c.args.told.now.turns.items) _ c.loop-p.invariant.1 (omega (arith, c.loop-p-test.true, c.loop-p.invariant.0))
      (same_text _ _ _ _ _ (line g (goal.at.loop-p-preserved g c).After-on_line) c.in_ok-put_line.ensures),
)

pub returns : goal.returns
unfolding on_lines
returns g c = all_numbered _ (length c.args.told.now.turns.items) _ c.loop-p.invariant.1 (omega (arith, c.loop-p-test.false, c.loop-p.invariant.0))
