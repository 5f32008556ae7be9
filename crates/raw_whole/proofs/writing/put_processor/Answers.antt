use Rattle.std.proofs.Common.{◌≡◌, ℕ, List, ◌++◌, length, Some, ◌<◌, sym, ap, ◌∙◌, arith}
use Rattle.std.specs.Prelude.{codes, decimal, slice_get}
use Rattle.std.specs.List.{flat_map}
use Rattle.raw_model.specs.StateTexts.{mark_of}
use Rattle.raw_serial.specs.declared.turn.Turn.{Turn}
use Rattle.raw_clock.specs.Clock.{clock, machine_at}
use Rattle.raw_trace.specs.Whole.{turns_text, turn_pieces}
use Rattle.raw_whole.proofs.Lists.{stands}
use Rattle.raw_state_text.proofs.Sections.{same_text}
use Rattle.raw_whole.proofs.writing.put_processor.Goals as goal

pub returns : goal.returns
returns g c =
    let set = c.args.run.now.machine.now.set in
    let p = c.args.p.0 in
    let text : List ℕ → List (Turn × ℕ) → List ℕ =
    λ mark pieces. decimal p ++ (flat_map (λ (piece : Turn × ℕ). turns_text mark piece.0 piece.1) pieces ++ codes "\n") in
    let kept = c.index-kept.result.now in
    let here = stands c.args.run.now.whole.now.turns.items p kept (omega (arith, c.requires, c.args.run.now.keeps.each)) c.index-kept.ensures in
    same_text _ _ _ _ _
    (ap (λ s. text (mark_of set s p) c.deref.result.now) c.args.run.now.rests
    ∙ ap (text (mark_of set (machine_at (clock set c.args.run.now.cycles)) p)) (c.deref.ensures.value ∙ c.args.run.now.keeps.turns p kept here))
    c.put_turns_line.ensures
