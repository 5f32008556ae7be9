use Rattle.std.proofs.Common.{◌≡◌, true, false, sym, ap, ◌∙◌, subst}
use Rattle.raw_clock.specs.Clock.{clock, turn_in}
use Rattle.raw_steady.specs.Steady.{is_wait}
use Rattle.raw_lost.specs.Known.{noted, HasRoom}
use Rattle.raw_lost.proofs.Counts.{not_lost, one_lost, has_room}
use Rattle.raw_lost.proofs.counting.note_turn.Goals as goal

pub note-requires : goal.note-requires
note-requires c = subst HasRoom (sym c.requires.lost) (has_room c.args.set.now c.args.cycles c.args.p c.requires.few)

pub returns-then-is_wait-clause-lost : goal.returns-then-is_wait-clause-lost
returns-then-is_wait-clause-lost c =
    let set = c.args.set.now in
    let n = c.args.cycles in
    let waits : is_wait (turn_in set (clock set n) c.args.p) ≡ true = ap is_wait (sym c.requires.turn) ∙ sym c.is_wait.ensures ∙ c.if-is_wait.true in
    c.note.ensures ∙ ap (noted c.kind_of_root-kind.result) c.requires.lost ∙ one_lost set n c.args.p c.kind_of_root-kind.result waits c.kind_of_root-kind.ensures.kind

pub returns-else-is_wait : goal.returns-else-is_wait
returns-else-is_wait c =
    let set = c.args.set.now in
    let n = c.args.cycles in
    let rests : is_wait (turn_in set (clock set n) c.args.p) ≡ false = ap is_wait (sym c.requires.turn) ∙ sym c.is_wait.ensures ∙ c.if-is_wait.false in
    record { kinds = c.requires.kinds; lost = c.requires.lost ∙ not_lost set n c.args.p rests }
