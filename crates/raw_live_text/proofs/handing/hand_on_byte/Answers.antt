use Rattle.std.proofs.Common.{[], ◌∷◌, ◌++◌, refl, ap, ◌∙◌}
use Rattle.raw_live_text.proofs.Feeds.{byte_end, byte_in, byte_memory}
use Rattle.raw_live_text.proofs.handing.hand_on_byte.Goals as goal

pub returns-then-next-eq10-clause-handled : goal.returns-then-next-eq10-clause-handled
returns-then-next-eq10-clause-handled g c =
    λ bytes s. byte_end c.args.intake.now bytes c.args.next c.args.so_far.now c.finish_line.new.so_far c.args.to.now.items _ c.finish_line.result c.if-next-eq10.true s c.finish_line.ensures.line c.finish_line.ensures.handled

pub returns-then-is_err-clause-handled : goal.returns-then-is_err-clause-handled
returns-then-is_err-clause-handled g c = λ bytes s. byte_memory c.args.intake.now bytes c.args.next c.args.so_far.now c.args.so_far.now c.args.to.now.items s

pub returns-clause-handled : goal.returns-clause-handled
returns-clause-handled g c =
    λ bytes s. byte_in c.args.intake.now bytes c.args.next c.args.so_far.now _ c.args.to.now.items _ c.if-next-eq10.false s refl refl (c.push_reserved.ensures.items ∙ ap (λ l. l ++ c.args.next ∷ []) c.reserve.ensures.items)
