use Rattle.std.proofs.Common.{length, refl, ap, ◌∙◌}
use Rattle.std.specs.Prelude.{option_map}
use Rattle.std.proofs.lemmas.Option.{slice_get-map, slice_get_read}
use Rattle.raw_grid.specs.declared.parts.ProcId.{ProcId}
use Rattle.raw_steps.specs.Taking.{numbers}
use Rattle.raw_steps.proofs.Steps.{first_unlawful, not_lawful}
use Rattle.raw_steps.proofs.checking.check_run.Goals as goal

pub returns-in-Some-clause-lawful : goal.returns-in-Some-clause-lawful
returns-in-Some-clause-lawful c =
    let at = c.in-Some.ensures.lookup in
    let here = slice_get_read c.args.steps.now (length c.args.steps.now) c.take_enabled-taken.result c.in-Some.p.now refl at.3.0 at.1 in
    let there = slice_get-map (λ (p : ProcId). p.0) c.args.steps.now c.take_enabled-taken.result ∙ ap (option_map (λ (p : ProcId). p.0)) here in (
      λ e. absurd (cc e),
      λ lawful.
          absurd
          (not_lawful c.args.m.now c.take_enabled-taken.new.m (numbers c.args.steps.now) c.take_enabled-taken.result c.in-Some.p.now.0 c.take_enabled-taken.ensures.taken there
          (c.take_enabled-taken.ensures.next c.in-Some.p.now.0 there) lawful),
    )

pub returns-in-Some-clause-answer : goal.returns-in-Some-clause-answer
returns-in-Some-clause-answer c =
    let at = c.in-Some.ensures.lookup in
    let here = slice_get_read c.args.steps.now (length c.args.steps.now) c.take_enabled-taken.result c.in-Some.p.now refl at.3.0 at.1 in
    let there = slice_get-map (λ (p : ProcId). p.0) c.args.steps.now c.take_enabled-taken.result ∙ ap (option_map (λ (p : ProcId). p.0)) here in
    first_unlawful c.args.m.now c.take_enabled-taken.new.m (numbers c.args.steps.now) c.take_enabled-taken.result c.in-Some.p.now.0 c.take_enabled-taken.ensures.taken there
    (c.take_enabled-taken.ensures.next c.in-Some.p.now.0 there) c.why_not.result c.why_not.ensures
