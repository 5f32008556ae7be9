use Rattle.std.proofs.Common.{refl, ap}
use Rattle.raw_model.specs.Program.{ProgramSet}
use Rattle.raw_state_text.proofs.Sections.{nothing_yet, one_more, failed, last_part, same_text}
use Rattle.raw_names.specs.Names.{wire_lines, names_text}
use Rattle.raw_names.proofs.writing.write_names.Goals as goal

pub returns-in_err-put_processors : goal.returns-in_err-put_processors
unfolding names_text
returns-in_err-put_processors g c =
    failed _ _ _ _ _ _ _ (nothing_yet _ _) refl _ c.from_residual.result c.from_residual.ensures.0 c.in_err-put_processors.ensures

pub returns : goal.returns
unfolding names_text
returns g c = last_part _ _ _ _ _ _ _ (one_more _ _ _ _ _ _ _ (nothing_yet _ _) refl _ c.in_ok-put_processors.ensures) refl
    (same_text _ _ _ _ _ (ap (λ (set : ProgramSet). wire_lines set.topo) c.set.view_is) c.put_wires.ensures)
