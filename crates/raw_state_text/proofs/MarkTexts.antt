-- The mark of a processor, by its local state.
use Rattle.std.proofs.Common.{◌≡◌, ℕ, Some, refl, ap, ◌∙◌}
use Rattle.std.specs.Prelude.{codes, slice_get}
use Rattle.raw_model.specs.Program.{ProgramSet}
use Rattle.raw_model.specs.Local.{Local, Source, Sink}
use Rattle.raw_model.specs.Start.{MachineState}
use Rattle.raw_model.specs.Rest.{is_stopped_at}
use Rattle.raw_model.specs.Waits.{first_wait}
use Rattle.raw_model.specs.StateTexts.{mark_of, local_mark}
use Rattle.raw_state_text.specs.Parts.{port_mark, mark_by}

module _ (set : ProgramSet) (s : MachineState) (p : ℕ) where
  mark_with : (l : Local) → slice_get s.locals p ≡ Some l → local_mark set s p (Some l) ≡ mark_by set p (first_wait set s p) l
  mark_with (Source l) is = ap (λ o. port_mark (codes "spent") (is_stopped_at set p o) (first_wait set s p)) is
  mark_with (Sink l) is = ap (λ o. port_mark (codes "full") (is_stopped_at set p o) (first_wait set s p)) is
  mark_with _ is = refl

  pub mark_is : (l : Local) → slice_get s.locals p ≡ Some l → mark_of set s p ≡ mark_by set p (first_wait set s p) l
  unfolding mark_of
  mark_is l is = ap (local_mark set s p) is ∙ mark_with l is
