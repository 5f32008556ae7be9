use Rattle.std.proofs.Common.{◌++◌, take, ap, sym, ◌∙◌}
use Rattle.std.specs.Prelude.{slice_get}
use Rattle.std.proofs.lemmas.List.{map-append, take-map, take-append-drop}
use Rattle.raw_grid.specs.declared.parts.ProcId.{ProcId}
use Rattle.raw_steps.specs.Taking.{numbers}
use Rattle.raw_steps.proofs.Fronts.{left_is, first_left}
use Rattle.raw_steps.proofs.taking.take_from.Goals as goal

pub returns-clause-front : goal.returns-clause-front
returns-clause-front c =
    let n = c.take_enabled-taken.result in
    let list = c.args.list.now in
    let items = rw c.unwrap.ensures at c.extend_from_slice.ensures.items in
    record {
      front = take n (numbers list);
      parts = sym (take-append-drop n (numbers list)) ∙ ap (λ xs. take n (numbers list) ++ xs) (sym (left_is list n));
      woven = ap numbers items
          ∙ map-append (λ (p : ProcId). p.0) c.args.woven.now.items (take n list)
          ∙ ap (λ xs. numbers c.args.woven.now.items ++ xs) (sym (take-map (λ (p : ProcId). p.0) n list));
      taken = c.take_enabled-taken.ensures.taken;
    }

pub returns-clause-idle : goal.returns-clause-idle
returns-clause-idle c = λ p e.
    let n = c.take_enabled-taken.result in
    let list = c.args.list.now in
    c.take_enabled-taken.ensures.next p (sym (first_left n (numbers list)) ∙ ap (λ xs. slice_get xs 0) (sym (left_is list n)) ∙ e)
