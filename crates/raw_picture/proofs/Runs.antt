-- Lists of steps that come to rest have one picture, which is that of a machine that one of them led to.
use Rattle.std.proofs.Common.{◌≡◌, ℕ, List, subst, sym, ap, ◌∙◌}
use Rattle.std.proofs.Math.Logic.{∥∥₁_elim}
use Rattle.std.proofs.Math.Nat.{ℕ_set}
use mathlib.Core.List.{is_set}
use Rattle.raw_model.specs.Program.{ProgramSet, IsSet}
use Rattle.raw_model.specs.Start.{start}
use Rattle.raw_model.specs.Rest.{IsQuiet, IsRun}
use Rattle.raw_model.specs.Laws.{ComesToRest}
use Rattle.raw_model.proofs.Orders.{same_rest}
use Rattle.raw_serial.specs.Running.{Running, IsRunBy, IsReached}
use Rattle.raw_picture.specs.Picture.{picture, picture_of}

rests : (set : ProgramSet) (h : List ℕ) → IsRun set h → ComesToRest set (start set) h
rests set h run = record { lawful = run.lawful; quiet = run.quiet }

pub same_picture : (set : ProgramSet) (h g : List ℕ) → IsSet set → IsRun set h → IsRun set g → picture set g ≡ picture set h
unfolding picture
same_picture set h g valid rh rg = ap (picture_of set) (same_rest set valid (start set) h g (rests set h rh) (rests set g rg))

module _ (m : Running) (valid : IsSet m.set) (quiet : IsQuiet m.set m.state) (steps : List ℕ) (run : IsRun m.set steps) where
  by_steps : (h : List ℕ) → IsRunBy m h → picture m.set steps ≡ picture_of m.set m.state
  unfolding picture
  by_steps h by =
      let rests_there : IsRun m.set h = record { lawful = by.lawful; quiet = subst (IsQuiet m.set) (sym by.there) quiet } in
      same_picture m.set h steps valid rests_there run ∙ ap (picture_of m.set) by.there

  pub picture_is : IsReached m → picture m.set steps ≡ picture_of m.set m.state
  picture_is reached = ∥∥₁_elim reached (is_set ℕ_set _ _) (λ r. by_steps r.0 r.1)
