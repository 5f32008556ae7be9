use Rattle.std.proofs.Common.{◌≡◌, List, [], ◌∷◌, ◌++◌, Result, Ok, Err, sym, subst}
use Rattle.std.specs.Prelude.{is_ok, if◌then◌else◌}
use Rattle.std.proofs.lemmas.List.Elements.{All-push}
use Rattle.raw_model.specs.Program.{ProgramSet}
use Rattle.raw_debug.specs.declared.walk.Walk.{Walk}
use Rattle.raw_debug.specs.Walking.{IsOn, AreOn}
use Rattle.raw_debug.proofs.Walks.{fresh_done}
use Rattle.raw_debug.proofs.trail.add_copy.Goals as goal

-- with one more, where it was put
one_more : {T E : Type 0} (r : Result T E) (set : ProgramSet) (old new : List Walk) (walk : Walk) → AreOn set old → IsOn set walk
    → new ≡ (if is_ok r then old ++ walk ∷ [] else old) → AreOn set new
one_more (Ok x) set old new walk all on is = subst (AreOn set) (sym is) (All-push (IsOn set) old walk all on)
one_more (Err e) set old new walk all on is = subst (AreOn set) (sym is) all

pub returns : goal.returns
returns c =
    one_more c.push.result c.args.set.now c.args.walks.now.items c.push.new.self.items c.in-Ok.walk c.requires
    (record { set = c.in-Ok.ensures.set; under_way = ([], fresh_done c.args.set.now c.in-Ok.walk c.in-Ok.ensures) }) c.push.ensures.items
