-- The stall turns that the processors of a pass owe together, after the turn of one of them.
use Rattle.std.proofs.Common.{◌≡◌, ℕ, zero, suc, ◌+◌, ◌<◌, List, [], ◌∷◌, Some, false, set, ap, ◌∙◌, arith}
use Rattle.std.specs.Prelude.{slice_get, sum_by}
use Rattle.std.proofs.lemmas.List.Sums.{sum_by-cons}
use Rattle.std.proofs.lemmas.Option.{same_Some}
use Rattle.raw_processor.specs.declared.processor.Processor.{Processor}
use Rattle.raw_processor.specs.declared.processor.Processor.TheVariants as a
use Rattle.raw_processor.specs.Processor.{owed_of}
use Rattle.raw_fabric_rule.specs.Views.{About, View}
use Rattle.raw_fabric.specs.declared.answer.FabricTurn.{FabricTurn}
use Rattle.raw_fabric.specs.declared.answer.FabricTurn.TheVariants.{Fired, Stalled, Stopped, LogFull, Waits}
use Rattle.raw_fabric.specs.Answers.{IsUnitTurn, stalled, has_fired}
use Rattle.raw_fabric.specs.Owing.{IsOwingAfter}
use Rattle.raw_fabric.specs.InRow.{IsOwingThen}

-- a sum after one term has changed
sum_set : {X : Type 0} (f : X → ℕ) (xs : List X) (i : ℕ) (x y : X) → slice_get xs i ≡ Some x → sum_by f (set xs i y) + f x ≡ sum_by f xs + f y
sum_set f [] i x y here = absurd (cc here)
sum_set f (z ∷ zs) zero x y here =
    let e = ap f (same_Some z x here) in
    omega (arith, sum_by-cons f y zs, sum_by-cons f z zs)
sum_set f (z ∷ zs) (suc i) x y here =
    let rest = sum_set f zs i x y here in
    omega (arith, sum_by-cons f z (set zs i y), sum_by-cons f z zs)

owed_less : (x : Processor) → 0 < owed_of x → owed_of (stalled x) + 1 ≡ owed_of x
owed_less (a.Tile tile) some = omega arith
owed_less _ some = absurd (omega arith)

pub owing_after : (about : About) (p i : ℕ) (turn : FabricTurn) (v w : View) (x y : Processor) → IsUnitTurn about p i turn v w x y →
    (xs : List Processor) → slice_get xs i ≡ Some x → IsOwingAfter turn (sum_by owed_of xs) (sum_by owed_of (set xs i y))
owing_after about p i Fired v w x y t xs here = tt
owing_after about p i Stalled v w x y t xs here =
    let changed = sum_set owed_of xs i x y here in
    let less = owed_less x t.0 in
    let is = ap owed_of t.2 in
    omega arith
owing_after about p i (Waits wire seen) v w x y t xs here =
    let changed = sum_set owed_of xs i x y here in
    let is = ap owed_of t.2 in
    omega arith
owing_after about p i Stopped v w x y t xs here = absurd t
owing_after about p i LogFull v w x y t xs here = absurd t

-- where one of them owes so much less or as much, so do they all together
pub owing_then : (turn : FabricTurn) (xs : List Processor) (i : ℕ) (x y : Processor) → slice_get xs i ≡ Some x → IsOwingThen turn (owed_of x) (owed_of y) →
    IsOwingThen turn (sum_by owed_of xs) (sum_by owed_of (set xs i y))
owing_then Fired xs i x y here h = absurd h
owing_then Stalled xs i x y here h =
    let changed = sum_set owed_of xs i x y here in
    omega (arith, h)
owing_then Stopped xs i x y here h =
    let changed = sum_set owed_of xs i x y here in
    omega (arith, h)
owing_then LogFull xs i x y here h =
    let changed = sum_set owed_of xs i x y here in
    omega (arith, h)
owing_then (Waits wire seen) xs i x y here h =
    let changed = sum_set owed_of xs i x y here in
    omega (arith, h)

-- the turn of one that owes as much as another
pub owing_turn : (about : About) (p i : ℕ) (turn : FabricTurn) (v w : View) (x y z : Processor) → IsUnitTurn about p i turn v w y z → has_fired turn ≡ false → owed_of y ≡ owed_of x →
    IsOwingThen turn (owed_of x) (owed_of z)
owing_turn about p i Fired v w x y z t none same = absurd (cc none)
owing_turn about p i Stalled v w x y z t none same =
    let less = owed_less y t.0 in
    let is = ap owed_of t.2 in
    omega arith
owing_turn about p i (Waits wire seen) v w x y z t none same = ap owed_of t.2 ∙ same
owing_turn about p i Stopped v w x y z t none same = absurd t
owing_turn about p i LogFull v w x y z t none same = absurd t
