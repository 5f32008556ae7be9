-- A machine on its way, beside copies of it that change their places.
use Rattle.std.proofs.Common.{◌≡◌, ℕ, ◌<◌, List, [], ◌∷◌, length, refl, sym, ap₂, subst}
use Rattle.std.specs.Prelude.{slice_index_or, slice_set}
use Rattle.std.specs.List.{swap}
use Rattle.std.proofs.lemmas.List.Elements.{All-set, All-get_or}
use Rattle.raw_model.specs.Program.{ProgramSet}
use Rattle.raw_debug.specs.declared.walk.Walk.{Walk}
use Rattle.raw_debug.specs.Walking.{instant_of, IsFresh, IsOn, AreOn, StandsWith}
use Rattle.raw_debug.proofs.Walks.{fresh_done}

-- two walks in each other's place
pub swapped : (set : ProgramSet) (walks : List Walk) (i j : ℕ) → i < length walks → j < length walks → AreOn set walks → AreOn set (swap walks i j)
swapped set [] i j low high all = all
swapped set (w ∷ ws) i j low high all =
    All-set (IsOn set) _ j _ (All-get_or (IsOn set) (w ∷ ws) i w low all) (All-set (IsOn set) (w ∷ ws) i _ (All-get_or (IsOn set) (w ∷ ws) j w high all) all)

-- a moment of this set
pub instant_is : (walk : Walk) (set : ProgramSet) (moment : ℕ) → walk.machine.set ≡ set → walk.moment ≡ moment → instant_of walk ≡ record { set = set; moment = moment }
instant_is walk set moment set_is moment_is = ap₂ (λ (s : ProgramSet) (m : ℕ). record { set = s; moment = m }) set_is moment_is

-- a machine that starts stands with copies of the same set
pub starts_with : (set : ProgramSet) (walk : Walk) (walks : List Walk) → IsFresh set walk → AreOn set walks → StandsWith walk walks
starts_with set walk walks fresh all = record { under_way = ([], fresh_done set walk fresh); copies = subst (λ g. AreOn g walks) (sym fresh.set) all }

-- one that went on stands with its copies, and so does one of the same set in its place
pub stands_on : (set : ProgramSet) (new : Walk) (walks : List Walk) → IsOn set new → AreOn set walks → StandsWith new walks
stands_on set new walks on all = record { under_way = on.under_way; copies = subst (λ g. AreOn g walks) (sym on.set) all }

-- a copy at a place
pub copy_on : (set : ProgramSet) (walks : List Walk) (place : ℕ) (there : Walk) → place < length walks → there ≡ slice_index_or walks place there → AreOn set walks → IsOn set there
copy_on set walks place there lt is all = subst (IsOn set) (sym is) (All-get_or (IsOn set) walks place there lt all)

-- the machine in the place of a copy
pub put_on : (walk put : Walk) (walks : List Walk) (place : ℕ) → put ≡ walk → StandsWith walk walks → AreOn walk.machine.set (slice_set walks place put)
put_on walk put walks place is stands =
    All-set (IsOn walk.machine.set) walks place put (subst (IsOn walk.machine.set) (sym is) (record { set = refl; under_way = stands.under_way })) stands.copies
