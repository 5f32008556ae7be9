-- When there is no planned set.
use Rattle.std.specs.Prelude.{◌≡◌, ℕ, ◌+◌, ◌*◌, Bool, false, not, ◌&&◌, ◌||◌, nat_lt, nat_eq, Option, Some, None, List, [], ◌∷◌, length, if◌then◌else◌}
use Rattle.std.specs.List.{list_all}
use Rattle.raw_grid.specs.Topology.{IsSize}
use Rattle.raw_codegen.specs.Limits.{AreShort}
use Rattle.raw_route.specs.declared.faults.HaulFault.{HaulFault}
use Rattle.raw_route.specs.declared.faults.HaulFault.TheVariants as fault
use Rattle.raw_route.specs.declared.refusal.PlanRefusal.{PlanRefusal}
use Rattle.raw_route.specs.declared.refusal.PlanRefusal.TheVariants.{BadSize, OffGrid, NoTarget, Twice, TooMany, Memory}
use Rattle.raw_route.specs.Hauls.{Haulage}
use Rattle.raw_route.specs.Planned.{is_among, sendings, planned}

-- all tiles of a haul are among so many
abbrev pub is_inside : ℕ → Haulage → Bool
is_inside tiles haul = nat_lt haul.from tiles && list_all (λ tile. nat_lt tile tiles) haul.to

-- some tile stands twice in a list
abbrev pub has_twice : List ℕ → Bool
has_twice [] = false
has_twice (tile ∷ tiles) = is_among tiles tile || has_twice tiles

-- the first thing that is wrong with a haul, if anything is
abbrev pub fault_of : ℕ → Haulage → Option HaulFault
fault_of tiles haul =
    if not (is_inside tiles haul) then Some fault.OffGrid
    else (if nat_eq (length haul.to) 0 then Some fault.NoTarget
    else (if has_twice haul.to then Some fault.Twice else None))

-- the place of the first faulty haul, counted from this one on, and its fault
abbrev pub placed : ℕ → Option HaulFault → Option (ℕ × HaulFault) → Option (ℕ × HaulFault)
placed place None rest = rest
placed place (Some f) rest = Some (place, f)

abbrev pub first_fault : ℕ → ℕ → List Haulage → Option (ℕ × HaulFault)
first_fault tiles place [] = None
first_fault tiles place (haul ∷ hauls) = placed place (fault_of tiles haul) (first_fault tiles (place + 1) hauls)

-- the size is lawful, and so is each haul
pub record AreLawful (cols rows : ℕ) (hauls : List Haulage) : Type 0 where
  pub size : IsSize cols rows
  pub faultless : first_fault (cols * rows) 0 hauls ≡ None

-- the refusal of a haul at a place with this fault
abbrev pub refusal_of : ℕ → HaulFault → PlanRefusal
refusal_of place fault.OffGrid = OffGrid place
refusal_of place fault.NoTarget = NoTarget place
refusal_of place fault.Twice = Twice place

-- what a refusal says of sizes, hauls and words; want of memory says nothing
abbrev pub IsCause : ℕ → ℕ → List Haulage → List ℕ → PlanRefusal → Type 0
IsCause cols rows hauls words BadSize = ¬ (IsSize cols rows)
IsCause cols rows hauls words (OffGrid place) = IsSize cols rows × (first_fault (cols * rows) 0 hauls ≡ Some (place, fault.OffGrid))
IsCause cols rows hauls words (NoTarget place) = IsSize cols rows × (first_fault (cols * rows) 0 hauls ≡ Some (place, fault.NoTarget))
IsCause cols rows hauls words (Twice place) = IsSize cols rows × (first_fault (cols * rows) 0 hauls ≡ Some (place, fault.Twice))
IsCause cols rows hauls words TooMany = AreLawful cols rows hauls × (¬ (AreShort (planned cols rows (sendings hauls words)).tiles))
IsCause cols rows hauls words Memory = Unit {0}
