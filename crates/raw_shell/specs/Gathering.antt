-- What a sink tells that gathers what is put and hands it on to the sink behind it.
use Rattle.std.specs.Prelude.{◌≡◌, ℕ, List, [], ◌++◌, Option, None, Some}
use Rattle.std.specs.Option.{ForSome}
use Rattle.raw_io.specs.Sights.{Sight}

-- the bytes of the sink behind it, where that tells them, and then those that are gathered
abbrev pub with_gathered : Option (List ℕ) → List ℕ → Option (List ℕ)
with_gathered None gathered = None
with_gathered (Some held) gathered = Some (held ++ gathered)

-- what is seen of it: these bytes, and the count of faults of the sink behind it
abbrev pub gathering : Sight → List ℕ → Sight
gathering behind gathered = record { bytes = with_gathered behind.bytes gathered; faults = behind.faults }

-- the sink behind it holds nothing, where it tells its bytes
abbrev pub HoldsNothing : Sight → Type 0
HoldsNothing behind = ForSome behind.bytes (λ held. held ≡ [])

-- a sink tells its bytes
abbrev pub Tells : Sight → Type 0
Tells behind = (held : List ℕ) × (behind.bytes ≡ Some held)
