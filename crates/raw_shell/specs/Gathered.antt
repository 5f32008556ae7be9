-- A sink that gathers: the sink behind it, and what it has gathered.
use Rattle.std.specs.Prelude.{◌≡◌, ℕ, List, []}
use Rattle.raw_io.specs.Sights.{Sight}
use Rattle.raw_shell.specs.Gathering.{gathering, HoldsNothing}
use Rattle.raw_shell.specs.declared.gathered.Gathered.{Gathered}

-- the bytes that are gathered, and not handed on yet
abbrev pub gathered : {K : Type 0} → Gathered K → List ℕ
gathered sink = sink.bytes.items

-- what is seen of the sink behind it, by the meaning of its type, and of the sink that gathers
abbrev pub behind : {K : Type 0} → (K → Sight) → Gathered K → Sight
behind sight sink = sight sink.behind

abbrev pub told : {K : Type 0} → (K → Sight) → Gathered K → Sight
told sight sink = gathering (behind sight sink) (gathered sink)

-- nothing was put yet: none is gathered, and the sink behind it holds nothing, where it tells its bytes
pub record IsFirst {K : Type 0} (sight : K → Sight) (sink : Gathered K) : Type 0 where
  pub none : gathered sink ≡ []
  pub empty : HoldsNothing (behind sight sink)
