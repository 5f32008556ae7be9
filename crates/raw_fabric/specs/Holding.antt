-- A processor that a pass holds, and what the view of the pass says of it.
use Rattle.std.specs.Prelude.{◌≡◌, ℕ, ◌+◌, ◌≤◌, List, ◌∷◌, ◌++◌, slice_index, slice_index_or, []}
use Rattle.std.specs.List.{concat}
use Rattle.raw_model.specs.Start.{IsFit}
use Rattle.raw_model.specs.Cache.{HeldLines, StandsFor, misses, stream_of}
use Rattle.raw_processor.specs.declared.processor.Processor.{Processor}
use Rattle.raw_processor.specs.Processor.{local_of, cache_of, misses_of, owed_of, IsKept, HasFewMisses}
use Rattle.raw_processor.specs.Touching.{owed_after}
use Rattle.raw_fabric_rule.specs.Views.{About, Hold}
use Rattle.raw_fabric_step.specs.Units.{IsIdle}

-- what the cache of processor p held at the opening, how often it had missed then, and how many stall turns it owed
abbrev pub cache_before : About → ℕ → List HeldLines
cache_before about p = slice_index_or about.caches p []

abbrev pub missed_before : About → ℕ → ℕ
missed_before about p = slice_index about.missed p

abbrev pub owed_before : About → ℕ → ℕ
owed_before about p = slice_index about.owed p

-- the cache of processor p stands for the touches before the opening and those since, and so does the number of misses
pub record CountsTouches (about : About) (p : ℕ) (touched : List ℕ) (cache : List HeldLines) (missed : ℕ) : Type 0 where
  pub stands : (earlier : List ℕ) → StandsFor (cache_before about p) earlier → StandsFor cache (earlier ++ touched)
  pub missed_is : (earlier : List ℕ) → StandsFor (cache_before about p) earlier →
      misses (earlier ++ touched) + missed_before about p ≡ misses earlier + missed

-- processor p, whose steps since the opening touched these addresses, owes so many stall turns: where it took no step, no more
-- than at the opening, and else at most what its last step cost
pub record OwesSince (about : About) (p : ℕ) (touched : List (List ℕ)) (owed : ℕ) : Type 0 where
  pub none : touched ≡ [] → owed ≤ owed_before about p
  pub last : (front : List (List ℕ)) (own : List ℕ) → touched ≡ front ++ own ∷ [] →
      (earlier : List ℕ) → StandsFor (cache_before about p) earlier → missed_before about p ≡ misses earlier →
      owed ≤ owed_after (stream_of about.set p) (misses (earlier ++ concat front)) (misses (earlier ++ concat touched))

-- x is processor p as the unit u of the view says, and no step of it is under way
pub record IsUnitOf (about : About) (p : ℕ) (x : Processor) (u : Hold) : Type 0 where
  pub local_is : u.local ≡ local_of x
  pub kept : IsKept about.set p x
  pub fits : IsFit about.set p (local_of x)
  pub few : HasFewMisses x
  pub counts_touches : CountsTouches about p (concat u.touches) (cache_of x) (misses_of x)
  pub owes : OwesSince about p u.touches (owed_of x)
  pub idle : IsIdle u
