-- The port at a place, in a list of places.
use Rattle.std.proofs.Common.{◌≡◌, ℕ, ◌+◌, true, false, List, take, get_or, Some, sym, ◌∙◌}
use Rattle.std.specs.Prelude.{slice_get}
use Rattle.std.specs.List.{list_any}
use Rattle.std.proofs.lemmas.Bool.{or_from}
use Rattle.std.proofs.lemmas.Option.{slice_get_within, get_or_from_slice_get}
use Rattle.std.proofs.lemmas.List.Folds.{list_any_more}
use Rattle.std.proofs.lemmas.Map.Keys.{any_passes_from_place}
use Rattle.raw_grid.specs.declared.parts.PortPlace.{PortPlace}
use Rattle.raw_set_text.specs.Entry.{same_place}
use Rattle.raw_set_text.proofs.Places.{place_itself, place_other}

pub found_any : (place : PortPlace) (places : List PortPlace) (i : ℕ) → slice_get places i ≡ Some place → list_any (same_place place) places ≡ true
found_any place places i at = any_passes_from_place (same_place place) places i place at (place_itself place)

-- one place more that is another
pub others_more : (place : PortPlace) (places : List PortPlace) (i : ℕ) (at : PortPlace) → list_any (same_place place) (take i places) ≡ false → slice_get places i ≡ Some at → (at ≡ place → ⊥) → list_any (same_place place) (take (i + 1) places) ≡ false
others_more place places i at none read differ =
    list_any_more (same_place place) places i place (slice_get_within places i at read)
    ∙ or_from _ _ none (place_other place (get_or places i place) (λ same. differ (sym (same ∙ get_or_from_slice_get places i at place read))))
