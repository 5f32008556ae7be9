-- The port at a place, found by going over all ports.
use Rattle.std.proofs.Common.{◌≡◌, ℕ, ◌+◌, ◌≤◌, Bool, cond, List, length, drop, Option, Some, None, ap, ◌∙◌}
use Rattle.std.specs.Prelude.{slice_get}
use Rattle.std.proofs.lemmas.List.{drop_all}
use Rattle.raw_grid.specs.declared.parts.PortPlace.{PortPlace}
use Rattle.raw_set_text.specs.Entry.{same_place}
use Rattle.raw_set_text.proofs.Places.{place_itself, place_other}
use Rattle.raw_flow.proofs.Steps.{drop_next}
use Rattle.raw_claim_text.specs.Placing.{port_from}

module _ (place : PortPlace) (places : List PortPlace) (k : ℕ) where
  next : (other : PortPlace) → slice_get places k ≡ Some other → port_from place k (drop k places) ≡ cond (same_place place other) (Some k) (port_from place (k + 1) (drop (k + 1) places))
  next other at = ap (λ (ps : List PortPlace). port_from place k ps) (drop_next places k other at)

  pub here : slice_get places k ≡ Some place → port_from place k (drop k places) ≡ Some k
  here at = next place at ∙ ap (λ b. cond b (Some k) (port_from place (k + 1) (drop (k + 1) places))) (place_itself place)

  pub other : (at : PortPlace) → slice_get places k ≡ Some at → (place ≡ at → ⊥) → port_from place k (drop k places) ≡ port_from place (k + 1) (drop (k + 1) places)
  other at read differ = next at read ∙ ap (λ b. cond b (Some k) (port_from place (k + 1) (drop (k + 1) places))) (place_other place at differ)

  pub none : length places ≤ k → port_from place k (drop k places) ≡ None
  none past = ap (λ (ps : List PortPlace). port_from place k ps) (drop_all k places past)
