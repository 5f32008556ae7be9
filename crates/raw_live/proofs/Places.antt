-- The places of a list, one after another.
use Rattle.std.proofs.Common.{◌≡◌, ℕ, ◌+◌, List, [], ◌∷◌, ◌++◌, take, Some, sym, ap, ◌∙◌}
use Rattle.std.specs.Prelude.{slice_get}
use Rattle.std.proofs.lemmas.List.{take_more}
use Rattle.std.proofs.lemmas.Option.{slice_get_within, get_or_from_slice_get}
use Rattle.raw_grid.specs.declared.parts.PortPlace.{PortPlace}

pub place_more : (xs : List PortPlace) (n : ℕ) (x : PortPlace) → slice_get xs n ≡ Some x → take n xs ++ x ∷ [] ≡ take (n + 1) xs
place_more xs n x e = ap (λ y. take n xs ++ y ∷ []) (sym (get_or_from_slice_get xs n x x e)) ∙ sym (take_more xs n x (slice_get_within xs n x e))
