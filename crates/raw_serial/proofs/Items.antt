-- Wires that are the items of queues.
use Rattle.std.proofs.Common.{◌≡◌, ℕ, zero, suc, ◌<◌, List, [], ◌∷◌, length, map, get_or, set, drop, sym, ap, ◌∙◌, refl, arith}
use Rattle.std.proofs.lemmas.List.{map-set, get_or-map, length-map}
use Rattle.std.specs.List.{remove}
use Rattle.raw_network.specs.Network.{values_on}

-- a queue that is changed is its wire changed
pub change_item : {X : Type 0} (items : X → List ℕ) (f : List ℕ → List ℕ) (qs : List X) (w : ℕ) (q r : X) (wires : List (List ℕ)) → map items qs ≡ wires → w < length wires → q ≡ get_or qs w q → items r ≡ f (items q) → map items (set qs w r) ≡ set wires w (f (values_on wires w))
change_item items f qs w q r wires e l at_w changed =
    map-set items qs w r
    ∙ ap (λ ws. set ws w (items r)) e
    ∙ ap (λ xs. set wires w xs) (changed ∙ ap (λ x. f (items x)) at_w ∙ ap f (sym (get_or-map items qs w q [] short)) ∙ ap (λ ws. f (values_on ws w)) e)
  where
    short : w < length qs
    short = let a = ap length e in let b = length-map qs items in omega arith

pub remove_first : (xs : List ℕ) → remove xs 0 ≡ drop 1 xs
remove_first [] = refl
remove_first (x ∷ xs) = refl

-- a wire that holds a value is there
pub is_there : (wires : List (List ℕ)) (w : ℕ) → 0 < length (values_on wires w) → w < length wires
is_there [] w h = absurd (omega arith)
is_there (x ∷ xs) zero h = omega arith
is_there (x ∷ xs) (suc w) h = let rest = is_there xs w h in omega arith
