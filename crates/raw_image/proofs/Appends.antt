-- Pieces appended one after the other.
use Rattle.std.proofs.Common.{◌≡◌, ℕ, ◌+◌, ◌<◌, List, [], ◌∷◌, ◌++◌, length, get_or, take, zero, suc, refl, sym, ap, ◌∙◌, append_assoc, arith, add-one}
use Rattle.std.specs.List.{flat_map, zip}
use Rattle.std.proofs.lemmas.List.Concat.{flat_map-append, flat_map-cons}
use Rattle.std.proofs.lemmas.List.{append-nil}

-- four pieces behind nothing
pub four : (o a b c d o1 o2 o3 o4 : List ℕ) → o ≡ [] → o1 ≡ o ++ a → o2 ≡ o1 ++ b → o3 ≡ o2 ++ c → o4 ≡ o3 ++ d → o4 ≡ a ++ (b ++ (c ++ d))
four o a b c d o1 o2 o3 o4 e0 e1 e2 e3 e4 = rw (e4, e3, e2, e1, e0) (simp append_assoc)

-- the pairs of two lists at one place more
pub zip_next : {A B : Type 0} (xs : List A) (ys : List B) (i : ℕ) (d : A) (f : B) → i < length xs → i < length ys → zip (take (suc i) xs) (take (suc i) ys) ≡ zip (take i xs) (take i ys) ++ (get_or xs i d, get_or ys i f) ∷ []
zip_next [] ys i d f lx ly = absurd (omega (arith, lx))
zip_next (x ∷ xs) [] i d f lx ly = absurd (omega (arith, ly))
zip_next (x ∷ xs) (y ∷ ys) zero d f lx ly = refl
zip_next (x ∷ xs) (y ∷ ys) (suc i) d f lx ly = ap (λ ps. (x, y) ∷ ps) (zip_next xs ys i d f (omega (arith, lx)) (omega (arith, ly)))

pub pair_next : {A B : Type 0} (bytes : A × B → List ℕ) (xs : List A) (ys : List B) (i : ℕ) (x : A) (y : B) (out first third : List ℕ) → i < length xs → i < length ys → get_or xs i x ≡ x → get_or ys i y ≡ y → out ≡ first ++ flat_map bytes (zip (take i xs) (take i ys)) → third ≡ out ++ bytes (x, y) → third ≡ first ++ flat_map bytes (zip (take (i + 1) xs) (take (i + 1) ys))
pair_next bytes xs ys i x y out first third lx ly ex ey so_far last =
    let next = ap (λ n. zip (take n xs) (take n ys)) (add-one i) ∙ zip_next xs ys i x y lx ly in
    let pair : (get_or xs i x, get_or ys i y) ≡ (x, y) = ap (λ a. (a, get_or ys i y)) ex ∙ ap (λ b. (x, b)) ey in
    let one : flat_map bytes (zip (take (i + 1) xs) (take (i + 1) ys)) ≡ flat_map bytes (zip (take i xs) (take i ys)) ++ bytes (x, y) =
    ap (flat_map bytes) (next ∙ ap (λ p. zip (take i xs) (take i ys) ++ p ∷ []) pair) ∙ flat_map-append bytes (zip (take i xs) (take i ys)) ((x, y) ∷ []) ∙ ap (λ l. flat_map bytes (zip (take i xs) (take i ys)) ++ l) (flat_map-cons bytes (x, y) [] ∙ append-nil (bytes (x, y))) in
    last ∙ ap (λ o. o ++ bytes (x, y)) so_far ∙ append_assoc first (flat_map bytes (zip (take i xs) (take i ys))) (bytes (x, y)) ∙ ap (λ l. first ++ l) (sym one)
