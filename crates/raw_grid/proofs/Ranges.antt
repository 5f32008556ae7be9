-- Loops that append what they make of each element.
use Rattle.std.proofs.Common.{◌≡◌, ℕ, suc, ◌+◌, ◌-◌, ◌<◌, List, ◌∷◌, ◌++◌, Option, Some, None, get_or, drop, drop-cons, length, sym, ap, ◌∙◌, refl, append_assoc, add-one, arith}
use Rattle.std.specs.List.{range_with_len, flat_map, filter_map, cons_option}
use Rattle.std.specs.Option.{option_to_list}

-- a range that is not empty begins with its first number
range-first : (k n : ℕ) → k < n → range_with_len k (n - k) ≡ k ∷ range_with_len (k + 1) (n - (k + 1))
range-first k n h = let e : n - k ≡ suc (n - (k + 1)) = omega arith in ap (λ m. range_with_len k m) e

-- one number more of a range is done, and what is left gives the whole as before
pub flat_map_more : {X : Type 0} (f : ℕ → List X) (done added whole : List X) (k n : ℕ) → k < n → added ≡ done ++ f k → done ++ flat_map f (range_with_len k (n - k)) ≡ whole → added ++ flat_map f (range_with_len (k + 1) (n - (k + 1))) ≡ whole
flat_map_more f done added whole k n h e left =
    let rest = flat_map f (range_with_len (k + 1) (n - (k + 1))) in
    ap (λ xs. xs ++ rest) e ∙ append_assoc done (f k) rest ∙ ap (λ ks. done ++ flat_map f ks) (sym (range-first k n h)) ∙ left

cons_option-append : {X : Type 0} (o : Option X) (xs : List X) → cons_option o xs ≡ option_to_list o ++ xs
cons_option-append None xs = refl
cons_option-append (Some x) xs = refl

-- one element more of a list is done, and what is left gives the whole as before
pub filter_map_more : {X Y : Type 0} (f : X → Option Y) (xs : List X) (d : X) (done added whole : List Y) (k : ℕ) → k < length xs → added ≡ done ++ option_to_list (f (get_or xs k d)) → done ++ filter_map f (drop k xs) ≡ whole → added ++ filter_map f (drop (k + 1) xs) ≡ whole
filter_map_more f xs d done added whole k h e left =
    let one = option_to_list (f (get_or xs k d)) in
    let rest = filter_map f (drop (k + 1) xs) in
    let first : filter_map f (drop k xs) ≡ one ++ rest = ap (λ ys. filter_map f ys) (drop-cons xs k d h) ∙ ap (λ m. cons_option (f (get_or xs k d)) (filter_map f (drop m xs))) (sym (add-one k)) ∙ cons_option-append (f (get_or xs k d)) rest in
    ap (λ ys. ys ++ rest) e ∙ append_assoc done one rest ∙ ap (λ ys. done ++ ys) (sym first) ∙ left
