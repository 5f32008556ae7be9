-- Lists of wires, all of them of one processor.
use Rattle.std.proofs.Common.{◌≡◌, Bool, true, false, cond, List, [], ◌∷◌, Option, Some, None, refl}
use Rattle.std.specs.List.{flat_map, All}
use Rattle.std.specs.Option.{option_to_list}
use Rattle.std.proofs.lemmas.List.Elements.{All-nil, All-cons, All-append}

-- what holds in each part holds in the parts joined
pub All-flat_map : {A : Type 0} {B : Type 0} (P : B → Type 0) (f : A → List B) → ((x : A) → All P (f x)) → (xs : List A)
    → All P (flat_map f xs)
All-flat_map P f each [] = All-nil P
All-flat_map P f each (x ∷ xs) = All-append P (f x) (flat_map f xs) (each x) (All-flat_map P f each xs)

-- what holds in both lists holds in the one that a test chooses
pub All-cond : {B : Type 0} (P : B → Type 0) (b : Bool) (xs ys : List B) → All P xs → All P ys → All P (cond b xs ys)
All-cond P true xs ys h g = h
All-cond P false xs ys h g = g

-- what holds of an element that is there holds in the list of it
pub All-option : {B : Type 0} (P : B → Type 0) (o : Option B) → ((x : B) → o ≡ Some x → P x) → All P (option_to_list o)
All-option P None here = All-nil P
All-option P (Some x) here = All-cons P x [] (here x refl) (All-nil P)
