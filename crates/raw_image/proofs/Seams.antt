-- A list and what holds of each of its elements, at the place behind its front.
use Rattle.std.proofs.Common.{◌≡◌, ℕ, ◌+◌, ◌≤◌, List, [], ◌∷◌, ◌++◌, length, get_or, Ok, refl, sym, ap, subst, ◌∙◌, append_assoc, arith, sum_by}
use Rattle.std.specs.List.{All}
use Rattle.std.proofs.lemmas.List.Elements.{All-head, All-tail}
use Rattle.std.proofs.lemmas.List.Sums.{sum_by-append, sum_by-cons}
use Rattle.raw_image.proofs.Loop.{Item}
use Rattle.raw_image.proofs.Repeats.{EachAgain}

all_behind : {A : Type 0} (P : A → Type 0) (before : List A) (x : A) (after : List A) → All P (before ++ (x ∷ after)) → P x
all_behind P [] x after h = All-head P x after h
all_behind P (b ∷ before) x after h = all_behind P before x after (All-tail P b (before ++ (x ∷ after)) h)

pub all_seam : {A : Type 0} (P : A → Type 0) (whole before : List A) (x : A) (after : List A) → before ++ (x ∷ after) ≡ whole → All P whole → P x
all_seam P whole before x after e h = all_behind P before x after (subst (λ xs. All P xs) (sym e) h)

pub at_seam : {A : Type 0} (before : List A) (x d : A) (after : List A) → get_or (before ++ (x ∷ after)) (length before) d ≡ x
at_seam [] x d after = refl
at_seam (b ∷ before) x d after = at_seam before x d after

-- what the front and the element have together is no more than what the whole has
pub sum_seam : {A : Type 0} (f : A → ℕ) (whole before : List A) (x : A) (after : List A) → before ++ (x ∷ after) ≡ whole → sum_by f before + f x ≤ sum_by f whole
sum_seam f whole before x after e =
    let split = sum_by-append f before (x ∷ after) in
    let one = sum_by-cons f x after in
    omega (arith, split, one, ap (sum_by f) e)

-- each part is read again where each is that stands in the whole
pub each_within : {A : Type 0} (item : Item A) (s : A → List ℕ) (whole : List A) → ((before : List A) (x : A) (after : List A) → before ++ (x ∷ after) ≡ whole → (rest : List ℕ) → item before (s x ++ rest) ≡ Ok (x, rest)) → (before xs : List A) → before ++ xs ≡ whole → EachAgain item s before xs
each_within item s whole again before [] e = tt
each_within item s whole again before (x ∷ xs) e = (again before x xs e, each_within item s whole again (before ++ x ∷ []) xs (append_assoc before (x ∷ []) xs ∙ e))
