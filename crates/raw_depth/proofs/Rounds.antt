-- Rounds of waits, and which processors stand on them.
use Rattle.std.proofs.Common.{◌≡◌, ℕ, Bool, true, false, List, [], ◌∷◌, ◌⊎◌, Option, Some, refl, sym, ap, ◌∙◌, subst, inl, inr, ⊎_elim}
use Rattle.std.specs.Prelude.{◌||◌, ◌==◌}
use Rattle.std.specs.List.{list_all}
use Rattle.std.proofs.lemmas.Bool.{cases_eq, eq-eqb, ne_eqb, and_parts, and_from}
use Rattle.raw_cycle.specs.Cycles.{WaitsRound}
use Rattle.raw_depth.specs.Depth.{is_among}

pub among_here : (x : ℕ) (xs : List ℕ) → is_among x (x ∷ xs) ≡ true
among_here x xs = ap (λ b. b || is_among x xs) (eq-eqb x x refl)

pub among_there : (q x : ℕ) (xs : List ℕ) → is_among q xs ≡ true → is_among q (x ∷ xs) ≡ true
among_there q x xs on = by_test (x == q)
  where
    by_test : (b : Bool) → (b || is_among q xs) ≡ true
    by_test true = refl
    by_test false = on

among_cases : (q x : ℕ) (xs : List ℕ) → is_among q (x ∷ xs) ≡ true → (x ≡ q) ⊎ (is_among q xs ≡ true)
among_cases q x xs on =
    ⊎_elim
    (λ (same : x ≡ q). inl same)
    (λ (ne : x ≡ q → ⊥). inr (sym (ap (λ b. b || is_among q xs) (ne_eqb x q ne)) ∙ on))
    (cases_eq x q)

-- what is so of all is so of each,
pub all_at : (f : ℕ → Bool) (xs : List ℕ) → list_all f xs ≡ true → (q : ℕ) → is_among q xs ≡ true → f q ≡ true
all_at f [] all q on = absurd (cc on)
all_at f (x ∷ xs) all q on =
    let parts = and_parts (f x) (list_all f xs) all in
    ⊎_elim
    (λ (same : x ≡ q). subst (λ y. f y ≡ true) same parts.0)
    (λ (later : is_among q xs ≡ true). all_at f xs parts.1 q later)
    (among_cases q x xs on)

-- and what is so of each is so of all
pub all_from : (f : ℕ → Bool) (xs : List ℕ) → ((q : ℕ) → is_among q xs ≡ true → f q ≡ true) → list_all f xs ≡ true
all_from f [] each = refl
all_from f (x ∷ xs) each =
    and_from (f x) (list_all f xs) (each x (among_here x xs)) (all_from f xs (λ q on. each q (among_there q x xs on)))

-- on a round each waits for one that stands on it
round_next : (next : ℕ → Option ℕ) (f x : ℕ) (xs : List ℕ) → WaitsRound next f x xs → (q : ℕ) → is_among q (x ∷ xs) ≡ true
    → (r : ℕ) × (next q ≡ Some r) × ((r ≡ f) ⊎ (is_among r xs ≡ true))
round_next next f x [] round q on =
    ⊎_elim
    (λ (same : x ≡ q). (f, subst (λ y. next y ≡ Some f) same round, inl refl))
    (λ (later : is_among q [] ≡ true). absurd (cc later))
    (among_cases q x [] on)
round_next next f x (y ∷ ys) round q on =
    ⊎_elim
    (λ (same : x ≡ q). (y, subst (λ z. next z ≡ Some y) same round.0, inr (among_here y ys)))
    (λ (later : is_among q (y ∷ ys) ≡ true).
    let rest = round_next next f y ys round.1 q later in
    (rest.0, rest.1, ⊎_elim (λ (same : rest.0 ≡ f). inl same) (λ (on : is_among rest.0 ys ≡ true). inr (among_there rest.0 y ys on)) rest.2))
    (among_cases q x (y ∷ ys) on)

pub next_on : (next : ℕ → Option ℕ) (p : ℕ) (ps : List ℕ) → WaitsRound next p p ps → (q : ℕ) → is_among q (p ∷ ps) ≡ true
    → (r : ℕ) × (next q ≡ Some r) × (is_among r (p ∷ ps) ≡ true)
next_on next p ps round q on =
    let found = round_next next p p ps round q on in (
      found.0,
      found.1,
      ⊎_elim
          (λ (same : found.0 ≡ p). subst (λ r. is_among r (p ∷ ps) ≡ true) (sym same) (among_here p ps))
          (λ (later : is_among found.0 ps ≡ true). among_there found.0 p ps later)
          found.2,
    )

-- the round is one of other waits that are the same on it
pub round_same : (next other : ℕ → Option ℕ) (f x : ℕ) (xs : List ℕ) → ((q : ℕ) → is_among q (x ∷ xs) ≡ true → other q ≡ next q)
    → WaitsRound next f x xs → WaitsRound other f x xs
round_same next other f x [] same round = same x (among_here x []) ∙ round
round_same next other f x (y ∷ ys) same round = (
  same x (among_here x (y ∷ ys)) ∙ round.0,
  round_same next other f y ys (λ q on. same q (among_there q x (y ∷ ys) on)) round.1,
)
