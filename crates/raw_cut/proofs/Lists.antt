-- What holds of the processors of two states at each place.
use Rattle.std.proofs.Common.{◌≡◌, ℕ, zero, suc, ◌+◌, ◌<◌, ◌≤◌, List, [], ◌∷◌, length, Option, Some, None, refl, sym, ◌∙◌, subst, ⊎_elim, arith}
use Rattle.std.specs.Prelude.{slice_get}
use Rattle.std.proofs.lemmas.Bool.{cases_lt}
use Rattle.std.proofs.lemmas.Option.{same_Some}
use Rattle.raw_model.specs.Local.{Local, Sink, PortLocal}
use Rattle.raw_rows.specs.Kernels.{AtBoth, AtEach}

pub get_past : {A : Type 0} (xs : List A) (q : ℕ) → length xs ≤ q → slice_get xs q ≡ None
get_past [] q h = refl
get_past (x ∷ xs) zero h = absurd (omega (arith, h))
get_past (x ∷ xs) (suc q) h = get_past xs q (omega (arith, h))

pub at_each : (R : ℕ → Local → Local → Type 0) (xs ys : List Local) → length xs ≡ length ys → ((q : ℕ) → q < length xs → AtBoth R q (slice_get xs q) (slice_get ys q)) → AtEach R xs ys
at_each R xs ys many each q =
    ⊎_elim (λ (below : q < length xs). each q below)
    (λ (past : length xs ≤ q).
    subst (λ (o : Option Local). AtBoth R q o (slice_get ys q)) (sym (get_past xs q past))
    (subst (λ (o : Option Local). AtBoth R q None o) (sym (get_past ys q (omega (arith, past, many)))) tt))
    (cases_lt q (length xs))

-- one place more
pub both_more : (R : ℕ → Local → Local → Type 0) (xs ys : List Local) (p : ℕ) (x y : Local) → slice_get xs p ≡ Some x → slice_get ys p ≡ Some y → R p x y
    → ((q : ℕ) → q < p → AtBoth R q (slice_get xs q) (slice_get ys q)) → (q : ℕ) → q < p + 1 → AtBoth R q (slice_get xs q) (slice_get ys q)
both_more R xs ys p x y one other is each q below =
    ⊎_elim (λ (earlier : q < p). each q earlier)
    (λ (past : p ≤ q).
    let here : q ≡ p = omega (arith, below, past) in
    subst (λ (k : ℕ). AtBoth R k (slice_get xs k) (slice_get ys k)) (sym here)
    (subst (λ (o : Option Local). AtBoth R p o (slice_get ys p)) (sym one) (subst (λ (o : Option Local). AtBoth R p (Some x) o) (sym other) is)))
    (cases_lt q p)

-- what holds of each local state that is a sink's, one place more
pub sinks_more : (P : ℕ → PortLocal → Type 0) (xs : List Local) (p : ℕ) (x : Local) → slice_get xs p ≡ Some x → ((l : PortLocal) → x ≡ Sink l → P p l)
    → ((q : ℕ) (l : PortLocal) → q < p → slice_get xs q ≡ Some (Sink l) → P q l) → (q : ℕ) (l : PortLocal) → q < p + 1 → slice_get xs q ≡ Some (Sink l) → P q l
sinks_more P xs p x here is each q l below e =
    ⊎_elim (λ (earlier : q < p). each q l earlier e)
    (λ (past : p ≤ q).
    let same : q ≡ p = omega (arith, below, past) in
    let found : slice_get xs p ≡ Some (Sink l) = subst (λ (k : ℕ). slice_get xs k ≡ Some (Sink l)) same e in
    subst (λ (k : ℕ). P k l) (sym same) (is l (same_Some x (Sink l) (sym here ∙ found))))
    (cases_lt q p)
