-- What of a list has one port.
use Rattle.std.proofs.Common.{◌≡◌, ℕ, zero, suc, ◌+◌, ◌<◌, ◌≤◌, Bool, true, false, cond, eqb, List, [], ◌∷◌, ◌++◌, length, map, drop, Some, refl, sym, ap, ◌∙◌, ⊎_elim, arith}
use Rattle.std.specs.Prelude.{slice_get, slice_index, sum_by}
use Rattle.std.specs.List.{All, range_with_len}
use Rattle.std.proofs.lemmas.Bool.{cases_eq, eq-eqb, ne_eqb}
use Rattle.std.proofs.lemmas.List.{get_or-drop, drop-drop}
use Rattle.std.proofs.lemmas.List.Elements.{All-nil, All-cons, All-head, All-tail}
use Rattle.std.proofs.lemmas.List.Sums.{sum_by-cons}
use Rattle.std.proofs.lemmas.Option.{same_Some}
use Rattle.raw_flow.specs.Ports.{picked}

-- what stands from a place on is what stands there and then the rest
pub drop_next : {X : Type 0} (xs : List X) (i : ℕ) (x : X) → slice_get xs i ≡ Some x → drop i xs ≡ x ∷ drop (i + 1) xs
drop_next [] i x e = cc e
drop_next (y ∷ xs) zero x e = ap (λ z. z ∷ xs) (same_Some y x e)
drop_next (y ∷ xs) (suc i) x e =
    let next : suc i + 1 ≡ suc (i + 1) = omega arith in
    drop_next xs i x e ∙ ap (λ k. x ∷ drop k (y ∷ xs)) (sym next)

pub drop_past : {X : Type 0} (xs : List X) (i : ℕ) → length xs ≤ i → drop i xs ≡ []
drop_past [] zero h = refl
drop_past [] (suc i) h = refl
drop_past (x ∷ xs) zero h = absurd (omega arith)
drop_past (x ∷ xs) (suc i) h = drop_past xs i (omega arith)

-- where a list goes on from a place with a word, it has that word there
pub is_there : (xs : List ℕ) (i x : ℕ) (rest : List ℕ) → drop i xs ≡ x ∷ rest → (i < length xs) × (slice_index xs i ≡ x) × (drop (i + 1) xs ≡ rest)
is_there [] zero x rest e = cc e
is_there [] (suc i) x rest e = cc e
is_there (y ∷ xs) zero x rest e = (omega arith, ap (λ zs. slice_index zs 0) e, ap (drop 1) e)
is_there (y ∷ xs) (suc i) x rest e =
    let h = is_there xs i x rest e in
    let next : suc i + 1 ≡ suc (i + 1) = omega arith in
    (omega (arith, h.0), h.1, ap (λ k. drop k (y ∷ xs)) next ∙ h.2)

pub none_left : {X : Type 0} (xs : List X) (i : ℕ) → drop i xs ≡ [] → length xs ≤ i
none_left [] i e = omega arith
none_left (x ∷ xs) zero e = cc e
none_left (x ∷ xs) (suc i) e = omega (arith, none_left xs i e)

either_none : {X : Type 0} (b : Bool) → ◌≡◌ {A = List X} (cond b [] []) []
either_none true = refl
either_none false = refl

all_of : {X : Type 0} (P : X → Type 0) (b : Bool) (xs : List X) → All P xs → All P (cond b xs [])
all_of P true xs all = all
all_of P false xs all = All-nil P

first_of : {X : Type 0} (P : X → Type 0) (b : Bool) (x : X) (ys : List X) → P x → All P ys → All P (cond b (x ∷ ys) ys)
first_of P true x ys is all = All-cons P x ys is all
first_of P false x ys is all = all

module _ {X : Type 0} (q : ℕ) where
  pub picked_none : (ports : List ℕ) → ◌≡◌ {A = List X} (picked q ports []) []
  picked_none [] = either_none (eqb q 0)
  picked_none (p ∷ ports) = refl

  -- the first of a list
  pub first_own : (ports : List ℕ) (x : X) (xs : List X) → slice_index ports 0 ≡ q → picked q ports (x ∷ xs) ≡ x ∷ picked q (drop 1 ports) xs
  first_own [] x xs is = rw (eq-eqb q 0 (sym is)) refl
  first_own (p ∷ ports) x xs is = rw (eq-eqb p q is) refl

  pub first_other : (ports : List ℕ) (x : X) (xs : List X) → (slice_index ports 0 ≡ q → ⊥) → picked q ports (x ∷ xs) ≡ picked q (drop 1 ports) xs
  first_other [] x xs ne = rw (ne_eqb q 0 (λ e. ne (sym e))) refl
  first_other (p ∷ ports) x xs ne = rw (ne_eqb p q ne) refl

  module _ (ports : List ℕ) (xs : List X) (i : ℕ) (x : X) (at : slice_get xs i ≡ Some x) where
    index_is : slice_index (drop i ports) 0 ≡ slice_index ports i
    index_is = get_or-drop i ports 0 0 ∙ (let same : i + 0 ≡ i = omega arith in ap (slice_index ports) same)

    -- at a place the list goes on with what has the port, or without it
    pub picked_own : slice_index ports i ≡ q → picked q (drop i ports) (drop i xs) ≡ x ∷ picked q (drop (i + 1) ports) (drop (i + 1) xs)
    picked_own is =
        ap (picked q (drop i ports)) (drop_next xs i x at)
        ∙ first_own (drop i ports) x (drop (i + 1) xs) (index_is ∙ is)
        ∙ ap (λ ps. x ∷ picked q ps (drop (i + 1) xs)) (drop-drop 1 i ports)

    pub picked_other : (slice_index ports i ≡ q → ⊥) → picked q (drop i ports) (drop i xs) ≡ picked q (drop (i + 1) ports) (drop (i + 1) xs)
    picked_other ne =
        ap (picked q (drop i ports)) (drop_next xs i x at)
        ∙ first_other (drop i ports) x (drop (i + 1) xs) (λ e. ne (sym index_is ∙ e))
        ∙ ap (λ ps. picked q ps (drop (i + 1) xs)) (drop-drop 1 i ports)

    -- what the word at a place gives, where it has the port
    abbrev pub own_of : List X
    own_of = cond (eqb (slice_index ports i) q) (x ∷ []) []

    pub picked_step : picked q (drop i ports) (drop i xs) ≡ own_of ++ picked q (drop (i + 1) ports) (drop (i + 1) xs)
    picked_step = ⊎_elim own other (cases_eq (slice_index ports i) q)
      where
        rest : List X
        rest = picked q (drop (i + 1) ports) (drop (i + 1) xs)

        own : slice_index ports i ≡ q → picked q (drop i ports) (drop i xs) ≡ own_of ++ rest
        own is = picked_own is ∙ ap (λ b. cond b (x ∷ []) [] ++ rest) (sym (eq-eqb (slice_index ports i) q is))

        other : (slice_index ports i ≡ q → ⊥) → picked q (drop i ports) (drop i xs) ≡ own_of ++ rest
        other ne = picked_other ne ∙ ap (λ b. cond b (x ∷ []) [] ++ rest) (sym (ne_eqb (slice_index ports i) q ne))

  pub picked_all : (P : X → Type 0) (ports : List ℕ) (xs : List X) → All P xs → All P (picked q ports xs)
  picked_all P [] xs all = all_of P (eqb q 0) xs all
  picked_all P (p ∷ ports) [] all = All-nil P
  picked_all P (p ∷ ports) (x ∷ xs) all = first_of P (eqb p q) x (picked q ports xs) (All-head P x xs all) (picked_all P ports xs (All-tail P x xs all))

-- of the values of a list
map_all : {X Y : Type 0} (f : X → Y) (b : Bool) (xs : List X) → cond b (map f xs) [] ≡ map f (cond b xs [])
map_all f true xs = refl
map_all f false xs = refl

map_first : {X Y : Type 0} (f : X → Y) (b : Bool) (x : X) (ys : List Y) (xs : List X) → ys ≡ map f xs → cond b (f x ∷ ys) ys ≡ map f (cond b (x ∷ xs) xs)
map_first f true x ys xs e = ap (λ zs. f x ∷ zs) e
map_first f false x ys xs e = e

pub picked_map : {X Y : Type 0} (f : X → Y) (q : ℕ) (ports : List ℕ) (xs : List X) → picked q ports (map f xs) ≡ map f (picked q ports xs)
picked_map f q [] xs = map_all f (eqb q 0) xs
picked_map f q (p ∷ ports) [] = refl
picked_map f q (p ∷ ports) (x ∷ xs) = map_first f (eqb p q) x (picked q ports (map f xs)) (picked q ports xs) (picked_map f q ports xs)

-- ---- all ports together have no more than the list

-- what has a port among n from a on
abbrev pub shares : {X : Type 0} → List ℕ → List X → ℕ → ℕ → ℕ
shares ports xs a n = sum_by (λ q. length (picked q ports xs)) (range_with_len a n)

-- the first of a list counts once at most
abbrev pub ones : ℕ → ℕ → ℕ → ℕ
ones p a n = sum_by (λ q. cond (eqb p q) 1 0) (range_with_len a n)

ones_first : (p a n : ℕ) → ones p a (suc n) ≡ cond (eqb p a) 1 0 + ones p (a + 1) n
ones_first p a n = sum_by-cons (λ q. cond (eqb p q) 1 0) a (range_with_len (a + 1) n)

is_one : (p a : ℕ) → p ≡ a → ◌≡◌ {A = ℕ} (cond (eqb p a) 1 0) 1
is_one p a e = ap (λ b. cond b 1 0) (eq-eqb p a e)

is_none : (p a : ℕ) → (p ≡ a → ⊥) → ◌≡◌ {A = ℕ} (cond (eqb p a) 1 0) 0
is_none p a ne = ap (λ b. cond b 1 0) (ne_eqb p a ne)

no_ones : (p a n : ℕ) → p < a → ones p a n ≡ 0
no_ones p a zero less = refl
no_ones p a (suc n) less = omega (arith, ones_first p a n, is_none p a (λ e. omega (arith, e)), no_ones p (a + 1) n (omega arith))

few_ones : (p a n : ℕ) → ones p a n ≤ 1
few_ones p a zero = omega arith
few_ones p a (suc n) =
    ⊎_elim (λ (e : p ≡ a). omega (arith, ones_first p a n, is_one p a e, no_ones p (a + 1) n (omega (arith, e))))
    (λ (ne : p ≡ a → ⊥). omega (arith, ones_first p a n, is_none p a ne, few_ones p (a + 1) n)) (cases_eq p a)

pub some_ones : (p a n : ℕ) → a ≤ p → p < a + n → 1 ≤ ones p a n
some_ones p a zero low high = absurd (omega arith)
some_ones p a (suc n) low high =
    ⊎_elim (λ (e : p ≡ a). omega (arith, ones_first p a n, is_one p a e))
    (λ (ne : p ≡ a → ⊥). omega (arith, ones_first p a n, some_ones p (a + 1) n (omega (arith, ne)) (omega arith))) (cases_eq p a)

one_more : {X : Type 0} (b : Bool) (x : X) (xs : List X) → length (cond b (x ∷ xs) xs) ≡ cond b 1 0 + length xs
one_more true x xs = omega arith
one_more false x xs = omega arith

shares_cons : {X : Type 0} (p : ℕ) (ports : List ℕ) (x : X) (xs : List X) (a n : ℕ) → shares (p ∷ ports) (x ∷ xs) a n ≡ ones p a n + shares ports xs a n
shares_cons p ports x xs a zero = refl
shares_cons p ports x xs a (suc n) =
    omega (
      arith,
      sum_by-cons (λ q. length (picked q (p ∷ ports) (x ∷ xs))) a (range_with_len (a + 1) n),
      sum_by-cons (λ q. cond (eqb p q) 1 0) a (range_with_len (a + 1) n),
      sum_by-cons (λ q. length (picked q ports xs)) a (range_with_len (a + 1) n),
      one_more (eqb p a) x (picked a ports xs),
      shares_cons p ports x xs (a + 1) n,
    )

shares_none : (X : Type 0) (p : ℕ) (ports : List ℕ) (a n : ℕ) → shares {X = X} (p ∷ ports) [] a n ≡ 0
shares_none X p ports a zero = refl
shares_none X p ports a (suc n) =
    omega (arith, sum_by-cons (λ q. length (picked {X = X} q (p ∷ ports) [])) a (range_with_len (a + 1) n), shares_none X p ports (a + 1) n)

-- where no ports are named, all is that of port 0
none_at : {X : Type 0} (a : ℕ) (xs : List X) → 0 < a → length (picked a [] xs) ≡ 0
none_at a xs some = ap (λ b. length (cond b xs [])) (ne_eqb a 0 (λ e. omega (arith, e)))

none_later : {X : Type 0} (xs : List X) (a n : ℕ) → 0 < a → shares [] xs a n ≡ 0
none_later xs a zero some = refl
none_later xs a (suc n) some =
    omega (arith, sum_by-cons (λ q. length (picked q [] xs)) a (range_with_len (a + 1) n), none_at a xs some, none_later xs (a + 1) n (omega arith))

all_first : {X : Type 0} (xs : List X) (n : ℕ) → shares [] xs 0 n ≤ length xs
all_first xs zero = omega arith
all_first xs (suc n) =
    omega (arith, sum_by-cons (λ q. length (picked q [] xs)) 0 (range_with_len (0 + 1) n), none_later xs (0 + 1) n (omega arith))

pub few_shares : {X : Type 0} (ports : List ℕ) (xs : List X) (n : ℕ) → shares ports xs 0 n ≤ length xs
few_shares [] xs n = all_first xs n
few_shares {X} (p ∷ ports) [] n = omega (arith, shares_none X p ports 0 n)
few_shares (p ∷ ports) (x ∷ xs) n = omega (arith, shares_cons p ports x xs 0 n, few_ones p 0 n, few_shares ports xs n)
