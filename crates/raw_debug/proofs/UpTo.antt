-- The steps of a list up to and with the k-th entry of a processor.
use Rattle.std.proofs.Common.{◌≡◌, ℕ, zero, suc, ◌<◌, ◌≤◌, List, [], ◌∷◌, ◌++◌, refl, sym, ap, ◌∙◌, subst, ⊎_elim, arith}
use Rattle.std.specs.Prelude.{◌==◌, if◌then◌else◌}
use Rattle.std.proofs.lemmas.Bool.{cases_eq, eq-eqb, ne_eqb}
use Rattle.raw_network.specs.Network.{count_of}
use Rattle.raw_network.proofs.Wires.{count_here, count_there}
use Rattle.raw_debug.specs.Walking.{up_to}

up_to_here : (p k : ℕ) (steps : List ℕ) → up_to p (suc k) (p ∷ steps) ≡ p ∷ up_to p k steps
up_to_here p k steps = rw (eq-eqb p p refl)

up_to_there : (p q k : ℕ) (steps : List ℕ) → (q ≡ p → ⊥) → up_to p (suc k) (q ∷ steps) ≡ q ∷ up_to p (suc k) steps
up_to_there p q k steps ne = rw (ne_eqb q p ne)

-- up to the 0-th entry there is nothing
pub up_to_0 : (p : ℕ) (steps : List ℕ) → up_to p 0 steps ≡ []
up_to_0 p [] = refl
up_to_0 p (q ∷ steps) = refl

tail_is : (q : ℕ) (xs ys : List ℕ) → q ∷ xs ≡ q ∷ ys → xs ≡ ys
tail_is q xs ys e = cc

-- what is so of a list that begins with p or with another is so of each list
by_first : (p q : ℕ) (P : ℕ → Type 0) → P p → ((q ≡ p → ⊥) → P q) → P q
by_first p q P same other = ⊎_elim (λ (e : q ≡ p). subst P (sym e) same) other (cases_eq q p)

-- all of a list with fewer entries
pub up_to_all : (p k : ℕ) (steps : List ℕ) → count_of p steps < k → up_to p k steps ≡ steps
up_to_all p k [] few = refl
up_to_all p zero (q ∷ steps) few = absurd (omega (arith, few))
up_to_all p (suc k) (q ∷ steps) few =
    by_first p q (λ r. count_of p (r ∷ steps) < suc k → up_to p (suc k) (r ∷ steps) ≡ r ∷ steps)
    (λ less. up_to_here p k steps ∙ ap (λ xs. p ∷ xs) (up_to_all p k steps (let a = count_here p steps in omega (arith, less, a))))
    (λ ne less. up_to_there p q k steps ne ∙ ap (λ xs. q ∷ xs) (up_to_all p (suc k) steps (let a = count_there p q steps ne in omega (arith, less, a))))
    few

-- and of one with one step more
pub up_to_more : (p k q : ℕ) (steps : List ℕ) → count_of p steps < k → up_to p k (steps ++ q ∷ []) ≡ steps ++ q ∷ []
up_to_more p zero q steps few = absurd (omega (arith, few))
up_to_more p (suc k) q [] few = refl
up_to_more p (suc k) q (r ∷ steps) few =
    by_first p r (λ first. count_of p (first ∷ steps) < suc k → up_to p (suc k) (first ∷ (steps ++ q ∷ [])) ≡ first ∷ (steps ++ q ∷ []))
    (λ less. up_to_here p k (steps ++ q ∷ []) ∙ ap (λ xs. p ∷ xs) (up_to_more p k q steps (let a = count_here p steps in omega (arith, less, a))))
    (λ ne less.
    up_to_there p r k (steps ++ q ∷ []) ne ∙ ap (λ xs. r ∷ xs) (up_to_more p (suc k) q steps (let a = count_there p r steps ne in omega (arith, less, a))))
    few

-- a front that goes up to the k-th entry is that of any list that begins with it
pub up_to_front : (p k : ℕ) (steps rest : List ℕ) → up_to p k steps ≡ steps → count_of p steps ≡ k → up_to p k (steps ++ rest) ≡ steps
up_to_front p k [] rest whole is = ap (λ n. up_to p n rest) (sym is) ∙ up_to_0 p rest
up_to_front p zero (q ∷ steps) rest whole is = absurd (cc whole)
up_to_front p (suc k) (q ∷ steps) rest whole is =
    by_first p q (λ r. up_to p (suc k) (r ∷ steps) ≡ r ∷ steps → count_of p (r ∷ steps) ≡ suc k → up_to p (suc k) (r ∷ (steps ++ rest)) ≡ r ∷ steps)
    (λ all count.
    up_to_here p k (steps ++ rest)
    ∙ ap (λ xs. p ∷ xs)
    (up_to_front p k steps rest (tail_is p _ _ (sym (up_to_here p k steps) ∙ all)) (let a = count_here p steps in omega (arith, count, a))))
    (λ ne all count.
    up_to_there p q k (steps ++ rest) ne
    ∙ ap (λ xs. q ∷ xs)
    (up_to_front p (suc k) steps rest (tail_is q _ _ (sym (up_to_there p q k steps ne) ∙ all)) (let a = count_there p q steps ne in omega (arith, count, a))))
    whole is

-- a list begins with its steps up to an entry
pub up_to_begins : (p k : ℕ) (steps : List ℕ) → (rest : List ℕ) × (steps ≡ up_to p k steps ++ rest)
up_to_begins p k [] = ([], refl)
up_to_begins p zero (q ∷ steps) = (q ∷ steps, refl)
up_to_begins p (suc k) (q ∷ steps) =
    let (rest, is) = up_to_begins p (if q == p then k else suc k) steps in
    (rest, ap (λ xs. q ∷ xs) is)

-- up to the k-th entry there are k
pub up_to_count : (p k : ℕ) (steps : List ℕ) → k ≤ count_of p steps → count_of p (up_to p k steps) ≡ k
up_to_count p k [] le = omega (arith, le)
up_to_count p zero (q ∷ steps) le = refl
up_to_count p (suc k) (q ∷ steps) le =
    by_first p q (λ r. suc k ≤ count_of p (r ∷ steps) → count_of p (up_to p (suc k) (r ∷ steps)) ≡ suc k)
    (λ more.
    ap (count_of p) (up_to_here p k steps) ∙ count_here p (up_to p k steps)
    ∙ ap suc (up_to_count p k steps (let a = count_here p steps in omega (arith, more, a))))
    (λ ne more.
    ap (count_of p) (up_to_there p q k steps ne) ∙ count_there p q (up_to p (suc k) steps) ne
    ∙ up_to_count p (suc k) steps (let a = count_there p q steps ne in omega (arith, more, a)))
    le
