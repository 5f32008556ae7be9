-- Lists: the elements of a map, of `touched`, and the values in flight.
use Rattle.std.proofs.Common.{append-nil, ◌≡◌, ◌≢◌, ℕ, zero, suc, ◌+◌, ◌-◌, ◌*◌, ◌%◌, ◌<◌, ◌≤◌, eqb, cond, Bool, List, [], ◌∷◌, ◌++◌, map, length, get_or, drop, set, refl, sym, ap, ap₂, ◌∙◌, arith, zero-mul, add-zero, suc-mul, eq-eqb, ne_eqb, get_or-set_same, get_or-set_other}
use mathlib.Core.Logic.{dite}
use native.Mathlib.Decide.{ℕ_discrete}
use mathlib.Core.Option.{some, some-injective, some-ne-none}
use lib.ListN.{get_elem?}
use Rattle.raw_fabric_rule.specs.Views.{Hold}
use Rattle.std.proofs.lemmas.List.Elements.{filter-append}
use Rattle.raw_network.specs.Network.{count_of}
use Rattle.raw_fabric_rule.specs.Word.{flight}
use Rattle.raw_fabric_rule.specs.Rule.{steps_of}
use Rattle.raw_fabric_rule.specs.Plays.{touched, bumped}
use Rattle.raw_fabric_rule.proofs.Nets.{count_more}

pub at_map_back : {A B : Type 0} (f : A → B) (xs : List A) (i : ℕ) (b : B) → get_elem? (map f xs) i ≡ some b → (a : A) × (get_elem? xs i ≡ some a) × (b ≡ f a)
at_map_back f [] i b e = absurd (some-ne-none b (sym e))
at_map_back f (x ∷ xs) zero b e = (x, refl, sym (some-injective (f x) b e))
at_map_back f (x ∷ xs) (suc i) b e = at_map_back f xs i b e

pub at_touched : (f : ℕ → Hold → Hold) (p n : ℕ) (us : List Hold) (i : ℕ) (b : Hold) → get_elem? (touched f p n us) i ≡ some b → (u : Hold) × (get_elem? us i ≡ some u) × (b ≡ f (p + i * n) u)
at_touched f p n [] i b e = absurd (some-ne-none b (sym e))
at_touched f p n (x ∷ xs) zero b e = (x, refl, sym (some-injective (f p x) b e) ∙ ap (λ (k : ℕ). f k x) (let z : p ≡ p + 0 * n = omega (arith, zero-mul n) in z))
at_touched f p n (x ∷ xs) (suc i) b e = let r = at_touched f (p + n) n xs i b e in (r.0, r.1, r.2 ∙ ap (λ (k : ℕ). f k r.0) (let z : p + n + i * n ≡ p + suc i * n = omega (arith, suc-mul i n) in z))

pub length-touched : (f : ℕ → Hold → Hold) (p n : ℕ) (us : List Hold) → length (touched f p n us) ≡ length us
length-touched f p n [] = refl
length-touched f p n (u ∷ us) = ap suc (length-touched f (p + n) n us)

-- ---- values in flight
pub flight_same : (d e : ℕ → ℕ) (t n : ℕ) → ((i : ℕ) → i < n → d ((t + i) % 8) ≡ e ((t + i) % 8)) → flight d t n ≡ flight e t n
flight_same d e t zero h = refl
flight_same d e t (suc n) h =
    let here : d (t % 8) ≡ e (t % 8) = ap (λ (k : ℕ). d (k % 8)) (sym (add-zero t)) ∙ (h 0 (omega arith) ∙ ap (λ (k : ℕ). e (k % 8)) (add-zero t)) in
    let more : (i : ℕ) → i < n → d ((suc t + i) % 8) ≡ e ((suc t + i) % 8) = λ i lt.
    let z : t + suc i ≡ suc t + i = omega arith in ap (λ (k : ℕ). d (k % 8)) (sym z) ∙ (h (suc i) (omega arith) ∙ ap (λ (k : ℕ). e (k % 8)) z) in
    ap₂ (λ (a : ℕ) (b : List ℕ). a ∷ b) here (flight_same d e (suc t) n more)

pub length-flight : (d : ℕ → ℕ) (t n : ℕ) → length (flight d t n) ≡ n
length-flight d t zero = refl
length-flight d t (suc n) = ap suc (length-flight d (suc t) n)

pub get_or-flight : (d : ℕ → ℕ) (t n i : ℕ) → i < n → get_or (flight d t n) i 0 ≡ d ((t + i) % 8)
get_or-flight d t zero i h = absurd (omega arith)
get_or-flight d t (suc n) zero h = ap (λ (k : ℕ). d (k % 8)) (sym (add-zero t))
get_or-flight d t (suc n) (suc i) h = get_or-flight d (suc t) n i (omega arith) ∙ ap (λ (k : ℕ). d (k % 8)) (let z : suc t + i ≡ t + suc i = omega arith in z)

pub drop-flight : (d : ℕ → ℕ) (t n m : ℕ) → m ≤ n → drop m (flight d t n) ≡ flight d (t + m) (n - m)
drop-flight d t n zero h = ap₂ (flight d) (let z : t ≡ t + 0 = omega arith in z) (let z : n ≡ n - 0 = omega arith in z)
drop-flight d t zero (suc m) h = absurd (omega arith)
drop-flight d t (suc n) (suc m) h = drop-flight d (suc t) n m (omega arith) ∙ ap₂ (flight d) (let z : suc t + m ≡ t + suc m = omega arith in z) (let z : n - m ≡ suc n - suc m = omega arith in z)

pub flight_more : (d : ℕ → ℕ) (t n : ℕ) → flight d t (suc n) ≡ flight d t n ++ d ((t + n) % 8) ∷ []
flight_more d t zero = ap (λ (k : ℕ). d (k % 8) ∷ []) (let z : t ≡ t + 0 = omega arith in z)
flight_more d t (suc n) = ap (λ (l : List ℕ). d (t % 8) ∷ l) (flight_more d (suc t) n ∙ ap (λ (k : ℕ). flight d (suc t) n ++ d (k % 8) ∷ []) (let z : suc t + n ≡ t + suc n = omega arith in z))

-- ---- counts
pub length-bumped : (es cs : List ℕ) → length (bumped es cs) ≡ length cs
length-bumped [] cs = refl
length-bumped (e ∷ es) cs = length-bumped es (set cs e (suc (get_or cs e 0))) ∙ Rattle.std.proofs.Common.length-set cs e (suc (get_or cs e 0))

-- a choice by whether two numbers are equal
pub cond_same : {A : Type 0} (x y : ℕ) (a b : A) → x ≡ y → cond (eqb x y) a b ≡ a
cond_same x y a b e = ap (λ (v : Bool). cond v a b) (eq-eqb x y e)

pub cond_other : {A : Type 0} (x y : ℕ) (a b : A) → x ≢ y → cond (eqb x y) a b ≡ b
cond_other x y a b n = ap (λ (v : Bool). cond v a b) (ne_eqb x y n)

bump_one : (cs : List ℕ) (e i : ℕ) → i < length cs → get_or (set cs e (suc (get_or cs e 0))) i 0 ≡ get_or cs i 0 + cond (eqb e i) 1 0
bump_one cs e i h = dite (ℕ_discrete e i)
    (λ same. let a : cond (eqb e i) 1 0 ≡ 1 = cond_same {A = ℕ} e i 1 0 same in
    let b : get_or (set cs i (suc (get_or cs e 0))) i 0 ≡ suc (get_or cs e 0) = get_or-set_same cs i (suc (get_or cs e 0)) 0 h in
    let c : get_or (set cs e (suc (get_or cs e 0))) i 0 ≡ get_or (set cs i (suc (get_or cs e 0))) i 0 = ap (λ (k : ℕ). get_or (set cs k (suc (get_or cs e 0))) i 0) same in
    let d : get_or cs e 0 ≡ get_or cs i 0 = ap (λ (k : ℕ). get_or cs k 0) same in omega arith)
    (λ other. let a : cond (eqb e i) 1 0 ≡ 0 = cond_other {A = ℕ} e i 1 0 other in
    let b = get_or-set_other cs e i (suc (get_or cs e 0)) 0 (λ z. other (sym z)) in omega arith)

pub get_or-bumped : (es cs : List ℕ) (i : ℕ) → i < length cs → get_or (bumped es cs) i 0 ≡ get_or cs i 0 + count_of i es
get_or-bumped [] cs i h = omega arith
get_or-bumped (e ∷ es) cs i h =
    let l : length (set cs e (suc (get_or cs e 0))) ≡ length cs = Rattle.std.proofs.Common.length-set cs e (suc (get_or cs e 0)) in
    let a = get_or-bumped es (set cs e (suc (get_or cs e 0))) i (omega arith) in let b = bump_one cs e i h in let c = count_more i e es in omega arith

pub count_of-append : (e : ℕ) (xs ys : List ℕ) → count_of e (xs ++ ys) ≡ count_of e xs + count_of e ys
count_of-append e [] ys = omega arith
count_of-append e (x ∷ xs) ys = let r = count_of-append e xs ys in let a = count_more e x (xs ++ ys) in let b = count_more e x xs in omega arith

pub bumped-append : (xs ys cs : List ℕ) → bumped (xs ++ ys) cs ≡ bumped ys (bumped xs cs)
bumped-append [] ys cs = refl
bumped-append (x ∷ xs) ys cs = bumped-append xs ys (set cs x (suc (get_or cs x 0)))

-- ---- logs
pub steps_of-snoc : (n k : ℕ) (h : List ℕ) (p : ℕ) → p % n ≡ k → steps_of n k (h ++ p ∷ []) ≡ steps_of n k h ++ p ∷ []
steps_of-snoc n k h p e = filter-append (λ q. eqb (q % n) k) h (p ∷ []) ∙ ap (λ l. steps_of n k h ++ l) (cond_same (p % n) k (p ∷ []) [] e)

pub steps_of-other : (n k : ℕ) (h : List ℕ) (p : ℕ) → p % n ≢ k → steps_of n k (h ++ p ∷ []) ≡ steps_of n k h
steps_of-other n k h p ne = filter-append (λ q. eqb (q % n) k) h (p ∷ []) ∙ ap (λ l. steps_of n k h ++ l) (cond_other (p % n) k (p ∷ []) [] ne) ∙ append-nil (steps_of n k h)

-- a list of one value at most
abbrev pub one_if : ℕ → ℕ → List ℕ
one_if zero x = []
one_if (suc n) x = x ∷ []

pub short_list : (xs : List ℕ) → length xs ≤ 1 → xs ≡ one_if (length xs) (get_or xs 0 0)
short_list (x ∷ (y ∷ xs)) h = absurd (omega arith)
short_list _ h = refl
