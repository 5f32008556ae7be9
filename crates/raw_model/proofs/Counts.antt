-- How often a wire stands in joined lists, and how many values are sent there.
use Rattle.std.proofs.Common.{◌≡◌, ℕ, suc, ◌+◌, ◌≤◌, Bool, true, false, cond, eqb, List, [], ◌∷◌, ◌++◌, length, map, Option, Some, None, refl, sym, ap, ◌∙◌, subst, ⊎_elim, arith}
use Rattle.std.specs.List.{flat_map, AllByRecursion}
use Rattle.std.specs.Option.{option_to_list}
use Rattle.std.proofs.lemmas.List.{length-append}
use Rattle.std.proofs.lemmas.Bool.{cases_eq}
use Rattle.raw_network.specs.Network.{Sent, count_of}
use Rattle.raw_network.specs.Runs.{sent_on}
use Rattle.raw_network.proofs.Wires.{count_here, count_there, sent_here, sent_there}
use Rattle.raw_model.specs.Machine.{sent_to}

-- how often a number stands in two lists joined
pub count-append : (w : ℕ) (xs ys : List ℕ) → count_of w (xs ++ ys) ≡ count_of w xs + count_of w ys
count-append w [] ys = omega arith
count-append w (x ∷ xs) ys =
    ⊎_elim
    (λ (e : x ≡ w).
    subst (λ u. count_of u (x ∷ (xs ++ ys)) ≡ count_of u (x ∷ xs) + count_of u ys) e
    (let a = count_here x (xs ++ ys) in let b = count_here x xs in let c = count-append x xs ys in omega arith))
    (λ (ne : x ≡ w → ⊥). let a = count_there w x (xs ++ ys) ne in let b = count_there w x xs ne in let c = count-append w xs ys in omega arith)
    (cases_eq x w)

-- what two lists of values send to a wire
pub sent-append : (w : ℕ) (ms ns : List Sent) → sent_on w (ms ++ ns) ≡ sent_on w ms ++ sent_on w ns
sent-append w [] ns = refl
sent-append w (m ∷ ms) ns =
    ⊎_elim
    (λ (e : m.wire ≡ w). sent_here w m (ms ++ ns) e ∙ ap (λ xs. m.value ∷ xs) (sent-append w ms ns) ∙ ap (λ xs. xs ++ sent_on w ns) (sym (sent_here w m ms e)))
    (λ (ne : m.wire ≡ w → ⊥). sent_there w m (ms ++ ns) ne ∙ sent-append w ms ns ∙ ap (λ xs. xs ++ sent_on w ns) (sym (sent_there w m ms ne)))
    (cases_eq m.wire w)

-- and how many values that is
pub sent-more : (w : ℕ) (ms ns : List Sent) → length (sent_on w (ms ++ ns)) ≡ length (sent_on w ms) + length (sent_on w ns)
sent-more w ms ns = ap length (sent-append w ms ns) ∙ length-append (sent_on w ms) (sent_on w ns)

-- one value each sent to some wires
pub sent_each : (w value : ℕ) (ws : List ℕ) → length (sent_on w (map (λ u. record { wire = u; value = value }) ws)) ≡ count_of w ws
sent_each w value [] = refl
sent_each w value (u ∷ ws) =
    by_test (eqb u w) (map (λ u. record { wire = u; value = value }) ws) (sent_each w value ws)
  where
    by_test : (b : Bool) (ms : List Sent) → length (sent_on w ms) ≡ count_of w ws
        → length (cond b (value ∷ sent_on w ms) (sent_on w ms)) ≡ cond b (suc (count_of w ws)) (count_of w ws)
    by_test true ms e = ap suc e
    by_test false ms e = e

-- a value sent to one wire, where there are both
pub sent_one : (w : ℕ) (o value : Option ℕ) → length (sent_on w (sent_to o value)) ≤ count_of w (option_to_list o)
sent_one w None value = omega arith
sent_one w (Some x) None = omega arith
sent_one w (Some x) (Some value) = by_test (eqb x w)
  where
    by_test : (b : Bool) → length (cond b (value ∷ []) []) ≤ cond b 1 0
    by_test true = omega arith
    by_test false = omega arith

-- a value that is there is sent to the wire that is there
pub sent_same : (w : ℕ) (o : Option ℕ) (value : ℕ) → length (sent_on w (sent_to o (Some value))) ≡ count_of w (option_to_list o)
sent_same w None value = refl
sent_same w (Some x) value = by_test (eqb x w)
  where
    by_test : (b : Bool) → length (cond b (value ∷ []) []) ≡ cond b 1 0
    by_test true = refl
    by_test false = refl

-- no value sends nothing
pub sent_none : (o : Option ℕ) → sent_to o None ≡ []
sent_none None = refl
sent_none (Some x) = refl

-- what goes out in parts is no more than what the parts name
pub sent_short : {A : Type 0} (w : ℕ) (ms : A → List Sent) (ws : A → List ℕ)
    → ((x : A) → length (sent_on w (ms x)) ≤ count_of w (ws x)) → (xs : List A)
    → length (sent_on w (flat_map ms xs)) ≤ count_of w (flat_map ws xs)
sent_short w ms ws each [] = omega arith
sent_short w ms ws each (x ∷ xs) =
    let a = sent-more w (ms x) (flat_map ms xs) in
    let b = count-append w (ws x) (flat_map ws xs) in
    let c = each x in
    let d = sent_short w ms ws each xs in
    omega arith

-- and as much, where each part sends what it names
pub sent_all : {A : Type 0} (w : ℕ) (ms : A → List Sent) (ws : A → List ℕ) (xs : List A)
    → AllByRecursion (λ x. length (sent_on w (ms x)) ≡ count_of w (ws x)) xs
    → length (sent_on w (flat_map ms xs)) ≡ count_of w (flat_map ws xs)
sent_all w ms ws [] each = refl
sent_all w ms ws (x ∷ xs) each =
    let a = sent-more w (ms x) (flat_map ms xs) in
    let b = count-append w (ws x) (flat_map ws xs) in
    let c = each.0 in
    let d = sent_all w ms ws xs each.1 in
    omega arith

-- where only one part can name a wire, and once, the wire is named as often at most as that part stands there
pub named_short : (w k : ℕ) (ws : ℕ → List ℕ) → ((i : ℕ) → count_of w (ws i) ≤ count_of k (i ∷ [])) → (is : List ℕ)
    → count_of w (flat_map ws is) ≤ count_of k is
named_short w k ws each [] = omega arith
named_short w k ws each (i ∷ is) =
    let a = count-append w (ws i) (flat_map ws is) in
    let b = count-append k (i ∷ []) is in
    let c = each i in
    let d = named_short w k ws each is in
    omega arith

-- the one wire of an option is named once at most
pub option_once : (w : ℕ) (o : Option ℕ) → count_of w (option_to_list o) ≤ 1
option_once w None = omega arith
option_once w (Some x) = by_test (eqb x w)
  where
    by_test : (b : Bool) → cond b 1 0 ≤ 1
    by_test true = omega arith
    by_test false = omega arith

-- and not at all where it is another
pub option_other : (w : ℕ) (o : Option ℕ) → (o ≡ Some w → ⊥) → count_of w (option_to_list o) ≡ 0
option_other w None other = refl
option_other w (Some x) other = count_there w x [] (λ e. other (ap Some e))

-- a list that a test chooses
pub count_cond : (w n : ℕ) (b : Bool) (xs ys : List ℕ) → count_of w xs ≤ n → count_of w ys ≤ n
    → count_of w (cond b xs ys) ≤ n
count_cond w n true xs ys h g = h
count_cond w n false xs ys h g = g
