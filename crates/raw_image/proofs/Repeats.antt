-- Parts one behind the other.
use Rattle.std.proofs.Common.{◌≡◌, ℕ, zero, suc, ◌+◌, List, [], ◌∷◌, ◌++◌, length, Result, Ok, Err, refl, sym, ap, subst, ◌∙◌, append_assoc, arith, add-zero}
use Rattle.std.specs.List.{flat_map}
use Rattle.std.proofs.lemmas.List.{append-nil, length-append}
use Rattle.std.proofs.lemmas.List.Concat.{flat_map-append, flat_map-cons}
use Rattle.raw_image.specs.declared.refused.Fault.{Fault}
use Rattle.raw_image.specs.Fields.{◌>>=◌, repeated, one_more, list_at}
use Rattle.raw_image.proofs.Loop.{Part, Item, listed}
use Rattle.raw_image.proofs.Bytes.{IsBytes, Takes, Takes-none, Takes-then, Takes-as, Holds, Sound, shorter}

-- what each part keeps, all keep
pub repeated_holds : {S : Type 0} (bytes : List ℕ) (part : Part S) (I : ℕ → S → List ℕ → Type 0) → ((k : ℕ) (s : S) (rest : List ℕ) → I k s rest → Holds bytes (I (k + 1)) (part s rest)) → (n k : ℕ) (s : S) (rest : List ℕ) → I k s rest → Holds bytes (I (k + n)) (repeated part n s rest)
repeated_holds bytes part I keeps zero k s rest i = subst (λ m. I m s rest) (sym (add-zero k)) i
repeated_holds {S = S} bytes part I keeps (suc n) k s rest i = by_part (part s rest) (keeps k s rest i) (repeated_holds bytes part I keeps n (k + 1))
  where
    by_part : (r : Result (S × List ℕ) Fault) → Holds bytes (I (k + 1)) r → ((t : S) (next : List ℕ) → I (k + 1) t next → Holds bytes (I (k + 1 + n)) (repeated part n t next)) → Holds bytes (I (k + suc n)) (r >>= λ next. repeated part n next.0 next.1)
    by_part (Ok x) h later = let same : k + 1 + n ≡ k + suc n = omega arith in subst (λ m. Holds bytes (I m) (repeated part n x.0 x.1)) same (later x.0 x.1 h)
    by_part (Err e) h later = h

pub flat_map_push : {A : Type 0} (s : A → List ℕ) (xs : List A) (x : A) → flat_map s (xs ++ x ∷ []) ≡ flat_map s xs ++ s x
flat_map_push s xs x = flat_map-append s xs (x ∷ []) ∙ ap (λ t. flat_map s xs ++ t) (flat_map-cons s x [] ∙ append-nil (s x))

-- a list of so many that were read
abbrev pub Kept : {A : Type 0} → List ℕ → (A → List ℕ) → (List A → Type 0) → ℕ → List A → List ℕ → Type 0
Kept bytes s Good k xs rest = Takes bytes (flat_map s xs) rest × (length xs ≡ k) × Good xs

one_kept : {A : Type 0} (bytes : List ℕ) (s : A → List ℕ) (Good : List A → Type 0) (k : ℕ) (xs : List A) (rest : List ℕ) (r : Result (A × List ℕ) Fault) → Kept bytes s Good k xs rest → Sound rest s (λ x. Good (xs ++ x ∷ [])) r → Holds bytes (Kept bytes s Good (k + 1)) (one_more xs r)
one_kept bytes s Good k xs rest (Ok x) h e =
    (Takes-as bytes (flat_map s xs ++ s x.0) (flat_map s (xs ++ x.0 ∷ [])) x.1 (sym (flat_map_push s xs x.0)) (Takes-then bytes (flat_map s xs) rest (s x.0) x.1 h.0 e.0), omega (arith, length-append xs (x.0 ∷ []), h.1), e.1)
one_kept bytes s Good k xs rest (Err f) h e = omega (arith, e, shorter bytes (flat_map s xs) rest h.0)

all_kept : {A : Type 0} (bytes : List ℕ) (s : A → List ℕ) (Good : List A → Type 0) (n : ℕ) (r : Result (List A × List ℕ) Fault) → Holds bytes (Kept bytes s Good (0 + n)) r → Sound bytes (flat_map s) (λ xs. (length xs ≡ n) × Good xs) r
all_kept bytes s Good n (Ok x) h = (h.0, (omega (arith, h.1), h.2))
all_kept bytes s Good n (Err f) h = h

-- a list: each part is spelled, and keeps what is so of those before it
pub list_sound : {A : Type 0} (item : Item A) (s : A → List ℕ) (Good : List A → Type 0) → Good [] → ((before : List A) (rest : List ℕ) → IsBytes rest → Good before → Sound rest s (λ x. Good (before ++ x ∷ [])) (item before rest))
    → (n : ℕ) (bytes : List ℕ) → IsBytes bytes → Sound bytes (flat_map s) (λ xs. (length xs ≡ n) × Good xs) (list_at item n bytes)
list_sound item s Good none each n bytes fits =
    all_kept bytes s Good n (list_at item n bytes)
    (repeated_holds bytes (listed item) (Kept bytes s Good) (λ k xs rest h. one_kept bytes s Good k xs rest (item xs rest) h (each xs rest h.0.rest_fits h.2)) n 0 [] bytes (Takes-none bytes fits, refl, none))

-- what is written of a list is read again, where each part is read behind those before it
abbrev pub EachAgain : {A : Type 0} → Item A → (A → List ℕ) → List A → List A → Type 0
EachAgain item s before [] = Unit {0}
EachAgain item s before (x ∷ xs) = ((rest : List ℕ) → item before (s x ++ rest) ≡ Ok (x, rest)) × EachAgain item s (before ++ x ∷ []) xs

pub list_again : {A : Type 0} (item : Item A) (s : A → List ℕ) (before xs : List A) (rest : List ℕ) → EachAgain item s before xs → repeated (listed item) (length xs) before (flat_map s xs ++ rest) ≡ Ok (before ++ xs, rest)
list_again item s before [] rest h = ap (λ t. Ok (t, rest)) (sym (append-nil before))
list_again item s before (x ∷ xs) rest h =
    let text : flat_map s (x ∷ xs) ++ rest ≡ s x ++ (flat_map s xs ++ rest) = ap (λ t. t ++ rest) (flat_map-cons s x xs) ∙ append_assoc (s x) (flat_map s xs) rest in
    let first : listed item before (s x ++ (flat_map s xs ++ rest)) ≡ Ok (before ++ x ∷ [], flat_map s xs ++ rest) = rw (h.0 (flat_map s xs ++ rest)) refl in
    ap (λ t. repeated (listed item) (suc (length xs)) before t) text
    ∙ ap (λ r. r >>= λ next. repeated (listed item) (length xs) next.0 next.1) first
    ∙ list_again item s (before ++ x ∷ []) xs rest h.1
    ∙ ap (λ t. Ok (t, rest)) (append_assoc before (x ∷ []) xs)
