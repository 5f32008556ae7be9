-- Texts of numbers in turn.
use Rattle.std.proofs.Common.{◌≡◌, ℕ, zero, suc, ◌+◌, ◌-◌, ◌<◌, ◌≤◌, List, [], ◌++◌, refl, sym, ap, ◌∙◌, arith, append_assoc, append-nil}
use Rattle.std.specs.List.{flat_map, range_with_len}

last : (f : ℕ → List ℕ) (from n k : ℕ) → from + n ≡ k → flat_map f (range_with_len from (suc n)) ≡ flat_map f (range_with_len from n) ++ f k
last f from zero k at = let same : from ≡ k = omega arith in append-nil (f from) ∙ ap f same
last f from (suc n) k at =
    ap (λ t. f from ++ t) (last f (from + 1) n k (omega arith)) ∙ sym (append_assoc (f from) (flat_map f (range_with_len (from + 1) n)) (f k))

-- a text of some numbers, with that of the next one
pub one_more : (f : ℕ → List ℕ) (from n m k : ℕ) (old mid new : List ℕ) → from + n ≡ k → m ≡ n + 1 → mid ≡ old ++ flat_map f (range_with_len from n) → new ≡ mid ++ f k
    → new ≡ old ++ flat_map f (range_with_len from m)
one_more f from n m k old mid new at next before now =
    let count : suc n ≡ m = omega arith in
    now ∙ ap (λ t. t ++ f k) before ∙ append_assoc old (flat_map f (range_with_len from n)) (f k)
    ∙ ap (λ t. old ++ t) (sym (last f from n k at) ∙ ap (λ c. flat_map f (range_with_len from c)) count)

-- of no numbers
pub none_yet : (f : ℕ → List ℕ) (from n : ℕ) (old : List ℕ) → n ≡ 0 → old ≡ old ++ flat_map f (range_with_len from n)
none_yet f from n old e = sym (ap (λ c. old ++ flat_map f (range_with_len from c)) e ∙ append-nil old)

none : (f : ℕ → List ℕ) (from n : ℕ) → ((k : ℕ) → from ≤ k → k < from + n → f k ≡ []) → flat_map f (range_with_len from n) ≡ []
none f from zero each = refl
none f from (suc n) each = rw (each from (omega arith) (omega arith)) (none f (from + 1) n (λ k low high. each k (omega arith) (omega arith)))

-- the numbers behind the first n have no text
front : (f g : ℕ → List ℕ) (from n m : ℕ) → ((k : ℕ) → from ≤ k → k < from + n → f k ≡ g k) → ((k : ℕ) → from + n ≤ k → k < from + n + m → f k ≡ [])
    → flat_map f (range_with_len from (n + m)) ≡ flat_map g (range_with_len from n)
front f g from zero m same rest =
    let count : zero + m ≡ m = omega arith in
    ap (λ c. flat_map f (range_with_len from c)) count ∙ none f from m (λ k low high. rest k (omega arith) (omega arith))
front f g from (suc n) m same rest =
    let count : suc n + m ≡ suc (n + m) = omega arith in
    ap (λ c. flat_map f (range_with_len from c)) count
    ∙ ap (λ t. t ++ flat_map f (range_with_len (from + 1) (n + m))) (same from (omega arith) (omega arith))
    ∙ ap (λ t. g from ++ t) (front f g (from + 1) n m (λ k low high. same k (omega arith) (omega arith)) (λ k low high. rest k (omega arith) (omega arith)))

-- the first n numbers have no text
back : (f : ℕ → List ℕ) (from n m : ℕ) → ((k : ℕ) → from ≤ k → k < from + n → f k ≡ []) → flat_map f (range_with_len from (n + m)) ≡ flat_map f (range_with_len (from + n) m)
back f from zero m each =
    let count : zero + m ≡ m = omega arith in
    let start : from ≡ from + zero = omega arith in
    ap (λ c. flat_map f (range_with_len from c)) count ∙ ap (λ s. flat_map f (range_with_len s m)) start
back f from (suc n) m each =
    let count : suc n + m ≡ suc (n + m) = omega arith in
    let start : from + 1 + n ≡ from + suc n = omega arith in
    let more : f from ++ flat_map f (range_with_len (from + 1) (n + m)) ≡ flat_map f (range_with_len (from + 1 + n) m) =
    rw (each from (omega arith) (omega arith)) (back f (from + 1) n m (λ k low high. each k (omega arith) (omega arith))) in
    ap (λ c. flat_map f (range_with_len from c)) count ∙ more ∙ ap (λ s. flat_map f (range_with_len s m)) start

-- only the numbers from a up to b have a text
pub between : (f g : ℕ → List ℕ) (a b n : ℕ) → a ≤ b → b ≤ n → ((k : ℕ) → k < a → f k ≡ []) → ((k : ℕ) → a ≤ k → k < b → f k ≡ g k) → ((k : ℕ) → b ≤ k → k < n → f k ≡ [])
    → flat_map f (range_with_len 0 n) ≡ flat_map g (range_with_len a (b - a))
between f g a b n low high before here behind =
    let rest = b - a + (n - b) in
    let split : n ≡ a + rest = omega arith in
    let start : 0 + a ≡ a = omega arith in
    ap (λ c. flat_map f (range_with_len 0 c)) split
    ∙ back f 0 a rest (λ k least lt. before k (omega arith))
    ∙ ap (λ s. flat_map f (range_with_len s rest)) start
    ∙ front f g a (b - a) (n - b) (λ k least lt. here k least (omega arith)) (λ k least lt. behind k (omega arith) (omega arith))

-- four texts, one after another
pub four : (old a b c d one two three new : List ℕ) → one ≡ old ++ a → two ≡ one ++ b → three ≡ two ++ c → new ≡ three ++ d → new ≡ old ++ (a ++ b ++ c ++ d)
four old a b c d one two three new e1 e2 e3 e4 =
    e4 ∙ ap (λ t. t ++ d) (e3 ∙ ap (λ t. t ++ c) (e2 ∙ ap (λ t. t ++ b) e1))
    ∙ ap (λ t. t ++ d) (ap (λ t. t ++ c) (append_assoc old a b) ∙ append_assoc old (a ++ b) c)
    ∙ append_assoc old (a ++ b ++ c) d
