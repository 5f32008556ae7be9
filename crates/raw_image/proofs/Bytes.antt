-- Single fields: what is read is what was written, and what was written is read again.
use Rattle.std.proofs.Common.{◌≡◌, ℕ, zero, suc, ◌+◌, ◌^◌, ◌<◌, ◌≤◌, Bool, true, false, cond, eqb, ltb, leb, List, [], ◌∷◌, ◌++◌, length, get_or, take, drop, Option, Some, None, Result, Ok, Err, refl, sym, ap, ◌∙◌, append_assoc, arith, inl, inr}
use Rattle.std.specs.Prelude.{◌&&◌}
use Rattle.std.specs.Int.{Width, w32, w64, byte_len, from_be_bytes, to_be_bytes}
use Rattle.std.proofs.lemmas.Bool.{cases_lt, ltb-false, le-ltb, leb-true, le-leb, and_parts, eqb-true}
use Rattle.std.proofs.lemmas.Option.{cond_some, same_Some}
use Rattle.std.proofs.lemmas.List.{take_at, drop_at, take-append-drop, length-append, length-take, get_or-drop, get_or-take, get_or_past}
use Rattle.std.proofs.lemmas.Nat.{be_bytes_4, be_bytes_8, from_be_bytes-to_be_bytes_4, from_be_bytes-to_be_bytes_8}
use Rattle.raw_image.specs.declared.kind.ImageKind.TheVariants.{BadField}
use Rattle.raw_image.specs.declared.refused.Fault.{Fault}
use Rattle.raw_image.specs.Fields.{◌>>=◌, short, fault_at, front_at, said, said_at, byte_at, between, are_zeros, zeros_at}

abbrev pub IsBytes : List ℕ → Type 0
IsBytes bytes = (i : ℕ) → get_or bytes i 0 < 256

pub IsBytes-drop : (n : ℕ) (bytes : List ℕ) → IsBytes bytes → IsBytes (drop n bytes)
IsBytes-drop n bytes h i = rw get_or-drop (h (n + i))

pub IsBytes-take : (n : ℕ) (bytes : List ℕ) → IsBytes bytes → IsBytes (take n bytes)
IsBytes-take n bytes h i =
    elim (cases_lt i n) [
      | inl lt ↦ rw (get_or-take n bytes i 0 lt) (h i)
      | inr le ↦ rw (get_or_past (take n bytes) i 0 (omega (arith, length-take n bytes))) (omega arith)
    ]

-- what was taken from the front
pub record Takes (bytes text rest : List ℕ) : Type 0 where
  pub parts : bytes ≡ text ++ rest
  pub rest_fits : IsBytes rest

pub Takes-none : (bytes : List ℕ) → IsBytes bytes → Takes bytes [] bytes
Takes-none bytes fits = record { parts = refl; rest_fits = fits }

pub Takes-then : (a x b y c : List ℕ) → Takes a x b → Takes b y c → Takes a (x ++ y) c
Takes-then a x b y c p q = record { parts = p.parts ∙ ap (λ (t : List ℕ). x ++ t) q.parts ∙ sym (append_assoc x y c); rest_fits = q.rest_fits }

pub Takes-as : (bytes text other rest : List ℕ) → text ≡ other → Takes bytes text rest → Takes bytes other rest
Takes-as bytes text other rest e t = record { parts = t.parts ∙ ap (λ x. x ++ rest) e; rest_fits = t.rest_fits }

pub shorter : (bytes text rest : List ℕ) → Takes bytes text rest → length rest ≤ length bytes
shorter bytes text rest t = omega (arith, ap length t.parts, length-append text rest)

-- what holds of what was read; a fault is within the bytes
abbrev pub Holds : {X : Type 0} → List ℕ → (X → List ℕ → Type 0) → Result (X × List ℕ) Fault → Type 0
Holds bytes P (Ok x) = P x.0 x.1
Holds bytes P (Err f) = f.left ≤ length bytes

-- what was read is spelled so, and is lawful
abbrev pub Sound : {X : Type 0} → List ℕ → (X → List ℕ) → (X → Type 0) → Result (X × List ℕ) Fault → Type 0
Sound bytes s L read = Holds bytes (λ x rest. Takes bytes (s x) rest × L x) read

-- one field more
pub step : {A B : Type 0} (bytes text rest : List ℕ) (s : A → List ℕ) (L : A → Type 0) (P : B → List ℕ → Type 0) (r : Result (A × List ℕ) Fault) (f : A × List ℕ → Result (B × List ℕ) Fault) → Takes bytes text rest → Sound rest s L r
    → ((a : A) (next : List ℕ) → Takes bytes (text ++ s a) next → L a → Holds bytes P (f (a, next))) → Holds bytes P (r >>= f)
step bytes text rest s L P (Ok x) f t h k = k x.0 x.1 (Takes-then bytes text rest (s x.0) x.1 t h.0) h.1
step bytes text rest s L P (Err e) f t h k = omega (arith, h, shorter bytes text rest t)

-- ---- bytes of a width

abbrev front_by : ℕ → List ℕ → Bool → Result (List ℕ × List ℕ) Fault
front_by width bytes b = cond b (Err short) (Ok (take width bytes, drop width bytes))

abbrev pub IsFront : ℕ → List ℕ → Type 0
IsFront width x = (length x ≡ width) × IsBytes x

pub front_sound : (width : ℕ) (bytes : List ℕ) → IsBytes bytes → Sound bytes (λ x. x) (IsFront width) (front_at width bytes)
front_sound width bytes fits = by_test (ltb (length bytes) width) refl
  where
    by_test : (b : Bool) → ltb (length bytes) width ≡ b → Sound bytes (λ x. x) (IsFront width) (front_by width bytes b)
    by_test true e = omega arith
    by_test false e =
        let long = ltb-false _ _ e in
        (record { parts = sym (take-append-drop width bytes); rest_fits = IsBytes-drop width bytes fits }, (omega (arith, length-take width bytes), IsBytes-take width bytes fits))

-- ---- numbers

pub record IsWide (w : Width) (limit : ℕ) : Type 0 where
  pub len : (n : ℕ) → length (to_be_bytes w n) ≡ byte_len w
  pub back : (bytes : List ℕ) → length bytes ≡ byte_len w → IsBytes bytes → to_be_bytes w (from_be_bytes w bytes) ≡ bytes
  pub again : (n : ℕ) → n < limit → from_be_bytes w (to_be_bytes w n) ≡ n
  pub below : (bytes : List ℕ) → IsBytes bytes → from_be_bytes w bytes < limit

pub wide32 : IsWide w32 (2 ^ 32)
wide32 = record {
  len = λ n. refl;
  back = λ bytes len fits. be_bytes_4 bytes _ len fits refl;
  again = λ n lt. from_be_bytes-to_be_bytes_4 n lt;
  below = λ bytes fits. omega (arith, fits 0, fits 1, fits 2, fits 3);
}

pub wide64 : IsWide w64 (2 ^ 64)
wide64 = record {
  len = λ n. refl;
  back = λ bytes len fits. be_bytes_8 bytes _ len fits refl;
  again = λ n lt. from_be_bytes-to_be_bytes_8 n lt;
  below = λ bytes fits. omega (arith, fits 0, fits 1, fits 2, fits 3, fits 4, fits 5, fits 6, fits 7);
}

-- a number as a field: what its value spells is its number
abbrev pub Says : {A : Type 0} → Width → ℕ → (ℕ → Option A) → (A → List ℕ) → (A → Type 0) → Type 0
Says {A = A} w limit value s L = (n : ℕ) (x : A) → n < limit → value n ≡ Some x → (s x ≡ to_be_bytes w n) × L x

pub said_sound : {A : Type 0} (w : Width) (limit : ℕ) (value : ℕ → Option A) (s : A → List ℕ) (L : A → Type 0) → IsWide w limit → Says w limit value s L → (bytes : List ℕ) → IsBytes bytes → Sound bytes s L (said_at w value bytes)
said_sound {A = A} w limit value s L wide says bytes fits = by_front (front_at (byte_len w) bytes) (front_sound (byte_len w) bytes fits)
  where
    by_value : (x : List ℕ × List ℕ) (o : Option A) → value (from_be_bytes w x.0) ≡ o → Takes bytes x.0 x.1 → IsFront (byte_len w) x.0 → Sound bytes s L (said (fault_at BadField bytes) x.1 o)
    by_value x None e t h = omega arith
    by_value x (Some y) e t h =
        let told = says (from_be_bytes w x.0) y (wide.below x.0 h.1) e in
        let text : x.0 ≡ s y = sym (told.0 ∙ wide.back x.0 h.0 h.1) in
        (Takes-as bytes x.0 (s y) x.1 text t, told.1)

    by_front : (r : Result (List ℕ × List ℕ) Fault) → Sound bytes (λ x. x) (IsFront (byte_len w)) r → Sound bytes s L (r >>= λ field. said (fault_at BadField bytes) field.1 (value (from_be_bytes w field.0)))
    by_front (Ok x) h = by_value x (value (from_be_bytes w x.0)) refl h.0 h.1
    by_front (Err f) h = h

pub said_again : {A : Type 0} (w : Width) (limit : ℕ) (value : ℕ → Option A) (n : ℕ) (x : A) (rest : List ℕ) → IsWide w limit → n < limit → value n ≡ Some x → said_at w value (to_be_bytes w n ++ rest) ≡ Ok (x, rest)
said_again w limit value n x rest wide lt e =
    let len = wide.len n in
    let long : ltb (length (to_be_bytes w n ++ rest)) (byte_len w) ≡ false = le-ltb _ _ (omega (arith, length-append (to_be_bytes w n) rest)) in
    rw (long, take_at (to_be_bytes w n) rest (byte_len w) len, drop_at (to_be_bytes w n) rest (byte_len w) len, wide.again n lt, e) refl

-- ---- bytes

pub byte_sound : {A : Type 0} (value : ℕ → Option A) (s : A → List ℕ) (L : A → Type 0) → ((n : ℕ) (x : A) → n < 256 → value n ≡ Some x → (s x ≡ n ∷ []) × L x) → (bytes : List ℕ) → IsBytes bytes → Sound bytes s L (byte_at value bytes)
byte_sound value s L says [] fits = omega arith
byte_sound {A = A} value s L says (n ∷ rest) fits = by_value (value n) refl
  where
    by_value : (o : Option A) → value n ≡ o → Sound (n ∷ rest) s L (said (fault_at BadField (n ∷ rest)) rest o)
    by_value None e = omega arith
    by_value (Some x) e =
        let told = says n x (fits 0) e in
        (record { parts = sym (ap (λ t. t ++ rest) told.0); rest_fits = λ i. fits (suc i) }, told.1)

pub byte_again : {A : Type 0} (value : ℕ → Option A) (n : ℕ) (x : A) (rest : List ℕ) → value n ≡ Some x → byte_at value (n ∷ rest) ≡ Ok (x, rest)
byte_again value n x rest e = rw e refl

pub front_again : (width : ℕ) (text rest : List ℕ) → length text ≡ width → front_at width (text ++ rest) ≡ Ok (text, rest)
front_again width text rest len =
    let long : ltb (length (text ++ rest)) width ≡ false = le-ltb _ _ (omega (arith, length-append text rest)) in
    rw (long, take_at text rest width len, drop_at text rest width len) refl

-- ---- bytes 0

pub zeros : ℕ → List ℕ
zeros zero = []
zeros (suc n) = 0 ∷ zeros n

pub zeros_one : zeros 1 ≡ 0 ∷ []
unfolding zeros
zeros_one = refl

pub zeros_two : zeros 2 ≡ 0 ∷ 0 ∷ []
unfolding zeros
zeros_two = refl

pub zeros_three : zeros 3 ≡ 0 ∷ 0 ∷ 0 ∷ []
unfolding zeros
zeros_three = refl

zeros_are : (field : List ℕ) → are_zeros field ≡ true → field ≡ zeros (length field)
unfolding zeros
zeros_are [] e = refl
zeros_are (n ∷ field) e =
    let parts = and_parts (eqb n 0) (are_zeros field) e in
    ap (λ m. m ∷ field) (eqb-true n 0 parts.0) ∙ ap (λ t. 0 ∷ t) (zeros_are field parts.1)

pub zeros_step : {B : Type 0} (bytes text rest : List ℕ) (P : B → List ℕ → Type 0) (width : ℕ) (f : List ℕ → Result (B × List ℕ) Fault) → Takes bytes text rest → ((next : List ℕ) → Takes bytes (text ++ zeros width) next → Holds bytes P (f next)) → Holds bytes P (zeros_at width rest >>= f)
zeros_step {B = B} bytes text rest P width f t k = by_front (front_at width rest) (front_sound width rest t.rest_fits)
  where
    by_zeros : (x : List ℕ × List ℕ) (b : Bool) → are_zeros x.0 ≡ b → Takes rest x.0 x.1 → length x.0 ≡ width → Holds bytes P (cond b (Ok x.1) (Err (fault_at BadField rest)) >>= f)
    by_zeros x true e h len =
        let text-is : x.0 ≡ zeros width = zeros_are x.0 e ∙ ap zeros len in
        k x.1 (Takes-then bytes text rest (zeros width) x.1 t (Takes-as rest x.0 (zeros width) x.1 text-is h))
    by_zeros x false e h len = omega (arith, shorter bytes text rest t)

    by_front : (r : Result (List ℕ × List ℕ) Fault) → Sound rest (λ x. x) (IsFront width) r → Holds bytes P ((r >>= λ field. cond (are_zeros field.0) (Ok field.1) (Err (fault_at BadField rest))) >>= f)
    by_front (Ok x) h = by_zeros x (are_zeros x.0) refl h.0 h.1.0
    by_front (Err e) h = omega (arith, h, shorter bytes text rest t)

zeros_length : (n : ℕ) → length (zeros n) ≡ n
unfolding zeros
zeros_length zero = refl
zeros_length (suc n) = ap suc (zeros_length n)

zeros_pass : (n : ℕ) → are_zeros (zeros n) ≡ true
unfolding zeros
zeros_pass zero = refl
zeros_pass (suc n) = zeros_pass n

pub zeros_again : (width : ℕ) (rest : List ℕ) → zeros_at width (zeros width ++ rest) ≡ Ok rest
zeros_again width rest = rw (front_again width (zeros width) rest (zeros_length width), zeros_pass width) refl

-- ---- numbers in a range

pub between_is : (least most n x : ℕ) → between least most n ≡ Some x → (n ≡ x) × (least ≤ x) × (x ≤ most)
between_is least most n x e =
    let a = cond_some (leb least n && leb n most) n x e in
    let b = and_parts (leb least n) (leb n most) a.0 in
    (a.1, rw (← a.1) (leb-true _ _ b.0), rw (← a.1) (leb-true _ _ b.1))

pub between_again : (least most n : ℕ) → least ≤ n → n ≤ most → between least most n ≡ Some n
between_again least most n low high = rw (le-leb _ _ low, le-leb _ _ high) refl

-- the number of a range, as a field of four bytes
pub number_sound : (least most : ℕ) (bytes : List ℕ) → IsBytes bytes → Sound bytes (to_be_bytes w32) (λ n. (least ≤ n) × (n ≤ most)) (said_at w32 (between least most) bytes)
number_sound least most bytes fits = said_sound w32 (2 ^ 32) (between least most) (to_be_bytes w32) (λ n. (least ≤ n) × (n ≤ most)) wide32 (λ n x lt e. let b = between_is least most n x e in (ap (to_be_bytes w32) (sym b.0), (b.1, b.2))) bytes fits

pub number_again : (least most n : ℕ) (rest : List ℕ) → n < 2 ^ 32 → least ≤ n → n ≤ most → said_at w32 (between least most) (to_be_bytes w32 n ++ rest) ≡ Ok (n, rest)
number_again least most n rest lt low high = said_again w32 (2 ^ 32) (between least most) n n rest wide32 lt (between_again least most n low high)

-- any number of four bytes
pub word_sound : (bytes : List ℕ) → IsBytes bytes → Sound bytes (to_be_bytes w32) (λ n. n < 2 ^ 32) (said_at w32 Some bytes)
word_sound bytes fits = said_sound w32 (2 ^ 32) Some (to_be_bytes w32) (λ n. n < 2 ^ 32) wide32 (λ n x lt e. let same = same_Some n x e in (ap (to_be_bytes w32) (sym same), rw (← same) lt)) bytes fits

pub word_again : (n : ℕ) (rest : List ℕ) → n < 2 ^ 32 → said_at w32 Some (to_be_bytes w32 n ++ rest) ≡ Ok (n, rest)
word_again n rest lt = said_again w32 (2 ^ 32) Some n n rest wide32 lt refl
