-- What std's parser of digits says of the number that digits write.
use Rattle.std.proofs.Common.{◌≡◌, ℕ, ◌<◌, ◌≤◌, ◌^◌, Bool, true, false, ◌&&◌, cond, List, [], ◌∷◌, length, get_or, Some, None, Ok, Err, refl, sym, ap, ◌∙◌, ⊎_elim, subst, arith}
use Rattle.std.specs.Prelude.{nat_lt, nat_le, MatchResult}
use Rattle.std.specs.List.{list_all}
use Rattle.std.specs.Char.{is_digit, digit_value}
use Rattle.std.specs.Str.{IsAscii, IsUtf8}
use Rattle.std.specs.Str.Parse.{digits_value, AllDigits, IsNumeral, ParsesUnsigned}
use Rattle.std.specs.Option.{is_some}
use Rattle.std.specs.Result.{OkIff, result_ok}
use Rattle.std.specs.declared.result.Result.{Result}
use Rattle.std.proofs.lemmas.Str.Parse.{without_leading_plus_none}
use Rattle.std.proofs.lemmas.Bool.{lt-ltb, le-leb, cases_Bool}
use Rattle.std.proofs.lemmas.Bool.Decides.{nat_tests}
use Rattle.std.proofs.lemmas.Str.{IsUtf8-from_ascii}
use Rattle.std.proofs.lemmas.Str.Ascii.{IsAscii-nil, IsAscii-cons}
use Rattle.raw_text.specs.Number.{are_digits, digits_up_to}

-- both hold where their conjunction does
pub both : (a b : Bool) → (a && b) ≡ true → (a ≡ true) × (b ≡ true)
both true b e = (refl, e)
both false b e = grind (arith, nat_tests)

all_digits : (radix : ℕ) (ds : List ℕ) → list_all (λ c. is_digit c radix) ds ≡ true → AllDigits radix ds
all_digits radix [] e = tt
all_digits radix (c ∷ cs) e =
    let parts = both (is_digit c radix) (list_all (λ d. is_digit d radix) cs) e in
    let digit : is_digit c radix ≡ true = parts.0 in
    let here : digit_value c < radix = grind (arith, nat_tests) in
    (here, all_digits radix cs parts.1)

pub pass_digits : (radix : ℕ) (ds : List ℕ) → AllDigits radix ds → list_all (λ c. is_digit c radix) ds ≡ true
pass_digits radix [] all = refl
pass_digits radix (c ∷ cs) all = rw (lt-ltb (digit_value c) radix all.0, pass_digits radix cs all.1) refl

-- digits that write a number of at most so much
pub written : (most radix value : ℕ) (ds : List ℕ) → IsNumeral radix ds → digits_value radix ds ≡ value → digits_up_to most radix ds ≡ cond (nat_le value most) (Some value) None
unfolding digits_up_to
written most radix value ds numeral is = rw (lt-ltb 0 (length ds) numeral.0, pass_digits radix ds numeral.1, is) refl

-- bytes that write no such number
pub unwritten : (most radix : ℕ) (ds : List ℕ) → (IsNumeral radix ds → digits_value radix ds ≤ most → ⊥) → digits_up_to most radix ds ≡ None
unfolding digits_up_to
unwritten most radix ds none =
    ⊎_elim
    (λ (yes : (are_digits radix ds && nat_le (digits_value radix ds) most) ≡ true).
    let parts = both (are_digits radix ds) (nat_le (digits_value radix ds) most) yes in
    let digits = both (nat_lt 0 (length ds)) (list_all (λ c. is_digit c radix) ds) parts.0 in
    let some_test : nat_lt 0 (length ds) ≡ true = digits.0 in
    let fits_test : nat_le (digits_value radix ds) most ≡ true = parts.1 in
    let some : 0 < length ds = grind (arith, nat_tests) in
    let fits : digits_value radix ds ≤ most = grind (arith, nat_tests) in
    absurd (none (some, all_digits radix ds digits.1) fits))
    (λ (no : (are_digits radix ds && nat_le (digits_value radix ds) most) ≡ false). rw no refl)
    (cases_Bool (are_digits radix ds && nat_le (digits_value radix ds) most))

digit_is_ascii : (c : ℕ) → digit_value c < 36 → c < 128
digit_is_ascii c h = grind (arith, nat_tests)

digits_are_ascii : (radix : ℕ) (ds : List ℕ) → radix ≤ 36 → AllDigits radix ds → IsAscii ds
digits_are_ascii radix [] le all = IsAscii-nil
digits_are_ascii radix (c ∷ cs) le all = IsAscii-cons c cs (digit_is_ascii c (omega (arith, all.0))) (digits_are_ascii radix cs le all.1)

-- bytes that are no text are no digits
pub no_text : (most radix : ℕ) (ds : List ℕ) → radix ≤ 36 → (IsUtf8 ds → ⊥) → digits_up_to most radix ds ≡ None
no_text most radix ds le none = unwritten most radix ds (λ numeral _. none (IsUtf8-from_ascii ds (digits_are_ascii radix ds le numeral.1)))

-- a plus is no digit
plus_first : (radix : ℕ) (ds : List ℕ) → radix ≤ 36 → get_or ds 0 0 ≡ 43 → IsNumeral radix ds → ⊥
plus_first radix [] le e numeral = omega (arith, numeral.0)
plus_first radix (c ∷ cs) le e numeral = let high : digit_value c ≡ 36 = rw e refl in omega (arith, high, numeral.1.0)

pub no_plus : (most radix : ℕ) (ds : List ℕ) → radix ≤ 36 → get_or ds 0 0 ≡ 43 → digits_up_to most radix ds ≡ None
no_plus most radix ds le e = unwritten most radix ds (λ numeral _. plus_first radix ds le e numeral)

some_is_none : {T : Type 0} (x : T) → Some x ≡ None → ⊥
some_is_none x e = let clash : true ≡ false = ap is_some e in grind (arith, nat_tests)

-- what holds where a result is an error, and where it is a value
pub refused : {T E : Type 0} (P : T → Type 0) (Q : E → Type 0) (r : Result T E) → result_ok r ≡ None → MatchResult r P Q → (e : E) × Q e
refused P Q (Ok x) none cases = absurd (some_is_none x none)
refused P Q (Err e) none cases = (e, cases)

pub accepted : {T E : Type 0} (P : T → Type 0) (Q : E → Type 0) (r : Result T E) (x : T) → result_ok r ≡ Some x → MatchResult r P Q → P x
accepted P Q (Ok y) x some cases = let same : y ≡ x = search in subst P same cases
accepted P Q (Err e) x some cases = absurd (some_is_none x (sym some))

as_cases : {T E : Type 0} (P : Type 0) (value : T) (r : Result T E) → OkIff r P value → MatchResult r (λ x. P × (x ≡ value)) (λ _. P → ⊥)
as_cases P value (Ok x) h = h
as_cases P value (Err e) h = h

-- std's parser has a value of the digits, where no plus stands first
abbrev pub HasValue : ℕ → List ℕ → Type 0
HasValue radix ds = IsNumeral radix ds × (digits_value radix ds < 2 ^ 32)

pub reads : {E : Type 0} (radix : ℕ) (ds text : List ℕ) (r : Result ℕ E) → text ≡ ds → (get_or ds 0 0 ≡ 43 → ⊥) → ParsesUnsigned 32 radix text r
    → MatchResult r (λ x. HasValue radix ds × (x ≡ digits_value radix ds)) (λ _. HasValue radix ds → ⊥)
reads radix ds text r same none parsed =
    let own : ParsesUnsigned 32 radix ds r = subst (λ t. ParsesUnsigned 32 radix t r) same parsed in
    as_cases (HasValue radix ds) (digits_value radix ds) r
    (subst (λ t. OkIff r (IsNumeral radix t × (digits_value radix t < 2 ^ 32)) (digits_value radix t)) (without_leading_plus_none ds none) own)

pub read_within : (most radix value : ℕ) (ds : List ℕ) → HasValue radix ds × (value ≡ digits_value radix ds) → value ≤ most → digits_up_to most radix ds ≡ Some value
read_within most radix value ds read le = written most radix value ds read.0.0 (sym read.1) ∙ ap (λ b. cond b (Some value) None) (le-leb value most le)

pub read_beyond : (most radix value : ℕ) (ds : List ℕ) → value ≡ digits_value radix ds → most < value → digits_up_to most radix ds ≡ None
read_beyond most radix value ds is lt = unwritten most radix ds (λ _ le. omega (arith, is, le))

pub read_nothing : (most radix : ℕ) (ds : List ℕ) → most < 2 ^ 32 → (HasValue radix ds → ⊥) → digits_up_to most radix ds ≡ None
read_nothing most radix ds small none = unwritten most radix ds (λ numeral le. none (numeral, omega arith))
