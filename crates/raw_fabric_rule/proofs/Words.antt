-- Numbers modulo 8, and the status word.
use Rattle.std.proofs.Common.{◌≡◌, ◌≢◌, ℕ, zero, suc, ◌+◌, ◌-◌, ◌*◌, ◌/◌, ◌%◌, ◌^◌, ◌<◌, ◌≤◌, List, [], ◌∷◌, length, get_or, set, sym, ap, ◌∙◌, arith, pow-suc, div-one, subst, pow_mono, mod-eq_of_lt, mul-le-mul, length-set}
use Rattle.std.proofs.Math.Nat.{zero-div}
use Rattle.std.proofs.lemmas.Nat.{shr-shr, pow-add}
use Rattle.raw_fabric_rule.specs.Word.{pack, field}
use Rattle.raw_fabric_rule.specs.Plays.{place_from}

-- the count sent of the other side, from the own count taken
pub newest_sent : (t s : ℕ) → t ≤ s → s ≤ t + 7 → t + (s % 8 + 8 - t % 8) % 8 ≡ s
newest_sent t s a b = omega arith

pub newest_taken : (t s : ℕ) → t ≤ s → s ≤ t + 7 → s - (s % 8 + 8 - t % 8) % 8 ≡ t
newest_taken t s a b = omega arith

-- a field of the word is its count modulo 8
pub field-pack : (cs : List ℕ) (i : ℕ) → field i (pack cs) ≡ get_or cs i 0 % 8
field-pack [] i = ap (λ (k : ℕ). k % 8) (zero-div (2 ^ (3 * i)))
field-pack (c ∷ cs) zero = let w : ℕ = c % 8 + 8 * pack cs in
    let a : w / 2 ^ (3 * 0) ≡ w = div-one w in
    let b : w / 2 ^ (3 * 0) % 8 ≡ w % 8 = ap (λ (k : ℕ). k % 8) a in omega arith
field-pack (c ∷ cs) (suc i) = let w : ℕ = c % 8 + 8 * pack cs in let a : w / 8 ≡ pack cs = omega arith in
    let e : 3 + 3 * i ≡ 3 * suc i = omega arith in
    let b : w / 2 ^ (3 * suc i) ≡ w / 8 / 2 ^ (3 * i) = ap (λ (k : ℕ). w / 2 ^ k) (sym e) ∙ sym (shr-shr w 3 (3 * i)) in
    ap (λ (k : ℕ). k % 8) (b ∙ ap (λ (k : ℕ). k / 2 ^ (3 * i)) a) ∙ field-pack cs i

-- it has three bits for each count
pub pack_below : (cs : List ℕ) → pack cs < 8 ^ length cs
pack_below [] = omega arith
pack_below (c ∷ cs) = let r = pack_below cs in let p = pow-suc 8 (length cs) in omega arith

pub place_from-mod : (c k : ℕ) → k < 8 → place_from c k % 8 ≡ k
place_from-mod c k h = omega arith

pub place_from-above : (c k : ℕ) → c ≤ place_from c k
place_from-above c k = omega arith

-- word 8 (procs + w) + k, and word 8 p
pub word_wire : (n w k : ℕ) → k < 8 → (16 * (n + w) + k) / 16 - n ≡ w
word_wire n w k h = omega arith

pub word_place : (n w k : ℕ) → k < 8 → (16 * (n + w) + k) % 16 ≡ k
word_place n w k h = omega arith

pub same_word : (p q : ℕ) → 16 * p ≡ 16 * q → p ≡ q
same_word p q e = omega arith

-- one more at an end, in the word
pub pack_bump : (cs : List ℕ) (e : ℕ) → e < length cs → (get_or cs e 0 % 8 ≡ 7 → pack (set cs e (suc (get_or cs e 0))) + 7 * 2 ^ (3 * e) ≡ pack cs) × (get_or cs e 0 % 8 < 7 → pack (set cs e (suc (get_or cs e 0))) ≡ pack cs + 1 * 2 ^ (3 * e))
pack_bump [] e h = absurd (omega arith)
pack_bump (c ∷ cs) zero h = ((λ z. omega arith), λ z. omega arith)
pack_bump (c ∷ cs) (suc e) h = let r = pack_bump cs e (omega arith) in
    let p : ℕ = 2 ^ (3 * e) in
    let q : 2 ^ (3 * suc e) ≡ 8 * p = ap (λ (k : ℕ). 2 ^ k) (let z : 3 * suc e ≡ 3 + 3 * e = omega arith in z) ∙ pow-add 2 3 (3 * e) in
    ((λ z. let a = r.0 z in omega arith), λ z. let a = r.1 z in omega arith)

pub pack_below_60 : (cs : List ℕ) → length cs ≡ 20 → pack cs < 2 ^ 60
pack_below_60 cs h = let a = pack_below cs in subst (λ (k : ℕ). pack cs < 8 ^ k) h a

pub pow_3 : (e : ℕ) → e < 20 → 2 ^ (3 * e) ≤ 2 ^ 57
pow_3 e h = pow_mono (let z : 3 * e ≤ 57 = omega arith in z)

small_shift : (a e : ℕ) → a ≤ 7 → e < 20 → (a * 2 ^ (3 * e)) % 18446744073709551616 ≡ a * 2 ^ (3 * e)
small_shift a e h lt =
    let p : 2 ^ (3 * e) ≤ 2 ^ 57 = pow_3 e lt in
    let m : a * 2 ^ (3 * e) ≤ 7 * 2 ^ 57 = mul-le-mul h p in mod-eq_of_lt (let z : a * 2 ^ (3 * e) < 18446744073709551616 = omega arith in z)

pub bump_down : (w e : ℕ) (cs : List ℕ) → e < 20 → length cs ≡ 20 → w ≡ pack cs → field e w ≡ 7 → w - (7 * 2 ^ (3 * e)) % 18446744073709551616 ≡ pack (set cs e (suc (get_or cs e 0)))
bump_down w e cs lt len is seven =
    let f : get_or cs e 0 % 8 ≡ 7 = sym (ap (field e) is ∙ field-pack cs e) ∙ seven in
    let b = (pack_bump cs e (omega arith)).0 f in
    let s = small_shift 7 e (omega arith) lt in omega arith

pub bump_up : (w e : ℕ) (cs : List ℕ) → e < 20 → length cs ≡ 20 → w ≡ pack cs → field e w ≢ 7 → (w + (1 * 2 ^ (3 * e)) % 18446744073709551616 ≡ pack (set cs e (suc (get_or cs e 0)))) × (w + (1 * 2 ^ (3 * e)) % 18446744073709551616 < 18446744073709551616)
bump_up w e cs lt len is not =
    let f : field e w ≡ get_or cs e 0 % 8 = ap (field e) is ∙ field-pack cs e in
    let less : get_or cs e 0 % 8 < 7 = below_seven (get_or cs e 0) (λ z. not (f ∙ z)) in
    let b = (pack_bump cs e (omega arith)).1 less in
    let s = small_shift 1 e (omega arith) lt in
    let new : List ℕ = set cs e (suc (get_or cs e 0)) in
    let l : length new ≡ 20 = length-set cs e (suc (get_or cs e 0)) ∙ len in
    let big = pack_below_60 new l in (omega arith, omega arith)
  where
    below_seven : (c : ℕ) → c % 8 ≢ 7 → c % 8 < 7
    below_seven c n = omega arith
