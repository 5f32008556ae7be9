-- Hauls without a fault are lawful; hauls with their words, one after another.
use Rattle.std.proofs.Common.{◌≡◌, ◌≢◌, ℕ, ◌+◌, ◌^◌, ◌<◌, Bool, true, false, cond, not, eqb, nat_eq, nat_lt, List, [], ◌∷◌, length, get_or, Option, Some, None, refl, sym, ◌∙◌, arith}
use Rattle.std.specs.List.{All, AllPairs, AllByRecursion, list_all}
use Rattle.std.proofs.lemmas.Bool.{and_parts, or_parts, ltb-true, eqb-false, eq-eqb}
use Rattle.std.proofs.lemmas.List.{get_or_default}
use Rattle.std.proofs.lemmas.List.Elements.{All-nil, All-cons, All-head, All-tail}
use Rattle.std.proofs.lemmas.List.Kept.{AllPairs-cons}
use Rattle.raw_route.specs.declared.faults.HaulFault.{HaulFault}
use Rattle.raw_route.specs.declared.faults.HaulFault.TheVariants as fault
use Rattle.raw_route.specs.Hauls.{Haulage, IsHaul}
use Rattle.raw_route.specs.Planned.{IsSending, sendings, is_among}
use Rattle.raw_route.specs.Refusals.{is_inside, has_twice, fault_of, placed, first_fault}
use Rattle.raw_route.proofs.Members.{in_any, contains_in}

-- hauls without a fault, and words of 32 bits
more_inside : (tiles : ℕ) (to : List ℕ) → list_all (λ t. nat_lt t tiles) to ≡ true → All (λ t. t < tiles) to
more_inside tiles [] h = All-nil (λ t. t < tiles)
more_inside tiles (t ∷ to) h =
    let p = and_parts (nat_lt t tiles) (list_all (λ x. nat_lt x tiles) to) h in
    All-cons (λ x. x < tiles) t to (ltb-true t tiles p.0) (more_inside tiles to p.1)

not_twice : (to : List ℕ) → has_twice to ≡ false → AllPairs (λ a b. a ≢ b) to
not_twice [] h = λ i j d l m. absurd (omega arith)
not_twice (t ∷ to) h =
    let p = or_parts (is_among to t) (has_twice to) h in
    AllPairs-cons (λ a b. a ≢ b) t to (λ k d l. λ (e : t ≡ get_or to k d).
    let z = sym p.0 ∙ in_any (λ x. eqb x t) t to (contains_in t to (k, l, get_or_default to k t d l ∙ sym e)) (eq-eqb t t refl) in cc z)
    (not_twice to p.1)

haul_by : (tiles : ℕ) (haul : Haulage) (inside : Bool) (none : Bool) (twice : Bool) → is_inside tiles haul ≡ inside → nat_eq (length haul.to) 0 ≡ none → has_twice haul.to ≡ twice
    → cond (not inside) (Some fault.OffGrid) (cond none (Some fault.NoTarget) (cond twice (Some fault.Twice) None)) ≡ None → IsHaul tiles haul
haul_by tiles haul false none twice a b c e = absurd (cc e)
haul_by tiles haul true true twice a b c e = absurd (cc e)
haul_by tiles haul true false true a b c e = absurd (cc e)
haul_by tiles haul true false false a b c e =
    let p = and_parts (nat_lt haul.from tiles) (list_all (λ t. nat_lt t tiles) haul.to) a in
    record {
      origin = ltb-true haul.from tiles p.0;
      some = let ne = eqb-false (length haul.to) 0 b in omega (arith, ne);
      inside = more_inside tiles haul.to p.1;
      distinct = not_twice haul.to c;
    }

pub is_haul : (tiles : ℕ) (haul : Haulage) → fault_of tiles haul ≡ None → IsHaul tiles haul
is_haul tiles haul e = haul_by tiles haul (is_inside tiles haul) (nat_eq (length haul.to) 0) (has_twice haul.to) refl refl refl e

pub placed_none : (place : ℕ) (o : Option HaulFault) (rest : Option (ℕ × HaulFault)) → placed place o rest ≡ None → (o ≡ None) × (rest ≡ None)
placed_none place None rest e = (refl, e)
placed_none place (Some f) rest e = absurd (cc e)

pub all_sendings : (tiles place : ℕ) (hauls : List Haulage) (words : List ℕ) → first_fault tiles place hauls ≡ None → All (λ w. w < 2 ^ 32) words → AllByRecursion (IsSending tiles) (sendings hauls words)
all_sendings tiles place [] words e w = tt
all_sendings tiles place (h ∷ hs) [] e w = tt
all_sendings tiles place (h ∷ hs) (v ∷ vs) e w =
    let p = placed_none place (fault_of tiles h) (first_fault tiles (place + 1) hs) e in
    (record { haul = is_haul tiles h p.0; word = All-head (λ x. x < 2 ^ 32) v vs w }, all_sendings tiles (place + 1) hs vs p.1 (All-tail (λ x. x < 2 ^ 32) v vs w))
