-- Who comes back on a walk, and so stands on a cycle.
use Rattle.std.proofs.Common.{◌≡◌, ℕ, suc, zero, ◌+◌, ◌-◌, ◌<◌, ◌≤◌, eqb, List, [], ◌∷◌, length, Option, Some, None, refl, sym, ap, ◌∙◌, ⊎_elim, arith}
use Rattle.std.specs.List.{IsDistinct, Contains, slice_get}
use Rattle.std.proofs.lemmas.Bool.{eqb-true, cases_lt}
use Rattle.std.proofs.lemmas.Option.{slice_get_read, slice_get_within, get_or_from_slice_get}
use Rattle.std.proofs.lemmas.Map.Steps.{length-le_from_distinct_below}
use Rattle.std.proofs.lemmas.Map.Views.{Contains-from_any}
use Rattle.raw_cycle.specs.Chains.{IsWithin, walk, stretch}
use Rattle.raw_cycle.specs.Cycles.{WaitsRound, IsCycle, IsOn, NoCycle, OnNone}
use Rattle.raw_cycle.proofs.Walks.{walk_none, walk_parts, one_more, stays_stopped, distinct_stretch, walk_below}

-- distinct numbers below n are at most n
pub pigeon : (xs : List ℕ) (n : ℕ) → IsDistinct eqb xs → ((k q : ℕ) → slice_get xs k ≡ Some q → q < n) → length xs ≤ n
pigeon xs n d h =
    length-le_from_distinct_below xs n d (λ q any.
    let c = Contains-from_any eqb-true q xs any in
    h c.0 q (slice_get_read xs (length xs) c.0 q refl c.1 (sym c.2)))

pub contains_at : (xs : List ℕ) (k q : ℕ) → slice_get xs k ≡ Some q → Contains xs q
contains_at xs k q e = (k, slice_get_within xs k q e, get_or_from_slice_get xs k q q e)

at_contains : (xs : List ℕ) (q : ℕ) → (c : Contains xs q) → slice_get xs c.0 ≡ Some q
at_contains xs q c = slice_get_read xs (length xs) c.0 q refl c.1 (sym c.2)

module _ (next : ℕ → Option ℕ) where
  round_more : (f p k : ℕ) → ((q : ℕ) → walk next (suc k) (Some q) ≡ Some f → WaitsRound next f q (stretch next k (next q))) → (o : Option ℕ) → next p ≡ o → walk next (suc k) o ≡ Some f → WaitsRound next f p (stretch next (suc k) o)
  round_more f p k ih None e w = let n = walk_none next k in cc
  round_more f p k ih (Some q) e w = (e, ih q w)

  round_from : (k f p : ℕ) → walk next (suc k) (Some p) ≡ Some f → WaitsRound next f p (stretch next k (next p))
  round_from zero f p e = e
  round_from (suc k) f p e = round_more f p k (λ q w. round_from k f q w) (next p) refl e

  pub round_walk : (f p : ℕ) (ps : List ℕ) → WaitsRound next f p ps → walk next (suc (length ps)) (Some p) ≡ Some f
  round_walk f p [] w = w
  round_walk f p (q ∷ qs) w = ap (walk next (suc (length qs))) w.0 ∙ round_walk f q qs w.1

  pub round_at : (f p : ℕ) (ps : List ℕ) → WaitsRound next f p ps → (k q : ℕ) → slice_get (p ∷ ps) k ≡ Some q → walk next k (Some p) ≡ Some q
  round_at f p ps w zero q e = e
  round_at f p [] w (suc k) q e = cc
  round_at f p (r ∷ rs) w (suc k) q e = ap (walk next k) w.0 ∙ round_at f r rs w.1 k q e

  -- who stands on a cycle comes back after its length
  pub comes_back : (p : ℕ) (ps : List ℕ) (q : ℕ) → IsOn next p ps q → walk next (suc (length ps)) (Some q) ≡ Some q
  comes_back p ps q on =
      let c = on.member in
      let there = round_at p p ps on.cycle.waits c.0 q (at_contains (p ∷ ps) q c) in
      ap (walk next (suc (length ps))) (sym there)
      ∙ sym (walk_parts next c.0 (suc (length ps)) (c.0 + suc (length ps)) (Some p) refl)
      ∙ walk_parts next (suc (length ps)) c.0 (c.0 + suc (length ps)) (Some p) (omega arith)
      ∙ ap (walk next c.0) (round_walk p p ps on.cycle.waits)
      ∙ there

  -- one who comes back for the first time is the first of a cycle
  pub cycle_from : (k p : ℕ) → walk next (suc k) (Some p) ≡ Some p → ((i : ℕ) → i < k → walk next (suc i) (Some p) ≡ Some p → ⊥) → IsCycle next p (stretch next k (next p))
  cycle_from k p e h = record {
    distinct = distinct_stretch next (suc k) (Some p) (λ i j x ij jk wi wj.
        h (i + (k - j)) (omega arith)
        (walk_parts next i (suc k - j) (suc (i + (k - j))) (Some p) (omega arith)
        ∙ ap (walk next (suc k - j)) (wi ∙ sym wj)
        ∙ sym (walk_parts next j (suc k - j) (suc k) (Some p) (omega arith))
        ∙ e));
    waits = round_from k p p e;
  }

  -- who meets one that waits for none before it comes back stands on no cycle
  pub on_none : (k at p : ℕ) → walk next k (Some p) ≡ Some at → next at ≡ None → ((i : ℕ) → i < k → walk next (suc i) (Some p) ≡ Some p → ⊥) → OnNone next p
  on_none k at p here e away r rs on =
      ⊎_elim
      (λ (lt : length rs < k). away (length rs) lt (comes_back r rs p on))
      (λ (ge : k ≤ length rs).
      let gone = stays_stopped next (suc k) (suc (length rs)) (Some p) (omega arith) (one_more next k at p None here e) in
      let back = comes_back r rs p on in
      cc)
      (cases_lt (length rs) k)

  module _ (none : NoCycle next) where
    none_below : (p k i : ℕ) → i < k → walk next (suc i) (Some p) ≡ Some p → ⊥
    none_below p zero i h e = omega arith
    none_below p (suc k) i h e =
        ⊎_elim
        (λ (lt : i < k). none_below p k i lt e)
        (λ (ge : k ≤ i). none p (stretch next i (next p)) (cycle_from i p e (λ j lt w. none_below p k j (omega arith) w)))
        (cases_lt i k)

    -- without a cycle nobody comes back
    pub no_return : (p i : ℕ) → walk next (suc i) (Some p) ≡ Some p → ⊥
    no_return p i = none_below p (suc i) i (omega arith)

  module _ (n : ℕ) (within : IsWithin next n) where
    pub on_below : (p : ℕ) (ps : List ℕ) (q : ℕ) → IsOn next p ps q → q < n
    on_below p ps q on = walk_below next n within (length ps) q (next q) (λ r e. within q r e) (comes_back p ps q on)

    pub cycle_short : (p : ℕ) (ps : List ℕ) → IsCycle next p ps → length ps < n
    cycle_short p ps c =
        let h = pigeon (p ∷ ps) n c.distinct (λ k q e. on_below p ps q (record { cycle = c; member = contains_at (p ∷ ps) k q e })) in
        omega arith

    -- who does not come back within n steps stands on no cycle
    pub never_back : (p : ℕ) → ((i : ℕ) → i < n → walk next (suc i) (Some p) ≡ Some p → ⊥) → OnNone next p
    never_back p away r rs on = away (length rs) (cycle_short r rs on.cycle) (comes_back r rs p on)

    -- where no number below n stands on a cycle there is none
    pub none_at_all : ((q : ℕ) → q < n → OnNone next q) → NoCycle next
    none_at_all h r rs c =
        let on : IsOn next r rs r = record { cycle = c; member = contains_at (r ∷ rs) 0 r refl } in
        h r (on_below r rs r on) r rs on
