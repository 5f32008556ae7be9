-- The cycle that is reported.
use Rattle.std.proofs.Common.{◌≡◌, ℕ, suc, ◌<◌, ◌≤◌, false, true, eqb, List, [], ◌∷◌, length, Option, Some, None, get_or, refl, sym, ap, ◌∙◌, subst, ⊎_elim, arith}
use Rattle.std.specs.Option.{MatchOption, option_and_then, option_map, is_some}
use Rattle.std.specs.List.{slice_get}
use Rattle.std.proofs.lemmas.Bool.{eqb-true, eqb-false, cases_lt}
use Rattle.std.proofs.lemmas.Option.{slice_get-get_or}
use Rattle.std.proofs.lemmas.Map.Keys.{apart_from_distinct}
use Rattle.raw_cycle.specs.Least.{NoneBelow, IsLeast, least}
use Rattle.raw_cycle.specs.Chains.{IsWithin, walk, stretch}
use Rattle.raw_cycle.specs.Cycles.{WaitsRound, IsCycle, IsTheCycle, NoCycle, OnNone, is_at, is_back, others_count, the_cycle}
use Rattle.raw_cycle.proofs.Smallest.{least_law}
use Rattle.raw_cycle.proofs.Rounds.{contains_at, round_walk, round_at, cycle_from, never_back, none_at_all}

is_at_true : (p : ℕ) (o : Option ℕ) → is_at p o ≡ true → o ≡ Some p
is_at_true p None e = cc
is_at_true p (Some q) e = ap Some (eqb-true q p e)

is_at_false : (p : ℕ) (o : Option ℕ) → is_at p o ≡ false → o ≡ Some p → ⊥
is_at_false p None e s = cc
is_at_false p (Some q) e s = eqb-false q p e (let same : q ≡ p = cc in same)

-- where nobody below p stands on a cycle, that of p is the one reported
pub the_cycle_of : (next : ℕ → Option ℕ) (p : ℕ) (ps : List ℕ) → IsCycle next p ps → ((q : ℕ) → q < p → OnNone next q) → IsTheCycle next p ps
the_cycle_of next p ps c before = record {
  cycle = c;
  least = λ r rs q on. ⊎_elim (λ (lt : q < p). absurd (before q lt r rs on)) (λ (ge : p ≤ q). ge) (cases_lt q p);
}

module _ (next : ℕ → Option ℕ) (n : ℕ) (within : IsWithin next n) where
  others_law : (p : ℕ) → MatchOption (others_count next n p) (OnNone next p) (λ k. IsCycle next p (stretch next k (next p)))
  others_law p = go (others_count next n p) (least_law (is_back next p) n)
    where
      go : (o : Option ℕ) → MatchOption o (NoneBelow (is_back next p) n) (IsLeast (is_back next p) n) → MatchOption o (OnNone next p) (λ k. IsCycle next p (stretch next k (next p)))
      go None h = never_back next n within p (λ i b e. is_at_false p (walk next (suc i) (Some p)) (h i b) e)
      go (Some k) h = cycle_from next k p (is_at_true p (walk next (suc k) (Some p)) h.passes) (λ i b e. is_at_false p (walk next (suc i) (Some p)) (h.none_before i b) e)

  on_none_of : (p : ℕ) (o : Option ℕ) → MatchOption o (OnNone next p) (λ k. IsCycle next p (stretch next k (next p))) → is_some o ≡ false → OnNone next p
  on_none_of p None l e = l
  on_none_of p (Some k) l e = absurd (let no : ⊥ = cc in no)

  -- the cycle is the one that begins with the least number on any cycle, and where there is none no list is a cycle
  pub cycle_law : MatchOption (the_cycle next n) (NoCycle next) (λ c. IsTheCycle next c.0 c.1)
  cycle_law = outer (least (λ p. is_some (others_count next n p)) n) (least_law (λ p. is_some (others_count next n p)) n)
    where
      inner : (p : ℕ) → ((q : ℕ) → q < p → OnNone next q) → (u : Option ℕ) → MatchOption u (OnNone next p) (λ k. IsCycle next p (stretch next k (next p))) → is_some u ≡ true → MatchOption {T = ℕ × List ℕ} (option_map (λ k. (p, stretch next k (next p))) u) (NoCycle next) (λ c. IsTheCycle next c.0 c.1)
      inner p before None l e = absurd (let no : ⊥ = cc in no)
      inner p before (Some k) l e = the_cycle_of next p (stretch next k (next p)) l before

      outer : (o : Option ℕ) → MatchOption o (NoneBelow (λ p. is_some (others_count next n p)) n) (IsLeast (λ p. is_some (others_count next n p)) n) → MatchOption {T = ℕ × List ℕ} (option_and_then (λ p. option_map (λ k. (p, stretch next k (next p))) (others_count next n p)) o) (NoCycle next) (λ c. IsTheCycle next c.0 c.1)
      outer None h = none_at_all next n within (λ q b. on_none_of q (others_count next n q) (others_law q) (h q b))
      outer (Some p) h = inner p (λ q b. on_none_of q (others_count next n q) (others_law q) (h.none_before q b)) (others_count next n p) (others_law p) h.passes

module _ (next : ℕ → Option ℕ) where
  -- a list of a round from p is what waits along from p
  round_is : (f p : ℕ) (ps : List ℕ) → WaitsRound next f p ps → stretch next (length ps) (next p) ≡ ps
  round_is f p [] w = refl
  round_is f p (q ∷ qs) w = ap (stretch next (suc (length qs))) w.0 ∙ ap (λ xs. q ∷ xs) (round_is f q qs w.1)

  not_longer : (p : ℕ) (ps qs : List ℕ) → IsCycle next p ps → IsCycle next p qs → length qs ≤ length ps
  not_longer p ps qs c d =
      ⊎_elim
      (λ (lt : length ps < length qs).
      let i = suc (length ps) in
      let at : slice_get (p ∷ qs) i ≡ Some (get_or (p ∷ qs) i p) = slice_get-get_or (p ∷ qs) i p (omega arith) in
      let there = round_at next p p qs d.waits i (get_or (p ∷ qs) i p) at in
      let back = round_walk next p p ps c.waits in
      let same : get_or (p ∷ qs) i p ≡ p = cc in
      let apart = apart_from_distinct eqb (p ∷ qs) 0 i p d.distinct (omega arith) (omega arith) in
      absurd (eqb-false p (get_or (p ∷ qs) i p) apart (sym same)))
      (λ (ge : length qs ≤ length ps). ge)
      (cases_lt (length ps) (length qs))

  -- one cycle begins with p
  one_cycle : (p : ℕ) (ps qs : List ℕ) → IsCycle next p ps → IsCycle next p qs → ps ≡ qs
  one_cycle p ps qs c d =
      let a = not_longer p ps qs c d in
      let b = not_longer p qs ps d c in
      let e : length ps ≡ length qs = omega arith in
      sym (round_is p p ps c.waits) ∙ ap (λ k. stretch next k (next p)) e ∙ round_is p p qs d.waits

  -- at most one cycle is the one reported
  pub the_cycle_one : (p q : ℕ) (ps qs : List ℕ) → IsTheCycle next p ps → IsTheCycle next q qs → (p ≡ q) × (ps ≡ qs)
  the_cycle_one p q ps qs c d =
      let pq = c.least q qs q (record { cycle = d.cycle; member = contains_at (q ∷ qs) 0 q refl }) in
      let qp = d.least p ps p (record { cycle = c.cycle; member = contains_at (p ∷ ps) 0 p refl }) in
      let e : q ≡ p = omega arith in
      (sym e, one_cycle p ps qs c.cycle (subst (λ r. IsCycle next r qs) e d.cycle))

  module _ (n : ℕ) (within : IsWithin next n) where
    -- whoever finds the cycle finds `the_cycle`
    pub cycle_found : (p : ℕ) (ps : List ℕ) → IsTheCycle next p ps → the_cycle next n ≡ Some (p, ps)
    cycle_found p ps c = go (the_cycle next n) (cycle_law next n within)
      where
        go : (o : Option (ℕ × List ℕ)) → MatchOption o (NoCycle next) (λ c. IsTheCycle next c.0 c.1) → o ≡ Some (p, ps)
        go None l = absurd (l p ps c.cycle)
        go (Some d) l = let e = the_cycle_one d.0 p d.1 ps l c in ap Some (λ i. (e.0 i, e.1 i))

    pub cycle_absent : NoCycle next → the_cycle next n ≡ None
    cycle_absent h = go (the_cycle next n) (cycle_law next n within)
      where
        go : (o : Option (ℕ × List ℕ)) → MatchOption o (NoCycle next) (λ c. IsTheCycle next c.0 c.1) → o ≡ None
        go None l = refl
        go (Some d) l = absurd (h d.0 d.1 l.cycle)
