-- Walks that end, and chains.
use Rattle.std.proofs.Common.{◌≡◌, ℕ, suc, zero, ◌-◌, ◌<◌, eqb, List, [], ◌∷◌, Option, Some, None, refl, sym, ap, ◌∙◌, subst, arith}
use Rattle.std.specs.List.{IsDistinct, slice_get}
use Rattle.std.proofs.lemmas.Option.{slice_get_within}
use Rattle.raw_cycle.specs.Chains.{IsWithin, WaitsAlong, walk, stretch, chain_after, last_of}
use Rattle.raw_cycle.specs.Cycles.{NoCycle}
use Rattle.raw_cycle.proofs.Walks.{walk_parts, stays_stopped, slice_stretch, length_stretch, full_stretch, distinct_stretch, walk_below}
use Rattle.raw_cycle.proofs.Rounds.{pigeon, no_return}

module _ (next : ℕ → Option ℕ) where
  along_more : (p k : ℕ) → ((q : ℕ) → walk next k (next q) ≡ None → WaitsAlong next q (stretch next k (next q))) → (o : Option ℕ) → next p ≡ o → walk next (suc k) o ≡ None → WaitsAlong next p (stretch next (suc k) o)
  along_more p k ih None e w = e
  along_more p k ih (Some q) e w = (e, ih q w)

  -- a walk that ends is a chain
  along_from : (k p : ℕ) → walk next k (next p) ≡ None → WaitsAlong next p (stretch next k (next p))
  along_from zero p e = e
  along_from (suc k) p e = along_more p k (λ q w. along_from k q w) (next p) refl e

  pub along_last : (p : ℕ) (ps : List ℕ) → WaitsAlong next p ps → next (last_of p ps) ≡ None
  along_last p [] w = w
  along_last p (q ∷ qs) w = along_last q qs w.1

  pub one_chain : (p : ℕ) (ps qs : List ℕ) → WaitsAlong next p ps → WaitsAlong next p qs → ps ≡ qs
  one_chain p [] [] v w = refl
  one_chain p [] (q ∷ qs) v w = let e = w.0 in cc
  one_chain p (q ∷ qs) [] v w = let e = v.0 in cc
  one_chain p (q ∷ qs) (r ∷ rs) v w =
      let e : q ≡ r = let a = v.0 in let b = w.0 in cc in
      ap (λ x. x ∷ qs) e ∙ ap (λ xs. r ∷ xs) (one_chain r qs rs (subst (λ x. WaitsAlong next x qs) e v.1) w.1)

  pub last_more : (m k at q : ℕ) → m ≡ suc k → next at ≡ Some q → last_of q (stretch next k (next q)) ≡ last_of at (stretch next m (next at))
  last_more m k at q e w = sym (ap (λ n. last_of at (stretch next n (next at))) e ∙ ap (λ o. last_of at (stretch next (suc k) o)) w)

  module _ (n : ℕ) (within : IsWithin next n) (none : NoCycle next) where
    -- without a cycle each walk ends within n steps
    pub walk_ends : (p : ℕ) → p < n → walk next n (Some p) ≡ None
    walk_ends p h = go (walk next n (Some p)) refl
      where
        apart : IsDistinct eqb (stretch next (suc n) (Some p))
        apart =
            distinct_stretch next (suc n) (Some p) (λ i j x ij jn wi wj.
            no_return next none x (j - i - 1)
            (ap (walk next (suc (j - i - 1))) (sym wi)
            ∙ sym (walk_parts next i (suc (j - i - 1)) j (Some p) (omega arith))
            ∙ wj))

        below : (k q : ℕ) → slice_get (stretch next (suc n) (Some p)) k ≡ Some q → q < n
        below k q e =
            let le = length_stretch next (suc n) (Some p) in
            let lt = slice_get_within (stretch next (suc n) (Some p)) k q e in
            walk_below next n within k q (Some p) (λ r s. subst (λ v. v < n) (let same : p ≡ r = cc in same) h) (sym (slice_stretch next (suc n) k (Some p) (omega arith)) ∙ e)

        go : (o : Option ℕ) → walk next n (Some p) ≡ o → o ≡ None
        go None e = refl
        go (Some q) e =
            let full = full_stretch next n q (Some p) e in
            let le = pigeon (stretch next (suc n) (Some p)) n apart below in
            absurd (omega arith)

    pub chain_along : (p : ℕ) → p < n → WaitsAlong next p (chain_after next n p)
    chain_along p h = along_from n p (stays_stopped next n (suc n) (Some p) (omega arith) (walk_ends p h))

    -- the last of a chain waits for none
    pub chain_stops : (p at : ℕ) → p < n → at ≡ last_of p (chain_after next n p) → next at ≡ None
    chain_stops p at h e = ap next e ∙ along_last p (chain_after next n p) (chain_along p h)
