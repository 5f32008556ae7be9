-- One more touch in the count of misses.
use Rattle.std.proofs.Common.{◌≡◌, ℕ, ◌+◌, ◌⊎◌, Bool, true, false, cond, List, [], ◌∷◌, ◌++◌, Option, Some, None, inl, inr, ap, append-nil}
use Rattle.std.specs.Option.{option_to_list}
use Rattle.raw_model.specs.Cache.{misses, is_miss}
use Rattle.raw_processor.proofs.Counting.{misses_push}

-- where a step touches, there is at most one miss more
pub misses_more : (touched : List ℕ) (o : Option ℕ)
    → (misses (touched ++ option_to_list o) ≡ misses touched) ⊎ (misses (touched ++ option_to_list o) ≡ misses touched + 1)
misses_more touched None = inl (ap misses (append-nil touched))
misses_more touched (Some address) = by_last (is_miss touched address) (misses_push touched address)
  where
    by_last : (b : Bool) → misses (touched ++ address ∷ []) ≡ cond b (misses touched + 1) (misses touched)
        → (misses (touched ++ address ∷ []) ≡ misses touched) ⊎ (misses (touched ++ address ∷ []) ≡ misses touched + 1)
    by_last true e = inr e
    by_last false e = inl e
