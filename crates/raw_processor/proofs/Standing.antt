-- What a cache that stands for a list of touches says of the next touch, and what it stands for then.
use Rattle.std.proofs.Common.{◌≡◌, ℕ, zero, suc, ◌<◌, Bool, true, false, not, ◌||◌, eqb, nat_le, List, [], ◌∷◌, ◌++◌, length, map, reverse, replicate, slice_get, slice_index_or, slice_set, Some, None, refl, sym, ap, ◌∙◌, subst, ⊎_elim, arith}
use Rattle.std.specs.List.{list_any}
use Rattle.std.proofs.lemmas.Bool.{cases_eq, ne_eqb}
use Rattle.std.proofs.lemmas.List.{map-append, reverse-append, get_or-replicate, get_or-set_same, length-set}
use Rattle.std.proofs.lemmas.List.Folds.{list_any-append}
use Rattle.std.proofs.lemmas.Option.{slice_get-get_or, slice_get_within, get_or_from_slice_get}
use Rattle.raw_model.specs.Cache.{HeldLines, StandsFor, line_of, set_of, latest_lines, held_after, is_miss, others}
use Rattle.raw_processor.specs.Ways.{is_absent, after_touch}
use Rattle.raw_processor.proofs.Replacement.{held_of, held_past, held_touched, tells_miss}

-- the line of one more touch is the latest
latest_lines_push : (touched : List ℕ) (address : ℕ) → latest_lines (touched ++ address ∷ []) ≡ line_of address ∷ latest_lines touched
latest_lines_push touched address =
    ap reverse (map-append line_of touched (address ∷ [])) ∙ reverse-append (map line_of touched) (line_of address ∷ [])

-- a line is among the latest where a touch is of it
list_any-latest_lines : (line : ℕ) (touched : List ℕ) → list_any (λ y. eqb y line) (latest_lines touched) ≡ list_any (λ earlier. eqb (line_of earlier) line) touched
list_any-latest_lines line [] = refl
list_any-latest_lines line (t ∷ touched) =
    ap (list_any (λ y. eqb y line)) (reverse-append (line_of t ∷ []) (map line_of touched))
    ∙ list_any-append (λ y. eqb y line) (latest_lines touched) (line_of t ∷ [])
    ∙ ap (λ b. b || (eqb (line_of t) line || false)) (list_any-latest_lines line touched)
    ∙ turned (list_any (λ earlier. eqb (line_of earlier) line) touched) (eqb (line_of t) line)
  where
    turned : (a b : Bool) → (a || (b || false)) ≡ (b || a)
    turned true true = refl
    turned true false = refl
    turned false true = refl
    turned false false = refl

-- an empty cache stands for no touches
pub stands_at_first : StandsFor (replicate 64 (record { first = None; second = None })) []
unfolding held_after
stands_at_first =
    record {
      held = λ number within.
          slice_get-get_or (replicate 64 none) number none within ∙ ap Some (get_or-replicate 64 number none none within);
    }
  where
    none : HeldLines
    none = record { first = None; second = None }

-- what a list holds at a place that was written, and at another one
slice_get-set_same : (xs : List HeldLines) (i : ℕ) (x : HeldLines) → i < length xs → slice_get (slice_set xs i x) i ≡ Some x
slice_get-set_same xs i x within =
    slice_get-get_or (slice_set xs i x) i x (omega (arith, length-set xs i x)) ∙ ap Some (get_or-set_same xs i x x within)

slice_get-set_other : (xs : List HeldLines) (i j : ℕ) (x : HeldLines) → (j ≡ i → ⊥) → slice_get (slice_set xs i x) j ≡ slice_get xs j
slice_get-set_other [] i j x other = refl
slice_get-set_other (y ∷ xs) zero zero x other = absurd (other refl)
slice_get-set_other (y ∷ xs) zero (suc j) x other = refl
slice_get-set_other (y ∷ xs) (suc i) zero x other = refl
slice_get-set_other (y ∷ xs) (suc i) (suc j) x other = slice_get-set_other xs i j x (λ (e : j ≡ i). other (ap suc e))

-- a cache that stands for these touches, before a touch of an address; `d` is any value, for places past
-- the cache's end
module _ (cache : List HeldLines) (touched : List ℕ) (address : ℕ) (d : HeldLines) (stands : StandsFor cache touched) where
  -- what it holds of the address's set
  held_is : slice_index_or cache (set_of (line_of address)) d ≡ held_after touched (set_of (line_of address))
  held_is = get_or_from_slice_get cache (set_of (line_of address)) _ d (stands.held (set_of (line_of address)) (omega arith))

  -- tells whether the touch misses
  pub miss_told : is_absent (slice_index_or cache (set_of (line_of address)) d) (line_of address) ≡ is_miss touched address
  unfolding is_miss held_after
  miss_told =
      ap (λ held. is_absent held (line_of address)) held_is
      ∙ tells_miss (line_of address) (latest_lines touched)
      ∙ ap (λ b. not b || nat_le 2 (length (others touched address))) (list_any-latest_lines (line_of address) touched)

  -- and once it is touched, the cache stands for one more
  pub stands_then : StandsFor
      (slice_set cache (set_of (line_of address)) (after_touch (slice_index_or cache (set_of (line_of address)) d) (line_of address))) (touched ++ address ∷ [])
  unfolding held_after
  stands_then = record { held = λ number within. ⊎_elim (λ same. subst IsHeld (sym same) here) (elsewhere number within) (cases_eq number n) }
    where
      n : ℕ
      n = set_of (line_of address)

      after : HeldLines
      after = after_touch (slice_index_or cache n d) (line_of address)

      IsHeld : ℕ → Type 0
      IsHeld number = slice_get (slice_set cache n after) number ≡ Some (held_after (touched ++ address ∷ []) number)

      here : IsHeld n
      here =
          slice_get-set_same cache n after (slice_get_within cache n (held_after touched n) (stands.held n (omega arith)))
          ∙ ap Some
          (ap (λ held. after_touch held (line_of address)) held_is
          ∙ held_touched (line_of address) (latest_lines touched)
          ∙ ap (held_of n) (sym (latest_lines_push touched address)))

      elsewhere : (number : ℕ) → number < 64 → (number ≡ n → ⊥) → IsHeld number
      elsewhere number within other =
          let out : eqb n number ≡ false = ne_eqb n number (λ (e : n ≡ number). other (sym e)) in
          slice_get-set_other cache n number after other
          ∙ stands.held number within
          ∙ ap Some (sym (held_past number (line_of address) (latest_lines touched) out) ∙ ap (held_of number) (sym (latest_lines_push touched address)))
