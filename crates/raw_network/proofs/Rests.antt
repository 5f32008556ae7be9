-- Each state is quiet or has an enabled processor, and some lawful list comes to rest.
use Rattle.std.proofs.Common.{◌≡◌, ℕ, zero, suc, ◌<◌, ◌≤◌, true, false, List, [], ◌∷◌, length, sym, ap, subst, inl, inr, ⊎_elim, ◌⊎◌, arith}
use Rattle.std.proofs.lemmas.Bool.{cases_Bool, cases_lt, cases_eq}
use Rattle.std.proofs.lemmas.Option.{slice_get_past}
use Rattle.raw_network.specs.Network.{Network, State, is_ready, is_enabled, step}
use Rattle.raw_network.specs.Runs.{IsLawful, end_of, IsQuiet}
use Rattle.raw_network.specs.Wired.{IsBounded}
use Rattle.raw_network.specs.Laws.{total, AllFit, SomeRest}
use Rattle.raw_network.proofs.Bounds.{fit_kept, total_less}

module _ {L : Type 0} (net : Network L) where
  -- some processor below n is enabled, or none is
  some_enabled : (s : State L) (n : ℕ)
      → ((p : ℕ) × (is_enabled net s p ≡ true)) ⊎ ((p : ℕ) → p < n → is_enabled net s p ≡ false)
  some_enabled s zero = inr (λ p h. absurd (omega arith))
  some_enabled s (suc n) =
      ⊎_elim
      (λ e. inl e)
      (λ none.
      ⊎_elim
      (λ e. inl (n, e))
      (λ e. inr (λ p h. ⊎_elim (λ same. subst (λ q. is_enabled net s q ≡ false) (sym same) e) (λ ne. none p (omega arith)) (cases_eq p n)))
      (cases_Bool (is_enabled net s n)))
      (some_enabled s n)

  past_not_enabled : (s : State L) (p : ℕ) → length s.locals ≤ p → is_enabled net s p ≡ false
  past_not_enabled s p h = ap (λ o. is_ready net p o s.wires) (slice_get_past s.locals p h)

  -- some processor is enabled, or the state is quiet
  pub enabled_or_quiet : (s : State L) → ((p : ℕ) × (is_enabled net s p ≡ true)) ⊎ IsQuiet net s
  enabled_or_quiet s =
      ⊎_elim
      (λ e. inl e)
      (λ none. inr (λ p. ⊎_elim (λ h. none p h) (λ h. past_not_enabled s p h) (cases_lt p (length s.locals))))
      (some_enabled s (length s.locals))

module _ {L : Type 0} (net : Network L) (fit : ℕ → L → Type 0) (left : ℕ → L → ℕ) (bounded : IsBounded net fit left) where
  rests_within : (n : ℕ) (s : State L) → AllFit fit s → total left s < n
      → (h : List ℕ) × IsLawful net s h × IsQuiet net (end_of net s h)
  rests_within zero s fits below = absurd (omega arith)
  rests_within (suc n) s fits below =
      ⊎_elim
      (λ (e : (p : ℕ) × (is_enabled net s p ≡ true)).
      let less = total_less net fit left bounded s e.0 e.1 fits in
      let rest = rests_within n (step net s e.0) (fit_kept net fit left bounded s e.0 e.1 fits) (omega arith) in
      (e.0 ∷ rest.0, (e.1, rest.1), rest.2))
      (λ quiet. ([], tt, quiet))
      (enabled_or_quiet net s)

  -- from each state some lawful list comes to rest
  pub law_some_rest : SomeRest net fit
  law_some_rest s fits =
      let (h, lawful, quiet) = rests_within (suc (total left s)) s fits (omega arith) in
      (h, record { lawful = lawful; quiet = quiet })
