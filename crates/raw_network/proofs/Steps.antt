-- Lists of steps, one step longer.
use Rattle.std.proofs.Common.{◌≡◌, ℕ, Bool, true, false, Option, Some, None, List, [], ◌∷◌, ◌++◌, refl, ap, ◌∙◌}
use Rattle.std.specs.Prelude.{◌==◌}
use Rattle.std.specs.List.{filter_map}
use Rattle.std.specs.Option.{option_to_list}
use Rattle.std.proofs.lemmas.Bool.{eq-eqb}
use Rattle.std.proofs.lemmas.List.Elements.{filter_map-append}
use Rattle.raw_network.specs.Network.{Network, State, Event, is_enabled, step, event_of}
use Rattle.raw_network.specs.Runs.{IsLawful, end_of, with_first, events_of, touches}

with_first-append : {A : Type 0} (b : Bool) (x : A) (xs ys : List A)
    → with_first b x (xs ++ ys) ≡ with_first b x xs ++ ys
with_first-append true x xs ys = refl
with_first-append false x xs ys = refl

module _ {L : Type 0} (net : Network L) where
  -- one list of steps after another
  pub end_of-append : (s : State L) (ps qs : List ℕ) → end_of net s (ps ++ qs) ≡ end_of net (end_of net s ps) qs
  end_of-append s [] qs = refl
  end_of-append s (p ∷ ps) qs = end_of-append (step net s p) ps qs

  -- two lawful lists, one from where the other ends
  pub lawful-append : (s : State L) (ps qs : List ℕ) → IsLawful net s ps → IsLawful net (end_of net s ps) qs
      → IsLawful net s (ps ++ qs)
  lawful-append s [] qs h g = g
  lawful-append s (p ∷ ps) qs h g = (h.0, lawful-append (step net s p) ps qs h.1 g)

  -- one more step
  pub end_of-push : (s : State L) (ps : List ℕ) (p : ℕ) → end_of net s (ps ++ p ∷ []) ≡ step net (end_of net s ps) p
  end_of-push s ps p = end_of-append s ps (p ∷ [])

  -- one more step that is enabled
  pub lawful-push : (s : State L) (ps : List ℕ) (p : ℕ) → IsLawful net s ps
      → is_enabled net (end_of net s ps) p ≡ true
      → IsLawful net s (ps ++ p ∷ [])
  lawful-push s ps p h e = lawful-append s ps (p ∷ []) h (e, tt)

  -- what one processor did in one list of steps after another
  pub events_of-append : (s : State L) (ps qs : List ℕ) (p : ℕ)
      → events_of net s (ps ++ qs) p ≡ events_of net s ps p ++ events_of net (end_of net s ps) qs p
  events_of-append s [] qs p = refl
  events_of-append s (q ∷ ps) qs p =
      ap (with_first (q == p) (event_of net s q)) (events_of-append (step net s q) ps qs p)
      ∙ with_first-append (q == p) (event_of net s q) (events_of net (step net s q) ps p) (events_of net (end_of net (step net s q) ps) qs p)

  touched_by : (b : Bool) (e : Event L) → b ≡ true
      → filter_map (λ e. e.touched) (with_first b e []) ≡ option_to_list e.touched
  touched_by true e is = from e.touched
    where
      from : (o : Option ℕ) → filter_map {X = Option ℕ} (λ o. o) (o ∷ []) ≡ option_to_list o
      from None = refl
      from (Some address) = refl
  touched_by false e is = absurd (cc is)

  -- what a processor touched, with one more step of its own
  pub touches-push : (s : State L) (ps : List ℕ) (p : ℕ)
      → touches net s (ps ++ p ∷ []) p ≡ touches net s ps p ++ option_to_list (event_of net (end_of net s ps) p).touched
  touches-push s ps p =
      ap (filter_map (λ e. e.touched)) (events_of-append s ps (p ∷ []) p)
      ∙ filter_map-append (λ e. e.touched) (events_of net s ps p) (events_of net (end_of net s ps) (p ∷ []) p)
      ∙ ap (λ more. touches net s ps p ++ more) (touched_by (p == p) (event_of net (end_of net s ps) p) (eq-eqb p p refl))
