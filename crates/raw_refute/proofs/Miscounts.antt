-- The first sink that has another number of words than are claimed of it, found by going over all processors.
use Rattle.std.proofs.Common.{◌≡◌, ℕ, ◌+◌, Bool, true, false, List, drop, Option, Some, None, refl, sym, ap, ◌∙◌}
use Rattle.std.specs.Prelude.{slice_get}
use Rattle.std.specs.Option.{is_some, option_or}
use Rattle.raw_model.specs.Local.{Local}
use Rattle.raw_flow.proofs.Steps.{drop_next}
use Rattle.raw_term.specs.declared.place.Place.{Place}
use Rattle.raw_term.specs.Seen.{claimed_of, miscount_of, miscount_from}

first : (o next : Option (ℕ × ℕ)) → is_some o ≡ true → o ≡ option_or o next
first None next e = absurd (cc e)
first (Some counts) next e = refl

later : (o next : Option (ℕ × ℕ)) → is_some o ≡ false → option_or o next ≡ next
later None next e = refl
later (Some counts) next e = absurd (cc e)

module _ (places : List Place) (locals : List Local) (p : ℕ) (local : Local) (at : slice_get locals p ≡ Some local) (counts : Option (ℕ × ℕ)) (is : counts ≡ miscount_of local (claimed_of places p)) where
  abbrev rest : Option (ℕ × ℕ)
  rest = miscount_from places (p + 1) (drop (p + 1) locals)

  next : option_or counts rest ≡ miscount_from places p (drop p locals)
  next = ap (λ o. option_or o rest) is ∙ sym (ap (miscount_from places p) (drop_next locals p local at))

  pub found : is_some counts ≡ true → counts ≡ miscount_from places p (drop p locals)
  found e = first counts rest e ∙ next

  pub passed : is_some counts ≡ false → miscount_from places (p + 1) (drop (p + 1) locals) ≡ miscount_from places p (drop p locals)
  passed e = sym (later counts rest e) ∙ next
