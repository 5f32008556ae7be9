-- The first of the wires at ten ends that passes a test.
use Rattle.std.proofs.Common.{◌≡◌, ℕ, ◌+◌, ◌<◌, Bool, true, false, List, ◌++◌, drop, Option, Some, None, refl, ap, ◌∙◌, ⊎_elim}
use Rattle.std.specs.List.{find, flat_map, list_any}
use Rattle.std.specs.Option.{option_to_list}
use Rattle.std.proofs.lemmas.Bool.{cond-true, cond-false, or_parts, or_cases}
use Rattle.raw_switch_isa.specs.Ends.{ends}
use Rattle.raw_processor.proofs.EndLists.{drop_ends}

pub find_passed : (f : ℕ → Bool) (o : Option ℕ) (rest : List ℕ) → list_any f (option_to_list o) ≡ false
    → find f (option_to_list o ++ rest) ≡ find f rest
find_passed f None rest e = refl
find_passed f (Some w) rest e = cond-false (f w) (Some w) (find f rest) (or_parts (f w) false e).0

pub find_at : (f : ℕ → Bool) (o : Option ℕ) (rest : List ℕ) → list_any f (option_to_list o) ≡ true
    → find f (option_to_list o ++ rest) ≡ o
find_at f None rest e = absurd (cc e)
find_at f (Some w) rest e = cond-true (f w) (Some w) (find f rest) (⊎_elim (λ on. on) (λ off. absurd (cc off)) (or_cases (f w) false e))

module _ (f : ℕ → Bool) (wires : ℕ → Option ℕ) where
  abbrev pub found_from : ℕ → Option ℕ
  found_from i = find f (flat_map (λ end. option_to_list (wires end)) (drop i ends))

  at_end : (i : ℕ) → i < 10
      → found_from i ≡ find f (option_to_list (wires i) ++ flat_map (λ end. option_to_list (wires end)) (drop (i + 1) ends))
  at_end i h = ap (λ es. find f (flat_map (λ end. option_to_list (wires end)) es)) (drop_ends i h)

  -- the end is passed, or it is the one that is looked for, or there is none
  pub pass : (i : ℕ) → i < 10 → list_any f (option_to_list (wires i)) ≡ false → found_from i ≡ found_from (i + 1)
  pass i h e = at_end i h ∙ find_passed f (wires i) _ e

  pub here : (i : ℕ) → i < 10 → list_any f (option_to_list (wires i)) ≡ true → found_from i ≡ wires i
  here i h e = at_end i h ∙ find_at f (wires i) _ e

  pub none : (i : ℕ) → i ≡ 10 → found_from i ≡ None
  unfolding ends
  none i e = ap found_from e
