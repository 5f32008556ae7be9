-- Whether an element of what is left of a list passes.
use Rattle.std.proofs.Common.{◌≡◌, ℕ, ◌+◌, Bool, List, drop, Some, ap, ◌∙◌}
use Rattle.std.specs.Prelude.{◌||◌, slice_get}
use Rattle.std.specs.List.{list_any}
use Rattle.std.proofs.lemmas.List.{at_drop_more}
use Rattle.std.proofs.lemmas.Option.{slice_get_within, get_or_from_slice_get}

pub any_at : {A : Type 0} (test : A → Bool) (xs : List A) (i : ℕ) (x : A) → slice_get xs i ≡ Some x
    → list_any test (drop i xs) ≡ (test x || list_any test (drop (i + 1) xs))
any_at test xs i x is =
    at_drop_more (list_any test) xs i x (slice_get_within xs i x is)
    ∙ ap (λ y. test y || list_any test (drop (i + 1) xs)) (get_or_from_slice_get xs i x x is)
