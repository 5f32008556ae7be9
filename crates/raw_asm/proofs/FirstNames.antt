-- A map of names, one value on.
use Rattle.std.proofs.Common.{◌≡◌, ℕ, ◌+◌, ◌<◌, Bool, true, false, cond, List, [], ◌∷◌, ◌++◌, length, get_or, take, Option, Some, None, refl, sym, ap, ◌∙◌, subst}
use Rattle.std.specs.Option.{option_or, is_some}
use Rattle.std.specs.Str.{bytes_eq}
use Rattle.std.specs.Borrow.{Bor}
use Rattle.std.specs.Ordering.{nat_cmp}
use Rattle.std.specs.Cmp.Lexicographic.{slice_cmp}
use Rattle.std.specs.BTreeMap.{BTreeMap, UpdatesBy}
use Rattle.std.proofs.lemmas.List.{take_more}
use Rattle.std.proofs.lemmas.List.Folds.{find-append}
use Rattle.std.proofs.lemmas.Slice.Eq.{bytes_eq-Decides}
use Rattle.std.proofs.lemmas.Map.Text.{btree_map_updates_str}
use Rattle.raw_asm.specs.NameTable.{value_in, named_in}

module _ {V : Type 0} where
  or_none : (o : Option V) → option_or o None ≡ o
  or_none None = refl
  or_none (Some v) = refl

  by_test : (there : Option V) (value : V) (same : Bool) → (same ≡ true → there ≡ None) → cond same (Some value) there ≡ option_or there (cond same (Some value) None)
  by_test there value true none = rw (none refl) refl
  by_test there value false none = sym (or_none there)

  is_absent : (o : Option V) → is_some o ≡ false → o ≡ None
  is_absent None e = refl
  is_absent (Some v) e = absurd (cc e)

  -- a name that is new
  pub added : (m n : BTreeMap (Bor (List ℕ)) V) (name : List ℕ) (value : V) → UpdatesBy (λ x y. slice_cmp nat_cmp x.now y.now) (λ key. slice_cmp nat_cmp name key.now) m n (Some value)
      → is_some (value_in m name) ≡ false → (other : List ℕ) → value_in n other ≡ option_or (value_in m other) (cond (bytes_eq name other) (Some value) None)
  added m n name value updates absent other =
      btree_map_updates_str name m n (Some value) updates other
      ∙ by_test (value_in m other) value (bytes_eq name other)
      (λ same. let e : name ≡ other = (bytes_eq-Decides name other).0 same in subst (λ x. value_in m x ≡ None) e (is_absent (value_in m name) absent))

  -- the first values and one more
  pub named_next : (name_of : V → List ℕ) (values : List V) (k : ℕ) (value : V) (name : List ℕ) → k < length values → value ≡ get_or values k value
      → named_in name_of (take (k + 1) values) name ≡ option_or (named_in name_of (take k values) name) (cond (bytes_eq (name_of value) name) (Some value) None)
  named_next name_of values k value name lt is =
      let front : take (k + 1) values ≡ take k values ++ value ∷ [] = take_more values k value lt ∙ ap (λ v. take k values ++ v ∷ []) (sym is) in
      ap (λ vs. named_in name_of vs name) front ∙ find-append (λ v. bytes_eq (name_of v) name) (take k values) (value ∷ [])
