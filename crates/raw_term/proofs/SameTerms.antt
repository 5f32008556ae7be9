-- Two terms that are seen to be the same have one value, under all words for the inputs.
use Rattle.std.proofs.Common.{◌≡◌, ℕ, ◌<◌, Bool, true, false, ◌||◌, List, [], length, ◌∙◌, sym, refl, subst, arith}
use Rattle.std.specs.Prelude.{◌*◌, slice_index, ◌==◌, nat_le}
use Rattle.std.proofs.lemmas.Bool.{eqb-true, leb-true}
use Rattle.std.proofs.lemmas.Option.{slice_get_within, get_or_from_slice_get}
use Rattle.raw_flow.specs.declared.node.Node.{Node}
use Rattle.raw_term.specs.Sums.{many_to, is_nothing, difference, is_same_sum}
use Rattle.raw_term.specs.Exclusives.{moves, are_nothing, both, is_same_exclusive_or}
use Rattle.raw_term.specs.Same.{is_same}
use Rattle.raw_term.proofs.Terms.{both_true, same_value, values_many, Holds, AreTerms, term_values}
use Rattle.raw_term.proofs.SameSums.{holds_index, many_over, same_sum}
use Rattle.raw_term.proofs.SameExclusives.{same_exclusive_or}

module _ (inputs : List ℕ) (nodes : List Node) (are : AreTerms inputs nodes) where
  abbrev values : List ℕ
  values = term_values inputs nodes

  within : (c x : ℕ) → Holds values c x → c < length nodes
  within c x h = let many = values_many inputs nodes 0 [] in omega (arith, many, slice_get_within values c x h)

  walked : (a b x y : ℕ) → Holds values a x → Holds values b y → slice_index values a ≡ slice_index values b → x ≡ y
  walked a b x y h g e = sym (get_or_from_slice_get values a x 0 h) ∙ e ∙ get_or_from_slice_get values b y 0 g

  pub same_values : (a b x y : ℕ) → is_same nodes a b ≡ true → Holds values a x → Holds values b y → x ≡ y
  same_values a b x y e h g = by (a == b) (is_same_sum nodes a b) refl refl e where
    by : (c d : Bool) → (a == b) ≡ c → is_same_sum nodes a b ≡ d → (c || (d || is_same_exclusive_or nodes a b)) ≡ true → x ≡ y
    by true d is sum all = same_value inputs values b x y (subst (λ d. Holds values d x) (eqb-true a b is) h) g
    by false true is sum all = walked a b x y h g (same_sum inputs nodes are a b (within a x h) (within b y g) sum)
    by false false is sum all = walked a b x y h g (same_exclusive_or inputs nodes are a b (within a x h) (within b y g) all)

  -- and what has the value of the one has that of the other
  pub same_holds : (a b x : ℕ) → is_same nodes a b ≡ true → Holds values b x → Holds values a x
  same_holds a b x e h = by (a == b) (is_same_sum nodes a b) refl refl e where
    there : nat_le (many_to a b) (length nodes) ≡ true → a < length nodes
    there f = let over = many_over inputs nodes are a b in let l = leb-true (many_to a b) (length nodes) f in omega (arith, over.0, l)

    found : (l : a < length nodes) → slice_index values a ≡ slice_index values b → Holds values a x
    found l e = subst (λ z. Holds values a z) (e ∙ get_or_from_slice_get values b x 0 h) (holds_index inputs nodes are a l)

    by : (c d : Bool) → (a == b) ≡ c → is_same_sum nodes a b ≡ d → (c || (d || is_same_exclusive_or nodes a b)) ≡ true → Holds values a x
    by true d is sum all = subst (λ d. Holds values d x) (sym (eqb-true a b is)) h
    by false true is sum all =
        let l = there (both_true (nat_le (many_to a b) (length nodes)) (is_nothing nodes (many_to a b) (difference (many_to a b) a b)) sum).0 in
        found l (same_sum inputs nodes are a b l (within b x h) sum)
    by false false is sum all =
        let l = there (both_true (nat_le (many_to a b) (length nodes)) (are_nothing nodes (many_to a b * moves) (both (many_to a b) a b)) all).0 in
        found l (same_exclusive_or inputs nodes are a b l (within b x h) all)
