-- From which depth on the reports are the same.
use Rattle.std.proofs.Common.{◌≡◌, ◌≢◌, ℕ, zero, suc, ◌+◌, ◌-◌, ◌<◌, ◌≤◌, Bool, true, false, List, [], ◌∷◌, refl, sym, ap, ap₂, ◌∙◌, subst, ⊎_elim, arith}
use Rattle.std.specs.Prelude.{◌==◌, unwrap_or}
use Rattle.std.specs.List.{list_all, range_with_len}
use Rattle.std.proofs.lemmas.Bool.{cases_eq, cases_Bool, eqb-true, eq-eqb, and_parts, and_from}
use Rattle.raw_model.specs.Program.{ProgramSet}
use Rattle.raw_depth.proofs.Finding.{find_is}
use Rattle.raw_depths.specs.Text.{report_at, is_same_text, is_same_from, same_from}
use Rattle.raw_depths.specs.Found.{IsSameTo}
use Rattle.raw_steady.proofs.Number.{each_in}

pub text_is : (xs ys : List ℕ) → is_same_text xs ys ≡ true → xs ≡ ys
text_is [] [] e = refl
text_is [] (y ∷ ys) e = absurd (cc e)
text_is (x ∷ xs) [] e = absurd (cc e)
text_is (x ∷ xs) (y ∷ ys) e =
    let parts = and_parts (x == y) (is_same_text xs ys) e in
    ap₂ (λ z zs. z ∷ zs) (eqb-true x y parts.0) (text_is xs ys parts.1)

text_self : (xs : List ℕ) → is_same_text xs xs ≡ true
text_self [] = refl
text_self (x ∷ xs) = and_from (x == x) (is_same_text xs xs) (eq-eqb x x refl) (text_self xs)

pub same_is : (xs ys : List ℕ) → xs ≡ ys → is_same_text xs ys ≡ true
same_is xs ys e = subst (λ zs. is_same_text xs zs ≡ true) e (text_self xs)

pub all_in : (f : ℕ → Bool) (a n : ℕ) → ((k : ℕ) → a ≤ k → k < a + n → f k ≡ true) → list_all f (range_with_len a n) ≡ true
all_in f a zero each = refl
all_in f a (suc n) each =
    and_from (f a) (list_all f (range_with_len (a + 1) n)) (each a (omega arith) (omega arith))
    (all_in f (a + 1) n (λ k low high. each k (omega arith) (omega arith)))

-- the first depth, where nothing is before
pub same_first : (set : ProgramSet) → IsSameTo set 1 1
same_first set =
    record {
      some = omega arith;
      few = omega arith;
      same = λ k low high. ap (report_at set) (let e : k ≡ 1 = omega arith in e);
      before = λ less. absurd (omega arith);
    }

-- one depth more, with the same report as the one before, or another
pub same_more : (set : ProgramSet) (n d from : ℕ) → d ≡ n + 1 → IsSameTo set n from → report_at set d ≡ report_at set n → IsSameTo set d from
same_more set n d from is was same =
    let few = was.few in
    record {
      some = was.some;
      few = omega arith;
      same = λ k low high.
          ⊎_elim
          (λ (last : k ≡ d). ap (report_at set) last)
          (λ (ne : k ≡ d → ⊥). was.same k low (omega arith) ∙ sym same)
          (cases_eq k d);
      before = was.before;
    }

pub other_more : (set : ProgramSet) (n d : ℕ) → d ≡ n + 1 → 1 ≤ n → report_at set d ≢ report_at set n → IsSameTo set d d
other_more set n d is some other =
    record {
      some = omega arith;
      few = omega arith;
      same = λ k low high. ap (report_at set) (let e : k ≡ d = omega arith in e);
      before = λ less same. other (sym same ∙ ap (report_at set) (let e : d - 1 ≡ n = omega arith in e));
    }

-- the least depth from which all greater ones have the same report
pub same_from_is : (set : ProgramSet) (d : ℕ) → IsSameTo set 7 d → d ≡ same_from set
unfolding same_from
same_from_is set d is =
    let some = is.some in
    let few = is.few in
    sym (ap (λ o. unwrap_or o 7) (find_is (is_same_from set 7) 1 7 d (record {
      from = some;
      below = omega arith;
      passes = all_in (λ k. is_same_text (report_at set k) (report_at set d)) d (7 + 1 - d)
          (λ k low high. same_is (report_at set k) (report_at set d) (is.same k low (omega arith) ∙ sym (is.same d (omega arith) (omega arith))));
      before = not_before;
    })))
  where
    not_before : (k : ℕ) → 1 ≤ k → k < d → is_same_from set 7 k ≡ false
    not_before k some less = ⊎_elim no' (λ (off : is_same_from set 7 k ≡ false). off) (cases_Bool (is_same_from set 7 k))
      where
        no' : is_same_from set 7 k ≡ true → is_same_from set 7 k ≡ false
        no' on =
            let few = is.few in
            let at = each_in (λ j. is_same_text (report_at set j) (report_at set k)) k (7 + 1 - k) on in
            let first = text_is (report_at set (d - 1)) (report_at set k) (at (d - 1) (omega arith) (omega arith)) in
            let second = text_is (report_at set d) (report_at set k) (at d (omega arith) (omega arith)) in
            absurd (is.before (omega arith) (first ∙ sym second))
