-- A seat that is split off, and one that is joined, keep the rule.
use Rattle.std.proofs.Common.{◌<◌, ◌≡◌, ◌≢◌, ℕ, zero, suc, ◌+◌, ◌⊎◌, inl, inr, eqb, cond, List, [], ◌∷◌, ◌++◌, length, set, take, drop, refl, sym, ap, ◌∙◌, subst, ⊎_elim, arith, length-set}
use mathlib.Core.Logic.{dite}
use native.Mathlib.Decide.{ℕ_discrete}
use mathlib.Core.Option.{some, some-injective, some-ne-none}
use lib.ListN.{get_elem?}
use Rattle.atomic_table.specs.Table.{Splits, Joins}
use Rattle.atomic_table.proofs.Lists.{at_set, set_else, set_here, at_longer, at_last}
use Rattle.raw_model.specs.Start.{MachineState}
use Rattle.raw_fabric_rule.specs.Views.{About, Part, View}
use Rattle.raw_fabric_rule.specs.Views.{spent_view}
use Rattle.raw_fabric_rule.specs.Rule.{Holder, IsPart, WordsStand, Rule}
use Rattle.raw_fabric_rule.specs.Plays.{rest_of, first_of, both_of}
use Rattle.raw_fabric_rule.proofs.Views.{at_within}
use Rattle.raw_fabric_rule.proofs.Lists.{cond_same, cond_other}

at_end : {A : Type 0} (l : List A) (a b : A) (j : ℕ) → get_elem? (l ++ a ∷ []) j ≡ some b → (get_elem? l j ≡ some b) ⊎ ((j ≡ length l) × (a ≡ b))
at_end [] a b zero e = inr (refl, some-injective a b e)
at_end [] a b (suc j) e = absurd (some-ne-none b (sym e))
at_end (x ∷ xs) a b zero e = inl e
at_end (x ∷ xs) a b (suc j) e = ⊎_elim (λ z. inl z) (λ z. inr (ap suc z.0, z.1)) (at_end xs a b j e)

at_both : {A : Type 0} (l m : List A) (a : A) (j : ℕ) → get_elem? (l ++ m) j ≡ some a → (get_elem? l j ≡ some a) ⊎ ((k : ℕ) × (j ≡ length l + k) × (get_elem? m k ≡ some a))
at_both [] m a j e = inr (j, (let z : j ≡ 0 + j = omega arith in z), e)
at_both (x ∷ xs) m a zero e = inl e
at_both (x ∷ xs) m a (suc j) e = ⊎_elim (λ z. inl z) (λ z. inr (
  z.0,
  (let q = z.1 in
      let g : suc j ≡ suc (length xs) + z.0 = omega arith in g),
  z.2,
)) (at_both xs m a j e)

at_one : {A : Type 0} (x : A) (i : ℕ) (z : A) → get_elem? (x ∷ []) i ≡ some z → (i ≡ 0) × (x ≡ z)
at_one x zero z e = (refl, some-injective x z e)
at_one x (suc i) z e = absurd (some-ne-none z (sym e))

at_after : {A : Type 0} (l m : List A) (i : ℕ) (a : A) → get_elem? m i ≡ some a → get_elem? (l ++ m) (length l + i) ≡ some a
at_after [] m i a e = ap (get_elem? m) (let z : 0 + i ≡ i = omega arith in z) ∙ e
at_after (x ∷ xs) m i a e = ap (get_elem? (x ∷ (xs ++ m))) (let z : suc (length xs) + i ≡ suc (length xs + i) = omega arith in z) ∙ at_after xs m i a e

module _ (about : About) (words : List ℕ) (views : List View) (s : MachineState) (r : WordsStand about words views s) where
  reowned : (owner : ℕ → ℕ) (j k : ℕ) (y : Part) → owner y.worker ≡ k → IsPart about words r.counts r.history s r.owner j y → IsPart about words r.counts r.history s owner k y
  reowned owner j k y e q = record { about_is = q.about_is; worker_in = q.worker_in; owned = e; log_is = q.log_is; holds_all = q.holds_all; units_are = q.units_are }

  anew : (owner : ℕ → ℕ) (views' : List View)
      → ((j : ℕ) (v : View) → get_elem? views' j ≡ some v → (i : ℕ) (y : Part) → get_elem? v.parts i ≡ some y → IsPart about words r.counts r.history s owner j y)
      → ((j : ℕ) (v : View) → get_elem? views' j ≡ some v → (i k : ℕ) (y z : Part) → get_elem? v.parts i ≡ some y → get_elem? v.parts k ≡ some z → y.worker ≡ z.worker → i ≡ k)
      → ((k : ℕ) → k < about.workers → Holder views' k)
      → WordsStand about words views' s
  anew owner views' parts distinct held = record {
    counts = r.counts;
    owner = owner;
    history = r.history;
    is_set = r.is_set;
    lawful = r.lawful;
    ends = r.ends;
    wide = r.wide;
    small = r.small;
    locals_all = r.locals_all;
    wires_all = r.wires_all;
    counted = r.counted;
    packs = r.packs;
    flows = r.flows;
    parts_are = parts;
    held = held;
    distinct = distinct;
    some_worker = r.some_worker;
  }

  module _ (id : ℕ) (v : View) (y : Part) (ys : List Part) (at : get_elem? views id ≡ some v) (is : v.parts ≡ y ∷ ys) where
    abbrev split_owner : ℕ → ℕ
    split_owner k = cond (eqb k y.worker) (length views) (r.owner k)

    -- where the part z of the view j is another than the first of id
    split_other : (j : ℕ) (z : Part) → y.worker ≢ z.worker → r.owner z.worker ≡ j → split_owner z.worker ≡ j
    split_other j z ne e = cond_other z.worker y.worker (length views) (r.owner z.worker) (λ h. ne (sym h)) ∙ e

    first_at : get_elem? v.parts 0 ≡ some y
    first_at = ap (λ (l : List Part). get_elem? l 0) is

    first_part : IsPart about words r.counts r.history s r.owner id y
    first_part = r.parts_are id v at 0 y first_at

    rest_at : (i : ℕ) (z : Part) → get_elem? (rest_of v).parts i ≡ some z → get_elem? v.parts (suc i) ≡ some z
    unfolding rest_of
    rest_at i z e = ap (λ (l : List Part). get_elem? l (suc i)) is ∙ (ap (λ (l : List Part). get_elem? (drop 1 l) i) (sym is) ∙ e)

    given_at : (i : ℕ) (z : Part) → get_elem? (first_of v).parts i ≡ some z → (i ≡ 0) × (y ≡ z)
    unfolding first_of
    given_at i z e = at_one y i z (ap (λ (l : List Part). get_elem? (take 1 l) i) (sym is) ∙ e)

    long_views : length (set views id (rest_of v)) ≡ length views
    long_views = length-set views id (rest_of v)

    rest_here : (i : ℕ) (z : Part) → get_elem? v.parts (suc i) ≡ some z → get_elem? (rest_of v).parts i ≡ some z
    unfolding rest_of
    rest_here i z e = ap (λ (l : List Part). get_elem? (drop 1 l) i) is ∙ (ap (λ (l : List Part). get_elem? l (suc i)) (sym is) ∙ e)

    first_here : (z : Part) → get_elem? v.parts 0 ≡ some z → get_elem? (first_of v).parts 0 ≡ some z
    unfolding first_of
    first_here z e = ap (λ (l : List Part). get_elem? (take 1 l) 0) is ∙ (ap (λ (l : List Part). get_elem? l 0) (sym is) ∙ e)

    of_split : (i : ℕ) (z : Part) (k : ℕ) → get_elem? v.parts i ≡ some z → z.worker ≡ k → Holder (set views id (rest_of v) ++ first_of v ∷ []) k
    of_split zero z k e w = record { seat = length views; view = first_of v; at = at_last (set views id (rest_of v)) (first_of v) (length views) long_views; index = 0; part = z; part_at = first_here z e; worker_is = w }
    of_split (suc i) z k e w = record { seat = id; view = rest_of v; at = at_longer (set views id (rest_of v)) (first_of v ∷ []) id (rest_of v) (set_here views id (rest_of v) (at_within views id v at)); index = i; part = z; part_at = rest_here i z e; worker_is = w }

    split_held : (k : ℕ) → k < about.workers → Holder (set views id (rest_of v) ++ first_of v ∷ []) k
    split_held k lt = let h = r.held k lt in dite (ℕ_discrete h.seat id)
        (λ same. of_split h.index h.part k (ap (λ (q : View). get_elem? q.parts h.index) (some-injective v h.view (sym at ∙ ap (get_elem? views) (sym same) ∙ h.at)) ∙ h.part_at) h.worker_is)
        (λ not. record { seat = h.seat; view = h.view; at = at_longer (set views id (rest_of v)) (first_of v ∷ []) h.seat h.view (set_else views id h.seat (rest_of v) not ∙ h.at); index = h.index; part = h.part; part_at = h.part_at; worker_is = h.worker_is })

    pub split_stands : WordsStand about words (set views id (rest_of v) ++ first_of v ∷ []) s
    split_stands = anew split_owner (set views id (rest_of v) ++ first_of v ∷ [])
        (λ j x e i z here. ⊎_elim
        (λ old. ⊎_elim
        (λ t. let h = rest_at i z (subst (λ (q : View). get_elem? q.parts i ≡ some z) (sym t.1) here) in let was = r.parts_are id v at (suc i) z h in
        reowned split_owner id j z (split_other j z (λ same. let bad : 0 ≡ suc i = r.distinct id v at 0 (suc i) y z first_at h same in omega arith) (was.owned ∙ sym t.0)) was)
        (λ t. let was = r.parts_are j x t.1 i z here in reowned split_owner j j z (split_other j z (λ same. t.0 (sym was.owned ∙ ap r.owner (sym same) ∙ first_part.owned)) was.owned) was)
        (at_set views id j (rest_of v) x old))
        (λ new. let h = given_at i z (subst (λ (q : View). get_elem? q.parts i ≡ some z) (sym new.1) here) in
        subst (IsPart about words r.counts r.history s split_owner j) h.1
        (reowned split_owner id j y (cond_same y.worker y.worker (length views) (r.owner y.worker) refl ∙ sym (new.0 ∙ length-set views id (rest_of v))) first_part))
        (at_end (set views id (rest_of v)) (first_of v) x j e))
        (λ j x e i k a z here there same. ⊎_elim
        (λ old. ⊎_elim
        (λ t. let g = r.distinct id v at (suc i) (suc k) a z (rest_at i a (subst (λ (q : View). get_elem? q.parts i ≡ some a) (sym t.1) here)) (rest_at k z (subst (λ (q : View). get_elem? q.parts k ≡ some z) (sym t.1) there)) same in omega arith)
        (λ t. r.distinct j x t.1 i k a z here there same)
        (at_set views id j (rest_of v) x old))
        (λ new. (given_at i a (subst (λ (q : View). get_elem? q.parts i ≡ some a) (sym new.1) here)).0 ∙ sym (given_at k z (subst (λ (q : View). get_elem? q.parts k ≡ some z) (sym new.1) there)).0)
        (at_end (set views id (rest_of v)) (first_of v) x j e))
        split_held

  module _ (id other : ℕ) (v w : View) (at : get_elem? views id ≡ some v) (apart : ¬ (other ≡ id)) (there : get_elem? views other ≡ some w) where
    abbrev join_owner : ℕ → ℕ
    join_owner k = cond (eqb (r.owner k) other) id (r.owner k)

    kept : (j : ℕ) (z : Part) → j ≢ other → IsPart about words r.counts r.history s r.owner j z → IsPart about words r.counts r.history s join_owner j z
    kept j z ne was = reowned join_owner j j z (cond_other (r.owner z.worker) other id (r.owner z.worker) (λ e. ne (sym was.owned ∙ e)) ∙ was.owned) was

    brought : (z : Part) → IsPart about words r.counts r.history s r.owner other z → IsPart about words r.counts r.history s join_owner id z
    brought z was = reowned join_owner other id z (cond_same (r.owner z.worker) other id (r.owner z.worker) was.owned) was

    both_at : (i : ℕ) (z : Part) → get_elem? (both_of v w).parts i ≡ some z → (get_elem? v.parts i ≡ some z) ⊎ ((k : ℕ) × (i ≡ length v.parts + k) × (get_elem? w.parts k ≡ some z))
    unfolding both_of
    both_at i z e = at_both v.parts w.parts z i e

    none_at : (i : ℕ) (z : Part) → get_elem? spent_view.parts i ≡ some z → ⊥
    unfolding spent_view
    none_at i z e = some-ne-none z (sym e)

    mixed : (a z : Part) (i k : ℕ) → get_elem? v.parts i ≡ some a → get_elem? w.parts k ≡ some z → a.worker ≡ z.worker → ⊥
    mixed a z i k x e same = apart (sym (r.parts_are other w there k z e).owned ∙ ap r.owner (sym same) ∙ (r.parts_are id v at i a x).owned)

    first_in : (i : ℕ) (z : Part) → get_elem? v.parts i ≡ some z → get_elem? (both_of v w).parts i ≡ some z
    unfolding both_of
    first_in i z e = at_longer v.parts w.parts i z e

    second_in : (i : ℕ) (z : Part) → get_elem? w.parts i ≡ some z → get_elem? (both_of v w).parts (length v.parts + i) ≡ some z
    unfolding both_of
    second_in i z e = at_after v.parts w.parts i z e

    both_there : get_elem? (set (set views id (both_of v w)) other spent_view) id ≡ some (both_of v w)
    both_there = set_else (set views id (both_of v w)) other id spent_view (λ e. apart (sym e)) ∙ set_here views id (both_of v w) (at_within views id v at)

    join_held : (k : ℕ) → k < about.workers → Holder (set (set views id (both_of v w)) other spent_view) k
    join_held k lt = let h = r.held k lt in dite (ℕ_discrete h.seat id)
        (λ same. record { seat = id; view = both_of v w; at = both_there; index = h.index; part = h.part; part_at = first_in h.index h.part (ap (λ (q : View). get_elem? q.parts h.index) (some-injective v h.view (sym at ∙ ap (get_elem? views) (sym same) ∙ h.at)) ∙ h.part_at); worker_is = h.worker_is })
        (λ not. dite (ℕ_discrete h.seat other)
        (λ same. record { seat = id; view = both_of v w; at = both_there; index = length v.parts + h.index; part = h.part; part_at = second_in h.index h.part (ap (λ (q : View). get_elem? q.parts h.index) (some-injective w h.view (sym there ∙ ap (get_elem? views) (sym same) ∙ h.at)) ∙ h.part_at); worker_is = h.worker_is })
        (λ nor. record { seat = h.seat; view = h.view; at = set_else (set views id (both_of v w)) other h.seat spent_view nor ∙ (set_else views id h.seat (both_of v w) not ∙ h.at); index = h.index; part = h.part; part_at = h.part_at; worker_is = h.worker_is }))

    pub join_stands : WordsStand about words (set (set views id (both_of v w)) other spent_view) s
    join_stands = anew join_owner (set (set views id (both_of v w)) other spent_view)
        (λ j x e i z here. ⊎_elim
        (λ t. absurd (none_at i z (subst (λ (q : View). get_elem? q.parts i ≡ some z) (sym t.1) here)))
        (λ t. ⊎_elim
        (λ q. subst (λ (k : ℕ). IsPart about words r.counts r.history s join_owner k z) (sym q.0) (⊎_elim
        (λ old. kept id z (λ bad. apart (sym bad)) (r.parts_are id v at i z old))
        (λ new. brought z (r.parts_are other w there new.0 z new.2))
        (both_at i z (subst (λ (l : View). get_elem? l.parts i ≡ some z) (sym q.1) here))))
        (λ q. kept j z t.0 (r.parts_are j x q.1 i z here))
        (at_set views id j (both_of v w) x t.1))
        (at_set (set views id (both_of v w)) other j spent_view x e))
        (λ j x e i k a z here hence same. ⊎_elim
        (λ t. absurd (none_at i a (subst (λ (q : View). get_elem? q.parts i ≡ some a) (sym t.1) here)))
        (λ t. ⊎_elim
        (λ q. ⊎_elim
        (λ old. ⊎_elim (λ old'. r.distinct id v at i k a z old old' same) (λ new'. absurd (mixed a z i new'.0 old new'.2 same)) (both_at k z (subst (λ (l : View). get_elem? l.parts k ≡ some z) (sym q.1) hence)))
        (λ new. ⊎_elim (λ old'. absurd (mixed z a k new.0 old' new.2 (sym same)))
        (λ new'. new.1 ∙ ap (λ (m : ℕ). length v.parts + m) (r.distinct other w there new.0 new'.0 a z new.2 new'.2 same) ∙ sym new'.1)
        (both_at k z (subst (λ (l : View). get_elem? l.parts k ≡ some z) (sym q.1) hence)))
        (both_at i a (subst (λ (l : View). get_elem? l.parts i ≡ some a) (sym q.1) here)))
        (λ q. r.distinct j x q.1 i k a z here hence same)
        (at_set views id j (both_of v w) x t.1))
        (at_set (set views id (both_of v w)) other j spent_view x e))
        join_held

pub splits : {S : Type 0} (about : About) (id : ℕ) (v : View) (y : Part) (ys : List Part) → v.parts ≡ y ∷ ys → Splits {S = S} (Rule about) id v (rest_of v) (first_of v)
splits about id v y ys is st g at = (g.0, split_stands about st.words st.views g.0 g.1 id v y ys at is)

pub joins : {S : Type 0} (about : About) (id other : ℕ) (v w : View) → Joins {S = S} (Rule about) id v other w (both_of v w) spent_view
joins about id other v w st g at apart there = (g.0, join_stands about st.words st.views g.0 g.1 id other v w at apart (sym (set_else st.views id other (both_of v w) apart) ∙ there))
