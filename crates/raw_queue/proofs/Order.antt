-- Each move keeps the rule of a queue.
use Rattle.std.proofs.Common.{◌≡◌, ◌≢◌, ℕ, zero, suc, true, false, true≢false, List, [], ◌∷◌, ◌++◌, length, set, sym, refl, ap, ◌∙◌, subst, ⊎_elim, append_assoc}
use mathlib.Core.Option.{some, some-ne-none}
use lib.ListN.{get_elem?}
use Rattle.crossbeam_queue.specs.Fifo.{Pushes, Pops, Forks, Merges, Learns}
use Rattle.crossbeam_queue.proofs.Lists.{at_set, at_snoc}
use Rattle.raw_queue.specs.declared.item.Item.{Item}
use Rattle.raw_queue.specs.declared.view.EndView.{EndView}
use Rattle.raw_queue.specs.Views.{view_of, Knows, IsInOrder}

-- what is found only behind a list stands at its length
at_end : (l : List EndView) (a b : EndView) (j : ℕ) → get_elem? l j ≢ some b → get_elem? (l ++ a ∷ []) j ≡ some b → j ≡ length l
at_end [] a b zero n e = refl
at_end [] a b (suc j) n e = absurd (some-ne-none b (sym e))
at_end (x ∷ xs) a b zero n e = absurd (n e)
at_end (x ∷ xs) a b (suc j) n e = ap suc (at_end xs a b j n e)

abbrev Each : (ℕ → EndView → Type 0) → List EndView → Type 0
Each F views = (end : ℕ) (v : EndView) → get_elem? views end ≡ some v → F end v

-- a fact of each view after one is replaced
each_set : (F : ℕ → EndView → Type 0) (views : List EndView) (end : ℕ) (w : EndView) → F end w → ((j : ℕ) (u : EndView) → j ≢ end → get_elem? views j ≡ some u → F j u) → Each F (set views end w)
each_set F views end w mine others j u e =
    ⊎_elim (λ (x : (j ≡ end) × (w ≡ u)). subst (λ (y : ℕ × EndView). F y.0 y.1) (λ i. (sym x.0 i, x.1 i)) mine)
    (λ (x : (j ≢ end) × (get_elem? views j ≡ some u)). others j u x.0 x.1)
    (at_set views end j w u e)

pub begins : IsInOrder [] (view_of true true [] [] ∷ [])
begins = record {
  writer = 0;
  reader = 0;
  put = [];
  taken = [];
  ordered = refl;
  known = each_set (Knows 0 0 [] []) (view_of true true [] [] ∷ []) 0 (view_of true true [] []) (record { puts = λ _. (refl, refl); takes = λ _. (refl, refl) })
      (λ j u other e. absurd (other (at_end [] _ u j (λ x. some-ne-none u (sym x)) e)));
}

pub puts : (n end : ℕ) (v : EndView) (x : Item) → v.puts ≡ true → Pushes IsInOrder n end v x (λ w. w ≡ view_of v.puts v.takes (v.put ++ x ∷ []) v.taken)
puts n end v x may items views _ h at =
    let w : EndView = view_of v.puts v.takes (v.put ++ x ∷ []) v.taken in
    let mine = h.known end v at in
    let put = h.put ++ x ∷ [] in (
      w,
      record {
        writer = h.writer;
        reader = h.reader;
        put = put;
        taken = h.taken;
        ordered = ap (λ l. l ++ x ∷ []) h.ordered ∙ append_assoc h.taken items (x ∷ []);
        known = each_set (Knows h.writer h.reader put h.taken) views end w
            (record { puts = λ _. ((mine.puts may).0, ap (λ l. l ++ x ∷ []) (mine.puts may).1); takes = mine.takes })
            (λ j u other e. record { puts = λ p. absurd (other (((h.known j u e).puts p).0 ∙ sym (mine.puts may).0)); takes = (h.known j u e).takes });
      },
      refl,
    )

pub takes : (end : ℕ) (v : EndView) → v.takes ≡ true → Pops IsInOrder end v (λ x w. w ≡ view_of v.puts v.takes v.put (v.taken ++ x ∷ []))
takes end v may x items views h at =
    let w : EndView = view_of v.puts v.takes v.put (v.taken ++ x ∷ []) in
    let mine = h.known end v at in
    let taken = h.taken ++ x ∷ [] in (
      w,
      record {
        writer = h.writer;
        reader = h.reader;
        put = h.put;
        taken = taken;
        ordered = h.ordered ∙ sym (append_assoc h.taken (x ∷ []) items);
        known = each_set (Knows h.writer h.reader h.put taken) views end w
            (record { puts = mine.puts; takes = λ _. ((mine.takes may).0, ap (λ l. l ++ x ∷ []) (mine.takes may).1) })
            (λ j u other e. record { puts = (h.known j u e).puts; takes = λ p. absurd (other (((h.known j u e).takes p).0 ∙ sym (mine.takes may).0)) });
      },
      refl,
    )

-- an end that takes and puts knows what the queue holds
pub learns : (end : ℕ) (v : EndView) → v.takes ≡ true → Learns IsInOrder end v (λ items. v.puts ≡ true → v.put ≡ v.taken ++ items)
learns end v may items views h at puts =
    let mine = h.known end v at in (mine.puts puts).1 ∙ h.ordered ∙ ap (λ l. l ++ items) (sym (mine.takes may).1)

pub parts : (end : ℕ) (v : EndView) → v.puts ≡ true → v.takes ≡ true → Forks IsInOrder end v (view_of true false v.put []) (view_of false true [] v.taken)
parts end v a b items views h at =
    let l : EndView = view_of true false v.put [] in
    let r : EndView = view_of false true [] v.taken in
    let mine = h.known end v at in
    let vs : List EndView = set views end l in
    let Old : ℕ → EndView → Type 0 = λ j u. (u.puts ≡ true → (j ≡ h.writer) × (u.put ≡ h.put)) × (u.takes ≢ true) in
    let old : Each Old vs = each_set Old views end l ((λ _. mine.puts a), λ p. true≢false (sym p))
    (λ j u other e. ((h.known j u e).puts, λ p. other (((h.known j u e).takes p).0 ∙ sym (mine.takes b).0))) in
    record {
      writer = h.writer;
      reader = length vs;
      put = h.put;
      taken = h.taken;
      ordered = h.ordered;
      known = λ j u e. ⊎_elim (λ x. record { puts = (old j u x).0; takes = λ p. absurd ((old j u x).1 p) })
          (λ (is : r ≡ u). record {
            puts = λ p. absurd (true≢false (sym (ap (λ (y : EndView). y.puts) is ∙ p)));
            takes = λ p. (at_end vs r u j (λ x. (old j u x).1 p) e, ap (λ (y : EndView). y.taken) (sym is) ∙ (mine.takes b).1);
          })
          (at_snoc vs r u j e);
    }

pub joins : (end : ℕ) (v : EndView) (other : ℕ) (u : EndView) → v.puts ≡ true → u.takes ≡ true → Merges IsInOrder end v other u (view_of true true v.put u.taken) (view_of false false [] [])
joins end v other u a b items views h at two at' =
    let both : EndView = view_of true true v.put u.taken in
    let mine = h.known end v at in
    let vs : List EndView = set views end both in
    let was : get_elem? views other ≡ some u = ⊎_elim (λ x. absurd (two x.0)) (λ x. x.1) (at_set views end other both u at') in
    let theirs = (h.known other u was).takes b in
    let Now : ℕ → EndView → Type 0 = λ j y. j ≢ other → Knows h.writer end h.put h.taken j y in
    let now : Each Now vs = each_set Now views end both (λ _. record { puts = λ _. mine.puts a; takes = λ _. (refl, theirs.1) })
    (λ j y _ e apart. record { puts = (h.known j y e).puts; takes = λ p. absurd (apart (((h.known j y e).takes p).0 ∙ sym theirs.0)) }) in
    record {
      writer = h.writer;
      reader = end;
      put = h.put;
      taken = h.taken;
      ordered = h.ordered;
      known = each_set (Knows h.writer end h.put h.taken) vs other (view_of false false [] [])
          (record { puts = λ p. absurd (true≢false (sym p)); takes = λ p. absurd (true≢false (sym p)) })
          (λ j y apart e. now j y e apart);
    }
