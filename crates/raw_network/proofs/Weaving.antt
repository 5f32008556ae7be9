-- The entries of a lawful list in another order, in which those of each worker keep theirs.
use Rattle.std.proofs.Common.{◌≡◌, ℕ, suc, ◌<◌, cond, eqb, List, [], ◌∷◌, refl, sym, ap, ◌∙◌, subst, ⊎_elim, arith}
use Rattle.std.proofs.lemmas.Bool.{cases_eq, eq-eqb, ne_eqb}
use Rattle.raw_network.specs.Network.{Network, count_of}
use Rattle.raw_network.specs.Wired.{IsWired}
use Rattle.raw_network.specs.Laws.{of_worker, OneMayBeTaken, FirstMayBeTaken, SameLogsSameEnd}
use Rattle.raw_network.proofs.Wires.{count_here, count_there}
use Rattle.raw_network.proofs.Erased.{erased, erased_here, erased_there}
use Rattle.raw_network.proofs.Fronted.{fronted}
use Rattle.raw_network.proofs.Networks.{law_same_end}

of_worker_here : (own : ℕ → ℕ) (w q : ℕ) (h : List ℕ) → own q ≡ w → of_worker own w (q ∷ h) ≡ q ∷ of_worker own w h
of_worker_here own w q h e = ap (λ b. cond b (q ∷ of_worker own w h) (of_worker own w h)) (eq-eqb (own q) w e)

of_worker_there : (own : ℕ → ℕ) (w q : ℕ) (h : List ℕ) → (own q ≡ w → ⊥) → of_worker own w (q ∷ h) ≡ of_worker own w h
of_worker_there own w q h ne = ap (λ b. cond b (q ∷ of_worker own w h) (of_worker own w h)) (ne_eqb (own q) w ne)

same_head : (p q : ℕ) (xs ys : List ℕ) → p ∷ xs ≡ q ∷ ys → (p ≡ q) × (xs ≡ ys)
same_head p q xs ys e = (cc, cc)

-- without p, the head of its log, that log has the rest
erased_log : (own : ℕ → ℕ) (p : ℕ) (h rest : List ℕ) → of_worker own (own p) h ≡ p ∷ rest
    → of_worker own (own p) (erased p h) ≡ rest
erased_log own p [] rest e = cc
erased_log own p (q ∷ h) rest e =
    ⊎_elim
    (λ (same : q ≡ p).
    ap (λ qs. of_worker own (own p) qs) (subst (λ x. erased p (x ∷ h) ≡ h) (sym same) (erased_here p h))
    ∙ (same_head q p (of_worker own (own p) h) rest (sym (of_worker_here own (own p) q h (ap own same)) ∙ e)).1)
    (λ (ne : q ≡ p → ⊥).
    ⊎_elim
    (λ (mine : own q ≡ own p). absurd (ne (same_head q p (of_worker own (own p) h) rest (sym (of_worker_here own (own p) q h mine) ∙ e)).0))
    (λ (other : own q ≡ own p → ⊥).
    ap (λ qs. of_worker own (own p) qs) (erased_there p q h ne)
    ∙ of_worker_there own (own p) q (erased p h) other
    ∙ erased_log own p h rest (sym (of_worker_there own (own p) q h other) ∙ e))
    (cases_eq (own q) (own p)))
    (cases_eq q p)

erased_other_log : (own : ℕ → ℕ) (p w : ℕ) (h : List ℕ) → (own p ≡ w → ⊥) → of_worker own w (erased p h) ≡ of_worker own w h
erased_other_log own p w [] ne = refl
erased_other_log own p w (q ∷ h) ne =
    ⊎_elim
    (λ (same : q ≡ p).
    ap (λ qs. of_worker own w qs) (subst (λ x. erased p (x ∷ h) ≡ h) (sym same) (erased_here p h))
    ∙ sym (of_worker_there own w q h (λ e. ne (sym (ap own same) ∙ e))))
    (λ (other : q ≡ p → ⊥).
    ap (λ qs. of_worker own w qs) (erased_there p q h other)
    ∙ ap (λ xs. cond (eqb (own q) w) (q ∷ xs) xs) (erased_other_log own p w h ne))
    (cases_eq q p)

head_counts : (own : ℕ → ℕ) (p : ℕ) (h rest : List ℕ) → of_worker own (own p) h ≡ p ∷ rest → 0 < count_of p h
head_counts own p [] rest e = cc
head_counts own p (q ∷ h) rest e =
    ⊎_elim
    (λ (same : q ≡ p). let n = subst (λ x. count_of p (x ∷ h) ≡ suc (count_of p h)) (sym same) (count_here p h) in omega arith)
    (λ (ne : q ≡ p → ⊥).
    let n = count_there p q h ne in
    let more : 0 < count_of p h =
    ⊎_elim
    (λ (mine : own q ≡ own p). absurd (ne (same_head q p (of_worker own (own p) h) rest (sym (of_worker_here own (own p) q h mine) ∙ e)).0))
    (λ (other : own q ≡ own p → ⊥). head_counts own p h rest (sym (of_worker_there own (own p) q h other) ∙ e))
    (cases_eq (own q) (own p)) in
    omega arith)
    (cases_eq q p)

-- a processor stands in a list as often as among its worker's entries
own_count : (own : ℕ → ℕ) (p : ℕ) (h : List ℕ) → count_of p (of_worker own (own p) h) ≡ count_of p h
own_count own p [] = refl
own_count own p (q ∷ h) =
    ⊎_elim
    (λ (mine : own q ≡ own p).
    ap (λ qs. count_of p qs) (of_worker_here own (own p) q h mine) ∙ ap (λ n. cond (eqb q p) (suc n) n) (own_count own p h))
    (λ (other : own q ≡ own p → ⊥).
    ap (λ qs. count_of p qs) (of_worker_there own (own p) q h other)
    ∙ own_count own p h
    ∙ sym (count_there p q h (λ e. other (ap own e))))
    (cases_eq (own q) (own p))

pub law_first_may_be_taken : {L : Type 0} (net : Network L) → FirstMayBeTaken net
law_first_may_be_taken net own s p h lawful = (lawful.0, of_worker_here own (own p) p h refl)

module _ {L : Type 0} (net : Network L) (producer consumer : ℕ → ℕ) (wired : IsWired net producer consumer) where
  pub law_one_may_be_taken : OneMayBeTaken net
  law_one_may_be_taken own s p h rest lawful e head =
      let front = fronted net producer consumer wired s p h e lawful in (
        erased p h,
        record {
          lawful = front.lawful;
          ends = front.ends (head_counts own p h rest head);
          own_entries = erased_log own p h rest head;
          other_entries = λ w ne. erased_other_log own p w h ne;
        },
      )

  pub law_same_logs : SameLogsSameEnd net
  law_same_logs own s h g of_h of_g same =
      law_same_end net producer consumer wired s h g of_h of_g
      (λ p. sym (own_count own p g) ∙ ap (λ qs. count_of p qs) (same p) ∙ own_count own p h)
