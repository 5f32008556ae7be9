-- A wire holds no less where its producer took no fewer steps and its consumer no more.
use Rattle.std.proofs.Common.{◌≡◌, ℕ, suc, ◌<◌, ◌≤◌, true, List, [], ◌∷◌, ◌++◌, length, drop, sym, ap, ◌∙◌, subst, ⊎_elim, arith}
use Rattle.std.proofs.lemmas.List.{append-nil, length-append, length-drop}
use Rattle.std.proofs.lemmas.Bool.{cases_eq}
use Rattle.raw_network.specs.Network.{Network, State, values_on, count_of, fronts, is_enabled, step}
use Rattle.raw_network.specs.Runs.{IsLawful, end_of}
use Rattle.raw_network.specs.Wired.{IsWired}
use Rattle.raw_network.proofs.Wires.{count_here, count_there, count_none, arrivals, arrivals_none, wire_moved}
use Rattle.raw_network.proofs.Diamond.{ready, step_ready, sent_by}
use Rattle.raw_network.proofs.Erased.{erased, count_erased_same, count_erased_other}
use Rattle.raw_network.proofs.Fronted.{fronted}
use Rattle.raw_network.proofs.Steps.{end_of-push, lawful-push}
use Rattle.raw_lockstep.proofs.Cycling.{count-append}

-- how many values are on a wire
abbrev pub on : {L : Type 0} → State L → ℕ → ℕ
on s w = length (values_on s.wires w)

-- one entry more
pub count_push_same : (x : ℕ) (g : List ℕ) → count_of x (g ++ x ∷ []) ≡ suc (count_of x g)
count_push_same x g = omega (arith, count-append x g (x ∷ []), count_here x [])

pub count_push_other : (x r : ℕ) (g : List ℕ) → (x ≡ r → ⊥) → count_of r (g ++ x ∷ []) ≡ count_of r g
count_push_other x r g ne = omega (arith, count-append r g (x ∷ []), count_there r x [] ne)

-- without the first entry of x in both lists
fewer_rest : (x r : ℕ) (f g : List ℕ) → 0 < count_of x g → count_of r (x ∷ f) ≤ count_of r g → count_of r f ≤ count_of r (erased x g)
fewer_rest x r f g some le =
    ⊎_elim
    (λ (e : x ≡ r). subst (λ y. count_of y f ≤ count_of y (erased x g)) e
    (let le' : count_of x (x ∷ f) ≤ count_of x g = subst (λ y. count_of y (x ∷ f) ≤ count_of y g) (sym e) le in
    omega (arith, le', count_here x f, count_erased_same x g some)))
    (λ (ne : x ≡ r → ⊥). omega (arith, le, count_there r x f ne, count_erased_other x r g ne))
    (cases_eq x r)

more_rest : (x r : ℕ) (f g : List ℕ) → 0 < count_of x g → count_of r g ≤ count_of r (x ∷ f) → count_of r (erased x g) ≤ count_of r f
more_rest x r f g some le =
    ⊎_elim
    (λ (e : x ≡ r). subst (λ y. count_of y (erased x g) ≤ count_of y f) e
    (let le' : count_of x g ≤ count_of x (x ∷ f) = subst (λ y. count_of y g ≤ count_of y (x ∷ f)) (sym e) le in
    omega (arith, le', count_here x f, count_erased_same x g some)))
    (λ (ne : x ≡ r → ⊥). omega (arith, le, count_there r x f ne, count_erased_other x r g ne))
    (cases_eq x r)

module _ {L : Type 0} (net : Network L) (producer consumer : ℕ → ℕ) (wired : IsWired net producer consumer) where
  -- only its consumer takes from a wire,
  pub grows : (s : State L) (x w : ℕ) → is_enabled net s x ≡ true → (consumer w ≡ x → ⊥) → on s w ≤ on (step net s x) w
  grows s x w e ne =
      let (l, r) = ready net s x e in
      let after = step_ready net producer consumer wired s x l r in
      let moved = wire_moved (net.takes x l) (sent_by net producer consumer wired s x l) s.wires w in
      let none = count_none consumer x w (net.takes x l) (wired.takes_own x l) ne in
      let same : values_on (step net s x).wires w ≡ values_on s.wires w ++ arrivals (length s.wires) w (sent_by net producer consumer wired s x l) =
      ap (λ t. values_on t.wires w) after ∙ moved
      ∙ ap (λ n. drop n (values_on s.wires w) ++ arrivals (length s.wires) w (sent_by net producer consumer wired s x l)) none in
      omega (arith, ap length same, length-append (values_on s.wires w) (arrivals (length s.wires) w (sent_by net producer consumer wired s x l)))

  -- and only its producer sends there
  pub shrinks : (s : State L) (x w : ℕ) → is_enabled net s x ≡ true → (producer w ≡ x → ⊥) → on (step net s x) w ≤ on s w
  shrinks s x w e ne =
      let (l, r) = ready net s x e in
      let after = step_ready net producer consumer wired s x l r in
      let moved = wire_moved (net.takes x l) (sent_by net producer consumer wired s x l) s.wires w in
      let none = arrivals_none producer x (length s.wires) w (sent_by net producer consumer wired s x l) (wired.sent_own x l (fronts (net.takes x l) s.wires)) ne in
      let same : values_on (step net s x).wires w ≡ drop (count_of w (net.takes x l)) (values_on s.wires w) =
      ap (λ t. values_on t.wires w) after ∙ moved
      ∙ ap (λ xs. drop (count_of w (net.takes x l)) (values_on s.wires w) ++ xs) none
      ∙ append-nil (drop (count_of w (net.takes x l)) (values_on s.wires w)) in
      omega (arith, ap length same, length-drop (count_of w (net.takes x l)) (values_on s.wires w))

  grows_all : (s : State L) (g : List ℕ) (w : ℕ) → IsLawful net s g → count_of (consumer w) g ≤ 0 → on s w ≤ on (end_of net s g) w
  grows_all s [] w h none = omega arith
  grows_all s (x ∷ g) w h none =
      ⊎_elim
      (λ (e : x ≡ consumer w). absurd (omega (arith, none, subst (λ y. 0 < count_of y (x ∷ g)) e (omega (arith, count_here x g)))))
      (λ (ne : x ≡ consumer w → ⊥).
      omega (
        arith,
        grows s x w h.0 (λ e. ne (sym e)),
        grows_all (step net s x) g w h.1 (omega (arith, none, count_there (consumer w) x g ne)),
      ))
      (cases_eq x (consumer w))

  -- a wire holds no less at the end of the list in which its producer took no fewer steps and its consumer no more
  pub fuller : (s : State L) (w : ℕ) (f g : List ℕ) → IsLawful net s f → IsLawful net s g
      → count_of (producer w) f ≤ count_of (producer w) g → count_of (consumer w) g ≤ count_of (consumer w) f
      → on (end_of net s f) w ≤ on (end_of net s g) w
  fuller s w [] g of_f of_g more less = grows_all s g w of_g less
  fuller s w (x ∷ f) g of_f of_g more less =
      ⊎_elim
      (λ (z : count_of x g ≡ 0). none (λ g' of_g' there more' less'. with_x g' of_g' there more' less' (fuller (step net s x) w f (erased x g') of_f.1 (fronted net producer consumer wired s x g' of_f.0 of_g').lawful (fewer_rest x (producer w) f g' there more') (more_rest x (consumer w) f g' there less'))) z)
      (λ (nz : count_of x g ≡ 0 → ⊥).
      let there : 0 < count_of x g = omega arith in
      with_x g of_g there more less (fuller (step net s x) w f (erased x g) of_f.1 (fronted net producer consumer wired s x g of_f.0 of_g).lawful (fewer_rest x (producer w) f g there more) (more_rest x (consumer w) f g there less)))
      (cases_eq (count_of x g) 0)
    where
      WithX : Type 0
      WithX = (g' : List ℕ) → IsLawful net s g' → 0 < count_of x g' → count_of (producer w) (x ∷ f) ≤ count_of (producer w) g'
          → count_of (consumer w) g' ≤ count_of (consumer w) (x ∷ f) → on (end_of net s (x ∷ f)) w ≤ on (end_of net s g') w

      with_x : (g' : List ℕ) → IsLawful net s g' → 0 < count_of x g' → count_of (producer w) (x ∷ f) ≤ count_of (producer w) g'
          → count_of (consumer w) g' ≤ count_of (consumer w) (x ∷ f)
          → on (end_of net (step net s x) f) w ≤ on (end_of net (step net s x) (erased x g')) w
          → on (end_of net s (x ∷ f)) w ≤ on (end_of net s g') w
      with_x g' of_g' there more' less' rest =
          let first = fronted net producer consumer wired s x g' of_f.0 of_g' in
          omega (arith, rest, ap (λ t. on t w) (first.ends there))

      none : WithX → count_of x g ≡ 0 → on (end_of net s (x ∷ f)) w ≤ on (end_of net s g) w
      none longer_by nothing =
          let may = (fronted net producer consumer wired s x g of_f.0 of_g).kept nothing in
          let other : producer w ≡ x → ⊥ = λ e.
          absurd (omega (arith, nothing, count_here x f, subst (λ y. count_of y (x ∷ f) ≤ count_of y g) e more)) in
          let less' : count_of (consumer w) (g ++ x ∷ []) ≤ count_of (consumer w) (x ∷ f) =
          ⊎_elim
          (λ (e : x ≡ consumer w). subst (λ y. count_of y (g ++ x ∷ []) ≤ count_of y (x ∷ f)) e (omega (arith, nothing, count_push_same x g, count_here x f)))
          (λ (ne : x ≡ consumer w → ⊥). omega (arith, less, count_push_other x (consumer w) g ne))
          (cases_eq x (consumer w)) in
          let longer = longer_by (g ++ x ∷ []) (lawful-push net s g x of_g may) (omega (arith, count_push_same x g))
          (omega (arith, more, count_push_other x (producer w) g (λ e. other (sym e)))) less' in
          let last = shrinks (end_of net s g) x w may other in
          omega (arith, longer, last, ap (λ t. on t w) (end_of-push net s g x))
