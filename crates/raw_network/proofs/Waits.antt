-- Nothing is unmet exactly where the values and the room are there; first waits.
use Rattle.std.proofs.Common.{◌≡◌, ℕ, ◌<◌, ◌≤◌, Bool, true, false, cond, ◌&&◌, ltb, leb, List, [], ◌∷◌, length, Option, Some, None, not, ◌⊎◌, refl, sym, ap, ◌∙◌, subst, inl, inr, ⊎_elim, arith}
use Rattle.std.specs.Prelude.{slice_get}
use Rattle.std.specs.List.{find, list_all}
use Rattle.std.proofs.lemmas.Bool.{cases_eq, cases_lt, ltb-false, lt-ltb, le-ltb, le-leb, lt-leb, leb-false, ltb-true, leb-true, and_right, and_cases, and_from, and_parts}
use Rattle.std.proofs.lemmas.Option.{same_Some}
use Rattle.raw_network.specs.Network.{Network, State, values_on, count_of, has_values, has_room, is_ready, is_enabled}
use Rattle.raw_network.specs.Waits.{lacks_values, lacks_room, either_first, first_unmet, wait_of, first_wait, IsCovered}
use Rattle.raw_network.specs.Laws.{NoneWhereEnabled, IsUnmet, WaitIsUnmet}
use Rattle.raw_network.proofs.Wires.{count_here, count_there, all_at_count}
use Rattle.raw_network.proofs.Diamond.{counts_fit}

some_is : (b : Bool) (x : ℕ) (o : Option ℕ) → cond b (Some x) o ≡ None → (b ≡ false) × (o ≡ None)
some_is true x o e = cc
some_is false x o e = (refl, e)

-- what is not found fails at each element
find_none : (f : ℕ → Bool) (ws : List ℕ) (w : ℕ) → find f ws ≡ None → 0 < count_of w ws → f w ≡ false
find_none f [] w e c = absurd (omega arith)
find_none f (v ∷ vs) w e c =
    let parts = some_is (f v) v (find f vs) e in
    ⊎_elim
    (λ same. subst (λ x. f x ≡ false) same parts.0)
    (λ ne. find_none f vs w parts.1 (subst (λ n. 0 < n) (count_there w v vs ne) c))
    (cases_eq v w)

none_found : (f : ℕ → Bool) (ws : List ℕ) → ((w : ℕ) → f w ≡ false) → find f ws ≡ None
none_found f [] h = refl
none_found f (v ∷ vs) h = ap (λ b. cond b (Some v) (find f vs)) (h v) ∙ none_found f vs h

all_counted : (f : ℕ → Bool) (ws : List ℕ) → ((w : ℕ) → 0 < count_of w ws → f w ≡ true) → list_all f ws ≡ true
all_counted f [] h = refl
all_counted f (v ∷ vs) h =
    and_from (f v) (list_all f vs)
    (h v (let e = count_here v vs in omega arith))
    (all_counted f vs (λ w c.
    h w (⊎_elim
    (λ same. subst (λ x. 0 < count_of x (v ∷ vs)) same (let e = count_here v vs in omega arith))
    (λ ne. let e = count_there w v vs ne in omega arith)
    (cases_eq v w))))

module _ (depth : ℕ) (inputs outputs takes sends : List ℕ) (wires : List (List ℕ)) where
  -- where nothing is unmet the values and the room are there
  pub met : ((w : ℕ) → 0 < count_of w takes → 0 < count_of w inputs)
      → ((w : ℕ) → 0 < count_of w sends → 0 < count_of w outputs)
      → first_unmet depth inputs outputs takes sends wires ≡ None
      → (has_values takes wires ≡ true) × (has_room depth sends wires ≡ true)
  met ins outs e = (values, room)
    where
      first_none : (o u : Option ℕ) → either_first o u ≡ None → (o ≡ None) × (u ≡ None)
      first_none None u e = (refl, e)
      first_none (Some w) u e = cc

      parts : (find (lacks_values takes wires) inputs ≡ None) × (find (lacks_room depth sends wires) outputs ≡ None)
      parts = first_none (find (lacks_values takes wires) inputs) (find (lacks_room depth sends wires) outputs) e

      values : has_values takes wires ≡ true
      values =
          all_counted (λ w. leb (count_of w takes) (length (values_on wires w))) takes
          (λ w c. le-leb (count_of w takes) (length (values_on wires w)) (ltb-false (length (values_on wires w)) (count_of w takes) (find_none (lacks_values takes wires) inputs w parts.0 (ins w c))))

      room : has_room depth sends wires ≡ true
      room =
          all_counted (λ w. ltb (length (values_on wires w)) depth) sends (λ w c.
          ⊎_elim
          (λ (no : ltb 0 (count_of w sends) ≡ false). let h = ltb-false 0 (count_of w sends) no in absurd (omega arith))
          (λ (no : leb depth (length (values_on wires w)) ≡ false). lt-ltb (length (values_on wires w)) depth (leb-false depth (length (values_on wires w)) no))
          (and_cases (ltb 0 (count_of w sends)) (leb depth (length (values_on wires w))) (find_none (lacks_room depth sends wires) outputs w parts.1 (outs w c))))

  -- and where they are there nothing is unmet
  pub unmet : has_values takes wires ≡ true → has_room depth sends wires ≡ true
      → first_unmet depth inputs outputs takes sends wires ≡ None
  unmet values room =
      ap (λ o. either_first o (find (lacks_room depth sends wires) outputs))
      (none_found (lacks_values takes wires) inputs (λ w. le-ltb (length (values_on wires w)) (count_of w takes) (counts_fit takes wires values w)))
      ∙ none_found (lacks_room depth sends wires) outputs (λ w.
      ⊎_elim
      (λ (some : 0 < count_of w sends). no_room w (ltb-true (length (values_on wires w)) depth (all_at_count (λ v. ltb (length (values_on wires v)) depth) sends w room some)))
      (λ (none : count_of w sends ≤ 0). ap (λ b. b && leb depth (length (values_on wires w))) (le-ltb 0 (count_of w sends) none))
      (cases_lt 0 (count_of w sends)))
    where
      no_room : (w : ℕ) → length (values_on wires w) < depth
          → (ltb 0 (count_of w sends) && leb depth (length (values_on wires w))) ≡ false
      no_room w below =
          and_right (ltb 0 (count_of w sends)) (leb depth (length (values_on wires w))) (lt-leb depth (length (values_on wires w)) below)

-- what is found passes the test, and stands in the list
found : (f : ℕ → Bool) (ws : List ℕ) (w : ℕ) → find f ws ≡ Some w → (0 < count_of w ws) × (f w ≡ true)
found f [] w e = cc
found f (v ∷ vs) w e = by_test (f v) refl e (λ e. found f vs w e)
  where
    rest : (0 < count_of w vs) × (f w ≡ true) → (0 < count_of w (v ∷ vs)) × (f w ≡ true)
    rest is = (
      ⊎_elim
          (λ (same : v ≡ w). subst (λ x. 0 < count_of x (v ∷ vs)) same (let e = count_here v vs in omega arith))
          (λ (ne : v ≡ w → ⊥). let e = count_there w v vs ne in let some = is.0 in omega arith)
          (cases_eq v w),
      is.1,
    )

    by_test : (b : Bool) → f v ≡ b → cond b (Some v) (find f vs) ≡ Some w
        → (find f vs ≡ Some w → (0 < count_of w vs) × (f w ≡ true))
        → (0 < count_of w (v ∷ vs)) × (f w ≡ true)
    by_test true on e later =
        subst (λ x. (0 < count_of x (v ∷ vs)) × (f x ≡ true)) (same_Some v w e) (let n = count_here v vs in omega arith, on)
    by_test false off e later = rest (later e)

module _ {L : Type 0} (net : Network L) (inputs outputs : ℕ → List ℕ) where
  wait_here : (s : State L) (p : ℕ) (l : L) → slice_get s.locals p ≡ Some l → net.is_stopped p l ≡ false
      → first_wait net inputs outputs s p ≡ first_unmet net.depth (inputs p) (outputs p) (net.takes p l) (net.sends p l) s.wires
  wait_here s p l here going =
      ap (λ o. wait_of net inputs outputs s.wires p o) here
      ∙ ap (λ b. cond b None (first_unmet net.depth (inputs p) (outputs p) (net.takes p l) (net.sends p l) s.wires)) going

  -- a processor that is there and not stopped has no first wait exactly where it is enabled
  pub law_none_where_enabled : IsCovered net inputs outputs → NoneWhereEnabled net inputs outputs
  law_none_where_enabled covered s p l here going = (enabled_if, none_if)
    where
      enabled_if : first_wait net inputs outputs s p ≡ None → is_enabled net s p ≡ true
      enabled_if none =
          let both = met net.depth (inputs p) (outputs p) (net.takes p l) (net.sends p l) s.wires (covered.takes p l) (covered.sends p l)
          (sym (wait_here s p l here going) ∙ none) in
          ap (λ o. is_ready net p o s.wires) here
          ∙ and_from (not (net.is_stopped p l)) (has_values (net.takes p l) s.wires && has_room net.depth (net.sends p l) s.wires)
          (ap not going)
          (and_from (has_values (net.takes p l) s.wires) (has_room net.depth (net.sends p l) s.wires) both.0 both.1)

      none_if : is_enabled net s p ≡ true → first_wait net inputs outputs s p ≡ None
      none_if enabled =
          let a = and_parts (not (net.is_stopped p l)) (has_values (net.takes p l) s.wires && has_room net.depth (net.sends p l) s.wires)
          (sym (ap (λ o. is_ready net p o s.wires) here) ∙ enabled) in
          let b = and_parts (has_values (net.takes p l) s.wires) (has_room net.depth (net.sends p l) s.wires) a.1 in
          wait_here s p l here going ∙ unmet net.depth (inputs p) (outputs p) (net.takes p l) (net.sends p l) s.wires b.0 b.1

  -- a first wait is for a wire whose need is unmet
  pub law_unmet : WaitIsUnmet net inputs outputs
  law_unmet s p l w here waits =
      by_stop (net.is_stopped p l) (sym (ap (λ o. wait_of net inputs outputs s.wires p o) here) ∙ waits)
    where
      lacks : (o u : Option ℕ) → either_first o u ≡ Some w → (o ≡ Some w) ⊎ (u ≡ Some w)
      lacks None u e = inr e
      lacks (Some v) u e = inl e

      values : find (lacks_values (net.takes p l) s.wires) (inputs p) ≡ Some w → IsUnmet net inputs outputs s p l w
      values e =
          let is = found (lacks_values (net.takes p l) s.wires) (inputs p) w e in
          inl (is.0, ltb-true (length (values_on s.wires w)) (count_of w (net.takes p l)) is.1)

      room : find (lacks_room net.depth (net.sends p l) s.wires) (outputs p) ≡ Some w
          → IsUnmet net inputs outputs s p l w
      room e =
          let is = found (lacks_room net.depth (net.sends p l) s.wires) (outputs p) w e in
          let parts = and_parts (ltb 0 (count_of w (net.sends p l))) (leb net.depth (length (values_on s.wires w))) is.1 in
          inr (is.0, ltb-true 0 (count_of w (net.sends p l)) parts.0, leb-true net.depth (length (values_on s.wires w)) parts.1)

      by_stop : (b : Bool)
          → cond b None (first_unmet net.depth (inputs p) (outputs p) (net.takes p l) (net.sends p l) s.wires) ≡ Some w
          → IsUnmet net inputs outputs s p l w
      by_stop true e = cc
      by_stop false e =
          ⊎_elim values room
          (lacks (find (lacks_values (net.takes p l) s.wires) (inputs p)) (find (lacks_room net.depth (net.sends p l) s.wires) (outputs p)) e)
