-- Waits of a processor that takes or sends one value.
use Rattle.std.proofs.Common.{◌≡◌, ℕ, ◌<◌, Bool, true, false, ◌&&◌, cond, ltb, leb, List, [], ◌∷◌, length, Option, Some, None, refl, sym, ap, ◌∙◌, subst, ⊎_elim, arith}
use Rattle.std.specs.List.{find}
use Rattle.std.proofs.lemmas.Bool.{cases_eq, and_parts, le-ltb, lt-ltb, le-leb, leb-false, ltb-false}
use Rattle.raw_network.specs.Network.{values_on, count_of, has_values, has_room}
use Rattle.raw_network.specs.Waits.{lacks_values, lacks_room, either_first}
use Rattle.raw_network.proofs.Wires.{count_here, count_there}
use Rattle.raw_network.proofs.Waits.{met, unmet}
use Rattle.raw_model.specs.Program.{ProgramSet}
use Rattle.raw_model.specs.Local.{Local}
use Rattle.raw_model.specs.Machine.{takes, sends, machine_of}
use Rattle.raw_model.specs.Waits.{inputs_at, outputs_at}
use Rattle.raw_model.proofs.Waiting.{covered}
use Rattle.raw_serial.specs.Needs.{unmet_of}

-- the one wire that passes a test, where it stands in a list, is the one that is found
find_only : (f : ℕ → Bool) (w : ℕ) → f w ≡ true → ((v : ℕ) → f v ≡ true → v ≡ w) → (xs : List ℕ) → 0 < count_of w xs → find f xs ≡ Some w
find_only f w on only [] some = absurd (omega arith)
find_only f w on only (x ∷ xs) some =
    ⊎_elim
    (λ (same : x ≡ w). found (f x) (ap f same ∙ on) same)
    (λ (other : x ≡ w → ⊥). passed (f x) refl other (find_only f w on only xs (let e = count_there w x xs other in omega arith)))
    (cases_eq x w)
  where
    found : (b : Bool) → b ≡ true → x ≡ w → cond b (Some x) (find f xs) ≡ Some w
    found true e same = ap Some same
    found false e same = cc e

    passed : (b : Bool) → f x ≡ b → (x ≡ w → ⊥) → find f xs ≡ Some w → cond b (Some x) (find f xs) ≡ Some w
    passed true e other rest = absurd (other (only x e))
    passed false e other rest = rest

one_here : (w : ℕ) → count_of w (w ∷ []) ≡ 1
one_here w = count_here w []

-- only that wire can lack a value that one takes
lacks_only : (w : ℕ) (wires : List (List ℕ)) (v : ℕ) → lacks_values (w ∷ []) wires v ≡ true → v ≡ w
lacks_only w wires v e =
    ⊎_elim
    (λ (same : w ≡ v). sym same)
    (λ (other : w ≡ v → ⊥). cc (sym (ap (ltb (length (values_on wires v))) (count_there v w [] other) ∙ le-ltb (length (values_on wires v)) 0 (omega arith)) ∙ e))
    (cases_eq w v)

room_only : (depth w : ℕ) (wires : List (List ℕ)) (v : ℕ) → lacks_room depth (w ∷ []) wires v ≡ true → v ≡ w
room_only depth w wires v e =
    ⊎_elim
    (λ (same : w ≡ v). sym same)
    (λ (other : w ≡ v → ⊥). cc (sym (ap (ltb 0) (count_there v w [] other)) ∙ (and_parts (ltb 0 (count_of v (w ∷ []))) (leb depth (length (values_on wires v))) e).0))
    (cases_eq w v)

lacks_here : (w : ℕ) (wires : List (List ℕ)) → has_values (w ∷ []) wires ≡ false → lacks_values (w ∷ []) wires w ≡ true
lacks_here w wires off = by_test (leb (count_of w (w ∷ [])) (length (values_on wires w))) refl off
  where
    by_test : (b : Bool) → leb (count_of w (w ∷ [])) (length (values_on wires w)) ≡ b → (b && true) ≡ false → ltb (length (values_on wires w)) (count_of w (w ∷ [])) ≡ true
    by_test true e h = cc h
    by_test false e h = lt-ltb (length (values_on wires w)) (count_of w (w ∷ [])) (leb-false (count_of w (w ∷ [])) (length (values_on wires w)) e)

full_here : (depth w : ℕ) (wires : List (List ℕ)) → has_room depth (w ∷ []) wires ≡ false → lacks_room depth (w ∷ []) wires w ≡ true
full_here depth w wires off = ap (λ n. ltb 0 n && leb depth (length (values_on wires w))) (one_here w) ∙ by_test (ltb (length (values_on wires w)) depth) refl off
  where
    by_test : (b : Bool) → ltb (length (values_on wires w)) depth ≡ b → (b && true) ≡ false → leb depth (length (values_on wires w)) ≡ true
    by_test true e h = cc h
    by_test false e h = le-leb depth (length (values_on wires w)) (ltb-false (length (values_on wires w)) depth e)

first_none : (o u : Option ℕ) → either_first o u ≡ None → o ≡ None
first_none None u e = refl
first_none (Some w) u e = cc e

module _ (set : ProgramSet) (p : ℕ) (l : Local) (wires : List (List ℕ)) (w : ℕ) where
  -- one value is taken, and lacks
  pub lacks_one : takes set p l ≡ w ∷ [] → has_values (w ∷ []) wires ≡ false → Some w ≡ unmet_of set p l wires
  unfolding machine_of
  lacks_one is off =
      let mine : 0 < count_of w (takes set p l) = subst (λ ws. 0 < count_of w ws) (sym is) (let e = one_here w in omega arith) in
      sym (ap (λ o. either_first o (find (lacks_room set.depth (sends set p l) wires) (outputs_at set.topo p)))
      (ap (λ ws. find (lacks_values ws wires) (inputs_at set.topo p)) is
      ∙ find_only (lacks_values (w ∷ []) wires) w (lacks_here w wires off) (lacks_only w wires) (inputs_at set.topo p) ((covered set).takes p l w mine)))

  -- all values are there, and the one wire that is sent to is full
  pub full_one : has_values (takes set p l) wires ≡ true → sends set p l ≡ w ∷ [] → has_room set.depth (w ∷ []) wires ≡ false → Some w ≡ unmet_of set p l wires
  unfolding machine_of
  full_one values is off =
      let mine : 0 < count_of w (sends set p l) = subst (λ ws. 0 < count_of w ws) (sym is) (let e = one_here w in omega arith) in
      let none = first_none (find (lacks_values (takes set p l) wires) (inputs_at set.topo p)) _ (unmet set.depth (inputs_at set.topo p) [] (takes set p l) [] wires values refl) in
      sym (ap (λ o. either_first o (find (lacks_room set.depth (sends set p l) wires) (outputs_at set.topo p))) none
      ∙ ap (λ ws. find (lacks_room set.depth ws wires) (outputs_at set.topo p)) is
      ∙ find_only (lacks_room set.depth (w ∷ []) wires) w (full_here set.depth w wires off) (room_only set.depth w wires) (outputs_at set.topo p) ((covered set).sends p l w mine))

module _ (set : ProgramSet) (p : ℕ) (l : Local) (wires : List (List ℕ)) where
  -- where a value lacks, one of the inputs lacks it
  pub some_lacks : has_values (takes set p l) wires ≡ false → find (lacks_values (takes set p l) wires) (inputs_at set.topo p) ≡ None → ⊥
  unfolding machine_of
  some_lacks off none =
      cc (sym off ∙ (met set.depth (inputs_at set.topo p) [] (takes set p l) [] wires ((covered set).takes p l) (λ w h. h)
      (ap (λ o. either_first o None) none)).0)
