-- What one step leaves that takes at most one value and sends at most one; lists of such steps.
use Rattle.std.proofs.Common.{◌≡◌, ℕ, ◌<◌, ◌≤◌, Bool, true, false, not, ◌&&◌, cond, ltb, List, [], ◌∷◌, ◌++◌, length, get_or, drop, Some, refl, sym, ap, ◌∙◌, subst, arith}
use Rattle.std.specs.Prelude.{slice_get}
use Rattle.std.proofs.lemmas.List.{append-nil}
use Rattle.std.proofs.lemmas.Bool.{lt-ltb, le-leb}
use Rattle.raw_network.specs.Network.{Network, State, Sent, values_on, count_of, fronts, has_values, has_room, is_ready, is_enabled, row_at, step_from, step}
use Rattle.raw_network.proofs.Steps.{end_of-append, lawful-append}
use Rattle.raw_network.proofs.Wires.{slice_get-set_other, slice_get-set_same, count_here, count_there, arrivals, arrivals_within, sent_here, sent_there, wire_moved}
use Rattle.raw_model.specs.Program.{ProgramSet, IsSet}
use Rattle.raw_model.specs.Local.{Local}
use Rattle.raw_model.specs.Machine.{takes, sends, machine_of}
use Rattle.raw_model.specs.Start.{MachineState, Fits}
use Rattle.raw_model.specs.Rest.{end_from}
use Rattle.raw_codegen.specs.Steps.{Leads, IsNext, one_value, Changed, SameWires, HasCome, IsGone, HasPassed}
use Rattle.raw_codegen.proofs.Given.{Laws}

either_nil : (b : Bool) → cond {A = List ℕ} b [] [] ≡ []
either_nil true = refl
either_nil false = refl

arrivals_nil : (n v : ℕ) → arrivals n v [] ≡ []
arrivals_nil n v = either_nil (ltb v n)

arrivals_one : (n w x : ℕ) → w < n → arrivals n w (one_value w x) ≡ x ∷ []
arrivals_one n w x h = arrivals_within n w (one_value w x) h ∙ sent_here w (record { wire = w; value = x }) [] refl

arrivals_other : (n w x v : ℕ) → (v ≡ w → ⊥) → arrivals n v (one_value w x) ≡ []
arrivals_other n w x v ne =
    ap (λ xs. cond (ltb v n) xs []) (sent_there v (record { wire = w; value = x }) [] (λ e. ne (sym e))) ∙ either_nil (ltb v n)

count_one : (w : ℕ) → count_of w (w ∷ []) ≡ 1
count_one w = count_here w []

count_other : (w v : ℕ) → (v ≡ w → ⊥) → count_of v (w ∷ []) ≡ 0
count_other w v ne = count_there v w [] (λ e. ne (sym e))

room_one : (n w : ℕ) (wires : List (List ℕ)) → length (values_on wires w) < n → has_room n (w ∷ []) wires ≡ true
room_one n w wires room = rw (lt-ltb (length (values_on wires w)) n room) refl

has_one : (w x : ℕ) (xs : List ℕ) (wires : List (List ℕ)) → values_on wires w ≡ x ∷ xs → has_values (w ∷ []) wires ≡ true
has_one w x xs wires e =
    let some : 1 ≤ length (x ∷ xs) = omega arith in
    rw (e, count_one w) (ap (λ b. b && true) (le-leb 1 (length (x ∷ xs)) some))

module _ {L : Type 0} (net : Network L) (s : State L) (p : ℕ) (l : L) (here : slice_get s.locals p ≡ Some l) where
  step_is : step net s p ≡ step_from net s p (Some l)
  step_is = ap (λ o. step_from net s p o) here

  module _ (from values : List ℕ) (takes : net.takes p l ≡ from) (fronts_are : fronts from s.wires ≡ values) where
    own : (next : L) → (net.row p l values).next ≡ next → slice_get (step net s p).locals p ≡ Some next
    own next is =
        let same : (row_at net p l s.wires).next ≡ next = ap (λ us. (net.row p l (fronts us s.wires)).next) takes ∙ ap (λ xs. (net.row p l xs).next) fronts_are ∙ is in
        ap (λ (r : State L). slice_get r.locals p) step_is
        ∙ slice_get-set_same s.locals p (row_at net p l s.wires).next l here
        ∙ ap (λ (x : L). Some x) same

    others : (q : ℕ) → (q ≡ p → ⊥) → slice_get (step net s p).locals q ≡ slice_get s.locals q
    others q ne = ap (λ (r : State L). slice_get r.locals q) step_is ∙ slice_get-set_other s.locals p q (row_at net p l s.wires).next ne

    on_wire : (ms : List Sent) → (net.row p l values).sent ≡ ms → (v : ℕ)
        → values_on (step net s p).wires v ≡ drop (count_of v from) (values_on s.wires v) ++ arrivals (length s.wires) v ms
    on_wire ms is v =
        let same : (row_at net p l s.wires).sent ≡ ms = ap (λ us. (net.row p l (fronts us s.wires)).sent) takes ∙ ap (λ xs. (net.row p l xs).sent) fronts_are ∙ is in
        ap (λ (r : State L). values_on r.wires v) step_is
        ∙ wire_moved (net.takes p l) (row_at net p l s.wires).sent s.wires v
        ∙ ap (λ us. drop (count_of v us) (values_on s.wires v) ++ arrivals (length s.wires) v (row_at net p l s.wires).sent) takes
        ∙ ap (λ ns. drop (count_of v from) (values_on s.wires v) ++ arrivals (length s.wires) v ns) same

module _ (set : ProgramSet) where
  pub stay : (s : MachineState) (P : MachineState → Type 0) → P s → Leads set s P
  stay s P h = record { steps = []; lawful = tt; holds = h }

  pub then : (s : MachineState) (P Q : MachineState → Type 0) → Leads set s P → ((r : MachineState) → P r → Leads set r Q) → Leads set s Q
  then s P Q a next =
      let b = next (end_from set s a.steps) a.holds in
      record {
        steps = a.steps ++ b.steps;
        lawful = lawful-append (machine_of set) s a.steps b.steps a.lawful b.lawful;
        holds = subst Q (sym (end_of-append (machine_of set) s a.steps b.steps)) b.holds;
      }

  pub more : (s : MachineState) (P Q : MachineState → Type 0) → Leads set s P → ((r : MachineState) → P r → Q r) → Leads set s Q
  more s P Q a next = record { steps = a.steps; lawful = a.lawful; holds = next (end_from set s a.steps) a.holds }

  -- what fits at first fits at the end too
  pub with_fits : Laws → (s : MachineState) (P : MachineState → Type 0) → IsSet set → Fits set s → Leads set s P → Leads set s (λ r. P r × Fits set r)
  with_fits laws s P valid fits a = record { steps = a.steps; lawful = a.lawful; holds = (a.holds, laws.end_fits set s a.steps valid fits a.lawful) }

  module _ (s : MachineState) (p : ℕ) (l next : Local) (from to values : List ℕ) (ms : List Sent) (is : IsNext set s p l next from to values ms)
      (fronts_are : fronts from s.wires ≡ values) where
    ready : has_values from s.wires ≡ true → has_room set.depth to s.wires ≡ true → is_enabled (machine_of set) s p ≡ true
    unfolding machine_of
    ready has room =
        ap (λ o. is_ready (machine_of set) p o s.wires) is.here
        ∙ ap (λ b. not b && (has_values (takes set p l) s.wires && has_room set.depth (sends set p l) s.wires)) is.going
        ∙ ap (λ ws. has_values ws s.wires && has_room set.depth (sends set p l) s.wires) is.takes_from
        ∙ ap (λ b. b && has_room set.depth (sends set p l) s.wires) has
        ∙ ap (λ ws. has_room set.depth ws s.wires) is.sends_to ∙ room

    changed : Changed s (step (machine_of set) s p) p next
    unfolding machine_of
    changed = record {
      here = own (machine_of set) s p l is.here from values is.takes_from fronts_are next is.leaves;
      others = others (machine_of set) s p l is.here from values is.takes_from fronts_are;
    }

    on : (v : ℕ) → values_on (step (machine_of set) s p).wires v ≡ drop (count_of v from) (values_on s.wires v) ++ arrivals (length s.wires) v ms
    unfolding machine_of
    on = on_wire (machine_of set) s p l is.here from values is.takes_from fronts_are ms is.sent

    one_step : (P : MachineState → Type 0) → has_values from s.wires ≡ true → has_room set.depth to s.wires ≡ true → P (step (machine_of set) s p) → Leads set s P
    one_step P has room h = record { steps = p ∷ []; lawful = (ready has room, tt); holds = h }

  module _ (s : MachineState) (p : ℕ) (l next : Local) where
    -- a row without wires
    pub plain_step : IsNext set s p l next [] [] [] [] → Leads set s (λ r. Changed s r p next × SameWires s.wires r.wires)
    plain_step is =
        one_step s p l next [] [] [] [] is refl (λ r. Changed s r p next × SameWires s.wires r.wires) refl refl (
          changed s p l next [] [] [] [] is refl,
          record { on = λ w. on s p l next [] [] [] [] is refl w ∙ ap (λ xs. values_on s.wires w ++ xs) (arrivals_nil (length s.wires) w) ∙ append-nil (values_on s.wires w) },
        )

    -- a row that sends one value
    pub send_step : (w x : ℕ) → IsNext set s p l next [] (w ∷ []) [] (one_value w x) → length (values_on s.wires w) < set.depth → w < length s.wires
        → Leads set s (λ r. Changed s r p next × HasCome w x s.wires r.wires)
    send_step w x is room within =
        one_step s p l next [] (w ∷ []) [] (one_value w x) is refl (λ r. Changed s r p next × HasCome w x s.wires r.wires) refl (room_one set.depth w s.wires room) (
          changed s p l next [] (w ∷ []) [] (one_value w x) is refl,
          record {
            here = on s p l next [] (w ∷ []) [] (one_value w x) is refl w ∙ ap (λ xs. values_on s.wires w ++ xs) (arrivals_one (length s.wires) w x within);
            elsewhere = λ u ne.
                on s p l next [] (w ∷ []) [] (one_value w x) is refl u
                ∙ ap (λ xs. values_on s.wires u ++ xs) (arrivals_other (length s.wires) w x u ne) ∙ append-nil (values_on s.wires u);
          },
        )

    front_is : (w x : ℕ) (xs : List ℕ) → values_on s.wires w ≡ x ∷ xs → fronts (w ∷ []) s.wires ≡ x ∷ []
    front_is w x xs front = ap (λ ys. get_or ys 0 0 ∷ []) front

    left_here : (w x : ℕ) (xs : List ℕ) → values_on s.wires w ≡ x ∷ xs → drop (count_of w (w ∷ [])) (values_on s.wires w) ≡ xs
    left_here w x xs front = rw (count_one w, front) refl

    left_other : (w u : ℕ) → (u ≡ w → ⊥) → drop (count_of u (w ∷ [])) (values_on s.wires u) ≡ values_on s.wires u
    left_other w u ne = rw (count_other w u ne) refl

    -- a row that takes one value
    pub take_step : (w x : ℕ) (xs : List ℕ) → IsNext set s p l next (w ∷ []) [] (x ∷ []) [] → values_on s.wires w ≡ x ∷ xs
        → Leads set s (λ r. Changed s r p next × IsGone w x s.wires r.wires)
    take_step w x xs is front =
        let at : (u : ℕ) → values_on (step (machine_of set) s p).wires u ≡ drop (count_of u (w ∷ [])) (values_on s.wires u) =
        λ u.
        on s p l next (w ∷ []) [] (x ∷ []) [] is (front_is w x xs front) u
        ∙ ap (λ ys. drop (count_of u (w ∷ [])) (values_on s.wires u) ++ ys) (arrivals_nil (length s.wires) u) ∙ append-nil (drop (count_of u (w ∷ [])) (values_on s.wires u)) in
        one_step s p l next (w ∷ []) [] (x ∷ []) [] is (front_is w x xs front) (λ r. Changed s r p next × IsGone w x s.wires r.wires) (has_one w x xs s.wires front) refl (
          changed s p l next (w ∷ []) [] (x ∷ []) [] is (front_is w x xs front),
          record {
            here = front ∙ ap (λ ys. x ∷ ys) (sym (at w ∙ left_here w x xs front));
            elsewhere = λ u ne. at u ∙ left_other w u ne;
          },
        )

    -- a row that takes one value and sends one
    pub pass_step : (w x : ℕ) (xs : List ℕ) (v y : ℕ) → IsNext set s p l next (w ∷ []) (v ∷ []) (x ∷ []) (one_value v y) → values_on s.wires w ≡ x ∷ xs
        → length (values_on s.wires v) < set.depth → v < length s.wires → (v ≡ w → ⊥)
        → Leads set s (λ r. Changed s r p next × HasPassed w x v y s.wires r.wires)
    pass_step w x xs v y is front room within apart =
        let at : (u : ℕ) → values_on (step (machine_of set) s p).wires u ≡ drop (count_of u (w ∷ [])) (values_on s.wires u) ++ arrivals (length s.wires) u (one_value v y) =
        on s p l next (w ∷ []) (v ∷ []) (x ∷ []) (one_value v y) is (front_is w x xs front) in
        one_step s p l next (w ∷ []) (v ∷ []) (x ∷ []) (one_value v y) is (front_is w x xs front) (λ r. Changed s r p next × HasPassed w x v y s.wires r.wires)
        (has_one w x xs s.wires front) (room_one set.depth v s.wires room) (
          changed s p l next (w ∷ []) (v ∷ []) (x ∷ []) (one_value v y) is (front_is w x xs front),
          record {
            gone =
                front
                ∙ ap (λ ys. x ∷ ys)
                (sym (at w ∙ ap (λ ys. ys ++ arrivals (length s.wires) w (one_value v y)) (left_here w x xs front) ∙ ap (λ ys. xs ++ ys) (arrivals_other (length s.wires) v y w (λ e. apart (sym e))) ∙ append-nil xs));
            come = at v ∙ ap (λ ys. ys ++ arrivals (length s.wires) v (one_value v y)) (left_other w v apart) ∙ ap (λ ys. values_on s.wires v ++ ys) (arrivals_one (length s.wires) v y within);
            elsewhere = λ u ne other.
                at u ∙ ap (λ ys. ys ++ arrivals (length s.wires) u (one_value v y)) (left_other w u ne)
                ∙ ap (λ ys. values_on s.wires u ++ ys) (arrivals_other (length s.wires) v y u other) ∙ append-nil (values_on s.wires u);
          },
        )
