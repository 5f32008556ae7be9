-- What a step sends on a wire, as the wire shows it.
use Rattle.std.proofs.Common.{◌≡◌, ◌⊎◌, ℕ, ◌≤◌, Bool, true, false, List, [], ◌∷◌, ◌++◌, length, Option, Some, None, refl, sym, ap, ◌∙◌, subst, ⊎_elim, inl, inr, arith, length-append, append-nil}
use Rattle.std.specs.Prelude.{◌||◌, ◌==◌, is_some, slice_get}
use Rattle.std.specs.List.{All, list_any}
use Rattle.std.specs.Option.{option_to_list}
use Rattle.std.proofs.Math.Seq.{get_or-append_seam}
use Rattle.std.proofs.lemmas.Bool.{cases_eq, ne_eqb}
use Rattle.std.proofs.lemmas.List.Elements.{All-head, All-tail}
use Rattle.std.proofs.lemmas.Option.{slice_get_past, slice_get-get_or}
use Rattle.raw_network.specs.Network.{Sent, values_on, fronts, event_from, event_of}
use Rattle.raw_network.specs.Runs.{sent_on}
use Rattle.raw_network.specs.Laws.{got_on}
use Rattle.raw_network.specs.Wired.{IsWired, SendsOnce}
use Rattle.raw_network.proofs.Wires.{sent_there}
use Rattle.raw_grid.specs.Wires.{producer_of, consumer_of}
use Rattle.raw_model.specs.Program.{ProgramSet}
use Rattle.raw_model.specs.Local.{Local}
use Rattle.raw_model.specs.Machine.{machine_of}
use Rattle.raw_model.specs.Start.{MachineState}
use Rattle.raw_model.specs.Rest.{step, passed_on}
use Rattle.raw_model.specs.Laws.{received_on}
use Rattle.raw_debug.specs.Stops.{is_of}

-- one value at most is sent, and where one is, none is taken: it stands behind those that were there
one_sent : (sent got xs ys : List ℕ) → length sent ≤ 1 → (sent ≡ []) ⊎ (got ≡ []) → xs ++ sent ≡ got ++ ys
    → sent ≡ option_to_list (slice_get ys (length xs))
one_sent [] got xs ys few own e =
    let lengths = ap length e in
    let left = length-append xs [] in
    let right = length-append got ys in
    ap option_to_list (sym (slice_get_past ys (length xs) (omega (arith, lengths, left, right))))
one_sent (v ∷ []) got xs ys few own e =
    ⊎_elim
    (λ (none : v ∷ [] ≡ []). absurd (cc none))
    (λ (none : got ≡ []).
    let whole : xs ++ v ∷ [] ≡ ys = e ∙ ap (λ front. front ++ ys) none in
    let parts = length-append xs (v ∷ []) in
    subst (λ zs. v ∷ [] ≡ option_to_list (slice_get zs (length xs))) whole
    (ap option_to_list (sym (slice_get-get_or (xs ++ v ∷ []) (length xs) 0 (omega (arith, parts)) ∙ ap Some (get_or-append_seam xs v [] 0)))))
    own
one_sent (v ∷ u ∷ more) got xs ys few own e = absurd (omega (arith, few))

module _ (set : ProgramSet) (wired : IsWired (machine_of set) (producer_of set.topo) (consumer_of set.topo)) (once : SendsOnce (machine_of set)) (q w : ℕ) where
  none_sent : (sent : List Sent) → All (λ (m : Sent). producer_of set.topo m.wire ≡ q) sent → (producer_of set.topo w ≡ q → ⊥) → sent_on w sent ≡ []
  none_sent [] all ne = refl
  none_sent (m ∷ sent) all ne =
      sent_there w m sent (λ e. ne (subst (λ v. producer_of set.topo v ≡ q) e (All-head (λ (m : Sent). producer_of set.topo m.wire ≡ q) m sent all)))
      ∙ none_sent sent (All-tail (λ (m : Sent). producer_of set.topo m.wire ≡ q) m sent all) ne

  none_got : (from values : List ℕ) → All (λ v. consumer_of set.topo v ≡ q) from → (consumer_of set.topo w ≡ q → ⊥) → got_on w from values ≡ []
  none_got [] values all ne = refl
  none_got (v ∷ from) [] all ne = refl
  none_got (v ∷ from) (value ∷ values) all ne =
      let other : v ≡ w → ⊥ = λ e. ne (subst (λ u. consumer_of set.topo u ≡ q) e (All-head (λ v. consumer_of set.topo v ≡ q) v from all)) in
      rw (ne_eqb v w other) (none_got from values (All-tail (λ v. consumer_of set.topo v ≡ q) v from all) ne)

  module _ (s : MachineState) where
    few_sent : (o : Option Local) → length (sent_on w (event_from (machine_of set) s.wires q o).sent) ≤ 1
    few_sent None = omega arith
    few_sent (Some l) =
        let values = fronts ((machine_of set).takes q l) s.wires in
        omega (arith, once.sent_named q l values w, once.named_once q l w)

    own_sent : (o : Option Local) → (producer_of set.topo w ≡ q → ⊥) → sent_on w (event_from (machine_of set) s.wires q o).sent ≡ []
    own_sent None ne = refl
    own_sent (Some l) ne = none_sent ((machine_of set).row q l (fronts ((machine_of set).takes q l) s.wires)).sent (wired.sent_own q l (fronts ((machine_of set).takes q l) s.wires)) ne

    own_got : (o : Option Local) → (consumer_of set.topo w ≡ q → ⊥)
        → got_on w (event_from (machine_of set) s.wires q o).from (event_from (machine_of set) s.wires q o).took ≡ []
    own_got None ne = refl
    own_got (Some l) ne = none_got ((machine_of set).takes q l) (fronts ((machine_of set).takes q l) s.wires) (wired.takes_own q l) ne

    own_end : (sent_on w (event_of (machine_of set) s q).sent ≡ [])
        ⊎ (got_on w (event_of (machine_of set) s q).from (event_of (machine_of set) s q).took ≡ [])
    own_end =
        ⊎_elim
        (λ (e : producer_of set.topo w ≡ q). inr (own_got (slice_get s.locals q) (λ f. wired.apart w (e ∙ sym f))))
        (λ (ne : producer_of set.topo w ≡ q → ⊥). inl (own_sent (slice_get s.locals q) ne))
        (cases_eq (producer_of set.topo w) q)

    -- what the step sends is what the wire shows behind what it held
    pub shown : (t : MachineState) → t ≡ step set s q
        → values_on s.wires w ++ passed_on set s (q ∷ []) w ≡ received_on set s (q ∷ []) w ++ values_on (step set s q).wires w
        → passed_on set s (q ∷ []) w ≡ option_to_list (slice_get (values_on t.wires w) (length (values_on s.wires w)))
    shown t is queue =
        let event = event_of (machine_of set) s q in
        let sent = append-nil (sent_on w event.sent) in
        let got = append-nil (got_on w event.from event.took) in
        subst (λ (u : MachineState). passed_on set s (q ∷ []) w ≡ option_to_list (slice_get (values_on u.wires w) (length (values_on s.wires w)))) (sym is)
        (sent
        ∙ one_sent (sent_on w event.sent) (got_on w event.from event.took) (values_on s.wires w) (values_on (step set s q).wires w) (few_sent (slice_get s.locals q)) own_end
        (ap (λ xs. values_on s.wires w ++ xs) (sym sent) ∙ queue ∙ ap (λ xs. xs ++ values_on (step set s q).wires w) got))

or_false : (b : Bool) → (b || false) ≡ b
or_false true = refl
or_false false = refl

-- one of at most one value
pub one_value : (value : ℕ) (o : Option ℕ) → list_any (λ v. v == value) (option_to_list o) ≡ is_of value o
one_value value None = refl
one_value value (Some v) = or_false (v == value)

pub some_value : (o : Option ℕ) → list_any (λ v. true) (option_to_list o) ≡ is_some o
some_value None = refl
some_value (Some v) = refl
