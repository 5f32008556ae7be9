-- What a step sends, and how it is counted.
use Rattle.std.proofs.Common.{◌≡◌, ℕ, ◌+◌, ◌<◌, ◌≤◌, Bool, true, List, [], ◌∷◌, ◌++◌, length, drop, set, get_or, Option, Some, None, refl, sym, ap, ◌∙◌, subst, ⊎_elim, ◌⊎◌, arith, append-nil}
use Rattle.std.specs.Prelude.{slice_get, slice_index}
use Rattle.std.specs.List.{All}
use Rattle.std.proofs.lemmas.Bool.{cases_eq}
use Rattle.std.proofs.lemmas.List.{append_assoc, length-set, get_or-set_same, get_or-set_other, drop_more, drop_all}
use Rattle.std.proofs.lemmas.List.Elements.{All-nil}
use Rattle.raw_network.specs.Network.{Network, State, Sent, fronts, step, event_from, event_of}
use Rattle.raw_network.specs.Runs.{end_of, sent_on, passed}
use Rattle.raw_network.proofs.Wires.{sent_here, sent_there}
use Rattle.raw_grid.specs.Wires.{wires_of}
use Rattle.raw_model.specs.Program.{ProgramSet}
use Rattle.raw_model.specs.Local.{Local}
use Rattle.raw_model.specs.Machine.{machine_of, takes}
use Rattle.raw_model.specs.Start.{MachineState}
use Rattle.raw_model.specs.Rest.{stopped, enabled}
use Rattle.raw_model.specs.Waits.{first_wait}
use Rattle.raw_model.proofs.Awaited.{none_where_enabled}
use Rattle.raw_serial.specs.declared.turn.Turn.{Turn}
use Rattle.raw_serial.specs.declared.turn.Turn.TheVariants.{Fired}
use Rattle.raw_serial.specs.Turns.{turn_by}
use Rattle.raw_serial.specs.Running.{Running}
use Rattle.raw_serial.proofs.Stepping.{fired_parts}
use Rattle.raw_serial.proofs.Within.{sent_within}
use Rattle.raw_clock.specs.Values.{AreCounted, AreFewMore}
use Rattle.raw_clock.specs.Engine.{AreSent}

module _ {L : Type 0} (net : Network L) where
  -- what a list sent on a wire, and then one step more
  pub passed_push : (s : State L) (h : List ℕ) (p w : ℕ)
      → passed net s (h ++ p ∷ []) w ≡ passed net s h w ++ sent_on w (event_of net (end_of net s h) p).sent
  passed_push s [] p w = append-nil (sent_on w (event_of net s p).sent)
  passed_push s (q ∷ h) p w =
      ap (λ xs. sent_on w (event_of net s q).sent ++ xs) (passed_push (step net s q) h p w)
      ∙ sym (append_assoc (sent_on w (event_of net s q).sent) (passed net (step net s q) h w) (sent_on w (event_of net (end_of net (step net s q) h) p).sent))

-- a turn that is a step is one of a processor that is enabled
pub fired_enabled : (set : ProgramSet) (s : MachineState) (p : ℕ) (owing : Bool) → p < length s.locals
    → Fired ≡ turn_by (stopped set s p) owing (first_wait set s p) → enabled set s p ≡ true
fired_enabled set s p owing below is =
    let parts = fired_parts (stopped set s p) owing (first_wait set s p) is in
    (none_where_enabled set s p below parts.0).0 parts.1

-- what a step sends goes to wires that are there
pub event_there : (set : ProgramSet) (s : MachineState) (p : ℕ)
    → All (λ (m : Sent). m.wire < length (wires_of set.topo)) (event_of (machine_of set) s p).sent
unfolding machine_of
event_there set s p = from (slice_get s.locals p)
  where
    from : (o : Option Local) → All (λ (m : Sent). m.wire < length (wires_of set.topo)) (event_from (machine_of set) s.wires p o).sent
    from None = All-nil (λ (m : Sent). m.wire < length (wires_of set.topo))
    from (Some l) = sent_within set p l (fronts (takes set p l) s.wires)

-- the first of these values were counted
pub record AreCountedTo (sent : List Sent) (i : ℕ) (before now : List ℕ) : Type 0 where
  pub each : length now ≡ length before
  pub more : (w : ℕ) → w < length before → slice_index now w + length (sent_on w (drop i sent)) ≡ slice_index before w + length (sent_on w sent)
  pub few : AreFewMore i before now

-- and one more
pub counted_next : (sent : List Sent) (i : ℕ) (d : Sent) (before now : List ℕ) → i < length sent → (get_or sent i d).wire < length now
    → AreCountedTo sent i before now → AreCountedTo sent (i + 1) before (set now (get_or sent i d).wire (slice_index now (get_or sent i d).wire + 1))
counted_next sent i d before now below there was =
    record {
      each = length-set now m.wire one ∙ was.each;
      more = λ w within. at w (was.more w within) (cases_eq m.wire w);
      few = λ w. few_at w (cases_eq m.wire w);
    }
  where
    m : Sent
    m = get_or sent i d

    one : ℕ
    one = slice_index now m.wire + 1

    here : (w : ℕ) → m.wire ≡ w → slice_index (set now m.wire one) w ≡ slice_index now w + 1
    here w same = subst (λ v. slice_index (set now m.wire one) v ≡ slice_index now v + 1) same (get_or-set_same now m.wire one 0 there)

    other : (w : ℕ) → (m.wire ≡ w → ⊥) → slice_index (set now m.wire one) w ≡ slice_index now w
    other w ne = get_or-set_other now m.wire w one 0 (λ e. ne (sym e))

    at : (w : ℕ) → slice_index now w + length (sent_on w (drop i sent)) ≡ slice_index before w + length (sent_on w sent)
        → (m.wire ≡ w) ⊎ (m.wire ≡ w → ⊥)
        → slice_index (set now m.wire one) w + length (sent_on w (drop (i + 1) sent)) ≡ slice_index before w + length (sent_on w sent)
    at w all same =
        ⊎_elim
        (λ (same : m.wire ≡ w).
        let left = ap (λ (ms : List Sent). length (sent_on w ms)) (drop_more sent i d below) ∙ ap length (sent_here w m (drop (i + 1) sent) same) in
        omega (arith, all, left, here w same))
        (λ (ne : m.wire ≡ w → ⊥).
        let left = ap (λ (ms : List Sent). length (sent_on w ms)) (drop_more sent i d below) ∙ ap length (sent_there w m (drop (i + 1) sent) ne) in
        omega (arith, all, left, other w ne))
        same

    few_at : (w : ℕ) → (m.wire ≡ w) ⊎ (m.wire ≡ w → ⊥) → slice_index (set now m.wire one) w ≤ slice_index before w + (i + 1)
    few_at w same =
        ⊎_elim
        (λ (same : m.wire ≡ w). omega (arith, was.few w, here w same))
        (λ (ne : m.wire ≡ w → ⊥). omega (arith, was.few w, other w ne))
        same

-- all of them
pub counted_all : (sent : List Sent) (i : ℕ) (before now : List ℕ) → length sent ≤ i → AreCountedTo sent i before now → AreCounted sent before now
counted_all sent i before now past was =
    record {
      each = was.each;
      more = λ w within.
          let none = ap (λ (ms : List Sent). length (sent_on w ms)) (drop_all i sent past) in
          omega (arith, was.more w within, none);
    }

-- a turn that is no step sends nothing
pub unfired_sends : (turn : Turn) (m : Running) (p : ℕ) (passed : List ℕ) → (turn ≡ Fired → ⊥) → AreSent turn m p passed passed
unfired_sends Fired m p passed ne = absurd (ne refl)
unfired_sends _ m p passed ne = refl
