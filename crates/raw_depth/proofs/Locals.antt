-- Local states that are halted, kinds of local states, and processors that are on a port's wire.
use Rattle.std.proofs.Common.{◌≡◌, ℕ, ◌<◌, ◌≤◌, Bool, true, false, not, length, List, ◌⊎◌, Some, None, refl, ap, ◌∙◌, subst, inl, inr, ⊎_elim, arith}
use Rattle.std.specs.Prelude.{slice_get, ◌||◌, nat_le}
use Rattle.std.specs.List.{position, position_or_len, All}
use Rattle.std.proofs.lemmas.Bool.{cases_eq, cases_lt, lt-ltb}
use Rattle.std.proofs.lemmas.List.Sums.{fails_before_first}
use Rattle.std.proofs.lemmas.Option.{slice_get_within, slice_get_cases, get_or_from_slice_get}
use Rattle.raw_network.specs.Network.{values_on, count_of}
use Rattle.raw_network.proofs.Wires.{count_none}
use Rattle.raw_grid.specs.declared.parts.ProcKind.TheVariants as proc
use Rattle.raw_grid.specs.Topology.{kind_at}
use Rattle.raw_grid.specs.Wires.{producer_of, consumer_of}
use Rattle.raw_model.specs.declared.marks.Mark.{Mark}
use Rattle.raw_model.specs.declared.marks.Mark.TheVariants as mark
use Rattle.raw_model.specs.Program.{ProgramSet, IsSet}
use Rattle.raw_model.specs.Local.{Local, Tile, Switch, Source, Sink, TileLocal, SwitchLocal, PortLocal}
use Rattle.raw_model.specs.Machine.{is_ended, is_stopped, takes, sends, machine_of}
use Rattle.raw_model.specs.Start.{MachineState, start, Fits}
use Rattle.raw_model.specs.Rest.{IsLawful, end, is_trap, is_trapped, is_at_limit, is_stopped_at}
use Rattle.raw_model.specs.Waits.{inputs_at, outputs_at, first_wait}
use Rattle.raw_model.specs.Outcomes.{is_halted_mark, is_unhalted}
use Rattle.raw_model.proofs.Awaited.{wait_is_unmet, none_where_stopped}
use Rattle.raw_model.proofs.Fitting.{end_fits}
use Rattle.raw_model.proofs.Starting.{start_fits}
use Rattle.raw_model.proofs.Wired.{wired}
use Rattle.raw_depth.proofs.Ports.{IsSwitchPlace, switch_kind, sink_fed, source_read}

-- a processor that has halted is stopped, not trapped and not at the limit
pub halted_ended : (m : Mark) → not (is_halted_mark m) ≡ false → is_ended m ≡ true
halted_ended mark.Halted e = refl
halted_ended _ e = absurd (cc e)

halted_untrapped : (m : Mark) → not (is_halted_mark m) ≡ false → is_trap m ≡ false
halted_untrapped mark.Halted e = refl
halted_untrapped _ e = absurd (cc e)

going_unhalted : (m : Mark) (b : Bool) → (is_ended m || b) ≡ false → not (is_halted_mark m) ≡ true
going_unhalted mark.Going b e = refl
going_unhalted _ b e = absurd (cc e)

pub unhalted_untrapped : (l : Local) → is_unhalted l ≡ false → is_trapped l ≡ false
unhalted_untrapped (Tile l) e = halted_untrapped l.mark e
unhalted_untrapped (Switch l) e = halted_untrapped l.mark e
unhalted_untrapped (Source l) e = refl
unhalted_untrapped (Sink l) e = refl

pub unhalted_unlimited : (set : ProgramSet) (l : Local) → is_unhalted l ≡ false → is_at_limit set l ≡ false
unhalted_unlimited set (Tile l) e = rw (halted_ended l.mark e) refl
unhalted_unlimited set (Switch l) e = rw (halted_ended l.mark e) refl
unhalted_unlimited set (Source l) e = refl
unhalted_unlimited set (Sink l) e = refl

-- none has a local state that passes where none is found
pub none_passes : (test : Local → Bool) (ls : List Local) → position test ls ≡ None → (p : ℕ) (l : Local) → slice_get ls p ≡ Some l → test l ≡ false
none_passes test ls none p l here =
    let past : length ls ≤ position_or_len test ls =
    ⊎_elim {C = length ls ≤ position_or_len test ls}
    (λ (inside : position_or_len test ls < length ls).
    let some : position test ls ≡ Some (position_or_len test ls) = rw (lt-ltb (position_or_len test ls) (length ls) inside) refl in
    absurd (cc (none, some)))
    (λ (past : length ls ≤ position_or_len test ls). past)
    (cases_lt (position_or_len test ls) (length ls)) in
    let within = slice_get_within ls p l here in
    subst (λ x. test x ≡ false) (get_or_from_slice_get ls p l l here) (fails_before_first test ls p l (omega arith))

pub fits_at : (set : ProgramSet) (h : List ℕ) → IsSet set → IsLawful set h → Fits set (end set h)
fits_at set h valid lawful = end_fits set valid (start set) h (start_fits set valid) lawful

module _ (set : ProgramSet) (valid : IsSet set) (s : MachineState) (fits : Fits set s) where
  -- where a switch stands, the local state is that of a switch
  pub at_switch : (q : ℕ) → IsSwitchPlace set.topo q → (l : SwitchLocal) × (slice_get s.locals q ≡ Some (Switch l))
  at_switch q is = ⊎_elim (λ found. by_kind found.0 found.2) (λ past. absurd (let many = fits.processors in let below = is.below in omega (arith, past.0))) (slice_get_cases s.locals q).1
    where
      kind' : kind_at set.topo q ≡ Some proc.Switch
      kind' = switch_kind set.topo q is

      by_kind : (l : Local) → slice_get s.locals q ≡ Some l → (l : SwitchLocal) × (slice_get s.locals q ≡ Some (Switch l))
      by_kind (Tile l) here = let a = (fits.locals q (Tile l) here).0 in let b = kind' in absurd (cc (a, b))
      by_kind (Switch l) here = (l, here)
      by_kind (Source l) here = let a = (fits.locals q (Source l) here).0 in let b = kind' in absurd (cc (a, b))
      by_kind (Sink l) here = let a = (fits.locals q (Sink l) here).0 in let b = kind' in absurd (cc (a, b))

  takes_own : (p : ℕ) (l : Local) → All (λ w. consumer_of set.topo w ≡ p) (takes set p l)
  unfolding machine_of
  takes_own p l = (wired set valid.topology).takes_own p l

  sends_own : (p : ℕ) (l : Local) → All (λ w. producer_of set.topo w ≡ p) (sends set p l)
  unfolding machine_of
  sends_own p l = (wired set valid.topology).sends_own p l

  module _ (q w : ℕ) (l : Local) (here : slice_get s.locals q ≡ Some l) (waits : first_wait set s q ≡ Some w) where
    -- a wire that a row takes from leads to its processor, and one that it sends to comes from it
    is_taken : 0 < count_of w (takes set q l) → consumer_of set.topo w ≡ q
    is_taken some =
        ⊎_elim
        (λ (own : consumer_of set.topo w ≡ q). own)
        (λ (ne : consumer_of set.topo w ≡ q → ⊥). let none = count_none (consumer_of set.topo) q w (takes set q l) (takes_own q l) ne in absurd (omega arith))
        (cases_eq (consumer_of set.topo w) q)

    is_sent : 0 < count_of w (sends set q l) → producer_of set.topo w ≡ q
    is_sent some =
        ⊎_elim
        (λ (own : producer_of set.topo w ≡ q). own)
        (λ (ne : producer_of set.topo w ≡ q → ⊥). let none = count_none (producer_of set.topo) q w (sends set q l) (sends_own q l) ne in absurd (omega arith))
        (cases_eq (producer_of set.topo w) q)

    -- a first wait is for a value, or for room
    pub for_either : ((0 < count_of w (takes set q l)) × (consumer_of set.topo w ≡ q)) ⊎ ((0 < count_of w (sends set q l)) × (producer_of set.topo w ≡ q))
    for_either =
        ⊎_elim
        (λ (input : (0 < count_of w (inputs_at set.topo q)) × (length (values_on s.wires w) < count_of w (takes set q l))).
        let some : 0 < count_of w (takes set q l) = let less = input.1 in omega arith in inl (some, is_taken some))
        (λ (output : (0 < count_of w (outputs_at set.topo q)) × (0 < count_of w (sends set q l)) × (set.depth ≤ length (values_on s.wires w))).
        inr (output.1, is_sent output.1))
        (wait_is_unmet set s q l w here waits)

  -- a sink waits for a value of a switch,
  pub sink_waits : (q w : ℕ) (l : PortLocal) → slice_get s.locals q ≡ Some (Sink l) → first_wait set s q ≡ Some w
      → (consumer_of set.topo w ≡ q) × IsSwitchPlace set.topo (producer_of set.topo w)
  sink_waits q w l here waits =
      ⊎_elim
      (λ (value : (0 < count_of w (takes set q (Sink l))) × (consumer_of set.topo w ≡ q)).
      (value.1, sink_fed set.topo valid.topology q w (fits.locals q (Sink l) here).0 value.0))
      (λ (room : (0 < count_of w (sends set q (Sink l))) × (producer_of set.topo w ≡ q)). absurd (let no' = room.0 in omega arith))
      (for_either q w (Sink l) here waits)

  -- and a source for room on a wire to a switch
  pub source_waits : (q w : ℕ) (l : PortLocal) → slice_get s.locals q ≡ Some (Source l) → first_wait set s q ≡ Some w
      → (producer_of set.topo w ≡ q) × IsSwitchPlace set.topo (consumer_of set.topo w)
  source_waits q w l here waits =
      ⊎_elim
      (λ (value : (0 < count_of w (takes set q (Source l))) × (consumer_of set.topo w ≡ q)). absurd (let no' = value.0 in omega arith))
      (λ (room : (0 < count_of w (sends set q (Source l))) × (producer_of set.topo w ≡ q)).
      (room.1, source_read set.topo valid.topology q w (fits.locals q (Source l) here).0 room.0))
      (for_either q w (Source l) here waits)

  -- one that waits is not stopped
  waits_going : (q w : ℕ) (l : Local) → slice_get s.locals q ≡ Some l → first_wait set s q ≡ Some w → is_stopped set q l ≡ false
  waits_going q w l here waits = by_test (is_stopped set q l) refl
    where
      by_test : (b : Bool) → is_stopped set q l ≡ b → is_stopped set q l ≡ false
      by_test true is =
          let none = none_where_stopped set s q (ap (is_stopped_at set q) here ∙ is) in
          absurd (cc (none, waits))
      by_test false is = is

  -- a tile or a switch that waits has not halted
  pub tile_unhalted : (q w : ℕ) (l : TileLocal) → slice_get s.locals q ≡ Some (Tile l) → first_wait set s q ≡ Some w → is_unhalted (Tile l) ≡ true
  tile_unhalted q w l here waits = going_unhalted l.mark (nat_le set.limit l.count) (waits_going q w (Tile l) here waits)

  pub switch_unhalted : (q w : ℕ) (l : SwitchLocal) → slice_get s.locals q ≡ Some (Switch l) → first_wait set s q ≡ Some w → is_unhalted (Switch l) ≡ true
  switch_unhalted q w l here waits = going_unhalted l.mark (nat_le set.limit l.count) (waits_going q w (Switch l) here waits)
