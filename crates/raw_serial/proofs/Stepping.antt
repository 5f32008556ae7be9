-- What a turn of a processor is, in terms of the parts that the code works with.
use Rattle.std.proofs.Common.{◌≡◌, ℕ, ◌+◌, ◌<◌, ◌≤◌, Bool, true, false, cond, List, length, Option, Some, None, refl, sym, ap, ◌∙◌, subst, arith}
use Rattle.std.specs.Prelude.{slice_index_or}
use Rattle.std.specs.List.{flat_map, All}
use Rattle.raw_processor.proofs.EndLists.{flat_alike}
use Rattle.std.specs.Option.{option_to_list, IfSome}
use Rattle.raw_network.specs.Network.{Sent, values_on, count_of, fronts, taken, appended, has_values, has_room}
use Rattle.raw_network.specs.Runs.{sent_on}
use Rattle.raw_network.specs.Waits.{first_unmet}
use Rattle.raw_network.proofs.Bounds.{room_for}
use Rattle.raw_network.proofs.Diamond.{counts_fit}
use Rattle.raw_network.proofs.Waits.{met}
use Rattle.raw_switch_isa.specs.Ends.{ends}
use Rattle.raw_grid.specs.Topology.{Topology}
use Rattle.raw_grid.specs.Wires.{wires_of, input_wire, output_wire}
use Rattle.raw_grid.proofs.WireLaws.{input_within, output_within}
use Rattle.raw_model.specs.Program.{ProgramSet}
use Rattle.raw_model.specs.Local.{Local}
use Rattle.raw_model.specs.Machine.{takes, sends, row, is_stopped, machine_of}
use Rattle.raw_model.specs.Waits.{inputs_at, outputs_at}
use Rattle.raw_model.proofs.Once.{sends_once}
use Rattle.raw_model.proofs.Waiting.{covered}
use Rattle.raw_processor.specs.declared.end_wires.EndWires.{EndWires}
use Rattle.raw_processor.specs.Ends.{AreEndsOf}
use Rattle.raw_serial.specs.declared.turn.Turn.{Turn}
use Rattle.raw_serial.specs.declared.turn.Turn.TheVariants.{Fired}
use Rattle.raw_serial.specs.Needs.{AreNeedsOf, IsTaken, unmet_of}
use Rattle.raw_serial.proofs.Within.{sent_within}
use Rattle.raw_serial.specs.Turns.{turn_by, turn_at, IsTurn}

-- a turn fires only where it is neither stopped nor waiting
pub fired_parts : (stopped owes : Bool) (wait : Option ℕ) → Fired ≡ turn_by stopped owes wait → (stopped ≡ false) × (wait ≡ None)
fired_parts false false None e = (refl, refl)
fired_parts stopped owes wait e = absurd (cc e)

module _ (set : ProgramSet) (p : ℕ) (l : Local) (wires : List (List ℕ)) where
  -- what a row sends has room
  pub room_by : has_room set.depth (sends set p l) wires ≡ true → set.depth ≤ 7 → (values us : List ℕ) (w : ℕ)
      → 0 < length (sent_on w (row set p l values).sent)
      → length (values_on (taken us wires) w) + length (sent_on w (row set p l values).sent) ≤ 8
  unfolding machine_of
  room_by room deep values us w some = room_for (machine_of set) (sends_once set) p l values us 8 wires room (omega arith) w some

  -- a processor with no first wait has what it needs
  pub met_by : unmet_of set p l wires ≡ None
      → (has_values (takes set p l) wires ≡ true) × (has_room set.depth (sends set p l) wires ≡ true)
  unfolding machine_of
  met_by none =
      met set.depth (inputs_at set.topo p) (outputs_at set.topo p) (takes set p l) (sends set p l) wires
      ((covered set).takes p l) ((covered set).sends p l) none

  -- where nothing is unmet, each wire that is taken from holds enough, and the values are taken
  pub counts_taken : (es : EndWires) (taken_from sent_to : List ℕ) → AreNeedsOf set p l es taken_from sent_to → unmet_of set p l wires ≡ None
      → (w : ℕ) → count_of w taken_from ≤ length (values_on wires w)
  counts_taken es taken_from sent_to needs none = counts_fit taken_from wires (ap (λ ws. has_values ws wires) needs.takes ∙ (met_by none).0)

  pub is_taken : (es : EndWires) (taken_from sent_to values : List ℕ) (left : List (List ℕ)) → AreNeedsOf set p l es taken_from sent_to
      → unmet_of set p l wires ≡ None → values ≡ fronts taken_from wires → left ≡ taken taken_from wires → IsTaken set p l wires left values
  is_taken es taken_from sent_to values left needs none are_fronts is_left =
      record {
        met = none;
        room = (met_by none).1;
        values = are_fronts ∙ ap (λ ws. fronts ws wires) needs.takes;
        rest = is_left ∙ ap (λ ws. taken ws wires) needs.takes;
      }

  -- what a turn comes to
  wait_if : (stopped : Bool) (o : Option ℕ) → stopped ≡ false → cond stopped None o ≡ o
  wait_if true o e = absurd (cc e)
  wait_if false o e = refl

  turn_if : (stopped owes : Bool) (o wait : Option ℕ) → stopped ≡ false → owes ≡ false → wait ≡ o → turn_by stopped owes wait ≡ turn_by false false o
  turn_if stopped owes o wait es eo ew = ap (λ b. turn_by b owes wait) es ∙ ap (λ b. turn_by false b wait) eo ∙ ap (turn_by false false) ew

  pub turn_unmet : (owes : Bool) (o : Option ℕ) → is_stopped set p l ≡ false → owes ≡ false → unmet_of set p l wires ≡ o
      → turn_by false false o ≡ turn_at set p owes l wires
  unfolding machine_of
  turn_unmet owes o going free is =
      sym (turn_if (is_stopped set p l) owes o _ going free (wait_if (is_stopped set p l) (unmet_of set p l wires) going ∙ is))

  -- a turn that is asked for and fires has all that it needs; one that does not fire leaves all as it is
  pub fired_needs : Fired ≡ turn_at set p false l wires → (is_stopped set p l ≡ false) × (unmet_of set p l wires ≡ None)
  unfolding machine_of
  fired_needs e =
      let parts = fired_parts (is_stopped set p l) false (cond (is_stopped set p l) None (unmet_of set p l wires)) e in
      (parts.0, sym (wait_if (is_stopped set p l) (unmet_of set p l wires) parts.0) ∙ parts.1)

  pub turn_left : (turn : Turn) → turn ≡ turn_at set p false l wires → (turn ≡ Fired → ⊥) → IsTurn set p false turn l l wires wires
  turn_left Fired e not_fired = absurd (not_fired refl)
  turn_left turn e not_fired = record { answer = e; local = refl; wires = refl }

  -- a turn that fires, in parts
  pub turn_fired : (owes : Bool) (next : Local) (left later : List (List ℕ)) (values : List ℕ)
      → is_stopped set p l ≡ false → owes ≡ false → IsTaken set p l wires left values
      → next ≡ (row set p l values).next → later ≡ appended (row set p l values).sent left
      → IsTurn set p owes Fired l next wires later
  unfolding machine_of
  turn_fired owes next left later values going free took is_next is_later =
      record {
        answer = turn_unmet owes None going free took.met;
        local = is_next ∙ ap (λ vs. (row set p l vs).next) took.values;
        wires = is_later ∙ ap (λ vs. appended (row set p l vs).sent left) took.values ∙ ap (appended (row set p l (fronts (takes set p l) wires)).sent) took.rest;
      }

-- the values of a row go to wires that are there, and have room there
pub put_there : (set : ProgramSet) (p : ℕ) (l : Local) (values : List ℕ) (n : ℕ) (ms : List Sent) → ms ≡ (row set p l values).sent
    → n ≡ length (wires_of set.topo) → All (λ (m : Sent). m.wire < n) ms
put_there set p l values n ms is many =
    subst (λ (xs : List Sent). All (λ (m : Sent). m.wire < n) xs) (sym is)
    (subst (λ k. All (λ (m : Sent). m.wire < k) (row set p l values).sent) (sym many) (sent_within set p l values))

pub put_room : (set : ProgramSet) (p : ℕ) (l : Local) (values : List ℕ) (wires left : List (List ℕ)) (ms : List Sent)
    → ms ≡ (row set p l values).sent → set.depth ≤ 7 → IsTaken set p l wires left values → (w : ℕ)
    → 0 < length (sent_on w ms) → length (values_on left w) + length (sent_on w ms) ≤ 8
put_room set p l values wires left ms is deep took w =
    subst (λ (xs : List Sent). 0 < length (sent_on w xs) → length (values_on left w) + length (sent_on w xs) ≤ 8) (sym is)
    (subst (λ (ws : List (List ℕ)). 0 < length (sent_on w (row set p l values).sent) → length (values_on ws w) + length (sent_on w (row set p l values).sent) ≤ 8) (sym took.rest)
    (room_by set p l wires took.room deep values (takes set p l) w))

-- wires by the ends of a processor
abbrev pub listed : List (Option ℕ) → List ℕ
listed os = flat_map (λ end. option_to_list (slice_index_or os end None)) ends

some_within : (n : ℕ) (o q : Option ℕ) → o ≡ q → ((w : ℕ) → q ≡ Some w → w < n) → IfSome o (λ w. w < n)
some_within n None q e each = tt
some_within n (Some w) q e each = each w (sym e)

module _ (topo : Topology) (p : ℕ) (es : EndWires) (are : AreEndsOf topo p es) (n : ℕ) (all : n ≡ length (wires_of topo)) where
  -- the wires at the ends are there
  pub input_there : (end : ℕ) → end < 10 → IfSome (slice_index_or es.inputs end None) (λ w. w < n)
  input_there end below =
      some_within n (slice_index_or es.inputs end None) (input_wire topo p end) (are.inputs end below)
      (λ w e. let h = input_within topo w p end e in omega (arith, h, all))

  pub output_there : (end : ℕ) → end < 10 → IfSome (slice_index_or es.outputs end None) (λ w. w < n)
  output_there end below =
      some_within n (slice_index_or es.outputs end None) (output_wire topo p end) (are.outputs end below)
      (λ w e. let h = output_within topo w p end e in omega (arith, h, all))

-- wires that are there, in other words
pub all_there : (n m : ℕ) (xs ys : List ℕ) → n ≡ m → xs ≡ ys → All (λ w. w < m) ys → All (λ w. w < n) xs
all_there n m xs ys e is all = subst (λ zs. All (λ w. w < n) zs) (sym is) (subst (λ k. All (λ w. w < k) ys) (sym e) all)

module _ (topo : Topology) (p : ℕ) (es : EndWires) (are : AreEndsOf topo p es) where
  pub inputs_are : listed es.inputs ≡ inputs_at topo p
  unfolding inputs_at
  inputs_are =
      flat_alike (λ end. option_to_list (slice_index_or es.inputs end None)) (λ end. option_to_list (input_wire topo p end))
      (λ end below. ap option_to_list (are.inputs end below))

  outputs_are : listed es.outputs ≡ outputs_at topo p
  unfolding outputs_at
  outputs_are =
      flat_alike (λ end. option_to_list (slice_index_or es.outputs end None)) (λ end. option_to_list (output_wire topo p end))
      (λ end below. ap option_to_list (are.outputs end below))

-- the first need that is unmet, by the wires at the ends
pub unmet_is : (set : ProgramSet) (p : ℕ) (l : Local) (es : EndWires) (taken_from sent_to : List ℕ) (depth : ℕ) (wires : List (List ℕ))
    → AreNeedsOf set p l es taken_from sent_to → depth ≡ set.depth
    → first_unmet depth (listed es.inputs) (listed es.outputs) taken_from sent_to wires ≡ unmet_of set p l wires
unmet_is set p l es taken_from sent_to depth wires needs deep =
    ap (λ d. first_unmet d (listed es.inputs) (listed es.outputs) taken_from sent_to wires) deep
    ∙ ap (λ ws. first_unmet set.depth ws (listed es.outputs) taken_from sent_to wires) (inputs_are set.topo p es needs.ends)
    ∙ ap (λ ws. first_unmet set.depth (inputs_at set.topo p) ws taken_from sent_to wires) (outputs_are set.topo p es needs.ends)
    ∙ ap (λ ws. first_unmet set.depth (inputs_at set.topo p) (outputs_at set.topo p) ws sent_to wires) needs.takes
    ∙ ap (λ ws. first_unmet set.depth (inputs_at set.topo p) (outputs_at set.topo p) (takes set p l) ws wires) needs.sends
