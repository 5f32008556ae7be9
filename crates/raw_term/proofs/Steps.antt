-- Steps and lists of steps of the machine with terms are, on the values of the terms, those of the machine.
use Rattle.std.proofs.Common.{◌≡◌, ℕ, zero, suc, ◌+◌, Bool, true, false, cond, ◌||◌, List, [], ◌∷◌, ◌++◌, length, Option, Some, None, refl, sym, ap, ◌∙◌, subst, arith, length-append}
use Rattle.std.specs.Prelude.{slice_get, nat_le}
use Rattle.std.specs.Option.{option_map}
use Rattle.raw_network.specs.Network.{fronts, step_from}
use Rattle.raw_tile_isa.specs.Words.{EachGivesWords}
use Rattle.raw_model.specs.Program.{ProgramSet, PortProgram}
use Rattle.raw_model.specs.Local.{Local}
use Rattle.raw_model.specs.Machine.{machine_of, takes, sends, is_stopped, is_ended, tile_takes, tile_sends, switch_takes, switch_sends, tile_code, switch_code, port_program, words_of, capacity_of, row}
use Rattle.raw_model.specs.Start.{MachineState}
use Rattle.raw_model.specs.Rest.{enabled, step, IsLawfulFrom, end_from, IsQuiet}
use Rattle.raw_term.specs.Terms.{is_within}
use Rattle.raw_term.specs.TermMachine.{TermState, TermRow, term_row, after_row, term_step_from, term_step}
use Rattle.raw_term.specs.Verdicts.{Break, OnInput, OnTable, TermRun, stepped, turn_if, turned, swept, ran}
use Rattle.raw_grid.specs.Topology.{proc_count}
use Rattle.std.specs.List.{range_with_len}
use Rattle.raw_model.specs.Serial.{sweep_over, sweep, sweeps}
use Rattle.raw_term.proofs.Terms.{Holds, AreTerms, some_is, none_some, term_values}
use Rattle.raw_term.proofs.Image.{Pairs, pairs_up, pairs_length, fronts_alike, Alike, AlikeAt, local_at, row_alike, alike_up, enabled_same}
use Rattle.raw_term.proofs.TileTerms.{tile_up, none_holds}
use Rattle.raw_term.proofs.Rows.{AlikeLocal, each_kind, RowMade, IsLawfulIns, row_made}

pub local_up : (values more : List ℕ) → ((c y : ℕ) → Holds values c y → Holds more c y) → (l m : Local) → AlikeLocal values l m → AlikeLocal more l m
local_up values more up =
    each_kind values (λ l m. AlikeLocal more l m)
    (λ l m h. tile_up values more up l m h)
    (λ l m h. (h.0, pairs_up (Holds values) (Holds more) up l.regs m.regs h.1))
    (λ l m h. h)
    (λ l m h. (h.0, pairs_up (Holds values) (Holds more) up l.got m.got h.1))

module _ (each : EachGivesWords) (inputs : List ℕ) (set_ : ProgramSet) (nums words : List PortProgram) (lawful : (p : ℕ) (i : ℕ) → IsLawfulIns (slice_get (tile_code set_ p) i))
    (room : (p : ℕ) → capacity_of (port_program (record set_ { ports = nums }) p) ≡ capacity_of (port_program (record set_ { ports = words }) p)) where
  abbrev numbers : ProgramSet
  numbers = record set_ { ports = nums }

  abbrev machine : ProgramSet
  machine = record set_ { ports = words }

  -- the sources have numbers of the inputs and these inputs
  abbrev pub AreFed : List ℕ → Type 0
  AreFed values = (p : ℕ) → Pairs (Holds values) (words_of (port_program numbers p)) (words_of (port_program machine p))

  -- a state of the machine with terms whose values are a state of the machine
  pub record TermsStand (s : TermState) (t : MachineState) : Type 0 where
    pub terms : AreTerms inputs s.nodes
    pub has : (i x : ℕ) → slice_get inputs i ≡ Some x → Holds (term_values inputs s.nodes) (1 + i) x
    pub fed : AreFed (term_values inputs s.nodes)
    pub alike : Alike (AlikeLocal (term_values inputs s.nodes)) (Holds (term_values inputs s.nodes)) s.state t

  module _ (values : List ℕ) (fed : AreFed values) where
    pub takes_same : (p : ℕ) (l m : Local) → AlikeLocal values l m → takes numbers p l ≡ takes machine p m
    takes_same p =
        each_kind values (λ l m. takes numbers p l ≡ takes machine p m)
        (λ l m h. ap (λ k. tile_takes set_.topo p (slice_get (tile_code set_ p) k.pc)) h.rest)
        (λ l m h. ap (λ k. switch_takes set_.topo p (slice_get (switch_code set_ p) k.pc)) h.0)
        (λ l m h. refl)
        (λ l m h. refl)

    pub sends_same : (p : ℕ) (l m : Local) → AlikeLocal values l m → sends numbers p l ≡ sends machine p m
    sends_same p =
        each_kind values (λ l m. sends numbers p l ≡ sends machine p m)
        (λ l m h. ap (λ k. tile_sends set_.topo p (slice_get (tile_code set_ p) k.pc)) h.rest)
        (λ l m h. ap (λ k. switch_sends set_.topo p (slice_get (switch_code set_ p) k.pc)) h.0)
        (λ l m h. refl)
        (λ l m h. refl)

    pub stopped_same : (p : ℕ) (l m : Local) → AlikeLocal values l m → is_stopped numbers p l ≡ is_stopped machine p m
    stopped_same p =
        each_kind values (λ l m. is_stopped numbers p l ≡ is_stopped machine p m)
        (λ l m h. ap (λ k. is_ended k.mark || nat_le set_.limit k.count) h.rest)
        (λ l m h. ap (λ k. is_ended k.mark || nat_le set_.limit k.count) h.0)
        (λ l m h. ap (λ k. nat_le (length (words_of (port_program numbers p))) k.done) h
        ∙ ap (λ n. nat_le n m.done) (pairs_length (Holds values) (words_of (port_program numbers p)) (words_of (port_program machine p)) (fed p)))
        (λ l m h. ap (λ n. nat_le (capacity_of (port_program numbers p)) n) h.0 ∙ ap (λ n. nat_le n m.done) (room p))

  pub ready_stands : (s : TermState) (t : MachineState) (p : ℕ) → TermsStand s t → enabled numbers s.state p ≡ enabled machine t p
  unfolding machine_of
  ready_stands s t p h =
      let values : List ℕ = term_values inputs s.nodes in
      enabled_same (AlikeLocal values) (Holds values) (machine_of numbers) (machine_of machine) refl (stopped_same values h.fed) (takes_same values h.fed) (sends_same values h.fed) s.state t p h.alike

  -- a step
  module _ (s : TermState) (t : MachineState) (p : ℕ) (h : TermsStand s t) (e : TermState) where
    abbrev V : List ℕ
    V = term_values inputs s.nodes

    row_stands : (l m : Local) (r : TermRow) → AlikeLocal V l m → term_row numbers s.nodes p l (fronts (takes numbers p l) s.state.wires) ≡ Some r
        → TermsStand (after_row s.state p (takes numbers p l) r) (step_from (machine_of machine) t p (Some m))
    unfolding machine_of
    row_stands l m r g is =
        let from : List ℕ = takes machine p m in
        let same : takes numbers p l ≡ from = takes_same V h.fed p l m g in
        let xs : List ℕ = fronts from s.state.wires in
        let ys : List ℕ = fronts from t.wires in
        let is' : term_row numbers s.nodes p l xs ≡ Some r = subst (λ (us : List ℕ). term_row numbers s.nodes p l (fronts us s.state.wires) ≡ Some r) same is in
        let given : Pairs (Holds V) xs ys = fronts_alike (Holds V) (none_holds inputs s.nodes h.terms) from s.state.wires t.wires h.alike.wires in
        let made : RowMade inputs s.nodes r (row machine p m ys) = row_made each inputs s.nodes h.terms set_ nums words lawful h.fed p l m xs ys r g given is' in
        let W : List ℕ = term_values inputs r.nodes in
        let lifted : Alike (AlikeLocal W) (Holds W) s.state t = alike_up (AlikeLocal V) (AlikeLocal W) (Holds V) (Holds W) (local_up V W made.keeps) made.keeps s.state t h.alike in
        subst (λ (us : List ℕ). TermsStand (after_row s.state p us r) (step_from (machine_of machine) t p (Some m))) (sym same)
        (record {
          terms = made.terms;
          has = λ i x f. made.keeps (1 + i) x (h.has i x f);
          fed = λ q. pairs_up (Holds V) (Holds W) made.keeps (words_of (port_program numbers q)) (words_of (port_program machine q)) (h.fed q);
          alike = row_alike (AlikeLocal W) (Holds W) s.state t p from r.row.next (row machine p m ys).next r.row.sent (row machine p m ys).sent lifted made.next made.sent;
        })

    maybe_row : (l m : Local) (o : Option TermRow) → AlikeLocal V l m → term_row numbers s.nodes p l (fronts (takes numbers p l) s.state.wires) ≡ o → option_map (after_row s.state p (takes numbers p l)) o ≡ Some e
        → TermsStand e (step_from (machine_of machine) t p (Some m))
    maybe_row l m None g is f = none_some e f
    maybe_row l m (Some r) g is f = subst (λ k. TermsStand k (step_from (machine_of machine) t p (Some m))) (some_is (after_row s.state p (takes numbers p l) r) e f) (row_stands l m r g is)

    local_stands : (o q : Option Local) → AlikeAt (AlikeLocal V) o q → term_step_from numbers s p o ≡ Some e → TermsStand e (step_from (machine_of machine) t p q)
    local_stands None None g is = none_some e is
    local_stands None (Some m) g is = absurd g
    local_stands (Some l) None g is = absurd g
    local_stands (Some l) (Some m) g is = maybe_row l m (term_row numbers s.nodes p l (fronts (takes numbers p l) s.state.wires)) g refl is

    pub step_stands : term_step numbers s p ≡ Some e → TermsStand e (step machine t p)
    step_stands is = local_stands (slice_get s.state.locals p) (slice_get t.locals p) (local_at (AlikeLocal V) s.state.locals t.locals h.alike.locals p) is

  -- sweeps
  broken_stays : (ps : List ℕ) (r : TermRun) (q : Break) → r.broken ≡ Some q → (swept numbers r ps).broken ≡ Some q
  broken_stays [] r q e = e
  broken_stays (p ∷ ps) r q e = broken_stays ps (turned numbers r p r.broken) q (subst (λ (o : Option Break). (turned numbers r p o).broken ≡ Some q) (sym e) e)

  -- what a run is to be: it goes on, and it stands for a state of the machine
  pub record IsAt (r : TermRun) (t : MachineState) : Type 0 where
    pub free : r.broken ≡ None
    pub stands : TermsStand r.at t

  -- one that goes on from a state of the machine by these steps, before which there were so many
  pub record IsSwept (before : ℕ) (r : TermRun) (t : MachineState) (steps : List ℕ) : Type 0 where
    pub allowed : IsLawfulFrom machine t steps
    pub ends : IsAt r (end_from machine t steps)
    pub many : r.steps ≡ before + length steps

  -- a turn, and those behind it
  step_then : (p : ℕ) (ps : List ℕ) (r : TermRun) (t : MachineState) → IsAt r t → enabled machine t p ≡ true → (o : Option TermState) → term_step numbers r.at p ≡ o → (swept numbers (stepped r p o) ps).broken ≡ None
      → ((r' : TermRun) (t' : MachineState) → IsAt r' t' → (swept numbers r' ps).broken ≡ None → IsSwept r'.steps (swept numbers r' ps) t' (sweep_over machine t' ps))
      → IsSwept r.steps (swept numbers (stepped r p o) ps) t (p ∷ sweep_over machine (step machine t p) ps)
  step_then p ps r t h on None is e later = none_some (OnInput p) (sym e ∙ broken_stays ps (record r { broken = Some (OnInput p) }) (OnInput p) refl)
  step_then p ps r t h on (Some s) is e later = by (is_within s.nodes) e where
    by : (b : Bool) → (swept numbers (cond b (record { at = s; steps = r.steps + 1; broken = None }) (record r { broken = Some OnTable })) ps).broken ≡ None
        → IsSwept r.steps (swept numbers (cond b (record { at = s; steps = r.steps + 1; broken = None }) (record r { broken = Some OnTable })) ps) t (p ∷ sweep_over machine (step machine t p) ps)
    by false f = none_some OnTable (sym f ∙ broken_stays ps (record r { broken = Some OnTable }) OnTable refl)
    by true f =
        let more = later (record { at = s; steps = r.steps + 1; broken = None }) (step machine t p) (record { free = refl; stands = step_stands r.at t p h.stands s is }) f in
        let many : (swept numbers (record { at = s; steps = r.steps + 1; broken = None }) ps).steps ≡ r.steps + 1 + length (sweep_over machine (step machine t p) ps) = more.many in
        record { allowed = (on, more.allowed); ends = more.ends; many = omega (arith, many) }

  turn_stands : (p : ℕ) (ps : List ℕ) (r : TermRun) (t : MachineState) → IsAt r t → (b : Bool) → b ≡ enabled machine t p → enabled numbers r.at.state p ≡ b → (swept numbers (turn_if numbers r p b) ps).broken ≡ None
      → ((r' : TermRun) (t' : MachineState) → IsAt r' t' → (swept numbers r' ps).broken ≡ None → IsSwept r'.steps (swept numbers r' ps) t' (sweep_over machine t' ps))
      → IsSwept r.steps (swept numbers (turn_if numbers r p b) ps) t (cond (enabled machine t p) (p ∷ sweep_over machine (step machine t p) ps) (sweep_over machine t ps))
  turn_stands p ps r t h true same is e later =
      subst (λ c. IsSwept r.steps (swept numbers (turn_if numbers r p true) ps) t (cond c (p ∷ sweep_over machine (step machine t p) ps) (sweep_over machine t ps))) same
      (step_then p ps r t h (sym same) (term_step numbers r.at p) refl e later)
  turn_stands p ps r t h false same is e later =
      subst (λ c. IsSwept r.steps (swept numbers (turn_if numbers r p false) ps) t (cond c (p ∷ sweep_over machine (step machine t p) ps) (sweep_over machine t ps))) same (later r t h e)

  pub sweep_stands : (ps : List ℕ) (r : TermRun) (t : MachineState) → IsAt r t → (swept numbers r ps).broken ≡ None → IsSwept r.steps (swept numbers r ps) t (sweep_over machine t ps)
  sweep_stands [] r t h e = record { allowed = tt; ends = h; many = omega arith }
  sweep_stands (p ∷ ps) r t h e =
      let now : TermRun = turned numbers r p None in
      let e' : (swept numbers now ps).broken ≡ None = subst (λ (o : Option Break). (swept numbers (turned numbers r p o) ps).broken ≡ None) h.free e in
      subst (λ (o : Option Break). IsSwept r.steps (swept numbers (turned numbers r p o) ps) t (sweep_over machine t (p ∷ ps))) (sym h.free)
      (turn_stands p ps r t h (enabled numbers r.at.state p) (ready_stands r.at t p h.stands) refl e' (λ r' t' i f. sweep_stands ps r' t' i f))

  ran_broken : (n : ℕ) (r : TermRun) (q : Break) → r.broken ≡ Some q → (ran numbers n r).broken ≡ Some q
  ran_broken zero r q e = e
  ran_broken (suc n) r q e = ran_broken n (swept numbers r (range_with_len 0 (proc_count set_.topo))) q (broken_stays (range_with_len 0 (proc_count set_.topo)) r q e)

  -- what goes on has gone on
  pub ran_free : (n : ℕ) (r : TermRun) → (ran numbers n r).broken ≡ None → r.broken ≡ None
  ran_free n r e = by r.broken refl where
    by : (o : Option Break) → r.broken ≡ o → r.broken ≡ None
    by None f = f
    by (Some q) f = none_some q (sym e ∙ ran_broken n r q f)

  pub swept_free : (ps : List ℕ) (r : TermRun) → (swept numbers r ps).broken ≡ None → r.broken ≡ None
  swept_free ps r e = by r.broken refl where
    by : (o : Option Break) → r.broken ≡ o → r.broken ≡ None
    by None f = f
    by (Some q) f = none_some q (sym e ∙ broken_stays ps r q f)

  pub lawful_append : (xs ys : List ℕ) (t : MachineState) → IsLawfulFrom machine t xs → IsLawfulFrom machine (end_from machine t xs) ys → IsLawfulFrom machine t (xs ++ ys)
  lawful_append [] ys t h g = g
  lawful_append (x ∷ xs) ys t h g = (h.0, lawful_append xs ys (step machine t x) h.1 g)

  pub end_append : (xs ys : List ℕ) (t : MachineState) → end_from machine (end_from machine t xs) ys ≡ end_from machine t (xs ++ ys)
  end_append [] ys t = refl
  end_append (x ∷ xs) ys t = end_append xs ys (step machine t x)

  -- sweeps of a run that goes on are those of the machine
  pub sweeps_stand : (n : ℕ) (r : TermRun) (t : MachineState) → IsAt r t → (ran numbers n r).broken ≡ None → IsSwept r.steps (ran numbers n r) t (sweeps machine n t)
  sweeps_stand zero r t h e = record { allowed = tt; ends = h; many = omega arith }
  sweeps_stand (suc n) r t h e =
      let all : List ℕ = range_with_len 0 (proc_count set_.topo) in
      let now : TermRun = swept numbers r all in
      let one : IsSwept r.steps now t (sweep machine t) = sweep_stands all r t h (ran_free n now e) in
      let m : MachineState = end_from machine t (sweep machine t) in
      let more : IsSwept now.steps (ran numbers n now) m (sweeps machine n m) = sweeps_stand n now m one.ends e in
      record {
        allowed = lawful_append (sweep machine t) (sweeps machine n m) t one.allowed more.allowed;
        ends = subst (λ k. IsAt (ran numbers n now) k) (end_append (sweep machine t) (sweeps machine n m) t) more.ends;
        many = omega (arith, one.many, more.many, length-append (sweep machine t) (sweeps machine n m));
      }

  -- and rest
  pub quiet_stands : (s : TermState) (t : MachineState) → TermsStand s t → IsQuiet numbers s.state → IsQuiet machine t
  quiet_stands s t h quiet p = sym (ready_stands s t p h) ∙ quiet p
