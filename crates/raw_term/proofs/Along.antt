-- Along a run with terms the set moves alike with any words: its steps are the same but for their values.
use Rattle.std.proofs.Common.{◌≡◌, ℕ, zero, suc, ◌-◌, ◌^◌, ◌<◌, Bool, true, false, cond, List, [], ◌∷◌, ◌++◌, length, map, Option, Some, None, refl, sym, ap, ap₂, ◌∙◌, subst}
use Rattle.std.specs.Prelude.{slice_get, ◌==◌, ◌+◌, ◌*◌}
use Rattle.std.specs.Option.{option_map}
use Rattle.std.specs.List.{range_with_len}
use Rattle.raw_network.specs.Network.{Sent, Event, values_on, fronts, event_of, event_from}
use Rattle.raw_network.specs.Runs.{IsLawful, end_of, events_of, with_first, IsQuiet}
use Rattle.raw_tile_isa.specs.Words.{EachGivesWords}
use Rattle.raw_grid.specs.Topology.{proc_count, tile_count}
use Rattle.raw_model.specs.Program.{ProgramSet, PortProgram, IsSet}
use Rattle.raw_model.specs.Local.{Local}
use Rattle.raw_model.specs.Machine.{machine_of, takes, sends, is_stopped, tile_code, port_program, capacity_of, row}
use Rattle.raw_model.specs.Start.{MachineState, start}
use Rattle.raw_model.specs.Rest.{enabled, step}
use Rattle.raw_model.specs.Bounds.{all_words}
use Rattle.raw_pace.specs.Control.{Motion, motion_of, Asks, asks_at, MovesAlike}
use Rattle.raw_term.specs.Terms.{is_within}
use Rattle.raw_model.specs.Fed.{fed, fed_ports}
use Rattle.raw_term.specs.TermMachine.{TermState, TermRow, term_row, after_row, term_step_from, term_step, numbered}
use Rattle.raw_term.specs.Verdicts.{Break, OnInput, OnTable, TermRun, stepped, turn_if, turned, swept, ran, first_run}
use Rattle.raw_term.proofs.Terms.{Holds, none_some, term_values}
use Rattle.raw_term.proofs.Image.{Pairs, PairsSent, pairs_length, fronts_alike, AlikeAt, AlikeLocals, AlikeWires, local_at, wire_at}
use Rattle.raw_term.proofs.TileTerms.{none_holds}
use Rattle.raw_term.proofs.Rows.{AlikeLocal, RowMade, IsLawfulIns, row_made}
use Rattle.raw_term.proofs.Steps.{TermsStand, takes_same, sends_same, stopped_same, ready_stands, step_stands, quiet_stands}
use Rattle.raw_term.proofs.Start.{fed_room, start_stands}
use Rattle.raw_model.proofs.Fed.{AllWords, all_at}
use Rattle.raw_term.proofs.Claims.{lawful_of, cells_of}
use Rattle.raw_term.specs.Control.{EachMovesAlike}

-- values that stand for one another are sent on the same wires
wires_sent : (H : ℕ → ℕ → Type 0) (ms ns : List Sent) → PairsSent H ms ns → map (λ (m : Sent). m.wire) ms ≡ map (λ (m : Sent). m.wire) ns
wires_sent H [] [] h = refl
wires_sent H [] (n ∷ ns) h = absurd h
wires_sent H (m ∷ ms) [] h = absurd h
wires_sent H (m ∷ ms) (n ∷ ns) h = ap₂ (λ w ws. w ∷ ws) h.0 (wires_sent H ms ns h.2)

locals_length : {L M : Type 0} (R : L → M → Type 0) (ls : List L) (ms : List M) → AlikeLocals R ls ms → length ls ≡ length ms
locals_length R [] [] h = refl
locals_length R [] (m ∷ ms) h = absurd h
locals_length R (l ∷ ls) [] h = absurd h
locals_length R (l ∷ ls) (m ∷ ms) h = ap suc (locals_length R ls ms h.1)

wires_length : (H : ℕ → ℕ → Type 0) (ws vs : List (List ℕ)) → AlikeWires H ws vs → length ws ≡ length vs
wires_length H [] [] h = refl
wires_length H [] (y ∷ vs) h = absurd h
wires_length H (x ∷ ws) [] h = absurd h
wires_length H (x ∷ ws) (y ∷ vs) h = ap suc (wires_length H ws vs h.1)

map-first : {A B : Type 0} (f : A → B) (b : Bool) (x : A) (xs : List A) → map f (with_first b x xs) ≡ with_first b (f x) (map f xs)
map-first f true x xs = refl
map-first f false x xs = refl

abbrev IsThere : {A : Type 0} → Option A → Type 0
IsThere None = ⊥
IsThere (Some x) = Unit {0}

is_there : {A B : Type 0} (o : Option A) (f : A → B) (e : B) → option_map f o ≡ Some e → IsThere o
is_there None f e is = none_some e is
is_there (Some x) f e is = tt

-- the motion of a step with terms
abbrev row_motion : List ℕ → Option TermRow → Motion
row_motion from None = record { from = []; to = []; touched = None }
row_motion from (Some r) = record { from = from; to = map (λ (m : Sent). m.wire) r.row.sent; touched = r.row.touched }

abbrev local_motion : ProgramSet → TermState → ℕ → Option Local → Motion
local_motion numbers s p None = record { from = []; to = []; touched = None }
local_motion numbers s p (Some l) = row_motion (takes numbers p l) (term_row numbers s.nodes p l (fronts (takes numbers p l) s.state.wires))

abbrev term_motion : ProgramSet → TermState → ℕ → Motion
term_motion numbers s p = local_motion numbers s p (slice_get s.state.locals p)

-- a way of the machine with terms: each step of it is one of an enabled processor, and does not hang
abbrev pub Goes : ProgramSet → TermState → List ℕ → TermState → Type 0
Goes numbers s [] e = s ≡ e
Goes numbers s (p ∷ h) e = (enabled numbers s.state p ≡ true) × (m : TermState) × (term_step numbers s p ≡ Some m) × Goes numbers m h e

goes_on : (numbers : ProgramSet) (s m e : TermState) (h g : List ℕ) → Goes numbers s h m → Goes numbers m g e → Goes numbers s (h ++ g) e
goes_on numbers s m e [] g a b = subst (λ u. Goes numbers u g e) (sym a) b
goes_on numbers s m e (p ∷ h) g a b = (a.0, a.1, a.2, goes_on numbers a.1 m e h g a.3 b)

module _ (numbers : ProgramSet) where
  -- what has gone on has done so
  stays : (ps : List ℕ) (r : TermRun) (q : Break) → r.broken ≡ Some q → (swept numbers r ps).broken ≡ Some q
  stays [] r q e = e
  stays (p ∷ ps) r q e = stays ps (turned numbers r p r.broken) q (subst (λ (o : Option Break). (turned numbers r p o).broken ≡ Some q) (sym e) e)

  abbrev Way : TermRun → List ℕ → Type 0
  Way r ps = (h : List ℕ) × Goes numbers r.at h (swept numbers r ps).at

  step_way : (p : ℕ) (ps : List ℕ) (r : TermRun) → enabled numbers r.at.state p ≡ true → (o : Option TermState) → term_step numbers r.at p ≡ o
      → (swept numbers (stepped r p o) ps).broken ≡ None
      → ((r' : TermRun) → r'.broken ≡ None → (swept numbers r' ps).broken ≡ None → Way r' ps)
      → (h : List ℕ) × Goes numbers r.at h (swept numbers (stepped r p o) ps).at
  step_way p ps r on None is e later = none_some (OnInput p) (sym e ∙ stays ps (record r { broken = Some (OnInput p) }) (OnInput p) refl)
  step_way p ps r on (Some s) is e later = by (is_within s.nodes) e where
    by : (b : Bool) → (swept numbers (cond b (record { at = s; steps = r.steps + 1; broken = None }) (record r { broken = Some OnTable })) ps).broken ≡ None
        → (h : List ℕ) × Goes numbers r.at h (swept numbers (cond b (record { at = s; steps = r.steps + 1; broken = None }) (record r { broken = Some OnTable })) ps).at
    by false f = none_some OnTable (sym f ∙ stays ps (record r { broken = Some OnTable }) OnTable refl)
    by true f = let more = later (record { at = s; steps = r.steps + 1; broken = None }) refl f in (p ∷ more.0, (on, s, is, more.1))

  turn_way : (p : ℕ) (ps : List ℕ) (r : TermRun) → r.broken ≡ None → (b : Bool) → enabled numbers r.at.state p ≡ b
      → (swept numbers (turn_if numbers r p b) ps).broken ≡ None
      → ((r' : TermRun) → r'.broken ≡ None → (swept numbers r' ps).broken ≡ None → Way r' ps)
      → (h : List ℕ) × Goes numbers r.at h (swept numbers (turn_if numbers r p b) ps).at
  turn_way p ps r free true is e later = step_way p ps r is (term_step numbers r.at p) refl e later
  turn_way p ps r free false is e later = later r free e

  sweep_way : (ps : List ℕ) (r : TermRun) → r.broken ≡ None → (swept numbers r ps).broken ≡ None → Way r ps
  sweep_way [] r free e = ([], refl)
  sweep_way (p ∷ ps) r free e =
      subst (λ (o : Option Break). (h : List ℕ) × Goes numbers r.at h (swept numbers (turned numbers r p o) ps).at) (sym free)
      (turn_way p ps r free (enabled numbers r.at.state p) refl (subst (λ (o : Option Break). (swept numbers (turned numbers r p o) ps).broken ≡ None) free e)
      (λ r' f g. sweep_way ps r' f g))

  not_broken : (ps : List ℕ) (r : TermRun) → (swept numbers r ps).broken ≡ None → r.broken ≡ None
  not_broken ps r e = by r.broken refl where
    by : (o : Option Break) → r.broken ≡ o → r.broken ≡ None
    by None f = f
    by (Some q) f = none_some q (sym e ∙ stays ps r q f)

  ran_broken : (n : ℕ) (r : TermRun) (q : Break) → r.broken ≡ Some q → (ran numbers n r).broken ≡ Some q
  ran_broken zero r q e = e
  ran_broken (suc n) r q e = ran_broken n (swept numbers r (range_with_len 0 (proc_count numbers.topo))) q (stays (range_with_len 0 (proc_count numbers.topo)) r q e)

  ran_not_broken : (n : ℕ) (r : TermRun) → (ran numbers n r).broken ≡ None → r.broken ≡ None
  ran_not_broken n r e = by r.broken refl where
    by : (o : Option Break) → r.broken ≡ o → r.broken ≡ None
    by None f = f
    by (Some q) f = none_some q (sym e ∙ ran_broken n r q f)

  -- the way of a run
  pub way_of : (n : ℕ) (r : TermRun) → (ran numbers n r).broken ≡ None → (h : List ℕ) × Goes numbers r.at h (ran numbers n r).at
  way_of zero r e = ([], refl)
  way_of (suc n) r e =
      let all = range_with_len 0 (proc_count numbers.topo) in
      let now = swept numbers r all in
      let fine = ran_not_broken n now e in
      let one = sweep_way all r (not_broken all r fine) fine in
      let more = way_of n now e in
      (one.0 ++ more.0, goes_on numbers r.at now.at (ran numbers n now).at one.0 more.0 one.1 more.1)

module _ (numbers : ProgramSet) where
  -- the motions of a processor on a way
  abbrev pub motions : (h : List ℕ) (s e : TermState) → Goes numbers s h e → ℕ → List Motion
  motions [] s e go q = []
  motions (p ∷ h) s e go q = with_first (p == q) (term_motion numbers s p) (motions h go.1 e go.3 q)

  -- the state with terms after a front of a way
  abbrev pub reached : (front rest : List ℕ) (s e : TermState) → Goes numbers s (front ++ rest) e → TermState
  reached [] rest s e go = s
  reached (p ∷ front) rest s e go = reached front rest go.1 e go.3

module _ (each : EachGivesWords) (inputs : List ℕ) (set_ : ProgramSet) (nums words : List PortProgram) (lawful : (p : ℕ) (i : ℕ) → IsLawfulIns (slice_get (tile_code set_ p) i))
    (room : (p : ℕ) → capacity_of (port_program (record set_ { ports = nums }) p) ≡ capacity_of (port_program (record set_ { ports = words }) p)) where
  abbrev numbers_ : ProgramSet
  numbers_ = record set_ { ports = nums }

  abbrev machine : ProgramSet
  machine = record set_ { ports = words }

  abbrev pub StandsFor : TermState → MachineState → Type 0
  StandsFor s t = TermsStand each inputs set_ nums words lawful room s t

  -- a step has the motion of the step with terms
  motion_stands : (s : TermState) (t : MachineState) (p : ℕ) → StandsFor s t → (e : TermState) → term_step numbers_ s p ≡ Some e
      → motion_of (event_of (machine_of machine) t p) ≡ term_motion numbers_ s p
  unfolding machine_of
  motion_stands s t p h e is =
      by_local (slice_get s.state.locals p) (slice_get t.locals p) (local_at (AlikeLocal (term_values inputs s.nodes)) s.state.locals t.locals h.alike.locals p) is
    where
      by_row : (l m : Local) (o : Option TermRow) → AlikeLocal (term_values inputs s.nodes) l m → term_row numbers_ s.nodes p l (fronts (takes numbers_ p l) s.state.wires) ≡ o
          → IsThere o → motion_of (event_from (machine_of machine) t.wires p (Some m)) ≡ row_motion (takes numbers_ p l) o
      by_row l m None g f some = absurd some
      by_row l m (Some r) g f some =
          let V = term_values inputs s.nodes in
          let from : List ℕ = takes machine p m in
          let same : takes numbers_ p l ≡ from = takes_same each inputs set_ nums words lawful room V h.fed p l m g in
          let f' : term_row numbers_ s.nodes p l (fronts from s.state.wires) ≡ Some r = subst (λ (us : List ℕ). term_row numbers_ s.nodes p l (fronts us s.state.wires) ≡ Some r) same f in
          let given : Pairs (Holds V) (fronts from s.state.wires) (fronts from t.wires) = fronts_alike (Holds V) (none_holds inputs s.nodes h.terms) from s.state.wires t.wires h.alike.wires in
          let made : RowMade inputs s.nodes r (row machine p m (fronts from t.wires)) =
          row_made each inputs s.nodes h.terms set_ nums words lawful h.fed p l m (fronts from s.state.wires) (fronts from t.wires) r g given f' in
          let to : map (λ (m : Sent). m.wire) r.row.sent ≡ map (λ (m : Sent). m.wire) (row machine p m (fronts from t.wires)).sent =
          wires_sent (Holds (term_values inputs r.nodes)) r.row.sent (row machine p m (fronts from t.wires)).sent made.sent in
          ap (λ us. let x : Motion = record { from = us; to = map (λ (m : Sent). m.wire) (row machine p m (fronts from t.wires)).sent; touched = (row machine p m (fronts from t.wires)).touched } in x) (sym same)
          ∙ ap (λ us. let x : Motion = record { from = takes numbers_ p l; to = us; touched = (row machine p m (fronts from t.wires)).touched } in x) (sym to)
          ∙ ap (λ o. let x : Motion = record { from = takes numbers_ p l; to = map (λ (m : Sent). m.wire) r.row.sent; touched = o } in x) (sym made.touched)

      by_local : (o q : Option Local) → AlikeAt (AlikeLocal (term_values inputs s.nodes)) o q → term_step_from numbers_ s p o ≡ Some e
          → motion_of (event_from (machine_of machine) t.wires p q) ≡ local_motion numbers_ s p o
      by_local None None g f = none_some e f
      by_local None (Some m) g f = absurd g
      by_local (Some l) None g f = absurd g
      by_local (Some l) (Some m) g f =
          by_row l m (term_row numbers_ s.nodes p l (fronts (takes numbers_ p l) s.state.wires)) g refl (is_there (term_row numbers_ s.nodes p l (fronts (takes numbers_ p l) s.state.wires)) (after_row s.state p (takes numbers_ p l)) e f)

  -- what local states ask
  asks_stand : (s : TermState) (t : MachineState) (p : ℕ) → StandsFor s t → asks_at (machine_of machine) p (slice_get t.locals p) ≡ asks_at (machine_of numbers_) p (slice_get s.state.locals p)
  unfolding machine_of
  asks_stand s t p h = by (slice_get s.state.locals p) (slice_get t.locals p) (local_at (AlikeLocal (term_values inputs s.nodes)) s.state.locals t.locals h.alike.locals p)
    where
      by : (o q : Option Local) → AlikeAt (AlikeLocal (term_values inputs s.nodes)) o q → asks_at (machine_of machine) p q ≡ asks_at (machine_of numbers_) p o
      by None None g = refl
      by None (Some m) g = absurd g
      by (Some l) None g = absurd g
      by (Some l) (Some m) g =
          let V = term_values inputs s.nodes in
          ap (λ (b : Bool). let x : Asks = record { stopped = b; takes = takes machine p m; sends = sends machine p m } in Some x) (sym (stopped_same each inputs set_ nums words lawful room V h.fed p l m g))
          ∙ ap (λ us. let x : Asks = record { stopped = is_stopped numbers_ p l; takes = us; sends = sends machine p m } in Some x) (sym (takes_same each inputs set_ nums words lawful room V h.fed p l m g))
          ∙ ap (λ us. let x : Asks = record { stopped = is_stopped numbers_ p l; takes = takes numbers_ p l; sends = us } in Some x) (sym (sends_same each inputs set_ nums words lawful room V h.fed p l m g))

  -- what a way with terms is for the machine
  pub record IsAlong (s : TermState) (t : MachineState) (h : List ℕ) (e : TermState) : Type 0 where
    pub allowed : IsLawful (machine_of machine) t h
    pub ends : StandsFor e (end_of (machine_of machine) t h)

  pub along : (h : List ℕ) (s e : TermState) (t : MachineState) → Goes numbers_ s h e → StandsFor s t → IsAlong s t h e
  along [] s e t go stands = record { allowed = tt; ends = subst (λ u. StandsFor u t) go stands }
  along (p ∷ h) s e t go stands =
      let on : enabled machine t p ≡ true = sym (ready_stands each inputs set_ nums words lawful room s t p stands) ∙ go.0 in
      let more = along h go.1 e (step machine t p) go.3 (step_stands each inputs set_ nums words lawful room s t p stands go.1 go.2) in
      record { allowed = (on, more.allowed); ends = more.ends }

  pub motions_along : (h : List ℕ) (s e : TermState) (t : MachineState) (go : Goes numbers_ s h e) → StandsFor s t → (q : ℕ)
      → map (λ (x : Event Local). motion_of x) (events_of (machine_of machine) t h q) ≡ motions numbers_ h s e go q
  motions_along [] s e t go stands q = refl
  motions_along (p ∷ h) s e t go stands q =
      map-first (λ (x : Event Local). motion_of x) (p == q) (event_of (machine_of machine) t p) (events_of (machine_of machine) (step machine t p) h q)
      ∙ ap₂ (λ m ms. with_first (p == q) m ms) (motion_stands s t p stands go.1 go.2)
      (motions_along h go.1 e (step machine t p) go.3 (step_stands each inputs set_ nums words lawful room s t p stands go.1 go.2) q)

  pub reached_stands : (front rest : List ℕ) (s e : TermState) (t : MachineState) (go : Goes numbers_ s (front ++ rest) e) → StandsFor s t
      → StandsFor (reached numbers_ front rest s e go) (end_of (machine_of machine) t front)
  reached_stands [] rest s e t go stands = stands
  reached_stands (p ∷ front) rest s e t go stands =
      reached_stands front rest go.1 e (step machine t p) go.3 (step_stands each inputs set_ nums words lawful room s t p stands go.1 go.2)

module _ (each : EachGivesWords) (set_ : ProgramSet) (valid : IsSet set_) (ins outs : List ℕ)
    (ins_many : length ins ≡ all_words set_) (outs_many : length outs ≡ all_words set_) (ins_small : AllWords ins) (outs_small : AllWords outs)
    (n : ℕ) (free : (ran (numbered set_) n (first_run set_)).broken ≡ None) (rests : IsQuiet (machine_of (numbered set_)) (ran (numbered set_) n (first_run set_)).at.state) where
  abbrev numbers2 : List ℕ
  numbers2 = range_with_len 1 (all_words set_)

  abbrev nums2 : List PortProgram
  nums2 = fed_ports set_.ports numbers2

  abbrev lawful2 : (p : ℕ) (i : ℕ) → IsLawfulIns (slice_get (tile_code set_ p) i)
  lawful2 = lawful_of set_ valid

  abbrev room2 : (inputs : List ℕ) (p : ℕ) → capacity_of (port_program (record set_ { ports = nums2 }) p) ≡ capacity_of (port_program (record set_ { ports = fed_ports set_.ports inputs }) p)
  room2 = λ inputs p. fed_room set_.ports numbers2 inputs (p - 2 * tile_count set_.topo)

  abbrev first : TermState
  first = (first_run set_).at

  abbrev last : TermState
  last = (ran (numbered set_) n (first_run set_)).at

  way : (h : List ℕ) × Goes (numbered set_) first h last
  way = way_of (numbered set_) n (first_run set_) free

  abbrev For : List ℕ → TermState → MachineState → Type 0
  For inputs s t = TermsStand each inputs set_ nums2 (fed_ports set_.ports inputs) lawful2 (room2 inputs) s t

  begins : (inputs : List ℕ) → length inputs ≡ all_words set_ → AllWords inputs → For inputs first (start (fed set_ inputs))
  begins inputs many small = start_stands each inputs set_ lawful2 (cells_of inputs set_ valid) many small

  one : IsAlong each ins set_ nums2 (fed_ports set_.ports ins) lawful2 (room2 ins) first (start (fed set_ ins)) way.0 last
  one = along each ins set_ nums2 (fed_ports set_.ports ins) lawful2 (room2 ins) way.0 first last (start (fed set_ ins)) way.1 (begins ins ins_many ins_small)

  two : IsAlong each outs set_ nums2 (fed_ports set_.ports outs) lawful2 (room2 outs) first (start (fed set_ outs)) way.0 last
  two = along each outs set_ nums2 (fed_ports set_.ports outs) lawful2 (room2 outs) way.0 first last (start (fed set_ outs)) way.1 (begins outs outs_many outs_small)

  same_depth : (machine_of (fed set_ ins)).depth ≡ (machine_of (fed set_ outs)).depth
  unfolding machine_of
  same_depth = refl

  asks_both : (front rest : List ℕ) (p : ℕ) → front ++ rest ≡ way.0
      → asks_at (machine_of (fed set_ ins)) p (slice_get (end_of (machine_of (fed set_ ins)) (start (fed set_ ins)) front).locals p)
      ≡ asks_at (machine_of (fed set_ outs)) p (slice_get (end_of (machine_of (fed set_ outs)) (start (fed set_ outs)) front).locals p)
  asks_both front rest p whole =
      let go : Goes (numbered set_) first (front ++ rest) last = subst (λ xs. Goes (numbered set_) first xs last) (sym whole) way.1 in
      let s : TermState = reached (numbered set_) front rest first last go in
      asks_stand each ins set_ nums2 (fed_ports set_.ports ins) lawful2 (room2 ins) s (end_of (machine_of (fed set_ ins)) (start (fed set_ ins)) front) p
      (reached_stands each ins set_ nums2 (fed_ports set_.ports ins) lawful2 (room2 ins) front rest first last (start (fed set_ ins)) go (begins ins ins_many ins_small))
      ∙ sym (asks_stand each outs set_ nums2 (fed_ports set_.ports outs) lawful2 (room2 outs) s (end_of (machine_of (fed set_ outs)) (start (fed set_ outs)) front) p
      (reached_stands each outs set_ nums2 (fed_ports set_.ports outs) lawful2 (room2 outs) front rest first last (start (fed set_ outs)) go (begins outs outs_many outs_small)))

  pub moves_alike : (h : List ℕ) × MovesAlike (machine_of (fed set_ ins)) (machine_of (fed set_ outs)) (start (fed set_ ins)) (start (fed set_ outs)) h
  moves_alike =
      let a = begins ins ins_many ins_small in
      let b = begins outs outs_many outs_small in
      let V = term_values ins first.nodes in
      let W = term_values outs first.nodes in (
        way.0,
        record {
          depth = same_depth;
          many = sym (locals_length (AlikeLocal V) first.state.locals (start (fed set_ ins)).locals a.alike.locals) ∙ locals_length (AlikeLocal W) first.state.locals (start (fed set_ outs)).locals b.alike.locals;
          width = sym (wires_length (Holds V) first.state.wires (start (fed set_ ins)).wires a.alike.wires) ∙ wires_length (Holds W) first.state.wires (start (fed set_ outs)).wires b.alike.wires;
          wires =
              λ w.
              sym (pairs_length (Holds V) (values_on first.state.wires w) (values_on (start (fed set_ ins)).wires w) (wire_at (Holds V) first.state.wires (start (fed set_ ins)).wires a.alike.wires w))
              ∙ pairs_length (Holds W) (values_on first.state.wires w) (values_on (start (fed set_ outs)).wires w) (wire_at (Holds W) first.state.wires (start (fed set_ outs)).wires b.alike.wires w);
          lawful = one.allowed;
          lawful_there = two.allowed;
          quiet = quiet_stands each ins set_ nums2 (fed_ports set_.ports ins) lawful2 (room2 ins) last (end_of (machine_of (fed set_ ins)) (start (fed set_ ins)) way.0) one.ends rests;
          quiet_there = quiet_stands each outs set_ nums2 (fed_ports set_.ports outs) lawful2 (room2 outs) last (end_of (machine_of (fed set_ outs)) (start (fed set_ outs)) way.0) two.ends rests;
          moves =
              λ p.
              motions_along each ins set_ nums2 (fed_ports set_.ports ins) lawful2 (room2 ins) way.0 first last (start (fed set_ ins)) way.1 a p
              ∙ sym (motions_along each outs set_ nums2 (fed_ports set_.ports outs) lawful2 (room2 outs) way.0 first last (start (fed set_ outs)) way.1 b p);
          asks = asks_both;
        },
      )

pub each_moves_alike : EachGivesWords → EachMovesAlike
each_moves_alike each set_ sweeps one other valid terms a b =
    let (h, alike) = moves_alike each set_ valid one other a.each b.each (all_at (λ w. w < 2 ^ 32) one a.words) (all_at (λ w. w < 2 ^ 32) other b.words) sweeps terms.free terms.rests in
    record { steps = h; alike = alike }
