-- A run with terms along a list of steps is one of the machine, where no term that it notes is 0.
use Rattle.std.proofs.Common.{◌≡◌, ℕ, ◌+◌, ◌<◌, Bool, true, false, cond, List, [], ◌∷◌, ◌++◌, length, Option, Some, None, refl, sym, ap, ◌∙◌, subst, arith, append_assoc, length-append}
use Rattle.std.proofs.lemmas.List.{append-nil}
use Rattle.std.proofs.Math.Seq.{get_or-append_seam}
use Rattle.std.specs.Prelude.{slice_get, slice_index}
use Rattle.std.specs.Option.{option_map, option_and_then}
use Rattle.raw_network.specs.Network.{fronts, step_from}
use Rattle.raw_tile_isa.specs.Words.{EachGivesWords}
use Rattle.raw_model.specs.Program.{ProgramSet, PortProgram}
use Rattle.raw_model.specs.Local.{Local}
use Rattle.raw_model.specs.Machine.{machine_of, takes, tile_code, port_program, words_of, capacity_of, row}
use Rattle.raw_model.specs.Start.{MachineState}
use Rattle.raw_model.specs.Rest.{enabled, step, IsLawfulFrom, end_from}
use Rattle.raw_term.specs.TermMachine.{TermState, TermRow, term_row, after_row, term_step_from, term_step}
use Rattle.raw_term.proofs.Terms.{Holds, some_is, none_some, term_values}
use Rattle.raw_term.proofs.Image.{Pairs, pairs_up, fronts_alike, Alike, AlikeAt, local_at, row_alike, alike_up}
use Rattle.raw_term.proofs.TileTerms.{none_holds}
use Rattle.raw_term.proofs.Rows.{AlikeLocal, RowMade, IsLawfulIns, row_made}
use Rattle.raw_term.proofs.Steps.{TermsStand, local_up, takes_same, ready_stands}
use Rattle.raw_rows.specs.Noted.{NotedRow, noted_row, NotedState, noted_at, after_noted, noted_step_from, noted_step, step_or_noted, along_noting}
use Rattle.raw_rows.specs.Kernels.{along}
use Rattle.raw_rows.proofs.Noted.{noted_row_made}

-- what goes on with no term noted notes none
pub noting_none : (set : ProgramSet) (terms steps : List ℕ) (s e : TermState) → along set s steps ≡ Some e → along_noting set (noted_at s terms) steps ≡ Some (noted_at e terms)
noting_none set terms [] s e is = ap (λ (k : TermState). Some (noted_at k terms)) (some_is s e is)
noting_none set terms (p ∷ ps) s e is = by (enabled set s.state p) (term_step set s p) is (λ k f. noting_none set terms ps k e f) where
  by : (b : Bool) (o : Option TermState) → cond b (option_and_then (λ (t : TermState). along set t ps) o) None ≡ Some e
      → ((k : TermState) → along set k ps ≡ Some e → along_noting set (noted_at k terms) ps ≡ Some (noted_at e terms))
      → cond b (option_and_then (λ (k : NotedState). along_noting set k ps) (step_or_noted terms o (noted_step set (noted_at s terms) p))) None ≡ Some (noted_at e terms)
  by false o f later = none_some e f
  by true None f later = none_some e f
  by true (Some k) f later = later k f

-- the terms that are noted stand behind those that were
record IsBehind (terms more : List ℕ) : Type 0 where
  pub rest : List ℕ
  pub is : more ≡ terms ++ rest

behind_step : (terms more : List ℕ) (term : ℕ) → IsBehind (terms ++ term ∷ []) more → IsBehind terms more
behind_step terms more term h = record { rest = term ∷ h.rest; is = h.is ∙ append_assoc terms (term ∷ []) h.rest }

local_terms : (set : ProgramSet) (n k : NotedState) (p : ℕ) (o : Option Local) → noted_step_from set n p o ≡ Some k → (term : ℕ) × (k.terms ≡ n.terms ++ term ∷ [])
local_terms set n k p None e = none_some k e
local_terms set n k p (Some l) e = by (noted_row set n.at.nodes p l (fronts (takes set p l) n.at.state.wires)) e where
  by : (o : Option NotedRow) → option_map (after_noted n.at.state p (takes set p l) n.terms) o ≡ Some k → (term : ℕ) × (k.terms ≡ n.terms ++ term ∷ [])
  by None f = none_some k f
  by (Some r) f = (r.term, sym (ap (λ (m : NotedState). m.terms) (some_is (after_noted n.at.state p (takes set p l) n.terms r) k f)))

terms_follow : (set : ProgramSet) (steps : List ℕ) (n e : NotedState) → along_noting set n steps ≡ Some e → IsBehind n.terms e.terms
terms_follow set [] n e is = record { rest = []; is = sym (ap (λ (k : NotedState). k.terms) (some_is n e is)) ∙ sym (append-nil n.terms) }
terms_follow set (p ∷ ps) n e is = by (enabled set n.at.state p) (term_step set n.at p) is (λ k f. terms_follow set ps k e f) where
  by_noted : (o : Option NotedState) → noted_step set n p ≡ o → option_and_then (λ (k : NotedState). along_noting set k ps) o ≡ Some e
      → ((k : NotedState) → along_noting set k ps ≡ Some e → IsBehind k.terms e.terms) → IsBehind n.terms e.terms
  by_noted None g f later = none_some e f
  by_noted (Some k) g f later =
      let one = local_terms set n k p (slice_get n.at.state.locals p) g in
      behind_step n.terms e.terms one.0 (subst (λ xs. IsBehind xs e.terms) one.1 (later k f))

  by : (b : Bool) (o : Option TermState) → cond b (option_and_then (λ (k : NotedState). along_noting set k ps) (step_or_noted n.terms o (noted_step set n p))) None ≡ Some e
      → ((k : NotedState) → along_noting set k ps ≡ Some e → IsBehind k.terms e.terms) → IsBehind n.terms e.terms
  by false o f later = none_some e f
  by true None f later = by_noted (noted_step set n p) refl f later
  by true (Some k) f later = later (noted_at k n.terms) f

-- none of these terms is 0
abbrev pub AreSome : List ℕ → List ℕ → Type 0
AreSome values terms = (i : ℕ) → i < length terms → (x : ℕ) × (Holds values (slice_index terms i) x) × (x ≡ 0 → ⊥)

module _ (each : EachGivesWords) (inputs : List ℕ) (set_ : ProgramSet) (nums words : List PortProgram) (lawful : (p : ℕ) (i : ℕ) → IsLawfulIns (slice_get (tile_code set_ p) i))
    (room : (p : ℕ) → capacity_of (port_program (record set_ { ports = nums }) p) ≡ capacity_of (port_program (record set_ { ports = words }) p)) where
  abbrev numbers : ProgramSet
  numbers = record set_ { ports = nums }

  abbrev machine : ProgramSet
  machine = record set_ { ports = words }

  abbrev S : TermState → MachineState → Type 0
  S = TermsStand each inputs set_ nums words lawful room

  -- a state that stands for one of the machine, and in which all terms have the values that they had
  pub record Follows (s e : TermState) (t : MachineState) : Type 0 where
    pub stands : S e t
    pub keeps : (c y : ℕ) → Holds (term_values inputs s.nodes) c y → Holds (term_values inputs e.nodes) c y

  module _ (s : TermState) (t : MachineState) (p : ℕ) (h : S s t) where
    abbrev V : List ℕ
    V = term_values inputs s.nodes

    given : (l m : Local) → AlikeLocal V l m → Pairs (Holds V) (fronts (takes numbers p l) s.state.wires) (fronts (takes machine p m) t.wires)
    given l m g =
        subst (λ us. Pairs (Holds V) (fronts us s.state.wires) (fronts (takes machine p m) t.wires)) (sym (takes_same each inputs set_ nums words lawful room V h.fed p l m g))
        (fronts_alike (Holds V) (none_holds inputs s.nodes h.terms) (takes machine p m) s.state.wires t.wires h.alike.wires)

    -- a row that does what one of the machine does
    row_follows : (l m : Local) (r : TermRow) → AlikeLocal V l m → RowMade inputs s.nodes r (row machine p m (fronts (takes machine p m) t.wires))
        → Follows s (after_row s.state p (takes numbers p l) r) (step_from (machine_of machine) t p (Some m))
    unfolding machine_of
    row_follows l m r g made =
        let from : List ℕ = takes machine p m in
        let W : List ℕ = term_values inputs r.nodes in
        let lifted : Alike (AlikeLocal W) (Holds W) s.state t = alike_up (AlikeLocal V) (AlikeLocal W) (Holds V) (Holds W) (local_up V W made.keeps) made.keeps s.state t h.alike in
        let ys : List ℕ = fronts from t.wires in
        record {
          stands = subst (λ us. S (after_row s.state p us r) (step_from (machine_of machine) t p (Some m))) (sym (takes_same each inputs set_ nums words lawful room V h.fed p l m g))
              (record {
                terms = made.terms;
                has = λ i x f. made.keeps (1 + i) x (h.has i x f);
                fed = λ q. pairs_up (Holds V) (Holds W) made.keeps (words_of (port_program numbers q)) (words_of (port_program machine q)) (h.fed q);
                alike = row_alike (AlikeLocal W) (Holds W) s.state t p from r.row.next (row machine p m ys).next r.row.sent (row machine p m ys).sent lifted made.next made.sent;
              });
          keeps = made.keeps;
        }

    -- a step
    module _ (e : TermState) where
      stepped : (l m : Local) (o : Option TermRow) → AlikeLocal V l m → term_row numbers s.nodes p l (fronts (takes numbers p l) s.state.wires) ≡ o → option_map (after_row s.state p (takes numbers p l)) o ≡ Some e
          → Follows s e (step_from (machine_of machine) t p (Some m))
      stepped l m None g is f = none_some e f
      stepped l m (Some r) g is f =
          subst (λ k. Follows s k (step_from (machine_of machine) t p (Some m))) (some_is (after_row s.state p (takes numbers p l) r) e f)
          (row_follows l m r g
          (row_made each inputs s.nodes h.terms set_ nums words lawful h.fed p l m (fronts (takes numbers p l) s.state.wires) (fronts (takes machine p m) t.wires) r g (given l m g) is))

      local_follows : (o q : Option Local) → AlikeAt (AlikeLocal V) o q → term_step_from numbers s p o ≡ Some e → Follows s e (step_from (machine_of machine) t p q)
      local_follows None None g is = none_some e is
      local_follows None (Some m) g is = absurd g
      local_follows (Some l) None g is = absurd g
      local_follows (Some l) (Some m) g is = stepped l m (term_row numbers s.nodes p l (fronts (takes numbers p l) s.state.wires)) g refl is

      step_follows : term_step numbers s p ≡ Some e → Follows s e (step machine t p)
      step_follows is = local_follows (slice_get s.state.locals p) (slice_get t.locals p) (local_at (AlikeLocal V) s.state.locals t.locals h.alike.locals p) is

    -- a step that notes a term which is not 0
    module _ (terms : List ℕ) (e : NotedState) where
      abbrev IsSome : Type 0
      IsSome = (term : ℕ) → e.terms ≡ terms ++ term ∷ [] → (x : ℕ) → Holds V term x → x ≡ 0 → ⊥

      noted : (l m : Local) (o : Option NotedRow) → AlikeLocal V l m → noted_row numbers s.nodes p l (fronts (takes numbers p l) s.state.wires) ≡ o
          → option_map (after_noted s.state p (takes numbers p l) terms) o ≡ Some e → IsSome → Follows s e.at (step_from (machine_of machine) t p (Some m))
      noted l m None g is f some = none_some e f
      noted l m (Some n) g is f some =
          let same : after_noted s.state p (takes numbers p l) terms n ≡ e = some_is (after_noted s.state p (takes numbers p l) terms n) e f in
          subst (λ (k : NotedState). Follows s k.at (step_from (machine_of machine) t p (Some m))) same
          (row_follows l m n.row g
          (noted_row_made each inputs s.nodes h.terms set_ p (fronts (takes numbers p l) s.state.wires) (fronts (takes machine p m) t.wires) (given l m g) n
          (some n.term (sym (ap (λ (k : NotedState). k.terms) same))) nums words l m g is))

      noted_local : (o q : Option Local) → AlikeAt (AlikeLocal V) o q → noted_step_from numbers (noted_at s terms) p o ≡ Some e → IsSome → Follows s e.at (step_from (machine_of machine) t p q)
      noted_local None None g is some = none_some e is
      noted_local None (Some m) g is some = absurd g
      noted_local (Some l) None g is some = absurd g
      noted_local (Some l) (Some m) g is some = noted l m (noted_row numbers s.nodes p l (fronts (takes numbers p l) s.state.wires)) g refl is some

      noted_follows : noted_step numbers (noted_at s terms) p ≡ Some e → IsSome → Follows s e.at (step machine t p)
      noted_follows is some = noted_local (slice_get s.state.locals p) (slice_get t.locals p) (local_at (AlikeLocal V) s.state.locals t.locals h.alike.locals p) is some

  pub record GoesAlong (t : MachineState) (steps : List ℕ) (e : TermState) : Type 0 where
    pub allowed : IsLawfulFrom machine t steps
    pub ends : S e (end_from machine t steps)

  pub noting_stands : (steps : List ℕ) (n : NotedState) (t : MachineState) (e : NotedState) → S n.at t → along_noting numbers n steps ≡ Some e → AreSome (term_values inputs n.at.nodes) e.terms → GoesAlong t steps e.at
  noting_stands [] n t e h is some = record { allowed = tt; ends = subst (λ (k : NotedState). S k.at t) (some_is n e is) h }
  noting_stands (p ∷ ps) n t e h is some =
      by (enabled numbers n.at.state p) refl (term_step numbers n.at p) refl is (λ k g f some_. noting_stands ps k (step machine t p) e g f some_)
    where
      go_on : (k : NotedState) → enabled numbers n.at.state p ≡ true → Follows n.at k.at (step machine t p) → along_noting numbers k ps ≡ Some e
          → ((k : NotedState) → S k.at (step machine t p) → along_noting numbers k ps ≡ Some e → AreSome (term_values inputs k.at.nodes) e.terms → GoesAlong (step machine t p) ps e.at) → GoesAlong t (p ∷ ps) e.at
      go_on k on follows f later =
          let rest : GoesAlong (step machine t p) ps e.at =
          later k follows.stands f (λ i lt. ((some i lt).0, follows.keeps (slice_index e.terms i) (some i lt).0 (some i lt).1, (some i lt).2)) in
          record { allowed = (sym (ready_stands each inputs set_ nums words lawful room n.at t p h) ∙ on, rest.allowed); ends = rest.ends }

      by_noted : (o : Option NotedState) → noted_step numbers n p ≡ o → enabled numbers n.at.state p ≡ true → option_and_then (λ (k : NotedState). along_noting numbers k ps) o ≡ Some e
          → ((k : NotedState) → S k.at (step machine t p) → along_noting numbers k ps ≡ Some e → AreSome (term_values inputs k.at.nodes) e.terms → GoesAlong (step machine t p) ps e.at) → GoesAlong t (p ∷ ps) e.at
      by_noted None g on f later = none_some e f
      by_noted (Some k) g on f later = go_on k on (noted_follows n.at t p h n.terms k g is_some) f later where
        is_some : (term : ℕ) → k.terms ≡ n.terms ++ term ∷ [] → (x : ℕ) → Holds (term_values inputs n.at.nodes) term x → x ≡ 0 → ⊥
        is_some term terms_are x holds zero_is =
            let more = terms_follow numbers ps k e f in
            let all : e.terms ≡ n.terms ++ (term ∷ more.rest) = more.is ∙ ap (λ xs. xs ++ more.rest) terms_are ∙ append_assoc n.terms (term ∷ []) more.rest in
            let there : length n.terms < length e.terms = omega (arith, ap length all, length-append n.terms (term ∷ more.rest)) in
            let at : slice_index e.terms (length n.terms) ≡ term = ap (λ xs. slice_index xs (length n.terms)) all ∙ get_or-append_seam n.terms term more.rest 0 in
            let one = some (length n.terms) there in
            let held : Holds (term_values inputs n.at.nodes) term one.0 = subst (λ c. Holds (term_values inputs n.at.nodes) c one.0) at one.1 in
            one.2 (some_is one.0 x (sym held ∙ holds) ∙ zero_is)

      by : (b : Bool) → enabled numbers n.at.state p ≡ b → (o : Option TermState) → term_step numbers n.at p ≡ o
          → cond b (option_and_then (λ (k : NotedState). along_noting numbers k ps) (step_or_noted n.terms o (noted_step numbers n p))) None ≡ Some e
          → ((k : NotedState) → S k.at (step machine t p) → along_noting numbers k ps ≡ Some e → AreSome (term_values inputs k.at.nodes) e.terms → GoesAlong (step machine t p) ps e.at) → GoesAlong t (p ∷ ps) e.at
      by false on o g f later = none_some e f
      by true on None g f later = by_noted (noted_step numbers n p) refl on f later
      by true on (Some k) g f later = go_on (noted_at k n.terms) on (step_follows n.at t p h k g) f later

  -- where nothing is noted
  pub along_stands : (steps : List ℕ) (s : TermState) (t : MachineState) (e : TermState) → S s t → along numbers s steps ≡ Some e → GoesAlong t steps e
  along_stands steps s t e h is = noting_stands steps (noted_at s []) t (noted_at e []) h (noting_none numbers [] steps s e is) (λ i lt. absurd (omega (arith, lt)))
