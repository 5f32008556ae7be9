-- A processor that was enabled at the opening and has taken no step does not wait.
use Rattle.std.proofs.Common.{◌≡◌, ◌≢◌, ⊎_elim, ℕ, ◌+◌, ◌*◌, ◌/◌, ◌<◌, ◌≤◌, Bool, true, false, ltb, not, [], ◌∷◌, length, get_or, refl, sym, ap, ◌∙◌, subst, arith}
use Rattle.std.proofs.lemmas.Bool.{lt-ltb, le-ltb, ltb-true, cases_eq}
use Rattle.std.proofs.lemmas.Option.{get_or_from_slice_get}
use Rattle.atomic_table.specs.Seated.{TableId}
use Rattle.raw_network.specs.Network.{count_of}
use Rattle.raw_network.proofs.Wires.{all_at_count}
use Rattle.raw_network.proofs.Diamond.{Ready, ready}
use Rattle.raw_model.specs.Program.{ProgramSet, IsSet}
use Rattle.raw_model.specs.Local.{Local}
use Rattle.raw_model.specs.Machine.{machine_of, sends, is_stopped}
use Rattle.raw_model.specs.Rest.{enabled}
use Rattle.raw_processor.specs.declared.processor.Processor.{Processor}
use Rattle.raw_processor.specs.Processor.{local_of}
use Rattle.raw_fabric_rule.specs.Views.{About, Hold, View}
use Rattle.raw_fabric_rule.specs.ByEnds.{procs, wires, wire_at, needs, gives, nobody, taken, put_on, wire}
use Rattle.raw_fabric_rule.specs.Opening.{first_part, ends_from, held_at, sent_before, seen_before, first_hold, share}
use Rattle.raw_fabric_rule.proofs.Nets.{is_net, IsInput, IsOutput, needed, given, taken_is, put_is}
use Rattle.raw_fabric_rule.proofs.Opens.{get_or-ends}
use Rattle.raw_fabric_step.specs.declared.looks.Unmet.{Unmet}
use Rattle.raw_fabric_step.specs.Units.{mine, IsLooked}
use Rattle.raw_fabric_step.specs.Causes.{IsShort, IsFull, IsCause}
use Rattle.raw_fabric_step.proofs.Steady.{looked_twice, no_look}
use Rattle.raw_fabric.specs.declared.pass.Pass.{Pass}
use Rattle.raw_fabric.specs.declared.answer.FabricTurn.{FabricTurn}
use Rattle.raw_fabric.specs.declared.answer.FabricTurn.TheVariants.{Fired, Stalled, Stopped, LogFull, Waits}
use Rattle.raw_fabric.specs.Answers.{IsAnswer, IsTurnOf, has_fired}
use Rattle.raw_fabric.specs.Opened.{IsPass, Holds}
use Rattle.raw_fabric.specs.Early.{IsEarly, GoesOn, IsEarlyTurn}
use Rattle.raw_fabric.proofs.Dealt.{first_mine}
use Rattle.raw_fabric.proofs.Places.{there}
use Rattle.raw_fabric.specs.InRow.{LeavesOthers}
use Rattle.raw_fabric.proofs.Firing.{turn_leaves, none_leaves, inside, number, placed, unit_here}

-- a count at the opening, by its end
at_end : (f : ℕ → ℕ) (end : ℕ) → end < 20 → get_or (ends_from f 0 20) end 0 ≡ f end
at_end f end few = get_or-ends f 0 20 end few ∙ ap f (let z : 0 + end ≡ end = omega arith in z)

-- p is enabled at the opening, its unit u is as it was then, and became z by looks
module _ (about : About) (is : IsSet about.set) (p : ℕ) (u z : Hold) (on : enabled about.set about.opened p ≡ true) (early : IsLooked about p (first_hold about.set about.opened p) u) (looked : IsLooked about p u z) where
  abbrev n : ProgramSet
  n = about.set

  able : (l : Local) × Ready (machine_of n) about.opened p l
  able = ready (machine_of n) about.opened p on

  local_is : u.local ≡ able.0
  local_is = early.local_same ∙ get_or_from_slice_get about.opened.locals p able.0 nobody able.1.here

  still : is_stopped n p u.local ≡ false
  unfolding able machine_of
  still = ap (is_stopped n p) local_is ∙ not_true (is_stopped n p able.0) able.1.going
    where
      not_true : (b : Bool) → not b ≡ true → b ≡ false
      not_true true e = absurd (cc e)
      not_true false e = refl

  -- each wire holds the values that its row takes, and has room for what it sends
  has : (w : ℕ) → taken n p able.0 w ≤ length (wire about.opened w)
  unfolding taken able machine_of
  has w = able.1.has w

  room : (w : ℕ) → 0 < put_on n p able.0 w → length (wire about.opened w) < n.depth
  unfolding put_on able machine_of
  room w named = ltb-true (length (wire about.opened w)) n.depth (all_at_count (λ v. ltb (length (wire about.opened v)) n.depth) (sends n p able.0) w able.1.room named)

  -- so none of its inputs is short
  not_short : (end x : ℕ) (v : View) → IsShort about p end x v u z → ⊥
  not_short end x v s =
      let g = needed n is p end u.local s.asked in
      let w = wire_at n p end in
      let small : end < 10 = subst (λ k. k < 10) g.2 ((is_net n is).made w g.0).4 in
      let in' : IsInput n p w = record { there = g.0; own = g.1 } in
      let asked : count_of end (needs n p u.local) ≤ length (wire about.opened w) =
      subst (λ k. k ≤ length (wire about.opened w)) (sym (ap (λ e. count_of e (needs n p u.local)) (sym g.2) ∙ taken_is n is p u.local w in' ∙ ap (λ l. taken n p l w) local_is)) (has w) in
      let none : get_or u.counts end 0 ≡ 0 =
      ap (λ cs. get_or cs end 0) early.counts_same ∙ at_end (sent_before n about.opened p) end (omega (arith, small)) ∙ sent_none end small in
      let first : length (wire about.opened w) ≡ get_or (first_hold n about.opened p).seen end 0 =
      sym (at_end (seen_before n about.opened p) end (omega (arith, small)) ∙ seen_held end small ∙ held w end g.0 refl) in
      let before : get_or (first_hold n about.opened p).seen end 0 ≤ get_or u.seen end 0 =
      subst (λ e. get_or (first_hold n about.opened p).seen e 0 ≤ get_or u.seen e 0) g.2 (early.rises.sent w g.0 g.1) in
      let after : get_or u.seen end 0 ≤ get_or z.seen end 0 =
      subst (λ e. get_or u.seen e 0 ≤ get_or z.seen e 0) g.2 (looked.rises.sent w g.0 g.1) in
      omega (arith, s.seen, asked, none, first, before, after)
    where
      sent_none : (e : ℕ) → e < 10 → sent_before n about.opened p e ≡ 0
      sent_none e lt = rw (lt-ltb e 10 lt)

      seen_held : (e : ℕ) → e < 10 → seen_before n about.opened p e ≡ held_at n about.opened p e
      seen_held e lt = rw (lt-ltb e 10 lt)

      held : (w e : ℕ) → w < wires n → wire_at n p e ≡ w → held_at n about.opened p e ≡ length (wire about.opened w)
      held w e lt at = subst (λ k. held_at n about.opened p e ≡ length (wire about.opened k)) at (rw (lt-ltb (wire_at n p e) (wires n) (subst (λ k. k < wires n) (sym at) lt)))

  -- and none of its outputs is full
  not_full : (end x : ℕ) (v : View) → IsFull about p end x v u z → ⊥
  not_full end x v s =
      let g = given n is p end u.local s.asked in
      let w = wire_at n p end in
      let big : 10 ≤ end = subst (λ k. 10 ≤ k) g.2 ((is_net n is).made w g.0).3 in
      let few : end < 20 = subst (λ k. k < 20) g.2 ((is_net n is).made w g.0).2 in
      let out : IsOutput n p w = record { there = g.0; own = g.1 } in
      let named : 0 < put_on n p able.0 w =
      subst (λ k. 0 < k) (ap (λ e. count_of e (gives n p u.local)) (sym g.2) ∙ put_is n is p u.local w out ∙ ap (λ l. put_on n p l w) local_is) s.asked in
      let sent : get_or u.counts end 0 ≡ length (wire about.opened w) =
      ap (λ cs. get_or cs end 0) early.counts_same ∙ at_end (sent_before n about.opened p) end few ∙ sent_held end big ∙ held w end g.0 refl in
      omega (arith, s.seen, sent, room w named)
    where
      sent_held : (e : ℕ) → 10 ≤ e → sent_before n about.opened p e ≡ held_at n about.opened p e
      sent_held e le = rw (le-ltb e 10 le)

      held : (w e : ℕ) → w < wires n → wire_at n p e ≡ w → held_at n about.opened p e ≡ length (wire about.opened w)
      held w e lt at = subst (λ k. held_at n about.opened p e ≡ length (wire about.opened k)) at (rw (lt-ltb (wire_at n p e) (wires n) (subst (λ k. k < wires n) (sym at) lt)))

  pub no_cause : (r : Unmet) (v w : View) → IsCause about p r v w u z → ⊥
  no_cause r v w c = ⊎_elim (not_short c.end r.seen v) (not_full c.end r.seen v) c.unmet

  pub still_going : is_stopped n p u.local ≡ true → ⊥
  still_going stopped = cc (stopped, still)

-- ---- the opening
pub first_early : (about : About) (id : TableId) (k : ℕ) (pass : Pass) → IsPass about id k pass → pass.seat.me.0.parts ≡ first_part about k ∷ []
    → (p : ℕ) → Holds about pass p → IsEarly about pass p
first_early about id k pass is parts p holds =
    let here : IsPass about id pass.log.worker pass = subst (λ j. IsPass about id j pass) (sym is.worker_is) is in
    let i : ℕ = p / about.workers in
    let in' = inside about id pass p here holds in
    let at : k + i * about.workers ≡ p = ap (λ j. j + i * about.workers) (sym is.worker_is) ∙ sym (number about id pass p here holds) in
    let first = first_mine about k pass.seat.me.0 parts i (subst (λ j. i < share (procs about.set) about.workers j) is.worker_is in') in
    subst (λ u. IsLooked about p (first_hold about.set about.opened p) u) (sym (first ∙ ap (first_hold about.set about.opened) at))
    (no_look about p (first_hold about.set about.opened p))

-- ---- a turn of p, of which the answer is known: v and x are the view and the processor before, w and y after
module _ (about : About) (p i room : ℕ) (v w : View) (x y : Processor) where
  leaves : (turn : FabricTurn) → IsAnswer about p i room turn v w x y → LeavesOthers about p v w
  leaves Stopped (stopped, same, kept) = none_leaves about p v w same
  leaves LogFull (on, full, same, kept) = none_leaves about p v w same
  leaves Fired (can, t) = turn_leaves about p i Fired v w x y t
  leaves Stalled (can, t) = turn_leaves about p i Stalled v w x y t
  leaves (Waits at seen) (can, t) = turn_leaves about p i (Waits at seen) v w x y t

  looked_only : w ≡ v → IsLooked about p (mine v i) (mine w i)
  looked_only same = subst (λ q. IsLooked about p (mine v i) (mine q i)) (sym same) (no_look about p (mine v i))

  own : (turn : FabricTurn) → IsAnswer about p i room turn v w x y → has_fired turn ≡ false → IsLooked about p (mine v i) (mine w i)
  own Stopped (stopped, same, kept) none = looked_only same
  own LogFull (on, full, same, kept) none = looked_only same
  own Fired answer none = absurd (cc none)
  own Stalled (can, (owes, same, next)) none = looked_only same
  own (Waits at seen) (can, (owes, waited, kept)) none = waited.looked

  goes_on : IsSet about.set → (turn : FabricTurn) → IsAnswer about p i room turn v w x y → (mine v i).local ≡ local_of x
      → enabled about.set about.opened p ≡ true → IsLooked about p (first_hold about.set about.opened p) (mine v i) → GoesOn turn
  goes_on is Stopped (stopped, same, kept) at on early =
      still_going about is p (mine v i) (mine v i) on early (no_look about p (mine v i)) (ap (is_stopped about.set p) at ∙ stopped)
  goes_on is LogFull answer at on early = tt
  goes_on is Fired answer at on early = tt
  goes_on is Stalled answer at on early = tt
  goes_on is (Waits at seen) (can, (owes, waited, kept)) same on early =
      no_cause about is p (mine v i) (mine w i) on early waited.looked (record { wire = at.0; seen = seen }) v w waited.cause

pub early_turn : (about : About) (id : TableId) (p : ℕ) (turn : FabricTurn) (old new : Pass) → IsSet about.set → IsPass about id old.log.worker old
    → IsPass about id old.log.worker new → Holds about old p → IsTurnOf about p turn old new → IsEarlyTurn about p turn old new
early_turn about id p turn old new is was now holds did =
    let i : ℕ = p / about.workers in
    let v = old.seat.me.0 in
    let w = new.seat.me.0 in
    let in' = inside about id old p was holds in
    let x = there old.processors.items i (omega (arith, in', was.processors_many)) in
    let y = there new.processors.items i (omega (arith, in', now.processors_many)) in
    let answer : IsAnswer about p i old.room turn v w x.0 y.0 = did.answer x.0 y.0 x.1 y.1 in
    let others : (q : ℕ) → Holds about old q → IsEarly about old q → q ≢ p → IsEarly about new q =
    λ q held early other.
    let j : ℕ = q / about.workers in
    looked_twice about q (first_hold about.set about.opened q) (mine v j) (mine w j) early
    ((leaves about p i old.room v w x.0 y.0 turn answer).others q j other (placed about id old q was held)) in
    record {
      fires = λ on early. goes_on about p i old.room v w x.0 y.0 is turn answer (unit_here about id old p was holds x.0 x.1).local_is on early;
      stay = λ q held early how.
          ⊎_elim (others q held early)
          (λ (none : has_fired turn ≡ false).
          ⊎_elim
          (λ (same : q ≡ p).
          subst (IsEarly about new) (sym same)
          (looked_twice about p (first_hold about.set about.opened p) (mine v i) (mine w i) (subst (IsEarly about old) same early) (own about p i old.room v w x.0 y.0 turn answer none)))
          (others q held early) (cases_eq q p))
          how;
    }
