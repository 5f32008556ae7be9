-- Wires never hold more than the most, and lawful lists are no longer than what is left to do.
use Rattle.std.proofs.Common.{◌≡◌, ℕ, zero, suc, ◌+◌, ◌<◌, ◌≤◌, Bool, true, false, cond, ltb, List, [], ◌∷◌, length, set, drop, Some, sym, ap, ◌∙◌, subst, ⊎_elim, arith}
use Rattle.std.proofs.Common.{add-zero, zero-add}
use Rattle.std.specs.Prelude.{slice_get}
use Rattle.std.proofs.lemmas.List.{length-append, length-drop}
use Rattle.std.proofs.lemmas.Bool.{cases_eq, ltb-true, not-true}
use Rattle.std.proofs.lemmas.Option.{same_Some}
use Rattle.raw_network.specs.Network.{Network, State, Sent, values_on, count_of, fronts, taken, has_room, is_enabled, row_at, step}
use Rattle.raw_network.specs.Runs.{sent_on}
use Rattle.raw_network.specs.Wired.{SendsOnce, IsBounded, IsInvariant}
use Rattle.raw_network.specs.Laws.{total_from, total, AllFit, NoLonger, KeepsDepth}
use Rattle.raw_network.proofs.Wires.{arrivals, wire_moved, wire_taken, all_at_count}
use Rattle.raw_network.proofs.Kept.{fit_after}
use Rattle.raw_network.proofs.Diamond.{Ready, ready, moved}

arrivals_short : (n w : ℕ) (ms : List Sent) → length (arrivals n w ms) ≤ length (sent_on w ms)
arrivals_short n w ms = by_test (ltb w n)
  where
    by_test : (b : Bool) → length (cond b (sent_on w ms) []) ≤ length (sent_on w ms)
    by_test true = omega arith
    by_test false = omega arith

step_ready : {L : Type 0} (net : Network L) (s : State L) (p : ℕ) (l : L) → Ready net s p l
    → step net s p ≡ moved net s p l
step_ready net s p l r = rw r.here

-- a step keeps each wire within the most
pub depth_kept : {L : Type 0} (net : Network L) → SendsOnce net → (s : State L) (p : ℕ) → is_enabled net s p ≡ true
    → ((w : ℕ) → length (values_on s.wires w) ≤ net.depth) → (w : ℕ)
    → length (values_on (step net s p).wires w) ≤ net.depth
depth_kept {L = L} net once s p e fits w =
    let (l, r) = ready net s p e in
    subst (λ t. length (values_on t.wires w) ≤ net.depth) (sym (step_ready net s p l r)) (at_moved l r)
  where
    at_moved : (l : L) → Ready net s p l → length (values_on (moved net s p l).wires w) ≤ net.depth
    at_moved l r =
        let sent = (row_at net p l s.wires).sent in
        let now : length (values_on (moved net s p l).wires w) ≡ length (drop (count_of w (net.takes p l)) (values_on s.wires w)) + length (arrivals (length s.wires) w sent) =
        ap length (wire_moved (net.takes p l) sent s.wires w)
        ∙ length-append (drop (count_of w (net.takes p l)) (values_on s.wires w)) (arrivals (length s.wires) w sent) in
        let less = length-drop (count_of w (net.takes p l)) (values_on s.wires w) in
        let short = arrivals_short (length s.wires) w sent in
        let named = once.sent_named p l (fronts (net.takes p l) s.wires) w in
        let one = once.named_once p l w in
        let before = fits w in
        ⊎_elim
        (λ z. omega arith)
        (λ nz.
        let room : length (values_on s.wires w) < net.depth =
        ltb-true (length (values_on s.wires w)) net.depth
        (all_at_count (λ v. ltb (length (values_on s.wires v)) net.depth) (net.sends p l) w r.room (omega arith)) in
        omega arith)
        (cases_eq (count_of w (net.sends p l)) 0)

-- wires never hold more than the most
pub law_depth : {L : Type 0} (net : Network L) → SendsOnce net → KeepsDepth net
law_depth net once s [] h fits = fits
law_depth net once s (p ∷ ps) h fits = law_depth net once (step net s p) ps h.1 (depth_kept net once s p h.0 fits)

total_set : {L : Type 0} (left : ℕ → L → ℕ) (b i : ℕ) (ls : List L) (l m : L) → slice_get ls i ≡ Some l
    → total_from left b (set ls i m) + left (b + i) l ≡ total_from left b ls + left (b + i) m
total_set left b i [] l m e = cc
total_set left b zero (x ∷ xs) l m e =
    let same : x ≡ l = same_Some x l e in
    let here : left (b + 0) m ≡ left b m = ap (λ n. left n m) (add-zero b) in
    let there : left (b + 0) l ≡ left b x = ap (λ n. left n l) (add-zero b) ∙ ap (λ y. left b y) (sym same) in
    omega arith
total_set left b (suc i) (x ∷ xs) l m e =
    let rest = total_set left (suc b) i xs l m e in
    let here : left (b + suc i) m ≡ left (suc b + i) m = ap (λ n. left n m) (omega arith) in
    let there : left (b + suc i) l ≡ left (suc b + i) l = ap (λ n. left n l) (omega arith) in
    omega arith

module _ {L : Type 0} (net : Network L) (fit : ℕ → L → Type 0) (left : ℕ → L → ℕ) (bounded : IsBounded net fit left) where
  total_moved : (s : State L) (p : ℕ) (l : L) → Ready net s p l → AllFit fit s
      → total left (moved net s p l) < total left s
  unfolding total
  total_moved s p l r fits =
      let change = total_set left 0 p s.locals l (row_at net p l s.wires).next r.here in
      let less : left p (row_at net p l s.wires).next < left p l =
      bounded.less p l (fronts (net.takes p l) s.wires) (fits p l r.here) (not-true (net.is_stopped p l) r.going) in
      let at_p : left (0 + p) l ≡ left p l = ap (λ n. left n l) (zero-add p) in
      let at_next : left (0 + p) (row_at net p l s.wires).next ≡ left p (row_at net p l s.wires).next =
      ap (λ n. left n (row_at net p l s.wires).next) (zero-add p) in
      omega arith

  -- local states that fit are an invariant, with any values
  as_invariant : IsInvariant net fit (λ value. Unit {0})
  as_invariant =
      record {
        next = λ p l values fits going many fine. bounded.kept p l values fits going;
        sent = λ p l values fits going many fine k d within. tt;
      }

  -- a step keeps local states fit
  pub fit_kept : (s : State L) (p : ℕ) → is_enabled net s p ≡ true → AllFit fit s → AllFit fit (step net s p)
  fit_kept s p e fits =
      (fit_after net fit (λ value. Unit {0}) as_invariant s p e (record { locals = fits; values = λ w k d within. tt })).locals

  -- a step leaves less to do
  pub total_less : (s : State L) (p : ℕ) → is_enabled net s p ≡ true → AllFit fit s
      → total left (step net s p) < total left s
  total_less s p e fits =
      let (l, r) = ready net s p e in
      subst (λ t. total left t < total left s) (sym (step_ready net s p l r)) (total_moved s p l r fits)

  -- a lawful list is no longer than what was left to do
  pub law_no_longer : NoLonger net fit left
  law_no_longer s [] fits h = omega arith
  law_no_longer s (p ∷ ps) fits h =
      let rest = law_no_longer (step net s p) ps (fit_kept s p h.0 fits) h.1 in
      let less = total_less s p h.0 fits in
      omega arith

-- the room for what a row sends is there after values are taken
pub room_for : {L : Type 0} (net : Network L) → SendsOnce net
    → (p : ℕ) (l : L) (vs us : List ℕ) (most : ℕ) (wires : List (List ℕ))
    → has_room net.depth (net.sends p l) wires ≡ true → net.depth ≤ most → (w : ℕ)
    → 0 < length (sent_on w (net.row p l vs).sent)
    → length (values_on (taken us wires) w) + length (sent_on w (net.row p l vs).sent) ≤ most
room_for net once p l vs us most wires room deep w some =
    let named = once.sent_named p l vs w in
    let one = once.named_once p l w in
    let below : length (values_on wires w) < net.depth =
    ltb-true (length (values_on wires w)) net.depth
    (all_at_count (λ v. ltb (length (values_on wires v)) net.depth) (net.sends p l) w room (omega arith)) in
    let left = ap length (wire_taken us wires w) in
    let less = length-drop (count_of w us) (values_on wires w) in
    omega arith
