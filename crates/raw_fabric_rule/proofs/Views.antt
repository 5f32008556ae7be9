-- A step that changes no state of the model keeps the rule, where each unit of the seat does.
use Rattle.std.proofs.Common.{◌≤◌, ◌^◌, arith, ◌∷◌, refl, ◌≡◌, ◌≢◌, ℕ, ◌+◌, ◌*◌, ◌%◌, ◌<◌, List, map, length, get_or, set, sym, ap, ◌∙◌, subst, ⊎_elim, add_comm, zero, suc, []}
use mathlib.Core.Option.{some, some-injective, some-ne-none}
use mathlib.Core.Logic.{dite}
use native.Mathlib.Decide.{ℕ_discrete}
use lib.ListN.{get_elem?}
use Rattle.std.proofs.lemmas.Nat.{mod-mul-add}
use Rattle.atomic_table.proofs.Lists.{at_set, set_here, set_else, at_map}
use Rattle.raw_model.specs.Start.{MachineState}
use Rattle.raw_fabric_rule.specs.Views.{About, Hold, Part, View}
use Rattle.raw_fabric_rule.specs.ByEnds.{procs, wires}
use Rattle.raw_fabric_rule.specs.Word.{status}
use Rattle.raw_fabric_rule.specs.Rule.{Holder, IsHold, IsPart, Flows, WordsStand}
use Rattle.raw_fabric_rule.specs.Plays.{HasHold, touch_part}
use Rattle.raw_fabric_rule.proofs.Lists.{at_map_back, at_touched, length-touched}

pub worker_of : (k i n : ℕ) → k < n → (k + i * n) % n ≡ k
worker_of k i n h = ap (λ (z : ℕ). z % n) (add_comm k (i * n)) ∙ mod-mul-add i n k h

pub at_within : {A : Type 0} (l : List A) (i : ℕ) (a : A) → get_elem? l i ≡ some a → i < length l
at_within [] i a e = absurd (some-ne-none a (sym e))
at_within (x ∷ xs) zero a e = omega arith
at_within (x ∷ xs) (suc i) a e = let r = at_within xs i a e in omega arith

-- a view whose parts stay with their workers keeps each holder
pub held_set : (views : List View) (id : ℕ) (v w : View) (g : Part → Part) (k : ℕ) → get_elem? views id ≡ some v → ((y : Part) → (g y).worker ≡ y.worker) → w.parts ≡ map g v.parts → Holder views k → Holder (set views id w) k
held_set views id v w g k at keeps parts_is h = dite (ℕ_discrete h.seat id)
    (λ is. let same : v ≡ h.view = some-injective v h.view (sym at ∙ ap (get_elem? views) (sym is) ∙ h.at) in
    let here : get_elem? v.parts h.index ≡ some h.part = ap (λ (q : View). get_elem? q.parts h.index) same ∙ h.part_at in record {
      seat = id;
      view = w;
      at = set_here views id w (at_within views id v at);
      index = h.index;
      part = g h.part;
      part_at = ap (λ (q : List Part). get_elem? q h.index) parts_is ∙ at_map g v.parts h.index h.part here;
      worker_is = keeps h.part ∙ h.worker_is;
    })
    (λ not. record { seat = h.seat; view = h.view; at = set_else views id h.seat w not ∙ h.at; index = h.index; part = h.part; part_at = h.part_at; worker_is = h.worker_is })

module _ (about : About) (words words' : List ℕ) (views : List View) (s : MachineState) (r : WordsStand about words views s) (id : ℕ) (v w : View) (f : About → ℕ → Hold → Hold)
    (at : get_elem? views id ≡ some v)
    (others : (p : ℕ) (u : Hold) → r.owner (p % about.workers) ≢ id → IsHold about words r.counts r.history s p u → IsHold about words' r.counts r.history s p u)
    (own : (p : ℕ) (u : Hold) → r.owner (p % about.workers) ≡ id → HasHold v p u → IsHold about words r.counts r.history s p u → IsHold about words' r.counts r.history s p (f about p u)) where
  part_own : (i : ℕ) (y : Part) → get_elem? v.parts i ≡ some y → IsPart about words r.counts r.history s r.owner id y → IsPart about words' r.counts r.history s r.owner id (touch_part f y)
  part_own i y here q = record {
    about_is = q.about_is;
    worker_in = q.worker_in;
    owned = q.owned;
    log_is = q.log_is;
    holds_all = λ p lt rem. let h = q.holds_all p lt rem in (h.0, subst (λ (z : ℕ). h.0 < z) (sym (length-touched (f y.about) y.worker y.about.workers y.units)) h.1, h.2);
    units_are = λ k u e.
        let b = at_touched (f y.about) y.worker y.about.workers y.units k u e in let p : ℕ = y.worker + k * about.workers in
        let same : u ≡ f about p b.0 = b.2 ∙ ap (λ (a : About). f a (y.worker + k * a.workers) b.0) q.about_is in
        let has : HasHold v p b.0 = record { part = y; at = i; index = k; part_at = here; unit_at = b.1; number = ap (λ (a : About). y.worker + k * a.workers) (sym q.about_is) } in
        subst (IsHold about words' r.counts r.history s p) (sym same) (own p b.0 (ap r.owner (worker_of y.worker k about.workers q.worker_in) ∙ q.owned) has (q.units_are k b.0 b.1));
  }

  part_other : (j : ℕ) (y : Part) → j ≢ id → IsPart about words r.counts r.history s r.owner j y → IsPart about words' r.counts r.history s r.owner j y
  part_other j y ne q = record {
    about_is = q.about_is;
    worker_in = q.worker_in;
    owned = q.owned;
    log_is = q.log_is;
    holds_all = q.holds_all;
    units_are = λ k u e. others (y.worker + k * about.workers) u (λ z. ne (sym (ap r.owner (worker_of y.worker k about.workers q.worker_in) ∙ q.owned) ∙ z)) (q.units_are k u e);
  }

  pub unmoved : w.parts ≡ map (touch_part f) v.parts → length words' ≡ length words → ((p : ℕ) → p < procs about.set → status words' p ≡ status words p)
      → ((i : ℕ) → 16 * procs about.set ≤ i → get_or words' i 0 < 2 ^ 32)
      → ((x : ℕ) → x < wires about.set → Flows about words' r.counts r.history s x) → WordsStand about words' (set views id w) s
  unmoved parts_is long same few flow = record {
    counts = r.counts;
    owner = r.owner;
    history = r.history;
    is_set = r.is_set;
    lawful = r.lawful;
    ends = r.ends;
    wide = long ∙ r.wide;
    small = few;
    locals_all = r.locals_all;
    wires_all = r.wires_all;
    counted = r.counted;
    packs = λ p lt. same p lt ∙ r.packs p lt;
    flows = flow;
    parts_are = λ j x e. ⊎_elim
        (λ t i y here.
        let e' : get_elem? (map (touch_part f) v.parts) i ≡ some y = subst (λ (z : List Part). get_elem? z i ≡ some y) parts_is (subst (λ (z : View). get_elem? z.parts i ≡ some y) (sym t.1) here) in
        let b = at_map_back (touch_part f) v.parts i y e' in
        let done = part_own i b.0 b.1 (r.parts_are id v at i b.0 b.1) in
        subst (λ (k : ℕ). IsPart about words' r.counts r.history s r.owner k y) (sym t.0) (subst (IsPart about words' r.counts r.history s r.owner id) (sym b.2) done))
        (λ t i y here. part_other j y t.0 (r.parts_are j x t.1 i y here))
        (at_set views id j w x e);
    held = λ k lt. held_set views id v w (touch_part f) k at (λ y. refl) parts_is (r.held k lt);
    distinct = λ j x e i k y z here there same. ⊎_elim
        (λ t. let W : (View → Type 0) = λ q. get_elem? q.parts i ≡ some y in let W' : (View → Type 0) = λ q. get_elem? q.parts k ≡ some z in
        let b = at_map_back (touch_part f) v.parts i y (subst (λ (l : List Part). get_elem? l i ≡ some y) parts_is (subst W (sym t.1) here)) in
        let c = at_map_back (touch_part f) v.parts k z (subst (λ (l : List Part). get_elem? l k ≡ some z) parts_is (subst W' (sym t.1) there)) in
        r.distinct id v at i k b.0 c.0 b.1 c.1 (ap (λ (q : Part). q.worker) (sym b.2) ∙ same ∙ ap (λ (q : Part). q.worker) c.2))
        (λ t. r.distinct j x t.1 i k y z here there same)
        (at_set views id j w x e);
    some_worker = r.some_worker;
  }
