-- A load of a status word keeps the rule.
use Rattle.std.proofs.Common.{◌≡◌, ℕ, zero, suc, ◌+◌, ◌-◌, ◌*◌, ◌%◌, ◌<◌, ◌≤◌, eqb, ltb, cond, Bool, List, [], ◌∷◌, length, get_or, set, refl, sym, ap, ap₂, ◌∙◌, subst, arith, lt-ltb, le-ltb, le_refl}
use mathlib.Core.Option.{none, some}
use mathlib.Core.Logic.{dite}
use native.Mathlib.Decide.{ℕ_discrete}
use lib.ListN.{get_elem?}
use lib.Seq.{set-get_or}
use Rattle.atomic_table.specs.Table.{Me, step, keeps, Allows}
use Rattle.raw_model.specs.Program.{ProgramSet}
use Rattle.raw_model.specs.Start.{MachineState}
use Rattle.raw_fabric_rule.specs.Views.{About, Hold, View}
use Rattle.raw_fabric_rule.specs.ByEnds.{procs, wires, producer, producer_end, consumer, consumer_end, wire_at, wire}
use Rattle.raw_fabric_rule.specs.Word.{field, status, data_word}
use Rattle.raw_fabric_rule.specs.Rule.{took, gave, IsHold, WordsStand, Rule}
use Rattle.raw_fabric_rule.specs.Plays.{HasHold, Rises, BothEnds, SeesWord, StoodThen, LookTells, other_side, newest, seen_from, see, looked, Looked}
use Rattle.raw_fabric_rule.proofs.Lists.{cond_same, cond_other, length-flight}
use Rattle.raw_fabric_rule.proofs.Nets.{IsNet, is_net}
use Rattle.raw_fabric_rule.proofs.Words.{newest_sent, newest_taken, field-pack, same_word}
use Rattle.raw_fabric_rule.proofs.Views.{unmoved}

pub length-seen : (net : ProgramSet) (p q x : ℕ) (cs : List ℕ) (e : ℕ) (os : List ℕ) → length (seen_from net p q x cs e os) ≡ length os
length-seen net p q x cs e [] = refl
length-seen net p q x cs e (o ∷ os) = ap suc (length-seen net p q x cs (suc e) os)

abbrev pub seen_at : ProgramSet → ℕ → ℕ → ℕ → List ℕ → ℕ → ℕ → ℕ
seen_at net p q x cs e old = cond (eqb (other_side net p e) q) (newest net p x e (get_or cs e 0)) old

pub get_or-seen : (net : ProgramSet) (p q x : ℕ) (cs : List ℕ) (e : ℕ) (os : List ℕ) (i : ℕ) → i < length os → get_or (seen_from net p q x cs e os) i 0 ≡ seen_at net p q x cs (e + i) (get_or os i 0)
get_or-seen net p q x cs e [] i h = absurd (omega arith)
get_or-seen net p q x cs e (o ∷ os) zero h = ap (λ (k : ℕ). seen_at net p q x cs k o) (let z : e ≡ e + 0 = omega arith in z)
get_or-seen net p q x cs e (o ∷ os) (suc i) h = get_or-seen net p q x cs (suc e) os i (omega arith) ∙ ap (λ (k : ℕ). seen_at net p q x cs k (get_or os i 0)) (let z : suc e + i ≡ e + suc i = omega arith in z)

pub input_side : {A : Type 0} (e : ℕ) (a b : A) → e < 10 → cond (ltb e 10) a b ≡ a
input_side e a b h = ap (λ (v : Bool). cond v a b) (lt-ltb e 10 h)

pub output_side : {A : Type 0} (e : ℕ) (a b : A) → 10 ≤ e → cond (ltb e 10) a b ≡ b
output_side e a b h = ap (λ (v : Bool). cond v a b) (le-ltb e 10 h)

module _ (about : About) (words : List ℕ) (views : List View) (s : MachineState) (r : WordsStand about words views s) where
  abbrev n : ProgramSet
  n = about.set

  net : IsNet about.set
  net = is_net about.set r.is_set

  pub status_field : (p e : ℕ) → p < procs about.set → field e (status words p) ≡ get_or (r.counts p) e 0 % 8
  status_field p e h = ap (field e) (r.packs p h) ∙ field-pack (r.counts p) e

  -- what a load of the status word of q shows at the ends of p
  shows_sent : (p q w : ℕ) (cs : List ℕ) (old : ℕ) → w < wires about.set → consumer about.set w ≡ p → cs ≡ r.counts p → producer about.set w ≡ q
      → seen_at about.set p q (status words q) cs (consumer_end about.set w) old ≡ gave about.set r.counts w
  unfolding took gave
  shows_sent p q w cs old lt c is prod =
      let e : ℕ = consumer_end n w in let x : ℕ = status words q in let made = (net).made w lt in let fl = r.flows w lt in
      let wire_is : wire_at n p e ≡ w = ap (λ (k : ℕ). wire_at n k e) (sym c) ∙ (net).to_is w lt in
      let side : other_side n p e ≡ q = input_side e (producer n (wire_at n p e)) (consumer n (wire_at n p e)) made.4 ∙ ap (producer n) wire_is ∙ prod in
      let count : get_or cs e 0 ≡ took n r.counts w = ap (λ (l : List ℕ). get_or l e 0) is ∙ ap (λ (k : ℕ). get_or (r.counts k) e 0) (sym c) in
      let shown : field (producer_end n (wire_at n p e)) x ≡ gave n r.counts w % 8 =
      ap (λ (k : ℕ). field (producer_end n k) x) wire_is ∙ status_field q (producer_end n w) (subst (λ (k : ℕ). k < procs n) prod made.0) ∙ ap (λ (k : ℕ). get_or (r.counts k) (producer_end n w) 0 % 8) (sym prod) in
      let new : newest n p x e (get_or cs e 0) ≡ gave n r.counts w =
      input_side e (get_or cs e 0 + (field (producer_end n (wire_at n p e)) x + 8 - get_or cs e 0 % 8) % 8) (get_or cs e 0 - (get_or cs e 0 % 8 + 8 - field (consumer_end n (wire_at n p e)) x) % 8) made.4
      ∙ ap₂ (λ (c f : ℕ). c + (f + 8 - c % 8) % 8) count shown ∙ newest_sent (took n r.counts w) (gave n r.counts w) fl.behind (let b = fl.bounded in
      let d = r.is_set.small_depth in omega arith) in
      cond_same (other_side n p e) q (newest n p x e (get_or cs e 0)) old side ∙ new

  shows_taken : (p q w : ℕ) (cs : List ℕ) (old : ℕ) → w < wires about.set → producer about.set w ≡ p → cs ≡ r.counts p → consumer about.set w ≡ q
      → seen_at about.set p q (status words q) cs (producer_end about.set w) old ≡ took about.set r.counts w
  unfolding took gave
  shows_taken p q w cs old lt c is cons =
      let e : ℕ = producer_end n w in let x : ℕ = status words q in let made = (net).made w lt in let fl = r.flows w lt in
      let wire_is : wire_at n p e ≡ w = ap (λ (k : ℕ). wire_at n k e) (sym c) ∙ (net).from_is w lt in
      let side : other_side n p e ≡ q = output_side e (producer n (wire_at n p e)) (consumer n (wire_at n p e)) made.3 ∙ ap (consumer n) wire_is ∙ cons in
      let count : get_or cs e 0 ≡ gave n r.counts w = ap (λ (l : List ℕ). get_or l e 0) is ∙ ap (λ (k : ℕ). get_or (r.counts k) e 0) (sym c) in
      let shown : field (consumer_end n (wire_at n p e)) x ≡ took n r.counts w % 8 =
      ap (λ (k : ℕ). field (consumer_end n k) x) wire_is ∙ status_field q (consumer_end n w) (subst (λ (k : ℕ). k < procs n) cons made.1) ∙ ap (λ (k : ℕ). get_or (r.counts k) (consumer_end n w) 0 % 8) (sym cons) in
      let new : newest n p x e (get_or cs e 0) ≡ took n r.counts w =
      output_side e (get_or cs e 0 + (field (producer_end n (wire_at n p e)) x + 8 - get_or cs e 0 % 8) % 8) (get_or cs e 0 - (get_or cs e 0 % 8 + 8 - field (consumer_end n (wire_at n p e)) x) % 8) made.3
      ∙ ap₂ (λ (c f : ℕ). c - (c % 8 + 8 - f) % 8) count shown ∙ newest_taken (took n r.counts w) (gave n r.counts w) fl.behind (let b = fl.bounded in
      let d = r.is_set.small_depth in omega arith) in
      cond_same (other_side n p e) q (newest n p x e (get_or cs e 0)) old side ∙ new

  sees : (q p : ℕ) (u : Hold) → IsHold about words r.counts r.history s p u → IsHold about words r.counts r.history s p (see q (status words q) about p u)
  sees q p u h = let x : ℕ = status words q in record {
    within = h.within;
    local_is = h.local_is;
    touches_are = h.touches_are;
    counts_are = h.counts_are;
    watched = length-seen n p q x u.counts 0 u.seen ∙ h.watched;
    seen_sent = λ w lt c. let e : ℕ = consumer_end n w in let made = (net).made w lt in let old = h.seen_sent w lt c in
        let small : e < 10 = made.4 in let wt : length u.seen ≡ 20 = h.watched in
        let got : get_or (seen_from n p q x u.counts 0 u.seen) e 0 ≡ seen_at n p q x u.counts e (get_or u.seen e 0) =
        get_or-seen n p q x u.counts 0 u.seen e (omega arith) ∙ ap (λ (k : ℕ). seen_at n p q x u.counts k (get_or u.seen e 0)) (let z : 0 + e ≡ e = omega arith in z) in
        let P : ℕ → Type 0 = λ z. (length (wire about.opened w) ≤ z) × (z ≤ gave n r.counts w) in
        subst P (sym got) (dite (ℕ_discrete (producer n w) q)
        (λ is. subst P (sym (shows_sent p q w u.counts (get_or u.seen e 0) lt c h.counts_are is)) ((r.flows w lt).opened_sent, le_refl (gave n r.counts w)))
        (λ not. let wire_is : wire_at n p e ≡ w = ap (λ (k : ℕ). wire_at n k e) (sym c) ∙ (net).to_is w lt in
        let side : other_side n p e ≡ producer n w = input_side e (producer n (wire_at n p e)) (consumer n (wire_at n p e)) small ∙ ap (producer n) wire_is in
        subst P (sym (cond_other (other_side n p e) q (newest n p x e (get_or u.counts e 0)) (get_or u.seen e 0) (λ z. not (sym side ∙ z)))) old));
    seen_taken = λ w lt c. let e : ℕ = producer_end n w in let made = (net).made w lt in let old = h.seen_taken w lt c in
        let small : e < 20 = made.2 in let big : 10 ≤ e = made.3 in let wt : length u.seen ≡ 20 = h.watched in
        let got : get_or (seen_from n p q x u.counts 0 u.seen) e 0 ≡ seen_at n p q x u.counts e (get_or u.seen e 0) =
        get_or-seen n p q x u.counts 0 u.seen e (omega arith) ∙ ap (λ (k : ℕ). seen_at n p q x u.counts k (get_or u.seen e 0)) (let z : 0 + e ≡ e = omega arith in z) in
        let P : ℕ → Type 0 = λ z. z ≤ took n r.counts w in
        subst P (sym got) (dite (ℕ_discrete (consumer n w) q)
        (λ is. subst P (sym (shows_taken p q w u.counts (get_or u.seen e 0) lt c h.counts_are is)) (le_refl (took n r.counts w)))
        (λ not. let wire_is : wire_at n p e ≡ w = ap (λ (k : ℕ). wire_at n k e) (sym c) ∙ (net).from_is w lt in
        let side : other_side n p e ≡ consumer n w = output_side e (producer n (wire_at n p e)) (consumer n (wire_at n p e)) big ∙ ap (consumer n) wire_is in
        subst P (sym (cond_other (other_side n p e) q (newest n p x e (get_or u.counts e 0)) (get_or u.seen e 0) (λ z. not (sym side ∙ z)))) old));
    fetched_is = h.fetched_is;
    staged_is = h.staged_is;
  }

  -- a load lowers no seen count
  rises : (q p : ℕ) (u : Hold) → IsHold about words r.counts r.history s p u → Rises about p u (see q (status words q) about p u)
  rises q p u h = let x : ℕ = status words q in record {
    sent = λ w lt c. let e : ℕ = consumer_end n w in let made = (net).made w lt in let old = h.seen_sent w lt c in
        let small : e < 10 = made.4 in let wt : length u.seen ≡ 20 = h.watched in
        let got : get_or (seen_from n p q x u.counts 0 u.seen) e 0 ≡ seen_at n p q x u.counts e (get_or u.seen e 0) =
        get_or-seen n p q x u.counts 0 u.seen e (omega arith) ∙ ap (λ (k : ℕ). seen_at n p q x u.counts k (get_or u.seen e 0)) (let z : 0 + e ≡ e = omega arith in z) in
        let P : ℕ → Type 0 = λ z. get_or u.seen e 0 ≤ z in
        subst P (sym got) (dite (ℕ_discrete (producer n w) q)
        (λ is. subst P (sym (shows_sent p q w u.counts (get_or u.seen e 0) lt c h.counts_are is)) old.1)
        (λ not. let wire_is : wire_at n p e ≡ w = ap (λ (k : ℕ). wire_at n k e) (sym c) ∙ (net).to_is w lt in
        let side : other_side n p e ≡ producer n w = input_side e (producer n (wire_at n p e)) (consumer n (wire_at n p e)) small ∙ ap (producer n) wire_is in
        subst P (sym (cond_other (other_side n p e) q (newest n p x e (get_or u.counts e 0)) (get_or u.seen e 0) (λ z. not (sym side ∙ z)))) (le_refl (get_or u.seen e 0))));
    taken = λ w lt c. let e : ℕ = producer_end n w in let made = (net).made w lt in let old = h.seen_taken w lt c in
        let small : e < 20 = made.2 in let big : 10 ≤ e = made.3 in let wt : length u.seen ≡ 20 = h.watched in
        let got : get_or (seen_from n p q x u.counts 0 u.seen) e 0 ≡ seen_at n p q x u.counts e (get_or u.seen e 0) =
        get_or-seen n p q x u.counts 0 u.seen e (omega arith) ∙ ap (λ (k : ℕ). seen_at n p q x u.counts k (get_or u.seen e 0)) (let z : 0 + e ≡ e = omega arith in z) in
        let P : ℕ → Type 0 = λ z. get_or u.seen e 0 ≤ z in
        subst P (sym got) (dite (ℕ_discrete (consumer n w) q)
        (λ is. subst P (sym (shows_taken p q w u.counts (get_or u.seen e 0) lt c h.counts_are is)) old)
        (λ not. let wire_is : wire_at n p e ≡ w = ap (λ (k : ℕ). wire_at n k e) (sym c) ∙ (net).from_is w lt in
        let side : other_side n p e ≡ consumer n w = output_side e (producer n (wire_at n p e)) (consumer n (wire_at n p e)) big ∙ ap (consumer n) wire_is in
        subst P (sym (cond_other (other_side n p e) q (newest n p x e (get_or u.counts e 0)) (get_or u.seen e 0) (λ z. not (sym side ∙ z)))) (le_refl (get_or u.seen e 0))));
  }

  -- the unit of a seat is held as the rule says
  pub hold_of : (id : ℕ) (v : View) → get_elem? views id ≡ some v → (p : ℕ) (u : Hold) (h : HasHold v p u) → (h.part.about ≡ about) × IsHold about words r.counts r.history s p u
  hold_of id v at p u h = let part = r.parts_are id v at h.at h.part h.part_at in
      let num : p ≡ h.part.worker + h.index * about.workers = h.number ∙ ap (λ (a : About). h.part.worker + h.index * a.workers) part.about_is in
      (part.about_is, subst (λ (z : ℕ). IsHold about words r.counts r.history s z u) (sym num) (part.units_are h.index u h.unit_at))

  -- after a look at the other end of a wire the count seen of it is the real one
  seen_sent_is : (q p : ℕ) (u : Hold) → IsHold about words r.counts r.history s p u → (w : ℕ) → w < wires about.set → consumer about.set w ≡ p → producer about.set w ≡ q
      → get_or (see q (status words q) about p u).seen (consumer_end about.set w) 0 ≡ gave about.set r.counts w
  seen_sent_is q p u h w lt c d = let x : ℕ = status words q in let e : ℕ = consumer_end n w in
      let made = (net).made w lt in
      let small : e < 10 = made.4 in
      let wt : length u.seen ≡ 20 = h.watched in
      get_or-seen n p q x u.counts 0 u.seen e (omega arith) ∙ ap (λ (k : ℕ). seen_at n p q x u.counts k (get_or u.seen e 0)) (let z : 0 + e ≡ e = omega arith in z)
      ∙ shows_sent p q w u.counts (get_or u.seen e 0) lt c h.counts_are d

  seen_taken_is : (q p : ℕ) (u : Hold) → IsHold about words r.counts r.history s p u → (w : ℕ) → w < wires about.set → producer about.set w ≡ p → consumer about.set w ≡ q
      → get_or (see q (status words q) about p u).seen (producer_end about.set w) 0 ≡ took about.set r.counts w
  seen_taken_is q p u h w lt c d = let x : ℕ = status words q in let e : ℕ = producer_end n w in
      let made = (net).made w lt in
      let small : e < 20 = made.2 in
      let wt : length u.seen ≡ 20 = h.watched in
      get_or-seen n p q x u.counts 0 u.seen e (omega arith) ∙ ap (λ (k : ℕ). seen_at n p q x u.counts k (get_or u.seen e 0)) (let z : 0 + e ≡ e = omega arith in z)
      ∙ shows_taken p q w u.counts (get_or u.seen e 0) lt c h.counts_are d

  both_ends : (id : ℕ) (v : View) → get_elem? views id ≡ some v → (p q : ℕ) (u : Hold) → IsHold about words r.counts r.history s p u → BothEnds about v p q (see q (status words q) about p u)
  unfolding took gave
  both_ends id v at p q u h = record {
    sent = λ w o lt c d has. seen_sent_is q p u h w lt c d ∙ (λ i. get_or ((ap r.counts d ∙ sym (hold_of id v at q o has).1.counts_are) i) (producer_end n w) 0);
    taken = λ w o lt c d has. seen_taken_is q p u h w lt c d ∙ (λ i. get_or ((ap r.counts d ∙ sym (hold_of id v at q o has).1.counts_are) i) (consumer_end n w) 0);
  }

  -- modulo 8 a look shows the word
  sees_word : (q p : ℕ) (u : Hold) → IsHold about words r.counts r.history s p u → SeesWord about p q (status words q) (see q (status words q) about p u)
  unfolding took gave
  sees_word q p u h = record {
    sent = λ w lt c d. let made = (net).made w lt in
        ap (λ z. z % 8) (seen_sent_is q p u h w lt c d)
        ∙ sym (status_field q (producer_end n w) (subst (λ (k : ℕ). k < procs n) d made.0) ∙ ap (λ (k : ℕ). get_or (r.counts k) (producer_end n w) 0 % 8) (sym d));
    taken = λ w lt c d. let made = (net).made w lt in
        ap (λ z. z % 8) (seen_taken_is q p u h w lt c d)
        ∙ sym (status_field q (consumer_end n w) (subst (λ (k : ℕ). k < procs n) d made.1) ∙ ap (λ (k : ℕ). get_or (r.counts k) (consumer_end n w) 0 % 8) (sym d));
  }

  long_wire : (w : ℕ) → w < wires about.set → length (wire s w) ≡ gave about.set r.counts w - took about.set r.counts w
  long_wire w lt = ap length (r.flows w lt).carries ∙ length-flight (data_word n words w) (took n r.counts w) (gave n r.counts w - took n r.counts w)

  -- the state stood with the view of the seat id
  stood_then : (id : ℕ) (v : View) → get_elem? views id ≡ some v → (q p : ℕ) (u : Hold) → IsHold about words r.counts r.history s p u → StoodThen about v p q u (see q (status words q) about p u)
  unfolding took gave
  stood_then id v at q p u h = record {
    stood = record { words = words; views = views; state = s; stands = r; seat = id; at = at };
    local_is = sym h.local_is;
    sent = λ w lt c d. let e : ℕ = consumer_end n w in
        let own : get_or u.counts e 0 ≡ took n r.counts w = ap (λ (l : List ℕ). get_or l e 0) (h.counts_are ∙ ap r.counts (sym c)) in
        let seen = seen_sent_is q p u h w lt c d in let long = long_wire w lt in let behind = (r.flows w lt).behind in omega arith;
    taken = λ w lt c d. let e : ℕ = producer_end n w in
        let own : get_or u.counts e 0 ≡ gave n r.counts w = ap (λ (l : List ℕ). get_or l e 0) (h.counts_are ∙ ap r.counts (sym c)) in
        let seen = seen_taken_is q p u h w lt c d in let long = long_wire w lt in let behind = (r.flows w lt).behind in omega arith;
  }

  -- what a look at q tells the seat id
  tells : (id : ℕ) (v : View) → get_elem? views id ≡ some v → (q p : ℕ) (u : Hold) (h : HasHold v p u) → LookTells h.part.about v p q (status words q) u (see q (status words q) h.part.about p u)
  tells id v at q p u h = let o = hold_of id v at p u h in
      subst (λ (a : About). LookTells a v p q (status words q) u (see q (status words q) a p u)) (sym o.0)
      (record { rises = rises q p u o.1; both = both_ends id v at p q u o.1; word = sees_word q p u o.1; stood = stood_then id v at q p u o.1 })

pub looks : {S : Type 0} (about : About) (slots id : ℕ) (me : Me S View) (q : ℕ) → Allows (Rule about) slots id me (16 * q) (λ x. x) (Looked (step slots (16 * q) 0 0 none) me)
unfolding looked status
looks {S = S} about slots id me q st g long at small =
    let x : ℕ = status st.words q in let s : MachineState = g.0 in let r = g.1 in
    let same : set st.words (16 * q) x ≡ st.words = set-get_or st.words (16 * q) 0 in (
      looked q x me.0,
      keeps,
      tt,
      (
        s,
        subst (λ (ws : List ℕ). WordsStand about ws (set st.views id (looked q x me.0)) s) (sym same)
            (unmoved about st.words st.words st.views s r id me.0 (looked q x me.0) (see q x) at (λ p u _ h. h) (λ p u _ _ h. sees about st.words st.views s r q p u h) refl refl (λ p lt. refl) r.small r.flows),
      ),
      (λ o e. subst (λ (z : ℕ). (◌≡◌ {A = Me S View} (looked q x me.0, me.1) (looked z x me.0, me.1)) × ((p : ℕ) (u : Hold) (h : HasHold me.0 p u) → LookTells h.part.about me.0 p z x u (see z x h.part.about p u))) (same_word q o e)
          (refl, tells about st.words st.views s r id me.0 at q)),
    )

pub looks_at : {S : Type 0} (about : About) (slots id : ℕ) (me : Me S View) (i q : ℕ) → i ≡ 16 * q → Allows (Rule about) slots id me i (λ x. x) (Looked (step slots i 0 0 none) me)
looks_at about slots id me i q e = subst (λ (z : ℕ). Allows (Rule about) slots id me z (λ x. x) (Looked (step slots z 0 0 none) me)) (sym e) (looks about slots id me q)
