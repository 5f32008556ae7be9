-- A load of a data word and a store to one keep the rule.
use Rattle.std.proofs.Common.{◌^◌, ◌≡◌, ◌≢◌, ℕ, ◌+◌, ◌-◌, ◌*◌, ◌/◌, ◌%◌, ◌<◌, ◌≤◌, List, [], ◌∷◌, ◌++◌, length, get_or, set, refl, sym, ap, ap₂, ◌∙◌, subst, ⊎_elim, arith, mod-lt, length-set, get_or-set_same, get_or-set_other}
use mathlib.Core.Option.{none, some}
use mathlib.Core.Logic.{dite}
use native.Mathlib.Decide.{ℕ_discrete}
use lib.ListN.{get_elem?}
use lib.Seq.{set-get_or}
use Rattle.atomic_table.specs.Table.{Me, step, keeps, Allows}
use Rattle.atomic_table.proofs.Lists.{at_snoc}
use Rattle.raw_model.specs.Program.{ProgramSet}
use Rattle.raw_model.specs.Start.{MachineState}
use Rattle.raw_fabric_rule.specs.Views.{About, Held, Hold, View}
use Rattle.raw_fabric_rule.specs.ByEnds.{procs, wires, producer, producer_end, consumer, consumer_end, wire_at}
use Rattle.raw_fabric_rule.specs.Word.{data_word, status}
use Rattle.raw_fabric_rule.specs.Rule.{took, gave, IsFetched, IsStaged, IsHold, Flows, WordsStand, Rule}
use Rattle.raw_fabric_rule.specs.Plays.{HasHold, held, place_from, fetch, fetch_at, fetched, Fetched, stage, stage_at, staged, Staged}
use Rattle.raw_fabric_rule.specs.Conditions.{IsSeenSent, MayFetch, MayStage}
use Rattle.raw_fabric_rule.proofs.Lists.{cond_same, cond_other, flight_same}
use Rattle.raw_fabric_rule.proofs.Nets.{IsNet, is_net}
use Rattle.raw_fabric_rule.proofs.Words.{place_from-mod, place_from-above, word_wire, word_place}
use Rattle.raw_fabric_rule.proofs.Views.{worker_of, unmoved}

module _ (about : About) (words : List ℕ) (views : List View) (s : MachineState) (r : WordsStand about words views s) where
  abbrev n : ProgramSet
  n = about.set

  net : IsNet about.set
  net = is_net about.set r.is_set

  fetches_one : (v : View) (w k : ℕ) → w < wires about.set → k < 8 → IsSeenSent about v w k → (p : ℕ) (u : Hold) → HasHold v p u → IsHold about words r.counts r.history s p u
      → IsHold about words r.counts r.history s p (fetch w k (data_word about.set words w k) about p u)
  unfolding took gave
  fetches_one v w k lt small may p u has h =
      let x : ℕ = data_word n words w k in
      let e : ℕ = consumer_end n w in
      let place : ℕ = place_from (get_or u.counts e 0) k in
      let more : Hold = record u { fetched = u.fetched ++ held e place x ∷ [] } in dite (ℕ_discrete (consumer n w) p)
      (λ is. let wire_is : wire_at n p e ≡ w = ap (λ (z : ℕ). wire_at n z e) (sym is) ∙ (net).to_is w lt in
      let count : get_or u.counts e 0 ≡ took n r.counts w = ap (λ (l : List ℕ). get_or l e 0) h.counts_are ∙ ap (λ (z : ℕ). get_or (r.counts z) e 0) (sym is) in
      let seen : place < get_or u.seen e 0 = may u (subst (λ (z : ℕ). HasHold v z u) (sym is) has) in
      let real : get_or u.seen e 0 ≤ gave n r.counts w = (h.seen_sent w lt is).1 in
      let from : get_or u.counts e 0 ≤ place = place_from-above (get_or u.counts e 0) k in
      let new : IsFetched about words r.counts r.history s p (held e place x) = record {
        wired = subst (λ (z : ℕ). z < wires n) (sym wire_is) lt;
        mine = ap (consumer n) wire_is ∙ is;
        same_end = ap (consumer_end n) wire_is;
        taken_yet = subst (λ (z : ℕ). took n r.counts z ≤ place) (sym wire_is) (let g : took n r.counts w ≤ place = omega arith in g);
        sent_yet = subst (λ (z : ℕ). place < gave n r.counts z) (sym wire_is) (let g : place < gave n r.counts w = omega arith in g);
        stands_there = ap₂ (data_word n words) (sym wire_is) (sym (place_from-mod (get_or u.counts e 0) k small));
      } in
      let done : IsHold about words r.counts r.history s p more = record {
        within = h.within;
        local_is = h.local_is;
        touches_are = h.touches_are;
        counts_are = h.counts_are;
        watched = h.watched;
        seen_sent = h.seen_sent;
        seen_taken = h.seen_taken;
        fetched_is = λ i f at. ⊎_elim (λ old. h.fetched_is i f old) (λ z. subst (IsFetched about words r.counts r.history s p) z new) (at_snoc u.fetched (held e place x) f i at);
        staged_is = h.staged_is;
      } in
      subst (IsHold about words r.counts r.history s p) (sym (cond_same (consumer n w) p more u is)) done)
      (λ not. subst (IsHold about words r.counts r.history s p) (sym (cond_other (consumer n w) p more u not)) h)

  -- ---- a store to the word k of the wire w
  module _ (w k x : ℕ) (lt : w < wires about.set) (small : k < 8) (is_next : k ≡ gave about.set r.counts w % 8) where
    abbrev at_word : ℕ
    at_word = 16 * (procs about.set + w) + k

    other_word : (y j : ℕ) → j < 8 → ((y ≡ w) → (j ≡ k) → ⊥) → data_word about.set (set words at_word x) y j ≡ data_word about.set words y j
    unfolding data_word
    other_word y j jlt ne = get_or-set_other words at_word (16 * (procs about.set + y) + j) x 0 (λ e. let e' : 16 * (procs about.set + y) + j ≡ 16 * (procs about.set + w) + k = e in
        let a : y ≡ w = omega arith in
        let b : j ≡ k = omega arith in ne a b)

    this_word : data_word about.set (set words at_word x) w k ≡ x
    unfolding data_word
    this_word =
        let wd : length words ≡ 16 * (procs about.set + wires about.set) = r.wide in get_or-set_same words at_word x 0 (let g : at_word < length words = omega arith in g)

    -- a place in flight is not written
    in_flight : (y place : ℕ) → y < wires about.set → took about.set r.counts y ≤ place → place < gave about.set r.counts y → data_word about.set (set words at_word x) y (place % 8) ≡ data_word about.set words y (place % 8)
    in_flight y place ylt a b = other_word y (place % 8) (mod-lt place (omega arith)) (λ same hit.
        let fl = r.flows w lt in let t : ℕ = took about.set r.counts w in let g : ℕ = gave about.set r.counts w in
        let a' : t ≤ place = subst (λ (z : ℕ). took about.set r.counts z ≤ place) same a in
        let b' : place < g = subst (λ (z : ℕ). place < gave about.set r.counts z) same b in
        let bound = fl.bounded in let deep = r.is_set.small_depth in let hit' : place % 8 ≡ g % 8 = hit ∙ is_next in absurd (omega arith))

    flows_on : (y : ℕ) → y < wires about.set → Flows about (set words at_word x) r.counts r.history s y
    flows_on y ylt =
        let fl = r.flows y ylt in
        let t : ℕ = took about.set r.counts y in
        let g : ℕ = gave about.set r.counts y in
        let b : t ≤ g = fl.behind in record {
          opened_sent = fl.opened_sent;
          behind = fl.behind;
          bounded = fl.bounded;
          carries = fl.carries ∙ flight_same (data_word about.set words y) (data_word about.set (set words at_word x) y) t (g - t) (λ i h. sym (in_flight y (t + i) ylt (let z : t ≤ t + i = omega arith in z) (let z : t + i < g = omega arith in z)));
        }

    fetched_stays : (p : ℕ) (f : Held) → IsFetched about words r.counts r.history s p f → IsFetched about (set words at_word x) r.counts r.history s p f
    fetched_stays p f h = record {
      wired = h.wired;
      mine = h.mine;
      same_end = h.same_end;
      taken_yet = h.taken_yet;
      sent_yet = h.sent_yet;
      stands_there = h.stands_there ∙ sym (in_flight (wire_at about.set p f.end) f.place h.wired h.taken_yet h.sent_yet);
    }

    staged_stays : (p : ℕ) (f : Held) → ((wire_at about.set p f.end ≡ w) → ⊥) → IsStaged about words r.counts r.history s p f → IsStaged about (set words at_word x) r.counts r.history s p f
    staged_stays p f ne h = record {
      wired = h.wired;
      mine = h.mine;
      same_end = h.same_end;
      next = h.next;
      stands_there = h.stands_there ∙ sym (other_word (wire_at about.set p f.end) (f.place % 8) (mod-lt f.place (omega arith)) (λ same _. ne same));
    }

    hold_stays : (p : ℕ) (u : Hold) → ((i : ℕ) (f : Held) → get_elem? u.staged i ≡ some f → IsStaged about words r.counts r.history s p f → (wire_at about.set p f.end ≡ w) → ⊥) → IsHold about words r.counts r.history s p u → IsHold about (set words at_word x) r.counts r.history s p u
    hold_stays p u ne h = record {
      within = h.within;
      local_is = h.local_is;
      touches_are = h.touches_are;
      counts_are = h.counts_are;
      watched = h.watched;
      seen_sent = h.seen_sent;
      seen_taken = h.seen_taken;
      fetched_is = λ i f at. fetched_stays p f (h.fetched_is i f at);
      staged_is = λ i f at. staged_stays p f (ne i f at (h.staged_is i f at)) (h.staged_is i f at);
    }

    stages_one : (p : ℕ) (u : Hold) → ((producer about.set w ≡ p) → (i : ℕ) (f : Held) → get_elem? u.staged i ≡ some f → f.end ≢ producer_end about.set w) → IsHold about words r.counts r.history s p u
        → IsHold about (set words at_word x) r.counts r.history s p (stage w x about p u)
    unfolding gave
    stages_one p u fresh h = let e : ℕ = producer_end about.set w in let place : ℕ = get_or u.counts e 0 in
        let more : Hold = record u { staged = u.staged ++ held e place x ∷ [] } in dite (ℕ_discrete (producer about.set w) p)
        (λ is. let wire_is : wire_at about.set p e ≡ w = ap (λ (z : ℕ). wire_at about.set z e) (sym is) ∙ (net).from_is w lt in
        let count : place ≡ gave about.set r.counts w = ap (λ (l : List ℕ). get_or l e 0) h.counts_are ∙ ap (λ (z : ℕ). get_or (r.counts z) e 0) (sym is) in
        let old = hold_stays p u (λ i f at st hit. fresh is i f at (sym st.same_end ∙ ap (producer_end about.set) hit)) h in
        let new : IsStaged about (set words at_word x) r.counts r.history s p (held e place x) = record {
          wired = subst (λ (z : ℕ). z < wires about.set) (sym wire_is) lt;
          mine = ap (producer about.set) wire_is ∙ is;
          same_end = ap (producer_end about.set) wire_is;
          next = count ∙ ap (gave about.set r.counts) (sym wire_is);
          stands_there = sym (ap₂ (data_word about.set (set words at_word x)) wire_is (ap (λ (z : ℕ). z % 8) count ∙ sym is_next) ∙ this_word);
        } in
        let done : IsHold about (set words at_word x) r.counts r.history s p more = record {
          within = old.within;
          local_is = old.local_is;
          touches_are = old.touches_are;
          counts_are = old.counts_are;
          watched = old.watched;
          seen_sent = old.seen_sent;
          seen_taken = old.seen_taken;
          fetched_is = old.fetched_is;
          staged_is = λ i f at. ⊎_elim (λ z. old.staged_is i f z) (λ z. subst (IsStaged about (set words at_word x) r.counts r.history s p) z new) (at_snoc u.staged (held e place x) f i at);
        } in
        subst (IsHold about (set words at_word x) r.counts r.history s p) (sym (cond_same (producer about.set w) p more u is)) done)
        (λ not. subst (IsHold about (set words at_word x) r.counts r.history s p) (sym (cond_other (producer about.set w) p more u not))
        (hold_stays p u (λ i f at st hit. not (ap (producer about.set) (sym hit) ∙ st.mine)) h))

pub fetches : {S : Type 0} (about : About) (slots id : ℕ) (me : Me S View) (w k i : ℕ) → i ≡ 16 * (procs about.set + w) + k → MayFetch about me.0 w k
    → Allows (Rule about) slots id me i (λ x. x) (Fetched (step slots i 0 0 none) me)
unfolding fetched data_word
fetches about slots id me w k i is may st g long at _ =
    let lt = may.wired in
    let small = may.place in
    let x : ℕ = get_or st.words i 0 in let s : MachineState = g.0 in let r = g.1 in
    let same : set st.words i x ≡ st.words = set-get_or st.words i 0 in
    let word : data_word about.set st.words w k ≡ x = ap (λ (z : ℕ). get_or st.words z 0) (sym is) in
    let wire_is : i / 16 - procs about.set ≡ w = ap (λ (z : ℕ). z / 16 - procs about.set) is ∙ word_wire (procs about.set) w k small in
    let place_is : i % 16 ≡ k = ap (λ (z : ℕ). z % 16) is ∙ word_place (procs about.set) w k small in
    let form : (p : ℕ) (u : Hold) → fetch w k (data_word about.set st.words w k) about p u ≡ fetch_at i x about p u =
    λ p u j. fetch (sym wire_is j) (sym place_is j) (word j) about p u in (
      fetched i x me.0,
      keeps,
      tt,
      (
        s,
        subst (λ (ws : List ℕ). WordsStand about ws (set st.views id (fetched i x me.0)) s) (sym same)
            (unmoved about st.words st.words st.views s r id me.0 (fetched i x me.0) (fetch_at i x) at (λ p u _ h. h)
            (λ p u _ has h. subst (IsHold about st.words r.counts r.history s p) (form p u) (fetches_one about st.words st.views s r me.0 w k lt small may.seen p u has h)) refl refl (λ p l. refl) r.small r.flows),
      ),
      (refl, r.small i (let z : 16 * procs about.set ≤ i = omega arith in z)),
    )

pub stages : {S : Type 0} (about : About) (slots id : ℕ) (me : Me S View) (w k i x : ℕ) → i ≡ 16 * (procs about.set + w) + k → MayStage about me.0 w k x
    → Allows (Rule about) slots id me i (λ _. x) (λ _. Staged (step slots i x 0 none) me x)
unfolding staged gave status
stages about slots id me w k i x is may st g long at _ =
    let small = may.place in
    let s : MachineState = g.0 in
    let r = g.1 in
    let n = about.set in
    let lt : w < wires about.set = may.wired in
    let e : ℕ = producer_end about.set w in
    let wire_is : i / 16 - procs about.set ≡ w = ap (λ (z : ℕ). z / 16 - procs about.set) is ∙ word_wire (procs about.set) w k small in
    let part = r.parts_are id me.0 at may.has.at may.has.part may.has.part_at in
    let num : producer about.set w ≡ may.has.part.worker + may.has.index * about.workers = may.has.number ∙ ap (λ (a : About). may.has.part.worker + may.has.index * a.workers) part.about_is in
    let owner : r.owner (producer about.set w % about.workers) ≡ id = ap (λ (z : ℕ). r.owner (z % about.workers)) num ∙ (ap r.owner (worker_of may.has.part.worker may.has.index about.workers part.worker_in) ∙ part.owned) in
    let whole = subst (λ (z : ℕ). IsHold about st.words r.counts r.history s z may.holder) (sym num) (part.units_are may.has.index may.holder may.has.unit_at) in
    let next : k ≡ gave about.set r.counts w % 8 = may.next ∙ ap (λ (l : List ℕ). get_or l e 0 % 8) whole.counts_are in
    let there : ℕ = 16 * (procs about.set + w) + k in
    let wd : length st.words ≡ 16 * (procs about.set + wires about.set) = r.wide in
    let form : (p : ℕ) (u : Hold) → stage w x about p u ≡ stage_at i x about p u = λ p u j. stage (sym wire_is j) x about p u in
    let stays = unmoved about st.words (set st.words there x) st.views s r id me.0 (staged i x me.0) (stage_at i x) at
    (λ p u far h. hold_stays about st.words st.views s r w k x lt small next p u (λ j f _ sg hit. far (ap (λ (z : ℕ). r.owner (z % about.workers)) (sym sg.mine ∙ ap (producer about.set) hit) ∙ owner)) h)
    (λ p u _ has h. subst (IsHold about (set st.words there x) r.counts r.history s p) (form p u)
    (stages_one about st.words st.views s r w k x lt small next p u (λ e'. may.fresh u (subst (λ (z : ℕ). HasHold me.0 z u) (sym e') has)) h))
    refl (length-set st.words there x) (λ p pl. get_or-set_other st.words there (16 * p) x 0 (λ z. omega arith))
    (λ y above. dite (ℕ_discrete y there) (λ hit. subst (λ (z : ℕ). get_or (set st.words there x) z 0 < 2 ^ 32) (sym hit) (subst (λ (z : ℕ). z < 2 ^ 32) (sym (get_or-set_same st.words there x 0 (omega arith))) may.small)) (λ miss. subst (λ (z : ℕ). z < 2 ^ 32) (sym (get_or-set_other st.words there y x 0 miss)) (r.small y above)))
    (flows_on about st.words st.views s r w k x lt small next) in (
      staged i x me.0,
      keeps,
      tt,
      (s, subst (λ (z : ℕ). WordsStand about (set st.words z x) (set st.views id (staged i x me.0)) s) (sym is) stays),
      refl,
    )
