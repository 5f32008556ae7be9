-- The store of a status word is one step of the machine.
use Rattle.std.proofs.Common.{true, ◌^◌, ◌≡◌, ◌≢◌, ℕ, zero, suc, ◌+◌, ◌-◌, ◌*◌, ◌%◌, ◌<◌, ◌≤◌, eqb, cond, List, [], ◌∷◌, ◌++◌, map, length, get_or, set, drop, refl, sym, ap, ap₂, ◌∙◌, subst, ⊎_elim, arith, append-nil, length-set, get_or-set_same, get_or-set_other, eq-zero-or-pos}
use mathlib.Core.Option.{none, some, some-injective, some-ne-none}
use mathlib.Core.Logic.{dite}
use native.Mathlib.Decide.{ℕ_discrete}
use lib.ListN.{get_elem?}
use Rattle.atomic_table.specs.Table.{Me, step as table_step, keeps, Allows}
use Rattle.atomic_table.proofs.Lists.{at_set}
use Rattle.std.proofs.lemmas.Nat.{same_from_place}
use Rattle.raw_model.specs.Program.{ProgramSet}
use Rattle.raw_model.specs.Start.{MachineState}
use Rattle.raw_fabric_rule.specs.Views.{About, Held, Hold, Part, View}
use Rattle.std.specs.List.{All}
use Rattle.std.proofs.lemmas.List.Elements.{All-head, All-tail, All-nil, All-cons}
use Rattle.raw_network.specs.Network.{count_of}
use Rattle.raw_model.specs.Local.{Local}
use Rattle.raw_model.specs.Machine.{is_stopped, takes}
use Rattle.raw_model.specs.Rest.{enabled, step}
use Rattle.raw_fabric_rule.specs.ByEnds.{procs, wires, producer, producer_end, consumer, consumer_end, wire_at, needs, taken, put_on, fills, sent_to_wire, next_local, touched_by, local, wire}
use Rattle.raw_fabric_rule.specs.Word.{pack, status, data_word, flight}
use Rattle.raw_fabric_rule.specs.Rule.{took, gave, touches_by_step, IsFetched, IsHold, IsPart, Flows, WordsStand, HasStood, Rule}
use Rattle.raw_fabric_rule.specs.Plays.{held, held_value, values_of, counts_after, bumped, fired_unit, fire, fire_part, fired, Fired, HasHold}
use Rattle.raw_fabric_rule.specs.Conditions.{wanted, blank, MayFire}
use Rattle.raw_fabric_rule.specs.Commit.{IsStepOf}
use Rattle.raw_fabric_rule.proofs.Lists.{cond_same, cond_other, at_map_back, at_touched, length-touched, flight_same, length-flight, get_or-flight, drop-flight, flight_more, length-bumped, get_or-bumped, steps_of-snoc, steps_of-other, one_if, short_list}
use Rattle.raw_fabric_rule.proofs.Nets.{IsInput, IsOutput, IsNet, is_net, one_input, taken_all, taken_is, put_is, filled_is, value_is, taken_other, put_other, sent_other, put_once, sent_named, no_needs, no_fills, counts_same}
use Rattle.raw_fabric_rule.proofs.Looks.{hold_of}
use Rattle.raw_fabric_rule.proofs.Views.{worker_of, held_set}
use Rattle.raw_fabric_rule.proofs.Words.{same_word}
use Rattle.raw_fabric_rule.proofs.Steps.{operands, local_same, local_other, locals_long, wire_step, wires_long, enabled_is, operands_on, operands_are, end-snoc, lawful-snoc, touches-snoc, touches-other}

nil_cons : {A : Type 0} (x : A) (xs : List A) → ([] ≡ x ∷ xs) → ⊥
nil_cons x xs e = cc

cons_nil : {A : Type 0} (x : A) (xs : List A) → (x ∷ xs ≡ []) → ⊥
cons_nil x xs e = cc

only_one : {A : Type 0} (x : A) (i : ℕ) (z : A) → get_elem? (x ∷ []) i ≡ some z → x ≡ z
only_one x zero z e = some-injective x z e
only_one x (suc i) z e = absurd (some-ne-none z (sym e))

module _ (about : About) (words : List ℕ) (views : List View) (s : MachineState) (r : WordsStand about words views s) (id : ℕ) (v : View) (at : get_elem? views id ≡ some v) (p word : ℕ) (m : MayFire about v p word) where
  abbrev n : ProgramSet
  n = about.set

  net : IsNet about.set
  net = is_net about.set r.is_set

  abbrev u : Hold
  u = m.holder

  abbrev vs : List ℕ
  vs = values_of m.holder

  abbrev y : Part
  y = m.part

  part : IsPart about words r.counts r.history s r.owner id m.part
  part = r.parts_are id v at 0 y (ap (λ (l : List Part). get_elem? l 0) m.alone)

  num : p ≡ m.part.worker + m.index * about.workers
  num = m.number ∙ ap (λ (a : About). y.worker + m.index * a.workers) part.about_is

  whole : IsHold about words r.counts r.history s p m.holder
  whole = subst (λ (z : ℕ). IsHold about words r.counts r.history s z u) (sym num) (part.units_are m.index u m.unit_at)

  rest_is : p % about.workers ≡ m.part.worker
  rest_is = ap (λ (z : ℕ). z % about.workers) num ∙ worker_of y.worker m.index about.workers part.worker_in

  owner_is : r.owner (p % about.workers) ≡ id
  owner_is = ap r.owner rest_is ∙ part.owned

  abbrev after : ℕ → List ℕ
  after q = cond (eqb q p) (counts_after n p u) (r.counts q)

  count_20 : length m.holder.counts ≡ 20
  count_20 = ap length whole.counts_are ∙ r.counted p whole.within

  after_at : (e : ℕ) → e < 20 → get_or (counts_after about.set p m.holder) e 0 ≡ get_or m.holder.counts e 0 + count_of e (needs about.set p m.holder.local) + count_of e (fills about.set p m.holder.local (values_of m.holder))
  after_at e h = let len : length u.counts ≡ 20 = count_20 in let b = length-bumped (needs n p u.local) u.counts in
      let x = get_or-bumped (fills n p u.local vs) (bumped (needs n p u.local) u.counts) e (omega arith) in
      let z = get_or-bumped (needs n p u.local) u.counts e (omega arith) in omega arith

  -- the counts of p at the two ends of a wire
  own_in : (w : ℕ) → w < wires about.set → consumer about.set w ≡ p → IsInput about.set p w
  own_in w lt is = record { there = lt; own = is }

  own_out : (w : ℕ) → w < wires about.set → producer about.set w ≡ p → IsOutput about.set p w
  own_out w lt is = record { there = lt; own = is }

  took_after : (w : ℕ) → w < wires about.set → took about.set after w ≡ took about.set r.counts w + taken about.set p m.holder.local w
  unfolding took
  took_after w lt =
      let e : ℕ = consumer_end n w in
      let made = (net).made w lt in
      let small : e < 10 = made.4 in
      let a = counts_after n p u in dite (ℕ_discrete (consumer n w) p)
      (λ is. let c : get_or (after (consumer n w)) e 0 ≡ get_or a e 0 = ap (λ (l : List ℕ). get_or l e 0) (cond_same (consumer n w) p a (r.counts (consumer n w)) is) in
      let old : get_or u.counts e 0 ≡ get_or (r.counts (consumer n w)) e 0 = ap (λ (l : List ℕ). get_or l e 0) (whole.counts_are ∙ ap r.counts (sym is)) in
      let t = taken_is n r.is_set p u.local w (own_in w lt is) in
      let x = after_at e (omega arith) in let z = no_fills n r.is_set p e u.local vs small in omega arith)
      (λ not. let c : get_or (after (consumer n w)) e 0 ≡ get_or (r.counts (consumer n w)) e 0 = ap (λ (l : List ℕ). get_or l e 0) (cond_other (consumer n w) p a (r.counts (consumer n w)) not) in
      let t = taken_other n r.is_set p u.local w (λ own. not own.own) in omega arith)

  gave_after : (w : ℕ) → w < wires about.set → gave about.set after w ≡ gave about.set r.counts w + length (sent_to_wire about.set p m.holder.local (values_of m.holder) w)
  unfolding gave
  gave_after w lt =
      let e : ℕ = producer_end n w in
      let made = (net).made w lt in
      let small : e < 20 = made.2 in
      let big : 10 ≤ e = made.3 in
      let a = counts_after n p u in dite (ℕ_discrete (producer n w) p)
      (λ is. let c : get_or (after (producer n w)) e 0 ≡ get_or a e 0 = ap (λ (l : List ℕ). get_or l e 0) (cond_same (producer n w) p a (r.counts (producer n w)) is) in
      let old : get_or u.counts e 0 ≡ get_or (r.counts (producer n w)) e 0 = ap (λ (l : List ℕ). get_or l e 0) (whole.counts_are ∙ ap r.counts (sym is)) in
      let t = filled_is n r.is_set p u.local vs w (own_out w lt is) in
      let x = after_at e small in let z = no_needs n r.is_set p e u.local big in omega arith)
      (λ not. let c : get_or (after (producer n w)) e 0 ≡ get_or (r.counts (producer n w)) e 0 = ap (λ (l : List ℕ). get_or l e 0) (cond_other (producer n w) p a (r.counts (producer n w)) not) in
      let t = ap length (sent_other n r.is_set p u.local vs w (λ own. not own.own)) in omega arith)

  -- p may fire in the state that stands
  enough : (w : ℕ) → w < wires about.set → taken about.set p m.holder.local w + took about.set r.counts w ≤ gave about.set r.counts w
  unfolding took
  enough w lt =
      let e : ℕ = consumer_end n w in
      let fl = r.flows w lt in
      let b : took n r.counts w ≤ gave n r.counts w = fl.behind in dite (ℕ_discrete (consumer n w) p)
      (λ is. let t = taken_is n r.is_set p u.local w (own_in w lt is) in
      let old : get_or u.counts e 0 ≡ get_or (r.counts (consumer n w)) e 0 = ap (λ (l : List ℕ). get_or l e 0) (whole.counts_are ∙ ap r.counts (sym is)) in
      let c = (whole.seen_sent w lt is).1 in ⊎_elim (λ (z : count_of e (needs n p u.local) ≡ 0). omega arith) (λ pos. let a = m.shows.values e pos in omega arith) (eq-zero-or-pos (count_of e (needs n p u.local))))
      (λ not. let t = taken_other n r.is_set p u.local w (λ own. not own.own) in omega arith)

  -- each output that the row names has room
  named_room : (w : ℕ) → w < wires about.set → 0 < put_on about.set p m.holder.local w → gave about.set r.counts w < took about.set r.counts w + about.set.depth
  unfolding gave
  named_room w lt pos = let e : ℕ = producer_end n w in dite (ℕ_discrete (producer n w) p)
      (λ is. let t = put_is n r.is_set p u.local w (own_out w lt is) in
      let old : get_or u.counts e 0 ≡ get_or (r.counts (producer n w)) e 0 = ap (λ (l : List ℕ). get_or l e 0) (whole.counts_are ∙ ap r.counts (sym is)) in
      let a = m.shows.room e (omega arith) in let c = whole.seen_taken w lt is in omega arith)
      (λ not. let t = put_other n r.is_set p u.local w (λ own. not own.own) in absurd (omega arith))

  -- and each that it sends to is its own
  sends_own : (w : ℕ) → w < wires about.set → 0 < length (sent_to_wire about.set p m.holder.local (values_of m.holder) w) → IsOutput about.set p w
  sends_own w lt pos = dite (ℕ_discrete (producer n w) p) (λ is. own_out w lt is) (λ not. let t = ap length (sent_other n r.is_set p u.local vs w (λ own. not own.own)) in absurd (omega arith))

  long_wire : (w : ℕ) → w < wires about.set → length (wire s w) ≡ gave about.set r.counts w - took about.set r.counts w
  long_wire w lt = ap length (r.flows w lt).carries ∙ length-flight (data_word n words w) (took n r.counts w) (gave n r.counts w - took n r.counts w)

  pub is_enabled : enabled about.set s p ≡ true
  is_enabled =
      let l = whole.local_is in enabled_is n r.is_set s p (subst (λ (z : ℕ). p < z) (sym r.locals_all) whole.within) (ap (is_stopped n p) (sym l) ∙ m.shows.going)
      (λ w lt. let a = enough w lt in
      let b = long_wire w lt in
      let c : taken n p u.local w ≡ taken n p (local s p) w = ap (λ (z : Local). taken n p z w) l in omega arith)
      (λ w lt pos. let c : put_on n p u.local w ≡ put_on n p (local s p) w = ap (λ (z : Local). put_on n p z w) l in
      let a = named_room w lt (omega arith) in
      let b = long_wire w lt in
      let f : took n r.counts w ≤ gave n r.counts w = (r.flows w lt).behind in omega arith)

  -- the values fetched are the operands
  fronts : (done ws : List ℕ) (fs : List Held) → All (IsInput about.set p) done → All (IsInput about.set p) ws
      → ((i : ℕ) (f : Held) → get_elem? fs i ≡ some f → IsFetched about words r.counts r.history s p f)
      → map blank fs ≡ wanted m.holder.counts (map (consumer_end about.set) done) (map (consumer_end about.set) ws) → operands_on s done ws ≡ map held_value fs
  unfolding took
  fronts done [] [] before own each e = refl
  fronts done [] (f ∷ fs) before own each e = absurd (cons_nil (blank f) (map blank fs) e)
  fronts done (x ∷ ws) [] before own each e = let c = consumer_end n in absurd (nil_cons (held (c x) (get_or m.holder.counts (c x) 0 + count_of (c x) (map c done)) 0) (wanted m.holder.counts (c x ∷ map c done) (map c ws)) e)
  fronts done (x ∷ ws) (f ∷ fs) before own each e =
      let none_held : Held = held 0 0 0 in let c : ℕ → ℕ = consumer_end n in let is = All-head (IsInput n p) x ws own in
      let end_is : f.end ≡ c x = ap (λ (l : List Held). (get_or l 0 none_held).end) e in
      let place_is : f.place ≡ get_or m.holder.counts (c x) 0 + count_of (c x) (map c done) = ap (λ (l : List Held). (get_or l 0 none_held).place) e in
      let times : count_of (c x) (map c done) ≡ count_of x done = counts_same (IsInput n p) c x (one_input n r.is_set p x is) done before in
      let more : map blank fs ≡ wanted m.holder.counts (c x ∷ map c done) (map c ws) = ap (drop 1) e in
      let got = each 0 f refl in
      let w : ℕ = wire_at n p f.end in
      let fl = r.flows w got.wired in
      let t : ℕ = took n r.counts w in
      let g : ℕ = gave n r.counts w in
      let same : w ≡ x = ap₂ (wire_at n) (sym is.own) end_is ∙ (net).to_is x is.there in
      let t_is : get_or m.holder.counts (c x) 0 ≡ t = ap (λ (l : List ℕ). get_or l (c x) 0) (whole.counts_are ∙ ap r.counts (sym got.mine)) ∙ ap (λ (z : ℕ). get_or (r.counts (consumer n w)) z 0) (sym end_is ∙ sym got.same_end) in
      let front : get_or (wire s x) (count_of x done) 0 ≡ f.value =
      ap (λ (z : ℕ). get_or (wire s z) (count_of x done) 0) (sym same) ∙ ap (λ (l : List ℕ). get_or l (count_of x done) 0) fl.carries
      ∙ get_or-flight (data_word n words w) t (g - t) (count_of x done) (let s' : f.place < g = got.sent_yet in omega arith)
      ∙ ap (λ (z : ℕ). data_word n words w (z % 8)) (let z : t + count_of x done ≡ f.place = omega arith in z) ∙ sym got.stands_there in
      ap₂ (λ (a : ℕ) (b : List ℕ). a ∷ b) front (fronts (x ∷ done) ws fs (All-cons (IsInput n p) x done is before) (All-tail (IsInput n p) x ws own) (λ i h z. each (suc i) h z) more)

  row_operands : operands about.set s p ≡ values_of m.holder
  unfolding needs
  row_operands = operands_are n s p ∙ ap (λ (z : Local). operands_on s [] (takes n p z)) (sym whole.local_is)
      ∙ fronts [] (takes n p u.local) u.fetched (All-nil (IsInput n p)) (taken_all n r.is_set p u.local) whole.fetched_is m.shows.fetched_all

  -- the data words are as before
  same_data : (w k : ℕ) → data_word about.set (set words (16 * p) word) w k ≡ data_word about.set words w k
  unfolding data_word
  same_data w k = let h : p < procs n = whole.within in get_or-set_other words (16 * p) (16 * (procs n + w) + k) word 0 (λ z. omega arith)

  -- the word that the row sends is the one that was staged
  staged_value : (w : ℕ) → w < wires about.set → 0 < length (sent_to_wire about.set p m.holder.local (values_of m.holder) w)
      → data_word about.set words w (gave about.set r.counts w % 8) ≡ get_or (sent_to_wire about.set p m.holder.local (values_of m.holder) w) 0 0
  staged_value w lt pos = let own = sends_own w lt pos in let count = filled_is n r.is_set p u.local vs w own in
      let st = m.shows.staged_all (producer_end n w) (omega arith) in let f : Held = st.1 in let got = whole.staged_is st.0 f st.2 in
      let wire_is : wire_at n p f.end ≡ w = ap₂ (wire_at n) (sym own.own) st.3 ∙ (net).from_is w lt in
      let there : f.value ≡ data_word n words (wire_at n p f.end) (f.place % 8) = got.stands_there in
      ap₂ (λ (a b : ℕ). data_word n words a (b % 8)) (sym wire_is) (ap (gave n r.counts) (sym wire_is) ∙ sym got.next) ∙ sym there ∙ st.4 ∙ value_is n r.is_set p u.local vs w own

  carried : (w : ℕ) (a b : ℕ) (x : ℕ) → a + took about.set r.counts w ≤ gave about.set r.counts w → (0 < b → (b ≤ 1) × (data_word about.set words w (gave about.set r.counts w % 8) ≡ x))
      → drop a (flight (data_word about.set words w) (took about.set r.counts w) (gave about.set r.counts w - took about.set r.counts w)) ++ one_if b x
      ≡ flight (data_word about.set words w) (took about.set r.counts w + a) (gave about.set r.counts w + b - (took about.set r.counts w + a))
  carried w a zero x h k = let d = data_word n words w in let t : ℕ = took n r.counts w in let g : ℕ = gave n r.counts w in
      append-nil (drop a (flight d t (g - t))) ∙ drop-flight d t (g - t) a (omega arith) ∙ ap (flight d (t + a)) (let z : g - t - a ≡ g + 0 - (t + a) = omega arith in z)
  carried w a (suc b) x h k = let d = data_word n words w in
      let t : ℕ = took n r.counts w in
      let g : ℕ = gave n r.counts w in
      let q = k (omega arith) in
      let one : suc b ≤ 1 = q.0 in
      ap (λ (l : List ℕ). l ++ x ∷ []) (drop-flight d t (g - t) a (omega arith)) ∙ ap (λ (z : ℕ). flight d (t + a) (g - t - a) ++ z ∷ []) (sym q.1 ∙ ap (λ (z : ℕ). d (z % 8)) (let z : g ≡ t + a + (g - t - a) = omega arith in z))
      ∙ sym (flight_more d (t + a) (g - t - a)) ∙ ap (flight d (t + a)) (let z : suc (g - t - a) ≡ g + suc b - (t + a) = omega arith in z)

  once : (w : ℕ) → length (sent_to_wire about.set p m.holder.local (values_of m.holder) w) ≤ 1
  once w = let a = sent_named n r.is_set p u.local vs w in let b = put_once n r.is_set p u.local w in omega arith

  pub flows_after : (w : ℕ) → w < wires about.set → Flows about (set words (16 * p) word) after (r.history ++ p ∷ []) (step about.set s p) w
  flows_after w lt = let fl = r.flows w lt in let d = data_word n words w in let t : ℕ = took n r.counts w in let g : ℕ = gave n r.counts w in
      let xs : List ℕ = sent_to_wire n p u.local vs w in
      let a : ℕ = taken n p u.local w in let b : ℕ = length xs in let ta = took_after w lt in let gb = gave_after w lt in let en = enough w lt in
      let opened : length (wire about.opened w) ≤ g = fl.opened_sent in
      let behind : t ≤ g = fl.behind in
      let bounded : g ≤ t + n.depth = fl.bounded in
      let few : b ≤ 1 = once w in let named : b ≤ put_on n p u.local w = sent_named n r.is_set p u.local vs w in
      let fits : g + b ≤ t + a + n.depth = ⊎_elim (λ (z : b ≡ 0). omega arith) (λ pos. let ro = named_room w lt (omega arith) in omega arith) (eq-zero-or-pos b) in
      let x : ℕ = get_or xs 0 0 in
      let form : drop (taken n p (local s p) w) (wire s w) ++ sent_to_wire n p (local s p) (operands n s p) w ≡ drop a (wire s w) ++ xs =
      (λ i. drop (taken n p (sym whole.local_is i) w) (wire s w) ++ sent_to_wire n p (sym whole.local_is i) (row_operands i) w) in record {
        opened_sent = subst (λ (z : ℕ). length (wire about.opened w) ≤ z) (sym gb) (let z : length (wire about.opened w) ≤ g + b = omega arith in z);
        behind = omega arith;
        bounded = omega arith;
        carries = wire_step n s p (subst (λ (z : ℕ). p < z) (sym r.locals_all) whole.within) w (subst (λ (z : ℕ). w < z) (sym r.wires_all) lt) ∙ form ∙ ap (λ (l : List ℕ). drop a l ++ xs) fl.carries
            ∙ ap (λ (l : List ℕ). drop a (flight d t (g - t)) ++ l) (short_list xs few)
            ∙ carried w a b x en (λ pos. (few, staged_value w lt pos)) ∙ ap₂ (λ (z q : ℕ). flight d z (q - z)) (sym ta) (sym gb)
            ∙ flight_same d (data_word n (set words (16 * p) word) w) (took n after w) (gave n after w - took n after w) (λ i h. sym (same_data w ((took n after w + i) % 8)));
      }

  not_taken : (w : ℕ) → consumer about.set w ≢ p → taken about.set p m.holder.local w ≡ 0
  not_taken w ne = taken_other n r.is_set p u.local w (λ own. ne own.own)

  not_put : (w : ℕ) → producer about.set w ≢ p → length (sent_to_wire about.set p m.holder.local (values_of m.holder) w) ≡ 0
  not_put w ne = ap length (sent_other n r.is_set p u.local vs w (λ own. ne own.own))

  abbrev history' : List ℕ
  history' = r.history ++ p ∷ []

  abbrev words' : List ℕ
  words' = set words (16 * p) word

  abbrev s' : MachineState
  s' = step about.set s p

  p_there : p < length s.locals
  p_there = subst (λ (z : ℕ). p < z) (sym r.locals_all) whole.within

  -- the unit of another processor
  other_hold : (q : ℕ) (z : Hold) → q ≢ p → IsHold about words r.counts r.history s q z → IsHold about words' after history' s' q z
  other_hold q z ne h = record {
    within = h.within;
    local_is = h.local_is ∙ sym (local_other n s p p_there q ne);
    touches_are = h.touches_are ∙ sym (touches-other n about.opened r.history p q ne);
    counts_are = h.counts_are ∙ sym (cond_other q p (counts_after n p u) (r.counts q) ne);
    watched = h.watched;
    seen_sent = λ w lt c. let old = h.seen_sent w lt c in
        let g = gave_after w lt in (old.0, (let a : get_or z.seen (consumer_end n w) 0 ≤ gave n r.counts w = old.1 in omega arith));
    seen_taken = λ w lt c. let old = h.seen_taken w lt c in let t = took_after w lt in omega arith;
    fetched_is = λ i f e. let o = h.fetched_is i f e in let w : ℕ = wire_at n q f.end in
        let t = took_after w o.wired in
        let g = gave_after w o.wired in
        let no = not_taken w (λ c. ne (sym o.mine ∙ c)) in
        let a = o.taken_yet in
        let b = o.sent_yet in record {
          wired = o.wired;
          mine = o.mine;
          same_end = o.same_end;
          taken_yet = omega arith;
          sent_yet = omega arith;
          stands_there = o.stands_there ∙ sym (same_data w (f.place % 8));
        };
    staged_is = λ i f e. let o = h.staged_is i f e in let w : ℕ = wire_at n q f.end in
        let g = gave_after w o.wired in let no = not_put w (λ c. ne (sym o.mine ∙ c)) in let a = o.next in record {
          wired = o.wired;
          mine = o.mine;
          same_end = o.same_end;
          next = omega arith;
          stands_there = o.stands_there ∙ sym (same_data w (f.place % 8));
        };
  }

  abbrev after_hold : Hold
  after_hold = fired_unit n p u (values_of u)

  own_touches : u.touches ++ touched_by about.set p m.holder.local (values_of m.holder) ∷ [] ≡ touches_by_step about.set about.opened history' p
  own_touches =
      (λ i. whole.touches_are i ++ touched_by n p (whole.local_is i) (sym row_operands i) ∷ [])
      ∙ ap (λ (z : MachineState). touches_by_step n about.opened r.history p ++ touched_by n p (local z p) (operands n z p) ∷ []) (sym r.ends)
      ∙ sym (touches-snoc n about.opened r.history p (subst (λ (z : MachineState). p < length z.locals) (sym r.ends) p_there))

  own_hold : IsHold about words' after history' s' p after_hold
  own_hold = let h = whole in record {
    within = h.within;
    local_is = (λ i. next_local n p (whole.local_is i) (sym row_operands i)) ∙ sym (local_same n s p p_there);
    touches_are = own_touches;
    counts_are = sym (cond_same p p (counts_after n p u) (r.counts p) refl);
    watched = h.watched;
    seen_sent = λ w lt c. let old = h.seen_sent w lt c in
        let g = gave_after w lt in (old.0, (let a : get_or u.seen (consumer_end n w) 0 ≤ gave n r.counts w = old.1 in omega arith));
    seen_taken = λ w lt c. let old = h.seen_taken w lt c in let t = took_after w lt in omega arith;
    fetched_is = λ i f e. absurd (some-ne-none f (sym e));
    staged_is = λ i f e. absurd (some-ne-none f (sym e));
  }

  same_index : (k : ℕ) → m.part.worker + k * about.workers ≡ p → k ≡ m.index
  same_index k e = let a : m.part.worker + k * about.workers ≡ m.part.worker + m.index * about.workers = e ∙ num in
      (same_from_place k y.worker m.index y.worker about.workers part.worker_in part.worker_in (let z : k * about.workers + y.worker ≡ m.index * about.workers + y.worker = omega arith in z)).0

  fired_hold : (k : ℕ) (z : Hold) → get_elem? m.part.units k ≡ some z → IsHold about words' after history' s' (m.part.worker + k * about.workers) (fire p about (m.part.worker + k * about.workers) z)
  fired_hold k z e = let q : ℕ = y.worker + k * about.workers in let new : Hold = fired_unit n p z (values_of z) in dite (ℕ_discrete q p)
      (λ is. let same : u ≡ z = some-injective u z (sym m.unit_at ∙ ap (get_elem? y.units) (sym (same_index k is)) ∙ e) in
      let P : ℕ → Hold → Type 0 = λ a b. IsHold about words' after history' s' a b in
      subst (λ (b : Hold). P q b) (sym (cond_same q p new z is)) (subst (λ (a : ℕ). P a new) (sym is) (subst (λ (b : Hold). P p (fired_unit n p b (values_of b))) same own_hold)))
      (λ not. subst (IsHold about words' after history' s' q) (sym (cond_other q p new z not)) (other_hold q z not (part.units_are k z e)))

  own_part : IsPart about words' after history' s' r.owner id (fire_part p m.part)
  own_part = record {
    about_is = part.about_is;
    worker_in = part.worker_in;
    owned = part.owned;
    log_is =
        let log = y.log in cond_same (p % y.about.workers) y.worker (log ++ p ∷ []) log (ap (λ (a : About). p % a.workers) part.about_is ∙ rest_is) ∙ ap (λ (l : List ℕ). l ++ p ∷ []) part.log_is ∙ sym (steps_of-snoc about.workers y.worker r.history p rest_is);
    holds_all = λ q lt rem. let h = part.holds_all q lt rem in (h.0, subst (λ (z : ℕ). h.0 < z) (sym (length-touched (fire p y.about) y.worker y.about.workers y.units)) h.1, h.2);
    units_are = λ k z e. let b = at_touched (fire p y.about) y.worker y.about.workers y.units k z e in
        let same : z ≡ fire p about (y.worker + k * about.workers) b.0 = b.2 ∙ ap (λ (a : About). fire p a (y.worker + k * a.workers) b.0) part.about_is in
        subst (IsHold about words' after history' s' (y.worker + k * about.workers)) (sym same) (fired_hold k b.0 b.1);
  }

  other_part : (j : ℕ) (x : Part) → j ≢ id → IsPart about words r.counts r.history s r.owner j x → IsPart about words' after history' s' r.owner j x
  other_part j x ne h = record {
    about_is = h.about_is;
    worker_in = h.worker_in;
    owned = h.owned;
    log_is = h.log_is ∙ sym (steps_of-other about.workers x.worker r.history p (λ e. ne (sym h.owned ∙ ap r.owner (sym e) ∙ owner_is)));
    holds_all = h.holds_all;
    units_are = λ k z e. let q : ℕ = x.worker + k * about.workers in
        other_hold q z (λ hit. ne (sym h.owned ∙ ap r.owner (sym (worker_of x.worker k about.workers h.worker_in)) ∙ ap (λ (i : ℕ). r.owner (i % about.workers)) hit ∙ owner_is)) (h.units_are k z e);
  }

  status_after : (q : ℕ) → q < procs about.set → status (set words (16 * p) word) q ≡ pack (after q)
  unfolding status
  status_after q lt = let wd : length words ≡ 16 * (procs n + wires n) = r.wide in dite (ℕ_discrete q p)
      (λ is. let pl : p < procs n = whole.within in ap (λ (z : ℕ). get_or words' (16 * z) 0) is ∙ get_or-set_same words (16 * p) word 0 (omega arith) ∙ m.word_is ∙ ap pack (sym (cond_same q p (counts_after n p u) (r.counts q) is)))
      (λ not. get_or-set_other words (16 * p) (16 * q) word 0 (λ e. not (same_word q p e)) ∙ r.packs q lt ∙ ap pack (sym (cond_other q p (counts_after n p u) (r.counts q) not)))

  pub stands_after : (w : View) → w.parts ≡ map (fire_part p) v.parts → WordsStand about words' (set views id w) s'
  stands_after w parts_is = record {
    counts = after;
    owner = r.owner;
    history = history';
    is_set = r.is_set;
    lawful = lawful-snoc n about.opened r.history p r.lawful (subst (λ (z : MachineState). enabled n z p ≡ true) (sym r.ends) is_enabled);
    ends = end-snoc n about.opened r.history p ∙ ap (λ (z : MachineState). step n z p) r.ends;
    wide = length-set words (16 * p) word ∙ r.wide;
    small = λ i above. let h : p < procs n = whole.within in subst (λ (z : ℕ). z < 2 ^ 32) (sym (get_or-set_other words (16 * p) i word 0 (λ z. omega arith))) (r.small i above);
    locals_all = locals_long n s p p_there ∙ r.locals_all;
    wires_all = wires_long n s p p_there ∙ r.wires_all;
    counted = λ q lt. dite (ℕ_discrete q p)
        (λ is. ap length (cond_same q p (counts_after n p u) (r.counts q) is) ∙ length-bumped (fills n p u.local vs) (bumped (needs n p u.local) u.counts) ∙ length-bumped (needs n p u.local) u.counts ∙ count_20)
        (λ not. ap length (cond_other q p (counts_after n p u) (r.counts q) not) ∙ r.counted q lt);
    packs = status_after;
    flows = flows_after;
    parts_are = λ j x e. ⊎_elim
        (λ t i z here.
        let e' : get_elem? (map (fire_part p) v.parts) i ≡ some z = subst (λ (l : List Part). get_elem? l i ≡ some z) parts_is (subst (λ (k : View). get_elem? k.parts i ≡ some z) (sym t.1) here) in
        let b = at_map_back (fire_part p) v.parts i z e' in
        let same : y ≡ b.0 = only_one y i b.0 (ap (λ (l : List Part). get_elem? l i) (sym m.alone) ∙ b.1) in
        let done = subst (λ (k : Part). IsPart about words' after history' s' r.owner id (fire_part p k)) same own_part in
        subst (λ (k : ℕ). IsPart about words' after history' s' r.owner k z) (sym t.0) (subst (IsPart about words' after history' s' r.owner id) (sym b.2) done))
        (λ t i z here. other_part j z t.0 (r.parts_are j x t.1 i z here))
        (at_set views id j w x e);
    held = λ k lt. held_set views id v w (fire_part p) k at (λ q. refl) parts_is (r.held k lt);
    distinct = λ j x e i k a z here there same. ⊎_elim
        (λ t. let W : (View → Type 0) = λ q. get_elem? q.parts i ≡ some a in let W' : (View → Type 0) = λ q. get_elem? q.parts k ≡ some z in
        let b = at_map_back (fire_part p) v.parts i a (subst (λ (l : List Part). get_elem? l i ≡ some a) parts_is (subst W (sym t.1) here)) in
        let c = at_map_back (fire_part p) v.parts k z (subst (λ (l : List Part). get_elem? l k ≡ some z) parts_is (subst W' (sym t.1) there)) in
        r.distinct id v at i k b.0 c.0 b.1 c.1 (ap (λ (q : Part). q.worker) (sym b.2) ∙ same ∙ ap (λ (q : Part). q.worker) c.2))
        (λ t. r.distinct j x t.1 i k a z here there same)
        (at_set views id j w x e);
    some_worker = r.some_worker;
  }

-- the operands that are fetched are words
words_from : (fs : List Held) → ((i : ℕ) (f : Held) → get_elem? fs i ≡ some f → f.value < 2 ^ 32) → All (λ value. value < 2 ^ 32) (map held_value fs)
words_from [] each = All-nil (λ value. value < 2 ^ 32)
words_from (f ∷ fs) each = All-cons (λ value. value < 2 ^ 32) f.value (map held_value fs) (each 0 f refl) (words_from fs (λ i g e. each (suc i) g e))

fetched_words : (about : About) (words : List ℕ) (views : List View) (s : MachineState) → WordsStand about words views s → (id : ℕ) (v : View) → get_elem? views id ≡ some v
    → (p : ℕ) (u : Hold) → HasHold v p u → All (λ value. value < 2 ^ 32) (values_of u)
unfolding data_word
fetched_words about words views s r id v at p u has =
    let hold = (hold_of about words views s r id v at p u has).1 in
    words_from u.fetched (λ i f e. let is = hold.fetched_is i f e in subst (λ z. z < 2 ^ 32) (sym is.stands_there) (r.small (16 * (procs about.set + wire_at about.set p f.end) + f.place % 8) (omega arith)))

-- The store of a status word takes s to the state after one step of p, which is enabled there: whatever words, views and
-- state stood, the same with this word and this view stand for that state.
pub commit_is_step : (about : About) (v : View) (p word : ℕ) → MayFire about v p word → IsStepOf about p word v
unfolding fired
commit_is_step about v p word may words views s id r at =
    (is_enabled about words views s r id v at p word may, stands_after about words views s r id v at p word may (fired p v) refl)

pub fires : {S : Type 0} (about : About) (slots id : ℕ) (me : Me S View) (p word : ℕ) → MayFire about me.0 p word
    → Allows (Rule about) slots id me (16 * p) (λ _. word) (λ _. Fired (table_step slots (16 * p) word 0 none) me word)
unfolding fired
fires {S = S} about slots id me p word may st g long at _ = (
  fired p me.0,
  keeps,
  tt,
  (step about.set g.0 p, stands_after about st.words st.views g.0 g.1 id me.0 at p word may (fired p me.0) refl),
  (λ o e. (
    subst (λ (z : ℕ). ◌≡◌ {A = Me S View} (fired p me.0, me.1) (fired z me.0, me.1)) (same_word p o e) refl,
    λ u has. fetched_words about st.words st.views g.0 g.1 id me.0 at o u has,
    λ u has. subst (λ a. HasStood a me.0) (sym (g.1.parts_are id me.0 at has.at has.part has.part_at).about_is)
        (record { words = st.words; views = st.views; state = g.0; stands = g.1; seat = id; at = at }),
  )),
)

pub fires_at : {S : Type 0} (about : About) (slots id : ℕ) (me : Me S View) (i p word : ℕ) → i ≡ 16 * p → MayFire about me.0 p word
    → Allows (Rule about) slots id me i (λ _. word) (λ _. Fired (table_step slots i word 0 none) me word)
fires_at about slots id me i p word e may = subst (λ (z : ℕ). Allows (Rule about) slots id me z (λ _. word) (λ _. Fired (table_step slots z word 0 none) me word)) (sym e) (fires about slots id me p word may)
