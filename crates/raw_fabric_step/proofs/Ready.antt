-- What is gathered before the commit of a row.
use Rattle.std.proofs.Common.{◌≡◌, ℕ, suc, ◌+◌, ◌<◌, ◌≤◌, false, List, [], ◌∷◌, map, get_or, refl, sym, ap, ◌∙◌, subst, arith}
use mathlib.Core.Logic.{dite}
use mathlib.Core.Option.{some}
use native.Mathlib.Decide.{ℕ_discrete}
use lib.ListN.{get_elem?}
use Rattle.raw_network.specs.Network.{count_of}
use Rattle.raw_model.specs.Program.{IsSet}
use Rattle.raw_model.specs.Local.{Local}
use Rattle.raw_model.specs.Machine.{is_stopped}
use Rattle.raw_fabric_rule.specs.Views.{About, Held, Hold}
use Rattle.raw_fabric_rule.specs.ByEnds.{needs, gives, fills, sent, value_at}
use Rattle.raw_fabric_rule.specs.Plays.{held_value, values_of}
use Rattle.raw_fabric_rule.specs.Conditions.{wanted, blank, ShowsRow}
use Rattle.raw_fabric_rule.proofs.Lists.{cond_same, cond_other}
use Rattle.raw_fabric_rule.proofs.Nets.{count_more, given, is_net}
use Rattle.raw_fabric_step.specs.Causes.{SawEnds}
use Rattle.raw_fabric_step.proofs.Watch.{wired_input}

-- all looks done, the unit shows the values and the room of its row
module _ (about : About) (is : IsSet about.set) (p : ℕ) (u z : Hold) (saw : SawEnds about p 20 u z) where
  pub all_values : (e : ℕ) → 0 < count_of e (needs about.set p z.local) → get_or z.counts e 0 + count_of e (needs about.set p z.local) ≤ get_or z.seen e 0
  all_values e pos =
      let l = saw.looked in
      let pos' : 0 < count_of e (needs about.set p u.local) = subst (λ (k : Local). 0 < count_of e (needs about.set p k)) l.local_same pos in
      let low = (wired_input about.set is p e u.local pos').0 in
      subst (λ (q : Local × List ℕ). get_or q.1 e 0 + count_of e (needs about.set p q.0) ≤ get_or z.seen e 0) (λ i. (sym l.local_same i, sym l.counts_same i)) ((saw.shown e (omega arith)).values pos')

  pub all_room : (e : ℕ) → 0 < count_of e (gives about.set p z.local) → get_or z.counts e 0 < get_or z.seen e 0 + about.set.depth
  all_room e pos =
      let l = saw.looked in
      let pos' : 0 < count_of e (gives about.set p u.local) = subst (λ (k : Local). 0 < count_of e (gives about.set p k)) l.local_same pos in
      let g = given about.set is p e u.local pos' in let m = (is_net about.set is).made _ g.0 in let low : e < 20 = subst (λ k. k < 20) g.2 m.2 in
      subst (λ (q : List ℕ). get_or q e 0 < get_or z.seen e 0 + about.set.depth) (sym l.counts_same) ((saw.shown e low).room pos')

abbrev pub held_end : Held → ℕ
held_end f = f.end

-- the value that was staged for an end is the row's
pub staged_found : (st : List Held) (e : ℕ) → 0 < count_of e (map held_end st) → (i : ℕ) × (f : Held) × (get_elem? st i ≡ some f) × (f.end ≡ e) × (f.value ≡ value_at (map held_end st) (map held_value st) e)
staged_found [] e h = absurd (omega arith)
staged_found (f ∷ fs) e h =
    dite (ℕ_discrete f.end e)
    (λ is. (0, f, refl, is, sym (cond_same f.end e f.value (value_at (map held_end fs) (map held_value fs) e) is)))
    (λ not. let c = cond_other {A = ℕ} f.end e 1 0 not in let m = count_more e f.end (map held_end fs) in let r = staged_found fs e (omega arith) in
    (suc r.0, r.1, r.2, r.3, r.4 ∙ sym (cond_other f.end e f.value (value_at (map held_end fs) (map held_value fs) e) not)))

-- z is the unit after the looks, and y the one after the fetches and stores
pub row_ready : (about : About) (p : ℕ) (z y : Hold) → is_stopped about.set p z.local ≡ false
    → ((e : ℕ) → 0 < count_of e (needs about.set p z.local) → get_or z.counts e 0 + count_of e (needs about.set p z.local) ≤ get_or z.seen e 0)
    → ((e : ℕ) → 0 < count_of e (gives about.set p z.local) → get_or z.counts e 0 < get_or z.seen e 0 + about.set.depth)
    → y.local ≡ z.local → y.counts ≡ z.counts → y.seen ≡ z.seen
    → map blank y.fetched ≡ wanted z.counts [] (needs about.set p z.local)
    → map held_end y.staged ≡ fills about.set p z.local (values_of y)
    → map held_value y.staged ≡ sent about.set p z.local (values_of y) → ShowsRow about p y
row_ready about p z y going values room local_is counts_is seen_is fetched ends sents = record {
  going = ap (is_stopped about.set p) local_is ∙ going;
  values = subst (λ (q : Local × List ℕ × List ℕ). (e : ℕ) → 0 < count_of e (needs about.set p q.0) → get_or q.1 e 0 + count_of e (needs about.set p q.0) ≤ get_or q.2 e 0) (λ i. (sym local_is i, sym counts_is i, sym seen_is i)) values;
  room = subst (λ (q : Local × List ℕ × List ℕ). (e : ℕ) → 0 < count_of e (gives about.set p q.0) → get_or q.1 e 0 < get_or q.2 e 0 + about.set.depth) (λ i. (sym local_is i, sym counts_is i, sym seen_is i)) room;
  fetched_all = fetched ∙ (λ i. wanted (sym counts_is i) [] (needs about.set p (sym local_is i)));
  staged_all = λ e pos.
      let ends' : map held_end y.staged ≡ fills about.set p y.local (values_of y) = ends ∙ (λ i. fills about.set p (sym local_is i) (values_of y)) in
      let sents' : map held_value y.staged ≡ sent about.set p y.local (values_of y) = sents ∙ (λ i. sent about.set p (sym local_is i) (values_of y)) in
      let f = staged_found y.staged e (subst (λ (q : List ℕ). 0 < count_of e q) (sym ends') pos) in
      (f.0, f.1, f.2, f.3, f.4 ∙ (λ j. value_at (ends' j) (sents' j) e));
}
