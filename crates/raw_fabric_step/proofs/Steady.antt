-- What a step leaves of the other units of a pass.
use Rattle.std.proofs.Common.{◌≤◌, le_refl, ◌≡◌, ◌≢◌, ℕ, List, [], ◌∷◌, map, get_or, refl, sym, ap, ◌∙◌, subst, le_trans, arith}
use Rattle.raw_fabric_rule.specs.Views.{About, Hold, Part, View}
use Rattle.raw_fabric_rule.specs.ByEnds.{consumer_end, producer_end}
use Rattle.raw_fabric_rule.specs.Plays.{HasHold, Rises, LookTells, touch_part, see, looked}
use Rattle.raw_fabric_step.specs.Causes.{HasLooked}
use Rattle.raw_fabric_step.specs.Units.{Sits, Placed, mine, IsLooked, Steady, first_log}
use Rattle.raw_fabric_rule.specs.ByEnds.{procs, producer, consumer}
use Rattle.raw_fabric_rule.specs.Plays.{fetch, fetch_at, fetched, stage, stage_at, staged, fire, fire_part, fired}
use Rattle.raw_fabric_step.specs.Units.{Logged, first_units, no_hold}
use Rattle.raw_fabric_rule.proofs.Lists.{cond_same, cond_other, length-touched}
use Rattle.raw_fabric_rule.proofs.Words.{word_wire}
use Rattle.raw_fabric_rule.proofs.Views.{worker_of}
use Rattle.raw_fabric_step.proofs.Mine.{units_of, get_or-touched}
use Rattle.std.proofs.Common.{◌+◌, ◌++◌, ◌-◌, ◌*◌, ◌/◌, ◌%◌, ◌<◌, length}
use Rattle.raw_fabric_rule.proofs.Looks.{length-seen}
use Rattle.raw_fabric_step.proofs.Mine.{sits-touch, mine-touch, unit_told}

pub no_look : (about : About) (p : ℕ) (u : Hold) → IsLooked about p u u
no_look about p u = record { local_same = refl; touches_same = refl; counts_same = refl; fetched_same = refl; staged_same = refl; long = refl; rises = record { sent = λ w _ _. le_refl (get_or u.seen (consumer_end about.set w) 0); taken = λ w _ _. le_refl (get_or u.seen (producer_end about.set w) 0) } }

pub look_more : (about : About) (p q x : ℕ) (u z : Hold) → IsLooked about p u z → Rises about p z (see q x about p z) → IsLooked about p u (see q x about p z)
look_more about p q x u z l r = record {
  local_same = l.local_same;
  touches_same = l.touches_same;
  counts_same = l.counts_same;
  fetched_same = l.fetched_same;
  staged_same = l.staged_same;
  long = length-seen about.set p q x z.counts 0 z.seen ∙ l.long;
  rises = record { sent = λ w h c. le_trans (l.rises.sent w h c) (r.sent w h c); taken = λ w h c. le_trans (l.rises.taken w h c) (r.taken w h c) };
}

pub looked_twice : (about : About) (p : ℕ) (u z y : Hold) → IsLooked about p u z → IsLooked about p z y → IsLooked about p u y
looked_twice about p u z y a b = record {
  local_same = b.local_same ∙ a.local_same;
  touches_same = b.touches_same ∙ a.touches_same;
  counts_same = b.counts_same ∙ a.counts_same;
  fetched_same = b.fetched_same ∙ a.fetched_same;
  staged_same = b.staged_same ∙ a.staged_same;
  long = b.long ∙ a.long;
  rises = record { sent = λ w h c. le_trans (a.rises.sent w h c) (b.rises.sent w h c); taken = λ w h c. le_trans (a.rises.taken w h c) (b.rises.taken w h c) };
}

pub placed_on : (about : About) (v w : View) (q j : ℕ) → ((k many : ℕ) → Sits about k many v → Sits about k many w) → Placed about v q j → Placed about w q j
placed_on about v w q j f pl = record { worker = pl.worker; many = pl.many; sits = f pl.worker pl.many pl.sits; within = pl.within; worker_in = pl.worker_in; number = pl.number }

pub steady_none : (about : About) (p : ℕ) (v : View) → Steady about p v v
steady_none about p v = record { sits = λ k many s. s; log_same = refl; looks_rise = le_refl v.looks; others = λ q j ne pl. no_look about q (mine v j) }

pub steady_more : (about : About) (p : ℕ) (v w x : View) → Steady about p v w → Steady about p w x → Steady about p v x
steady_more about p v w x a b = record {
  sits = λ k many s. b.sits k many (a.sits k many s);
  log_same = b.log_same ∙ a.log_same;
  looks_rise = le_trans a.looks_rise b.looks_rise;
  others = λ q j ne pl. looked_twice about q (mine v j) (mine w j) (mine x j) (a.others q j ne pl) (b.others q j ne (placed_on about v w q j a.sits pl));
}

same_log : (f : About → ℕ → Hold → Hold) (ys : List Part) → first_log (map (touch_part f) ys) ≡ first_log ys
same_log f [] = refl
same_log f (y ∷ ys) = refl

module _ (about : About) (p : ℕ) (v : View) where
  touched_steady : (f : About → ℕ → Hold → Hold) (w : View) → w.parts ≡ map (touch_part f) v.parts → v.looks ≤ w.looks → ((q j : ℕ) → q ≢ p → Placed about v q j → IsLooked about q (mine v j) (f about q (mine v j))) → Steady about p v w
  touched_steady f w is up each = record {
    sits = λ k many s. sits-touch about k many v s f w is;
    log_same = ap first_log is ∙ same_log f v.parts;
    looks_rise = up;
    others = λ q j ne pl. subst (IsLooked about q (mine v j)) (sym (mine-touch about pl.worker pl.many v pl.sits f w j is pl.within ∙ ap (λ (k : ℕ). f about k (mine v j)) (sym pl.number))) (each q j ne pl);
  }

  pub steady_looked : (s x : ℕ) → ((r : ℕ) (u : Hold) (h : HasHold v r u) → LookTells h.part.about v r s x u (see s x h.part.about r u)) → Steady about p v (looked s x v)
  unfolding looked
  steady_looked s x all = touched_steady (see s x) (looked s x v) refl (omega arith) (λ q j ne pl. look_more about q s x (mine v j) (mine v j) (no_look about q (mine v j)) (unit_told about v q j pl s x all).rises)

  pub steady_fetched : (at x w k : ℕ) → at ≡ 16 * (procs about.set + w) + k → k < 8 → consumer about.set w ≡ p → Steady about p v (fetched at x v)
  unfolding fetched
  steady_fetched at x w k at_is small c = touched_steady (fetch_at at x) (fetched at x v) refl (le_refl v.looks) (λ q j ne pl. let u : Hold = mine v j in
      let wire_is : at / 16 - procs about.set ≡ w = ap (λ (z : ℕ). z / 16 - procs about.set) at_is ∙ word_wire (procs about.set) w k small in
      let m : ℕ = at % 16 in
      let same : fetch_at at x about q u ≡ u = ap (λ (z : ℕ). fetch z m x about q u) wire_is ∙ cond_other (consumer about.set w) q _ u (λ e. ne (sym e ∙ c)) in
      subst (IsLooked about q u) (sym same) (no_look about q u))

  pub steady_staged : (at x w k : ℕ) → at ≡ 16 * (procs about.set + w) + k → k < 8 → producer about.set w ≡ p → Steady about p v (staged at x v)
  unfolding staged
  steady_staged at x w k at_is small c = touched_steady (stage_at at x) (staged at x v) refl (le_refl v.looks) (λ q j ne pl. let u : Hold = mine v j in
      let wire_is : at / 16 - procs about.set ≡ w = ap (λ (z : ℕ). z / 16 - procs about.set) at_is ∙ word_wire (procs about.set) w k small in
      let same : stage_at at x about q u ≡ u = ap (λ (z : ℕ). stage z x about q u) wire_is ∙ cond_other (producer about.set w) q _ u (λ e. ne (sym e ∙ c)) in
      subst (IsLooked about q u) (sym same) (no_look about q u))

  mine_fired : (q j : ℕ) → Placed about v q j → mine (fired p v) j ≡ fire p about q (mine v j)
  unfolding fired mine
  mine_fired q j pl =
      let s = pl.sits in
      let y : Part = s.part in
      let many : ℕ = pl.many in
      let long : length y.units ≡ many = s.long in
      let lt : j < many = pl.within in
      ap (λ (l : List Part). get_or (first_units (map (fire_part p) l)) j no_hold) s.alone
      ∙ get_or-touched (fire p y.about) y.worker y.about.workers y.units j (omega arith)
      ∙ (λ i. fire p (s.about_is i) (s.worker_is i + j * (s.about_is i).workers) (get_or (sym (units_of about pl.worker many v s) i) j no_hold))
      ∙ ap (λ (k : ℕ). fire p about k (get_or (first_units v.parts) j no_hold)) (sym pl.number)

  pub logged_fired : (i : ℕ) → Placed about v p i → Logged about p v (fired p v)
  unfolding fired mine
  logged_fired i pl = let s = pl.sits in let y : Part = s.part in record {
    sits = λ k many t. record {
      part = fire_part p t.part;
      alone = ap (map (fire_part p)) t.alone;
      about_is = t.about_is;
      worker_is = t.worker_is;
      long = length-touched (fire p t.part.about) t.part.worker t.part.about.workers t.part.units ∙ t.long;
    };
    log_more =
        let rest : p % y.about.workers ≡ y.worker = (λ j. (pl.number j) % (s.about_is j).workers) ∙ worker_of pl.worker i about.workers pl.worker_in ∙ sym s.worker_is in
        ap (λ (l : List Part). first_log (map (fire_part p) l)) s.alone ∙ cond_same (p % y.about.workers) y.worker (y.log ++ p ∷ []) y.log rest ∙ ap (λ (l : List Part). first_log l ++ p ∷ []) (sym s.alone);
    others = λ q j ne pq. let u : Hold = mine v j in
        subst (IsLooked about q u) (sym (mine_fired q j pq ∙ cond_other q p _ u ne)) (no_look about q u);
  }

pub logged_more : (about : About) (p : ℕ) (v w x : View) → Steady about p v w → Logged about p w x → Logged about p v x
logged_more about p v w x a b = record {
  sits = λ k many s. b.sits k many (a.sits k many s);
  log_more = b.log_more ∙ ap (λ (l : List ℕ). l ++ p ∷ []) a.log_same;
  others = λ q j ne pl. looked_twice about q (mine v j) (mine w j) (mine x j) (a.others q j ne pl) (b.others q j ne (placed_on about v w q j a.sits pl));
}

pub look_noted : (v : View) (q x : ℕ) → HasLooked q x v (looked q x v)
unfolding looked
look_noted v q x = record { looks = refl; look_at = refl; look_word = refl }
