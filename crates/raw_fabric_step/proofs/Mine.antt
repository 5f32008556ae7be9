-- The unit of a pass through each step.
use Rattle.std.proofs.Common.{◌≡◌, ℕ, zero, suc, ◌+◌, ◌*◌, ◌<◌, List, [], ◌∷◌, map, length, get_or, refl, sym, ap, ◌∙◌, subst, arith, suc-mul}
use mathlib.Core.Option.{some, some-injective, some-ne-none}
use lib.ListN.{get_elem?}
use Rattle.std.proofs.lemmas.Nat.{same_from_place}
use Rattle.std.proofs.lemmas.List.{get_or_default}
use Rattle.atomic_table.proofs.Lists.{at_index}
use Rattle.raw_fabric_rule.specs.Views.{About, Hold, Part, View}
use Rattle.raw_fabric_rule.specs.Rule.{HasStood}
use Rattle.raw_fabric_rule.specs.Plays.{HasHold, LookTells, touched, touch_part, see, looked, fetch_at, fetched, stage_at, staged, fire, fire_part, fired}
use Rattle.raw_fabric_step.specs.Units.{Sits, no_hold, first_units, mine, Placed}
use Rattle.raw_fabric_rule.proofs.Lists.{length-touched}

pub get_or-touched : (f : ℕ → Hold → Hold) (p n : ℕ) (us : List Hold) (i : ℕ) → i < length us → get_or (touched f p n us) i no_hold ≡ f (p + i * n) (get_or us i no_hold)
get_or-touched f p n [] i h = absurd (omega arith)
get_or-touched f p n (u ∷ us) zero h = ap (λ (k : ℕ). f k u) (let z : p ≡ p + 0 * n = omega arith in z)
get_or-touched f p n (u ∷ us) (suc i) h = get_or-touched f (p + n) n us i (omega arith) ∙ ap (λ (k : ℕ). f k (get_or us i no_hold)) (let z : p + n + i * n ≡ p + suc i * n = omega (arith, suc-mul i n) in z)

only_one : {A : Type 0} (x : A) (i : ℕ) (z : A) → get_elem? (x ∷ []) i ≡ some z → x ≡ z
only_one x zero z e = some-injective x z e
only_one x (suc i) z e = absurd (some-ne-none z (sym e))

module _ (about : About) (k many : ℕ) (v : View) (s : Sits about k many v) where
  pub units_of : first_units v.parts ≡ s.part.units
  units_of = ap first_units s.alone

  pub sits-touch : (f : About → ℕ → Hold → Hold) (w : View) → w.parts ≡ map (touch_part f) v.parts → Sits about k many w
  sits-touch f w is = record {
    part = touch_part f s.part;
    alone = is ∙ ap (map (touch_part f)) s.alone;
    about_is = s.about_is;
    worker_is = s.worker_is;
    long = length-touched (f s.part.about) s.part.worker s.part.about.workers s.part.units ∙ s.long;
  }

  pub mine-touch : (f : About → ℕ → Hold → Hold) (w : View) (i : ℕ) → w.parts ≡ map (touch_part f) v.parts → i < many → mine w i ≡ f about (k + i * about.workers) (mine v i)
  unfolding mine
  mine-touch f w i is h = let y : Part = s.part in let long : length y.units ≡ many = s.long in
      ap (λ (l : List Hold). get_or l i no_hold) (ap first_units (is ∙ ap (map (touch_part f)) s.alone))
      ∙ get_or-touched (f y.about) y.worker y.about.workers y.units i (omega arith)
      ∙ (λ j. f (s.about_is j) (s.worker_is j + i * (s.about_is j).workers) (get_or (sym units_of j) i no_hold))

  pub at_mine : (i : ℕ) → i < many → get_elem? s.part.units i ≡ some (mine v i)
  unfolding mine
  at_mine i h = let long : length s.part.units ≡ many = s.long in let u : Hold = get_or (first_units v.parts) i no_hold in
      at_index s.part.units i u (omega arith) (ap (λ (l : List Hold). get_or l i no_hold) units_of ∙ get_or_default s.part.units i no_hold u (omega arith))

  pub has_mine : (i : ℕ) → i < many → HasHold v (k + i * about.workers) (mine v i)
  unfolding mine
  has_mine i h = let y : Part = s.part in record {
    part = y;
    at = 0;
    index = i;
    part_at = ap (λ (l : List Part). get_elem? l 0) s.alone;
    unit_at = at_mine i h;
    number = λ j. sym s.worker_is j + i * (sym s.about_is j).workers;
  }

  pub mine_only : (i : ℕ) (u : Hold) → k < about.workers → i < many → HasHold v (k + i * about.workers) u → u ≡ mine v i
  unfolding mine
  mine_only i u lt h has =
      let same : s.part ≡ has.part = only_one s.part has.at has.part (ap (λ (l : List Part). get_elem? l has.at) (sym s.alone) ∙ has.part_at) in
      let num : k + i * about.workers ≡ k + has.index * about.workers =
      has.number ∙ ap (λ (y : Part). y.worker + has.index * y.about.workers) (sym same) ∙ (λ j. s.worker_is j + has.index * (s.about_is j).workers) in
      let index : i ≡ has.index = (same_from_place i k has.index k about.workers lt lt (let z : i * about.workers + k ≡ has.index * about.workers + k = omega arith in z)).0 in
      some-injective u (mine v i) (sym has.unit_at ∙ ap (λ (y : Part). get_elem? y.units has.index) (sym same) ∙ ap (get_elem? s.part.units) (sym index) ∙ at_mine i h)

-- what each step leaves of the unit of p
module _ (about : About) (v : View) (p i : ℕ) (pl : Placed about v p i) where
  moved : (f : About → ℕ → Hold → Hold) (w : View) → w.parts ≡ map (touch_part f) v.parts → Placed about w p i × (mine w i ≡ f about p (mine v i))
  moved f w is = (
    record { worker = pl.worker; many = pl.many; sits = sits-touch about pl.worker pl.many v pl.sits f w is; within = pl.within; worker_in = pl.worker_in; number = pl.number },
    mine-touch about pl.worker pl.many v pl.sits f w i is pl.within ∙ ap (λ (q : ℕ). f about q (mine v i)) (sym pl.number),
  )

  pub unit_looked : (q x : ℕ) → Placed about (looked q x v) p i × (mine (looked q x v) i ≡ see q x about p (mine v i))
  unfolding looked
  unit_looked q x = moved (see q x) (looked q x v) refl

  pub unit_fetched : (at x : ℕ) → Placed about (fetched at x v) p i × (mine (fetched at x v) i ≡ fetch_at at x about p (mine v i))
  unfolding fetched
  unit_fetched at x = moved (fetch_at at x) (fetched at x v) refl

  pub unit_staged : (at x : ℕ) → Placed about (staged at x v) p i × (mine (staged at x v) i ≡ stage_at at x about p (mine v i))
  unfolding staged
  unit_staged at x = moved (stage_at at x) (staged at x v) refl

  pub unit_has : HasHold v p (mine v i)
  unit_has = subst (λ (q : ℕ). HasHold v q (mine v i)) (sym pl.number) (has_mine about pl.worker pl.many v pl.sits i pl.within)

  pub unit_only : (u : Hold) → HasHold v p u → u ≡ mine v i
  unit_only u has = mine_only about pl.worker pl.many v pl.sits i u pl.worker_in pl.within (subst (λ (q : ℕ). HasHold v q u) pl.number has)

  about_here : unit_has.part.about ≡ about
  about_here =
      let h = unit_has in
      let same : pl.sits.part ≡ h.part = only_one pl.sits.part h.at h.part (ap (λ (l : List Part). get_elem? l h.at) (sym pl.sits.alone) ∙ h.part_at) in
      ap (λ (y : Part). y.about) (sym same) ∙ pl.sits.about_is

  pub unit_told : (q x : ℕ) → ((r : ℕ) (u : Hold) (h : HasHold v r u) → LookTells h.part.about v r q x u (see q x h.part.about r u)) → LookTells about v p q x (mine v i) (see q x about p (mine v i))
  unit_told q x all = subst (λ (a : About). LookTells a v p q x (mine v i) (see q x a p (mine v i))) about_here (all p (mine v i) unit_has)

  pub unit_stood : ((u : Hold) (h : HasHold v p u) → HasStood h.part.about v) → HasStood about v
  unit_stood all = subst (λ (a : About). HasStood a v) about_here (all (mine v i) unit_has)

  -- a commit of p
  pub unit_fired : Placed about (fired p v) p i × (mine (fired p v) i ≡ fire p about p (mine v i))
  unfolding fired mine
  unit_fired =
      let s = pl.sits in
      let y : Part = s.part in
      let many : ℕ = pl.many in
      let long : length y.units ≡ many = s.long in
      let k : ℕ = pl.worker in
      let lt : i < many = pl.within in
      let sits' : Sits about k many (fired p v) = record {
        part = fire_part p y;
        alone = ap (map (fire_part p)) s.alone;
        about_is = s.about_is;
        worker_is = s.worker_is;
        long = length-touched (fire p y.about) y.worker y.about.workers y.units ∙ s.long;
      } in (
        record { worker = k; many = many; sits = sits'; within = lt; worker_in = pl.worker_in; number = pl.number },
        ap (λ (l : List Part). get_or (first_units (map (fire_part p) l)) i no_hold) s.alone
            ∙ get_or-touched (fire p y.about) y.worker y.about.workers y.units i (omega arith)
            ∙ (λ j. fire p (s.about_is j) (s.worker_is j + i * (s.about_is j).workers) (get_or (sym (units_of about k many v s) j) i no_hold))
            ∙ ap (λ (q : ℕ). fire p about q (get_or (first_units v.parts) i no_hold)) (sym pl.number),
      )
