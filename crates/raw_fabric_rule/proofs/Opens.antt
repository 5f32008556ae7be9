-- The rule holds of a fresh table.
use Rattle.std.proofs.Common.{◌≡◌, ℕ, zero, suc, ◌+◌, ◌-◌, ◌*◌, ◌/◌, ◌%◌, ◌<◌, ◌≤◌, ltb, cond, Bool, List, [], ◌∷◌, length, get_or, refl, sym, ap, ap₂, ◌∙◌, subst, arith, lt-ltb, ext_get_or, mod-eq_of_lt, div-add-mod', suc-mul, mul-le-mul_right, div-mul-le_self}
use mathlib.Core.Option.{some, some-injective, some-ne-none}
use lib.ListN.{get_elem?}
use Rattle.std.proofs.lemmas.Nat.{le-div}
use Rattle.atomic_table.specs.Table.{opening}
use Rattle.raw_model.specs.Program.{ProgramSet}
use Rattle.raw_model.specs.Start.{MachineState}
use Rattle.raw_fabric_rule.specs.Views.{About, Hold, Part, View}
use Rattle.raw_fabric_rule.specs.ByEnds.{procs, wires, producer, producer_end, consumer, consumer_end, wire_at, wire}
use Rattle.raw_fabric_rule.specs.Word.{data_word, flight}
use Rattle.raw_fabric_rule.specs.Rule.{took, gave, IsHold, IsPart, Flows, WordsStand, Rule}
use Rattle.raw_fabric_rule.specs.Opening.{held_at, sent_before, seen_before, ends_from, first_hold, first_holds, share, first_part, parts_from, first_view, IsLaid}
use Rattle.raw_fabric_rule.proofs.Lists.{length-flight, get_or-flight}
use Rattle.raw_fabric_rule.proofs.Nets.{IsNet, is_net}
use Rattle.raw_fabric_rule.proofs.Looks.{input_side, output_side}

pub length-ends : (f : ℕ → ℕ) (e n : ℕ) → length (ends_from f e n) ≡ n
unfolding ends_from
length-ends f e zero = refl
length-ends f e (suc n) = ap suc (length-ends f (suc e) n)

pub get_or-ends : (f : ℕ → ℕ) (e n i : ℕ) → i < n → get_or (ends_from f e n) i 0 ≡ f (e + i)
unfolding ends_from
get_or-ends f e zero i h = absurd (omega arith)
get_or-ends f e (suc n) zero h = ap f (let z : e ≡ e + 0 = omega arith in z)
get_or-ends f e (suc n) (suc i) h = get_or-ends f (suc e) n i (omega arith) ∙ ap f (let z : suc e + i ≡ e + suc i = omega arith in z)

pub at_holds : (net : ProgramSet) (s : MachineState) (n p many i : ℕ) (u : Hold) → get_elem? (first_holds net s n p many) i ≡ some u → (i < many) × (u ≡ first_hold net s (p + i * n))
at_holds net s n p zero i u e = absurd (some-ne-none u (sym e))
at_holds net s n p (suc many) zero u e = ((omega arith), sym (some-injective (first_hold net s p) u e) ∙ ap (first_hold net s) (let z : p ≡ p + 0 * n = omega arith in z))
at_holds net s n p (suc many) (suc i) u e = let r = at_holds net s n (p + n) many i u e in
    let l = r.0 in ((omega arith), r.1 ∙ ap (first_hold net s) (let z : p + n + i * n ≡ p + suc i * n = omega (arith, suc-mul i n) in z))

pub length-holds : (net : ProgramSet) (s : MachineState) (n p many : ℕ) → length (first_holds net s n p many) ≡ many
length-holds net s n p zero = refl
length-holds net s n p (suc many) = ap suc (length-holds net s n (p + n) many)

at_parts : (about : About) (k n i : ℕ) (y : Part) → get_elem? (parts_from about k n) i ≡ some y → (i < n) × (y ≡ first_part about (k + i))
at_parts about k zero i y e = absurd (some-ne-none y (sym e))
at_parts about k (suc n) zero y e = ((omega arith), sym (some-injective (first_part about k) y e) ∙ ap (first_part about) (let z : k ≡ k + 0 = omega arith in z))
at_parts about k (suc n) (suc i) y e = let r = at_parts about (suc k) n i y e in
    let l = r.0 in ((omega arith), r.1 ∙ ap (first_part about) (let z : suc k + i ≡ k + suc i = omega arith in z))

parts_at : (about : About) (k n i : ℕ) → i < n → get_elem? (parts_from about k n) i ≡ some (first_part about (k + i))
parts_at about k zero i h = absurd (omega arith)
parts_at about k (suc n) zero h = ap (λ (z : ℕ). some (first_part about z)) (let z : k ≡ k + 0 = omega arith in z)
parts_at about k (suc n) (suc i) h = parts_at about (suc k) n i (omega arith) ∙ ap (λ (z : ℕ). some (first_part about z)) (let z : suc k + i ≡ k + suc i = omega arith in z)

-- the processors below `all` with the number k modulo n
pub share_in : (all n k i : ℕ) → 0 < n → k < n → i < share all n k → k + i * n < all
share_in all n k i pos h lt =
    let m : ℕ = all + (n - 1) - k in
    let a : suc i * n ≤ m / n * n = mul-le-mul_right n lt in
    let b : m / n * n ≤ m = div-mul-le_self m n in omega (arith, suc-mul i n)

pub share_all : (all n k p : ℕ) → 0 < n → p < all → p % n ≡ k → p / n < share all n k
share_all all n k p pos h e =
    let i : ℕ = p / n in
    let d : i * n + p % n ≡ p = div-add-mod' p n in le-div (suc i) (all + (n - 1) - k) n pos (omega (arith, suc-mul i n))

at_one : {A : Type 0} (x : A) (i : ℕ) (z : A) → get_elem? (x ∷ []) i ≡ some z → (i ≡ 0) × (x ≡ z)
at_one x zero z e = (refl, some-injective x z e)
at_one x (suc i) z e = absurd (some-ne-none z (sym e))

module _ (about : About) (words : List ℕ) (l : IsLaid about words) where
  abbrev n : ProgramSet
  n = about.set

  net : IsNet about.set
  net = is_net about.set l.is_set

  abbrev s : MachineState
  s = about.opened

  abbrev counts : ℕ → List ℕ
  counts p = ends_from (sent_before n s p) 0 20

  took_none : (w : ℕ) → w < wires about.set → took about.set counts w ≡ 0
  unfolding took
  took_none w lt = let e : ℕ = consumer_end n w in let p : ℕ = consumer n w in let made = (net).made w lt in let small : e < 10 = made.4 in
      get_or-ends (sent_before n s p) 0 20 e (omega arith) ∙ ap (sent_before n s p) (let z : 0 + e ≡ e = omega arith in z)
      ∙ input_side {A = ℕ} e 0 (held_at n s p e) small

  known : (w q : ℕ) → q ≡ w → w < wires about.set → cond (ltb q (wires about.set)) (length (wire about.opened q)) 0 ≡ length (wire about.opened w)
  known w q e lt = ap (λ (z : ℕ). cond (ltb z (wires n)) (length (wire s z)) 0) e ∙ ap (λ (b : Bool). cond b (length (wire s w)) 0) (lt-ltb w (wires n) lt)

  gave_all : (w : ℕ) → w < wires about.set → gave about.set counts w ≡ length (wire about.opened w)
  unfolding gave
  gave_all w lt = let e : ℕ = producer_end n w in let p : ℕ = producer n w in let made = (net).made w lt in
      get_or-ends (sent_before n s p) 0 20 e made.2 ∙ ap (sent_before n s p) (let z : 0 + e ≡ e = omega arith in z)
      ∙ output_side {A = ℕ} e 0 (held_at n s p e) made.3 ∙ known w (wire_at n p e) ((net).from_is w lt) lt

  flow : (w : ℕ) → w < wires about.set → Flows about words counts [] about.opened w
  flow w lt =
      let t = took_none w lt in
      let g = gave_all w lt in
      let f = l.fits.depth w in
      let deep = l.is_set.small_depth in
      let len : ℕ = length (wire s w) in record {
        opened_sent = omega arith;
        behind = omega arith;
        bounded = omega arith;
        carries = ext_get_or 0 (wire s w) (flight (data_word n words w) 0 len) (sym (length-flight (data_word n words w) 0 len))
            (λ i h. sym (get_or-flight (data_word n words w) 0 len i h ∙ ap (data_word n words w) (ap (λ (z : ℕ). z % 8) (let z : 0 + i ≡ i = omega arith in z) ∙ mod-eq_of_lt (let z : i < 8 = omega arith in z)) ∙ l.values w i lt h))
            ∙ ap₂ (flight (data_word n words w)) (sym t) (let z : len ≡ gave n counts w - took n counts w = omega arith in z);
      }

  hold : (p : ℕ) → p < procs about.set → IsHold about words counts [] about.opened p (first_hold about.set about.opened p)
  hold p lt = record {
    within = lt;
    local_is = refl;
    touches_are = refl;
    counts_are = refl;
    watched = length-ends (seen_before n s p) 0 20;
    seen_sent = λ w wl c. let e : ℕ = consumer_end n w in let made = (net).made w wl in let small : e < 10 = made.4 in
        let wire_is : wire_at n p e ≡ w = ap (λ (z : ℕ). wire_at n z e) (sym c) ∙ (net).to_is w wl in
        let got : get_or (ends_from (seen_before n s p) 0 20) e 0 ≡ length (wire s w) = get_or-ends (seen_before n s p) 0 20 e (omega arith) ∙ ap (seen_before n s p) (let z : 0 + e ≡ e = omega arith in z)
        ∙ input_side {A = ℕ} e (held_at n s p e) 0 small ∙ known w (wire_at n p e) wire_is wl in
        let g = gave_all w wl in ((omega arith), (omega arith));
    seen_taken = λ w wl c. let e : ℕ = producer_end n w in let made = (net).made w wl in
        let got : get_or (ends_from (seen_before n s p) 0 20) e 0 ≡ 0 = get_or-ends (seen_before n s p) 0 20 e made.2 ∙ ap (seen_before n s p) (let z : 0 + e ≡ e = omega arith in z)
        ∙ output_side {A = ℕ} e (held_at n s p e) 0 made.3 in omega arith;
    fetched_is = λ i f e. absurd (some-ne-none f (sym e));
    staged_is = λ i f e. absurd (some-ne-none f (sym e));
  }

  part : (k : ℕ) → k < about.workers → IsPart about words counts [] about.opened (λ _. 0) 0 (first_part about k)
  part k lt = record {
    about_is = refl;
    worker_in = lt;
    owned = refl;
    log_is = refl;
    holds_all = λ p h e. (
      p / about.workers,
      subst (λ (z : ℕ). p / about.workers < z) (sym (length-holds n s about.workers k (share (procs n) about.workers k))) (share_all (procs n) about.workers k p l.some_worker h e),
      (let d = div-add-mod' p about.workers in let i : ℕ = p / about.workers * about.workers in let z : p ≡ k + i = omega arith in z),
    );
    units_are = λ i u e. let a = at_holds n s about.workers k (share (procs n) about.workers k) i u e in
        subst (IsHold about words counts [] s (k + i * about.workers)) (sym a.1) (hold (k + i * about.workers) (share_in (procs n) about.workers k i l.some_worker lt a.0));
  }

  pub stands_first : WordsStand about words (first_view about ∷ []) about.opened
  unfolding first_view procs wires
  stands_first = record {
    counts = counts;
    owner = λ _. 0;
    history = [];
    is_set = l.is_set;
    lawful = tt;
    ends = refl;
    wide = l.wide;
    small = l.small;
    locals_all = l.fits.processors;
    wires_all = l.fits.wires;
    counted = λ p _. length-ends (sent_before n s p) 0 20;
    packs = l.packs;
    flows = flow;
    parts_are = λ j v e i y here. let a = at_one (first_view about) j v e in
        let b = at_parts about 0 about.workers i y (subst (λ (z : View). get_elem? z.parts i ≡ some y) (sym a.1) here) in
        let c : y ≡ first_part about i = b.1 ∙ ap (first_part about) (let z : 0 + i ≡ i = omega arith in z) in
        subst (λ (k : ℕ). IsPart about words counts [] s (λ _. 0) k y) (sym a.0) (subst (IsPart about words counts [] s (λ _. 0) 0) (sym c) (part i b.0));
    held = λ k lt. record { seat = 0; view = first_view about; at = refl; index = k; part = first_part about (0 + k); part_at = parts_at about 0 about.workers k lt; worker_is = (let z : 0 + k ≡ k = omega arith in z) };
    distinct = λ j v e i k y z here there same. let a = at_one (first_view about) j v e in
        let b = at_parts about 0 about.workers i y (subst (λ (q : View). get_elem? q.parts i ≡ some y) (sym a.1) here) in
        let c = at_parts about 0 about.workers k z (subst (λ (q : View). get_elem? q.parts k ≡ some z) (sym a.1) there) in
        let d : 0 + i ≡ 0 + k = ap (λ (q : Part). q.worker) (sym b.1) ∙ same ∙ ap (λ (q : Part). q.worker) c.1 in omega arith;
    some_worker = l.some_worker;
  }

pub opens : {S : Type 0} (about : About) (words : List ℕ) (xs : List S) → IsLaid about words → Rule about (opening words xs (first_view about))
opens about words xs l = (about.opened, stands_first about words l)
