-- The wires and the rows of the machine of a set, by ends.
use Rattle.std.proofs.Common.{◌≡◌, ◌≢◌, ℕ, suc, ◌+◌, ◌-◌, ◌<◌, ◌≤◌, Bool, true, false, cond, eqb, List, [], ◌∷◌, length, map, get_or, Some, refl, sym, ap, ◌∙◌, subst, ⊎_elim, arith}
use Rattle.std.specs.Prelude.{unwrap_or}
use Rattle.std.specs.List.{All}
use Rattle.std.proofs.lemmas.Bool.{cases_eq, lt-ltb, le-ltb, eq-eqb, ne_eqb}
use Rattle.std.proofs.Common.{ap₂, eq-zero-or-pos}
use Rattle.std.proofs.lemmas.List.Elements.{All-head, All-tail}
use Rattle.raw_network.specs.Network.{Sent, count_of}
use Rattle.raw_network.specs.Runs.{sent_on}
use Rattle.raw_network.proofs.Wires.{count_here, count_there, sent_here, sent_there}
use Rattle.raw_grid.specs.Wires.{input_wire, output_wire, producer_of, consumer_of}
use Rattle.raw_grid.specs.Wires as topo
use Rattle.raw_grid.proofs.WireLaws.{input_within, output_within, input_owner, output_owner, consumer_few, producer_few, ends_apart, ten_inputs, ten_outputs}
use Rattle.raw_grid.proofs.OtherEnds.{output_joined, input_joined}
use Rattle.raw_model.specs.Program.{ProgramSet, IsSet}
use Rattle.raw_model.specs.Local.{Local}
use Rattle.raw_model.specs.Machine.{takes, sends, row, machine_of}
use Rattle.raw_model.proofs.Once.{sends_once}
use Rattle.raw_fabric_rule.specs.ByEnds.{procs, wires, producer, producer_end, consumer, consumer_end, wire_at, needs, gives, taken, put_on, fills, sent, sent_to_wire, value_at}
use Rattle.raw_fabric_rule.proofs.Named.{all_taken, all_named, all_sent}

-- ---- counts over lists that are mapped
pub count_more : (e x : ℕ) (xs : List ℕ) → count_of e (x ∷ xs) ≡ cond (eqb x e) 1 0 + count_of e xs
count_more e x xs = by_test (eqb x e)
  where
    by_test : (b : Bool) → cond b (suc (count_of e xs)) (count_of e xs) ≡ cond b 1 0 + count_of e xs
    by_test true = let z : suc (count_of e xs) ≡ 1 + count_of e xs = omega arith in z
    by_test false = let z : count_of e xs ≡ 0 + count_of e xs = omega arith in z

-- an end that is counted is that of a wire of the list
pub counted_there : (P : ℕ → Type 0) (f : ℕ → ℕ) (e : ℕ) (ws : List ℕ) → All P ws → 0 < count_of e (map f ws)
    → (w : ℕ) × P w × (f w ≡ e)
counted_there P f e [] a pos = absurd (omega arith)
counted_there P f e (w ∷ ws) a pos =
    ⊎_elim
    (λ (same : f w ≡ e). (w, All-head P w ws a, same))
    (λ (ne : f w ≡ e → ⊥). counted_there P f e ws (All-tail P w ws a) (subst (λ n. 0 < n) (count_there e (f w) (map f ws) ne) pos))
    (cases_eq (f w) e)

-- a wire that has its end alone is counted as often as its end
pub counts_same : (P : ℕ → Type 0) (f : ℕ → ℕ) (w : ℕ) → ((v : ℕ) → P v → f v ≡ f w → v ≡ w) → (ws : List ℕ) → All P ws
    → count_of (f w) (map f ws) ≡ count_of w ws
counts_same P f w one [] a = refl
counts_same P f w one (v ∷ ws) a =
    let more = counts_same P f w one ws (All-tail P v ws a) in
    ⊎_elim
    (λ (same : v ≡ w). subst (λ u. count_of (f u) (f v ∷ map f ws) ≡ count_of u (v ∷ ws)) same
    (count_here (f v) (map f ws) ∙ ap suc (subst (λ u. count_of (f u) (map f ws) ≡ count_of u ws) (sym same) more) ∙ sym (count_here v ws)))
    (λ (ne : v ≡ w → ⊥). count_there (f w) (f v) (map f ws) (λ e. ne (one v (All-head P v ws a) e)) ∙ more ∙ sym (count_there w v ws ne))
    (cases_eq v w)

-- the same of the values on their way
pub sent_counts : (P : ℕ → Type 0) (f : ℕ → ℕ) (w : ℕ) → ((v : ℕ) → P v → f v ≡ f w → v ≡ w) → (ms : List Sent) → All (λ (m : Sent). P m.wire) ms
    → count_of (f w) (map (λ (m : Sent). f m.wire) ms) ≡ length (sent_on w ms)
sent_counts P f w one [] a = refl
sent_counts P f w one (m ∷ ms) a =
    let more = sent_counts P f w one ms (All-tail (λ (m : Sent). P m.wire) m ms a) in
    ⊎_elim
    (λ (same : m.wire ≡ w). subst (λ u. count_of u (f m.wire ∷ map (λ (m : Sent). f m.wire) ms) ≡ suc (count_of u (map (λ (m : Sent). f m.wire) ms))) (ap f same)
    (count_here (f m.wire) (map (λ (m : Sent). f m.wire) ms)) ∙ ap suc more ∙ sym (ap length (sent_here w m ms same)))
    (λ (ne : m.wire ≡ w → ⊥). count_there (f w) (f m.wire) (map (λ (m : Sent). f m.wire) ms) (λ e. ne (one m.wire (All-head (λ (m : Sent). P m.wire) m ms a) e)) ∙ more ∙ sym (ap length (sent_there w m ms ne)))
    (cases_eq m.wire w)

pub sent_value : (P : ℕ → Type 0) (f : ℕ → ℕ) (w : ℕ) → ((v : ℕ) → P v → f v ≡ f w → v ≡ w) → (ms : List Sent) → All (λ (m : Sent). P m.wire) ms
    → value_at (map (λ (m : Sent). f m.wire) ms) (map (λ (m : Sent). m.value) ms) (f w) ≡ get_or (sent_on w ms) 0 0
sent_value P f w one [] a = refl
sent_value P f w one (m ∷ ms) a =
    let more = sent_value P f w one ms (All-tail (λ (m : Sent). P m.wire) m ms a) in
    let rest = value_at (map (λ (m : Sent). f m.wire) ms) (map (λ (m : Sent). m.value) ms) (f w) in
    ⊎_elim
    (λ (same : m.wire ≡ w). ap (λ b. cond b m.value rest) (eq-eqb (f m.wire) (f w) (ap f same)) ∙ sym (ap (λ xs. get_or xs 0 0) (sent_here w m ms same)))
    (λ (ne : m.wire ≡ w → ⊥). ap (λ b. cond b m.value rest) (ne_eqb (f m.wire) (f w) (λ e. ne (one m.wire (All-head (λ (m : Sent). P m.wire) m ms a) e)))
    ∙ more ∙ sym (ap (λ xs. get_or xs 0 0) (sent_there w m ms ne)))
    (cases_eq m.wire w)

-- ---- the wires
module _ (set : ProgramSet) where
  pub wire_input : (p e w : ℕ) → e < 10 → input_wire set.topo p e ≡ Some w → wire_at set p e ≡ w
  unfolding wire_at
  wire_input p e w h is = ap (λ b. unwrap_or (cond b (input_wire set.topo p e) (output_wire set.topo p (e - 10))) (wires set)) (lt-ltb e 10 h) ∙ ap (λ o. unwrap_or o (wires set)) is

  pub wire_output : (p e w : ℕ) → output_wire set.topo p e ≡ Some w → wire_at set p (10 + e) ≡ w
  unfolding wire_at
  wire_output p e w is =
      ap (λ b. unwrap_or (cond b (input_wire set.topo p (10 + e)) (output_wire set.topo p (10 + e - 10))) (wires set)) (le-ltb (10 + e) 10 (omega arith))
      ∙ ap (λ n. unwrap_or (output_wire set.topo p n) (wires set)) (let z : 10 + e - 10 ≡ e = omega arith in z) ∙ ap (λ o. unwrap_or o (wires set)) is

-- a wire that leads to p, and one that comes from p
pub record IsInput (set : ProgramSet) (p w : ℕ) : Type 0 where
  pub there : w < wires set
  pub own : consumer set w ≡ p

pub record IsOutput (set : ProgramSet) (p w : ℕ) : Type 0 where
  pub there : w < wires set
  pub own : producer set w ≡ p

-- what is kept of the machine of every set
pub record IsNet (set : ProgramSet) : Type 0 where
  pub made : (w : ℕ) → w < wires set → (producer set w < procs set) × (consumer set w < procs set) × (producer_end set w < 20) × (10 ≤ producer_end set w) × (consumer_end set w < 10)
  pub apart : (w : ℕ) → w < wires set → producer set w ≢ consumer set w
  pub from_is : (w : ℕ) → w < wires set → wire_at set (producer set w) (producer_end set w) ≡ w
  pub to_is : (w : ℕ) → w < wires set → wire_at set (consumer set w) (consumer_end set w) ≡ w

module _ (set : ProgramSet) (is : IsSet set) where
  pub is_net : IsNet set
  unfolding procs wires producer producer_end consumer consumer_end
  is_net =
      let t = set.topo in
      record {
        made = λ w lt. (
          producer_few t w is.topology lt,
          consumer_few t w is.topology lt,
          (let few = ten_outputs t w (producer_of t w) (topo.producer_end t w) is.topology (output_joined t w is.topology lt) in
              let z : 10 + topo.producer_end t w < 20 = omega arith in z),
          (let z : 10 ≤ 10 + topo.producer_end t w = omega arith in z),
          ten_inputs t w (consumer_of t w) (topo.consumer_end t w) is.topology (input_joined t w is.topology lt),
        );
        apart = λ w lt. ends_apart t w is.topology;
        from_is = λ w lt. wire_output set (producer_of t w) (topo.producer_end t w) w (output_joined t w is.topology lt);
        to_is = λ w lt.
            let at = input_joined t w is.topology lt in
            wire_input set (consumer_of t w) (topo.consumer_end t w) w (ten_inputs t w (consumer_of t w) (topo.consumer_end t w) is.topology at) at;
      }

-- what is not of a list of wires is not counted there
count_out : (P : ℕ → Type 0) (w : ℕ) → (P w → ⊥) → (ws : List ℕ) → All P ws → count_of w ws ≡ 0
count_out P w far [] a = refl
count_out P w far (v ∷ ws) a = count_there w v ws (λ e. far (subst P e (All-head P v ws a))) ∙ count_out P w far ws (All-tail P v ws a)

sent_out : (P : ℕ → Type 0) (w : ℕ) → (P w → ⊥) → (ms : List Sent) → All (λ (m : Sent). P m.wire) ms → sent_on w ms ≡ []
sent_out P w far [] a = refl
sent_out P w far (m ∷ ms) a =
    sent_there w m ms (λ e. far (subst P e (All-head (λ (m : Sent). P m.wire) m ms a))) ∙ sent_out P w far ms (All-tail (λ (m : Sent). P m.wire) m ms a)

-- ---- the rows
module _ (set : ProgramSet) (is : IsSet set) (p : ℕ) where
  input_is : (end w : ℕ) → input_wire set.topo p end ≡ Some w → IsInput set p w
  unfolding wires consumer
  input_is end w e = record { there = input_within set.topo w p end e; own = input_owner set.topo w p end e }

  output_is : (end w : ℕ) → output_wire set.topo p end ≡ Some w → IsOutput set p w
  unfolding wires producer
  output_is end w e = record { there = output_within set.topo w p end e; own = output_owner set.topo w p end e }

  -- each wire that a row names is there, and is one of its processor
  pub taken_all : (l : Local) → All (IsInput set p) (takes set p l)
  taken_all = all_taken set p (IsInput set p) input_is

  pub named_all : (l : Local) → All (IsOutput set p) (sends set p l)
  named_all = all_named set p (IsOutput set p) output_is

  pub sent_all : (l : Local) (values : List ℕ) → All (λ (m : Sent). IsOutput set p m.wire) (row set p l values).sent
  sent_all = all_sent set p (IsOutput set p) output_is

  -- an end of p has one wire
  pub one_input : (w : ℕ) → IsInput set p w → (v : ℕ) → IsInput set p v → consumer_end set v ≡ consumer_end set w → v ≡ w
  one_input w a v b e = let n = is_net set is in sym (n.to_is v b.there) ∙ ap₂ (wire_at set) (b.own ∙ sym a.own) e ∙ n.to_is w a.there

  pub one_output : (w : ℕ) → IsOutput set p w → (v : ℕ) → IsOutput set p v → producer_end set v ≡ producer_end set w → v ≡ w
  one_output w a v b e = let n = is_net set is in sym (n.from_is v b.there) ∙ ap₂ (wire_at set) (b.own ∙ sym a.own) e ∙ n.from_is w a.there

  -- an end that a row names has a wire
  pub needed : (e : ℕ) (l : Local) → 0 < count_of e (needs set p l) → (wire_at set p e < wires set) × (consumer set (wire_at set p e) ≡ p) × (consumer_end set (wire_at set p e) ≡ e)
  unfolding needs
  needed e l pos =
      let r = counted_there (IsInput set p) (consumer_end set) e (takes set p l) (taken_all l) pos in
      let at : wire_at set p e ≡ r.0 = ap₂ (wire_at set) (sym r.1.own) (sym r.2) ∙ (is_net set is).to_is r.0 r.1.there in
      (subst (λ w. w < wires set) (sym at) r.1.there, ap (consumer set) at ∙ r.1.own, ap (consumer_end set) at ∙ r.2)

  pub given : (e : ℕ) (l : Local) → 0 < count_of e (gives set p l) → (wire_at set p e < wires set) × (producer set (wire_at set p e) ≡ p) × (producer_end set (wire_at set p e) ≡ e)
  unfolding gives
  given e l pos =
      let r = counted_there (IsOutput set p) (producer_end set) e (sends set p l) (named_all l) pos in
      let at : wire_at set p e ≡ r.0 = ap₂ (wire_at set) (sym r.1.own) (sym r.2) ∙ (is_net set is).from_is r.0 r.1.there in
      (subst (λ w. w < wires set) (sym at) r.1.there, ap (producer set) at ∙ r.1.own, ap (producer_end set) at ∙ r.2)

  -- counts by ends are counts by wires
  pub taken_is : (l : Local) (w : ℕ) → IsInput set p w → count_of (consumer_end set w) (needs set p l) ≡ taken set p l w
  unfolding needs taken
  taken_is l w own = counts_same (IsInput set p) (consumer_end set) w (one_input w own) (takes set p l) (taken_all l)

  pub put_is : (l : Local) (w : ℕ) → IsOutput set p w → count_of (producer_end set w) (gives set p l) ≡ put_on set p l w
  unfolding gives put_on
  put_is l w own = counts_same (IsOutput set p) (producer_end set) w (one_output w own) (sends set p l) (named_all l)

  pub filled_is : (l : Local) (values : List ℕ) (w : ℕ) → IsOutput set p w → count_of (producer_end set w) (fills set p l values) ≡ length (sent_to_wire set p l values w)
  unfolding fills sent_to_wire
  filled_is l values w own = sent_counts (IsOutput set p) (producer_end set) w (one_output w own) (row set p l values).sent (sent_all l values)

  pub value_is : (l : Local) (values : List ℕ) (w : ℕ) → IsOutput set p w
      → value_at (fills set p l values) (sent set p l values) (producer_end set w) ≡ get_or (sent_to_wire set p l values w) 0 0
  unfolding fills sent sent_to_wire
  value_is l values w own = sent_value (IsOutput set p) (producer_end set) w (one_output w own) (row set p l values).sent (sent_all l values)

  -- and nothing passes on a wire of another processor
  pub taken_other : (l : Local) (w : ℕ) → (IsInput set p w → ⊥) → taken set p l w ≡ 0
  unfolding taken
  taken_other l w far = count_out (IsInput set p) w far (takes set p l) (taken_all l)

  pub put_other : (l : Local) (w : ℕ) → (IsOutput set p w → ⊥) → put_on set p l w ≡ 0
  unfolding put_on
  put_other l w far = count_out (IsOutput set p) w far (sends set p l) (named_all l)

  pub sent_other : (l : Local) (values : List ℕ) (w : ℕ) → (IsOutput set p w → ⊥) → sent_to_wire set p l values w ≡ []
  unfolding sent_to_wire
  sent_other l values w far = sent_out (IsOutput set p) w far (row set p l values).sent (sent_all l values)

  -- a row names a wire once at most, and sends no more there than it names
  pub put_once : (l : Local) (w : ℕ) → put_on set p l w ≤ 1
  unfolding put_on machine_of
  put_once l w = (sends_once set).named_once p l w

  pub sent_named : (l : Local) (values : List ℕ) (w : ℕ) → length (sent_to_wire set p l values w) ≤ put_on set p l w
  unfolding sent_to_wire put_on machine_of
  sent_named l values w = (sends_once set).sent_named p l values w

  filled_there : (e : ℕ) (l : Local) (values : List ℕ) → 0 < count_of e (fills set p l values) → (w : ℕ) × IsOutput set p w × (producer_end set w ≡ e)
  unfolding fills
  filled_there e l values pos = sent_there_is (row set p l values).sent (sent_all l values) pos
    where
      sent_there_is : (ms : List Sent) → All (λ (m : Sent). IsOutput set p m.wire) ms → 0 < count_of e (map (λ (m : Sent). producer_end set m.wire) ms)
          → (w : ℕ) × IsOutput set p w × (producer_end set w ≡ e)
      sent_there_is [] a pos = absurd (omega arith)
      sent_there_is (m ∷ ms) a pos =
          ⊎_elim
          (λ (same : producer_end set m.wire ≡ e). (m.wire, All-head (λ (m : Sent). IsOutput set p m.wire) m ms a, same))
          (λ (ne : producer_end set m.wire ≡ e → ⊥). sent_there_is ms (All-tail (λ (m : Sent). IsOutput set p m.wire) m ms a)
          (subst (λ n. 0 < n) (count_there e (producer_end set m.wire) (map (λ (m : Sent). producer_end set m.wire) ms) ne) pos))
          (cases_eq (producer_end set m.wire) e)

  pub filled : (e : ℕ) (l : Local) (values : List ℕ) → count_of e (fills set p l values) ≤ count_of e (gives set p l)
  filled e l values =
      ⊎_elim (λ (none : count_of e (fills set p l values) ≡ 0). omega arith)
      (λ pos. let f = filled_there e l values pos in
      subst (λ z. count_of z (fills set p l values) ≤ count_of z (gives set p l)) f.2
      (let a = filled_is l values f.0 f.1 in let b = put_is l f.0 f.1 in let c = sent_named l values f.0 in omega arith))
      (eq-zero-or-pos (count_of e (fills set p l values)))

  -- an output is no input
  pub no_gives : (e : ℕ) (l : Local) → e < 10 → count_of e (gives set p l) ≡ 0
  no_gives e l small = ⊎_elim (λ z. z) (λ pos. let g = given e l pos in
      let m = (is_net set is).made (wire_at set p e) g.0 in
      let same = g.2 in
      let big = m.3 in absurd (omega arith)) (eq-zero-or-pos (count_of e (gives set p l)))

  pub no_needs : (e : ℕ) (l : Local) → 10 ≤ e → count_of e (needs set p l) ≡ 0
  no_needs e l big = ⊎_elim (λ z. z) (λ pos. let g = needed e l pos in
      let m = (is_net set is).made (wire_at set p e) g.0 in
      let same = g.2 in
      let small = m.4 in absurd (omega arith)) (eq-zero-or-pos (count_of e (needs set p l)))

  pub no_fills : (e : ℕ) (l : Local) (values : List ℕ) → e < 10 → count_of e (fills set p l values) ≡ 0
  no_fills e l values small = let a = filled e l values in let b = no_gives e l small in omega arith
