-- A table that is closed with a view shows the state that it stands for.
use Rattle.std.proofs.Common.{◌≡◌, ℕ, zero, suc, ◌+◌, ◌-◌, ◌%◌, ◌<◌, ◌≤◌, List, ◌∷◌, refl, sym, ap, ap₂, ◌∙◌, subst, arith}
use mathlib.Core.Option.{some}
use lib.ListN.{get_elem?}
use Rattle.atomic_table.specs.Table.{Final, Seen}
use Rattle.raw_model.specs.Start.{MachineState}
use Rattle.raw_fabric_rule.specs.Views.{About, View}
use Rattle.raw_fabric_rule.specs.ByEnds.{wires, producer, producer_end, consumer, consumer_end, wire}
use Rattle.raw_fabric_rule.specs.Word.{field, status, data_word, flight}
use Rattle.raw_fabric_rule.specs.Rule.{took, gave, WordsStand, Rule}
use Rattle.raw_fabric_rule.specs.Closing.{on_wire, wire_of, IsClosed}
use Rattle.raw_fabric_rule.proofs.Nets.{is_net}
use Rattle.raw_fabric_rule.proofs.Words.{field-pack}
use Rattle.raw_fabric_rule.proofs.Looks.{hold_of}

-- the place of the first value counts modulo 8
flight_mod : (d : ℕ → ℕ) (t u n : ℕ) → t % 8 ≡ u % 8 → flight d t n ≡ flight d u n
flight_mod d t u zero e = refl
flight_mod d t u (suc n) e = ap₂ (λ (a : ℕ) (l : List ℕ). a ∷ l) (ap d e) (flight_mod d (suc t) (suc u) n (omega arith))

between : (t s : ℕ) → t ≤ s → s ≤ t + 7 → (s % 8 + 8 - t % 8) % 8 ≡ s - t
between t s a b = omega arith

twice_mod : (t : ℕ) → t % 8 ≡ t % 8 % 8
twice_mod t = omega arith

module _ (about : About) (words : List ℕ) (views : List View) (s : MachineState) (r : WordsStand about words views s) where
  taken_of : (w : ℕ) → w < wires about.set → field (consumer_end about.set w) (status words (consumer about.set w)) ≡ took about.set r.counts w % 8
  unfolding took
  taken_of w lt =
      let p : ℕ = consumer about.set w in ap (field (consumer_end about.set w)) (r.packs p ((is_net about.set r.is_set).made w lt).1) ∙ field-pack (r.counts p) (consumer_end about.set w)

  sent_of : (w : ℕ) → w < wires about.set → field (producer_end about.set w) (status words (producer about.set w)) ≡ gave about.set r.counts w % 8
  unfolding gave
  sent_of w lt =
      let p : ℕ = producer about.set w in ap (field (producer_end about.set w)) (r.packs p ((is_net about.set r.is_set).made w lt).0) ∙ field-pack (r.counts p) (producer_end about.set w)

  count_of : (w : ℕ) → w < wires about.set → on_wire about.set words w ≡ gave about.set r.counts w - took about.set r.counts w
  count_of w lt = let fl = r.flows w lt in let t = taken_of w lt in let g = sent_of w lt in
      (λ i. (g i + 8 - t i) % 8) ∙ between (took about.set r.counts w) (gave about.set r.counts w) fl.behind (let b = fl.bounded in
      let d = r.is_set.small_depth in omega arith)

  wire_is : (w : ℕ) → w < wires about.set → (on_wire about.set words w ≤ about.set.depth)
      × (wire s w ≡ wire_of about.set words w)
  unfolding wire_of
  wire_is w lt =
      let fl = r.flows w lt in
      let a = fl.behind in
      let b = fl.bounded in
      let n = count_of w lt in
      let t = taken_of w lt in
      let d : ℕ → ℕ = data_word about.set words w in (
        omega arith,
        fl.carries ∙ flight_mod d (took about.set r.counts w) (took about.set r.counts w % 8) (gave about.set r.counts w - took about.set r.counts w) (twice_mod (took about.set r.counts w)) ∙ (λ i. flight d (sym t i) (sym n i)),
      )

stands_closed : (about : About) (words : List ℕ) (views : List View) (s : MachineState) (r : WordsStand about words views s) (id : ℕ) (v : View) → get_elem? views id ≡ some v → IsClosed about words v s
stands_closed about words views s r id v at = record {
  history = r.history;
  lawful = r.lawful;
  ends = r.ends;
  locals_all = r.locals_all;
  wires_all = r.wires_all;
  logs = λ i y e. (r.parts_are id v at i y e).log_is;
  locals = λ p u h. sym (hold_of about words views s r id v at p u h).1.local_is;
  touches = λ p u h. sym (hold_of about words views s r id v at p u h).1.touches_are;
  small = r.small;
  wires_are = wire_is about words views s r;
}

pub closes : {S : Type 0} (about : About) (id : ℕ) (v : View) (words : List ℕ) (xs : List S) → Final (Seen (Rule about) id v) words xs → (s : MachineState) × IsClosed about words v s
closes about id v words xs f =
    let st = f.0 in
    let seen = f.1 in
    let g = seen.0 in (g.0, subst (λ (ws : List ℕ). IsClosed about ws v g.0) f.2 (stands_closed about st.words st.views g.0 g.1 id v seen.1))
