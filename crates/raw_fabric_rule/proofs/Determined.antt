-- The words and the views determine the state for which they stand.
use Rattle.std.proofs.Common.{◌≡◌, ℕ, zero, suc, ◌-◌, ◌%◌, ◌<◌, List, [], ◌∷◌, length, get_or, refl, sym, ◌∙◌, subst, arith, mod-lt, ext_get_or}
use mathlib.Core.Option.{some}
use lib.ListN.{get_elem?}
use Rattle.raw_model.specs.Start.{MachineState}
use Rattle.raw_fabric_rule.specs.Views.{About, Hold, View}
use Rattle.raw_fabric_rule.specs.ByEnds.{procs, wires, producer, producer_end, consumer, consumer_end, nobody, local, wire}
use Rattle.raw_fabric_rule.specs.Word.{data_word, flight}
use Rattle.raw_fabric_rule.specs.Rule.{took, gave, IsHold, WordsStand}
use Rattle.raw_fabric_rule.proofs.Nets.{is_net}

elem_at : {A : Type 0} (l : List A) (i : ℕ) → i < length l → (a : A) × (get_elem? l i ≡ some a)
elem_at [] i h = absurd (omega arith)
elem_at (x ∷ xs) zero h = (x, refl)
elem_at (x ∷ xs) (suc i) h = elem_at xs i (omega arith)

module _ (about : About) (words : List ℕ) (views : List View) (s t : MachineState) (r : WordsStand about words views s) (q : WordsStand about words views t) where
  -- some seat holds p
  both_hold : (p : ℕ) → p < procs about.set → (u : Hold) × IsHold about words r.counts r.history s p u × IsHold about words q.counts q.history t p u
  both_hold p lt =
      let k : ℕ = p % about.workers in let h = r.held k (mod-lt p r.some_worker) in
      let a = r.parts_are h.seat h.view h.at h.index h.part h.part_at in let b = q.parts_are h.seat h.view h.at h.index h.part h.part_at in
      let at = a.holds_all p lt (sym h.worker_is) in let e = elem_at h.part.units at.0 at.1 in
      (e.0, subst (λ z. IsHold about words r.counts r.history s z e.0) (sym at.2) (a.units_are at.0 e.0 e.1), subst (λ z. IsHold about words q.counts q.history t z e.0) (sym at.2) (b.units_are at.0 e.0 e.1))

  same_local : (p : ℕ) → p < procs about.set → local s p ≡ local t p
  same_local p lt = let b = both_hold p lt in sym b.1.local_is ∙ b.2.local_is

  same_counts : (p : ℕ) → p < procs about.set → r.counts p ≡ q.counts p
  same_counts p lt = let b = both_hold p lt in sym b.1.counts_are ∙ b.2.counts_are

  same_wire : (w : ℕ) → w < wires about.set → wire s w ≡ wire t w
  unfolding took gave
  same_wire w lt =
      let made = (is_net about.set r.is_set).made w lt in
      let c = same_counts (consumer about.set w) made.1 in let g = same_counts (producer about.set w) made.0 in
      (r.flows w lt).carries
      ∙ (λ i. flight (data_word about.set words w) (get_or (c i) (consumer_end about.set w) 0) (get_or (g i) (producer_end about.set w) 0 - get_or (c i) (consumer_end about.set w) 0))
      ∙ sym (q.flows w lt).carries

  pub one_state : s ≡ t
  one_state =
      let a = ext_get_or nobody s.locals t.locals (r.locals_all ∙ sym q.locals_all) (λ i h. same_local i (subst (λ z. i < z) r.locals_all h)) in
      let b = ext_get_or [] s.wires t.wires (r.wires_all ∙ sym q.wires_all) (λ i h. same_wire i (subst (λ z. i < z) r.wires_all h)) in
      λ i. record { locals = a i; wires = b i }
