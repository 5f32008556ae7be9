-- The logs of workers from which a lawful list is joined.
use Rattle.std.proofs.Common.{◌≡◌, ℕ, zero, suc, ◌%◌, ◌<◌, ◌≤◌, true, cond, List, [], ◌∷◌, length, Some, refl, sym, ap, ◌∙◌, subst, ⊎_elim, arith, length-set}
use Rattle.std.specs.Prelude.{slice_set, slice_index_or}
use Rattle.std.proofs.lemmas.Bool.{cases_eq, cases_lt, eq-eqb, ne_eqb}
use Rattle.std.proofs.lemmas.List.{get_or-set_same, get_or-set_other}
use Rattle.std.proofs.lemmas.Option.{slice_get_within, slice_get-get_or}
use Rattle.raw_network.specs.Laws.{of_worker}
use Rattle.raw_network.proofs.Weaving.{law_one_may_be_taken, law_same_logs}
use Rattle.raw_grid.specs.Wires.{producer_of, consumer_of}
use Rattle.raw_model.specs.Program.{ProgramSet, IsSet}
use Rattle.raw_model.specs.Machine.{machine_of}
use Rattle.raw_model.specs.Start.{MachineState}
use Rattle.raw_model.specs.Rest.{enabled, end_from}
use Rattle.raw_model.specs.Serial.{IsJoined}
use Rattle.raw_model.specs.Laws.{IsLawfulJoining, BeginsWith, IsLeft}
use Rattle.raw_model.proofs.Wired.{wired}

-- the first entry of a worker's log is one of its own
first_is_own : (own : ℕ → ℕ) (w p : ℕ) (h rest : List ℕ) → of_worker own w h ≡ p ∷ rest → own p ≡ w
first_is_own own w p [] rest e = cc e
first_is_own own w p (q ∷ h) rest e =
    ⊎_elim
    (λ (mine : own q ≡ w).
    let is = sym (ap (λ b. cond b (q ∷ of_worker own w h) (of_worker own w h)) (eq-eqb (own q) w mine)) ∙ e in
    let same : q ≡ p = cc in
    sym (ap own same) ∙ mine)
    (λ (other : own q ≡ w → ⊥).
    first_is_own own w p h rest (sym (ap (λ b. cond b (q ∷ of_worker own w h) (of_worker own w h)) (ne_eqb (own q) w other)) ∙ e))
    (cases_eq (own q) w)

module _ (set : ProgramSet) (s : MachineState) (logs : List (List ℕ)) where
  abbrev own : ℕ → ℕ
  own p = p % length logs

  module _ (valid : IsSet set) where
    pub one_is_left : (w p : ℕ) (rest h : List ℕ) → IsLawfulJoining set s logs h → BeginsWith logs w p rest → enabled set s p ≡ true
        → (others : List ℕ) × IsLeft set s logs w p rest h others
    one_is_left w p rest h joining begins on =
        let below : w < length logs = slice_get_within logs w (p ∷ rest) begins.log in
        let first : of_worker own w h ≡ p ∷ rest = joining.joined.each w below ∙ log_is below in
        let mine : own p ≡ w = first_is_own own w p h rest first in
        let left = law_one_may_be_taken (machine_of set) (producer_of set.topo) (consumer_of set.topo) (wired set valid.topology)
        own s p h rest joining.lawful on (subst (λ v. of_worker own v h ≡ p ∷ rest) (sym mine) first) in (
          left.0,
          record {
            joining = record {
              lawful = left.1.lawful;
              joined = joined_rest left.0 below (subst (λ v. of_worker own v left.0 ≡ rest) mine left.1.own_entries)
                  (λ v ne. left.1.other_entries v (λ e. ne (sym mine ∙ e)));
            };
            ends = left.1.ends;
          },
        )
      where
        log_is : w < length logs → slice_index_or logs w [] ≡ p ∷ rest
        log_is below = let e = slice_get-get_or logs w [] below in cc (e, begins.log)

        joined_rest : (others : List ℕ) → w < length logs → of_worker own w others ≡ rest
            → ((v : ℕ) → (w ≡ v → ⊥) → of_worker own v others ≡ of_worker own v h) → IsJoined others (slice_set logs w rest)
        joined_rest others below mine theirs =
            let same : length (slice_set logs w rest) ≡ length logs = length-set logs w rest in
            record {
              some_log = subst (λ n. 0 < n) (sym same) joining.joined.some_log;
              each = λ v there.
                  subst (λ n. of_worker (λ q. q % n) v others ≡ slice_index_or (slice_set logs w rest) v []) (sym same)
                  (⊎_elim
                  (λ (e : w ≡ v).
                  subst (λ u. of_worker own u others ≡ slice_index_or (slice_set logs w rest) u []) e
                  (mine ∙ sym (get_or-set_same logs w rest [] below)))
                  (λ (ne : w ≡ v → ⊥).
                  theirs v ne
                  ∙ joining.joined.each v (subst (λ n. v < n) same there)
                  ∙ sym (get_or-set_other logs w v rest [] (λ e. ne (sym e))))
                  (cases_eq w v));
            }

    pub joined_alike : (h g : List ℕ) → IsLawfulJoining set s logs h → IsLawfulJoining set s logs g → end_from set s g ≡ end_from set s h
    joined_alike h g of_h of_g =
        law_same_logs (machine_of set) (producer_of set.topo) (consumer_of set.topo) (wired set valid.topology) own s h g of_h.lawful of_g.lawful
        (λ p.
        let some = of_h.joined.some_log in
        let there : own p < length logs = omega arith in
        of_g.joined.each (own p) there ∙ sym (of_h.joined.each (own p) there))

  pub some_goes_on : (p : ℕ) (h : List ℕ) → IsLawfulJoining set s logs (p ∷ h)
      → (enabled set s p ≡ true) × ((w : ℕ) × (rest : List ℕ) × BeginsWith logs w p rest)
  some_goes_on p h joining =
      let some = joining.joined.some_log in
      let there : own p < length logs = omega arith in
      let here : of_worker own (own p) (p ∷ h) ≡ p ∷ of_worker own (own p) h =
      ap (λ b. cond b (p ∷ of_worker own (own p) h) (of_worker own (own p) h)) (eq-eqb (own p) (own p) refl) in
      let log = slice_get-get_or logs (own p) [] there ∙ ap Some (sym (joining.joined.each (own p) there) ∙ here) in
      (joining.lawful.0, (own p, of_worker own (own p) h, record { log = log }))

-- where nothing is left, each log is empty
pub all_spent : (logs : List (List ℕ)) (w : ℕ) → IsJoined [] logs → slice_index_or logs w [] ≡ []
all_spent logs w joined =
    ⊎_elim (λ (below : w < length logs). sym (joined.each w below)) (λ past. past_logs logs w past) (cases_lt w (length logs))
  where
    past_logs : (logs : List (List ℕ)) (w : ℕ) → length logs ≤ w → slice_index_or logs w [] ≡ []
    past_logs [] w past = refl
    past_logs (log ∷ logs) zero past = absurd (omega arith)
    past_logs (log ∷ logs) (suc w) past = past_logs logs w (omega arith)
