-- The words of a fresh table.
use Rattle.std.proofs.Common.{◌≡◌, ℕ, zero, suc, ◌+◌, ◌-◌, ◌*◌, ◌/◌, ◌%◌, ◌^◌, ◌<◌, ◌≤◌, cond, Some, None, List, [], ◌∷◌, ◌++◌, length, get_or, refl, sym, ap, ◌∙◌, subst, ⊎_elim, arith, pow-suc}
use Rattle.std.specs.Prelude.{slice_index_or}
use Rattle.std.proofs.lemmas.Bool.{cases_lt, eq-eqb, lt-ltb, le-ltb}
use Rattle.std.proofs.lemmas.Nat.{pow-add}
use Rattle.std.proofs.lemmas.List.{get_or_past}
use Rattle.std.proofs.Math.ListN.{get_or-append}
use Rattle.std.proofs.Math.Pow.{pow_mono}
use Rattle.std.proofs.Math.Seq.{get_or-append_seam}
use Rattle.raw_model.specs.Program.{ProgramSet, IsSet}
use Rattle.raw_model.specs.Start.{MachineState, Fits}
use Rattle.raw_fabric_rule.specs.Views.{About}
use Rattle.raw_grid.proofs.WireLaws.{output_within}
use Rattle.raw_processor.specs.declared.end_wires.EndWires.{EndWires}
use Rattle.raw_processor.specs.Ends.{AreEndsOf}
use Rattle.raw_fabric_rule.specs.ByEnds.{procs, wires, wire_at, wire}
use Rattle.raw_fabric_rule.specs.Word.{pack, status, data_word}
use Rattle.raw_fabric_rule.specs.Opening.{held_at, sent_before, ends_from, IsLaid}
use Rattle.raw_fabric_rule.proofs.Nets.{wire_output}
use Rattle.raw_fabric.proofs.OtherSides.{output_is, none_out}
use Rattle.raw_fabric_rule.proofs.Words.{pack_below}
use Rattle.raw_fabric_rule.proofs.Opens.{length-ends}
use Rattle.raw_model.proofs.Words.{word_in}
use Rattle.raw_fabric.specs.Laying.{status_before, value_before, HasWords}

-- ---- the status word, from the last end down
pub pack_down : (f : ℕ → ℕ) (e d word : ℕ) → e ≤ 20 → d + 1 ≡ e → word ≡ pack (ends_from f e (20 - e)) → f d % 8 + 8 * word ≡ pack (ends_from f d (20 - d))
unfolding ends_from
pack_down f e d word few next is =
    let more : 20 - d ≡ suc (20 - e) = omega arith in
    let at : suc d ≡ e = omega arith in
    ap (λ w. f d % 8 + 8 * w) is
    ∙ ap (λ n. f d % 8 + 8 * pack (ends_from f n (20 - e))) (sym at)
    ∙ ap (λ n. pack (ends_from f d n)) (sym more)

eight : (n : ℕ) → 8 ^ n ≡ 2 ^ (3 * n)
eight zero = refl
eight (suc n) =
    let r = eight n in
    let a = pow-suc 8 n in
    let e : 3 + 3 * n ≡ 3 * suc n = omega arith in
    let b : 2 ^ (3 + 3 * n) ≡ 2 ^ (3 * suc n) = ap (λ k. 2 ^ k) e in
    let d = pow-add 2 3 (3 * n) in
    omega arith

pub pack_small : (f : ℕ → ℕ) (e word : ℕ) → 0 < e → word ≡ pack (ends_from f e (20 - e)) → word < 2 ^ 57
pack_small f e word pos is =
    let n = 20 - e in
    let b = pack_below (ends_from f e n) in
    let c : 8 ^ length (ends_from f e n) ≡ 2 ^ (3 * n) = ap (λ k. 8 ^ k) (length-ends f e n) ∙ eight n in
    let k : 3 * n ≤ 57 = omega arith in
    let m : 2 ^ (3 * n) ≤ 2 ^ 57 = pow_mono {i = 3 * n} {j = 57} k in
    omega arith

-- ---- one word more
pub words_more : (f : ℕ → ℕ) (words : List ℕ) (x base n : ℕ) → length words ≡ base + n → ((i : ℕ) → i < n → get_or words (base + i) 0 ≡ f i) → x ≡ f n
    → (i : ℕ) → i < n + 1 → get_or (words ++ x ∷ []) (base + i) 0 ≡ f i
words_more f words x base n long all is i h =
    ⊎_elim
    (λ (lt : i < n). get_or-append words (x ∷ []) 0 (base + i) (omega arith) ∙ all i lt)
    (λ (ge : n ≤ i).
    let e : i ≡ n = omega arith in
    let at : base + i ≡ length words = omega arith in
    ap (λ k. get_or (words ++ x ∷ []) k 0) at ∙ get_or-append_seam words x [] 0 ∙ is ∙ ap f (sym e))
    (cases_lt i n)

pub words_kept : (f : ℕ → ℕ) (words : List ℕ) (x n : ℕ) → n ≤ length words → ((i : ℕ) → i < n → get_or words i 0 ≡ f i) → (i : ℕ) → i < n → get_or (words ++ x ∷ []) i 0 ≡ f i
words_kept f words x n le all i h = get_or-append words (x ∷ []) 0 i (omega arith) ∙ all i h

-- ---- what is laid is the opening
module _ (about : About) (words : List ℕ) (is : IsSet about.set) (fits : Fits about.set about.opened) (pos : 0 < about.workers) (h : HasWords about.set about.opened words) where
  pub laid_status : (p : ℕ) → p < procs about.set → status words p ≡ status_before about.set about.opened p
  unfolding status
  laid_status p lt =
      let rest : 16 * p % 16 ≡ 0 = omega arith in
      let place : 16 * p / 16 ≡ p = omega arith in
      h.firsts (16 * p) (omega arith)
      ∙ ap (λ b. cond b (status_before about.set about.opened (16 * p / 16)) 0) (eq-eqb (16 * p % 16) 0 rest)
      ∙ ap (status_before about.set about.opened) place

  laid_small : (i : ℕ) → 16 * procs about.set ≤ i → get_or words i 0 < 2 ^ 32
  laid_small i le =
      ⊎_elim
      (λ (lt : i < length words).
      let d = i - 16 * procs about.set in
      let place : i ≡ 16 * procs about.set + d = omega arith in
      let long = h.long in
      let v = h.values d (omega arith) in
      let small : value_before about.opened d < 2 ^ 32 = word_in (wire about.opened (d / 16)) (d % 16) (fits.values (d / 16)) in
      subst (λ k. get_or words k 0 < 2 ^ 32) (sym place) (subst (λ k. k < 2 ^ 32) (sym v) small))
      (λ (ge : length words ≤ i). let z = get_or_past words i 0 ge in omega arith)
      (cases_lt i (length words))

  pub laid : IsLaid about words
  unfolding status_before data_word
  laid = record {
    is_set = is;
    some_worker = pos;
    fits = fits;
    wide = h.long;
    small = laid_small;
    packs = laid_status;
    values = λ w k lt in'.
        let few = fits.depth w in
        let deep = is.small_depth in
        let place : 16 * (procs about.set + w) + k ≡ 16 * procs about.set + (16 * w + k) = omega arith in
        let at : (16 * w + k) / 16 ≡ w = omega arith in
        let rest : (16 * w + k) % 16 ≡ k = omega arith in
        ap (λ i. get_or words i 0) place ∙ h.values (16 * w + k) (omega arith) ∙ (λ i. get_or (wire about.opened (at i)) (rest i) 0);
  }

-- ---- what was sent at an end
module _ (g : ProgramSet) (s : MachineState) (p e : ℕ) (ends : EndWires) where
  pub sent_some : (w : ℕ) → AreEndsOf g.topo p ends → e < 20 → 10 ≤ e → slice_index_or ends.outputs (e - 10) None ≡ Some w → length (wire s w) ≡ sent_before g s p e
  unfolding wires
  sent_some w are few past is =
      let place : 10 + (e - 10) ≡ e = omega arith in
      let out = output_is g p ends are e few past (Some w) is in
      let at : wire_at g p e ≡ w = ap (wire_at g p) (sym place) ∙ wire_output g p (e - 10) w out in
      let there : wire_at g p e < wires g = subst (λ k. k < wires g) (sym at) (output_within g.topo w p (e - 10) out) in
      ap (λ k. length (wire s k)) (sym at)
      ∙ ap (λ b. cond b (length (wire s (wire_at g p e))) 0) (sym (lt-ltb (wire_at g p e) (wires g) there))
      ∙ ap (λ b. cond b 0 (held_at g s p e)) (sym (le-ltb e 10 past))

  pub sent_none : AreEndsOf g.topo p ends → e < 20 → 10 ≤ e → slice_index_or ends.outputs (e - 10) None ≡ None → 0 ≡ sent_before g s p e
  sent_none are few past is =
      let at : wire_at g p e ≡ wires g = none_out g p ends are e few past is in
      let above : wires g ≤ wire_at g p e = omega arith in
      ap (λ b. cond b (length (wire s (wire_at g p e))) 0) (sym (le-ltb (wire_at g p e) (wires g) above))
      ∙ ap (λ b. cond b 0 (held_at g s p e)) (sym (le-ltb e 10 past))

-- one word more at the front
pub firsts_more : (f : ℕ → ℕ) (words : List ℕ) (x n : ℕ) → length words ≡ n → ((i : ℕ) → i < n → get_or words i 0 ≡ f i) → x ≡ f n → (i : ℕ) → i < n + 1 → get_or (words ++ x ∷ []) i 0 ≡ f i
firsts_more f words x n long all is i h =
    let none : 0 + i ≡ i = omega arith in
    ap (λ k. get_or (words ++ x ∷ []) k 0) (sym none)
    ∙ words_more f words x 0 n (let z : length words ≡ 0 + n = omega arith in z) (λ j lt. ap (λ k. get_or words k 0) (let z : 0 + j ≡ j = omega arith in z) ∙ all j lt) is i h

pub status_in : (g : ProgramSet) (s : MachineState) (words : List ℕ) (p : ℕ) → HasWords g s words → p < procs g → get_or words (16 * p) 0 ≡ status_before g s p
status_in g s words p h lt =
    let rest : 16 * p % 16 ≡ 0 = omega arith in
    let place : 16 * p / 16 ≡ p = omega arith in
    h.firsts (16 * p) (omega arith)
    ∙ ap (λ b. cond b (status_before g s (16 * p / 16)) 0) (eq-eqb (16 * p % 16) 0 rest)
    ∙ ap (status_before g s) place
