-- Memories that have the values of nodes.
use Rattle.std.proofs.Common.{◌≡◌, ℕ, ◌*◌, ◌^◌, ◌<◌, true, cond, eqb, List, length, refl, sym, ap, ◌∙◌, subst, ⊎_elim, arith}
use Rattle.std.specs.Prelude.{slice_index, ◌==◌}
use Rattle.std.proofs.lemmas.Bool.{cases_eq, eq-eqb, ne_eqb, eqb-true, or_cases, and_parts}
use Rattle.raw_flow.specs.declared.limits.TheConstants.{MAX_NODES}
use Rattle.raw_model.specs.declared.limits.TheConstants.{MEMORY_SIZE}
use Rattle.raw_model.specs.TileTable.{word_at}
use Rattle.raw_codegen.specs.Rows.{with_word}
use Rattle.raw_codegen.specs.Standing.{SameBut}
use Rattle.raw_flow.specs.Places.{Holding, is_holding, has, with_value}
use Rattle.raw_flow.proofs.Given.{Stored}

-- a memory has each value that its tile is said to have
pub record Knows (vals : List ℕ) (held : List Holding) (t : ℕ) (memory : List ℕ) : Type 0 where
  pub word : (v : ℕ) → has held v t ≡ true → (v < MAX_NODES) × (word_at memory (4 * v) ≡ slice_index vals v)

-- so has each memory
abbrev pub AllKnow : List ℕ → List Holding → (ℕ → List ℕ) → Type 0
AllKnow vals held memories = (t : ℕ) → Knows vals held t (memories t)

-- what is newly held is the value v at tile t, or it is held already
new_or_old : (held : List Holding) (v t w u : ℕ) → has (with_value held v t) w u ≡ true → ((v ≡ w) × (t ≡ u) → ⊥) → has held w u ≡ true
new_or_old held v t w u h other =
    ⊎_elim (λ (p : is_holding w u (record { value = v; tile = t }) ≡ true). let parts = and_parts (v == w) (t == u) p in absurd (other (eqb-true v w parts.0, eqb-true t u parts.1)))
    (λ (q : has held w u ≡ true). q)
    (or_cases (is_holding w u (record { value = v; tile = t })) (has held w u) h)

-- the memories after tile t has stored the value v
abbrev pub with_memory : ℕ → ℕ → ℕ → (ℕ → List ℕ) → ℕ → List ℕ
with_memory t v x memories u = cond (eqb t u) (with_word (memories u) v x) (memories u)

pub memory_here : (t v x : ℕ) (memories : ℕ → List ℕ) → with_memory t v x memories t ≡ with_word (memories t) v x
memory_here t v x memories = ap (λ b. cond b (with_word (memories t) v x) (memories t)) (eq-eqb t t refl)

pub memory_there : (t v x : ℕ) (memories : ℕ → List ℕ) → SameBut t memories (with_memory t v x memories)
memory_there t v x memories = record { at = λ u ne. ap (λ b. cond b (with_word (memories u) v x) (memories u)) (ne_eqb t u (λ e. ne (sym e))) }

module _ (stored : Stored) (vals : List ℕ) (held : List Holding) (v t x : ℕ) (memories : ℕ → List ℕ) where
  pub all_know : length (memories t) ≡ MEMORY_SIZE → v < MAX_NODES → x ≡ slice_index vals v → x < 2 ^ 32 → AllKnow vals held memories → AllKnow vals (with_value held v t) (with_memory t v x memories)
  all_know size few is small know u = ⊎_elim (λ (e : t ≡ u). subst (λ k. Knows vals (with_value held v t) k (with_memory t v x memories k)) e here) (λ (ne : t ≡ u → ⊥). there ne) (cases_eq t u)
    where
      there : (t ≡ u → ⊥) → Knows vals (with_value held v t) u (with_memory t v x memories u)
      there ne = record {
        word = λ w h.
            let k = (know u).word w (new_or_old held v t w u h (λ both. ne both.1)) in
            (k.0, ap (λ m. word_at m (4 * w)) ((memory_there t v x memories).at u (λ e. ne (sym e))) ∙ k.1);
      }

      word : (w : ℕ) → has (with_value held v t) w t ≡ true → (w < MAX_NODES) × (word_at (with_word (memories t) v x) (4 * w) ≡ slice_index vals w)
      word w h = ⊎_elim new old (cases_eq v w)
        where
          new : v ≡ w → (w < MAX_NODES) × (word_at (with_word (memories t) v x) (4 * w) ≡ slice_index vals w)
          new e =
              subst (λ k. (k < MAX_NODES) × (word_at (with_word (memories t) v x) (4 * k) ≡ slice_index vals k)) e
              (few, stored.there (memories t) v x (omega arith) small ∙ is)

          old : (v ≡ w → ⊥) → (w < MAX_NODES) × (word_at (with_word (memories t) v x) (4 * w) ≡ slice_index vals w)
          old ne =
              let k = (know t).word w (new_or_old held v t w t h (λ both. ne both.0)) in
              (k.0, stored.elsewhere (memories t) v x w (λ e. ne (sym e)) ∙ k.1)

      here : Knows vals (with_value held v t) t (with_memory t v x memories t)
      here = record { word = λ w h. let k = word w h in (k.0, ap (λ m. word_at m (4 * w)) (memory_here t v x memories) ∙ k.1) }

-- a value that is there already
pub know_again : (vals : List ℕ) (held : List Holding) (v t : ℕ) (memories : ℕ → List ℕ) → has held v t ≡ true → AllKnow vals held memories → AllKnow vals (with_value held v t) memories
know_again vals held v t memories there know u = record {
  word = λ w h. (know u).word w
      (⊎_elim (λ (p : is_holding w u (record { value = v; tile = t }) ≡ true).
      let parts = and_parts (v == w) (t == u) p in
      subst (λ x. has held x u ≡ true) (eqb-true v w parts.0) (subst (λ y. has held v y ≡ true) (eqb-true t u parts.1) there))
      (λ (q : has held w u ≡ true). q)
      (or_cases (is_holding w u (record { value = v; tile = t })) (has held w u) h));
}
