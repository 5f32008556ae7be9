-- One haul of a planned set: the origin's tile sends, and the targets' tiles store.
use Rattle.std.proofs.Common.{◌≡◌, ℕ, zero, suc, ◌+◌, ◌*◌, ◌^◌, ◌<◌, ◌≤◌, ◌⊎◌, false, cond, eqb, ◌||◌, List, [], ◌∷◌, ◌++◌, length, map, Some, inl, inr, refl, sym, ap, ◌∙◌, subst, ⊎_elim, arith, append_assoc}
use Rattle.std.specs.Prelude.{slice_get, slice_set}
use Rattle.std.proofs.lemmas.Bool.{cases_eq, eq-eqb, ne_eqb}
use Rattle.std.proofs.lemmas.List.{append-nil, length-set, get_or-set_same, get_or-set_other}
use Rattle.std.proofs.lemmas.Option.{same_Some}
use Rattle.raw_model.specs.declared.limits.TheConstants.{MEMORY_SIZE}
use Rattle.raw_codegen.specs.declared.limits.TheConstants.{WORDS_IN_REACH}
use Rattle.raw_switch_isa.specs.declared.limits.TheConstants.{MAX_SWITCH_CODE}
use Rattle.raw_network.specs.Network.{values_on}
use Rattle.raw_tile_isa.specs.Load.{load}
use Rattle.raw_grid.specs.declared.parts.Net.{Net}
use Rattle.raw_grid.specs.declared.parts.Net.TheVariants.{One, Two}
use Rattle.raw_grid.specs.Topology.{tile_count}
use Rattle.raw_model.specs.Program.{ProgramSet, memory_size}
use Rattle.raw_model.specs.TileTable.{word_at}
use Rattle.raw_model.specs.Start.{MachineState}
use Rattle.raw_codegen.specs.Parts.{Part}
use Rattle.raw_codegen.specs.Steps.{Leads, IsGone}
use Rattle.raw_codegen.specs.Straight.{IsCore, core_with, SendsWord, TakesWord}
use Rattle.raw_codegen.specs.Standing.{to_tile_wire, IsScript, PartsStand, SameBut, HasGone}
use Rattle.raw_codegen.specs.Rows.{register_of, IsKeeping, send_ins, store_ins, with_word}
use Rattle.raw_codegen.proofs.Moves.{stay, then, more}
use Rattle.raw_route.specs.Hauls.{Haulage}
use Rattle.raw_route.specs.Carrying.{IsAtTargets}
use Rattle.raw_route.specs.Planned.{Sending, is_among, words_to, store_part}
use Rattle.raw_route.proofs.Given.{Laws}
use Rattle.raw_route.proofs.Members.{In, contains_in, in_contains, Ordered}
use Rattle.raw_route.proofs.Relay.{entry_cases, entry_first, entry_behind}
use Rattle.raw_route.proofs.Words.{not_among}

-- no wire holds a value
abbrev pub Idle : MachineState → Type 0
Idle s = (w : ℕ) → values_on s.wires w ≡ []

-- these words stand in the memories, from address 0 on
abbrev pub Holds : (ℕ → List ℕ) → (ℕ → List ℕ) → Type 0
Holds words memories = (t i word : ℕ) → slice_get (words t) i ≡ Some word → word_at (memories t) (4 * i) ≡ word

pub holds_same : (words others memories : ℕ → List ℕ) → Holds words memories → ((t : ℕ) → others t ≡ words t) → Holds others memories
holds_same words others memories h same t i word e = h t i word (ap (λ ws. slice_get ws i) (sym (same t)) ∙ e)

-- register 5 keeps what is written to it
pub keeping : IsKeeping 5
keeping = record { below = omega arith; keeps = refl }

same_to : (net : Net) (a b : ℕ) → to_tile_wire net a ≡ to_tile_wire net b → a ≡ b
same_to One a b e = omega arith
same_to Two a b e = omega arith

pub size_is : memory_size ≡ MEMORY_SIZE
unfolding memory_size
size_is = refl

push_get : (xs : List ℕ) (x i y : ℕ) → slice_get (xs ++ x ∷ []) i ≡ Some y → ((i < length xs) × (slice_get xs i ≡ Some y)) ⊎ ((i ≡ length xs) × (x ≡ y))
push_get [] x zero y e = inr (refl, same_Some x y e)
push_get [] x (suc i) y e = absurd (cc e)
push_get (z ∷ zs) x zero y e = inl (omega arith, e)
push_get (z ∷ zs) x (suc i) y e =
    ⊎_elim (λ (g : (i < length zs) × (slice_get zs i ≡ Some y)). inl (let l = g.0 in omega arith, g.1)) (λ (g : (i ≡ length zs) × (x ≡ y)). inr (ap suc g.0, g.1)) (push_get zs x i y e)

module _ (laws : Laws) (set : ProgramSet) (all : List Part) (script : IsScript set all) where
  -- 'li' and then 'addu' send the word
  pub sends_word : (net : Net) (word : ℕ) (memory : List ℕ) → word < 2 ^ 32 → SendsWord (load 5 word) (send_ins net 5) net word memory
  sends_word net word memory small = record {
    sender = laws.sender net 5 keeping;
    runs = λ regs core.
        let after : IsCore (core_with (slice_set regs 5 word) memory) = record {
          registers = length-set regs 5 word ∙ core.registers;
          register_0 = get_or-set_other regs 5 0 word 0 (λ e. omega arith) ∙ core.register_0;
          memory = core.memory;
        } in (
          slice_set regs 5 word,
          laws.li 5 word (core_with regs memory) keeping core small,
          laws.sends net 5 word (core_with (slice_set regs 5 word) memory) keeping after small (get_or-set_same regs 5 word 0 (omega (arith, core.registers))),
        );
  }

  -- 'sw' stores the word that comes
  takes_word : (net : Net) (v word : ℕ) (memory : List ℕ) → v < WORDS_IN_REACH → TakesWord (store_ins (register_of net) v) net word memory (with_word memory v word)
  takes_word net v word memory few = record { taker = laws.store_taker net v; does = λ regs core. (regs, laws.store_take net v word (core_with regs memory) core few) }

  -- the word has come to each of these targets, and is nowhere else
  pub record IsAtEach (net : Net) (ts : List ℕ) (x : ℕ) (s : MachineState) : Type 0 where
    pub there : (t : ℕ) → In t ts → values_on s.wires (to_tile_wire net t) ≡ x ∷ []
    pub nowhere : (w : ℕ) → ((t : ℕ) → In t ts → w ≡ to_tile_wire net t → ⊥) → values_on s.wires w ≡ []

  pub at_each : (haul : Haulage) (x : ℕ) (s : MachineState) → IsAtTargets haul x s.wires → IsAtEach haul.net haul.to x s
  at_each haul x s at = record {
    there = λ t m. at.there t (in_contains t haul.to m);
    nowhere = λ w ne. at.nowhere w (λ t c. ne t (contains_in t haul.to c));
  }

  -- what the targets hold once these have stored a word
  abbrev pub with_stored : List ℕ → ℕ → (ℕ → List ℕ) → ℕ → List ℕ
  with_stored ts x words u = cond (is_among ts u) (words u ++ x ∷ []) (words u)

  abbrev with_one : ℕ → ℕ → (ℕ → List ℕ) → ℕ → List ℕ
  with_one t x words u = cond (eqb t u) (words u ++ x ∷ []) (words u)

  same_stored : (t : ℕ) (ts : List ℕ) (x : ℕ) (words : ℕ → List ℕ) → (In t ts → ⊥) → (u : ℕ) → with_stored (t ∷ ts) x words u ≡ with_stored ts x (with_one t x words) u
  same_stored t ts x words none u =
      ⊎_elim
      (λ (e : t ≡ u).
      let among : is_among ts u ≡ false = subst (λ k. is_among ts k ≡ false) e (not_among ts t none) in
      ap (λ b. cond (b || is_among ts u) (words u ++ x ∷ []) (words u)) (eq-eqb t u e)
      ∙ sym (ap (λ b. cond b (with_one t x words u ++ x ∷ []) (with_one t x words u)) among ∙ ap (λ b. cond b (words u ++ x ∷ []) (words u)) (eq-eqb t u e)))
      (λ (ne : t ≡ u → ⊥).
      ap (λ b. cond (b || is_among ts u) (words u ++ x ∷ []) (words u)) (ne_eqb t u ne)
      ∙ sym (ap (λ ws. cond (is_among ts u) (ws ++ x ∷ []) ws) (ap (λ b. cond b (words u ++ x ∷ []) (words u)) (ne_eqb t u ne))))
      (cases_eq t u)

  -- the memories once a tile has stored a word
  abbrev with_memory : ℕ → ℕ → ℕ → (ℕ → List ℕ) → ℕ → List ℕ
  with_memory t v x memories u = cond (eqb t u) (with_word (memories u) v x) (memories u)

  holds_one : (t x : ℕ) (words memories : ℕ → List ℕ) → x < 2 ^ 32 → 4 * length (words t) + 4 ≤ length (memories t) → Holds words memories
      → Holds (with_one t x words) (with_memory t (length (words t)) x memories)
  holds_one t x words memories small inside old u i word e =
      ⊎_elim (λ (same : t ≡ u). here same) (λ (ne : t ≡ u → ⊥). there ne) (cases_eq t u)
    where
      there : (t ≡ u → ⊥) → word_at (with_memory t (length (words t)) x memories u) (4 * i) ≡ word
      there ne =
          ap (λ b. word_at (cond b (with_word (memories u) (length (words t)) x) (memories u)) (4 * i)) (ne_eqb t u ne)
          ∙ old u i word (sym (ap (λ b. slice_get (cond b (words u ++ x ∷ []) (words u)) i) (ne_eqb t u ne)) ∙ e)

      new : slice_get (words t ++ x ∷ []) i ≡ Some word → word_at (with_word (memories t) (length (words t)) x) (4 * i) ≡ word
      new f =
          ⊎_elim
          (λ (g : (i < length (words t)) × (slice_get (words t) i ≡ Some word)).
          laws.elsewhere (memories t) (length (words t)) x i (λ same. let l = g.0 in omega arith) ∙ old t i word g.1)
          (λ (g : (i ≡ length (words t)) × (x ≡ word)).
          ap (λ k. word_at (with_word (memories t) (length (words t)) x) (4 * k)) g.0 ∙ laws.there (memories t) (length (words t)) x inside small ∙ g.1)
          (push_get (words t) x i word f)

      here : t ≡ u → word_at (with_memory t (length (words t)) x memories u) (4 * i) ≡ word
      here same =
          ap (λ b. word_at (cond b (with_word (memories u) (length (words t)) x) (memories u)) (4 * i)) (eq-eqb t u same)
          ∙ subst (λ k. word_at (with_word (memories k) (length (words t)) x) (4 * i) ≡ word) same
          (new (ap (λ k. slice_get (words k ++ x ∷ []) i) same ∙ sym (ap (λ b. slice_get (cond b (words u ++ x ∷ []) (words u)) i) (eq-eqb t u same)) ∙ e))

  -- the targets store the word, one after another
  pub store_phase : (earlier : List Sending) (net : Net) (x : ℕ) (ts : List ℕ) (parts rest : List Part) (words memories : ℕ → List ℕ) (s : MachineState)
      → all ≡ parts ++ (map (store_part earlier net) ts ++ rest) → Ordered (λ a b. a ≡ b → ⊥) ts → ((t : ℕ) → In t ts → t < tile_count set.topo)
      → ((t : ℕ) → In t ts → words t ≡ words_to t earlier) → ((t : ℕ) → In t ts → length (words_to t earlier) < MAX_SWITCH_CODE) → x < 2 ^ 32
      → PartsStand set parts memories s → Holds words memories → IsAtEach net ts x s
      → Leads set s (λ r. (m : ℕ → List ℕ) × PartsStand set (parts ++ map (store_part earlier net) ts) m r × Holds (with_stored ts x words) m × Idle r)
  store_phase earlier net x [] parts rest words memories s e distinct inside same few small old holds at =
      stay set s (λ r. (m : ℕ → List ℕ) × PartsStand set (parts ++ []) m r × Holds (with_stored [] x words) m × Idle r)
      (memories, subst (λ ps. PartsStand set ps memories s) (sym (append-nil parts)) old, holds, λ w. at.nowhere w (λ t m. absurd (no_entry t m)))
    where
      no_entry : (t : ℕ) → In t [] → ⊥
      no_entry t m = omega arith
  store_phase earlier net x (t ∷ ts) parts rest words memories s e distinct inside same few small old holds at =
      let v : ℕ = length (words_to t earlier) in
      let first : In t (t ∷ ts) = entry_first t ts in
      let none : In t ts → ⊥ = λ m. distinct.0 t m refl in
      let within : t < tile_count set.topo = inside t first in
      let size : length (words t) ≡ v = ap length (same t first) in
      let after : ℕ → List ℕ = with_memory t v x memories in
      let after_is : after t ≡ with_word (memories t) v x = ap (λ b. cond b (with_word (memories t) v x) (memories t)) (eq-eqb t t refl) in
      let takes : TakesWord (store_ins (register_of net) v) net x (memories t) (after t) =
      subst (λ m. TakesWord (store_ins (register_of net) v) net x (memories t) m) (sym after_is) (takes_word net v x (memories t) (few t first)) in
      let others : SameBut t memories after = record { at = λ u ne. ap (λ b. cond b (with_word (memories u) v x) (memories u)) (ne_eqb t u (λ e. ne (sym e))) } in
      let fit = (old.fits.locals t _ (old.tiles t within).1).1 in
      let long : 4 * length (words t) + 4 ≤ length (memories t) = let a = fit.memory in let b = size_is in let c = few t first in let d = size in omega arith in
      let P : MachineState → Type 0 = λ r. HasGone set (parts ++ store_part earlier net t ∷ []) after s r × IsGone (to_tile_wire net t) x s.wires r.wires in
      let Q : MachineState → Type 0 = λ r. (m : ℕ → List ℕ) × PartsStand set (parts ++ map (store_part earlier net) (t ∷ ts)) m r × Holds (with_stored (t ∷ ts) x words) m × Idle r in
      then set s P Q
      (laws.take set all parts (map (store_part earlier net) ts ++ rest) t memories after s script within old (store_ins (register_of net) v) net x [] e takes others (at.there t first))
      (λ r h.
      more set r (λ q. (m : ℕ → List ℕ) × PartsStand set ((parts ++ store_part earlier net t ∷ []) ++ map (store_part earlier net) ts) m q × Holds (with_stored ts x (with_one t x words)) m × Idle q) Q
      (store_phase earlier net x ts (parts ++ store_part earlier net t ∷ []) rest (with_one t x words) after r
      (e ∙ sym (append_assoc parts (store_part earlier net t ∷ []) (map (store_part earlier net) ts ++ rest)))
      distinct.1
      (λ u m. inside u (entry_behind u t ts m))
      (λ u m. ap (λ b. cond b (words u ++ x ∷ []) (words u)) (ne_eqb t u (λ same. none (subst (λ k. In k ts) (sym same) m))) ∙ same u (entry_behind u t ts m))
      (λ u m. few u (entry_behind u t ts m))
      small h.0.stands
      (subst (λ n. Holds (with_one t x words) (with_memory t n x memories)) size (holds_one t x words memories small long holds))
      (record {
        there = λ u m. h.1.elsewhere (to_tile_wire net u) (λ e. none (subst (λ k. In k ts) (same_to net u t e) m)) ∙ at.there u (entry_behind u t ts m);
        nowhere = λ w ne.
            ⊎_elim
            (λ (here : w ≡ to_tile_wire net t). subst (λ u. values_on r.wires u ≡ []) (sym here) (let both : x ∷ [] ≡ x ∷ values_on r.wires (to_tile_wire net t) = sym (at.there t first) ∙ h.1.here in cc both))
            (λ (away : w ≡ to_tile_wire net t → ⊥). h.1.elsewhere w away ∙ at.nowhere w (λ u m. among w ne away u m))
            (cases_eq w (to_tile_wire net t));
      }))
      (λ q g. (
        g.0,
        subst (λ ps. PartsStand set ps g.0 q) (append_assoc parts (store_part earlier net t ∷ []) (map (store_part earlier net) ts)) g.1,
        holds_same (with_stored ts x (with_one t x words)) (with_stored (t ∷ ts) x words) g.0 g.2 (same_stored t ts x words none),
        g.3,
      )))
    where
      among : (w : ℕ) → ((u : ℕ) → In u ts → w ≡ to_tile_wire net u → ⊥) → (w ≡ to_tile_wire net t → ⊥) → (u : ℕ) → In u (t ∷ ts) → w ≡ to_tile_wire net u → ⊥
      among w ne away u m e =
          ⊎_elim (λ (same : t ≡ u). away (e ∙ ap (to_tile_wire net) (sym same))) (λ (k : In u ts). ne u k e) (entry_cases u t ts m)
