-- The words that the inputs of a row take.
use Rattle.std.proofs.Common.{◌≡◌, ℕ, zero, suc, ◌+◌, List, [], ◌∷◌, map, take, drop, Some, refl, sym, ap, ◌∙◌, arith}
use Rattle.std.specs.Prelude.{slice_get, slice_index}
use Rattle.std.specs.List.{filter_map}
use Rattle.std.proofs.lemmas.Option.{none-some, same_Some}
use Rattle.std.proofs.Math.Numerals.{suc-eq-add-one}
use Rattle.raw_flow.specs.Flows.{inputs_in}
use Rattle.raw_stream.specs.declared.row_node.RowNode.{RowNode}
use Rattle.raw_stream.specs.declared.row_node.RowNode.TheVariants.{Input, Const, Apply, Pre}
use Rattle.raw_stream.specs.Streams.{Stream, plain, taken, valued, first_of, next_of}
use Rattle.raw_stream.specs.Unrolled.{word_place, words_from}

-- a word for each `Pre`, of its node and its first word
abbrev pub pres : (ℕ → ℕ → ℕ) → List RowNode → List ℕ
pres g [] = []
pres g (Input q ∷ nodes) = pres g nodes
pres g (Const word ∷ nodes) = pres g nodes
pres g (Apply op a b ∷ nodes) = pres g nodes
pres g (Pre a word ∷ nodes) = g a word ∷ pres g nodes

pub pres_first : (nodes : List RowNode) → filter_map first_of nodes ≡ pres (λ a word. word) nodes
pres_first [] = refl
pres_first (Input q ∷ nodes) = pres_first nodes
pres_first (Const word ∷ nodes) = pres_first nodes
pres_first (Apply op a b ∷ nodes) = pres_first nodes
pres_first (Pre a word ∷ nodes) = ap (λ ws. word ∷ ws) (pres_first nodes)

pub pres_next : (values : List ℕ) (nodes : List RowNode) → valued values (filter_map next_of nodes) ≡ pres (λ a word. slice_index values a) nodes
pres_next values [] = refl
pres_next values (Input q ∷ nodes) = pres_next values nodes
pres_next values (Const word ∷ nodes) = pres_next values nodes
pres_next values (Apply op a b ∷ nodes) = pres_next values nodes
pres_next values (Pre a word ∷ nodes) = ap (λ ws. slice_index values a ∷ ws) (pres_next values nodes)

-- one place further
index_more : (x : ℕ) (xs : List ℕ) (k : ℕ) → slice_index (x ∷ xs) (k + 1) ≡ slice_index xs k
index_more x xs k = ap (slice_index (x ∷ xs)) (sym (suc-eq-add-one k))

-- a `Pre` takes its own word
pub taken_pre : (g : ℕ → ℕ → ℕ) (nodes : List RowNode) (words : List ℕ) (i a word : ℕ) → slice_get nodes i ≡ Some (Pre a word)
    → slice_index (taken nodes (pres g nodes) words) (inputs_in (take i (map plain nodes))) ≡ g a word
taken_pre g [] words i a word e = absurd (none-some (Pre a word) e)
taken_pre g (Input q ∷ nodes) words zero a word e = cc e
taken_pre g (Const w ∷ nodes) words zero a word e = cc e
taken_pre g (Apply op b c ∷ nodes) words zero a word e = cc e
taken_pre g (Pre b w ∷ nodes) words zero a word e = ap (λ n. elim n as (λ _. ℕ) [ Input q ↦ 0 | Const x ↦ 0 | Apply f c d ↦ 0 | Pre c x ↦ g c x ]) (same_Some (Pre b w) (Pre a word) e)
taken_pre g (Input q ∷ nodes) words (suc i) a word e =
    index_more (slice_index words 0) (taken nodes (pres g nodes) (drop 1 words)) (inputs_in (take i (map plain nodes))) ∙ taken_pre g nodes (drop 1 words) i a word e
taken_pre g (Const w ∷ nodes) words (suc i) a word e = taken_pre g nodes words i a word e
taken_pre g (Apply op b c ∷ nodes) words (suc i) a word e = taken_pre g nodes words i a word e
taken_pre g (Pre b w ∷ nodes) words (suc i) a word e =
    index_more (g b w) (taken nodes (pres g nodes) words) (inputs_in (take i (map plain nodes))) ∙ taken_pre g nodes words i a word e

-- an input takes the word at its place
pub taken_word : (s : Stream) (all : List ℕ) (r : ℕ) (nodes : List RowNode) (carried : List ℕ) (v i q j : ℕ) → slice_get nodes i ≡ Some (Input q) → v + i ≡ j
    → slice_index (taken nodes carried (words_from s all r v nodes)) (inputs_in (take i (map plain nodes))) ≡ slice_index all (word_place s r q j)
taken_word s all r [] carried v i q j e at = absurd (none-some (Input q) e)
taken_word s all r (Input p ∷ nodes) carried v zero q j e at =
    let same : p ≡ q = ap (λ n. elim n as (λ _. ℕ) [ Input k ↦ k | Const x ↦ 0 | Apply f c d ↦ 0 | Pre c x ↦ 0 ]) (same_Some (Input p) (Input q) e) in
    let here : v ≡ j = omega (arith, at) in
    ap (λ k. slice_index all (word_place s r k v)) same ∙ ap (λ k. slice_index all (word_place s r q k)) here
taken_word s all r (Const w ∷ nodes) carried v zero q j e at = cc e
taken_word s all r (Apply op b c ∷ nodes) carried v zero q j e at = cc e
taken_word s all r (Pre b w ∷ nodes) carried v zero q j e at = cc e
taken_word s all r (Input p ∷ nodes) carried v (suc i) q j e at =
    index_more (slice_index all (word_place s r p v)) (taken nodes carried (words_from s all r (v + 1) nodes)) (inputs_in (take i (map plain nodes))) ∙ taken_word s all r nodes carried (v + 1) i q j e (omega (arith, at))
taken_word s all r (Const w ∷ nodes) carried v (suc i) q j e at = taken_word s all r nodes carried (v + 1) i q j e (omega (arith, at))
taken_word s all r (Apply op b c ∷ nodes) carried v (suc i) q j e at = taken_word s all r nodes carried (v + 1) i q j e (omega (arith, at))
taken_word s all r (Pre b w ∷ nodes) carried v (suc i) q j e at =
    index_more (slice_index carried 0) (taken nodes (drop 1 carried) (words_from s all r (v + 1) nodes)) (inputs_in (take i (map plain nodes))) ∙ taken_word s all r nodes (drop 1 carried) (v + 1) i q j e (omega (arith, at))
