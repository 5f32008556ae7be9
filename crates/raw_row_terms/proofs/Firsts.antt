-- What is carried into the first row, and the constants of a row.
use Rattle.std.proofs.Common.{◌≡◌, ℕ, zero, suc, ◌^◌, ◌<◌, List, [], ◌∷◌, ◌++◌, map, Some, sym, ◌∙◌, subst, append_assoc, refl}
use Rattle.std.specs.Prelude.{slice_get}
use Rattle.std.specs.List.{filter_map}
use Rattle.std.proofs.lemmas.List.{append-nil}
use Rattle.raw_flow.specs.declared.node.Node.{Node}
use Rattle.raw_flow.specs.declared.node.Node.TheVariants.{Const}
use Rattle.raw_flow.specs.Flows.{IsNode, values_from}
use Rattle.raw_stream.specs.declared.row_node.RowNode.{RowNode}
use Rattle.raw_stream.specs.declared.row_node.RowNode.TheVariants as row
use Rattle.raw_stream.specs.Streams.{Stream, AreNamed, plain_nodes, first_of, first_words}
use Rattle.raw_stream.proofs.Unrolled.{are_plain}
use Rattle.raw_term.proofs.Terms.{some_is, none_some}
use Rattle.raw_row_terms.specs.RowTerms.{AreWordNodes, AllWords}

pub constants_follow : (c : List ℕ) (k : ℕ) (before words : List ℕ) → values_from c k before (map (λ (word : ℕ). Const word) words) ≡ before ++ words
constants_follow c k before [] = sym (append-nil before)
constants_follow c k before (w ∷ words) = constants_follow c k (before ++ w ∷ []) words ∙ append_assoc before (w ∷ []) words

pub known_constants : (words : List ℕ) → AllWords words → AreWordNodes (map (λ (word : ℕ). Const word) words)
known_constants [] small v word e = none_some (Const word) e
known_constants (w ∷ words) small zero word e = subst (λ x. x < 2 ^ 32) (same (some_is (Const w) (Const word) e)) (small 0 w refl) where
  same : Const w ≡ Const word → w ≡ word
  same f = cc f
known_constants (w ∷ words) small (suc v) word e = known_constants words (λ i x f. small (suc i) x f) v word e

-- what is carried into the first row is words
first_small : (nodes : List RowNode) → ((v a word : ℕ) → slice_get nodes v ≡ Some (row.Pre a word) → word < 2 ^ 32) → AllWords (filter_map first_of nodes)
first_small [] small i x e = none_some x e
first_small (row.Input q ∷ nodes) small i x e = first_small nodes (λ v. small (suc v)) i x e
first_small (row.Const w ∷ nodes) small i x e = first_small nodes (λ v. small (suc v)) i x e
first_small (row.Apply op a b ∷ nodes) small i x e = first_small nodes (λ v. small (suc v)) i x e
first_small (row.Pre a w ∷ nodes) small zero x e = subst (λ y. y < 2 ^ 32) (some_is w x e) (small 0 a w refl)
first_small (row.Pre a w ∷ nodes) small (suc i) x e = first_small nodes (λ v. small (suc v)) i x e

pub first_are_words : (s : Stream) → AreNamed s → AllWords (first_words s)
first_are_words s named = first_small s.nodes (λ v a word e. (named.nodes v (row.Pre a word) e).1)

pub row_constants : (s : Stream) → AreNamed s → AreWordNodes (plain_nodes s)
row_constants s named v word e = are_plain s named v (Const word) e

pub const_node : (words : List ℕ) → AllWords words → (k v : ℕ) (node : Node) → slice_get (map (λ (word : ℕ). Const word) words) v ≡ Some node → IsNode k node
const_node [] small k v node e = none_some node e
const_node (w ∷ words) small k zero node e = let word : w < 2 ^ 32 = small 0 w refl in subst (IsNode k) (some_is (Const w) node e) word
const_node (w ∷ words) small k (suc v) node e = const_node words (λ i x f. small (suc i) x f) k v node e
