-- The table with which a run begins, and with which it ends, has the terms of what is carried and of the words of its rows.
use Rattle.std.proofs.Common.{◌≡◌, ℕ, zero, suc, ◌+◌, ◌*◌, List, [], ◌∷◌, ◌++◌, length, replicate, Some, refl, sym, ap, ◌∙◌, subst, arith, length-append}
use Rattle.std.specs.Prelude.{slice_get}
use Rattle.std.specs.List.{filter_map, range_with_len}
use Rattle.std.proofs.Math.Nat.{suc-mul}
use Rattle.raw_tile_isa.specs.Words.{EachGivesWords}
use Rattle.raw_flow.specs.declared.node.Node.{Node}
use Rattle.raw_flow.specs.declared.node.Node.TheVariants.{Input, Const}
use Rattle.raw_flow.specs.Flows.{values_from}
use Rattle.raw_term.specs.TermMachine.{first_nodes}
use Rattle.raw_term.proofs.Terms.{Holds, AreTerms, get_left, some_is, none_some, term_values}
use Rattle.raw_term.proofs.Image.{Pairs, AlikeWires, wires_up}
use Rattle.raw_term.proofs.Start.{first_terms, inputs_held, inputs_follow}
use Rattle.raw_stream.specs.declared.row_node.RowNode.{RowNode}
use Rattle.raw_stream.specs.declared.row_node.RowNode.TheVariants as row
use Rattle.raw_stream.specs.Streams.{Stream, first_of, next_of, first_words, next_nodes}
use Rattle.raw_stream.proofs.Lists.{get_right}
use Rattle.raw_row_terms.specs.RowTerms.{AreWordNodes, AllWords}
use Rattle.raw_row_terms.proofs.Placing.{Placed, all_placed}
use Rattle.raw_row_terms.proofs.Firsts.{constants_follow}
use Rattle.raw_rows.specs.Given.{row_width}
use Rattle.raw_rows.specs.Kernels.{joined, unknown, known, open_nodes, open_rows, carried_in}
use Rattle.raw_rows.proofs.Inputs.{AreWide, words_held, rows_held}

pub joined_many : (width : ℕ) (rows : List (List ℕ)) → AreWide width rows → length (joined rows) ≡ length rows * width
joined_many width [] wide = omega arith
joined_many width (words ∷ rows) wide = length-append words (joined rows) ∙ omega (arith, wide 0 words refl, joined_many width rows (λ i w e. wide (suc i) w e), suc-mul (length rows) width)

module _ (each : EachGivesWords) (s : Stream) (c : List ℕ) (rows : List (List ℕ)) (long : length c ≡ length (first_words s)) (wide : AreWide (row_width s) rows) (small : AllWords (c ++ joined rows)) where
  abbrev pub inputs : List ℕ
  inputs = c ++ joined rows

  abbrev pub HasInputs : List Node → Type 0
  HasInputs nodes = (i x : ℕ) → slice_get inputs i ≡ Some x → Holds (term_values inputs nodes) (1 + i) x

  many_inputs : length inputs ≡ length (first_words s) + length rows * row_width s
  many_inputs = length-append c (joined rows) ∙ omega (arith, long, joined_many (row_width s) rows wide)

  pub open_terms : AreTerms inputs (open_nodes s (length rows))
  open_terms = subst (λ n. AreTerms inputs (first_nodes n)) many_inputs (first_terms inputs small)

  pub open_inputs : HasInputs (open_nodes s (length rows))
  open_inputs i x e = subst (λ n. Holds (term_values inputs (first_nodes n)) (1 + i) x) many_inputs (inputs_held inputs i x e)

  module _ (carried : List Node) (constants : AreWordNodes carried) (are_c : values_from c 0 [] carried ≡ c) where
    pub record Opened (nodes : List Node) : Type 0 where
      pub terms : AreTerms inputs (carried_in s nodes carried).nodes
      pub keeps : (v y : ℕ) → Holds (term_values inputs nodes) v y → Holds (term_values inputs (carried_in s nodes carried).nodes) v y
      pub carries : Pairs (Holds (term_values inputs (carried_in s nodes carried).nodes)) (carried_in s nodes carried).numbers c
      pub each_row : AlikeWires (Holds (term_values inputs (carried_in s nodes carried).nodes)) (open_rows s (length rows)) rows

    pub opened : (nodes : List Node) → AreTerms inputs nodes → HasInputs nodes → Opened nodes
    opened nodes are has =
        let V : List ℕ = term_values inputs nodes in
        let given : Pairs (Holds V) (range_with_len 1 (length (first_words s))) c =
        subst (λ n. Pairs (Holds V) (range_with_len 1 n) c) long (words_held V c 1 (λ i x e. has i x (front c (joined rows) i x e))) in
        let one : Placed each inputs nodes (carried_in s nodes carried) (values_from c 0 [] carried) = all_placed each inputs (range_with_len 1 (length (first_words s))) c nodes 0 [] [] carried are given constants tt in
        let W : List ℕ = term_values inputs (carried_in s nodes carried).nodes in
        let numbered : AlikeWires (Holds V) (open_rows s (length rows)) rows =
        rows_held V rows (row_width s) (1 + length (first_words s)) wide (λ i x e. by i x (has (length c + i) x (get_right c (joined rows) i x e))) in
        record {
          terms = one.terms;
          keeps = one.keeps;
          carries = subst (λ xs. Pairs (Holds W) (carried_in s nodes carried).numbers xs) are_c one.each_is;
          each_row = wires_up (Holds V) (Holds W) one.keeps (open_rows s (length rows)) rows numbered;
        }
      where
        front : (xs ys : List ℕ) (i x : ℕ) → slice_get xs i ≡ Some x → slice_get (xs ++ ys) i ≡ Some x
        front xs ys i x e = get_left xs ys i x e

        by : (i x : ℕ) → Holds (term_values inputs nodes) (1 + (length c + i)) x → Holds (term_values inputs nodes) (1 + length (first_words s) + i) x
        by i x h = let e : 1 + (length c + i) ≡ 1 + length (first_words s) + i = omega (arith, long) in subst (λ j. Holds (term_values inputs nodes) j x) e h

-- what is carried, unknown and known
pub unknown_is : (s : Stream) (c : List ℕ) → length c ≡ length (first_words s) → values_from c 0 [] (unknown s) ≡ c
unknown_is s c long = subst (λ n. values_from c 0 [] (replicate n Input) ≡ c) long (inputs_follow c (length c) 0 [] (omega arith))

pub unknown_constants : (n : ℕ) → AreWordNodes (replicate n Input)
unknown_constants zero v word e = none_some (Const word) e
unknown_constants (suc n) zero word e = absurd (not_const (some_is Input (Const word) e)) where
  not_const : Input ≡ Const word → ⊥
  not_const f = cc f
unknown_constants (suc n) (suc v) word e = unknown_constants n v word e

pub known_is : (s : Stream) (c : List ℕ) → c ≡ first_words s → values_from c 0 [] (known s) ≡ c
known_is s c e = constants_follow c 0 [] (first_words s) ∙ sym e

-- as many words are carried out of a row as into it
as_many : (nodes : List RowNode) → length (filter_map next_of nodes) ≡ length (filter_map first_of nodes)
as_many [] = refl
as_many (row.Input q ∷ nodes) = as_many nodes
as_many (row.Const w ∷ nodes) = as_many nodes
as_many (row.Apply op a b ∷ nodes) = as_many nodes
as_many (row.Pre a w ∷ nodes) = ap suc (as_many nodes)

pub next_as_many : (s : Stream) → length (next_nodes s) ≡ length (first_words s)
next_as_many s = as_many s.nodes
