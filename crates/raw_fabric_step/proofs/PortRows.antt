-- The rows of ports at their ends P.
use Rattle.std.proofs.Common.{◌≡◌, ℕ, ◌+◌, Bool, true, false, cond, Option, Some, None, is_some, List, [], ◌∷◌, ◌++◌, map, refl, sym, ap, ◌∙◌, arith}
use Rattle.std.specs.Prelude.{slice_index, slice_index_or}
use Rattle.std.specs.Option.{option_to_list}
use Rattle.raw_grid.specs.Wires.{input_wire}
use Rattle.raw_model.specs.Program.{ProgramSet}
use Rattle.raw_model.specs.Local.{Local, Source, Sink, PortLocal}
use Rattle.raw_model.specs.Machine.{port_program, words_of}
use Rattle.raw_processor.specs.declared.end_wires.EndWires.{EndWires}
use Rattle.raw_processor.specs.Ends.{AreEndsOf}
use Rattle.raw_fabric_rule.specs.ByEnds.{needs, gives, fills, sent, next_local, touched_by}
use Rattle.raw_fabric_rule.specs.ByKind.{end_if}
use Rattle.raw_fabric_rule.proofs.ByKind.{needs_source, gives_source, fills_source, sent_source, needs_sink, gives_sink, fills_sink}
use Rattle.raw_tile.specs.declared.step.Via.{Via}
use Rattle.raw_tile.specs.declared.step.Via.TheVariants.{Tile, Network1, Network2}
use Rattle.raw_fabric_step.specs.Pairs.{out_ends, via_end, pair_ends}

-- a word for each of these outputs
ends_filled : (word : ℕ) (first second : Bool) → out_ends first second ≡ end_if 14 (cond first (Some word) None) ++ end_if 19 (cond second (Some word) None)
ends_filled word true true = refl
ends_filled word true false = refl
ends_filled word false true = refl
ends_filled word false false = refl

words_filled : (word : ℕ) (first second : Bool) → map (λ _. word) (out_ends first second) ≡ option_to_list (cond first (Some word) None) ++ option_to_list (cond second (Some word) None)
words_filled word true true = refl
words_filled word true false = refl
words_filled word false true = refl
words_filled word false false = refl

module _ (set : ProgramSet) (p : ℕ) (at : Local) (l : PortLocal) (local_is : at ≡ Source l) where
  pub source_needs : needs set p at ≡ []
  source_needs = ap (needs set p) local_is ∙ needs_source set p l

  pub source_next : (values : List ℕ) → next_local set p at values ≡ Source (record l { done = l.done + 1 })
  unfolding next_local
  source_next values = ap (λ (k : Local). next_local set p k values) local_is

  pub source_touches : (values : List ℕ) → touched_by set p at values ≡ []
  unfolding touched_by
  source_touches values = ap (λ (k : Local). touched_by set p k values) local_is

  module _ (e : EndWires) (are : AreEndsOf set.topo p e) (first second : Bool) (first_is : first ≡ is_some (slice_index_or e.outputs 4 None)) (second_is : second ≡ is_some (slice_index_or e.outputs 9 None)) where
    pub source_gives : gives set p at ≡ out_ends first second
    source_gives =
        ap (gives set p) local_is ∙ gives_source set p l
        ∙ (λ i. end_if 14 (sym (are.outputs 4 (omega arith)) i) ++ end_if 19 (sym (are.outputs 9 (omega arith)) i))
        ∙ (λ i. out_ends (sym first_is i) (sym second_is i))

    module _ (values : List ℕ) (word : ℕ) (s1 s2 : Option ℕ) (s1_is : s1 ≡ cond first (Some word) None) (s2_is : s2 ≡ cond second (Some word) None) where
      pub source_fills : fills set p at values ≡ end_if 14 s1 ++ end_if 19 s2
      source_fills =
          ap (λ (k : Local). fills set p k values) local_is ∙ fills_source set p l values ∙ ap (gives set p) (sym local_is) ∙ source_gives
          ∙ ends_filled word first second ∙ (λ i. end_if 14 (sym s1_is i) ++ end_if 19 (sym s2_is i))

      pub source_sent : word ≡ slice_index (words_of (port_program set p)) l.done → sent set p at values ≡ option_to_list s1 ++ option_to_list s2
      source_sent word_is =
          ap (λ (k : Local). sent set p k values) local_is ∙ sent_source set p l values
          ∙ (λ i. map (λ _. sym word_is i) ((ap (gives set p) (sym local_is) ∙ source_gives) i))
          ∙ words_filled word first second ∙ (λ i. option_to_list (sym s1_is i) ++ option_to_list (sym s2_is i))

-- ---- sinks
sink_end : (end : ℕ) (network : Via) (b : Bool) (o : Option ℕ) → b ≡ is_some o → via_end network ≡ Some end → end_if end o ≡ option_to_list (via_end (cond b network Tile))
sink_end end network b o is at = ap (λ t. cond t (end ∷ []) []) (sym is) ∙ by_case b
  where
    by_case : (b : Bool) → cond b (end ∷ []) [] ≡ option_to_list (via_end (cond b network Tile))
    by_case true = ap option_to_list (sym at)
    by_case false = refl

module _ (set : ProgramSet) (p : ℕ) (at : Local) (l : PortLocal) (local_is : at ≡ Sink l) where
  pub sink_gives : gives set p at ≡ []
  sink_gives = ap (gives set p) local_is ∙ gives_sink set p l

  pub sink_fills : (values : List ℕ) → fills set p at values ≡ []
  sink_fills values = ap (λ (k : Local). fills set p k values) local_is ∙ fills_sink set p l values

  pub sink_sent : (values : List ℕ) → sent set p at values ≡ []
  unfolding sent
  sink_sent values = ap (λ (k : Local). sent set p k values) local_is

  pub sink_next : (values : List ℕ) → next_local set p at values ≡ Sink (record { done = l.done + 1; got = l.got ++ slice_index values 0 ∷ [] })
  unfolding next_local
  sink_next values = ap (λ (k : Local). next_local set p k values) local_is

  pub sink_touches : (values : List ℕ) → touched_by set p at values ≡ []
  unfolding touched_by
  sink_touches values = ap (λ (k : Local). touched_by set p k values) local_is

  module _ (e : EndWires) (are : AreEndsOf set.topo p e) (a b : Bool) (first second : Via) (a_is : a ≡ is_some (slice_index_or e.inputs 4 None)) (b_is : b ≡ is_some (slice_index_or e.inputs 9 None))
      (first_is : first ≡ cond a Network1 Tile) (second_is : second ≡ cond b Network2 Tile) where
    pub sink_needs : needs set p at ≡ pair_ends (via_end first) (via_end second)
    sink_needs =
        ap (needs set p) local_is ∙ needs_sink set p l
        ∙ (λ i. sink_end 4 Network1 a (input_wire set.topo p 4) (a_is ∙ ap is_some (are.inputs 4 (omega arith))) refl i
        ++ sink_end 9 Network2 b (input_wire set.topo p 9) (b_is ∙ ap is_some (are.inputs 9 (omega arith))) refl i)
        ∙ (λ i. pair_ends (via_end (sym first_is i)) (via_end (sym second_is i)))
