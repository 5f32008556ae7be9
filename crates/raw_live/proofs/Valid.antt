-- Sets whose sources are given words from lines stay sets.
use Rattle.std.proofs.Common.{◌≡◌, ℕ, ◌+◌, ◌-◌, ◌*◌, ◌^◌, ◌<◌, ◌≤◌, false, List, [], ◌∷◌, ◌++◌, length, get_or, Option, Some, None, Ok, refl, sym, ap, subst, arith, length-append}
use Rattle.std.specs.Prelude.{slice_get}
use Rattle.std.specs.Option.{option_map}
use Rattle.std.proofs.lemmas.List.Sums.{sum_by-set}
use Rattle.std.proofs.lemmas.Option.{slice_get_within, get_or_from_slice_get, slice_get-get_or}
use Rattle.raw_grid.specs.declared.parts.PortPlace.{PortPlace}
use Rattle.raw_grid.specs.declared.parts.PortKind.TheVariants as kind
use Rattle.raw_grid.specs.Topology.{tile_count}
use Rattle.raw_model.specs.declared.limits.TheConstants.{MAX_ALL_WORDS}
use Rattle.raw_model.specs.Program.{ProgramSet, PortProgram, IsSet}
use Rattle.raw_model.specs.MoreWords.{IsSourceOf, port_with_word, with_word}
use Rattle.raw_model.proofs.OneMore.{is_set}
use Rattle.raw_model.specs.Bounds.{all_words}
use Rattle.raw_queue.specs.declared.item.Item.{Item}
use Rattle.raw_queue.specs.declared.item.Item.TheVariants as item
use Rattle.raw_live_text.specs.declared.intake.Intake.{Intake}
use Rattle.raw_live_text.specs.Feeding.{fed, BeginsItems, AreForSources}
use Rattle.raw_live_text.proofs.FedWords.{fed_within}
use Rattle.raw_live.specs.Items.{has_end}
use Rattle.raw_live.specs.Engine.{with_items}
use Rattle.raw_live.specs.Judging.{IsIntakeOf}

-- one word more
module _ (programs : ProgramSet) (i word : ℕ) (valid : IsSet programs) (source : IsSourceOf programs i) where
  abbrev old : PortProgram
  old = get_or programs.ports i (record { words = []; capacity = 0 })

  is_place : (place : Option PortPlace) → option_map (λ (p : PortPlace). p.kind) place ≡ Some kind.Source → slice_get programs.topo.places i ≡ place → i < length programs.topo.places
  is_place (Some p) is at = slice_get_within programs.topo.places i p at
  is_place None is at = absurd (cc is)

  within : i < length programs.ports
  within = omega (arith, is_place (slice_get programs.topo.places i) source refl, valid.each_port)

  read_again : old ≡ get_or programs.ports i old
  read_again = sym (get_or_from_slice_get programs.ports i old old (slice_get-get_or programs.ports i (record { words = []; capacity = 0 }) within))

  pub one_valid : all_words programs < MAX_ALL_WORDS → word < 2 ^ 32 → IsSet (with_word programs i word)
  one_valid few small = is_set {T = Unit {0}} {E = Unit {0}} (Ok tt) programs i word old (port_with_word old word) valid source few small read_again refl tt

  pub one_more : all_words (with_word programs i word) ≡ all_words programs + 1
  one_more = omega (arith, sum_by-set (λ (port : PortProgram). length port.words) programs.ports i (port_with_word old word) (record { words = []; capacity = 0 }) within, length-append old.words (word ∷ []))

-- the intake is judged by the ports of the set
module _ (intake : Intake) where
  -- words, as many as there is room for
  pub items_valid : (programs : ProgramSet) (items : List Item) → intake.places.items ≡ programs.topo.places → intake.first_port ≡ 2 * tile_count programs.topo
      → IsSet programs → AreForSources intake items → all_words programs + length items ≤ MAX_ALL_WORDS → IsSet (with_items programs items)
  items_valid programs [] places first valid are few = valid
  items_valid programs (item.Word port word ∷ items) places first valid are few =
      let i = port - 2 * tile_count programs.topo in
      let source : IsSourceOf programs i = subst (λ l. option_map (λ (place : PortPlace). place.kind) (slice_get l i) ≡ Some kind.Source) places
      (subst (λ n. option_map (λ (place : PortPlace). place.kind) (slice_get intake.places.items (port - n)) ≡ Some kind.Source) first are.0) in
      items_valid (with_word programs i word) items places first (one_valid programs i word valid source (omega (arith, few)) are.1) are.2 (omega (arith, few, one_more programs i word valid source))
  items_valid programs (item.End ∷ items) places first valid are few = absurd are

  front_for : (front back : List Item) → AreForSources intake (front ++ back) → AreForSources intake front
  front_for [] back are = tt
  front_for (item.Word port word ∷ front) back are = (are.0, are.1, front_for front back are.2)
  front_for (item.End ∷ front) back are = absurd are

  endless_for : (items : List Item) → AreForSources intake items → has_end items ≡ false
  endless_for [] are = refl
  endless_for (item.Word port word ∷ items) are = endless_for items are.2
  endless_for (item.End ∷ items) are = absurd are

-- a front of the words that lines put
module _ (programs : ProgramSet) (intake : Intake) (is : IsIntakeOf programs intake) (lines : List (List ℕ)) (front : List Item) (begins : BeginsItems front (fed intake lines).items) (valid : IsSet programs) where
  are_for : AreForSources intake front
  are_for = front_for intake front begins.rest (subst (AreForSources intake) begins.is (fed_within intake lines).are)

  pub front_endless : has_end front ≡ false
  front_endless = endless_for intake front are_for

  pub shorter_valid : (part rest : List Item) → front ≡ part ++ rest → IsSet (with_items programs part)
  shorter_valid part rest e =
      items_valid intake programs part is.places is.first_port valid (front_for intake part rest (subst (AreForSources intake) e are_for))
      (omega (arith, (fed_within intake lines).few, is.room, ap length begins.is, length-append front begins.rest, ap length e, length-append part rest))
