-- The row of a switch, with its instruction.
use Rattle.std.proofs.Common.{◌≡◌, ℕ, ◌+◌, ◌-◌, ◌≤◌, List, [], map, length, Option, Some, sym, ap, ◌∙◌, subst, arith}
use Rattle.raw_switch_isa.specs.Instruction.{SwitchInstruction}
use Rattle.raw_grid.specs.Topology.{tile_count}
use Rattle.raw_model.specs.Program.{ProgramSet, IsSet}
use Rattle.raw_model.specs.Local.{Local, Switch, SwitchLocal}
use Rattle.raw_model.specs.SwitchTable.{next_instruction, routed, effect_of}
use Rattle.raw_model.specs.Machine.{switch_code}
use Rattle.raw_fabric_rule.specs.Views.{About, Hold}
use Rattle.raw_fabric_rule.specs.ByEnds.{needs, gives, fills, sent, next_local, touched_by}
use Rattle.raw_fabric_rule.specs.ByKind.{switch_needs, switch_gives, handed_to, outputs_filled, values_filled, sent_by_end}
use Rattle.raw_fabric_rule.specs.Word.{pack}
use Rattle.raw_fabric_rule.specs.Plays.{bumped, held_value, values_of, counts_after}
use Rattle.raw_fabric_rule.specs.Conditions.{wanted, blank, ShowsRow}
use Rattle.raw_fabric_rule.proofs.Lists.{length-bumped}
use Rattle.raw_fabric_rule.proofs.ByKind.{needs_switch, gives_switch, fills_switch, sent_switch, next_switch}
use Rattle.raw_fabric_step.specs.declared.switches.Inputs.{Inputs}
use Rattle.raw_fabric_step.specs.Fired.{IsHeldFor}
use Rattle.raw_fabric_step.specs.Switches.{staged_for, HasInputs}
use Rattle.raw_fabric_step.proofs.Ready.{held_end, row_ready}
use Rattle.raw_fabric_step.proofs.SwitchEnds.{IsBumped, staged_ends, staged_values}

module _ (set : ProgramSet) (is : IsSet set) (p : ℕ) (behind : tile_count set.topo ≤ p) (at : Local) (l : SwitchLocal) (local_is : at ≡ Switch l)
    (ins : SwitchInstruction) (next : next_instruction (switch_code set p) l ≡ Some ins) where
  abbrev tile : ℕ
  tile = p - tile_count set.topo

  place : tile_count set.topo + tile ≡ p
  place = omega arith

  pub row_needs : needs set p at ≡ switch_needs (Some ins)
  row_needs =
      ap (needs set p) local_is
      ∙ subst (λ q. needs set q (Switch l) ≡ switch_needs (next_instruction (switch_code set q) l)) place (needs_switch set is tile l)
      ∙ ap switch_needs next

  pub row_gives : gives set p at ≡ switch_gives (Some ins)
  row_gives =
      ap (gives set p) local_is
      ∙ subst (λ q. gives set q (Switch l) ≡ switch_gives (next_instruction (switch_code set q) l)) place (gives_switch set is tile l)
      ∙ ap switch_gives next

  pub row_touches : (values : List ℕ) → touched_by set p at values ≡ []
  unfolding touched_by
  row_touches values = ap (λ (k : Local). touched_by set p k values) local_is

  module _ (values : List ℕ) (given : List (Option ℕ)) (handed : given ≡ handed_to (Some ins) values) where
    sends : sent_by_end set p l values ≡ routed ins l.regs given
    sends =
        ap (λ o. (effect_of o (length (switch_code set p)) l (handed_to o values)).sent) next
        ∙ ap (routed ins l.regs) (sym handed)

    pub row_fills : fills set p at values ≡ outputs_filled (routed ins l.regs given)
    row_fills =
        ap (λ (k : Local). fills set p k values) local_is
        ∙ subst (λ q. fills set q (Switch l) values ≡ outputs_filled (sent_by_end set q l values)) place (fills_switch set is tile l values)
        ∙ ap outputs_filled sends

    pub row_sent : sent set p at values ≡ values_filled (routed ins l.regs given)
    row_sent =
        ap (λ (k : Local). sent set p k values) local_is
        ∙ subst (λ q. sent set q (Switch l) values ≡ values_filled (sent_by_end set q l values)) place (sent_switch set is tile l values)
        ∙ ap values_filled sends

    pub row_next : next_local set p at values ≡ Switch (effect_of (Some ins) (length (switch_code set p)) l given).next
    row_next =
        ap (λ (k : Local). next_local set p k values) local_is
        ∙ subst (λ q. next_local set q (Switch l) values ≡ Switch (effect_of (next_instruction (switch_code set q) l) (length (switch_code set q)) l (handed_to (next_instruction (switch_code set q) l) values)).next) place
        (next_switch set is tile l values)
        ∙ ap (λ o. Switch (effect_of o (length (switch_code set p)) l (handed_to o values)).next) next
        ∙ ap (λ (g : List (Option ℕ)). Switch (effect_of (Some ins) (length (switch_code set p)) l g).next) (sym handed)

-- ---- the row that is ready for its commit: z after the fetches, y after the stores
module _ (about : About) (is : IsSet about.set) (p : ℕ) (behind : tile_count about.set.topo ≤ p) (status : ℕ) (z y : Hold) (l : SwitchLocal) (local_is : z.local ≡ Switch l)
    (ins : SwitchInstruction) (next : next_instruction (switch_code about.set p) l ≡ Some ins) (inputs : Inputs) (has : HasInputs about p status ins inputs z)
    (unit : y ≡ record z { staged = staged_for z (routed ins l.regs inputs.given) }) where
  abbrev values : List ℕ
  values = values_of z

  same_values : values_of y ≡ values
  same_values = ap values_of unit

  fills_are : fills about.set p z.local values ≡ outputs_filled (routed ins l.regs inputs.given)
  fills_are = row_fills about.set is p behind z.local l local_is ins next values inputs.given has.handed

  needs_are : needs about.set p z.local ≡ switch_needs (Some ins)
  needs_are = row_needs about.set is p behind z.local l local_is ins next

  pub routes_held : IsHeldFor z y
  routes_held = record {
    local_same = ap (λ (h : Hold). h.local) unit;
    touches_same = ap (λ (h : Hold). h.touches) unit;
    counts_same = ap (λ (h : Hold). h.counts) unit;
    seen_same = ap (λ (h : Hold). h.seen) unit;
  }

  pub routes_show : ShowsRow about p y
  routes_show =
      row_ready about p z y has.shown.going has.shown.values has.shown.room routes_held.local_same routes_held.counts_same routes_held.seen_same
      (ap (λ (h : Hold). map blank h.fetched) unit ∙ has.fetched ∙ ap (wanted z.counts []) (sym needs_are))
      (ap (λ (h : Hold). map held_end h.staged) unit ∙ staged_ends z (routed ins l.regs inputs.given) ∙ sym fills_are ∙ ap (fills about.set p z.local) (sym same_values))
      (ap (λ (h : Hold). map held_value h.staged) unit ∙ staged_values z (routed ins l.regs inputs.given) ∙ sym (row_sent about.set is p behind z.local l local_is ins next values inputs.given has.handed)
      ∙ ap (sent about.set p z.local) (sym same_values))

  pub routes_word : (word : ℕ) → IsBumped inputs.status (outputs_filled (routed ins l.regs inputs.given)) word → word ≡ pack (counts_after about.set p y)
  routes_word word bump =
      bump (bumped (switch_needs (Some ins)) z.counts) (length-bumped (switch_needs (Some ins)) z.counts ∙ has.ready.counted) has.raised
      ∙ ap pack
      ((λ i. bumped (sym fills_are i) (bumped (sym needs_are i) z.counts))
      ∙ ap (λ (h : Hold). bumped (fills about.set p h.local (values_of h)) (bumped (needs about.set p h.local) h.counts)) (sym unit))
