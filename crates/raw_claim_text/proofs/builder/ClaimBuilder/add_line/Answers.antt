use Rattle.std.proofs.Common.{◌≡◌, ℕ, List, ◌++◌, Ok, sym, ap, ◌∙◌, subst}
use Rattle.std.specs.Prelude.{OnOk, Result}
use Rattle.std.specs.Option.{option_to_list}
use Rattle.raw_asm.specs.Tokens.{tokens_of}
use Rattle.raw_set_text.specs.declared.kind.SetRefusal.{SetRefusal}
use Rattle.raw_flow_text.specs.Forms.{line_statement}
use Rattle.raw_flow_text.specs.Building.{BuilderStands as FlowStands}
use Rattle.raw_term.specs.declared.place.Place.{Place}
use Rattle.raw_claim_text.specs.Forms.{plain_line}
use Rattle.raw_claim_text.specs.Placing.{place_said, place_in, said_in}
use Rattle.raw_claim_text.proofs.Adding.{stands_with}
use Rattle.raw_claim_text.proofs.builder.ClaimBuilder.add_line.Goals as goal

pub returns-clause-stands : goal.returns-clause-stands
returns-clause-stands c = λ lines stands.
    let topo = c.args.topo.now in
    let old = c.args.self.now in
    let line = tokens_of c.args.line.now in
    let said : place_said topo (record { plain = old.plain; places = old.places.items }) line ≡ Ok c.in_ok-place.place =
    sym (ap (λ (ps : List Place). place_said topo (record { plain = old.plain; places = ps }) line) c.deref.ensures.value) ∙ sym c.place_said-said.ensures ∙ c.in_ok-place.ensures.said in
    stands_with topo old lines line stands _
    (subst (λ (r : Result (Unit {0}) SetRefusal). OnOk r (FlowStands c.add_to_flow-added.new.flow (said_in lines ++ option_to_list (line_statement (plain_line line))))) c.in_ok-place.ensures.added
    (c.add_to_flow-added.ensures.stands (said_in lines) stands.flow))
    c.plain_with-self.ensures
    ((c.in_ok-add_place.ensures {u = tt}).added ∙ ap (λ r. old.places.items ++ place_in r) (sym said))
