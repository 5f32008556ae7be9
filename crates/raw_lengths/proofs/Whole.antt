-- A run with terms from a cut to itself that notes terms, by what is found of it.
use Rattle.std.proofs.Common.{◌≡◌, ℕ, ◌+◌, List, [], map, Some, sym, ap₂, ◌∙◌, subst}
use Rattle.std.specs.List.{range_with_len}
use Rattle.raw_model.specs.Program.{ProgramSet}
use Rattle.raw_flow.specs.declared.node.Node.{Node}
use Rattle.raw_stream.specs.Streams.{Stream}
use Rattle.raw_term.specs.Claims.{ClaimTerms}
use Rattle.raw_term.specs.TermMachine.{TermState}
use Rattle.raw_row_terms.specs.RowTerms.{placed}
use Rattle.raw_rows.specs.Noted.{noted_at, along_noting}
use Rattle.raw_rows.specs.Kernels.{Cut, open_rows, run_set, unknown}
use Rattle.raw_prove.specs.Units.{state_of}
use Rattle.raw_cut.specs.declared.leading.Begun.{Begun}
use Rattle.raw_cut.specs.Seeing.{BeginsSeeing}
use Rattle.raw_cut.proofs.Facing.{ArrivesAt}
use Rattle.raw_lengths.specs.Looks.{ArePlaces}
use Rattle.raw_lengths.specs.Proofs.{start_at, looks_at, start_with, IsSteadySeen}

pub steady_from : (set : ProgramSet) (s : Stream) (limit : ℕ) (cut : Cut) (steps : List ℕ) (r own many : ℕ) (looks : List Node) (places : List ℕ) (b : Begun)
    (ins : List ℕ) (table : List Node) (numbers terms : List ℕ) (at : TermState)
    → BeginsSeeing set s limit (unknown s) cut (r + cut.window) b → ins ≡ range_with_len (1 + own) many
    → placed (state_of b.machine).nodes ins looks ≡ record { nodes = table; numbers = numbers }
    → along_noting b.set (noted_at (record { nodes = table; state = (state_of b.machine).state }) []) steps ≡ Some (noted_at at terms)
    → ArePlaces numbers places terms → ArrivesAt b.set s (unknown s) at r (map (λ row. row.items) b.rows.items) cut → IsSteadySeen set s limit cut steps r own many looks places
steady_from set s limit cut steps r own many looks places b ins table numbers terms at begins ins_are placed_is goes places_are arrives =
    let all : List (List ℕ) = open_rows s (r + cut.window) in
    let terms_are : looks_at own many looks (start_at s cut r).nodes ≡ record { nodes = table; numbers = numbers } =
    ap₂ (λ (t : TermState) (xs : List ℕ). placed t.nodes xs looks) (sym begins.state) (sym ins_are) ∙ placed_is in
    let from : record { nodes = table; state = (state_of b.machine).state } ≡ start_with s cut r own many looks = λ i. record { nodes = ((sym terms_are) i).nodes; state = (begins.state i).state } in
    let there : ArrivesAt (run_set set s limit all) s (unknown s) at r all cut =
    subst (λ (g : ProgramSet). ArrivesAt g s (unknown s) at r all cut) begins.sees (subst (λ (ws : List (List ℕ)). ArrivesAt b.set s (unknown s) at r ws cut) begins.rows arrives) in
    record {
      terms = terms;
      leads = record {
        at = at;
        goes = subst (λ (g : ProgramSet). along_noting g (noted_at (start_with s cut r own many looks) []) steps ≡ Some (noted_at at terms)) begins.sees
            (subst (λ (t : TermState). along_noting b.set (noted_at t []) steps ≡ Some (noted_at at terms)) from goes);
        arrives = record { locals = there.locals; wires = there.wires };
      };
      placed = subst (λ (k : ClaimTerms). ArePlaces k.numbers places terms) (sym terms_are) places_are;
    }
