-- A run with terms from a cut, by what is found of it.
use Rattle.std.proofs.Common.{◌≡◌, ℕ, ◌+◌, List, [], ◌++◌, length, map, take, drop, Some, sym, ap, ◌∙◌, subst}
use Rattle.raw_grid.specs.Topology.{Topology, tile_count}
use Rattle.raw_model.specs.Program.{ProgramSet, PortProgram, IsSet}
use Rattle.raw_model.specs.Rest.{IsQuiet}
use Rattle.raw_flow.specs.declared.node.Node.{Node}
use Rattle.raw_stream.specs.Streams.{Stream, valued}
use Rattle.raw_term.specs.TermMachine.{TermState}
use Rattle.raw_prove.specs.declared.machine.Machine.{Machine}
use Rattle.raw_prove.specs.Units.{state_of}
use Rattle.raw_term.specs.Claims.{ClaimTerms}
use Rattle.raw_row_terms.specs.RowTerms.{placed, RowTerms, row_terms}
use Rattle.raw_rows.specs.Kernels.{joined, Cut, renumbered, cut_with, open_nodes, open_rows, carried_in, begun, along, run_set, roomy_set, passed, placed_cut, IsLater, AtEach, Arrives, Leads, HasDue, RestsSeeing}
use Rattle.raw_rows.proofs.Along.{noting_none}
use Rattle.raw_cut.specs.declared.leading.Begun.{Begun}
use Rattle.raw_cut.specs.Kept.{IsKeptWith, IsKept}
use Rattle.raw_cut.specs.Parts.{with_ports, ports_with}
use Rattle.raw_cut.specs.Seeing.{BeginsSeeing, ComesToRest}
use Rattle.raw_cut.proofs.Rooms.{run_is, wide_kept, roomy_quiet}

-- the set for a part of a run that sees these rows
abbrev pub seeing : ProgramSet → Stream → ℕ → List (List ℕ) → ProgramSet
seeing set s limit rows = with_ports set limit (ports_with set.topo s (length set.ports) rows 0)

pub seeing_is : (set : ProgramSet) (s : Stream) (limit : ℕ) (rows : List (List ℕ)) → seeing set s limit rows ≡ run_set set s limit rows
seeing_is set s limit rows = ap (λ (ports : List PortProgram). with_ports set limit ports) (run_is set.topo s rows (length set.ports))

abbrev pub ArrivesAt : ProgramSet → Stream → List Node → TermState → ℕ → List (List ℕ) → Cut → Type 0
ArrivesAt set s carried at r rows to =
    Arrives set s (take r rows) (passed s carried at (take r rows)).values at.state
    (placed_cut (passed s carried at (take r rows)).nodes (passed s carried at (take r rows)).carried (drop r rows) to).state

pub leads_from : (set : ProgramSet) (s : Stream) (limit : ℕ) (carried : List Node) (from : Cut) (steps : List ℕ) (r m : ℕ) (to : Cut) (b : Begun) (at : TermState) → m ≡ r + to.window
    → BeginsSeeing set s limit carried from m b → along b.set (state_of b.machine) steps ≡ Some at → ArrivesAt b.set s carried at r (map (λ row. row.items) b.rows.items) to
    → Leads set s limit carried from steps r to
leads_from set s limit carried from steps r m to b at many begins goes arrives =
    let all : List (List ℕ) = open_rows s (r + to.window) in
    let here : BeginsSeeing set s limit carried from (r + to.window) b = subst (λ (n : ℕ). BeginsSeeing set s limit carried from n b) many begins in
    let there : ArrivesAt (run_set set s limit all) s carried at r all to =
    subst (λ (g : ProgramSet). ArrivesAt g s carried at r all to) here.sees (subst (λ (ws : List (List ℕ)). ArrivesAt b.set s carried at r ws to) here.rows arrives) in
    record {
      at = at;
      goes = noting_none (run_set set s limit all) [] steps (begun s carried (r + to.window) from) at
          (subst (λ (g : ProgramSet). along g (begun s carried (r + to.window) from) steps ≡ Some at) here.sees (subst (λ (t : TermState). along b.set t steps ≡ Some at) here.state goes));
      arrives = record { locals = there.locals; wires = there.wires };
    }

-- where the set with places more is quiet
module _ (set roomy : ProgramSet) (s : Stream) (limit more : ℕ) (carried : List Node) (from : Cut) (m : ℕ) (b : Begun) (rows : List (List ℕ)) (begins : BeginsSeeing set s limit carried from m b)
    (more_is : more ≡ limit + 1) (rows_are : rows ≡ map (λ row. row.items) b.rows.items) (roomy_with : roomy ≡ with_ports set more (ports_with set.topo s (length set.ports) rows 1)) (valid : IsSet roomy) where
  abbrev all : List (List ℕ)
  all = map (λ row. row.items) b.rows.items

  seen_is : b.set ≡ seeing set s limit all
  seen_is = begins.sees ∙ ap (run_set set s limit) (sym begins.rows) ∙ sym (seeing_is set s limit all)

  roomy_is : roomy ≡ with_ports set (limit + 1) (ports_with set.topo s (length set.ports) all 1)
  roomy_is = roomy_with ∙ (λ i. with_ports set (more_is i) (ports_with set.topo s (length set.ports) (rows_are i) 1))

  pub kept_roomy : (at : Machine) → IsKeptWith b.set 1 at → IsKept roomy at
  kept_roomy at kept = subst (λ (g : ProgramSet). IsKept g at) (sym roomy_is) (wide_kept set s limit all at (subst IsSet roomy_is valid) (subst (λ (g : ProgramSet). IsKeptWith g 1 at) seen_is kept))

  pub rests_from : (steps : List ℕ) (at : Machine) (last : Begun) → along b.set (state_of b.machine) steps ≡ Some (state_of at) → IsKeptWith b.set 1 at → IsQuiet roomy (state_of at).state → state_of last.machine ≡ state_of at
      → last.set ≡ roomy → last.rows.items ≡ b.rows.items → last.widths.carried ≡ b.widths.carried → ComesToRest set s limit carried from steps m last
  rests_from steps at last goes kept quiet stays set_is rows_stay widths_stay =
      let there : along (run_set set s limit (open_rows s m)) (begun s carried m from) steps ≡ Some (state_of at) =
      subst (λ (g : ProgramSet). along g (begun s carried m from) steps ≡ Some (state_of at)) begins.sees (subst (λ (t : TermState). along b.set t steps ≡ Some (state_of at)) begins.state goes) in
      let rest : IsQuiet (roomy_set set s limit (open_rows s m)) (state_of at).state =
      subst (λ (ws : List (List ℕ)). IsQuiet (roomy_set set s limit ws) (state_of at).state) begins.rows
      (roomy_quiet set s limit all at (subst (λ (g : ProgramSet). IsKept g at) roomy_is (kept_roomy at kept)) (subst (λ (g : ProgramSet). IsQuiet g (state_of at).state) roomy_is quiet)) in
      record {
        rows = ap (map (λ row. row.items)) rows_stay ∙ begins.rows;
        goes = there ∙ ap (λ (t : TermState). Some t) (sym stays);
        quiet = subst (λ (t : TermState). IsQuiet (roomy_set set s limit (open_rows s m)) t.state) (sym stays) rest;
        grid = ap (λ (g : ProgramSet). g.topo) (set_is ∙ roomy_is);
        many = widths_stay ∙ begins.many;
      }

-- and each sink has what is due
pub rests_due : (set : ProgramSet) (s : Stream) (limit : ℕ) (carried : List Node) (from : Cut) (steps lacks : List ℕ) (m : ℕ) (b : Begun) → ComesToRest set s limit carried from steps m b
    → HasDue s (tile_count b.set.topo) (passed s carried (state_of b.machine) (map (λ row. row.items) b.rows.items)).values lacks (state_of b.machine).state → RestsSeeing set s limit carried from steps lacks m
rests_due set s limit carried from steps lacks m b rests due =
    let at : TermState = state_of b.machine in
    record {
      at = at;
      goes = rests.goes;
      quiet = rests.quiet;
      due = subst (λ (topo : Topology). HasDue s (tile_count topo) (passed s carried at (open_rows s m)).values lacks at.state) rests.grid
          (subst (λ (ws : List (List ℕ)). HasDue s (tile_count b.set.topo) (passed s carried at ws).values lacks at.state) rests.rows due);
    }

-- a run that begins at a cut
pub begun_from : (s : Stream) (carried : List Node) (m : ℕ) (cut : Cut) (rows : List (List ℕ)) (first second third : List Node) (c ins ns : List ℕ) (begins : TermState)
    → first ≡ open_nodes s m → rows ≡ open_rows s m → carried_in s first carried ≡ record { nodes = second; numbers = c } → ins ≡ c ++ joined (take cut.window rows)
    → placed second ins cut.at.nodes ≡ record { nodes = third; numbers = ns } → begins ≡ cut_with cut.at.state (record { nodes = third; numbers = ns })
    → begins ≡ begun s carried m cut
begun_from s carried m cut rows first second third c ins ns begins first_is rows_are carried_is ins_are placed_is begins_at =
    let seen : List ℕ = joined (take cut.window (open_rows s m)) in
    let ins_so : ins ≡ c ++ seen = ins_are ∙ ap (λ (ws : List (List ℕ)). c ++ joined (take cut.window ws)) rows_are in
    begins_at
    ∙ ap (cut_with cut.at.state) (sym placed_is)
    ∙ ap (λ (xs : List ℕ). cut_with cut.at.state (placed second xs cut.at.nodes)) ins_so
    ∙ ap (λ (k : ClaimTerms). cut_with cut.at.state (placed k.nodes (k.numbers ++ seen) cut.at.nodes)) (sym carried_is)
    ∙ ap (λ (nodes : List Node). cut_with cut.at.state (placed (carried_in s nodes carried).nodes ((carried_in s nodes carried).numbers ++ seen) cut.at.nodes)) first_is

-- a run that stands at a cut
pub arrives_from : (set : ProgramSet) (s : Stream) (carried : List Node) (at : TermState) (r : ℕ) (rows : List (List ℕ)) (to : Cut) (second third fourth : List Node) (c cs ins ns : List ℕ) (values : List (List ℕ))
    → carried_in s at.nodes carried ≡ record { nodes = second; numbers = c } → row_terms s second c (take r rows) ≡ record { nodes = third; carried = cs; values = values } → ins ≡ cs ++ joined (drop r rows)
    → placed third ins to.at.nodes ≡ record { nodes = fourth; numbers = ns }
    → AtEach (IsLater s (tile_count set.topo) (take r rows) values) at.state.locals (map (renumbered ns) to.at.state.locals) → at.state.wires ≡ map (valued ns) to.at.state.wires
    → Arrives set s (take r rows) (passed s carried at (take r rows)).values at.state
    (placed_cut (passed s carried at (take r rows)).nodes (passed s carried at (take r rows)).carried (drop r rows) to).state
arrives_from set s carried at r rows to second third fourth c cs ins ns values carried_is rows_are ins_are placed_is locals wires =
    let all : passed s carried at (take r rows) ≡ record { nodes = third; carried = cs; values = values } =
    ap (λ (k : ClaimTerms). row_terms s k.nodes k.numbers (take r rows)) carried_is ∙ rows_are in
    let numbers : ns ≡ (placed third (cs ++ joined (drop r rows)) to.at.nodes).numbers =
    ap (λ (k : ClaimTerms). k.numbers) (sym placed_is) ∙ ap (λ (xs : List ℕ). (placed third xs to.at.nodes).numbers) ins_are in
    subst (λ (k : RowTerms). Arrives set s (take r rows) k.values at.state (placed_cut k.nodes k.carried (drop r rows) to).state) (sym all)
    (record {
      locals = subst (λ (xs : List ℕ). AtEach (IsLater s (tile_count set.topo) (take r rows) values) at.state.locals (map (renumbered xs) to.at.state.locals)) numbers locals;
      wires = wires ∙ ap (λ (xs : List ℕ). map (valued xs) to.at.state.wires) numbers;
    })

-- what the sinks have of all rows
pub due_from : (s : Stream) (carried : List Node) (at : TermState) (tiles : ℕ) (lacks : List ℕ) (rows : List (List ℕ)) (second third : List Node) (c cs : List ℕ) (values : List (List ℕ))
    → carried_in s at.nodes carried ≡ record { nodes = second; numbers = c } → row_terms s second c rows ≡ record { nodes = third; carried = cs; values = values }
    → HasDue s tiles values lacks at.state → HasDue s tiles (passed s carried at rows).values lacks at.state
due_from s carried at tiles lacks rows second third c cs values carried_is rows_are due =
    let all : passed s carried at rows ≡ record { nodes = third; carried = cs; values = values } = ap (λ (k : ClaimTerms). row_terms s k.nodes k.numbers rows) carried_is ∙ rows_are in
    subst (λ (k : RowTerms). HasDue s tiles k.values lacks at.state) (sym all) due
