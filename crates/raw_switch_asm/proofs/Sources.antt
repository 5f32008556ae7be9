-- The table of what each output sends, route by route.
use Rattle.std.proofs.Common.{◌≡◌, ◌≢◌, ℕ, zero, suc, ◌+◌, ◌%◌, ◌<◌, ◌≤◌, Bool, true, false, cond, List, [], ◌∷◌, ◌++◌, length, get_or, set, take, map, Option, Some, None, Ok, Err, IfSome, refl, sym, ap, ◌∙◌, subst, arith, ⊎_elim, add-one}
use Rattle.std.specs.Prelude.{◌==◌, is_some}
use Rattle.std.specs.Option.{option_map, option_or}
use Rattle.std.specs.List.{find, AllByRecursion}
use Rattle.std.proofs.lemmas.Bool.{cases_eq, cases_lt, eq-eqb, ne_eqb}
use Rattle.std.proofs.lemmas.Bool.Decides.{nat_tests}
use Rattle.std.proofs.lemmas.List.{take_more, take_all, get_or-set_same, get_or-set_other, ext_get_or, length-map, length-set}
use Rattle.std.proofs.lemmas.List.Folds.{find-append}
use Rattle.std.proofs.lemmas.List.Elements.{filter_map-append}
use Rattle.raw_asm.specs.declared.kind.AsmKind.{AsmKind}
use Rattle.raw_asm.specs.declared.kind.AsmKind.TheVariants.{BadRoute, TwoSources}
use Rattle.raw_switch_isa.specs.declared.instruction.SwitchSource.{SwitchSource}
use Rattle.raw_switch_isa.specs.declared.instruction.SwitchSource.TheVariants.{Register, Input}
use Rattle.raw_switch_isa.specs.Instruction.{IsField, sends_register}
use Rattle.raw_switch_isa.specs.Ends.{ends, IsSource}
use Rattle.raw_switch_asm.specs.declared.routes.Route.{Route}
use Rattle.raw_switch_asm.specs.Route.{route_of, IsRoute, source_to, routes_in, fault_behind, route_fault, fault_upto, sources_of, placed, route_code, sent_register}
use Rattle.raw_switch_isa.proofs.Passing.{mapped_ends, ten_ends}

abbrev Source : Type 0
Source = Option SwitchSource

-- a table of what each output sends by the first routes
pub record IsTable (tokens : List (List ℕ)) (k : ℕ) (sources : List (Option SwitchSource)) : Type 0 where
  pub ten : length sources ≡ 10
  pub each : (o : ℕ) → o < 10 → get_or sources o None ≡ source_to (routes_in (take k tokens)) o

mapped_or : (f : Route → SwitchSource) (a b : Option Route) → option_map f (option_or a b) ≡ option_or (option_map f a) (option_map f b)
mapped_or f None b = refl
mapped_or f (Some x) b = refl

one_more : (routes : List Route) (route : Route) (o : ℕ) → source_to (routes ++ route ∷ []) o ≡ option_or (source_to routes o) (cond (route.output == o) (Some route.source) None)
one_more routes route o =
    ap (option_map (λ r. r.source)) (find-append (λ r. r.output == o) routes (route ∷ []))
    ∙ mapped_or (λ r. r.source) (find (λ r. r.output == o) routes) (find (λ r. r.output == o) (route ∷ []))
    ∙ ap (option_or (source_to routes o)) (chosen (route.output == o))
  where
    chosen : (b : Bool) → option_map (λ (r : Route). r.source) (cond b (Some route) None) ≡ cond b (Some route.source) None
    chosen true = refl
    chosen false = refl

routes_more : (tokens : List (List ℕ)) (k : ℕ) (route : Route) → k < length tokens → route_of (get_or tokens k []) ≡ Some route → routes_in (take (k + 1) tokens) ≡ routes_in (take k tokens) ++ route ∷ []
routes_more tokens k route lt is =
    ap routes_in (take_more tokens k [] lt)
    ∙ filter_map-append route_of (take k tokens) (get_or tokens k [] ∷ [])
    ∙ rw is refl

or_absent : (a b : Source) → is_some a ≡ false → option_or a b ≡ b
or_absent None b e = refl
or_absent (Some x) b e = cc

or_none : (a : Source) → option_or a None ≡ a
or_none None = refl
or_none (Some x) = refl

module _ (tokens : List (List ℕ)) (k : ℕ) (sources : List (Option SwitchSource)) (lt : k < length tokens) (table : IsTable tokens k sources) where
  -- the source that the earlier routes give an output is in the table
  given : (o : ℕ) → o < 10 → source_to (routes_in (take k tokens)) o ≡ get_or sources o None
  given o below = sym (table.each o below)

  each_next : (route : Route) → route_of (get_or tokens k []) ≡ Some route → route.output < 10 → is_some (get_or sources route.output None) ≡ false
      → (o : ℕ) → o < 10 → get_or (set sources route.output (Some route.source)) o None ≡ source_to (routes_in (take (k + 1) tokens)) o
  each_next route is inside free o below =
      let ten = table.ten in
      let more : source_to (routes_in (take (k + 1) tokens)) o ≡ option_or (get_or sources o None) (cond (route.output == o) (Some route.source) None) =
      ap (λ routes. source_to routes o) (routes_more tokens k route lt is) ∙ one_more (routes_in (take k tokens)) route o ∙ ap (λ s. option_or s (cond (route.output == o) (Some route.source) None)) (given o below) in
      ⊎_elim {C = get_or (set sources route.output (Some route.source)) o None ≡ source_to (routes_in (take (k + 1) tokens)) o}
      (λ (same : route.output ≡ o).
      let here : get_or (set sources route.output (Some route.source)) o None ≡ Some route.source = subst (λ p. get_or (set sources route.output (Some route.source)) p None ≡ Some route.source) same (get_or-set_same sources route.output (Some route.source) None (omega arith)) in
      let none : is_some (get_or sources o None) ≡ false = subst (λ p. is_some (get_or sources p None) ≡ false) same free in
      here ∙ sym (more ∙ ap (λ b. option_or (get_or sources o None) (cond b (Some route.source) None)) (eq-eqb route.output o same) ∙ or_absent (get_or sources o None) (Some route.source) none))
      (λ (other : route.output ≢ o).
      get_or-set_other sources route.output o (Some route.source) None (λ e. other (sym e))
      ∙ sym (more ∙ ap (λ b. option_or (get_or sources o None) (cond b (Some route.source) None)) (ne_eqb route.output o other) ∙ or_none (get_or sources o None)))
      (cases_eq route.output o)

  -- one route more, where it could be placed
  pub next_by : (route : Option Route) → route_of (get_or tokens k []) ≡ route → IfSome route IsRoute → (new : List (Option SwitchSource)) → placed route sources ≡ Ok new
      → IsTable tokens (k + 1) new × (route_fault tokens k ≡ None)
  unfolding placed route_fault
  next_by None is good new e = absurd (cc)
  next_by (Some route) is good new e = by_test (is_some (get_or sources route.output None)) refl e
    where
      by_test : (b : Bool) → is_some (get_or sources route.output None) ≡ b → cond b (Err TwoSources) (Ok (set sources route.output (Some route.source))) ≡ Ok new
          → IsTable tokens (k + 1) new × (route_fault tokens k ≡ None)
      by_test true free f = absurd (cc)
      by_test false free f =
          let written : set sources route.output (Some route.source) ≡ new = cc in
          let ten = table.ten in
          let long = length-set sources route.output (Some route.source) in
          let next : IsTable tokens (k + 1) (set sources route.output (Some route.source)) = record { ten = omega arith; each = each_next route is good.output free } in
          let faultless : fault_behind (routes_in (take k tokens)) (Some route) ≡ None = rw (given route.output good.output, free) refl in
          (subst (IsTable tokens (k + 1)) written next, rw is faultless)

  -- the fault of a route that could not be placed
  pub fails_by : (route : Option Route) → route_of (get_or tokens k []) ≡ route → IfSome route IsRoute → (kind : AsmKind) → placed route sources ≡ Err kind → route_fault tokens k ≡ Some kind
  unfolding placed route_fault
  fails_by None is good kind e = let same : BadRoute ≡ kind = cc in rw is (ap Some same)
  fails_by (Some route) is good kind e = by_test (is_some (get_or sources route.output None)) refl e
    where
      by_test : (b : Bool) → is_some (get_or sources route.output None) ≡ b → cond b (Err TwoSources) (Ok (set sources route.output (Some route.source))) ≡ Err kind → route_fault tokens k ≡ Some kind
      by_test true taken f =
          let same : TwoSources ≡ kind = cc in
          let here : fault_behind (routes_in (take k tokens)) (Some route) ≡ Some TwoSources = rw (given route.output good.output, taken) refl in
          rw is (here ∙ ap Some same)
      by_test false free f = absurd (cc)

-- one route more without a fault
pub faultless_next : (tokens : List (List ℕ)) (k : ℕ) → fault_upto tokens k ≡ None → route_fault tokens k ≡ None → fault_upto tokens (k + 1) ≡ None
faultless_next tokens k before here = rw (add-one, before, here) refl

-- the first fault stays
pub fault_stays : (tokens : List (List ℕ)) (n k : ℕ) (kind : AsmKind) → k < n → fault_upto tokens k ≡ None → route_fault tokens k ≡ Some kind → fault_upto tokens n ≡ Some kind
fault_stays tokens zero k kind lt before here = absurd (omega arith)
fault_stays tokens (suc n) k kind lt before here =
    ⊎_elim {C = fault_upto tokens (suc n) ≡ Some kind}
    (λ (less : k < n). rw (fault_stays tokens n k kind less before here) refl)
    (λ (more : n ≤ k). let same : n ≡ k = omega arith in rw same (rw (before, here) refl))
    (cases_lt k n)

-- the table is whole
pub table_done : (tokens : List (List ℕ)) (k : ℕ) (sources : List (Option SwitchSource)) → k ≡ length tokens → IsTable tokens k sources → fault_upto tokens k ≡ None → Ok sources ≡ sources_of tokens
unfolding sources_of
table_done tokens k sources done table faultless =
    let ten = table.ten in
    let count = ten_ends in
    let long = length-map ends (source_to (routes_in tokens)) in
    let whole : take k tokens ≡ tokens = take_all k tokens (omega arith) in
    let each : (o : ℕ) → o < length sources → get_or sources o None ≡ get_or (map (source_to (routes_in tokens)) ends) o None =
    λ o below. table.each o (omega arith) ∙ rw whole (sym (mapped_ends (source_to (routes_in tokens)) o None (omega arith))) in
    let same : sources ≡ map (source_to (routes_in tokens)) ends = ext_get_or None sources (map (source_to (routes_in tokens)) ends) (omega arith) each in
    let none : fault_upto tokens (length tokens) ≡ None = subst (λ n. fault_upto tokens n ≡ None) done faultless in
    rw none (ap Ok same)

-- a register that is sent is one of the four
pub register_field : (sources : List (Option SwitchSource)) → AllByRecursion (λ source. IfSome source IsSource) sources → IsField (sends_register (map route_code sources)) 4 (sent_register sources)
register_field [] all = refl
register_field (None ∷ sources) all = register_field sources all.1
register_field (Some (Register register) ∷ sources) all = all.0
register_field (Some (Input input) ∷ sources) all =
    let other : (input % 5 + 1 == 6) ≡ false = grind (arith, nat_tests) in
    rw other (register_field sources all.1)

code_small : (source : Option SwitchSource) → route_code source < 7
code_small None = omega arith
code_small (Some (Register register)) = omega arith
code_small (Some (Input input)) = omega arith

pub codes_small : (sources : List (Option SwitchSource)) → AllByRecursion (λ code. code < 7) (map route_code sources)
codes_small [] = tt
codes_small (source ∷ sources) = (code_small source, codes_small sources)

-- the first route that fails gives its fault
pub first_fails : (tokens : List (List ℕ)) (k : ℕ) (kind : AsmKind) → k < length tokens → fault_upto tokens k ≡ None → route_fault tokens k ≡ Some kind → Err kind ≡ sources_of tokens
unfolding sources_of
first_fails tokens k kind lt before here = rw (fault_stays tokens (length tokens) k kind lt before here) refl
