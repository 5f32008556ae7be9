-- The routes of a listed line are read as they are written.
use Rattle.std.proofs.Common.{◌≡◌, ℕ, zero, suc, ◌+◌, ◌-◌, ◌*◌, ◌/◌, ◌<◌, ◌≤◌, Bool, true, false, ◌||◌, cond, List, [], ◌∷◌, ◌++◌, length, map, take, Option, Some, None, Ok, refl, sym, ap, ◌∙◌, subst, arith, add-one}
use Rattle.std.specs.Prelude.{slice_index, ◌==◌}
use Rattle.std.specs.Option.{option_map}
use Rattle.std.specs.List.{list_all, list_any, filter_map, cons_option, AllByRecursion}
use Rattle.std.proofs.lemmas.Bool.{eqb-true}
use Rattle.std.proofs.lemmas.Bool.Decides.{nat_tests}
use Rattle.std.proofs.lemmas.List.{append-nil, take_more, take_all, take-append-le, take_at, get_or_append_left, get_or_at, length_push, length-map, ext_get_or}
use Rattle.std.proofs.lemmas.List.Elements.{filter_map-append}
use Rattle.raw_switch_isa.specs.declared.instruction.SwitchSource.{SwitchSource}
use Rattle.raw_switch_isa.specs.declared.instruction.SwitchSource.TheVariants.{Register, Input}
use Rattle.raw_switch_isa.specs.Instruction.{SwitchInstruction, IsSwitchIns}
use Rattle.raw_switch_isa.specs.Ends.{ends, route_source}
use Rattle.raw_switch_asm.specs.declared.routes.Route.{Route}
use Rattle.raw_switch_asm.specs.Route.{is_arrow, is_route, route_of, source_to, routes_in, fault_behind, route_fault, fault_upto, sources_of}
use Rattle.raw_switch_asm.specs.Listing.{route_text}
use Rattle.raw_switch_isa.proofs.Passing.{mapped_ends, end_is, ten_ends}
use Rattle.raw_switch_asm.proofs.LetterTexts.{IsFor, route_read}
use Rattle.raw_switch_asm.proofs.Printed.{route_has_arrow}
use Rattle.raw_switch_asm.proofs.CutLine.{route_texts}

-- what a route code stands for is a source that the output can have
for_by : (a b : Bool) (rsel output code : ℕ) (source : SwitchSource) → (code == 0) ≡ a → (code == 6) ≡ b → rsel < 4 → output < 10 → code < 7
    → cond a None (cond b (Some (Register rsel)) (Some (Input (5 * (output / 5) + (code - 1))))) ≡ Some source → IsFor output source
for_by true b rsel output code source ea eb small below low e = absurd (cc)
for_by false true rsel output code (Register r) ea eb small below low e = let same : rsel ≡ r = cc in omega arith
for_by false true rsel output code (Input i) ea eb small below low e = absurd (cc)
for_by false false rsel output code (Register r) ea eb small below low e = absurd (cc)
for_by false false rsel output code (Input i) ea eb small below low e =
    let same : 5 * (output / 5) + (code - 1) ≡ i = cc in
    let some : 0 < code = grind (arith, nat_tests) in
    let short : code < 6 = grind (arith, nat_tests) in
    (omega arith, omega arith)

absent_below : (m : ℕ) → m < 10 → list_any (λ x. x == m) (take m ends) ≡ false
unfolding ends
absent_below (suc (suc (suc (suc (suc (suc (suc (suc (suc (suc i)))))))))) h = absurd (omega arith)
absent_below _ h = refl

present : (m : ℕ) → m < 10 → list_any (λ x. x == m) ends ≡ true
unfolding ends
present (suc (suc (suc (suc (suc (suc (suc (suc (suc (suc i)))))))))) h = absurd (omega arith)
present _ h = refl

ends_below : AllByRecursion (λ end. end < 10) ends
unfolding ends
ends_below = (omega arith, (omega arith, (omega arith, (omega arith, (omega arith, (omega arith, (omega arith, (omega arith, (omega arith, (omega arith, tt))))))))))

same_on_ends : {Y : Type 0} (d : Y) (f g : ℕ → Y) → ((o : ℕ) → o < 10 → f o ≡ g o) → map f ends ≡ map g ends
same_on_ends d f g same =
    let count = ten_ends in
    let left = length-map ends f in
    let right = length-map ends g in
    ext_get_or d (map f ends) (map g ends) (omega arith) (λ o lt. mapped_ends f o d (omega arith) ∙ same o (omega arith) ∙ sym (mapped_ends g o d (omega arith)))

either : (b : Bool) (o : Option SwitchSource) → cond b o o ≡ o
either true o = refl
either false o = refl

-- the faults of a front do not look behind it
fault_front : (xs ys : List (List ℕ)) (n : ℕ) → n ≤ length xs → fault_upto (xs ++ ys) n ≡ fault_upto xs n
unfolding route_fault
fault_front xs ys zero le = refl
fault_front xs ys (suc n) le =
    let here : route_fault (xs ++ ys) n ≡ route_fault xs n = rw (take-append-le n xs ys (omega arith), get_or_append_left xs ys [] n (omega arith)) refl in
    rw (fault_front xs ys n (omega arith), here) refl

module _ (ins : SwitchInstruction) (kept : IsSwitchIns ins) (small : ins.rsel < 4) where
  route_at : ℕ → Option Route
  route_at output = option_map (λ source. record { output = output; source = source }) (route_source ins output)

  source_for : (output : ℕ) (source : SwitchSource) → output < 10 → route_source ins output ≡ Some source → IsFor output source
  source_for output source lt e =
      let ten = kept.ten in
      for_by (slice_index ins.routes output == 0) (slice_index ins.routes output == 6) ins.rsel output (slice_index ins.routes output) source refl refl small lt (kept.codes output 0 (omega arith)) e

  -- the texts of routes are read as the routes
  texts_read : (outputs : List ℕ) → AllByRecursion (λ end. end < 10) outputs → routes_in (route_texts ins outputs) ≡ filter_map route_at outputs
  unfolding route_at
  texts_read [] all = refl
  texts_read (output ∷ outputs) all = by_source (route_source ins output) refl (texts_read outputs all.1)
    where
      by_source : (source : Option SwitchSource) → route_source ins output ≡ source → routes_in (route_texts ins outputs) ≡ filter_map (λ o. option_map (λ s. record { output = o; source = s }) (route_source ins o)) outputs
          → routes_in (cons_option (option_map (route_text output) source) (route_texts ins outputs)) ≡ cons_option (option_map (λ s. record { output = output; source = s }) source) (filter_map (λ o. option_map (λ s. record { output = o; source = s }) (route_source ins o)) outputs)
      by_source None e rest = rest
      by_source (Some source) e rest = rw (route_read output source all.0 (source_for output source all.0 e)) (ap (λ routes. record { output = output; source = source } ∷ routes) rest)

  -- the routes give each of the outputs its source
  source_given : (outputs : List ℕ) (o : ℕ) → source_to (filter_map route_at outputs) o ≡ cond (list_any (λ x. x == o) outputs) (route_source ins o) None
  unfolding route_at
  source_given [] o = refl
  source_given (x ∷ xs) o = by_source (route_source ins x) (x == o) refl refl (source_given xs o)
    where
      by_source : (source : Option SwitchSource) (b : Bool) → route_source ins x ≡ source → (x == o) ≡ b
          → source_to (filter_map (λ y. option_map (λ s. record { output = y; source = s }) (route_source ins y)) xs) o ≡ cond (list_any (λ y. y == o) xs) (route_source ins o) None
          → source_to (cons_option (option_map (λ s. record { output = x; source = s }) source) (filter_map (λ y. option_map (λ s. record { output = y; source = s }) (route_source ins y)) xs)) o
          ≡ cond (b || list_any (λ y. y == o) xs) (route_source ins o) None
      by_source None false e f rest = rest
      by_source None true e f rest =
          let same : x ≡ o = eqb-true x o f in
          let none : route_source ins o ≡ None = subst (λ y. route_source ins y ≡ None) same e in
          rest ∙ rw none (either (list_any (λ y. y == o) xs) None)
      by_source (Some source) false e f rest = rw f rest
      by_source (Some source) true e f rest =
          let same : x ≡ o = eqb-true x o f in
          rw f (sym (subst (λ y. route_source ins y ≡ Some source) same e))

  take_ends : (m : ℕ) → m < 10 → take (m + 1) ends ≡ take m ends ++ m ∷ []
  take_ends m lt = let count = ten_ends in take_more ends m 0 (omega arith) ∙ ap (λ end. take m ends ++ end ∷ []) (end_is m lt)

  below_taken : (outputs : List ℕ) (m : ℕ) → AllByRecursion (λ end. end < 10) outputs → AllByRecursion (λ end. end < 10) (take m outputs)
  below_taken [] zero all = tt
  below_taken [] (suc m) all = tt
  below_taken (x ∷ xs) zero all = tt
  below_taken (x ∷ xs) (suc m) all = (all.0, below_taken xs m all.1)

  -- the route behind those of the outputs below it has no fault
  next_faultless : (m : ℕ) (source : SwitchSource) → m < 10 → route_source ins m ≡ Some source
      → fault_behind (routes_in (route_texts ins (take m ends))) (route_of (route_text m source)) ≡ None
  next_faultless m source lt e =
      let read = texts_read (take m ends) (below_taken ends m ends_below) in
      let given : source_to (routes_in (route_texts ins (take m ends))) m ≡ None = ap (λ routes. source_to routes m) read ∙ source_given (take m ends) m ∙ rw (absent_below m lt) refl in
      rw (route_read m source lt (source_for m source lt e), given) refl

  texts_faultless : (m : ℕ) → m ≤ 10 → fault_upto (route_texts ins (take m ends)) (length (route_texts ins (take m ends))) ≡ None
  unfolding route_fault
  texts_faultless zero le = refl
  texts_faultless (suc m) le =
      let lt : m < 10 = omega arith in
      let front = route_texts ins (take m ends) in
      let more : route_texts ins (take (suc m) ends) ≡ front ++ cons_option (option_map (route_text m) (route_source ins m)) [] =
      ap (λ n. route_texts ins (take n ends)) (sym (add-one m)) ∙ ap (route_texts ins) (take_ends m lt) ∙ filter_map-append (λ output. option_map (route_text output) (route_source ins output)) (take m ends) (m ∷ []) in
      ap (λ texts. fault_upto texts (length texts)) more ∙ by_source m lt front (route_source ins m) (texts_faultless m (omega arith)) (λ source e. next_faultless m source lt e)
    where
      by_source : (k : ℕ) → k < 10 → (front : List (List ℕ)) (source : Option SwitchSource) → fault_upto front (length front) ≡ None
          → ((s : SwitchSource) → source ≡ Some s → fault_behind (routes_in front) (route_of (route_text k s)) ≡ None)
          → fault_upto (front ++ cons_option (option_map (route_text k) source) []) (length (front ++ cons_option (option_map (route_text k) source) [])) ≡ None
      by_source k lt front None before next = ap (λ texts. fault_upto texts (length texts)) (append-nil front) ∙ before
      by_source k lt front (Some s) before next =
          let text = route_text k s in
          let long : length (front ++ text ∷ []) ≡ suc (length front) = length_push front text ∙ add-one (length front) in
          let first : fault_upto (front ++ text ∷ []) (length front) ≡ None = fault_front front (text ∷ []) (length front) (omega arith) ∙ before in
          let here : route_fault (front ++ text ∷ []) (length front) ≡ None = rw (take_at front (text ∷ []) (length front) refl, get_or_at front text [] [] (length front) refl) (next s refl) in
          rw long (rw (first, here) refl)

  -- the sources of the outputs are read back
  pub sources_back : sources_of (route_texts ins ends) ≡ Ok (map (route_source ins) ends)
  unfolding sources_of
  sources_back =
      let count = ten_ends in
      let whole : take 10 ends ≡ ends = take_all 10 ends (omega arith) in
      let faultless : fault_upto (route_texts ins ends) (length (route_texts ins ends)) ≡ None = subst (λ outputs. fault_upto (route_texts ins outputs) (length (route_texts ins outputs)) ≡ None) whole (texts_faultless 10 (omega arith)) in
      let each : (o : ℕ) → o < 10 → source_to (routes_in (route_texts ins ends)) o ≡ route_source ins o =
      λ o lt. ap (λ routes. source_to routes o) (texts_read ends ends_below) ∙ source_given ends o ∙ rw (present o lt) refl in
      rw faultless (ap Ok (same_on_ends None (source_to (routes_in (route_texts ins ends))) (route_source ins) each))

  -- each text of a route is one
  pub texts_are_routes : (outputs : List ℕ) → list_all is_route (route_texts ins outputs) ≡ true
  texts_are_routes [] = refl
  texts_are_routes (output ∷ outputs) = by_source (route_source ins output) (texts_are_routes outputs)
    where
      by_source : (source : Option SwitchSource) → list_all is_route (route_texts ins outputs) ≡ true → list_all is_route (cons_option (option_map (route_text output) source) (route_texts ins outputs)) ≡ true
      by_source None rest = rest
      by_source (Some source) rest = rw (route_has_arrow is_arrow output source refl, rest) refl
