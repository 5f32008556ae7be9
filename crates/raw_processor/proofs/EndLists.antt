-- The ends in their order, one after another.
use Rattle.std.proofs.Common.{◌≡◌, ℕ, zero, suc, ◌+◌, ◌-◌, ◌<◌, ◌≤◌, Bool, true, false, not, ◌&&◌, cond, List, [], ◌∷◌, ◌++◌, Option, None, inl, inr, drop, take, take_all, replicate, length, set, ap, sym, ◌∙◌, refl, arith, append_assoc}
use Rattle.std.specs.Prelude.{slice_index_or}
use Rattle.std.specs.List.{flat_map, list_all, filter}
use Rattle.std.specs.Option.{option_to_list}
use Rattle.std.proofs.lemmas.Bool.{cases_lt}
use Rattle.std.proofs.lemmas.List.{append-nil, drop-drop, drop_all, set-get_or, take_more_set}
use Rattle.raw_switch_isa.specs.Ends.{ends, has_end}
use Rattle.raw_model.specs.Machine.{given_first}
use Rattle.raw_processor.specs.Given.{wire_in, handed}

-- from an end on
pub drop_ends : (i : ℕ) → i < 10 → drop i ends ≡ i ∷ drop (i + 1) ends
unfolding ends
drop_ends (suc (suc (suc (suc (suc (suc (suc (suc (suc (suc i)))))))))) h = absurd (omega arith)
drop_ends _ h = refl

drop_all_ends : drop 10 ends ≡ []
unfolding ends
drop_all_ends = refl

pub past_ends : (i : ℕ) → 10 ≤ i → drop i ends ≡ []
unfolding ends
past_ends i past = drop_all i ends past

-- one end more
pub flat_more : {X : Type 0} (f : ℕ → List X) (done whole : List X) (i : ℕ) → i < 10
    → done ++ flat_map f (drop i ends) ≡ whole → (done ++ f i) ++ flat_map f (drop (i + 1) ends) ≡ whole
flat_more f done whole i h e =
    append_assoc done (f i) (flat_map f (drop (i + 1) ends))
    ∙ ap (λ es. done ++ flat_map f es) (sym (drop_ends i h))
    ∙ e

-- ends that give nothing are passed over
flat_over : {X : Type 0} (f : ℕ → List X) (i : ℕ) → f i ≡ [] → flat_map f (drop (i + 1) ends) ≡ flat_map f (drop i ends)
flat_over f i none =
    elim (cases_lt i 10) [
      | inl below ↦
          ap (λ ws. ws ++ flat_map f (drop (i + 1) ends)) (sym none)
          ∙ ap (flat_map f) (sym (drop_ends i below))
      | inr past ↦ ap (flat_map f) (past_ends (i + 1) (omega arith) ∙ sym (past_ends i past))
    ]

flat_skip : {X : Type 0} (f : ℕ → List X) (i n : ℕ) → ((end : ℕ) → i ≤ end → end < i + n → f end ≡ [])
    → flat_map f (drop (i + n) ends) ≡ flat_map f (drop i ends)
flat_skip f i zero none =
    let place : i + zero ≡ i = omega arith in
    ap (λ j. flat_map f (drop j ends)) place
flat_skip f i (suc n) none =
    let place : i + suc n ≡ i + n + 1 = omega arith in
    ap (λ j. flat_map f (drop j ends)) place
    ∙ flat_over f (i + n) (none (i + n) (omega arith) (omega arith))
    ∙ flat_skip f i n (λ end later before. none end later (omega arith))

pub flat_to : {X : Type 0} (f : ℕ → List X) (done whole : List X) (i j : ℕ) → i ≤ j → ((end : ℕ) → i ≤ end → end < j → f end ≡ [])
    → done ++ flat_map f (drop i ends) ≡ whole → done ++ flat_map f (drop j ends) ≡ whole
flat_to f done whole i j later none e =
    let place : j ≡ i + (j - i) = omega arith in
    ap (λ k. done ++ flat_map f (drop k ends)) place
    ∙ ap (λ ws. done ++ ws) (flat_skip f i (j - i) (λ end after before. none end after (omega arith)))
    ∙ e

-- no end is left
pub flat_done : {X : Type 0} (f : ℕ → List X) (done whole : List X) (i : ℕ) → 10 ≤ i
    → done ++ flat_map f (drop i ends) ≡ whole → done ≡ whole
flat_done f done whole i past h =
    sym (append-nil done)
    ∙ ap (λ es. done ++ flat_map f es) (sym (past_ends i past))
    ∙ h

-- an end that a word does not have adds no wire
pub no_wire : (word : ℕ) (wires : List (Option ℕ)) (i : ℕ) → has_end word i ≡ false → wire_in word wires i ≡ []
no_wire word wires i off = ap (λ has. cond has (option_to_list (slice_index_or wires i None)) []) off

-- one that it has adds that of the end
pub one_wire : (word : ℕ) (wires : List (Option ℕ)) (i : ℕ) → has_end word i ≡ true → option_to_list (slice_index_or wires i None) ≡ wire_in word wires i
one_wire word wires i on = sym (ap (λ has. cond has (option_to_list (slice_index_or wires i None)) []) on)

-- two functions that are alike at each end
pub flat_alike : {X : Type 0} (f g : ℕ → List X) → ((end : ℕ) → end < 10 → f end ≡ g end) → flat_map f ends ≡ flat_map g ends
unfolding ends
flat_alike f g alike =
    rw (alike 0 (omega arith), alike 1 (omega arith), alike 2 (omega arith), alike 3 (omega arith), alike 4 (omega arith), alike 5 (omega arith), alike 6 (omega arith), alike 7 (omega arith), alike 8 (omega arith), alike 9 (omega arith)) refl

-- one end more is given its value
pub handed_more : (word : ℕ) (wires given : List (Option ℕ)) (values : List ℕ) (whole : List (Option ℕ)) (i k n : ℕ) (v : Option ℕ) → i < 10 → length given ≡ 10
    → take i given ++ handed word wires (drop i ends) (drop k values) ≡ whole
    → v ≡ given_first (wire_in word wires i) (drop k values) → n ≡ length (wire_in word wires i)
    → take (i + 1) (set given i v) ++ handed word wires (drop (i + 1) ends) (drop (k + n) values) ≡ whole
handed_more word wires given values whole i k n v h ten e is_v is_n =
    ap (λ us. us ++ handed word wires (drop (i + 1) ends) (drop (k + n) values)) (take_more_set given i v (omega arith))
    ∙ append_assoc (take i given) (v ∷ []) (handed word wires (drop (i + 1) ends) (drop (k + n) values))
    ∙ ap (λ us. take i given ++ (v ∷ handed word wires (drop (i + 1) ends) us)) (sym (drop-drop n k values))
    ∙ ap (λ m. take i given ++ (v ∷ handed word wires (drop (i + 1) ends) (drop m (drop k values)))) is_n
    ∙ ap (λ u. take i given ++ (u ∷ handed word wires (drop (i + 1) ends) (drop (length (wire_in word wires i)) (drop k values)))) is_v
    ∙ ap (λ es. take i given ++ handed word wires es (drop k values)) (sym (drop_ends i h))
    ∙ e

-- ends that a word does not have are given none
handed_over : (word : ℕ) (wires given : List (Option ℕ)) (values : List ℕ) (whole : List (Option ℕ)) (i k : ℕ) → length given ≡ 10
    → has_end word i ≡ false → slice_index_or given i None ≡ None
    → take i given ++ handed word wires (drop i ends) (drop k values) ≡ whole
    → take (i + 1) given ++ handed word wires (drop (i + 1) ends) (drop k values) ≡ whole
handed_over word wires given values whole i k ten off none e =
    elim (cases_lt i 10) [
      | inl below ↦
          let same : set given i None ≡ given = ap (set given i) (sym none) ∙ set-get_or given i None in
          let place : k ≡ k + 0 = omega arith in
          ap (λ us. take (i + 1) us ++ handed word wires (drop (i + 1) ends) (drop k values)) (sym same)
          ∙ ap (λ m. take (i + 1) (set given i None) ++ handed word wires (drop (i + 1) ends) (drop m values)) place
          ∙ handed_more word wires given values whole i k 0 None below ten e
          (sym (ap (λ ws. given_first ws (drop k values)) (no_wire word wires i off)))
          (sym (ap (λ (ws : List ℕ). length ws) (no_wire word wires i off)))
      | inr past ↦
          ap (λ us. us ++ handed word wires (drop (i + 1) ends) (drop k values)) (take_all (i + 1) given (omega arith) ∙ sym (take_all i given (omega arith)))
          ∙ ap (λ es. take i given ++ handed word wires es (drop k values)) (past_ends (i + 1) (omega arith) ∙ sym (past_ends i past))
          ∙ e
    ]

handed_skip : (word : ℕ) (wires given : List (Option ℕ)) (values : List ℕ) (whole : List (Option ℕ)) (i n k : ℕ) → length given ≡ 10
    → ((end : ℕ) → i ≤ end → end < i + n → has_end word end ≡ false) → ((end : ℕ) → i ≤ end → slice_index_or given end None ≡ None)
    → take i given ++ handed word wires (drop i ends) (drop k values) ≡ whole
    → take (i + n) given ++ handed word wires (drop (i + n) ends) (drop k values) ≡ whole
handed_skip word wires given values whole i zero k ten off none e =
    let place : i + zero ≡ i = omega arith in
    ap (λ j. take j given ++ handed word wires (drop j ends) (drop k values)) place ∙ e
handed_skip word wires given values whole i (suc n) k ten off none e =
    let place : i + suc n ≡ i + n + 1 = omega arith in
    ap (λ j. take j given ++ handed word wires (drop j ends) (drop k values)) place
    ∙ handed_over word wires given values whole (i + n) k ten (off (i + n) (omega arith) (omega arith)) (none (i + n) (omega arith))
    (handed_skip word wires given values whole i n k ten (λ end later before. off end later (omega arith)) none e)

pub handed_to : (word : ℕ) (wires given : List (Option ℕ)) (values : List ℕ) (whole : List (Option ℕ)) (i j k : ℕ) → length given ≡ 10 → i ≤ j
    → ((end : ℕ) → i ≤ end → end < j → has_end word end ≡ false) → ((end : ℕ) → i ≤ end → slice_index_or given end None ≡ None)
    → take i given ++ handed word wires (drop i ends) (drop k values) ≡ whole
    → take j given ++ handed word wires (drop j ends) (drop k values) ≡ whole
handed_to word wires given values whole i j k ten later off none e =
    let place : j ≡ i + (j - i) = omega arith in
    ap (λ m. take m given ++ handed word wires (drop m ends) (drop k values)) place
    ∙ handed_skip word wires given values whole i (j - i) k ten (λ end after before. off end after (omega arith)) none e

-- where nothing is given yet, none is given at any end
pub none_yet : (n end : ℕ) → slice_index_or {A = Option ℕ} (replicate n None) end None ≡ None
none_yet zero end = refl
none_yet (suc n) zero = refl
none_yet (suc n) (suc end) = none_yet n end

-- all ends are given their values
pub handed_done : (word : ℕ) (wires given : List (Option ℕ)) (values : List ℕ) (whole : List (Option ℕ)) (i k : ℕ) → 10 ≤ i → length given ≡ 10
    → take i given ++ handed word wires (drop i ends) (drop k values) ≡ whole → given ≡ whole
handed_done word wires given values whole i k past ten h =
    sym (take_all i given (omega arith))
    ∙ sym (append-nil (take i given))
    ∙ ap (λ es. take i given ++ handed word wires es (drop k values)) (sym (past_ends i past))
    ∙ h

-- a test that holds adds nothing to a test of all
and_held : (q r : Bool) → not q ≡ false → (q && r) ≡ r
and_held true r e = refl
and_held false r e = sym (cc e)

and_failed : (q r : Bool) → not q ≡ true → (q && r) ≡ false
and_failed true r e = absurd (cc e)
and_failed false r e = refl

-- one end more passes, or fails
pass_by : (test : ℕ → Bool) (b : Bool) (i : ℕ) (es : List ℕ) → (b && not (test i)) ≡ false → list_all test (cond b (i ∷ es) es) ≡ list_all test es
pass_by test true i es e = and_held (test i) (list_all test es) e
pass_by test false i es e = refl

fail_by : (test : ℕ → Bool) (b : Bool) (i : ℕ) (es : List ℕ) → (b && not (test i)) ≡ true → list_all test (cond b (i ∷ es) es) ≡ false
fail_by test true i es e = and_failed (test i) (list_all test es) e
fail_by test false i es e = absurd (cc e)

pub all_more : (test has : ℕ → Bool) (i : ℕ) → i < 10 → (has i && not (test i)) ≡ false
    → list_all test (filter has (drop (i + 1) ends)) ≡ list_all test (filter has (drop i ends))
all_more test has i h e =
    sym (pass_by test (has i) i (filter has (drop (i + 1) ends)) e)
    ∙ ap (λ es. list_all test (filter has es)) (sym (drop_ends i h))

pub all_failed : (test has : ℕ → Bool) (i : ℕ) → i < 10 → (has i && not (test i)) ≡ true
    → false ≡ list_all test (filter has (drop i ends))
all_failed test has i h e =
    sym (fail_by test (has i) i (filter has (drop (i + 1) ends)) e)
    ∙ ap (λ es. list_all test (filter has es)) (sym (drop_ends i h))

pub all_done : (test has : ℕ → Bool) (i : ℕ) → i ≡ 10 → true ≡ list_all test (filter has (drop i ends))
all_done test has i e =
    ap (λ es. list_all test (filter has es)) (sym drop_all_ends)
    ∙ ap (λ k. list_all test (filter has (drop k ends))) (sym e)
