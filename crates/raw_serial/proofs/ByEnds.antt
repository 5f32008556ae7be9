-- The wires at the ends of a word.
use Rattle.std.proofs.Common.{◌≡◌, ℕ, suc, ◌+◌, ◌<◌, ◌≤◌, Bool, true, false, ◌&&◌, cond, ltb, List, [], ◌∷◌, ◌++◌, length, drop, take, set, Option, Some, None, is_some, refl, sym, ap, ◌∙◌, subst, ⊎_elim, arith}
use Rattle.std.specs.Prelude.{slice_index, slice_index_or}
use Rattle.std.specs.List.{flat_map, find, All, list_any, AllByRecursion}
use Rattle.std.specs.Option.{option_to_list, option_or}
use Rattle.std.proofs.lemmas.Bool.{cases_eq, le-ltb}
use Rattle.std.proofs.Math.Seq.{take-append_seam, drop-append_seam}
use Rattle.std.proofs.lemmas.List.{length-append, length-drop}
use Rattle.std.proofs.lemmas.List.Folds.{find-append}
use Rattle.std.proofs.lemmas.List.Elements.{All-same, All-take, All-drop, All-from_recursion}
use Rattle.raw_network.specs.Network.{Sent, values_on, count_of, fronts, taken, appended}
use Rattle.raw_network.specs.Runs.{sent_on}
use Rattle.raw_network.specs.Waits.{lacks_values, lacks_room, either_first}
use Rattle.raw_network.proofs.Wires.{count_here, count_there, wire_appended, wire_taken, arrivals, length-appended}
use Rattle.raw_switch_isa.specs.Ends.{ends, has_end}
use Rattle.raw_grid.proofs.WireLaws.{one_input, one_output}
use Rattle.raw_model.specs.Program.{ProgramSet}
use Rattle.raw_model.specs.Local.{Local}
use Rattle.raw_model.specs.Machine.{given_first, sent_to}
use Rattle.raw_model.proofs.Given.{end_at}
use Rattle.raw_model.proofs.Words.{all_at}
use Rattle.raw_model.proofs.Counts.{count-append, option_other, sent-more, sent_none}
use Rattle.raw_processor.specs.Given.{wire_in, wires_in, handed}
use Rattle.raw_processor.proofs.EndLists.{drop_ends, past_ends, flat_to, one_wire, no_wire, handed_more, handed_to}
use Rattle.raw_processor.specs.declared.end_wires.EndWires.{EndWires}
use Rattle.raw_serial.specs.Needs.{AreNeedsOf, unmet_of, is_empty, is_full}
use Rattle.raw_serial.proofs.Finding.{find_passed, find_at}
use Rattle.raw_serial.proofs.Stepping.{unmet_is, listed}

-- an end stands once among all
ends_below : AllByRecursion (λ end. end < 10) ends
unfolding ends
ends_below = (omega arith, (omega arith, (omega arith, (omega arith, (omega arith, (omega arith, (omega arith, (omega arith, (omega arith, (omega arith, tt))))))))))

each_once : AllByRecursion (λ k. count_of k ends ≡ 1) ends
unfolding ends
each_once = (refl, (refl, (refl, (refl, (refl, (refl, (refl, (refl, (refl, (refl, tt))))))))))

ends_once : (k : ℕ) → k < 10 → count_of k ends ≡ 1
ends_once k below = all_at (λ k. count_of k ends ≡ 1) ends k k (All-from_recursion (λ k. count_of k ends ≡ 1) ends each_once) (end_at k below)

find_both : (f : ℕ → Bool) (xs ys : List ℕ) → find f (xs ++ ys) ≡ either_first (find f xs) (find f ys)
find_both f xs ys = find-append f xs ys ∙ in_words (find f xs)
  where
    in_words : (o : Option ℕ) → option_or o (find f ys) ≡ either_first o (find f ys)
    in_words None = refl
    in_words (Some x) = refl

-- no two ends have one wire
abbrev pub AreApart : List (Option ℕ) → Type 0
AreApart wires = (i j w : ℕ) → i < 10 → j < 10 → slice_index_or wires i None ≡ Some w → slice_index_or wires j None ≡ Some w → i ≡ j

module _ (word : ℕ) (wires : List (Option ℕ)) where
  abbrev at : ℕ → Option ℕ
  at i = slice_index_or wires i None

  -- how often the wire at an end stands among those of the word
  count_own : (b : Bool) (w : ℕ) (o : Option ℕ) → o ≡ Some w → count_of w (cond b (option_to_list o) []) ≡ cond b 1 0
  count_own true w None e = cc e
  count_own true w (Some v) e = ap (λ o. count_of w (option_to_list o)) e ∙ count_here w []
  count_own false w o e = refl

  count_foreign : (b : Bool) (w : ℕ) (o : Option ℕ) → (o ≡ Some w → ⊥) → count_of w (cond b (option_to_list o) []) ≡ 0
  count_foreign true w o ne = option_other w o ne
  count_foreign false w o ne = refl

  cond_none : (b : Bool) → ◌≡◌ {A = ℕ} 0 (cond b 0 0)
  cond_none true = refl
  cond_none false = refl

  nothing_more : (n : ℕ) → 0 + n ≡ n
  nothing_more n = omega arith

  cond_more : (b : Bool) (n : ℕ) → cond b 1 0 + cond b n 0 ≡ cond b (suc n) 0
  cond_more true n = omega arith
  cond_more false n = refl

  count_at : AreApart wires → (e w : ℕ) → e < 10 → at e ≡ Some w → (es : List ℕ) → AllByRecursion (λ end. end < 10) es
      → count_of w (flat_map (wire_in word wires) es) ≡ cond (has_end word e) (count_of e es) 0
  count_at apart e w below is [] all = cond_none (has_end word e)
  count_at apart e w below is (x ∷ es) all =
      ⊎_elim
      (λ (same : x ≡ e).
      count-append w (wire_in word wires x) (flat_map (wire_in word wires) es)
      ∙ ap (λ n. n + count_of w (flat_map (wire_in word wires) es)) (ap (λ i. count_of w (wire_in word wires i)) same ∙ count_own (has_end word e) w (at e) is)
      ∙ ap (λ n. cond (has_end word e) 1 0 + n) (count_at apart e w below is es all.1)
      ∙ cond_more (has_end word e) (count_of e es)
      ∙ ap (λ n. cond (has_end word e) n 0) (sym (ap (λ i. count_of e (i ∷ es)) same ∙ count_here e es)))
      (λ (other : x ≡ e → ⊥).
      count-append w (wire_in word wires x) (flat_map (wire_in word wires) es)
      ∙ ap (λ n. n + count_of w (flat_map (wire_in word wires) es)) (count_foreign (has_end word x) w (at x) (λ f. other (apart x e w all.0 below f is)))
      ∙ nothing_more (count_of w (flat_map (wire_in word wires) es))
      ∙ count_at apart e w below is es all.1
      ∙ ap (λ n. cond (has_end word e) n 0) (sym (count_there e x es other)))
      (cases_eq x e)

  pub count_once : AreApart wires → (e w : ℕ) → e < 10 → at e ≡ Some w → count_of w (wires_in word wires) ≡ cond (has_end word e) 1 0
  count_once apart e w below is = count_at apart e w below is ends ends_below ∙ ap (λ n. cond (has_end word e) n 0) (ends_once e below)

  -- the first wire of all ends that lacks something is the first of the word's that does
  found_alike : (f g : ℕ → Bool) → ((e w : ℕ) → e < 10 → at e ≡ Some w → f w ≡ (has_end word e && g w)) → (es : List ℕ) → AllByRecursion (λ end. end < 10) es
      → find f (flat_map (λ end. option_to_list (at end)) es) ≡ find g (flat_map (wire_in word wires) es)
  found_alike f g alike [] all = refl
  found_alike f g alike (x ∷ es) all =
      find_both f (option_to_list (at x)) (flat_map (λ end. option_to_list (at end)) es)
      ∙ ap (either_first (find f (option_to_list (at x)))) (found_alike f g alike es all.1)
      ∙ ap (λ o. either_first o (find g (flat_map (wire_in word wires) es))) (one_alike (has_end word x) (at x) (λ w is. alike x w all.0 is))
      ∙ sym (find_both g (wire_in word wires x) (flat_map (wire_in word wires) es))
    where
      tested : (b : Bool) (w : ℕ) → cond (b && g w) (Some w) None ≡ find g (cond b (w ∷ []) [])
      tested true w = refl
      tested false w = refl

      one_alike : (b : Bool) (o : Option ℕ) → ((w : ℕ) → o ≡ Some w → f w ≡ (b && g w)) → find f (option_to_list o) ≡ find g (cond b (option_to_list o) [])
      one_alike true None h = refl
      one_alike false None h = refl
      one_alike b (Some w) h = ap (λ t. cond t (Some w) None) (h w refl) ∙ tested b w

  lacks_by : (b : Bool) (n m : ℕ) → m ≡ cond b 1 0 → ltb n m ≡ (b && ltb n 1)
  lacks_by true n m e = ap (ltb n) e
  lacks_by false n m e = ap (ltb n) e ∙ le-ltb n 0 (omega arith)

  room_by : (b : Bool) (m : ℕ) (t : Bool) → m ≡ cond b 1 0 → (ltb 0 m && t) ≡ (b && t)
  room_by true m t e = ap (λ k. ltb 0 k && t) e
  room_by false m t e = ap (λ k. ltb 0 k && t) e

  pub empty_found : (held : List (List ℕ)) → AreApart wires
      → find (lacks_values (wires_in word wires) held) (flat_map (λ end. option_to_list (at end)) ends) ≡ find (is_empty held) (wires_in word wires)
  empty_found held apart =
      found_alike (lacks_values (wires_in word wires) held) (is_empty held)
      (λ e w below is. lacks_by (has_end word e) (length (values_on held w)) (count_of w (wires_in word wires)) (count_once apart e w below is)) ends ends_below

  pub full_found : (depth : ℕ) (held : List (List ℕ)) → AreApart wires
      → find (lacks_room depth (wires_in word wires) held) (flat_map (λ end. option_to_list (at end)) ends) ≡ find (is_full depth held) (wires_in word wires)
  full_found depth held apart =
      found_alike (lacks_room depth (wires_in word wires) held) (is_full depth held)
      (λ e w below is. room_by (has_end word e) (count_of w (wires_in word wires)) (is_full depth held w) (count_once apart e w below is)) ends ends_below

  -- the search over the ends of the word
  abbrev pub left_from : ℕ → List ℕ
  left_from i = flat_map (wire_in word wires) (drop i ends)

  pub left_at : (i : ℕ) → i < 10 → has_end word i ≡ true → left_from i ≡ option_to_list (at i) ++ left_from (i + 1)
  left_at i below on =
      ap (flat_map (wire_in word wires)) (drop_ends i below)
      ∙ ap (λ ws. ws ++ left_from (i + 1)) (sym (one_wire word wires i on))

  pub left_to : (i j : ℕ) → i ≤ j → ((end : ℕ) → i ≤ end → end < j → has_end word end ≡ false) → left_from j ≡ left_from i
  left_to i j later off =
      flat_to (wire_in word wires) [] (left_from i) i j later (λ end after before. no_wire word wires end (off end after before)) refl

  -- nothing is left behind the last end
  pub left_none : (i : ℕ) → 10 ≤ i → left_from i ≡ []
  left_none i past = ap (flat_map (wire_in word wires)) (past_ends i past)

  pub found_pass : (f : ℕ → Bool) (i : ℕ) → i < 10 → has_end word i ≡ true → list_any f (option_to_list (at i)) ≡ false
      → find f (left_from (i + 1)) ≡ find f (left_from i)
  found_pass f i below on off =
      sym (ap (find f) (left_at i below on) ∙ find_passed f (at i) (left_from (i + 1)) off)

  pub found_here : (f : ℕ → Bool) (i : ℕ) → i < 10 → has_end word i ≡ true → list_any f (option_to_list (at i)) ≡ true
      → at i ≡ find f (left_from i)
  found_here f i below on e =
      sym (ap (find f) (left_at i below on) ∙ find_at f (at i) (left_from (i + 1)) e)

-- wires taken from one after another
fronts-append : (xs ys : List ℕ) (held : List (List ℕ)) → fronts (xs ++ ys) held ≡ fronts xs held ++ fronts ys (taken xs held)
fronts-append [] ys held = refl
fronts-append (x ∷ xs) ys held =
    ap (λ us. slice_index (values_on held x) 0 ∷ us) (fronts-append xs ys (set held x (drop 1 (values_on held x))))

taken-append : (xs ys : List ℕ) (held : List (List ℕ)) → taken (xs ++ ys) held ≡ taken ys (taken xs held)
taken-append [] ys held = refl
taken-append (x ∷ xs) ys held = taken-append xs ys (set held x (drop 1 (values_on held x)))

-- the value for one input is the first of those that are left
value_is : (o v : Option ℕ) (held : List (List ℕ)) (rest : List ℕ) → option_to_list v ≡ fronts (option_to_list o) held → is_some v ≡ is_some o
    → v ≡ given_first (option_to_list o) (fronts (option_to_list o) held ++ rest)
value_is None None held rest e s = refl
value_is None (Some x) held rest e s = cc
value_is (Some w) None held rest e s = cc
value_is (Some w) (Some x) held rest e s = cc e

drop_value : (o : Option ℕ) (held : List (List ℕ)) (rest : List ℕ) → drop (length (option_to_list o)) (fronts (option_to_list o) held ++ rest) ≡ rest
drop_value None held rest = refl
drop_value (Some w) held rest = refl

module _ (word : ℕ) (wires : List (Option ℕ)) where
  abbrev own : ℕ → Option ℕ
  own i = slice_index_or wires i None

  -- what is left to take after one input more
  pub taken_more : (held later : List (List ℕ)) (i : ℕ) → i < 10 → has_end word i ≡ true → later ≡ taken (option_to_list (own i)) held
      → taken (left_from word wires (i + 1)) later ≡ taken (left_from word wires i) held
  taken_more held later i below on is =
      ap (taken (left_from word wires (i + 1))) is
      ∙ sym (ap (λ ws. taken ws held) (left_at word wires i below on) ∙ taken-append (option_to_list (own i)) (left_from word wires (i + 1)) held)

  fronts_more : (held later : List (List ℕ)) (i : ℕ) → i < 10 → has_end word i ≡ true → later ≡ taken (option_to_list (own i)) held
      → fronts (left_from word wires i) held ≡ fronts (option_to_list (own i)) held ++ fronts (left_from word wires (i + 1)) later
  fronts_more held later i below on is =
      ap (λ ws. fronts ws held) (left_at word wires i below on)
      ∙ fronts-append (option_to_list (own i)) (left_from word wires (i + 1)) held
      ∙ ap (λ hs. fronts (option_to_list (own i)) held ++ fronts (left_from word wires (i + 1)) hs) (sym is)

  pub given_more : (given whole : List (Option ℕ)) (held later : List (List ℕ)) (i : ℕ) (v : Option ℕ) → i < 10 → length given ≡ 10 → has_end word i ≡ true
      → option_to_list v ≡ fronts (option_to_list (own i)) held → is_some v ≡ is_some (own i) → later ≡ taken (option_to_list (own i)) held
      → take i given ++ handed word wires (drop i ends) (fronts (left_from word wires i) held) ≡ whole
      → take (i + 1) (set given i v) ++ handed word wires (drop (i + 1) ends) (fronts (left_from word wires (i + 1)) later) ≡ whole
  given_more given whole held later i v below ten on is_v some is e =
      let mine = one_wire word wires i on in
      let us = fronts (left_from word wires i) held in
      let split = fronts_more held later i below on is in
      let place : 0 + length (wire_in word wires i) ≡ length (wire_in word wires i) = omega arith in
      let rest : drop (0 + length (wire_in word wires i)) us ≡ fronts (left_from word wires (i + 1)) later =
      ap (λ n. drop n us) place
      ∙ ap (λ (ws : List ℕ). drop (length ws) us) (sym mine)
      ∙ ap (drop (length (option_to_list (own i)))) split
      ∙ drop_value (own i) held (fronts (left_from word wires (i + 1)) later) in
      ap (λ vs. take (i + 1) (set given i v) ++ handed word wires (drop (i + 1) ends) vs) (sym rest)
      ∙ handed_more word wires given us whole i 0 (length (wire_in word wires i)) v below ten e
      (value_is (own i) v held (fronts (left_from word wires (i + 1)) later) is_v some
      ∙ ap (given_first (option_to_list (own i))) (sym split)
      ∙ ap (λ ws. given_first ws us) mine)
      refl

  -- inputs that the word does not have are passed over
  pub given_to : (given whole : List (Option ℕ)) (held : List (List ℕ)) (i j : ℕ) → length given ≡ 10 → i ≤ j
      → ((end : ℕ) → i ≤ end → end < j → has_end word end ≡ false) → ((end : ℕ) → i ≤ end → slice_index_or given end None ≡ None)
      → take i given ++ handed word wires (drop i ends) (fronts (left_from word wires i) held) ≡ whole
      → take j given ++ handed word wires (drop j ends) (fronts (left_from word wires j) held) ≡ whole
  given_to given whole held i j ten later off none e =
      ap (λ ws. take j given ++ handed word wires (drop j ends) (fronts ws held)) (left_to word wires i j later off)
      ∙ handed_to word wires given (fronts (left_from word wires i) held) whole i j 0 ten later off none e

  -- the wires of those that are left hold enough
  counts_at : (v i : ℕ) → i < 10 → has_end word i ≡ true
      → count_of v (left_from word wires i) ≡ count_of v (option_to_list (own i)) + count_of v (left_from word wires (i + 1))
  counts_at v i below on =
      ap (count_of v) (left_at word wires i below on) ∙ count-append v (option_to_list (own i)) (left_from word wires (i + 1))

  pub enough_here : (held : List (List ℕ)) (i : ℕ) → i < 10 → has_end word i ≡ true
      → ((v : ℕ) → count_of v (left_from word wires i) ≤ length (values_on held v))
      → (v : ℕ) → count_of v (option_to_list (own i)) ≤ length (values_on held v)
  enough_here held i below on enough v = omega (arith, counts_at v i below on, enough v)

  pub enough_more : (held later : List (List ℕ)) (i j : ℕ) → i < 10 → has_end word i ≡ true → i + 1 ≤ j
      → ((end : ℕ) → i + 1 ≤ end → end < j → has_end word end ≡ false) → later ≡ taken (option_to_list (own i)) held
      → ((v : ℕ) → count_of v (left_from word wires i) ≤ length (values_on held v))
      → (v : ℕ) → count_of v (left_from word wires j) ≤ length (values_on later v)
  enough_more held later i j below on after off is enough v =
      let passed = ap (count_of v) (left_to word wires (i + 1) j after off) in
      let left = ap (λ (hs : List (List ℕ)). length (values_on hs v)) is
      ∙ ap length (wire_taken (option_to_list (own i)) held v)
      ∙ length-drop (count_of v (option_to_list (own i))) (values_on held v) in
      omega (arith, counts_at v i below on, enough v, passed, left)

-- values appended one after another
appended-append : (ms ns : List Sent) (held : List (List ℕ)) → appended (ms ++ ns) held ≡ appended ns (appended ms held)
appended-append [] ns held = refl
appended-append (m ∷ ms) ns held = appended-append ms ns (set held m.wire (values_on held m.wire ++ m.value ∷ []))

all_first : {X : Type 0} (P : X → Type 0) (xs ys : List X) → All P (xs ++ ys) → All P xs
all_first P xs ys all = All-same P xs (take (length xs) (xs ++ ys)) (sym (take-append_seam xs ys)) (All-take P (length xs) (xs ++ ys) all)

all_last : {X : Type 0} (P : X → Type 0) (xs ys : List X) → All P (xs ++ ys) → All P ys
all_last P xs ys all = All-same P ys (drop (length xs) (xs ++ ys)) (sym (drop-append_seam xs ys)) (All-drop P (length xs) (xs ++ ys) all)

few_arrive : (n w : ℕ) (ms : List Sent) → length (arrivals n w ms) ≤ length (sent_on w ms)
few_arrive n w ms = by_test (ltb w n)
  where
    by_test : (b : Bool) → length (cond b (sent_on w ms) []) ≤ length (sent_on w ms)
    by_test true = omega arith
    by_test false = omega arith

module _ (word : ℕ) (wires sent : List (Option ℕ)) where
  abbrev one : ℕ → List Sent
  one end = sent_to (slice_index_or wires end None) (slice_index_or sent end None)

  -- what the outputs from an end on send
  abbrev pub sent_from : ℕ → List Sent
  sent_from i = flat_map one (drop i ends)

  -- each value of those that are left goes to a wire that is there, and has room there
  pub record HaveRoom (held : List (List ℕ)) (i : ℕ) : Type 0 where
    pub there : All (λ (m : Sent). m.wire < length held) (sent_from i)
    pub room : (w : ℕ) → 0 < length (sent_on w (sent_from i)) → length (values_on held w) + length (sent_on w (sent_from i)) ≤ 8

  pub sent_split : (i : ℕ) → i < 10 → sent_from i ≡ one i ++ sent_from (i + 1)
  sent_split i below = ap (flat_map one) (drop_ends i below)

  pub sent_over : (i j : ℕ) → i ≤ j → ((end : ℕ) → i ≤ end → end < j → has_end word end ≡ false)
      → ((end : ℕ) → has_end word end ≡ false → slice_index_or sent end None ≡ None) → sent_from j ≡ sent_from i
  sent_over i j later off only =
      flat_to one [] (sent_from i) i j later
      (λ end after before. ap (sent_to (slice_index_or wires end None)) (only end (off end after before)) ∙ sent_none (slice_index_or wires end None)) refl

  pub sent_nothing : (i : ℕ) → 10 ≤ i → sent_from i ≡ []
  sent_nothing i past = ap (flat_map one) (past_ends i past)

  pub there_here : (held : List (List ℕ)) (i : ℕ) → i < 10 → HaveRoom held i → All (λ (m : Sent). m.wire < length held) (one i)
  there_here held i below have =
      all_first (λ (m : Sent). m.wire < length held) (one i) (sent_from (i + 1))
      (subst (λ (ms : List Sent). All (λ (m : Sent). m.wire < length held) ms) (sent_split i below) have.there)

  lengths_at : (w i : ℕ) → i < 10 → length (sent_on w (sent_from i)) ≡ length (sent_on w (one i)) + length (sent_on w (sent_from (i + 1)))
  lengths_at w i below = ap (λ ms. length (sent_on w ms)) (sent_split i below) ∙ sent-more w (one i) (sent_from (i + 1))

  pub room_here : (held : List (List ℕ)) (i : ℕ) → i < 10 → HaveRoom held i → (w : ℕ) → 0 < length (sent_on w (one i))
      → length (values_on held w) + length (sent_on w (one i)) ≤ 8
  room_here held i below have w some =
      let lengths = lengths_at w i below in
      let all = have.room w (omega arith) in
      omega arith

  pub room_more : (held later : List (List ℕ)) (i : ℕ) → i < 10 → HaveRoom held i → later ≡ appended (one i) held → HaveRoom later (i + 1)
  room_more held later i below have is = record {
    there =
        subst (λ n. All (λ (m : Sent). m.wire < n) (sent_from (i + 1))) (sym (ap length is ∙ length-appended (one i) held))
        (all_last (λ (m : Sent). m.wire < length held) (one i) (sent_from (i + 1))
        (subst (λ (ms : List Sent). All (λ (m : Sent). m.wire < length held) ms) (sent_split i below) have.there));
    room = λ w some.
        let lengths = lengths_at w i below in
        let all = have.room w (omega arith) in
        let now : length (values_on later w) ≡ length (values_on held w) + length (arrivals (length held) w (one i)) =
        ap (λ (hs : List (List ℕ)). length (values_on hs w)) is ∙ ap length (wire_appended (one i) held w)
        ∙ length-append (values_on held w) (arrivals (length held) w (one i)) in
        let few = few_arrive (length held) w (one i) in
        omega arith;
  }

  pub room_over : (held : List (List ℕ)) (i j : ℕ) → sent_from j ≡ sent_from i → HaveRoom held i → HaveRoom held j
  room_over held i j same have = record {
    there = subst (λ (ms : List Sent). All (λ (m : Sent). m.wire < length held) ms) (sym same) have.there;
    room = λ w. subst (λ (ms : List Sent). 0 < length (sent_on w ms) → length (values_on held w) + length (sent_on w ms) ≤ 8) (sym same) (have.room w);
  }

  pub appended_more : (held later : List (List ℕ)) (i : ℕ) → i < 10 → later ≡ appended (one i) held
      → appended (sent_from (i + 1)) later ≡ appended (sent_from i) held
  appended_more held later i below is =
      ap (appended (sent_from (i + 1))) is
      ∙ sym (ap (λ (ms : List Sent). appended ms held) (sent_split i below) ∙ appended-append (one i) (sent_from (i + 1)) held)

module _ (set : ProgramSet) (p : ℕ) (l : Local) (es : EndWires) (inputs outputs depth : ℕ) (held : List (List ℕ))
    (needs : AreNeedsOf set p l es (wires_in inputs es.inputs) (wires_in outputs es.outputs)) (deep : depth ≡ set.depth) where
  inputs_apart : AreApart es.inputs
  inputs_apart i j w here there e f =
      one_input set.topo w p p i j (sym (needs.ends.inputs i here) ∙ e) (sym (needs.ends.inputs j there) ∙ f)

  outputs_apart : AreApart es.outputs
  outputs_apart i j w here there e f =
      one_output set.topo w p p i j (sym (needs.ends.outputs i here) ∙ e) (sym (needs.ends.outputs j there) ∙ f)

  -- the first need that is unmet is an empty wire of the inputs, or else a full one of the outputs
  pub unmet_by_ends : unmet_of set p l held ≡ either_first (find (is_empty held) (wires_in inputs es.inputs)) (find (is_full depth held) (wires_in outputs es.outputs))
  unmet_by_ends =
      sym (unmet_is set p l es (wires_in inputs es.inputs) (wires_in outputs es.outputs) depth held needs deep)
      ∙ ap (λ o. either_first o (find (lacks_room depth (wires_in outputs es.outputs) held) (listed es.outputs))) (empty_found inputs es.inputs held inputs_apart)
      ∙ ap (either_first (find (is_empty held) (wires_in inputs es.inputs))) (full_found outputs es.outputs depth held outputs_apart)

  pub empty_first : (w : ℕ) → Some w ≡ find (is_empty held) (wires_in inputs es.inputs) → Some w ≡ unmet_of set p l held
  empty_first w e =
      sym (unmet_by_ends ∙ ap (λ o. either_first o (find (is_full depth held) (wires_in outputs es.outputs))) (sym e))

  pub full_next : (o : Option ℕ) → None ≡ find (is_empty held) (wires_in inputs es.inputs) → o ≡ find (is_full depth held) (wires_in outputs es.outputs)
      → o ≡ unmet_of set p l held
  full_next o none e =
      sym (unmet_by_ends ∙ ap (λ u. either_first u (find (is_full depth held) (wires_in outputs es.outputs))) (sym none) ∙ sym e)
