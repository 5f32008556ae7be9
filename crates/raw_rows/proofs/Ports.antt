-- The ports of runs that see rows: of two lists of rows, one behind the other, they give and get the one behind the other.
use Rattle.std.proofs.Common.{◌≡◌, ℕ, zero, suc, ◌+◌, ◌≤◌, ◌<◌, Bool, true, false, List, [], ◌∷◌, ◌++◌, length, map, take, drop, refl, sym, ap, ◌∙◌, subst, arith, length-append}
use Rattle.std.specs.Prelude.{◌==◌, slice_get, slice_index, if◌then◌else◌}
use Rattle.std.specs.List.{flat_map, range_with_len}
use Rattle.std.proofs.lemmas.Grind.{flat_map-append}
use Rattle.std.proofs.lemmas.List.{length-map}
use Rattle.raw_model.specs.Machine.{words_of, capacity_of}
use Rattle.raw_term.proofs.Image.{Pairs, AlikeWires}
use Rattle.raw_term.proofs.Start.{pairs_take, pairs_left}
use Rattle.raw_stream.specs.declared.row_node.RowNode.{RowNode}
use Rattle.raw_stream.specs.declared.row_node.RowNode.TheVariants.{Input, Const, Apply, Pre}
use Rattle.raw_stream.specs.Streams.{Stream, due_at, due_to, valued, carried_after, rows_of, row_of}
use Rattle.raw_row_terms.specs.RowTerms.{carried_over}
use Rattle.raw_row_terms.proofs.Placing.{pairs_append}
use Rattle.raw_rows.specs.Given.{part, given_by}
use Rattle.raw_rows.specs.Kernels.{room_for, run_port, roomy_port}

module _ (s : Stream) where
  pub given_append : (xs ys : List (List ℕ)) (q : ℕ) → given_by s q (xs ++ ys) ≡ given_by s q xs ++ given_by s q ys
  given_append xs ys q = flat_map-append (part q s.nodes) xs ys

  pub room_append : (xs ys : List (List ℕ)) (q : ℕ) → room_for s q (xs ++ ys) ≡ room_for s q xs + room_for s q ys
  room_append xs ys q = ap length (flat_map-append (λ (words : List ℕ). due_at s q) xs ys) ∙ length-append (flat_map (λ (words : List ℕ). due_at s q) xs) (flat_map (λ (words : List ℕ). due_at s q) ys)

  pub words_append : (xs ys : List (List ℕ)) (qs : List ℕ) (i : ℕ)
      → words_of (slice_get (map (run_port s (xs ++ ys)) qs) i) ≡ words_of (slice_get (map (run_port s xs) qs) i) ++ words_of (slice_get (map (run_port s ys) qs) i)
  words_append xs ys [] i = refl
  words_append xs ys (q ∷ qs) zero = given_append xs ys q
  words_append xs ys (q ∷ qs) (suc i) = words_append xs ys qs i

  pub rooms_append : (xs ys : List (List ℕ)) (qs : List ℕ) (i : ℕ)
      → capacity_of (slice_get (map (run_port s (xs ++ ys)) qs) i) ≡ capacity_of (slice_get (map (run_port s xs) qs) i) + capacity_of (slice_get (map (run_port s ys) qs) i)
  rooms_append xs ys [] i = omega arith
  rooms_append xs ys (q ∷ qs) zero = room_append xs ys q
  rooms_append xs ys (q ∷ qs) (suc i) = rooms_append xs ys qs i

  pub words_few : (rows : List (List ℕ)) (k n i : ℕ) → length (words_of (slice_get (map (run_port s rows) (range_with_len k n)) i)) ≤ length (given_by s (k + i) rows)
  words_few rows k zero i = omega arith
  words_few rows k (suc n) zero = let e : k ≡ k + 0 = omega arith in let h : length (given_by s k rows) ≤ length (given_by s k rows) = omega arith in subst (λ j. length (given_by s k rows) ≤ length (given_by s j rows)) e h
  words_few rows k (suc n) (suc i) = let e : k + 1 + i ≡ k + suc i = omega arith in subst (λ j. length (words_of (slice_get (map (run_port s rows) (range_with_len (k + 1) n)) i)) ≤ length (given_by s j rows)) e (words_few rows (k + 1) n i)

  pub rooms_few : (rows : List (List ℕ)) (k n i : ℕ) → capacity_of (slice_get (map (run_port s rows) (range_with_len k n)) i) ≤ room_for s (k + i) rows
  rooms_few rows k zero i = omega arith
  rooms_few rows k (suc n) zero = let e : k ≡ k + 0 = omega arith in let h : room_for s k rows ≤ room_for s k rows = omega arith in subst (λ j. room_for s k rows ≤ room_for s j rows) e h
  rooms_few rows k (suc n) (suc i) = let e : k + 1 + i ≡ k + suc i = omega arith in subst (λ j. capacity_of (slice_get (map (run_port s rows) (range_with_len (k + 1) n)) i) ≤ room_for s j rows) e (rooms_few rows (k + 1) n i)

  -- values that a port gets
  pub due_room : (values : List (List ℕ)) (rows : List (List ℕ)) → length values ≡ length rows → (q : ℕ) → length (due_to s q values) ≡ room_for s q rows
  due_room [] [] e q = refl
  due_room [] (y ∷ rows) e q = cc e
  due_room (x ∷ values) [] e q = cc e
  due_room (x ∷ values) (y ∷ rows) e q =
      length-append (valued x (due_at s q)) (due_to s q values)
      ∙ omega (arith, due_room values rows (cc e) q, length-map (due_at s q) (λ v. slice_index x v), length-append (due_at s q) (flat_map (λ (words : List ℕ). due_at s q) rows))

  pub carried_append : (carried : List ℕ) (xs ys : List (List ℕ)) → carried_over s carried (xs ++ ys) ≡ carried_over s (carried_over s carried xs) ys
  carried_append carried [] ys = refl
  carried_append carried (x ∷ xs) ys = carried_append (carried_after s carried x) xs ys

  rows_append : (carried : List ℕ) (xs ys : List (List ℕ)) → rows_of s carried (xs ++ ys) ≡ rows_of s carried xs ++ rows_of s (carried_over s carried xs) ys
  rows_append carried [] ys = refl
  rows_append carried (x ∷ xs) ys = ap (λ zs. row_of s carried x ∷ zs) (rows_append (carried_after s carried x) xs ys)

  pub due_append : (carried : List ℕ) (xs ys : List (List ℕ)) (q : ℕ) → due_to s q (rows_of s carried (xs ++ ys)) ≡ due_to s q (rows_of s carried xs) ++ due_to s q (rows_of s (carried_over s carried xs) ys)
  due_append carried xs ys q = ap (due_to s q) (rows_append carried xs ys) ∙ flat_map-append (λ (row : List ℕ). valued row (due_at s q)) (rows_of s carried xs) (rows_of s (carried_over s carried xs) ys)

  module _ (H : ℕ → ℕ → Type 0) where
    pairs_where : (b : Bool) (xs ys : List ℕ) → Pairs H xs ys → Pairs H (if b then take 1 xs else []) (if b then take 1 ys else [])
    pairs_where true xs ys h = pairs_take H 1 xs ys h
    pairs_where false xs ys h = tt

    pairs_part : (q : ℕ) (nodes : List RowNode) (xs ys : List ℕ) → Pairs H xs ys → Pairs H (part q nodes xs) (part q nodes ys)
    pairs_part q [] xs ys h = tt
    pairs_part q (Input p ∷ nodes) xs ys h =
        pairs_append H (if p == q then take 1 xs else []) (if p == q then take 1 ys else []) (part q nodes (drop 1 xs)) (part q nodes (drop 1 ys))
        (pairs_where (p == q) xs ys h) (pairs_part q nodes (drop 1 xs) (drop 1 ys) (pairs_left H 1 xs ys h))
    pairs_part q (Const word ∷ nodes) xs ys h = pairs_part q nodes xs ys h
    pairs_part q (Apply op a b ∷ nodes) xs ys h = pairs_part q nodes xs ys h
    pairs_part q (Pre a word ∷ nodes) xs ys h = pairs_part q nodes xs ys h

    pub pairs_given : (ns rows : List (List ℕ)) → AlikeWires H ns rows → (q : ℕ) → Pairs H (given_by s q ns) (given_by s q rows)
    pairs_given [] [] h q = tt
    pairs_given [] (y ∷ rows) h q = absurd h
    pairs_given (x ∷ ns) [] h q = absurd h
    pairs_given (x ∷ ns) (y ∷ rows) h q = pairs_append H (part q s.nodes x) (part q s.nodes y) (given_by s q ns) (given_by s q rows) (pairs_part q s.nodes x y h.0) (pairs_given ns rows h.1 q)

    pub pairs_port : (ns rows : List (List ℕ)) → AlikeWires H ns rows → (qs : List ℕ) (i : ℕ) → Pairs H (words_of (slice_get (map (run_port s ns) qs) i)) (words_of (slice_get (map (run_port s rows) qs) i))
    pairs_port ns rows h [] i = tt
    pairs_port ns rows h (q ∷ qs) zero = pairs_given ns rows h q
    pairs_port ns rows h (q ∷ qs) (suc i) = pairs_port ns rows h qs i

    pub rows_same : (ns rows : List (List ℕ)) → AlikeWires H ns rows → length ns ≡ length rows
    rows_same [] [] h = refl
    rows_same [] (y ∷ rows) h = absurd h
    rows_same (x ∷ ns) [] h = absurd h
    rows_same (x ∷ ns) (y ∷ rows) h = ap suc (rows_same ns rows h.1)

    pub rows_take : (n : ℕ) (ns rows : List (List ℕ)) → AlikeWires H ns rows → AlikeWires H (take n ns) (take n rows)
    rows_take zero ns rows h = tt
    rows_take (suc n) [] [] h = tt
    rows_take (suc n) [] (y ∷ rows) h = absurd h
    rows_take (suc n) (x ∷ ns) [] h = absurd h
    rows_take (suc n) (x ∷ ns) (y ∷ rows) h = (h.0, rows_take n ns rows h.1)

    pub rows_drop : (n : ℕ) (ns rows : List (List ℕ)) → AlikeWires H ns rows → AlikeWires H (drop n ns) (drop n rows)
    rows_drop zero ns rows h = h
    rows_drop (suc n) [] [] h = tt
    rows_drop (suc n) [] (y ∷ rows) h = absurd h
    rows_drop (suc n) (x ∷ ns) [] h = absurd h
    rows_drop (suc n) (x ∷ ns) (y ∷ rows) h = rows_drop n ns rows h.1

  -- as many places for as many rows
  room_same : (ns rows : List (List ℕ)) → length ns ≡ length rows → (q : ℕ) → room_for s q ns ≡ room_for s q rows
  room_same [] [] e q = refl
  room_same [] (y ∷ rows) e q = cc e
  room_same (x ∷ ns) [] e q = cc e
  room_same (x ∷ ns) (y ∷ rows) e q =
      length-append (due_at s q) (flat_map (λ (words : List ℕ). due_at s q) ns) ∙ ap (λ n. length (due_at s q) + n) (room_same ns rows (cc e) q)
      ∙ sym (length-append (due_at s q) (flat_map (λ (words : List ℕ). due_at s q) rows))

  pub rooms_same : (ns rows : List (List ℕ)) → length ns ≡ length rows → (qs : List ℕ) (i : ℕ) → capacity_of (slice_get (map (run_port s ns) qs) i) ≡ capacity_of (slice_get (map (run_port s rows) qs) i)
  rooms_same ns rows e [] i = refl
  rooms_same ns rows e (q ∷ qs) zero = room_same ns rows e q
  rooms_same ns rows e (q ∷ qs) (suc i) = rooms_same ns rows e qs i

  -- with a place more
  pub roomy_words : (rows : List (List ℕ)) (qs : List ℕ) (i : ℕ) → words_of (slice_get (map (roomy_port s rows) qs) i) ≡ words_of (slice_get (map (run_port s rows) qs) i)
  roomy_words rows [] i = refl
  roomy_words rows (q ∷ qs) zero = refl
  roomy_words rows (q ∷ qs) (suc i) = roomy_words rows qs i

  pub roomy_same : (ns rows : List (List ℕ)) → length ns ≡ length rows → (qs : List ℕ) (i : ℕ) → capacity_of (slice_get (map (roomy_port s ns) qs) i) ≡ capacity_of (slice_get (map (roomy_port s rows) qs) i)
  roomy_same ns rows e [] i = refl
  roomy_same ns rows e (q ∷ qs) zero = ap (λ n. n + 1) (room_same ns rows e q)
  roomy_same ns rows e (q ∷ qs) (suc i) = roomy_same ns rows e qs i

  pub roomy_more : (rows : List (List ℕ)) (k n i : ℕ) → i < n → capacity_of (slice_get (map (run_port s rows) (range_with_len k n)) i) < capacity_of (slice_get (map (roomy_port s rows) (range_with_len k n)) i)
  roomy_more rows k zero i h = absurd (omega (arith, h))
  roomy_more rows k (suc n) zero h = omega arith
  roomy_more rows k (suc n) (suc i) h = roomy_more rows (k + 1) n i (omega (arith, h))
