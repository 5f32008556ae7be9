-- What taking and appending leave on one wire.
use Rattle.std.proofs.Common.{◌≡◌, ℕ, zero, suc, ◌<◌, ◌≤◌, Bool, true, false, cond, ltb, List, [], ◌∷◌, ◌++◌, length, get_or, set, take, drop, Some, refl, sym, ap, ◌∙◌, subst, ⊎_elim, arith}
use Rattle.std.specs.Prelude.{slice_get}
use Rattle.std.specs.List.{list_all, All}
use Rattle.std.proofs.lemmas.List.{append-nil, append_assoc, length-set, get_or-set_same, get_or-set_other, get_or_past, drop-drop}
use Rattle.std.proofs.lemmas.List.Elements.{All-head, All-tail}
use Rattle.std.proofs.lemmas.Bool.{cases_eq, cases_lt, eq-eqb, ne_eqb, lt-ltb, le-ltb, and_parts}
use Rattle.std.proofs.Math.Numerals.{one-add}
use Rattle.raw_network.specs.Network.{Sent, values_on, count_of, fronts, taken, appended}
use Rattle.raw_network.specs.Runs.{sent_on}

-- a list has nothing at a place past its end, and setting there changes nothing
pub slice_get-set_other : {X : Type 0} (xs : List X) (i j : ℕ) (x : X) → (j ≡ i → ⊥)
    → slice_get (set xs i x) j ≡ slice_get xs j
slice_get-set_other [] i j x ne = refl
slice_get-set_other (y ∷ ys) zero zero x ne = absurd (ne refl)
slice_get-set_other (y ∷ ys) zero (suc j) x ne = refl
slice_get-set_other (y ∷ ys) (suc i) zero x ne = refl
slice_get-set_other (y ∷ ys) (suc i) (suc j) x ne = slice_get-set_other ys i j x (λ e. ne (ap suc e))

-- and what is set at a place stands there
pub slice_get-set_same : {X : Type 0} (xs : List X) (i : ℕ) (x y : X) → slice_get xs i ≡ Some y
    → slice_get (set xs i x) i ≡ Some x
slice_get-set_same [] i x y e = cc
slice_get-set_same (z ∷ zs) zero x y e = refl
slice_get-set_same (z ∷ zs) (suc i) x y e = slice_get-set_same zs i x y e

-- the wires after the front of one is taken
abbrev pub front_taken : List (List ℕ) → ℕ → List (List ℕ)
front_taken wires w = set wires w (drop 1 (values_on wires w))

-- the wires after one value is appended
abbrev pub one_sent : Sent → List (List ℕ) → List (List ℕ)
one_sent m wires = set wires m.wire (values_on wires m.wire ++ m.value ∷ [])

-- counts
pub count_here : (w : ℕ) (ws : List ℕ) → count_of w (w ∷ ws) ≡ suc (count_of w ws)
count_here w ws = rw (eq-eqb w w refl)

-- another entry does not count
pub count_there : (w v : ℕ) (ws : List ℕ) → (v ≡ w → ⊥) → count_of w (v ∷ ws) ≡ count_of w ws
count_there w v ws ne = rw (ne_eqb v w ne)

-- a test that holds of each element of a list holds of one that is counted there
pub all_at_count : (f : ℕ → Bool) (ws : List ℕ) (w : ℕ) → list_all f ws ≡ true → 0 < count_of w ws → f w ≡ true
all_at_count f [] w h c = absurd (omega arith)
all_at_count f (v ∷ vs) w h c =
    ⊎_elim
    (λ e. subst (λ x. f x ≡ true) e (and_parts (f v) (list_all f vs) h).0)
    (λ ne. all_at_count f vs w (and_parts (f v) (list_all f vs) h).1 (subst (λ n. 0 < n) (count_there w v vs ne) c))
    (cases_eq v w)

-- a wire of which no operand is
pub count_none : (own : ℕ → ℕ) (p w : ℕ) (ws : List ℕ) → All (λ v. own v ≡ p) ws → (own w ≡ p → ⊥) → count_of w ws ≡ 0
count_none own p w [] a ne = refl
count_none own p w (v ∷ vs) a ne =
    count_there w v vs (λ e. ne (subst (λ x. own x ≡ p) e (All-head (λ v. own v ≡ p) v vs a)))
    ∙ count_none own p w vs (All-tail (λ v. own v ≡ p) v vs a) ne

-- what one front taken leaves
pub wire_front_same : (wires : List (List ℕ)) (w : ℕ)
    → values_on (front_taken wires w) w ≡ drop 1 (values_on wires w)
wire_front_same [] w = refl
wire_front_same (x ∷ xs) zero = refl
wire_front_same (x ∷ xs) (suc w) = wire_front_same xs w

-- setting one wire leaves the others
pub wire_front_other : (wires : List (List ℕ)) (w v : ℕ) (x : List ℕ) → (w ≡ v → ⊥)
    → values_on (set wires w x) v ≡ values_on wires v
wire_front_other wires w v x ne = get_or-set_other wires w v x [] (λ e. ne (sym e))

-- two lists that begin alike
front_same : (n : ℕ) (xs ys : List ℕ) → take (suc n) xs ≡ take (suc n) ys → get_or xs 0 0 ≡ get_or ys 0 0
front_same n [] [] e = refl
front_same n [] (y ∷ ys) e = cc
front_same n (x ∷ xs) [] e = cc
front_same n (x ∷ xs) (y ∷ ys) e = cc

rest_same : (n : ℕ) (xs ys : List ℕ) → take (suc n) xs ≡ take (suc n) ys → take n (drop 1 xs) ≡ take n (drop 1 ys)
rest_same n [] [] e = refl
rest_same n [] (y ∷ ys) e = cc
rest_same n (x ∷ xs) [] e = cc
rest_same n (x ∷ xs) (y ∷ ys) e = cc

-- what fronts taken leave on a wire
wire_front : (ws : List ℕ) (wires : List (List ℕ)) (w v : ℕ)
    → drop (count_of v ws) (values_on (front_taken wires w) v) ≡ drop (count_of v (w ∷ ws)) (values_on wires v)
wire_front ws wires w v = ⊎_elim here there (cases_eq w v)
  where
    here : w ≡ v
        → drop (count_of v ws) (values_on (front_taken wires w) v) ≡ drop (count_of v (w ∷ ws)) (values_on wires v)
    here e =
        subst
        (λ u. drop (count_of u ws) (values_on (front_taken wires w) u) ≡ drop (count_of u (w ∷ ws)) (values_on wires u))
        e
        (rw (count_here w ws, wire_front_same wires w) (drop-drop (count_of w ws) 1 (values_on wires w) ∙ ap (λ n. drop n (values_on wires w)) (one-add (count_of w ws))))

    there : (w ≡ v → ⊥)
        → drop (count_of v ws) (values_on (front_taken wires w) v) ≡ drop (count_of v (w ∷ ws)) (values_on wires v)
    there ne = rw (count_there v w ws ne, wire_front_other wires w v (drop 1 (values_on wires w)) ne)

-- the wires taken from lose as many values as are taken
pub wire_taken : (ws : List ℕ) (wires : List (List ℕ)) (v : ℕ)
    → values_on (taken ws wires) v ≡ drop (count_of v ws) (values_on wires v)
wire_taken [] wires v = refl
wire_taken (w ∷ ws) wires v = wire_taken ws (front_taken wires w) v ∙ wire_front ws wires w v

-- no wire comes or goes
pub length-taken : (ws : List ℕ) (wires : List (List ℕ)) → length (taken ws wires) ≡ length wires
length-taken [] wires = refl
length-taken (w ∷ ws) wires = length-taken ws (front_taken wires w) ∙ length-set wires w (drop 1 (values_on wires w))

-- no wire comes or goes by what is sent
pub length-appended : (ms : List Sent) (wires : List (List ℕ)) → length (appended ms wires) ≡ length wires
length-appended [] wires = refl
length-appended (m ∷ ms) wires =
    length-appended ms (one_sent m wires)
    ∙ length-set wires m.wire (values_on wires m.wire ++ m.value ∷ [])

-- what comes to a wire, which is nothing where there is no such wire
abbrev pub arrivals : ℕ → ℕ → List Sent → List ℕ
arrivals n w ms = cond (ltb w n) (sent_on w ms) []

-- a value for the wire comes first
pub sent_here : (w : ℕ) (m : Sent) (ms : List Sent) → m.wire ≡ w → sent_on w (m ∷ ms) ≡ m.value ∷ sent_on w ms
sent_here w m ms e = rw (eq-eqb m.wire w e)

-- a value for another wire does not count
pub sent_there : (w : ℕ) (m : Sent) (ms : List Sent) → (m.wire ≡ w → ⊥) → sent_on w (m ∷ ms) ≡ sent_on w ms
sent_there w m ms ne = rw (ne_eqb m.wire w ne)

sent_one : (m : Sent) (ms : List Sent) (wires : List (List ℕ)) (v : ℕ) → v < length wires
    → values_on (one_sent m wires) v ++ sent_on v ms ≡ values_on wires v ++ sent_on v (m ∷ ms)
sent_one m ms wires v h = ⊎_elim here there (cases_eq m.wire v)
  where
    here : m.wire ≡ v
        → values_on (one_sent m wires) v ++ sent_on v ms ≡ values_on wires v ++ sent_on v (m ∷ ms)
    here e =
        ap (λ xs. xs ++ sent_on v ms)
        (ap (λ u. values_on (set wires u (values_on wires u ++ m.value ∷ [])) v) e ∙ get_or-set_same wires v (values_on wires v ++ m.value ∷ []) [] h)
        ∙ append_assoc (values_on wires v) (m.value ∷ []) (sent_on v ms)
        ∙ ap (λ xs. values_on wires v ++ xs) (sym (sent_here v m ms e))

    there : (m.wire ≡ v → ⊥)
        → values_on (one_sent m wires) v ++ sent_on v ms ≡ values_on wires v ++ sent_on v (m ∷ ms)
    there ne = rw (wire_front_other wires m.wire v (values_on wires m.wire ++ m.value ∷ []) ne, sent_there v m ms ne)

wire_appended_within : (ms : List Sent) (wires : List (List ℕ)) (v : ℕ) → v < length wires
    → values_on (appended ms wires) v ≡ values_on wires v ++ sent_on v ms
wire_appended_within [] wires v h = sym (append-nil (values_on wires v))
wire_appended_within (m ∷ ms) wires v h =
    wire_appended_within ms (one_sent m wires) v (rw (length-set wires m.wire (values_on wires m.wire ++ m.value ∷ [])) h)
    ∙ sent_one m ms wires v h

-- what is sent to a wire that is there arrives
pub arrivals_within : (n w : ℕ) (ms : List Sent) → w < n → arrivals n w ms ≡ sent_on w ms
arrivals_within n w ms h = rw (lt-ltb w n h)

arrivals_past : (n w : ℕ) (ms : List Sent) → n ≤ w → arrivals n w ms ≡ []
arrivals_past n w ms h = rw (le-ltb w n h)

-- what appending leaves on a wire
pub wire_appended : (ms : List Sent) (wires : List (List ℕ)) (v : ℕ)
    → values_on (appended ms wires) v ≡ values_on wires v ++ arrivals (length wires) v ms
wire_appended ms wires v = ⊎_elim within past (cases_lt v (length wires))
  where
    within : v < length wires → values_on (appended ms wires) v ≡ values_on wires v ++ arrivals (length wires) v ms
    within h =
        wire_appended_within ms wires v h
        ∙ ap (λ xs. values_on wires v ++ xs) (sym (arrivals_within (length wires) v ms h))

    past : length wires ≤ v → values_on (appended ms wires) v ≡ values_on wires v ++ arrivals (length wires) v ms
    past h =
        get_or_past (appended ms wires) v [] (rw (length-appended ms wires) h)
        ∙ sym (append-nil [])
        ∙ ap (λ xs. xs ++ []) (sym (get_or_past wires v [] h))
        ∙ ap (λ xs. values_on wires v ++ xs) (sym (arrivals_past (length wires) v ms h))

-- nothing comes to a wire of another producer
pub sent_none : (own : ℕ → ℕ) (p w : ℕ) (ms : List Sent) → All (λ (m : Sent). own m.wire ≡ p) ms → (own w ≡ p → ⊥)
    → sent_on w ms ≡ []
sent_none own p w [] a ne = refl
sent_none own p w (m ∷ ms) a ne =
    sent_there w m ms (λ e. ne (subst (λ x. own x ≡ p) e (All-head (λ (m : Sent). own m.wire ≡ p) m ms a)))
    ∙ sent_none own p w ms (All-tail (λ (m : Sent). own m.wire ≡ p) m ms a) ne

either_nil : (b : Bool) (xs : List ℕ) → xs ≡ [] → cond b xs [] ≡ []
either_nil true xs e = e
either_nil false xs e = refl

-- nothing arrives on a wire of another producer
pub arrivals_none : (own : ℕ → ℕ) (p n w : ℕ) (ms : List Sent) → All (λ (m : Sent). own m.wire ≡ p) ms
    → (own w ≡ p → ⊥) → arrivals n w ms ≡ []
arrivals_none own p n w ms a ne = either_nil (ltb w n) (sent_on w ms) (sent_none own p w ms a ne)

-- the fronts are those of the first values of each wire, as many as are taken
pub fronts_same : (ws : List ℕ) (wires others : List (List ℕ))
    → ((w : ℕ) → take (count_of w ws) (values_on wires w) ≡ take (count_of w ws) (values_on others w))
    → fronts ws wires ≡ fronts ws others
fronts_same [] wires others h = refl
fronts_same (w ∷ ws) wires others h =
    ap (λ x. x ∷ fronts ws (front_taken wires w)) first
    ∙ ap (λ xs. get_or (values_on others w) 0 0 ∷ xs) (fronts_same ws (front_taken wires w) (front_taken others w) rest)
  where
    at_w : take (suc (count_of w ws)) (values_on wires w) ≡ take (suc (count_of w ws)) (values_on others w)
    at_w = rw (count_here w ws) at (h w)

    first : get_or (values_on wires w) 0 0 ≡ get_or (values_on others w) 0 0
    first = front_same (count_of w ws) (values_on wires w) (values_on others w) at_w

    rest : (v : ℕ)
        → take (count_of v ws) (values_on (front_taken wires w) v) ≡ take (count_of v ws) (values_on (front_taken others w) v)
    rest v = ⊎_elim here there (cases_eq w v)
      where
        here : w ≡ v
            → take (count_of v ws) (values_on (front_taken wires w) v) ≡ take (count_of v ws) (values_on (front_taken others w) v)
        here e =
            subst
            (λ u. take (count_of u ws) (values_on (front_taken wires w) u) ≡ take (count_of u ws) (values_on (front_taken others w) u))
            e
            (rw (wire_front_same wires w, wire_front_same others w) (rest_same (count_of w ws) (values_on wires w) (values_on others w) at_w))

        there : (w ≡ v → ⊥)
            → take (count_of v ws) (values_on (front_taken wires w) v) ≡ take (count_of v ws) (values_on (front_taken others w) v)
        there ne =
            rw
            (wire_front_other wires w v (drop 1 (values_on wires w)) ne, wire_front_other others w v (drop 1 (values_on others w)) ne)
            (rw (count_there v w ws ne) at (h v))

-- what one row leaves on a wire
pub wire_moved : (ws : List ℕ) (ms : List Sent) (wires : List (List ℕ)) (v : ℕ)
    → values_on (appended ms (taken ws wires)) v ≡ drop (count_of v ws) (values_on wires v) ++ arrivals (length wires) v ms
wire_moved ws ms wires v =
    wire_appended ms (taken ws wires) v
    ∙ ap (λ xs. xs ++ arrivals (length (taken ws wires)) v ms) (wire_taken ws wires v)
    ∙ ap (λ n. drop (count_of v ws) (values_on wires v) ++ arrivals n v ms) (length-taken ws wires)

-- a row makes and removes no wire
pub length-moved : (ws : List ℕ) (ms : List Sent) (wires : List (List ℕ))
    → length (appended ms (taken ws wires)) ≡ length wires
length-moved ws ms wires = length-appended ms (taken ws wires) ∙ length-taken ws wires
