-- Networks whose steps are the same but for their values have the same cycles.
use Rattle.std.proofs.Common.{◌≡◌, ℕ, zero, suc, ◌+◌, ◌-◌, ◌≤◌, Bool, true, false, cond, not, ◌&&◌, ◌||◌, ltb, leb, List, [], ◌∷◌, ◌++◌, length, map, take, drop, Option, Some, None, refl, sym, ap, ap₂, ◌∙◌, subst, ⊎_elim, arith}
use Rattle.std.specs.Prelude.{slice_get, option_map}
use Rattle.std.specs.List.{list_all, filter, filter_map, find, range_with_len, cons_option}
use Rattle.std.proofs.lemmas.List.{append-nil, append_assoc, length-append, length-drop, length-map}
use Rattle.std.proofs.lemmas.Bool.{cases_eq}
use Rattle.raw_network.specs.Network.{Network, State, Sent, Event, values_on, count_of, fronts, taken, appended, has_values, has_room, is_ready, is_enabled, step, event_of, event_from}
use Rattle.raw_network.specs.Runs.{IsLawful, end_of, events_of, kth, sent_on, touches}
use Rattle.raw_network.specs.Waits.{lacks_values, lacks_room, either_first, first_unmet, wait_of, first_wait}
use Rattle.raw_network.specs.Wired.{IsWired}
use Rattle.raw_network.proofs.Wires.{count_here, count_there, arrivals, wire_moved, length-moved, sent_here, sent_there}
use Rattle.raw_network.proofs.Diamond.{ready}
use Rattle.raw_network.proofs.Erased.{events_here}
use Rattle.raw_network.proofs.Kth.{kth_at}
use Rattle.raw_network.proofs.Networks.{law_same_steps}
use Rattle.raw_network.proofs.SameRest.{events_front, no_more_steps}
use Rattle.raw_network.proofs.Steps.{end_of-push, lawful-push, events_of-append}
use Rattle.raw_lockstep.specs.Lockstep.{all_enabled, cycles, after_cycles}
use Rattle.raw_lockstep.specs.Stalls.{Paying, owes, with_stalls, unpaid, without_stalls, owes_from, touched_in, paid_in, owes_at, touched_by, paid_by, steps_in}
use Rattle.raw_lockstep.proofs.Cycling.{filtered_alike, law_cycle_is_round, round_lawful}
use Rattle.raw_lockstep.proofs.Stalling.{length_end, without_unpaid, untouched, unpaid_none, local_there, law_stays_wired, law_may_turn, enabled_step, law_steps_of_turns, steps_in-append, front_with}
use Rattle.raw_pace.specs.Control.{Motion, motion_of, Asks, asks, asks_at, MovesAlike, SameCycles, SameTurns, SameWaits, AreAtOnce, SameStops}
use Rattle.raw_pace.proofs.Path.{kth_end}

some_is : {A : Type 0} (x y : A) → Some x ≡ Some y → x ≡ y
some_is x y e = cc

none_some : {A : Type 0} (x : A) → None ≡ Some x → ⊥
none_some x e = cc

map-take : {A B : Type 0} (f : A → B) (n : ℕ) (xs : List A) → map f (take n xs) ≡ take n (map f xs)
map-take f zero xs = refl
map-take f (suc n) [] = refl
map-take f (suc n) (x ∷ xs) = ap (λ ys. f x ∷ ys) (map-take f n xs)

map-push : {A B : Type 0} (f : A → B) (xs : List A) (y : A) → map f (xs ++ y ∷ []) ≡ map f xs ++ f y ∷ []
map-push f [] y = refl
map-push f (x ∷ xs) y = ap (λ ys. f x ∷ ys) (map-push f xs y)

last_of : {A : Type 0} (xs : List A) (y : A) → slice_get (xs ++ y ∷ []) (length xs) ≡ Some y
last_of [] y = refl
last_of (x ∷ xs) y = last_of xs y

same_last : {A : Type 0} (xs ys : List A) (x y : A) → xs ≡ ys → xs ++ x ∷ [] ≡ ys ++ y ∷ [] → x ≡ y
same_last xs ys x y e f =
    some_is x y (sym (last_of xs x) ∙ ap (λ zs. slice_get zs (length xs)) f ∙ ap (λ zs. slice_get (ys ++ y ∷ []) (length zs)) e ∙ last_of ys y)

-- how many values a step sends on a wire
length_sent : (w : ℕ) (ms : List Sent) → length (sent_on w ms) ≡ count_of w (map (λ (m : Sent). m.wire) ms)
length_sent w [] = refl
length_sent w (m ∷ ms) =
    ⊎_elim
    (λ (e : m.wire ≡ w).
    ap length (sent_here w m ms e) ∙ ap suc (length_sent w ms)
    ∙ sym (subst (λ v. count_of w (v ∷ map (λ (m : Sent). m.wire) ms) ≡ suc (count_of w (map (λ (m : Sent). m.wire) ms))) (sym e) (count_here w (map (λ (m : Sent). m.wire) ms))))
    (λ (ne : m.wire ≡ w → ⊥). ap length (sent_there w m ms ne) ∙ length_sent w ms ∙ sym (count_there w m.wire (map (λ (m : Sent). m.wire) ms) ne))
    (cases_eq m.wire w)

-- how many values are on wire w, of n wires, after a step where there were k
abbrev after_motion : Motion → ℕ → ℕ → ℕ → ℕ
after_motion m n w k = (k - count_of w m.from) + cond (ltb w n) (count_of w m.to) 0

length_arrivals : (n w : ℕ) (ms : List Sent) → length (arrivals n w ms) ≡ cond (ltb w n) (count_of w (map (λ (m : Sent). m.wire) ms)) 0
length_arrivals n w ms = by_test (ltb w n)
  where
    by_test : (b : Bool) → length (cond b (sent_on w ms) []) ≡ cond b (count_of w (map (λ (m : Sent). m.wire) ms)) 0
    by_test true = length_sent w ms
    by_test false = refl

on_after : {L : Type 0} (net : Network L) (s : State L) (p w : ℕ) → is_enabled net s p ≡ true
    → length (values_on (step net s p).wires w) ≡ after_motion (motion_of (event_of net s p)) (length s.wires) w (length (values_on s.wires w))
on_after {L = L} net s p w may =
    let (l, r) = ready net s p may in
    let row = net.row p l (fronts (net.takes p l) s.wires) in
    let event : event_of net s p ≡ event_from net s.wires p (Some l) = ap (λ o. event_from net s.wires p o) r.here in
    let wires : (step net s p).wires ≡ appended row.sent (taken (net.takes p l) s.wires) = rw r.here in
    ap (λ ws. length (values_on ws w)) wires
    ∙ ap length (wire_moved (net.takes p l) row.sent s.wires w)
    ∙ length-append (drop (count_of w (net.takes p l)) (values_on s.wires w)) (arrivals (length s.wires) w row.sent)
    ∙ ap₂ (λ m n. m + n) (length-drop (count_of w (net.takes p l)) (values_on s.wires w)) (length_arrivals (length s.wires) w row.sent)
    ∙ sym (ap (λ e. after_motion (motion_of e) (length s.wires) w (length (values_on s.wires w))) event)

-- steps make and remove no wire
width_end : {L : Type 0} (net : Network L) (s : State L) (g : List ℕ) → IsLawful net s g → length (end_of net s g).wires ≡ length s.wires
width_end net s [] of_g = refl
width_end net s (p ∷ g) of_g =
    width_end net (step net s p) g of_g.1
    ∙ (let (l, r) = ready net s p of_g.0 in
    ap length (let wires : (step net s p).wires ≡ appended (net.row p l (fronts (net.takes p l) s.wires)).sent (taken (net.takes p l) s.wires) = rw r.here in wires)
    ∙ length-moved (net.takes p l) (net.row p l (fronts (net.takes p l) s.wires)).sent s.wires)

all_same : (f g : ℕ → Bool) (us : List ℕ) → ((w : ℕ) → f w ≡ g w) → list_all f us ≡ list_all g us
all_same f g [] h = refl
all_same f g (u ∷ us) h = ap (λ b. b && list_all f us) (h u) ∙ ap (λ b. g u && b) (all_same f g us h)

find_same : (f g : ℕ → Bool) (us : List ℕ) → ((w : ℕ) → f w ≡ g w) → find f us ≡ find g us
find_same f g [] h = refl
find_same f g (u ∷ us) h = ap (λ b. cond b (Some u) (find f us)) (h u) ∙ ap (λ o. cond (g u) (Some u) o) (find_same f g us h)

-- the addresses of steps
touched_motions : {L : Type 0} (es : List (Event L)) → filter_map (λ (e : Event L). e.touched) es ≡ filter_map (λ (m : Motion). m.touched) (map (λ (e : Event L). motion_of e) es)
touched_motions [] = refl
touched_motions (e ∷ es) = ap (λ xs. cons_option e.touched xs) (touched_motions es)

module _ {L M : Type 0} (a : Network L) (b : Network M) (producer consumer : ℕ → ℕ) (wa : IsWired a producer consumer) (wb : IsWired b producer consumer) (depth : a.depth ≡ b.depth) where
  -- local states that ask the same are ready alike, where wires hold as many values
  ready_alike : (p : ℕ) (o : Option L) (q : Option M) (ws vs : List (List ℕ)) → asks_at a p o ≡ asks_at b p q
      → ((w : ℕ) → length (values_on ws w) ≡ length (values_on vs w)) → is_ready a p o ws ≡ is_ready b p q vs
  ready_alike p None None ws vs e same = refl
  ready_alike p None (Some m) ws vs e same = absurd (none_some (asks b p m) e)
  ready_alike p (Some l) None ws vs e same = absurd (none_some (asks a p l) (sym e))
  ready_alike p (Some l) (Some m) ws vs e same =
      let is : asks a p l ≡ asks b p m = some_is (asks a p l) (asks b p m) e in
      let takes : a.takes p l ≡ b.takes p m = ap (λ (x : Asks). x.takes) is in
      let sends : a.sends p l ≡ b.sends p m = ap (λ (x : Asks). x.sends) is in
      ap (λ c. not c && (has_values (a.takes p l) ws && has_room a.depth (a.sends p l) ws)) (ap (λ (x : Asks). x.stopped) is)
      ∙ ap (λ c. not (b.is_stopped p m) && (c && has_room a.depth (a.sends p l) ws))
      (all_same (λ w. leb (count_of w (a.takes p l)) (length (values_on ws w))) (λ w. leb (count_of w (a.takes p l)) (length (values_on vs w))) (a.takes p l)
      (λ w. ap (λ n. leb (count_of w (a.takes p l)) n) (same w))
      ∙ ap (λ us. has_values us vs) takes)
      ∙ ap (λ c. not (b.is_stopped p m) && (has_values (b.takes p m) vs && c))
      (all_same (λ w. ltb (length (values_on ws w)) a.depth) (λ w. ltb (length (values_on vs w)) a.depth) (a.sends p l) (λ w. ap (λ n. ltb n a.depth) (same w))
      ∙ ap (λ us. has_room a.depth us vs) sends ∙ ap (λ d. has_room d (b.sends p m) vs) depth)

  -- and wait alike
  waits_alike : (inputs outputs : ℕ → List ℕ) (p : ℕ) (o : Option L) (q : Option M) (ws vs : List (List ℕ)) → asks_at a p o ≡ asks_at b p q
      → ((w : ℕ) → length (values_on ws w) ≡ length (values_on vs w)) → wait_of a inputs outputs ws p o ≡ wait_of b inputs outputs vs p q
  waits_alike inputs outputs p None None ws vs e same = refl
  waits_alike inputs outputs p None (Some m) ws vs e same = absurd (none_some (asks b p m) e)
  waits_alike inputs outputs p (Some l) None ws vs e same = absurd (none_some (asks a p l) (sym e))
  waits_alike inputs outputs p (Some l) (Some m) ws vs e same =
      let is : asks a p l ≡ asks b p m = some_is (asks a p l) (asks b p m) e in
      let takes : a.takes p l ≡ b.takes p m = ap (λ (x : Asks). x.takes) is in
      let sends : a.sends p l ≡ b.sends p m = ap (λ (x : Asks). x.sends) is in
      ap (λ c. cond c None (first_unmet a.depth (inputs p) (outputs p) (a.takes p l) (a.sends p l) ws)) (ap (λ (x : Asks). x.stopped) is)
      ∙ ap (λ o. cond (b.is_stopped p m) None o)
      (ap₂ (λ us xs. first_unmet a.depth (inputs p) (outputs p) us xs ws) takes sends
      ∙ ap (λ d. first_unmet d (inputs p) (outputs p) (b.takes p m) (b.sends p m) ws) depth
      ∙ ap₂ (λ o q. either_first o q)
      (find_same (lacks_values (b.takes p m) ws) (lacks_values (b.takes p m) vs) (inputs p) (λ w. ap (λ n. ltb n (count_of w (b.takes p m))) (same w)))
      (find_same (lacks_room b.depth (b.sends p m) ws) (lacks_room b.depth (b.sends p m) vs) (outputs p)
      (λ w. ap (λ n. ltb 0 (count_of w (b.sends p m)) && leb b.depth n) (same w))))

module _ {L M : Type 0} (a : Network L) (b : Network M) (producer consumer : ℕ → ℕ) (wa : IsWired a producer consumer) (wb : IsWired b producer consumer)
    (s : State L) (t : State M) (h : List ℕ) (is : MovesAlike a b s t h) where
  -- a list that is lawful in both, after which wires hold as many values
  pub record Follows (g : List ℕ) : Type 0 where
    pub lawful : IsLawful a s g
    pub lawful_there : IsLawful b t g
    pub wires : (w : ℕ) → length (values_on (end_of a s g).wires w) ≡ length (values_on (end_of b t g).wires w)

  few : (g : List ℕ) → IsLawful a s g → (p : ℕ) → count_of p g ≤ count_of p h
  few g of_g p = no_more_steps a producer consumer wa s g h of_g is.lawful is.quiet p

  -- the steps of a processor are the same but for their values
  motions_alike : (g : List ℕ) → IsLawful a s g → IsLawful b t g → (p : ℕ)
      → map (λ (e : Event L). motion_of e) (events_of a s g p) ≡ map (λ (e : Event M). motion_of e) (events_of b t g p)
  motions_alike g of_g there p =
      let n = count_of p g in
      let le = few g of_g p in
      ap (map (λ (e : Event L). motion_of e)) (events_front a producer consumer wa s g h of_g is.lawful p le)
      ∙ map-take (λ (e : Event L). motion_of e) n (events_of a s h p)
      ∙ ap (take n) (is.moves p)
      ∙ sym (map-take (λ (e : Event M). motion_of e) n (events_of b t h p))
      ∙ sym (ap (map (λ (e : Event M). motion_of e)) (events_front b producer consumer wb t g h there is.lawful_there p le))

  touches_alike : (g : List ℕ) → IsLawful a s g → IsLawful b t g → (p : ℕ) → touches a s g p ≡ touches b t g p
  touches_alike g of_g there p =
      touched_motions (events_of a s g p) ∙ ap (filter_map (λ (m : Motion). m.touched)) (motions_alike g of_g there p)
      ∙ sym (touched_motions (events_of b t g p))

  -- after so many steps of a processor
  asks_kth : (p k : ℕ) → k ≤ count_of p h → asks_at a p (kth a s h p k) ≡ asks_at b p (kth b t h p k)
  asks_kth p k le =
      let (front, rest, whole, many) = front_with p h k le in
      let of_a : IsLawful a s (front ++ rest) = subst (λ xs. IsLawful a s xs) (sym whole) is.lawful in
      let of_b : IsLawful b t (front ++ rest) = subst (λ xs. IsLawful b t xs) (sym whole) is.lawful_there in
      ap (λ o. asks_at a p o) (ap₂ (λ xs n. kth a s xs p n) (sym whole) (sym many) ∙ kth_at a s front rest p of_a)
      ∙ is.asks front rest p whole
      ∙ sym (ap (λ o. asks_at b p o) (ap₂ (λ xs n. kth b t xs p n) (sym whole) (sym many) ∙ kth_at b t front rest p of_b))

  asks_alike : (g : List ℕ) → IsLawful a s g → IsLawful b t g → (p : ℕ)
      → asks_at a p (slice_get (end_of a s g).locals p) ≡ asks_at b p (slice_get (end_of b t g).locals p)
  asks_alike g of_g there p =
      let le = few g of_g p in
      ap (λ o. asks_at a p o) (sym (kth_end a producer consumer wa s g p of_g)
      ∙ (law_same_steps a producer consumer wa s h g is.lawful of_g p).locals (count_of p g) le (omega arith))
      ∙ asks_kth p (count_of p g) le
      ∙ ap (λ o. asks_at b p o) (sym ((law_same_steps b producer consumer wb t h g is.lawful_there there p).locals (count_of p g) le (omega arith))
      ∙ kth_end b producer consumer wb t g p there)

  enabled_alike : (g : List ℕ) → Follows g → (p : ℕ) → is_enabled a (end_of a s g) p ≡ is_enabled b (end_of b t g) p
  enabled_alike g f p =
      ready_alike a b producer consumer wa wb is.depth p (slice_get (end_of a s g).locals p) (slice_get (end_of b t g).locals p)
      (end_of a s g).wires (end_of b t g).wires (asks_alike g f.lawful f.lawful_there p) f.wires

  one_event : {K : Type 0} (net : Network K) (u : State K) (g : List ℕ) (p : ℕ)
      → map (λ (e : Event K). motion_of e) (events_of net u (g ++ p ∷ []) p) ≡ map (λ (e : Event K). motion_of e) (events_of net u g p) ++ motion_of (event_of net (end_of net u g) p) ∷ []
  one_event {K = K} net u g p =
      ap (map (λ (e : Event K). motion_of e)) (events_of-append net u g (p ∷ []) p ∙ ap (λ es. events_of net u g p ++ es) (events_here net (end_of net u g) p []))
      ∙ map-push (λ (e : Event K). motion_of e) (events_of net u g p) (event_of net (end_of net u g) p)

  push : (g : List ℕ) → Follows g → (p : ℕ) → is_enabled a (end_of a s g) p ≡ true → Follows (g ++ p ∷ [])
  push g f p may =
      let may_there : is_enabled b (end_of b t g) p ≡ true = sym (enabled_alike g f p) ∙ may in
      let of_more = lawful-push a s g p f.lawful may in
      let there_more = lawful-push b t g p f.lawful_there may_there in
      let motion : motion_of (event_of a (end_of a s g) p) ≡ motion_of (event_of b (end_of b t g) p) =
      same_last (map (λ (e : Event L). motion_of e) (events_of a s g p)) (map (λ (e : Event M). motion_of e) (events_of b t g p))
      (motion_of (event_of a (end_of a s g) p)) (motion_of (event_of b (end_of b t g) p)) (motions_alike g f.lawful f.lawful_there p)
      (sym (one_event a s g p) ∙ motions_alike (g ++ p ∷ []) of_more there_more p ∙ one_event b t g p) in
      let width : length (end_of a s g).wires ≡ length (end_of b t g).wires =
      width_end a s g f.lawful ∙ is.width ∙ sym (width_end b t g f.lawful_there) in
      record {
        lawful = of_more;
        lawful_there = there_more;
        wires =
            λ w.
            ap (λ (u : State L). length (values_on u.wires w)) (end_of-push a s g p)
            ∙ on_after a (end_of a s g) p w may
            ∙ ap (λ m. after_motion m (length (end_of a s g).wires) w (length (values_on (end_of a s g).wires w))) motion
            ∙ ap₂ (λ n k. after_motion (motion_of (event_of b (end_of b t g) p)) n w k) width (f.wires w)
            ∙ sym (on_after b (end_of b t g) p w may_there)
            ∙ sym (ap (λ (u : State M). length (values_on u.wires w)) (end_of-push b t g p));
      }

  -- turns
  module _ (cost : ℕ → List ℕ → ℕ) where
    abbrev A : Network (Paying L)
    A = with_stalls a cost

    abbrev B : Network (Paying M)
    B = with_stalls b cost

    A_wired : IsWired A producer consumer
    A_wired = law_stays_wired a cost producer consumer wa

    -- turns that are lawful in both, with the same steps
    pub record Paces (turns : List ℕ) : Type 0 where
      pub lawful : IsLawful A (unpaid s) turns
      pub lawful_there : IsLawful B (unpaid t) turns
      pub steps : steps_in a cost (unpaid s) turns ≡ steps_in b cost (unpaid t) turns
      pub follows : Follows (steps_in a cost (unpaid s) turns)

    -- of turns of one network
    ends_at : {K : Type 0} (net : Network K) (u : State K) (turns : List ℕ) → IsLawful (with_stalls net cost) (unpaid u) turns
        → without_stalls (end_of (with_stalls net cost) (unpaid u) turns) ≡ end_of net u (steps_in net cost (unpaid u) turns)
    ends_at net u turns of_turns =
        sym (law_steps_of_turns net cost (unpaid u) turns of_turns).ends ∙ ap (λ v. end_of net v (steps_in net cost (unpaid u) turns)) (without_unpaid u)

    touched_at : {K : Type 0} (net : Network K) (u : State K) (turns : List ℕ) → IsLawful (with_stalls net cost) (unpaid u) turns → (p : ℕ)
        → touched_by (end_of (with_stalls net cost) (unpaid u) turns) p ≡ touches net u (steps_in net cost (unpaid u) turns) p
    touched_at net u turns of_turns p =
        (law_steps_of_turns net cost (unpaid u) turns of_turns).touched p
        ∙ ap (λ xs. xs ++ touches net (without_stalls (unpaid u)) (steps_in net cost (unpaid u) turns) p) (untouched u p)
        ∙ ap (λ v. touches net v (steps_in net cost (unpaid u) turns) p) (without_unpaid u)

    paid_at : {K : Type 0} (net : Network K) (u : State K) (turns : List ℕ) → IsLawful (with_stalls net cost) (unpaid u) turns → (p : ℕ)
        → count_of p turns ≡ count_of p (steps_in net cost (unpaid u) turns) + paid_by (end_of (with_stalls net cost) (unpaid u) turns) p
    paid_at net u turns of_turns p = omega (arith, (law_steps_of_turns net cost (unpaid u) turns of_turns).paid p, unpaid_none u p)

    module _ (turns : List ℕ) (f : Paces turns) (p : ℕ) where
      abbrev x : State (Paying L)
      x = end_of A (unpaid s) turns

      abbrev y : State (Paying M)
      y = end_of B (unpaid t) turns

      touched_alike : touched_by x p ≡ touched_by y p
      touched_alike =
          touched_at a s turns f.lawful p
          ∙ touches_alike (steps_in a cost (unpaid s) turns) f.follows.lawful f.follows.lawful_there p
          ∙ ap (λ xs. touches b t xs p) f.steps
          ∙ sym (touched_at b t turns f.lawful_there p)

      paid_alike : paid_by x p ≡ paid_by y p
      paid_alike = omega (arith, paid_at a s turns f.lawful p, paid_at b t turns f.lawful_there p, ap (count_of p) f.steps)

      there_alike : asks_at a p (option_map (λ (z : Paying L). z.local) (slice_get x.locals p)) ≡ asks_at b p (option_map (λ (z : Paying M). z.local) (slice_get y.locals p))
      there_alike =
          ap (λ o. asks_at a p o) (sym (local_there a cost x p (slice_get x.locals p) refl) ∙ ap (λ (u : State L). slice_get u.locals p) (ends_at a s turns f.lawful))
          ∙ asks_alike (steps_in a cost (unpaid s) turns) f.follows.lawful f.follows.lawful_there p
          ∙ ap (λ xs. asks_at b p (slice_get (end_of b t xs).locals p)) f.steps
          ∙ sym (ap (λ o. asks_at b p o) (sym (local_there b cost y p (slice_get y.locals p) refl) ∙ ap (λ (u : State M). slice_get u.locals p) (ends_at b t turns f.lawful_there)))

      step_alike : is_enabled a (without_stalls x) p ≡ is_enabled b (without_stalls y) p
      step_alike =
          ap (λ u. is_enabled a u p) (ends_at a s turns f.lawful)
          ∙ enabled_alike (steps_in a cost (unpaid s) turns) f.follows p
          ∙ ap (λ xs. is_enabled b (end_of b t xs) p) f.steps
          ∙ sym (ap (λ u. is_enabled b u p) (ends_at b t turns f.lawful_there))

      owes_by : (o : Option (Paying L)) (q : Option (Paying M))
          → asks_at a p (option_map (λ (z : Paying L). z.local) o) ≡ asks_at b p (option_map (λ (z : Paying M). z.local) q)
          → touched_in o ≡ touched_in q → paid_in o ≡ paid_in q → owes_from cost p o ≡ owes_from cost p q
      owes_by None None e touched paid = refl
      owes_by None (Some m) e touched paid = absurd (none_some (asks b p m.local) e)
      owes_by (Some l) None e touched paid = absurd (none_some (asks a p l.local) (sym e))
      owes_by (Some l) (Some m) e touched paid = ap₂ (λ n xs. ltb n (cost p xs)) paid touched

      owes_alike : owes_at cost x p ≡ owes_at cost y p
      owes_alike = owes_by (slice_get x.locals p) (slice_get y.locals p) there_alike touched_alike paid_alike

      turn_alike : is_enabled A x p ≡ is_enabled B y p
      turn_alike = from (slice_get x.locals p) (slice_get y.locals p) refl refl there_alike
        where
          from : (o : Option (Paying L)) (q : Option (Paying M)) → slice_get x.locals p ≡ o → slice_get y.locals p ≡ q
              → asks_at a p (option_map (λ (z : Paying L). z.local) o) ≡ asks_at b p (option_map (λ (z : Paying M). z.local) q)
              → is_enabled A x p ≡ is_enabled B y p
          from None None eo eq e = ap (λ o. is_ready A p o x.wires) eo ∙ sym (ap (λ o. is_ready B p o y.wires) eq)
          from None (Some m) eo eq e = absurd (none_some (asks b p m.local) e)
          from (Some l) None eo eq e = absurd (none_some (asks a p l.local) (sym e))
          from (Some l) (Some m) eo eq e =
              let same : a.is_stopped p l.local ≡ b.is_stopped p m.local = ap (λ (z : Asks). z.stopped) (some_is (asks a p l.local) (asks b p m.local) e) in
              let due : owes cost p l ≡ owes cost p m = sym (ap (λ o. owes_from cost p o) eo) ∙ owes_alike ∙ ap (λ o. owes_from cost p o) eq in
              law_may_turn a cost x p l eo
              ∙ ap₂ (λ c d. not c && (d || is_enabled a (without_stalls x) p)) same due
              ∙ ap (λ c. not (b.is_stopped p m.local) && (owes cost p m || c)) step_alike
              ∙ sym (law_may_turn b cost y p m eq)

      one_turn : {K : Type 0} (net : Network K) (u : State K)
          → steps_in net cost (unpaid u) (turns ++ p ∷ []) ≡ steps_in net cost (unpaid u) turns ++ cond (owes_at cost (end_of (with_stalls net cost) (unpaid u) turns) p) [] (p ∷ [])
      one_turn net u = steps_in-append net cost (unpaid u) turns (p ∷ [])

      follows_on : is_enabled A x p ≡ true → (c : Bool) → owes_at cost x p ≡ c → Follows (steps_in a cost (unpaid s) turns ++ cond c [] (p ∷ []))
      follows_on may true e = subst Follows (sym (append-nil (steps_in a cost (unpaid s) turns))) f.follows
      follows_on may false e =
          push (steps_in a cost (unpaid s) turns) f.follows p
          (subst (λ u. is_enabled a u p ≡ true) (ends_at a s turns f.lawful) (enabled_step a cost x p may e))

      pub push_turn : is_enabled A x p ≡ true → Paces (turns ++ p ∷ [])
      push_turn may =
          record {
            lawful = lawful-push A (unpaid s) turns p f.lawful may;
            lawful_there = lawful-push B (unpaid t) turns p f.lawful_there (sym turn_alike ∙ may);
            steps =
                one_turn a s
                ∙ ap₂ (λ xs c. xs ++ cond c [] (p ∷ [])) f.steps owes_alike
                ∙ sym (one_turn b t);
            follows = subst Follows (sym (one_turn a s)) (follows_on may (owes_at cost x p) refl);
          }

    push_all : (turns : List ℕ) → Paces turns → (round : List ℕ) → IsLawful A (end_of A (unpaid s) turns) round → Paces (turns ++ round)
    push_all turns f [] of_round = subst Paces (sym (append-nil turns)) f
    push_all turns f (p ∷ round) of_round =
        let more = push_turn turns f p of_round.0 in
        subst Paces (append_assoc turns (p ∷ []) round)
        (push_all (turns ++ p ∷ []) more round (subst (λ u. IsLawful A u round) (sym (end_of-push A (unpaid s) turns p)) of_round.1))

    same_round : (turns : List ℕ) → Paces turns → all_enabled A (end_of A (unpaid s) turns) ≡ all_enabled B (end_of B (unpaid t) turns)
    same_round turns f =
        let x = end_of A (unpaid s) turns in
        let y = end_of B (unpaid t) turns in
        let count : length x.locals ≡ length y.locals =
        length_end A (unpaid s) turns
        ∙ length-map s.locals (λ (l : L). let z : Paying L = record { local = l; touched = []; paid = 0 } in z)
        ∙ is.many
        ∙ sym (length_end B (unpaid t) turns ∙ length-map t.locals (λ (l : M). let z : Paying M = record { local = l; touched = []; paid = 0 } in z)) in
        filtered_alike (λ p. is_enabled A x p) (λ p. is_enabled B y p) 0 (length x.locals) (λ p low high. turn_alike turns f p)
        ∙ ap (λ n. filter (λ p. is_enabled B y p) (range_with_len 0 n)) count

    pub paces_cycles : (k : ℕ) → (cycles A (unpaid s) k ≡ cycles B (unpaid t) k) × Paces (cycles A (unpaid s) k)
    paces_cycles zero = (refl, record { lawful = tt; lawful_there = tt; steps = refl; follows = record { lawful = tt; lawful_there = tt; wires = is.wires } })
    paces_cycles (suc k) =
        let (same, f) = paces_cycles k in
        let x = after_cycles A (unpaid s) k in
        let round = (law_cycle_is_round A x).is_round in (
          ap (λ xs. cycles A (unpaid s) k ++ xs) (same_round (cycles A (unpaid s) k) f)
              ∙ ap (λ xs. xs ++ all_enabled B (end_of B (unpaid t) xs)) same,
          push_all (cycles A (unpaid s) k) f (all_enabled A x) (round_lawful A producer consumer A_wired x (all_enabled A x) round.once round.enabled),
        )

    pub turns_alike : (k p : ℕ) → is_enabled A (after_cycles A (unpaid s) k) p ≡ is_enabled B (after_cycles B (unpaid t) k) p
    turns_alike k p =
        turn_alike (cycles A (unpaid s) k) (paces_cycles k).1 p ∙ ap (λ xs. is_enabled B (end_of B (unpaid t) xs) p) (paces_cycles k).0

    pub at_once : (k p : ℕ) → AreAtOnce a b cost (after_cycles A (unpaid s) k) (after_cycles B (unpaid t) k) p
    at_once k p =
        let turns = cycles A (unpaid s) k in
        let f = (paces_cycles k).1 in
        let x = after_cycles A (unpaid s) k in
        let y = end_of B (unpaid t) turns in
        subst (λ u. AreAtOnce a b cost x u p) (ap (λ xs. end_of B (unpaid t) xs) (paces_cycles k).0)
        (record {
          asks =
              ap (λ o. asks_at a p o) (local_there a cost x p (slice_get x.locals p) refl)
              ∙ there_alike turns f p
              ∙ sym (ap (λ o. asks_at b p o) (local_there b cost y p (slice_get y.locals p) refl));
          owes = owes_alike turns f p;
        })

    pub same_wait : (inputs outputs : ℕ → List ℕ) (k p : ℕ)
        → first_wait a inputs outputs (without_stalls (after_cycles A (unpaid s) k)) p ≡ first_wait b inputs outputs (without_stalls (after_cycles B (unpaid t) k)) p
    same_wait inputs outputs k p =
        let turns = cycles A (unpaid s) k in
        let f = (paces_cycles k).1 in
        let g = steps_in a cost (unpaid s) turns in
        ap (λ (u : State L). first_wait a inputs outputs u p) (ends_at a s turns f.lawful)
        ∙ waits_alike a b producer consumer wa wb is.depth inputs outputs p (slice_get (end_of a s g).locals p) (slice_get (end_of b t g).locals p)
        (end_of a s g).wires (end_of b t g).wires (asks_alike g f.follows.lawful f.follows.lawful_there p) f.follows.wires
        ∙ ap (λ xs. first_wait b inputs outputs (end_of b t xs) p) f.steps
        ∙ sym (ap (λ (u : State M). first_wait b inputs outputs u p) (ends_at b t turns f.lawful_there))
        ∙ ap (λ xs. first_wait b inputs outputs (without_stalls (end_of B (unpaid t) xs)) p) (paces_cycles k).0

pub law_same_cycles : {L M : Type 0} (a : Network L) (b : Network M) (producer consumer : ℕ → ℕ) → IsWired a producer consumer → IsWired b producer consumer → SameCycles a b
law_same_cycles a b producer consumer wa wb cost s t h k is = (paces_cycles a b producer consumer wa wb s t h is cost k).0

pub law_same_turns : {L M : Type 0} (a : Network L) (b : Network M) (producer consumer : ℕ → ℕ) → IsWired a producer consumer → IsWired b producer consumer → SameTurns a b
law_same_turns a b producer consumer wa wb cost s t h k p is = turns_alike a b producer consumer wa wb s t h is cost k p

pub law_same_waits : {L M : Type 0} (a : Network L) (b : Network M) (producer consumer : ℕ → ℕ) → IsWired a producer consumer → IsWired b producer consumer
    → (inputs outputs : ℕ → List ℕ) → SameWaits a b inputs outputs
law_same_waits a b producer consumer wa wb inputs outputs cost s t h k p is = same_wait a b producer consumer wa wb s t h is cost inputs outputs k p

pub law_same_stops : {L M : Type 0} (a : Network L) (b : Network M) (producer consumer : ℕ → ℕ) → IsWired a producer consumer → IsWired b producer consumer → SameStops a b
law_same_stops a b producer consumer wa wb cost s t h k p is = at_once a b producer consumer wa wb s t h is cost k p
