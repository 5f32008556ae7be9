-- The ports of an image: what is read is what is written.
use Rattle.std.proofs.Common.{◌≡◌, ◌≢◌, ◌⊎◌, ℕ, suc, ◌+◌, ◌-◌, ◌*◌, ◌^◌, ◌<◌, ◌≤◌, Bool, true, false, not, cond, eqb, List, [], ◌∷◌, ◌++◌, length, Some, Result, Ok, Err, refl, sym, ap, subst, ◌∙◌, append_assoc, arith, inl, inr, min}
use Rattle.std.specs.Prelude.{slice_get}
use Rattle.std.specs.Int.{w32}
use Rattle.std.specs.List.{All, AllPairs, Contains, flat_map, zip, find, list_any}
use Rattle.std.proofs.lemmas.Bool.{eqb-true}
use Rattle.std.proofs.lemmas.Option.{same_Some, none-some, slice_get_within}
use Rattle.std.proofs.lemmas.List.{length-append, append-nil, get_or_append_left, get_or_default}
use Rattle.std.proofs.lemmas.List.Concat.{flat_map-cons}
use Rattle.std.proofs.lemmas.List.Elements.{All-nil, All-push, All-weaker}
use Rattle.std.proofs.lemmas.List.Sums.{sum_by_push}
use Rattle.std.proofs.lemmas.List.Quantifiers.{all_pairs_push}
use Rattle.raw_grid.specs.declared.parts.Net.{Net}
use Rattle.raw_grid.specs.declared.parts.Net.TheVariants as net
use Rattle.raw_grid.specs.declared.parts.Side.{Side}
use Rattle.raw_grid.specs.declared.parts.Side.TheVariants as side
use Rattle.raw_grid.specs.declared.parts.PortKind.{PortKind}
use Rattle.raw_grid.specs.declared.parts.PortKind.TheVariants as kind
use Rattle.raw_grid.specs.declared.parts.PortPlace.{PortPlace}
use Rattle.raw_grid.specs.Names.{kind_number, net_number, side_number, all_kinds, all_nets, kind_with, net_with, side_with}
use Rattle.raw_grid.specs.Ends.{all_sides}
use Rattle.raw_grid.specs.Topology.{Topology, IsSize, IsAtEdge, IsTopology}
use Rattle.raw_grid.proofs.NameTables.{net_with_back, side_with_back, kind_with_back}
use Rattle.raw_model.specs.declared.limits.TheConstants.{MAX_ALL_WORDS, MAX_CAPACITY, MAX_ALL_CAPACITIES}
use Rattle.raw_model.specs.Program.{PortProgram, IsPortProgram, IsOfKind, AreOfKinds}
use Rattle.raw_image.specs.declared.kind.ImageKind.TheVariants.{BadField}
use Rattle.raw_image.specs.declared.refused.Fault.{Fault}
use Rattle.raw_image.specs.Fields.{◌>>=◌, said_at, fault_at, zeros_at, repeated}
use Rattle.raw_image.specs.Image.{number, counted, place_bytes, given_bytes, port_bytes, ports_bytes}
use Rattle.raw_image.specs.Reading.{Ports, is_at_edge, same_place, place_at, words_at, given_at, port_at, ports_at, no_ports, words_in, capacity_in}
use Rattle.raw_image.proofs.Loop.{length-push}
use Rattle.raw_image.proofs.Places.{at_edge, taken}
use Rattle.raw_image.proofs.Placing.{place_free}
use Rattle.raw_image.proofs.Bytes.{IsBytes, Takes, Takes-none, Takes-then, Takes-as, shorter, Holds, Sound, step, byte_sound, byte_again, word_sound, word_again, number_sound, number_again, zeros, zeros_three, zeros_step, zeros_again}
use Rattle.raw_image.proofs.Repeats.{repeated_holds, list_sound, list_again, flat_map_push}
use Rattle.raw_image.proofs.Seams.{all_seam, at_seam, sum_seam, each_within}
use Rattle.raw_image.proofs.TileLaws.{got, got_seam}
use Rattle.raw_image.proofs.Promises.{Promises}

-- ---- the place of a port

-- its first five bytes
abbrev five : PortPlace → List ℕ
five place = kind_number place.kind ∷ net_number place.net ∷ place.x ∷ place.y ∷ side_number place.side ∷ []

record MayStand (topo : Topology) (place : PortPlace) : Type 0 where
  pub edge : IsAtEdge topo place
  pub free : Contains topo.places place → ⊥

find_passes : {A : Type 0} (p : A → Bool) (xs : List A) (x : A) → find p xs ≡ Some x → p x ≡ true
find_passes p [] x e = absurd (none-some x e)
find_passes {A = A} p (y ∷ ys) x e = by_test (p y) refl e (find_passes p ys x)
  where
    by_test : (b : Bool) → p y ≡ b → cond b (Some y) (find p ys) ≡ Some x → (find p ys ≡ Some x → p x ≡ true) → p x ≡ true
    by_test true h f later = ap p (sym (same_Some y x f)) ∙ h
    by_test false h f later = later f

kind_says : (n : ℕ) (k : PortKind) → kind_with n ≡ Some k → kind_number k ≡ n
unfolding kind_with
kind_says n k e = eqb-true _ n (find_passes (λ x. eqb (kind_number x) n) all_kinds k e)

net_says : (n : ℕ) (net : Net) → net_with n ≡ Some net → net_number net ≡ n
unfolding net_with
net_says n net e = eqb-true _ n (find_passes (λ x. eqb (net_number x) n) all_nets net e)

side_says : (n : ℕ) (s : Side) → side_with n ≡ Some s → side_number s ≡ n
unfolding side_with
side_says n s e = eqb-true _ n (find_passes (λ x. eqb (side_number x) n) all_sides s e)

abbrev Any : {A : Type 0} → A → Type 0
Any x = Unit {0}

abbrev placed_by : PortPlace → Fault → Fault → List ℕ → Bool → Bool → Result (PortPlace × List ℕ) Fault
placed_by place off double rest edge double_here = cond (not edge) (Err off) (cond double_here (Err double) (Ok (place, rest)))

place_sound : (topo : Topology) (bytes : List ℕ) → IsBytes bytes → Sound bytes five (MayStand topo) (place_at topo bytes)
unfolding place_at
place_sound topo bytes fits =
    let P : PortPlace → List ℕ → Type 0 = λ place rest. Takes bytes (five place) rest × MayStand topo place in
    step bytes [] bytes (λ k. kind_number k ∷ []) Any P _ _ (Takes-none bytes fits) (byte_sound kind_with (λ k. kind_number k ∷ []) Any (λ n x lt e. (ap (λ m. m ∷ []) (kind_says n x e), tt)) bytes fits) (λ k r1 t1 a.
    step bytes (kind_number k ∷ []) r1 (λ net. net_number net ∷ []) Any P _ _ t1 (byte_sound net_with (λ net. net_number net ∷ []) Any (λ n x lt e. (ap (λ m. m ∷ []) (net_says n x e), tt)) r1 t1.rest_fits) (λ net r2 t2 b.
    step bytes (kind_number k ∷ net_number net ∷ []) r2 (λ n. n ∷ []) Any P _ _ t2 (byte_sound Some (λ n. n ∷ []) Any (λ n x lt e. (ap (λ m. m ∷ []) (sym (same_Some n x e)), tt)) r2 t2.rest_fits) (λ x r3 t3 c.
    step bytes (kind_number k ∷ net_number net ∷ x ∷ []) r3 (λ n. n ∷ []) Any P _ _ t3 (byte_sound Some (λ n. n ∷ []) Any (λ n x lt e. (ap (λ m. m ∷ []) (sym (same_Some n x e)), tt)) r3 t3.rest_fits) (λ y r4 t4 d.
    step bytes (kind_number k ∷ net_number net ∷ x ∷ y ∷ []) r4 (λ s. side_number s ∷ []) Any P _ _ t4 (byte_sound side_with (λ s. side_number s ∷ []) Any (λ n x lt e. (ap (λ m. m ∷ []) (side_says n x e), tt)) r4 t4.rest_fits) (λ s r5 t5 e.
    let place : PortPlace = record { kind = k; net = net; x = x; y = y; side = s } in
    by_tests place (fault_at BadField r2) (fault_at BadField r4) r5 t5 (shorter bytes _ r2 t2) (shorter bytes _ r4 t4) (is_at_edge topo place) (list_any (same_place place) topo.places) refl refl)))))
  where
    by_tests : (place : PortPlace) (off double : Fault) (rest : List ℕ) → Takes bytes (five place) rest → off.left ≤ length bytes → double.left ≤ length bytes → (b t : Bool) → is_at_edge topo place ≡ b → list_any (same_place place) topo.places ≡ t
        → Sound bytes five (MayStand topo) (placed_by place off double rest b t)
    by_tests place off double rest t l m true false h f = (t, record { edge = at_edge topo place h; free = λ has. absurd (cc (f, taken topo.places place has)) })
    by_tests place off double rest t l m true true h f = m
    by_tests place off double rest t l m false b h f = l

place_again : (topo : Topology) (place : PortPlace) (rest : List ℕ) → MayStand topo place → place_at topo (five place ++ rest) ≡ Ok (place, rest)
place_again topo place rest m =
    place_free topo (five place ++ rest) (net_number place.net ∷ place.x ∷ place.y ∷ side_number place.side ∷ rest) (place.x ∷ place.y ∷ side_number place.side ∷ rest) (place.y ∷ side_number place.side ∷ rest) (side_number place.side ∷ rest) rest place.kind place.net place.x place.y place.side
    (byte_again kind_with (kind_number place.kind) place.kind _ (kind_with_back place.kind)) (byte_again net_with (net_number place.net) place.net _ (net_with_back place.net)) (byte_again Some place.x place.x _ refl) (byte_again Some place.y place.y _ refl) (byte_again side_with (side_number place.side) place.side _ (side_with_back place.side))
    (λ off. off m.edge) (λ _ has. m.free has)

-- ---- what a port is given

abbrev IsWord : ℕ → Type 0
IsWord word = word < 2 ^ 32

words_sound : (count : ℕ) (bytes : List ℕ) → IsBytes bytes → Sound bytes (flat_map number) (λ xs. (length xs ≡ count) × All IsWord xs) (words_at count bytes)
unfolding words_at
words_sound count bytes fits =
    list_sound (λ before. said_at w32 Some) number (All IsWord) (All-nil IsWord)
    (λ before rest ok good. one_word before rest good (said_at w32 Some rest) (word_sound rest ok)) count bytes fits
  where
    one_word : (before rest : List ℕ) → All IsWord before → (r : Result (ℕ × List ℕ) Fault) → Sound rest number IsWord r → Sound rest number (λ x. All IsWord (before ++ x ∷ [])) r
    one_word before rest good (Ok x) h = (h.0, All-push IsWord before x.0 good h.1)
    one_word before rest good (Err f) h = h

words_again : (xs rest : List ℕ) → All IsWord xs → words_at (length xs) (flat_map number xs ++ rest) ≡ Ok (xs, rest)
unfolding words_at
words_again xs rest good =
    list_again (λ before. said_at w32 Some) number [] xs rest
    (each_within (λ before. said_at w32 Some) number xs (λ before x after e next. word_again x next (all_seam IsWord xs before x after e good)) [] xs refl)

-- what a port of a kind may be given where so many words and so much capacity are left
record IsGiven (k : PortKind) (words capacity : ℕ) (port : PortProgram) : Type 0 where
  pub lawful : IsPortProgram port
  pub of_kind : IsOfKind k port
  pub few_words : length port.words ≤ words
  pub few_places : port.capacity ≤ capacity

given_sound : (k : PortKind) (words capacity : ℕ) (bytes : List ℕ) → IsBytes bytes → Sound bytes (given_bytes k) (IsGiven k words capacity) (given_at k words capacity bytes)
given_sound kind.Source words capacity bytes fits =
    let P : PortProgram → List ℕ → Type 0 = λ port rest. Takes bytes (given_bytes kind.Source port) rest × IsGiven kind.Source words capacity port in
    step bytes [] bytes number (λ n. (0 ≤ n) × (n ≤ words)) P _ _ (Takes-none bytes fits) (number_sound 0 words bytes fits) (λ n r1 t1 a.
    step bytes (number n) r1 (flat_map number) (λ xs. (length xs ≡ n) × All IsWord xs) P _ _ t1 (words_sound n r1 t1.rest_fits) (λ xs r2 t2 b. (
      Takes-as bytes (number n ++ flat_map number xs) (counted number xs) r2 (ap (λ m. number m ++ flat_map number xs) (sym b.0)) t2,
      record { lawful = record { words = b.1; capacity = omega arith }; of_kind = refl; few_words = omega (arith, a.1, b.0); few_places = omega arith },
    )))
given_sound kind.Sink words capacity bytes fits =
    let P : PortProgram → List ℕ → Type 0 = λ port rest. Takes bytes (given_bytes kind.Sink port) rest × IsGiven kind.Sink words capacity port in
    step bytes [] bytes number (λ n. (0 ≤ n) × (n ≤ min MAX_CAPACITY capacity)) P _ _ (Takes-none bytes fits) (number_sound 0 (min MAX_CAPACITY capacity) bytes fits) (λ n r1 t1 a.
    (t1, record { lawful = record { words = All-nil IsWord; capacity = omega (arith, a.1) }; of_kind = refl; few_words = omega arith; few_places = omega (arith, a.1) }))

abbrev made : List ℕ → ℕ → PortProgram
made words capacity = record { words = words; capacity = capacity }

nothing : (xs : List ℕ) → length xs ≡ 0 → xs ≡ []
nothing [] e = refl
nothing (x ∷ xs) e = absurd (omega (arith, e))

given_again : (k : PortKind) (words capacity : ℕ) (port : PortProgram) (rest : List ℕ) → words < 2 ^ 32 → IsGiven k words capacity port → given_at k words capacity (given_bytes k port ++ rest) ≡ Ok (port, rest)
given_again kind.Source words capacity port rest small h =
    let f = flat_map number port.words ++ rest in
    ap (given_at kind.Source words capacity) (append_assoc (number (length port.words)) (flat_map number port.words) rest)
    ∙ ap (λ r. r >>= λ count. words_at count.0 count.1 >>= λ ws. Ok (made ws.0 0, ws.1)) (number_again 0 words (length port.words) f (omega (arith, h.few_words)) (omega arith) h.few_words)
    ∙ ap (λ r. r >>= λ ws. Ok (made ws.0 0, ws.1)) (words_again port.words rest h.lawful.words)
    ∙ ap (λ c. Ok (made port.words c, rest)) (sym h.of_kind)
given_again kind.Sink words capacity port rest small h =
    let few : port.capacity ≤ min MAX_CAPACITY capacity = omega (arith, h.lawful.capacity, h.few_places) in
    ap (λ r. r >>= λ c. Ok (made [] c.0, c.1)) (number_again 0 (min MAX_CAPACITY capacity) port.capacity rest (omega (arith, few)) (omega arith) few)
    ∙ ap (λ ws. Ok (made ws port.capacity, rest)) (sym (nothing port.words h.of_kind))

-- ---- the ports of a grid

abbrev grid_with : ℕ → ℕ → List PortPlace → Topology
grid_with columns rows places = record { cols = columns; rows = rows; places = places }

abbrev pub ports_with : ℕ → ℕ → List PortPlace → List PortProgram → Ports
ports_with columns rows places programs = record { topo = grid_with columns rows places; programs = programs }

-- what ports keep
pub record ArePorts (columns rows : ℕ) (places : List PortPlace) (programs : List PortProgram) : Type 0 where
  pub topology : IsTopology (grid_with columns rows places)
  pub each : length programs ≡ length places
  pub lawful : All IsPortProgram programs
  pub kinds : AreOfKinds places programs
  pub words : words_in programs ≤ MAX_ALL_WORDS
  pub capacity : capacity_in programs ≤ MAX_ALL_CAPACITIES

none_yet : (columns rows : ℕ) → IsSize columns rows → ArePorts columns rows [] []
none_yet columns rows size = record {
  topology = record { size = size; at_edges = All-nil (IsAtEdge (grid_with columns rows [])); distinct = λ i j d l m. absurd (omega arith) };
  each = refl;
  lawful = All-nil IsPortProgram;
  kinds = λ i place port e f. absurd (none-some place e);
  words = omega arith;
  capacity = omega arith;
}

more_ports : (columns rows : ℕ) (places : List PortPlace) (programs : List PortProgram) (place : PortPlace) (port : PortProgram) → ArePorts columns rows places programs → MayStand (grid_with columns rows places) place → IsGiven place.kind (MAX_ALL_WORDS - words_in programs) (MAX_ALL_CAPACITIES - capacity_in programs) port
    → ArePorts columns rows (places ++ place ∷ []) (programs ++ port ∷ [])
more_ports columns rows places programs place port h m g =
    let before = grid_with columns rows places in
    let after = grid_with columns rows (places ++ place ∷ []) in
    record {
      topology = record {
        size = h.topology.size;
        at_edges = All-push (IsAtEdge after) places place
            (All-weaker (IsAtEdge before) (IsAtEdge after) (λ p at. record { column = at.column; row = at.row; edge = at.edge }) places h.topology.at_edges)
            (record { column = m.edge.column; row = m.edge.row; edge = m.edge.edge });
        distinct = all_pairs_push (λ a b. a ≢ b) places place h.topology.distinct (λ k d l e. m.free (k, l, get_or_default places k place d l ∙ e));
      };
      each = length-push programs port ∙ ap (λ n. n + 1) h.each ∙ sym (length-push places place);
      lawful = All-push IsPortProgram programs port h.lawful g.lawful;
      kinds = kinds_push;
      words = omega (arith, sum_by_push (λ (p : PortProgram). length p.words) programs port, g.few_words, h.words);
      capacity = omega (arith, sum_by_push (λ (p : PortProgram). p.capacity) programs port, g.few_places, h.capacity);
    }
  where
    both : (i : ℕ) (p : PortPlace) (q : PortProgram) → (slice_get places i ≡ Some p) ⊎ ((i ≡ length places) × (place ≡ p)) → (slice_get programs i ≡ Some q) ⊎ ((i ≡ length programs) × (port ≡ q)) → IsOfKind p.kind q
    both i p q (inl e) (inl f) = h.kinds i p q e f
    both i p q (inl e) (inr f) = absurd (omega (arith, slice_get_within places i p e, f.0, h.each))
    both i p q (inr e) (inl f) = absurd (omega (arith, slice_get_within programs i q f, e.0, h.each))
    both i p q (inr e) (inr f) = subst (λ (o : PortPlace). IsOfKind o.kind q) e.1 (subst (IsOfKind place.kind) f.1 g.of_kind)

    kinds_push : AreOfKinds (places ++ place ∷ []) (programs ++ port ∷ [])
    kinds_push i p q e f = both i p q (got places place i p e) (got programs port i q f)

zip_push : {A B : Type 0} (xs : List A) (ys : List B) (x : A) (y : B) → length ys ≡ length xs → zip (xs ++ x ∷ []) (ys ++ y ∷ []) ≡ zip xs ys ++ (x, y) ∷ []
zip_push [] [] x y e = refl
zip_push [] (b ∷ ys) x y e = absurd (omega (arith, e))
zip_push (a ∷ xs) [] x y e = absurd (omega (arith, e))
zip_push (a ∷ xs) (b ∷ ys) x y e = ap (λ ps. (a, b) ∷ ps) (zip_push xs ys x y (omega (arith, e)))

-- the bytes of ports with their places
abbrev all_bytes : List PortPlace → List PortProgram → List ℕ
all_bytes places programs = flat_map port_bytes (zip places programs)

all_push : (places : List PortPlace) (programs : List PortProgram) (place : PortPlace) (port : PortProgram) → length programs ≡ length places → all_bytes (places ++ place ∷ []) (programs ++ port ∷ []) ≡ all_bytes places programs ++ port_bytes (place, port)
all_push places programs place port e = ap (flat_map port_bytes) (zip_push places programs place port e) ∙ flat_map_push port_bytes (zip places programs) (place, port)

-- so many ports that were read
abbrev Read : List ℕ → ℕ → ℕ → ℕ → Ports → List ℕ → Type 0
Read bytes columns rows k ports rest =
    Takes bytes (all_bytes ports.topo.places ports.programs) rest × (length ports.programs ≡ k) × (ports.topo.cols ≡ columns) × (ports.topo.rows ≡ rows) × ArePorts columns rows ports.topo.places ports.programs

port_text : (t : List ℕ) (place : PortPlace) (port : PortProgram) → ((t ++ five place) ++ zeros 3) ++ given_bytes place.kind port ≡ t ++ port_bytes (place, port)
port_text t place port =
    ap (λ z. ((t ++ five place) ++ z) ++ given_bytes place.kind port) zeros_three ∙ ap (λ s. s ++ given_bytes place.kind port) (append_assoc t (five place) (0 ∷ 0 ∷ 0 ∷ [])) ∙ append_assoc t (place_bytes place) (given_bytes place.kind port)

pub same_grid : (topo : Topology) (columns rows : ℕ) → topo.cols ≡ columns → topo.rows ≡ rows → topo ≡ grid_with columns rows topo.places
same_grid topo columns rows c r = λ i. record { cols = c i; rows = r i; places = topo.places }

port_holds : (bytes : List ℕ) (columns rows k : ℕ) (ports : Ports) (rest : List ℕ) → Read bytes columns rows k ports rest → Holds bytes (Read bytes columns rows (k + 1)) (port_at ports rest)
unfolding port_at
port_holds bytes columns rows k ports rest (t, count, cols, rs, h) =
    let text = all_bytes ports.topo.places ports.programs in
    let words = MAX_ALL_WORDS - words_in ports.programs in
    let capacity = MAX_ALL_CAPACITIES - capacity_in ports.programs in
    let P = Read bytes columns rows (k + 1) in
    step bytes text rest five (MayStand ports.topo) P _ _ t (place_sound ports.topo rest t.rest_fits) (λ place r1 t1 m.
    zeros_step bytes (text ++ five place) r1 P 3 _ t1 (λ r2 t2.
    step bytes ((text ++ five place) ++ zeros 3) r2 (given_bytes place.kind) (IsGiven place.kind words capacity) P _ _ t2 (given_sound place.kind words capacity r2 t2.rest_fits) (λ port r3 t3 g. (
      Takes-as bytes (((text ++ five place) ++ zeros 3) ++ given_bytes place.kind port) (all_bytes (ports.topo.places ++ place ∷ []) (ports.programs ++ port ∷ [])) r3 (port_text text place port ∙ sym (all_push ports.topo.places ports.programs place port h.each)) t3,
      length-push ports.programs port ∙ ap (λ n. n + 1) count,
      cols,
      rs,
      more_ports columns rows ports.topo.places ports.programs place port h (subst (λ (g : Topology). MayStand g place) (same_grid ports.topo columns rows cols rs) m) g,
    ))))

-- the ports of an image
pub record ArePortsOf (columns rows : ℕ) (ports : Ports) : Type 0 where
  pub cols_are : ports.topo.cols ≡ columns
  pub rows_are : ports.topo.rows ≡ rows
  pub lawful : ArePorts columns rows ports.topo.places ports.programs

abbrev pub bytes_of : Ports → List ℕ
bytes_of ports = ports_bytes ports.topo.places ports.programs

pub ports_sound : (columns rows : ℕ) (bytes : List ℕ) → IsSize columns rows → IsBytes bytes → Sound bytes bytes_of (ArePortsOf columns rows) (ports_at columns rows bytes)
unfolding ports_at
ports_sound columns rows bytes size fits =
    let most = 8 * (columns + rows) in
    step bytes [] bytes number (λ n. (0 ≤ n) × (n ≤ most)) (λ ports rest. Takes bytes (bytes_of ports) rest × ArePortsOf columns rows ports) _ _ (Takes-none bytes fits) (number_sound 0 most bytes fits) (λ n r1 t1 a.
    last n r1 t1 (repeated port_at n (no_ports columns rows) r1)
    (repeated_holds r1 port_at (Read r1 columns rows) (λ k ports rest h. port_holds r1 columns rows k ports rest h) n 0 (no_ports columns rows) r1 (Takes-none r1 t1.rest_fits, refl, refl, refl, none_yet columns rows size)))
  where
    last : (n : ℕ) (r1 : List ℕ) → Takes bytes (number n) r1 → (r : Result (Ports × List ℕ) Fault) → Holds r1 (Read r1 columns rows (0 + n)) r → Sound bytes bytes_of (ArePortsOf columns rows) r
    last n r1 t1 (Ok x) (t, count, cols, rs, h) =
        let number_is : n ≡ length x.0.programs = omega (arith, count) in
        (Takes-as bytes (number n ++ all_bytes x.0.topo.places x.0.programs) (bytes_of x.0) x.1 (ap (λ m. number m ++ all_bytes x.0.topo.places x.0.programs) number_is) (Takes-then bytes (number n) r1 (all_bytes x.0.topo.places x.0.programs) x.1 t1 t), record { cols_are = cols; rows_are = rs; lawful = h })
    last n r1 t1 (Err f) h = omega (arith, h, shorter bytes (number n) r1 t1)

-- a place that stands behind others in a list of distinct places is not among them
distinct_seam : (before : List PortPlace) (place : PortPlace) (after : List PortPlace) → AllPairs (λ a b. a ≢ b) (before ++ (place ∷ after)) → Contains before place → ⊥
distinct_seam before place after h (k, lt, e) =
    h k (length before) place lt (omega (arith, length-append before (place ∷ after)))
    (get_or_append_left before (place ∷ after) place k lt ∙ e ∙ sym (at_seam before place place after))

may_stand : (columns rows : ℕ) (whole before : List PortPlace) (place : PortPlace) (after : List PortPlace) → before ++ (place ∷ after) ≡ whole → IsTopology (grid_with columns rows whole) → MayStand (grid_with columns rows before) place
may_stand columns rows whole before place after e h =
    let at = all_seam (IsAtEdge (grid_with columns rows whole)) whole before place after e h.at_edges in
    record {
      edge = record { column = at.column; row = at.row; edge = at.edge };
      free = distinct_seam before place after (subst (λ (ps : List PortPlace). AllPairs (λ a b. a ≢ b) ps) (sym e) h.distinct);
    }

port_again : (columns rows : ℕ) (bp : List PortPlace) (bg : List PortProgram) (place : PortPlace) (port : PortProgram) (rest : List ℕ) → MayStand (grid_with columns rows bp) place → IsGiven place.kind (MAX_ALL_WORDS - words_in bg) (MAX_ALL_CAPACITIES - capacity_in bg) port
    → port_at (ports_with columns rows bp bg) (port_bytes (place, port) ++ rest) ≡ Ok (ports_with columns rows (bp ++ place ∷ []) (bg ++ port ∷ []), rest)
unfolding port_at
port_again columns rows bp bg place port rest m g =
    let ports = ports_with columns rows bp bg in
    let words = MAX_ALL_WORDS - words_in bg in
    let capacity = MAX_ALL_CAPACITIES - capacity_in bg in
    let gs = given_bytes place.kind port ++ rest in
    ap (port_at ports) (append_assoc (place_bytes place) (given_bytes place.kind port) rest)
    ∙ ap (λ r. r >>= λ p. zeros_at 3 p.1 >>= λ next. given_at p.0.kind words capacity next >>= λ given. Ok (ports_with columns rows (bp ++ p.0 ∷ []) (bg ++ given.0 ∷ []), given.1)) (place_again (grid_with columns rows bp) place (0 ∷ 0 ∷ 0 ∷ gs) m)
    ∙ ap (λ r. r >>= λ next. given_at place.kind words capacity next >>= λ given. Ok (ports_with columns rows (bp ++ place ∷ []) (bg ++ given.0 ∷ []), given.1)) (ap (λ z. zeros_at 3 (z ++ gs)) (sym zeros_three) ∙ zeros_again 3 gs)
    ∙ ap (λ r. r >>= λ given. Ok (ports_with columns rows (bp ++ place ∷ []) (bg ++ given.0 ∷ []), given.1)) (given_again place.kind words capacity port rest (omega arith) g)

rest_again : (columns rows : ℕ) (wp : List PortPlace) (wg : List PortProgram) → ArePorts columns rows wp wg → (bp : List PortPlace) (bg : List PortProgram) (ps : List PortPlace) (gs : List PortProgram) (rest : List ℕ) → bp ++ ps ≡ wp → bg ++ gs ≡ wg → length bg ≡ length bp → length gs ≡ length ps
    → repeated port_at (length gs) (ports_with columns rows bp bg) (all_bytes ps gs ++ rest) ≡ Ok (ports_with columns rows wp wg, rest)
rest_again columns rows wp wg h bp bg [] [] rest ep eg lb lg =
    ap (λ (places : List PortPlace). Ok (ports_with columns rows places bg, rest)) (sym (append-nil bp) ∙ ep) ∙ ap (λ (programs : List PortProgram). Ok (ports_with columns rows wp programs, rest)) (sym (append-nil bg) ∙ eg)
rest_again columns rows wp wg h bp bg [] (g ∷ gs) rest ep eg lb lg = absurd (omega (arith, lg))
rest_again columns rows wp wg h bp bg (p ∷ ps) [] rest ep eg lb lg = absurd (omega (arith, lg))
rest_again columns rows wp wg h bp bg (p ∷ ps) (g ∷ gs) rest ep eg lb lg =
    let place_here : slice_get wp (length bp) ≡ Some p = ap (λ xs. slice_get xs (length bp)) (sym ep) ∙ got_seam bp p ps in
    let port_here : slice_get wg (length bp) ≡ Some g = ap (λ xs. slice_get xs (length bp)) (sym eg) ∙ ap (slice_get (bg ++ (g ∷ gs))) (sym lb) ∙ got_seam bg g gs in
    let given : IsGiven p.kind (MAX_ALL_WORDS - words_in bg) (MAX_ALL_CAPACITIES - capacity_in bg) g = record {
      lawful = all_seam IsPortProgram wg bg g gs eg h.lawful;
      of_kind = h.kinds (length bp) p g place_here port_here;
      few_words = omega (arith, sum_seam (λ (q : PortProgram). length q.words) wg bg g gs eg, h.words);
      few_places = omega (arith, sum_seam (λ (q : PortProgram). q.capacity) wg bg g gs eg, h.capacity);
    } in
    let text : all_bytes (p ∷ ps) (g ∷ gs) ++ rest ≡ port_bytes (p, g) ++ (all_bytes ps gs ++ rest) = ap (λ t. t ++ rest) (flat_map-cons port_bytes (p, g) (zip ps gs)) ∙ append_assoc (port_bytes (p, g)) (all_bytes ps gs) rest in
    ap (repeated port_at (suc (length gs)) (ports_with columns rows bp bg)) text
    ∙ ap (λ r. r >>= λ next. repeated port_at (length gs) next.0 next.1) (port_again columns rows bp bg p g (all_bytes ps gs ++ rest) (may_stand columns rows wp bp p ps ep h.topology) given)
    ∙ rest_again columns rows wp wg h (bp ++ p ∷ []) (bg ++ g ∷ []) ps gs rest (append_assoc bp (p ∷ []) ps ∙ ep) (append_assoc bg (g ∷ []) gs ∙ eg) (length-push bg g ∙ ap (λ n. n + 1) lb ∙ sym (length-push bp p)) (omega (arith, lg))

pub ports_again : Promises → (columns rows : ℕ) (places : List PortPlace) (programs : List PortProgram) (rest : List ℕ) → ArePorts columns rows places programs → ports_at columns rows (ports_bytes places programs ++ rest) ≡ Ok (ports_with columns rows places programs, rest)
unfolding ports_at
ports_again promised columns rows places programs rest h =
    let most = 8 * (columns + rows) in
    let few : length programs ≤ most = omega (arith, promised.ports (grid_with columns rows places) h.topology, h.each) in
    ap (ports_at columns rows) (append_assoc (number (length programs)) (all_bytes places programs) rest)
    ∙ ap (λ r. r >>= λ count. repeated port_at count.0 (no_ports columns rows) count.1) (number_again 0 most (length programs) (all_bytes places programs ++ rest) (omega (arith, few, h.topology.size.most_cols, h.topology.size.most_rows)) (omega arith) few)
    ∙ rest_again columns rows places programs h [] [] places programs rest refl refl refl h.each
