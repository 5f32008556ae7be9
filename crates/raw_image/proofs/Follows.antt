-- What is read does not depend on what follows, but for a field that is cut off.
use Rattle.std.proofs.Common.{◌≡◌, ◌≢◌, ◌⊎◌, ℕ, zero, suc, ◌+◌, ◌-◌, ◌*◌, ◌/◌, ◌<◌, Bool, true, false, not, cond, eqb, ltb, List, [], ◌∷◌, ◌++◌, length, take, drop, Option, Some, None, Result, Ok, Err, refl, sym, ap, subst, ◌∙◌, arith, inl, inr, min}
use Rattle.std.specs.Prelude.{codes}
use Rattle.std.specs.Int.{Width, byte_len, from_be_bytes, w32, w64}
use Rattle.std.specs.Str.{bytes_eq}
use Rattle.std.specs.List.{list_any}
use Rattle.std.proofs.lemmas.Bool.{ltb-false, le-ltb, eqb-true, ne_eqb}
use Rattle.std.proofs.lemmas.List.{length-append, length-take, length-drop, take-append-le, drop-append-le, take-append-drop, nil_from_length}
use Rattle.raw_tile_isa.specs.Instruction.{decode_of}
use Rattle.raw_tile_isa.specs.declared.limits.TheConstants.{MAX_TILE_CODE}
use Rattle.raw_switch_isa.specs.declared.limits.TheConstants.{MAX_SWITCH_CODE}
use Rattle.raw_grid.specs.declared.limits.TheConstants.{MAX_SIZE}
use Rattle.raw_grid.specs.declared.parts.PortKind.{PortKind}
use Rattle.raw_grid.specs.declared.parts.PortKind.TheVariants as kind
use Rattle.raw_grid.specs.declared.parts.PortPlace.{PortPlace}
use Rattle.raw_grid.specs.Names.{kind_with, net_with, side_with}
use Rattle.raw_grid.specs.Topology.{Topology, tile_count}
use Rattle.raw_model.specs.declared.limits.TheConstants.{MAX_STEPS, MAX_DEPTH, MEMORY_SIZE, MEMORY_WORDS, MAX_ALL_WORDS, MAX_CAPACITY, MAX_ALL_CAPACITIES, MAX_SHOWS, MAX_ALL_SHOWN}
use Rattle.raw_model.specs.Program.{ProgramSet}
use Rattle.raw_image.specs.declared.kind.ImageKind.{ImageKind}
use Rattle.raw_image.specs.declared.kind.ImageKind.TheVariants.{BadMagic, BadVersion, Short, BadField, Extra}
use Rattle.raw_image.specs.declared.refused.Fault.{Fault}
use Rattle.raw_image.specs.declared.tiles.Room.{Room}
use Rattle.raw_image.specs.declared.version.Version.{Version}
use Rattle.raw_image.specs.declared.version.Version.TheVariants as version
use Rattle.raw_image.specs.Fields.{◌>>=◌, short, fault_at, front_at, said, said_at, byte_at, between, address_from, are_zeros, zeros_at, repeated, list_at}
use Rattle.raw_image.specs.Image.{ImageFault}
use Rattle.raw_image.specs.Reading.{Ports, is_at_edge, same_place, place_at, words_at, given_at, port_at, ports_at, no_ports, words_in, capacity_in, code_at, wired_of, switch_at, least_behind, cell_at, cells_at, misses_at, room_behind, tile_at, tiles_at, shown_in, show_at, shows_at, magic_at, version_with, version_at, depth_at, set_at, reading}
use Rattle.raw_image.proofs.Loop.{Part, Item, listed}

-- the same fault where more bytes follow
abbrev later : List ℕ → Fault → Fault
later more f = record { left = f.left + length more; kind = f.kind }

-- what is read of bytes is read of them where more follow, with the same fault, unless a field is cut off
abbrev pub Follows : {X : Type 0} → List ℕ → Result (X × List ℕ) Fault → Result (X × List ℕ) Fault → Type 0
Follows more (Ok x) s = s ≡ Ok (x.0, x.1 ++ more)
Follows more (Err f) s = (f ≡ short) ⊎ ((f.kind ≢ Short) × (s ≡ Err (later more f)))

follow : {A B : Type 0} (more : List ℕ) (r s : Result (A × List ℕ) Fault) (f g : A × List ℕ → Result (B × List ℕ) Fault) → Follows more r s → ((a : A) (rest : List ℕ) → Follows more (f (a, rest)) (g (a, rest ++ more))) → Follows more (r >>= f) (s >>= g)
follow more (Ok x) s f g h k = subst (λ t. Follows more (f x) (t >>= g)) (sym h) (k x.0 x.1)
follow more (Err e) s f g (inl h) k = inl h
follow more (Err e) s f g (inr h) k = inr (h.0, ap (λ t. t >>= g) h.1)

fault_later : (k : ImageKind) (bytes more : List ℕ) → fault_at k (bytes ++ more) ≡ later more (fault_at k bytes)
fault_later k bytes more = λ i. record { left = length-append bytes more i; kind = k }

-- a fault of a field that is not cut off
told : {X : Type 0} (k : ImageKind) (bytes more : List ℕ) → k ≢ Short → Follows {X = X} more (Err (fault_at k bytes)) (Err (fault_at k (bytes ++ more)))
told k bytes more other = inr (other, ap (λ f. Err f) (fault_later k bytes more))

bad : BadField ≢ Short
bad e = absurd (cc e)

abbrev front : ℕ → List ℕ → List ℕ × List ℕ
front width bytes = (take width bytes, drop width bytes)

front_follows : (width : ℕ) (bytes more : List ℕ) → Follows more (front_at width bytes) (front_at width (bytes ++ more))
front_follows width bytes more = by_test (ltb (length bytes) width) refl
  where
    by_test : (b : Bool) → ltb (length bytes) width ≡ b → Follows more (cond b (Err short) (Ok (front width bytes))) (front_at width (bytes ++ more))
    by_test true e = inl refl
    by_test false e =
        let long = ltb-false _ _ e in
        let longer : ltb (length (bytes ++ more)) width ≡ false = le-ltb _ _ (omega (arith, length-append bytes more)) in
        rw (longer, take-append-le width bytes more long, drop-append-le width bytes more long) refl

said_follows : {A : Type 0} (k : ImageKind) (bytes rest more : List ℕ) (o : Option A) → k ≢ Short → Follows more (said (fault_at k bytes) rest o) (said (fault_at k (bytes ++ more)) (rest ++ more) o)
said_follows k bytes rest more (Some x) other = refl
said_follows k bytes rest more None other = told k bytes more other

number_follows : {A : Type 0} (w : Width) (value : ℕ → Option A) (bytes more : List ℕ) → Follows more (said_at w value bytes) (said_at w value (bytes ++ more))
number_follows w value bytes more =
    follow more (front_at (byte_len w) bytes) (front_at (byte_len w) (bytes ++ more)) _ _ (front_follows (byte_len w) bytes more) (λ field rest. said_follows BadField bytes rest more (value (from_be_bytes w field)) bad)

byte_follows : {A : Type 0} (value : ℕ → Option A) (bytes more : List ℕ) → Follows more (byte_at value bytes) (byte_at value (bytes ++ more))
byte_follows value [] more = inl refl
byte_follows value (b ∷ rest) more = said_follows BadField (b ∷ rest) rest more (value b) bad

-- bytes of a width that pass a test
tested : {B : Type 0} (k : ImageKind) (width : ℕ) (test : List ℕ → Bool) (bytes more : List ℕ) (f g : List ℕ → Result (B × List ℕ) Fault) → k ≢ Short → ((rest : List ℕ) → Follows more (f rest) (g (rest ++ more)))
    → Follows more ((front_at width bytes >>= λ field. cond (test field.0) (Ok field.1) (Err (fault_at k bytes))) >>= f) ((front_at width (bytes ++ more) >>= λ field. cond (test field.0) (Ok field.1) (Err (fault_at k (bytes ++ more)))) >>= g)
tested {B = B} k width test bytes more f g other next = by_front (front_at width bytes) (front_at width (bytes ++ more)) (front_follows width bytes more)
  where
    by_test : (x : List ℕ × List ℕ) (b : Bool) → Follows more (cond b (Ok x.1) (Err (fault_at k bytes)) >>= f) (cond b (Ok (x.1 ++ more)) (Err (fault_at k (bytes ++ more))) >>= g)
    by_test x true = next x.1
    by_test x false = told k bytes more other

    by_front : (r s : Result (List ℕ × List ℕ) Fault) → Follows more r s → Follows more ((r >>= λ field. cond (test field.0) (Ok field.1) (Err (fault_at k bytes))) >>= f) ((s >>= λ field. cond (test field.0) (Ok field.1) (Err (fault_at k (bytes ++ more)))) >>= g)
    by_front (Ok x) s h = subst (λ t. Follows more (cond (test x.0) (Ok x.1) (Err (fault_at k bytes)) >>= f) ((t >>= λ field. cond (test field.0) (Ok field.1) (Err (fault_at k (bytes ++ more)))) >>= g)) (sym h) (by_test x (test x.0))
    by_front (Err e) s (inl h) = inl h
    by_front (Err e) s (inr h) = inr (h.0, ap (λ t. (t >>= λ field. cond (test field.0) (Ok field.1) (Err (fault_at k (bytes ++ more)))) >>= g) h.1)

zeros_follow : {B : Type 0} (width : ℕ) (bytes more : List ℕ) (f g : List ℕ → Result (B × List ℕ) Fault) → ((rest : List ℕ) → Follows more (f rest) (g (rest ++ more))) → Follows more (zeros_at width bytes >>= f) (zeros_at width (bytes ++ more) >>= g)
zeros_follow width bytes more f g next = tested BadField width are_zeros bytes more f g bad next

repeated_follows : {S : Type 0} (part : Part S) (more : List ℕ) → ((s : S) (bytes : List ℕ) → Follows more (part s bytes) (part s (bytes ++ more))) → (n : ℕ) (s : S) (bytes : List ℕ) → Follows more (repeated part n s bytes) (repeated part n s (bytes ++ more))
repeated_follows part more each zero s bytes = refl
repeated_follows part more each (suc n) s bytes = follow more (part s bytes) (part s (bytes ++ more)) _ _ (each s bytes) (λ t rest. repeated_follows part more each n t rest)

list_follows : {A : Type 0} (item : Item A) (more : List ℕ) → ((before : List A) (bytes : List ℕ) → Follows more (item before bytes) (item before (bytes ++ more))) → (n : ℕ) (bytes : List ℕ) → Follows more (list_at item n bytes) (list_at item n (bytes ++ more))
list_follows item more each n bytes = repeated_follows (listed item) more (λ before rest. follow more (item before rest) (item before (rest ++ more)) _ _ (each before rest) (λ x next. refl)) n [] bytes

-- ---- the parts

code_follows : (n : ℕ) (bytes more : List ℕ) → Follows more (code_at n bytes) (code_at n (bytes ++ more))
unfolding code_at
code_follows n bytes more = list_follows (λ before. said_at w32 decode_of) more (λ before rest. number_follows w32 decode_of rest more) n bytes

switch_follows : (topo : Topology) (p n : ℕ) (bytes more : List ℕ) → Follows more (switch_at topo p n bytes) (switch_at topo p n (bytes ++ more))
unfolding switch_at
switch_follows topo p n bytes more = list_follows (λ before. said_at w64 (wired_of topo p)) more (λ before rest. number_follows w64 (wired_of topo p) rest more) n bytes

cell_follows : (least : ℕ) (bytes more : List ℕ) → Follows more (cell_at least bytes) (cell_at least (bytes ++ more))
unfolding cell_at
cell_follows least bytes more =
    follow more (said_at w32 (address_from least) bytes) (said_at w32 (address_from least) (bytes ++ more)) _ _ (number_follows w32 (address_from least) bytes more) (λ address r1.
    follow more (said_at w32 Some r1) (said_at w32 Some (r1 ++ more)) _ _ (number_follows w32 Some r1 more) (λ word r2. refl))

cells_follows : (n : ℕ) (bytes more : List ℕ) → Follows more (cells_at n bytes) (cells_at n (bytes ++ more))
unfolding cells_at
cells_follows n bytes more = list_follows (λ before. cell_at (least_behind before)) more (λ before rest. cell_follows (least_behind before) rest more) n bytes

misses_follows : (v : Version) (most : ℕ) (bytes more : List ℕ) → Follows more (misses_at v most bytes) (misses_at v most (bytes ++ more))
misses_follows version.One most bytes more = refl
misses_follows version.Two most bytes more =
    follow more (said_at w32 (between 0 most) bytes) (said_at w32 (between 0 most) (bytes ++ more)) _ _ (number_follows w32 (between 0 most) bytes more) (λ n r1. front_follows n r1 more)

tile_follows : (v : Version) (topo : Topology) (p : ℕ) (room : Room) (bytes more : List ℕ) → Follows more (tile_at v topo p room bytes) (tile_at v topo p room (bytes ++ more))
unfolding tile_at
tile_follows v topo p room bytes more =
    let count = λ (most : ℕ) (rest : List ℕ). said_at w32 (between 0 most) rest in
    follow more (count (min MAX_TILE_CODE room.code) bytes) (count (min MAX_TILE_CODE room.code) (bytes ++ more)) _ _ (number_follows w32 (between 0 (min MAX_TILE_CODE room.code)) bytes more) (λ n r1.
    follow more (code_at n r1) (code_at n (r1 ++ more)) _ _ (code_follows n r1 more) (λ code r2.
    follow more (count (min MAX_SWITCH_CODE room.switch) r2) (count (min MAX_SWITCH_CODE room.switch) (r2 ++ more)) _ _ (number_follows w32 (between 0 (min MAX_SWITCH_CODE room.switch)) r2 more) (λ m r3.
    follow more (switch_at topo p m r3) (switch_at topo p m (r3 ++ more)) _ _ (switch_follows topo p m r3 more) (λ switch r4.
    follow more (count (min MEMORY_WORDS room.cells) r4) (count (min MEMORY_WORDS room.cells) (r4 ++ more)) _ _ (number_follows w32 (between 0 (min MEMORY_WORDS room.cells)) r4 more) (λ k r5.
    follow more (cells_at k r5) (cells_at k (r5 ++ more)) _ _ (cells_follows k r5 more) (λ cells r6.
    follow more (misses_at v room.misses r6) (misses_at v room.misses (r6 ++ more)) _ _ (misses_follows v room.misses r6 more) (λ misses r7. refl)))))))

tiles_follows : (v : Version) (topo : Topology) (bytes more : List ℕ) → Follows more (tiles_at v topo bytes) (tiles_at v topo (bytes ++ more))
unfolding tiles_at
tiles_follows v topo bytes more =
    list_follows (λ before. tile_at v topo (tile_count topo + length before) (room_behind before)) more (λ before rest. tile_follows v topo (tile_count topo + length before) (room_behind before) rest more) (tile_count topo) bytes

show_follows : (tiles room : ℕ) (bytes more : List ℕ) → Follows more (show_at tiles room bytes) (show_at tiles room (bytes ++ more))
unfolding show_at
show_follows tiles room bytes more =
    follow more (said_at w32 (between 0 (tiles - 1)) bytes) (said_at w32 (between 0 (tiles - 1)) (bytes ++ more)) _ _ (number_follows w32 (between 0 (tiles - 1)) bytes more) (λ tile r1.
    follow more (said_at w32 (address_from 0) r1) (said_at w32 (address_from 0) (r1 ++ more)) _ _ (number_follows w32 (address_from 0) r1 more) (λ address r2.
    follow more (said_at w32 (between 1 (min room ((MEMORY_SIZE - address) / 4))) r2) (said_at w32 (between 1 (min room ((MEMORY_SIZE - address) / 4))) (r2 ++ more)) _ _ (number_follows w32 (between 1 (min room ((MEMORY_SIZE - address) / 4))) r2 more) (λ words r3. refl)))

shows_follows : (tiles : ℕ) (bytes more : List ℕ) → Follows more (shows_at tiles bytes) (shows_at tiles (bytes ++ more))
unfolding shows_at
shows_follows tiles bytes more =
    follow more (said_at w32 (between 0 MAX_SHOWS) bytes) (said_at w32 (between 0 MAX_SHOWS) (bytes ++ more)) _ _ (number_follows w32 (between 0 MAX_SHOWS) bytes more) (λ n r1.
    list_follows (λ before. show_at tiles (MAX_ALL_SHOWN - shown_in before)) more (λ before rest. show_follows tiles (MAX_ALL_SHOWN - shown_in before) rest more) n r1)

abbrev here : PortPlace → List ℕ → PortPlace × List ℕ
here place rest = (place, rest)

place_follows : (topo : Topology) (bytes more : List ℕ) → Follows more (place_at topo bytes) (place_at topo (bytes ++ more))
unfolding place_at
place_follows topo bytes more =
    follow more (byte_at kind_with bytes) (byte_at kind_with (bytes ++ more)) _ _ (byte_follows kind_with bytes more) (λ k r1.
    follow more (byte_at net_with r1) (byte_at net_with (r1 ++ more)) _ _ (byte_follows net_with r1 more) (λ net r2.
    follow more (byte_at Some r2) (byte_at Some (r2 ++ more)) _ _ (byte_follows Some r2 more) (λ x r3.
    follow more (byte_at Some r3) (byte_at Some (r3 ++ more)) _ _ (byte_follows Some r3 more) (λ y r4.
    follow more (byte_at side_with r4) (byte_at side_with (r4 ++ more)) _ _ (byte_follows side_with r4 more) (λ s r5.
    let place : PortPlace = record { kind = k; net = net; x = x; y = y; side = s } in
    by_tests place r2 r4 r5 (not (is_at_edge topo place)) (list_any (same_place place) topo.places))))))
  where
    by_tests : (place : PortPlace) (off double rest : List ℕ) (a b : Bool) → Follows more (cond a (Err (fault_at BadField off)) (cond b (Err (fault_at BadField double)) (Ok (here place rest)))) (cond a (Err (fault_at BadField (off ++ more))) (cond b (Err (fault_at BadField (double ++ more))) (Ok (here place (rest ++ more)))))
    by_tests place off double rest true b = told BadField off more bad
    by_tests place off double rest false true = told BadField double more bad
    by_tests place off double rest false false = refl

words_follows : (n : ℕ) (bytes more : List ℕ) → Follows more (words_at n bytes) (words_at n (bytes ++ more))
unfolding words_at
words_follows n bytes more = list_follows (λ before. said_at w32 Some) more (λ before rest. number_follows w32 Some rest more) n bytes

given_follows : (k : PortKind) (words capacity : ℕ) (bytes more : List ℕ) → Follows more (given_at k words capacity bytes) (given_at k words capacity (bytes ++ more))
given_follows kind.Source words capacity bytes more =
    follow more (said_at w32 (between 0 words) bytes) (said_at w32 (between 0 words) (bytes ++ more)) _ _ (number_follows w32 (between 0 words) bytes more) (λ n r1.
    follow more (words_at n r1) (words_at n (r1 ++ more)) _ _ (words_follows n r1 more) (λ ws r2. refl))
given_follows kind.Sink words capacity bytes more =
    follow more (said_at w32 (between 0 (min MAX_CAPACITY capacity)) bytes) (said_at w32 (between 0 (min MAX_CAPACITY capacity)) (bytes ++ more)) _ _ (number_follows w32 (between 0 (min MAX_CAPACITY capacity)) bytes more) (λ n r1. refl)

port_follows : (ports : Ports) (bytes more : List ℕ) → Follows more (port_at ports bytes) (port_at ports (bytes ++ more))
unfolding port_at
port_follows ports bytes more =
    let words = MAX_ALL_WORDS - words_in ports.programs in
    let capacity = MAX_ALL_CAPACITIES - capacity_in ports.programs in
    follow more (place_at ports.topo bytes) (place_at ports.topo (bytes ++ more)) _ _ (place_follows ports.topo bytes more) (λ place r1.
    zeros_follow 3 r1 more _ _ (λ r2.
    follow more (given_at place.kind words capacity r2) (given_at place.kind words capacity (r2 ++ more)) _ _ (given_follows place.kind words capacity r2 more) (λ given r3. refl)))

ports_follows : (columns rows : ℕ) (bytes more : List ℕ) → Follows more (ports_at columns rows bytes) (ports_at columns rows (bytes ++ more))
unfolding ports_at
ports_follows columns rows bytes more =
    let most = 8 * (columns + rows) in
    follow more (said_at w32 (between 0 most) bytes) (said_at w32 (between 0 most) (bytes ++ more)) _ _ (number_follows w32 (between 0 most) bytes more) (λ n r1.
    repeated_follows port_at more (λ ports rest. port_follows ports rest more) n (no_ports columns rows) r1)

depth_follows : (v : Version) (bytes more : List ℕ) → Follows more (depth_at v bytes) (depth_at v (bytes ++ more))
depth_follows version.One bytes more = zeros_follow 2 bytes more _ _ (λ rest. refl)
depth_follows version.Two bytes more =
    follow more (byte_at (between 1 MAX_DEPTH) bytes) (byte_at (between 1 MAX_DEPTH) (bytes ++ more)) _ _ (byte_follows (between 1 MAX_DEPTH) bytes more) (λ depth r1. zeros_follow 1 r1 more _ _ (λ rest. refl))

set_follows : (v : Version) (bytes more : List ℕ) → Follows more (set_at v bytes) (set_at v (bytes ++ more))
unfolding set_at
set_follows v bytes more =
    follow more (byte_at (between 1 MAX_SIZE) bytes) (byte_at (between 1 MAX_SIZE) (bytes ++ more)) _ _ (byte_follows (between 1 MAX_SIZE) bytes more) (λ columns r1.
    follow more (byte_at (between 1 MAX_SIZE) r1) (byte_at (between 1 MAX_SIZE) (r1 ++ more)) _ _ (byte_follows (between 1 MAX_SIZE) r1 more) (λ rows r2.
    follow more (depth_at v r2) (depth_at v (r2 ++ more)) _ _ (depth_follows v r2 more) (λ depth r3.
    follow more (said_at w32 (between 1 MAX_STEPS) r3) (said_at w32 (between 1 MAX_STEPS) (r3 ++ more)) _ _ (number_follows w32 (between 1 MAX_STEPS) r3 more) (λ limit r4.
    follow more (ports_at columns rows r4) (ports_at columns rows (r4 ++ more)) _ _ (ports_follows columns rows r4 more) (λ ports r5.
    follow more (tiles_at v ports.topo r5) (tiles_at v ports.topo (r5 ++ more)) _ _ (tiles_follows v ports.topo r5 more) (λ tiles r6.
    follow more (shows_at (tile_count ports.topo) r6) (shows_at (tile_count ports.topo) (r6 ++ more)) _ _ (shows_follows (tile_count ports.topo) r6 more) (λ shows r7. refl)))))))

version_follows : (bytes more : List ℕ) → Follows more (version_at bytes) (version_at (bytes ++ more))
version_follows bytes more =
    follow more (said_at w32 Some bytes) (said_at w32 Some (bytes ++ more)) _ _ (number_follows w32 Some bytes more) (λ n rest. said_follows BadVersion bytes rest more (version_with n) (λ e. absurd (cc e)))

-- ---- the whole

-- all fields, and the bytes behind them
abbrev fields : List ℕ → Result (ProgramSet × List ℕ) Fault
fields bytes = magic_at bytes >>= λ rest. version_at rest >>= λ v. set_at v.0 v.1

fields_follow : (bytes more : List ℕ) → Follows more (fields bytes) (fields (bytes ++ more))
fields_follow bytes more =
    tested BadMagic 4 (λ field. bytes_eq field (codes "RAWT")) bytes more _ _ (λ e. absurd (cc e)) (λ rest.
    follow more (version_at rest) (version_at (rest ++ more)) _ _ (version_follows rest more) (λ v r1. set_follows v r1 more))

abbrev ended : ProgramSet × List ℕ → Result ProgramSet Fault
ended x = cond (eqb (length x.1) 0) (Ok x.0) (Err (fault_at Extra x.1))

joined : {A B C : Type 0} (r : Result A Fault) (f : A → Result B Fault) (g : B → Result C Fault) → (r >>= λ x. f x >>= g) ≡ ((r >>= f) >>= g)
joined (Ok x) f g = refl
joined (Err e) f g = refl

reading_is : (bytes : List ℕ) → reading bytes ≡ (fields bytes >>= ended)
unfolding reading
reading_is bytes = by_magic (magic_at bytes)
  where
    by_magic : (r : Result (List ℕ) Fault) → (r >>= λ rest. version_at rest >>= λ v. set_at v.0 v.1 >>= ended) ≡ ((r >>= λ rest. version_at rest >>= λ v. set_at v.0 v.1) >>= ended)
    by_magic (Ok rest) = joined (version_at rest) (λ v. set_at v.0 v.1) ended
    by_magic (Err f) = refl

some_length : (xs ys : List ℕ) → 0 < length ys → eqb (length (xs ++ ys)) 0 ≡ false
some_length xs ys l = ne_eqb (length (xs ++ ys)) 0 (λ e. absurd (omega (arith, e, length-append xs ys, l)))

-- a fault of a front of bytes that are an image
front_short : (front more : List ℕ) (set : ProgramSet) → 0 < length more → reading (front ++ more) ≡ Ok set → reading front ≡ Err short
front_short front more set some e = by_fields (fields front) refl (fields_follow front more)
  where
    by_fields : (r : Result (ProgramSet × List ℕ) Fault) → fields front ≡ r → Follows more r (fields (front ++ more)) → reading front ≡ Err short
    by_fields (Ok x) h f =
        let whole : reading (front ++ more) ≡ ended (x.0, x.1 ++ more) = reading_is (front ++ more) ∙ ap (λ r. r >>= ended) f in
        let extra : ended (x.0, x.1 ++ more) ≡ Err (fault_at Extra (x.1 ++ more)) = ap (λ b. cond b (Ok x.0) (Err (fault_at Extra (x.1 ++ more)))) (some_length x.1 more some) in
        absurd (cc (sym e ∙ whole ∙ extra))
    by_fields (Err g) h (inl f) = reading_is front ∙ ap (λ r. r >>= ended) h ∙ ap (λ k. Err k) f
    by_fields (Err g) h (inr f) =
        let whole : reading (front ++ more) ≡ Err (later more g) = reading_is (front ++ more) ∙ ap (λ r. r >>= ended) f.1 in
        absurd (cc (sym e ∙ whole))

-- bytes behind an image
behind_extra : (bytes more : List ℕ) (set : ProgramSet) → 0 < length more → reading bytes ≡ Ok set → reading (bytes ++ more) ≡ Err (fault_at Extra more)
behind_extra bytes more set some e = by_fields (fields bytes) refl (fields_follow bytes more)
  where
    by_end : (x : ProgramSet × List ℕ) (b : Bool) → eqb (length x.1) 0 ≡ b → fields bytes ≡ Ok x → fields (bytes ++ more) ≡ Ok (x.0, x.1 ++ more) → reading (bytes ++ more) ≡ Err (fault_at Extra more)
    by_end x true t h f =
        let none : x.1 ≡ [] = nil_from_length x.1 (eqb-true _ _ t) in
        reading_is (bytes ++ more) ∙ ap (λ r. r >>= ended) f
        ∙ ap (λ b. cond b (Ok x.0) (Err (fault_at Extra (x.1 ++ more)))) (some_length x.1 more some)
        ∙ ap (λ xs. Err (fault_at Extra (xs ++ more))) none
    by_end x false t h f =
        let extra : reading bytes ≡ Err (fault_at Extra x.1) = reading_is bytes ∙ ap (λ r. r >>= ended) h ∙ ap (λ b. cond b (Ok x.0) (Err (fault_at Extra x.1))) t in
        absurd (cc (sym e ∙ extra))

    by_fields : (r : Result (ProgramSet × List ℕ) Fault) → fields bytes ≡ r → Follows more r (fields (bytes ++ more)) → reading (bytes ++ more) ≡ Err (fault_at Extra more)
    by_fields (Ok x) h f = by_end x (eqb (length x.1) 0) refl h f
    by_fields (Err g) h f = let whole : reading bytes ≡ Err g = reading_is bytes ∙ ap (λ r. r >>= ended) h in absurd (cc (sym e ∙ whole))

-- a fault of bytes: cut off, or behind the last field, or the same whatever follows
record IsFault (bytes more : List ℕ) (f : Fault) : Type 0 where
  pub cut_off : f.kind ≡ Short → f ≡ short
  pub stays : f.kind ≢ Short → f.kind ≢ Extra → reading (bytes ++ more) ≡ Err (later more f)

abbrev failed : Fault → Result ProgramSet Fault
failed f = Err f

same_fault : (f g : Fault) → failed f ≡ failed g → f ≡ g
same_fault f g e = cc

fault_is : (bytes more : List ℕ) (f : Fault) → reading bytes ≡ Err f → IsFault bytes more f
fault_is bytes more f e = by_fields (fields bytes) refl (fields_follow bytes more)
  where
    by_end : (x : ProgramSet × List ℕ) (b : Bool) → eqb (length x.1) 0 ≡ b → reading bytes ≡ cond b (Ok x.0) (Err (fault_at Extra x.1)) → IsFault bytes more f
    by_end x true t h = absurd (cc (sym e ∙ h))
    by_end x false t h =
        let extra : f.kind ≡ Extra = ap (λ (g : Fault). g.kind) (same_fault f (fault_at Extra x.1) (sym e ∙ h)) in
        record { cut_off = λ s. absurd (cc (s, extra)); stays = λ s other. absurd (other extra) }

    by_fields : (r : Result (ProgramSet × List ℕ) Fault) → fields bytes ≡ r → Follows more r (fields (bytes ++ more)) → IsFault bytes more f
    by_fields (Ok x) h k = by_end x (eqb (length x.1) 0) refl (reading_is bytes ∙ ap (λ r. r >>= ended) h)
    by_fields (Err g) h (inl k) =
        let same : f ≡ g = same_fault f g (sym e ∙ reading_is bytes ∙ ap (λ r. r >>= ended) h) in
        record { cut_off = λ s. same ∙ k; stays = λ s other. absurd (s (ap (λ (x : Fault). x.kind) (same ∙ k))) }
    by_fields (Err g) h (inr k) =
        let same : f ≡ g = same_fault f g (sym e ∙ reading_is bytes ∙ ap (λ r. r >>= ended) h) in
        record {
          cut_off = λ s. absurd (k.0 (sym (ap (λ (x : Fault). x.kind) same) ∙ s));
          stays = λ s other. reading_is (bytes ++ more) ∙ ap (λ r. r >>= ended) k.1 ∙ ap (λ x. Err (later more x)) (sym same);
        }

-- ---- what is so of first faults

pub fronts_short : (bytes : List ℕ) (set : ProgramSet) (n : ℕ) → reading bytes ≡ Ok set → n < length bytes → ImageFault (take n bytes) n Short
fronts_short bytes set n e l =
    let whole : reading (take n bytes ++ drop n bytes) ≡ Ok set = ap reading (take-append-drop n bytes) ∙ e in
    let some : 0 < length (drop n bytes) = omega (arith, length-drop n bytes) in
    record { left = 0; first = front_short (take n bytes) (drop n bytes) set some whole; place = omega (arith, length-take n bytes) }

pub behind_is_extra : (bytes more : List ℕ) (set : ProgramSet) → reading bytes ≡ Ok set → 0 < length more → ImageFault (bytes ++ more) (length bytes) Extra
behind_is_extra bytes more set e l =
    record { left = length more; first = behind_extra bytes more set l e; place = sym (length-append bytes more) }

pub short_at_end : (bytes : List ℕ) (offset : ℕ) → ImageFault bytes offset Short → offset ≡ length bytes
short_at_end bytes offset f =
    let none : f.left ≡ 0 = ap (λ (g : Fault). g.left) ((fault_is bytes [] (record { left = f.left; kind = Short }) f.first).cut_off refl) in
    omega (arith, f.place, none)

pub fault_stays : (bytes more : List ℕ) (offset : ℕ) (kind : ImageKind) → kind ≢ Short → kind ≢ Extra → ImageFault bytes offset kind → ImageFault (bytes ++ more) offset kind
fault_stays bytes more offset kind s x f = record {
  left = f.left + length more;
  first = (fault_is bytes more (record { left = f.left; kind = kind }) f.first).stays s x;
  place = omega (arith, f.place, length-append bytes more);
}
