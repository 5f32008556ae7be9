-- Whole images: what is read is what is written, and what is written is read again.
use Rattle.std.proofs.Common.{◌≡◌, ℕ, zero, suc, ◌-◌, ◌^◌, ◌<◌, ◌≤◌, Bool, true, false, cond, eqb, List, [], ◌∷◌, ◌++◌, length, drop, Option, Some, None, Result, Ok, Err, refl, sym, ap, subst, ◌∙◌, append_assoc, arith, inl, inr}
use Rattle.std.specs.Prelude.{codes}
use Rattle.std.specs.Int.{w32}
use Rattle.std.specs.Str.{bytes_eq}
use Rattle.std.specs.List.{All, flat_map}
use Rattle.std.proofs.Math.Nat.{one-le-mul}
use Rattle.std.proofs.lemmas.Bool.{eqb-true}
use Rattle.std.proofs.lemmas.Option.{same_Some, none-some}
use Rattle.std.proofs.lemmas.List.{append-nil, nil_from_length}
use Rattle.std.proofs.lemmas.Slice.Eq.{bytes_eq-Decides}
use Rattle.raw_image.specs.declared.version.TheConstants.{VERSION_1_DEPTH}
use Rattle.raw_grid.specs.declared.limits.TheConstants.{MAX_SIZE}
use Rattle.raw_grid.specs.Topology.{Topology, IsSize, IsTopology, tile_count}
use Rattle.raw_model.specs.declared.limits.TheConstants.{MAX_STEPS, MAX_DEPTH}
use Rattle.raw_model.specs.declared.program.Show.{Show}
use Rattle.raw_model.specs.Program.{ProgramSet, TileProgram, PortProgram, IsSet}
use Rattle.raw_image.specs.declared.kind.ImageKind.{ImageKind}
use Rattle.raw_image.specs.declared.kind.ImageKind.TheVariants.{BadMagic, BadVersion, Extra}
use Rattle.raw_image.specs.declared.refused.Fault.{Fault}
use Rattle.raw_image.specs.declared.version.Version.{Version}
use Rattle.raw_image.specs.declared.version.Version.TheVariants as version
use Rattle.raw_image.specs.Fields.{◌>>=◌, fault_at, front_at, said, said_at, byte_at, between, zeros_at}
use Rattle.raw_image.specs.Image.{IsImageIn, number, counted, ports_bytes, tile_bytes, show_bytes, version_number, depth_bytes, image_in, Image, ImageFault, Holds as InVersion}
use Rattle.raw_image.specs.Reading.{Ports, magic_at, version_with, version_at, depth_at, ports_at, tiles_at, shows_at, set_at, reading}
use Rattle.raw_image.specs.Answers.{HasOneAnswer}
use Rattle.raw_image.proofs.Bytes.{IsBytes, Takes, Takes-none, Takes-then, Takes-as, shorter, Sound, step, byte_sound, byte_again, between_is, between_again, word_sound, word_again, number_sound, number_again, IsFront, front_sound, front_again, zeros, zeros_one, zeros_two, zeros_step, zeros_again}
use Rattle.raw_image.proofs.TileLaws.{AreTiles, tiles_sound, tiles_again}
use Rattle.raw_image.proofs.ShowLaws.{AreAllShows, shows_sound, shows_again}
use Rattle.raw_image.proofs.PortLaws.{ArePorts, ArePortsOf, bytes_of, same_grid, ports_sound, ports_again}
use Rattle.raw_image.proofs.Promises.{Promises}

-- ---- the depth

record IsDepth (v : Version) (depth : ℕ) : Type 0 where
  pub some : 1 ≤ depth
  pub few : depth ≤ MAX_DEPTH
  pub held : v ≡ version.One → depth ≡ VERSION_1_DEPTH

-- a byte in a range
in_byte : (least most : ℕ) (bytes : List ℕ) → IsBytes bytes → Sound bytes (λ n. n ∷ []) (λ n. (least ≤ n) × (n ≤ most)) (byte_at (between least most) bytes)
in_byte least most bytes fits = byte_sound (between least most) (λ n. n ∷ []) (λ n. (least ≤ n) × (n ≤ most)) (λ n x lt e. let b = between_is least most n x e in (ap (λ m. m ∷ []) (sym b.0), (b.1, b.2))) bytes fits

depth_sound : (v : Version) (bytes : List ℕ) → IsBytes bytes → Sound bytes (depth_bytes v) (IsDepth v) (depth_at v bytes)
depth_sound version.One bytes fits =
    zeros_step bytes [] bytes (λ depth rest. Takes bytes (depth_bytes version.One depth) rest × IsDepth version.One depth) 2 _ (Takes-none bytes fits) (λ next t.
    (Takes-as bytes (zeros 2) (0 ∷ 0 ∷ []) next zeros_two t, record { some = omega arith; few = omega arith; held = λ _. refl }))
depth_sound version.Two bytes fits =
    let P : ℕ → List ℕ → Type 0 = λ depth rest. Takes bytes (depth_bytes version.Two depth) rest × IsDepth version.Two depth in
    step bytes [] bytes (λ n. n ∷ []) (λ n. (1 ≤ n) × (n ≤ MAX_DEPTH)) P _ _ (Takes-none bytes fits) (in_byte 1 MAX_DEPTH bytes fits) (λ depth r1 t1 a.
    zeros_step bytes (depth ∷ []) r1 P 1 _ t1 (λ next t.
    (Takes-as bytes (depth ∷ [] ++ zeros 1) (depth ∷ 0 ∷ []) next (ap (λ z. depth ∷ z) zeros_one) t, record { some = a.0; few = a.1; held = λ e. absurd (cc e) })))

depth_again : (v : Version) (depth : ℕ) (rest : List ℕ) → IsDepth v depth → depth_at v (depth_bytes v depth ++ rest) ≡ Ok (depth, rest)
depth_again version.One depth rest h =
    ap (λ r. r >>= λ next. Ok (VERSION_1_DEPTH, next)) (ap (λ z. zeros_at 2 (z ++ rest)) (sym zeros_two) ∙ zeros_again 2 rest) ∙ ap (λ d. Ok (d, rest)) (sym (h.held refl))
depth_again version.Two depth rest h =
    ap (λ r. r >>= λ d. zeros_at 1 d.1 >>= λ next. Ok (d.0, next)) (byte_again (between 1 MAX_DEPTH) depth depth (0 ∷ rest) (between_again 1 MAX_DEPTH depth h.some h.few))
    ∙ ap (λ r. r >>= λ next. Ok (depth, next)) (ap (λ z. zeros_at 1 (z ++ rest)) (sym zeros_one) ∙ zeros_again 1 rest)

-- ---- the fields behind the version

abbrev set_bytes : Version → ProgramSet → List ℕ
set_bytes v set =
    (set.topo.cols ∷ set.topo.rows ∷ depth_bytes v set.depth ++ number set.limit)
    ++ (ports_bytes set.topo.places set.ports ++ (flat_map (tile_bytes v) set.tiles ++ counted show_bytes set.shows))

record IsSetIn (v : Version) (set : ProgramSet) : Type 0 where
  pub lawful : IsSet set
  pub held : InVersion v set

held_in : (v : Version) (set : ProgramSet) → (v ≡ version.One → set.depth ≡ VERSION_1_DEPTH) → (v ≡ version.One → All (λ (tile : TileProgram). tile.misses ≡ []) set.tiles) → InVersion v set
held_in version.One set d m = (d refl, m refl)
held_in version.Two set d m = tt

made_set : (v : Version) (columns rows depth limit : ℕ) (ports : Ports) (tiles : List TileProgram) (shows : List Show) → IsSize columns rows → IsDepth v depth → (1 ≤ limit) × (limit ≤ MAX_STEPS) → ArePortsOf columns rows ports → (length tiles ≡ tile_count ports.topo) × AreTiles v ports.topo tiles → AreAllShows ports.topo shows
    → IsSetIn v (record { topo = ports.topo; limit = limit; depth = depth; ports = ports.programs; tiles = tiles; shows = shows })
made_set v columns rows depth limit ports tiles shows size d l p t s = record {
  lawful = record {
    topology = subst IsTopology (sym (same_grid ports.topo columns rows p.cols_are p.rows_are)) p.lawful.topology;
    some_steps = l.0;
    few_steps = l.1;
    some_depth = d.some;
    small_depth = d.few;
    each_port = p.lawful.each;
    each_tile = t.0;
    port_programs = p.lawful.lawful;
    port_kinds = p.lawful.kinds;
    tile_programs = t.1.each;
    wires = t.1.wires;
    shows = s.lawful.each;
    totals = record {
      instructions = t.1.code;
      switch_instructions = t.1.switch;
      cells = t.1.cells;
      misses = t.1.misses;
      words = p.lawful.words;
      capacities = p.lawful.capacity;
      shows = s.few;
      shown = s.lawful.total;
    };
  };
  held = held_in v (record { topo = ports.topo; limit = limit; depth = depth; ports = ports.programs; tiles = tiles; shows = shows }) d.held t.1.held;
}

set_text : (c r : ℕ) (d l p t s : List ℕ) → (((((c ∷ []) ++ (r ∷ [])) ++ d) ++ l) ++ p) ++ t ++ s ≡ (c ∷ r ∷ d ++ l) ++ (p ++ (t ++ s))
set_text c r d l p t s = append_assoc ((c ∷ r ∷ d ++ l) ++ p) t s ∙ append_assoc (c ∷ r ∷ d ++ l) p (t ++ s)

some_tiles : (topo : Topology) → IsSize topo.cols topo.rows → 1 ≤ tile_count topo
some_tiles topo size = one-le-mul size.some_cols size.some_rows

set_sound : Promises → (v : Version) (bytes : List ℕ) → IsBytes bytes → Sound bytes (set_bytes v) (IsSetIn v) (set_at v bytes)
unfolding set_at
set_sound promised v bytes fits =
    let P : ProgramSet → List ℕ → Type 0 = λ set rest. Takes bytes (set_bytes v set) rest × IsSetIn v set in
    step bytes [] bytes (λ n. n ∷ []) (λ n. (1 ≤ n) × (n ≤ MAX_SIZE)) P _ _ (Takes-none bytes fits) (in_byte 1 MAX_SIZE bytes fits) (λ columns r1 t1 a.
    step bytes (columns ∷ []) r1 (λ n. n ∷ []) (λ n. (1 ≤ n) × (n ≤ MAX_SIZE)) P _ _ t1 (in_byte 1 MAX_SIZE r1 t1.rest_fits) (λ rows r2 t2 b.
    let size : IsSize columns rows = record { some_cols = a.0; most_cols = a.1; some_rows = b.0; most_rows = b.1 } in
    step bytes (columns ∷ rows ∷ []) r2 (depth_bytes v) (IsDepth v) P _ _ t2 (depth_sound v r2 t2.rest_fits) (λ depth r3 t3 d.
    step bytes (columns ∷ rows ∷ depth_bytes v depth) r3 number (λ n. (1 ≤ n) × (n ≤ MAX_STEPS)) P _ _ t3 (number_sound 1 MAX_STEPS r3 t3.rest_fits) (λ limit r4 t4 l.
    step bytes (columns ∷ rows ∷ depth_bytes v depth ++ number limit) r4 bytes_of (ArePortsOf columns rows) P _ _ t4 (ports_sound columns rows r4 size t4.rest_fits) (λ ports r5 t5 p.
    let topology : IsTopology ports.topo = subst IsTopology (sym (same_grid ports.topo columns rows p.cols_are p.rows_are)) p.lawful.topology in
    step bytes ((columns ∷ rows ∷ depth_bytes v depth ++ number limit) ++ bytes_of ports) r5 (flat_map (tile_bytes v)) (λ ts. (length ts ≡ tile_count ports.topo) × AreTiles v ports.topo ts) P _ _ t5 (tiles_sound promised v ports.topo r5 t5.rest_fits) (λ tiles r6 t6 t.
    step bytes (((columns ∷ rows ∷ depth_bytes v depth ++ number limit) ++ bytes_of ports) ++ flat_map (tile_bytes v) tiles) r6 (counted show_bytes) (AreAllShows ports.topo) P _ _ t6 (shows_sound ports.topo r6 (some_tiles ports.topo topology.size) t6.rest_fits) (λ shows r7 t7 s.
    let rest_text = bytes_of ports ++ (flat_map (tile_bytes v) tiles ++ counted show_bytes shows) in (
      Takes-as bytes ((((columns ∷ rows ∷ depth_bytes v depth ++ number limit) ++ bytes_of ports) ++ flat_map (tile_bytes v) tiles) ++ counted show_bytes shows) (set_bytes v (record { topo = ports.topo; limit = limit; depth = depth; ports = ports.programs; tiles = tiles; shows = shows })) r7
          (set_text columns rows (depth_bytes v depth) (number limit) (bytes_of ports) (flat_map (tile_bytes v) tiles) (counted show_bytes shows)
          ∙ ap (λ n. (n ∷ rows ∷ depth_bytes v depth ++ number limit) ++ rest_text) (sym p.cols_are) ∙ ap (λ n. (ports.topo.cols ∷ n ∷ depth_bytes v depth ++ number limit) ++ rest_text) (sym p.rows_are)) t7,
      made_set v columns rows depth limit ports tiles shows size d l p t s,
    ))))))))

held_depth : (v : Version) (set : ProgramSet) → InVersion v set → v ≡ version.One → set.depth ≡ VERSION_1_DEPTH
held_depth version.One set h e = h.0
held_depth version.Two set h e = absurd (cc e)

held_misses : (v : Version) (set : ProgramSet) → InVersion v set → v ≡ version.One → All (λ (tile : TileProgram). tile.misses ≡ []) set.tiles
held_misses version.One set h e = h.1
held_misses version.Two set h e = absurd (cc e)

abbrev made : Topology → ℕ → ℕ → List PortProgram → List TileProgram → List Show → ProgramSet
made topo limit depth ports tiles shows = record { topo = topo; limit = limit; depth = depth; ports = ports; tiles = tiles; shows = shows }

parts_apart : (h p t s rest : List ℕ) → (h ++ (p ++ (t ++ s))) ++ rest ≡ h ++ (p ++ (t ++ (s ++ rest)))
parts_apart h p t s rest = simp append_assoc

set_again : Promises → (v : Version) (set : ProgramSet) (rest : List ℕ) → IsSetIn v set → set_at v (set_bytes v set ++ rest) ≡ Ok (set, rest)
unfolding set_at
set_again promised v set rest h =
    let s = h.lawful in
    let size = s.topology.size in
    let topo = set.topo in
    let sh = counted show_bytes set.shows ++ rest in
    let ts = flat_map (tile_bytes v) set.tiles ++ sh in
    let ps = ports_bytes topo.places set.ports ++ ts in
    let ls = number set.limit ++ ps in
    let ds = depth_bytes v set.depth ++ ls in
    let are_ports : ArePorts topo.cols topo.rows topo.places set.ports = record { topology = s.topology; each = s.each_port; lawful = s.port_programs; kinds = s.port_kinds; words = s.totals.words; capacity = s.totals.capacities } in
    let are_tiles : AreTiles v topo set.tiles = record { each = s.tile_programs; wires = s.wires; held = held_misses v set h.held; code = s.totals.instructions; switch = s.totals.switch_instructions; cells = s.totals.cells; misses = s.totals.misses } in
    let are_shows : AreAllShows topo set.shows = record { lawful = record { each = s.shows; total = s.totals.shown }; few = s.totals.shows } in
    ap (set_at v) (parts_apart (topo.cols ∷ topo.rows ∷ depth_bytes v set.depth ++ number set.limit) (ports_bytes topo.places set.ports) (flat_map (tile_bytes v) set.tiles) (counted show_bytes set.shows) rest ∙ ap (λ t. topo.cols ∷ topo.rows ∷ t) (append_assoc (depth_bytes v set.depth) (number set.limit) ps))
    ∙ ap (λ r. r >>= λ c. byte_at (between 1 MAX_SIZE) c.1 >>= λ w. depth_at v w.1 >>= λ d. said_at w32 (between 1 MAX_STEPS) d.1 >>= λ l. ports_at c.0 w.0 l.1 >>= λ p. tiles_at v p.0.topo p.1 >>= λ t. shows_at (tile_count p.0.topo) t.1 >>= λ x. Ok (made p.0.topo l.0 d.0 p.0.programs t.0 x.0, x.1))
    (byte_again (between 1 MAX_SIZE) topo.cols topo.cols (topo.rows ∷ ds) (between_again 1 MAX_SIZE topo.cols size.some_cols size.most_cols))
    ∙ ap (λ r. r >>= λ w. depth_at v w.1 >>= λ d. said_at w32 (between 1 MAX_STEPS) d.1 >>= λ l. ports_at topo.cols w.0 l.1 >>= λ p. tiles_at v p.0.topo p.1 >>= λ t. shows_at (tile_count p.0.topo) t.1 >>= λ x. Ok (made p.0.topo l.0 d.0 p.0.programs t.0 x.0, x.1))
    (byte_again (between 1 MAX_SIZE) topo.rows topo.rows ds (between_again 1 MAX_SIZE topo.rows size.some_rows size.most_rows))
    ∙ ap (λ r. r >>= λ d. said_at w32 (between 1 MAX_STEPS) d.1 >>= λ l. ports_at topo.cols topo.rows l.1 >>= λ p. tiles_at v p.0.topo p.1 >>= λ t. shows_at (tile_count p.0.topo) t.1 >>= λ x. Ok (made p.0.topo l.0 d.0 p.0.programs t.0 x.0, x.1))
    (depth_again v set.depth ls (record { some = s.some_depth; few = s.small_depth; held = held_depth v set h.held }))
    ∙ ap (λ r. r >>= λ l. ports_at topo.cols topo.rows l.1 >>= λ p. tiles_at v p.0.topo p.1 >>= λ t. shows_at (tile_count p.0.topo) t.1 >>= λ x. Ok (made p.0.topo l.0 set.depth p.0.programs t.0 x.0, x.1))
    (number_again 1 MAX_STEPS set.limit ps (omega (arith, s.few_steps)) s.some_steps s.few_steps)
    ∙ ap (λ r. r >>= λ p. tiles_at v p.0.topo p.1 >>= λ t. shows_at (tile_count p.0.topo) t.1 >>= λ x. Ok (made p.0.topo set.limit set.depth p.0.programs t.0 x.0, x.1))
    (ports_again promised topo.cols topo.rows topo.places set.ports ts are_ports)
    ∙ ap (λ r. r >>= λ t. shows_at (tile_count topo) t.1 >>= λ x. Ok (made topo set.limit set.depth set.ports t.0 x.0, x.1))
    (tiles_again promised v topo set.tiles sh s.each_tile are_tiles)
    ∙ ap (λ r. r >>= λ x. Ok (made topo set.limit set.depth set.ports set.tiles x.0, x.1))
    (shows_again topo set.shows rest (omega (arith, promised.tiles topo s.topology)) are_shows)

-- ---- the whole

-- what the bytes of an image say, or a fault within them
abbrev pub IsWhole : List ℕ → Result ProgramSet Fault → Type 0
IsWhole bytes (Ok set) = Image bytes set
IsWhole bytes (Err f) = f.left ≤ length bytes

image_text : (v : Version) (set : ProgramSet) → image_in v set ≡ codes "RAWT" ++ (number (version_number v) ++ set_bytes v set)
unfolding image_in
image_text v set =
    let tail = ports_bytes set.topo.places set.ports ++ (flat_map (tile_bytes v) set.tiles ++ counted show_bytes set.shows) in
    let head = set.topo.cols ∷ set.topo.rows ∷ depth_bytes v set.depth ++ number set.limit in
    append_assoc (codes "RAWT") (number (version_number v) ++ head) tail ∙ ap (λ t. codes "RAWT" ++ t) (append_assoc (number (version_number v)) head tail)

version_says : (n : ℕ) (v : Version) → version_with n ≡ Some v → version_number v ≡ n
version_says n v e = by_tests (eqb n 1) (eqb n 2) refl refl e
  where
    by_tests : (a b : Bool) → eqb n 1 ≡ a → eqb n 2 ≡ b → cond a (Some version.One) (cond b (Some version.Two) None) ≡ Some v → version_number v ≡ n
    by_tests true b p q f = ap version_number (sym (same_Some version.One v f)) ∙ sym (eqb-true n 1 p)
    by_tests false true p q f = ap version_number (sym (same_Some version.Two v f)) ∙ sym (eqb-true n 2 q)
    by_tests false false p q f = absurd (none-some v f)

version_back : (v : Version) → version_with (version_number v) ≡ Some v
version_back version.One = refl
version_back version.Two = refl

version_sound : (bytes : List ℕ) → IsBytes bytes → Sound bytes (λ v. number (version_number v)) (λ v. Unit {0}) (version_at bytes)
version_sound bytes fits = by_number (said_at w32 Some bytes) (word_sound bytes fits)
  where
    by_version : (x : ℕ × List ℕ) (o : Option Version) → version_with x.0 ≡ o → Takes bytes (number x.0) x.1 → Sound bytes (λ v. number (version_number v)) (λ v. Unit {0}) (said (fault_at BadVersion bytes) x.1 o)
    by_version x (Some v) e t = (Takes-as bytes (number x.0) (number (version_number v)) x.1 (ap number (sym (version_says x.0 v e))) t, tt)
    by_version x None e t = omega arith

    by_number : (r : Result (ℕ × List ℕ) Fault) → Sound bytes number (λ n. n < 2 ^ 32) r → Sound bytes (λ v. number (version_number v)) (λ v. Unit {0}) (r >>= λ n. said (fault_at BadVersion bytes) n.1 (version_with n.0))
    by_number (Ok x) h = by_version x (version_with x.0) refl h.0
    by_number (Err f) h = h

-- nothing may stand behind the last field
abbrev ended : ProgramSet × List ℕ → Result ProgramSet Fault
ended x = cond (eqb (length x.1) 0) (Ok x.0) (Err (fault_at Extra x.1))

ended_sound : (bytes : List ℕ) (v : Version) (x : ProgramSet × List ℕ) → Takes bytes (codes "RAWT" ++ (number (version_number v) ++ set_bytes v x.0)) x.1 → IsSetIn v x.0 → IsWhole bytes (ended x)
ended_sound bytes v x t s = by_test (eqb (length x.1) 0) refl
  where
    by_test : (b : Bool) → eqb (length x.1) 0 ≡ b → IsWhole bytes (cond b (Ok x.0) (Err (fault_at Extra x.1)))
    by_test true e =
        let none : x.1 ≡ [] = nil_from_length x.1 (eqb-true _ _ e) in
        let text = codes "RAWT" ++ (number (version_number v) ++ set_bytes v x.0) in
        (v, record { lawful = s.lawful; held = s.held; fields = t.parts ∙ ap (λ r. text ++ r) none ∙ append-nil text ∙ sym (image_text v x.0) })
    by_test false e = shorter bytes _ x.1 t

set_ends : (bytes : List ℕ) (v : Version) (rest : List ℕ) (r : Result (ProgramSet × List ℕ) Fault) → Takes bytes (codes "RAWT" ++ number (version_number v)) rest → Sound rest (set_bytes v) (IsSetIn v) r → IsWhole bytes (r >>= ended)
set_ends bytes v rest (Ok x) t h =
    ended_sound bytes v x (Takes-as bytes ((codes "RAWT" ++ number (version_number v)) ++ set_bytes v x.0) (codes "RAWT" ++ (number (version_number v) ++ set_bytes v x.0)) x.1 (append_assoc (codes "RAWT") (number (version_number v)) (set_bytes v x.0)) (Takes-then bytes (codes "RAWT" ++ number (version_number v)) rest (set_bytes v x.0) x.1 t h.0)) h.1
set_ends bytes v rest (Err f) t h = omega (arith, h, shorter bytes (codes "RAWT" ++ number (version_number v)) rest t)

version_ends : Promises → (bytes rest : List ℕ) (r : Result (Version × List ℕ) Fault) → Takes bytes (codes "RAWT") rest → Sound rest (λ v. number (version_number v)) (λ v. Unit {0}) r → IsWhole bytes (r >>= λ v. set_at v.0 v.1 >>= ended)
version_ends promised bytes rest (Ok x) t h =
    let next = Takes-then bytes (codes "RAWT") rest (number (version_number x.0)) x.1 t h.0 in
    set_ends bytes x.0 x.1 (set_at x.0 x.1) next (set_sound promised x.0 x.1 next.rest_fits)
version_ends promised bytes rest (Err f) t h = omega (arith, h, shorter bytes (codes "RAWT") rest t)

magic_ends : Promises → (bytes : List ℕ) (r : Result (List ℕ × List ℕ) Fault) → Sound bytes (λ x. x) (IsFront 4) r
    → IsWhole bytes ((r >>= λ field. cond (bytes_eq field.0 (codes "RAWT")) (Ok field.1) (Err (fault_at BadMagic bytes))) >>= λ rest. version_at rest >>= λ v. set_at v.0 v.1 >>= ended)
magic_ends promised bytes (Err f) h = h
magic_ends promised bytes (Ok x) h = by_test (bytes_eq x.0 (codes "RAWT")) refl
  where
    by_test : (b : Bool) → bytes_eq x.0 (codes "RAWT") ≡ b → IsWhole bytes (cond b (Ok x.1) (Err (fault_at BadMagic bytes)) >>= λ rest. version_at rest >>= λ v. set_at v.0 v.1 >>= ended)
    by_test true e =
        let same : x.0 ≡ codes "RAWT" = (bytes_eq-Decides x.0 (codes "RAWT")).0 e in
        version_ends promised bytes x.1 (version_at x.1) (Takes-as bytes x.0 (codes "RAWT") x.1 same h.0) (version_sound x.1 h.0.rest_fits)
    by_test false e = omega arith

-- what is read is an image of what was read, and a fault is within the bytes
pub reading_sound : Promises → (bytes : List ℕ) → IsBytes bytes → IsWhole bytes (reading bytes)
unfolding reading
reading_sound promised bytes fits = magic_ends promised bytes (front_at 4 bytes) (front_sound 4 bytes fits)

magic_again : (rest : List ℕ) → magic_at (codes "RAWT" ++ rest) ≡ Ok rest
magic_again rest = ap (λ r. r >>= λ field. cond (bytes_eq field.0 (codes "RAWT")) (Ok field.1) (Err (fault_at BadMagic (codes "RAWT" ++ rest)))) (front_again 4 (codes "RAWT") rest refl)

number_few : (v : Version) → version_number v < 2 ^ 32
number_few version.One = omega arith
number_few version.Two = omega arith

version_again : (v : Version) (rest : List ℕ) → version_at (number (version_number v) ++ rest) ≡ Ok (v, rest)
version_again v rest =
    ap (λ r. r >>= λ n. said (fault_at BadVersion (number (version_number v) ++ rest)) n.1 (version_with n.0)) (word_again (version_number v) rest (number_few v))
    ∙ ap (said (fault_at BadVersion (number (version_number v) ++ rest)) rest) (version_back v)

-- what is written is read again
pub reading_again : Promises → (v : Version) (set : ProgramSet) → IsSet set → InVersion v set → reading (image_in v set) ≡ Ok set
unfolding reading
reading_again promised v set lawful held =
    ap reading (image_text v set)
    ∙ ap (λ r. r >>= λ rest. version_at rest >>= λ w. set_at w.0 w.1 >>= ended) (magic_again (number (version_number v) ++ set_bytes v set))
    ∙ ap (λ r. r >>= λ w. set_at w.0 w.1 >>= ended) (version_again v (set_bytes v set))
    ∙ ap (λ r. r >>= ended) (ap (set_at v) (sym (append-nil (set_bytes v set))) ∙ set_again promised v set [] (record { lawful = lawful; held = held }))

-- ---- images and faults

-- the version that was read, or this one
abbrev version_in : Version → Result (Version × List ℕ) Fault → Version
version_in v (Ok x) = x.0
version_in v (Err f) = v

version_shown : (v w : Version) (x y : List ℕ) → codes "RAWT" ++ (number (version_number v) ++ x) ≡ codes "RAWT" ++ (number (version_number w) ++ y) → v ≡ w
version_shown v w x y e =
    let behind : number (version_number v) ++ x ≡ number (version_number w) ++ y = ap (drop 4) e in
    let same : version_at (number (version_number v) ++ x) ≡ version_at (number (version_number w) ++ y) = ap version_at behind in
    ap (version_in v) (sym (version_again v x) ∙ same ∙ version_again w y)

-- bytes are an image in one version alone
pub one_version : (bytes : List ℕ) (v w : Version) (a b : ProgramSet) → IsImageIn v bytes a → IsImageIn w bytes b → v ≡ w
one_version bytes v w a b i j = version_shown v w (set_bytes v a) (set_bytes w b) (sym (image_text v a) ∙ sym i.fields ∙ j.fields ∙ image_text w b)

pub image_reads : Promises → (bytes : List ℕ) (set : ProgramSet) → Image bytes set → reading bytes ≡ Ok set
image_reads promised bytes set (v, i) = ap reading i.fields ∙ reading_again promised v set i.lawful i.held

pub reads_image : Promises → (bytes : List ℕ) (set : ProgramSet) → IsBytes bytes → reading bytes ≡ Ok set → Image bytes set
reads_image promised bytes set fits e = subst (IsWhole bytes) e (reading_sound promised bytes fits)

pub fault_within : Promises → (bytes : List ℕ) (f : Fault) → IsBytes bytes → reading bytes ≡ Err f → f.left ≤ length bytes
fault_within promised bytes f fits e = subst (IsWhole bytes) e (reading_sound promised bytes fits)

-- an image has no fault
pub image_or_fault : (bytes : List ℕ) (set : ProgramSet) (offset : ℕ) (kind : ImageKind) → reading bytes ≡ Ok set → ImageFault bytes offset kind → ⊥
image_or_fault bytes set offset kind e f = absurd (cc (e, f.first))

-- the fault that was read
pub fault_read : (bytes : List ℕ) (f : Fault) → f.left ≤ length bytes → reading bytes ≡ Err f → ImageFault bytes (length bytes - f.left) f.kind
fault_read bytes f within e = record { left = f.left; first = e; place = omega arith }

abbrev failed : Fault → Result ProgramSet Fault
failed f = Err f

same_fault : (f g : Fault) → failed f ≡ failed g → f ≡ g
same_fault f g e = cc

-- the first fault is the one that was read
pub one_fault : (bytes : List ℕ) (f : Fault) (offset : ℕ) (kind : ImageKind) → f.left ≤ length bytes → reading bytes ≡ Err f → ImageFault bytes offset kind → (offset ≡ length bytes - f.left) × (kind ≡ f.kind)
one_fault bytes f offset kind within e g =
    let same : f ≡ record { left = g.left; kind = kind } = same_fault f (record { left = g.left; kind = kind }) (sym e ∙ g.first) in
    let left : f.left ≡ g.left = ap (λ (x : Fault). x.left) same in
    (omega (arith, g.place, left, within), sym (ap (λ (x : Fault). x.kind) same))

pub one_answer : Promises → (bytes : List ℕ) → IsBytes bytes → HasOneAnswer bytes
one_answer promised bytes fits = by_reading (reading bytes) refl
  where
    same_ok : (a b : ProgramSet) → reading bytes ≡ Ok a → reading bytes ≡ Ok b → b ≡ a
    same_ok a b e f = cc (e, f)

    by_reading : (r : Result ProgramSet Fault) → reading bytes ≡ r → HasOneAnswer bytes
    by_reading (Ok set) e = inl (
      set,
      record {
        image = reads_image promised bytes set fits e;
        only = λ other i. same_ok set other e (image_reads promised bytes other i);
        no_fault = λ offset kind f. image_or_fault bytes set offset kind e f;
      },
    )
    by_reading (Err f) e =
        let within = fault_within promised bytes f fits e in
        inr (
          length bytes - f.left,
          (
            f.kind,
            record {
              fault = fault_read bytes f within e;
              one_place = λ other told g. (one_fault bytes f other told within e g).0;
              one_kind = λ other told g. (one_fault bytes f other told within e g).1;
              no_image = λ set i. absurd (cc (e, image_reads promised bytes set i));
            },
          ),
        )

pub bytes_from_all : (bytes : List ℕ) → All (λ byte. byte < 256) bytes → IsBytes bytes
bytes_from_all [] h i = omega arith
bytes_from_all (b ∷ bytes) h zero = h 0 b (omega arith)
bytes_from_all (b ∷ bytes) h (suc i) = bytes_from_all bytes (λ k d l. h (suc k) d (omega (arith, l))) i
