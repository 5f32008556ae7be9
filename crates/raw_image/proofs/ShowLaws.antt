-- What the report shows, in an image: what is read is what is written.
use Rattle.std.proofs.Common.{◌≡◌, ℕ, ◌-◌, ◌/◌, ◌≤◌, List, [], ◌∷◌, ◌++◌, length, Result, Ok, Err, refl, sym, ap, ◌∙◌, append_assoc, arith, min}
use Rattle.std.specs.Int.{w32}
use Rattle.std.specs.List.{All, flat_map}
use Rattle.std.proofs.lemmas.List.Elements.{All-nil, All-push}
use Rattle.std.proofs.lemmas.List.Sums.{sum_by_push}
use Rattle.raw_grid.specs.Topology.{Topology, tile_count}
use Rattle.raw_model.specs.declared.limits.TheConstants.{MEMORY_SIZE, MAX_SHOWS, MAX_ALL_SHOWN}
use Rattle.raw_model.specs.declared.program.Show.{Show}
use Rattle.raw_model.specs.Program.{IsShow, memory_size}
use Rattle.raw_image.specs.declared.refused.Fault.{Fault}
use Rattle.raw_image.specs.Fields.{◌>>=◌, said_at, address_from, between, list_at}
use Rattle.raw_image.specs.Image.{number, counted, show_bytes}
use Rattle.raw_image.specs.Reading.{show_at, shows_at, shown_in}
use Rattle.raw_image.proofs.Bytes.{IsBytes, Takes, Takes-none, Takes-as, Holds, Sound, step, shorter, Takes-then, number_sound, number_again}
use Rattle.raw_image.proofs.Repeats.{list_sound, list_again}
use Rattle.raw_image.proofs.Seams.{all_seam, sum_seam, each_within}
use Rattle.raw_image.proofs.ProgramLaws.{IsAddress, address_sound, address_again}

-- what may be shown of so many tiles where so much room is left
record IsShowIn (tiles room : ℕ) (show : Show) : Type 0 where
  pub tile : show.tile ≤ tiles - 1
  pub address : IsAddress 0 show.address
  pub some : 1 ≤ show.words
  pub few : show.words ≤ min room ((MEMORY_SIZE - show.address) / 4)

show_sound : (tiles room : ℕ) (bytes : List ℕ) → IsBytes bytes → Sound bytes show_bytes (IsShowIn tiles room) (show_at tiles room bytes)
unfolding show_at
show_sound tiles room bytes fits =
    let P : Show → List ℕ → Type 0 = λ show rest. Takes bytes (show_bytes show) rest × IsShowIn tiles room show in
    step bytes [] bytes number (λ n. (0 ≤ n) × (n ≤ tiles - 1)) P _ _ (Takes-none bytes fits) (number_sound 0 (tiles - 1) bytes fits) (λ tile r1 t1 a.
    step bytes (number tile) r1 number (IsAddress 0) P _ _ t1 (address_sound 0 r1 t1.rest_fits) (λ address r2 t2 b.
    step bytes (number tile ++ number address) r2 number (λ n. (1 ≤ n) × (n ≤ min room ((MEMORY_SIZE - address) / 4))) P _ _ t2 (number_sound 1 (min room ((MEMORY_SIZE - address) / 4)) r2 t2.rest_fits) (λ words r3 t3 c. (
      Takes-as bytes ((number tile ++ number address) ++ number words) (number tile ++ (number address ++ number words)) r3 (append_assoc (number tile) (number address) (number words)) t3,
      record { tile = a.1; address = b; some = c.0; few = c.1 },
    ))))

abbrev made : ℕ → ℕ → ℕ → Show
made tile address words = record { tile = tile; address = address; words = words }

show_again : (tiles room : ℕ) (show : Show) (rest : List ℕ) → tiles ≤ 64 → IsShowIn tiles room show → show_at tiles room (show_bytes show ++ rest) ≡ Ok (show, rest)
unfolding show_at
show_again tiles room show rest small h =
    let w = number show.words ++ rest in
    let a = number show.address ++ w in
    ap (show_at tiles room) (append_assoc (number show.tile) (number show.address ++ number show.words) rest ∙ ap (λ t. number show.tile ++ t) (append_assoc (number show.address) (number show.words) rest))
    ∙ ap (λ r. r >>= λ tile. said_at w32 (address_from 0) tile.1 >>= λ address. said_at w32 (between 1 (min room ((MEMORY_SIZE - address.0) / 4))) address.1 >>= λ words. Ok (made tile.0 address.0 words.0, words.1))
    (number_again 0 (tiles - 1) show.tile a (omega (arith, h.tile)) (omega arith) h.tile)
    ∙ ap (λ r. r >>= λ address. said_at w32 (between 1 (min room ((MEMORY_SIZE - address.0) / 4))) address.1 >>= λ words. Ok (made show.tile address.0 words.0, words.1))
    (address_again 0 show.address w h.address)
    ∙ ap (λ r. r >>= λ words. Ok (made show.tile show.address words.0, words.1))
    (number_again 1 (min room ((MEMORY_SIZE - show.address) / 4)) show.words rest (omega (arith, h.few)) h.some h.few)

-- what is shown, within its total
pub record AreShows (topo : Topology) (shows : List Show) : Type 0 where
  pub each : All (IsShow topo) shows
  pub total : shown_in shows ≤ MAX_ALL_SHOWN

no_shows : (topo : Topology) → AreShows topo []
no_shows topo = record { each = All-nil (IsShow topo); total = omega arith }

more_shows : (topo : Topology) (shows : List Show) (show : Show) → 1 ≤ tile_count topo → AreShows topo shows → IsShowIn (tile_count topo) (MAX_ALL_SHOWN - shown_in shows) show → AreShows topo (shows ++ show ∷ [])
unfolding memory_size
more_shows topo shows show some h s = record {
  each = All-push (IsShow topo) shows show h.each (record { tile = omega (arith, s.tile, some); aligned = s.address.aligned; some = s.some; inside = omega (arith, s.few, s.address.inside) });
  total = omega (arith, sum_by_push (λ (x : Show). x.words) shows show, s.few, h.total);
}

one_more_show : (topo : Topology) (before : List Show) (rest : List ℕ) (r : Result (Show × List ℕ) Fault) → 1 ≤ tile_count topo → AreShows topo before → Sound rest show_bytes (IsShowIn (tile_count topo) (MAX_ALL_SHOWN - shown_in before)) r → Sound rest show_bytes (λ x. AreShows topo (before ++ x ∷ [])) r
one_more_show topo before rest (Ok x) some good h = (h.0, more_shows topo before x.0 some good h.1)
one_more_show topo before rest (Err f) some good h = h

-- the shows of a set, with their number
pub record AreAllShows (topo : Topology) (shows : List Show) : Type 0 where
  pub lawful : AreShows topo shows
  pub few : length shows ≤ MAX_SHOWS

pub shows_sound : (topo : Topology) (bytes : List ℕ) → 1 ≤ tile_count topo → IsBytes bytes → Sound bytes (counted show_bytes) (AreAllShows topo) (shows_at (tile_count topo) bytes)
unfolding shows_at
shows_sound topo bytes some fits =
    let P : List Show → List ℕ → Type 0 = λ shows rest. Takes bytes (counted show_bytes shows) rest × AreAllShows topo shows in
    let item = λ (before : List Show). show_at (tile_count topo) (MAX_ALL_SHOWN - shown_in before) in
    step bytes [] bytes number (λ n. (0 ≤ n) × (n ≤ MAX_SHOWS)) P _ _ (Takes-none bytes fits) (number_sound 0 MAX_SHOWS bytes fits) (λ n r1 t1 a.
    last n r1 t1 a.1 (list_at item n r1)
    (list_sound item show_bytes (AreShows topo) (no_shows topo)
    (λ before rest ok good. one_more_show topo before rest (item before rest) some good (show_sound (tile_count topo) (MAX_ALL_SHOWN - shown_in before) rest ok))
    n r1 t1.rest_fits))
  where
    last : (n : ℕ) (r1 : List ℕ) → Takes bytes (number n) r1 → n ≤ MAX_SHOWS → (r : Result (List Show × List ℕ) Fault) → Sound r1 (flat_map show_bytes) (λ xs. (length xs ≡ n) × AreShows topo xs) r → Holds bytes (λ shows rest. Takes bytes (counted show_bytes shows) rest × AreAllShows topo shows) r
    last n r1 t1 few (Ok x) h =
        (Takes-as bytes (number n ++ flat_map show_bytes x.0) (counted show_bytes x.0) x.1 (ap (λ m. number m ++ flat_map show_bytes x.0) (sym h.1.0)) (Takes-then bytes (number n) r1 (flat_map show_bytes x.0) x.1 t1 h.0), record { lawful = h.1.1; few = omega (arith, h.1.0) })
    last n r1 t1 few (Err f) h = omega (arith, h, shorter bytes (number n) r1 t1)

show_within : (topo : Topology) (whole before : List Show) (x : Show) (after : List Show) → before ++ (x ∷ after) ≡ whole → AreShows topo whole → IsShowIn (tile_count topo) (MAX_ALL_SHOWN - shown_in before) x
unfolding memory_size
show_within topo whole before x after e h =
    let s = all_seam (IsShow topo) whole before x after e h.each in
    record {
      tile = omega (arith, s.tile);
      address = record { aligned = s.aligned; low = omega arith; inside = omega (arith, s.inside, s.some) };
      some = s.some;
      few = omega (arith, s.inside, sum_seam (λ (show : Show). show.words) whole before x after e, h.total);
    }

pub shows_again : (topo : Topology) (shows : List Show) (rest : List ℕ) → tile_count topo ≤ 64 → AreAllShows topo shows → shows_at (tile_count topo) (counted show_bytes shows ++ rest) ≡ Ok (shows, rest)
unfolding shows_at
shows_again topo shows rest small h =
    let item = λ (before : List Show). show_at (tile_count topo) (MAX_ALL_SHOWN - shown_in before) in
    ap (shows_at (tile_count topo)) (append_assoc (number (length shows)) (flat_map show_bytes shows) rest)
    ∙ ap (λ r. r >>= λ count. list_at item count.0 count.1) (number_again 0 MAX_SHOWS (length shows) (flat_map show_bytes shows ++ rest) (omega (arith, h.few)) (omega arith) h.few)
    ∙ list_again item show_bytes [] shows rest
    (each_within item show_bytes shows
    (λ before x after e next. show_again (tile_count topo) (MAX_ALL_SHOWN - shown_in before) x next small (show_within topo shows before x after e h.lawful))
    [] shows refl)
