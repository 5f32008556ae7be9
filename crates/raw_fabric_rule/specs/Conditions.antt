-- What a view has to show before each step at the table.
use Rattle.std.specs.Prelude.{◌≡◌, ◌≢◌, ℕ, ◌+◌, ◌*◌, ◌%◌, ◌^◌, ◌<◌, ◌≤◌, false, List, [], ◌∷◌, map, slice_index}
use mathlib.Core.Option.{some}
use lib.ListN.{get_elem?}
use Rattle.raw_network.specs.Network.{count_of}
use Rattle.raw_model.specs.Machine.{is_stopped}
use Rattle.raw_fabric_rule.specs.declared.layout.TheConstants.{PLACES}
use Rattle.raw_fabric_rule.specs.Views.{About, Held, Hold, Part, View}
use Rattle.raw_fabric_rule.specs.ByEnds.{wires, producer, producer_end, consumer, consumer_end, needs, gives, fills, sent, value_at}
use Rattle.raw_fabric_rule.specs.Word.{pack}
use Rattle.raw_fabric_rule.specs.Plays.{HasHold, held, place_from, counts_after, values_of}

-- data word k of wire w holds a value that the seat has seen sent
abbrev pub IsSeenSent : About → View → ℕ → ℕ → Type 0
IsSeenSent about v w k =
    (u : Hold) → HasHold v (consumer about.set w) u →
    place_from (slice_index u.counts (consumer_end about.set w)) k < slice_index u.seen (consumer_end about.set w)

-- the seat may load data word k of wire w
pub record MayFetch (about : About) (v : View) (w k : ℕ) : Type 0 where
  pub wired : w < wires about.set
  pub place : k < PLACES
  pub seen : IsSeenSent about v w k

-- the seat may store x to data word k of wire w: it holds the producer, k is the next place, and no word is staged there yet
pub record MayStage (about : About) (v : View) (w k x : ℕ) : Type 0 where
  pub small : x < 2 ^ 32
  pub wired : w < wires about.set
  pub place : k < PLACES
  pub holder : Hold
  pub has : HasHold v (producer about.set w) holder
  pub next : k ≡ slice_index holder.counts (producer_end about.set w) % PLACES
  pub fresh : (u : Hold) → HasHold v (producer about.set w) u → (i : ℕ) (f : Held) → get_elem? u.staged i ≡ some f → f.end ≢ producer_end about.set w

-- what is to be fetched, with the values left out: an end that stands again takes the next place
abbrev pub wanted : List ℕ → List ℕ → List ℕ → List Held
wanted counts done [] = []
wanted counts done (end ∷ ends) = held end (slice_index counts end + count_of end done) 0 ∷ wanted counts (end ∷ done) ends

abbrev pub blank : Held → Held
blank f = held f.end f.place 0

-- all that the unit u of processor p shows before its next row
pub record ShowsRow (about : About) (p : ℕ) (u : Hold) : Type 0 where
  pub going : is_stopped about.set p u.local ≡ false
  -- the seen counts show the values and the room
  pub values : (end : ℕ) → 0 < count_of end (needs about.set p u.local) →
      slice_index u.counts end + count_of end (needs about.set p u.local) ≤ slice_index u.seen end
  pub room : (end : ℕ) → 0 < count_of end (gives about.set p u.local) →
      slice_index u.counts end < slice_index u.seen end + about.set.depth
  -- the operands are fetched, and what the row sends with them is staged
  pub fetched_all : map blank u.fetched ≡ wanted u.counts [] (needs about.set p u.local)
  pub staged_all : (end : ℕ) → 0 < count_of end (fills about.set p u.local (values_of u)) →
      (i : ℕ) × (f : Held) × (get_elem? u.staged i ≡ some f) × (f.end ≡ end) ×
      (f.value ≡ value_at (fills about.set p u.local (values_of u)) (sent about.set p u.local (values_of u)) end)

-- the seat may store this word as the status word of p
pub record MayFire (about : About) (v : View) (p word : ℕ) : Type 0 where
  pub part : Part
  pub alone : v.parts ≡ part ∷ []
  pub index : ℕ
  pub holder : Hold
  pub unit_at : get_elem? part.units index ≡ some holder
  pub number : p ≡ part.worker + index * part.about.workers
  pub shows : ShowsRow about p holder
  pub word_is : word ≡ pack (counts_after about.set p holder)
