-- What a turn has seen of the ends of a row, and why a processor waits.
use Rattle.std.specs.Prelude.{◌≡◌, ℕ, suc, ◌+◌, ◌-◌, ◌%◌, ◌<◌, ◌≤◌, ◌⊎◌, Bool, false, nat_lt, nat_le, if◌then◌else◌, slice_index, true}
use Rattle.raw_network.specs.Network.{count_of}
use Rattle.raw_network.specs.Waits.{lacks_values, lacks_room}
use Rattle.raw_model.specs.Local.{Local}
use Rattle.raw_model.specs.Machine.{is_stopped, takes, sends}
use Rattle.raw_model.specs.Rest.{enabled}
use Rattle.raw_fabric_rule.specs.declared.layout.TheConstants.{PLACES, END_COUNT}
use Rattle.raw_fabric_rule.specs.Views.{About, Hold, View}
use Rattle.raw_fabric_rule.specs.ByEnds.{wire_at, local, needs, gives}
use Rattle.raw_fabric_rule.specs.Word.{field}
use Rattle.raw_fabric_rule.specs.Rule.{HasStood}
use Rattle.raw_fabric_rule.specs.Plays.{other_side}
use Rattle.raw_fabric_step.specs.declared.looks.Unmet.{Unmet}
use Rattle.raw_fabric_step.specs.Units.{mine, Placed, Steady, IsLooked, IsIdle}
use Rattle.raw_fabric_step.specs.Posts.{other_end}

-- from the view v to w there was one look, at processor q, whose status word was x
pub record HasLooked (q x : ℕ) (v w : View) : Type 0 where
  pub looks : w.looks ≡ suc v.looks
  pub look_at : w.look_at ≡ q
  pub look_word : w.look_word ≡ x

-- counts modulo PLACES show too few values at an input, or no room at an output
abbrev pub is_unmet : ℕ → ℕ → ℕ → ℕ → ℕ → Bool
is_unmet depth end ours theirs asked = if nat_lt end END_COUNT then nat_lt ((theirs + PLACES - ours) % PLACES) asked else nat_le depth ((ours + PLACES - theirs) % PLACES)

module _ (about : About) (p : ℕ) where
  -- the unit z has seen the values or the room that the row of u asks for at an end
  pub record IsShown (end : ℕ) (u z : Hold) : Type 0 where
    pub values : 0 < count_of end (needs about.set p u.local) → slice_index u.counts end + count_of end (needs about.set p u.local) ≤ slice_index z.seen end
    pub room : 0 < count_of end (gives about.set p u.local) → slice_index u.counts end < slice_index z.seen end + about.set.depth

  -- the word x at the other side of an end shows fewer values than are taken; so does the count that z has seen, and, where
  -- the view holds the other side, that one's exact count
  pub record IsShort (end x : ℕ) (v : View) (u z : Hold) : Type 0 where
    pub asked : 0 < count_of end (needs about.set p u.local)
    pub short : (field (other_end about.set p end) x + PLACES - slice_index u.counts end % PLACES) % PLACES < count_of end (needs about.set p u.local)
    pub seen : slice_index z.seen end < slice_index u.counts end + count_of end (needs about.set p u.local)
    pub really : (j : ℕ) → Placed about v (other_side about.set p end) j →
        slice_index (mine v j).counts (other_end about.set p end) < slice_index u.counts end + count_of end (needs about.set p u.local)

  -- the same of an output that is full
  pub record IsFull (end x : ℕ) (v : View) (u z : Hold) : Type 0 where
    pub asked : 0 < count_of end (gives about.set p u.local)
    pub full : about.set.depth ≤ (slice_index u.counts end % PLACES + PLACES - field (other_end about.set p end) x) % PLACES
    pub seen : slice_index z.seen end + about.set.depth ≤ slice_index u.counts end
    pub really : (j : ℕ) → Placed about v (other_side about.set p end) j →
        slice_index (mine v j).counts (other_end about.set p end) + about.set.depth ≤ slice_index u.counts end

  -- the word at the other side of an end shows that what the row asks there is unmet
  abbrev pub IsUnmet : ℕ → ℕ → View → Hold → Hold → Type 0
  IsUnmet end x v u z = IsShort end x v u z ⊎ IsFull end x v u z

  -- A state of the machine stood with the view v in which p, whose local state is l, was not enabled: the wire at this end held fewer
  -- values than its next row takes, or no room.
  pub record HasLacked (end : ℕ) (v : View) (l : Local) : Type 0 where
    pub stood : HasStood about v
    pub local_is : local stood.state p ≡ l
    pub not_enabled : enabled about.set stood.state p ≡ false
    pub lacks : (lacks_values (takes about.set p l) stood.state.wires (wire_at about.set p end) ≡ true)
        ⊎ (lacks_room about.set.depth (sends about.set p l) stood.state.wires (wire_at about.set p end) ≡ true)

  -- from the view v to w one look, at the other side of an end, showed that what the row asks there is unmet
  pub record IsUnmetAt (end : ℕ) (r : Unmet) (v w : View) (u z : Hold) : Type 0 where
    pub wire_is : r.wire ≡ wire_at about.set p end
    pub noted : HasLooked (other_side about.set p end) r.seen v w
    pub rises : slice_index u.seen end ≤ slice_index z.seen end
    pub shows : slice_index z.seen end % PLACES ≡ field (other_end about.set p end) r.seen
    pub unmet : IsUnmet end r.seen v u z
    pub lacked : HasLacked end v u.local

  -- u became z by looks, and z has seen what is asked at each end before this one
  pub record SawEnds (end : ℕ) (u z : Hold) : Type 0 where
    pub looked : IsLooked about p u z
    pub shown : (d : ℕ) → d < end → IsShown d u z

  -- Why processor p waits: v and u are the view and p's unit before the call, w and z after it.
  pub record IsCause (r : Unmet) (v w : View) (u z : Hold) : Type 0 where
    pub end : ℕ
    pub wire_is : r.wire ≡ wire_at about.set p end
    -- it looked in this call
    pub looks : v.looks < w.looks
    -- last at the processor at the other end of the wire, which had this word
    pub look_at : w.look_at ≡ other_side about.set p end
    pub look_word : w.look_word ≡ r.seen
    -- the count seen of that end did not fall, and modulo PLACES is the one in the word
    pub rises : slice_index u.seen end ≤ slice_index z.seen end
    pub shows : slice_index z.seen end % PLACES ≡ field (other_end about.set p end) r.seen
    -- the word shows too few values or no room, and so it really is where the pass holds the other end too
    pub unmet : IsUnmet end r.seen v u z
    -- the counts seen show the values or the room at each end before this one
    pub before : (d : ℕ) → d < end → IsShown d u z
    -- from this view it looked last: until then it had only looked, and a state of the machine stood in which p was not enabled and
    -- the wire lacked values or room
    pub last : View
    pub until : Steady about p v last
    pub at_last : HasLooked (other_side about.set p end) r.seen last w
    pub lacked : HasLacked end last u.local

-- the unit u of p is going, and its seen counts show the values and the room that its row asks for
pub record ShowsEnds (about : About) (p : ℕ) (u : Hold) : Type 0 where
  pub going : is_stopped about.set p u.local ≡ false
  pub values : (end : ℕ) → 0 < count_of end (needs about.set p u.local) →
      slice_index u.counts end + count_of end (needs about.set p u.local) ≤ slice_index u.seen end
  pub room : (end : ℕ) → 0 < count_of end (gives about.set p u.local) →
      slice_index u.counts end < slice_index u.seen end + about.set.depth

-- the unit u of p is going and shows what its row asks for, and nothing is fetched or staged yet
pub record MayTake (about : About) (p : ℕ) (u : Hold) : Type 0 where
  pub shown : ShowsEnds about p u
  pub idle : IsIdle u

-- the next row of p takes from this input, and its count seen shows a value behind so many others
pub record ShowsOperand (about : About) (p : ℕ) (u : Hold) (end before : ℕ) : Type 0 where
  pub input : end < END_COUNT
  pub needed : 0 < count_of end (needs about.set p u.local)
  pub few : before < PLACES
  pub shown : slice_index u.counts end + before < slice_index u.seen end
