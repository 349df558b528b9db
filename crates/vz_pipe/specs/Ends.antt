-- What contracts see in the ends of a pipe.
use Rattle.std.specs.Prelude.{◌≡◌, Bool, false, ◌||◌, List, []}
use Rattle.atomic_table.specs.Seated.{TableId}
use Rattle.atomic_table.specs.declared.badge.Badge.{Badge}
use Rattle.crossbeam_channel.specs.declared.flavors.array.Rows.{Rows}
use Rattle.crossbeam_channel.specs.declared.flavors.array.Key.{Key}
use Rattle.crossbeam_channel.specs.declared.flavors.array.Doing.{Doing}
use Rattle.crossbeam_channel.specs.Claims.{Pass, view, IsSeatAt}
use Rattle.vz_pipe.specs.declared.parcel.Parcel.{Parcel}
use Rattle.vz_pipe.specs.declared.view.View.{View}
use Rattle.vz_pipe.specs.Rule.{sending, taking, both}

-- which pipe it is: the channel's table and its key
pub record PipeId (T : Type 0) : Type 0 where
  pub table : TableId
  pub key : Badge (Key (Parcel T))

-- a sender: its pipe, the frames that were sent, those of them that wait in its list, whether the
-- mark of the end went into the channel, and whether the channel handed a parcel back
pub record Sending (T : Type 0) : Type 0 where
  pub pipe : PipeId T
  pub sent : List T
  pub waiting : List T
  pub marked : Bool
  pub cut : Bool

-- the sender is shut: nothing more goes into the channel
abbrev pub is_shut : {T : Type 0} → Sending T → Bool
is_shut s = s.marked || s.cut

-- what a sender leaves: its pipe, the frames that were sent, and those of them that wait in its
-- list
pub record Remaining (T : Type 0) : Type 0 where
  pub pipe : PipeId T
  pub sent : List T
  pub waiting : List T

-- a receiver: its pipe, the frames that it took, and whether it got the mark of the end
pub record Taking (T : Type 0) : Type 0 where
  pub pipe : PipeId T
  pub taken : List T
  pub ended : Bool

-- a sender that has sent nothing
abbrev pub unused_sender : {T : Type 0} → PipeId T → Sending T
unused_sender pipe = record { pipe = pipe; sent = []; waiting = []; marked = false; cut = false }

-- a receiver that has taken nothing
abbrev pub unused_receiver : {T : Type 0} → PipeId T → Taking T
unused_receiver pipe = record { pipe = pipe; taken = []; ended = false }

module _ {T Q M L A : Type 0} where
  -- the pipe that an end of the channel belongs to
  abbrev pub pipe_of : Rows (Badge (Key (Parcel T))) (Doing (Parcel T) (View T)) Q M (Key (Parcel T)) L A → PipeId T
  pipe_of c = record { table = c.stamps.shared.table_id; key = c.stamps.shared.key }

  -- the pass is the sender's, of this channel, and these frames of the list were given
  pub record IsSending (c : Rows (Badge (Key (Parcel T))) (Doing (Parcel T) (View T)) Q M (Key (Parcel T)) L A) (gave : List T) (p : Pass (Parcel T) (View T)) : Type 0 where
    pub seat : IsSeatAt c p
    pub knows : view p ≡ sending (view p).put gave

  -- the pass is the receiver's, of this channel
  pub record IsTaking (c : Rows (Badge (Key (Parcel T))) (Doing (Parcel T) (View T)) Q M (Key (Parcel T)) L A) (p : Pass (Parcel T) (View T)) : Type 0 where
    pub seat : IsSeatAt c p
    pub knows : view p ≡ taking (view p).got (view p).had

  -- the pass has both sides, of this channel
  pub record IsBoth (c : Rows (Badge (Key (Parcel T))) (Doing (Parcel T) (View T)) Q M (Key (Parcel T)) L A) (p : Pass (Parcel T) (View T)) : Type 0 where
    pub seat : IsSeatAt c p
    pub knows : view p ≡ both (view p).put (view p).got (view p).gave (view p).had
