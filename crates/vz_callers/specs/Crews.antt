-- The passes of all clients: new, with the threads, and given back.
use Rattle.std.specs.Prelude.{◌≡◌, ℕ, ◌-◌, ◌≤◌, Bool, IsTrue, All, List, map, reverse, length, slice_index}
use Rattle.atomic_table.specs.Seated.{TableId}
use Rattle.vz_loans.specs.Tokens.{Caller}
use Rattle.vz_outside.specs.Told.{Call}
use Rattle.vz_rules.specs.Plan.{Plan}
use Rattle.vz_rules.specs.declared.entry.Entry.{Entry}
use Rattle.vz_callers.specs.declared.crew.Started.{Started}
use Rattle.vz_callers.specs.declared.crew.Started.TheVariants.{Running, Here}
use Rattle.vz_callers.specs.Callers.{events_of, calls_of, IsClient, HasTold, HasCalled}

-- how many messages the file of a client has, by the counts of all files
abbrev pub messages_of : List ℕ → ℕ → ℕ
messages_of messages c = slice_index messages (c - 1)

-- a caller's number is that of a client
abbrev pub HasFile : List ℕ → Caller Plan Entry → Type 0
HasFile messages t = (1 ≤ t.number) × (t.number ≤ length messages)

-- a client's caller made as many entries as its file has messages, each for a call of this client
abbrev pub HasCalledAll : List ℕ → Caller Plan Entry → Type 0
HasCalledAll messages t = events_of t ≡ calls_of t.number (messages_of messages t.number)

-- the numbers of callers
abbrev pub numbers_of : List (Caller Plan Entry) → List ℕ
numbers_of ts = map (λ (t : Caller Plan Entry). t.number) ts

-- the number of the client whose calls these are
abbrev pub number_of : {M G D T : Type 0} → Started M G D T → ℕ
number_of (Running handle) = handle.promise.given.value.number
number_of (Here called) = called.pass.number

-- a thread has the pass of a client that made no call yet, and calls this gate, or the calls were
-- made here
abbrev pub IsAtWork : {M G D T : Type 0} → (G → Call → Type 0) → G → TableId → Plan → Started M G D T → Type 0
IsAtWork told gate id p (Running handle) = HasCalled (told gate) id p handle.promise.given.value 0 × (handle.promise.gate.value ≡ gate)
IsAtWork told gate id p (Here called) = HasCalled (told gate) id p called.pass called.made

-- it holds of each gate
abbrev pub Each : {G : Type 0} → (G → Type 0) → Type 0
Each {G} P = (gate : G) → P gate

-- the numbers of the clients, the one started last first
abbrev pub numbers_at_work : {M G D T : Type 0} → List (Started M G D T) → List ℕ
numbers_at_work started = map number_of (reverse started)

-- no client made a call yet, and there are as many files as counts of messages
pub record IsCrew (told : Call → Type 0) (id : TableId) (p : Plan) (messages : List ℕ) (ts : List (Caller Plan Entry)) : Type 0 where
  pub counts : length messages ≡ length p.files
  pub new : All (λ t. HasCalled told id p t 0) ts

-- all of these are at work, and there are as many files as counts of messages
pub record IsGoing {M G D T : Type 0} (told : G → Call → Type 0) (gate : G) (id : TableId) (p : Plan) (messages : List ℕ) (started : List (Started M G D T)) : Type 0 where
  pub counts : length messages ≡ length p.files
  pub work : All (IsAtWork told gate id p) started

-- the passes of clients that were given back, of whose entries a gate was told; if it is complete,
-- all messages were called for
pub record IsBack (told : Call → Type 0) (id : TableId) (p : Plan) (messages : List ℕ) (ts : List (Caller Plan Entry)) (complete : Bool) : Type 0 where
  pub clients : All (IsClient id p) ts
  pub gated : All (HasTold told) ts
  pub all : IsTrue complete → All (HasCalledAll messages) ts
