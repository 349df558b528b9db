-- How one of the clients changes.
use Rattle.std.specs.Prelude.{◌≡◌, ℕ, ◌≤◌, ◌==◌, cond, List, length}
use Rattle.vz_support.specs.Sent.{Sender, sender_at}

-- the client with this number changes by f, and no other client changes
pub record ChangesOne (c : ℕ) (f : Sender → Sender) (old new : List Sender) : Type 0 where
  pub count : length new ≡ length old
  pub each : (q : ℕ) → 1 ≤ q → sender_at new q ≡ cond (q == c) (f (sender_at old c)) (sender_at old q)
