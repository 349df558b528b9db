-- A run is the same whatever shelf and counter its outlet is known to borrow.
use Rattle.std.proofs.Common.{◌≡◌, ℕ, Bool, List, None, Result, Ok, Err, arith}
use Rattle.vz_geom.specs.declared.Size.{Size}
use Rattle.vz_outside.specs.{Told.Call, Shelved.Shelved, declared.shelf.ShelfError.ShelfError}
use Rattle.vz_rules.specs.declared.entry.Entry.{Entry}
use Rattle.vz_display.specs.Displayed.{Displayed}
use Rattle.vz_threads.specs.{Outlets.Outlook, Outlets.Fixed, Outlets.outlook, Rounds.Setup, Rounds.AreShown, Runs.IsReady, Runs.HasRun}
use Rattle.std.proofs.lemmas.Bool.Decides.{nat_tests}

module _ (k : Setup) (slot : ℕ) (size : Size) (a b : ℕ) where
  -- the state of an outlet that borrows these
  abbrev with_names : Displayed → Shelved → ℕ → Outlook
  with_names d s n = record { fixed = record { slot = slot; size = size; shelf = a; steps = b; pipe = None }; display = d; shelf = s; steps = n }

  pub ready_named : (d : Displayed) (s : Shelved) (n : ℕ) → IsReady k (outlook slot size d s n) → IsReady k (with_names d s n)
  ready_named d s n ready = grind (arith, nat_tests)

  module _ (d d' : Displayed) (s s' : Shelved) (n n' : ℕ) (f : Fixed) (h : List Entry) where
    abbrev after : Outlook
    after = record { fixed = f; display = d'; shelf = s'; steps = n' }

    pub shown_unnamed : AreShown k (with_names d s n) after h → AreShown k (outlook slot size d s n) (outlook slot size d' s' n') h
    shown_unnamed are = grind (arith, nat_tests)

    pub run_unnamed : (told : Call → Type 0) (rounds : ℕ) (paced : Bool) (r : Result (Unit {0}) ShelfError) → HasRun told k rounds paced (with_names d s n) after h r → HasRun told k rounds paced (outlook slot size d s n) (outlook slot size d' s' n') h r
    run_unnamed told rounds paced (Ok x) run = grind (arith, nat_tests, shown_unnamed run.whole.shown)
    run_unnamed told rounds paced (Err e) run = grind (arith, nat_tests)

-- the shelf and the counter were lent, and came back as they are in the outlet
pub now_at : {A : Type 0} (told : Call → Type 0) (shelved : A → Shelved) (k : Setup) (rounds : ℕ) (paced : Bool) (start : Outlook) (slot : ℕ) (size : Size) (d : Displayed) (x y : A) (m n : ℕ) (h : List Entry) (r : Result (Unit {0}) ShelfError) → x ≡ y → m ≡ n
    → HasRun told k rounds paced start (outlook slot size d (shelved y) n) h r → HasRun told k rounds paced start (outlook slot size d (shelved x) m) h r
now_at told shelved k rounds paced start slot size d x y m n h r e f run = grind (arith, nat_tests)
