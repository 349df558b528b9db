-- What clients lent stands for the first state, in which nothing is lent.
use Rattle.std.proofs.Common.{◌≡◌, ℕ, zero, suc, ◌+◌, Option, Some, List, [], ◌∷◌, ◌++◌, length, slice_get, refl, ap, sym, subst, ◌∙◌, arith}
use Rattle.std.proofs.lemmas.Bool.Decides.{nat_tests}
use Rattle.vz_frame.specs.declared.message.ClientFile.{ClientFile}
use Rattle.vz_rules.specs.{Plan.Plan, World.Client, World.opening, World.new_clients}
use Rattle.vz_rules.proofs.Members.{at_push, contains_at}
use Rattle.vz_returns.specs.Held.{received_of, alive_of, is_rising}
use Rattle.vz_returns.specs.{Released.AreCounts, Released.are_some, Released.alive_in, Released.out_in, Lent.Lent, Lent.AreLent, Lent.NoneReleased}

-- a client of this place has lent nothing
abbrev pub AreNew : List Lent → Type 0
AreNew items = (n : ℕ) (x : Lent) → slice_get items n ≡ Some x
    → (x.holding ≡ record { client = n + 1; counted = []; queue = [] }) × (x.released ≡ [])

pub new_next : (items more : List Lent) (k : ℕ) (new : Lent) → length items ≡ k → more ≡ items ++ new ∷ [] → new.holding.client ≡ k + 1
    → new.holding.counted ≡ [] → new.holding.queue ≡ [] → new.released ≡ []
    → AreNew items → AreNew more
new_next items more k new long grown client counted queue none are n x at = grind (arith, nat_tests, at_push)

pub new_released : (items : List Lent) → AreNew items → NoneReleased items
new_released items are l there = let n = contains_at items l there in (are n.0 l n.1).1

new_length : (m : ℕ) (files : List ClientFile) → length (new_clients m files) ≡ length files
new_length m [] = refl
new_length m (file ∷ files) = ap suc (new_length (m + 1) files)

-- a client before its first message
record IsNew (number : ℕ) (c : Client) : Type 0 where
  pub numbered : c.number ≡ number
  pub resources : c.resources ≡ []
  pub queue : c.queue ≡ []

new_at : (m : ℕ) (files : List ClientFile) (n : ℕ) (c : Client) → slice_get (new_clients m files) n ≡ Some c → IsNew (m + n) c
new_at m [] n c e = absurd (cc)
new_at m (file ∷ files) zero c e =
    subst (IsNew (m + 0)) (first e) (record { numbered = omega arith; resources = refl; queue = refl })
  where
    first : {x y : Client} → ◌≡◌ {A = Option Client} (Some x) (Some y) → x ≡ y
    first e = cc
new_at m (file ∷ files) (suc n) c e = let is = new_at (m + 1) files n c e in record
    { numbered = omega (arith, is.numbered); resources = is.resources; queue = is.queue }

no_counts : (p : Plan) (c : Client) (n : ℕ) → IsNew (1 + n) c
    → AreCounts (opening p) c (record { client = n + 1; counted = []; queue = [] }) []
unfolding opening alive_in is_rising are_some received_of alive_of out_in
no_counts p c n is = grind (arith, nat_tests)

pub new_lent : (p : Plan) (items : List Lent) → length p.files ≡ length items → AreNew items → AreLent (opening p) items
unfolding opening
new_lent p items long are =
    record {
      many = sym (new_length 1 p.files ∙ long);
      each = λ n c l at is.
          let a = are n l is in
          subst (λ r. AreCounts (opening p) c l.holding r) (sym a.1)
          (subst (λ h. AreCounts (opening p) c h []) (sym a.0) (no_counts p c n (new_at 1 p.files n c at)));
    }
