-- What is given of one resource of one client, among what is given of all.
use Rattle.std.proofs.Common.{◌≡◌, ℕ, ◌-◌, Bool, true, false, ◌==◌, Option, Some, None, List, [], ◌∷◌, refl, ap, sym, ◌∙◌, cond, find, sum_by}
use Rattle.std.specs.List.{flat_map, filter_map}
use Rattle.vz_rules.specs.declared.entry.Returned.{Returned}
use Rattle.vz_rules.specs.World.{Client, Resource, resource_in}
use Rattle.vz_rules.specs.Accounts.{of_client}
use Rattle.vz_rules.proofs.Rising.{find_test, sum_same, sum_flat, sum_filtered, counted, Rising, sum_one}
use Rattle.vz_rules.proofs.Facts.{same_when}
use Rattle.std.proofs.lemmas.Bool.{cond-false}

-- the number of a client, and the id of a resource
abbrev pub number_of : Client → ℕ
number_of x = x.number

abbrev pub id_of : Resource → ℕ
id_of s = s.id

-- what is given of a resource of a client where that is asked for
abbrev pub gives : (ℕ → Resource → Bool) → ℕ → Resource → Option Returned
gives goes n s = cond (goes n s) (Some (record { client = n; id = s.id; count = s.lent - s.queued })) None

-- the references of a return
abbrev pub size_of : Returned → ℕ
size_of r = r.count

-- a number of a return, by its id and by its client
abbrev pub amount_of : (Returned → ℕ) → ℕ → Returned → ℕ
amount_of amount id r = cond (r.id == id) (amount r) 0

abbrev pub amount_in : (Returned → ℕ) → ℕ → ℕ → Returned → ℕ
amount_in amount c id r = cond (r.client == c) (amount_of amount id r) 0

-- by a number of each return, and by which resources of which clients are given
module _ (amount : Returned → ℕ) (goes : ℕ → Resource → Bool) where
  abbrev all_of : ℕ → Resource → Returned
  all_of n s = record { client = n; id = s.id; count = s.lent - s.queued }

  -- the number of what is given of a resource
  abbrev pub given_of : ℕ → Resource → ℕ
  given_of n s = cond (goes n s) (amount (all_of n s)) 0

  one_given : (t : Bool) (n id : ℕ) (s : Resource) → counted (amount_of amount id) (cond t (Some (all_of n s)) None) ≡ cond (s.id == id) (cond t (amount (all_of n s)) 0) 0
  one_given true n id s = refl
  one_given false n id s = sym (same_when (λ (k : ℕ). k) (s.id == id) 0 0 refl)

  one_id : (id : ℕ) (f : Resource → ℕ) (rs : List Resource) (o : Option Resource) → find (λ s. s.id == id) rs ≡ o → counted (λ (s : Resource). cond (s.id == id) (f s) 0) o ≡ counted f o
  one_id id f rs None e = refl
  one_id id f rs (Some s) e = ap (λ (t : Bool). cond t (f s) 0) (find_test (λ (x : Resource). x.id == id) rs s e)

  -- what is given of one resource, among those of its client
  pub resource_given : (n id : ℕ) (rs : List Resource) → Rising id_of rs → sum_by (amount_of amount id) (filter_map (gives goes n) rs) ≡ counted (given_of n) (resource_in id rs)
  resource_given n id rs up =
      sum_filtered (amount_of amount id) (gives goes n) rs
      ∙ (sum_same (λ s. counted (amount_of amount id) (gives goes n s)) (λ s. cond (s.id == id) (given_of n s) 0) rs (λ s. one_given (goes n s) n id s)
      ∙ (sum_one id_of id (λ s. cond (s.id == id) (given_of n s) 0) rs (λ s e. cond-false (s.id == id) (given_of n s) 0 e) up
      ∙ one_id id (given_of n) rs (resource_in id rs) refl))

  share_given : (t : Bool) (n c id : ℕ) (s : Resource) → counted (amount_in amount c id) (cond t (Some (all_of n s)) None) ≡ cond (n == c) (counted (amount_of amount id) (cond t (Some (all_of n s)) None)) 0
  share_given true n c id s = refl
  share_given false n c id s = sym (same_when (λ (k : ℕ). k) (n == c) 0 0 refl)

  sum_either : (t : Bool) (f : Resource → ℕ) (rs : List Resource) → sum_by (λ s. cond t (f s) 0) rs ≡ cond t (sum_by f rs) 0
  sum_either true f rs = refl
  sum_either false f rs = zero_sum rs
    where
      zero_sum : (xs : List Resource) → sum_by (λ s. 0) xs ≡ 0
      zero_sum [] = refl
      zero_sum (x ∷ xs) = zero_sum xs

  client_share : (c id n : ℕ) (rs : List Resource) → sum_by (amount_in amount c id) (filter_map (gives goes n) rs) ≡ cond (n == c) (sum_by (amount_of amount id) (filter_map (gives goes n) rs)) 0
  client_share c id n rs =
      sum_filtered (amount_in amount c id) (gives goes n) rs
      ∙ (sum_same (λ s. counted (amount_in amount c id) (gives goes n s)) (λ s. cond (n == c) (counted (amount_of amount id) (gives goes n s)) 0) rs (λ s. share_given (goes n s) n c id s)
      ∙ (sum_either (n == c) (λ s. counted (amount_of amount id) (gives goes n s)) rs
      ∙ ap (λ m. cond (n == c) m 0) (sym (sum_filtered (amount_of amount id) (gives goes n) rs))))

  one_client : (c : ℕ) (f : Client → ℕ) (xs : List Client) (o : Option Client) → find (λ x. x.number == c) xs ≡ o → counted (λ (x : Client). cond (x.number == c) (f x) 0) o ≡ of_client f o
  one_client c f xs None e = refl
  one_client c f xs (Some x) e = ap (λ (t : Bool). cond t (f x) 0) (find_test (λ (y : Client). y.number == c) xs x e)

  share_found : (c id : ℕ) (xs : List Client) → Rising number_of xs
      → sum_by (amount_in amount c id) (flat_map (λ (x : Client). filter_map (gives goes x.number) x.resources) xs)
      ≡ of_client (λ x. sum_by (amount_of amount id) (filter_map (gives goes x.number) x.resources)) (find (λ x. x.number == c) xs)
  share_found c id xs up =
      sum_flat (amount_in amount c id) (λ (x : Client). filter_map (gives goes x.number) x.resources) xs
      ∙ (sum_same (λ x. sum_by (amount_in amount c id) (filter_map (gives goes x.number) x.resources)) (λ x. cond (x.number == c) (sum_by (amount_of amount id) (filter_map (gives goes x.number) x.resources)) 0) xs
      (λ x. client_share c id x.number x.resources)
      ∙ (sum_one number_of c (λ x. cond (x.number == c) (sum_by (amount_of amount id) (filter_map (gives goes x.number) x.resources)) 0) xs
      (λ x e. cond-false (x.number == c) (sum_by (amount_of amount id) (filter_map (gives goes x.number) x.resources)) 0 e) up
      ∙ one_client c (λ x. sum_by (amount_of amount id) (filter_map (gives goes x.number) x.resources)) xs (find (λ x. x.number == c) xs) refl))

  -- what is given of one resource, among those of all clients
  pub share_is : (c id : ℕ) (xs : List Client) (x : Client) → Rising number_of xs → find (λ y. y.number == c) xs ≡ Some x → Rising id_of x.resources
      → sum_by (amount_in amount c id) (flat_map (λ (y : Client). filter_map (gives goes y.number) y.resources) xs) ≡ counted (given_of x.number) (resource_in id x.resources)
  share_is c id xs x up found rising =
      share_found c id xs up
      ∙ (ap (of_client (λ y. sum_by (amount_of amount id) (filter_map (gives goes y.number) y.resources))) found ∙ resource_given x.number id x.resources rising)
