-- How great numbers get: clients have at most 4,096 messages, and each submission is one.
use Rattle.std.proofs.Common.{◌≡◌, ℕ, zero, suc, ◌<◌, ◌≤◌, Bool, true, ◌==◌, inl, inr, Some, List, [], ◌∷◌, map-id, take, length, refl, ap, sym, ◌∙◌, arith, subst, slice_get, Contains, count_by, sum_by, take-append-drop, drop}
use Rattle.std.proofs.lemmas.Bool.{and_parts, eq-eqb, cond-true}
use Rattle.std.proofs.lemmas.List.Sums.{sum_by-cons}
use Rattle.vz_ids.specs.declared.SurfaceId.{SurfaceId}
use Rattle.vz_ids.specs.Ids.{same_surface}
use Rattle.vz_frame.specs.Fits.{fits_file}
use Rattle.vz_rules.specs.declared.entry.Returned.{Returned}
use Rattle.vz_rules.specs.Plan.{Plan, IsPlan}
use Rattle.vz_rules.specs.World.{World, Client, Surface, Resource, Submission, is_on}
use Rattle.vz_rules.specs.Kept.{KeepsAlways, KeepsPlan, HasSmallClient, IsSmallSubmission, IsSmallSurface, IsSmallResource, IsSmallReturn, is_by, is_surface_of, borrows, count_of}
use Rattle.vz_rules.proofs.Reached.{from_same}
use Rattle.vz_rules.proofs.Members.{contains_cases, contains_none, at_contains, at_within, contains_at, all_at}
use Rattle.vz_rules.proofs.Counts.{count_at, count_less}
use Rattle.vz_rules.proofs.Kept_last.{one_owner}
use Rattle.vz_rules.proofs.Kept_files.{file_parts}
use Rattle.std.proofs.lemmas.List.Elements.{Contains-append_left}

pub at_there : {A : Type 0} (xs : List A) (n : ℕ) → n < length xs → (x : A) × (slice_get xs n ≡ Some x)
at_there [] n l = absurd (omega (arith, l))
at_there (x ∷ xs) zero l = (x, refl)
at_there (x ∷ xs) (suc n) l = at_there xs n (omega (arith, l))

pub count_weaker : {A : Type 0} (p q : A → Bool) (xs : List A) → ((x : A) → Contains xs x → p x ≡ true → q x ≡ true) → count_by p xs ≤ count_by q xs
count_weaker p q xs h = subst (λ l. count_by p l ≤ count_by q xs) (map-id xs) (count_less (λ x. x) p q xs h)

take_contains : {A : Type 0} (n : ℕ) (xs : List A) (x : A) → Contains (take n xs) x → Contains xs x
take_contains n xs x c = subst (λ l. Contains l x) (take-append-drop n xs) (Contains-append_left (take n xs) (drop n xs) x c)

term_less : {A : Type 0} (f : A → ℕ) (xs : List A) (x : A) → Contains xs x → f x ≤ sum_by f xs
term_less f [] x c = absurd (contains_none x c)
term_less f (y ∷ xs) x c =
    elim (contains_cases y x xs c) [
      | inl e ↦ omega (arith, sum_by-cons f y xs, ap f e)
      | inr r ↦ omega (arith, sum_by-cons f y xs, term_less f xs x r)
    ]

-- Clients

pub small_client : (p : Plan) (w : World) → IsPlan p → KeepsAlways w → KeepsPlan p w → (c : Client) → Contains w.clients c
    → HasSmallClient c.number × (c.taken ≤ 4096)
small_client p w is a h c q =
    let n = contains_at w.clients c q in
    let number = a.clients.numbered n.0 c n.1 in
    let within = at_within w.clients n.0 c n.1 in
    let file = at_there p.files n.0 (omega (arith, within, h.files.as_many)) in
    let taken = h.files.taken n.0 c file.0 n.1 file.1 in
    let few = (file_parts file.0 (all_at fits_file p.files file.0 is.all_fit (at_contains p.files n.0 file.0 file.1))).0 in
    ((omega (arith, number), omega (arith, number, within, h.files.as_many, is.few_files)), omega (arith, taken, few))

-- a client of this number has few submissions
pub few_of : (p : Plan) (w : World) → IsPlan p → KeepsAlways w → KeepsPlan p w → (c : Client) → Contains w.clients c → count_by (is_by c.number) w.subs ≤ 4096
few_of p w is a h c q = omega (arith, (a.shelves c q).taken, (small_client p w is a h c q).1)

-- Surfaces

pub small_surface : (p : Plan) (w : World) → IsPlan p → KeepsAlways w → KeepsPlan p w → (s : Surface) → Contains w.surfaces s → IsSmallSurface s
small_surface p w is a h s q =
    let owner = a.surfaces.of_clients s q in
    let client = (small_client p w is a h owner.0 owner.1).0 in
    let n = contains_at w.surfaces s q in
    let number = a.surfaces.numbered n.0 s n.1 in
    let more = count_at (is_surface_of s.client) w.surfaces n.0 s n.1 (eq-eqb s.client s.client refl) in
    let few = few_of p w is a h owner.0 owner.1 in
    let same = ap (λ c. count_by (is_by c) w.subs) owner.2 in
    record {
      client = subst HasSmallClient owner.2 client;
      number = (omega (arith, number), omega (arith, number, more, few, same, a.few_created s.client));
    }

-- Submissions

-- submissions on one surface are of one client
pub one_submitter : (w : World) → KeepsAlways w → (s t : Submission) → Contains w.subs s → Contains w.subs t → same_surface s.submitted.id t.submitted.id ≡ true
    → s.submitted.sub.client ≡ t.submitted.sub.client
one_submitter w a s t p q e =
    let x = a.numbers.created s p in
    let y = a.numbers.created t q in
    sym x.3
    ∙ (one_owner w.clients w.surfaces x.0 y.0 a.clients a.surfaces x.1 y.1
    (ap (λ (i : SurfaceId). i.sink) (x.2 ∙ (from_same s.submitted.id t.submitted.id e ∙ sym y.2))) ∙ y.3)

pub small_submission : (p : Plan) (w : World) → IsPlan p → KeepsAlways w → KeepsPlan p w → (s : Submission) → Contains w.subs s → IsSmallSubmission s
small_submission p w is a h s q =
    let made = a.numbers.created s q in
    let owner = a.surfaces.of_clients made.0 made.1 in
    let number : owner.0.number ≡ s.submitted.sub.client = owner.2 ∙ made.3 in
    let client = (small_client p w is a h owner.0 owner.1).0 in
    let n = contains_at w.subs s q in
    let ordinal = a.numbers.ordered n.0 s n.1 in
    let index = a.numbers.numbered n.0 s n.1 in
    let more = count_at (is_by s.submitted.sub.client) w.subs n.0 s n.1 (eq-eqb s.submitted.sub.client s.submitted.sub.client refl) in
    let few = few_of p w is a h owner.0 owner.1 in
    let same = ap (λ c. count_by (is_by c) w.subs) number in
    let fewer = count_weaker (is_on s.submitted.id) (is_by s.submitted.sub.client) (take n.0 w.subs) (λ t c e.
    eq-eqb t.submitted.sub.client s.submitted.sub.client (one_submitter w a t s (take_contains n.0 w.subs t c) q e)) in
    record {
      client = subst HasSmallClient number client;
      ordinal = (omega (arith, ordinal), omega (arith, ordinal, more, few, same));
      index = (omega (arith, index), omega (arith, index, ordinal, fewer));
      due = omega (arith, h.due s q, a.time.tick);
    }

-- Resources

pub small_resource : (p : Plan) (w : World) → IsPlan p → KeepsAlways w → KeepsPlan p w → (c : Client) (s : Resource) → Contains w.clients c
    → Contains c.resources s → IsSmallResource s
small_resource p w is a h c s q r =
    let t = (a.shelves c q).totals s r in
    let fewer = count_weaker (borrows c.number s.id) (is_by c.number) w.subs (λ x m e. (and_parts (x.submitted.sub.client == c.number) _ e).0) in
    let ids = h.files.ids c q s r in
    record { id = ids; lent = omega (arith, t.lent, fewer, few_of p w is a h c q) }

pub small_return : (p : Plan) (w : World) → IsPlan p → KeepsAlways w → KeepsPlan p w → (c : Client) (r : Returned) → Contains w.clients c → Contains c.queue r
    → IsSmallReturn r
small_return p w is a h c r q m =
    let k = (a.shelves c q).returns r m in
    let s = k.known in
    let t = (a.shelves c q).totals s.0 s.1 in
    let small = small_resource p w is a h c s.0 q s.1 in
    let one = term_less (count_of s.0.id) c.queue r m in
    let counted = cond-true (r.id == s.0.id) r.count 0 (eq-eqb r.id s.0.id (sym s.2)) in
    record {
      client = subst HasSmallClient (sym k.client) (small_client p w is a h c q).0;
      id = (omega (arith, small.id.0, s.2), omega (arith, small.id.1, s.2));
      count = (k.some, omega (arith, one, counted, t.in_queue, t.queued, small.lent));
    }
