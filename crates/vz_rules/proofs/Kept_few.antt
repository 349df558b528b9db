-- How long the lists of a world get, and which sizes its surfaces and blocks have.
use Rattle.std.proofs.Common.{◌≡◌, ℕ, ◌+◌, ◌*◌, ◌≤◌, Bool, true, false, inl, inr, List, [], ◌∷◌, length, refl, ap, sym, ◌∙◌, arith, cond, Contains, count_by, sum_by, ◌&&◌, ◌==◌}
use Rattle.std.specs.Prelude.{nat_le}
use Rattle.std.specs.List.{list_all}
use Rattle.std.proofs.lemmas.Bool.{and_parts, eqb-true, leb-true, eq-eqb, and_from}
use Rattle.std.proofs.lemmas.List.Sums.{sum_by-cons, sum_by-le-sum_by}
use Rattle.vz_ids.specs.declared.FrameSinkId.{FrameSinkId}
use Rattle.vz_ids.specs.Ids.{same_sink, same_surface}
use Rattle.vz_pixels.specs.Block.{Block, IsBlock}
use Rattle.vz_frame.specs.Fits.{within, fits_colour, fits_block}
use Rattle.vz_frame.specs.Frame.{frame_size}
use Rattle.vz_rules.specs.Plan.{Plan, IsPlan}
use Rattle.vz_rules.specs.World.{World, Client, Surface, Resource, Submission}
use Rattle.vz_rules.specs.Kept.{KeepsAlways, KeepsPlan, KeepsMessages, AreShort, is_by, is_surface_of, relates}
use Rattle.vz_rules.proofs.Kept_last.{surfaces_differ}
use Rattle.vz_rules.proofs.Members.{contains_at, at_same, at_within, contains_here, contains_there, contains_cases, contains_none}
use Rattle.vz_rules.proofs.Counts.{count_cons}
use Rattle.vz_rules.proofs.Reached.{self_same_sink}
use Rattle.vz_rules.proofs.Kept_small.{at_there, small_client, few_of}

-- Sums over what something passes with

-- one term is greater by one
sum_one_more : {B : Type 0} (f g : B → ℕ) (ys : List B) (z : B) → ((y : B) → f y ≤ g y) → Contains ys z → f z + 1 ≤ g z → sum_by f ys + 1 ≤ sum_by g ys
sum_one_more f g [] z h c one = absurd (contains_none z c)
sum_one_more f g (y ∷ ys) z h c one =
    elim (contains_cases y z ys c) [
      | inl e ↦ omega (arith, sum_by-cons f y ys, sum_by-cons g y ys, ap f e, ap g e, one, sum_by-le-sum_by f g ys h)
      | inr m ↦ omega (arith, sum_by-cons f y ys, sum_by-cons g y ys, h y, sum_one_more f g ys z h m one)
    ]

sum_up_to : {B : Type 0} (f : B → ℕ) (m : ℕ) (ys : List B) → ((y : B) → Contains ys y → f y ≤ m) → sum_by f ys ≤ length ys * m
sum_up_to f m [] h = omega arith
sum_up_to f m (y ∷ ys) h = grind (arith, sum_by-cons f y ys, h y (contains_here y ys), sum_up_to f m ys (λ z c. h z (contains_there y z ys c)))

one_of : (t : Bool) (n m : ℕ) → t ≡ true → n ≡ cond t 1 0 + m → m + 1 ≤ n
one_of true n m e h = omega (arith, h)
one_of false n m e h = absurd (cc)

counted_by : {A B : Type 0} (t : Bool) (test : B → A → Bool) (x : A) (xs : List A) (ys : List B) (n : ℕ) → (t ≡ true → (y : B) × Contains ys y × (test y x ≡ true))
    → n ≤ sum_by (λ y. count_by (test y) xs) ys → cond t 1 0 + n ≤ sum_by (λ y. count_by (test y) (x ∷ xs)) ys
counted_by true test x xs ys n some later =
    let s = some refl in
    let more = sum_one_more (λ y. count_by (test y) xs) (λ y. count_by (test y) (x ∷ xs)) ys s.0 (λ y. omega (arith, count_cons (test y) x xs)) s.1
    (one_of (test s.0 x) (count_by (test s.0) (x ∷ xs)) (count_by (test s.0) xs) s.2 (count_cons (test s.0) x xs)) in
    omega (arith, later, more)
counted_by false test x xs ys n some later =
    let more = sum_by-le-sum_by (λ y. count_by (test y) xs) (λ y. count_by (test y) (x ∷ xs)) ys (λ y. omega (arith, count_cons (test y) x xs)) in
    omega (arith, later, more)

-- each that passes a test passes another with some of a second list
counted : {A B : Type 0} (p : A → Bool) (test : B → A → Bool) (xs : List A) (ys : List B)
    → ((x : A) → Contains xs x → p x ≡ true → (y : B) × Contains ys y × (test y x ≡ true)) → count_by p xs ≤ sum_by (λ y. count_by (test y) xs) ys
counted p test [] ys h = omega arith
counted p test (x ∷ xs) ys h =
    let later = counted p test xs ys (λ z c. h z (contains_there x z xs c)) in
    omega (arith, count_cons p x xs, counted_by (p x) test x xs ys (count_by p xs) (h x (contains_here x xs)) later)

-- at most so many pass with each of a second list
counted_few : {A B : Type 0} (p : A → Bool) (test : B → A → Bool) (m : ℕ) (xs : List A) (ys : List B)
    → ((x : A) → Contains xs x → p x ≡ true → (y : B) × Contains ys y × (test y x ≡ true)) → ((y : B) → Contains ys y → count_by (test y) xs ≤ m)
    → count_by p xs ≤ length ys * m
counted_few p test m xs ys some few =
    let first = counted p test xs ys some in
    let second = sum_up_to (λ y. count_by (test y) xs) m ys few in
    omega (arith, first, second)

count_all : {A : Type 0} (xs : List A) → count_by (λ x. true) xs ≡ length xs
count_all [] = refl
count_all (x ∷ xs) = omega (arith, count_cons (λ y. true) x xs, count_all xs)

times_more : (k m n : ℕ) → k ≤ 16 → n ≤ k * m → n ≤ 16 * m
times_more k m n h l = grind (arith, h, l)

-- The lists of a world

clients_few : (p : Plan) (w : World) → IsPlan p → KeepsPlan p w → length w.clients ≤ 16
clients_few p w is h = omega (arith, h.files.as_many, is.few_files)

subs_few : (p : Plan) (w : World) → IsPlan p → KeepsAlways w → KeepsPlan p w → length w.subs ≤ 65536
subs_few p w is a h =
    let some = counted_few (λ (s : Submission). true) (λ (c : Client). is_by c.number) 4096 w.subs w.clients (λ s q e.
    let made = a.numbers.created s q in
    let owner = a.surfaces.of_clients made.0 made.1 in
    (owner.0, owner.1, eq-eqb s.submitted.sub.client owner.0.number (sym (owner.2 ∙ made.3)))) (few_of p w is a h) in
    omega (arith, times_more (length w.clients) 4096 _ (clients_few p w is h) some, count_all w.subs)

surfaces_few : (p : Plan) (w : World) → IsPlan p → KeepsAlways w → KeepsPlan p w → length w.surfaces ≤ 65536
surfaces_few p w is a h =
    let some = counted_few (λ (s : Surface). true) (λ (c : Client). is_surface_of c.number) 4096 w.surfaces w.clients (λ s q e.
    let owner = a.surfaces.of_clients s q in
    (owner.0, owner.1, eq-eqb s.client owner.0.number (sym owner.2))) (λ c q. omega (arith, a.few_created c.number, few_of p w is a h c q)) in
    omega (arith, times_more (length w.clients) 4096 _ (clients_few p w is h) some, count_all w.surfaces)

-- a sink has at most as many children as there are clients
children_few : (p : Plan) (w : World) → IsPlan p → KeepsPlan p w → KeepsMessages w → (c : Client)
    → count_by (λ (r : FrameSinkId × FrameSinkId). same_sink r.0 c.sink) w.relations ≤ 16
children_few p w is h k c =
    let some = counted_few (λ (r : FrameSinkId × FrameSinkId). same_sink r.0 c.sink) (λ (d : Client). relates c.sink d.sink) 1 w.relations w.clients (λ r q e.
    let child = (k.relations.known r q).1 in
    (child.0, child.1, and_from (same_sink r.0 c.sink) (same_sink r.1 child.0.sink) e (ap (same_sink r.1) child.2 ∙ self_same_sink r.1)))
    (λ d q. k.relations.once c.sink d.sink) in
    omega (arith, times_more (length w.clients) 1 _ (clients_few p w is h) some)

relations_few : (p : Plan) (w : World) → IsPlan p → KeepsPlan p w → KeepsMessages w → length w.relations ≤ 256
relations_few p w is h k =
    let some = counted_few (λ (r : FrameSinkId × FrameSinkId). true) (λ (c : Client) (r : FrameSinkId × FrameSinkId). same_sink r.0 c.sink) 16 w.relations w.clients (λ r q e.
    let parent = (k.relations.known r q).0 in
    (parent.0, parent.1, ap (same_sink r.0) parent.2 ∙ self_same_sink r.0)) (λ c q. children_few p w is h k c) in
    omega (arith, times_more (length w.clients) 16 _ (clients_few p w is h) some, count_all w.relations)

-- the lists are short
pub lists_short : (p : Plan) (w : World) → IsPlan p → KeepsAlways w → KeepsPlan p w → KeepsMessages w → AreShort w
lists_short p w is a h k =
    record {
      clients = clients_few p w is h;
      subs = subs_few p w is a h;
      surfaces = surfaces_few p w is a h;
      relations = relations_few p w is h k;
      resources = λ c q. omega (arith, (k.blocks c q).few, (small_client p w is a h c q).1);
    }

-- Sizes

-- a surface has the size of each frame that was accepted on it
pub surface_size : (w : World) (s : Submission) (c : Surface) → KeepsAlways w → KeepsMessages w → Contains w.subs s → Contains w.surfaces c → same_surface c.id s.submitted.id ≡ true
    → c.size ≡ frame_size s.submitted.frame
surface_size w s c a k p q same =
    let made = k.sizes s p in
    let n = contains_at w.surfaces c q in
    let m = contains_at w.surfaces made.0 made.1 in
    let place = surfaces_differ w.clients w.surfaces a.clients a.surfaces n.0 m.0 c made.0 n.1 m.1 (ap (same_surface c.id) made.2 ∙ same) in
    ap (λ (x : Surface). x.size) (at_same w.surfaces n.0 m.0 c made.0 n.1 m.1 place) ∙ made.3

-- so all these have one size
pub frames_size : (w : World) (s t : Submission) → KeepsAlways w → KeepsMessages w → Contains w.subs s → Contains w.subs t → same_surface s.submitted.id t.submitted.id ≡ true
    → frame_size s.submitted.frame ≡ frame_size t.submitted.frame
frames_size w s t a k p q same =
    let made = k.sizes s p in
    sym made.3 ∙ surface_size w t made.0 a k q made.1 (ap (λ i. same_surface i t.submitted.id) made.2 ∙ same)

block_fits : (b : Block) → fits_block b ≡ true → IsBlock b
block_fits b h =
    let all = and_parts (within 1 256 b.w && within 1 256 b.h && (length b.pixels == b.w * b.h)) (list_all fits_colour b.pixels) h in
    let many = and_parts (within 1 256 b.w && within 1 256 b.h) (length b.pixels == b.w * b.h) all.0 in
    let sides = and_parts (within 1 256 b.w) (within 1 256 b.h) many.0 in
    let w = and_parts (nat_le 1 b.w) (nat_le b.w 256) sides.0 in
    let h = and_parts (nat_le 1 b.h) (nat_le b.h 256) sides.1 in
    record {
      w_from = leb-true 1 b.w w.0;
      w_to = leb-true b.w 256 w.1;
      h_from = leb-true 1 b.h h.0;
      h_to = leb-true b.h 256 h.1;
      all = eqb-true (length b.pixels) (b.w * b.h) many.1;
    }

pub stored_block : (w : World) (c : Client) (s : Resource) → KeepsMessages w → Contains w.clients c → Contains c.resources s → IsBlock s.block
stored_block w c s k p q = block_fits s.block ((k.blocks c p).fit s q)

pub listed_block : (w : World) (s : Submission) (b : Block) → KeepsMessages w → Contains w.subs s → Contains s.submitted.blocks b → IsBlock b
listed_block w s b k p q =
    let whole = k.active s p in
    let n = contains_at s.submitted.blocks b q in
    let l = at_there s.submitted.frame.resources n.0 (omega (arith, at_within s.submitted.blocks n.0 b n.1, whole.as_many)) in
    block_fits b (whole.blocks n.0 l.0 b l.1 n.1).fits
