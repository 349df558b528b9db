-- What is counted of clients stays where surfaces and submissions keep what is counted.
use Rattle.std.proofs.Common.{◌≡◌, ℕ, ◌+◌, Bool, true, false, ◌&&◌, Option, Some, None, List, [], ◌∷◌, map, find, refl, ap, sym, ◌∙◌, arith, cond, Contains, count_by, slice_get, suc}
use Rattle.std.proofs.lemmas.Bool.Decides.{nat_tests}
use Rattle.std.specs.Option.{option_map}
use Rattle.vz_geom.specs.declared.Size.{Size}
use Rattle.vz_ids.specs.declared.LocalSurfaceId.{LocalSurfaceId}
use Rattle.vz_rules.specs.World.{Surface, Submission}
use Rattle.vz_rules.proofs.Counts.{count_cons}
use Rattle.vz_rules.proofs.Members.{contains_at}
use Rattle.vz_rules.proofs.Kept_last.{last_map}
use Rattle.vz_surfaces.specs.Stored.{Stored}
use Rattle.vz_surfaces.specs.Reading.{last_of}
use Rattle.vz_surfaces.specs.declared.owners.Owners.{Owners}
use Rattle.vz_surfaces.specs.Memory.{KeepsOwners}
use Rattle.vz_surfaces.proofs.Finding.{count_kept, find_none}

-- a surface keeps what is counted
pub record KeepsCounted (g : Surface → Surface) : Type 0 where
  pub client : (c : Surface) → (g c).client ≡ c.client
  pub id : (c : Surface) → (g c).id ≡ c.id
  pub size : (c : Surface) → (g c).size ≡ c.size

abbrev Named : Type 0
Named = LocalSurfaceId × Size

read_by : (g : Surface → Surface) (o : Option Surface) → KeepsCounted g
    → option_map {U = Named} (λ (s : Surface). (s.id.local, s.size)) (option_map g o) ≡ option_map {U = Named} (λ (s : Surface). (s.id.local, s.size)) o
read_by g None h = refl
read_by g (Some c) h = λ i. Some (((h.id c i).local, h.size c i))

pub owners_stay : (o : Owners) (f : Submission → Submission) (g : Surface → Surface) (st : Stored) → ((s : Submission) → Contains st.subs s → (f s).submitted ≡ s.submitted) → KeepsCounted g
    → KeepsOwners o st → KeepsOwners o (record { surfaces = map g st.surfaces; subs = map f st.subs })
unfolding last_of
owners_stay o f g st same counted h = grind (arith, nat_tests, count_kept, last_map, read_by)

-- One fewer

-- no two that pass stand at two places
abbrev pub OncePasses : (Surface → Bool) → List Surface → Type 0
OncePasses p ss = (n m : ℕ) (s t : Surface) → slice_get ss n ≡ Some s → slice_get ss m ≡ Some t → p s ≡ true → p t ≡ true → n ≡ m

module _ (p nd : Surface → Bool) (h : Surface → Surface) (ends : (c : Surface) → nd (h c) ≡ false) where
  abbrev gone_at : Surface → Surface
  gone_at c = cond (p c) (h c) c

  behind : (c : Surface) (ss : List Surface) → OncePasses p (c ∷ ss) → p c ≡ true → (s : Surface) → Contains ss s → p s ≡ false
  behind c ss once e s q =
      let m = contains_at ss s q in
      elim (p s) as (λ (t : Bool). p s ≡ t → t ≡ false) [
        | true ↦ λ f. let k : 0 ≡ suc m.0 = once 0 (suc m.0) c s refl m.1 e f in absurd (omega (arith, k))
        | false ↦ λ f. refl
      ] refl

  stays_by : (c : Surface) → p c ≡ false → nd (gone_at c) ≡ nd c
  stays_by c e = ap (λ (t : Bool). nd (cond t (h c) c)) e

  pub one_goes : (ss : List Surface) (x : Surface) → OncePasses p ss → find (λ c. p c && nd c) ss ≡ Some x → count_by nd (map gone_at ss) + 1 ≡ count_by nd ss
  one_goes [] x once e = absurd (cc)
  one_goes (c ∷ ss) x once e =
      let later : OncePasses p ss = λ n m s t q r u v. let k : suc n ≡ suc m = once (suc n) (suc m) s t q r u v in omega (arith, k) in
      elim (p c) as (λ (t : Bool). p c ≡ t → cond (t && nd c) (Some c) (find (λ c. p c && nd c) ss) ≡ Some x → count_by nd (map gone_at (c ∷ ss)) + 1 ≡ count_by nd (c ∷ ss)) [
        | true ↦ λ f g.
            let none = behind c ss once f in
            let rest = count_kept nd gone_at ss (λ s q. stays_by s (none s q)) in
            let head : nd (gone_at c) ≡ false = ap (λ (t : Bool). nd (cond t (h c) c)) f ∙ ends c in
            let before = count_cons nd (gone_at c) (map gone_at ss) ∙ ap (λ (t : Bool). cond t 1 0 + count_by nd (map gone_at ss)) head in
            elim (nd c) as (λ (u : Bool). nd c ≡ u → cond u (Some c) (find (λ c. p c && nd c) ss) ≡ Some x → count_by nd (map gone_at (c ∷ ss)) + 1 ≡ count_by nd (c ∷ ss)) [
              | true ↦ λ k l.
                  let after = count_cons nd c ss ∙ ap (λ (t : Bool). cond t 1 0 + count_by nd ss) k in
                  omega (arith, before, after, rest)
              | false ↦ λ k l.
                  let no_way : ◌≡◌ {A = Option Surface} None (Some x) = sym (find_none (λ c. p c && nd c) ss (λ s q. ap (λ b. b && nd s) (none s q))) ∙ l in
                  absurd (cc)
            ] refl g
        | false ↦ λ f g.
            let rest = one_goes ss x later g in
            let before = count_cons nd (gone_at c) (map gone_at ss) ∙ ap (λ (t : Bool). cond t 1 0 + count_by nd (map gone_at ss)) (stays_by c f) in
            let after = count_cons nd c ss in
            omega (arith, before, after, rest)
      ] refl e
