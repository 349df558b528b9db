-- Each step keeps the rule.
use Rattle.std.proofs.Common.{◌≡◌, ◌≢◌, ℕ, zero, suc, true, false, true≢false, ◌⊎◌, List, [], ◌∷◌, ◌++◌, length, set, sym, refl, ap, ◌∙◌, subst, inl, inr, ⊎_elim, append_assoc, append-nil}
use mathlib.Core.Option.{some, some-ne-none}
use lib.ListN.{get_elem?}
use Rattle.crossbeam_channel.specs.Fifo.{Pushes, Pops, Forks, Merges, Learns}
use Rattle.atomic_table.proofs.Lists.{at_set, at_snoc}
use Rattle.vz_pipe.specs.declared.parcel.Parcel.{Parcel}
use Rattle.vz_pipe.specs.declared.view.View.{View}
use Rattle.vz_pipe.specs.Rule.{has_end, IsSealed, note, sending, taking, both, spent, Fits, Ordered, puts, Gets, told}
use Rattle.vz_pipe.proofs.Parcels.{nothing_more, sealed_more, sealed_last, unmarked_before}

module _ {T : Type 0} where
  at_end : (l : List (View T)) (a b : View T) (j : ℕ) → get_elem? l j ≢ some b → get_elem? (l ++ a ∷ []) j ≡ some b → j ≡ length l
  at_end [] a b zero n e = refl
  at_end [] a b (suc j) n e = absurd (some-ne-none b (sym e))
  at_end (x ∷ xs) a b zero n e = absurd (n e)
  at_end (x ∷ xs) a b (suc j) n e = ap suc (at_end xs a b j n e)

  abbrev Each : (ℕ → View T → Type 0) → List (View T) → Type 0
  Each F views = (pass : ℕ) (v : View T) → get_elem? views pass ≡ some v → F pass v

  each_set : (F : ℕ → View T → Type 0) (views : List (View T)) (pass : ℕ) (w : View T) → F pass w → ((j : ℕ) (u : View T) → j ≢ pass → get_elem? views j ≡ some u → F j u) → Each F (set views pass w)
  each_set F views pass w mine others j u e = ⊎_elim (λ (x : (j ≡ pass) × (w ≡ u)). subst (λ (y : ℕ × View T). F y.0 y.1) (λ i. (sym x.0 i, x.1 i)) mine)
      (λ (x : (j ≢ pass) × (get_elem? views j ≡ some u)). others j u x.0 x.1) (at_set views pass j w u e)

  pub begins : Ordered {T = T} [] (both [] [] [] [] ∷ [])
  begins = record {
    sender = 0;
    receiver = 0;
    put = [];
    got = [];
    given = [];
    order = refl;
    sealed = tt;
    beside = inl refl;
    fit = each_set (Fits 0 0 [] [] []) (both [] [] [] [] ∷ []) 0 (both [] [] [] []) ((λ _. (refl, refl, refl)), λ _. (refl, refl, refl)) (λ j u other e. absurd (other (at_end [] _ u j (λ x. some-ne-none u (sym x)) e)));
  }

  pub puts_one : (n pass : ℕ) (v : View T) (p : Parcel T) → v.sends ≡ true → v.gave ≡ [] → has_end v.put ≡ false → Pushes Ordered n pass v p (puts v p)
  puts_one n pass v p may none unmarked items views _ h at =
      let w : View T = note v.sends v.takes (v.put ++ p ∷ []) v.got v.gave v.had in
      let mine = h.fit pass v at in
      let m = mine.0 may in
      let put = h.put ++ p ∷ [] in (
        w,
        record {
          sender = h.sender;
          receiver = h.receiver;
          put = put;
          got = h.got;
          given = h.given;
          order = ap (λ l. l ++ p ∷ []) h.order ∙ append_assoc h.got items (p ∷ []);
          sealed = sealed_more h.put p (ap has_end (sym m.1) ∙ unmarked) h.sealed;
          beside = inl (sym m.2 ∙ none);
          fit = each_set (Fits h.sender h.receiver put h.got h.given) views pass w ((λ _. (m.0, ap (λ l. l ++ p ∷ []) m.1, m.2)), mine.1)
              (λ j u other e. ((λ q. absurd (other (((h.fit j u e).0 q).0 ∙ sym m.0))), (h.fit j u e).1));
        },
        refl,
      )

  pub gets_one : (pass : ℕ) (v : View T) → v.takes ≡ true → Pops Ordered pass v (Gets v)
  gets_one pass v may p items views h at =
      let w : View T = note v.sends v.takes v.put (v.got ++ p ∷ []) v.gave v.had in
      let mine = h.fit pass v at in
      let m = mine.1 may in
      let got = h.got ++ p ∷ [] in
      let order : h.put ≡ got ++ items = h.order ∙ sym (append_assoc h.got (p ∷ []) items) in
      let sealed : IsSealed (h.got ++ p ∷ items) = subst IsSealed h.order h.sealed in
      let none : h.given ≡ [] = ⊎_elim (λ (e : h.given ≡ []). e) (λ (e : p ∷ items ≡ []). cc) h.beside in
      let whole : v.sends ≡ true → v.put ≡ (v.got ++ p ∷ []) ++ items = λ s. (mine.0 s).1 ∙ order ∙ ap (λ l. (l ++ p ∷ []) ++ items) (sym m.1) in (
        w,
        record {
          sender = h.sender;
          receiver = h.receiver;
          put = h.put;
          got = got;
          given = h.given;
          order = order;
          sealed = h.sealed;
          beside = inl none;
          fit = each_set (Fits h.sender h.receiver h.put got h.given) views pass w (mine.0, λ _. (m.0, ap (λ l. l ++ p ∷ []) m.1, m.2))
              (λ j u other e. ((h.fit j u e).0, λ q. absurd (other (((h.fit j u e).1 q).0 ∙ sym m.0))));
        },
        record {
          got = refl;
          none = m.2 ∙ none;
          unmarked = ap has_end m.1 ∙ unmarked_before h.got p items sealed;
          agreed = λ s. (mine.0 s).2 ∙ sym m.2;
          in_order = λ s. (items, sym (whole s));
          last = λ s e. whole s ∙ ap (λ l. (v.got ++ p ∷ []) ++ l) (sealed_last h.got p items e sealed) ∙ append-nil (v.got ++ p ∷ []);
        },
      )

  pub told_one : (pass : ℕ) (v : View T) → v.takes ≡ true → Learns Ordered pass v (told v)
  told_one pass v may items views h at = λ s. let mine = h.fit pass v at in let m = mine.1 may in
      ((mine.0 s).1 ∙ h.order ∙ ap (λ l. l ++ items) (sym m.1), (mine.0 s).2 ∙ sym m.2, ⊎_elim (λ (e : h.given ≡ []). inl (m.2 ∙ e)) inr h.beside)

  -- a pass of both sides is cut in two, and the frames that were given are now these
  cuts : (pass : ℕ) (v : View T) (given gave had : List T) (items : List (Parcel T)) (views : List (View T)) → v.sends ≡ true → v.takes ≡ true → (h : Ordered items views) → get_elem? views pass ≡ some v
      → gave ≡ given → had ≡ given → (given ≡ []) ⊎ (items ≡ []) → Ordered items (set views pass (sending v.put gave) ++ taking v.got had ∷ [])
  cuts pass v given gave had items views a b h at one two beside = let l : View T = sending v.put gave in let r : View T = taking v.got had in let mine = h.fit pass v at in let vs : List (View T) = set views pass l in
      let Old : ℕ → View T → Type 0 = λ j u. (u.sends ≡ true → (j ≡ h.sender) × (u.put ≡ h.put) × (u.gave ≡ given)) × (u.takes ≢ true) in
      let old : Each Old vs = each_set Old views pass l ((λ _. ((mine.0 a).0, (mine.0 a).1, one)), λ q. true≢false (sym q))
      (λ j u other e. ((λ q. absurd (other (((h.fit j u e).0 q).0 ∙ sym (mine.0 a).0))), λ q. other (((h.fit j u e).1 q).0 ∙ sym (mine.1 b).0))) in record {
        sender = h.sender;
        receiver = length vs;
        put = h.put;
        got = h.got;
        given = given;
        order = h.order;
        sealed = h.sealed;
        beside = beside;
        fit = λ j u e. ⊎_elim (λ (x : get_elem? vs j ≡ some u). ((old j u x).0, λ q. absurd ((old j u x).1 q)))
            (λ (is : r ≡ u). (
              (λ q. absurd (true≢false (sym (ap (λ (y : View T). y.sends) is ∙ q)))),
              λ q.
                  (at_end vs r u j (λ x. (old j u x).1 q) e, ap (λ (y : View T). y.got) (sym is) ∙ (mine.1 b).1, ap (λ (y : View T). y.had) (sym is) ∙ two),
            )) (at_snoc vs r u j e);
      }

  pub parts : (pass : ℕ) (v : View T) → v.sends ≡ true → v.takes ≡ true → Forks Ordered pass v (sending v.put v.gave) (taking v.got v.had)
  parts pass v a b items views h at = cuts pass v h.given v.gave v.had items views a b h at ((h.fit pass v at).0 a).2 ((h.fit pass v at).1 b).2 h.beside

  pub gives : (pass : ℕ) (v : View T) (xs : List T) → v.sends ≡ true → v.takes ≡ true → v.put ≡ v.got → Forks Ordered pass v (sending v.put (v.gave ++ xs)) (taking v.got (v.had ++ xs))
  gives pass v xs a b empty items views h at = let s = (h.fit pass v at).0 a in let t = (h.fit pass v at).1 b in
      cuts pass v (h.given ++ xs) (v.gave ++ xs) (v.had ++ xs) items views a b h at (ap (λ l. l ++ xs) s.2) (ap (λ l. l ++ xs) t.2) (inr (nothing_more h.got items (sym t.1 ∙ sym empty ∙ s.1 ∙ h.order)))

  -- what the receiver's pass knows goes to a new pass
  pub moves : (pass : ℕ) (v : View T) → v.sends ≡ false → v.takes ≡ true → Forks Ordered pass v spent v
  moves pass v a b items views h at = let m = (h.fit pass v at).1 b in let vs : List (View T) = set views pass spent in
      let Old : ℕ → View T → Type 0 = λ j u. (u.sends ≡ true → (j ≡ h.sender) × (u.put ≡ h.put) × (u.gave ≡ h.given)) × (u.takes ≢ true) in
      let old : Each Old vs = each_set Old views pass spent ((λ q. absurd (true≢false (sym q))), λ q. true≢false (sym q)) (λ j u other e. ((h.fit j u e).0, λ q. other (((h.fit j u e).1 q).0 ∙ sym m.0))) in record {
        sender = h.sender;
        receiver = length vs;
        put = h.put;
        got = h.got;
        given = h.given;
        order = h.order;
        sealed = h.sealed;
        beside = h.beside;
        fit = λ j u e. ⊎_elim (λ (x : get_elem? vs j ≡ some u). ((old j u x).0, λ q. absurd ((old j u x).1 q)))
            (λ (is : v ≡ u). (
              (λ q. absurd (true≢false (sym q ∙ ap (λ (y : View T). y.sends) (sym is) ∙ a))),
              λ q.
                  (at_end vs v u j (λ x. (old j u x).1 q) e, ap (λ (y : View T). y.got) (sym is) ∙ m.1, ap (λ (y : View T). y.had) (sym is) ∙ m.2),
            )) (at_snoc vs v u j e);
      }

  -- the two sides are joined
  pub joins : (pass : ℕ) (v : View T) (other : ℕ) (u : View T) → v.sends ≡ true → u.takes ≡ true → Merges Ordered pass v other u (both v.put u.got v.gave u.had) spent
  joins pass v other u a b items views h at two at' = let one : View T = both v.put u.got v.gave u.had in let mine = h.fit pass v at in let vs : List (View T) = set views pass one in
      let was : get_elem? views other ≡ some u = ⊎_elim (λ (x : (other ≡ pass) × (one ≡ u)). absurd (two x.0)) (λ (x : (other ≢ pass) × (get_elem? views other ≡ some u)). x.1) (at_set views pass other one u at') in
      let theirs = (h.fit other u was).1 b in
      let Now : ℕ → View T → Type 0 = λ j y. j ≢ other → Fits h.sender pass h.put h.got h.given j y in
      let now : Each Now vs = each_set Now views pass one (λ _. ((λ _. mine.0 a), λ _. (refl, theirs.1, theirs.2))) (λ j y _ e apart. ((h.fit j y e).0, λ q. absurd (apart (((h.fit j y e).1 q).0 ∙ sym theirs.0)))) in record {
        sender = h.sender;
        receiver = pass;
        put = h.put;
        got = h.got;
        given = h.given;
        order = h.order;
        sealed = h.sealed;
        beside = h.beside;
        fit = each_set (Fits h.sender pass h.put h.got h.given) vs other spent ((λ q. absurd (true≢false (sym q))), λ q. absurd (true≢false (sym q))) (λ j y apart e. now j y e apart);
      }
