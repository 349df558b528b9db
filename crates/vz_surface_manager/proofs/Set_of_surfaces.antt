-- Surfaces are put into a set.
use Rattle.std.proofs.Common.{◌≡◌, ℕ, ◌+◌, ◌<◌, Bool, false, ◌||◌, List, [], ◌∷◌, length, take, slice_index_or, ap, sym, ◌∙◌, arith}
use Rattle.std.proofs.Common.{subst, Result, Ok, IfOk}
use Rattle.std.proofs.{lemmas.List.Folds.list_any_more, lemmas.Bool.Decides.nat_tests}
use Rattle.indexmap.specs.IndexSet.{insert_key}
use Rattle.vz_ids.specs.{declared.SurfaceId.SurfaceId, Ids.same_surface, contracts.SurfaceIdPartialEq.TheImpl.eq-value as surface_eq}
use Rattle.vz_rules.specs.Reach.{has_id}
use Rattle.vz_rules.proofs.{Marking.adding_has, Reached.from_same, Reached.self_same}
use Rattle.vz_refs.proofs.Keyed.{surfaces}

-- the fact of an answer that is Ok
pub got : {A E : Type 0} (r : Result A E) (x : A) (P : A → Type 0) → r ≡ Ok x → IfOk r P → P x
got r x P e h = subst (λ (q : Result _ _). IfOk q P) e h

others : (a b s : Bool) → ((a || b) || (s || false)) ≡ ((a || s) || b)
others a b s = grind (arith, nat_tests)

pub inserted : (ids : List SurfaceId) (k : ℕ) (d : SurfaceId) (first old new : List SurfaceId) (q : SurfaceId) → k < length ids
    → has_id old q ≡ (has_id (take k ids) q || has_id first q) → new ≡ insert_key surface_eq.it old (slice_index_or ids k d)
    → has_id new q ≡ (has_id (take (k + 1) ids) q || has_id first q)
inserted ids k d first old new q inside before put =
    let v = slice_index_or ids k d in
    ap (λ l. has_id l q) (put ∙ ap (λ eq. insert_key eq old v) surfaces)
    ∙ (adding_has same_surface from_same self_same (v ∷ []) old q
    ∙ (ap (λ t. t || (same_surface q v || false)) before
    ∙ (others (has_id (take k ids) q) (has_id first q) (same_surface q v)
    ∙ ap (λ t. t || has_id first q) (sym (list_any_more (same_surface q) ids k d inside)))))
