-- `bytes_of` shares the four bytes of each pixel.
use Rattle.std.proofs.Common.{◌≡◌, ℕ, ◌+◌, ◌*◌, ◌<◌, ◌^◌, List, [], ◌∷◌, length, refl, sym, arith, add-zero}
use seplogic.Ra.Ura.{Ura}
use mir.Syntax.{named}
use mir.Val.{Val}
use base.Logic.{ent}
use base.Fml.{Lft, Fml, ftrue, flft}
use types.Logic.{Logic, sem}
use types.Kit.{‵, ◌⊛◌, raw, at_ret, ◌$◌, ◌∵◌, !, qed, move, keep, drop, use1, split, rewrite, fsplit, fjoin, feq_i, flt_i, suffices, frame, done}
use types.Part.{whole, sub, agg}
use types.Run.{stop, fld, hop, from, addr, bin, lit, of_opd, and_then, no_more, first, blocks, exec, returns, enter}
use types.ByLocal.{alloc_all, pass_all, free_all, look_at, look_in_at, get, get_in, sets, sets_last, env}
use contract.Running.{tables}
use denote.Builtin.{u8}
use denote.Exit.{yes}
use denote.Memory.{each_shared, shared_of}
use denote.Opens.{unhide, hide}
use denote.RattleType.{owns}
use denote.Signature.{plain, shr_slice_of, types_at}
use denote.Slice.{slice_val, shr_slice_vals, shr_slice_Tells}
use denote.Steps.{nothing}
use denote.Triple.Walked.{Stays, stay_dropped, walk_of, says, ends_at, Goes-dropped}
use Rattle.std.specs.List.{flat_map}
use Rattle.std.proofs.raw_atomic.Walks.{proved}
use Rattle.vz_pixels.specs.Colour.{Colour, colour_bytes}
use Rattle.vz_pixels.specs.contracts.pixel.Pixel.{the_row}
use Rattle.vz_pixels.specs.contracts.in_memory.bytes_of as f
use Rattle.vz_pixels.proofs.in_memory.bytes_of.Statement.{statement}
use Rattle.vz_pixels.proofs.in_memory.bytes_of.Code as code

-- four bytes a colour
four : (cs : List Colour) → length (flat_map colour_bytes cs) ≡ length cs * 4
four [] = refl
four (c ∷ cs) = let e = four cs in omega arith

module _ (κ : Lft) (b : ℕ) where
  -- colours that lie side by side from this offset on, and numbers that do
  abbrev pixels : List Colour → ℕ → Fml
  pixels cs o = each_shared cs (shared_of the_row) 4 b o κ

  abbrev bytes : List ℕ → ℕ → Fml
  bytes ns o = each_shared ns (shared_of u8) 1 b o κ

  -- pixels side by side are their bytes side by side
  flat : {M : Type 1} {𝓤 : Ura M} (𝓛 : Logic 𝓤) (cs : List Colour) (o : ℕ) → ent 𝓤 (sem 𝓛 (pixels cs o)) (sem 𝓛 (bytes (flat_map colour_bytes cs) o))
  flat 𝓛 [] o = qed 𝓛 (‵ (pixels [] o) ∷ []) ∵ done !
  flat 𝓛 (c ∷ cs) o =
      let others : List ℕ = flat_map colour_bytes cs in
      let two : o + 2 ≡ o + 1 + 1 = omega arith in let three : o + 3 ≡ o + 1 + 1 + 1 = omega arith in let next : o + 4 ≡ o + 1 + 1 + 1 + 1 = omega arith in
      -- [the pixel's bytes; what is left of its place; its invariant; the other pixels]
      qed 𝓛 (‵ (pixels (c ∷ cs) o) ∷ []) ∵ fsplit ! $ fsplit ! $ fsplit ! $ keep ! (3 ∷ 0 ∷ []) $
      use1 𝓛 (‵ (bytes others (o + 4))) (flat 𝓛 cs (o + 4)) $ rewrite ! 0 (λ (p : ℕ). ‵ (bytes others p)) next refl $ move ! (1 ∷ []) $
      fsplit ! $ rewrite ! 0 (λ (p : ℕ). ‵ (shared_of u8 c.r b p κ)) (add-zero o) refl $ frame ! $
      fsplit ! $ frame ! $
      fsplit ! $ rewrite ! 0 (λ (p : ℕ). ‵ (shared_of u8 c.b b p κ)) two refl $ frame ! $
      fsplit ! $ rewrite ! 0 (λ (p : ℕ). ‵ (shared_of u8 c.a b p κ)) three refl $ frame ! $ drop ! $ done !

abbrev stayed : Stays f.ended.signature.params f.ended.kept
stayed = (stay_dropped _ yes, tt)

pub bytes_of_spec : {M : Type 1} → statement M
bytes_of_spec 𝓤 𝓛 𝓜 𝓡 wired =
    let c = f.clauses 𝓛 𝓜.mem 𝓡.returns in let W = walk_of 𝓛 f.ended stayed c in let 𝓣 = tables 𝓤 𝓛.H 𝓜 𝓡 𝓡.env in
    proved 𝓛 f.ended stayed c 𝓜 𝓡 (Goes-dropped 𝓛 1 (shr_slice_of (0 ∷ []) tt (plain (λ _. the_row))) yes (λ κs x w. refl), tt)
    f.Key.name code.function (code.unfolded 𝓤 𝓛.H 𝓜 𝓡 wired)
    (λ κs. (shr_slice_vals, tt)) (λ κs. (shr_slice_Tells (named 0) κs.0 the_row, tt)) (λ κs qs bounds a g are.
    let x = a.0 in let b : ℕ = x.ref_ptr.0 in let o : ℕ = x.ref_ptr.1 in let cs : List Colour = x.now in let k : ℕ = length cs * 4 in
    let y : W.Ghost = ((κs, qs, bounds, a, (shr_slice_vals x, tt)), g) in
    let rm = are.0.0.1 in let zs : List ℕ = flat_map colour_bytes cs in
    let small : k < 2 ^ 63 = rm.1 in let fk : k < 2 ^ 64 = omega arith in let many : length zs ≡ k = four cs in
    qed 𝓛 (((‵ (flft κs.0 qs.0) ⊛ ‵ ftrue) ⊛ ‵ (owns (types_at f.ended.signature.params κs) a y.0.4)) ∷ raw ((c κs a).requires g) ∷ []) ∵ split ! $
    enter ! _ _ _ _ _ $ alloc_all ! (λ l. pass_all ! refl ((tt, (tt, (record { fits = rm.0 }, tt))), tt) $
    sets ! (of_opd ! (get_in ! (fld ! refl (stop !)) (sub ! 1 refl (whole !)))) refl (tt, record { fits = rm.0 }) $
    sets ! (bin ! (get ! refl) (lit ! tt) (record { fits = fk })) refl (tt, record { fits = fk }) $
    first ! $ blocks ! $
    sets ! (addr ! (from ! (fld ! refl (hop ! (look_in_at ! 1 (sub ! 0 refl (whole !))) (stop !))))) refl (tt, tt) $
    sets_last ! (agg ! (and_then ! (get ! refl) (and_then ! (get ! refl) (no_more !)))) refl (tt, (tt, (record { fits = fk }, tt))) $
    exec ! 𝓣.C 𝓣.Λ (env code.Mir.locals l) code.Mir.t-4 (at_ret _ (W.post y)) $
    sets ! (of_opd ! (get ! refl)) refl (tt, (tt, (record { fits = fk }, tt))) $
    move ! (1 ∷ []) $ fsplit ! $ fsplit ! $ drop ! $ unhide ! $
    use1 𝓛 (‵ (bytes κs.0 b zs o)) (flat κs.0 b 𝓛 cs o) $ hide ! $
    returns ! (look_at ! 0 refl) $ free_all ! refl $ keep ! (2 ∷ 0 ∷ []) $
    suffices ! _ (ends_at 𝓛 f.ended stayed c y (slice_val (b, o) k) (record { ref_ptr = (b, o); now = zs }) (tt, tt) (tt, tt)) $ says ! refl $
    frame ! $ nothing ! $ nothing ! $ fjoin ! $ frame ! $
    flt_i ! (length zs * 1) (2 ^ 63) (omega arith) $ flt_i ! (length zs) (2 ^ 64) (omega arith) $ fjoin ! $
    feq_i ! (List Val) (slice_val (b, o) k ∷ []) (slice_val (b, o) (length zs) ∷ []) (λ i. slice_val (b, o) (sym many i) ∷ []) $ fjoin ! $ fjoin ! $ done !))
